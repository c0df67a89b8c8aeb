-- `lists::live::LiveSet::has` meets its contract: the part of the words from `at` on is the set. Assumes nothing.
use mathlib.Core.Path.{ap, ◌∙◌}
use native.Mathlib.Omega.{arith}
use Rattle.std.specs.Prelude.{Ok}
use Rattle.lists.proofs.ScalarLaws.{in_words, live_part}
use Rattle.pauli.proofs.Words.{rest_length}
use Rattle.lists.proofs.live.LiveSet.has.Goals as goal

pub contains-requires : goal.contains-requires
contains-requires c =
    let s = c.args.self in
    omega (arith, in_words c.args.id s.events c.if-self-e.false, rest_length c.args.h.now s.at)

pub returns-clause-known : goal.returns-clause-known
returns-clause-known c = λ l. ap Ok (c.contains.ensures ∙ live_part c.args.h.now c.args.self.at c.args.id)
