-- `sliced::sliced::all_live` meets its contract: the numbers before j are of live events. Assumes nothing.
use mathlib.Core.Path.{◌≡◌, sym, ◌∙◌}
use mathlib.Core.Bool.{true}
use Prim.Native.Nat.{◌+◌}
use Rattle.lists.proofs.ScalarLaws.{told, yes_is}
use lib.ListN.{get_or}
use Rattle.lists.specs.Lists.{is_live}
use Rattle.sliced.proofs.RebuildLaws.{one_more}
use Rattle.sliced.proofs.sliced.all_live.Goals as goal

pub loop-j-preserved : goal.loop-j-preserved
loop-j-preserved c =
    one_more (λ i. is_live c.args.h.now c.args.live.at (get_or c.args.h.now (c.args.at + i) 0) ≡ true) c.loop-j.j c.loop-j.invariant
    (told c.args.h.now c.args.live.at c.args.live.events (get_or c.args.h.now (c.args.at + c.loop-j.j) 0) c.has.result c.has.ensures.unknown c.has.ensures.known true
    (yes_is c.has.result (sym c.unwrap_or.ensures ∙ c.if-not-unwrap_or.false))).1
