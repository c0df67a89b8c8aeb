-- `seeking::looks::sight` meets its contract, by what was seen. Assumes nothing.
use Rattle.model.specs.Pauli.{sign}
use Rattle.store.specs.Promises.{told_look}
use Rattle.seeking.proofs.SeekLaws.{sight_Found, other_seen}
use Rattle.seeking.proofs.looks.sight.Goals as goal

pub returns-in-Partner : goal.returns-in-Partner
returns-in-Partner c = λ l p long row s t.
    sight_Found c.args.seen c.in-Partner.id c.in-Partner.sign (sign p) (told_look c.relative.result) c.in-Partner.is t (c.relative.ensures l p long row s)

pub returns-in_default : goal.returns-in_default
returns-in_default c = λ l p long row s t. other_seen (sign p) c.args.seen c.in_default.not-Partner
