-- `history::events::body_word` meets its contract, by cases on the sign. Assumes nothing.
use Rattle.history.proofs.EventLaws.{word_plus, word_minus}
use Prim.Native.Nat.{◌*◌}
use Rattle.history.proofs.events.body_word.Goals as goal

pub returns-then-sign-eq1 : goal.returns-then-sign-eq1
returns-then-sign-eq1 c = word_plus (4 * c.args.tag) c.args.sign c.requires c.if-sign-eq1.true

pub returns-else-sign-eq1 : goal.returns-else-sign-eq1
returns-else-sign-eq1 c = word_minus (4 * c.args.tag) c.args.sign c.requires c.if-sign-eq1.false
