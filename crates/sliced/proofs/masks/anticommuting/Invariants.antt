-- `sliced::masks::anticommuting` meets its contract: the words of the first b blocks are both halves. Assumes nothing.
use lib.ListN.{get_or}
use Rattle.sliced.proofs.MaskLaws.{Mixed}
use Rattle.sliced.proofs.masks.anticommuting.Given as goal

abbrev pub invariant-loop-b : goal.invariant-loop-b
invariant-loop-b g l = Mixed (λ k. get_or l.x k 0) g.row.B l.b l.initial.words l.words
