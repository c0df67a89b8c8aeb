-- `sliced::masks::gather` meets its contract: the word of each block xor what is gathered over the digits left to do is the whole. Assumes nothing.
use Prim.Native.Nat.{◌+◌, ◌*◌}
use lib.ListN.{get_or}
use Rattle.sliced.proofs.MaskLaws.{Gathering, Mixed}
use Rattle.sliced.proofs.masks.gather.Given as goal

abbrev pub invariant-loop-p : goal.invariant-loop-p
invariant-loop-p g l = Gathering l.masks l.n l.odd l.set g.row.B l.p-iterator.left l.acc

abbrev pub invariant-loop-b : goal.invariant-loop-b
invariant-loop-b g l = Mixed (λ k. get_or l.masks (k * (2 * l.n) + (2 * l.p + l.odd)) 0) g.row.B l.b l.initial.acc l.acc
