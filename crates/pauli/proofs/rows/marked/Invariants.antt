-- `pauli::rows::marked` meets its contract: what is found so far, with what is left of the word, is the whole. Assumes nothing.
use mathlib.Core.Path.{◌≡◌}
use Prim.Native.Nat.{ℕ, ◌<◌, ◌^◌}
use lib.Bits.{bit_or}
use Rattle.pauli.specs.Rows.{blocks, left}
use Rattle.pauli.proofs.rows.marked.Given as goal

abbrev pub invariant-loop-p : goal.invariant-loop-p
invariant-loop-p l =
    (l.p-iterator.left < 2 ^ 64) × ((u : ℕ) → bit_or l.sum (blocks l.l (left u l.j l.p-iterator.left) 64) ≡ bit_or l.sig (blocks l.l (left u l.j l.w) 64))
