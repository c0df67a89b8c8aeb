-- `pauli::rows::support` meets its contract: what is found so far, with what the words to come give, is the whole. Assumes nothing.
use mathlib.Core.Path.{◌≡◌}
use Prim.Native.Nat.{◌*◌, ◌^◌}
use lib.Bits.{bit_or}
use Rattle.pauli.specs.Rows.{value, blocks}
use Rattle.pauli.proofs.Signatures.{union}
use Rattle.pauli.proofs.rows.support.Given as goal

abbrev pub invariant-loop-j : goal.invariant-loop-j
invariant-loop-j l = bit_or l.sig (blocks l.l (union l.x l.z l.j * 2 ^ (64 * l.j)) 64) ≡ blocks l.l (bit_or (value l.x) (value l.z)) 64
