-- `pauli::rows::signature` meets its contract. Assumes nothing.
use mathlib.Core.Path.{sym, ap₂, ◌∙◌}
use Prim.Native.Nat.{ℕ}
use mathlib.Core.List.{List}
use lib.ListN.{take}
use Rattle.pauli.specs.Rows.{value}
use Rattle.pauli.specs.Rows.{signature, of_row}
use Rattle.pauli.proofs.Words.{front_length, rest_part, x_plane, z_plane}
use native.Mathlib.Omega.{arith}
use Rattle.pauli.proofs.rows.signature.Goals as goal

pub returns : goal.returns
unfolding of_row
returns c =
    let s = c.args.axis.now in
    let l = c.args.l in
    c.support.ensures
    ∙ ap₂ (λ (n : ℕ) (p : List ℕ). signature n (value (take l s)) (value p)) (front_length s l (omega arith)) (rest_part s l)
    ∙ sym (ap₂ (λ (p q : ℕ). signature l p q) (x_plane s l c.requires.0) (z_plane s l c.requires.0))
