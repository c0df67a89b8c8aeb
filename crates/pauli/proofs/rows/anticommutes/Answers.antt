-- `pauli::rows::anticommutes` meets its contract. Assumes nothing.
use mathlib.Core.Path.{refl}
use native.Mathlib.Omega.{arith}
use Rattle.std.proofs.lemmas.Bool.{eq-eqb, eqb-true}
use Rattle.pauli.proofs.Signs.{crossed}
use Rattle.pauli.proofs.rows.anticommutes.Goals as goal

pub returns : goal.returns
returns c =
    let e = crossed c.args.a.now c.args.b.now _ _ (omega arith) refl refl in
    (λ t. omega (arith, e, c.crossed_twice.ensures, eqb-true _ _ t), λ h. eq-eqb _ 1 (omega (arith, e, c.crossed_twice.ensures)))
