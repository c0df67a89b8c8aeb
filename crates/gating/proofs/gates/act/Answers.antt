-- `gating::gates::act` meets its contract: each arm's function does the gate that the arm has found. Assumes nothing.
use native.Mathlib.Omega.{arith}
use Rattle.gating.specs.Gates.{gate_of}
use Rattle.gating.proofs.gates.act.Goals as goal

pub gate_h-requires : goal.gate_h-requires
unfolding gate_of
gate_h-requires c = (c.requires.0, rw c.in-H.is at c.requires.1)

pub gate_x-requires : goal.gate_x-requires
unfolding gate_of
gate_x-requires c = (c.requires.0, rw c.in-X.is at c.requires.1)

pub gate_y-requires : goal.gate_y-requires
unfolding gate_of
gate_y-requires c = (c.requires.0, rw c.in-Y.is at c.requires.1)

pub gate_z-requires : goal.gate_z-requires
unfolding gate_of
gate_z-requires c = (c.requires.0, rw c.in-Z.is at c.requires.1)

pub gate_s-requires : goal.gate_s-requires
unfolding gate_of
gate_s-requires c = (c.requires.0, rw c.in-S.is at c.requires.1)

pub gate_sdg-requires : goal.gate_sdg-requires
unfolding gate_of
gate_sdg-requires c = (c.requires.0, rw c.in-Sdg.is at c.requires.1)

pub gate_sx-requires : goal.gate_sx-requires
unfolding gate_of
gate_sx-requires c = (c.requires.0, rw c.in-Sx.is at c.requires.1)

pub gate_cnot-requires : goal.gate_cnot-requires
unfolding gate_of
gate_cnot-requires c =
    let fits = rw c.in-Cnot.is at c.requires.1 in
    (c.requires.0, omega (arith, fits.0, fits.1), omega (arith, fits.0, fits.1), λ e. fits.2 (omega (arith, e)))

pub gate_cz-requires : goal.gate_cz-requires
unfolding gate_of
gate_cz-requires c = let fits = rw c.in-Cz.is at c.requires.1 in (c.requires.0, fits.0, fits.1, fits.2)

pub gate_swap-requires : goal.gate_swap-requires
unfolding gate_of
gate_swap-requires c = let fits = rw c.in-Swap.is at c.requires.1 in (c.requires.0, fits.0, fits.1, fits.2)

pub gate_cy-requires : goal.gate_cy-requires
unfolding gate_of
gate_cy-requires c = let fits = rw c.in-Cy.is at c.requires.1 in (c.requires.0, fits.0, fits.1, fits.2)

pub returns-in-H : goal.returns-in-H
unfolding gate_of
returns-in-H c = rw c.in-H.is c.gate_h.ensures

pub returns-in-X : goal.returns-in-X
unfolding gate_of
returns-in-X c = rw c.in-X.is c.gate_x.ensures

pub returns-in-Y : goal.returns-in-Y
unfolding gate_of
returns-in-Y c = rw c.in-Y.is c.gate_y.ensures

pub returns-in-Z : goal.returns-in-Z
unfolding gate_of
returns-in-Z c = rw c.in-Z.is c.gate_z.ensures

pub returns-in-S : goal.returns-in-S
unfolding gate_of
returns-in-S c = rw c.in-S.is c.gate_s.ensures

pub returns-in-Sdg : goal.returns-in-Sdg
unfolding gate_of
returns-in-Sdg c = rw c.in-Sdg.is c.gate_sdg.ensures

pub returns-in-Sx : goal.returns-in-Sx
unfolding gate_of
returns-in-Sx c = rw c.in-Sx.is c.gate_sx.ensures

pub returns-in-Cnot : goal.returns-in-Cnot
unfolding gate_of
returns-in-Cnot c = rw c.in-Cnot.is c.gate_cnot.ensures

pub returns-in-Cz : goal.returns-in-Cz
unfolding gate_of
returns-in-Cz c = rw c.in-Cz.is c.gate_cz.ensures

pub returns-in-Swap : goal.returns-in-Swap
unfolding gate_of
returns-in-Swap c = rw c.in-Swap.is c.gate_swap.ensures

pub returns-in-Cy : goal.returns-in-Cy
unfolding gate_of
returns-in-Cy c = rw c.in-Cy.is c.gate_cy.ensures
