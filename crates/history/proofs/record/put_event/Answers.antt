-- `history::record::put_event` meets its contract: what `note` and `put_label` write is the new event (`Put` of StoreLaws). Assumes nothing.
use Prim.Native.Nat.{ℕ, ◌+◌, ◌*◌, ◌^◌, ◌<◌}
use lib.IntN.{ℤ}
use Rattle.model.specs.Demands.{IsSign}
use Rattle.pauli.proofs.Signs.{bits8_sign}
use Rattle.history.specs.Words.{code}
use Rattle.history.specs.Recordings.{SignedBody, Noted}
use mathlib.Core.Path.{◌≡◌, ap, subst, ◌∙◌}
use Rattle.history.specs.Readings.{body_of}
use Rattle.history.proofs.StoreLaws.{Put-blocker, Put-rotation, stored}
use native.Mathlib.Omega.{arith}
use Rattle.history.proofs.record.put_event.Goals as goal
use Rattle.history.proofs.record.put_event.Goals.{In-Rotation}

-- a tag is a number of 32 bits
few : (c : In-Rotation) →
    c.in-Rotation.tag < 2 ^ 32
few c = omega arith

pub returns-in-Blocker-clause-stored : goal.returns-in-Blocker-clause-stored
unfolding body_of
returns-in-Blocker-clause-stored c =
    let n = c.note.ensures in
    λ es e held count f. stored _ _ _ es e _ _ count (omega arith) f.live
    (Put-blocker _ _ _ _ _ _ _ e (omega arith) (omega arith) f.live (f.is ∙ ap body_of c.in-Blocker.is) f.x f.z f.sig_is n) held

pub returns-in-Rotation-clause-stored : goal.returns-in-Rotation-clause-stored
unfolding body_of
returns-in-Rotation-clause-stored c =
    let a = c.args in
    let z = a.layout.now in
    let n = c.note-in-Rotation in
    let w = c.body_word in
    let p = c.put_label in
    let q : IsSign c.in-Rotation.sign = subst SignedBody c.in-Rotation.is c.requires.4 in
    let word : w.result ≡ 4 * c.in-Rotation.tag + code c.in-Rotation.sign = w.ensures ∙ ap (λ (s : ℤ). 4 * c.in-Rotation.tag + code s) (bits8_sign c.in-Rotation.sign q) in
    λ es e held count f. stored _ _ _ es e _ _ count (omega arith) f.live
    (Put-rotation a.h.now n.new.h p.new.h a.axis.now z.l z.cap a.id a.sig c.in-Rotation.tag c.in-Rotation.sign c.in-Rotation.high c.in-Rotation.low e (omega arith) (omega arith) c.requires.3 f.live
    (f.is ∙ ap body_of c.in-Rotation.is) (few (goal.at.returns-in-Rotation-clause-stored c).In-Rotation) f.x f.z f.sig_is
    (subst (λ (y : ℕ). Noted a.h.now z.l z.cap a.id a.axis.now a.sig y n.new.h) word n.ensures)
    p.ensures) held
