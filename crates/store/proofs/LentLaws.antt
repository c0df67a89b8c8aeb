-- The parts of a store as the code lends them, at the sizes that a call was told: `&s[14..at]` the frames, `&s[at..end]` the history; and the slice when
-- the history's part is back. Assumes nothing.
use mathlib.Core.Path.{◌≡◌, sym, ap, ap₂, ◌∙◌, subst}
use mathlib.Core.List.{List}
use Prim.Native.Nat.{ℕ, ◌+◌, ◌-◌, ◌≤◌}
use native.Mathlib.Omega.{arith}
use lib.ListN.{length, take, drop, replicate, length-replicate}
use lib.Seq.{length-take-le}
use Rattle.model.specs.Events.{State}
use Rattle.model.proofs.Good.{Good}
use Rattle.frame.specs.Places as frames
use Rattle.history.specs.Words.{history_room, count_place, Holds, Sane, Becomes}
use Rattle.history.specs.Sizes as history
use Rattle.history.specs.Sizes.{form_of}
use Rattle.history.proofs.StayLaws.{counts_there}
use Rattle.history.proofs.Theorems.{Good-Sane}
use Rattle.store.specs.declared.header.Sizes.{Sizes}
use Rattle.store.specs.Stores.{frame_size, history_place, Stored, Held}
use Rattle.store.specs.Checks.{Fit}
use Rattle.store.proofs.Splice.{splice, part_length, splice-length, splice_same}
use Rattle.store.proofs.SizeLaws.{Own, own, Fit-Sized, frame_small, Framing-planes}
use Rattle.store.proofs.StoreLaws.{history_part, frames_at, history_at}
use Rattle.store.proofs.MeetLaws.{Reached-Good}

pub Held-Good : (m : State) (s : List ℕ) → Held m s → Good m
Held-Good m s h = Reached-Good m h.reached

pub Held-Sane : (m : State) (s : List ℕ) → Held m s → Sane m
Held-Sane m s h = Good-Sane m (Held-Good m s h)

-- the history's part, `&s[at..end]`
abbrev pub lent : Sizes → List ℕ → List ℕ
lent z s = take (z.end - z.at) (drop z.at s)

-- the frames' part, `&s[14..at]`
abbrev pub lent_frames : Sizes → List ℕ → List ℕ
lent_frames z s = take (z.at - 14) (drop 14 s)

-- the whole slice when its history's part came back as ys
abbrev pub back : Sizes → List ℕ → List ℕ → List ℕ
back z s ys = splice z.at (z.end - z.at) s ys

module _ (z : Sizes) (s : List ℕ) (fit : Fit z s) where
  pub room_is : z.end - z.at ≡ history_room (form_of z.form) z.n z.cap z.l
  room_is = omega (arith, fit.begins, fit.ends)

  pub frames_size : z.at - 14 ≡ frame_size z.n z.l
  frames_size = omega (arith, fit.begins)

  -- where the parts lie
  pub at_small : z.at ≤ 33686286
  at_small = omega (arith, fit.begins, fit.framing.few, frame_small z.n z.l fit.framing.few (Framing-planes z.n z.l s fit.framing))

  pub at_before : z.at ≤ z.end
  at_before = omega (arith, fit.begins, fit.ends)

  pub planes_small : z.l ≤ 362
  planes_small = Framing-planes z.n z.l s fit.framing

  pub there : z.at + (z.end - z.at) ≤ length s
  there = omega (arith, at_before, fit.fits)

  pub lent_length : length (lent z s) ≡ z.end - z.at
  lent_length = part_length z.at (z.end - z.at) s there

  pub lent-Sized : history.Sized (form_of z.form) z.n z.cap z.l (lent z s)
  lent-Sized = Fit-Sized z s (lent z s) fit (lent_length ∙ room_is)

  pub lent_counts : count_place z.cap z.l ≤ length (lent z s)
  lent_counts = counts_there (form_of z.form) z.n z.cap z.l (lent z s) lent-Sized

  pub lent_is : lent z s ≡ history_part (form_of z.form) z.n z.cap z.l s
  lent_is = ap₂ (λ (a k : ℕ). take k (drop a s)) fit.begins room_is

  -- what they hold
  pub lent-Holds : (m : State) → Stored m s → Holds (form_of z.form) z.n z.cap z.l m (lent z s)
  lent-Holds m h =
      let o : Own z m = own z m s fit h in
      subst (λ (t : List ℕ). Holds (form_of z.form) z.n z.cap z.l m t) (sym lent_is)
      (history_at (form_of z.form) z.n z.cap z.l m s o.form o.qubits o.capacity o.planes h)

  pub frames-Held : (m : State) → Stored m s → frames.Held z.n z.l m.frame m.sketch (lent_frames z s)
  frames-Held m h =
      let o : Own z m = own z m s fit h in
      subst (λ (k : ℕ). frames.Held z.n z.l m.frame m.sketch (take k (drop 14 s))) (sym frames_size) (frames_at z.n z.l m s o.qubits o.planes h)

-- the history's part came back as ys
module _ (z : Sizes) (s : List ℕ) (fit : Fit z s) (ys : List ℕ) where
  pub back_there : z.at + (z.end - z.at) ≤ length s
  back_there = omega (arith, at_before z s fit, fit.fits)

  pub back-length : length ys ≡ length (lent z s) → length (back z s ys) ≡ length s
  back-length e = splice-length z.at (z.end - z.at) s back_there ys (e ∙ lent_length z s fit)

  pub back_same : ys ≡ lent z s → back z s ys ≡ s
  back_same e = ap (splice z.at (z.end - z.at) s) e ∙ splice_same z.at (z.end - z.at) s

  pub back_place : back z s ys ≡ splice (history_place z.n z.l) (z.end - z.at) s ys
  back_place = ap (λ (a : ℕ). splice a (z.end - z.at) s ys) fit.begins

  pub history_fits : history_place z.n z.l + history_room (form_of z.form) z.n z.cap z.l ≤ length s
  history_fits = omega (arith, fit.ends, fit.fits)

  pub as_history : (m : State) → Becomes (form_of z.form) z.n z.cap z.l m (lent z s) ys
      → Becomes (form_of z.form) z.n z.cap z.l m (history_part (form_of z.form) z.n z.cap z.l s) ys
  as_history m q = subst (λ (t : List ℕ). Becomes (form_of z.form) z.n z.cap z.l m t ys) (lent_is z s fit) q

-- ---- a row of the function's own, of which the first words are lent

abbrev pub zeros : ℕ → List ℕ
zeros n = let o : ℕ = 0 in replicate n o

pub first_zeros : (n k : ℕ) → k ≤ n → length (take k (zeros n)) ≡ k
first_zeros n k h = length-take-le k (zeros n) (omega (arith, h, zeros_length))
  where
    zeros_length : length (zeros n) ≡ n
    zeros_length = length-replicate n _
