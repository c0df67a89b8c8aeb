-- What the bytes of a block lead to. Assumes nothing.
use Prim.Native.Nat.{ℕ, suc, ◌+◌, ◌-◌, ◌*◌, ◌^◌, ◌≤◌, ◌<◌}
use mathlib.Core.Path.{◌≡◌, refl, sym, ap, ap₂, ◌∙◌, subst}
use mathlib.Core.Bool.{Bool, true, false, cond}
use mathlib.Core.List.{List, [], ◌∷◌, ◌++◌, append_assoc, append-nil}
use native.Mathlib.Omega.{arith}
use native.Mathlib.Numerals.{add-one}
use borrow.Author.Tests.{eq-eqb, ne_eqb}
use types.Run.{miss}
use lib.Dec.{eqb}
use lib.ListN.{length, take, drop, get_or, length-drop, drop_of_length-le}
use lib.Seq.{length-take-le, take_all, take-append-add, drop-append-add, drop-cons, drop-drop}
use Rattle.store.proofs.Splice.{splice, part_length, splice-length}
use Rattle.model.specs.Events.{State}
use Rattle.text.specs.Spoken.{Saying, bad, end, spoken}
use Rattle.text.specs.Wrote.{Wrote}
use Rattle.session.specs.Session.{Next, on, stop, Place, heard, saying, and_then, ran, finished, last_saying}
use Rattle.session.specs.Desk.{stage_of, Means, place_of, Sized, Hears, Fits, Plays, Runs, closing, last_of, Lasts}
use Rattle.session.specs.declared.stages.Stage as code
use Rattle.session.specs.declared.stages.Stage.TheVariants as at
use Rattle.session.specs.declared.stages.Talk.{Talk}
use Rattle.session.specs.declared.stages.Ran.{Ran}
use Rattle.session.specs.declared.stages.Ran.TheVariants as runs
use Rattle.session.proofs.Telling.{At}
use Rattle.session.specs.declared.run.Unfit.{Unfit}
use Rattle.std.specs.Prelude.{Ok, Err}

-- i bytes of the input are heard, and `at` bytes are said
pub record Played (from : Talk) (input buf₀ ls₀ store₀ out₀ buf ls store out : List ℕ) (t : Talk) (at i : ℕ) : Type 0 where
  pub fits : Fits from input buf₀ ls₀ store₀ out₀
  pub sized : Sized t buf ls store
  pub inside : i ≤ length input
  pub room : at ≤ 128 * i
  pub lines : t.line ≤ from.line + i
  pub same_length : length out ≡ length out₀
  pub rest : drop at out ≡ drop at out₀
  pub is : (m : State) → Means from.stage store₀ m
      → (m' : State) × Means t.stage store m' × (ran (place_of from buf₀ ls₀ m) input ≡ saying (take at out) (ran (place_of t buf ls m') (drop i input)))

-- ---- texts behind each other

pub saying_none : (x : Next Place) → saying [] x ≡ x
saying_none (on p t) = refl
saying_none (stop t) = refl

pub saying_both : (s t : List ℕ) (x : Next Place) → saying s (saying t x) ≡ saying (s ++ t) x
saying_both s t (on p u) = ap (on p) (sym (append_assoc s t u))
saying_both s t (stop u) = ap stop (sym (append_assoc s t u))

-- the part of out behind the first `at` bytes came back as ys
module _ (at : ℕ) (out ys : List ℕ) (there : at ≤ length out) (long : length ys ≡ length (take (length out - at) (drop at out))) where
  abbrev back : List ℕ
  back = splice at (length out - at) out ys

  behind : length (drop at out) ≡ length out - at
  behind = length-drop at out

  part_is : take (length out - at) (drop at out) ≡ drop at out
  part_is = take_all (length out - at) (drop at out) (omega (arith, behind))

  back_is : back ≡ take at out ++ ys
  back_is = ap (λ (z : List ℕ). take at out ++ (ys ++ z)) (drop_of_length-le (drop at out) {i = length out - at} (omega (arith, behind))) ∙ ap (λ (z : List ℕ). take at out ++ z) (append-nil ys)

  front : length (take at out) ≡ at
  front = length-take-le at out there

  pub back-length : length back ≡ length out
  back-length =
      splice-length at (length out - at) out (omega (arith, there)) ys (long ∙ part_length at (length out - at) out (omega (arith, there)))

  pub back_said : (n : ℕ) → take (at + n) back ≡ take at out ++ take n ys
  back_said n = ap (take (at + n)) back_is ∙ ap (λ (k : ℕ). take (k + n) (take at out ++ ys)) (sym front) ∙ take-append-add (take at out) ys n

  pub back_rest : (n : ℕ) → drop n ys ≡ drop n (take (length out - at) (drop at out)) → drop (at + n) back ≡ drop (at + n) out
  back_rest n h =
      ap (drop (at + n)) back_is ∙ ap (λ (k : ℕ). drop (k + n) (take at out ++ ys)) (sym front) ∙ drop-append-add (take at out) ys n ∙ h ∙ ap (drop n) part_is
      ∙ drop-drop n at out

-- ---- the bytes of a block

pub Played-start : (from : Talk) (input buf ls store out : List ℕ) → Fits from input buf ls store out → Played from input buf ls store out buf ls store out from 0 0
Played-start from input buf ls store out f = record {
  fits = f;
  sized = f.sized;
  inside = omega arith;
  room = omega arith;
  lines = omega arith;
  same_length = refl;
  rest = refl;
  is = λ m means. (m, means, sym (saying_none _));
}

module _ (from : Talk) (input buf₀ ls₀ store₀ out₀ buf ls store out : List ℕ) (t : Talk) (at i : ℕ) (p : Played from input buf₀ ls₀ store₀ out₀ buf ls store out t at i) where
  pub played_end : length input ≤ i → Plays from input buf₀ ls₀ store₀ out₀ (runs.On t at) buf ls store out
  unfolding ran
  played_end done = record {
    ends = (
      p.sized,
      omega (arith, p.lines, p.inside),
      record { inside = record { within = there; counts = sym (length-take-le at out there) }; rest = p.rest },
    );
    few = omega (arith, p.room, p.inside);
    is = λ m means.
        let d = p.is m means in (
          d.0,
          d.1,
          d.2 ∙ ap (λ (z : List ℕ). saying (take at out) (ran (place_of t buf ls d.0) z)) (drop_of_length-le input done)
              ∙ ap (on (place_of t buf ls d.0)) (append-nil (take at out)),
        );
  }
    where
      there : at ≤ length out
      there = omega (arith, p.room, p.inside, p.fits.room, p.same_length)

  module _ (more : i < length input) where
    pub enough : at + 128 ≤ length out
    enough = omega (arith, p.room, p.fits.room, p.same_length)

    there : at ≤ length out
    there = omega (arith, enough)

    module _ (buf' ls' store' ys : List ℕ) (long : length ys ≡ length (take (length out - at) (drop at out))) where
      abbrev Heard : Ran Talk → Type 0
      Heard r = Hears t buf ls store (take (length out - at) (drop at out)) (get_or input i 0) r buf' ls' store' ys

      pub room_on : (t' : Talk) (n : ℕ) → Heard (runs.On t' n) → at + n ≤ length out₀
      room_on t' n d = omega (arith, d.ends.2.few, enough, p.same_length)

      pub room_stop : (n : ℕ) → Heard (runs.Stop n) → at + n ≤ length out₀
      room_stop n d = omega (arith, d.ends.few, enough, p.same_length)

      next_byte : (q : Place) → ran q (drop i input) ≡ and_then (heard q (get_or input i 0)) (λ z. ran z (drop (suc i) input))
      unfolding ran
      next_byte q = ap (ran q) (drop-cons input i 0 more)

      pub Played-on : (t' : Talk) (n : ℕ) → Heard (runs.On t' n)
          → Played from input buf₀ ls₀ store₀ out₀ buf' ls' store' (splice at (length out - at) out ys) t' (at + n) (i + 1)
      Played-on t' n d =
          let few : n ≤ 128 = d.ends.2.few in
          let in_ys : n ≤ length ys = d.ends.2.fresh.inside.within in
          record {
            fits = p.fits;
            sized = d.ends.0;
            inside = omega arith;
            room = omega (arith, p.room);
            lines = omega (arith, p.lines, d.ends.1);
            same_length = back-length at out ys there long ∙ p.same_length;
            rest = back_rest at out ys there long n d.ends.2.fresh.rest ∙ sym (drop-drop n at out) ∙ ap (drop n) p.rest ∙ drop-drop n at out₀;
            is = λ m means.
                let a = p.is m means in
                let b = d.is a.0 a.1 in (
                  b.0,
                  b.1,
                  a.2 ∙ ap (saying (take at out)) (next_byte (place_of t buf ls a.0) ∙ ap (λ (z : Next Place). and_then z (λ y. ran y (drop (suc i) input))) b.2)
                      ∙ saying_both (take at out) (take n ys) (ran (place_of t' buf' ls' b.0) (drop (suc i) input))
                      ∙ ap₂ (λ (u : List ℕ) (j : ℕ). saying u (ran (place_of t' buf' ls' b.0) (drop j input))) (sym (back_said at out ys there long n)) (sym (add-one i)),
                );
          }

      pub played_stop : (n : ℕ) → Heard (runs.Stop n) → Plays from input buf₀ ls₀ store₀ out₀ (runs.Stop (at + n)) buf' ls' store' (splice at (length out - at) out ys)
      played_stop n d =
          let in_ys : n ≤ length ys = d.ends.fresh.inside.within in
          let same : length (splice at (length out - at) out ys) ≡ length out = back-length at out ys there long in
          let inside : at + n ≤ length (splice at (length out - at) out ys) = omega (arith, d.ends.few, enough) in
          record {
            ends = record {
              inside = record { within = inside; counts = sym (length-take-le (at + n) (splice at (length out - at) out ys) inside) };
              rest = back_rest at out ys there long n d.ends.fresh.rest ∙ sym (drop-drop n at out) ∙ ap (drop n) p.rest ∙ drop-drop n at out₀;
            };
            few = omega (arith, p.room, d.ends.few);
            is = λ m means.
                let a = p.is m means in
                let b = d.is a.0 a.1 in (
                  b.0,
                  tt,
                  a.2 ∙ ap (saying (take at out)) (next_byte (place_of t buf ls a.0) ∙ ap (λ (z : Next Place). and_then z (λ y. ran y (drop (suc i) input))) b.2)
                      ∙ ap stop (sym (back_said at out ys there long n)),
                );
          }

-- ---- the end of the input

early : (s : code.Stage) → At (0 ∷ 1 ∷ 2 ∷ 3 ∷ 4 ∷ []) s → (line : ℕ) → closing line s ≡ bad (line + 1)
early at.Qubits h line = refl
early (at.Form n) h line = refl
early (at.Events n f) h line = refl
early (at.Steps n f E) h line = refl
early (at.Labels n f E A q) h line = refl
early (at.Running e l) h line = absurd (miss (0 ∷ 1 ∷ 2 ∷ 3 ∷ 4 ∷ []) 5 tt h)

module _ (t : Talk) (out : List ℕ) where
  pub last_past : 4611686018427387904 < t.line → Lasts t out 0 out
  last_past h = record { inside = record { within = omega arith; counts = refl }; near = λ few. absurd (past few); far = λ far. (refl, refl) }
    where
      past : t.line ≤ 2 ^ 62 → ⊥
      past few = omega arith

  module _ (n : ℕ) (out' : List ℕ) (few : t.line ≤ 4611686018427387904) where
    lasts : (s : Saying) → last_of t ≡ s → Wrote out 0 (spoken s) out' n → Lasts t out n out'
    lasts s e w = record {
      inside = record { within = w.within; counts = w.counts };
      near = λ h. subst (λ (x : Saying). Wrote out 0 (spoken x) out' n) (sym e) w;
      far = λ far. absurd (past far);
    }
      where
        past : 2 ^ 62 < t.line → ⊥
        past far = omega arith

    pub last_held : (t.held ≡ 0 → ⊥) → Wrote out 0 (spoken (bad (t.line + 1))) out' n → Lasts t out n out'
    unfolding last_of
    last_held h w = lasts (bad (t.line + 1)) (rw (ne_eqb t.held 0 h)) w

    pub last_end : (e l : ℕ) → t.stage ≡ at.Running e l → t.held ≡ 0 → Wrote out 0 (spoken (end t.line (record { events = e; live = l }))) out' n → Lasts t out n out'
    unfolding last_of
    last_end e l u h w = lasts (end t.line (record { events = e; live = l })) (rw (eq-eqb t.held 0 h, u)) w

    pub last_early : At (0 ∷ 1 ∷ 2 ∷ 3 ∷ 4 ∷ []) t.stage → Wrote out 0 (spoken (bad (t.line + 1))) out' n → Lasts t out n out'
    unfolding last_of
    last_early u w = lasts (bad (t.line + 1)) (either (eqb t.held 0)) w
      where
        either : (b : Bool) → cond b (closing t.line t.stage) (bad (t.line + 1)) ≡ bad (t.line + 1)
        either true = early t.stage u t.line
        either false = refl

-- what the end is told is what the session says there
closing_is : (s : code.Stage) (line : ℕ) (ls store : List ℕ) (m : State) → Means s store m → closing line s ≡ finished line (stage_of s ls m)
closing_is at.Qubits line ls store m means = refl
closing_is (at.Form n) line ls store m means = refl
closing_is (at.Events n f) line ls store m means = refl
closing_is (at.Steps n f E) line ls store m means = refl
closing_is (at.Labels n f E A q) line ls store m means = refl
closing_is (at.Running e l) line ls store m means = ap (end line) (ap₂ (λ (i j : ℕ). record { events = i; live = j }) means.events means.live)

pub last_is : (t : Talk) (buf ls store : List ℕ) (m : State) → t.held ≤ length buf → Means t.stage store m → last_of t ≡ last_saying (place_of t buf ls m)
unfolding last_of last_saying
last_is t buf ls store m fits means =
    ap₂ (λ (k : ℕ) (x : Saying). cond (eqb k 0) x (bad (t.line + 1))) (sym (length-take-le t.held buf fits)) (closing_is t.stage t.line ls store m means)

-- ---- any slices

pub unfit_Runs : (t : Talk) (input buf ls store out : List ℕ) (e : Unfit) → (Fits t input buf ls store out → ⊥) → Runs t input buf ls store out (Err e) buf ls store out
unfit_Runs t input buf ls store out e n = record { inside = tt; fit = λ f. absurd (n f); unfit = λ u. (refl, refl, refl, refl, refl) }

pub fit_Runs : (t : Talk) (input buf ls store out : List ℕ) (r : Ran Talk) (buf' ls' store' out' : List ℕ) → Fits t input buf ls store out
    → Plays t input buf ls store out r buf' ls' store' out' → Runs t input buf ls store out (Ok r) buf' ls' store' out'
fit_Runs t input buf ls store out (runs.On u n) buf' ls' store' out' f p = record { inside = p.ends.2.inside; fit = λ u. p; unfit = λ n. absurd (n f) }
fit_Runs t input buf ls store out (runs.Stop n) buf' ls' store' out' f p = record { inside = p.ends.inside; fit = λ u. p; unfit = λ n. absurd (n f) }
