-- A whole input at once. Assumes nothing.
use Prim.Native.Nat.{ℕ, ◌+◌, ◌-◌, ◌*◌, ◌/◌, ◌^◌, ◌≤◌, ◌<◌}
use mathlib.Core.Path.{◌≡◌, refl, sym, ap, ◌∙◌, subst}
use mathlib.Core.List.{List, [], ◌++◌}
use native.Mathlib.Omega.{arith}
use lib.ListN.{length, take, drop}
use lib.Seq.{length-take-le, drop-drop}
use Rattle.model.specs.Events.{State, scalar}
use Rattle.model.specs.Calls.{opened, opening}
use Rattle.store.proofs.Splice.{splice, part_length}
use Rattle.text.specs.Spoken.{spoken}
use Rattle.text.proofs.Room.{spoken-Whole}
use Rattle.session.specs.Session.{room, Place, start, ran, whole, output}
use Rattle.session.specs.Desk.{Means, place_of, Fits, place_next, MeansRan, Plays, Runs, last_of, Lasts, Begins, ServesAll}
use Rattle.session.specs.declared.stages.Stage as code
use Rattle.session.specs.declared.stages.Talk.{Talk}
use Rattle.session.specs.declared.stages.Ran.{Ran}
use Rattle.session.specs.declared.stages.Ran.TheVariants as runs
use Rattle.session.specs.declared.run.Unfit.{Unfit}
use Rattle.std.specs.Prelude.{Ok, Err}
use Rattle.session.proofs.Callers.{start_Sized}
use Rattle.session.proofs.Playing.{back-length, back_said, back_rest, last_is}

-- before an opening any state will do
abbrev pub nothing : State
nothing = opened (opening 0 0 0 scalar [] 0)

module _ (t : Talk) (b : Begins t) where
  pub start_Means : (store : List ℕ) → Means t.stage store nothing
  start_Means store = subst (λ (x : code.Stage). Means x store nothing) (sym b.2) tt

  pub start_place : (buf ls : List ℕ) → place_of t buf ls nothing ≡ start
  unfolding start
  start_place buf ls = rw (b.0, b.1, b.2)

pub serve_short : (input out : List ℕ) (e : Unfit) → length out / 128 ≤ length input → ServesAll input out (Err e) out
serve_short input out e h = record { fit = λ few. absurd (short few); unfit = λ few. (refl, refl) }
  where
    short : 128 * (length input + 1) ≤ length out → ⊥
    short few = omega arith

module _ (input out : List ℕ) (few : length input < length out / 128) (t : Talk) (b : Begins t) (buf ls store : List ℕ) (hb : length buf ≡ 80) (hl : length ls ≡ 128)
    (hs : length store ≡ room) (buf' ls' store' out₁ : List ℕ) (same : length out₁ ≡ length out) where
  wide : 128 * (length input + 1) ≤ length out
  wide = omega arith

  not_short : length out < 128 * (length input + 1) → ⊥
  not_short s = omega (arith, wide)

  pub whole_Fits : Fits t input buf ls store out
  whole_Fits = let h0 = b.0 in record { sized = start_Sized t buf ls store b hb hl hs; room = omega (arith, wide); lines = omega arith }

  pub serve_fits : (e : Unfit) → Runs t input buf ls store out (Err e) buf' ls' store' out₁ → ⊥
  serve_fits e h = h.fit whole_Fits

  -- what was said to all bytes
  ran_is : (x : Ran Talk) → Plays t input buf ls store out x buf' ls' store' out₁ → (m : State) × MeansRan x store' m × (ran start input ≡ place_next x buf' ls' out₁ m)
  ran_is x p =
      let d = p.is nothing (start_Means t b store) in
      (d.0, d.1, ap (λ (q : Place). ran q input) (sym (start_place t b buf ls)) ∙ d.2)

  plays_as : (x r : Ran Talk) → x ≡ r → Runs t input buf ls store out (Ok x) buf' ls' store' out₁ → Plays t input buf ls store out r buf' ls' store' out₁
  plays_as x r e h = subst (λ (y : Ran Talk). Plays t input buf ls store out y buf' ls' store' out₁) e (h.fit whole_Fits)

  pub serve_stop : (x : Ran Talk) (n : ℕ) → x ≡ runs.Stop n → Runs t input buf ls store out (Ok x) buf' ls' store' out₁ → ServesAll input out (Ok n) out₁
  unfolding output
  serve_stop x n e h = record {
    fit = λ w. let p = plays_as x (runs.Stop n) e h in let d = ran_is (runs.Stop n) p in (n, refl, p.ends, sym (ap whole d.2));
    unfit = λ s. absurd (not_short s);
  }

  module _ (x : Ran Talk) (u : Talk) (n : ℕ) (e : x ≡ runs.On u n) (h : Runs t input buf ls store out (Ok x) buf' ls' store' out₁) where
    plays : Plays t input buf ls store out (runs.On u n) buf' ls' store' out₁
    plays = plays_as x (runs.On u n) e h

    pub said_inside : n ≤ length out₁
    said_inside = plays.ends.2.inside.within

    pub part_wide : 128 ≤ length (take (length out₁ - n) (drop n out₁))
    part_wide =
        let a : length (take (length out₁ - n) (drop n out₁)) ≡ length out₁ - n = part_length n (length out₁ - n) out₁ (omega (arith, said_inside)) in
        omega (arith, a, plays.few, wide, same)

    module _ (k : ℕ) (ys : List ℕ) (long : length ys ≡ length (take (length out₁ - n) (drop n out₁))) (lasts : Lasts u (take (length out₁ - n) (drop n out₁)) k ys) where
      near : length out < 2 ^ 64 → u.line ≤ 2 ^ 62
      near small = omega (arith, plays.ends.1, b.0, few)

      pub serve_end : length out < 2 ^ 64 → ServesAll input out (Ok (n + k)) (splice n (length out₁ - n) out₁ ys)
      unfolding output
      serve_end small =
          let z = spoken-Whole (take (length out₁ - n) (drop n out₁)) (last_of u) ys k (lasts.near (near small)) part_wide in
          let back : length (splice n (length out₁ - n) out₁ ys) ≡ length out₁ = back-length n out₁ ys said_inside long in
          let a : length (take (length out₁ - n) (drop n out₁)) ≡ length out₁ - n = part_length n (length out₁ - n) out₁ (omega (arith, said_inside)) in
          let inside : n + k ≤ length (splice n (length out₁ - n) out₁ ys) = omega (arith, back, z.within, a, said_inside) in
          let d = ran_is (runs.On u n) plays in
          let held : u.held ≤ length buf' = omega (arith, plays.ends.0.held, plays.ends.0.line_room) in
          record {
            fit = λ w. (
              n + k,
              refl,
              record {
                inside = record { within = inside; counts = sym (length-take-le (n + k) (splice n (length out₁ - n) out₁ ys) inside) };
                rest = back_rest n out₁ ys said_inside long k z.kept ∙ sym (drop-drop k n out₁) ∙ ap (drop k) plays.ends.2.rest ∙ drop-drop k n out;
              },
              back_said n out₁ ys said_inside long k ∙ ap (λ (x : List ℕ). take n out₁ ++ x) (z.start ∙ ap spoken (last_is u buf' ls' store' d.0 held d.1)) ∙ sym (ap whole d.2),
            );
            unfit = λ s. absurd (not_short s);
          }
