-- THE THEOREMS of the line program (docs/PROMISES.md): what a session says to an input in blocks of any size is `output` of the whole input; what was said
-- stays said; no store is too small. 01's example is in Example.antt. Assumes nothing.
use Prim.Native.Nat.{ℕ, ◌+◌, ◌*◌, ◌/◌, ◌^◌, ◌≤◌}
use mathlib.Core.Path.{◌≡◌, refl, sym, ap, ◌∙◌}
use mathlib.Core.List.{List, [], ◌∷◌, ◌++◌, append_assoc}
use mathlib.Core.Bool.{Bool, true, false, cond, ◌||◌}
use native.Mathlib.Omega.{arith}
use native.Mathlib.Nat.{le_trans, mul-le-mul_left, mul-le-mul_right}
use borrow.Author.Tests.{eq-eqb, le-ltb}
use lib.Dec.{eqb, ltb}
use lib.ListN.{length, take}
use Rattle.model.specs.Events.{State, Form, scalar, sliced, words}
use Rattle.model.specs.Store.{header_room, frame_room, sketch_room, list_count, count_room, chain_room, event_room, live_room, axis_room, list_room, need}
use Rattle.model.specs.Calls.{is_too_wide, open_number, open_answer, opening}
use Rattle.text.specs.Spoken.{spoken}
use Rattle.text.proofs.Room.{spoken-Whole}
use Rattle.session.specs.Session.{room, Next, on, stop, Place, start, heard, saying, and_then, ran, last_saying, whole, output}
use Rattle.session.specs.Desk.{Means, place_of, Plays, last_of, Begins}
use Rattle.session.specs.Blocks.{joined, Left, Follows, Serves}
use Rattle.session.specs.declared.stages.Talk.{Talk}
use Rattle.session.specs.declared.stages.Ran.{Ran}
use Rattle.session.specs.declared.stages.Ran.TheVariants as runs
use Rattle.session.specs.declared.run.Unfit.{Unfit}
use Rattle.std.specs.Prelude.{Result, Ok, Err, IsOkAnd}
use Rattle.session.proofs.Playing.{saying_none, saying_both, last_is}
use Rattle.session.proofs.Serving.{nothing, start_Means, start_place}

-- ---- the store

times : (a b c d : ℕ) → a ≤ b → c ≤ d → a * c ≤ b * d
times a b c d h k = le_trans (mul-le-mul_right c h) (mul-le-mul_left b k)

pub room_is_need : room ≡ need 32 48 sliced
unfolding need header_room frame_room sketch_room list_count count_room chain_room event_room live_room axis_room list_room words
room_is_need = refl

-- ---- an input in parts

saying_then : (t : List ℕ) (x : Next Place) (f : Place → Next Place) → saying t (and_then x f) ≡ and_then (saying t x) f
saying_then t (on p u) f = saying_both t u (f p)
saying_then t (stop u) f = refl

-- what is said to two parts is what is said to the first and then, from where that leaves the job, to the second
pub ran_append : (p : Place) (a b : List ℕ) → ran p (a ++ b) ≡ and_then (ran p a) (λ q. ran q b)
unfolding ran
ran_append p [] b = sym (saying_none (ran p b))
ran_append p (c ∷ a) b = go (heard p c) (λ q. ran_append q a b)
  where
    go : (x : Next Place) → ((q : Place) → ran q (a ++ b) ≡ and_then (ran q a) (λ z. ran z b))
        → and_then x (λ q. ran q (a ++ b)) ≡ and_then (and_then x (λ q. ran q a)) (λ q. ran q b)
    go (on q t) same = ap (saying t) (same q) ∙ saying_then t (ran q a) (λ z. ran z b)
    go (stop t) same = refl

pub whole-saying : (t : List ℕ) (x : Next Place) → whole (saying t x) ≡ t ++ whole x
whole-saying t (on p u) = append_assoc t u (spoken (last_saying p))
whole-saying t (stop u) = refl

-- "Bad input never loses the answers already printed": what was said to the first bytes of an input is the start of what is said to all of it
pub answers_stay : (a b : List ℕ) (q : Place) (t : List ℕ) → ran start a ≡ on q t → output (a ++ b) ≡ t ++ whole (ran q b)
unfolding output
answers_stay a b q t e =
    ap whole (ran_append start a b ∙ ap (λ (x : Next Place). and_then x (λ z. ran z b)) e) ∙ whole-saying t (ran q b)

-- "and stop": nothing that follows is heard
pub stops : (a b t : List ℕ) → ran start a ≡ stop t → output (a ++ b) ≡ t
unfolding output
stops a b t e = ap whole (ran_append start a b ∙ ap (λ (x : Next Place). and_then x (λ z. ran z b)) e)

-- ---- the code

after_block : (t : Talk) (buf ls store out : List ℕ) (m : State) → Means t.stage store m → (b more : List ℕ) (left : Left) (said : List ℕ) (After : (t : Talk) → (rest : List ℕ) → Type 0)
    → ((t' : Talk) (rest : List ℕ) → After t' rest → (m' : State) → Means t'.stage left.store m' → rest ≡ whole (ran (place_of t' left.buf left.labels m') more))
    → (r : Result (Ran Talk) Unfit) → Follows r left.out said After → IsOkAnd r (λ x. Plays t b buf ls store out x left.buf left.labels left.store left.out)
    → said ≡ whole (ran (place_of t buf ls m) (b ++ more))
after_block t buf ls store out m means b more left said After same (Ok (runs.On t' n)) f plays =
    let p = plays.is m means in
    f.1 ∙ ap (λ (z : List ℕ). take n left.out ++ z) (same t' f.0 f.2 p.0 p.1)
    ∙ sym (ap whole (ran_append (place_of t buf ls m) b more ∙ ap (λ (x : Next Place). and_then x (λ z. ran z more)) p.2)
    ∙ whole-saying (take n left.out) (ran (place_of t' left.buf left.labels p.0) more))
after_block t buf ls store out m means b more left said After same (Ok (runs.Stop n)) f plays =
    let p = plays.is m means in
    f ∙ sym (ap whole (ran_append (place_of t buf ls m) b more ∙ ap (λ (x : Next Place). and_then x (λ z. ran z more)) p.2))
after_block t buf ls store out m means b more left said After same (Err e) f plays = absurd f

serves_on : (bs : List (List ℕ)) (t : Talk) (buf ls store said : List ℕ) → Serves t buf ls store bs said → (m : State) → Means t.stage store m
    → said ≡ whole (ran (place_of t buf ls m) (joined bs))
unfolding joined ran
serves_on [] t buf ls store said h m means =
    h.7 ∙ (spoken-Whole h.0 (last_of t) h.1 h.2 (h.3.near h.5) h.4).start ∙ ap spoken (last_is t buf ls store m h.6 means)
serves_on (b ∷ bs) t buf ls store said h m means =
    after_block t buf ls store h.0 m means b (joined bs) h.1 said (λ t' rest. Serves t' h.1.buf h.1.labels h.1.store bs rest)
    (λ t' rest k m' v. serves_on bs t' h.1.buf h.1.labels h.1.store rest k m' v) h.1.ran h.4 (h.3.fit h.2)

-- what a session hands out in all to an input in blocks is `output` of the input
pub Serves-output : (bs : List (List ℕ)) (t : Talk) (buf ls store said : List ℕ) → Begins t → Serves t buf ls store bs said → said ≡ output (joined bs)
unfolding output
Serves-output bs t buf ls store said h s =
    serves_on bs t buf ls store said s nothing (start_Means t h store) ∙ ap (λ (p : Place). whole (ran p (joined bs))) (start_place t h buf ls)

-- ---- no store is too small

pub room_enough : (n E : ℕ) (f : Form) → n ≤ 32 → E ≤ 48 → need n E f ≤ room
unfolding need header_room frame_room sketch_room list_count count_room chain_room event_room live_room axis_room list_room words
room_enough n E scalar a b =
    let w : (n + 63) / 64 ≤ 1 = omega arith in
    let v : (E + 63) / 64 ≤ 1 = omega arith in
    let rows : n * 2 * (2 * ((n + 63) / 64) + 1) ≤ 64 * 3 = times (n * 2) 64 (2 * ((n + 63) / 64) + 1) 3 (omega arith) (omega arith) in
    let axes : 2 * ((n + 63) / 64) * E ≤ 2 * 48 = times (2 * ((n + 63) / 64)) 2 E 48 (omega arith) b in
    omega arith
room_enough n E sliced a b =
    let w : (n + 63) / 64 ≤ 1 = omega arith in
    let v : (E + 63) / 64 ≤ 1 = omega arith in
    let rows : n * 2 * (2 * ((n + 63) / 64) + 1) ≤ 64 * 3 = times (n * 2) 64 (2 * ((n + 63) / 64) + 1) 3 (omega arith) (omega arith) in
    let axes : 2 * ((n + 63) / 64) * E ≤ 2 * 48 = times (2 * ((n + 63) / 64)) 2 E 48 (omega arith) b in
    let masks : (2 * n + 1) * ((E + 63) / 64) ≤ 65 * 1 = times (2 * n + 1) 65 ((E + 63) / 64) 1 (omega arith) v in
    let lists : n * (E + (2 * n + 1) * ((E + 63) / 64)) ≤ 32 * 113 = times n 32 (E + (2 * n + 1) * ((E + 63) / 64)) 113 a (omega arith) in
    omega arith

-- so `open=3` does not come
pub never_three : (n E A : ℕ) (f : Form) (ws : List ℕ) → n ≤ 32 → E ≤ 48 → length ws ≡ 4 * n → open_answer (opening n E A f ws room) ≡ 3 → ⊥
unfolding open_answer open_number opening
never_three n E A f ws a b h =
    let labels : eqb (length ws) (4 * n) ≡ true = eq-eqb (length ws) (4 * n) h in
    let store : ltb room (need n E f) ≡ false = le-ltb room (need n E f) (room_enough n E f a b) in
    rw (labels, store) (go (eqb n 0 || ltb (2 ^ 25) (4 * n * words n) || ltb (2 ^ 20) A || is_too_wide f n) (eqb E 0 || ltb (2 ^ 25) (2 * words n * E)))
  where
    go : (x y : Bool) → ◌≡◌ {A = ℕ} (cond x 1 (cond y 2 0)) 3 → ⊥
    go true y e = omega arith
    go false true e = omega arith
    go false false e = omega arith
