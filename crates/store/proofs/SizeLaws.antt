-- The sizes of a store: what an accepted opening says of them, what the header of a store that holds a state says, that the machine's arithmetic on
-- them cannot pass 64 bits, and what the tests on the qubits of a call say. For the functions of this crate and for the calls. Assumes nothing.
use mathlib.Core.Path.{◌≡◌, refl, sym, ap, ◌∙◌, subst}
use mathlib.Core.Logic.{◌≢◌, inl, inr}
use mathlib.Core.Bool.{Bool, true, false, cond, ◌||◌, true≢false}
use mathlib.Core.List.{List, [], ◌∷◌}
use Prim.Native.Nat.{ℕ, ◌+◌, ◌*◌, ◌/◌, ◌^◌, ◌≤◌, ◌<◌}
use native.Mathlib.Nat.{mul_comm, mul-le-mul, mul-le-mul_right}
use native.Mathlib.Omega.{arith}
use lib.ListN.{length, get_or}
use lib.Dec.{eqb, leb}
use borrow.Author.Tests.{ltb-false, leb-false, eqb-false}
use Rattle.model.specs.Events.{Form, scalar, sliced, Opening, State, words, plane, some}
use Rattle.model.specs.Store.{header_room, frame_room, sketch_room, list_count, count_room, chain_room, event_room, live_room, axis_room, list_room, need}
use Rattle.model.specs.Calls.{is_too_wide, open_answer, twice}
use Rattle.model.proofs.Good.{opens}
use Rattle.model.proofs.Theorems.{qubit_limit}
use Rattle.history.specs.Words.{list_size, history_room}
use Rattle.history.specs.Sizes as history
use Rattle.history.specs.Sizes.{form_of, Narrow}
use Rattle.history.specs.declared.forms.Form as forms
use Rattle.history.specs.declared.forms.Form.TheVariants.{Scalar, Sliced}
use Rattle.store.specs.declared.header.Sizes.{Sizes}
use Rattle.store.specs.Stores.{history_place, form_code, Stored}
use Rattle.store.specs.Promises.{qubit_number}
use Rattle.store.specs.Checks.{Enough, Framing, Fit, sizes, form_at, sizes_at, TooShort}

-- ---- the need of a store

frame_turned : (n w : ℕ) → n * 2 * (2 * w + 1) ≡ 2 * n * (2 * w + 1)
frame_turned n w = ap (λ (k : ℕ). k * (2 * w + 1)) (mul_comm n 2)

axes_turned : (w E : ℕ) → 2 * w * E ≡ E * (2 * w)
axes_turned w E = mul_comm (2 * w) E

list_turned : (n E w : ℕ) → n * (E + (2 * n + 1) * w) ≡ n * (E + w * (2 * n) + w)
list_turned n E w = ap (λ (k : ℕ). n * k) one
  where
    turned : (2 * n + 1) * w ≡ w * (2 * n + 1)
    turned = mul_comm (2 * n + 1) w

    apart : w * (2 * n + 1) ≡ w * (2 * n) + w
    apart = omega arith

    one : E + (2 * n + 1) * w ≡ E + w * (2 * n) + w
    one = omega (arith, turned, apart)

-- `model`'s need is where this layout ends
pub need_is : (f : Form) (n E : ℕ) → need n E f ≡ history_place n (words n) + history_room f n E (words n)
unfolding need header_room frame_room sketch_room list_count count_room chain_room event_room live_room axis_room list_room history_room list_size
need_is scalar n E = omega (arith, frame_turned n (words n), axes_turned (words n) E)
need_is sliced n E = omega (arith, frame_turned n (words n), axes_turned (words n) E, list_turned n E (words E))

-- ---- an accepted opening

pub record Accepted (o : Opening) : Type 0 where
  pub some : 1 ≤ o.n
  pub few : o.n ≤ 23168
  pub planes : words o.n ≤ 362
  pub some_event : 1 ≤ o.capacity
  pub few_events : o.capacity ≤ 2 ^ 24
  pub axes : 2 * words o.n * o.capacity ≤ 2 ^ 25
  pub steps : o.allowance ≤ 2 ^ 20
  pub narrow : Narrow o.form o.n (words o.n)
  pub labels : length o.label_words ≡ 4 * o.n
  pub fits : history_place o.n (words o.n) + history_room o.form o.n o.capacity (words o.n) ≤ o.size

pub few_planes : (n : ℕ) → n ≤ 23168 → words n ≤ 362
unfolding words
few_planes n h = omega arith

pub some_plane : (n : ℕ) → 1 ≤ n → 1 ≤ words n
unfolding words
some_plane n h = omega arith

one_plane : (n : ℕ) → 1 ≤ n → n ≤ 32 → words n ≡ 1
unfolding words
one_plane n h k = omega arith

Narrow-of : (f : Form) (n : ℕ) → 1 ≤ n → is_too_wide f n ≡ false → Narrow f n (words n)
unfolding is_too_wide
Narrow-of scalar n h k = tt
Narrow-of sliced n h k = (ltb-false 32 n k, one_plane n h (ltb-false 32 n k))

few_events_of : (w E : ℕ) → 1 ≤ w → 2 * w * E ≤ 2 ^ 25 → E ≤ 2 ^ 24
few_events_of w E h k = omega (arith, mul-le-mul_right E two)
  where
    two : 2 ≤ 2 * w
    two = omega arith

positive : (n : ℕ) → n ≢ 0 → 1 ≤ n
positive n h = omega arith

pub accepted : (o : Opening) → open_answer o ≡ 0 → Accepted o
accepted o h =
    let p = opens o h in
    let few : o.n ≤ 23168 = (qubit_limit o.n).1 p.frame_fits in
    let one : 1 ≤ o.n = positive o.n p.some_qubit in
    record {
      some = one;
      few = few;
      planes = few_planes o.n few;
      some_event = positive o.capacity p.some_event;
      few_events = few_events_of (words o.n) o.capacity (some_plane o.n one) p.events_fit;
      axes = p.events_fit;
      steps = p.steps_fit;
      narrow = Narrow-of o.form o.n one p.narrow;
      labels = p.labels_fit;
      fits = omega (arith, need_is o.form o.n o.capacity, p.store_fits);
    }

-- ---- the header of a store that holds a state

pub Stored-Accepted : (m : State) (s : List ℕ) → Stored m s → Accepted m.given
Stored-Accepted m s h = accepted m.given h.opens

pub Stored-Enough : (m : State) (s : List ℕ) → Stored m s → Enough s
Stored-Enough m s h = record {
  header = omega (arith, h.long, (Stored-Accepted m s h).fits);
  size = omega (arith, h.long, h.header.size);
}

-- a store that holds a state is not too short
pub Stored-long : (m : State) (s : List ℕ) → TooShort s → Stored m s → ⊥
Stored-long m s (inl l) h = omega (arith, l, (Stored-Enough m s h).header)
Stored-long m s (inr l) h = omega (arith, l, (Stored-Enough m s h).size)

pub code_one : (f g : Form) → form_code f ≡ form_code g → f ≡ g
unfolding form_code
code_one scalar scalar e = refl
code_one scalar sliced e = absurd (omega arith)
code_one sliced scalar e = absurd (omega arith)
code_one sliced sliced e = refl

code_small : (f : Form) → form_code f ≤ 1
unfolding form_code
code_small scalar = omega arith
code_small sliced = omega arith

-- what each test of the header finds in no store that holds a state
module _ (s : List ℕ) (m : State) (h : Stored m s) where
  pub no_qubit : get_or s 1 0 ≡ 0 → ⊥
  no_qubit e = omega (arith, e, h.header.qubits, (Stored-Accepted m s h).some)

  pub many_qubits : 23168 < get_or s 1 0 → ⊥
  many_qubits e = omega (arith, e, h.header.qubits, (Stored-Accepted m s h).few)

  pub frame_there : (n : ℕ) → n ≡ m.given.n → history_place n (words n) ≤ m.given.size
  frame_there n e = rw e (omega (arith, (Stored-Accepted m s h).fits))

  pub frame_missing : get_or s 0 0 < history_place (get_or s 1 0) (words (get_or s 1 0)) → ⊥
  frame_missing l = omega (arith, l, h.header.size, frame_there (get_or s 1 0) h.header.qubits)

  pub no_form : get_or s 2 0 ≢ 0 → get_or s 2 0 ≢ 1 → ⊥
  no_form a b = two (get_or s 2 0) a b (omega (arith, h.header.form, code_small m.given.form))
    where
      two : (k : ℕ) → k ≢ 0 → k ≢ 1 → k ≤ 1 → ⊥
      two k a b l = omega arith

  pub form_is : (f : Form) → get_or s 2 0 ≡ form_code f → m.given.form ≡ f
  form_is f e = code_one m.given.form f (sym h.header.form ∙ e)

  Narrow-there : (n : ℕ) → get_or s 1 0 ≡ n → (f : Form) → get_or s 2 0 ≡ form_code f → Narrow f n (words n)
  Narrow-there n e f k = rw (sym (sym h.header.qubits ∙ e), sym (form_is f k)) (Stored-Accepted m s h).narrow

  pub too_wide : (n : ℕ) → get_or s 1 0 ≡ n → get_or s 2 0 ≡ 1 → 32 < n → ⊥
  unfolding form_code
  too_wide n e k l = omega (arith, l, (Narrow-there n e sliced k).0)

  pub no_event_lem : get_or s 3 0 ≡ 0 → ⊥
  no_event_lem e = omega (arith, e, h.header.capacity, (Stored-Accepted m s h).some_event)

  pub many_events : 16777216 < get_or s 3 0 → ⊥
  many_events e = omega (arith, e, h.header.capacity, (Stored-Accepted m s h).few_events)

  pub many_steps : 1048576 < get_or s 4 0 → ⊥
  many_steps e = omega (arith, e, h.header.allowance, (Stored-Accepted m s h).steps)

  history_there : (n E : ℕ) (f : Form) → n ≡ m.given.n → E ≡ m.given.capacity → f ≡ m.given.form
      → history_place n (words n) + history_room f n E (words n) ≤ m.given.size
  history_there n E f a b e = rw (a, b, e) (Stored-Accepted m s h).fits

  pub history_missing : (n l E : ℕ) (f : Form) → Framing n l s → get_or s 2 0 ≡ form_code f → get_or s 3 0 ≡ E
      → get_or s 0 0 < history_place n l + history_room f n E l → ⊥
  history_missing n l E f fr k c q =
      let q' : get_or s 0 0 < history_place n (words n) + history_room f n E (words n) = rw (sym fr.planes) q in
      omega (arith, q', h.header.size, history_there n E f (sym fr.word ∙ h.header.qubits) (sym c ∙ h.header.capacity) (sym (form_is f k)))

-- what the tests of the header find, when they pass
pub Framing-of : (s : List ℕ) → Enough s → get_or s 1 0 ≢ 0 → get_or s 1 0 ≤ 23168 → history_place (get_or s 1 0) (words (get_or s 1 0)) ≤ get_or s 0 0
    → Framing (get_or s 1 0) (words (get_or s 1 0)) s
Framing-of s e a b l = record {
  enough = e;
  some = positive (get_or s 1 0) a;
  few = b;
  planes = refl;
  word = refl;
  fits = omega (arith, l, e.size);
}

pub Framing-planes : (n l : ℕ) (s : List ℕ) → Framing n l s → l ≤ 362
Framing-planes n l s f = omega (arith, few_planes n f.few, f.planes)

pub fit_of : (s : List ℕ) (z : Sizes) → Framing z.n z.l s → get_or s 2 0 ≡ form_code (form_of z.form) → Narrow (form_of z.form) z.n z.l
    → get_or s 3 0 ≡ z.cap → get_or s 4 0 ≡ z.allowance → z.cap ≢ 0 → z.cap ≤ 16777216 → z.allowance ≤ 1048576
    → (room : ℕ) → room ≡ history_room (form_of z.form) z.n z.cap z.l → z.at ≡ history_place z.n z.l → z.end ≡ history_place z.n z.l + room
    → z.end ≤ get_or s 0 0 → Fit z s
fit_of s z f w narrow c a some few steps room e begins ends l = record {
  framing = f;
  form_word = w;
  cap_word = c;
  allowance_word = a;
  some = positive z.cap some;
  few = few;
  steps = steps;
  narrow = narrow;
  begins = begins;
  ends = omega (arith, ends, e);
  fits = omega (arith, l, f.enough.size);
}

-- the sizes that fit are those that the header says
form_says : (s : List ℕ) (f : forms.Form) → get_or s 2 0 ≡ form_code (form_of f) → f ≡ form_at (get_or s 2 0)
unfolding form_at form_code form_of
form_says s Scalar e = rw e refl
form_says s Sliced e = rw e refl

same_sizes : (z : Sizes) (n l : ℕ) (f : forms.Form) (c a b e : ℕ) → z.n ≡ n → z.l ≡ l → z.form ≡ f → z.cap ≡ c → z.allowance ≡ a → z.at ≡ b → z.end ≡ e
    → z ≡ sizes n l f c a b e
same_sizes z n l f c a b e p q r s t u v = rw (sym p, sym q, sym r, sym s, sym t, sym u, sym v) refl

sizes_are : (s : List ℕ) (z : Sizes) → Fit z s → z ≡ sizes_at s
unfolding sizes_at
sizes_are s z h =
    let n : z.n ≡ get_or s 1 0 = sym h.framing.word in
    let l : z.l ≡ words (get_or s 1 0) = h.framing.planes ∙ ap words n in
    let f : z.form ≡ form_at (get_or s 2 0) = form_says s z.form h.form_word in
    let c : z.cap ≡ get_or s 3 0 = sym h.cap_word in
    let b : z.at ≡ history_place (get_or s 1 0) (words (get_or s 1 0)) = rw (sym n, sym h.framing.planes) h.begins in
    let e : z.end ≡ history_place (get_or s 1 0) (words (get_or s 1 0)) + history_room (form_of (form_at (get_or s 2 0))) (get_or s 1 0) (get_or s 3 0) (words (get_or s 1 0)) = rw (sym n, sym h.framing.planes, sym f, sym c) h.ends in
    same_sizes z _ _ _ _ _ _ _ n l f c (sym h.allowance_word) b e

pub sound_of : (s : List ℕ) (z : Sizes) → Fit z s → Fit (sizes_at s) s
sound_of s z h = subst (λ (x : Sizes). Fit x s) (sizes_are s z h) h

-- and what `header::sizes_of` reads
pub Fit-read : (s : List ℕ) (f : forms.Form) (room : ℕ) → Fit (sizes_at s) s → f ≡ form_at (get_or s 2 0) → room ≡ history_room (form_of f) (get_or s 1 0) (get_or s 3 0) (words (get_or s 1 0))
    → let at = history_place (get_or s 1 0) (words (get_or s 1 0)) in Fit (sizes (get_or s 1 0) (words (get_or s 1 0)) f (get_or s 3 0) (get_or s 4 0) at (at + room)) s
unfolding sizes_at
Fit-read s f room h e r = rw (r, e) h

pub read_few : (s : List ℕ) → Fit (sizes_at s) s → (get_or s 1 0 ≤ 23168) × (get_or s 3 0 ≤ 2 ^ 24) × (get_or s 4 0 ≤ 2 ^ 20)
unfolding sizes_at
read_few s h = (h.framing.few, h.few, h.steps)

pub sliced-Narrow : (n l : ℕ) (s : List ℕ) → Framing n l s → n ≤ 32 → Narrow sliced n l
sliced-Narrow n l s f h = (h, f.planes ∙ one_plane n f.some h)

-- ---- the machine's arithmetic

pub frame_small : (n l : ℕ) → n ≤ 23168 → l ≤ 362 → 2 * n * (2 * l + 1) ≤ 33593600
frame_small n l h k = mul-le-mul rows long
  where
    rows : 2 * n ≤ 46336
    rows = omega arith

    long : 2 * l + 1 ≤ 725
    long = omega arith

pub frame_fits : (n : ℕ) → n ≤ 23168 → 2 * n * (2 * ((n + 63) / 64) + 1) ≤ 33593600
unfolding words
frame_fits n h = frame_small n ((n + 63) / 64) h (few_planes n h)

pub axes_small : (cap l : ℕ) → cap ≤ 2 ^ 24 → l ≤ 362 → cap * (2 * l) ≤ 12146704384
axes_small cap l h k = mul-le-mul h long
  where
    long : 2 * l ≤ 724
    long = omega arith

pub blocks_small : (n cap : ℕ) → n ≤ 23168 → cap ≤ 2 ^ 24 → (cap + 63) / 64 * (2 * n) ≤ 12146704384
blocks_small n cap h k = mul-le-mul few rows
  where
    few : (cap + 63) / 64 ≤ 262144
    few = omega arith

    rows : 2 * n ≤ 46336
    rows = omega arith

pub lists_small : (n cap : ℕ) → n ≤ 23168 → cap ≤ 2 ^ 24 → n * (cap + (cap + 63) / 64 * (2 * n) + (cap + 63) / 64) ≤ 281809615060992
lists_small n cap h k = mul-le-mul h one
  where
    one : cap + (cap + 63) / 64 * (2 * n) + (cap + 63) / 64 ≤ 12163743744
    one = omega (arith, blocks_small n cap h k)

-- the words of the history's part as `header::history_room` computes them
pub room_Scalar : (g : forms.Form) (n cap l : ℕ) → g ≡ Scalar
    → 2 + 6 * cap + cap * (2 * l) + (cap + 63) / 64 + 128 + 64 * cap ≡ history_room (form_of g) n cap l
unfolding history_room list_size list_count form_of words
room_Scalar g n cap l e = rw e refl

pub room_Sliced : (g : forms.Form) (n cap l : ℕ) → g ≡ Sliced
    → 2 + 6 * cap + cap * (2 * l) + (cap + 63) / 64 + 2 * n + n * (cap + (cap + 63) / 64 * (2 * n) + (cap + 63) / 64) ≡ history_room (form_of g) n cap l
unfolding history_room list_size list_count form_of words
room_Sliced g n cap l e = rw e refl

pub room_small : (f : Form) (n cap l : ℕ) → n ≤ 23168 → cap ≤ 2 ^ 24 → l ≤ 362 → history_room f n cap l ≤ 2 ^ 50
unfolding history_room list_size list_count words
room_small scalar n cap l h k q = omega (arith, axes_small cap l k q)
room_small sliced n cap l h k q = omega (arith, axes_small cap l k q, lists_small n cap h k)

-- ---- what the calls take from these

-- the sizes that the header says are those of the state that the store holds
pub record Own (z : Sizes) (m : State) : Type 0 where
  pub qubits : m.given.n ≡ z.n
  pub planes : plane m ≡ z.l
  pub form : m.given.form ≡ form_of z.form
  pub capacity : m.given.capacity ≡ z.cap
  pub allowance : m.given.allowance ≡ z.allowance

pub own_frame : (n l : ℕ) (m : State) (s : List ℕ) → Framing n l s → Stored m s → (m.given.n ≡ n) × (plane m ≡ l)
own_frame n l m s f h =
    let e : m.given.n ≡ n = sym h.header.qubits ∙ f.word in
    (e, ap words e ∙ sym f.planes)

pub own : (z : Sizes) (m : State) (s : List ℕ) → Fit z s → Stored m s → Own z m
own z m s f h =
    let e = own_frame z.n z.l m s f.framing h in
    record {
      qubits = e.0;
      planes = e.1;
      form = form_is s m h (form_of z.form) f.form_word;
      capacity = sym h.header.capacity ∙ f.cap_word;
      allowance = sym h.header.allowance ∙ f.allowance_word;
    }

-- the history's part of the slice has the sizes that `history` asks for
pub Fit-Sized : (z : Sizes) (s h : List ℕ) → Fit z s → length h ≡ history_room (form_of z.form) z.n z.cap z.l
    → history.Sized (form_of z.form) z.n z.cap z.l h
Fit-Sized z s h f long = record {
  some = f.some;
  few = f.few;
  planes = Framing-planes z.n z.l s f.framing;
  narrow = f.narrow;
  long = long;
}

-- the qubits of a call that is not refused for them
split : (t u : Bool) → ◌≡◌ {A = ℕ} (cond t 4 (cond u 5 0)) 0 → (t ≡ false) × (u ≡ false)
split true u e = absurd (omega arith)
split false true e = absurd (omega arith)
split false false e = (refl, refl)

or-false : (t u : Bool) → cond t true u ≡ false → (t ≡ false) × (u ≡ false)
or-false true u e = absurd (true≢false e)
or-false false u e = (refl, e)

pub single_says : (n q : ℕ) → qubit_number n (q ∷ []) ≡ 0 → q < n
unfolding qubit_number some twice
single_says n q e = leb-false n q (or-false (leb n q) false (split (cond (leb n q) true false) (false || false) e).0).0

pub pair_says : (n a b : ℕ) → qubit_number n (a ∷ b ∷ []) ≡ 0 → (a < n) × (b < n) × (a ≢ b)
unfolding qubit_number some twice
pair_says n a b e =
    let p = split (cond (leb n a) true (cond (leb n b) true false)) (cond (eqb a b) true false || (false || false)) e in
    let q = or-false (leb n a) (cond (leb n b) true false) p.0 in
    (leb-false n a q.0, leb-false n b (or-false (leb n b) false q.1).0, differ (eqb a b) refl p.1)
  where
    differ : (t : Bool) → eqb a b ≡ t → (cond t true false || (false || false)) ≡ false → a ≢ b
    differ true k h = absurd (true≢false h)
    differ false k h = eqb-false a b k

pub record Three (n a b t : ℕ) : Type 0 where
  pub first : a < n
  pub second : b < n
  pub third : t < n
  pub apart₁ : a ≢ b
  pub apart₂ : a ≢ t
  pub apart₃ : b ≢ t

three_differ : (a b t : ℕ) (u v w : Bool) → eqb a b ≡ u → eqb a t ≡ v → eqb b t ≡ w
    → (cond u true (cond v true false) || (cond w true false || (false || false))) ≡ false → (a ≢ b) × (a ≢ t) × (b ≢ t)
three_differ a b t true v w p q r h = absurd (true≢false h)
three_differ a b t false true w p q r h = absurd (true≢false h)
three_differ a b t false false true p q r h = absurd (true≢false h)
three_differ a b t false false false p q r h = (eqb-false a b p, eqb-false a t q, eqb-false b t r)

pub triple_says : (n a b t : ℕ) → qubit_number n (a ∷ b ∷ t ∷ []) ≡ 0 → Three n a b t
unfolding qubit_number some twice
triple_says n a b t e =
    let p = split (cond (leb n a) true (cond (leb n b) true (cond (leb n t) true false))) (cond (eqb a b) true (cond (eqb a t) true false) || (cond (eqb b t) true false || (false || false))) e in
    let q = or-false (leb n a) (cond (leb n b) true (cond (leb n t) true false)) p.0 in
    let r = or-false (leb n b) (cond (leb n t) true false) q.1 in
    let d = three_differ a b t (eqb a b) (eqb a t) (eqb b t) refl refl refl p.1 in
    record {
      first = leb-false n a q.0;
      second = leb-false n b r.0;
      third = leb-false n t (or-false (leb n t) false r.1).0;
      apart₁ = d.0;
      apart₂ = d.1;
      apart₃ = d.2;
    }
