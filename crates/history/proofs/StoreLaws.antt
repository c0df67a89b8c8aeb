-- Laws of a new event's words: what is written for it, and that the words then hold it behind the events that they held. Assumes nothing.
use mathlib.Core.Path.{◌≡◌, refl, sym, ap, ap₂, ◌∙◌, subst}
use mathlib.Core.Logic.{◌⊎◌, inl, inr, ⊎_elim}
use mathlib.Core.Bool.{Bool, true, false, cond, ◌&&◌}
use mathlib.Core.List.{List, [], ◌∷◌, ◌++◌}
use Prim.Native.Nat.{ℕ, suc, ◌+◌, ◌*◌, ◌/◌, ◌%◌, ◌^◌, ◌≤◌, ◌<◌}
use native.Mathlib.Nat.{pow-suc, suc-mul, mul-le-mul_right, mod-lt, le_refl}
use native.Mathlib.Omega.{arith}
use native.Mathlib.Decide.{ℕ_discrete, dec_lt}
use lib.ListN.{length, get_or, set, length-set, get_or-eq_default}
use lib.Seq.{get_or-set_same, get_or-set_other}
use lib.Pow.{pow_pos, pow_mono}
use lib.IntN.{ℤ}
use borrow.Author.Tests.{eqb-true, eqb-false}
use Rattle.model.specs.Pauli.{has}
use Rattle.model.specs.Sketch.{Label}
use Rattle.model.specs.Events.{Body, rotation, blocker, Event, words, no_event, event_at, live_at}
use Rattle.model.specs.Calls.{tag_at}
use Rattle.model.proofs.Members.{clash}
use Rattle.model.proofs.Lists.{at_old, at_new, length_new, live_old}
use Rattle.pauli.specs.Fill.{Written}
use Rattle.pauli.specs.Rows.{value_at, of_row, signature}
use Rattle.pauli.proofs.Digits.{three, has_past, has-add_same, has-add_other, has-mod}
use Rattle.pauli.proofs.RowLaws.{value_same}
use Rattle.lists.specs.Lists.{Among, Only, live_in}
use Rattle.lists.specs.Scans as scans
use Rattle.lists.specs.Scans.{Axed}
use Rattle.history.specs.Newest.{bucket_of, head_place, link_place, newest, Chained, Linked}
use Rattle.history.specs.Words.{label_place, tag_place, sig_place, axis_place, alive_place, count_place, code, body_word, LabelAt, Bodies, Alive, body_in, in_bucket, Chains, OfBody}
use Rattle.history.specs.Phases.{label_of}
use Rattle.history.specs.Recordings.{Noted, Labelled, EventsHeld, TakenBy, Stored}
use Rattle.history.proofs.ChainLaws.{half_times, newest_yes, newest_no, newest_same}
use Rattle.history.proofs.AxisWords.{axis_inside, x_value, z_value}

-- ---- places

pub alive_inside : (cap l id : ℕ) → id < cap → alive_place cap l + id / 64 < count_place cap l
unfolding words
alive_inside cap l id h = omega arith

-- the axis of an older event stands before that of a newer one
pub axes_apart : (l i j : ℕ) → i < j → i * (2 * l) + 2 * l ≤ j * (2 * l)
axes_apart l i j h = omega (arith, suc-mul i (2 * l), mul-le-mul_right (2 * l) h)

pub bucket_lt : (cap low : ℕ) → 1 ≤ cap → bucket_of cap low < cap
unfolding bucket_of
bucket_lt cap low h = omega (arith, half_times low cap h)

-- ---- a bit of a word, with those above it cleared

module _ (w b : ℕ) where
  top_free : (j : ℕ) → b ≤ j → has (w % 2 ^ b) j ≡ 0
  top_free j l = has_past b (w % 2 ^ b) j (mod-lt w (pow_pos b)) l

  pub top_here : has (w % 2 ^ b + 2 ^ b) b ≡ 1
  top_here = has-add_same (w % 2 ^ b) b (top_free b (le_refl b))

  pub top_below : (j : ℕ) → j < b → has (w % 2 ^ b + 2 ^ b) j ≡ has w j
  top_below j l = has-add_other (w % 2 ^ b) b j (top_free b (le_refl b)) (λ e. omega arith) ∙ has-mod b w j l

  pub top_above : (j : ℕ) → b < j → has (w % 2 ^ b + 2 ^ b) j ≡ 0
  top_above j l = has-add_other (w % 2 ^ b) b j (top_free b (le_refl b)) (λ e. omega arith) ∙ top_free j (omega arith)

-- the sum fits a word
pub top_fits : (w b bit : ℕ) → b < 64 → bit ≡ 2 ^ b → w % bit + bit < 2 ^ 64
top_fits w b bit l e =
    let s : 2 ^ b * 2 ≤ 2 ^ 64 = twice b l in
    let r : w % bit < bit = mod-lt w (subst (λ (x : ℕ). 0 < x) (sym e) (pow_pos b)) in
    omega arith
  where
    twice : (b : ℕ) → b < 64 → 2 ^ b * 2 ≤ 2 ^ 64
    twice b l = omega (arith, pow-suc 2 b, pow_mono {i = suc b} {j = 64} l)

-- ---- `note` and `put_label`

module _ (h g axis : List ℕ) (l cap id sig word bit : ℕ) (room : count_place cap l ≤ length h) (small : id < cap) (long : length axis ≡ 2 * l) (is : bit ≡ 2 ^ (id % 64))
    (w : Written h (2 + 6 * cap + id * (2 * l)) (length axis) (λ i. get_or axis i 0) g) where
  g1 : List ℕ
  g1 = set g (2 + 5 * cap + id) sig

  g2 : List ℕ
  unfolding g1
  g2 = set g1 (2 + 4 * cap + id) word

  pub noted : Noted h l cap id axis sig word
      (set (set (set g (2 + 5 * cap + id) sig) (2 + 4 * cap + id) word) (2 + 6 * cap + cap * (2 * l) + id / 64)
      (get_or (set (set g (2 + 5 * cap + id) sig) (2 + 4 * cap + id) word) (2 + 6 * cap + cap * (2 * l) + id / 64) 0 % bit + bit))
  unfolding g1 g2
  noted = record {
    axis_words_is = λ i b.
        let k : ℕ = axis_place cap + id * (2 * l) + i in
        get_or-set_other g2 alive k top 0 (λ e. omega (arith, inside))
        ∙ get_or-set_other g1 (2 + 4 * cap + id) k word 0 (λ e. omega arith)
        ∙ get_or-set_other g (2 + 5 * cap + id) k sig 0 (λ e. omega arith)
        ∙ w.here i (omega arith);
    sig_word =
        get_or-set_other g2 alive (2 + 5 * cap + id) top 0 (λ e. omega arith)
        ∙ get_or-set_other g1 (2 + 4 * cap + id) (2 + 5 * cap + id) word 0 (λ e. omega arith)
        ∙ get_or-set_same g (2 + 5 * cap + id) sig 0 (omega (arith, w.same_length, live_in_is));
    tag_word =
        get_or-set_other g2 alive (2 + 4 * cap + id) top 0 (λ e. omega arith)
        ∙ get_or-set_same g1 (2 + 4 * cap + id) word 0 (simp length-set (omega (arith, w.same_length, live_in_is)));
    live_word =
        get_or-set_same g2 alive top 0 (simp length-set (omega (arith, w.same_length, live_in_is)))
        ∙ ap₂ (λ (x y : ℕ). x % y + y)
        (get_or-set_other g1 (2 + 4 * cap + id) alive word 0 (λ e. omega arith) ∙ get_or-set_other g (2 + 5 * cap + id) alive sig 0 (λ e. omega arith)
        ∙ w.kept alive (inr (omega (arith, inside))))
        is;
    other = λ k a s t v.
        get_or-set_other g2 alive k top 0 v
        ∙ get_or-set_other g1 (2 + 4 * cap + id) k word 0 t
        ∙ get_or-set_other g (2 + 5 * cap + id) k sig 0 s
        ∙ w.kept k (apart k a);
    long = length-set g2 alive top ∙ length-set g1 (2 + 4 * cap + id) word ∙ length-set g (2 + 5 * cap + id) sig ∙ w.same_length;
  }
    where
      alive : ℕ
      alive = 2 + 6 * cap + cap * (2 * l) + id / 64

      top : ℕ
      top = get_or g2 alive 0 % bit + bit

      inside : axis_place cap + id * (2 * l) + 2 * l ≤ alive_place cap l
      inside = axis_inside cap l id small

      live_in_is : alive_place cap l + id / 64 < count_place cap l
      live_in_is = alive_inside cap l id small

      apart : (k : ℕ) → (Among (axis_place cap + id * (2 * l)) (2 * l) k → ⊥)
          → (k < 2 + 6 * cap + id * (2 * l)) ⊎ (2 + 6 * cap + id * (2 * l) + length axis ≤ k)
      apart k a =
          elim (dec_lt k (2 + 6 * cap + id * (2 * l))) [
            | yes d ↦ inl d
            | no d ↦ elim (dec_lt k (2 + 6 * cap + id * (2 * l) + 2 * l)) [
              | yes f ↦ absurd (a (omega arith, f))
              | no f ↦ inr (omega arith)
            ]
          ]

pub labelled : (h : List ℕ) (cap id high low k : ℕ) (g : List ℕ) → 2 + 4 * cap ≤ length h → id < cap → k < cap → k ≡ bucket_of cap low
    → Linked (set (set h (2 + 2 * cap + 2 * id) high) (2 + 2 * cap + 2 * id + 1) low) cap k id g → Labelled h cap id high low g
labelled h cap id high low k g room small kb e lk = record {
  high_word = lk.other at (λ q. omega arith) (λ q. omega arith) ∙ get_or-set_other h1 (at + 1) at low 0 (λ q. omega arith) ∙ get_or-set_same h at high 0 (omega arith);
  low_word = lk.other (at + 1) (λ q. omega arith) (λ q. omega arith) ∙ get_or-set_same h1 (at + 1) low 0 (simp length-set (omega arith));
  head = ap (λ (x : ℕ). get_or g (head_place x) 0) (sym e) ∙ lk.head;
  link = lk.link ∙ old (head_place k) (λ q. omega arith) ∙ ap (λ (x : ℕ). get_or h (head_place x) 0) e;
  other = λ j a b d. lk.other j (λ q. b (q ∙ ap head_place e)) d ∙ old j a;
  long = lk.long ∙ length-set h1 (at + 1) low ∙ length-set h at high;
}
  where
    at : ℕ
    at = 2 + 2 * cap + 2 * id

    h1 : List ℕ
    h1 = set h at high

    old : (j : ℕ) → (Among at 2 j → ⊥) → get_or (set h1 (at + 1) low) j 0 ≡ get_or h j 0
    old j a = get_or-set_other h1 (at + 1) j low 0 (λ q. a (omega arith)) ∙ get_or-set_other h at j high 0 (λ q. a (omega arith))

-- ---- a new event

-- from h to g the words of the new event e, of number id, are written
pub record Put (cap l id : ℕ) (e : Event) (h g : List ℕ) : Type 0 where
  pub only : Only (TakenBy e cap l id) h g
  pub tag_word : get_or g (tag_place cap id) 0 ≡ body_word e.body
  pub small : tag_at e.body < 2 ^ 32
  pub label : LabelAt g (label_place cap id) e.body
  pub sig_word : get_or g (sig_place cap + id) 0 ≡ signature l e.x e.z
  pub x_words : value_at g (axis_place cap + id * (2 * l)) l ≡ e.x
  pub z_words : value_at g (axis_place cap + id * (2 * l) + l) l ≡ e.z
  pub live_word : get_or g (alive_place cap l + id / 64) 0 ≡ get_or h (alive_place cap l + id / 64) 0 % 2 ^ (id % 64) + 2 ^ (id % 64)
  pub head_in : (k : ℕ) → k < cap → body_in cap k e.body ≡ true → (get_or g (head_place k) 0 ≡ suc id) × (get_or g (link_place cap id) 0 ≡ get_or h (head_place k) 0)
  pub head_out : (k : ℕ) → k < cap → body_in cap k e.body ≡ false → get_or g (head_place k) 0 ≡ get_or h (head_place k) 0

-- the axis that `note` writes
module _ (h g axis : List ℕ) (l cap id sig word : ℕ) (e : Event) (long : length axis ≡ 2 * l) (n : Noted h l cap id axis sig word g) where
  noted_x : (of_row 0 axis).x ≡ e.x → value_at g (axis_place cap + id * (2 * l)) l ≡ e.x
  noted_x q =
      value_same axis g l 0 (axis_place cap + id * (2 * l)) (λ i b. n.axis_words_is i (omega arith) ∙ ap (λ (k : ℕ). get_or axis k 0) (omega arith))
      ∙ sym (x_value axis l long) ∙ q

  noted_z : (of_row 0 axis).z ≡ e.z → value_at g (axis_place cap + id * (2 * l) + l) l ≡ e.z
  noted_z q =
      value_same axis g l l (axis_place cap + id * (2 * l) + l)
      (λ i b. ap (λ (k : ℕ). get_or g k 0) (omega arith) ∙ n.axis_words_is (l + i) (omega arith))
      ∙ sym (z_value axis l long) ∙ q

pub Put-blocker : (h g axis : List ℕ) (l cap id sig : ℕ) (e : Event) → id < cap → length axis ≡ 2 * l → e.live ≡ true → e.body ≡ blocker → (of_row 0 axis).x ≡ e.x → (of_row 0 axis).z ≡ e.z
    → sig ≡ signature l e.x e.z → Noted h l cap id axis sig 0 g → Put cap l id e h g
unfolding body_in body_word tag_at
Put-blocker h g axis l cap id sig e small long v b x z s n = record {
  only = record { same_length = n.long; kept = λ k f. n.other k (λ q. f (inr (inl (inr (inr (inr q)))))) (λ q. f (inr (inl (inr (inr (inl q)))))) (λ q. f (inr (inl (inr (inl q))))) (λ q. f (inr (inr q))) };
  tag_word = n.tag_word ∙ ap body_word (sym b);
  small = subst (λ (y : Body). tag_at y < 2 ^ 32) (sym b) (omega arith);
  label = subst (λ (y : Body). LabelAt g (label_place cap id) y) (sym b) tt;
  sig_word = n.sig_word ∙ s;
  x_words = noted_x h g axis l cap id sig 0 e long n x;
  z_words = noted_z h g axis l cap id sig 0 e long n z;
  live_word = n.live_word;
  head_in = λ k kb t. clash (body_in cap k e.body) t (ap (body_in cap k) b);
  head_out = λ k kb t. n.other (head_place k) (λ q. omega arith) (λ q. omega arith) (λ q. omega arith) (λ q. omega arith);
}

of_rotation : (e : Event) (tag : ℕ) (sgn : ℤ) (label : Label) (cap id k : ℕ) → e.body ≡ rotation tag sgn label → e.live ≡ true → (k ≡ link_place cap id) ⊎ Among (label_place cap id) 2 k
    → OfBody e.body e.live cap id k
of_rotation e tag sgn label cap id k b v t =
    subst (λ (y : Body). OfBody y e.live cap id k) (sym b) (subst (λ (u : Bool). OfBody (rotation tag sgn label) u cap id k) (sym v) t)

module _ (h f g axis : List ℕ) (l cap id sig tag : ℕ) (sgn : ℤ) (high low : ℕ) (e : Event) (some : 1 ≤ cap) (small : id < cap) (long : length axis ≡ 2 * l) (v : e.live ≡ true)
    (b : e.body ≡ rotation tag sgn (label_of high low)) (few : tag < 2 ^ 32) (x : (of_row 0 axis).x ≡ e.x) (z : (of_row 0 axis).z ≡ e.z) (s : sig ≡ signature l e.x e.z)
    (n : Noted h l cap id axis sig (4 * tag + code sgn) f) (p : Labelled f cap id high low g) where
  head_kept : (k : ℕ) → k < cap → get_or f (head_place k) 0 ≡ get_or h (head_place k) 0
  head_kept k kb = n.other (head_place k) (λ q. omega arith) (λ q. omega arith) (λ q. omega arith) (λ q. omega arith)

  -- past the links and the labels nothing but `note` writes
  late : (k : ℕ) → 2 + 4 * cap ≤ k → get_or g k 0 ≡ get_or f k 0
  late k a = p.other k (λ q. omega arith) (λ q. omega (arith, bucket_lt cap low some)) (λ q. omega arith)

  bucket_yes : (k : ℕ) → body_in cap k e.body ≡ true → bucket_of cap low ≡ k
  unfolding body_in label_of
  bucket_yes k t = eqb-true (bucket_of cap low) k (sym (ap (body_in cap k) b) ∙ t)

  bucket_no : (k : ℕ) → body_in cap k e.body ≡ false → bucket_of cap low ≡ k → ⊥
  unfolding body_in label_of
  bucket_no k t = eqb-false (bucket_of cap low) k (sym (ap (body_in cap k) b) ∙ t)

  pub Put-rotation : Put cap l id e h g
  unfolding body_word tag_at label_of
  Put-rotation = record {
    only = record {
      same_length = p.long ∙ n.long;
      kept = λ k t.
          p.other k (λ q. t (inr (inl (inl (of k (inr q)))))) (λ q. t (inl (among k q))) (λ q. t (inr (inl (inl (of k (inl q))))))
          ∙ n.other k (λ q. t (inr (inl (inr (inr (inr q)))))) (λ q. t (inr (inl (inr (inr (inl q)))))) (λ q. t (inr (inl (inr (inl q))))) (λ q. t (inr (inr q)));
    };
    tag_word = late (tag_place cap id) (omega arith) ∙ n.tag_word ∙ ap body_word (sym b);
    small = subst (λ (y : Body). tag_at y < 2 ^ 32) (sym b) few;
    label = subst (λ (y : Body). LabelAt g (label_place cap id) y) (sym b) (p.high_word, p.low_word);
    sig_word = late (sig_place cap + id) (omega arith) ∙ n.sig_word ∙ s;
    x_words = value_same f g l (axis_place cap + id * (2 * l)) (axis_place cap + id * (2 * l)) (λ i q. late (axis_place cap + id * (2 * l) + i) (omega arith)) ∙ noted_x h f axis l cap id sig (4 * tag + code sgn) e long n x;
    z_words = value_same f g l (axis_place cap + id * (2 * l) + l) (axis_place cap + id * (2 * l) + l) (λ i q. late (axis_place cap + id * (2 * l) + l + i) (omega arith))
        ∙ noted_z h f axis l cap id sig (4 * tag + code sgn) e long n z;
    live_word = late (alive_place cap l + id / 64) (omega arith) ∙ n.live_word;
    head_in = λ k kb t.
        let q : bucket_of cap low ≡ k = bucket_yes k t in
        (ap (λ (y : ℕ). get_or g (head_place y) 0) (sym q) ∙ p.head ∙ omega arith, p.link ∙ ap (λ (y : ℕ). get_or f (head_place y) 0) q ∙ head_kept k kb);
    head_out = λ k kb t.
        p.other (head_place k) (λ q. omega arith) (λ q. bucket_no k t (omega arith)) (λ q. omega arith) ∙ head_kept k kb;
  }
    where
      of : (k : ℕ) → (k ≡ link_place cap id) ⊎ Among (label_place cap id) 2 k → OfBody e.body e.live cap id k
      of k = of_rotation e tag sgn (label_of high low) cap id k b v

      among : (k : ℕ) → k ≡ head_place (bucket_of cap low) → Among 2 cap k
      among k q = let t : bucket_of cap low < cap = bucket_lt cap low some in (omega arith, omega arith)

-- ---- what the words hold then

pub of_body : (b : Body) (live : Bool) (cap id k : ℕ) → OfBody b live cap id k → (k ≡ link_place cap id) ⊎ Among (label_place cap id) 2 k
of_body (rotation tag sgn label) true cap id k t = t
of_body (rotation tag sgn label) false cap id k t = inr t
of_body blocker live cap id k t = absurd t

away : (e : Event) (cap l id k : ℕ) → 2 + cap ≤ k → (k ≡ link_place cap id → ⊥) → (Among (label_place cap id) 2 k → ⊥) → (k ≡ tag_place cap id → ⊥) → (k ≡ sig_place cap + id → ⊥)
    → (Among (axis_place cap + id * (2 * l)) (2 * l) k → ⊥) → (k ≡ alive_place cap l + id / 64 → ⊥) → TakenBy e cap l id k → ⊥
away e cap l id k a b c d f g i t =
    ⊎_elim (λ (q : Among 2 cap k). omega arith)
    (⊎_elim (⊎_elim (λ q. ⊎_elim b c (of_body e.body e.live cap id k q)) (⊎_elim d (⊎_elim f g))) i)
    t

pub label_same : (h g : List ℕ) (a : ℕ) (b : Body) → get_or g a 0 ≡ get_or h a 0 → get_or g (a + 1) 0 ≡ get_or h (a + 1) 0 → LabelAt h a b → LabelAt g a b
label_same h g a (rotation tag sgn label) p q t = (p ∙ t.0, q ∙ t.1)
label_same h g a blocker p q t = tt

-- a chain with a new event at its head, and one that does not get it
module _ (p q : ℕ → Bool) (id cap k : ℕ) (h g : List ℕ) (old : (i : ℕ) → i < id → q i ≡ p i) (links : (i : ℕ) → i < id → get_or g (link_place cap i) 0 ≡ get_or h (link_place cap i) 0)
    (chain : Chained p id cap k h) where
  upto : (i : ℕ) → i ≤ id → newest p i ≡ newest q i
  upto i l = newest_same p q i (λ j b. sym (old j (omega arith)))

  old_link : (i : ℕ) → i < id → q i ≡ true → get_or g (link_place cap i) 0 ≡ newest q i
  old_link i l t = links i l ∙ chain.link i l (sym (old i l) ∙ t) ∙ upto i (omega arith)

  longer_yes : q id ≡ true → get_or g (head_place k) 0 ≡ suc id → get_or g (link_place cap id) 0 ≡ get_or h (head_place k) 0 → Chained q (suc id) cap k g
  longer_yes t a b = record {
    head = a ∙ sym (newest_yes q id t);
    link = λ i l u. elim (ℕ_discrete i id) [
      | yes d ↦ subst (λ (j : ℕ). get_or g (link_place cap j) 0 ≡ newest q j) (sym d) (b ∙ chain.head ∙ upto id (le_refl id))
      | no d ↦ old_link i (omega arith) u
    ];
  }

  longer_no : q id ≡ false → get_or g (head_place k) 0 ≡ get_or h (head_place k) 0 → Chained q (suc id) cap k g
  longer_no t a = record {
    head = a ∙ chain.head ∙ upto id (le_refl id) ∙ sym (newest_no q id t);
    link = λ i l u. elim (ℕ_discrete i id) [
      | yes d ↦ clash (q i) u (ap q d ∙ t)
      | no d ↦ old_link i (omega arith) u
    ];
  }

module _ (cap l : ℕ) (es : List Event) (e : Event) (h g : List ℕ) (small : length es < cap) (v : e.live ≡ true) (p : Put cap l (length es) e h g) where
  live_new : live_at (es ++ (e ∷ [])) (length es) ≡ true
  unfolding live_at
  live_new = ap (λ (w : Event). w.live) (at_new es e) ∙ v

  live_past : (i : ℕ) → length es < i → live_at (es ++ (e ∷ [])) i ≡ false
  unfolding live_at event_at no_event
  live_past i b = ap (λ (w : Event). w.live) (get_or-eq_default (es ++ (e ∷ [])) no_event (omega (arith, length_new es e)))

  -- words of older events
  kept : (k : ℕ) → 2 + cap ≤ k → (k ≡ link_place cap (length es) → ⊥) → (Among (label_place cap (length es)) 2 k → ⊥) → (k ≡ tag_place cap (length es) → ⊥) → (k ≡ sig_place cap + length es → ⊥)
      → (Among (axis_place cap + length es * (2 * l)) (2 * l) k → ⊥) → (k ≡ alive_place cap l + length es / 64 → ⊥) → get_or g k 0 ≡ get_or h k 0
  kept k a b c d f x i = p.only.kept k (away e cap l (length es) k a b c d f x i)

  kept_link : (i : ℕ) → i < length es → get_or g (link_place cap i) 0 ≡ get_or h (link_place cap i) 0
  kept_link i b = kept (link_place cap i) (omega arith) (λ q. omega arith) (λ q. omega arith) (λ q. omega arith) (λ q. omega arith) (λ q. omega arith) (λ q. omega arith)

  kept_label : (i : ℕ) → i < length es → get_or g (label_place cap i) 0 ≡ get_or h (label_place cap i) 0
  kept_label i b = kept (label_place cap i) (omega arith) (λ q. omega arith) (λ q. omega arith) (λ q. omega arith) (λ q. omega arith) (λ q. omega arith) (λ q. omega arith)

  kept_label_2 : (i : ℕ) → i < length es → get_or g (label_place cap i + 1) 0 ≡ get_or h (label_place cap i + 1) 0
  kept_label_2 i b = kept (label_place cap i + 1) (omega arith) (λ q. omega arith) (λ q. omega arith) (λ q. omega arith) (λ q. omega arith) (λ q. omega arith) (λ q. omega arith)

  kept_tag : (i : ℕ) → i < length es → get_or g (tag_place cap i) 0 ≡ get_or h (tag_place cap i) 0
  kept_tag i b = kept (tag_place cap i) (omega arith) (λ q. omega arith) (λ q. omega arith) (λ q. omega arith) (λ q. omega arith) (λ q. omega arith) (λ q. omega arith)

  kept_sig : (i : ℕ) → i < length es → get_or g (sig_place cap + i) 0 ≡ get_or h (sig_place cap + i) 0
  kept_sig i b = kept (sig_place cap + i) (omega arith) (λ q. omega arith) (λ q. omega arith) (λ q. omega arith) (λ q. omega arith) (λ q. omega arith) (λ q. omega arith)

  kept_axis : (i j : ℕ) → i < length es → j < 2 * l → get_or g (axis_place cap + i * (2 * l) + j) 0 ≡ get_or h (axis_place cap + i * (2 * l) + j) 0
  kept_axis i j b c =
      let t : i * (2 * l) + 2 * l ≤ length es * (2 * l) = axes_apart l i (length es) b in
      let u : axis_place cap + length es * (2 * l) + 2 * l ≤ alive_place cap l = axis_inside cap l (length es) small in
      kept (axis_place cap + i * (2 * l) + j) (omega arith) (λ q. omega arith) (λ q. omega arith) (λ q. omega arith) (λ q. omega arith) (λ q. omega arith) (λ q. omega arith)

  kept_alive : (i : ℕ) → (i ≡ length es / 64 → ⊥) → get_or g (alive_place cap l + i) 0 ≡ get_or h (alive_place cap l + i) 0
  kept_alive i d =
      let u : axis_place cap + length es * (2 * l) + 2 * l ≤ alive_place cap l = axis_inside cap l (length es) small in
      kept (alive_place cap l + i) (omega arith) (λ q. omega arith) (λ q. omega arith) (λ q. omega arith) (λ q. omega arith) (λ q. omega arith) (λ q. d (omega arith))

  -- an event is an older one or the new one
  new_or_old : (P : ℕ → Type 0) → ((i : ℕ) → i < length es → P i) → P (length es) → (i : ℕ) → i < length (es ++ (e ∷ [])) → P i
  new_or_old P a b i lt = elim (ℕ_discrete i (length es)) [
    | yes d ↦ subst P (sym d) b
    | no d ↦ a i (omega (arith, length_new es e))
  ]

  in_old : (k i : ℕ) → i < length es → in_bucket cap k (es ++ (e ∷ [])) i ≡ in_bucket cap k es i
  unfolding in_bucket live_at
  in_old k i b = ap (λ (w : Event). w.live && body_in cap k w.body) (at_old es e i b)

  in_new : (k : ℕ) → in_bucket cap k (es ++ (e ∷ [])) (length es) ≡ body_in cap k e.body
  unfolding in_bucket live_at
  in_new k = ap (λ (w : Event). w.live && body_in cap k w.body) (at_new es e) ∙ ap (λ (b : Bool). b && body_in cap k e.body) v

  put_Chains : Chains cap es h → Chains cap (es ++ (e ∷ [])) g
  put_Chains c k kb =
      subst (λ (n : ℕ). Chained (in_bucket cap k (es ++ (e ∷ []))) n cap k g) (sym (length_new es e)) (go (body_in cap k e.body) refl)
    where
      go : (t : Bool) → body_in cap k e.body ≡ t → Chained (in_bucket cap k (es ++ (e ∷ []))) (suc (length es)) cap k g
      go true t =
          let w = p.head_in k kb t in
          longer_yes (in_bucket cap k es) (in_bucket cap k (es ++ (e ∷ []))) (length es) cap k h g (in_old k) kept_link (c k kb) (in_new k ∙ t) w.0 w.1
      go false t =
          longer_no (in_bucket cap k es) (in_bucket cap k (es ++ (e ∷ []))) (length es) cap k h g (in_old k) kept_link (c k kb) (in_new k ∙ t) (p.head_out k kb t)

  old_of : (P : Event → Type 0) (i : ℕ) → i < length es → P (event_at es i) → P (event_at (es ++ (e ∷ [])) i)
  old_of P i b t = subst P (sym (at_old es e i b)) t

  new_of : (P : Event → Type 0) → P e → P (event_at (es ++ (e ∷ [])) (length es))
  new_of P t = subst P (sym (at_new es e)) t

  put_Bodies : Bodies cap es h → Bodies cap (es ++ (e ∷ [])) g
  put_Bodies c = record {
    label = new_or_old (λ i. LabelAt g (label_place cap i) (event_at (es ++ (e ∷ [])) i).body)
        (λ i b. old_of (λ w. LabelAt g (label_place cap i) w.body) i b (label_same h g (label_place cap i) (event_at es i).body (kept_label i b) (kept_label_2 i b) (c.label i b)))
        (new_of (λ w. LabelAt g (label_place cap (length es)) w.body) p.label);
    tag = new_or_old (λ i. get_or g (tag_place cap i) 0 ≡ body_word (event_at (es ++ (e ∷ [])) i).body)
        (λ i b. old_of (λ w. get_or g (tag_place cap i) 0 ≡ body_word w.body) i b (kept_tag i b ∙ c.tag i b))
        (new_of (λ w. get_or g (tag_place cap (length es)) 0 ≡ body_word w.body) p.tag_word);
    small = new_or_old (λ i. tag_at (event_at (es ++ (e ∷ [])) i).body < 2 ^ 32)
        (λ i b. old_of (λ w. tag_at w.body < 2 ^ 32) i b (c.small i b))
        (new_of (λ w. tag_at w.body < 2 ^ 32) p.small);
  }

  put_Signed : scans.Signed l es h (sig_place cap) → scans.Signed l (es ++ (e ∷ [])) g (sig_place cap)
  unfolding live_at
  put_Signed c = new_or_old (λ i. get_or g (sig_place cap + i) 0 ≡ cond (event_at (es ++ (e ∷ [])) i).live (signature l (event_at (es ++ (e ∷ [])) i).x (event_at (es ++ (e ∷ [])) i).z) 0)
      (λ i b. old_of (λ w. get_or g (sig_place cap + i) 0 ≡ cond w.live (signature l w.x w.z) 0) i b (kept_sig i b ∙ c i b))
      (new_of (λ w. get_or g (sig_place cap + length es) 0 ≡ cond w.live (signature l w.x w.z) 0) (p.sig_word ∙ ap (λ (b : Bool). cond b (signature l e.x e.z) 0) (sym v)))

  put_Axed : Axed l es h (axis_place cap) → Axed l (es ++ (e ∷ [])) g (axis_place cap)
  put_Axed c = record {
    xs = new_or_old (λ i. value_at g (axis_place cap + i * (2 * l)) l ≡ (event_at (es ++ (e ∷ [])) i).x)
        (λ i b. old_of (λ w. value_at g (axis_place cap + i * (2 * l)) l ≡ w.x) i b
        (value_same h g l (axis_place cap + i * (2 * l)) (axis_place cap + i * (2 * l)) (λ j q. kept_axis i j b (omega arith)) ∙ c.xs i b))
        (new_of (λ w. value_at g (axis_place cap + length es * (2 * l)) l ≡ w.x) p.x_words);
    zs = new_or_old (λ i. value_at g (axis_place cap + i * (2 * l) + l) l ≡ (event_at (es ++ (e ∷ [])) i).z)
        (λ i b. old_of (λ w. value_at g (axis_place cap + i * (2 * l) + l) l ≡ w.z) i b
        (value_same h g l (axis_place cap + i * (2 * l) + l) (axis_place cap + i * (2 * l) + l) (λ j q. second i j b q) ∙ c.zs i b))
        (new_of (λ w. value_at g (axis_place cap + length es * (2 * l) + l) l ≡ w.z) p.z_words);
  }
    where
      second : (i j : ℕ) → i < length es → j < l → get_or g (axis_place cap + i * (2 * l) + l + j) 0 ≡ get_or h (axis_place cap + i * (2 * l) + l + j) 0
      second i j b q =
          let s : axis_place cap + i * (2 * l) + (l + j) ≡ axis_place cap + i * (2 * l) + l + j = omega arith in
          subst (λ (k : ℕ). get_or g k 0 ≡ get_or h k 0) s (kept_axis i (l + j) b (omega arith))

  put_Alive : Alive (alive_place cap l) es h → Alive (alive_place cap l) (es ++ (e ∷ [])) g
  unfolding words
  put_Alive c i b = elim (ℕ_discrete (i / 64) (length es / 64)) [
    | yes d ↦ here i d (three (i % 64) (length es % 64))
    | no d ↦
        let t : i < length es = omega (arith, length_new es e) in
        ap (λ (w : ℕ). has w (i % 64)) (kept_alive (i / 64) d) ∙ c i (omega arith) ∙ ap (λ (u : Bool). cond u 1 0) (sym (live_old es e i t))
  ]
    where
      word : (i : ℕ) → i / 64 ≡ length es / 64 → live_in g (alive_place cap l) i ≡ has (get_or h (alive_place cap l + i / 64) 0 % 2 ^ (length es % 64) + 2 ^ (length es % 64)) (i % 64)
      word i d =
          ap (λ (w : ℕ). has (get_or g (alive_place cap l + w) 0) (i % 64)) d ∙ ap (λ (w : ℕ). has w (i % 64)) p.live_word
          ∙ ap (λ (w : ℕ). has (get_or h (alive_place cap l + w) 0 % 2 ^ (length es % 64) + 2 ^ (length es % 64)) (i % 64)) (sym d)

      here : (i : ℕ) → i / 64 ≡ length es / 64 → (length es % 64 < i % 64) ⊎ ((i % 64 ≡ length es % 64) ⊎ (i % 64 < length es % 64)) → live_in g (alive_place cap l) i ≡ cond (live_at (es ++ (e ∷ [])) i) 1 0
      here i d (inl t) =
          word i d ∙ top_above (get_or h (alive_place cap l + i / 64) 0) (length es % 64) (i % 64) t ∙ ap (λ (u : Bool). cond u 1 0) (sym (live_past i (omega arith)))
      here i d (inr (inl t)) =
          let s : i ≡ length es = omega arith in
          word i d ∙ ap (λ (j : ℕ). has (get_or h (alive_place cap l + i / 64) 0 % 2 ^ (length es % 64) + 2 ^ (length es % 64)) j) t
          ∙ top_here (get_or h (alive_place cap l + i / 64) 0) (length es % 64) ∙ ap (λ (u : Bool). cond u 1 0) (sym (ap (live_at (es ++ (e ∷ []))) s ∙ live_new))
      here i d (inr (inr t)) =
          let s : i < length es = omega arith in
          word i d ∙ top_below (get_or h (alive_place cap l + i / 64) 0) (length es % 64) (i % 64) t ∙ c i (omega arith) ∙ ap (λ (u : Bool). cond u 1 0) (sym (live_old es e i s))

  put_held : EventsHeld cap l es h → EventsHeld cap l (es ++ (e ∷ [])) g
  put_held c = record {
    chains = put_Chains c.chains;
    bodies = put_Bodies c.bodies;
    signed = put_Signed c.signed;
    axed = put_Axed c.axed;
    alive = put_Alive c.alive;
  }

pub stored : (cap l id : ℕ) (es : List Event) (e : Event) (h g : List ℕ) → length es ≡ id → id < cap → e.live ≡ true → Put cap l id e h g → EventsHeld cap l es h → Stored cap l es e h g
stored cap l id es e h g n small v p c =
    let q : Put cap l (length es) e h g = subst (λ (j : ℕ). Put cap l j e h g) (sym n) p in
    record { held = put_held cap l es e h g (omega arith) v q c; only = q.only }
