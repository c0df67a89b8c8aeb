-- A scalar list's words: a number pushed, the dead dropped one after the other, and the counts written. Assumes nothing.
use mathlib.Core.Path.{◌≡◌, refl, sym, ap, ◌∙◌, subst}
use mathlib.Core.Logic.{inl, inr, ⊎_elim}
use mathlib.Core.Bool.{Bool, true, false, cond, true≢false}
use mathlib.Core.List.{List, [], ◌∷◌, ◌++◌, append-nil}
use Prim.Native.Nat.{ℕ, ◌+◌, ◌-◌, ◌*◌, ◌/◌, ◌%◌, ◌≤◌, ◌<◌}
use native.Mathlib.Nat.{not-suc-le-zero}
use native.Mathlib.Numerals.{add-one}
use native.Mathlib.Omega.{arith}
use native.Mathlib.Decide.{dec_lt}
use lib.ListN.{length, get_or, set, take, drop, length-set, length-append, get_or-append}
use lib.Dec.{eqb}
use lib.Seq.{get_or-set_same, get_or-set_other, get_or-append_seam, get_or-drop, take-suc, take-length}
use borrow.Author.Tests.{lt-ltb, le-ltb}
use Rattle.model.specs.Pauli.{has}
use Rattle.model.specs.Events.{words, keep}
use Rattle.model.proofs.Members.{keep_yes, keep_no, keep_append, length-keep, clash}
use Rattle.pauli.proofs.Walk.{same?}
use Rattle.pauli.proofs.Words.{rest_part, rest_length}
use Rattle.lists.specs.Lists.{Room, Numbers, Only, Among, is_live, Known, drops_at, left, still}
use Rattle.lists.specs.Scalars.{Scalar, ScalarTo, pushed, noted, Retained, Dropped}
use Rattle.std.specs.Prelude.{Result, Ok, Err, IsErr}
use Rattle.std.specs.Result.{result_unwrap_or}
use Rattle.pauli.specs.declared.corrupt.Corrupt.{Corrupt}

-- ---- a number at the end

pub length-pushed : (id : ℕ) (ids : List ℕ) → length (pushed id ids) ≡ length ids + 1
unfolding pushed
length-pushed id ids = length-append ids (id ∷ [])

pub pushed_here : (id : ℕ) (ids : List ℕ) (i : ℕ) → i ≡ length ids → get_or (pushed id ids) i 0 ≡ id
unfolding pushed
pushed_here id ids i e = ap (λ (n : ℕ). get_or (ids ++ (id ∷ [])) n 0) e ∙ get_or-append_seam ids id [] 0

pub pushed_other : (id : ℕ) (ids : List ℕ) (i : ℕ) → i < length ids → get_or (pushed id ids) i 0 ≡ get_or ids i 0
unfolding pushed
pushed_other id ids i l = get_or-append ids (id ∷ []) 0 i l

-- numbers that stay, and one more behind them
pub numbers_more : (h g : List ℕ) (base id : ℕ) (ids : List ℕ) → Numbers h base ids → ((i : ℕ) → i < length ids → get_or g (base + i) 0 ≡ get_or h (base + i) 0)
    → get_or g (base + length ids) 0 ≡ id → Numbers g base (pushed id ids)
numbers_more h g base id ids m same here i l =
    let n = length-pushed id ids in
    ⊎_elim
    (λ (e : i ≡ length ids). ap (λ (j : ℕ). get_or g (base + j) 0) e ∙ here ∙ sym (pushed_here id ids i e))
    (λ (d : i ≡ length ids → ⊥).
    let lt : i < length ids = omega arith in
    same i lt ∙ m i lt ∙ sym (pushed_other id ids i lt))
    (same? i (length ids))

module _ (h : List ℕ) (at base cap id n : ℕ) (ids : List ℕ) (d : ℕ) (room : Room h at base cap) (m : Scalar h at base cap ids d) (e : n ≡ length ids) (lt : length ids < cap) where
  pushed_to_is : ScalarTo h at base cap (pushed id ids) d (set (set h (base + n) id) at (n + 1))
  pushed_to_is =
      let long = length-pushed id ids in
      let l₁ = length-set h (base + n) id in
      let l₂ = length-set (set h (base + n) id) at (n + 1) in
      let a = room.counts in
      let b = room.fits in
      let at₂ : (k : ℕ) → (k ≡ at → ⊥) → get_or (set (set h (base + n) id) at (n + 1)) k 0 ≡ get_or (set h (base + n) id) k 0 = λ k f. get_or-set_other (set h (base + n) id) at k (n + 1) 0 f in
      let at₁ : (k : ℕ) → (k ≡ base + n → ⊥) → get_or (set h (base + n) id) k 0 ≡ get_or h k 0 = λ k f. get_or-set_other h (base + n) k id 0 f in
      record {
        holds = record {
          counts = record {
            len = get_or-set_same (set h (base + n) id) at (n + 1) 0 (omega arith) ∙ omega arith;
            dead = at₂ (at + 1) (λ f. omega arith) ∙ at₁ (at + 1) (λ f. omega arith) ∙ m.counts.dead;
          };
          within = omega arith;
          numbers = numbers_more h (set (set h (base + n) id) at (n + 1)) base id ids m.numbers
              (λ i l. at₂ (base + i) (λ f. omega arith) ∙ at₁ (base + i) (λ f. omega arith))
              (ap (λ (j : ℕ). get_or (set (set h (base + n) id) at (n + 1)) (base + j) 0) (sym e)
              ∙ at₂ (base + n) (λ f. omega arith) ∙ get_or-set_same h (base + n) id 0 (omega arith));
        };
        only = record {
          same_length = l₂ ∙ l₁;
          kept = λ k f. at₂ k (λ q. f (inl (omega arith, omega arith))) ∙ at₁ k (λ q. f (inr (omega arith, omega arith)));
        };
      }

pub pushed_to : (h : List ℕ) (at base cap id : ℕ) (ids : List ℕ) (d : ℕ) → Room h at base cap → Scalar h at base cap ids d → length ids < cap
    → ScalarTo h at base cap (pushed id ids) d (set (set h (base + get_or h at 0) id) at (get_or h at 0 + 1))
pushed_to h at base cap id ids d room m lt = pushed_to_is h at base cap id (get_or h at 0) ids d room m m.counts.len lt

-- ---- the steps of a drop

pub same_Ok : {E : Type 0} (j k : ℕ) → ◌≡◌ {A = Result ℕ E} (Ok j) (Ok k) → j ≡ k
same_Ok j k e = cc

pub err_not : {X E A : Type 0} (r : Result X E) (k : X) → IsErr r → r ≡ Ok k → A
err_not (Ok j) k b e = absurd (true≢false (sym b))
err_not (Err x) k b e = absurd cc

pub in_words : (e n : ℕ) → e < n → e / 64 < words n
unfolding words
in_words e n l = omega arith

-- the set of live events, as a part
pub live_part : (h : List ℕ) (alive e : ℕ) → eqb (has (get_or (take (length h - alive) (drop alive h)) (e / 64) 0) (e % 64)) 1 ≡ is_live h alive e
unfolding is_live
live_part h alive e = ap (λ (w : ℕ). eqb (has w (e % 64)) 1) (ap (λ (p : List ℕ). get_or p (e / 64) 0) (rest_part h alive) ∙ get_or-drop alive h (e / 64) 0)

pub part_long : (h : List ℕ) (alive base k e n : ℕ) → e < n → alive + words n ≤ base → base + k < length h → e / 64 < length (take (length h - alive) (drop alive h))
part_long h alive base k e n l f g = omega (arith, in_words e n l, rest_length h alive)

-- a test whose error counts as no
pub yes_is : {E : Type 0} (a : Result Bool E) → result_unwrap_or a false ≡ true → a ≡ Ok true
yes_is (Ok t) e = ap Ok e
yes_is (Err x) e = absurd (true≢false (sym e))

-- what a test of the set says of the event id
module _ (h : List ℕ) (alive events id : ℕ) (a : Result Bool Corrupt) (unknown : events ≤ id → IsErr a) (known : id < events → a ≡ Ok (is_live h alive id)) where
  pub told : (t : Bool) → a ≡ Ok t → (id < events) × (is_live h alive id ≡ t)
  told t e = elim (dec_lt id events) [
    | yes l ↦ (l, let k = known l in cc)
    | no l ↦ err_not a t (unknown (omega arith)) e
  ]

  pub told_none : IsErr a → events ≤ id
  told_none e = elim (dec_lt id events) [
    | yes l ↦ err_not a (is_live h alive id) e (known l)
    | no l ↦ omega arith
  ]

pub only_none : (P : ℕ → Type 0) (s : List ℕ) → Only P s s
only_none P s = record { same_length = refl; kept = λ k f. refl }

module _ (h : List ℕ) (base k alive events id : ℕ) where
  pub Retained-bad : events ≤ id → (q : Result ℕ Corrupt) → IsErr q → Retained h base k alive events id q h
  Retained-bad l q f = record {
    unknown = λ g. f;
    live = λ g. absurd (omega arith);
    dead = λ g. absurd (omega arith);
    next = λ j e. err_not q j f e;
    only = only_none (Among (base + k) 1) h;
  }

  pub Retained-live : id < events → base + k < length h → is_live h alive id ≡ true → Retained h base k alive events id (Ok (k + 1)) (set h (base + k) id)
  Retained-live l f t = record {
    unknown = λ g. absurd (omega arith);
    live = λ g e. (refl, get_or-set_same h (base + k) id 0 f);
    dead = λ g e. clash (is_live h alive id) t e;
    next = λ j e. omega (arith, same_Ok (k + 1) j e);
    only = record { same_length = length-set h (base + k) id; kept = λ j g. get_or-set_other h (base + k) j id 0 (λ e. g (omega arith, omega arith)) };
  }

  pub Retained-dead : id < events → is_live h alive id ≡ false → Retained h base k alive events id (Ok k) h
  Retained-dead l t = record {
    unknown = λ g. absurd (omega arith);
    live = λ g e. clash (is_live h alive id) e t;
    dead = λ g e. (refl, refl);
    next = λ j e. omega (arith, same_Ok k j e);
    only = only_none (Among (base + k) 1) h;
  }

-- ---- a drop

-- of the first i entries k are kept, in the first k places; no other word is written
pub record Sifted (s : List ℕ) (base alive : ℕ) (ids : List ℕ) (h : List ℕ) (i k : ℕ) : Type 0 where
  pub count : k ≡ length (keep (is_live s alive) (take i ids))
  pub numbers : Numbers h base (keep (is_live s alive) (take i ids))
  pub only : Only (Among base k) s h

pub record Dropping (s : List ℕ) (base len alive events : ℕ) (h : List ℕ) (i k : ℕ) : Type 0 where
  pub order : k ≤ i
  pub within : i ≤ len
  pub long : length h ≡ length s
  pub all : (ids : List ℕ) → length ids ≡ len → Numbers s base ids → Known events ids → Sifted s base alive ids h i k

pub Dropping-none : (s : List ℕ) (base len alive events : ℕ) → Dropping s base len alive events s 0 0
unfolding keep
Dropping-none s base len alive events = record {
  order = omega arith;
  within = omega arith;
  long = refl;
  all = λ ids e m f. record { count = refl; numbers = λ i l. absurd (not-suc-le-zero l); only = only_none (Among base 0) s };
}

-- one more entry
module _ (p : ℕ → Bool) (ids : List ℕ) (i x : ℕ) (l : i < length ids) (e : x ≡ get_or ids i 0) where
  next_take : take (i + 1) ids ≡ take i ids ++ (x ∷ [])
  next_take = ap (λ (n : ℕ). take n ids) (add-one i) ∙ take-suc ids i 0 l ∙ ap (λ (y : ℕ). take i ids ++ (y ∷ [])) (sym e)

  keep_next_yes : p x ≡ true → keep p (take (i + 1) ids) ≡ pushed x (keep p (take i ids))
  unfolding pushed keep
  keep_next_yes t = ap (keep p) next_take ∙ keep_append p (take i ids) (x ∷ []) ∙ ap (λ (w : List ℕ). keep p (take i ids) ++ w) (keep_yes p x [] t)

  keep_next_no : p x ≡ false → keep p (take (i + 1) ids) ≡ keep p (take i ids)
  unfolding keep
  keep_next_no t = ap (keep p) next_take ∙ keep_append p (take i ids) (x ∷ []) ∙ ap (λ (w : List ℕ). keep p (take i ids) ++ w) (keep_no p x [] t) ∙ append-nil (keep p (take i ids))

module _ (s : List ℕ) (base len alive events : ℕ) (h : List ℕ) (i k : ℕ) (g : List ℕ) (id : ℕ) (r : Result ℕ Corrupt)
    (sets : alive + words events ≤ base) (lt : i < len) (m : Dropping s base len alive events h i k) (word : id ≡ get_or h (base + i) 0)
    (turn : Retained h base k alive events id r g) where
  module _ (ids : List ℕ) (e : length ids ≡ len) (ns : Numbers s base ids) (known : Known events ids) where
    so_far : Sifted s base alive ids h i k
    so_far = m.all ids e ns known

    id_is : id ≡ get_or ids i 0
    id_is =
        let o = m.order in
        word ∙ so_far.only.kept (base + i) (λ q. omega (arith, q.1)) ∙ ns i (omega arith)

    id_known : id < events
    id_known = omega (arith, id_is, known i (omega arith))

    live_same : is_live h alive id ≡ is_live s alive id
    unfolding is_live
    live_same =
        let w = in_words id events id_known in
        ap (λ (v : ℕ). eqb (has v (id % 64)) 1) (so_far.only.kept (alive + id / 64) (λ q. omega (arith, q.0)))

    turn_live : is_live s alive id ≡ true → (r ≡ Ok (k + 1)) × (get_or g (base + k) 0 ≡ id)
    turn_live t = turn.live id_known (live_same ∙ t)

    turn_dead : is_live s alive id ≡ false → (r ≡ Ok k) × (g ≡ h)
    turn_dead t = turn.dead id_known (live_same ∙ t)

    not_bad : {A : Type 0} → IsErr r → A
    not_bad {A} b = go (is_live s alive id) refl
      where
        go : (t : Bool) → is_live s alive id ≡ t → A
        go true t = err_not r (k + 1) b (turn_live t).0
        go false t = err_not r k b (turn_dead t).0

    module _ (next : ℕ) (a : r ≡ Ok next) where
      Sifted-more : Sifted s base alive ids g (i + 1) next
      Sifted-more = go (is_live s alive id) refl
        where
          go : (t : Bool) → is_live s alive id ≡ t → Sifted s base alive ids g (i + 1) next
          go true t =
              let n : next ≡ k + 1 = same_Ok next (k + 1) (sym a ∙ (turn_live t).0) in
              let q : keep (is_live s alive) (take (i + 1) ids) ≡ pushed id (keep (is_live s alive) (take i ids)) = keep_next_yes (is_live s alive) ids i id (omega arith) id_is t in
              let c = so_far.count in
              let o = so_far.only in
              record {
                count = n ∙ ap (λ (j : ℕ). j + 1) c ∙ sym (ap (length {A = ℕ}) q ∙ length-pushed id (keep (is_live s alive) (take i ids)));
                numbers = subst (Numbers g base) (sym q)
                    (numbers_more h g base id (keep (is_live s alive) (take i ids)) so_far.numbers
                    (λ j l. turn.only.kept (base + j) (λ w. omega (arith, w.0)))
                    (ap (λ (j : ℕ). get_or g (base + j) 0) (sym c) ∙ (turn_live t).1));
                only = record {
                  same_length = turn.only.same_length ∙ o.same_length;
                  kept = λ j f. turn.only.kept j (λ w. f (omega (arith, w.0, w.1), omega (arith, w.0, w.1))) ∙ o.kept j (λ w. f (w.0, omega (arith, w.1)));
                };
              }
          go false t =
              let n : next ≡ k = same_Ok next k (sym a ∙ (turn_dead t).0) in
              let q : keep (is_live s alive) (take (i + 1) ids) ≡ keep (is_live s alive) (take i ids) = keep_next_no (is_live s alive) ids i id (omega arith) id_is t in
              let c = so_far.count in
              record {
                count = n ∙ c ∙ sym (ap (length {A = ℕ}) q);
                numbers = subst (Numbers g base) (sym q) (subst (λ (w : List ℕ). Numbers w base (keep (is_live s alive) (take i ids))) (sym (turn_dead t).1) so_far.numbers);
                only = subst (λ (w : List ℕ). Only (Among base next) s w) (sym (turn_dead t).1) (subst (λ (j : ℕ). Only (Among base j) s h) (sym n) so_far.only);
              }

  pub Dropping-more : (next : ℕ) → r ≡ Ok next → Dropping s base len alive events g (i + 1) next
  Dropping-more next a =
      let o = m.order in
      record {
        order = omega (arith, turn.next next a);
        within = omega arith;
        long = turn.only.same_length ∙ m.long;
        all = λ ids e ns known. Sifted-more ids e ns known next a;
      }

  pub Dropped-bad : IsErr r → (q : Result ℕ Corrupt) → IsErr q → Dropped s base len alive events q g
  Dropped-bad b q f = record {
    long = turn.only.same_length ∙ m.long;
    next = λ j e. err_not q j f e;
    all = λ ids e ns known. not_bad ids e ns known b;
  }

pub Dropped-all : (s : List ℕ) (base len alive events : ℕ) (h : List ℕ) (i k : ℕ) → len ≤ i → Dropping s base len alive events h i k → Dropped s base len alive events (Ok k) h
Dropped-all s base len alive events h i k l m =
    let o = m.order in
    let w = m.within in
    record {
      long = m.long;
      next = λ j e. omega (arith, same_Ok k j e);
      all = λ ids e ns known.
          let f = m.all ids e ns known in
          let q : i ≡ length ids = omega arith in
          let t : keep (is_live s alive) (take i ids) ≡ keep (is_live s alive) ids = ap (keep (is_live s alive)) (ap (λ (n : ℕ). take n ids) q ∙ take-length ids) in
          let c : k ≡ length (keep (is_live s alive) ids) = f.count ∙ ap (length {A = ℕ}) t in
          (ap Ok c, subst (Numbers h base) t f.numbers, subst (λ (n : ℕ). Only (Among base n) s h) c f.only);
    }

-- ---- one more is dead

module _ (h : List ℕ) (alive d : ℕ) (ids : List ℕ) where
  noted_few : 4 * (d + 1) ≤ length ids → noted h alive d ids ≡ ids
  unfolding noted left drops_at
  noted_few l = ap (λ (b : Bool). cond b (keep (is_live h alive) ids) ids) (le-ltb (length ids) (4 * (d + 1)) l)

  noted_many : length ids < 4 * (d + 1) → noted h alive d ids ≡ keep (is_live h alive) ids
  unfolding noted left drops_at
  noted_many l = ap (λ (b : Bool). cond b (keep (is_live h alive) ids) ids) (lt-ltb (length ids) (4 * (d + 1)) l)

still_few : (f d n : ℕ) → f * d ≤ n → still f d n ≡ d
unfolding still drops_at
still_few f d n l = ap (λ (b : Bool). cond b 0 d) (le-ltb n (f * d) l)

still_many : (f d n : ℕ) → n < f * d → still f d n ≡ 0
unfolding still drops_at
still_many f d n l = ap (λ (b : Bool). cond b 0 d) (lt-ltb n (f * d) l)

module _ (h : List ℕ) (at base cap alive : ℕ) (ids : List ℕ) (d : ℕ) (room : Room h at base cap) (m : Scalar h at base cap ids d) where
  pub noted_kept : 4 * (get_or h (at + 1) 0 + 1) ≤ get_or h at 0
      → ScalarTo h at base cap (noted h alive d ids) (still 4 (d + 1) (length ids)) (set h (at + 1) (get_or h (at + 1) 0 + 1))
  noted_kept l =
      let n = m.counts.len in
      let e = m.counts.dead in
      let a = room.counts in
      let b = room.fits in
      let w = m.within in
      let few : 4 * (d + 1) ≤ length ids = omega arith in
      let is : ScalarTo h at base cap ids (d + 1) (set h (at + 1) (get_or h (at + 1) 0 + 1)) = record {
        holds = record {
          counts = record {
            len = get_or-set_other h (at + 1) at (get_or h (at + 1) 0 + 1) 0 (λ f. omega arith) ∙ n;
            dead = get_or-set_same h (at + 1) (get_or h (at + 1) 0 + 1) 0 (omega arith) ∙ ap (λ (k : ℕ). k + 1) e;
          };
          within = w;
          numbers = λ i g. get_or-set_other h (at + 1) (base + i) (get_or h (at + 1) 0 + 1) 0 (λ f. omega arith) ∙ m.numbers i g;
        };
        only = record {
          same_length = length-set h (at + 1) (get_or h (at + 1) 0 + 1);
          kept = λ k f. get_or-set_other h (at + 1) k (get_or h (at + 1) 0 + 1) 0 (λ q. f (inl (omega arith, omega arith)));
        };
      } in
      subst (λ (t : List ℕ). ScalarTo h at base cap t (still 4 (d + 1) (length ids)) (set h (at + 1) (get_or h (at + 1) 0 + 1))) (sym (noted_few h alive d ids few))
      (subst (λ (k : ℕ). ScalarTo h at base cap ids k (set h (at + 1) (get_or h (at + 1) 0 + 1))) (sym (still_few 4 (d + 1) (length ids) few)) is)

  module _ (events : ℕ) (known : Known events ids) (g : List ℕ) (r : Result ℕ Corrupt) (dropped : Dropped h base (get_or h at 0) alive events r g) where
    pub drop_not_bad : {A : Type 0} → IsErr r → A
    drop_not_bad b = err_not r (length (keep (is_live h alive) ids)) b (dropped.all ids (sym m.counts.len) m.numbers known).0

    pub noted_dropped : (k : ℕ) → r ≡ Ok k → get_or h at 0 < 4 * (get_or h (at + 1) 0 + 1)
        → ScalarTo h at base cap (noted h alive d ids) (still 4 (d + 1) (length ids)) (set (set g at k) (at + 1) 0)
    noted_dropped k q l =
        let n = m.counts.len in
        let e = m.counts.dead in
        let a = room.counts in
        let b = room.fits in
        let w = m.within in
        let all = dropped.all ids (sym n) m.numbers known in
        let long = dropped.long in
        let l₁ = length-set g at k in
        let l₂ = length-set (set g at k) (at + 1) 0 in
        let c : k ≡ length (keep (is_live h alive) ids) = same_Ok k (length (keep (is_live h alive) ids)) (sym q ∙ all.0) in
        let fewer = length-keep (is_live h alive) ids in
        let many : length ids < 4 * (d + 1) = omega arith in
        let at₂ : (j : ℕ) → (j ≡ at + 1 → ⊥) → get_or (set (set g at k) (at + 1) 0) j 0 ≡ get_or (set g at k) j 0 = λ j f. get_or-set_other (set g at k) (at + 1) j 0 0 f in
        let at₁ : (j : ℕ) → (j ≡ at → ⊥) → get_or (set g at k) j 0 ≡ get_or g j 0 = λ j f. get_or-set_other g at j k 0 f in
        let is : ScalarTo h at base cap (keep (is_live h alive) ids) 0 (set (set g at k) (at + 1) 0) = record {
          holds = record {
            counts = record {
              len = at₂ at (λ f. omega arith) ∙ get_or-set_same g at k 0 (omega arith) ∙ c;
              dead = get_or-set_same (set g at k) (at + 1) 0 0 (omega arith);
            };
            within = omega arith;
            numbers = λ i f. at₂ (base + i) (λ z. omega arith) ∙ at₁ (base + i) (λ z. omega arith) ∙ all.1 i f;
          };
          only = record {
            same_length = l₂ ∙ l₁ ∙ long;
            kept = λ j f. at₂ j (λ z. f (inl (omega arith, omega arith))) ∙ at₁ j (λ z. f (inl (omega arith, omega arith))) ∙ all.2.kept j (λ z. f (inr z));
          };
        } in
        subst (λ (t : List ℕ). ScalarTo h at base cap t (still 4 (d + 1) (length ids)) (set (set g at k) (at + 1) 0)) (sym (noted_many h alive d ids many))
        (subst (λ (j : ℕ). ScalarTo h at base cap (keep (is_live h alive) ids) j (set (set g at k) (at + 1) 0)) (sym (still_many 4 (d + 1) (length ids) many)) is)
