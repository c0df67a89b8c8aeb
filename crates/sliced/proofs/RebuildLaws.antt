-- A sliced list rebuilt from its live entries, entry by entry; and the parts of a slice. Assumes nothing.
use mathlib.Core.Path.{◌≡◌, refl, sym, ap, ◌∙◌, subst}
use mathlib.Core.Logic.{◌⊎◌, inl, inr, ⊎_elim}
use mathlib.Core.Bool.{Bool, true, false, cond, true≢false}
use mathlib.Core.List.{List, [], ◌∷◌, ◌++◌}
use Prim.Native.Nat.{ℕ, suc, ◌+◌, ◌-◌, ◌*◌, ◌/◌, ◌%◌, ◌^◌, ◌≤◌, ◌<◌, suc-le-suc}
use native.Mathlib.Nat.{zero-lt-suc, div-eq_of_lt, div-lt_iff_lt-mul, one-mul, mul-le-mul_right}
use native.Mathlib.Numerals.{add-one}
use native.Mathlib.Omega.{arith}
use native.Mathlib.Decide.{dec_lt}
use lib.Pow.{pow_pos}
use lib.Bits.{bit_or, or_lt, or_add_and, and_le_l, and_le_r}
use lib.Dec.{eqb}
use lib.ListN.{length, get_or, take, drop, length-append, length-drop}
use lib.Seq.{take-suc, take_all, get_or-take, get_or-drop, length-take-le}
use Rattle.model.specs.Pauli.{has}
use Rattle.model.specs.Events.{words}
use Rattle.model.proofs.Digits.{has_zero}
use Rattle.pauli.specs.Sets.{member}
use Rattle.pauli.proofs.Walk.{same?}
use Rattle.pauli.proofs.Digits.{has_not}
use Rattle.std.specs.Prelude.{Result, Ok, Err, IsErr}
use Rattle.pauli.specs.declared.corrupt.Corrupt.{Corrupt}
use Rattle.lists.specs.Lists.{Only, is_live}
use Rattle.lists.specs.Scalars.{pushed}
use Rattle.lists.proofs.ScalarLaws.{same_Ok, err_not}
use Rattle.sliced.specs.Blocks.{Entry, no_entry, fresh, entry, live_place, Reps, UsedBlocks, Source, kept}
use Rattle.sliced.specs.Steps.{Appended, Stepped, Settled, Rebuilt}
use Rattle.sliced.proofs.BlockLaws.{block_end}

-- ---- a part of the slice

pub part_get : (h : List ℕ) (at s i : ℕ) → i < s → get_or (take (at + s - at) (drop at h)) i 0 ≡ get_or h (at + i) 0
part_get h at s i l = get_or-take (at + s - at) (drop at h) i 0 (omega arith) ∙ get_or-drop at h i 0

pub part_length : (h : List ℕ) (at s : ℕ) → at + s ≤ length h → length (take (at + s - at) (drop at h)) ≡ s
part_length h at s l = length-take-le (at + s - at) (drop at h) (omega (arith, length-drop at h)) ∙ omega arith

-- what `contains` says of the part that holds the set of live events
pub live_part : (h : List ℕ) (alive s e : ℕ) (r : Bool) → e / 64 < s → r ≡ eqb (member (take (alive + s - alive) (drop alive h)) e) 1 → r ≡ is_live h alive e
unfolding is_live
live_part h alive s e r l q = q ∙ ap (λ (x : ℕ). eqb (has x (e % 64)) 1) (part_get h alive s (e / 64) l)

-- ---- which words a list uses

-- a word of a list is one of a longer list too
used_more : (base cap n k j : ℕ) → UsedBlocks base cap n k j → UsedBlocks base cap n (k + 1) j
unfolding words
used_more base cap n k j (inl u) = inl (u.0, omega (arith, u.1))
used_more base cap n k j (inr (inl u)) =
    let l : (k + 63) / 64 ≤ (k + 1 + 63) / 64 = omega arith in
    inr (inl (u.0, omega (arith, u.1, mul-le-mul_right (2 * n) l)))
used_more base cap n k j (inr (inr u)) = inr (inr (u.0, omega (arith, u.1)))

-- appending writes no other word
pub Appended-Only : (h : List ℕ) (base cap n k : ℕ) (e : Entry) (g : List ℕ) → Appended h base cap n k e g → Only (UsedBlocks base cap n (k + 1)) h g
unfolding words
Appended-Only h base cap n k e g a = record {
  same_length = a.long;
  kept = λ j w. a.other j (λ q. w (inl (omega arith, omega arith)))
      (λ b lb q. w (inr (inl (omega arith, omega (arith, block_end (k / 64) ((k + 1 + 63) / 64) (2 * n) (omega arith))))))
      (λ q. w (inr (inr (omega arith, omega arith))));
}

-- one more entry in a list that was built in place
Only-more : (h₀ h : List ℕ) (base cap n k : ℕ) (e : Entry) (g : List ℕ) → Only (UsedBlocks base cap n k) h₀ h → Appended h base cap n k e g → Only (UsedBlocks base cap n (k + 1)) h₀ g
Only-more h₀ h base cap n k e g o a =
    let p : Only (UsedBlocks base cap n (k + 1)) h g = Appended-Only h base cap n k e g a in
    record {
      same_length = p.same_length ∙ o.same_length;
      kept = λ j w. p.kept j w ∙ o.kept j (λ u. w (used_more base cap n k j u));
    }

-- a word before the list is none of its words, and neither is the number at a later place
pub not_before : (base cap n k j : ℕ) → j < base → UsedBlocks base cap n k j → ⊥
not_before base cap n k j l (inl u) = omega (arith, u.0)
not_before base cap n k j l (inr (inl u)) = omega (arith, u.0)
not_before base cap n k j l (inr (inr u)) = omega (arith, u.0)

not_later : (base cap n k j : ℕ) → k ≤ j → j < cap → UsedBlocks base cap n k (base + j) → ⊥
not_later base cap n k j l lc (inl u) = omega (arith, u.1)
not_later base cap n k j l lc (inr (inl u)) = omega (arith, u.0)
not_later base cap n k j l lc (inr (inr u)) = omega (arith, u.0)

-- ---- one entry

or_left : (x z : ℕ) → x ≤ bit_or x z
or_left x z = omega (arith, or_add_and x z, and_le_r x z)

or_right : (x z : ℕ) → z ≤ bit_or x z
or_right x z = omega (arith, or_add_and x z, and_le_l x z)

-- `(x | z) >> n == 0`
small : (x n : ℕ) → x / 2 ^ n ≡ 0 → x < 2 ^ n
small x n e = subst (λ (y : ℕ). x < y) (one-mul (2 ^ n)) ((div-lt_iff_lt-mul (pow_pos n)).0 (omega arith))

pub small_x : (x z n : ℕ) → bit_or x z / 2 ^ n ≡ 0 → x < 2 ^ n
small_x x z n e = omega (arith, small (bit_or x z) n e, or_left x z)

pub small_z : (x z n : ℕ) → bit_or x z / 2 ^ n ≡ 0 → z < 2 ^ n
small_z x z n e = omega (arith, small (bit_or x z) n e, or_right x z)

module _ (h : List ℕ) (base cap n k alive axes events id : ℕ) where
  pub Stepped-unknown : events ≤ id → (q : Result ℕ Corrupt) → IsErr q → Stepped h base cap n k alive axes events id q h
  Stepped-unknown l q f = record {
    unknown = λ a. f;
    dead = λ a b. absurd (omega arith);
    live = λ a b c d. absurd (omega arith);
    next = λ j e. err_not q j f e;
    long = refl;
  }

  pub Stepped-wide : id < events → is_live h alive id ≡ true → (bit_or (get_or h (axes + 2 * id) 0) (get_or h (axes + (2 * id + 1)) 0) / 2 ^ n ≡ 0 → ⊥)
      → Stepped h base cap n k alive axes events id (Err (record {})) h
  Stepped-wide l o w = record {
    unknown = λ a. refl;
    dead = λ a b. absurd (true≢false (sym o ∙ b));
    live = λ a b c d. absurd (w (div-eq_of_lt (or_lt n (get_or h (axes + 2 * id) 0) (get_or h (axes + (2 * id + 1)) 0) c d)));
    next = λ j e. absurd cc;
    long = refl;
  }

  pub Stepped-dead : id < events → is_live h alive id ≡ false → Stepped h base cap n k alive axes events id (Ok k) h
  Stepped-dead l z = record {
    unknown = λ a. absurd (omega arith);
    dead = λ a b. (refl, refl);
    live = λ a b c d. absurd (true≢false (sym b ∙ z));
    next = λ j e. omega (arith, same_Ok k j e);
    long = refl;
  }

  pub Stepped-live : (g : List ℕ) → id < events → is_live h alive id ≡ true
      → Appended h base cap n k (fresh id (get_or h (axes + 2 * id) 0) (get_or h (axes + (2 * id + 1)) 0)) g → Stepped h base cap n k alive axes events id (Ok (k + 1)) g
  Stepped-live g l o p = record {
    unknown = λ a. absurd (omega arith);
    dead = λ a b. absurd (true≢false (sym o ∙ b));
    live = λ a b c d. (refl, p);
    next = λ i e. omega (arith, same_Ok (k + 1) i e);
    long = p.long;
  }

-- ---- the list so far

cond-append : (b : Bool) (e : Entry) (l t : List Entry) → cond b (e ∷ (l ++ t)) (l ++ t) ≡ cond b (e ∷ l) l ++ t
cond-append true e l t = refl
cond-append false e l t = refl

kept_drop : (f : ℕ → Bool) (l : List Entry) (e : Entry) → f e.id ≡ false → kept f (l ++ (e ∷ [])) ≡ kept f l
unfolding kept
kept_drop f [] e z = ap (λ (b : Bool). cond b (fresh e.id e.x e.z ∷ []) []) z
kept_drop f (a ∷ l) e z = ap (λ (t : List Entry). cond (f a.id) (fresh a.id a.x a.z ∷ t) t) (kept_drop f l e z)

kept_keep : (f : ℕ → Bool) (l : List Entry) (e : Entry) → f e.id ≡ true → kept f (l ++ (e ∷ [])) ≡ kept f l ++ (fresh e.id e.x e.z ∷ [])
unfolding kept
kept_keep f [] e z = ap (λ (b : Bool). cond b (fresh e.id e.x e.z ∷ []) []) z
kept_keep f (a ∷ l) e z =
    ap (λ (t : List Entry). cond (f a.id) (fresh a.id a.x a.z ∷ t) t) (kept_keep f l e z)
    ∙ cond-append (f a.id) (fresh a.id a.x a.z) (kept f l) (fresh e.id e.x e.z ∷ [])

-- after i entries of m, k of which were kept, the slice is h; it was h₀
pub record Building (h₀ : List ℕ) (base cap n alive : ℕ) (m : List Entry) (i k : ℕ) (h : List ℕ) : Type 0 where
  pub count : length (kept (is_live h₀ alive) (take i m)) ≡ k
  pub reps : Reps h base cap n (kept (is_live h₀ alive) (take i m))
  pub only : Only (UsedBlocks base cap n k) h₀ h

-- the digits of 2 ^ k - 1
pub has_ones : (k j : ℕ) → j < k → has (2 ^ k - 1) j ≡ 1
has_ones k j l =
    let e : 2 ^ k - 1 ≡ (2 ^ k - 1) - 0 = omega arith in
    ap (λ (x : ℕ). has x j) e ∙ omega (arith, has_not k 0 j (pow_pos k) l, has_zero j)

-- entries that are marked live and whose events are live are all kept
kept_all : (f : ℕ → Bool) (l : List Entry) → ((i : ℕ) → i < length l → (f (entry l i).id ≡ true) × ((entry l i).live ≡ 1)) → kept f l ≡ l
unfolding kept
kept_all f [] all = refl
kept_all f (e ∷ l) all =
    ap (λ (t : List Entry). cond (f e.id) (fresh e.id e.x e.z ∷ t) t) (kept_all f l (λ i b. all (suc i) (suc-le-suc b)))
    ∙ ap (λ (b : Bool). cond b (fresh e.id e.x e.z ∷ l) l) (all 0 (zero-lt-suc (length l))).0
    ∙ ap (λ (v : ℕ). record { id = e.id; x = e.x; z = e.z; live = v } ∷ l) (sym (all 0 (zero-lt-suc (length l))).1)

-- what holds below j and of j holds below j + 1
pub one_more : (P : ℕ → Type 0) (j : ℕ) → ((i : ℕ) → i < j → P i) → P j → (i : ℕ) → i < j + 1 → P i
one_more P j below here i l = ⊎_elim (λ (e : i ≡ j). subst P (sym e) here) (λ n. below i (omega arith)) (same? i j)

pub Settled-none : (h : List ℕ) (base cap n len alive : ℕ) → Settled h base cap n len alive 0
Settled-none h base cap n len alive = record { within = omega arith; marked = λ c l. absurd (omega arith); live = λ i l. absurd (omega arith) }

pub Settled-more : (h : List ℕ) (base cap n len alive b : ℕ) → Settled h base cap n len alive b → b < len / 64 → get_or h (live_place base cap n b) 0 ≡ 2 ^ 64 - 1
    → ((j : ℕ) → j < 64 → is_live h alive (get_or h (base + 64 * b + j) 0) ≡ true) → Settled h base cap n len alive (b + 1)
Settled-more h base cap n len alive b s l e all = record {
  within = omega arith;
  marked = one_more (λ c. get_or h (live_place base cap n c) 0 ≡ 2 ^ 64 - 1) b s.marked e;
  live = λ i k. elim (dec_lt i (64 * b)) [
    | yes d ↦ s.live i d
    | no d ↦ let q : base + 64 * b + (i - 64 * b) ≡ base + i = omega arith in ap (λ (p : ℕ). is_live h alive (get_or h p 0)) (sym q) ∙ all (i - 64 * b) (omega arith)
  ];
}

-- a rebuild begins behind the blocks that stay as they are
module _ (h : List ℕ) (base cap n len alive b : ℕ) (m : List Entry) (s : Settled h base cap n len alive b) (long : length m ≡ len) (r : Reps h base cap n m) where
  front_long : length (take (64 * b) m) ≡ 64 * b
  front_long = length-take-le (64 * b) m (omega (arith, s.within))

  front_at : (i : ℕ) → i < 64 * b → entry (take (64 * b) m) i ≡ entry m i
  front_at i l = get_or-take (64 * b) m i no_entry l

  in_block : (c j : ℕ) → c < b → j < 64 → c * 64 + j < 64 * b
  in_block c j l k = omega arith

  block_used : (c : ℕ) → c < b → c < words (length m)
  unfolding words
  block_used c l = omega (arith, s.within)

  marked_live : (i : ℕ) → i < 64 * b → (entry m i).live ≡ 1
  marked_live i l =
      let c : i / 64 < b = omega arith in
      let e : i / 64 * 64 + i % 64 ≡ i = omega arith in
      ap (λ (k : ℕ). (entry m k).live) (sym e) ∙ sym (r.lives (i / 64) (i % 64) (block_used (i / 64) c) (omega arith))
      ∙ ap (λ (w : ℕ). has w (i % 64)) (s.marked (i / 64) c) ∙ has_ones 64 (i % 64) (omega arith)

  all_kept : kept (is_live h alive) (take (64 * b) m) ≡ take (64 * b) m
  all_kept = kept_all (is_live h alive) (take (64 * b) m) (λ i l.
      let k : i < 64 * b = omega (arith, front_long) in (
        ap (λ (e : Entry). is_live h alive e.id) (front_at i k) ∙ ap (is_live h alive) (sym (r.ids i (omega (arith, s.within)))) ∙ s.live i k,
        ap (λ (e : Entry). e.live) (front_at i k) ∙ marked_live i k,
      ))

  front_Reps : Reps h base cap n (take (64 * b) m)
  unfolding words
  front_Reps = record {
    within = omega (arith, front_long, s.within, r.within);
    ids = λ i l. let k : i < 64 * b = omega (arith, front_long) in r.ids i (omega (arith, s.within)) ∙ ap (λ (e : Entry). e.id) (sym (front_at i k));
    xs = λ c p j l lp lj. let k : c < b = omega (arith, front_long) in r.xs c p j (block_used c k) lp lj ∙ ap (λ (e : Entry). has e.x p) (sym (front_at (c * 64 + j) (in_block c j k lj)));
    zs = λ c p j l lp lj. let k : c < b = omega (arith, front_long) in r.zs c p j (block_used c k) lp lj ∙ ap (λ (e : Entry). has e.z p) (sym (front_at (c * 64 + j) (in_block c j k lj)));
    lives = λ c j l lj. let k : c < b = omega (arith, front_long) in r.lives c j (block_used c k) lj ∙ ap (λ (e : Entry). e.live) (sym (front_at (c * 64 + j) (in_block c j k lj)));
  }

  pub Building-settled : Building h base cap n alive m (64 * b) (64 * b) h
  Building-settled = record {
    count = ap length all_kept ∙ front_long;
    reps = subst (λ (l : List Entry). Reps h base cap n l) (sym all_kept) front_Reps;
    only = record { same_length = refl; kept = λ j w. refl };
  }

pub is? : (b : Bool) → (b ≡ true) ⊎ (b ≡ false)
is? true = inl refl
is? false = inr refl

module _ (h₀ : List ℕ) (base cap n len alive axes events : ℕ) (m : List Entry) (i k : ℕ) (h : List ℕ)
    (long : length m ≡ len) (held : Reps h₀ base cap n m) (src : Source h₀ n axes events m)
    (st : Building h₀ base cap n alive m i k h) (li : i < len) (lk : k ≤ i) (lc : len ≤ cap) (set_in : alive + words events ≤ base) (rows_in : axes + 2 * events ≤ base) where
  here : i < length m
  here = omega arith

  same_id : get_or h (base + i) 0 ≡ (entry m i).id
  same_id = st.only.kept (base + i) (not_later base cap n k i lk (omega arith)) ∙ held.ids i here

  same_live : is_live h alive (entry m i).id ≡ is_live h₀ alive (entry m i).id
  unfolding is_live words
  same_live =
      ap (λ (x : ℕ). eqb (has x ((entry m i).id % 64)) 1)
      (st.only.kept (alive + (entry m i).id / 64) (not_before base cap n k (alive + (entry m i).id / 64) (omega (arith, set_in, src.known i here))))

  same_x : get_or h (axes + 2 * (entry m i).id) 0 ≡ (entry m i).x
  same_x =
      st.only.kept (axes + 2 * (entry m i).id) (not_before base cap n k (axes + 2 * (entry m i).id) (omega (arith, rows_in, src.known i here))) ∙ src.xs i here

  same_z : get_or h (axes + (2 * (entry m i).id + 1)) 0 ≡ (entry m i).z
  same_z =
      st.only.kept (axes + (2 * (entry m i).id + 1)) (not_before base cap n k (axes + (2 * (entry m i).id + 1)) (omega (arith, rows_in, src.known i here))) ∙ src.zs i here

  taken : take (i + 1) m ≡ take i m ++ (entry m i ∷ [])
  taken = ap (λ (j : ℕ). take j m) (add-one i) ∙ take-suc m i no_entry here

  dropped : is_live h₀ alive (entry m i).id ≡ false → Building h₀ base cap n alive m (i + 1) k h
  dropped z = record {
    count = ap length same ∙ st.count;
    reps = subst (λ (l : List Entry). Reps h base cap n l) (sym same) st.reps;
    only = st.only;
  }
    where
      same : kept (is_live h₀ alive) (take (i + 1) m) ≡ kept (is_live h₀ alive) (take i m)
      same = ap (kept (is_live h₀ alive)) taken ∙ kept_drop (is_live h₀ alive) (take i m) (entry m i) z

  added : (g : List ℕ) → is_live h₀ alive (entry m i).id ≡ true → Appended h base cap n k (fresh (entry m i).id (entry m i).x (entry m i).z) g → Building h₀ base cap n alive m (i + 1) (k + 1) g
  unfolding pushed
  added g o p = record {
    count = ap length same ∙ length-append (kept (is_live h₀ alive) (take i m)) (fresh (entry m i).id (entry m i).x (entry m i).z ∷ []) ∙ omega (arith, st.count);
    reps = subst (λ (l : List Entry). Reps g base cap n l) (sym same) (p.reps (kept (is_live h₀ alive) (take i m)) st.count st.reps);
    only = Only-more h₀ h base cap n k (fresh (entry m i).id (entry m i).x (entry m i).z) g st.only p;
  }
    where
      same : kept (is_live h₀ alive) (take (i + 1) m) ≡ kept (is_live h₀ alive) (take i m) ++ (fresh (entry m i).id (entry m i).x (entry m i).z ∷ [])
      same = ap (kept (is_live h₀ alive)) taken ∙ kept_keep (is_live h₀ alive) (take i m) (entry m i) o

  -- an entry with its number at hand is kept or dropped
  turn : (id : ℕ) (r : Result ℕ Corrupt) (g : List ℕ) → id ≡ get_or h (base + i) 0 → Stepped h base cap n k alive axes events id r g → (j : ℕ) × (r ≡ Ok j) × Building h₀ base cap n alive m (i + 1) j g
  turn id r g q s = at_entry (subst (λ (v : ℕ). Stepped h base cap n k alive axes events v r g) (q ∙ same_id) s)
    where
      at_entry : Stepped h base cap n k alive axes events (entry m i).id r g → (j : ℕ) × (r ≡ Ok j) × Building h₀ base cap n alive m (i + 1) j g
      at_entry t =
          ⊎_elim
          (λ o. let d = t.live (src.known i here) (same_live ∙ o) (subst (λ (x : ℕ). x < 2 ^ n) (sym same_x) (src.small_x i here)) (subst (λ (x : ℕ). x < 2 ^ n) (sym same_z) (src.small_z i here)) in (
            k + 1,
            d.0,
            added g o
                (subst (λ (x : ℕ). Appended h base cap n k (fresh (entry m i).id x (entry m i).z) g) same_x
                (subst (λ (z : ℕ). Appended h base cap n k (fresh (entry m i).id (get_or h (axes + 2 * (entry m i).id) 0) z) g) same_z d.1)),
          ))
          (λ z. let d = t.dead (src.known i here) (same_live ∙ z) in
          (k, d.0, subst (λ (l : List ℕ). Building h₀ base cap n alive m (i + 1) k l) (sym d.1) (dropped z)))
          (is? (is_live h₀ alive (entry m i).id))

  pub turn_not_bad : (id : ℕ) (g : List ℕ) (r : Result ℕ Corrupt) → id ≡ get_or h (base + i) 0 → Stepped h base cap n k alive axes events id r g → IsErr r → ⊥
  turn_not_bad id g r q s e = let t = turn id r g q s in err_not r t.0 e t.1

  pub turn_at : (id : ℕ) (g : List ℕ) (r : Result ℕ Corrupt) (j : ℕ) → id ≡ get_or h (base + i) 0 → Stepped h base cap n k alive axes events id r g → r ≡ Ok j → Building h₀ base cap n alive m (i + 1) j g
  turn_at id g r j q s e =
      let t = turn id r g q s in
      subst (λ (v : ℕ). Building h₀ base cap n alive m (i + 1) v g) (same_Ok t.0 j (sym t.1 ∙ e)) t.2

-- ---- the whole

-- what the loop holds: the contract's last field after i entries, k of which were kept
abbrev pub Built : List ℕ → (base cap n len alive axes events i k : ℕ) → List ℕ → Type 0
Built h₀ base cap n len alive axes events i k h =
    (m : List Entry) → length m ≡ len → Reps h₀ base cap n m → Source h₀ n axes events m → Building h₀ base cap n alive m i k h

pub rebuilt : (h₀ : List ℕ) (base cap n len alive axes events i k : ℕ) (h : List ℕ) → length h ≡ length h₀ → len ≤ i → k ≤ len → Built h₀ base cap n len alive axes events i k h
    → Rebuilt h₀ base cap n len alive axes events (Ok k) h
rebuilt h₀ base cap n len alive axes events i k h same l lk b = record {
  long = same;
  next = λ j e. omega (arith, same_Ok k j e);
  all = λ m e held src.
      let st : Building h₀ base cap n alive m i k h = b m e held src in
      let whole : take i m ≡ m = take_all i m (omega arith) in
      let n_kept : length (kept (is_live h₀ alive) m) ≡ k = ap (λ (l : List Entry). length (kept (is_live h₀ alive) l)) (sym whole) ∙ st.count in (
        ap Ok (sym n_kept),
        subst (λ (l : List Entry). Reps h base cap n (kept (is_live h₀ alive) l)) whole st.reps,
        subst (λ (v : ℕ). Only (UsedBlocks base cap n v) h₀ h) (sym n_kept) st.only,
      );
}

-- a step that fails: then m cannot be
pub Rebuilt-bad : (h₀ : List ℕ) (base cap n len alive axes events i k : ℕ) (h : List ℕ) → Built h₀ base cap n len alive axes events i k h → i < len → k ≤ i → len ≤ cap
    → alive + words events ≤ base → axes + 2 * events ≤ base → length h ≡ length h₀
    → (id : ℕ) (g : List ℕ) (r : Result ℕ Corrupt) → id ≡ get_or h (base + i) 0 → Stepped h base cap n k alive axes events id r g → IsErr r
    → (a : Result ℕ Corrupt) → IsErr a → Rebuilt h₀ base cap n len alive axes events a g
Rebuilt-bad h₀ base cap n len alive axes events i k h b li lk lc sa ra same id g r q s e a f = record {
  long = s.long ∙ same;
  next = λ j z. err_not a j f z;
  all = λ m em held src. absurd (turn_not_bad h₀ base cap n len alive axes events m i k h em held src (b m em held src) li lk lc sa ra id g r q s e);
}
