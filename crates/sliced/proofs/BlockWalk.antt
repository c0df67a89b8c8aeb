-- The scan of a sliced list, block by block: the digits of a block's words against the numbers of its entries, and `model`'s walk over the
-- blocks. Assumes nothing.
use mathlib.Core.Path.{◌≡◌, refl, sym, ap, ap₂, ◌∙◌, subst}
use mathlib.Core.Logic.{⊎_elim}
use mathlib.Core.Bool.{Bool, true, false, cond, ◌&&◌, true≢false}
use mathlib.Core.List.{List, [], ◌∷◌, map}
use Prim.Native.Nat.{ℕ, zero, suc, ◌+◌, ◌-◌, ◌*◌, ◌/◌, ◌%◌, ◌^◌, ◌≤◌, ◌<◌, min, zero-le, suc-le-suc}
use native.Mathlib.Nat.{lt_of_le_of_lt, le_trans, le_of_suc-le-suc, not-suc-le-zero, mul-one, zero-lt-suc, pow-suc, add-mul}
use native.Mathlib.Omega.{arith}
use borrow.Author.Tests.{lt-ltb, le-ltb, le-leb, lt-leb, eqb-true, eqb-false}
use lib.Arith.{lt-one}
use lib.Bits.{bit_and, and_le_l, and_le_r, shifted_half, shifted_even}
use lib.Count.{ones}
use lib.Dec.{leb, ltb, eqb}
use lib.ListN.{length, get_or, take, drop, length-take, length-drop, length-map, drop_of_length-le, get_or-eq_default}
use lib.Pow.{pow_pos}
use lib.Seq.{get_or-take, get_or-drop, drop-drop, ext_get_or}
use Rattle.model.specs.Pauli.{has, count, apart}
use Rattle.model.specs.Events.{Event, State, words, keep, some, event_at, live_at}
use Rattle.model.specs.Search.{Work, stopped, dry, walk, against, list_at, blocks, start, block, sliced_list}
use Rattle.model.proofs.Digits.{has-lt, has_zero}
use Rattle.model.proofs.Counts.{count_ones, count_step, count_zero}
use Rattle.pauli.proofs.Digits.{three, has_low, has_up, has_ext, has_min, has-mod}
use Rattle.lists.specs.declared.budget.Budget.{Budget}
use Rattle.std.specs.Prelude.{Some, None}
use Rattle.lists.specs.declared.budget.Scan.{Scan}
use Rattle.lists.specs.declared.budget.Scan.TheVariants.{Clear, Blocked, Out}
use Rattle.lists.specs.Lists.{Rises, Splits}
use Rattle.sliced.specs.Blocks.{Entry, no_entry, entry, entry_of, mask_place, live_place, Reps}
use Rattle.sliced.specs.Gathered.{Has, Marks}
use Rattle.lists.specs.Scans.{steps, spend_of, scan_of}
use Rattle.sliced.specs.Steps.{Spread, paid, visited, and_then}
use Rattle.sliced.proofs.BlockLaws.{block_end}
use Rattle.sliced.proofs.RebuildLaws.{has_ones, part_get, part_length, is?}

-- ---- digits of a remainder, of a shifted word and of a word of ones

has_shl_low : (n s j : ℕ) → j < s → has (n * 2 ^ s) j ≡ 0
has_shl_low n zero j l = absurd (not-suc-le-zero l)
has_shl_low n (suc s) zero l = has_low (n * 2 ^ suc s) ∙ shifted_even n s
has_shl_low n (suc s) (suc j) l = has_up (n * 2 ^ suc s) j ∙ ap (λ (x : ℕ). has x j) (shifted_half n s) ∙ has_shl_low n s j (le_of_suc-le-suc l)

has_shl_high : (n s j : ℕ) → has (n * 2 ^ s) (s + j) ≡ has n j
has_shl_high n zero j = ap₂ has (mul-one n) (omega arith)
has_shl_high n (suc s) j =
    ap (has (n * 2 ^ suc s)) (omega arith) ∙ has_up (n * 2 ^ suc s) (s + j) ∙ ap (λ (x : ℕ). has x (s + j)) (shifted_half n s) ∙ has_shl_high n s j

-- ---- the mask of the entries from start on

-- digit j of first is 1 where entry b * 64 + j stands at start or later
pub record FirstIs (first start b : ℕ) : Type 0 where
  pub set : (j : ℕ) → j < 64 → start ≤ b * 64 + j → has first j ≡ 1
  pub clear : (j : ℕ) → j < 64 → b * 64 + j < start → has first j ≡ 0

pub first_start : (start : ℕ) → FirstIs (((2 ^ 64 - 1) * 2 ^ (start % 64)) % 2 ^ 64) start (start / 64)
first_start start = record {
  set = λ j l g. has-mod 64 ((2 ^ 64 - 1) * 2 ^ (start % 64)) j l ∙ high j (j - start % 64) (omega arith) l;
  clear = λ j l g. has-mod 64 ((2 ^ 64 - 1) * 2 ^ (start % 64)) j l ∙ has_shl_low (2 ^ 64 - 1) (start % 64) j (omega arith);
}
  where
    high : (j i : ℕ) → j ≡ start % 64 + i → j < 64 → has ((2 ^ 64 - 1) * 2 ^ (start % 64)) j ≡ 1
    high j i e l = ap (has ((2 ^ 64 - 1) * 2 ^ (start % 64))) e ∙ has_shl_high (2 ^ 64 - 1) (start % 64) i ∙ has_ones 64 i (omega arith)

pub first_later : (start b : ℕ) → start / 64 < b → FirstIs (2 ^ 64 - 1) start b
first_later start b l = record { set = λ j lj g. has_ones 64 j lj; clear = λ j lj g. absurd (omega arith) }

-- ---- a word whose digit j is 1 where number j of a list passes a test

unfoldable pub bit_at : (ℕ → Bool) → List ℕ → ℕ → ℕ
bit_at p [] j = 0
bit_at p (i ∷ s) zero = cond (p i) 1 0
bit_at p (i ∷ s) (suc j) = bit_at p s j

bit_in : (p : ℕ → Bool) (s : List ℕ) (j : ℕ) → j < length s → bit_at p s j ≡ cond (p (get_or s j 0)) 1 0
unfolding bit_at
bit_in p [] j l = absurd (not-suc-le-zero l)
bit_in p (i ∷ s) zero l = refl
bit_in p (i ∷ s) (suc j) l = bit_in p s j (le_of_suc-le-suc l)

bit_out : (p : ℕ → Bool) (s : List ℕ) (j : ℕ) → length s ≤ j → bit_at p s j ≡ 0
unfolding bit_at
bit_out p [] j l = refl
bit_out p (i ∷ s) zero l = absurd (not-suc-le-zero l)
bit_out p (i ∷ s) (suc j) l = bit_out p s j (le_of_suc-le-suc l)

keep_one : (b : Bool) (i : ℕ) (t : List ℕ) → cond b 1 0 + length t ≡ length (cond b (i ∷ t) t)
keep_one true i t = omega arith
keep_one false i t = omega arith

half_lt : (k w : ℕ) → w < 2 ^ suc k → w / 2 < 2 ^ k
half_lt k w h = omega (arith, pow-suc 2 k)

word_count : (k w : ℕ) (p : ℕ → Bool) (s : List ℕ) → w < 2 ^ k → length s ≤ k → ((j : ℕ) → j < k → has w j ≡ bit_at p s j) → count w ≡ length (keep p s)
unfolding bit_at keep
word_count zero w p [] h l e = ap count (lt-one h) ∙ count_zero
word_count zero w p (i ∷ s) h l e = absurd (not-suc-le-zero l)
word_count (suc k) w p [] h l e =
    count_step w
    ∙ ap₂ (λ (a b : ℕ). a + b) (sym (has_low w) ∙ e 0 (zero-lt-suc k)) (word_count k (w / 2) p [] (half_lt k w h) zero-le (λ j lj. sym (has_up w j) ∙ e (suc j) (suc-le-suc lj)))
word_count (suc k) w p (i ∷ s) h l e =
    count_step w
    ∙ ap₂ (λ (a b : ℕ). a + b) (sym (has_low w) ∙ e 0 (zero-lt-suc k)) (word_count k (w / 2) p s (half_lt k w h) (le_of_suc-le-suc l) (λ j lj. sym (has_up w j) ∙ e (suc j) (suc-le-suc lj)))
    ∙ keep_one (p i) i (keep p s)

cond_first : (a t : Bool) → cond a true t ≡ false → (a ≡ false) × (t ≡ false)
cond_first true t e = absurd (true≢false e)
cond_first false t e = (refl, e)

cond_second : (a t : Bool) → a ≡ false → cond a true t ≡ true → t ≡ true
cond_second true t q e = absurd (true≢false q)
cond_second false t q e = e

none_bit : (p : ℕ → Bool) (s : List ℕ) (j : ℕ) → some p s ≡ false → bit_at p s j ≡ 0
unfolding bit_at some
none_bit p [] j e = refl
none_bit p (i ∷ s) zero e = ap (λ (b : Bool). cond b 1 0) (cond_first (p i) (some p s) e).0
none_bit p (i ∷ s) (suc j) e = none_bit p s j (cond_first (p i) (some p s) e).1

some_bit : (p : ℕ → Bool) (s : List ℕ) → some p s ≡ true → (j : ℕ) × (j < length s) × (bit_at p s j ≡ 1)
unfolding bit_at some
some_bit p [] e = absurd (true≢false (sym e))
some_bit p (i ∷ s) e =
    ⊎_elim (λ (q : p i ≡ true). (0, zero-lt-suc (length s), ap (λ (b : Bool). cond b 1 0) q))
    (λ (q : p i ≡ false). let r = some_bit p s (cond_second (p i) (some p s) q e) in (suc r.0, suc-le-suc r.1, r.2)) (is? (p i))

module _ (k w : ℕ) (p : ℕ → Bool) (s : List ℕ) (h : w < 2 ^ k) (l : length s ≤ k) (e : (j : ℕ) → j < k → has w j ≡ bit_at p s j) where
  word_free : w ≡ 0 → some p s ≡ false
  word_free z =
      ⊎_elim
      (λ (t : some p s ≡ true). absurd (let b = some_bit p s t in omega (arith, e b.0 (omega (arith, b.1)), b.2, ap (λ (x : ℕ). has x b.0) z, has_zero b.0)))
      (λ (q : some p s ≡ false). q) (is? (some p s))

  word_hit : (w ≡ 0 → ⊥) → some p s ≡ true
  word_hit d =
      ⊎_elim (λ (t : some p s ≡ true). t)
      (λ (q : some p s ≡ false). absurd (d (has_ext k w 0 h (pow_pos k) (λ j lj. e j lj ∙ none_bit p s j q ∙ sym (has_zero j))))) (is? (some p s))

-- ---- the entries of a list of `model`

map-entry : (es : List Event) (ids : List ℕ) (i : ℕ) → i < length ids → entry (map (entry_of es) ids) i ≡ entry_of es (get_or ids i 0)
map-entry es [] i l = absurd (not-suc-le-zero l)
map-entry es (a ∷ ids) zero l = refl
map-entry es (a ∷ ids) (suc i) l = map-entry es ids i (le_of_suc-le-suc l)

map_past : (es : List Event) (ids : List ℕ) (i : ℕ) → length ids ≤ i → entry (map (entry_of es) ids) i ≡ no_entry
map_past es ids i l = get_or-eq_default (map (entry_of es) ids) no_entry (omega (arith, length-map ids (entry_of es)))

-- ---- a block

abbrev of_block : List ℕ → ℕ → List ℕ
of_block ids b = take 64 (drop (b * 64) ids)

module _ (ids : List ℕ) (b : ℕ) where
  block_at : (j : ℕ) → j < 64 → get_or (of_block ids b) j 0 ≡ get_or ids (b * 64 + j) 0
  block_at j l = get_or-take 64 (drop (b * 64) ids) j 0 l ∙ get_or-drop (b * 64) ids j 0

  block_long : length (of_block ids b) ≡ min 64 (length ids - b * 64)
  block_long = length-take 64 (drop (b * 64) ids) ∙ ap (λ (x : ℕ). min 64 x) (length-drop (b * 64) ids)

-- an entry of the list passes where it stands after the event, is live and anticommutes with the axis
abbrev passes : List Event → (after x z id : ℕ) → Bool
passes es after x z id = ltb after id && against es x z id

three_bits : (t lv : Bool) (a l f : ℕ) → a < 2 → f ≡ cond t 1 0 → l ≡ cond lv 1 0 → min (min a l) f ≡ cond (t && (lv && eqb a 1)) 1 0
three_bits false lv a l f h ef el = omega arith
three_bits true false a l f h ef el = omega arith
three_bits true true zero l f h ef el = omega arith
three_bits true true (suc zero) l f h ef el = omega arith
three_bits true true (suc (suc a)) l f h ef el = absurd (omega arith)

module _ (h : List ℕ) (base cap n : ℕ) (es : List Event) (ids : List ℕ) (b : ℕ) (r : Reps h base cap n (map (entry_of es) ids)) (lb : b * 64 < length ids) where
  abbrev live : ℕ
  live = get_or h (live_place base cap n b) 0

  in_use : b < words (length (map (entry_of es) ids))
  unfolding words
  in_use = omega (arith, length-map ids (entry_of es))

  live_in_is : (j : ℕ) → j < 64 → b * 64 + j < length ids → has live j ≡ cond (live_at es (get_or ids (b * 64 + j) 0)) 1 0
  unfolding entry_of
  live_in_is j lj l = r.lives b j in_use lj ∙ ap (λ (e : Entry). e.live) (map-entry es ids (b * 64 + j) l)

  live_out : (j : ℕ) → j < 64 → length ids ≤ b * 64 + j → has live j ≡ 0
  live_out j lj l = r.lives b j in_use lj ∙ ap (λ (e : Entry). e.live) (map_past es ids (b * 64 + j) l)

  -- the live digits
  live_bits : (j : ℕ) → j < 64 → has live j ≡ bit_at (live_at es) (of_block ids b) j
  live_bits j lj =
      ⊎_elim (λ (l : length ids < b * 64 + j). past (omega arith))
      (⊎_elim (λ (l : b * 64 + j ≡ length ids). past (omega arith)) (λ (l : b * 64 + j < length ids). inside l)) (three (b * 64 + j) (length ids))
    where
      past : length ids ≤ b * 64 + j → has live j ≡ bit_at (live_at es) (of_block ids b) j
      past l = live_out j lj l ∙ sym (bit_out (live_at es) (of_block ids b) j (omega (arith, block_long ids b)))

      inside : b * 64 + j < length ids → has live j ≡ bit_at (live_at es) (of_block ids b) j
      inside l =
          live_in_is j lj l ∙ ap (λ (id : ℕ). cond (live_at es id) 1 0) (sym (block_at ids b j lj))
          ∙ sym (bit_in (live_at es) (of_block ids b) j (omega (arith, block_long ids b)))

  pub block_cost : live < 2 ^ 64 → ones live ≡ length (keep (live_at es) (of_block ids b))
  block_cost fits =
      sym (count_ones live)
      ∙ word_count 64 live (live_at es) (of_block ids b) fits (omega (arith, block_long ids b)) live_bits

  module _ (after ax az start word first : ℕ) (marks : Marks h (mask_place base cap n b) n ax az word) (fi : FirstIs first start b) (sp : Splits ids after start) where
    block_Has : (j : ℕ) → j < 64 → Has h (mask_place base cap n b) n j (entry (map (entry_of es) ids) (b * 64 + j)).x (entry (map (entry_of es) ids) (b * 64 + j)).z
    block_Has j lj = record { xs = λ p lp. r.xs b p j in_use lp lj; zs = λ p lp. r.zs b p j in_use lp lj }

    abbrev tested : ℕ
    tested = bit_and (bit_and word live) first

    both : (j : ℕ) → has tested j ≡ min (min (has word j) (has live j)) (has first j)
    both j = has_min (bit_and word live) first j ∙ ap (λ (x : ℕ). min x (has first j)) (has_min word live j)

    word_in : (j : ℕ) → j < 64 → b * 64 + j < length ids → has word j ≡ apart (event_at es (get_or ids (b * 64 + j) 0)).x (event_at es (get_or ids (b * 64 + j) 0)).z ax az
    unfolding entry_of
    word_in j lj l =
        marks j (entry (map (entry_of es) ids) (b * 64 + j)).x (entry (map (entry_of es) ids) (b * 64 + j)).z (block_Has j lj)
        ∙ ap (λ (e : Entry). apart e.x e.z ax az) (map-entry es ids (b * 64 + j) l)

    first_in : (j : ℕ) → j < 64 → b * 64 + j < length ids → has first j ≡ cond (ltb after (get_or ids (b * 64 + j) 0)) 1 0
    first_in j lj l =
        ⊎_elim (λ (g : b * 64 + j < start). early g) (⊎_elim (λ (g : start ≡ b * 64 + j). late (omega arith)) (λ (g : start < b * 64 + j). late (omega arith))) (three start (b * 64 + j))
      where
        early : b * 64 + j < start → has first j ≡ cond (ltb after (get_or ids (b * 64 + j) 0)) 1 0
        early g = fi.clear j lj g ∙ ap (λ (t : Bool). cond t 1 0) (sym (le-ltb after (get_or ids (b * 64 + j) 0) (sp.below (b * 64 + j) g)))

        late : start ≤ b * 64 + j → has first j ≡ cond (ltb after (get_or ids (b * 64 + j) 0)) 1 0
        late g = fi.set j lj g ∙ ap (λ (t : Bool). cond t 1 0) (sym (lt-ltb after (get_or ids (b * 64 + j) 0) (sp.above (b * 64 + j) g l)))

    -- the digits of the test
    test_bits : (j : ℕ) → j < 64 → has tested j ≡ bit_at (passes es after ax az) (of_block ids b) j
    unfolding against
    test_bits j lj =
        both j
        ∙ ⊎_elim (λ (l : length ids < b * 64 + j). past (omega arith))
        (⊎_elim (λ (l : b * 64 + j ≡ length ids). past (omega arith)) (λ (l : b * 64 + j < length ids). inside l)) (three (b * 64 + j) (length ids))
      where
        past : length ids ≤ b * 64 + j → min (min (has word j) (has live j)) (has first j) ≡ bit_at (passes es after ax az) (of_block ids b) j
        past l =
            let z : min (min (has word j) (has live j)) (has first j) ≡ 0 = omega (arith, live_out j lj l) in
            z ∙ sym (bit_out (passes es after ax az) (of_block ids b) j (omega (arith, block_long ids b)))

        inside : b * 64 + j < length ids → min (min (has word j) (has live j)) (has first j) ≡ bit_at (passes es after ax az) (of_block ids b) j
        inside l =
            three_bits (ltb after (get_or ids (b * 64 + j) 0)) (live_at es (get_or ids (b * 64 + j) 0)) (has word j) (has live j) (has first j) (has-lt word j) (first_in j lj l) (live_in_is j lj l)
            ∙ ap (λ (a : ℕ). cond (ltb after (get_or ids (b * 64 + j) 0) && (live_at es (get_or ids (b * 64 + j) 0) && eqb a 1)) 1 0) (word_in j lj l)
            ∙ ap (λ (id : ℕ). cond (passes es after ax az id) 1 0) (sym (block_at ids b j lj))
            ∙ sym (bit_in (passes es after ax az) (of_block ids b) j (omega (arith, block_long ids b)))

    tested_fits : live < 2 ^ 64 → tested < 2 ^ 64
    tested_fits fits = lt_of_le_of_lt (le_trans (and_le_l (bit_and word live) first) (and_le_r word live)) fits

    pub block_free : live < 2 ^ 64 → tested ≡ 0 → some (passes es after ax az) (of_block ids b) ≡ false
    block_free fits = word_free 64 tested (passes es after ax az) (of_block ids b) (tested_fits fits) (omega (arith, block_long ids b)) test_bits

    pub block_hit : live < 2 ^ 64 → (tested ≡ 0 → ⊥) → some (passes es after ax az) (of_block ids b) ≡ true
    block_hit fits = word_hit 64 tested (passes es after ax az) (of_block ids b) (tested_fits fits) (omega (arith, block_long ids b)) test_bits

-- ---- one piece of work

-- two answers in a row, where the second and what follows it are known from the steps it is given
after_both : (r : Scan) (f g v : Budget → Scan) → ((left : Budget) → and_then (f left) g ≡ v left) → and_then (and_then r f) g ≡ and_then r v
unfolding and_then
after_both (Clear left) f g v e = e left
after_both (Blocked left) f g v e = refl
after_both (Out left) f g v e = refl

-- nothing follows
after_none : (r : Scan) → and_then r (λ left. Clear (steps left.0)) ≡ r
unfolding and_then steps
after_none (Clear left) = refl
after_none (Blocked left) = refl
after_none (Out left) = refl

-- an answer that is not clear is the last
pub last_one : (r : Scan) (f : Budget → Scan) → ((left : Budget) → r ≡ Clear left → ⊥) → and_then r f ≡ r
unfolding and_then
last_one (Clear left) f k = absurd (k left refl)
last_one (Blocked left) f k = refl
last_one (Out left) f k = refl

module _ (w : Work) (ws : List Work) (test : ℕ) (free : test ≡ 0 → w.stops ≡ false) (hit : (test ≡ 0 → ⊥) → w.stops ≡ true) where
  abbrev on : Budget → Scan
  on left = scan_of (walk ws left.0)

  walk_met : (m : ℕ) (none : Bool) → eqb test 0 ≡ none → and_then (cond none (Clear (steps m)) (Blocked (steps m))) on ≡ scan_of (cond w.stops (stopped w.id m) (walk ws m))
  unfolding and_then scan_of steps
  walk_met m true e = ap (λ (x : Bool). scan_of (cond x (stopped w.id m) (walk ws m))) (sym (free (eqb-true test 0 e)))
  walk_met m false e = ap (λ (x : Bool). scan_of (cond x (stopped w.id m) (walk ws m))) (sym (hit (eqb-false test 0 e)))

  walk-paid : (left : Budget) (short : Bool)
      → and_then (paid test left (cond short None (Some (steps (left.0 - w.cost))))) on ≡ scan_of (cond short (dry left.0) (cond w.stops (stopped w.id (left.0 - w.cost)) (walk ws (left.0 - w.cost))))
  unfolding paid and_then scan_of steps
  walk-paid left true = refl
  walk-paid left false = walk_met (left.0 - w.cost) (eqb test 0) refl

  -- to visit it and go on is to walk on from it
  walk_block : (left : Budget) → and_then (paid test left (spend_of left w.cost)) on ≡ scan_of (walk (w ∷ ws) left.0)
  unfolding spend_of walk
  walk_block left = walk-paid left (ltb left.0 w.cost)

blocks_more : (k : ℕ) (t : List ℕ) → 0 < length t → blocks (suc k) t ≡ take 64 t ∷ blocks k (drop 64 t)
unfolding blocks
blocks_more k [] l = absurd (not-suc-le-zero l)
blocks_more k (i ∷ t) l = refl

blocks_none : (k : ℕ) → blocks k [] ≡ []
unfolding blocks
blocks_none zero = refl
blocks_none (suc k) = refl

-- ---- where the scan starts

Splits-count : (ids : List ℕ) (a r : ℕ) → Splits ids a r → length (keep (λ id. leb id a) ids) ≡ r
unfolding keep
Splits-count [] a r sp = omega (arith, sp.within)
Splits-count (i ∷ ids) a zero sp =
    ap (λ (t : Bool). length (cond t (i ∷ keep (λ id. leb id a) ids) (keep (λ id. leb id a) ids))) (lt-leb i a (sp.above 0 zero-le (zero-lt-suc (length ids))))
    ∙ Splits-count ids a 0 (record { within = zero-le; below = λ k l. absurd (not-suc-le-zero l); above = λ k l h. sp.above (suc k) zero-le (suc-le-suc h) })
Splits-count (i ∷ ids) a (suc r) sp =
    ap (λ (t : Bool). length (cond t (i ∷ keep (λ id. leb id a) ids) (keep (λ id. leb id a) ids))) (le-leb i a (sp.below 0 (zero-lt-suc r)))
    ∙ ap suc (Splits-count ids a r (record { within = le_of_suc-le-suc sp.within; below = λ k l. sp.below (suc k) (suc-le-suc l); above = λ k l h. sp.above (suc k) (suc-le-suc l) (suc-le-suc h) }))

-- the numbers as a part of the slice
part_is : (h : List ℕ) (base cap n len : ℕ) (es : List Event) (ids : List ℕ) → base + len ≤ length h → length ids ≡ len → Reps h base cap n (map (entry_of es) ids)
    → take (base + len - base) (drop base h) ≡ ids
unfolding entry_of
part_is h base cap n len es ids fits long r =
    ext_get_or 0 (take (base + len - base) (drop base h)) ids (part_length h base len fits ∙ sym long)
    (λ i l. part_get h base len i (omega (arith, part_length h base len fits))
    ∙ r.ids i (omega (arith, part_length h base len fits, length-map ids (entry_of es)))
    ∙ ap (λ (e : Entry). e.id) (map-entry es ids i (omega (arith, part_length h base len fits))))

-- ---- the loop: what is answered so far, r, and the walk over the blocks from b on are the whole of it

-- what a scan of these blocks answers
abbrev scanned : State → (after ax az : ℕ) → List (List ℕ) → Budget → Scan
scanned s after ax az bs left = scan_of (walk (map (block s after ax az) bs) left.0)

abbrev pub Remains : List ℕ → (base cap n len after ax az left₀ b : ℕ) → Scan → Type 0
Remains h base cap n len after ax az left₀ b r =
    (s : State) (q : ℕ) → length (list_at s q) ≡ len → Reps h base cap n (map (entry_of s.events) (list_at s q)) → Rises (list_at s q)
    → (k : ℕ) × (len ≤ b * 64 + k) × (and_then r (scanned s after ax az (blocks k (drop (b * 64) (list_at s q)))) ≡ scan_of (walk (sliced_list s after ax az q) left₀))

-- what `first_past` finds is where the numbers of the list split
abbrev pub Found : List ℕ → (base len after start : ℕ) → Type 0
Found h base len after start = Rises (take (base + len - base) (drop base h)) → Splits (take (base + len - base) (drop base h)) after start

-- the answer of the contract
abbrev pub Answers : List ℕ → (base cap n len after ax az left₀ : ℕ) → Scan → Type 0
Answers h base cap n len after ax az left₀ r =
    (s : State) (q : ℕ) → length (list_at s q) ≡ len → Reps h base cap n (map (entry_of s.events) (list_at s q)) → Rises (list_at s q) → r ≡ scan_of (walk (sliced_list s after ax az q) left₀)

module _ (h : List ℕ) (base cap n len after ax az start : ℕ) (budget : Budget) (fits : base + len ≤ length h) (find : Found h base len after start) where
  split_at : (s : State) (q : ℕ) → length (list_at s q) ≡ len → Reps h base cap n (map (entry_of s.events) (list_at s q)) → Rises (list_at s q) → Splits (list_at s q) after start
  split_at s q e r rise =
      let same : take (base + len - base) (drop base h) ≡ list_at s q = part_is h base cap n len s.events (list_at s q) fits e r in
      subst (λ (t : List ℕ). Splits t after start) same (find (subst (λ (t : List ℕ). Rises t) (sym same) rise))

  pub Remains-start : Remains h base cap n len after ax az budget.0 (start / 64) (Clear budget)
  unfolding sliced_list start and_then
  Remains-start s q e r rise = (
    length (list_at s q),
    omega arith,
    ap (λ (v : ℕ). scan_of (walk (map (block s after ax az) (blocks (length (list_at s q)) (drop (v / 64 * 64) (list_at s q)))) budget.0))
        (sym (Splits-count (list_at s q) after start (split_at s q e r rise))),
  )

  module _ (b : ℕ) (a : Scan) (rest : Remains h base cap n len after ax az budget.0 b a) where
    -- an answer that is not clear is the scan's, and any answer is once no block is left
    pub turn_last : ((left : Budget) → a ≡ Clear left → ⊥) → Answers h base cap n len after ax az budget.0 a
    turn_last k s q e r rise = sym (last_one a _ k) ∙ (rest s q e r rise).2

    pub turn_end : words len ≤ b → Answers h base cap n len after ax az budget.0 a
    unfolding words scan_of walk
    turn_end l s q e r rise =
        let t = rest s q e r rise in
        let none : blocks t.0 (drop (b * 64) (list_at s q)) ≡ [] = ap (blocks t.0) (drop_of_length-le (list_at s q) {i = b * 64} (omega arith)) ∙ blocks_none t.0 in
        sym (after_none a) ∙ ap (λ (u : List (List ℕ)). and_then a (scanned s after ax az u)) (sym none) ∙ t.2

    module _ (word first : ℕ) (lb : b < words len) (word64 : get_or h (live_place base cap n b) 0 < 2 ^ 64) (marks : Marks h (mask_place base cap n b) n ax az word) (fi : FirstIs first start b) where
      abbrev lives : ℕ
      lives = get_or h (live_place base cap n b) 0

      inside : (s : State) (q : ℕ) → length (list_at s q) ≡ len → b * 64 < length (list_at s q)
      unfolding words
      inside s q e = omega arith

      -- the next block
      next : (s : State) (q : ℕ) → length (list_at s q) ≡ len → (k : ℕ) → len ≤ b * 64 + k → blocks k (drop (b * 64) (list_at s q)) ≡ of_block (list_at s q) b ∷ blocks (k - 1) (drop ((b + 1) * 64) (list_at s q))
      unfolding words
      next s q e k l =
          let k1 : k ≡ suc (k - 1) = omega arith in
          let some_left : 0 < length (drop (b * 64) (list_at s q)) = omega (arith, length-drop (b * 64) (list_at s q)) in
          let on : b * 64 + 64 ≡ (b + 1) * 64 = omega arith in
          ap (λ (v : ℕ). blocks v (drop (b * 64) (list_at s q))) k1 ∙ blocks_more (k - 1) (drop (b * 64) (list_at s q)) some_left
          ∙ ap (λ (u : List ℕ). of_block (list_at s q) b ∷ blocks (k - 1) u) (drop-drop 64 (b * 64) (list_at s q) ∙ ap (λ (v : ℕ). drop v (list_at s q)) on)

      -- it is visited as the walk has it
      visits : (s : State) (q : ℕ) → length (list_at s q) ≡ len → Reps h base cap n (map (entry_of s.events) (list_at s q)) → Rises (list_at s q) → (bs : List (List ℕ)) (left : Budget)
          → and_then (visited lives word first left) (scanned s after ax az bs) ≡ scanned s after ax az (of_block (list_at s q) b ∷ bs) left
      unfolding block
      visits s q e r rise bs left =
          ap (λ (c : ℕ). and_then (paid (bit_and (bit_and word lives) first) left (spend_of left c)) (scanned s after ax az bs)) (block_cost h base cap n s.events (list_at s q) b r (inside s q e) word64)
          ∙ walk_block (block s after ax az (of_block (list_at s q) b)) (map (block s after ax az) bs) (bit_and (bit_and word lives) first)
          (block_free h base cap n s.events (list_at s q) b r (inside s q e) after ax az start word first marks fi (split_at s q e r rise) word64)
          (block_hit h base cap n s.events (list_at s q) b r (inside s q e) after ax az start word first marks fi (split_at s q e r rise) word64) left

      pub turn : Remains h base cap n len after ax az budget.0 (b + 1) (and_then a (visited lives word first))
      unfolding words
      turn s q e r rise =
          let t = rest s q e r rise in
          let bs : List (List ℕ) = blocks (t.0 - 1) (drop ((b + 1) * 64) (list_at s q)) in (
            t.0 - 1,
            omega (arith, t.1),
            after_both a (visited lives word first) (scanned s after ax az bs) (scanned s after ax az (of_block (list_at s q) b ∷ bs)) (visits s q e r rise bs)
                ∙ ap (λ (u : List (List ℕ)). and_then a (scanned s after ax az u)) (sym (next s q e t.0 t.1))
                ∙ t.2,
          )

-- the masks of a block in use stand in the slice, and those of the next one behind them
pub masks_fit : (h : List ℕ) (base cap n len b : ℕ) → Spread h base cap n → len ≤ cap → b < words len → mask_place base cap n b + 2 * n ≤ length h
unfolding words
masks_fit h base cap n len b room lc lb = omega (arith, room.fits, block_end b ((cap + 63) / 64) (2 * n) (omega arith))

pub next_masks : (base cap n b : ℕ) → mask_place base cap n (b + 1) ≡ mask_place base cap n b + 2 * n
next_masks base cap n b = omega (arith, add-mul b 1 (2 * n))

-- the masks of a block in a lent part of the slice
pub Marks-lent : (h : List ℕ) (from s off m at n ax az word : ℕ) → m ≡ n → off + 2 * n ≤ s → at ≡ from + off → Marks (take (from + s - from) (drop from h)) off m ax az word → Marks h at n ax az word
Marks-lent h from s off m at n ax az word e l q marks i x z en =
    marks i x z (record { xs = λ p lp. ap (λ (v : ℕ). has v i) (lent (2 * p + 0) (omega arith)) ∙ en.xs p (omega arith); zs = λ p lp. ap (λ (v : ℕ). has v i) (lent (2 * p + 1) (omega arith)) ∙ en.zs p (omega arith) })
  where
    lent : (j : ℕ) → j < 2 * n → get_or (take (from + s - from) (drop from h)) (off + j) 0 ≡ get_or h (at + j) 0
    lent j lj =
        let k : from + (off + j) ≡ at + j = omega arith in
        part_get h from s (off + j) (omega arith) ∙ ap (λ (v : ℕ). get_or h v 0) k
