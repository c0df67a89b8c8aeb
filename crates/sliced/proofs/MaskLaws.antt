-- Exclusive ors over the set digits of a word, and what their digits are. Assumes nothing.
use mathlib.Core.Path.{◌≡◌, refl, sym, ap, ap₂, ◌∙◌, subst}
use mathlib.Core.Logic.{⊎_elim}
use mathlib.Core.List.{List}
use Prim.Native.Nat.{ℕ, zero, suc, ◌+◌, ◌*◌, ◌/◌, ◌%◌, ◌^◌, ◌≤◌, ◌<◌, min}
use Rattle.std.specs.Prelude.{replicate}
use Rattle.std.proofs.lemmas.List.{length-replicate, get_or-replicate}
use native.Mathlib.Nat.{suc-mul, mul-le-mul_right, mod-lt, zero-lt-suc, not-suc-le-zero, le_refl, mod-eq_of_lt, lt_of_le_of_lt}
use native.Mathlib.Numerals.{one-add}
use native.Mathlib.Omega.{arith}
use lib.Arith.{lt-one}
use lib.Pow.{pow_pos, mod-pow-add}
use lib.Bits.{bit_and, bit_xor, xor_comm, xor_zero_r, and_le_l, and_comm}
use lib.ListN.{length, get_or, set, length-set}
use lib.Seq.{get_or-set_same, get_or-set_other}
use Rattle.model.specs.Pauli.{has, apart, count, count_in}
use Rattle.model.proofs.Digits.{has-lt, has-xor, has_zero}
use Rattle.model.proofs.Counts.{xor_assoc, count_cat}
use Rattle.pauli.specs.Digits.{Took}
use Rattle.pauli.proofs.Digits.{three, has_min, has_past}
use Rattle.pauli.proofs.Walk.{same?, Took-less}
use Rattle.sliced.specs.Gathered.{pick, over, mask, gathered, Marks}

-- ---- one set digit taken off

over_same : (k : ℕ) (f : ℕ → ℕ) (w v : ℕ) → ((j : ℕ) → j < k → has w j ≡ has v j) → over k f w ≡ over k f v
unfolding over
over_same zero f w v e = refl
over_same (suc k) f w v e =
    ap₂ bit_xor (over_same k f w v (λ j l. e j (omega arith))) (ap (λ (d : ℕ). pick d (f k)) (e k (le_refl (suc k))))

over_zero : (k : ℕ) (f : ℕ → ℕ) → over k f 0 ≡ 0
unfolding over pick
over_zero zero f = refl
over_zero (suc k) f = ap₂ bit_xor (over_zero k f) (ap (λ (d : ℕ). pick d (f k)) (has_zero k))

over-Took : (k : ℕ) (f : ℕ → ℕ) (w p v : ℕ) → Took w p v → has w p ≡ 1 → p < k → over k f w ≡ bit_xor (f p) (over k f v)
unfolding over pick
over-Took zero f w p v t o l = absurd (not-suc-le-zero l)
over-Took (suc k) f w p v t o l = ⊎_elim here (below (λ q. over-Took k f w p v t o q)) (same? p k)
  where
    here : p ≡ k → bit_xor (over k f w) (pick (has w k) (f k)) ≡ bit_xor (f p) (bit_xor (over k f v) (pick (has v k) (f k)))
    here e =
        let dw : has w k ≡ 1 = ap (has w) (sym e) ∙ o in
        let dv : has v k ≡ 0 = ap (has v) (sym e) ∙ t.gone in
        ap₂ bit_xor (over_same k f w v (λ j lj. sym (t.other j (λ q. omega arith)))) (ap (λ (d : ℕ). pick d (f k)) dw)
        ∙ xor_comm (over k f v) (f k)
        ∙ ap₂ (λ (x y : ℕ). bit_xor (f x) y) (sym e) (sym (xor_zero_r (over k f v)))
        ∙ ap (λ (d : ℕ). bit_xor (f p) (bit_xor (over k f v) (pick d (f k)))) (sym dv)

    below : (p < k → over k f w ≡ bit_xor (f p) (over k f v)) → (p ≡ k → ⊥) → bit_xor (over k f w) (pick (has w k) (f k)) ≡ bit_xor (f p) (bit_xor (over k f v) (pick (has v k) (f k)))
    below ih n =
        ap₂ (λ (x d : ℕ). bit_xor x (pick d (f k))) (ih (omega arith)) (sym (t.other k (λ q. n (sym q))))
        ∙ xor_assoc (f p) (over k f v) (pick (has v k) (f k))

-- a turn of a loop that keeps `bit_xor acc (gathered masks at n odd w)`
pub gather_turn : (masks : List ℕ) (at n odd acc w p v i : ℕ) → i ≡ at + (2 * p + odd) → Took w p v → has w p ≡ 1 → p < n
    → bit_xor (bit_xor acc (get_or masks i 0)) (gathered masks at n odd v) ≡ bit_xor acc (gathered masks at n odd w)
gather_turn masks at n odd acc w p v i e t o l =
    xor_assoc acc (get_or masks i 0) (gathered masks at n odd v)
    ∙ ap (bit_xor acc) (ap (λ (j : ℕ). bit_xor (get_or masks j 0) (gathered masks at n odd v)) e ∙ sym (over-Took n (mask masks at odd) w p v t o l))

pub gather_end : (masks : List ℕ) (at n odd acc w : ℕ) → w ≡ 0 → bit_xor acc (gathered masks at n odd w) ≡ acc
gather_end masks at n odd acc w e = ap (λ (x : ℕ). bit_xor acc (gathered masks at n odd x)) e ∙ ap (bit_xor acc) (over_zero n (mask masks at odd)) ∙ xor_zero_r acc

-- ---- a word for each of B blocks, whose masks stand side by side

-- each word mixed with what is gathered over the digits w left to do is the whole
pub record Gathering (masks : List ℕ) (n odd q B w : ℕ) (acc : List ℕ) : Type 0 where
  pub long : length acc ≡ B
  pub less : w ≤ q
  pub rest : (k : ℕ) → k < B → bit_xor (get_or acc k 0) (gathered masks (k * (2 * n)) n odd w) ≡ gathered masks (k * (2 * n)) n odd q

-- the first b of B words are mixed with those of f
pub record Mixed (f : ℕ → ℕ) (B b : ℕ) (s t : List ℕ) : Type 0 where
  pub long : length t ≡ B
  pub done : (k : ℕ) → k < b → get_or t k 0 ≡ bit_xor (get_or s k 0) (f k)
  pub left : (k : ℕ) → b ≤ k → get_or t k 0 ≡ get_or s k 0

pub Mixed-none : (f : ℕ → ℕ) (B : ℕ) (s : List ℕ) → length s ≡ B → Mixed f B 0 s s
Mixed-none f B s e = record { long = e; done = λ k l. absurd (omega arith); left = λ k l. refl }

pub Mixed-more : (f : ℕ → ℕ) (B b : ℕ) (s t : List ℕ) → Mixed f B b s t → b < B → Mixed f B (b + 1) s (set t b (bit_xor (get_or t b 0) (f b)))
Mixed-more f B b s t m l = record {
  long = length-set t b (bit_xor (get_or t b 0) (f b)) ∙ m.long;
  done = λ k lk. ⊎_elim
      (λ (e : k ≡ b). ap (λ (j : ℕ). get_or (set t b (bit_xor (get_or t b 0) (f b))) j 0) e ∙ get_or-set_same t b (bit_xor (get_or t b 0) (f b)) 0 (omega (arith, m.long)) ∙ ap (λ (x : ℕ). bit_xor x (f b)) (m.left b (le_refl b)) ∙ ap (λ (j : ℕ). bit_xor (get_or s j 0) (f j)) (sym e))
      (λ (d : k ≡ b → ⊥). get_or-set_other t b k (bit_xor (get_or t b 0) (f b)) 0 d ∙ m.done k (omega arith))
      (same? k b);
  left = λ k lk. get_or-set_other t b k (bit_xor (get_or t b 0) (f b)) 0 (λ e. omega arith) ∙ m.left k (omega arith);
}

-- a set digit taken off, once each word is mixed with its mask
pub Gathering-more : (masks : List ℕ) (n odd q B w p v b : ℕ) (s t : List ℕ) → B ≤ b → Took w p v → has w p ≡ 1 → p < n → Gathering masks n odd q B w s
    → Mixed (λ k. get_or masks (k * (2 * n) + (2 * p + odd)) 0) B b s t → Gathering masks n odd q B v t
Gathering-more masks n odd q B w p v b s t e o h l g m = record {
  long = m.long;
  less = omega (arith, g.less, Took-less w p v o);
  rest = λ k lk.
      ap (λ (x : ℕ). bit_xor x (gathered masks (k * (2 * n)) n odd v)) (m.done k (omega arith))
      ∙ gather_turn masks (k * (2 * n)) n odd (get_or s k 0) w p v (k * (2 * n) + (2 * p + odd)) refl o h l ∙ g.rest k lk;
}

pub Gathering-none : (masks : List ℕ) (n odd q B w : ℕ) → w ≡ q → Gathering masks n odd q B w (replicate B 0)
Gathering-none masks n odd q B w e = record {
  long = length-replicate B 0;
  less = omega arith;
  rest = λ k l.
      ap₂ (λ (x v : ℕ). bit_xor x (gathered masks (k * (2 * n)) n odd v)) (get_or-replicate B k 0 0 l) e
      ∙ xor_comm 0 (gathered masks (k * (2 * n)) n odd q) ∙ xor_zero_r (gathered masks (k * (2 * n)) n odd q);
}

-- where a mask of one of B blocks stands
pub mask_lt : (B b n p odd : ℕ) → b < B → p < n → odd < 2 → b * (2 * n) + (2 * p + odd) < B * (2 * n)
mask_lt B b n p odd lb lp lo = omega (arith, suc-mul b (2 * n), mul-le-mul_right (2 * n) lb)

-- ---- digits of such an exclusive or: the parity of the common digits

count_bit : (d : ℕ) → d < 2 → count d ≡ d
unfolding count count_in
count_bit zero h = refl
count_bit (suc zero) h = refl
count_bit (suc (suc d)) h = absurd (omega arith)

count_top : (n k : ℕ) → count (n % 2 ^ suc k) ≡ has n k + count (n % 2 ^ k)
unfolding has
count_top n k =
    ap (λ (x : ℕ). count (n % 2 ^ x)) (sym (one-add k)) ∙ ap count (mod-pow-add n 1 k)
    ∙ count_cat k (n / 2 ^ k % 2) (n % 2 ^ k) (mod-lt n (pow_pos k))
    ∙ ap (λ (x : ℕ). x + count (n % 2 ^ k)) (count_bit (n / 2 ^ k % 2) (mod-lt (n / 2 ^ k) (zero-lt-suc 1)))

pick-has : (d m i : ℕ) → d < 2 → has (pick d m) i ≡ min d (has m i)
unfolding pick
pick-has zero m i h = has_zero i ∙ omega arith
pick-has (suc zero) m i h = omega (arith, has-lt m i)
pick-has (suc (suc d)) m i h = absurd (omega arith)

has-over : (k : ℕ) (f : ℕ → ℕ) (w x i : ℕ) → ((p : ℕ) → p < k → has (f p) i ≡ has x p) → has (over k f w) i ≡ count (bit_and w x % 2 ^ k) % 2
unfolding over count count_in
has-over zero f w x i e = has_zero i ∙ ap (λ (n : ℕ). count n % 2) (sym (lt-one (mod-lt (bit_and w x) (zero-lt-suc zero))))
has-over (suc k) f w x i e =
    has-xor (over k f w) (pick (has w k) (f k)) i
    ∙ ap₂ (λ (a b : ℕ). (a + b) % 2) (has-over k f w x i (λ p l. e p (omega arith)))
    (pick-has (has w k) (f k) i (has-lt w k) ∙ ap (λ (d : ℕ). min (has w k) d) (e k (le_refl (suc k))) ∙ sym (has_min w x k))
    ∙ omega (arith, count_top (bit_and w x) k)

-- a word below 2 ^ k needs no bound on its digits
has-over_all : (k : ℕ) (f : ℕ → ℕ) (w x i : ℕ) → w < 2 ^ k → ((p : ℕ) → p < k → has (f p) i ≡ has x p) → has (over k f w) i ≡ count (bit_and w x) % 2
has-over_all k f w x i h e =
    has-over k f w x i e ∙ ap (λ (n : ℕ). count n % 2) (mod-eq_of_lt (lt_of_le_of_lt (and_le_l w x) h))

pub marks : (masks : List ℕ) (at n ax az gx gz : ℕ) → ax < 2 ^ n → az < 2 ^ n → gx ≡ gathered masks at n 1 ax → gz ≡ gathered masks at n 0 az → Marks masks at n ax az (bit_xor gx gz)
unfolding apart
marks masks at n ax az gx gz hx hz ex ez i x z en =
    has-xor gx gz i
    ∙ ap₂ (λ (a b : ℕ). (has a i + has b i) % 2) ex ez
    ∙ ap₂ (λ (a b : ℕ). (a + b) % 2) (has-over_all n (mask masks at 1) ax z i hx en.zs) (has-over_all n (mask masks at 0) az x i hz en.xs)
    ∙ ap₂ (λ (a b : ℕ). (count a % 2 + count b % 2) % 2) (and_comm ax z) (and_comm az x)
    ∙ omega arith

-- both halves of each of B blocks, mixed
pub mixed_marks : (masks : List ℕ) (n ax az B b e : ℕ) (xs zs ws : List ℕ) → ax < 2 ^ n → az < 2 ^ n → b < B → B ≤ e
    → ((k : ℕ) → k < B → get_or xs k 0 ≡ gathered masks (k * (2 * n)) n 1 ax) → ((k : ℕ) → k < B → get_or zs k 0 ≡ gathered masks (k * (2 * n)) n 0 az)
    → Mixed (λ k. get_or xs k 0) B e zs ws → Marks masks (b * (2 * n)) n ax az (get_or ws b 0)
mixed_marks masks n ax az B b e xs zs ws hx hz lb le gx gz m =
    subst (Marks masks (b * (2 * n)) n ax az) (xor_comm (get_or xs b 0) (get_or zs b 0) ∙ sym (m.done b (omega arith)))
    (marks masks (b * (2 * n)) n ax az (get_or xs b 0) (get_or zs b 0) hx hz (gx b lb) (gz b lb))

-- a set digit of a word below 2 ^ k is below k
pub place_lt : (k w p : ℕ) → w < 2 ^ k → has w p ≡ 1 → p < k
place_lt k w p h o = ⊎_elim (λ l. no (omega arith)) (λ r. ⊎_elim (λ e. no (omega arith)) (λ l. l) r) (three p k)
  where
    no : k ≤ p → p < k
    no l = absurd (omega (arith, has_past k w p h l))
