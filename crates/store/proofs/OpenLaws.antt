-- Laws of an opening: which test gives which number, in 01's order; and the header, the frames and the history written one after the other make the
-- words hold the state that was opened. Assumes nothing.
use mathlib.Core.Path.{◌≡◌, refl, sym, ap, ◌∙◌, subst}
use mathlib.Core.Logic.{◌≢◌, inl, inr}
use mathlib.Core.Bool.{Bool, true, false, not, ◌||◌, true≢false}
use mathlib.Core.List.{List}
use Prim.Native.Nat.{ℕ, ◌+◌, ◌-◌, ◌*◌, ◌/◌, ◌^◌, ◌≤◌, ◌<◌}
use native.Mathlib.Nat.{mul-le-mul, mul-le-mul_right}
use native.Mathlib.Omega.{arith}
use native.Mathlib.Decide.{dec_lt}
use lib.ListN.{length, get_or, set, length-set}
use lib.Seq.{get_or-set_same, get_or-set_other}
use lib.Dec.{eqb, ltb}
use borrow.Author.Tests.{lt-ltb, le-ltb, eq-eqb, ne_eqb}
use Rattle.model.specs.Frame.{fresh}
use Rattle.model.specs.Sketch.{label_rows}
use Rattle.model.specs.Events.{Form, Opening, words}
use Rattle.model.specs.Store.{need}
use Rattle.model.specs.Calls.{is_too_wide, open_number, open_answer, opened, opening, refused, accepted}
use Rattle.model.proofs.Theorems.{qubit_limit}
use Rattle.lists.specs.Lists.{Among}
use Rattle.frame.specs.Places as frames
use Rattle.history.specs.Words.{history_room, Holds, Uses, Becomes}
use Rattle.history.specs.Sizes as history
use Rattle.history.specs.Sizes.{form_of, Narrow}
use Rattle.history.specs.declared.forms.Form as forms
use Rattle.history.specs.declared.forms.Form.TheVariants.{Scalar, Sliced}
use Rattle.store.specs.Stores.{part, frame_size, history_place, form_code, Header, StoredTo}
use Rattle.std.specs.Prelude.{Err}
use Rattle.store.specs.declared.refusals.OpenError.{OpenError}
use Rattle.store.specs.declared.refusals.OpenError.TheVariants.{Sizes, Events, TooShort}
use Rattle.store.specs.Refusals.{open_code_of}
use Rattle.store.specs.Promises.{told_open, Opens}
use Rattle.store.specs.Checks.{Stamped}
use Rattle.store.proofs.Splice.{splice, part_length, splice-length, splice_out, splice-part, splice_other}
use Rattle.store.proofs.SizeLaws.{need_is, Accepted, accepted as sizes_of, some_plane, frame_fits, room_small}
use Rattle.store.proofs.StoreLaws.{Header-kept, splice-Only}
use Rattle.store.proofs.MeetLaws.{Reached-open}

-- ---- the numbers

or_left : (a b : Bool) → a ≡ true → (a || b) ≡ true
or_left true b e = refl
or_left false b e = absurd (true≢false (sym e))

or_right : (a b : Bool) → b ≡ true → (a || b) ≡ true
or_right true b e = refl
or_right false b e = e

or_none : (a b : Bool) → a ≡ false → b ≡ false → (a || b) ≡ false
or_none true b e f = e
or_none false b e f = f

module _ (n E A : ℕ) (f : Form) (lw sw : ℕ) where
  abbrev First : Bool
  First = eqb n 0 || ltb (2 ^ 25) (4 * n * words n) || ltb (2 ^ 20) A || is_too_wide f n

  abbrev Second : Bool
  Second = eqb E 0 || ltb (2 ^ 25) (2 * words n * E)

  abbrev Third : Bool
  Third = not (eqb lw (4 * n)) || ltb sw (need n E f)

  -- "1: n, A or form outside the sizes above"
  one : First ≡ true → 1 ≡ open_number n E A f lw sw
  unfolding open_number
  one e = rw e refl

  pub no_qubits : n ≡ 0 → 1 ≡ open_number n E A f lw sw
  no_qubits e = one (or_left _ _ (or_left _ _ (or_left (eqb n 0) _ (eq-eqb n 0 e))))

  pub many_qubits : 23168 < n → 1 ≡ open_number n E A f lw sw
  many_qubits h = one (or_left _ _ (or_left _ _ (or_right (eqb n 0) _ (lt-ltb (2 ^ 25) (4 * n * words n) over))))
    where
      over : 2 ^ 25 < 4 * n * words n
      over = go (dec_lt (2 ^ 25) (4 * n * words n))
        where
          go : Dec (2 ^ 25 < 4 * n * words n) → 2 ^ 25 < 4 * n * words n
          go (yes a) = a
          go (no a) =
              let few : 4 * n * words n ≤ 33554432 = omega arith in
              absurd (wrong ((qubit_limit n).1 few))
            where
              wrong : n ≤ 23168 → ⊥
              wrong q = omega arith

  pub many_steps : 1048576 < A → 1 ≡ open_number n E A f lw sw
  many_steps h = one (or_left _ _ (or_right (eqb n 0 || ltb (2 ^ 25) (4 * n * words n)) _ (lt-ltb (2 ^ 20) A h)))

  pub wide : is_too_wide f n ≡ true → 1 ≡ open_number n E A f lw sw
  wide e = one (or_right (eqb n 0 || ltb (2 ^ 25) (4 * n * words n) || ltb (2 ^ 20) A) _ e)

  module _ (some : n ≢ 0) (few : n ≤ 23168) (steps : A ≤ 1048576) (narrow : is_too_wide f n ≡ false) where
    first_none : First ≡ false
    first_none =
        or_none _ _
        (or_none _ _ (or_none _ _ (ne_eqb n 0 some) (le-ltb (2 ^ 25) (4 * n * words n) ((qubit_limit n).0 few))) (le-ltb (2 ^ 20) A steps))
        narrow

    -- "2: E is 0 or 2lE passes 2^25"
    two : Second ≡ true → 2 ≡ open_number n E A f lw sw
    unfolding open_number
    two e = rw (first_none, e) refl

    pub no_events : E ≡ 0 → 2 ≡ open_number n E A f lw sw
    no_events e = two (or_left (eqb E 0) _ (eq-eqb E 0 e))

    pub long_axes : 33554432 < 2 * words n * E → 2 ≡ open_number n E A f lw sw
    long_axes h = two (or_right (eqb E 0) _ (lt-ltb (2 ^ 25) (2 * words n * E) h))

    pub many_events : 16777216 < E → 2 ≡ open_number n E A f lw sw
    many_events h =
        let planes : 1 ≤ words n = some_plane n (omega arith) in
        let both : 2 ≤ 2 * words n = omega arith in
        long_axes (omega (arith, mul-le-mul_right E both))

    module _ (some_event : E ≢ 0) (axes : 2 * words n * E ≤ 33554432) where
      second_none : Second ≡ false
      second_none = or_none (eqb E 0) _ (ne_eqb E 0 some_event) (le-ltb (2 ^ 25) (2 * words n * E) axes)

      -- "3: labels not 4n words, or store below its need"
      three : Third ≡ true → 3 ≡ open_number n E A f lw sw
      unfolding open_number
      three e = rw (first_none, second_none, e) refl

      pub wrong_labels : lw ≢ 4 * n → 3 ≡ open_number n E A f lw sw
      wrong_labels h = three (or_left (not (eqb lw (4 * n))) _ (ap not (ne_eqb lw (4 * n) h)))

      pub small_store : sw < history_place n (words n) + history_room f n E (words n) → 3 ≡ open_number n E A f lw sw
      small_store h = three (or_right (not (eqb lw (4 * n))) _ (lt-ltb sw (need n E f) (omega (arith, h, need_is f n E))))

      pub all_fits : lw ≡ 4 * n → history_place n (words n) + history_room f n E (words n) ≤ sw → 0 ≡ open_number n E A f lw sw
      unfolding open_number
      all_fits e h = rw (first_none, second_none, or_none (not (eqb lw (4 * n))) _ (ap not (eq-eqb lw (4 * n) e)) (le-ltb sw (need n E f) (omega (arith, h, need_is f n E)))) refl

-- no product passes 64 bits
pub axes_fit : (n E : ℕ) → n ≤ 23168 → E ≤ 2 ^ 24 → 2 * ((n + 63) / 64) * E ≤ 12146704384
axes_fit n E h k = mul-le-mul long k
  where
    long : 2 * ((n + 63) / 64) ≤ 724
    long = omega arith

-- the answers of the functions by form
pub wide_Scalar : (g : forms.Form) (n : ℕ) → g ≡ Scalar → false ≡ is_too_wide (form_of g) n
unfolding is_too_wide form_of
wide_Scalar g n e = rw e refl

pub wide_Sliced : (g : forms.Form) (n : ℕ) → g ≡ Sliced → ltb 32 n ≡ is_too_wide (form_of g) n
unfolding is_too_wide form_of
wide_Sliced g n e = rw e refl

pub code_Scalar : (g : forms.Form) → g ≡ Scalar → 0 ≡ form_code (form_of g)
unfolding form_code form_of
code_Scalar g e = rw e refl

pub code_Sliced : (g : forms.Form) → g ≡ Sliced → 1 ≡ form_code (form_of g)
unfolding form_code form_of
code_Sliced g e = rw e refl

-- ---- the words

pub stamped : (s : List ℕ) (n E A w : ℕ) (f : Form) → w ≡ form_code f → 14 ≤ length s → Stamped s n E A f (set (set (set (set (set s 0 (length s)) 1 n) 2 w) 3 E) 4 A)
stamped s n E A w f e long = record {
  same_length = simp length-set refl;
  size = get_or-set_other t₃ 4 0 A 0 (omega arith) ∙ get_or-set_other t₂ 3 0 E 0 (omega arith) ∙ get_or-set_other t₁ 2 0 w 0 (omega arith) ∙ get_or-set_other t₀ 1 0 n 0 (omega arith)
      ∙ get_or-set_same s 0 (length s) 0 (omega arith);
  qubits = get_or-set_other t₃ 4 1 A 0 (omega arith) ∙ get_or-set_other t₂ 3 1 E 0 (omega arith) ∙ get_or-set_other t₁ 2 1 w 0 (omega arith) ∙ get_or-set_same t₀ 1 n 0 (simp length-set (omega arith));
  form = get_or-set_other t₃ 4 2 A 0 (omega arith) ∙ get_or-set_other t₂ 3 2 E 0 (omega arith) ∙ get_or-set_same t₁ 2 w 0 (simp length-set (omega arith)) ∙ e;
  capacity = get_or-set_other t₃ 4 3 A 0 (omega arith) ∙ get_or-set_same t₂ 3 E 0 (simp length-set (omega arith));
  steps = get_or-set_same t₃ 4 A 0 (simp length-set (omega arith));
  other = λ k h.
      get_or-set_other t₃ 4 k A 0 (omega arith) ∙ get_or-set_other t₂ 3 k E 0 (omega arith) ∙ get_or-set_other t₁ 2 k w 0 (omega arith) ∙ get_or-set_other t₀ 1 k n 0 (omega arith)
      ∙ get_or-set_other s 0 k (length s) 0 (omega arith);
}
  where
    t₀ : List ℕ
    t₀ = set s 0 (length s)

    t₁ : List ℕ
    t₁ = set t₀ 1 n

    t₂ : List ℕ
    t₂ = set t₁ 2 w

    t₃ : List ℕ
    t₃ = set t₂ 3 E

-- the header of the state that is opened, in the words that were stamped
Stamped-Header : (n E A : ℕ) (f : Form) (ws s t : List ℕ) → Stamped s n E A f t → Header (opening n E A f ws (length s)) t
unfolding opening
Stamped-Header n E A f ws s t h = record { size = h.size; qubits = h.qubits; form = h.form; capacity = h.capacity; allowance = h.steps }

module _ (n E A : ℕ) (f : Form) (ws s t ys zs : List ℕ) (j k : ℕ) (first : j ≡ frame_size n (words n)) (rest : k ≡ history_room f n E (words n)) (answer : open_answer (opening n E A f ws (length s)) ≡ 0) (fits : history_place n (words n) + k ≤ length s) (stamp : Stamped s n E A f t) (framed : frames.Held n (words n) (fresh n) (label_rows ws) ys) where
  abbrev Middle : List ℕ
  Middle = splice 14 j t ys

  abbrev End : List ℕ
  End = splice (history_place n (words n)) k Middle zs

  -- stamped, then the frames, then the history: from s on, what an opening makes
  pub opened_to : Becomes f n E (words n) (opened (opening n E A f ws (length s))) (part (history_place n (words n)) k Middle) zs → StoredTo (opened (opening n E A f ws (length s))) s End
  unfolding opened opening
  opened_to q = record {
    stored = record {
      opens = answer;
      long = omega (arith, long_end);
      header = Header-kept _ (history_place n (words n)) k Middle zs (omega arith) there₂ long₂ (Header-kept _ 14 j t ys (omega arith) there₁ long₁ (Stamped-Header n E A f ws s t stamp));
      frames = subst (λ (w : List ℕ). frames.Held n (words n) (fresh n) (label_rows ws) w) (sym frames_are) framed;
      history = subst (λ (w : List ℕ). Holds f n E (words n) (opened (opening n E A f ws (length s))) w) (sym history_is) q.holds;
    };
    only = record {
      same_length = long_end;
      kept = λ i u.
          splice-Only (Uses f n E (words n) (opened (opening n E A f ws (length s)))) (history_place n (words n)) k Middle zs there₂ long₂ q.only i (λ b w. u (inr (inr ((b.0, omega (arith, b.1, rest)), w))))
          ∙ middle_kept i (λ w. u (inr (inl w)))
          ∙ stamp.other i (header_free i (λ w. u (inl w)));
    };
  }
    where
      there₁ : 14 + j ≤ length t
      there₁ = omega (arith, fits, first, stamp.same_length)

      long₁ : length ys ≡ j
      long₁ = framed.rows.long ∙ sym first

      long_middle : length Middle ≡ length s
      long_middle = splice-length 14 j t there₁ ys long₁ ∙ stamp.same_length

      there₂ : history_place n (words n) + k ≤ length Middle
      there₂ = omega (arith, fits, long_middle)

      long₂ : length zs ≡ k
      long₂ = q.holds.long ∙ sym rest

      long_end : length End ≡ length s
      long_end = splice-length (history_place n (words n)) k Middle there₂ zs long₂ ∙ long_middle

      frames_are : part 14 (frame_size n (words n)) End ≡ ys
      frames_are =
          splice_other (history_place n (words n)) k Middle there₂ zs long₂ 14 (frame_size n (words n)) (omega (arith, there₂)) (inl (omega arith))
          ∙ ap (λ (i : ℕ). part 14 i Middle) (sym first) ∙ splice-part 14 j t there₁ ys long₁

      history_is : part (history_place n (words n)) (history_room f n E (words n)) End ≡ zs
      history_is = ap (λ (i : ℕ). part (history_place n (words n)) i End) (sym rest) ∙ splice-part (history_place n (words n)) k Middle there₂ zs long₂

      middle_kept : (i : ℕ) → (Among 14 (frame_size n (words n)) i → ⊥) → get_or Middle i 0 ≡ get_or t i 0
      middle_kept i u = go (dec_lt i 14) (dec_lt i (14 + j))
        where
          go : Dec (i < 14) → Dec (i < 14 + j) → get_or Middle i 0 ≡ get_or t i 0
          go (yes a) e = splice_out 14 j t there₁ ys long₁ i (inl a)
          go (no a) (no e) = splice_out 14 j t there₁ ys long₁ i (inr (omega arith))
          go (no a) (yes e) = absurd (u (omega arith, omega (arith, first)))

      header_free : (i : ℕ) → (i < 5 → ⊥) → 5 ≤ i
      header_free i u = go (dec_lt i 5)
        where
          go : Dec (i < 5) → 5 ≤ i
          go (yes a) = absurd (u a)
          go (no a) = omega arith

-- the sizes of an opening that is accepted, as the code computes them
pub record Begins (n E : ℕ) (f : Form) (ws : List ℕ) (w : ℕ) : Type 0 where
  pub few : n ≤ 23168
  pub planes : (n + 63) / 64 ≤ 362
  pub within : n ≤ 64 * ((n + 63) / 64)
  pub some_event : 1 ≤ E
  pub few_events : E ≤ 2 ^ 24
  pub narrow : Narrow f n ((n + 63) / 64)
  pub labels : length ws ≡ 4 * n
  pub fits : history_place n ((n + 63) / 64) + history_room f n E ((n + 63) / 64) ≤ w
  pub frame : 2 * n * (2 * ((n + 63) / 64) + 1) ≤ 33593600
  pub room : history_room f n E ((n + 63) / 64) ≤ 2 ^ 50

pub begins : (n E A : ℕ) (f : Form) (ws : List ℕ) (w : ℕ) → open_answer (opening n E A f ws w) ≡ 0 → Begins n E f ws w
unfolding opening words
begins n E A f ws w h =
    let a : Accepted (opening n E A f ws w) = sizes_of (opening n E A f ws w) h in
    record {
      few = a.few;
      planes = a.planes;
      within = omega arith;
      some_event = a.some_event;
      few_events = a.few_events;
      narrow = a.narrow;
      labels = a.labels;
      fits = a.fits;
      frame = frame_fits n a.few;
      room = room_small f n E ((n + 63) / 64) a.few a.few_events a.planes;
    }

-- the frames' part as it is lent
pub lent_frames_lem : (n l e : ℕ) (t : List ℕ) → e ≡ history_place n l → e ≤ length t → frames.Sized (2 * n) l (part 14 (e - 14) t)
lent_frames_lem n l e t is fits =
    let k : e - 14 ≡ frame_size n l = omega (arith, is) in
    part_length 14 (e - 14) t (omega arith) ∙ k

-- and the slice once it is back
pub middle_long : (n l e : ℕ) (t ys : List ℕ) → e ≡ history_place n l → e ≤ length t → frames.Sized (2 * n) l ys → length (splice 14 (e - 14) t ys) ≡ length t
middle_long n l e t ys is fits long =
    let k : frame_size n l ≡ e - 14 = omega (arith, is) in
    splice-length 14 (e - 14) t (omega arith) ys (long ∙ k)

-- the history's part, from a on, as it is lent
pub lent_history : (n E : ℕ) (f : Form) (ws : List ℕ) (w a e : ℕ) (t : List ℕ) → Begins n E f ws w → a ≡ history_place n ((n + 63) / 64) → e ≡ a + history_room f n E ((n + 63) / 64) → e ≤ length t
    → history.Sized f n E ((n + 63) / 64) (part a (e - a) t)
lent_history n E f ws w a e t b at is fits =
    let k : e - a ≡ history_room f n E ((n + 63) / 64) = omega (arith, is) in
    record {
      some = b.some_event;
      few = b.few_events;
      planes = b.planes;
      narrow = b.narrow;
      long = part_length a (e - a) t (omega (arith, is)) ∙ k;
    }

-- the whole, with l and the history's place a as the code computes them
pub begun : (n E A : ℕ) (f : Form) (ws s t ys zs : List ℕ) (j k a : ℕ) → a ≡ history_place n ((n + 63) / 64) → j ≡ frame_size n ((n + 63) / 64) → k ≡ history_room f n E ((n + 63) / 64)
    → open_answer (opening n E A f ws (length s)) ≡ 0 → Stamped s n E A f t → frames.Held n ((n + 63) / 64) (fresh n) (label_rows ws) ys
    → ((o : Opening) → o.form ≡ f → o.n ≡ n → words o.n ≡ (n + 63) / 64 → o.capacity ≡ E → Becomes f n E ((n + 63) / 64) (opened o) (part a k (splice 14 j t ys)) zs)
    → StoredTo (opened (opening n E A f ws (length s))) s (splice a k (splice 14 j t ys) zs)
unfolding words opening
begun n E A f ws s t ys zs j k a at first rest answer stamp framed made =
    subst (λ (x : ℕ). StoredTo (opened (opening n E A f ws (length s))) s (splice x k (splice 14 j t ys) zs)) (sym at)
    (opened_to n E A f ws s t ys zs j k first rest answer (omega (arith, (begins n E A f ws (length s) answer).fits, rest)) stamp framed
    (subst (λ (x : ℕ). Becomes f n E ((n + 63) / 64) (opened (opening n E A f ws (length s))) (part x k (splice 14 j t ys)) zs) at (made (opening n E A f ws (length s)) refl refl refl refl)))

-- ---- what `open` promises

pub open_refused : (o : Opening) (s : List ℕ) (k : ℕ) → k ≡ open_answer o → k ≢ 0 → Opens o s (refused k) s
open_refused o s k e h = record {
  answer = rw (sym e, ne_eqb k 0 h) refl;
  untouched = λ z. refl;
  becomes = λ z. absurd (h (e ∙ z));
}

pub open_done : (o : Opening) (s t : List ℕ) → open_answer o ≡ 0 → StoredTo (opened o) s t → Opens o s accepted t
open_done o s t e h = record {
  answer = rw (eq-eqb (open_answer o) 0 e) refl;
  untouched = λ z. absurd (z e);
  becomes = λ z. record { held = record { reached = Reached-open o e; stored = h.stored }; only = h.only };
}

-- the same of what the code found
module _ (n E A : ℕ) (f : Form) (ws s : List ℕ) where
  pub refuses : (e : OpenError) → open_code_of e ≡ open_number n E A f (length ws) (length s) → Opens (opening n E A f ws (length s)) s (told_open (Err e)) s
  unfolding open_answer opening
  refuses e is = open_refused (opening n E A f ws (length s)) s (open_code_of e) is (some e)
    where
      some : (e : OpenError) → open_code_of e ≢ 0
      some Sizes = λ z. omega (arith, z)
      some Events = λ z. omega (arith, z)
      some TooShort = λ z. omega (arith, z)

  pub number_zero : 0 ≡ open_number n E A f (length ws) (length s) → open_answer (opening n E A f ws (length s)) ≡ 0
  unfolding open_answer opening
  number_zero e = sym e
