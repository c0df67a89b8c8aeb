-- Laws of an empty history and of a clear. Assumes nothing.
use mathlib.Core.Path.{◌≡◌, refl, sym, ap, ap₂, ◌∙◌, subst}
use mathlib.Core.Logic.{◌⊎◌, inl, inr}
use mathlib.Core.List.{List, [], map}
use Prim.Native.Nat.{ℕ, ◌+◌, ◌-◌, ◌*◌, ◌/◌, ◌≤◌, ◌<◌}
use native.Mathlib.Nat.{not-suc-le-zero, zero-add}
use native.Mathlib.Omega.{arith}
use native.Mathlib.Decide.{dec_lt}
use lib.ListN.{length, get_or, set, length-set, length-replicate, get_or-replicate}
use lib.Seq.{get_or-set_same, get_or-set_other}
use Rattle.model.specs.Events as model
use Rattle.model.specs.Events.{Event, Opening, State, words, keep, dead, clear}
use Rattle.model.specs.Search.{list_at}
use Rattle.model.specs.Store.{list_count}
use Rattle.model.specs.Calls.{opened}
use Rattle.pauli.specs.Fill.{Written}
use Rattle.lists.specs.Lists.{Among}
use Rattle.lists.specs.Scalars.{Scalar}
use Rattle.sliced.specs.Blocks.{entry_of, sliced_room, Sliced}
use Rattle.history.specs.declared.forms.Form.{Form}
use Rattle.history.specs.declared.forms.Form.TheVariants.{Scalar as form_scalar, Sliced as form_sliced}
use Rattle.history.specs.Newest.{head_place, newest}
use Rattle.history.specs.Words.{count_place, list_place, history_room, ListsIn, dead_in, Holds, OfList, OfLists, Becomes}
use Rattle.history.specs.Sizes.{form_of, Sized}
use Rattle.history.specs.Recordings.{EventsHeld}
use Rattle.history.proofs.StayLaws.{lists_stay, events_stay, events_held}

-- ---- a clear

lists_cleared : (f : model.Form) (m : State) (n cap l : ℕ) (h : List ℕ) → ListsIn f m n cap l h → ListsIn f (clear m) n cap l h
unfolding clear list_at dead_in
lists_cleared model.scalar m n cap l h s = s
lists_cleared model.sliced m n cap l h s = s

pub cleared_Becomes : (f : model.Form) (n cap l : ℕ) (m : State) (h : List ℕ) → 2 ≤ length h → Holds f n cap l m h → Becomes f n cap l (clear m) h (set h 1 (get_or h 0 0))
unfolding clear
cleared_Becomes f n cap l m h long s = record {
  holds = record {
    given = record { form = s.given.form; qubits = s.given.qubits; capacity = s.given.capacity; planes = s.given.planes };
    long = length-set h 1 (get_or h 0 0) ∙ s.long;
    count = get_or-set_other h 1 0 (get_or h 0 0) 0 (λ e. omega arith) ∙ s.count;
    room = s.room;
    cleared = get_or-set_same h 1 (get_or h 0 0) 0 long ∙ s.count;
    chains = held.chains;
    bodies = held.bodies;
    signed = held.signed;
    axed = held.axed;
    alive = held.alive;
    many = s.many;
    lists = lists_cleared f m n cap l (set h 1 (get_or h 0 0)) (lists_stay f m n cap l h (set h 1 (get_or h 0 0)) (λ k a. same k (omega arith)) s.lists);
  };
  only = record {
    same_length = length-set h 1 (get_or h 0 0);
    kept = λ k off. get_or-set_other h 1 k (get_or h 0 0) 0 (λ e. off (inl (omega arith)));
  };
}
  where
    same : (k : ℕ) → 2 ≤ k → get_or (set h 1 (get_or h 0 0)) k 0 ≡ get_or h k 0
    same k a = get_or-set_other h 1 k (get_or h 0 0) 0 (λ e. omega arith)

    held : EventsHeld cap l m.events (set h 1 (get_or h 0 0))
    held = events_stay cap l m.events h (set h 1 (get_or h 0 0)) s.room (λ k a b. same k a) (events_held f n cap l m h s)

-- ---- an opening

pub count_scalar : (f : Form) (n : ℕ) → f ≡ form_scalar → 64 ≡ list_count (form_of f) n
unfolding form_of list_count
count_scalar f n e = ap (λ (g : Form). list_count (form_of g) n) (sym e)

pub count_sliced : (f : Form) (n : ℕ) → f ≡ form_sliced → n ≡ list_count (form_of f) n
unfolding form_of list_count
count_sliced f n e = ap (λ (g : Form). list_count (form_of g) n) (sym e)

-- the words have room for the heads, and for the counts of the lists
pub heads_fit : (f : model.Form) (n cap l : ℕ) (h : List ℕ) → Sized f n cap l h → 2 + cap ≤ length h
unfolding history_room
heads_fit f n cap l h s = omega (arith, s.long)

pub lists_fit : (f : model.Form) (n cap l : ℕ) (h : List ℕ) → Sized f n cap l h → 2 + 6 * cap + cap * (2 * l) + (cap + 63) / 64 + 2 * list_count f n ≤ length h
unfolding words history_room
lists_fit f n cap l h s = omega (arith, s.long)

-- a list without entries
none_Scalar : (g : List ℕ) (at base cap : ℕ) → get_or g at 0 ≡ 0 → get_or g (at + 1) 0 ≡ 0 → Scalar g at base cap [] 0
none_Scalar g at base cap a b = record { counts = record { len = a; dead = b }; within = omega arith; numbers = λ i k. absurd (not-suc-le-zero k) }

none_Sliced : (g : List ℕ) (at base cap n : ℕ) → get_or g at 0 ≡ 0 → get_or g (at + 1) 0 ≡ 0 → Sliced g at base cap n [] 0
unfolding words
none_Sliced g at base cap n a b = record {
  counts = record { len = a; dead = b };
  reps = record {
    within = omega arith;
    ids = λ i k. absurd (not-suc-le-zero k);
    xs = λ c p j u v w. absurd (not-suc-le-zero u);
    zs = λ c p j u v w. absurd (not-suc-le-zero u);
    lives = λ c j u v. absurd (not-suc-le-zero u);
  };
}

dead_none : (es : List Event) → dead es [] ≡ 0
unfolding dead keep
dead_none es = refl

-- the lists of m are empty, and their counts 0
no_lists : (f : model.Form) (m : State) (n cap l : ℕ) (g : List ℕ) → ((b : ℕ) → b < list_count f n → list_at m b ≡ []) → ((b : ℕ) → b < list_count f n → dead_in m b ≡ 0)
    → ((j : ℕ) → j < 2 * list_count f n → get_or g (count_place cap l + j) 0 ≡ 0) → ListsIn f m n cap l g
unfolding list_count
no_lists model.scalar m n cap l g empty none zeros = λ b k.
    subst (λ (d : ℕ). Scalar g (count_place cap l + 2 * b) (list_place model.scalar n cap l + b * cap) cap (list_at m b) d) (sym (none b k))
    (subst (λ (s : List ℕ). Scalar g (count_place cap l + 2 * b) (list_place model.scalar n cap l + b * cap) cap s 0) (sym (empty b k))
    (none_Scalar g (count_place cap l + 2 * b) (list_place model.scalar n cap l + b * cap) cap (zeros (2 * b) (omega arith))
    (ap (λ (i : ℕ). get_or g i 0) (omega arith) ∙ zeros (2 * b + 1) (omega arith))))
no_lists model.sliced m n cap l g empty none zeros = λ b k.
    subst (λ (d : ℕ). Sliced g (count_place cap l + 2 * b) (list_place model.sliced n cap l + b * sliced_room cap n) cap n (map (entry_of m.events) (list_at m b)) d) (sym (none b k))
    (subst (λ (s : List ℕ). Sliced g (count_place cap l + 2 * b) (list_place model.sliced n cap l + b * sliced_room cap n) cap n (map (entry_of m.events) s) 0) (sym (empty b k))
    (none_Sliced g (count_place cap l + 2 * b) (list_place model.sliced n cap l + b * sliced_room cap n) cap n (zeros (2 * b) (omega arith))
    (ap (λ (i : ℕ). get_or g i 0) (omega arith) ∙ zeros (2 * b + 1) (omega arith))))

in_counts : (f : model.Form) (n cap l b len k : ℕ) → Among (count_place cap l + 2 * b) 2 k → OfList f n cap l b len k
in_counts model.scalar n cap l b len k a = inl a
in_counts model.sliced n cap l b len k a = inl a

module _ (f : model.Form) (n cap l : ℕ) (o : Opening) (form : o.form ≡ f) (qubits : o.n ≡ n) where
  count_as : list_count o.form o.n ≡ list_count f n
  count_as = ap₂ list_count form qubits

  opened_list : (b : ℕ) → b < list_count f n → list_at (opened o) b ≡ []
  unfolding opened list_at
  opened_list b k = get_or-replicate (list_count o.form o.n) b [] [] (subst (λ (c : ℕ). b < c) (sym count_as) k)

  opened_dead : (b : ℕ) → b < list_count f n → dead_in (opened o) b ≡ 0
  unfolding dead_in
  opened_dead b k = ap (dead (opened o).events) (opened_list b k) ∙ dead_none (opened o).events

  opened_many : length (opened o).lists ≡ list_count f n
  unfolding opened
  opened_many = length-replicate {A = List ℕ} (list_count o.form o.n) [] ∙ count_as

  module _ (planes : words o.n ≡ l) (capacity : o.capacity ≡ cap) (h h1 g : List ℕ) (long : length h ≡ history_room f n cap l)
      (w1 : Written h 0 (2 + cap) (λ i. 0) h1) (w2 : Written h1 (count_place cap l) (2 * list_count f n) (λ i. 0) g) where
    heads_clear : (k : ℕ) → k < 2 + cap → get_or g k 0 ≡ 0
    heads_clear k b = w2.kept k (inl (omega arith)) ∙ ap (λ (i : ℕ). get_or h1 i 0) (sym (zero-add k)) ∙ w1.here k b

    counts_clear : (j : ℕ) → j < 2 * list_count f n → get_or g (count_place cap l + j) 0 ≡ 0
    counts_clear j b = w2.here j b

    opened-Holds : Holds f n cap l (opened o) g
    unfolding opened words newest
    opened-Holds = record {
      given = record { form = form; qubits = qubits; capacity = capacity; planes = planes };
      long = w2.same_length ∙ w1.same_length ∙ long;
      count = heads_clear 0 (omega arith);
      room = omega arith;
      cleared = heads_clear 1 (omega arith);
      chains = λ k b. record { head = heads_clear (head_place k) (omega arith); link = λ i a t. absurd (not-suc-le-zero a) };
      bodies = record { label = λ i a. absurd (not-suc-le-zero a); tag = λ i a. absurd (not-suc-le-zero a); small = λ i a. absurd (not-suc-le-zero a) };
      signed = λ i a. absurd (not-suc-le-zero a);
      axed = record { xs = λ i a. absurd (not-suc-le-zero a); zs = λ i a. absurd (not-suc-le-zero a) };
      alive = λ i a. absurd (not-suc-le-zero a);
      many = opened_many;
      lists = no_lists f (opened o) n cap l g opened_list opened_dead counts_clear;
    }

    apart : (k : ℕ) → (OfLists f n cap l (opened o) k → ⊥) → (k < count_place cap l) ⊎ (count_place cap l + 2 * list_count f n ≤ k)
    apart k off =
        elim (dec_lt k (count_place cap l)) [
          | yes d ↦ inl d
          | no d ↦ elim (dec_lt k (count_place cap l + 2 * list_count f n)) [
            | yes e ↦ absurd (off (
              (k - count_place cap l) / 2,
              omega arith,
              in_counts f n cap l ((k - count_place cap l) / 2) (length (list_at (opened o) ((k - count_place cap l) / 2))) k (omega arith, omega arith),
            ))
            | no e ↦ inr (omega arith)
          ]
        ]

    past_heads : (k : ℕ) → (k < 2 + cap → ⊥) → 0 + (2 + cap) ≤ k
    past_heads k off = elim (dec_lt k (2 + cap)) [
      | yes d ↦ absurd (off d)
      | no d ↦ omega arith
    ]

    opened-Becomes : Becomes f n cap l (opened o) h g
    opened-Becomes = record {
      holds = opened-Holds;
      only = record {
        same_length = w2.same_length ∙ w1.same_length;
        kept = λ k off. w2.kept k (apart k (λ u. off (inr (inr (inr u))))) ∙ w1.kept k (inr (past_heads k (λ u. off (inl u))));
      };
    }

-- what `fresh` leaves
pub fresh_Becomes : (f : model.Form) (n cap l lists : ℕ) (h h1 g : List ℕ) → lists ≡ list_count f n → Sized f n cap l h → Written h 0 (2 + cap) (λ i. 0) h1
    → Written h1 (2 + 6 * cap + cap * (2 * l) + (cap + 63) / 64) (2 * lists) (λ i. 0) g
    → (o : Opening) → o.form ≡ f → o.n ≡ n → words o.n ≡ l → o.capacity ≡ cap → Becomes f n cap l (opened o) h g
unfolding words
fresh_Becomes f n cap l lists h h1 g e s w1 w2 o form qubits planes capacity =
    opened-Becomes f n cap l o form qubits planes capacity h h1 g s.long w1
    (subst (λ (k : ℕ). Written h1 (count_place cap l) (2 * k) (λ i. 0) g) e w2)
