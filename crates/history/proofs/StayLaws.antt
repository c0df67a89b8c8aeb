-- Laws of words that stay: the words of the events and those of the lists lie apart, so each stay as they are while the others are written.
-- Assumes nothing.
use mathlib.Core.Path.{◌≡◌, ap, ◌∙◌}
use mathlib.Core.Logic.{⊎_elim}
use mathlib.Core.List.{List, map}
use Prim.Native.Nat.{ℕ, ◌+◌, ◌*◌, ◌/◌, ◌%◌, ◌≤◌, ◌<◌}
use native.Mathlib.Omega.{arith}
use lib.ListN.{length, get_or}
use Rattle.model.specs.Events as model
use Rattle.model.specs.Pauli.{has}
use Rattle.model.specs.Events.{Event, State, words, event_at}
use Rattle.model.specs.Search.{list_at}
use Rattle.pauli.proofs.RowLaws.{value_same}
use Rattle.lists.specs.Lists.{Among, Counts}
use Rattle.sliced.specs.Blocks.{Entry, entry_of, sliced_room, mask_place, live_place, Blocks}
use Rattle.history.specs.Newest.{head_place, link_place}
use Rattle.history.specs.Words.{label_place, tag_place, sig_place, axis_place, alive_place, count_place, list_place, history_room, OfLists, ListsIn, dead_in, Holds}
use Rattle.history.specs.Sizes.{Sized}
use Rattle.history.specs.Recordings.{EventsHeld}
use Rattle.history.proofs.AxisWords.{axis_inside}
use Rattle.history.proofs.StoreLaws.{label_same}

-- ---- sizes

-- the words of the events stand in the slice
pub counts_there : (f : model.Form) (n cap l : ℕ) (h : List ℕ) → Sized f n cap l h → count_place cap l ≤ length h
unfolding history_room
counts_there f n cap l h s = omega (arith, s.long)

pub sized_same : (f : model.Form) (n cap l : ℕ) (h g : List ℕ) → length g ≡ length h → Sized f n cap l h → Sized f n cap l g
sized_same f n cap l h g e s = record { some = s.some; few = s.few; planes = s.planes; narrow = s.narrow; long = e ∙ s.long }

-- ---- words that stay

-- the two counts of a list
Counts-stay : (at k d : ℕ) (h g : List ℕ) → ((j : ℕ) → at ≤ j → get_or g j 0 ≡ get_or h j 0) → Counts h at k d → Counts g at k d
Counts-stay at k d h g same c = record { len = same at (omega arith) ∙ c.len; dead = same (at + 1) (omega arith) ∙ c.dead }

-- the blocks of a list
Blocks-stay : (base cap n k : ℕ) (h g : List ℕ) (m : List Entry) → ((j : ℕ) → base ≤ j → get_or g j 0 ≡ get_or h j 0) → Blocks h base cap n k m → Blocks g base cap n k m
Blocks-stay base cap n k h g m same r = record {
  within = r.within;
  ids = λ i l. same (base + i) (omega arith) ∙ r.ids i l;
  xs = λ b p j l lp lj. ap (λ (v : ℕ). has v j) (same (mask_place base cap n b + (2 * p + 0)) (omega arith)) ∙ r.xs b p j l lp lj;
  zs = λ b p j l lp lj. ap (λ (v : ℕ). has v j) (same (mask_place base cap n b + (2 * p + 1)) (omega arith)) ∙ r.zs b p j l lp lj;
  lives = λ b j l lj. ap (λ (v : ℕ). has v j) (same (live_place base cap n b) (omega arith)) ∙ r.lives b j l lj;
}

-- the lists stay where the words from their counts on do
pub lists_stay : (f : model.Form) (m : State) (n cap l : ℕ) (h g : List ℕ) → ((j : ℕ) → count_place cap l ≤ j → get_or g j 0 ≡ get_or h j 0) → ListsIn f m n cap l h → ListsIn f m n cap l g
lists_stay model.scalar m n cap l h g same s = λ b k.
    let o = s b k in
    record {
      counts = Counts-stay (count_place cap l + 2 * b) (length (list_at m b)) (dead_in m b) h g (λ j i. same j (omega arith)) o.counts;
      within = o.within;
      numbers = λ i q. same (list_place model.scalar n cap l + b * cap + i) (omega arith) ∙ o.numbers i q;
    }
lists_stay model.sliced m n cap l h g same s = λ b k.
    let o = s b k in
    let ms : List Entry = map (entry_of m.events) (list_at m b) in
    record {
      counts = Counts-stay (count_place cap l + 2 * b) (length ms) (dead_in m b) h g (λ j i. same j (omega arith)) o.counts;
      reps = Blocks-stay (list_place model.sliced n cap l + b * sliced_room cap n) cap n (words (length ms)) h g ms (λ j i. same j (omega arith)) o.reps;
    }

-- the events stay where the words before the counts do
pub events_stay : (cap l : ℕ) (es : List Event) (h g : List ℕ) → length es ≤ cap → ((j : ℕ) → 2 ≤ j → j < count_place cap l → get_or g j 0 ≡ get_or h j 0) → EventsHeld cap l es h → EventsHeld cap l es g
events_stay cap l es h g room same c = record {
  chains = λ k b. record {
    head = same (head_place k) (omega arith) (omega arith) ∙ (c.chains k b).head;
    link = λ i a t. same (link_place cap i) (omega arith) (omega arith) ∙ (c.chains k b).link i a t;
  };
  bodies = record {
    label = λ i a.
        label_same h g (label_place cap i) (event_at es i).body (same (label_place cap i) (omega arith) (omega arith)) (same (label_place cap i + 1) (omega arith) (omega arith)) (c.bodies.label i a);
    tag = λ i a. same (tag_place cap i) (omega arith) (omega arith) ∙ c.bodies.tag i a;
    small = c.bodies.small;
  };
  signed = λ i a. same (sig_place cap + i) (omega arith) (omega arith) ∙ c.signed i a;
  axed = record {
    xs = λ i a.
        let q = axis_inside cap l i (omega arith) in
        value_same h g l (axis_place cap + i * (2 * l)) (axis_place cap + i * (2 * l)) (λ j b. same (axis_place cap + i * (2 * l) + j) (omega arith) (omega arith)) ∙ c.axed.xs i a;
    zs = λ i a.
        let q = axis_inside cap l i (omega arith) in
        value_same h g l (axis_place cap + i * (2 * l) + l) (axis_place cap + i * (2 * l) + l) (λ j b. same (axis_place cap + i * (2 * l) + l + j) (omega arith) (omega arith)) ∙ c.axed.zs i a;
  };
  alive = λ e a. ap (λ (v : ℕ). has v (e % 64)) (same (alive_place cap l + e / 64) (omega arith) (inside e a)) ∙ c.alive e a;
}
  where
    inside : (e : ℕ) → e < words (length es) * 64 → alive_place cap l + e / 64 < count_place cap l
    inside e a = unfold words in omega arith

-- the lists' words stand behind all others
pub lists_behind : (f : model.Form) (n cap l : ℕ) (m : State) (k : ℕ) → OfLists f n cap l m k → count_place cap l ≤ k
lists_behind model.scalar n cap l m k (b, lb, u) =
    ⊎_elim (λ (i : Among (count_place cap l + 2 * b) 2 k). omega arith) (λ (i : Among (list_place model.scalar n cap l + b * cap) (length (list_at m b)) k). omega arith) u
lists_behind model.sliced n cap l m k (b, lb, u) =
    ⊎_elim (λ (i : Among (count_place cap l + 2 * b) 2 k). omega arith)
    (⊎_elim (λ (i : Among (list_place model.sliced n cap l + b * sliced_room cap n) (length (list_at m b)) k). omega arith)
    (⊎_elim (λ (i : Among (list_place model.sliced n cap l + b * sliced_room cap n + cap) (words (length (list_at m b)) * (2 * n)) k). omega arith)
    (λ (i : Among (live_place (list_place model.sliced n cap l + b * sliced_room cap n) cap n 0) (words (length (list_at m b))) k). omega arith))) u

-- the events of words that hold a state
pub events_held : (f : model.Form) (n cap l : ℕ) (m : State) (h : List ℕ) → Holds f n cap l m h → EventsHeld cap l m.events h
events_held f n cap l m h c = record { chains = c.chains; bodies = c.bodies; signed = c.signed; axed = c.axed; alive = c.alive }
