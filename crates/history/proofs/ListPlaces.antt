-- The lists of a form at their place in the history's words: what a call for each list of a signature asks of the words and makes of them.
-- Assumes nothing.
use mathlib.Core.Path.{◌≡◌, sym, ◌∙◌, subst}
use mathlib.Core.List.{List}
use Prim.Native.Nat.{ℕ, ◌+◌, ◌*◌, ◌/◌, ◌^◌, ◌≤◌, ◌<◌}
use native.Mathlib.Omega.{arith}
use lib.ListN.{length, get_or}
use lib.Bits.{bit_or}
use Rattle.std.specs.Prelude.{Result, Ok, IsOk}
use Rattle.model.specs.Pauli.{has}
use Rattle.model.specs.Events as model
use Rattle.model.specs.Events.{State, words}
use Rattle.model.specs.Search.{walk, phase2}
use Rattle.model.specs.Store.{list_count}
use Rattle.pauli.specs.Rows.{of_row, signature}
use Rattle.pauli.specs.declared.corrupt.Corrupt.{Corrupt}
use Rattle.lists.specs.declared.budget.Budget.{Budget}
use Rattle.lists.specs.declared.budget.Scan.{Scan}
use Rattle.lists.specs.Lists.{Known, still}
use Rattle.lists.specs.Scalars.{pushed, noted}
use Rattle.lists.specs.Scans.{scan_of}
use Rattle.sliced.specs.Blocks.{Entry, entry, fresh, RisingIds, Source, killed_at}
use Rattle.support.specs.declared.families.ScalarLists.{ScalarLists}
use Rattle.support.specs.declared.families.SlicedLists.{SlicedLists}
use Rattle.support.specs.Families.{chosen, ScalarRooms, Scalars, ScalarsTo, SlicedRooms, Sliceds, SlicedsTo, AllScannable, AllSliced, ScalarPushes, ScalarKills, ScalarScans, SlicedPushes, SlicedKills, SlicedScans, TwoWords}
use Rattle.support.specs.Runs.{Each, Scans}
use Rattle.support.proofs.FamilyLaws.{digit_below}
use Rattle.support.proofs.FormRuns.{scalar_pushed, scalar_killed, scalar_scanned, sliced_pushed, sliced_killed, sliced_scanned}
use Rattle.history.specs.Words.{alive_place, axis_place, sig_place, count_place, list_place}
use Rattle.history.specs.Sizes.{Sized, scalar_lists_of, sliced_lists_of}
use Rattle.history.proofs.FormLaws.{scalar_rooms, sliced_rooms, two_words}
use Rattle.history.proofs.ScanForm.{counts_inside, axes_inside}

Sized-same : (f : model.Form) (n cap l : ℕ) (h g : List ℕ) → Sized f n cap l h → length g ≡ length h → Sized f n cap l g
Sized-same f n cap l h g s e = record { some = s.some; few = s.few; planes = s.planes; narrow = s.narrow; long = e ∙ s.long }

-- ---- scalar

module _ (n cap l : ℕ) (h : List ℕ) (sized : Sized model.scalar n cap l h) (s : ScalarLists) (is : s ≡ scalar_lists_of cap l) where
  pub scalar_room : (g : List ℕ) → length g ≡ length h → ScalarRooms g s.at s.base s.cap
  unfolding list_count
  scalar_room g e = subst (λ (t : ScalarLists). ScalarRooms g t.at t.base t.cap) (sym is) (scalar_rooms n cap l g (Sized-same model.scalar n cap l h g sized e))

  pub scalar_live : (events : ℕ) → events ≤ cap → s.alive + words events ≤ s.at
  unfolding words
  scalar_live events le = subst (λ (t : ScalarLists). t.alive + (events + 63) / 64 ≤ t.at) (sym is) (omega arith)

  pub scalar_reads : (events : ℕ) (axis : List ℕ) → events ≤ cap → length axis ≡ 2 * l
      → ScalarRooms h s.at s.base s.cap × (s.sigs + events ≤ length h) × (s.axes + events * (2 * s.l) ≤ length h) × (length axis ≡ 2 * s.l)
  unfolding list_count
  scalar_reads events axis le long =
      let inside = counts_inside model.scalar n cap l h sized in
      subst (λ (t : ScalarLists). ScalarRooms h t.at t.base t.cap × (t.sigs + events ≤ length h) × (t.axes + events * (2 * t.l) ≤ length h) × (length axis ≡ 2 * t.l)) (sym is)
      (scalar_rooms n cap l h sized, omega arith, axes_inside model.scalar n cap l h sized events le, long)

  module _ (sig : ℕ) (g : List ℕ) (r : Result (Unit {0}) Corrupt) where
    pub scalar_push : (id : ℕ) → Each (λ b t u a. ScalarPushes s.at s.base s.cap b id t u a) sig h g r
        → (ls : ℕ → List ℕ) (d : ℕ → ℕ) → Scalars h (count_place cap l) (list_place model.scalar n cap l) cap ls d → ((b : ℕ) → b < 64 → has sig b ≡ 1 → length (ls b) < cap)
        → IsOk r × ScalarsTo h (count_place cap l) (list_place model.scalar n cap l) cap sig (chosen sig (λ b. pushed id (ls b)) ls) d g
    unfolding list_count
    scalar_push id run =
        scalar_pushed (count_place cap l) (count_place cap l + 2 * 64) cap sig h g r (omega arith) id
        (subst (λ (k : ScalarLists). Each (λ b t u a. ScalarPushes k.at k.base k.cap b id t u a) sig h g r) is run)

    pub scalar_kill : (events : ℕ) → events ≤ cap → Each (λ b t u a. ScalarKills s.at s.base s.cap s.alive events b t u a) sig h g r
        → (ls : ℕ → List ℕ) (d : ℕ → ℕ) → Scalars h (count_place cap l) (list_place model.scalar n cap l) cap ls d
        → ((b : ℕ) → b < 64 → has sig b ≡ 1 → (d b < length (ls b)) × Known events (ls b))
        → IsOk r × ScalarsTo h (count_place cap l) (list_place model.scalar n cap l) cap sig
        (chosen sig (λ b. noted h (alive_place cap l) (d b) (ls b)) ls) (chosen sig (λ b. still 4 (d b + 1) (length (ls b))) d) g
    unfolding list_count words
    scalar_kill events le run =
        scalar_killed (count_place cap l) (count_place cap l + 2 * 64) cap sig h g r (omega arith) (alive_place cap l) events (omega arith)
        (subst (λ (k : ScalarLists). Each (λ b t u a. ScalarKills k.at k.base k.cap k.alive events b t u a) sig h g r) is run)

  pub scalar_scan : (events : ℕ) (axis : List ℕ) (sig after : ℕ) (budget : Budget) (r : Result Scan Corrupt)
      → Scans (λ b left a. ScalarScans s.at s.base s.cap s.sigs s.axes s.l events b axis sig after left h a) sig budget r
      → (m : State) → AllScannable m l events h (count_place cap l) (count_place cap l + 128) cap (sig_place cap) (axis_place cap)
      → sig ≡ signature l (of_row 0 axis).x (of_row 0 axis).z
      → r ≡ Ok (scan_of (walk (phase2 m after (of_row 0 axis).x (of_row 0 axis).z) budget.0))
  scalar_scan events axis sig after budget r run =
      scalar_scanned h (count_place cap l) (count_place cap l + 128) cap (sig_place cap) (axis_place cap) l events axis sig after budget r
      (subst (λ (k : ScalarLists). Scans (λ b left a. ScalarScans k.at k.base k.cap k.sigs k.axes k.l events b axis sig after left h a) sig budget r) is run)

-- ---- sliced

module _ (n cap l : ℕ) (h : List ℕ) (sized : Sized model.sliced n cap l h) (s : SlicedLists) (is : s ≡ sliced_lists_of n cap l) where
  pub sliced_there : (sig : ℕ) → sig < 2 ^ n → (b : ℕ) → b < 64 → has sig b ≡ 1 → b < s.n
  sliced_there sig small b lb o = subst (λ (t : SlicedLists). b < t.n) (sym is) (digit_below n sig b small o)

  pub sliced_takes : (axis : List ℕ) → length axis ≡ 2 * l → get_or axis 0 0 < 2 ^ n → get_or axis 1 0 < 2 ^ n
      → (g : List ℕ) → length g ≡ length h → SlicedRooms g s.at s.base s.cap s.n × TwoWords s.n axis
  unfolding list_count
  sliced_takes axis long x z g e =
      let one = sized.narrow.1 in
      subst (λ (t : SlicedLists). SlicedRooms g t.at t.base t.cap t.n × TwoWords t.n axis) (sym is)
      (sliced_rooms n cap l g (Sized-same model.sliced n cap l h g sized e), record { long = omega arith; small_x = x; small_z = z })

  pub sliced_kills : (events : ℕ) → events ≤ cap
      → (g : List ℕ) → length g ≡ length h → SlicedRooms g s.at s.base s.cap s.n × (s.alive + words events ≤ s.at) × (s.axes + 2 * events ≤ s.at)
  unfolding list_count words
  sliced_kills events le g e =
      let two = two_words cap l sized.narrow.1 in
      subst (λ (t : SlicedLists). SlicedRooms g t.at t.base t.cap t.n × (t.alive + (events + 63) / 64 ≤ t.at) × (t.axes + 2 * events ≤ t.at)) (sym is)
      (sliced_rooms n cap l g (Sized-same model.sliced n cap l h g sized e), omega arith, omega arith)

  module _ (sig : ℕ) (small : sig < 2 ^ n) (g : List ℕ) (r : Result (Unit {0}) Corrupt) where
    pub sliced_push : (id x z : ℕ) → Each (λ b t u a. SlicedPushes s.at s.base s.cap s.n b id x z t u a) sig h g r
        → (ms : ℕ → List Entry) (d : ℕ → ℕ) → Sliceds h (count_place cap l) (list_place model.sliced n cap l) cap n ms d → ((b : ℕ) → b < n → has sig b ≡ 1 → length (ms b) < cap)
        → IsOk r × SlicedsTo h (count_place cap l) (list_place model.sliced n cap l) cap n sig (chosen sig (λ b. pushed (fresh id x z) (ms b)) ms) d g
    unfolding list_count
    sliced_push id x z run =
        sliced_pushed (count_place cap l) (count_place cap l + 2 * n) cap n sig h g r (omega arith) (λ b lb o. digit_below n sig b small o) id x z
        (subst (λ (k : SlicedLists). Each (λ b t u a. SlicedPushes k.at k.base k.cap k.n b id x z t u a) sig h g r) is run)

    pub sliced_kill : (id events : ℕ) → events ≤ cap → Each (λ b t u a. SlicedKills s.at s.base s.cap s.n s.alive s.axes events b id t u a) sig h g r
        → (ms : ℕ → List Entry) (d pos : ℕ → ℕ) → Sliceds h (count_place cap l) (list_place model.sliced n cap l) cap n ms d
        → ((b : ℕ) → b < n → has sig b ≡ 1 → (d b < length (ms b)) × RisingIds (ms b) × Source h n (axis_place cap) events (ms b) × (pos b < length (ms b)) × ((entry (ms b) (pos b)).id ≡ id))
        → IsOk r × SlicedsTo h (count_place cap l) (list_place model.sliced n cap l) cap n sig
        (chosen sig (λ b. killed_at h (alive_place cap l) (d b) (pos b) (ms b)) ms) (chosen sig (λ b. still 2 (d b + 1) (length (ms b))) d) g
    unfolding list_count words
    sliced_kill id events le run =
        let two = two_words cap l sized.narrow.1 in
        sliced_killed (count_place cap l) (count_place cap l + 2 * n) cap n sig h g r (omega arith) (λ b lb o. digit_below n sig b small o) id (alive_place cap l) (axis_place cap) events
        (omega arith) (omega arith)
        (subst (λ (k : SlicedLists). Each (λ b t u a. SlicedKills k.at k.base k.cap k.n k.alive k.axes events b id t u a) sig h g r) is run)

  pub sliced_scan : (x z after : ℕ) (budget : Budget) (r : Result Scan Corrupt) → x < 2 ^ n → z < 2 ^ n
      → Scans (λ b left a. SlicedScans s.at s.base s.cap s.n b x z after left h a) (bit_or x z) budget r
      → (m : State) → AllSliced m h (count_place cap l) (count_place cap l + 2 * n) cap n → r ≡ Ok (scan_of (walk (phase2 m after x z) budget.0))
  sliced_scan x z after budget r hx hz run =
      sliced_scanned h (count_place cap l) (count_place cap l + 2 * n) cap n x z after budget r sized.narrow.0 hx hz
      (subst (λ (k : SlicedLists). Scans (λ b left a. SlicedScans k.at k.base k.cap k.n b x z after left h a) (bit_or x z) budget r) is run)
