-- What a call for each list of a signature makes of all lists of a form: `Each` and `Scans` of the specs, at the two forms. Assumes nothing.
--     scalar_pushed, scalar_killed, scalar_scanned
--     sliced_pushed, sliced_killed, sliced_scanned
use mathlib.Core.Path.{◌≡◌, refl, sym, ap, ◌∙◌, subst}
use mathlib.Core.Bool.{Bool}
use mathlib.Core.List.{List}
use Prim.Native.Nat.{ℕ, ◌+◌, ◌*◌, ◌^◌, ◌≤◌, ◌<◌}
use native.Mathlib.Decide.{ℕ_discrete}
use native.Mathlib.Omega.{arith}
use lib.ListN.{length, get_or}
use lib.Bits.{bit_or}
use Rattle.std.specs.Prelude.{Result, Ok, IsOk}
use Rattle.model.specs.Pauli.{has}
use Rattle.model.specs.Events.{State, words, touches}
use Rattle.model.specs.Search.{Work, Walk, walk, phase2, scalar_list, sliced_list}
use Rattle.model.proofs.Digits.{has_zero}
use Rattle.pauli.specs.declared.corrupt.Corrupt.{Corrupt}
use Rattle.pauli.specs.Rows.{of_row, signature}
use Rattle.lists.specs.declared.budget.Budget.{Budget}
use Rattle.lists.specs.declared.budget.Scan.{Scan}
use Rattle.lists.specs.declared.budget.Scan.TheVariants.{Clear}
use Rattle.lists.specs.Lists.{Only, Known, still}
use Rattle.lists.specs.Scalars.{ScalarTo, pushed, noted}
use Rattle.lists.specs.Scans.{scan_of}
use Rattle.lists.proofs.ScanLaws.{same_answer}
use Rattle.sliced.specs.Blocks.{Entry, entry, fresh, sliced_room, SlicedTo, RisingIds, Source, killed_at}
use Rattle.support.specs.Families.{chosen, Scalars, ScalarsTo, Sliceds, SlicedsTo, AllScannable, AllSliced, ScalarPushes, ScalarKills, ScalarScans, SlicedPushes, SlicedKills, SlicedScans}
use Rattle.support.specs.Runs.{Each, none, goes, stops, Scans, through, clear, ends}
use Rattle.support.proofs.FamilyLaws.{InRoom, Family, more, ScalarIn, ScalarUses, scalar_inside, scalar_stays, Scalars-none, scalars_all, scalars_before, SlicedIn, SlicedUses, sliced_inside, sliced_stays, Sliceds-none, sliceds_all, sliceds_before, chosen_in, chosen_out, noted_same, killed_same, Source-same, still_within, refuses, or_some_qubit, or_digit_below}
use Rattle.support.proofs.PhaseLaws.{Phase, Phase-none, Phase-end, Phase-clear, phase_ends, signature_digit, qubit_digit, scalar_phase, sliced_phase, one_plane, quiet}

-- ---- calls that write, at either form: list b is to become ys b, with e b dead

module _ {A : Type 0} (L at base size : ℕ) (One : ℕ → List ℕ → A → ℕ → Type 0) (Used : ℕ → A → ℕ → Type 0)
    (inside : (b : ℕ) (h : List ℕ) (x : A) (d : ℕ) → One b h x d → (k : ℕ) → Used b x k → InRoom at base size b k)
    (stays : (b : ℕ) (h g : List ℕ) (x : A) (d : ℕ) → ((k : ℕ) → InRoom at base size b k → get_or g k 0 ≡ get_or h k 0) → One b h x d → One b g x d)
    (sig : ℕ) (xs ys : ℕ → A) (d e : ℕ → ℕ) (h₀ : List ℕ) (room : at + 2 * L ≤ base) (there : (b : ℕ) → b < 64 → has sig b ≡ 1 → b < L)
    (call : ℕ → List ℕ → List ℕ → Result (Unit {0}) Corrupt → Type 0)
    (turn : (w b : ℕ) (h g : List ℕ) (s : Result (Unit {0}) Corrupt) → Family L One Used sig xs ys d e h₀ w h → b < L → has sig b ≡ 1 → One b h (xs b) (d b) → call b h g s
    → IsOk s × One b g (ys b) (e b) × Only (Used b (ys b)) h g) where
  runs : (w : ℕ) (h g : List ℕ) (r : Result (Unit {0}) Corrupt) → Each call w h g r → ((j : ℕ) → has w j ≡ 1 → has sig j ≡ 1) → Family L One Used sig xs ys d e h₀ w h
      → IsOk r × Family L One Used sig xs ys d e h₀ 0 g
  runs w h g r (none _) sub f = (refl, f)
  runs w h g r (goes _ b v _ m _ s _ lo t o c on) sub f =
      let i = sub b lo.one in
      let l = there b lo.place i in
      let to = turn w b h m s f l i (f.todo b l lo.one) c in
      runs v m g r on (still_within sig w b v t sub) (more L at base size One Used inside stays sig xs ys d e h₀ w b v h m room t l i to.1 to.2 f)
  runs w h g r (stops _ b _ _ s _ lo es er c) sub f =
      let i = sub b lo.one in
      let l = there b lo.place i in
      absurd (refuses s es (turn w b h g s f l i (f.todo b l lo.one) c).0)

-- ---- scalar

-- a list that a call made, as the one that it is to become
scalar_turn : (at base cap b : ℕ) (h g ids ys : List ℕ) (c e : ℕ) → ids ≡ ys → c ≡ e → ScalarTo h (at + 2 * b) (base + b * cap) cap ids c g
    → ScalarIn at base cap b g ys e × Only (ScalarUses at base cap b ys) h g
scalar_turn at base cap b h g ids ys c e p q to = (
  subst (λ (n : ℕ). ScalarIn at base cap b g ys n) q (subst (λ (m : List ℕ). ScalarIn at base cap b g m c) p to.holds),
  subst (λ (m : List ℕ). Only (ScalarUses at base cap b m) h g) p to.only,
)

module _ (at base cap sig : ℕ) (h g : List ℕ) (r : Result (Unit {0}) Corrupt) (room : at + 2 * 64 ≤ base) where
  pub scalar_pushed : (id : ℕ) → Each (λ b s t a. ScalarPushes at base cap b id s t a) sig h g r
      → (ls : ℕ → List ℕ) (d : ℕ → ℕ) → Scalars h at base cap ls d → ((b : ℕ) → b < 64 → has sig b ≡ 1 → length (ls b) < cap)
      → IsOk r × ScalarsTo h at base cap sig (chosen sig (λ b. pushed id (ls b)) ls) d g
  scalar_pushed id run ls d all few =
      let ys : ℕ → List ℕ = chosen sig (λ b. pushed id (ls b)) ls in
      let f = runs 64 at base cap (ScalarIn at base cap) (ScalarUses at base cap) (scalar_inside at base cap) (scalar_stays at base cap) sig ls ys d d h room (λ b l o. l)
      (λ b s t a. ScalarPushes at base cap b id s t a)
      (λ w b s t a fam l o one call.
      let to = call (ls b) (d b) one (few b l o) in
      let new = scalar_turn at base cap b s t (pushed id (ls b)) (ys b) (d b) (d b) (chosen_in sig (λ b. pushed id (ls b)) ls b o) refl to.1 in
      (to.0, new.0, new.1))
      sig h g r run (λ j o. o) (Scalars-none at base cap sig ls ys d d h all) in
      (f.0, scalars_all at base cap sig ls ys d d h g (λ b z. (chosen_out sig (λ b. pushed id (ls b)) ls b z, refl)) f.1)

  pub scalar_killed : (alive events : ℕ) → alive + words events ≤ at → Each (λ b s t a. ScalarKills at base cap alive events b s t a) sig h g r
      → (ls : ℕ → List ℕ) (d : ℕ → ℕ) → Scalars h at base cap ls d → ((b : ℕ) → b < 64 → has sig b ≡ 1 → (d b < length (ls b)) × Known events (ls b))
      → IsOk r × ScalarsTo h at base cap sig (chosen sig (λ b. noted h alive (d b) (ls b)) ls) (chosen sig (λ b. still 4 (d b + 1) (length (ls b))) d) g
  scalar_killed alive events live run ls d all fit =
      let ys : ℕ → List ℕ = chosen sig (λ b. noted h alive (d b) (ls b)) ls in
      let e : ℕ → ℕ = chosen sig (λ b. still 4 (d b + 1) (length (ls b))) d in
      let f = runs 64 at base cap (ScalarIn at base cap) (ScalarUses at base cap) (scalar_inside at base cap) (scalar_stays at base cap) sig ls ys d e h room (λ b l o. l)
      (λ b s t a. ScalarKills at base cap alive events b s t a)
      (λ w b s t a fam l o one call.
      let k = fit b l o in
      let to = call (ls b) (d b) one k.0 k.1 in
      let same = scalars_before at base cap sig ls ys d e h w s (omega arith) fam in
      let new = scalar_turn at base cap b s t (noted s alive (d b) (ls b)) (ys b) (still 4 (d b + 1) (length (ls b))) (e b)
      (noted_same h s at alive events live same (d b) (ls b) k.1 ∙ chosen_in sig (λ b. noted h alive (d b) (ls b)) ls b o)
      (chosen_in sig (λ b. still 4 (d b + 1) (length (ls b))) d b o) to.1 in
      (to.0, new.0, new.1))
      sig h g r run (λ j o. o) (Scalars-none at base cap sig ls ys d e h all) in (
        f.0,
        scalars_all at base cap sig ls ys d e h g
            (λ b z. (chosen_out sig (λ b. noted h alive (d b) (ls b)) ls b z, chosen_out sig (λ b. still 4 (d b + 1) (length (ls b))) d b z)) f.1,
      )

-- ---- sliced

sliced_turn : (at base cap n b : ℕ) (h g : List ℕ) (m ys : List Entry) (c e : ℕ) → m ≡ ys → c ≡ e → SlicedTo h (at + 2 * b) (base + b * sliced_room cap n) cap n m c g
    → SlicedIn at base cap n b g ys e × Only (SlicedUses at base cap n b ys) h g
sliced_turn at base cap n b h g m ys c e p q to = (
  subst (λ (k : ℕ). SlicedIn at base cap n b g ys k) q (subst (λ (k : List Entry). SlicedIn at base cap n b g k c) p to.holds),
  subst (λ (k : List Entry). Only (SlicedUses at base cap n b k) h g) p to.only,
)

module _ (at base cap n sig : ℕ) (h g : List ℕ) (r : Result (Unit {0}) Corrupt) (room : at + 2 * n ≤ base) (there : (b : ℕ) → b < 64 → has sig b ≡ 1 → b < n) where
  pub sliced_pushed : (id x z : ℕ) → Each (λ b s t a. SlicedPushes at base cap n b id x z s t a) sig h g r
      → (ms : ℕ → List Entry) (d : ℕ → ℕ) → Sliceds h at base cap n ms d → ((b : ℕ) → b < n → has sig b ≡ 1 → length (ms b) < cap)
      → IsOk r × SlicedsTo h at base cap n sig (chosen sig (λ b. pushed (fresh id x z) (ms b)) ms) d g
  sliced_pushed id x z run ms d all few =
      let ys : ℕ → List Entry = chosen sig (λ b. pushed (fresh id x z) (ms b)) ms in
      let f = runs n at base (sliced_room cap n) (SlicedIn at base cap n) (SlicedUses at base cap n) (sliced_inside at base cap n) (sliced_stays at base cap n) sig ms ys d d h room there
      (λ b s t a. SlicedPushes at base cap n b id x z s t a)
      (λ w b s t a fam l o one call.
      let to = call (ms b) (d b) one (few b l o) in
      let new = sliced_turn at base cap n b s t (pushed (fresh id x z) (ms b)) (ys b) (d b) (d b) (chosen_in sig (λ b. pushed (fresh id x z) (ms b)) ms b o) refl to.1 in
      (to.0, new.0, new.1))
      sig h g r run (λ j o. o) (Sliceds-none at base cap n sig ms ys d d h all) in
      (f.0, sliceds_all at base cap n sig ms ys d d h g (λ b q. (chosen_out sig (λ b. pushed (fresh id x z) (ms b)) ms b q, refl)) f.1)

  pub sliced_killed : (id alive axes events : ℕ) → alive + words events ≤ at → axes + 2 * events ≤ at
      → Each (λ b s t a. SlicedKills at base cap n alive axes events b id s t a) sig h g r
      → (ms : ℕ → List Entry) (d pos : ℕ → ℕ) → Sliceds h at base cap n ms d
      → ((b : ℕ) → b < n → has sig b ≡ 1 → (d b < length (ms b)) × RisingIds (ms b) × Source h n axes events (ms b) × (pos b < length (ms b)) × ((entry (ms b) (pos b)).id ≡ id))
      → IsOk r × SlicedsTo h at base cap n sig (chosen sig (λ b. killed_at h alive (d b) (pos b) (ms b)) ms) (chosen sig (λ b. still 2 (d b + 1) (length (ms b))) d) g
  sliced_killed id alive axes events live axed run ms d pos all fit =
      let ys : ℕ → List Entry = chosen sig (λ b. killed_at h alive (d b) (pos b) (ms b)) ms in
      let e : ℕ → ℕ = chosen sig (λ b. still 2 (d b + 1) (length (ms b))) d in
      let f = runs n at base (sliced_room cap n) (SlicedIn at base cap n) (SlicedUses at base cap n) (sliced_inside at base cap n) (sliced_stays at base cap n) sig ms ys d e h room there
      (λ b s t a. SlicedKills at base cap n alive axes events b id s t a)
      (λ w b s t a fam l o one call.
      let k = fit b l o in
      let same = sliceds_before at base cap n sig ms ys d e h w s (omega arith) fam in
      let to = call (ms b) (d b) (pos b) one k.0 k.1 (Source-same h s at alive events live same n axes (ms b) axed k.2) k.3 k.4 in
      let new = sliced_turn at base cap n b s t (killed_at s alive (d b) (pos b) (ms b)) (ys b) (still 2 (d b + 1) (length (ms b))) (e b)
      (killed_same h s at alive events live same (d b) (pos b) (ms b) k.2.known ∙ chosen_in sig (λ b. killed_at h alive (d b) (pos b) (ms b)) ms b o)
      (chosen_in sig (λ b. still 2 (d b + 1) (length (ms b))) d b o) to.1 in
      (to.0, new.0, new.1))
      sig h g r run (λ j o. o) (Sliceds-none at base cap n sig ms ys d e h all) in (
        f.0,
        sliceds_all at base cap n sig ms ys d e h g
            (λ b z. (chosen_out sig (λ b. killed_at h alive (d b) (pos b) (ms b)) ms b z, chosen_out sig (λ b. still 2 (d b + 1) (length (ms b))) d b z)) f.1,
      )

-- ---- scans, at either form: list b has the work f b

module _ (f : ℕ → List Work) (p : ℕ → Bool) (L : ℕ) (sig : ℕ) (there : (b : ℕ) → b < 64 → has sig b ≡ 1 → b < L) (whole : Walk)
    (scan : ℕ → Budget → Result Scan Corrupt → Type 0)
    (turn : (b : ℕ) (left : Budget) (r : Result Scan Corrupt) → b < L → has sig b ≡ 1 → scan b left r → r ≡ Ok (scan_of (walk (f b) left.0))) where
  scanned : (w : ℕ) (left : Budget) (r : Result Scan Corrupt) → Scans scan w left r → ((j : ℕ) → has w j ≡ 1 → has sig j ≡ 1) → Phase f p L whole w left.0 → r ≡ Ok (scan_of whole)
  scanned w left r (through _) sub h = ap Ok (Phase-end f p L whole left h)
  scanned w left r (clear _ b v _ now _ lo t c on) sub h =
      let i = sub b lo.one in
      let l = there b lo.place i in
      scanned v now r on (still_within sig w b v t sub)
      (Phase-clear f p L whole w left.0 b h lo l v now t (same_answer (Ok (Clear now)) (Clear now) (scan_of (walk (f b) left.0)) refl (turn b left (Ok (Clear now)) l i c)))
  scanned w left r (ends _ b _ s _ lo non e c) sub h =
      let i = sub b lo.one in
      let l = there b lo.place i in
      let q = turn b left s l i c in
      sym e ∙ q ∙ ap Ok (phase_ends f p L whole w left.0 b h lo l (scan_of (walk (f b) left.0)) (λ now k. non now (q ∙ ap Ok k)) refl)

pub scalar_scanned : (h : List ℕ) (at base cap sigs axes l events : ℕ) (axis : List ℕ) (sig after : ℕ) (budget : Budget) (r : Result Scan Corrupt)
    → Scans (λ b left a. ScalarScans at base cap sigs axes l events b axis sig after left h a) sig budget r
    → (s : State) → AllScannable s l events h at base cap sigs axes → sig ≡ signature l (of_row 0 axis).x (of_row 0 axis).z
    → r ≡ Ok (scan_of (walk (phase2 s after (of_row 0 axis).x (of_row 0 axis).z) budget.0))
scalar_scanned h at base cap sigs axes l events axis sig after budget r run s all e =
    let x : ℕ = (of_row 0 axis).x in
    let z : ℕ = (of_row 0 axis).z in
    scanned (scalar_list s after x z) (touches l x z) 64 sig (λ b u o. u) (walk (phase2 s after x z) budget.0)
    (λ b left a. ScalarScans at base cap sigs axes l events b axis sig after left h a)
    (λ b left a u o call. call s all e o)
    sig budget r run (λ j o. o)
    (subst (λ (t : List Work). Phase (scalar_list s after x z) (touches l x z) 64 (walk t budget.0) sig budget.0)
    (sym (scalar_phase s after x z l all.form (all.each 0 (omega arith)).planes all.many))
    (Phase-none (scalar_list s after x z) (touches l x z) 64 sig budget.0 (λ j u. signature_digit l x z sig j e u)))

-- where no digit is set, nothing is scanned
none_scanned : (scan : ℕ → Budget → Result Scan Corrupt → Type 0) (w : ℕ) (left : Budget) (r : Result Scan Corrupt) → Scans scan w left r → w ≡ 0 → r ≡ Ok (Clear left)
none_scanned scan w left r (through _) z = refl
none_scanned scan w left r (clear _ b v _ now _ lo t c on) z = absurd (omega (arith, lo.one, ap (λ (v : ℕ). has v b) z, has_zero b))
none_scanned scan w left r (ends _ b _ s _ lo non e c) z = absurd (omega (arith, lo.one, ap (λ (v : ℕ). has v b) z, has_zero b))

pub sliced_scanned : (h : List ℕ) (at base cap n x z after : ℕ) (budget : Budget) (r : Result Scan Corrupt) → n ≤ 32 → x < 2 ^ n → z < 2 ^ n
    → Scans (λ b left a. SlicedScans at base cap n b x z after left h a) (bit_or x z) budget r
    → (s : State) → AllSliced s h at base cap n → r ≡ Ok (scan_of (walk (phase2 s after x z) budget.0))
sliced_scanned h at base cap n x z after budget r few hx hz run s all =
    elim (ℕ_discrete (bit_or x z) 0) [
      | yes e ↦ none_scanned (λ b left a. SlicedScans at base cap n b x z after left h a) (bit_or x z) budget r run e ∙ ap Ok (quiet s after x z budget e)
      | no d ↦
          let some = or_some_qubit n x z hx hz d in
          scanned (sliced_list s after x z) (touches 1 x z) n (bit_or x z) (λ b u o. or_digit_below n x z b hx hz o) (walk (phase2 s after x z) budget.0)
          (λ b left a. SlicedScans at base cap n b x z after left h a)
          (λ b left a u o call. call s all)
          (bit_or x z) budget r run (λ j o. o)
          (subst (λ (t : List Work). Phase (sliced_list s after x z) (touches 1 x z) n (walk t budget.0) (bit_or x z) budget.0)
          (sym (sliced_phase s after x z n all.form (one_plane s n all.qubits some few) all.many))
          (Phase-none (sliced_list s after x z) (touches 1 x z) n (bit_or x z) budget.0 (λ j u. qubit_digit x z j)))
    ]
