-- Laws of a look: what phase 1 stopped at, and what the answers of both phases say together. Assumes nothing.
use mathlib.Core.Path.{◌≡◌, refl, sym, ap, ◌∙◌, subst}
use mathlib.Core.Logic.{inl, inr}
use mathlib.Core.Bool.{Bool, true, false, cond}
use mathlib.Core.List.{List, [], ◌∷◌, map}
use Prim.Native.Nat.{ℕ, ◌-◌, ◌<◌}
use native.Mathlib.Omega.{arith}
use lib.ListN.{length, get_or}
use lib.Dec.{ltb}
use lib.IntN.{ℤ, ◌*ℤ◌}
use Rattle.model.specs.Sketch.{Label}
use Rattle.model.specs.Events.{Body, rotation, blocker, Form, State, keep, event_at, live_at, is_rotation}
use Rattle.model.specs.Search as search
use Rattle.model.specs.Search.{Work, Walk, done, stopped, dry, walk, recent, has_label, candidate, same_axis, phase1, phase2, sign_at, looked1, looked2, look_for}
use Rattle.model.specs.Demands.{Mem, IsSign}
use Rattle.model.proofs.Members.{and_both, keep-Mem}
use Rattle.model.proofs.Good.{live_there}
use Rattle.pauli.proofs.Signs.{bits8, bits8_sign}
use Rattle.lists.specs.Scans.{steps, scan_of}
use Rattle.lists.specs.declared.budget.Budget.{Budget}
use Rattle.lists.specs.declared.budget.Scan.{Scan}
use Rattle.lists.specs.declared.budget.Scan.TheVariants as scans
use Rattle.std.proofs.Common.{Result, Ok, Err}
use Rattle.pauli.specs.declared.corrupt.Corrupt.{Corrupt}
use Rattle.history.specs.declared.findings.Candidate.{Candidate}
use Rattle.history.specs.declared.findings.Candidate.TheVariants as cands
use Rattle.history.specs.declared.findings.Found.{Found}
use Rattle.history.specs.declared.findings.Found.TheVariants as found
use Rattle.history.specs.declared.findings.Look.{Look}
use Rattle.history.specs.Words.{tag_place, Holds, Sane}
use Rattle.history.specs.Sizes.{ListsHeld, Scanned}
use Rattle.history.specs.Phases.{candidate_of, look_of, Partner}
use Rattle.history.proofs.EventLaws.{SignIn, rotation_Tells}

-- ---- the partner's sign

pub sign_bits : (g : ℤ) → IsSign g → IsSign (bits8 g)
sign_bits g s = subst IsSign (sym (bits8_sign g s)) s

pub Partner-bits : (h : List ℕ) (cap id : ℕ) (g : ℤ) (r : Result Found Corrupt) → IsSign g → Partner h cap id (bits8 g) r → Partner h cap id g r
Partner-bits h cap id g r s p = subst (λ (a : ℤ). Partner h cap id a r) (bits8_sign g s) p

-- ---- what phase 1 stopped at

module _ (m : State) (x z : ℕ) where
  abbrev work : ℕ → Work
  work id = record { cost = 1; stops = same_axis x z (event_at m.events id); id = id }

  stopped_in : (p : ℕ → Bool) (ids : List ℕ) (k id left : ℕ) → ((i : ℕ) → Mem i ids → p i ≡ true) → walk (map work ids) k ≡ stopped id left → p id ≡ true
  unfolding walk
  stopped_in p [] k id left f e = let q : ◌≡◌ {A = ℕ} 0 1 = cc in absurd (omega arith)
  stopped_in p (i ∷ ids) k id left f e = go (ltb k 1) (same_axis x z (event_at m.events i)) (walk (map work ids) (k - 1)) e (λ q. stopped_in p ids (k - 1) id left (λ j u. f j (inr u)) q)
    where
      go : (b t : Bool) (w : Walk) → cond b (dry k) (cond t (stopped i (k - 1)) w) ≡ stopped id left → (w ≡ stopped id left → p id ≡ true) → p id ≡ true
      go true t w q g = let r : ◌≡◌ {A = ℕ} 0 1 = cc in absurd (omega arith)
      go false true w q g = let r : i ≡ id = cc in ap p (sym r) ∙ f i (inl refl)
      go false false w q g = g q

has_rotation : (a : Label) (b : Body) → has_label a b ≡ true → is_rotation b ≡ true
unfolding has_label is_rotation
has_rotation a (rotation tag sgn label) e = refl
has_rotation a blocker e = e

-- a live rotation
pub stopped_there : (m : State) (a : Label) (x z k id left : ℕ) → walk (phase1 m a x z) k ≡ stopped id left
    → (id < length m.events) × (is_rotation (event_at m.events id).body ≡ true)
unfolding phase1 candidate
stopped_there m a x z k id left e =
    let c = stopped_in m x z (candidate m.events a) (keep (candidate m.events a) (recent m)) k id left (λ i u. (keep-Mem (candidate m.events a) i (recent m) u).1) e in
    let both = and_both (live_at m.events id) (has_label a (event_at m.events id).body) c in
    (live_there m.events id both.0, has_rotation a (event_at m.events id).body both.1)

-- ---- how a walk ended, by the answers

abbrev walk_of : Candidate → Walk
walk_of (cands.Nothing left) = done left.0
walk_of (cands.Match id left) = stopped id left.0
walk_of (cands.Out left) = dry left.0

walk_of_lem : (w : Walk) → w ≡ walk_of (candidate_of w)
unfolding candidate_of steps
walk_of_lem (done k) = refl
walk_of_lem (stopped id k) = refl
walk_of_lem (dry k) = refl

-- what the second phase's answer makes of a look
abbrev looking : State → (g : ℤ) → (id : ℕ) → Scan → search.Look
looking m g id (scans.Clear left) = search.found id (sign_at (event_at m.events id).body *ℤ g) (search.spent m left.0)
looking m g id (scans.Blocked left) = search.blocked (search.spent m left.0)
looking m g id (scans.Out left) = search.out (search.spent m left.0)

looked_by : (m : State) (g : ℤ) (id : ℕ) (w : Walk) → looked2 m g id w ≡ looking m g id (scan_of w)
unfolding looked2 scan_of steps
looked_by m g id (done k) = refl
looked_by m g id (stopped j k) = refl
looked_by m g id (dry k) = refl

-- ---- the answers of a look

pub held_lists : (f : Form) (n cap l : ℕ) (m : State) (h : List ℕ) → Holds f n cap l m h → Sane m → ListsHeld f n cap l m h
held_lists f n cap l m h holds sane = record { given = holds.given; many = holds.many; listed = sane.listed; lists = holds.lists }

pub held_scan : (f : Form) (n cap l : ℕ) (m : State) (h : List ℕ) → Holds f n cap l m h → Scanned cap l m (get_or h 0 0) h
held_scan f n cap l m h holds = record { count = sym holds.count; room = holds.room; signed = holds.signed; axed = holds.axed }

-- what a look says that found w and has `left` of the allowance
abbrev says : (allowance : ℕ) → Found → Budget → Look
says allowance w left = record { found = w; steps = allowance - left.0 }

-- how the two phases ended, of which o is what the code keeps
pub ended : (allowance : ℕ) (o p : Found × Budget) (s : ℕ) (q : Look) → s ≡ allowance - o.1.0 → o ≡ p → says allowance p.0 p.1 ≡ q
    → ◌≡◌ {A = Result Look Corrupt} (Ok (record { found = o.0; steps = s })) (Ok q)
ended allowance o p s q e is t = ap (λ (n : ℕ). Ok (record { found = o.0; steps = n })) e ∙ ap (λ (v : Found × Budget). Ok (says allowance v.0 v.1)) is ∙ ap Ok t

-- r is the answer of phase 1
module _ (m : State) (g : ℤ) (a : Label) (x z allowance : ℕ) (given : m.given.allowance ≡ allowance) (r : Candidate)
    (one : ◌≡◌ {A = Result Candidate Corrupt} (Ok r) (Ok (candidate_of (walk (phase1 m a x z) allowance)))) where
  spent_is : (left : ℕ) → search.spent m left ≡ allowance - left
  unfolding search.spent
  spent_is left = ap (λ (k : ℕ). k - left) given

  by_one : (c : Candidate) → r ≡ c → look_for m g a x z ≡ looked1 m g x z (walk_of c)
  unfolding look_for
  by_one c e =
      let o : r ≡ candidate_of (walk (phase1 m a x z) allowance) = cc in
      ap (looked1 m g x z) (ap (walk (phase1 m a x z)) given ∙ walk_of_lem (walk (phase1 m a x z) allowance) ∙ ap walk_of (sym o ∙ e))

  pub look_free : (left : Budget) → r ≡ cands.Nothing left → says allowance found.Nothing left ≡ look_of (look_for m g a x z)
  unfolding look_of looked1
  look_free left e = sym (ap look_of (by_one (cands.Nothing left) e) ∙ ap (λ (n : ℕ). record { found = found.Nothing; steps = n }) (spent_is left.0))

  pub look_out : (left : Budget) → r ≡ cands.Out left → says allowance found.OutOfSteps left ≡ look_of (look_for m g a x z)
  unfolding look_of looked1
  look_out left e = sym (ap look_of (by_one (cands.Out left) e) ∙ ap (λ (n : ℕ). record { found = found.OutOfSteps; steps = n }) (spent_is left.0))

  -- t is the answer of phase 2, at the event that phase 1 found
  module _ (id : ℕ) (left : Budget) (e : r ≡ cands.Match id left) (t : Scan)
      (two : ◌≡◌ {A = Result Scan Corrupt} (Ok t) (Ok (scan_of (walk (phase2 m id x z) left.0)))) where
    by_two : (c : Scan) → t ≡ c → look_for m g a x z ≡ looking m g id c
    unfolding looked1
    by_two c q =
        let o : t ≡ scan_of (walk (phase2 m id x z) left.0) = cc in
        by_one (cands.Match id left) e ∙ looked_by m g id (walk (phase2 m id x z) left.0) ∙ ap (looking m g id) (sym o ∙ q)

    pub look_blocked : (rest : Budget) → t ≡ scans.Blocked rest → says allowance found.Blocked rest ≡ look_of (look_for m g a x z)
    unfolding look_of
    look_blocked rest k = sym (ap look_of (by_two (scans.Blocked rest) k) ∙ ap (λ (n : ℕ). record { found = found.Blocked; steps = n }) (spent_is rest.0))

    pub look_dry : (rest : Budget) → t ≡ scans.Out rest → says allowance found.OutOfSteps rest ≡ look_of (look_for m g a x z)
    unfolding look_of
    look_dry rest k = sym (ap look_of (by_two (scans.Out rest) k) ∙ ap (λ (n : ℕ). record { found = found.OutOfSteps; steps = n }) (spent_is rest.0))

    module _ (f : Form) (n cap l : ℕ) (h : List ℕ) (holds : Holds f n cap l m h) (sane : Sane m) (o : Result Found Corrupt) (p : Partner h cap id g o) where
      there : (id < length m.events) × (is_rotation (event_at m.events id).body ≡ true)
      there = stopped_there m a x z allowance id left.0 (let o : r ≡ candidate_of (walk (phase1 m a x z) allowance) = cc in walk_of_lem (walk (phase1 m a x z) allowance) ∙ ap walk_of (sym o ∙ e))

      pub partner_is : o ≡ Ok (found.Partner id (sign_at (event_at m.events id).body *ℤ g))
      partner_is = go (rotation_Tells _ (event_at m.events id).body (holds.bodies.tag id there.0) (sane.signs id there.0) there.1).sgn
        where
          within : id < cap
          within = omega (arith, there.0, holds.room)

          go : SignIn (get_or h (tag_place cap id) 0) (event_at m.events id).body → o ≡ Ok (found.Partner id (sign_at (event_at m.events id).body *ℤ g))
          go (inl u) = p.plus within u.0 ∙ ap (λ (k : ℤ). Ok (found.Partner id (k *ℤ g))) (sym u.1)
          go (inr u) = p.minus within u.0 ∙ ap (λ (k : ℤ). Ok (found.Partner id (k *ℤ g))) (sym u.1)

      pub partner_there : (x : Corrupt) → o ≡ Err x → ⊥
      partner_there x q = let s = partner_is in cc

      pub look_found : (rest : Budget) (w : Found) → t ≡ scans.Clear rest → o ≡ Ok w → says allowance w rest ≡ look_of (look_for m g a x z)
      unfolding look_of
      look_found rest w k q =
          let is : w ≡ found.Partner id (sign_at (event_at m.events id).body *ℤ g) = let s = partner_is in cc in
          ap (λ (v : Found). says allowance v rest) is
          ∙ sym (ap look_of (by_two (scans.Clear rest) k) ∙ ap (λ (n : ℕ). record { found = found.Partner id (sign_at (event_at m.events id).body *ℤ g); steps = n }) (spent_is rest.0))
