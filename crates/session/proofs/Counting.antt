-- The counts of the end line under the calls: events recorded, and those of them that are live. Assumes nothing.
use Prim.Native.Nat.{ℕ, zero, suc, ◌+◌, ◌-◌, ◌<◌}
use mathlib.Core.Path.{◌≡◌, refl, sym, ap, ap₂, ◌∙◌}
use mathlib.Core.Bool.{Bool, true, false}
use mathlib.Core.List.{List, [], ◌∷◌, ◌++◌, map}
use native.Mathlib.Nat.{not-suc-le-zero, le_of_suc-le-suc}
use native.Mathlib.Omega.{arith}
use native.Mathlib.Decide.{ℕ_discrete}
use borrow.Author.Tests.{eq-eqb, ne_eqb}
use lib.ListN.{length, set, length-set, length-append}
use Rattle.model.specs.Pauli.{Pauli}
use Rattle.model.specs.Frame.{paulis, x_at, z_at}
use Rattle.frame.specs.Axes.{kind_of}
use Rattle.model.specs.Events.{Event, State, keep, event_at, live_at, record1, record_all, blocker_on, killed, kill, clear}
use Rattle.model.specs.Calls.{not_killable, answer_to, reply_of, reply, reframed, rotation_of, seven, effect, call, tally}
use Rattle.model.specs.Demands.{living}
use Rattle.model.proofs.Members.{keep_yes, keep_no, keep_append}
use Rattle.model.proofs.Good.{passed}
use Rattle.model.proofs.Enough.{tally-live}
use Rattle.history.specs.Kills.{Dying}
use Rattle.history.proofs.KillLaws.{kill_Dying}
use Rattle.partner.specs.Calls.{call_in}
use Rattle.partner.specs.declared.calls.Call.{Call}
use Rattle.partner.specs.declared.calls.Call.TheVariants as calls
use Rattle.session.specs.Desk.{counted}
use Rattle.session.specs.declared.stages.Stage.TheVariants as at

-- ---- the live events of a list

abbrev alive : List Event → ℕ
alive es = length (keep (λ e. e.live) es)

alive_snoc : (es : List Event) (e : Event) → e.live ≡ true → alive (es ++ (e ∷ [])) ≡ alive es + 1
unfolding keep
alive_snoc es e h = ap length (keep_append (λ (x : Event). x.live) es (e ∷ [])) ∙ length-append (keep (λ x. x.live) es) (keep (λ x. x.live) (e ∷ [])) ∙ ap (λ (n : ℕ). alive es + n) (ap length (keep_yes (λ (x : Event). x.live) e [] h))

alive_kill : (es : List Event) (id : ℕ) → id < length es → live_at es id ≡ true → alive (set es id (killed (event_at es id))) + 1 ≡ alive es
unfolding live_at event_at killed
alive_kill [] id h v = absurd (not-suc-le-zero h)
alive_kill (e ∷ es) zero h v =
    let a : alive (killed e ∷ es) ≡ alive es = ap length (keep_no (λ (x : Event). x.live) (killed e) es refl) in
    let b : alive (e ∷ es) ≡ suc (alive es) = ap length (keep_yes (λ (x : Event). x.live) e es v) in
    omega arith
alive_kill (e ∷ es) (suc id) h v = go e.live refl (alive_kill es id (le_of_suc-le-suc h) v)
  where
    es' : List Event
    es' = set es id (killed (event_at es id))

    go : (t : Bool) → e.live ≡ t → alive es' + 1 ≡ alive es → alive (e ∷ es') + 1 ≡ alive (e ∷ es)
    go true t rest =
        let a : alive (e ∷ es') ≡ suc (alive es') = ap length (keep_yes (λ (x : Event). x.live) e es' t) in
        let b : alive (e ∷ es) ≡ suc (alive es) = ap length (keep_yes (λ (x : Event). x.live) e es t) in
        omega (arith, rest)
    go false t rest =
        let a : alive (e ∷ es') ≡ alive es' = ap length (keep_no (λ (x : Event). x.live) e es' t) in
        let b : alive (e ∷ es) ≡ alive es = ap length (keep_no (λ (x : Event). x.live) e es t) in
        omega (arith, rest)

-- ---- states

-- from s to t, k live events more
pub record Grown (k : ℕ) (s t : State) : Type 0 where
  pub events : length t.events ≡ length s.events + k
  pub live : living t ≡ living s + k

Grown-one : (e : Event) (s : State) → e.live ≡ true → Grown 1 s (record1 e s)
unfolding record1 living
Grown-one e s h = record { events = length-append s.events (e ∷ []); live = alive_snoc s.events e h }

abbrev AllLive : List Event → Type 0
AllLive [] = Unit {0}
AllLive (e ∷ es) = (e.live ≡ true) × AllLive es

Grown-all : (es : List Event) (s : State) → AllLive es → Grown (length es) s (record_all es s)
unfolding record_all
Grown-all [] s h = record { events = omega arith; live = omega arith }
Grown-all (e ∷ es) s h =
    let a = Grown-one e s h.0 in
    let b = Grown-all es (record1 e s) h.1 in
    let ae = a.events in
    let al = a.live in
    let be = b.events in
    let bl = b.live in
    record { events = omega arith; live = omega arith }

-- ---- calls

module _ (m : State) (e l : ℕ) (he : e ≡ length m.events) (hl : l ≡ living m) where
  stays : (t : State) → t.events ≡ m.events → at.Running e (l - 0) ≡ at.Running (length t.events) (living t)
  unfolding living
  stays t h = ap₂ at.Running (he ∙ sym (ap length h)) (omega arith ∙ hl ∙ sym (ap alive h))

  grows : (k : ℕ) (t : State) → Grown k m t → at.Running (e + k) (l + k) ≡ at.Running (length t.events) (living t)
  grows k t g = ap₂ at.Running (ap (λ (n : ℕ). n + k) he ∙ sym g.events) (ap (λ (n : ℕ). n + k) hl ∙ sym g.live)

  dies : (id : ℕ) → Dying m.events id → at.Running e (l - 1) ≡ at.Running (length (kill id m).events) (living (kill id m))
  unfolding kill living
  dies id d =
      let a : alive (set m.events id (killed (event_at m.events id))) + 1 ≡ alive m.events = alive_kill m.events id d.there d.live in
      let b : l - 1 ≡ alive (set m.events id (killed (event_at m.events id))) = omega (arith, hl) in
      ap₂ at.Running (he ∙ sym (length-set m.events id _)) b

  sevenfold : (a b t : Pauli) → at.Running (e + 7) (l + 7) ≡ at.Running (length (record_all (map blocker_on (seven a b t)) m).events) (living (record_all (map blocker_on (seven a b t)) m))
  unfolding seven blocker_on
  sevenfold a b t = grows 7 (record_all (map blocker_on (seven a b t)) m) (Grown-all (map blocker_on (seven a b t)) m (refl, (refl, (refl, (refl, (refl, (refl, (refl, tt))))))))

  -- the counts after an accepted call
  counted_done : (w : ℕ) (c : Call) → answer_to (call_in c) w m ≡ 0
      → counted c (reply_of (call_in c) m) e l ≡ at.Running (length (effect (call_in c) w m).events) (living (effect (call_in c) w m))
  unfolding call_in reply_of effect answer_to reframed clear seven blocker_on
  counted_done w (calls.Gate g) h = stays _ refl
  counted_done w (calls.Turn kind k q) h = stays _ refl
  counted_done w (calls.Record kind q tag) h = grows 1 (record1 (rotation_of (kind_of kind) q tag m) m) (Grown-one (rotation_of (kind_of kind) q tag m) m (unfold rotation_of in refl))
  counted_done w (calls.Measure q) h = grows 1 (record1 (blocker_on (z_at paulis m.frame q)) m) (Grown-one (blocker_on (z_at paulis m.frame q)) m refl)
  counted_done w (calls.Reset q) h =
      let es : List Event = blocker_on (z_at paulis m.frame q) ∷ blocker_on (x_at paulis m.frame q) ∷ [] in
      grows 2 (record_all es m) (Grown-all es m (refl, (refl, tt)))
  counted_done w (calls.Ccx a b t) h = sevenfold (z_at paulis m.frame a) (z_at paulis m.frame b) (x_at paulis m.frame t)
  counted_done w (calls.Ccz a b t) h = sevenfold (z_at paulis m.frame a) (z_at paulis m.frame b) (z_at paulis m.frame t)
  counted_done w (calls.Kill id) h = dies id (kill_Dying m.events id (passed m w 0 [] 0 (not_killable m.events id) h).fine)
  counted_done w calls.Clear h = stays _ refl

  -- the counts after any call
  pub counted_is : (w : ℕ) (c : Call) → counted c (reply (call_in c) w m) e l ≡ at.Running (tally (call (call_in c) w m)).events (tally (call (call_in c) w m)).live
  unfolding reply call tally
  counted_is w c = go (ℕ_discrete (answer_to (call_in c) w m) 0)
    where
      go : Dec (answer_to (call_in c) w m ≡ 0) → counted c (reply (call_in c) w m) e l ≡ at.Running (tally (call (call_in c) w m)).events (tally (call (call_in c) w m)).live
      go (yes h) = rw (eq-eqb (answer_to (call_in c) w m) 0 h) (counted_done w c h ∙ ap (λ (k : ℕ). at.Running (length (effect (call_in c) w m).events) k) (sym (tally-live (effect (call_in c) w m))))
      go (no h) = rw (ne_eqb (answer_to (call_in c) w m) 0 h) (ap₂ at.Running he (hl ∙ sym (tally-live m)))
