-- Laws of a record: after all its writes the words hold the state with the event. Assumes nothing.
use mathlib.Core.Path.{◌≡◌, sym, ap, ◌∙◌, subst}
use mathlib.Core.Logic.{inl, inr, ⊎_elim}
use mathlib.Core.List.{List, [], ◌∷◌, ◌++◌}
use Prim.Native.Nat.{ℕ, ◌+◌, ◌*◌, ◌/◌, ◌≤◌, ◌<◌}
use native.Mathlib.Omega.{arith}
use lib.ListN.{length, get_or, set, length-set}
use lib.Seq.{get_or-set_same, get_or-set_other}
use Rattle.model.specs.Events as model
use Rattle.model.specs.Events.{Event, State, words, plane, record1}
use Rattle.model.proofs.Lists.{at_new, length_new, push-length}
use Rattle.pauli.specs.Rows.{of_row, signature}
use Rattle.lists.specs.Lists.{Among}
use Rattle.std.proofs.Common.{Result, IsOk}
use Rattle.pauli.specs.declared.corrupt.Corrupt.{Corrupt}
use Rattle.history.specs.declared.events.Body.{Body}
use Rattle.history.specs.Newest.{link_place}
use Rattle.history.specs.Words.{label_place, tag_place, sig_place, axis_place, alive_place, count_place, history_room, OfEvent, Uses, Holds, Sane, Becomes}
use Rattle.history.specs.Sizes.{ListsHeld, ListsTo, Newcomer}
use Rattle.history.specs.Recordings.{EventsHeld, Recorded, Fresh, TakenBy, Stored}
use Rattle.history.proofs.AxisWords.{axis_inside}
use Rattle.history.proofs.StoreLaws.{alive_inside, of_body}
use Rattle.history.proofs.StayLaws.{lists_stay, events_stay, lists_behind, events_held}

-- ---- where the words stand

-- a new event's words stand behind the two counts and before the lists
pub taken_inside : (e : Event) (cap l id k : ℕ) → id < cap → TakenBy e cap l id k → (2 ≤ k) × (k < count_place cap l)
taken_inside e cap l id k b =
    ⊎_elim (λ (q : Among 2 cap k). (omega arith, omega arith))
    (⊎_elim
    (⊎_elim
    (λ q. ⊎_elim (λ (q : k ≡ link_place cap id). (omega arith, omega arith)) (λ (q : Among (label_place cap id) 2 k). (omega arith, omega arith)) (of_body e.body e.live cap id k q))
    (⊎_elim (λ (q : k ≡ tag_place cap id). (omega arith, omega arith))
    (⊎_elim (λ (q : k ≡ sig_place cap + id). (omega arith, omega arith))
    (λ (q : Among (axis_place cap + id * (2 * l)) (2 * l) k). let w = axis_inside cap l id b in (omega arith, omega arith)))))
    (λ (q : k ≡ alive_place cap l + id / 64). let w = alive_inside cap l id b in (omega arith, omega arith)))

-- ---- what the callees are handed

pub fresh : (n l : ℕ) (axis : List ℕ) (sig : ℕ) (body : Body) (e : Event) → sig ≡ signature l (of_row 0 axis).x (of_row 0 axis).z → Recorded n axis body e → Fresh l axis sig body e
fresh n l axis sig body e s r = record {
  live = r.live;
  is = r.is;
  x = r.x;
  z = r.z;
  sig_is = s ∙ ap (λ (x : ℕ). signature l x (of_row 0 axis).z) r.x ∙ ap (λ (z : ℕ). signature l e.x z) r.z;
}

pub newcomer : (n l : ℕ) (axis : List ℕ) (sig : ℕ) (body : Body) (e : Event) → sig ≡ signature l (of_row 0 axis).x (of_row 0 axis).z → Recorded n axis body e → Newcomer n l axis sig e
newcomer n l axis sig body e s r =
    let q = fresh n l axis sig body e s r in record { live = r.live; x = r.x; z = r.z; sig_is = q.sig_is; small_x = r.small_x; small_z = r.small_z }

pub lists_held : (f : model.Form) (n cap l : ℕ) (m : State) (e : Event) (h g : List ℕ) → Holds f n cap l m h → Sane m → length m.events < cap → Stored cap l m.events e h g → ListsHeld f n cap l m g
lists_held f n cap l m e h g c s room st = record {
  given = c.given;
  many = c.many;
  listed = s.listed;
  lists = lists_stay f m n cap l h g (λ j b. st.only.kept j (λ t. let q = taken_inside e cap l (length m.events) j room t in omega arith)) c.lists;
}

-- ---- the state with the event

-- a new event's words are words of the state with it
taken_used : (f : model.Form) (n cap l : ℕ) (m : State) (e : Event) (k : ℕ) → TakenBy e cap l (length m.events) k → Uses f n cap l (record1 e m) k
unfolding record1
taken_used f n cap l m e k =
    ⊎_elim (λ (q : Among 2 cap k). inl (omega arith))
    (⊎_elim (λ (q : OfEvent e cap l (length m.events) k).
    inr (inl (length m.events, omega (arith, length_new m.events e), subst (λ (a : Event). OfEvent a cap l (length m.events) k) (sym (at_new m.events e)) q)))
    (λ (q : k ≡ alive_place cap l + length m.events / 64). inr (inr (inl (omega arith, unfold words in omega (arith, length_new m.events e))))))

module _ (f : model.Form) (n cap l : ℕ) (m : State) (e : Event) (h g₁ g₂ : List ℕ) (v : ℕ) (c : Holds f n cap l m h) (room : length m.events < cap) (st : Stored cap l m.events e h g₁)
    (to : ListsTo f n cap l (record1 e m) g₁ g₂) (count : v ≡ length m.events + 1) where
  -- the events' words after their own writes
  since : (j : ℕ) → 1 ≤ j → j < count_place cap l → get_or (set g₂ 0 v) j 0 ≡ get_or g₁ j 0
  since j a b = get_or-set_other g₂ 0 j v 0 (λ q. omega arith) ∙ to.only.kept j (λ u. let q = lists_behind f n cap l (record1 e m) j u in omega arith)

  long : length (set g₂ 0 v) ≡ length h
  long = length-set g₂ 0 v ∙ to.only.same_length ∙ st.only.same_length

  held : EventsHeld cap l (m.events ++ (e ∷ [])) (set g₂ 0 v)
  held = events_stay cap l (m.events ++ (e ∷ [])) g₁ (set g₂ 0 v) (omega (arith, length_new m.events e)) (λ j a b. since j (omega arith) b) st.held

  recorded_Holds : Holds f n cap l (record1 e m) (set g₂ 0 v)
  unfolding record1
  recorded_Holds = record {
    given = record { form = c.given.form; qubits = c.given.qubits; capacity = c.given.capacity; planes = c.given.planes };
    long = long ∙ c.long;
    count = get_or-set_same g₂ 0 v 0 (unfold history_room in omega (arith, to.only.same_length, st.only.same_length, c.long)) ∙ count ∙ omega (arith, length_new m.events e);
    room = omega (arith, length_new m.events e);
    cleared = since 1 (omega arith) (omega arith) ∙ st.only.kept 1 (λ t. let q = taken_inside e cap l (length m.events) 1 room t in omega arith) ∙ c.cleared;
    chains = held.chains;
    bodies = held.bodies;
    signed = held.signed;
    axed = held.axed;
    alive = held.alive;
    many = push-length (plane m) (length m.events) e 0 m.lists ∙ c.many;
    lists = lists_stay f (record1 e m) n cap l g₂ (set g₂ 0 v) (λ j b. get_or-set_other g₂ 0 j v 0 (λ q. omega arith)) to.lists;
  }

  pub recorded : Becomes f n cap l (record1 e m) h (set g₂ 0 v)
  recorded = record {
    holds = recorded_Holds;
    only = record {
      same_length = long;
      kept = λ k u.
          let some : (k ≡ 0 → ⊥) = λ q. u (inl (omega arith)) in
          get_or-set_other g₂ 0 k v 0 some ∙ to.only.kept k (λ t. u (inr (inr (inr t)))) ∙ st.only.kept k (λ t. u (taken_used f n cap l m e k t));
    };
  }

-- ---- the calls of `record`, one after the other

module _ (f : model.Form) (n cap l sig : ℕ) (axis : List ℕ) (body : Body) (h g₁ g₂ : List ℕ) (r : Result (Unit {0}) Corrupt) (signed : sig ≡ signature l (of_row 0 axis).x (of_row 0 axis).z)
    (put : (es : List Event) (e : Event) → EventsHeld cap l es h → length es ≡ get_or h 0 0 → Fresh l axis sig body e → Stored cap l es e h g₁)
    (push : (m : State) (e : Event) → ListsHeld f n cap l m g₁ → length m.events ≡ get_or h 0 0 → get_or h 0 0 < cap → Newcomer n l axis sig e → IsOk r × ListsTo f n cap l (record1 e m) g₁ g₂)
    (m : State) (e : Event) (c : Holds f n cap l m h) (s : Sane m) (room : length m.events < cap) (new : Recorded n axis body e) where
  put_first : Stored cap l m.events e h g₁
  put_first = put m.events e (events_held f n cap l m h c) (sym c.count) (fresh n l axis sig body e signed new)

  push_then : IsOk r × ListsTo f n cap l (record1 e m) g₁ g₂
  push_then = push m e (lists_held f n cap l m e h g₁ c s room put_first) (sym c.count) (omega (arith, c.count)) (newcomer n l axis sig body e signed new)

  pub record_goes : IsOk r
  record_goes = push_then.0

  pub record_ends : (get_or h 0 0 ≡ length m.events) × Becomes f n cap l (record1 e m) h (set g₂ 0 (get_or h 0 0 + 1))
  record_ends = (
    c.count,
    recorded f n cap l m e h g₁ g₂ (get_or h 0 0 + 1) c room put_first push_then.1 (ap (λ (k : ℕ). k + 1) c.count),
  )
