-- Laws of a kill: what is written for the event's death leaves the words of the lists, what is written for the lists leaves those of the
-- events, and both together make the words hold the state after it; and what a read tells of an event that can be killed. Assumes nothing.
use mathlib.Core.Path.{◌≡◌, refl, sym, ap, ◌∙◌, subst}
use mathlib.Core.Logic.{inl, inr}
use mathlib.Core.Bool.{Bool, true, false, cond, not, ◌||◌}
use mathlib.Core.List.{List}
use Prim.Native.Nat.{ℕ, ◌+◌, ◌/◌, ◌^◌, ◌≤◌, ◌<◌}
use native.Mathlib.Omega.{arith}
use lib.ListN.{length, get_or, set, length-set, length-map}
use Rattle.model.specs.Events as model
use Rattle.model.specs.Events.{Body, rotation, blocker, Event, State, words, event_at, live_at, is_rotation, killed, kill, tidy}
use Rattle.model.specs.Calls.{reading, not_readable, not_killable}
use Rattle.model.proofs.Members.{clash}
use Rattle.model.proofs.Lists.{gone, gone_other, gone_x, gone_z}
use Rattle.pauli.specs.Rows.{signature}
use Rattle.lists.specs.Lists.{Among}
use Rattle.std.proofs.Common.{Result, Ok, Err, Option, Some, None, IsOk, is_ok}
use Rattle.pauli.specs.declared.corrupt.Corrupt.{Corrupt}
use Rattle.history.specs.declared.events.Rotation.{Rotation}
use Rattle.history.specs.Newest.{link_place}
use Rattle.history.specs.Words.{sig_place, alive_place, count_place, Given, Holds, Sane, OfBody, Uses, Becomes}
use Rattle.history.specs.Recordings.{EventsHeld}
use Rattle.history.specs.Sizes.{ListsHeld, ListsTo, Leaving}
use Rattle.history.specs.Readings.{rotation_of}
use Rattle.history.specs.Kills.{Dying, LeftBy, Gone}
use Rattle.history.proofs.EventLaws.{readable}
use Rattle.history.proofs.StoreLaws.{alive_inside}
use Rattle.history.proofs.StayLaws.{lists_stay, events_stay, lists_behind, events_held}

-- ---- where the words stand

-- what a death takes stands before the counts of the lists, and behind the first two words
left_early : (cap l : ℕ) (es : List Event) (id k : ℕ) → length es ≤ cap → id < length es → LeftBy cap l es id k → (2 ≤ k) × (k < count_place cap l)
left_early cap l es id k few there (inl a) = (a.0, omega (arith, a.1))
left_early cap l es id k few there (inr (inl (j, lt, live, rot, ne, e))) = (omega arith, omega arith)
left_early cap l es id k few there (inr (inr (inl e))) = (omega arith, omega arith)
left_early cap l es id k few there (inr (inr (inr e))) = (omega arith, omega (arith, alive_inside cap l id (omega arith)))

-- ---- the state after a kill

kill-events : (id : ℕ) (m : State) → set m.events id (killed (event_at m.events id)) ≡ (kill id m).events
unfolding kill
kill-events id m = refl

kill_long : (id : ℕ) (m : State) → length (kill id m).events ≡ length m.events
unfolding kill
kill_long id m = length-set m.events id (killed (event_at m.events id))

kill-lists : (id : ℕ) (m : State) → length (kill id m).lists ≡ length m.lists
unfolding kill
kill-lists id m = length-map m.lists (tidy m.given.form (set m.events id (killed (event_at m.events id))))

kill-cleared : (id : ℕ) (m : State) → m.cleared ≡ (kill id m).cleared
unfolding kill
kill-cleared id m = refl

kill-Given : (f : model.Form) (n cap l id : ℕ) (m : State) → Given f n cap l m → Given f n cap l (kill id m)
unfolding kill
kill-Given f n cap l id m g = record { form = g.form; qubits = g.qubits; capacity = g.capacity; planes = g.planes }

kill_other : (id : ℕ) (m : State) → id < length m.events → (i : ℕ) → (i ≡ id → ⊥) → event_at m.events i ≡ event_at (kill id m).events i
unfolding kill gone
kill_other id m there i n = sym (gone_other m.events id there i n)

-- the link of a live rotation is a word of it
of_link : (b : Body) (live : Bool) (cap i k : ℕ) → is_rotation b ≡ true → live ≡ true → k ≡ link_place cap i → OfBody b live cap i k
unfolding is_rotation
of_link (rotation tag sgn label) true cap i k r v e = inl e
of_link (rotation tag sgn label) false cap i k r v e = clash false v refl
of_link blocker live cap i k r v e = clash false r refl

live_is : (es : List Event) (i : ℕ) → live_at es i ≡ true → (event_at es i).live ≡ true
unfolding live_at
live_is es i e = e

alive_among : (a k id : ℕ) → id < k → Among a (words k) (a + id / 64)
unfolding words
alive_among a k id b = (omega arith, omega arith)

module _ (f : model.Form) (n cap l id : ℕ) (m : State) (h g : List ℕ) (holds : Holds f n cap l m h) (sane : Sane m) (d : Dying m.events id) (w : Gone cap l m.events id h g) where
  lists_kept : (k : ℕ) → count_place cap l ≤ k → get_or g k 0 ≡ get_or h k 0
  lists_kept k b = w.only.kept k (λ t. omega (arith, (left_early cap l m.events id k holds.room d.there t).1))

  first_kept : (k : ℕ) → k < 2 → get_or g k 0 ≡ get_or h k 0
  first_kept k b = w.only.kept k (λ t. omega (arith, (left_early cap l m.events id k holds.room d.there t).0))

  dying_lists : ListsHeld f n cap l m g
  dying_lists = record {
    given = holds.given;
    many = holds.many;
    listed = sane.listed;
    lists = lists_stay f m n cap l h g lists_kept holds.lists;
  }

  dying_axed_x : (i : ℕ) → (event_at (set m.events id (killed (event_at m.events id))) i).x ≡ (event_at m.events i).x
  unfolding gone
  dying_axed_x i = gone_x m.events id d.there i

  dying_axed_z : (i : ℕ) → (event_at (set m.events id (killed (event_at m.events id))) i).z ≡ (event_at m.events i).z
  unfolding gone
  dying_axed_z i = gone_z m.events id d.there i

  as_many : length (set m.events id (killed (event_at m.events id))) ≡ length m.events
  as_many = length-set m.events id (killed (event_at m.events id))

  dying_held : EventsHeld cap l (kill id m).events g
  dying_held = subst (λ (es : List Event). EventsHeld cap l es g) (kill-events id m) w.held

  dying_leaves : Leaving n cap l m id (get_or h (sig_place cap + id) 0) g
  dying_leaves = record {
    there = d.there;
    live = d.live;
    sig_is = holds.signed id d.there ∙ ap (λ (b : Bool). cond b (signature l (event_at m.events id).x (event_at m.events id).z) 0) d.live;
    alive = dying_held.alive;
    axed = record {
      xs = λ i b. w.held.axed.xs i (omega (arith, as_many)) ∙ dying_axed_x i;
      zs = λ i b. w.held.axed.zs i (omega (arith, as_many)) ∙ dying_axed_z i;
    };
    small_x = λ i b. subst (λ (q : ℕ). (event_at m.events i).x < 2 ^ q) holds.given.qubits (sane.small_x i b);
    small_z = λ i b. subst (λ (q : ℕ). (event_at m.events i).z < 2 ^ q) holds.given.qubits (sane.small_z i b);
  }

  -- what the death takes, the state after it relies on
  left_used : (k : ℕ) → LeftBy cap l m.events id k → Uses f n cap l (kill id m) k
  left_used k (inl a) = inl (omega (arith, a.1))
  left_used k (inr (inl (j, lt, live, rot, ne, e))) = inr (inl (
    j,
    omega (arith, kill_long id m),
    inl (subst (λ (v : Event). OfBody v.body v.live cap j k) (kill_other id m d.there j ne)
        (of_link (event_at m.events j).body (event_at m.events j).live cap j k rot (live_is m.events j live) e)),
  ))
  left_used k (inr (inr (inl e))) = inr (inl (id, omega (arith, d.there, kill_long id m), inr (inr (inl e))))
  left_used k (inr (inr (inr e))) = inr (inr (inl (subst (λ (a : ℕ). Among (alive_place cap l) (words (length (kill id m).events)) a) (sym e)
      (alive_among (alive_place cap l) (length (kill id m).events) id (omega (arith, d.there, kill_long id m))))))

  module _ (e : List ℕ) (to : ListsTo f n cap l (kill id m) g e) where
    events_before : (k : ℕ) → k < count_place cap l → get_or e k 0 ≡ get_or g k 0
    events_before k b = to.only.kept k (λ t. omega (arith, lists_behind f n cap l (kill id m) k t))

    killed_held : EventsHeld cap l (kill id m).events e
    killed_held = events_stay cap l (kill id m).events g e (omega (arith, holds.room, kill_long id m)) (λ k a b. events_before k b) dying_held

    first : (k : ℕ) → k < 2 → get_or e k 0 ≡ get_or h k 0
    first k b = events_before k (omega arith) ∙ first_kept k b

    dead_Becomes : Becomes f n cap l (kill id m) h e
    dead_Becomes = record {
      holds = record {
        given = kill-Given f n cap l id m holds.given;
        long = to.only.same_length ∙ w.only.same_length ∙ holds.long;
        count = first 0 (omega arith) ∙ holds.count ∙ sym (kill_long id m);
        room = omega (arith, holds.room, kill_long id m);
        cleared = first 1 (omega arith) ∙ holds.cleared ∙ kill-cleared id m;
        chains = killed_held.chains;
        bodies = killed_held.bodies;
        signed = killed_held.signed;
        axed = killed_held.axed;
        alive = killed_held.alive;
        many = kill-lists id m ∙ holds.many;
        lists = to.lists;
      };
      only = record {
        same_length = to.only.same_length ∙ w.only.same_length;
        kept = λ k off. to.only.kept k (λ u. off (inr (inr (inr u)))) ∙ w.only.kept k (λ t. off (left_used k t));
      };
    }

-- the death, then the lists
pub kill-Done : (f : model.Form) (n cap l id : ℕ) (h g e : List ℕ) (s r : Result (Unit {0}) Corrupt)
    → ((es : List Event) → EventsHeld cap l es h → length es ≤ cap → Dying es id → IsOk s × Gone cap l es id h g)
    → ((m : State) → ListsHeld f n cap l m g → length m.events ≡ get_or h 0 0 → Leaving n cap l m id (get_or h (sig_place cap + id) 0) g → IsOk r × ListsTo f n cap l (kill id m) g e)
    → (m : State) → Holds f n cap l m h → Sane m → Dying m.events id → IsOk r × Becomes f n cap l (kill id m) h e
kill-Done f n cap l id h g e s r drop lists m holds sane d =
    let w = (drop m.events (events_held f n cap l m h holds) holds.room d).1 in
    let t = lists m (dying_lists f n cap l id m h g holds sane d w) (sym holds.count) (dying_leaves f n cap l id m h g holds sane d w) in
    (t.0, dead_Becomes f n cap l id m h g holds sane d w e t.1)

pub no_err : {r : Result (Unit {0}) Corrupt} {x : Corrupt} → IsOk r → r ≡ Err x → ⊥
no_err {r} {x} ok e = let z = ok in cc (ap is_ok e)

-- ---- whether an event can be killed

killable : (es : List Event) (id : ℕ) → not_killable es id ≡ false → (not_readable es id ≡ false) × (live_at es id ≡ true)
unfolding not_killable
killable es id e = go (not_readable es id) refl (live_at es id) refl e
  where
    go : (a : Bool) → not_readable es id ≡ a → (b : Bool) → live_at es id ≡ b → (a || not b) ≡ false → (not_readable es id ≡ false) × (live_at es id ≡ true)
    go true p b q r = clash true refl r
    go false p true q r = (p, q)
    go false p false q r = clash true refl r

unkillable : (es : List Event) (id : ℕ) → not_killable es id ≡ true → not_readable es id ≡ false → live_at es id ≡ false
unfolding not_killable
unkillable es id e s = go (not_readable es id) s (live_at es id) e
  where
    go : (a : Bool) → a ≡ false → (b : Bool) → (a || not b) ≡ true → b ≡ false
    go true p b r = clash true refl p
    go false p true r = clash false r refl
    go false p false r = refl

pub kill_Dying : (es : List Event) (id : ℕ) → not_killable es id ≡ false → Dying es id
kill_Dying es id e =
    let k = killable es id e in
    let r = readable es id k.0 in
    record { there = r.0; live = k.1; rotation = r.1 }

pub kill_past : (es : List Event) (cap id : ℕ) → length es ≤ cap → cap ≤ id → not_killable es id ≡ false → ⊥
kill_past es cap id few past e = omega (arith, (kill_Dying es id e).there)

-- what a read told of event id
module _ (es : List Event) (id : ℕ) (t : Result (Option Rotation) Corrupt) (nothing : not_readable es id ≡ true → t ≡ Ok None)
    (says : not_readable es id ≡ false → t ≡ Ok (Some (rotation_of (reading es id)))) where
  pub told_none : t ≡ Ok None → not_killable es id ≡ false → ⊥
  told_none e k = let s = says (killable es id k).0 in cc

  pub told_err : (x : Corrupt) → t ≡ Err x → ⊥
  told_err x e = go (not_readable es id) refl
    where
      go : (b : Bool) → not_readable es id ≡ b → ⊥
      go true q = let s = nothing q in cc
      go false q = let s = says q in cc

  -- the rotation told can be killed exactly if it is live
  pub told_some : (r : Rotation) → t ≡ Ok (Some r) → not_killable es id ≡ not r.live
  unfolding not_killable rotation_of reading
  told_some r e = go (not_readable es id) refl
    where
      go : (b : Bool) → not_readable es id ≡ b → (not_readable es id || not (live_at es id)) ≡ not r.live
      go true q = let s = nothing q in cc
      go false q = let s = says q in let l : live_at es id ≡ r.live = cc in rw q (ap not l)
