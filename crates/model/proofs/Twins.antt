-- Two openings that differ only in labels, form or allowance, followed by the same calls on as many words, give equal answers, and equal looks,
-- steps aside, unless one runs out. Assumes nothing.
use Prim.Native.Nat.{ℕ}
use mathlib.Core.Path.{◌≡◌, refl, sym, ap, ap₂, ◌∙◌}
use mathlib.Core.Bool.{Bool, true, false, cond}
use mathlib.Core.List.{List, [], ◌∷◌, ◌++◌, map}
use native.Mathlib.Omega.{arith}
use lib.ListN.{length, set, length-map, get_or-map}
use lib.Dec.{eqb}
use Rattle.model.specs.Pauli.{Pauli}
use Rattle.model.specs.Frame.{Rows, Kind, axis, paulis, gate, turn, fresh}
use Rattle.model.specs.Sketch.{Label, no_label, labels}
use Rattle.model.specs.Events.{Body, rotation, blocker, Event, scalar, Opening, State, no_event, event_at, live_at, is_rotation, record1, record_all, killed, kill, clear}
use Rattle.model.specs.Search.{sign_at, Look, found, none, blocked, out, look}
use Rattle.model.specs.Calls.{open_answer, opened, Call, call_open, call_gate, call_turn, call_record, call_measure, call_reset, call_ccx, call_ccz, call_kill, call_read, call_clear, call_look, Lent, answer, answer_to, gate_qubits, not_readable, not_killable, tag_at, reading, Reply, refused, accepted, recorded, says, looked, reply_of, reply, reframed, rotation_of, effect, call, replies}
use Rattle.model.specs.Demands.{Match, Newest, InTheWay, Says, SameLook, SameReply, SameReplies}
use Rattle.model.proofs.Labels.{map-set}
use Rattle.model.proofs.Good.{Good, Good-look, Good-call, Good-open}
use Rattle.model.proofs.Exact.{same_look}

-- ---- a state without labels, lists and steps

unfoldable pub bare_body : Body → Body
bare_body (rotation tag sgn label) = rotation tag sgn no_label
bare_body blocker = blocker

unfoldable pub bare_event : Event → Event
bare_event e = record { body = bare_body e.body; x = e.x; z = e.z; live = e.live }

unfoldable pub bare_opening : Opening → Opening
bare_opening o = record { n = o.n; capacity = o.capacity; allowance = 0; form = scalar; label_words = []; size = o.size }

unfoldable pub bare_of : Opening → Rows Pauli → List Event → (cleared : ℕ) → State
bare_of given frame events cleared = record {
  given = bare_opening given;
  frame = frame;
  sketch = record { xs = []; zs = [] };
  events = events;
  lists = [];
  cleared = cleared;
}

unfoldable pub bare : State → State
unfolding bare_of bare_opening
bare s = bare_of s.given s.frame (map bare_event s.events) s.cleared

twice_bare : (e : Event) → bare_event (bare_event e) ≡ bare_event e
unfolding bare_event bare_body
twice_bare e = λ i. record { body = go e.body i; x = e.x; z = e.z; live = e.live }
  where
    go : (b : Body) → bare_body (bare_body b) ≡ bare_body b
    go (rotation tag sgn label) = refl
    go blocker = refl

map_twice : (es : List Event) → map bare_event (map bare_event es) ≡ map bare_event es
map_twice [] = refl
map_twice (e ∷ es) = ap₂ {C = List Event} (λ a b. a ∷ b) (twice_bare e) (map_twice es)

map-append : (s t : List Event) → map bare_event (s ++ t) ≡ map bare_event s ++ map bare_event t
map-append [] t = refl
map-append (e ∷ s) t = ap {B = List Event} (λ w. bare_event e ∷ w) (map-append s t)

event_bare : (es : List Event) (id : ℕ) → event_at (map bare_event es) id ≡ bare_event (event_at es id)
unfolding event_at no_event bare_event bare_body
event_bare es id = get_or-map bare_event es id no_event

live_bare : (es : List Event) (id : ℕ) → live_at (map bare_event es) id ≡ live_at es id
unfolding live_at bare_event
live_bare es id = ap (λ (e : Event). e.live) (event_bare es id)

x_bare : (es : List Event) (id : ℕ) → (event_at (map bare_event es) id).x ≡ (event_at es id).x
unfolding bare_event
x_bare es id = ap (λ (e : Event). e.x) (event_bare es id)

z_bare : (es : List Event) (id : ℕ) → (event_at (map bare_event es) id).z ≡ (event_at es id).z
unfolding bare_event
z_bare es id = ap (λ (e : Event). e.z) (event_bare es id)

body_bare : (es : List Event) (id : ℕ) → (event_at (map bare_event es) id).body ≡ bare_body (event_at es id).body
unfolding bare_event
body_bare es id = ap (λ (e : Event). e.body) (event_bare es id)

rotation_bare : (b : Body) → is_rotation (bare_body b) ≡ is_rotation b
unfolding is_rotation bare_body
rotation_bare (rotation tag sgn label) = refl
rotation_bare blocker = refl

sign_bare : (b : Body) → sign_at (bare_body b) ≡ sign_at b
unfolding sign_at bare_body
sign_bare (rotation tag sgn label) = refl
sign_bare blocker = refl

tag_bare : (b : Body) → tag_at (bare_body b) ≡ tag_at b
unfolding tag_at bare_body
tag_bare (rotation tag sgn label) = refl
tag_bare blocker = refl

-- ---- what a look says speaks of no more than that

module _ (s : State) (p : Pauli) where
  same_length : length (bare s).events ≡ length s.events
  unfolding bare
  same_length = length-map s.events bare_event

  Match-bare : (id : ℕ) → Match s p id → Match (bare s) p id
  unfolding bare
  Match-bare id m = record {
    there = omega (arith, same_length, m.there);
    since = m.since;
    live = live_bare s.events id ∙ m.live;
    rotation = ap is_rotation (body_bare s.events id) ∙ rotation_bare (event_at s.events id).body ∙ m.rotation;
    x_same = x_bare s.events id ∙ m.x_same;
    z_same = z_bare s.events id ∙ m.z_same;
  }

  bare-Match : (id : ℕ) → Match (bare s) p id → Match s p id
  unfolding bare
  bare-Match id m = record {
    there = omega (arith, same_length, m.there);
    since = m.since;
    live = sym (live_bare s.events id) ∙ m.live;
    rotation = sym (ap is_rotation (body_bare s.events id) ∙ rotation_bare (event_at s.events id).body) ∙ m.rotation;
    x_same = sym (x_bare s.events id) ∙ m.x_same;
    z_same = sym (z_bare s.events id) ∙ m.z_same;
  }

  way_bare : (id j : ℕ) → InTheWay s p id j → InTheWay (bare s) p id j
  unfolding bare
  way_bare id j w = record {
    later = w.later;
    there = omega (arith, same_length, w.there);
    live = live_bare s.events j ∙ w.live;
    anticommutes = rw (x_bare s.events j, z_bare s.events j) w.anticommutes;
  }

  bare_way : (id j : ℕ) → InTheWay (bare s) p id j → InTheWay s p id j
  unfolding bare
  bare_way id j w = record {
    later = w.later;
    there = omega (arith, same_length, w.there);
    live = sym (live_bare s.events j) ∙ w.live;
    anticommutes = rw (x_bare s.events j, z_bare s.events j) at w.anticommutes;
  }

  Newest-bare : (id : ℕ) → Newest s p id → Newest (bare s) p id
  Newest-bare id n = record { match = Match-bare id n.match; newest = (λ j u m. n.newest j u (bare-Match j m)) }

  Says-bare : (a : Look) → Says s p a → Says (bare s) p a
  unfolding bare
  Says-bare (found id g steps) m = record {
    newest = Newest-bare id m.newest;
    free = (λ j w. m.free j (bare_way id j w));
    relative = rw (body_bare s.events id, sign_bare (event_at s.events id).body) m.relative;
  }
  Says-bare (none steps) m = λ id n. m id (bare-Match id n)
  Says-bare (blocked steps) m = (m.0, m.1, Newest-bare m.0 m.2, way_bare m.0 m.1 m.3)
  Says-bare (out steps) m = tt

-- ---- nor do the answers

readable_bare : (es : List Event) (id : ℕ) → not_readable (map bare_event es) id ≡ not_readable es id
unfolding not_readable
readable_bare es id = simp (length-map, body_bare, rotation_bare)

killable_bare : (es : List Event) (id : ℕ) → not_killable (map bare_event es) id ≡ not_killable es id
unfolding not_killable
killable_bare es id = simp (readable_bare, live_bare)

same_answer : (s : State) (w t : ℕ) (qs : List ℕ) (k : ℕ) (bad bad' : Bool) → bad ≡ bad' → answer s w t qs k bad ≡ answer (bare s) w t qs k bad'
unfolding answer bare
same_answer s w t qs k bad bad' e = rw (length-map s.events bare_event, e)

pub answer_bare : (c : Call) (w : ℕ) (s : State) → answer_to c w s ≡ answer_to c w (bare s)
unfolding answer_to
answer_bare (call_open n E A form ws) w s = refl
answer_bare (call_gate g) w s = same_answer s w 0 (gate_qubits g) 0 false false refl
answer_bare (call_turn kind k q) w s = same_answer s w k (q ∷ []) 0 false false refl
answer_bare (call_record kind q tag) w s = same_answer s w 0 (q ∷ []) 1 false false refl
answer_bare (call_measure q) w s = same_answer s w 0 (q ∷ []) 1 false false refl
answer_bare (call_reset q) w s = same_answer s w 0 (q ∷ []) 2 false false refl
answer_bare (call_ccx a b t) w s = same_answer s w 0 (a ∷ b ∷ t ∷ []) 7 false false refl
answer_bare (call_ccz a b t) w s = same_answer s w 0 (a ∷ b ∷ t ∷ []) 7 false false refl
answer_bare (call_kill id) w s = same_answer s w 0 [] 0 _ _ (unfold bare in sym (killable_bare s.events id))
answer_bare (call_read id) w s = same_answer s w 0 [] 0 _ _ (unfold bare in sym (readable_bare s.events id))
answer_bare call_clear w s = same_answer s w 0 [] 0 false false refl
answer_bare (call_look kind q) w s = same_answer s w 0 (q ∷ []) 0 false false refl

reading_bare : (es : List Event) (id : ℕ) → reading es id ≡ reading (map bare_event es) id
unfolding reading
reading_bare es id = sym (λ i. record { tag = left i; sgn = mid i; live = live_bare es id i })
  where
    left : tag_at (event_at (map bare_event es) id).body ≡ tag_at (event_at es id).body
    left = ap tag_at (body_bare es id) ∙ tag_bare (event_at es id).body

    mid : sign_at (event_at (map bare_event es) id).body ≡ sign_at (event_at es id).body
    mid = ap sign_at (body_bare es id) ∙ sign_bare (event_at es id).body

-- ---- nor does what a call does to such a state

bare_frame : (s : State) (f : Rows Pauli) (k j : Rows Label) → bare (reframed f k s) ≡ bare (reframed f j (bare s))
unfolding bare reframed
bare_frame s f k j = ap (λ (es : List Event). bare_of s.given f es s.cleared) (sym (map_twice s.events))

bare-bare : (s : State) → bare s ≡ bare (bare s)
unfolding bare
bare-bare s = ap (λ (es : List Event). bare_of s.given s.frame es s.cleared) (sym (map_twice s.events))

bare-record1 : (s : State) (e d : Event) → bare_event e ≡ bare_event d → bare (record1 e s) ≡ bare (record1 d (bare s))
unfolding bare record1
bare-record1 s e d h =
    ap (λ (es : List Event). bare_of s.given s.frame es s.cleared)
    (map-append s.events (e ∷ []) ∙ ap₂ (λ (a b : List Event). a ++ b) (sym (map_twice s.events)) (ap (λ (w : Event). w ∷ []) h)
    ∙ sym (map-append (map bare_event s.events) (d ∷ [])))

-- recording sees the state only through `bare`
bare_record_same : (s t : State) (e : Event) → bare s ≡ bare t → bare (record1 e s) ≡ bare (record1 e t)
bare_record_same s t e h = bare-record1 s e e refl ∙ ap (λ (w : State). bare (record1 e w)) h ∙ sym (bare-record1 t e e refl)

bare-record_all : (es : List Event) (s t : State) → bare s ≡ bare t → bare (record_all es s) ≡ bare (record_all es t)
unfolding record_all
bare-record_all [] s t h = h
bare-record_all (e ∷ es) s t h = bare-record_all es (record1 e s) (record1 e t) (bare_record_same s t e h)

bare_killed : (e : Event) → bare_event (killed e) ≡ killed (bare_event e)
unfolding bare_event killed
bare_killed e = refl

bare-kill : (s : State) (id : ℕ) → bare (kill id s) ≡ bare (kill id (bare s))
unfolding bare kill
bare-kill s id =
    ap (λ (es : List Event). bare_of s.given s.frame es s.cleared)
    (left ∙ sym (map-set bare_event (map bare_event s.events) id (killed (event_at (map bare_event s.events) id))
    ∙ ap₂ (λ (es : List Event) (e : Event). set es id e) (map_twice s.events) right))
  where
    left : map bare_event (set s.events id (killed (event_at s.events id))) ≡ set (map bare_event s.events) id (bare_event (killed (event_at s.events id)))
    left = map-set bare_event s.events id (killed (event_at s.events id))

    right : bare_event (killed (event_at (map bare_event s.events) id)) ≡ bare_event (killed (event_at s.events id))
    right = ap (λ (e : Event). bare_event (killed e)) (event_bare s.events id) ∙ bare_killed (bare_event (event_at s.events id)) ∙ ap killed (twice_bare (event_at s.events id)) ∙ sym (bare_killed (event_at s.events id))

bare-clear : (s : State) → bare (clear s) ≡ bare (clear (bare s))
unfolding bare clear
bare-clear s = ap₂ (λ (es : List Event) (c : ℕ). bare_of s.given s.frame es c) (sym (map_twice s.events)) (sym (length-map s.events bare_event))

pub after_bare : (c : Call) (w : ℕ) (s : State) → bare (effect c w s) ≡ bare (effect c w (bare s))
unfolding effect
after_bare (call_open n E A form ws) w s = refl
after_bare (call_gate g) w s = unfold bare in bare_frame s (gate paulis g s.frame) (gate labels g s.sketch) _
after_bare (call_turn kind k q) w s = unfold bare in bare_frame s (turn paulis kind k q s.frame) (turn labels kind k q s.sketch) _
after_bare (call_record kind q tag) w s = bare-record1 s (rotation_of kind q tag s) (rotation_of kind q tag (bare s)) (unfold bare rotation_of bare_event bare_body in refl)
after_bare (call_measure q) w s = unfold bare in bare-record1 s _ _ refl
after_bare (call_reset q) w s = unfold bare in bare-record_all _ s (bare s) (bare-bare s)
after_bare (call_ccx a b t) w s = unfold bare in bare-record_all _ s (bare s) (bare-bare s)
after_bare (call_ccz a b t) w s = unfold bare in bare-record_all _ s (bare s) (bare-bare s)
after_bare (call_kill id) w s = bare-kill s id
after_bare (call_read id) w s = bare-bare s
after_bare call_clear w s = bare-clear s
after_bare (call_look kind q) w s = bare-bare s

-- ---- two states that differ in nothing else

module _ (s t : State) (h : bare s ≡ bare t) where
  twin_answer : (c : Call) (w : ℕ) → answer_to c w s ≡ answer_to c w t
  twin_answer c w = answer_bare c w s ∙ ap (answer_to c w) h ∙ sym (answer_bare c w t)

  twin_call : (c : Call) (w : ℕ) → bare (call c w s) ≡ bare (call c w t)
  unfolding call
  twin_call c w = rw (twin_answer c w) (go (eqb (answer_to c w t) 0))
    where
      go : (b : Bool) → bare (cond b (effect c w s) s) ≡ bare (cond b (effect c w t) t)
      go true = after_bare c w s ∙ ap (λ (v : State). bare (effect c w v)) h ∙ sym (after_bare c w t)
      go false = h

  twin_frame : s.frame ≡ t.frame
  twin_frame = unfold bare in ap (λ (v : State). v.frame) h

  twin_events : map bare_event s.events ≡ map bare_event t.events
  twin_events = unfold bare in ap (λ (v : State). v.events) h

  twin_length : length s.events ≡ length t.events
  twin_length = sym (length-map s.events bare_event) ∙ ap length twin_events ∙ length-map t.events bare_event

  twin_look : Good s → Good t → (kind : Kind) (q : ℕ) → SameLook (look kind q s) (look kind q t)
  twin_look g k kind q =
      same_look (bare s) p (look kind q s) (look kind q t) (Says-bare s p (look kind q s) (Good-look s g kind q))
      (rw h (Says-bare t p (look kind q t) (rw twin_frame (Good-look t k kind q))))
    where
      p : Pauli
      p = axis paulis kind q s.frame

-- equal answers are the same, steps and all
look_same : (a : Look) → SameLook a a
look_same (found id g steps) = (refl, refl)
look_same (none steps) = tt
look_same (blocked steps) = tt
look_same (out steps) = tt

reply_same : (a : Reply) → SameReply a a
reply_same (refused k) = refl
reply_same accepted = refl
reply_same (recorded i) = refl
reply_same (says u) = refl
reply_same (looked a) = look_same a

twin_reply : (s t : State) → Good s → Good t → bare s ≡ bare t → (c : Call) (w : ℕ) → SameReply (reply c w s) (reply c w t)
unfolding reply reply_of
twin_reply s t g k h c w = rw (twin_answer s t h c w) (go (eqb (answer_to c w t) 0))
  where
    number : SameReply (recorded (length s.events)) (recorded (length t.events))
    number = ap recorded (twin_length s t h)

    of : (c : Call) → SameReply (reply_of c s) (reply_of c t)
    of (call_open n E A form ws) = refl
    of (call_gate f) = refl
    of (call_turn kind m q) = refl
    of (call_record kind q tag) = number
    of (call_measure q) = number
    of (call_reset q) = number
    of (call_ccx a b d) = number
    of (call_ccz a b d) = number
    of (call_kill id) = refl
    of (call_read id) = ap says (reading_bare s.events id ∙ ap (λ (es : List Event). reading es id) (twin_events s t h) ∙ sym (reading_bare t.events id))
    of call_clear = refl
    of (call_look kind q) = twin_look s t h g k kind q

    go : (b : Bool) → SameReply (cond b (reply_of c s) (refused (answer_to c w t))) (cond b (reply_of c t) (refused (answer_to c w t)))
    go true = of c
    go false = refl

twin_replies : (cs : List Lent) (s t : State) → Good s → Good t → bare s ≡ bare t → SameReplies (replies cs s) (replies cs t)
unfolding replies
twin_replies [] s t g k h = tt
twin_replies (c ∷ cs) s t g k h = (
  twin_reply s t g k h c.call c.store,
  twin_replies cs (call c.call c.store s) (call c.call c.store t) (Good-call s c.call c.store g) (Good-call t c.call c.store k) (twin_call s t h c.call c.store),
)

pub twin_openings : (o p : Opening) → o.n ≡ p.n → o.capacity ≡ p.capacity → o.size ≡ p.size → open_answer o ≡ 0 → open_answer p ≡ 0
    → (cs : List Lent) → SameReplies (replies cs (opened o)) (replies cs (opened p))
twin_openings o p en ec es h k cs = twin_replies cs (opened o) (opened p) (Good-open o h) (Good-open p k) alike
  where
    alike : bare (opened o) ≡ bare (opened p)
    alike =
        unfold bare opened in
        λ i. bare_of (record { n = en i; capacity = ec i; allowance = 0; form = scalar; label_words = []; size = es i }) (fresh (en i)) [] 0
