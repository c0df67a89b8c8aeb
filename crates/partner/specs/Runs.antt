-- What a caller does with a store: an opening, then calls in a row, each lent any first part of the caller's words. A call is here what its contract says
-- of it, and no more. Assumes nothing.
use Rattle.std.specs.Prelude.{◌≡◌, ◌↔◌, true, false, List, [], ◌∷◌, ◌++◌, ℕ, ◌^◌, ◌≤◌, ◌<◌, length, get_or, take, drop, ℤ}
use Rattle.model.specs.Frame.{Kind, axis, paulis}
use Rattle.model.specs.Events.{Opening, State, plane, touches, event_at, live_at, dead}
use Rattle.model.specs.Search.{found, out}
use Rattle.model.specs.Store.{list_count}
use Rattle.model.specs.Calls.{Call, call_open, call_gate, call_turn, call_record, call_measure, call_reset, call_ccx, call_ccz, call_kill, call_read, call_clear, call_look, Lent, opening, Reply, accepted, looked}
use Rattle.model.specs.Demands.{Share, occurs, living, Named}
use Rattle.history.specs.Words.{history_room, list_in}
use Rattle.store.specs.Stores.{part, history_place}
use Rattle.store.specs.Promises.{Answers, Meets, Opens}

-- ---- calls

-- lent the slice s, the call gives back r and leaves t
abbrev pub Step : Call → (s : List ℕ) → Reply → (t : List ℕ) → Type 0
Step (call_open n E A form ws) s r t = Opens (opening n E A form ws (length s)) s r t
Step (call_gate g) s r t = Meets (call_gate g) s r t
Step (call_turn kind k q) s r t = Meets (call_turn kind k q) s r t
Step (call_record kind q tag) s r t = Meets (call_record kind q tag) s r t
Step (call_measure q) s r t = Meets (call_measure q) s r t
Step (call_reset q) s r t = Meets (call_reset q) s r t
Step (call_ccx a b c) s r t = Meets (call_ccx a b c) s r t
Step (call_ccz a b c) s r t = Meets (call_ccz a b c) s r t
Step (call_kill id) s r t = Meets (call_kill id) s r t
Step call_clear s r t = Meets call_clear s r t
-- a read and a look are lent the slice to read only
Step (call_read id) s r t = Answers (call_read id) s r × (t ≡ s)
Step (call_look kind q) s r t = Answers (call_look kind q) s r × (t ≡ s)

-- Calls in a row on the caller's words b: each is lent the first `store` of them, gives back its reply of rs, and the last leaves e. The words past
-- those that a call is lent are not its own to change.
abbrev pub Runs : List Lent → (b : List ℕ) → List Reply → (e : List ℕ) → Type 0
Runs [] b [] e = e ≡ b
Runs [] b (r ∷ rs) e = ⊥
Runs (c ∷ cs) b [] e = ⊥
Runs (c ∷ cs) b (r ∷ rs) e = (c.store ≤ length b) × ((t : List ℕ) × Step c.call (take c.store b) r t × Runs cs (t ++ drop c.store b) rs e)

-- "After any calls since an opening, refused ones included, and no other writing": over any words, the opening o was accepted, and the calls cs then gave
-- back rs and left e
pub record Since (o : Opening) (cs : List Lent) (rs : List Reply) (e : List ℕ) : Type 0 where
  pub before : List ℕ
  pub enough : o.size ≤ length before
  pub after : List ℕ
  pub opening : Opens o (take o.size before) accepted after
  pub run : Runs cs (after ++ drop o.size before) rs e

-- every word of a slice is one of 64 bits
abbrev pub Fits64 : List ℕ → Type 0
Fits64 s = (i : ℕ) → get_or s i 0 < 2 ^ 64

-- ---- demand 3, of the words of a store

-- list b as it stands in the words s of a store that holds m
unfoldable pub list_of : State → List ℕ → (b : ℕ) → List ℕ
list_of m s b =
    list_in m.given.form m.given.n m.given.capacity (plane m)
    (part (history_place m.given.n (plane m)) (history_room m.given.form m.given.n m.given.capacity (plane m)) s) b

-- a reply that says that a look ran out
abbrev pub RanOut : Reply → Type 0
RanOut r = (steps : ℕ) × (r ≡ looked (out steps))

-- a reply that names the event id with the relative sign g
abbrev pub Names : Reply → (id : ℕ) → ℤ → Type 0
Names r id g = (steps : ℕ) × (r ≡ looked (found id g steps))

-- Demand 3 of the words s of a store that holds m: `list_of m s b` is read off the words, and a look is any answer that keeps its promise on them. List b is
-- of an event's support where its axis touches bit b (docs/DIFFERENCES.md, 1).
pub record DemandThree (m : State) (s : List ℕ) : Type 0 where
  -- "each live event stands once in every list of its support": there is such a list, it stands in it once, and no event stands in another
  pub listed : (b i : ℕ) → live_at m.events i ≡ true
      → touches (plane m) (event_at m.events i).x (event_at m.events i).z b ≡ true → b < list_count m.given.form m.given.n
  pub once : (b i : ℕ) → b < list_count m.given.form m.given.n → live_at m.events i ≡ true
      → touches (plane m) (event_at m.events i).x (event_at m.events i).z b ≡ true → occurs i (list_of m s b) ≡ 1
  pub nowhere_else : (b i : ℕ) → b < list_count m.given.form m.given.n
      → touches (plane m) (event_at m.events i).x (event_at m.events i).z b ≡ false → occurs i (list_of m s b) ≡ 0
  -- "dead entries fill at most a quarter of a scalar list and half of a sliced one"
  pub share : (b : ℕ) → b < list_count m.given.form m.given.n → Share m.given.form (dead m.events (list_of m s b)) (length (list_of m s b))
  -- "with at most 12,000 live events and 1,048,576 steps no search runs out"
  pub enough : living m ≤ 12000 → m.given.allowance ≡ 1048576
      → (kind : Kind) (q : ℕ) (r : Reply) → q < m.given.n → Answers (call_look kind q) s r → RanOut r → ⊥
  -- "it names an event exactly when that is the newest live rotation of the same axis since the last clear and no later live event anticommutes with
  -- the axis": unless it runs out
  pub names : (kind : Kind) (q : ℕ) (r : Reply) → q < m.given.n → Answers (call_look kind q) s r → (RanOut r → ⊥)
      → (id : ℕ) (g : ℤ) → Names r id g ↔ Named m (axis paulis kind q m.frame) id g
  -- "Beyond those numbers a named event still fits this description."
  pub beyond : (kind : Kind) (q : ℕ) (r : Reply) → q < m.given.n → Answers (call_look kind q) s r
      → (id : ℕ) (g : ℤ) → Names r id g → Named m (axis paulis kind q m.frame) id g
