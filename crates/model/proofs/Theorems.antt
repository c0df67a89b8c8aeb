-- The theorems of docs/PROMISES.md, under the names that it gives. Each says what the mission's demands or 01 say, in the words of specs/ (but
-- for `computed`, whose cases stand in Cases), and assumes of a state only that its opening answered 0; `cs` are any calls after it, refused ones
-- and further openings included, each on a store of any length. Assumes nothing.
use Prim.Native.Nat.{ℕ, ◌+◌, ◌*◌, ◌/◌, ◌%◌, ◌≤◌, ◌<◌}
use mathlib.Core.Path.{◌≡◌, refl, sym, ap, ◌∙◌, subst}
use mathlib.Core.Logic.{◌≢◌, ◌↔◌}
use mathlib.Core.Bool.{Bool, true, false, cond}
use mathlib.Core.List.{List}
use lib.Bits.{bit_or}
use lib.Count.{ones}
use lib.IntN.{ℤ, ◌*ℤ◌}
use lib.ListN.{length}
use lib.Dec.{eqb}
use borrow.Author.Tests.{ne_eqb}
use Rattle.model.specs.Pauli.{Pauli, has, count, times, sign, anti}
use Rattle.model.specs.Frame.{Rows, Kind, Gate, gate, turn, axis, paulis, fresh}
use Rattle.model.specs.Sketch.{Label, labels}
use Rattle.model.specs.Events.{Body, rotation, Opening, State, words, plane, touches, event_at, tidy, kill}
use Rattle.model.specs.Search.{list_at, found, look}
use Rattle.model.specs.Store.{need, roof}
use Rattle.model.specs.Calls.{open_answer, opened, Call, call_clear, call_read, call_look, Lent, answer_to, effect, call, calls, replies, tally}
use Rattle.model.specs.Demands.{SameEvent, is_opening, Recorded, Match, Small, IsSign, HasSign, Signed, positive, Paired, Fits, Labelled, Sketched, Listed, Says, living, NotOut, Exactly, SameReplies}
use Rattle.model.proofs.Cases.{Cases, cases}
use Rattle.model.proofs.Counts.{count_ones}
use Rattle.model.proofs.Parity.{anti-times, anti_comm}
use Rattle.model.proofs.Products.{has_sign, times_assoc, product_sign, sign-times, sign_same}
use Rattle.model.proofs.Invariant.{even_axis, Sound-fresh, Sound-gate, Sound-turn, anti-times_r}
use Rattle.model.proofs.Within.{Within-axis}
use Rattle.model.proofs.Labels.{label_of_sets}
use Rattle.model.proofs.Signature.{signature_bit}
use Rattle.model.proofs.Lists.{kill_list}
use Rattle.model.proofs.Good.{origin, reached, Good-look, opens}
use Rattle.model.proofs.Kept.{paired, unpaired, sketched, listed, look_sign}
use Rattle.model.proofs.Exact.{exact}
use Rattle.model.proofs.Stay.{stays, all_Recorded_since, Cleared-none}
use Rattle.model.proofs.Enough.{never_out, tally-live}
use Rattle.model.proofs.Twins.{twin_openings}
use Rattle.model.proofs.Room.{frame_limit, need-roof}

-- ---- demand 1: "such a refusal changes no word"

either_way : (b : Bool) (s : State) → cond b s s ≡ s
either_way true s = refl
either_way false s = refl

pub refusal_changes_nothing : (c : Call) (w : ℕ) (s : State) → answer_to c w s ≢ 0 → call c w s ≡ s
unfolding call
refusal_changes_nothing c w s h = ap (λ (b : Bool). cond b (effect c w s) s) (ne_eqb (answer_to c w s) 0 h)

-- ---- 1. 01, "Proved cases" and the worked example, with the gates' images and 01's slips

pub computed : Cases
computed = cases

-- ---- 2. anticommutation, and the frame at the opening, after every gate and turn, and after any calls

pub anti_bilinear : (a b c : Pauli) → (anti (times a b) c ≡ (anti a c + anti b c) % 2) × (anti c (times a b) ≡ (anti c a + anti c b) % 2)
anti_bilinear a b c = (anti-times a b c, anti-times_r c a b)

pub anti_symmetric : (a b : Pauli) → anti a b ≡ anti b a
anti_symmetric = anti_comm

pub frame_opens : (n : ℕ) → Paired n (fresh n)
frame_opens n = paired n (fresh n) (Sound-fresh n)

pub gate_keeps : (n : ℕ) (r : Rows Pauli) (g : Gate) → Paired n r → Fits n g → Paired n (gate paulis g r)
gate_keeps n r g p f = paired n (gate paulis g r) (Sound-gate n r g (unpaired n r p) f)

pub turn_keeps : (n : ℕ) (r : Rows Pauli) (kind : Kind) (k q : ℕ) → Paired n r → q < n → Paired n (turn paulis kind k q r)
turn_keeps n r kind k q p h = paired n (turn paulis kind k q r) (Sound-turn n r kind k q (unpaired n r p) h)

pub frames_kept : (o : Opening) → open_answer o ≡ 0 → (cs : List Lent) → Paired (calls cs (opened o)).given.n (calls cs (opened o)).frame
frames_kept o h cs = paired _ _ (reached o h cs).sound

-- "p is 0 to 3", and every set is of the n qubits: rows and axes, of any kind and qubit
pub rows_Small : (o : Opening) → open_answer o ≡ 0 → (cs : List Lent) → let s : State = calls cs (opened o) in
    (kind : Kind) (q : ℕ) → Small s.given.n (axis paulis kind q s.frame)
rows_Small o h cs kind q = Within-axis _ kind q _ (reached o h cs).within

-- every axis has a sign, y too
pub axes_signed : (o : Opening) → open_answer o ≡ 0 → (cs : List Lent) → let s : State = calls cs (opened o) in
    (kind : Kind) (q : ℕ) → q < s.given.n → HasSign (axis paulis kind q s.frame)
axes_signed o h cs kind q there = has_sign _ (even_axis _ _ kind q (reached o h cs).sound there)

-- ---- 3. products and signs (a row's sign is never lost by a gate: `gate_keeps`)

pub product_associative : (a b c : Pauli) → times (times a b) c ≡ times a (times b c)
product_associative = times_assoc

-- commuting rows that have signs have a product with a sign: the product of theirs and of what their axes alone bring in
pub product_signed : (a b : Pauli) → HasSign a → HasSign b → anti a b ≡ 0
    → HasSign (times a b) × (sign (times a b) ≡ sign a *ℤ sign b *ℤ sign (times (positive a) (positive b)))
product_signed a b h k e = (product_sign a b h k e, sign-times a b h k e)

-- rows of one axis: the product is the identity with the relative sign
pub relative_sign : (a b : Pauli) → a.x ≡ b.x → a.z ≡ b.z → HasSign a → HasSign b
    → ((times a b).x ≡ 0) × ((times a b).z ≡ 0) × (sign (times a b) ≡ sign a *ℤ sign b)
relative_sign = sign_same

-- ---- 4. labels

pub labels_kept : (o : Opening) → open_answer o ≡ 0 → (cs : List Lent) → Sketched (calls cs (opened o))
labels_kept o h cs = sketched (calls cs (opened o)) (reached o h cs)

-- equal axes have equal labels: a rotation's and the present one
pub equal_labels : (o : Opening) → open_answer o ≡ 0 → (cs : List Lent) → let s : State = calls cs (opened o) in
    (kind : Kind) (q i tag : ℕ) (g : ℤ) (a : Label) → i < length s.events → (event_at s.events i).body ≡ rotation tag g a
    → (event_at s.events i).x ≡ (axis paulis kind q s.frame).x → (event_at s.events i).z ≡ (axis paulis kind q s.frame).z
    → a ≡ axis labels kind q s.sketch
equal_labels o h cs kind q i tag g a there e ex ez =
    let s : State = calls cs (opened o) in
    let k : Sketched s = labels_kept o h cs in
    subst (λ (b : Body). Labelled (origin s) (event_at s.events i).x (event_at s.events i).z b) e (k.event_label i there)
    ∙ label_of_sets (origin s) _ (axis paulis kind q s.frame) ex ez ∙ sym (k.axis_label kind q)

-- ---- 5. demand 3: the lists

pub lists_kept : (o : Opening) → open_answer o ≡ 0 → (cs : List Lent) → Listed (calls cs (opened o))
lists_kept o h cs = listed (calls cs (opened o)) (reached o h cs)

-- ---- 6. demand 3: a look

-- whatever the numbers, what a look says is true
pub look_true : (o : Opening) → open_answer o ≡ 0 → (cs : List Lent) → let s : State = calls cs (opened o) in
    (kind : Kind) (q : ℕ) → Says s (axis paulis kind q s.frame) (look kind q s)
look_true o h cs kind q = Good-look (calls cs (opened o)) (reached o h cs) kind q

-- and unless it runs out it says it exactly when it is true
pub look_exact : (o : Opening) → open_answer o ≡ 0 → (cs : List Lent) → let s : State = calls cs (opened o) in
    (kind : Kind) (q : ℕ) → NotOut (look kind q s) → Exactly s (axis paulis kind q s.frame) (look kind q s)
look_exact o h cs kind q n = exact _ _ _ (look_true o h cs kind q) n

-- "the relative sign, the product of both signs, +1 or -1"; and what a read gives of a rotation
pub signs_kept : (o : Opening) → open_answer o ≡ 0 → (cs : List Lent) → let s : State = calls cs (opened o) in
    (i : ℕ) → i < length s.events → Signed (event_at s.events i).body
signs_kept o h cs i there = ((reached o h cs).each i there).signed

pub look_signed : (o : Opening) → open_answer o ≡ 0 → (cs : List Lent) → let s : State = calls cs (opened o) in
    (kind : Kind) (q id steps : ℕ) (g : ℤ) → q < s.given.n → look kind q s ≡ found id g steps → IsSign g
look_signed o h cs = look_sign (calls cs (opened o)) (reached o h cs)

-- "A look records nothing and changes no later answer or count." Nor does a read.
pub look_changes_nothing : (kind : Kind) (q w : ℕ) (s : State) → call (call_look kind q) w s ≡ s
unfolding call effect
look_changes_nothing kind q w s = either_way (eqb (answer_to (call_look kind q) w s) 0) s

pub read_changes_nothing : (id w : ℕ) (s : State) → call (call_read id) w s ≡ s
unfolding call effect
read_changes_nothing id w s = either_way (eqb (answer_to (call_read id) w s) 0) s

-- "no rotation recorded so far can be found"
pub clear_hides : (w : ℕ) (s : State) (p : Pauli) (id : ℕ) → answer_to call_clear w s ≡ 0 → Match (call call_clear w s) p id → ⊥
clear_hides = Cleared-none

-- "Numbers count from 0 in order of recording and are never used again": every event was recorded by one accepted call, its number is how many
-- there were before it,
pub events-Recorded : (o : Opening) (cs : List Lent) (i : ℕ) → i < length (calls cs (opened o)).events → Recorded cs (opened o) i
events-Recorded = all_Recorded_since

-- there are at most E of them,
pub events_fit : (o : Opening) → open_answer o ≡ 0 → (cs : List Lent) → length (calls cs (opened o)).events ≤ (calls cs (opened o)).given.capacity
events_fit o h cs = (reached o h cs).room

-- and each stays where it is, as it is, until it dies
pub events_stay : (c : Call) (w : ℕ) (s : State) (i : ℕ) → is_opening c ≡ false → i < length s.events
    → (i < length (call c w s).events) × SameEvent (event_at (call c w s).events i) (event_at s.events i)
events_stay = stays

-- ---- 7. demand 3: "with at most 12,000 live events and 1,048,576 steps no search runs out"

pub enough_steps : (o : Opening) → open_answer o ≡ 0 → (cs : List Lent) → let s : State = calls cs (opened o) in
    living s ≤ 12000 → s.given.allowance ≡ 1048576 → (kind : Kind) (q : ℕ) → NotOut (look kind q s)
enough_steps o h cs = never_out (calls cs (opened o)) (reached o h cs)

-- ---- 8. "Two openings that differ only in labels or form, followed by the same calls, give equal looks, steps aside, unless one runs out."

-- and all other answers are equal; the allowances may differ too
pub two_openings : (o p : Opening) → o.n ≡ p.n → o.capacity ≡ p.capacity → o.size ≡ p.size → open_answer o ≡ 0 → open_answer p ≡ 0
    → (cs : List Lent) → SameReplies (replies cs (opened o)) (replies cs (opened p))
two_openings = twin_openings

-- ---- 9. the store

pub need_within : (o : Opening) → open_answer o ≡ 0 → need o.n o.capacity o.form ≤ roof o.n o.capacity
need_within o h = need-roof o.n o.capacity o.form (opens o h).narrow

-- ---- and what the definitions' own comments claim

-- "n is 1 to 23,168 (4nl must not pass 2^25)"
pub qubit_limit : (n : ℕ) → n ≤ 23168 ↔ 4 * n * words n ≤ 33554432
qubit_limit = frame_limit

-- the signature follows the Rust's support_signature
pub signature_by_qubits : (l x z b : ℕ) → 0 < l → (touches l x z b ≡ true) ↔ ((q : ℕ) × (q / l ≡ b) × (has (bit_or x z) q ≡ 1))
signature_by_qubits = signature_bit

-- a kill changes only the lists of its event's support
pub kill_local : (o : Opening) → open_answer o ≡ 0 → (cs : List Lent) → let s : State = calls cs (opened o) in
    (id b : ℕ) → id < length s.events → b < length s.lists → list_at (kill id s) b
    ≡ cond (touches (plane s) (event_at s.events id).x (event_at s.events id).z b) (tidy s.given.form (kill id s).events (list_at s b)) (list_at s b)
kill_local o h cs id b i j = kill_list id (calls cs (opened o)) i (reached o h cs).lists_ok b j

pub count_is_ones : (s : ℕ) → count s ≡ ones s
count_is_ones = count_ones

-- "events recorded less events killed" are the live events
pub tally-living : (s : State) → (tally s).live ≡ living s
tally-living = tally-live
