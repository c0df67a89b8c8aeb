-- Laws of the words of a store: its parts at the sizes that a call was told, a part that came back changed, and two changes in a row. Assumes nothing.
use mathlib.Core.Path.{◌≡◌, sym, ap, ◌∙◌, subst}
use mathlib.Core.Logic.{inl, inr}
use mathlib.Core.Bool.{Bool, true, false, cond}
use mathlib.Core.List.{List, [], ◌∷◌, ◌++◌}
use Prim.Native.Nat.{ℕ, zero, suc, ◌+◌, ◌-◌, ◌*◌, ◌/◌, ◌≤◌, ◌<◌}
use native.Mathlib.Nat.{mul-le-mul_right}
use native.Mathlib.Omega.{arith}
use native.Mathlib.Decide.{dec_lt}
use lib.ListN.{length, get_or, length-append}
use Rattle.model.specs.Pauli.{Pauli}
use Rattle.model.specs.Frame.{Rows}
use Rattle.model.specs.Sketch.{Label}
use Rattle.model.specs.Events.{Event, Form, scalar, sliced, Opening, State, words, plane, touches, push, record1, kill, clear}
use Rattle.model.specs.Search.{list_at}
use Rattle.model.specs.Calls.{reframed}
use Rattle.model.proofs.Lists.{at_old, length_new}
use Rattle.lists.specs.Lists.{Among, Only}
use Rattle.frame.specs.Places as frames
use Rattle.history.specs.Words.{history_room, Holds, Uses, OfEvent, OfList, ListsIn, Becomes, dead_in}
use Rattle.store.specs.Stores.{part, frame_size, history_place, Header, Stored, Relies, StoredTo}
use Rattle.store.proofs.Splice.{splice, part_at, splice-length, splice_in, splice_out, splice-part, splice_other}

-- ---- the parts, at sizes that are known by equations

pub frames_at : (n l : ℕ) (m : State) (s : List ℕ) → m.given.n ≡ n → plane m ≡ l → Stored m s → frames.Held n l m.frame m.sketch (part 14 (frame_size n l) s)
frames_at n l m s en el h =
    subst (λ (k : ℕ). frames.Held k l m.frame m.sketch (part 14 (frame_size k l) s)) en
    (subst (λ (k : ℕ). frames.Held m.given.n k m.frame m.sketch (part 14 (frame_size m.given.n k) s)) el h.frames)

-- the history's part, at any sizes
abbrev pub history_part : Form → (n cap l : ℕ) → List ℕ → List ℕ
history_part f n cap l s = part (history_place n l) (history_room f n cap l) s

-- what is said of a state's own sizes, said of equal ones
pub sizes_as : (m : State) (P : Form → (n cap l : ℕ) → Type 0) (f : Form) (n cap l : ℕ) → m.given.form ≡ f → m.given.n ≡ n → m.given.capacity ≡ cap → plane m ≡ l
    → P m.given.form m.given.n m.given.capacity (plane m) → P f n cap l
sizes_as m P f n cap l ef en ec el p =
    subst (λ (a : Form). P a n cap l) ef
    (subst (λ (k : ℕ). P m.given.form k cap l) en
    (subst (λ (k : ℕ). P m.given.form m.given.n k l) ec (subst (λ (k : ℕ). P m.given.form m.given.n m.given.capacity k) el p)))

pub history_at : (f : Form) (n cap l : ℕ) (m : State) (s : List ℕ) → m.given.form ≡ f → m.given.n ≡ n → m.given.capacity ≡ cap → plane m ≡ l → Stored m s
    → Holds f n cap l m (history_part f n cap l s)
history_at f n cap l m s ef en ec el h = sizes_as m (λ a i j k. Holds a i j k m (history_part a i j k s)) f n cap l ef en ec el h.history

-- ---- the frames came back changed

lists_reframed : (f : Form) (n cap l : ℕ) (r : Rows Pauli) (k : Rows Label) (m : State) (h : List ℕ) → ListsIn f m n cap l h → ListsIn f (reframed r k m) n cap l h
unfolding reframed list_at dead_in
lists_reframed scalar n cap l r k m h q = q
lists_reframed sliced n cap l r k m h q = q

Holds-reframed : (f : Form) (n cap l : ℕ) (r : Rows Pauli) (k : Rows Label) (m : State) (h : List ℕ) → Holds f n cap l m h → Holds f n cap l (reframed r k m) h
unfolding reframed
Holds-reframed f n cap l r k m h q = record {
  given = record { form = q.given.form; qubits = q.given.qubits; capacity = q.given.capacity; planes = q.given.planes };
  long = q.long;
  count = q.count;
  room = q.room;
  cleared = q.cleared;
  chains = q.chains;
  bodies = q.bodies;
  signed = q.signed;
  axed = q.axed;
  alive = q.alive;
  many = q.many;
  lists = lists_reframed f n cap l r k m h q.lists;
}

-- header words are as they were, where a part behind the header came back
pub Header-kept : (o : Opening) (a k : ℕ) (s ys : List ℕ) → 5 ≤ a → a + k ≤ length s → length ys ≡ k → Header o s → Header o (splice a k s ys)
Header-kept o a k s ys behind fits long h = record {
  size = splice_out a k s fits ys long 0 (inl (omega arith)) ∙ h.size;
  qubits = splice_out a k s fits ys long 1 (inl (omega arith)) ∙ h.qubits;
  form = splice_out a k s fits ys long 2 (inl (omega arith)) ∙ h.form;
  capacity = splice_out a k s fits ys long 3 (inl (omega arith)) ∙ h.capacity;
  allowance = splice_out a k s fits ys long 4 (inl (omega arith)) ∙ h.allowance;
}

module _ (m : State) (s ys : List ℕ) (k : ℕ) (r : Rows Pauli) (b : Rows Label) (size : k ≡ frame_size m.given.n (plane m)) where
  -- where the frames' part came back as r and b, the state has these frames
  pub frames_to : Stored m s → history_place m.given.n (plane m) + history_room m.given.form m.given.n m.given.capacity (plane m) ≤ length s
      → frames.Held m.given.n (plane m) r b ys → StoredTo (reframed r b m) s (splice 14 k s ys)
  unfolding reframed
  frames_to h fits q = record {
    stored = record {
      opens = h.opens;
      long = omega (arith, h.long, splice-length 14 k s there ys long);
      header = Header-kept m.given 14 k s ys (omega arith) there long h.header;
      frames = subst (λ (t : List ℕ). frames.Held m.given.n (plane m) r b t) (sym here) q;
      history = subst (λ (t : List ℕ). Holds m.given.form m.given.n m.given.capacity (plane m) (reframed r b m) t) (sym behind)
          (Holds-reframed m.given.form m.given.n m.given.capacity (plane m) r b m _ h.history);
    };
    only = record {
      same_length = splice-length 14 k s there ys long;
      kept = λ i no_use. go i no_use (dec_lt i 14) (dec_lt i (14 + k));
    };
  }
    where
      there : 14 + k ≤ length s
      there = omega (arith, fits, size)

      long : length ys ≡ k
      long = q.rows.long ∙ sym size

      here : part 14 (frame_size m.given.n (plane m)) (splice 14 k s ys) ≡ ys
      here = ap (λ (j : ℕ). part 14 j (splice 14 k s ys)) (sym size) ∙ splice-part 14 k s there ys long

      behind : history_part m.given.form m.given.n m.given.capacity (plane m) (splice 14 k s ys) ≡ history_part m.given.form m.given.n m.given.capacity (plane m) s
      behind = splice_other 14 k s there ys long _ _ fits (inr (omega (arith, size)))

      go : (i : ℕ) → (Relies (reframed r b m) i → ⊥) → Dec (i < 14) → Dec (i < 14 + k) → get_or (splice 14 k s ys) i 0 ≡ get_or s i 0
      go i u (yes a) e = splice_out 14 k s there ys long i (inl a)
      go i u (no a) (yes e) = absurd (u (inr (inl (omega arith, omega (arith, size)))))
      go i u (no a) (no e) = splice_out 14 k s there ys long i (inr (omega arith))

-- ---- the history came back changed

-- where of a part only the words of P changed, of the whole only these did
pub splice-Only : (P : ℕ → Type 0) (a k : ℕ) (s ys : List ℕ) → a + k ≤ length s → length ys ≡ k → Only P (part a k s) ys
    → (i : ℕ) → (Among a k i → P (i - a) → ⊥) → get_or (splice a k s ys) i 0 ≡ get_or s i 0
splice-Only P a k s ys there long q i u = go (dec_lt i a) (dec_lt i (a + k))
  where
    go : Dec (i < a) → Dec (i < a + k) → get_or (splice a k s ys) i 0 ≡ get_or s i 0
    go (yes b) e = splice_out a k s there ys long i (inl b)
    go (no b) (no e) = splice_out a k s there ys long i (inr (omega arith))
    go (no b) (yes e) =
        let j : ℕ = i - a in
        let w : i ≡ a + j = omega arith in
        let c : j < k = omega arith in
        ap (λ (x : ℕ). get_or (splice a k s ys) x 0) w ∙ splice_in a k s there ys long j c ∙ q.kept j (u (omega arith, e))
        ∙ part_at a k s there j c ∙ sym (ap (λ (x : ℕ). get_or s x 0) w)

-- m with other events, lists and clear: what a call on the history makes of it
unfoldable pub remade : State → List Event → List (List ℕ) → (cleared : ℕ) → State
remade m es ls c = record {
  given = m.given;
  frame = m.frame;
  sketch = m.sketch;
  events = es;
  lists = ls;
  cleared = c;
}

module _ (m : State) (s ys : List ℕ) (k : ℕ) (size : k ≡ history_room m.given.form m.given.n m.given.capacity (plane m)) where
  abbrev Room : ℕ
  Room = history_room m.given.form m.given.n m.given.capacity (plane m)

  abbrev Place : ℕ
  Place = history_place m.given.n (plane m)

  remade_to : (es : List Event) (ls : List (List ℕ)) (c : ℕ) → Stored m s → Place + Room ≤ length s
      → Becomes m.given.form m.given.n m.given.capacity (plane m) (remade m es ls c) (part Place Room s) ys
      → StoredTo (remade m es ls c) s (splice Place k s ys)
  unfolding remade
  remade_to es ls c h fits q = record {
    stored = record {
      opens = h.opens;
      long = omega (arith, h.long, splice-length Place k s there ys long);
      header = Header-kept m.given Place k s ys (omega arith) there long h.header;
      frames = subst (λ (t : List ℕ). frames.Held m.given.n (plane m) m.frame m.sketch t) (sym before) h.frames;
      history = subst (λ (t : List ℕ). Holds m.given.form m.given.n m.given.capacity (plane m) (remade m es ls c) t) (sym here) q.holds;
    };
    only = record {
      same_length = splice-length Place k s there ys long;
      kept = λ i u.
          splice-Only (Uses m.given.form m.given.n m.given.capacity (plane m) (remade m es ls c)) Place k s ys there long
          (subst (λ (j : ℕ). Only (Uses m.given.form m.given.n m.given.capacity (plane m) (remade m es ls c)) (part Place j s) ys) (sym size) q.only)
          i (λ b w. u (inr (inr ((b.0, omega (arith, b.1, size)), w))));
    };
  }
    where
      there : Place + k ≤ length s
      there = omega (arith, fits, size)

      long : length ys ≡ k
      long = q.holds.long ∙ sym size

      here : part Place Room (splice Place k s ys) ≡ ys
      here = ap (λ (j : ℕ). part Place j (splice Place k s ys)) (sym size) ∙ splice-part Place k s there ys long

      before : part 14 (frame_size m.given.n (plane m)) (splice Place k s ys) ≡ part 14 (frame_size m.given.n (plane m)) s
      before = splice_other Place k s there ys long 14 (frame_size m.given.n (plane m)) (omega (arith, fits)) (inl (omega arith))

-- a call on the history's part, at sizes that are known by equations: a record, a kill and a clear
module _ (f : Form) (n cap l : ℕ) (m : State) (s ys : List ℕ) (k : ℕ) (ef : m.given.form ≡ f) (en : m.given.n ≡ n) (ec : m.given.capacity ≡ cap) (el : plane m ≡ l) where
  abbrev Lands : State → Form → (n cap l : ℕ) → Type 0
  Lands m' f n cap l =
      k ≡ history_room f n cap l → history_place n l + history_room f n cap l ≤ length s → Becomes f n cap l m' (history_part f n cap l s) ys → StoredTo m' s (splice (history_place n l) k s ys)

  pub recorded_to : (e : Event) → Stored m s → Lands (record1 e m) f n cap l
  unfolding record1 remade
  recorded_to e h = sizes_as m (Lands (record1 e m)) f n cap l ef en ec el (λ size fits q. remade_to m s ys k size _ _ _ h fits q)

  pub killed_to : (id : ℕ) → Stored m s → Lands (kill id m) f n cap l
  unfolding kill remade
  killed_to id h = sizes_as m (Lands (kill id m)) f n cap l ef en ec el (λ size fits q. remade_to m s ys k size _ _ _ h fits q)

  pub cleared_to : Stored m s → Lands (clear m) f n cap l
  unfolding clear remade
  cleared_to h = sizes_as m (Lands (clear m)) f n cap l ef en ec el (λ size fits q. remade_to m s ys k size _ _ _ h fits q)

-- the frames' part, at sizes that are known by equations
pub reframed_to : (n l : ℕ) (m : State) (s ys : List ℕ) (k : ℕ) (r : Rows Pauli) (b : Rows Label) → m.given.n ≡ n → plane m ≡ l → k ≡ frame_size n l → Stored m s
    → history_place m.given.n (plane m) + history_room m.given.form m.given.n m.given.capacity (plane m) ≤ length s
    → frames.Held n l r b ys → StoredTo (reframed r b m) s (splice 14 k s ys)
reframed_to n l m s ys k r b en el size h fits q =
    frames_to m s ys k r b (size ∙ sym (ap (λ (i : ℕ). frame_size i l) en) ∙ sym (ap (λ (i : ℕ). frame_size m.given.n i) el)) h fits
    (subst (λ (i : ℕ). frames.Held i (plane m) r b ys) (sym en) (subst (λ (i : ℕ). frames.Held n i r b ys) (sym el) q))

-- ---- two records in a row

grows : (l id : ℕ) (e : Event) (c : ℕ) (ls : List (List ℕ)) (b : ℕ) → length (get_or ls b []) ≤ length (get_or (push l id e c ls) b [])
unfolding push
grows l id e c [] b = omega arith
grows l id e c (s ∷ ss) zero = go (touches l e.x e.z c)
  where
    go : (t : Bool) → length s ≤ length (cond t (s ++ (id ∷ [])) s)
    go true = omega (arith, length-append s (id ∷ []))
    go false = omega arith
grows l id e c (s ∷ ss) (suc b) = grows l id e (suc c) ss b

more : (f : Form) (n cap l b len long k : ℕ) → len ≤ long → OfList f n cap l b len k → OfList f n cap l b long k
unfolding words
more scalar n cap l b len long k h (inl a) = inl a
more scalar n cap l b len long k h (inr a) = inr (a.0, omega (arith, a.1))
more sliced n cap l b len long k h (inl a) = inl a
more sliced n cap l b len long k h (inr (inl a)) = inr (inl (a.0, omega (arith, a.1)))
more sliced n cap l b len long k h (inr (inr (inl a))) =
    let w : (len + 63) / 64 ≤ (long + 63) / 64 = omega arith in
    inr (inr (inl (a.0, omega (arith, a.1, mul-le-mul_right (2 * n) w))))
more sliced n cap l b len long k h (inr (inr (inr a))) = inr (inr (inr (a.0, omega (arith, a.1))))

Uses-record1 : (f : Form) (n cap l : ℕ) (e : Event) (m : State) (k : ℕ) → Uses f n cap l m k → Uses f n cap l (record1 e m) k
unfolding record1 list_at words
Uses-record1 f n cap l e m k (inl a) = inl a
Uses-record1 f n cap l e m k (inr (inl (i, there, a))) =
    inr (inl (i, omega (arith, there, length_new m.events e), subst (λ (v : Event). OfEvent v cap l i k) (sym (at_old m.events e i there)) a))
Uses-record1 f n cap l e m k (inr (inr (inl a))) = inr (inr (inl (a.0, omega (arith, a.1, length_new m.events e))))
Uses-record1 f n cap l e m k (inr (inr (inr (b, there, a)))) =
    inr (inr (inr (b, there, more f n cap l b _ _ k (grows (plane m) (length m.events) e 0 m.lists b) a)))

pub Relies-record1 : (e : Event) (m : State) (k : ℕ) → Relies m k → Relies (record1 e m) k
unfolding record1
Relies-record1 e m k (inl a) = inl a
Relies-record1 e m k (inr (inl a)) = inr (inl a)
Relies-record1 e m k (inr (inr a)) = inr (inr (a.0, Uses-record1 m.given.form m.given.n m.given.capacity (plane m) e m (k - history_place m.given.n (plane m)) a.1))

-- a change and then a record
pub stored_then : (e : Event) (m : State) (s t u : List ℕ) → StoredTo m s t → StoredTo (record1 e m) t u → StoredTo (record1 e m) s u
stored_then e m s t u a b = record {
  stored = b.stored;
  only = record {
    same_length = b.only.same_length ∙ a.only.same_length;
    kept = λ k free. b.only.kept k free ∙ a.only.kept k (λ w. free (Relies-record1 e m k w));
  };
}
