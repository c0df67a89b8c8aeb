-- The lists of a form: the words that its sizes give them, and what a record and a kill do to the lists of a state, as `lists` does it to words.
-- Assumes nothing.
use mathlib.Core.Path.{◌≡◌, refl, sym, ap, ap₂, ◌∙◌, subst}
use mathlib.Core.Logic.{◌≢◌, inl, inr, ⊎_elim}
use mathlib.Core.Bool.{Bool, true, false, cond, not}
use mathlib.Core.List.{List, [], ◌∷◌, ◌++◌, map, append-nil}
use Prim.Native.Nat.{ℕ, zero, suc, ◌+◌, ◌-◌, ◌*◌, ◌/◌, ◌^◌, ◌≤◌, ◌<◌, suc-le-suc}
use native.Mathlib.Nat.{not-suc-le-zero, le_of_suc-le-suc, zero-lt-suc, zero-add, lt_irrefl, div-lt_iff_lt-mul}
use native.Mathlib.Omega.{arith}
use native.Mathlib.Decide.{ℕ_discrete}
use lib.ListN.{length, get_or, set, length-set, length-map}
use lib.Seq.{get_or-set_same, get_or-set_other, ext_get_or}
use lib.Bits.{bit_or, or_lt, or_add_and, and_le_l, and_le_r}
use lib.Pow.{pow_pos, pow_mono}
use lib.Dec.{eqb, ltb}
use borrow.Author.Tests.{eq-eqb, ne_eqb, eqb-true, eqb-false}
use Rattle.std.proofs.Common.{Result, IsOk}
use Rattle.model.specs.Events as model
use Rattle.pauli.specs.declared.corrupt.Corrupt.{Corrupt}
use Rattle.model.specs.Pauli.{has}
use Rattle.model.specs.Events.{Event, State, words, plane, keep, touches, event_at, live_at, record1, kill, killed, dead, factor, tidy}
use Rattle.model.specs.Search.{list_at}
use Rattle.model.specs.Store.{list_count}
use Rattle.model.specs.Demands.{Mem, Rising, occurs, Share, Listed}
use Rattle.model.proofs.Digits.{has-lt, on_two_lem}
use Rattle.model.proofs.Members.{Mem-keep, keep-Mem, keep_same, keep_none, keep_append, keep_yes, keep_no, length-keep}
use Rattle.model.proofs.Lists.{ListsOk, at_old, at_new, gone, gone_at, gone_other, gone_x, gone_z, kill_list, push_at, dead_old}
use Rattle.pauli.specs.Rows.{value_at, of_row, signature}
use Rattle.pauli.proofs.Digits.{three, has_ext}
use Rattle.lists.specs.Lists.{Known, Rises, is_live, left, still, drops_at}
use Rattle.lists.specs.Scalars.{UsedScalar, Scalar, pushed, noted}
use Rattle.sliced.specs.Blocks as blocks
use Rattle.sliced.specs.Blocks.{Entry, no_entry, entry, fresh, entry_of, sliced_room, Sliced, UsedSliced, Source, RisingIds, kept, killed_at}
use Rattle.lists.specs.Scans.{Axed}
use Rattle.support.specs.Families.{chosen, ScalarRooms, Scalars, ScalarsTo, SlicedRooms, Sliceds, SlicedsTo}
use Rattle.lists.proofs.ScanLaws.{signature-lt, signature_digit}
use Rattle.support.proofs.PhaseLaws.{qubit_digit}
use Rattle.history.specs.declared.forms.Form.{Form}
use Rattle.history.specs.declared.forms.Form.TheVariants as forms
use Rattle.history.specs.Words.{alive_place, axis_place, count_place, list_place, list_size, history_room, Alive, dead_in}
use Rattle.history.specs.Sizes.{form_of, Sized, ListsHeld, ListsTo, Newcomer, Leaving}
use Rattle.history.proofs.AxisWords.{x_value, z_value}

-- ---- sizes

-- the counts stand in the words
pub counts_fit : (f : Form) (n cap l : ℕ) (h : List ℕ) → Sized (form_of f) n cap l h → 2 + 6 * cap + cap * (2 * l) + (cap + 63) / 64 ≤ length h
unfolding words history_room
counts_fit f n cap l h s = omega (arith, s.long)

pub as_Scalar : (f : Form) (n cap l : ℕ) (h : List ℕ) → f ≡ forms.Scalar → Sized (form_of f) n cap l h → Sized model.scalar n cap l h
unfolding form_of
as_Scalar f n cap l h e s = subst (λ (g : Form). Sized (form_of g) n cap l h) e s

pub as_Sliced : (f : Form) (n cap l : ℕ) (h : List ℕ) → f ≡ forms.Sliced → Sized (form_of f) n cap l h → Sized model.sliced n cap l h
unfolding form_of
as_Sliced f n cap l h e s = subst (λ (g : Form). Sized (form_of g) n cap l h) e s

-- what holds of a form
pub at_Scalar : (P : model.Form → Type 0) (f : Form) → f ≡ forms.Scalar → P model.scalar → P (form_of f)
unfolding form_of
at_Scalar P f e p = subst (λ (g : Form). P (form_of g)) (sym e) p

pub at_Sliced : (P : model.Form → Type 0) (f : Form) → f ≡ forms.Sliced → P model.sliced → P (form_of f)
unfolding form_of
at_Sliced P f e p = subst (λ (g : Form). P (form_of g)) (sym e) p

pub scalar_long : (n cap l : ℕ) (h : List ℕ) → Sized model.scalar n cap l h → length h ≡ 2 + 6 * cap + cap * (2 * l) + (cap + 63) / 64 + 2 * 64 + 64 * cap
unfolding words history_room list_count list_size
scalar_long n cap l h s = s.long

pub scalar_rooms : (n cap l : ℕ) (h : List ℕ) → Sized model.scalar n cap l h → ScalarRooms h (count_place cap l) (list_place model.scalar n cap l) cap
unfolding words list_count
scalar_rooms n cap l h s = record { counts = omega arith; fits = omega (arith, scalar_long n cap l h s) }

pub sliced_long : (n cap l : ℕ) (h : List ℕ) → Sized model.sliced n cap l h → length h ≡ 2 + 6 * cap + cap * (2 * l) + (cap + 63) / 64 + 2 * n + n * sliced_room cap n
unfolding words history_room list_count list_size
sliced_long n cap l h s = s.long

pub sliced_rooms : (n cap l : ℕ) (h : List ℕ) → Sized model.sliced n cap l h → SlicedRooms h (count_place cap l) (list_place model.sliced n cap l) cap n
unfolding words list_count
sliced_rooms n cap l h s = record { few = s.narrow.0; counts = omega arith; fits = omega (arith, sliced_long n cap l h s) }

-- ---- words of few digits

pub shr_none : (n v : ℕ) → v / 2 ^ n ≡ 0 → v < 2 ^ n
shr_none n v e = let p = div-lt_iff_lt-mul {k = 2 ^ n} {x = v} {y = 1} (pow_pos n) in let q : v < 1 * 2 ^ n = p.0 (omega arith) in omega arith

pub none_shr : (n v : ℕ) → v < 2 ^ n → v / 2 ^ n ≡ 0
none_shr n v l = let p = div-lt_iff_lt-mul {k = 2 ^ n} {x = v} {y = 1} (pow_pos n) in let q : v / 2 ^ n < 1 = p.1 (omega arith) in omega arith

pub or_left : (n x z : ℕ) → bit_or x z / 2 ^ n ≡ 0 → x < 2 ^ n
or_left n x z e = omega (arith, shr_none n (bit_or x z) e, or_add_and x z, and_le_r x z)

pub or_right : (n x z : ℕ) → bit_or x z / 2 ^ n ≡ 0 → z < 2 ^ n
or_right n x z e = omega (arith, shr_none n (bit_or x z) e, or_add_and x z, and_le_l x z)

-- an axis of one word each
one_word : (s : List ℕ) (a : ℕ) → value_at s a 1 ≡ get_or s a 0
unfolding value_at
one_word s a = line (get_or s a 0)
  where
    line : (v : ℕ) → 0 * 2 ^ 64 + v ≡ v
    line v = omega arith

pub x_word : (axis : List ℕ) (l : ℕ) → length axis ≡ 2 * l → l ≡ 1 → (of_row 0 axis).x ≡ get_or axis 0 0
x_word axis l long e = x_value axis l long ∙ ap (value_at axis 0) e ∙ one_word axis 0

pub z_word : (axis : List ℕ) (l : ℕ) → length axis ≡ 2 * l → l ≡ 1 → (of_row 0 axis).z ≡ get_or axis 1 0
z_word axis l long e = z_value axis l long ∙ ap (λ (k : ℕ). value_at axis k k) e ∙ one_word axis 1

pub two_words : (cap l : ℕ) → l ≡ 1 → cap * (2 * l) ≡ 2 * cap
two_words cap l e = ap (λ (k : ℕ). cap * (2 * k)) e ∙ line
  where
    line : cap * (2 * 1) ≡ 2 * cap
    line = omega arith

-- the digits of a word say which lists an axis touches
abbrev pub Digits : (L sig l x z : ℕ) → Type 0
Digits L sig l x z = (b : ℕ) → b < L → eqb (has sig b) 1 ≡ touches l x z b

digit_test : (t : Bool) (v : ℕ) → v ≡ cond t 1 0 → eqb v 1 ≡ t
digit_test true v e = eq-eqb v 1 e
digit_test false v e = ne_eqb v 1 (λ o. omega arith)

pub signature-Digits : (sig l x z : ℕ) → sig ≡ signature l x z → Digits 64 sig l x z
signature-Digits sig l x z e b g = digit_test (touches l x z b) (has sig b) (ap (λ (v : ℕ). has v b) e ∙ signature_digit l x z b g)

-- ---- the words of the lists

-- `lists` made the lists those of m
pub scalars_to : (n cap l sig : ℕ) (h g : List ℕ) (ls : ℕ → List ℕ) (d : ℕ → ℕ) (m : State) → ((b : ℕ) → b < 64 → ls b ≡ list_at m b) → ((b : ℕ) → b < 64 → d b ≡ dead_in m b)
    → ScalarsTo h (count_place cap l) (list_place model.scalar n cap l) cap sig ls d g → ListsTo model.scalar n cap l m h g
unfolding list_count
scalars_to n cap l sig h g ls d m same fewer to = record {
  lists = λ b k.
      subst (λ (a : ℕ). Scalar g (count_place cap l + 2 * b) (list_place model.scalar n cap l + b * cap) cap (list_at m b) a) (fewer b k)
      (subst (λ (s : List ℕ). Scalar g (count_place cap l + 2 * b) (list_place model.scalar n cap l + b * cap) cap s (d b)) (same b k) (to.holds b k));
  only = record {
    same_length = to.only.same_length;
    kept = λ k off. to.only.kept k (λ u. off (u.0, u.1, subst (λ (s : List ℕ). UsedScalar (count_place cap l + 2 * u.0) (list_place model.scalar n cap l + u.0 * cap) (length s) k) (same u.0 u.1) u.3));
  };
}

pub sliceds_to : (n cap l sig : ℕ) (h g : List ℕ) (ms : ℕ → List Entry) (d : ℕ → ℕ) (m : State) → ((b : ℕ) → b < n → ms b ≡ map (entry_of m.events) (list_at m b)) → ((b : ℕ) → b < n → d b ≡ dead_in m b)
    → SlicedsTo h (count_place cap l) (list_place model.sliced n cap l) cap n sig ms d g → ListsTo model.sliced n cap l m h g
unfolding list_count
sliceds_to n cap l sig h g ms d m same fewer to = record {
  lists = λ b k.
      subst (λ (a : ℕ). Sliced g (count_place cap l + 2 * b) (list_place model.sliced n cap l + b * sliced_room cap n) cap n (map (entry_of m.events) (list_at m b)) a) (fewer b k)
      (subst (λ (s : List Entry). Sliced g (count_place cap l + 2 * b) (list_place model.sliced n cap l + b * sliced_room cap n) cap n s (d b)) (same b k) (to.holds b k));
  only = record {
    same_length = to.only.same_length;
    kept = λ k off. to.only.kept k (λ u. off (
      u.0,
      u.1,
      subst (λ (a : ℕ). UsedSliced (count_place cap l + 2 * u.0) (list_place model.sliced n cap l + u.0 * sliced_room cap n) cap n a k)
          (ap length (same u.0 u.1) ∙ length-map (list_at m u.0) (entry_of m.events)) u.3,
    ));
  };
}

-- ---- entries

map_same : (f g : ℕ → Entry) (s : List ℕ) → ((i : ℕ) → Mem i s → f i ≡ g i) → map f s ≡ map g s
map_same f g [] h = refl
map_same f g (a ∷ s) h = ap₂ {C = List Entry} (λ u v. u ∷ v) (h a (inl refl)) (map_same f g s (λ i m. h i (inr m)))

map_snoc : (f : ℕ → Entry) (s : List ℕ) (a : ℕ) → map f (s ++ (a ∷ [])) ≡ map f s ++ (f a ∷ [])
map_snoc f [] a = refl
map_snoc f (b ∷ s) a = ap {B = List Entry} (λ w. f b ∷ w) (map_snoc f s a)

map_at : (f : ℕ → Entry) (s : List ℕ) (i : ℕ) → i < length s → entry (map f s) i ≡ f (get_or s i 0)
map_at f [] i h = absurd (not-suc-le-zero h)
map_at f (a ∷ s) zero h = refl
map_at f (a ∷ s) (suc i) h = map_at f s i (le_of_suc-le-suc h)

-- the entry of an event that is e
entry_as : (es : List Event) (i : ℕ) (e : Event) → event_at es i ≡ e → entry_of es i ≡ record { id = i; x = e.x; z = e.z; live = cond e.live 1 0 }
unfolding entry_of live_at
entry_as es i e q = ap {B = Entry} (λ (e : Event). record { id = i; x = e.x; z = e.z; live = cond e.live 1 0 }) q

-- ---- a list of rising numbers

Rising-few : (s : List ℕ) (lo k : ℕ) → Rising s → ((i : ℕ) → Mem i s → (lo ≤ i) × (i < k)) → length s ≤ k - lo
Rising-few [] lo k r h = omega arith
Rising-few (a ∷ s) lo k r h = let e = h a (inl refl) in omega (arith, Rising-few s (suc a) k r.1 (λ i m. (r.0 i m, (h i (inr m)).1)))

-- a list is no longer than there are events
pub list_short : (m : State) → Listed m → (b : ℕ) → length (list_at m b) ≤ length m.events
list_short m k b = omega (arith, Rising-few (list_at m b) 0 (length m.events) (k.rising b) (λ i g. (omega arith, k.events_only b i g)))

-- ---- a record

module _ (m : State) (e : Event) where
  record_list : (b : ℕ) → b < length m.lists
      → list_at (record1 e m) b ≡ cond (touches (plane m) e.x e.z b) (list_at m b ++ (length m.events ∷ [])) (list_at m b)
  unfolding record1 list_at
  record_list b h =
      push_at (plane m) (length m.events) e 0 m.lists b h
      ∙ ap (λ (w : ℕ). cond (touches (plane m) e.x e.z w) (get_or m.lists b [] ++ (length m.events ∷ [])) (get_or m.lists b [])) (zero-add b)

  record_events : (record1 e m).events ≡ m.events ++ (e ∷ [])
  unfolding record1
  record_events = refl

  module _ (live : e.live ≡ true) (k : Listed m) (b : ℕ) (h : b < length m.lists) where
    old_dead : dead (m.events ++ (e ∷ [])) (list_at m b) ≡ dead m.events (list_at m b)
    old_dead = dead_old m.events e (list_at m b) (k.events_only b)

    new_dead : dead (m.events ++ (e ∷ [])) (list_at m b ++ (length m.events ∷ [])) ≡ dead m.events (list_at m b)
    unfolding dead live_at
    new_dead =
        ap length (keep_append _ (list_at m b) (length m.events ∷ []))
        ∙ ap (λ (w : List ℕ). length (keep (λ i. not (event_at (m.events ++ (e ∷ [])) i).live) (list_at m b) ++ w)) (keep_none _ (length m.events ∷ []) off)
        ∙ ap length (append-nil (keep (λ i. not (event_at (m.events ++ (e ∷ [])) i).live) (list_at m b))) ∙ (unfold dead live_at in old_dead)
      where
        off : (i : ℕ) → Mem i (length m.events ∷ []) → not (event_at (m.events ++ (e ∷ [])) i).live ≡ false
        off i (inl q) = ap (λ (w : ℕ). not (event_at (m.events ++ (e ∷ [])) w).live) q ∙ ap (λ (w : Event). not w.live) (at_new m.events e) ∙ ap not live
        off i (inr g) = absurd g

    -- no list has more dead
    pub record_dead : dead_in m b ≡ dead_in (record1 e m) b
    unfolding dead_in
    record_dead = sym (ap (dead (record1 e m).events) (record_list b h) ∙ ap (λ (es : List Event). dead es (cond (touches (plane m) e.x e.z b) (list_at m b ++ (length m.events ∷ [])) (list_at m b))) record_events ∙ go (touches (plane m) e.x e.z b))
      where
        go : (t : Bool) → dead (m.events ++ (e ∷ [])) (cond t (list_at m b ++ (length m.events ∷ [])) (list_at m b)) ≡ dead m.events (list_at m b)
        go true = new_dead
        go false = old_dead

    entry_old : map (entry_of m.events) (list_at m b) ≡ map (entry_of (m.events ++ (e ∷ []))) (list_at m b)
    entry_old =
        map_same (entry_of m.events) (entry_of (m.events ++ (e ∷ []))) (list_at m b)
        (λ i g. entry_as m.events i (event_at m.events i) refl ∙ sym (entry_as (m.events ++ (e ∷ [])) i (event_at m.events i) (at_old m.events e i (k.events_only b i g))))

    entry_new : fresh (length m.events) e.x e.z ≡ entry_of (m.events ++ (e ∷ [])) (length m.events)
    entry_new =
        ap {B = Entry} (λ (t : Bool). record { id = length m.events; x = e.x; z = e.z; live = cond t 1 0 }) (sym live)
        ∙ sym (entry_as (m.events ++ (e ∷ [])) (length m.events) e (at_new m.events e))

    -- the entries of list b
    record_entries : map (entry_of (record1 e m).events) (list_at (record1 e m) b)
        ≡ cond (touches (plane m) e.x e.z b) (pushed (fresh (length m.events) e.x e.z) (map (entry_of m.events) (list_at m b))) (map (entry_of m.events) (list_at m b))
    unfolding pushed
    record_entries =
        ap (λ (es : List Event). map (entry_of es) (list_at (record1 e m) b)) record_events
        ∙ ap (map (entry_of (m.events ++ (e ∷ [])))) (record_list b h)
        ∙ go (touches (plane m) e.x e.z b)
      where
        go : (t : Bool) → map (entry_of (m.events ++ (e ∷ []))) (cond t (list_at m b ++ (length m.events ∷ [])) (list_at m b))
            ≡ cond t (map (entry_of m.events) (list_at m b) ++ (fresh (length m.events) e.x e.z ∷ [])) (map (entry_of m.events) (list_at m b))
        go true =
            map_snoc (entry_of (m.events ++ (e ∷ []))) (list_at m b) (length m.events)
            ∙ ap₂ {C = List Entry} (λ u v. u ++ (v ∷ [])) (sym entry_old) (sym entry_new)
        go false = sym entry_old

-- what a record does, answering r
abbrev pub Pushes : model.Form → (n cap l : ℕ) → (h g axis : List ℕ) → (id sig : ℕ) → Result (Unit {0}) Corrupt → Type 0
Pushes f n cap l h g axis id sig r =
    (m : State) (e : Event) → ListsHeld f n cap l m h → length m.events ≡ id → id < cap → Newcomer n l axis sig e → IsOk r × ListsTo f n cap l (record1 e m) h g

-- a record in the scalar form
pub push_Scalars : (n cap l : ℕ) (h g axis : List ℕ) (id sig : ℕ) (r : Result (Unit {0}) Corrupt)
    → ((ls : ℕ → List ℕ) (d : ℕ → ℕ) → Scalars h (count_place cap l) (list_place model.scalar n cap l) cap ls d → ((b : ℕ) → b < 64 → has sig b ≡ 1 → length (ls b) < cap)
    → IsOk r × ScalarsTo h (count_place cap l) (list_place model.scalar n cap l) cap sig (chosen sig (λ b. pushed id (ls b)) ls) d g)
    → Pushes model.scalar n cap l h g axis id sig r
push_Scalars n cap l h g axis id sig r call m e held count room new =
    let to = call (list_at m) (dead_in m) held.lists (λ b k o. omega (arith, list_short m held.listed b)) in
    (to.0, scalars_to n cap l sig h g (chosen sig (λ b. pushed id (list_at m b)) (list_at m)) (dead_in m) (record1 e m) same (λ b k. record_dead m e new.live held.listed b (inside b k)) to.1)
  where
    inside : (b : ℕ) → b < 64 → b < length m.lists
    inside b k = unfold list_count in omega (arith, held.many)

    same : (b : ℕ) → b < 64 → chosen sig (λ b. pushed id (list_at m b)) (list_at m) b ≡ list_at (record1 e m) b
    same b k =
        unfold chosen pushed in
        ap (λ (t : Bool). cond t (list_at m b ++ (id ∷ [])) (list_at m b)) (signature-Digits sig l e.x e.z new.sig_is b k)
        ∙ ap₂ (λ (p i : ℕ). cond (touches p e.x e.z b) (list_at m b ++ (i ∷ [])) (list_at m b)) (sym held.given.planes) (sym count)
        ∙ sym (record_list m e b (inside b k))

-- a record in the sliced form
pub push_Sliceds : (n cap l : ℕ) (h g axis : List ℕ) (id sig : ℕ) (r : Result (Unit {0}) Corrupt) → l ≡ 1 → length axis ≡ 2 * l
    → ((ms : ℕ → List Entry) (d : ℕ → ℕ) → Sliceds h (count_place cap l) (list_place model.sliced n cap l) cap n ms d
    → ((b : ℕ) → b < n → has (bit_or (get_or axis 0 0) (get_or axis 1 0)) b ≡ 1 → length (ms b) < cap)
    → IsOk r × SlicedsTo h (count_place cap l) (list_place model.sliced n cap l) cap n (bit_or (get_or axis 0 0) (get_or axis 1 0))
    (chosen (bit_or (get_or axis 0 0) (get_or axis 1 0)) (λ b. pushed (fresh id (get_or axis 0 0) (get_or axis 1 0)) (ms b)) ms) d g)
    → Pushes model.sliced n cap l h g axis id sig r
push_Sliceds n cap l h g axis id sig r one long call m e held count room new =
    let to = call ms (dead_in m) held.lists (λ b k o. omega (arith, list_short m held.listed b, length-map (list_at m b) (entry_of m.events))) in
    (to.0, sliceds_to n cap l (bit_or (get_or axis 0 0) (get_or axis 1 0)) h g (chosen (bit_or (get_or axis 0 0) (get_or axis 1 0)) (λ b. pushed (fresh id (get_or axis 0 0) (get_or axis 1 0)) (ms b)) ms) (dead_in m) (record1 e m) same (λ b k. record_dead m e new.live held.listed b (inside b k)) to.1)
  where
    ms : ℕ → List Entry
    ms b = map (entry_of m.events) (list_at m b)

    inside : (b : ℕ) → b < n → b < length m.lists
    inside b k = unfold list_count in omega (arith, held.many)

    ax : get_or axis 0 0 ≡ e.x
    ax = sym (x_word axis l long one) ∙ new.x

    az : get_or axis 1 0 ≡ e.z
    az = sym (z_word axis l long one) ∙ new.z

    same : (b : ℕ) → b < n → chosen (bit_or (get_or axis 0 0) (get_or axis 1 0)) (λ b. pushed (fresh id (get_or axis 0 0) (get_or axis 1 0)) (ms b)) ms b ≡ map (entry_of (record1 e m).events) (list_at (record1 e m) b)
    same b k =
        unfold chosen in
        ap₂ (λ (x z : ℕ). cond (eqb (has (bit_or x z) b) 1) (pushed (fresh id x z) (ms b)) (ms b)) ax az
        ∙ ap (λ (t : Bool). cond t (pushed (fresh id e.x e.z) (ms b)) (ms b)) (sym (qubit_digit e.x e.z b))
        ∙ ap₂ (λ (p i : ℕ). cond (touches p e.x e.z b) (pushed (fresh i e.x e.z) (ms b)) (ms b)) (sym (held.given.planes ∙ one)) (sym count)
        ∙ sym (record_entries m e new.live held.listed b (inside b k))

-- an axis of n qubits is taken
pub push_taken : (n l : ℕ) (axis : List ℕ) (sig : ℕ) (e : Event) → l ≡ 1 → length axis ≡ 2 * l → (bit_or (get_or axis 0 0) (get_or axis 1 0) / 2 ^ n ≡ 0 → ⊥) → Newcomer n l axis sig e → ⊥
push_taken n l axis sig e one long big new =
    big (none_shr n (bit_or (get_or axis 0 0) (get_or axis 1 0)) (or_lt n (get_or axis 0 0) (get_or axis 1 0)
    (subst (λ (v : ℕ). v < 2 ^ n) (sym new.x ∙ x_word axis l long one) new.small_x) (subst (λ (v : ℕ). v < 2 ^ n) (sym new.z ∙ z_word axis l long one) new.small_z)))

-- ---- places in a list

pub get_or-Mem : (s : List ℕ) (i : ℕ) → i < length s → Mem (get_or s i 0) s
get_or-Mem [] i h = absurd (not-suc-le-zero h)
get_or-Mem (a ∷ s) zero h = inl refl
get_or-Mem (a ∷ s) (suc i) h = inr (get_or-Mem s i (le_of_suc-le-suc h))

pub rises : (s : List ℕ) → Rising s → Rises s
rises [] r i j l h = absurd (not-suc-le-zero h)
rises (a ∷ s) r i zero l h = absurd (not-suc-le-zero l)
rises (a ∷ s) r zero (suc j) l h = r.0 (get_or s j 0) (get_or-Mem s j (le_of_suc-le-suc h))
rises (a ∷ s) r (suc i) (suc j) l h = rises s r.1 i j (le_of_suc-le-suc l) (le_of_suc-le-suc h)

-- a number stands at one place
rises_one : (s : List ℕ) → Rising s → (i j : ℕ) → i < length s → j < length s → get_or s i 0 ≡ get_or s j 0 → i ≡ j
rises_one s r i j hi hj e =
    ⊎_elim (λ (l : j < i). absurd (below l)) (⊎_elim (λ (q : i ≡ j). q) (λ (l : i < j). absurd (above l))) (three i j)
  where
    below : j < i → ⊥
    below l = let q = rises s r j i l hi in omega arith

    above : i < j → ⊥
    above l = let q = rises s r i j l hj in omega arith

-- where a number stands
unfoldable place_of : ℕ → List ℕ → ℕ
place_of i [] = 0
place_of i (a ∷ s) = let t : ℕ = place_of i s in cond (eqb i a) 0 (suc t)

place_is : (i : ℕ) (s : List ℕ) → Mem i s → (place_of i s < length s) × (get_or s (place_of i s) 0 ≡ i)
unfolding place_of
place_is i [] m = absurd m
place_is i (a ∷ s) m = go (eqb i a) refl (λ g. place_is i s g) m
  where
    go : (t : Bool) → eqb i a ≡ t → (Mem i s → (place_of i s < length s) × (get_or s (place_of i s) 0 ≡ i)) → Mem i (a ∷ s)
        → (cond t 0 (suc (place_of i s)) < suc (length s)) × (get_or (a ∷ s) (cond t 0 (suc (place_of i s))) 0 ≡ i)
    go true e f g = (zero-lt-suc (length s), sym (eqb-true i a e))
    go false e f (inl q) = absurd (eqb-false i a e q)
    go false e f (inr g) = let w = f g in (suc-le-suc w.0, w.1)

-- ---- what `model` says of the lists

occurs-Mem : (i : ℕ) (s : List ℕ) → 0 < occurs i s → Mem i s
unfolding occurs
occurs-Mem i s h =
    let k = first (keep (eqb i) s) h in
    let w = keep-Mem (eqb i) k.0 s k.1 in
    subst (λ (j : ℕ). Mem j s) (sym (eqb-true i k.0 w.1)) w.0
  where
    first : (t : List ℕ) → 0 < length t → (a : ℕ) × Mem a t
    first [] h = absurd (not-suc-le-zero h)
    first (a ∷ t) h = (a, inl refl)

Mem-occurs : (i : ℕ) (s : List ℕ) → Mem i s → 0 < occurs i s
unfolding occurs
Mem-occurs i s m = some (keep (eqb i) s) (Mem-keep (eqb i) i s m (eq-eqb i i refl))
  where
    some : (t : List ℕ) → Mem i t → 0 < length t
    some [] m = absurd m
    some (a ∷ t) m = zero-lt-suc (length t)

Share-factor : (f : model.Form) (d n : ℕ) → Share f d n → factor f * d ≤ n
unfolding factor
Share-factor model.scalar d n h = h
Share-factor model.sliced d n h = h

pub listed_ok : (m : State) → Listed m → ListsOk m
listed_ok m k = record {
  ok = λ b h. record {
    rising = k.rising b;
    bound = k.events_only b;
    support = λ i g. support b i g (touches (plane m) (event_at m.events i).x (event_at m.events i).z b) refl;
    whole = λ i l a t. occurs-Mem i (list_at m b) (omega (arith, k.once b i a t));
    share = Share-factor m.given.form (dead m.events (list_at m b)) (length (list_at m b)) (k.share b);
  };
}
  where
    support : (b i : ℕ) → Mem i (list_at m b) → (t : Bool) → touches (plane m) (event_at m.events i).x (event_at m.events i).z b ≡ t
        → touches (plane m) (event_at m.events i).x (event_at m.events i).z b ≡ true
    support b i g true e = e
    support b i g false e = absurd (omega (arith, k.nowhere_else b i e, Mem-occurs i (list_at m b) g))

-- ---- a kill

-- one number more passes a test
one_more : (p q : ℕ → Bool) (id : ℕ) → p id ≡ false → q id ≡ true → ((i : ℕ) → (i ≡ id → ⊥) → p i ≡ q i) → (s : List ℕ) → Rising s → Mem id s
    → length (keep q s) ≡ suc (length (keep p s))
one_more p q id off on same [] r m = absurd m
one_more p q id off on same (a ∷ s) r (inl e) =
    ap length (keep_yes q a s (ap q (sym e) ∙ on))
    ∙ ap (λ (w : List ℕ). suc (length w)) (keep_same q p s (λ i g. sym (same i (λ d. lt_irrefl a (subst (λ (w : ℕ). a < w) (d ∙ e) (r.0 i g))))))
    ∙ sym (ap (λ (w : List ℕ). suc (length w)) (keep_no p a s (ap p (sym e) ∙ off)))
one_more p q id off on same (a ∷ s) r (inr m) = go (p a) refl (one_more p q id off on same s r.1 m)
  where
    other : p a ≡ q a
    other = same a (λ d. lt_irrefl a (subst (λ (w : ℕ). a < w) (sym d) (r.0 id m)))

    go : (t : Bool) → p a ≡ t → length (keep q s) ≡ suc (length (keep p s)) → length (keep q (a ∷ s)) ≡ suc (length (keep p (a ∷ s)))
    go true e h = ap length (keep_yes q a s (sym other ∙ e)) ∙ ap suc h ∙ sym (ap (λ (w : List ℕ). suc (length w)) (keep_yes p a s e))
    go false e h = ap length (keep_no q a s (sym other ∙ e)) ∙ h ∙ sym (ap (λ (w : List ℕ). suc (length w)) (keep_no p a s e))

module _ (es : List Event) (id : ℕ) (there : id < length es) (live : live_at es id ≡ true) where
  unlive : live_at (gone es id there) id ≡ false
  unfolding live_at killed
  unlive = ap (λ (w : Event). w.live) (gone_at es id there)

  live_other : (i : ℕ) → i ≢ id → live_at (gone es id there) i ≡ live_at es i
  unfolding live_at
  live_other i d = ap (λ (w : Event). w.live) (gone_other es id there i d)

  dead_more : (s : List ℕ) → Rising s → Mem id s → dead (gone es id there) s ≡ suc (dead es s)
  unfolding dead
  dead_more s r g =
      one_more (λ i. not (live_at es i)) (λ i. not (live_at (gone es id there) i)) id (ap not live) (ap not unlive) (λ i d. ap not (sym (live_other i d))) s r g

  dead_same : (s : List ℕ) → (Mem id s → ⊥) → dead (gone es id there) s ≡ dead es s
  unfolding dead
  dead_same s off = ap length (keep_same _ _ s (λ i g. ap not (live_other i (λ d. off (subst (λ (j : ℕ). Mem j s) d g)))))

  dead_within : (s : List ℕ) → dead (gone es id there) s ≤ length s
  unfolding dead
  dead_within s = length-keep (λ i. not (live_at (gone es id there) i)) s

  dead_less : (s : List ℕ) → Rising s → Mem id s → dead es s < length s
  dead_less s r g = omega (arith, dead_more s r g, dead_within s)

  none_dead : (s : List ℕ) → dead (gone es id there) (keep (live_at (gone es id there)) s) ≡ 0
  unfolding dead
  none_dead s = ap length (keep_none _ (keep (live_at (gone es id there)) s) (λ i g. ap not (keep-Mem (live_at (gone es id there)) i s g).1))

  dead_next : (s : List ℕ) → Rising s → Mem id s → dead (gone es id there) s ≡ dead es s + 1
  dead_next s r g = omega (arith, dead_more s r g)

  tidied : (f : model.Form) (s : List ℕ) → Rising s → Mem id s → tidy f (gone es id there) s ≡ left (factor f) (dead es s + 1) (keep (live_at (gone es id there)) s) s
  unfolding tidy left drops_at
  tidied f s r g = ap (λ (d : ℕ). cond (ltb (length s) (factor f * d)) (keep (live_at (gone es id there)) s) s) (dead_next s r g)

  tidied_dead : (f : model.Form) (s : List ℕ) → Rising s → Mem id s → dead (gone es id there) (tidy f (gone es id there) s) ≡ still (factor f) (dead es s + 1) (length s)
  unfolding left still
  tidied_dead f s r g = ap (dead (gone es id there)) (tidied f s r g) ∙ go (drops_at (factor f) (dead es s + 1) (length s))
    where
      go : (t : Bool) → dead (gone es id there) (cond t (keep (live_at (gone es id there)) s) s) ≡ cond t 0 (dead es s + 1)
      go true = none_dead s
      go false = dead_next s r g

  -- ---- entries

  entry_other : (i : ℕ) → i ≢ id → entry_of (gone es id there) i ≡ entry_of es i
  entry_other i d = entry_as (gone es id there) i (event_at es i) (gone_other es id there i d) ∙ sym (entry_as es i (event_at es i) refl)

  entry_killed : entry_of (gone es id there) id ≡ blocks.dead (entry_of es id)
  unfolding entry_of killed
  entry_killed = entry_as (gone es id there) id (killed (event_at es id)) (gone_at es id there)

  entry_live : (i : ℕ) → live_at (gone es id there) i ≡ true → entry_of (gone es id there) i ≡ fresh i (event_at es i).x (event_at es i).z
  unfolding entry_of
  entry_live i t =
      ap₂ {C = Entry} (λ (x z : ℕ). record { id = i; x = x; z = z; live = cond (live_at (gone es id there) i) 1 0 }) (gone_x es id there i) (gone_z es id there i)
      ∙ ap {B = Entry} (λ (t : Bool). record { id = i; x = (event_at es i).x; z = (event_at es i).z; live = cond t 1 0 }) t

  kept_entries : (test : ℕ → Bool) (s : List ℕ) → ((i : ℕ) → Mem i s → test i ≡ live_at (gone es id there) i)
      → map (entry_of (gone es id there)) (keep (live_at (gone es id there)) s) ≡ kept test (map (entry_of es) s)
  unfolding keep kept entry_of
  kept_entries test [] h = refl
  kept_entries test (a ∷ s) h = go (live_at (gone es id there) a) refl (kept_entries test s (λ i g. h i (inr g)))
    where
      new : Entry
      new = fresh a (event_at es a).x (event_at es a).z

      go : (t : Bool) → live_at (gone es id there) a ≡ t → map (entry_of (gone es id there)) (keep (live_at (gone es id there)) s) ≡ kept test (map (entry_of es) s)
          → map (entry_of (gone es id there)) (keep (live_at (gone es id there)) (a ∷ s)) ≡ cond (test a) (new ∷ kept test (map (entry_of es) s)) (kept test (map (entry_of es) s))
      go true e ih =
          ap (map (entry_of (gone es id there))) (keep_yes (live_at (gone es id there)) a s e)
          ∙ ap₂ {C = List Entry} (λ u v. u ∷ v) (entry_live a e) ih
          ∙ sym (ap (λ (t : Bool). cond t (new ∷ kept test (map (entry_of es) s)) (kept test (map (entry_of es) s))) (h a (inl refl) ∙ e))
      go false e ih =
          ap (map (entry_of (gone es id there))) (keep_no (live_at (gone es id there)) a s e)
          ∙ ih
          ∙ sym (ap (λ (t : Bool). cond t (new ∷ kept test (map (entry_of es) s)) (kept test (map (entry_of es) s))) (h a (inl refl) ∙ e))

  set-entry : (s : List ℕ) (p : ℕ) → Rising s → p < length s → get_or s p 0 ≡ id
      → map (entry_of (gone es id there)) s ≡ set (map (entry_of es) s) p (blocks.dead (entry (map (entry_of es) s) p))
  set-entry s p r l q =
      ext_get_or no_entry (map (entry_of (gone es id there)) s) (set (map (entry_of es) s) p (blocks.dead (entry (map (entry_of es) s) p)))
      (length-map s (entry_of (gone es id there)) ∙ sym (length-map s (entry_of es)) ∙ sym (length-set (map (entry_of es) s) p (blocks.dead (entry (map (entry_of es) s) p))))
      (λ j g. at j (omega (arith, length-map s (entry_of (gone es id there)))) (ℕ_discrete j p))
    where
      here : entry_of (gone es id there) (get_or s p 0) ≡ blocks.dead (entry (map (entry_of es) s) p)
      here = ap (entry_of (gone es id there)) q ∙ entry_killed ∙ ap (λ (i : ℕ). blocks.dead (entry_of es i)) (sym q) ∙ ap {B = Entry} (λ (e : Entry). blocks.dead e) (sym (map_at (entry_of es) s p l))

      at : (j : ℕ) → j < length s → Dec (j ≡ p)
          → entry (map (entry_of (gone es id there)) s) j ≡ entry (set (map (entry_of es) s) p (blocks.dead (entry (map (entry_of es) s) p))) j
      at j g (yes e) =
          ap (entry (map (entry_of (gone es id there)) s)) e ∙ map_at (entry_of (gone es id there)) s p l ∙ here
          ∙ sym (get_or-set_same (map (entry_of es) s) p (blocks.dead (entry (map (entry_of es) s) p)) no_entry (omega (arith, length-map s (entry_of es))))
          ∙ ap (entry (set (map (entry_of es) s) p (blocks.dead (entry (map (entry_of es) s) p)))) (sym e)
      at j g (no d) =
          map_at (entry_of (gone es id there)) s j g ∙ entry_other (get_or s j 0) (λ e. d (rises_one s r j p g l (e ∙ sym q))) ∙ sym (map_at (entry_of es) s j g)
          ∙ sym (get_or-set_other (map (entry_of es) s) p j (blocks.dead (entry (map (entry_of es) s) p)) no_entry d)

-- ---- the lists of a state

module _ (m : State) (id : ℕ) (there : id < length m.events) (live : live_at m.events id ≡ true) (k : Listed m) (f : model.Form) (is : m.given.form ≡ f) where
  kill-events : (kill id m).events ≡ gone m.events id there
  unfolding kill gone
  kill-events = refl

  kill-length : length (kill id m).events ≡ length m.events
  unfolding kill
  kill-length = length-set m.events id (killed (event_at m.events id))

  module _ (b : ℕ) (h : b < length m.lists) where
    Mem-in : touches (plane m) (event_at m.events id).x (event_at m.events id).z b ≡ true → Mem id (list_at m b)
    Mem-in t = occurs-Mem id (list_at m b) (omega (arith, k.once b id live t))

    Mem-out : touches (plane m) (event_at m.events id).x (event_at m.events id).z b ≡ false → Mem id (list_at m b) → ⊥
    Mem-out t g = omega (arith, k.nowhere_else b id t, Mem-occurs id (list_at m b) g)

    list_in_lem : touches (plane m) (event_at m.events id).x (event_at m.events id).z b ≡ true → list_at (kill id m) b ≡ tidy f (gone m.events id there) (list_at m b)
    list_in_lem t =
        kill_list id m there (listed_ok m k) b h
        ∙ ap (λ (t : Bool). cond t (tidy m.given.form (kill id m).events (list_at m b)) (list_at m b)) t
        ∙ ap₂ (λ (f : model.Form) (es : List Event). tidy f es (list_at m b)) is kill-events

    list_out : touches (plane m) (event_at m.events id).x (event_at m.events id).z b ≡ false → list_at (kill id m) b ≡ list_at m b
    list_out t =
        kill_list id m there (listed_ok m k) b h
        ∙ ap (λ (t : Bool). cond t (tidy m.given.form (kill id m).events (list_at m b)) (list_at m b)) t

    -- what is left of a list of the event, and of its dead
    left_in : touches (plane m) (event_at m.events id).x (event_at m.events id).z b ≡ true
        → list_at (kill id m) b ≡ left (factor f) (dead_in m b + 1) (keep (live_at (gone m.events id there)) (list_at m b)) (list_at m b)
    unfolding dead_in
    left_in t = list_in_lem t ∙ tidied m.events id there live f (list_at m b) (k.rising b) (Mem-in t)

    still_in : touches (plane m) (event_at m.events id).x (event_at m.events id).z b ≡ true → dead_in (kill id m) b ≡ still (factor f) (dead_in m b + 1) (length (list_at m b))
    unfolding dead_in
    still_in t =
        ap₂ (λ (es : List Event) (s : List ℕ). dead es s) kill-events (list_in_lem t)
        ∙ tidied_dead m.events id there live f (list_at m b) (k.rising b) (Mem-in t)

    still_out : touches (plane m) (event_at m.events id).x (event_at m.events id).z b ≡ false → dead_in (kill id m) b ≡ dead_in m b
    unfolding dead_in
    still_out t =
        ap₂ (λ (es : List Event) (s : List ℕ). dead es s) kill-events (list_out t)
        ∙ dead_same m.events id there live (list_at m b) (Mem-out t)

    less_in : touches (plane m) (event_at m.events id).x (event_at m.events id).z b ≡ true → dead_in m b < length (list_at m b)
    unfolding dead_in
    less_in t = dead_less m.events id there live (list_at m b) (k.rising b) (Mem-in t)

  -- the words say which events are live
  live_read : (alive : ℕ) (h : List ℕ) → Alive alive (kill id m).events h → (i : ℕ) → i < length m.events → is_live h alive i ≡ live_at (gone m.events id there) i
  unfolding is_live
  live_read alive h a i l =
      digit_test (live_at (kill id m).events i) _ (a i (inside (length (kill id m).events) (omega (arith, kill-length))))
      ∙ ap (λ (es : List Event). live_at es i) kill-events
    where
      inside : (n : ℕ) → i < n → i < words n * 64
      inside n g = unfold words in omega arith

-- what a kill does, answering r
abbrev pub Kills : model.Form → (n cap l : ℕ) → (h g : List ℕ) → (id sig events : ℕ) → Result (Unit {0}) Corrupt → Type 0
Kills f n cap l h g id sig events r =
    (m : State) → ListsHeld f n cap l m h → length m.events ≡ events → Leaving n cap l m id sig h → IsOk r × ListsTo f n cap l (kill id m) h g

-- the digits of the signature
Leaving-Digits : (f : model.Form) (n cap l id sig : ℕ) (h : List ℕ) (m : State) → ListsHeld f n cap l m h → Leaving n cap l m id sig h
    → Digits 64 sig (plane m) (event_at m.events id).x (event_at m.events id).z
Leaving-Digits f n cap l id sig h m held go b k =
    signature-Digits sig l (event_at m.events id).x (event_at m.events id).z go.sig_is b k
    ∙ ap (λ (p : ℕ). touches p (event_at m.events id).x (event_at m.events id).z b) (sym held.given.planes)

-- a kill in the scalar form
pub kill_Scalars : (n cap l : ℕ) (h g : List ℕ) (id sig events : ℕ) (r : Result (Unit {0}) Corrupt)
    → ((ls : ℕ → List ℕ) (d : ℕ → ℕ) → Scalars h (count_place cap l) (list_place model.scalar n cap l) cap ls d
    → ((b : ℕ) → b < 64 → has sig b ≡ 1 → (d b < length (ls b)) × Known events (ls b))
    → IsOk r × ScalarsTo h (count_place cap l) (list_place model.scalar n cap l) cap sig
    (chosen sig (λ b. noted h (alive_place cap l) (d b) (ls b)) ls) (chosen sig (λ b. still 4 (d b + 1) (length (ls b))) d) g)
    → Kills model.scalar n cap l h g id sig events r
kill_Scalars n cap l h g id sig events r call m held count lv =
    let to = call (list_at m) (dead_in m) held.lists fit in
    (to.0, scalars_to n cap l sig h g (chosen sig (λ b. noted h (alive_place cap l) (dead_in m b) (list_at m b)) (list_at m)) (chosen sig (λ b. still 4 (dead_in m b + 1) (length (list_at m b))) (dead_in m)) (kill id m) same fewer to.1)
  where
    T : ℕ → Bool
    T b = touches (plane m) (event_at m.events id).x (event_at m.events id).z b

    digits : (b : ℕ) → b < 64 → eqb (has sig b) 1 ≡ T b
    digits = Leaving-Digits model.scalar n cap l id sig h m held lv

    inside : (b : ℕ) → b < 64 → b < length m.lists
    inside b k = unfold list_count in omega (arith, held.many)

    fit : (b : ℕ) → b < 64 → has sig b ≡ 1 → (dead_in m b < length (list_at m b)) × Known events (list_at m b)
    fit b k o = (
      less_in m id lv.there lv.live held.listed model.scalar held.given.form b (inside b k) (sym (digits b k) ∙ eq-eqb (has sig b) 1 o),
      λ i g. omega (arith, held.listed.events_only b (get_or (list_at m b) i 0) (get_or-Mem (list_at m b) i g)),
    )

    same : (b : ℕ) → b < 64 → chosen sig (λ b. noted h (alive_place cap l) (dead_in m b) (list_at m b)) (list_at m) b ≡ list_at (kill id m) b
    same b k = unfold chosen in (ap (λ (t : Bool). cond t (noted h (alive_place cap l) (dead_in m b) (list_at m b)) (list_at m b)) (digits b k) ∙ go (T b) refl)
      where
        go : (t : Bool) → T b ≡ t → cond t (noted h (alive_place cap l) (dead_in m b) (list_at m b)) (list_at m b) ≡ list_at (kill id m) b
        go true t =
            unfold noted factor in
            ap (λ (w : List ℕ). left 4 (dead_in m b + 1) w (list_at m b)) (keep_same (is_live h (alive_place cap l)) (live_at (gone m.events id lv.there)) (list_at m b)
            (λ i g. live_read m id lv.there lv.live held.listed model.scalar held.given.form (alive_place cap l) h lv.alive i (held.listed.events_only b i g)))
            ∙ sym (left_in m id lv.there lv.live held.listed model.scalar held.given.form b (inside b k) t)
        go false t = sym (list_out m id lv.there lv.live held.listed model.scalar held.given.form b (inside b k) t)

    fewer : (b : ℕ) → b < 64 → chosen sig (λ b. still 4 (dead_in m b + 1) (length (list_at m b))) (dead_in m) b ≡ dead_in (kill id m) b
    fewer b k = unfold chosen in (ap (λ (t : Bool). cond t (still 4 (dead_in m b + 1) (length (list_at m b))) (dead_in m b)) (digits b k) ∙ go (T b) refl)
      where
        go : (t : Bool) → T b ≡ t → cond t (still 4 (dead_in m b + 1) (length (list_at m b))) (dead_in m b) ≡ dead_in (kill id m) b
        go true t = unfold factor in sym (still_in m id lv.there lv.live held.listed model.scalar held.given.form b (inside b k) t)
        go false t = sym (still_out m id lv.there lv.live held.listed model.scalar held.given.form b (inside b k) t)

-- the axis of an event in two words
module _ (es : List Event) (h : List ℕ) (axes l : ℕ) (one : l ≡ 1) (a : Axed l es h axes) where
  axis_x : (i : ℕ) → i < length es → get_or h (axes + 2 * i) 0 ≡ (event_at es i).x
  axis_x i g =
      let q : axes + 2 * i ≡ axes + i * (2 * 1) = omega arith in
      ap (λ (k : ℕ). get_or h k 0) q ∙ sym (one_word h (axes + i * (2 * 1))) ∙ ap (λ (k : ℕ). value_at h (axes + i * (2 * k)) k) (sym one) ∙ a.xs i g

  axis_z : (i : ℕ) → i < length es → get_or h (axes + (2 * i + 1)) 0 ≡ (event_at es i).z
  axis_z i g =
      let q : axes + (2 * i + 1) ≡ axes + i * (2 * 1) + 1 = omega arith in
      ap (λ (k : ℕ). get_or h k 0) q ∙ sym (one_word h (axes + i * (2 * 1) + 1)) ∙ ap (λ (k : ℕ). value_at h (axes + i * (2 * k) + k) k) (sym one) ∙ a.zs i g

-- a kill in the sliced form
pub kill_Sliceds : (n cap l : ℕ) (h g : List ℕ) (id sig events : ℕ) (r : Result (Unit {0}) Corrupt) → n ≤ 32 → l ≡ 1
    → ((ms : ℕ → List Entry) (d pos : ℕ → ℕ) → Sliceds h (count_place cap l) (list_place model.sliced n cap l) cap n ms d
    → ((b : ℕ) → b < n → has sig b ≡ 1 → (d b < length (ms b)) × RisingIds (ms b) × Source h n (axis_place cap) events (ms b) × (pos b < length (ms b)) × ((entry (ms b) (pos b)).id ≡ id))
    → IsOk r × SlicedsTo h (count_place cap l) (list_place model.sliced n cap l) cap n sig
    (chosen sig (λ b. killed_at h (alive_place cap l) (d b) (pos b) (ms b)) ms) (chosen sig (λ b. still 2 (d b + 1) (length (ms b))) d) g)
    → Kills model.sliced n cap l h g id sig events r
kill_Sliceds n cap l h g id sig events r few one call m held count lv =
    let to = call ms (dead_in m) pos held.lists fit in
    (to.0, sliceds_to n cap l sig h g (chosen sig (λ b. killed_at h (alive_place cap l) (dead_in m b) (pos b) (ms b)) ms) (chosen sig (λ b. still 2 (dead_in m b + 1) (length (ms b))) (dead_in m)) (kill id m) same fewer to.1)
  where
    ms : ℕ → List Entry
    ms b = map (entry_of m.events) (list_at m b)

    pos : ℕ → ℕ
    pos b = place_of id (list_at m b)

    T : ℕ → Bool
    T b = touches (plane m) (event_at m.events id).x (event_at m.events id).z b

    digits : (b : ℕ) → b < n → eqb (has sig b) 1 ≡ T b
    digits b k = Leaving-Digits model.sliced n cap l id sig h m held lv b (omega arith)

    inside : (b : ℕ) → b < n → b < length m.lists
    inside b k = unfold list_count in omega (arith, held.many)

    long : (b : ℕ) → length (ms b) ≡ length (list_at m b)
    long b = length-map (list_at m b) (entry_of m.events)

    stands : (b : ℕ) → b < n → T b ≡ true → (pos b < length (list_at m b)) × (get_or (list_at m b) (pos b) 0 ≡ id)
    stands b k t = place_is id (list_at m b) (Mem-in m id lv.there lv.live held.listed model.sliced held.given.form b (inside b k) t)

    entry_at : (b i : ℕ) → i < length (ms b) → entry_of m.events (get_or (list_at m b) i 0) ≡ entry (ms b) i
    entry_at b i g = sym (map_at (entry_of m.events) (list_at m b) i (omega (arith, long b)))

    event_at_is : (b i : ℕ) → i < length (ms b) → get_or (list_at m b) i 0 < length m.events
    event_at_is b i g = held.listed.events_only b (get_or (list_at m b) i 0) (get_or-Mem (list_at m b) i (omega (arith, long b)))

    source : (b : ℕ) → Source h n (axis_place cap) events (ms b)
    source b = unfold entry_of in record {
      known = λ i g. subst (λ (e : Entry). e.id < events) (entry_at b i g) (omega (arith, event_at_is b i g));
      xs = λ i g. subst (λ (e : Entry). get_or h (axis_place cap + 2 * e.id) 0 ≡ e.x) (entry_at b i g) (axis_x m.events h (axis_place cap) l one lv.axed (get_or (list_at m b) i 0) (event_at_is b i g));
      zs = λ i g. subst (λ (e : Entry). get_or h (axis_place cap + (2 * e.id + 1)) 0 ≡ e.z) (entry_at b i g) (axis_z m.events h (axis_place cap) l one lv.axed (get_or (list_at m b) i 0) (event_at_is b i g));
      small_x = λ i g. subst (λ (e : Entry). e.x < 2 ^ n) (entry_at b i g) (lv.small_x (get_or (list_at m b) i 0) (event_at_is b i g));
      small_z = λ i g. subst (λ (e : Entry). e.z < 2 ^ n) (entry_at b i g) (lv.small_z (get_or (list_at m b) i 0) (event_at_is b i g));
    }

    number_at : (b i : ℕ) → i < length (ms b) → (entry (ms b) i).id ≡ get_or (list_at m b) i 0
    number_at b i g = unfold entry_of in ap (λ (e : Entry). e.id) (sym (entry_at b i g))

    fit : (b : ℕ) → b < n → has sig b ≡ 1 → (dead_in m b < length (ms b)) × RisingIds (ms b) × Source h n (axis_place cap) events (ms b) × (pos b < length (ms b)) × ((entry (ms b) (pos b)).id ≡ id)
    fit b k o =
        let t : T b ≡ true = sym (digits b k) ∙ eq-eqb (has sig b) 1 o in
        let p = stands b k t in
        let in_ms : pos b < length (ms b) = omega (arith, long b, p.0) in (
          omega (arith, long b, less_in m id lv.there lv.live held.listed model.sliced held.given.form b (inside b k) t),
          (λ i j l g. omega (arith, number_at b i (omega arith), number_at b j g, rises (list_at m b) (held.listed.rising b) i j l (omega (arith, long b)))),
          source b,
          in_ms,
          number_at b (pos b) in_ms ∙ p.1,
        )

    same : (b : ℕ) → b < n → chosen sig (λ b. killed_at h (alive_place cap l) (dead_in m b) (pos b) (ms b)) ms b ≡ map (entry_of (kill id m).events) (list_at (kill id m) b)
    same b k =
        unfold chosen in
        (ap (λ (t : Bool). cond t (killed_at h (alive_place cap l) (dead_in m b) (pos b) (ms b)) (ms b)) (digits b k) ∙ go (T b) refl
        ∙ ap (λ (es : List Event). map (entry_of es) (list_at (kill id m) b)) (sym (kill-events m id lv.there lv.live held.listed model.sliced held.given.form)))
      where
        es : List Event
        es = gone m.events id lv.there

        dropped : T b ≡ true → (u : Bool)
            → cond u (kept (is_live h (alive_place cap l)) (ms b)) (set (ms b) (pos b) (blocks.dead (entry (ms b) (pos b)))) ≡ map (entry_of es) (cond u (keep (live_at es) (list_at m b)) (list_at m b))
        dropped t true =
            sym (kept_entries m.events id lv.there lv.live (is_live h (alive_place cap l)) (list_at m b)
            (λ i g. live_read m id lv.there lv.live held.listed model.sliced held.given.form (alive_place cap l) h lv.alive i (held.listed.events_only b i g)))
        dropped t false = let p = stands b k t in sym (set-entry m.events id lv.there lv.live (list_at m b) (pos b) (held.listed.rising b) p.0 p.1)

        go : (t : Bool) → T b ≡ t → cond t (killed_at h (alive_place cap l) (dead_in m b) (pos b) (ms b)) (ms b) ≡ map (entry_of es) (list_at (kill id m) b)
        go true t =
            unfold killed_at left factor in
            (ap (λ (n : ℕ). cond (drops_at 2 (dead_in m b + 1) n) (kept (is_live h (alive_place cap l)) (ms b)) (set (ms b) (pos b) (blocks.dead (entry (ms b) (pos b)))))
            (length-set (ms b) (pos b) (blocks.dead (entry (ms b) (pos b))) ∙ long b)
            ∙ dropped t (drops_at 2 (dead_in m b + 1) (length (list_at m b)))
            ∙ ap (map (entry_of es)) (sym (left_in m id lv.there lv.live held.listed model.sliced held.given.form b (inside b k) t)))
        go false t =
            map_same (entry_of m.events) (entry_of es) (list_at m b) (λ i g. sym (entry_other m.events id lv.there lv.live i
            (λ d. Mem-out m id lv.there lv.live held.listed model.sliced held.given.form b (inside b k) t (subst (λ (j : ℕ). Mem j (list_at m b)) d g))))
            ∙ ap (map (entry_of es)) (sym (list_out m id lv.there lv.live held.listed model.sliced held.given.form b (inside b k) t))

    fewer : (b : ℕ) → b < n → chosen sig (λ b. still 2 (dead_in m b + 1) (length (ms b))) (dead_in m) b ≡ dead_in (kill id m) b
    fewer b k =
        unfold chosen in
        (ap (λ (t : Bool). cond t (still 2 (dead_in m b + 1) (length (ms b))) (dead_in m b)) (digits b k)
        ∙ ap (λ (n : ℕ). cond (T b) (still 2 (dead_in m b + 1) n) (dead_in m b)) (long b) ∙ go (T b) refl)
      where
        go : (t : Bool) → T b ≡ t → cond t (still 2 (dead_in m b + 1) (length (list_at m b))) (dead_in m b) ≡ dead_in (kill id m) b
        go true t = unfold factor in sym (still_in m id lv.there lv.live held.listed model.sliced held.given.form b (inside b k) t)
        go false t = sym (still_out m id lv.there lv.live held.listed model.sliced held.given.form b (inside b k) t)

-- the signature of an axis of one word
one_signature : (n x z : ℕ) → n ≤ 32 → x < 2 ^ n → z < 2 ^ n → signature 1 x z ≡ bit_or x z
one_signature n x z few hx hz =
    let p : 2 ^ n ≤ 2 ^ 64 = pow_mono {i = n} {j = 64} (omega arith) in
    has_ext 64 (signature 1 x z) (bit_or x z) (signature-lt 1 x z) (or_lt 64 x z (omega arith) (omega arith))
    (λ i g. signature_digit 1 x z i g ∙ ap (λ (t : Bool). cond t 1 0) (qubit_digit x z i) ∙ on_two_lem (λ (d : ℕ). cond (eqb d 1) 1 0 ≡ d) refl refl (has (bit_or x z) i) (has-lt (bit_or x z) i))

-- a signature of n qubits is taken
pub kill_taken : (n cap l : ℕ) (m : State) (id sig : ℕ) (h : List ℕ) → n ≤ 32 → l ≡ 1 → (sig / 2 ^ n ≡ 0 → ⊥) → Leaving n cap l m id sig h → ⊥
kill_taken n cap l m id sig h few one big lv =
    let x : ℕ = (event_at m.events id).x in
    let z : ℕ = (event_at m.events id).z in
    let hx : x < 2 ^ n = lv.small_x id lv.there in
    let hz : z < 2 ^ n = lv.small_z id lv.there in
    big (none_shr n sig (subst (λ (v : ℕ). v < 2 ^ n) (sym (lv.sig_is ∙ ap (λ (k : ℕ). signature k x z) one ∙ one_signature n x z few hx hz)) (or_lt n x z hx hz)))
