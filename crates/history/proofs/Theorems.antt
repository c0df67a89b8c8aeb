-- What the contracts of this crate and the theorems of `model` say together (docs/PROMISES.md). `o` is any opening that answered 0, `cs` any calls
-- after it, and h any words that hold the state that they leave: by their contracts, `opening::fresh`, `record::record`, `kill::kill` and
-- `record::clear` lead from such words to such words. Assumes nothing.
use mathlib.Core.Path.{◌≡◌, refl, sym, ap, ◌∙◌, subst}
use mathlib.Core.Logic.{◌↔◌}
use mathlib.Core.List.{List, [], ◌∷◌, map}
use Prim.Native.Nat.{ℕ, zero, suc, ◌+◌, ◌*◌, ◌≤◌, ◌<◌}
use native.Mathlib.Nat.{not-suc-le-zero, le_of_suc-le-suc, suc-mul, mul-le-mul_right}
use native.Mathlib.Omega.{arith}
use lib.IntN.{ℤ}
use lib.ListN.{length, get_or, take, drop, length-drop, length-map}
use lib.Seq.{get_or-take, get_or-drop, ext_get_or, length-take-le}
use Rattle.model.specs.Frame.{Kind, axis, paulis}
use Rattle.model.specs.Events.{Event, Form, scalar, sliced, Opening, State}
use Rattle.model.specs.Search as search
use Rattle.model.specs.Search.{list_at, look}
use Rattle.model.specs.Store.{list_count}
use Rattle.model.specs.Calls.{open_answer, opened, Lent, calls}
use Rattle.model.specs.Demands.{NotOut, Named}
use Rattle.model.proofs.Theorems.{look_exact}
use Rattle.model.proofs.Good.{Good, reached}
use Rattle.model.proofs.Kept.{listed}
use Rattle.sliced.specs.Blocks.{entry, entry_of, sliced_room}
use Rattle.std.proofs.Common.{Result, Ok}
use Rattle.pauli.specs.declared.corrupt.Corrupt.{Corrupt}
use Rattle.history.specs.declared.findings.Look.{Look}
use Rattle.history.specs.declared.findings.Found.TheVariants.{Partner}
use Rattle.history.specs.Words.{count_place, list_place, list_size, history_room, list_in, ListsIn, Holds, Sane}
use Rattle.history.specs.Phases.{look_of}

-- what every good state is
pub Good-Sane : (m : State) → Good m → Sane m
Good-Sane m g = record {
  listed = listed m g;
  past = g.past;
  small_x = λ i b. (g.each i b).small_x;
  small_z = λ i b. (g.each i b).small_z;
  signs = λ i b. (g.each i b).signed;
}

-- every state that calls can leave is as the contracts ask
pub sane : (o : Opening) → open_answer o ≡ 0 → (cs : List Lent) → Sane (calls cs (opened o))
sane o h cs = Good-Sane (calls cs (opened o)) (reached o h cs)

-- ---- demand 3: the lists in the words

entry-id : (es : List Event) (ids : List ℕ) (i : ℕ) → i < length ids → (entry (map (entry_of es) ids) i).id ≡ get_or ids i 0
unfolding entry_of
entry-id es [] i b = absurd (not-suc-le-zero b)
entry-id es (a ∷ ids) zero b = refl
entry-id es (a ∷ ids) (suc i) b = entry-id es ids i (le_of_suc-le-suc b)

-- how long list b is in the words, and its entries
pub record InWords (f : Form) (n cap l : ℕ) (m : State) (h : List ℕ) (b : ℕ) : Type 0 where
  pub count : get_or h (count_place cap l + 2 * b) 0 ≡ length (list_at m b)
  pub within : length (list_at m b) ≤ cap
  pub numbers : (i : ℕ) → i < length (list_at m b) → get_or h (list_place f n cap l + b * list_size f n cap + i) 0 ≡ get_or (list_at m b) i 0

in_words : (f : Form) (n cap l : ℕ) (m : State) (h : List ℕ) → ListsIn f m n cap l h → (b : ℕ) → b < list_count f n → InWords f n cap l m h b
unfolding list_size list_count
in_words scalar n cap l m h held b q = record { count = (held b q).counts.len; within = (held b q).within; numbers = (held b q).numbers }
in_words sliced n cap l m h held b q = record {
  count = (held b q).counts.len ∙ length-map (list_at m b) (entry_of m.events);
  within = subst (λ (k : ℕ). k ≤ cap) (length-map (list_at m b) (entry_of m.events)) (held b q).reps.within;
  numbers = λ i c. (held b q).reps.ids i (subst (λ (k : ℕ). i < k) (sym (length-map (list_at m b) (entry_of m.events))) c) ∙ entry-id m.events (list_at m b) i c;
}

-- a list's room ends within the words
room_ends : (f : Form) (n cap l b : ℕ) (h : List ℕ) → length h ≡ history_room f n cap l → b < list_count f n → list_place f n cap l + b * list_size f n cap + cap ≤ length h
unfolding history_room list_size
room_ends scalar n cap l b h long q = omega (arith, long, suc-mul b cap, mul-le-mul_right cap q)
room_ends sliced n cap l b h long q = omega (arith, long, suc-mul b (sliced_room cap n), mul-le-mul_right (sliced_room cap n) q)

-- list b, read off the words, is list b of the state: with `lists_kept` of `model`, "each live event stands once in every list of its support"
-- and "dead entries fill at most a quarter of a scalar list and half of a sliced one" of the lists in the words
pub lists_in_words : (f : Form) (n cap l : ℕ) (m : State) (h : List ℕ) → Holds f n cap l m h → (b : ℕ) → b < list_count f n → list_in f n cap l h b ≡ list_at m b
unfolding list_in
lists_in_words f n cap l m h holds b q =
    let w : InWords f n cap l m h b = in_words f n cap l m h holds.lists b q in
    let at : ℕ = list_place f n cap l + b * list_size f n cap in
    let room : at + length (list_at m b) ≤ length h = omega (arith, w.within, room_ends f n cap l b h holds.long q) in
    let long : length (take (length (list_at m b)) (drop at h)) ≡ length (list_at m b) = length-take-le (length (list_at m b)) (drop at h) (simp length-drop (omega arith)) in
    ap (λ (k : ℕ). take k (drop at h)) w.count
    ∙ ext_get_or 0 (take (length (list_at m b)) (drop at h)) (list_at m b) long (λ i c.
    let c' : i < length (list_at m b) = omega (arith, c, long) in
    get_or-take (length (list_at m b)) (drop at h) i 0 c' ∙ get_or-drop at h i 0 ∙ w.numbers i c')

-- ---- demand 3: a look in the words

-- a look that says the partner id
abbrev partner : (id : ℕ) (g : ℤ) (steps : ℕ) → Look
partner id g n = record { found = Partner id g; steps = n }

partner_is : (a : search.Look) (id n : ℕ) (g : ℤ) → look_of a ≡ partner id g n → a ≡ search.found id g n
unfolding look_of
partner_is (search.found id sgn n) i k g e = let f = ap (λ (a : Look). a.found) e in let t = ap (λ (a : Look). a.steps) e in cc
partner_is (search.none n) i k g e = let f = ap (λ (a : Look). a.found) e in let t = ap (λ (a : Look). a.steps) e in cc
partner_is (search.blocked n) i k g e = let f = ap (λ (a : Look). a.found) e in let t = ap (λ (a : Look). a.steps) e in cc
partner_is (search.out n) i k g e = let f = ap (λ (a : Look). a.found) e in let t = ap (λ (a : Look). a.steps) e in cc

-- the answer r of `looks::look` for an axis of the frame names an event exactly when demand 3 says, unless it runs out
pub look_names : (o : Opening) → open_answer o ≡ 0 → (cs : List Lent) → let s : State = calls cs (opened o) in
    (kind : Kind) (q : ℕ) (r : Result Look Corrupt) → r ≡ Ok (look_of (look kind q s)) → NotOut (look kind q s)
    → (id : ℕ) (g : ℤ) → ((steps : ℕ) × (r ≡ Ok (partner id g steps))) ↔ Named s (axis paulis kind q s.frame) id g
unfolding look_of
look_names o h cs kind q r e n id g =
    let both = (look_exact o h cs kind q n).names id g in (
      λ t.
          let same : look_of (look kind q (calls cs (opened o))) ≡ partner id g t.0 = let z = t.1 in cc in
          both.0 (t.0, partner_is (look kind q (calls cs (opened o))) id t.0 g same),
      λ t. let u = both.1 t in (u.0, e ∙ ap (λ (a : search.Look). Ok (look_of a)) u.1),
    )
