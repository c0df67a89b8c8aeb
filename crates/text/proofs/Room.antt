-- How much room a shape takes at most (`spoken_room`: a line of the output has at most 128 bytes), and what a buffer with that much room holds afterwards
-- (`Wrote-Whole`). Assumes nothing.
use Prim.Native.Nat.{ℕ, zero, suc, ◌+◌, ◌/◌, ◌%◌, ◌≤◌}
use mathlib.Core.Path.{◌≡◌, sym, ◌∙◌, ap}
use mathlib.Core.List.{List, [], ◌∷◌, ◌++◌}
use native.Mathlib.Omega.{arith}
use lib.Dec.{ltb}
use lib.IntN.{pos, negsuc}
use lib.ListN.{length, take, drop, length-append}
use lib.Seq.{sets-eq, take_at, drop_at}
use Rattle.model.specs.Search.{found, none, blocked, out}
use Rattle.model.specs.Calls.{refused, accepted, recorded, says, looked}
use Rattle.text.specs.Shape.{Item, number, word, kind, byte, item_of, glyph, digits, decimal, hexes, shown, left, print, first}
use Rattle.text.specs.Wrote.{Wrote}
use Rattle.text.specs.Spoken.{Saying, replied, bad, not_opened, end, spoken}
use Rattle.text.proofs.Tests.{decided}

digits_room : (n v : ℕ) → length (digits n v) ≤ n
unfolding digits
digits_room zero v = omega arith
digits_room (suc n) v =
    decided (ltb v 10)
    (λ e. rw e (omega arith))
    (λ e. let i = digits_room n (v / 10) in rw e (omega (arith, length-append (digits n (v / 10)) (glyph (v % 10) ∷ []))))

hexes_room : (n v : ℕ) → length (hexes n v) ≤ n
unfolding hexes
hexes_room zero v = omega arith
hexes_room (suc n) v = let i = hexes_room n (v / 16) in omega (arith, length-append (hexes n (v / 16)) (glyph (v % 16) ∷ []))

abbrev room_at : Item → ℕ
room_at (number l) = 20
room_at word = 16
room_at kind = 1
room_at (byte b) = 1

shown_room : (x : Item) (vs : List ℕ) → length (shown x vs) ≤ room_at x
unfolding decimal
shown_room (number l) vs = digits_room 20 (first vs)
shown_room word vs = hexes_room 16 (first vs)
shown_room kind vs = omega arith
shown_room (byte b) vs = omega arith

unfoldable pub room_of : List ℕ → ℕ
room_of [] = 0
room_of (c ∷ p) = room_at (item_of c) + room_of p

pub print_room : (p vs : List ℕ) → length (print p vs) ≤ room_of p
unfolding print room_of
print_room [] vs = omega arith
print_room (c ∷ p) vs =
    let a = shown_room (item_of c) vs in
    let b = print_room p (left (item_of c) vs) in
    omega (arith, length-append (shown (item_of c) vs) (print p (left (item_of c) vs)))

-- a line of the output takes at most 128 bytes
at_most : (p : List ℕ) → room_of p ≤ 128 → (vs : List ℕ) → length (print p vs) ≤ 128
at_most p h vs = let a = print_room p vs in omega arith

pub spoken_room : (s : Saying) → length (spoken s) ≤ 128
unfolding spoken room_of item_of
spoken_room (replied l (refused k)) = at_most _ (omega arith) _
spoken_room (replied l accepted) = at_most _ (omega arith) _
spoken_room (replied l (recorded id)) = at_most _ (omega arith) _
spoken_room (replied l (says r)) = at_most _ (omega arith) _
spoken_room (replied l (looked (found id (pos g) n))) = at_most _ (omega arith) _
spoken_room (replied l (looked (found id (negsuc g) n))) = at_most _ (omega arith) _
spoken_room (replied l (looked (none n))) = at_most _ (omega arith) _
spoken_room (replied l (looked (blocked n))) = at_most _ (omega arith) _
spoken_room (replied l (looked (out n))) = at_most _ (omega arith) _
spoken_room (bad l) = at_most _ (omega arith) _
spoken_room (not_opened k) = at_most _ (omega arith) _
spoken_room (end l t) = at_most _ (omega arith) _

-- the whole text stands at the start, and the rest is as it was
pub record Whole (o t o' : List ℕ) (r : ℕ) : Type 0 where
  pub size : r ≡ length t
  pub within : r ≤ length o
  pub start : take r o' ≡ t
  pub kept : drop r o' ≡ drop r o

pub Wrote-Whole : (o t o' : List ℕ) (r : ℕ) → Wrote o 0 t o' r → length t ≤ length o → Whole o t o' r
Wrote-Whole o t o' r w h =
    let n : r ≡ length t = w.next ∙ omega arith in
    let m : length t ≡ r = sym n in
    let z : 0 + length t ≡ r = omega arith in
    let e : o' ≡ t ++ drop r o = w.left ∙ sets-eq t o 0 (omega arith) ∙ ap (λ (k : ℕ). t ++ drop k o) z in
    record {
      size = n;
      within = omega arith;
      start = rw e (take_at t (drop r o) r m);
      kept = rw e (drop_at t (drop r o) r m);
    }

pub spoken-Whole : (o : List ℕ) (s : Saying) (o' : List ℕ) (r : ℕ) → Wrote o 0 (spoken s) o' r → 128 ≤ length o → Whole o (spoken s) o' r
spoken-Whole o s o' r w h = let m = spoken_room s in Wrote-Whole o (spoken s) o' r w (omega arith)
