-- Laws of a store that is lent shorter or longer than it was opened: what it holds stands below its length at the opening. Assumes nothing.
use mathlib.Core.Path.{◌≡◌, refl, sym, ◌∙◌, subst}
use mathlib.Core.Bool.{Bool, false, true≢false}
use mathlib.Core.List.{List, [], ◌∷◌, ◌++◌}
use Prim.Native.Nat.{ℕ, ◌+◌, ◌≤◌, ◌<◌}
use native.Mathlib.Omega.{arith}
use lib.ListN.{length, get_or, take, length-append, get_or-append}
use lib.Seq.{length-take-le, get_or-take}
use borrow.Author.Tests.{lt-ltb}
use Rattle.model.specs.Events.{State, plane}
use Rattle.model.specs.Calls.{Call, call_open, call_gate, call_turn, call_record, call_measure, call_reset, call_ccx, call_ccz, call_kill, call_read, call_clear, call_look, answer, answer_to}
use Rattle.model.specs.Demands.{is_opening}
use Rattle.frame.specs.Places as frames
use Rattle.history.specs.Words.{history_room, Holds}
use Rattle.store.specs.Stores.{part, frame_size, history_place, Stored}
use Rattle.store.proofs.Splice.{part_same}
use Rattle.store.proofs.SizeLaws.{Stored-Accepted}

-- two slices of which the one is as the other below w
pub record AsBelow (w : ℕ) (s t : List ℕ) : Type 0 where
  pub there : w ≤ length t
  pub words : (i : ℕ) → i < w → get_or t i 0 ≡ get_or s i 0

-- their parts below w are equal
part_below : (a k w : ℕ) (s t : List ℕ) → a + k ≤ w → w ≤ length s → AsBelow w s t → part a k t ≡ part a k s
part_below a k w s t fits long h = part_same a k s t (omega arith) (omega (arith, h.there)) (λ i lo hi. h.words i (omega arith))

-- and the one holds what the other does, if w is no less than the length at the opening
pub Stored-below : (m : State) (w : ℕ) (s t : List ℕ) → m.given.size ≤ w → w ≤ length s → AsBelow w s t → Stored m s → Stored m t
Stored-below m w s t enough long same h =
    let fits : history_place m.given.n (plane m) + history_room m.given.form m.given.n m.given.capacity (plane m) ≤ m.given.size
    = (Stored-Accepted m s h).fits in
    record {
      opens = h.opens;
      long = omega (arith, same.there);
      header = record {
        size = same.words 0 (omega (arith, fits)) ∙ h.header.size;
        qubits = same.words 1 (omega (arith, fits)) ∙ h.header.qubits;
        form = same.words 2 (omega (arith, fits)) ∙ h.header.form;
        capacity = same.words 3 (omega (arith, fits)) ∙ h.header.capacity;
        allowance = same.words 4 (omega (arith, fits)) ∙ h.header.allowance;
      };
      frames = subst (λ (x : List ℕ). frames.Held m.given.n (plane m) m.frame m.sketch x)
          (sym (part_below 14 (frame_size m.given.n (plane m)) w s t (omega (arith, fits)) long same)) h.frames;
      history = subst (λ (x : List ℕ). Holds m.given.form m.given.n m.given.capacity (plane m) m x)
          (sym (part_below (history_place m.given.n (plane m)) (history_room m.given.form m.given.n m.given.capacity (plane m)) w s t (omega (arith, fits)) long same)) h.history;
    }

-- the first w words of a slice
pub prefix_below : (w : ℕ) (b : List ℕ) → w ≤ length b → AsBelow w b (take w b)
prefix_below w b h = record { there = omega (arith, length-take-le w b h); words = λ i c. get_or-take w b i 0 c }

-- a slice with words behind it
pub more_below : (t u : List ℕ) → AsBelow (length t) t (t ++ u)
more_below t u = record { there = omega (arith, length-append t u); words = λ i c. get_or-append t u 0 i c }

-- "3; later: store shorter than at its opening": before all other refusals
answer_short : (m : State) (w k : ℕ) (qs : List ℕ) (records : ℕ) (bad : Bool) → w < m.given.size → answer m w k qs records bad ≡ 3
unfolding answer
answer_short m w k qs records bad h = rw (lt-ltb w m.given.size h) refl

pub short_three : (c : Call) (w : ℕ) (m : State) → is_opening c ≡ false → w < m.given.size → answer_to c w m ≡ 3
unfolding answer_to is_opening
short_three (call_open n E A form ws) w m e h = absurd (true≢false e)
short_three (call_gate g) w m e h = answer_short m w 0 _ 0 false h
short_three (call_turn kind k q) w m e h = answer_short m w k (q ∷ []) 0 false h
short_three (call_record kind q tag) w m e h = answer_short m w 0 (q ∷ []) 1 false h
short_three (call_measure q) w m e h = answer_short m w 0 (q ∷ []) 1 false h
short_three (call_reset q) w m e h = answer_short m w 0 (q ∷ []) 2 false h
short_three (call_ccx a b t) w m e h = answer_short m w 0 (a ∷ b ∷ t ∷ []) 7 false h
short_three (call_ccz a b t) w m e h = answer_short m w 0 (a ∷ b ∷ t ∷ []) 7 false h
short_three (call_kill id) w m e h = answer_short m w 0 [] 0 _ h
short_three (call_read id) w m e h = answer_short m w 0 [] 0 _ h
short_three call_clear w m e h = answer_short m w 0 [] 0 false h
short_three (call_look kind q) w m e h = answer_short m w 0 (q ∷ []) 0 false h
