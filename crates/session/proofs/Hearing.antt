-- What one byte leads to. Assumes nothing.
use Prim.Native.Nat.{ℕ, ◌+◌, ◌≤◌, ◌<◌}
use mathlib.Core.Path.{◌≡◌, sym, ap, ◌∙◌}
use mathlib.Core.List.{List, [], ◌∷◌, ◌++◌}
use native.Mathlib.Omega.{arith}
use native.Mathlib.Numerals.{add-one}
use borrow.Author.Tests.{eq-eqb, ne_eqb, lt-ltb, le-ltb}
use lib.ListN.{length, take, set, length-set}
use lib.Seq.{length-take-le, take-suc-set}
use Rattle.model.specs.Events.{State}
use Rattle.text.specs.Line.{reading_of}
use Rattle.text.specs.Spoken.{bad, spoken}
use Rattle.text.specs.Wrote.{Wrote}
use Rattle.session.specs.Session.{on, stop, answered, fresh, Place, heard}
use Rattle.session.specs.Desk.{stage_of, Tells, place_of, Sized, Hears}
use Rattle.session.specs.declared.stages.Stage as code
use Rattle.session.specs.declared.stages.Talk.{Talk}
use Rattle.session.specs.declared.stages.Ran.{Ran}
use Rattle.session.specs.declared.stages.Ran.TheVariants as runs
use Rattle.session.proofs.Telling.{said_of, nothing_said, said_is}

-- ---- one byte
module _ (t : Talk) (buf ls store out : List ℕ) (b : ℕ) (sized : Sized t buf ls store) (wide : 128 ≤ length out) where
  abbrev place : State → Place
  place m = place_of t buf ls m

  pub held_part : t.held ≤ length buf
  held_part = omega (arith, sized.held, sized.line_room)

  held-length : length (take t.held buf) ≡ t.held
  held-length = length-take-le t.held buf held_part

  module _ (newline : b ≡ 10) (ls' store' out' : List ℕ) (same_ls : length ls' ≡ length ls) (same_store : length store' ≡ length store) where
    abbrev Told : Ran code.Stage → Type 0
    Told r = Tells (answered (t.line + 1) (reading_of (take t.held buf))) t.stage ls store out r ls' store' out'

    ended : (m : State) → heard (place m) b ≡ fresh (t.line + 1) (answered (t.line + 1) (reading_of (take t.held buf)) (stage_of t.stage ls m))
    unfolding heard
    ended m = rw (eq-eqb b 10 newline)

    pub line_on : (s : code.Stage) (n : ℕ) → Told (runs.On s n)
        → Hears t buf ls store out b (runs.On (record { line = t.line + 1; held = 0; stage = s }) n) buf ls' store' out'
    line_on s n d = record {
      ends = (
        record { line_room = sized.line_room; label_room = same_ls ∙ sized.label_room; store_room = same_store ∙ sized.store_room; held = omega arith; within = d.ends.0 },
        omega arith,
        d.ends.1,
      );
      is = λ m means. let y = d.is m means in (y.0, y.1, ended m ∙ ap (fresh (t.line + 1)) y.2);
    }

    pub line_stop : (n : ℕ) → Told (runs.Stop n) → Hears t buf ls store out b (runs.Stop n) buf ls' store' out'
    line_stop n d = record { ends = d.ends; is = λ m means. let y = d.is m means in (y.0, tt, ended m ∙ ap (fresh (t.line + 1)) y.2) }

  pub byte_more : (b ≡ 10 → ⊥) → t.held < 80
      → Hears t buf ls store out b (runs.On (record { line = t.line; held = t.held + 1; stage = t.stage }) 0) (set buf t.held b) ls store out
  unfolding heard
  byte_more other h = record {
    ends = (
      record { line_room = length-set buf t.held b ∙ sized.line_room; label_room = sized.label_room; store_room = sized.store_room; held = omega arith; within = sized.within },
      omega arith,
      nothing_said out,
    );
    is = λ m means. (m, means, shown m);
  }
    where
      behind : take (t.held + 1) (set buf t.held b) ≡ take t.held buf ++ (b ∷ [])
      behind = rw add-one (take-suc-set buf t.held b (omega (arith, sized.line_room)))

      shown : (m : State) → heard (place m) b ≡ on (place_of (record { line = t.line; held = t.held + 1; stage = t.stage }) (set buf t.held b) ls m) []
      shown m = rw (ne_eqb b 10 other, held-length, lt-ltb t.held 80 h, behind)

  pub byte_long : (b ≡ 10 → ⊥) → 80 ≤ t.held → (n : ℕ) (out' : List ℕ) → Wrote out 0 (spoken (bad (t.line + 1))) out' n
      → Hears t buf ls store out b (runs.Stop n) buf ls store out'
  unfolding heard
  byte_long other h n out' w = record {
    ends = said_of (bad (t.line + 1)) out out' n w wide;
    is = λ m means. (m, tt, shown m ∙ ap stop (sym (said_is (bad (t.line + 1)) out out' n w wide)));
  }
    where
      shown : (m : State) → heard (place m) b ≡ stop (spoken (bad (t.line + 1)))
      shown m = rw (ne_eqb b 10 other, held-length, le-ltb t.held 80 h)
