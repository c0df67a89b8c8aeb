-- `shapes::take_word` meets its contract: of the sixteen digits those from i on are left. Assumes nothing.
use Rattle.std.proofs.Common.{◌≡◌, ◌≤◌, ◌<◌, ◌+◌, ◌-◌, ◌^◌, length, drop}
use Rattle.text.specs.Taken.{word_at}
use Rattle.text.proofs.shapes.take_word.Given as goal

abbrev pub invariant-loop-i : goal.invariant-loop-i
invariant-loop-i l =
    let left = l.at + 16 - l.i in
    (l.i ≤ length l.s) × (l.value < 16 ^ (16 - left)) × (word_at 16 0 (drop l.at l.s) ≡ word_at left l.value (drop l.i l.s))
