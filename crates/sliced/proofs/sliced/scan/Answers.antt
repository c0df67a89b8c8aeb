-- `sliced::sliced::scan` meets its contract: what is answered so far and the rest of the walk are the whole of it, block by block. Assumes nothing.
use mathlib.Core.Path.{◌≡◌, refl, sym, ap, ap₂, ◌∙◌, subst}
use Prim.Native.Nat.{ℕ, ◌+◌, ◌-◌, ◌*◌, ◌^◌, ◌≤◌, ◌<◌}
use native.Mathlib.Omega.{arith}
use lib.ListN.{length, get_or}
use Rattle.model.specs.Events.{words}
use Rattle.lists.specs.declared.budget.Scan.{Scan}
use Rattle.lists.specs.declared.budget.Scan.TheVariants.{Clear}
use Rattle.sliced.specs.Blocks.{mask_place, live_place}
use Rattle.sliced.specs.Gathered.{Marks}
use Rattle.sliced.specs.Steps.{visited, and_then}
use Rattle.sliced.proofs.RebuildLaws.{part_length}
use Rattle.sliced.proofs.BlockWalk.{FirstIs, first_start, first_later, Remains, Remains-start, Answers, turn_end, turn_last, turn, masks_fit, next_masks, Marks-lent}
use Rattle.sliced.proofs.sliced.scan.Goals as goal
use Rattle.sliced.proofs.sliced.scan.Goals.{After-visit_two, At-loop-b, In-loop-b, Start, Then-b-used}

-- from the loop's head: where the masks and the live word of a block stand, and the laws of a turn
abbrev at_of : At-loop-b → ℕ → ℕ
at_of l b = let a = l.args in mask_place a.room.base a.room.cap a.room.n b

abbrev live_of : At-loop-b → ℕ → ℕ
live_of l b = let a = l.args in get_or a.h.now (live_place a.room.base a.room.cap a.room.n b) 0

abbrev Rest : At-loop-b → ℕ → Scan → Type 0
Rest l b r = let a = l.args in Remains a.h.now a.room.base a.room.cap a.room.n a.len a.after a.ax a.az a.budget.0 b r

abbrev Answer : At-loop-b → Scan → Type 0
Answer l r = let a = l.args in Answers a.h.now a.room.base a.room.cap a.room.n a.len a.after a.ax a.az a.budget.0 r

part_in : (c : Start) → c.args.room.base + c.args.len ≤ length c.args.h.now
part_in c = omega (arith, c.requires.0.fits, c.requires.1)

fit : (l : At-loop-b) (b : ℕ) → b < words l.args.len
    → at_of l b + 2 * l.args.room.n ≤ length l.args.h.now
fit l b lb =
    masks_fit l.args.h.now l.args.room.base l.args.room.cap l.args.room.n l.args.len b l.requires.0 l.requires.1 lb

step : (l : At-loop-b) (b : ℕ) (r : Scan) (word first : ℕ) → Rest l b r → b < words l.args.len
    → Marks l.args.h.now (at_of l b) l.args.room.n l.args.ax l.args.az word
    → FirstIs first l.first_past-start.result b → Rest l (b + 1) (and_then r (visited (live_of l b) word first))
step l b r word first rest lb marks fi =
    let s = (goal.at.At-loop-b l).Start in
    let a = l.args in
    turn a.h.now a.room.base a.room.cap a.room.n a.len a.after a.ax a.az l.first_past-start.result a.budget (part_in s) l.first_past-start.ensures.splits b r rest word first lb
    (omega (arith, l.type_inv.h (live_place a.room.base a.room.cap a.room.n b))) marks fi

-- two blocks more stand in the slice
two-fit : (c : In-loop-b) → at_of (goal.at.In-loop-b c).At-loop-b c.loop-b.b + 4 * c.args.room.n ≤ length c.args.h.now
unfolding words
two-fit c =
    let a = c.args in
    omega (arith, fit (goal.at.In-loop-b c).At-loop-b (c.loop-b.b + 1) c.loop-b-test.true, next_masks a.room.base a.room.cap a.room.n c.loop-b.b)

one-fits : (c : Then-b-used)
    → at_of (goal.at.Then-b-used c).At-loop-b c.loop-b.b + 2 * c.args.room.n ≤ length c.args.h.now
unfolding words
one-fits c = fit (goal.at.Then-b-used c).At-loop-b c.loop-b.b c.if-b-used.true

-- the answer of two blocks
two : (c : After-visit_two) → Rest (goal.at.After-visit_two c).At-loop-b (c.loop-b.b + 2) c.visit_two.result
unfolding words and_then
two c =
    let l = (goal.at.After-visit_two c).At-loop-b in
    let a = c.args in
    let b : ℕ = c.loop-b.b in
    let e : b + 1 + 1 ≡ b + 2 = omega arith in
    let lb : b < words a.len = omega (arith, c.loop-b-test.true) in
    let one : Marks a.h.now (at_of l b) a.room.n a.ax a.az (get_or c.anticommuting-words.result 0 0) =
    Marks-lent a.h.now (at_of l b) (4 * a.room.n) (0 * (2 * a.room.n)) a.room.n (at_of l b) a.room.n a.ax a.az (get_or c.anticommuting-words.result 0 0) refl (omega arith) (omega arith) ((rw c.masks-at.ensures at c.anticommuting-words.ensures) 0 (omega arith)) in
    let other : Marks a.h.now (at_of l (b + 1)) a.room.n a.ax a.az (get_or c.anticommuting-words.result 1 0) =
    Marks-lent a.h.now (at_of l b) (4 * a.room.n) (1 * (2 * a.room.n)) a.room.n (at_of l (b + 1)) a.room.n a.ax a.az (get_or c.anticommuting-words.result 1 0) refl (omega arith) (omega (arith, next_masks a.room.base a.room.cap a.room.n b)) ((rw c.masks-at.ensures at c.anticommuting-words.ensures) 1 (omega arith)) in
    let lives = ap₂ (λ (p q : ℕ). and_then (visited (get_or a.h.now p 0) (get_or c.anticommuting-words.result 0 0) c.loop-b.first c.loop-b.left) (visited (get_or a.h.now q 0) (get_or c.anticommuting-words.result 1 0) (2 ^ 64 - 1))) c.live.ensures c.live-in-loop-b.ensures in
    subst (λ (k : ℕ). Rest l k c.visit_two.result) e (subst (Rest l (b + 1 + 1)) (sym (c.visit_two.ensures ∙ lives))
    (step l (b + 1) (visited (live_of l b) (get_or c.anticommuting-words.result 0 0) c.loop-b.first c.loop-b.left) (get_or c.anticommuting-words.result 1 0) (2 ^ 64 - 1)
    (step l b (Clear c.loop-b.left) (get_or c.anticommuting-words.result 0 0) c.loop-b.first c.loop-b.invariant.3 lb one c.loop-b.invariant.1)
    c.loop-b-test.true other (first_later c.first_past-start.result (b + 1) (omega arith))))

end : (l : At-loop-b) (b : ℕ) (r : Scan) → Rest l b r → words l.args.len ≤ b → Answer l r
end l b r rest =
    let s = (goal.at.At-loop-b l).Start in
    let a = l.args in
    turn_end a.h.now a.room.base a.room.cap a.room.n a.len a.after a.ax a.az l.first_past-start.result a.budget (part_in s) l.first_past-start.ensures.splits b r rest

pub loop-b-init : goal.loop-b-init
loop-b-init c =
    let s = (goal.at.loop-b-init c).Start in (
      omega arith,
      first_start c.first_past-start.result,
      omega (arith, c.first_past-start.ensures.within, part_length c.args.h.now c.args.room.base c.args.len (part_in s)),
      Remains-start c.args.h.now c.args.room.base c.args.room.cap c.args.room.n c.args.len c.args.after c.args.ax c.args.az c.first_past-start.result c.args.budget (part_in s) c.first_past-start.ensures.splits,
    )

pub slice_bounds-anticommuting-end : goal.slice_bounds-anticommuting-end
slice_bounds-anticommuting-end c = omega (arith, two-fit (goal.at.slice_bounds-anticommuting-end c).In-loop-b)

pub returns-in_default : goal.returns-in_default
returns-in_default c =
    let e = (goal.at.returns-in_default c).After-visit_two in
    let s = (goal.at.returns-in_default c).Start in
    let a = c.args in
    turn_last a.h.now a.room.base a.room.cap a.room.n a.len a.after a.ax a.az c.first_past-start.result a.budget (part_in s) c.first_past-start.ensures.splits (c.loop-b.b + 2) c.visit_two.result (two e) c.in_default.not-Clear

pub loop-b-preserved : goal.loop-b-preserved
loop-b-preserved c =
    let e = (goal.at.loop-b-preserved c).After-visit_two in
    let l = (goal.at.loop-b-preserved c).At-loop-b in
    (omega arith, first_later c.first_past-start.result (c.loop-b.b + 2) (omega arith), omega arith, subst (Rest l (c.loop-b.b + 2)) c.in-Clear.is (two e))

pub returns-then-b-used : goal.returns-then-b-used
unfolding words and_then
returns-then-b-used c =
    let i = (goal.at.returns-then-b-used c).Then-b-used in
    let l = (goal.at.returns-then-b-used c).At-loop-b in
    let a = c.args in
    let b : ℕ = c.loop-b.b in
    let word : ℕ = get_or c.anticommuting-words-then-b-used.result 0 0 in
    let marks : Marks a.h.now (at_of l b) a.room.n a.ax a.az word =
    Marks-lent a.h.now (at_of l b) (2 * a.room.n) (0 * (2 * a.room.n)) a.room.n (at_of l b) a.room.n a.ax a.az word refl (omega arith) (omega arith) ((rw c.masks-at-then-b-used.ensures at c.anticommuting-words-then-b-used.ensures) 0 (omega arith)) in
    let lives = ap (λ (p : ℕ). visited (get_or a.h.now p 0) word c.loop-b.first c.loop-b.left) c.live-then-b-used.ensures in
    end l (b + 1) c.visit.result (subst (Rest l (b + 1)) (sym (c.visit.ensures ∙ lives)) (step l b (Clear c.loop-b.left) word c.loop-b.first c.loop-b.invariant.3 c.if-b-used.true marks c.loop-b.invariant.1)) (omega (arith, c.loop-b-test.false))

pub returns : goal.returns
unfolding words
returns c =
    let l = (goal.at.returns c).At-loop-b in
    end l c.loop-b.b (Clear c.loop-b.left) c.loop-b.invariant.3 c.if-b-used.false
