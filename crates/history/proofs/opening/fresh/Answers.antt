-- `history::opening::fresh` meets its contract: the two clears are the words of the opened state. Assumes nothing.
use Prim.Native.Nat.{◌+◌, ◌*◌, ◌/◌, ◌≤◌}
use lib.ListN.{length}
use Rattle.history.specs.Sizes.{form_of}
use Rattle.model.specs.Events.{words}
use Rattle.history.proofs.OpenLaws.{heads_fit, lists_fit, fresh_Becomes}
use native.Mathlib.Omega.{arith}
use Rattle.history.proofs.opening.fresh.Goals as goal

pub clear-requires : goal.clear-requires
clear-requires c = omega (arith, heads_fit (form_of c.args.layout.now.form) c.args.layout.now.n c.args.layout.now.cap c.args.layout.now.l c.args.h.now c.requires)

pub overflow_mul-lists : goal.overflow_mul-lists
overflow_mul-lists c =
    omega (arith, lists_fit (form_of c.args.layout.now.form) c.args.layout.now.n c.args.layout.now.cap c.args.layout.now.l c.args.h.now c.requires, c.list_count-lists.ensures)

pub clear-requires-2 : goal.clear-requires-2
unfolding words
clear-requires-2 c =
    omega (arith, lists_fit (form_of c.args.layout.now.form) c.args.layout.now.n c.args.layout.now.cap c.args.layout.now.l c.args.h.now c.requires, c.list_count-lists.ensures, c.clear.ensures.same_length)

pub returns : goal.returns
unfolding words
returns c =
    let a = c.args in
    let counted = c.list_count-lists in
    let first = c.clear in
    let second = c.clear-2 in
    fresh_Becomes (form_of a.layout.now.form) a.layout.now.n a.layout.now.cap a.layout.now.l counted.result a.h.now first.new.s second.new.s counted.ensures c.requires first.ensures (rw c.counts.ensures at second.ensures)
