-- `history::kill::drop_event` meets its contract: the live bit and the signature first (`Dropped` of DropLaws), then the chain. Assumes nothing.
use Prim.Native.Nat.{◌*◌, ◌%◌, ◌^◌}
use lib.ListN.{length}
use Rattle.pauli.proofs.Digits.{bit_is}
use Rattle.history.specs.Words.{in_bucket}
use Rattle.history.proofs.StoreLaws.{alive_inside}
use Rattle.history.proofs.DropLaws.{dropped, dying_in, dying_chain, dead}
use native.Mathlib.Omega.{arith}
use Rattle.history.proofs.kill.drop_event.Goals as goal

pub bounds-h-alive : goal.bounds-h-alive
bounds-h-alive c = let a = c.args in omega (arith, alive_inside a.layout.now.cap a.layout.now.l a.id c.requires.2)

pub bounds-h-alive-2 : goal.bounds-h-alive-2
bounds-h-alive-2 c = let a = c.args in omega (arith, alive_inside a.layout.now.cap a.layout.now.l a.id c.requires.2)

pub returns-clause-done : goal.returns-clause-done
returns-clause-done c =
    let a = c.args in
    let u = c.unlink in
    let unlinks = rw (c.alive.ensures, c.signature.ensures) at u.ensures.done in
    let k = c.bucket in
    let bucket = rw c.label.ensures at k.ensures.0 in
    let w = dropped a.h.now a.layout.now.l a.layout.now.cap a.id ((1 * 2 ^ (a.id % 64)) % 2 ^ 64) c.requires.0 c.requires.2 (bit_is 64 (a.id % 64) (omega arith)) in
    λ es held few d.
    let r =
    unlinks (in_bucket a.layout.now.cap k.result es) (length es) few (dying_chain a.layout.now.cap a.layout.now.l es a.id a.h.now _ few d held w k.result k.ensures.1 bucket) d.there
    (dying_in a.layout.now.cap a.layout.now.l es a.id a.h.now _ few d held w k.result k.ensures.1 bucket) in
    (r.0, dead a.layout.now.cap a.layout.now.l es a.id a.h.now _ few d held w k.result k.ensures.1 bucket u.new.h (rw (c.alive.ensures, c.signature.ensures) at u.ensures.long) r.1)
