-- `history::events::read` meets its contract: the event's word tells its body, and the set of live events whether it is live. Assumes nothing.
use Rattle.history.proofs.EventLaws.{alive_part, read_there, read_none, read_Tells, read_small, told, sign_plus, sign_minus, says_some}
use mathlib.Core.Path.{ap}
use Rattle.std.proofs.Common.{Ok, Some}
use native.Mathlib.Omega.{arith}
use Rattle.history.specs.declared.events.Rotation as code
use Rattle.history.proofs.events.read.Goals as goal
use Rattle.history.proofs.events.read.Goals.{in-1, in-3}

pub returns-then-events-id-clause-says : goal.returns-then-events-id-clause-says
returns-then-events-id-clause-says c =
    let a = c.args in
    λ f n m holds sane e. absurd (omega (arith, read_there f n a.layout.now.cap a.layout.now.l a.id m a.h.now holds sane e, c.if-events-id.true))

pub returns-then-word-eq0-clause-says : goal.returns-then-word-eq0-clause-says
returns-then-word-eq0-clause-says c =
    let a = c.args in
    λ f n m holds sane e. absurd (omega (arith, (read_Tells f n a.layout.now.cap a.layout.now.l a.id m a.h.now holds sane e).some, (rw c.tag.ensures at c.if-word-eq0.true)))

pub returns-in_default-clause-nothing : goal.returns-in_default-clause-nothing
returns-in_default-clause-nothing c =
    let a = c.args in
    λ f n m holds sane e. absurd ((rw c.tag.ensures at c.if-word-eq0.false) (read_none f n a.layout.now.cap a.layout.now.l a.id m a.h.now holds sane e c.if-events-id.false))

pub returns-in_default-clause-says : goal.returns-in_default-clause-says
returns-in_default-clause-says c =
    let a = c.args in
    λ f n m holds sane e. absurd ((rw c.tag.ensures at c.in_default.ensures) (read_small f n a.layout.now.cap a.layout.now.l a.id m a.h.now holds sane e))

pub returns-in_default-2-clause-nothing : goal.returns-in_default-2-clause-nothing
returns-in_default-2-clause-nothing c =
    let a = c.args in
    λ f n m holds sane e. absurd ((rw c.tag.ensures at c.if-word-eq0.false) (read_none f n a.layout.now.cap a.layout.now.l a.id m a.h.now holds sane e c.if-events-id.false))

pub returns-in_default-2-clause-says : goal.returns-in_default-2-clause-says
returns-in_default-2-clause-says c =
    let a = c.args in
    λ f n m holds sane e. absurd (says_some f n a.layout.now.cap a.layout.now.l a.id m a.h.now holds sane e (λ k. omega (arith, rw (← c.tag.ensures) at k)) (λ k. omega (arith, rw (← c.tag.ensures) at k)))

pub contains-live-requires : goal.contains-live-requires
contains-live-requires c = let a = c.args in rw c.alive.ensures (alive_part a.h.now a.layout.now.cap a.layout.now.l a.id (omega arith) (omega arith))

pub returns-clause-nothing : goal.returns-clause-nothing
returns-clause-nothing c =
    let a = c.args in
    λ f n m holds sane e. absurd ((rw c.tag.ensures at c.if-word-eq0.false) (read_none f n a.layout.now.cap a.layout.now.l a.id m a.h.now holds sane e c.if-events-id.false))

pub returns-clause-says : goal.returns-clause-says
returns-clause-says c =
    let a = c.args in
    let live = c.contains-live in
    λ f n m holds sane e. elim c.match-word-rem4.branch [
      | in-1 w ↦ ap (λ (r : code.Rotation). Ok (Some r)) (told f n a.layout.now.cap a.layout.now.l a.id m a.h.now holds sane e live.result (rw c.alive.ensures at live.ensures) _ _ (rw c.tag.ensures at c.in-Ok.ensures.1) (sign_plus f n a.layout.now.cap a.layout.now.l a.id m a.h.now holds sane e _ (rw c.tag.ensures at w.in-1.is) w.sign-is))
      | in-3 w ↦ ap (λ (r : code.Rotation). Ok (Some r)) (told f n a.layout.now.cap a.layout.now.l a.id m a.h.now holds sane e live.result (rw c.alive.ensures at live.ensures) _ _ (rw c.tag.ensures at c.in-Ok.ensures.1) (sign_minus f n a.layout.now.cap a.layout.now.l a.id m a.h.now holds sane e _ (rw c.tag.ensures at w.in-3.is) w.sign-is))
    ]
