-- `history::chains::seek` meets its contract: the walk stands at a cell of the chain, above the event. Assumes nothing.
use mathlib.Core.Path.{refl}
use Rattle.history.proofs.ChainLaws.{walk_falls, walk_reaches, walk_goes}
use native.Mathlib.Omega.{arith}
use Rattle.history.proofs.chains.seek.Goals as goal

pub returns-then-last-v-clause-found : goal.returns-then-last-v-clause-found
returns-then-last-v-clause-found c = λ p n f ch i e. let b = walk_falls p n _ _ _ _ f ch i e _ _ _ (c.loop-v.invariant.3 p n f ch i e) in omega arith

pub loop-v-preserved : goal.loop-v-preserved
loop-v-preserved c =
    (omega arith, omega arith, refl, λ p n f ch i e. walk_goes p n _ _ _ _ f ch i e _ _ _ (c.loop-v.invariant.3 p n f ch i e) (omega arith))

pub returns-else-v-id-clause-found : goal.returns-else-v-id-clause-found
returns-else-v-id-clause-found c = λ p n f ch i e. let b = walk_reaches p n _ _ _ _ f ch i e _ _ _ (c.loop-v.invariant.3 p n f ch i e) in omega arith
