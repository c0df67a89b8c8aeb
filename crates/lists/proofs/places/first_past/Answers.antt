-- `lists::places::first_past` meets its contract: the gallop ends no later than the place, and the halving finds it from there on.
-- Assumes nothing.
use Rattle.pauli.proofs.Words.{rest_length}
use Rattle.lists.proofs.PlaceLaws.{Splits-rest}
use Rattle.lists.proofs.places.first_past.Goals as goal

pub returns-clause-splits : goal.returns-clause-splits
returns-clause-splits c =
    let long = rest_length c.args.ids.now c.gallop-lo.result in
    Splits-rest c.args.ids.now c.gallop-lo.result c.args.after c.first_after.result c.gallop-lo.ensures.low c.gallop-lo.ensures.within c.first_after.ensures.splits
