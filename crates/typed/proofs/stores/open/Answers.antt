-- `open` meets its contract: when each of its refusals comes.
use Rattle.typed.proofs.OpenLaws.{fits, bad_size, bad_room, short, answer_of}
use Rattle.typed.proofs.stores.open.Goals as goal

pub returns-clause-fits : goal.returns-clause-fits
returns-clause-fits c = fits c.args.plan c.args.labels.now c.args.words.now c.open.result (answer_of _ _ _ _ c.open.ensures)

pub returns-clause-sizes : goal.returns-clause-sizes
returns-clause-sizes c = bad_size c.args.plan c.args.labels.now c.args.words.now c.open.result (answer_of _ _ _ _ c.open.ensures)

pub returns-clause-events : goal.returns-clause-events
returns-clause-events c = bad_room c.args.plan c.args.labels.now c.args.words.now c.open.result (answer_of _ _ _ _ c.open.ensures)

pub returns-clause-too_short : goal.returns-clause-too_short
returns-clause-too_short c = short c.args.plan c.args.labels.now c.args.words.now c.open.result (answer_of _ _ _ _ c.open.ensures)
