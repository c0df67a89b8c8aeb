-- `lists::scalar::meets` meets its contract. Assumes nothing.
use Rattle.lists.proofs.ScanLaws.{Meets-asked}
use Rattle.lists.proofs.scalar.meets.Goals as goal

pub returns : goal.returns
returns c =
    let a = c.args in
    Meets-asked a.h.now a.events.sigs a.events.axes a.events.l a.events.count a.axis.now a.wanted a.this a.id c.anticommutes.result c.if-events-id.false c.requires.1 c.if-h-events.false c.anticommutes.ensures
