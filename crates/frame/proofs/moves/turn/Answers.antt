-- `frame::moves::turn` meets its contract. Assumes nothing.
use mathlib.Core.Path.{refl}
use Rattle.frame.proofs.RowedLaws.{turned_Rowed}
use Rattle.frame.proofs.moves.turn.Goals as goal

pub returns : goal.returns
returns c = λ P L held.
    let a = c.args in
    (refl, turned_Rowed a.m a.l a.g a.by a.s.now P L c.requires.1 held)
