-- `store::header::history_room` meets its contract: the sum is `history_room`, and far below 2^64. Assumes nothing.
use Rattle.store.proofs.SizeLaws.{room_Scalar, room_Sliced}
use Rattle.store.proofs.header.history_room.Goals as goal

pub returns-in-Scalar : goal.returns-in-Scalar
returns-in-Scalar c = let a = c.args in room_Scalar a.form a.n a.cap a.l c.in-Scalar.is

pub returns-in-Sliced : goal.returns-in-Sliced
returns-in-Sliced c = let a = c.args in room_Sliced a.form a.n a.cap a.l c.in-Sliced.is
