-- `kill` of `support::families::SlicedLists` meets its contract: it is that of the list in room b. Assumes nothing.
use Rattle.support.proofs.families.SlicedListsLists.kill.Goals as goal

pub returns-clause-done : goal.returns-clause-done
returns-clause-done c = rw c.room.ensures at c.kill.ensures.done
