-- `push` of `support::families::ScalarLists` meets its contract: it is that of the list in room b. Assumes nothing.
use Rattle.support.proofs.families.ScalarListsLists.push.Goals as goal

pub returns-clause-done : goal.returns-clause-done
returns-clause-done c = rw c.room.ensures at c.push.ensures.done
