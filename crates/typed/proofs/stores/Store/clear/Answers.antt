-- `Store::clear` meets its contract: a clear is never refused.
use Rattle.typed.proofs.Laws.{kept, clear_ok, clear_does}
use Rattle.typed.proofs.stores.Store.clear.Goals as goal

pub unwrap-requires : goal.unwrap-requires
unwrap-requires c = clear_ok _ c.clear.result c.clear.ensures.answers c.args.self.now.holds

pub invariant_of-self : goal.invariant_of-self
invariant_of-self c = record { holds = kept _ _ _ _ c.clear.ensures c.args.self.now.holds }

pub returns-clause-done : goal.returns-clause-done
returns-clause-done c = clear_does _ _ _ c.clear.ensures c.args.self.now.holds
