use Rattle.session.proofs.Telling.{other_line}
use borrow.Author.Rules.{rules}
use Rattle.session.proofs.desk.operate.Goals as goal

pub returns-in_default : goal.returns-in_default
returns-in_default c = other_line _ _ _ c.args.l _ _ _ _ (search rules) c.requires.1 c.write_bad.ensures
