use Rattle.escpos.proofs.Pages.{table_agrees}
use Rattle.escpos.proofs.classes.classes_agree.Goals as goal

pub returns-clause-agree : goal.returns-clause-agree
returns-clause-agree c = table_agrees
