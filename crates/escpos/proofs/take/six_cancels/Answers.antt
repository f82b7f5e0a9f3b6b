use Rattle.escpos.specs.Laws.{escpos_laws}
use Rattle.escpos.proofs.Cancels.{cancel_outcome}
use Rattle.escpos.proofs.take.six_cancels.Goals as goal

pub returns-clause-cancels : goal.returns-clause-cancels
returns-clause-cancels c = λ r. (escpos_laws r).cancels

pub returns-clause-amounts : goal.returns-clause-amounts
returns-clause-amounts c = cancel_outcome
