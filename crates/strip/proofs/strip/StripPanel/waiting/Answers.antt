use Rattle.strip.proofs.Waiting.{keeps_waiting}
use Rattle.strip.proofs.strip.StripPanel.waiting.Goals as goal

pub returns-clause-kept : goal.returns-clause-kept
returns-clause-kept c = keeps_waiting
