use Rattle.strip.proofs.Steps.{placed}
use Rattle.strip.proofs.strip.cells.StripPanelPanel.put.Goals as goal

pub returns-clause-puts : goal.returns-clause-puts
returns-clause-puts c = λ _. placed _ _ _ _ c.make_room.ensures c.add.ensures
