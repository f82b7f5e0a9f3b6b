use Rattle.painter.proofs.Kept.{holds_waiting, screen_shows}
use Rattle.painter.proofs.waiting.Goals as goal

pub returns-clause-held : goal.returns-clause-held
returns-clause-held g c = holds_waiting g.S.CommandSets.reads

pub returns-clause-screen : goal.returns-clause-screen
returns-clause-screen g c = screen_shows
