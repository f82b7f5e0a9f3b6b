use Rattle.std.proofs.Common.{◌≡◌, take}
use Rattle.panel.specs.Forty.{forty}
use Rattle.strip.specs.Strip.{merged}
use Rattle.strip.proofs.strip.StripPanel.merge.Given as goal

abbrev pub invariant-loop-place : goal.invariant-loop-place
invariant-loop-place l = forty l.self.1.0.held ≡ merged (forty l.initial.self.1.0.held) (take l.place-index l.place-items)
