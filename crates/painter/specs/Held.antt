-- What the calls of a display leave of the strip panel that it holds.
use Rattle.std.specs.Prelude.{◌≡◌, ℕ, List, Option, Result}
use Rattle.list.specs.declared.list.BoundedList.{BoundedList}
use Rattle.commands.specs.Sets.{Reads}
use Rattle.terms.specs.declared.fault.Fault.{Fault}
use Rattle.terms.specs.Presets.{Preset}
use Rattle.display.specs.declared.engine.Display.{Display}
use Rattle.display.specs.declared.words.FeedRefusal.{FeedRefusal}
use Rattle.display.specs.Calls as calls
use Rattle.strip.specs.declared.strip.StripPanel.{StripPanel}
use Rattle.strip.specs.Laws.{strip}
use Rattle.strip.specs.Strip.{Paints}
use Rattle.strip.specs.Waiting.{Kept}

-- Switching on, feeding and ticking keep what waits, or raise the flag; only a display's painted empties the list
-- and lowers the flag; switching off gives back list, picture and flag as they are.
pub record HoldsWaiting {R : Type 0} (reads : Reads R) : Type 0 where
  pub on : (settings : Preset) (p : StripPanel) (d : Display StripPanel R) → calls.SwitchesOn strip reads settings p d → Kept p d.panel
  pub fed : (d d' : Display StripPanel R) (piece : List ℕ) (l l' : BoundedList Fault) (r : Result ℕ FeedRefusal) →
      calls.Feeds strip reads d piece l r d' l' → Kept d.panel d'.panel
  pub ticked : (d d' : Display StripPanel R) (r : Option Fault) → calls.Ticks strip reads d r d' → Kept d.panel d'.panel
  pub painted : (d d' : Display StripPanel R) → calls.Paints strip d d' → Paints d.panel d'.panel
  pub off : (d : Display StripPanel R) (p : StripPanel) → calls.SwitchesOff strip d p → p ≡ d.panel
