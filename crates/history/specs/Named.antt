-- By which bytes faults name the commands that were refused.
use Rattle.panel.specs.Laws.{Make}
use Rattle.std.specs.Prelude.{◌≡◌, List, All}
use Rattle.commands.specs.declared.words.Dialect.TheVariants.{EscPos}
use Rattle.commands.specs.declared.words.Name.{Name}
use Rattle.commands.specs.declared.words.Refusal.{Refusal}
use Rattle.commands.specs.Sets.{Reads}
use Rattle.terms.specs.Presets.{Preset}
use Rattle.terms.specs.declared.fault.DisplayFault.{DisplayFault}
use Rattle.terms.specs.declared.fault.DisplayFault.TheVariants.{Read, Refused}
use Rattle.terms.specs.declared.fault.Fault.{Fault}
use Rattle.terms.specs.declared.fault.Fault.TheVariants.{Said, Played}
use Rattle.state.specs.Model.{Event}
use Rattle.display.specs.declared.engine.Display.{Display}
use Rattle.history.specs.Lives.{Life}

-- a refused command is named by the two bytes that the set gives for the cause
abbrev pub IsNamedBy : (Refusal → Name) → DisplayFault → Type 0
IsNamedBy names (Read fault) = Unit {0}
IsNamedBy names (Refused refusal name) = name ≡ names refusal

abbrev pub IsNamed : (Refusal → Name) → Fault → Type 0
IsNamed names (Said f) = IsNamedBy names f
IsNamed names (Played f) = IsNamedBy names f

module _ {P R : Type 0} (make : Make P) (reads : Reads R) where
  -- Every fault of every life names its command so.
  abbrev pub Named : Type 0
  Named = (settings : Preset) (es : List Event) (fs : List Fault) (d : Display P R) → Life make reads settings es fs d → All (IsNamed (reads.names EscPos)) fs
