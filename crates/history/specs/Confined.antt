-- Confinement: until a window command or ESC @ takes effect, the current window is a display of its own.
use Rattle.std.specs.Prelude.{◌≡◌, ℕ, Bool, true, false, List, [], ◌∷◌, length, slice_index}
use Rattle.glass.specs.Drawn.{within}
use Rattle.commands.specs.declared.words.Command.{Command}
use Rattle.commands.specs.declared.words.Command.TheVariants.{Window, Initialize}
use Rattle.commands.specs.declared.words.WindowChange.TheVariants.{Define, Cancel, TurnTo}
use Rattle.commands.specs.Sets.{Reads}
use Rattle.state.specs.Core.{window}
use Rattle.state.specs.Model.{State, Event, after, faults, carried}

-- the commands that can leave the current window: those on windows, and the one that initializes
abbrev pub turns : Command → Bool
turns (Window (Define slot frame) name) = true
turns (Window (Cancel slot) name) = true
turns (Window (TurnTo window) name) = true
turns Initialize = true
turns command = false

abbrev pub NoneTurns : List Command → Type 0
NoneTurns [] = Unit {0}
NoneTurns (d ∷ ds) = (turns d ≡ false) × NoneTurns ds

-- two displays that differ at most in what their glasses hold outside the current window
pub record Alike {R : Type 0} (s t : State R) : Type 0 where
  pub reading : s.reading ≡ t.reading
  pub core : s.core ≡ t.core
  pub inside : (k : ℕ) → within (window s.core) k ≡ true → slice_index s.glass k ≡ slice_index t.glass k

-- each place outside the current window of s holds in t what it held in s
abbrev pub Keeps : {R : Type 0} → State R → State R → Type 0
Keeps s t = (k : ℕ) → within (window s.core) k ≡ false → slice_index t.glass k ≡ slice_index s.glass k

module _ {R : Type 0} (reads : Reads R) where
  -- what two alike displays are after the same events
  pub record Apart (s t : State R) (es : List Event) : Type 0 where
    pub alike : Alike (after reads s es) (after reads t es)
    pub left : Keeps s (after reads s es)
    pub right : Keeps t (after reads t es)
    pub given : faults reads s es ≡ faults reads t es
    pub window : window (after reads s es).core ≡ window s.core

  -- Two alike displays that are given the same events stay alike and give the same faults, and neither changes
  -- a place outside the current window, as long as none of the commands that take effect turns.
  abbrev pub Confined : Type 0
  Confined = (s t : State R) (es : List Event) → length s.glass ≡ length t.glass → Alike s t → NoneTurns (carried reads s es) → Apart s t es
