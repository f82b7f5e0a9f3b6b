-- What a display never exceeds.
use Rattle.panel.specs.Laws.{Make}
use Rattle.std.specs.Prelude.{◌≡◌, ℕ, ◌<◌, ◌≤◌, true, false, List, length, Some, ◌≢◌}
use Rattle.glass.specs.declared.area.Area.{Area}
use Rattle.glass.specs.Places.{holds, whole}
use Rattle.commands.specs.declared.words.Slot.{Slot}
use Rattle.commands.specs.Sets.{Reads}
use Rattle.terms.specs.declared.fault.Fault.{Fault}
use Rattle.state.specs.declared.tape.Use.{Use}
use Rattle.state.specs.declared.tape.Use.TheVariants.{Blank, Recording, Stored, Playing}
use Rattle.terms.specs.Presets.{Preset}
use Rattle.state.specs.Slots.{at, known, same}
use Rattle.state.specs.Core.{Core, window}
use Rattle.state.specs.Model.{Event, new, after}
use Rattle.display.specs.declared.engine.Display.{Display}
use Rattle.display.specs.Calls.{view}
use Rattle.history.specs.Lives.{Life}

-- how many bytes a tape can have: at most 82 while recording, and 1 to 80 where there is a macro
abbrev pub Stores : Use → ℕ → Type 0
Stores Blank n = n ≡ 0
Stores Recording n = n ≤ 82
Stores Stored n = (1 ≤ n) × (n ≤ 80)
Stores (Playing p q w k) n = (1 ≤ n) × (n ≤ 80) × (k < n)

pub record Bounded (c : Core) : Type 0 where
  pub tape : Stores c.tape.current (length c.tape.bytes)
  -- the cursor is inside the current window, which is defined or the whole glass
  pub cursor : holds (window c) c.layout.column c.layout.row ≡ true
  pub current : known c.layout.slots c.layout.current ≡ true
  -- a defined window has a cell, all its cells are on the glass, and no two share one
  pub some : (n : Slot) (a : Area) → at c.layout.slots n ≡ Some a → holds a a.x1 a.y1 ≡ true
  pub glass : (n : Slot) (a : Area) → at c.layout.slots n ≡ Some a → (x y : ℕ) → holds a x y ≡ true → holds whole x y ≡ true
  pub sharing : (n m : Slot) (a b : Area) → same n m ≡ false → at c.layout.slots n ≡ Some a → at c.layout.slots m ≡ Some b →
      (x y : ℕ) → holds a x y ≡ true → holds b x y ≢ true

module _ {P R : Type 0} (make : Make P) (reads : Reads R) where
  pub record Bounds : Type 0 where
    -- Every display is bounded, so a display is at every moment of its life.
    pub displays : (d : Display P R) → Bounded (view make d).core
    -- And so is the abstract display that is given the events of a life, when all of them are given.
    pub lives : (settings : Preset) (es : List Event) (fs : List Fault) (d : Display P R) →
        Life make reads settings es fs d → Bounded (after reads (new reads settings) es).core
