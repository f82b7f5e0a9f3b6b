-- The state of a display but for its glass and what it reads.
use Rattle.std.specs.Prelude.{ℕ, Bool, true, false, List, Option}
use Rattle.glass.specs.declared.area.Area.{Area}
use Rattle.commands.specs.declared.words.Mode.TheVariants.{Overwrite}
use Rattle.state.specs.declared.cell.Pen.{Pen}
use Rattle.state.specs.declared.lamp.Lamp.{Lamp}
use Rattle.state.specs.declared.lamp.Lamp.TheVariants.{Lit}
use Rattle.state.specs.declared.controller.Machine.{Machine}
use Rattle.terms.specs.Presets.{Preset, preset}
use Rattle.state.specs.Layouts.{Layout, layout, here, new_layout}
use Rattle.state.specs.Users.{users_of, no_users}
use Rattle.state.specs.Tapes.{Reel, reel_of, blank_reel}

pub record Core : Type 0 where
  -- the settings that the display was switched on with
  pub settings : Preset
  -- the windows, and the cursor
  pub layout : Layout
  -- mode, set and table by which characters are written, and whether user characters are in use
  pub pen : Pen
  -- whether the cursor is shown
  pub shown : Bool
  pub brightness : ℕ
  pub lamp : Lamp
  -- whether the display is selected
  pub selected : Bool
  -- the user characters
  pub users : List (Option (List ℕ))
  -- the recording or the macro
  pub tape : Reel

-- a machine's state, without its proofs
abbrev pub core_of : Machine → Core
core_of c = record {
  settings = preset c.settings;
  layout = layout c.windows;
  pen = c.pen;
  shown = c.shown;
  brightness = c.brightness;
  lamp = c.lamp;
  selected = c.selected;
  users = users_of c.users;
  tape = reel_of c.tape;
}

-- a new display
abbrev pub fresh : Preset → Core
fresh p = record {
  settings = p;
  layout = new_layout;
  pen = record { mode = Overwrite; set = p.set; table = p.table; user = false };
  shown = false;
  brightness = p.brightness;
  lamp = Lit;
  selected = true;
  users = no_users;
  tape = blank_reel;
}

-- the current window's area
abbrev pub window : Core → Area
window c = here c.layout
