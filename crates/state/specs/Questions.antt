-- What questions tell of the state.
use Rattle.std.specs.Prelude.{ℕ, Bool, true, false, List, [], ◌∷◌, Some, None, Option}
use Rattle.commands.specs.declared.words.Slot.{Slot}
use Rattle.commands.specs.Numbers.{slot_number, mode_number}
use Rattle.state.specs.declared.controller.questions.Modes.{Modes}
use Rattle.state.specs.Lamps.{lamp_number}
use Rattle.state.specs.Cells.{user_bits}
use Rattle.state.specs.Users.{user_at}
use Rattle.state.specs.Reels.{is_recording, is_playing}
use Rattle.state.specs.Tapes.{macro_byte}
use Rattle.state.specs.Core.{Core}

-- the current window's number
abbrev pub window_number : Option Slot → ℕ
window_number None = 0
window_number (Some n) = slot_number n

abbrev pub modes_of : Core → Modes
modes_of c = record {
  mode = c.pen.mode;
  window = c.layout.current;
  cursor = c.shown;
  user = c.pen.user;
  recording = is_recording c.tape.current;
  playing = is_playing c.tape.current;
  selected = c.selected;
  blink = lamp_number c.lamp;
  table = c.pen.table;
  set = c.pen.set;
  brightness = c.brightness;
}

abbrev pub bit : Bool → ℕ
bit false = 0
bit true = 1

-- each by its number, in this order
abbrev pub mode_numbers : Modes → List ℕ
mode_numbers m =
    mode_number m.mode ∷ window_number m.window ∷ bit m.cursor ∷ bit m.user ∷ bit m.recording ∷ bit m.playing ∷ bit m.selected ∷
    m.blink ∷ m.table ∷ m.set ∷ m.brightness ∷ []

-- the bits of a user character, if it is defined
abbrev pub bits_of : Option (List ℕ) → Option ℕ
bits_of None = None
bits_of (Some cs) = Some (user_bits cs)

abbrev pub user_of : Core → ℕ → Option ℕ
user_of c n = bits_of (user_at c.users n)

abbrev pub macro_of : Core → ℕ → Option ℕ
macro_of c n = macro_byte c.tape n
