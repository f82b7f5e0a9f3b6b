-- What a question is answered, from the state alone.
use Rattle.std.specs.Prelude.{ℕ, List, Some, None, Ok, Err, Option, Result, slice_index}
use Rattle.glass.specs.Places.{place_at}
use Rattle.state.specs.Lamps.{lamp_lit}
use Rattle.state.specs.Layouts.{cursor_of, window_area}
use Rattle.state.specs.Questions.{modes_of, user_of, macro_of}
use Rattle.state.specs.Model.{State}
use Rattle.display.specs.declared.words.Question.{Question}
use Rattle.display.specs.declared.words.Question.TheVariants as ask
use Rattle.display.specs.declared.words.Answer.{Answer}
use Rattle.display.specs.declared.words.Answer.TheVariants as say
use Rattle.display.specs.declared.words.AskRefusal.{AskRefusal}
use Rattle.display.specs.declared.words.AskRefusal.TheVariants.{OffGlass}

-- the cell at a place of the glass; off the glass there is none
abbrev pub cell_at : List ℕ → Option ℕ → Result Answer AskRefusal
cell_at g None = Err OffGlass
cell_at g (Some k) = Ok (say.Cell (slice_index g k))

abbrev pub answer : {R : Type 0} → State R → Question → Result Answer AskRefusal
answer s (ask.Cell x y) = cell_at s.glass (place_at x y)
answer s ask.Cursor = Ok (say.Cursor (cursor_of s.core.layout))
answer s (ask.Window n) = Ok (say.Window (window_area s.core.layout.slots n))
answer s (ask.User n) = Ok (say.User (user_of s.core n))
answer s (ask.Macro n) = Ok (say.Macro (macro_of s.core n))
answer s ask.Lamp = Ok (say.Lamp (lamp_lit s.core.lamp))
answer s ask.Modes = Ok (say.Modes (modes_of s.core))
