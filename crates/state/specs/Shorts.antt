-- The short way of a host byte: of one that is only read, or writes a character and nothing else.
use Rattle.std.specs.Prelude.{◌≡◌, ℕ, Bool, true, false, not, ◌&&◌, ◌||◌, if◌then◌else◌, [], Some, None, Ok, Option, nat_lt}
use Rattle.glass.specs.declared.stroke.Ink.TheVariants.{Write}
use Rattle.glass.specs.Places.{inside}
use Rattle.commands.specs.declared.words.Mark.{Mark}
use Rattle.commands.specs.declared.words.Mode.{Mode}
use Rattle.commands.specs.declared.words.Mode.TheVariants.{Overwrite, Vertical, Horizontal}
use Rattle.commands.specs.declared.words.Command.TheVariants.{GoTo}
use Rattle.commands.specs.declared.words.Name.{Name}
use Rattle.commands.specs.declared.outcome.Glance.{Glance}
use Rattle.commands.specs.declared.outcome.Glance.TheVariants as glance
use Rattle.glass.specs.declared.frame.GlassPosition.{GlassPosition}
use Rattle.commands.specs.Sets.{Reads}
use Rattle.state.specs.declared.listener.Voice.TheVariants.{Host}
use Rattle.commands.specs.declared.words.Way.TheVariants as way
use Rattle.state.specs.Cells.{built_in}
use Rattle.state.specs.Layouts.{Layout, here, stepped, cursor_of}
use Rattle.state.specs.Reels.{is_playing, is_recording}
use Rattle.state.specs.Core.{Core, window}
use Rattle.state.specs.Effects.{stroke, types, effect, quietly}
use Rattle.state.specs.Model.{byte, respond, takes}

-- a host byte finds a selected display that neither plays nor records
abbrev pub undisturbed : Core → Bool
undisturbed c = c.selected && (not (is_playing c.tape.current) && not (is_recording c.tape.current))

-- a mode, and in vertical mode a column, from which a step to the right surely draws nothing
abbrev pub quiet : Mode → Layout → Bool
quiet Overwrite l = true
quiet Vertical l = nat_lt l.column (here l).x2
quiet Horizontal l = false

-- a character is a built-in one, put where the cursor stands
abbrev pub plain : Core → Bool
plain c = not c.pen.user && quiet c.pen.mode c.layout

-- the cursor goes right
abbrev pub typed_on : Core → Core
typed_on c = record c { layout = stepped way.Right c.pen.mode c.layout }

-- a host byte is only read
abbrev pub Calm : {R : Type 0} → Reads R → Core → Type 0
Calm {R = R} reads c = (b : ℕ) (r : R) → respond reads (byte b) r c ≡ takes reads Host b [] [] r c

-- a character, with a mark or without, is put where the cursor stands, inside the window, and the cursor goes right
pub record PutsOnly (c : Core) : Type 0 where
  pub types : (n : ℕ) (m : Option Mark) → types n m c ≡ record {
    core = typed_on c;
    answer = Ok (record { first = Some (stroke (window c) (Write (cursor_of c.layout) (built_in n c.pen m))); second = None });
  }
  pub inside : inside (window c) c.layout.column c.layout.row ≡ true

-- the cursor went to a place of the window, or that is outside it
abbrev pub GoesTo : GlassPosition → Name → Core → Bool → Core → Type 0
GoesTo p n c true c' = effect Host (GoTo p n) c ≡ quietly c'
GoesTo p n c false c' = c' ≡ c

-- What is told at a glance of a host byte: where nothing is to be done before it is read, and it is put alone if it is a
-- character, what the command set in force tells; and else nothing.
abbrev pub glance_at : {R : Type 0} → Reads R → R → Core → ℕ → Glance
glance_at reads r c b = if undisturbed c && (nat_lt b 0x20 || plain c) then reads.glance r b else glance.Unread

-- a byte that is read at a glance is only read, and the display is selected
abbrev pub ReadCalmly : {R : Type 0} → Reads R → Glance → Core → Type 0
ReadCalmly reads glance.Unread c = Unit {0}
ReadCalmly reads glance.Pending c = Calm reads c
ReadCalmly reads (glance.Character m) c = Calm reads c × (c.selected ≡ true) × PutsOnly c
ReadCalmly reads (glance.GoTo p n) c = Calm reads c × (c.selected ≡ true)
