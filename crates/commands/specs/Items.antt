-- Which outcomes end an item, and which commands are characters.
use Rattle.std.specs.Prelude.{Bool, true, false, None}
use Rattle.commands.specs.declared.outcome.Outcome.{Outcome}
use Rattle.commands.specs.declared.outcome.Outcome.TheVariants.{Pending, Ignored, Complete, Partial, Faulty}
use Rattle.commands.specs.declared.words.Command.{Command}
use Rattle.commands.specs.declared.words.Command.TheVariants.{Character}

abbrev pub ends : Outcome → Bool
ends Pending = false
ends Ignored = true
ends (Complete command) = true
ends (Partial code columns) = false
ends (Faulty fault) = true

-- a plain character, of one byte; a character with a mark is a command
abbrev pub is_character : Command → Bool
is_character (Character code None) = true
is_character command = false
