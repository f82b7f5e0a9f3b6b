-- What a byte is heard as, under a voice.
use Rattle.std.specs.Prelude.{◌≡◌, ℕ, Some, None, Ok, Err, Option, Result}
use Rattle.commands.specs.declared.outcome.Outcome.{Outcome}
use Rattle.commands.specs.declared.outcome.Outcome.TheVariants.{Pending, Ignored, Complete, Partial, Faulty}
use Rattle.commands.specs.declared.outcome.ReadFault.{ReadFault}
use Rattle.commands.specs.declared.words.Command.TheVariants.{Define}
use Rattle.commands.specs.Sets.{Reads}
use Rattle.state.specs.declared.listener.Voice.{Voice}
use Rattle.state.specs.declared.listener.Item.{Item}

-- the command that a byte completes, if any, with who spoke it; or the reader's fault
abbrev pub heard_as : Voice → Outcome → Result (Option Item) ReadFault
heard_as v Pending = Ok None
heard_as v Ignored = Ok None
heard_as v (Complete c) = Ok (Some (record { voice = v; command = c }))
heard_as v (Partial n bs) = Ok (Some (record { voice = v; command = Define n bs }))
heard_as v (Faulty f) = Err f

-- a byte was read, and this was heard
pub record Hears {R : Type 0} (reads : Reads R) (v : Voice) (q : R) (b : ℕ) (r : Result (Option Item) ReadFault) (q' : R) : Type 0 where
  pub next : q' ≡ (reads.step q b).next
  pub item : r ≡ heard_as v (reads.step q b).outcome
