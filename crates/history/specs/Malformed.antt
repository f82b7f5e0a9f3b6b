-- Malformed and refused commands leave nothing behind but a fault.
use Rattle.std.specs.Prelude.{◌≡◌, ℕ, false, cond, List, [], ◌∷◌, ◌++◌, Some, None, Err}
use Rattle.glass.specs.declared.stroke.Stroke.{Stroke}
use Rattle.commands.specs.declared.words.Command.{Command}
use Rattle.commands.specs.declared.outcome.Outcome.TheVariants.{Faulty}
use Rattle.commands.specs.declared.outcome.ReadFault.{ReadFault}
use Rattle.commands.specs.Sets.{Reads}
use Rattle.terms.specs.declared.fault.DisplayFault.{DisplayFault}
use Rattle.terms.specs.declared.fault.DisplayFault.TheVariants.{Read}
use Rattle.terms.specs.declared.fault.Fault.{Fault}
use Rattle.state.specs.declared.listener.Voice.{Voice}
use Rattle.state.specs.declared.listener.Voice.TheVariants.{Host, Macro}
use Rattle.state.specs.Lamps.{lamp_ticked}
use Rattle.state.specs.Reels.{is_playing, is_recording}
use Rattle.state.specs.Tapes.{due}
use Rattle.state.specs.Core.{Core}
use Rattle.state.specs.Effects.{effect}
use Rattle.state.specs.Model.{Response, byte, tick, told, ending, ended, overflows, before, ticked, forgotten, takes, respond}

-- what a host byte leaves alone before it is read: all but the cursor and the tape
pub record Spared (c e : Core) : Type 0 where
  pub settings : e.settings ≡ c.settings
  pub windows : e.layout.slots ≡ c.layout.slots
  pub current : e.layout.current ≡ c.layout.current
  pub modes : e.pen ≡ c.pen
  pub shown : e.shown ≡ c.shown
  pub brightness : e.brightness ≡ c.brightness
  pub lamp : e.lamp ≡ c.lamp
  pub selected : e.selected ≡ c.selected
  pub users : e.users ≡ c.users

module _ {R : Type 0} (reads : Reads R) where
  -- A byte that was read in state c, where q was being read, only ended that: beyond strokes and faults that came before it,
  -- nothing is drawn or carried out, and a selected display reports the fault.
  pub record Dropped (v : Voice) (q : R) (c : Core) (ss : List Stroke) (fs : List Fault) (f : ReadFault) (r : Response R) : Type 0 where
    pub reading : r.reading ≡ reads.rest (reads.dialect q)
    pub core : r.core ≡ c
    pub strokes : r.strokes ≡ ss
    pub carried : r.carried ≡ []
    pub faults : r.faults ≡ fs ++ cond c.selected (told v (Read f) ∷ []) []

  pub record Malformed : Type 0 where
    -- a host byte that makes its command malformed drops that command
    pub dropped : (q : R) (c : Core) (b : ℕ) (f : ReadFault) → (reads.step (forgotten reads q c) b).outcome ≡ Faulty f →
        Dropped Host q (before b c) (ending c) (overflows (ended c)) f (respond reads (byte b) q c)
    -- where nothing plays and nothing records, the byte does nothing else
    pub plain : (q : R) (c : Core) (b : ℕ) (f : ReadFault) → is_playing c.tape.current ≡ false → is_recording c.tape.current ≡ false →
        (reads.step q b).outcome ≡ Faulty f → Dropped Host q c [] [] f (respond reads (byte b) q c)
    -- and so does a byte of the macro
    pub played : (q : R) (c : Core) (b : ℕ) (f : ReadFault) → due c.tape ≡ Some b → (reads.step q b).outcome ≡ Faulty f →
        Dropped Macro q (ticked c) [] [] f (respond reads tick q c)
    -- What comes before it is read: a host byte can end a playback, which moves the cursor, and is stored or ends a recording.
    pub spared : (b : ℕ) (c : Core) → Spared c (before b c)
    pub still : (b : ℕ) (c : Core) → is_playing c.tape.current ≡ false → before b c ≡ record c { tape = (before b c).tape }
    pub none : (b : ℕ) (c : Core) → is_playing c.tape.current ≡ false → is_recording c.tape.current ≡ false → before b c ≡ c
    -- where nothing plays, it is read in the very reading that it finds
    pub found : (q : R) (c : Core) → is_playing c.tape.current ≡ false → forgotten reads q c ≡ q
    -- a tick moves the lamp and the tape alone, and the tape only while it plays
    pub ticking : (c : Core) → ticked c ≡ record c { lamp = lamp_ticked c.lamp; tape = (ticked c).tape }
    pub silent : (c : Core) → is_playing c.tape.current ≡ false → ticked c ≡ record c { lamp = lamp_ticked c.lamp }
    -- A tick that brings no byte of the macro leaves the reading; a byte that one brings is read in the reading that the tick finds.
    pub waits : (q : R) (c : Core) → due c.tape ≡ None → (respond reads tick q c).reading ≡ q
    pub brings : (q : R) (c : Core) (b : ℕ) → due c.tape ≡ Some b → respond reads tick q c ≡ takes reads Macro b [] [] q (ticked c)
    -- where nothing plays, no tick brings one
    pub quiet : (c : Core) → is_playing c.tape.current ≡ false → due c.tape ≡ None
    -- a well-formed command that the display refuses changes nothing
    pub refused : (v : Voice) (d : Command) (c : Core) (f : DisplayFault) → (effect v d c).answer ≡ Err f → (effect v d c).core ≡ c
