-- The abstract display: forty cells and a state, given bytes and ticks one by one. It has no panel and knows no pieces.
use Rattle.std.specs.Prelude.{◌≡◌, ℕ, Bool, true, false, cond, ◌&&◌, ◌||◌, List, [], ◌∷◌, ◌++◌, replicate, Some, None, Ok, Err, Option, Result}
use Rattle.glass.specs.declared.stroke.Stroke.{Stroke}
use Rattle.glass.specs.declared.stroke.Ink.TheVariants.{Blank}
use Rattle.glass.specs.Drawn.{drawn_all, blank}
use Rattle.commands.specs.declared.words.Command.{Command}
use Rattle.commands.specs.declared.words.Command.TheVariants.{Select}
use Rattle.commands.specs.declared.words.Dialect.TheVariants.{EscPos}
use Rattle.commands.specs.declared.words.Name.{Name}
use Rattle.commands.specs.declared.words.Refusal.{Refusal}
use Rattle.commands.specs.declared.words.Spot.TheVariants as spot
use Rattle.commands.specs.declared.outcome.ReadFault.{ReadFault}
use Rattle.commands.specs.Sets.{Reads}
use Rattle.terms.specs.declared.fault.DisplayFault.{DisplayFault}
use Rattle.terms.specs.declared.fault.DisplayFault.TheVariants.{Read, Refused}
use Rattle.terms.specs.declared.fault.Fault.{Fault}
use Rattle.terms.specs.declared.fault.Fault.TheVariants.{Said, Played}
use Rattle.terms.specs.Presets.{Preset}
use Rattle.state.specs.declared.controller.Controller.{Controller}
use Rattle.state.specs.declared.controller.HostReply.{HostReply}
use Rattle.state.specs.declared.controller.Reply.{Reply}
use Rattle.state.specs.declared.controller.Strokes.{Strokes}
use Rattle.state.specs.declared.listener.Item.{Item}
use Rattle.state.specs.declared.listener.Voice.{Voice}
use Rattle.state.specs.declared.listener.Voice.TheVariants.{Host, Macro}
use Rattle.state.specs.Core.{Core, core_of, fresh, window}
use Rattle.state.specs.Effects.{Effect, effect, jumps, no_strokes, one, stroke, strokes_of}
use Rattle.state.specs.Heard.{heard_as}
use Rattle.state.specs.Lamps.{lamp_ticked}
use Rattle.state.specs.Reels.{is_playing}
use Rattle.state.specs.Tapes.{stopped, stored, overflow, wound, due}
use Rattle.state.specs.Voices.{from_host}

-- what happens to a display: a byte comes, or ten milliseconds pass
pub data Event : Type 0 where
  byte : ℕ → Event
  tick : Event

abbrev pub selects : Command → Bool
selects (Select b) = true
selects command = false

-- what is carried out while the display is deselected: a selecting or deselecting command from the host alone
abbrev pub heeded : Voice → Command → Bool
heeded v d = from_host v && selects d

-- what came of a byte that was read: the state, what is drawn or the fault, and the commands that took effect
pub record Act : Type 0 where
  pub core : Core
  pub answer : Result Strokes DisplayFault
  pub carried : List Command

abbrev pub idle : Core → Act
idle c = record { core = c; answer = Ok no_strokes; carried = [] }

-- a command that is refused took no effect
abbrev pub took : Command → Result Strokes DisplayFault → List Command
took d (Ok s) = d ∷ []
took d (Err f) = []

abbrev pub did : Command → Effect → Act
did d e = record { core = e.core; answer = e.answer; carried = took d e.answer }

abbrev pub obeyed : Result (Option Item) ReadFault → Core → Act
obeyed (Ok None) c = idle c
obeyed (Ok (Some i)) c = cond (c.selected || heeded i.voice i.command) (did i.command (effect i.voice i.command c)) (idle c)
obeyed (Err f) c = record { core = c; answer = Err (Read f); carried = [] }

-- a fault draws nothing
abbrev pub strokes_in : Result Strokes DisplayFault → Strokes
strokes_in (Ok s) = s
strokes_in (Err f) = no_strokes

abbrev pub drawn_by : Result Strokes DisplayFault → List Stroke
drawn_by a = strokes_of (strokes_in a)

-- a fault of the macro is carried whole inside a played one
abbrev pub told : Voice → DisplayFault → Fault
told Host f = Said f
told Macro f = Played f

-- no fault is reported while the display is deselected
abbrev pub reported : Voice → Bool → Result Strokes DisplayFault → List Fault
reported v b (Ok s) = []
reported v b (Err f) = cond b (told v f ∷ []) []

-- A host byte ends a playback: the window is blanked, the cursor goes home.
abbrev pub ended : Core → Core
ended c = cond (is_playing c.tape.current) (record (jumps spot.Home c) { tape = stopped c.tape }) c

abbrev pub ending : Core → List Stroke
ending c = cond (is_playing c.tape.current) (stroke (window c) Blank ∷ []) []

-- A recording stores a host byte, or ends at it; not while the display is deselected.
abbrev pub kept : ℕ → Core → Core
kept b c = cond c.selected (record c { tape = stored c.tape b }) c

-- the command that opens and closes recordings, which a recording that is too long is told of
abbrev pub recording : Name
recording = record { first = 0x1F; second = 0x3A }

abbrev pub said : Option Refusal → List Fault
said None = []
said (Some r) = Said (Refused r recording) ∷ []

abbrev pub overflows : Core → List Fault
overflows c = cond c.selected (said (overflow c.tape)) []

-- the state in which a host byte is read
abbrev pub before : ℕ → Core → Core
before b c = kept b (ended c)

-- a tick moves the lamp, and then the macro
abbrev pub ticked : Core → Core
ticked c = record c { lamp = lamp_ticked c.lamp; tape = wound c.tape }

abbrev pub fault_of : Option Fault → List Fault
fault_of None = []
fault_of (Some f) = f ∷ []

-- the bytes among events
abbrev pub bytes_of : List Event → List ℕ
bytes_of [] = []
bytes_of (byte b ∷ es) = b ∷ bytes_of es
bytes_of (tick ∷ es) = bytes_of es

-- what an event leaves, draws and gives
pub record Response (R : Type 0) : Type 0 where
  pub reading : R
  pub core : Core
  pub strokes : List Stroke
  pub faults : List Fault
  pub carried : List Command

-- The display, with its glass.
pub record State (R : Type 0) : Type 0 where
  pub reading : R
  pub core : Core
  pub glass : List ℕ

-- Over any command sets.
module _ {R : Type 0} (reads : Reads R) where
  -- a host byte that ends a playback forgets a half-read command
  abbrev pub forgotten : R → Core → R
  forgotten r c = cond (is_playing c.tape.current) (reads.rest (reads.dialect r)) r

  -- a byte is read, and what it completes is carried out
  abbrev pub taken : Voice → ℕ → R → Core → Act
  taken v b r c = obeyed (heard_as v (reads.step r b).outcome) c

  -- a byte is taken in a state, after some strokes and faults of the same event
  abbrev pub takes : Voice → ℕ → List Stroke → List Fault → R → Core → Response R
  takes v b ss fs r c = record {
    reading = (reads.step r b).next;
    core = (taken v b r c).core;
    strokes = ss ++ drawn_by (taken v b r c).answer;
    faults = fs ++ reported v c.selected (taken v b r c).answer;
    carried = (taken v b r c).carried;
  }

  -- what comes of the macro's byte, if one is due
  abbrev pub acted : Option ℕ → R → Core → Act
  acted None r c = idle c
  acted (Some b) r c = taken Macro b r c

  abbrev pub played : Option ℕ → R → Core → Response R
  played None r c = record { reading = r; core = c; strokes = []; faults = []; carried = [] }
  played (Some b) r c = takes Macro b [] [] r c

  abbrev pub respond : Event → R → Core → Response R
  respond (byte b) r c = takes Host b (ending c) (overflows (ended c)) (forgotten r c) (before b c)
  respond tick r c = played (due c.tape) r (ticked c)

  -- a controller's reply to a host byte is the rules' response, whole and part by part
  pub record Replies (b : ℕ) (c : Controller R) (r : HostReply) (c' : Controller R) : Type 0 where
    pub reading : c'.listener.reading ≡ (respond (byte b) c.listener.reading (core_of c.machine)).reading
    pub core : core_of c'.machine ≡ (respond (byte b) c.listener.reading (core_of c.machine)).core
    pub strokes : one r.ending ++ strokes_of r.reply.strokes ≡ (respond (byte b) c.listener.reading (core_of c.machine)).strokes
    pub faults : fault_of r.overflow ++ fault_of r.reply.fault ≡ (respond (byte b) c.listener.reading (core_of c.machine)).faults
    -- the stroke that ends a playback
    pub ending : one r.ending ≡ ending (core_of c.machine)
    -- the fault of a recording that is too long
    pub overflow : fault_of r.overflow ≡ overflows (ended (core_of c.machine))
    -- the strokes and the fault of the byte that is then read
    pub drawn : r.reply.strokes ≡ strokes_in (taken Host b (forgotten c.listener.reading (core_of c.machine)) (before b (core_of c.machine))).answer
    pub fault : fault_of r.reply.fault ≡ reported Host (before b (core_of c.machine)).selected (taken Host b (forgotten c.listener.reading (core_of c.machine)) (before b (core_of c.machine))).answer

  -- and so is its reply to a tick
  pub record Moves (c : Controller R) (r : Reply) (c' : Controller R) : Type 0 where
    pub reading : c'.listener.reading ≡ (respond tick c.listener.reading (core_of c.machine)).reading
    pub core : core_of c'.machine ≡ (respond tick c.listener.reading (core_of c.machine)).core
    pub strokes : strokes_of r.strokes ≡ (respond tick c.listener.reading (core_of c.machine)).strokes
    pub fault : fault_of r.fault ≡ (respond tick c.listener.reading (core_of c.machine)).faults
    -- the strokes of the macro's byte
    pub drawn : r.strokes ≡ strokes_in (acted (due (core_of c.machine).tape) c.listener.reading (ticked (core_of c.machine))).answer

  -- the controller of a new display
  pub record Begins (p : Preset) (c : Controller R) : Type 0 where
    pub reading : c.listener.reading ≡ reads.rest EscPos
    pub core : core_of c.machine ≡ fresh p

  abbrev pub new : Preset → State R
  new p = record { reading = reads.rest EscPos; core = fresh p; glass = replicate 40 blank }

  abbrev pub reply : Event → State R → Response R
  reply e s = respond e s.reading s.core

  abbrev pub next : State R → Event → State R
  next s e = record { reading = (reply e s).reading; core = (reply e s).core; glass = drawn_all (reply e s).strokes s.glass }

  -- Runs: the state after events, the faults joined, the commands carried out.
  abbrev pub after : State R → List Event → State R
  after s [] = s
  after s (e ∷ es) = after (next s e) es

  abbrev pub faults : State R → List Event → List Fault
  faults s [] = []
  faults s (e ∷ es) = (reply e s).faults ++ faults (next s e) es

  abbrev pub carried : State R → List Event → List Command
  carried s [] = []
  carried s (e ∷ es) = (reply e s).carried ++ carried (next s e) es
