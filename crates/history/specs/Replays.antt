-- What a script says: its events, in order, and what it does to the panel.
use Rattle.panel.specs.Laws.{Make, Reached}
use Rattle.std.specs.Prelude.{◌≡◌, List, [], ◌∷◌, ◌++◌}
use Rattle.std.specs.List.{flat_map}
use Rattle.commands.specs.Sets.{Reads}
use Rattle.terms.specs.declared.fault.Fault.{Fault}
use Rattle.terms.specs.Presets.{Preset}
use Rattle.state.specs.Model.{Event, byte, tick}
use Rattle.display.specs.declared.engine.Display.{Display}
use Rattle.history.specs.declared.replay.words.Happening.{Happening}
use Rattle.history.specs.declared.replay.words.Happening.TheVariants.{Byte, Tick, Painted}
use Rattle.history.specs.Lives.{Calls, Life}

-- the event that a display accepts; being painted is none
abbrev pub event_of : Happening → List Event
event_of (Byte b) = byte b ∷ []
event_of Tick = tick ∷ []
event_of Painted = []

abbrev pub events_of : List Happening → List Event
events_of hs = flat_map event_of hs

module _ {P : Type 0} (make : Make P) where
  -- what a happening does to the panel: puts alone, or its own `painted`, once
  abbrev pub Handles : Happening → P → P → Type 0
  Handles (Byte b) p q = Reached make.puts p q
  Handles Tick p q = Reached make.puts p q
  Handles Painted p q = make.paints p q

  -- what switching on and then a script do to the panel
  pub data Handled (p : P) : List Happening → P → Type 0 where
    on : {q : P} → Reached make.puts p q → Handled p [] q
    then : {q r : P} {hs : List Happening} (h : Happening) → Handled p hs q → Handles h q r → Handled p (hs ++ h ∷ []) r

  -- what a script does to the panel that it finds
  pub data HandlesAll (p : P) : List Happening → P → Type 0 where
    nothing : HandlesAll p [] p
    further : {q r : P} {hs : List Happening} (h : Happening) → HandlesAll p hs q → Handles h q r → HandlesAll p (hs ++ h ∷ []) r

module _ {P R : Type 0} (make : Make P) (reads : Reads R) where
  -- A display accepts the event, by calls, and the faults that they give are added to those collected before.
  pub record Happens (h : Happening) (d : Display P R) (before : List Fault) (d' : Display P R) (all : List Fault) : Type 0 where
    pub given : List Fault
    pub calls : Calls make reads d (event_of h) given d'
    pub joined : all ≡ before ++ given
    pub panel : Handles make h d.panel d'.panel

  -- A display goes through a script: the same of all its events, in order.
  pub record GoesThrough (hs : List Happening) (d : Display P R) (before : List Fault) (d' : Display P R) (all : List Fault) : Type 0 where
    pub given : List Fault
    pub calls : Calls make reads d (events_of hs) given d'
    pub joined : all ≡ before ++ given
    pub panel : HandlesAll make d.panel hs d'.panel

  -- Whatever events a display lived so far, giving these faults, it lives on by those of a script, giving the faults that then stand.
  abbrev pub LivesOn : List Happening → Display P R → List Fault → Display P R → List Fault → Type 0
  LivesOn hs d fs d' fs' = (settings : Preset) (es : List Event) → Life make reads settings es fs d → Life make reads settings (es ++ events_of hs) fs' d'
