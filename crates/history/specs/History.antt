-- The history theorem: what two displays show that lived any lives, over panels of any two makes.
use Rattle.panel.specs.Laws.{Make}
use Rattle.std.specs.Prelude.{◌≡◌, Bool, true, false, List, [], ◌++◌, Result}
use Rattle.glass.specs.Places.{holds, whole, inside}
use Rattle.commands.specs.Sets.{Reads}
use Rattle.terms.specs.declared.fault.Fault.{Fault}
use Rattle.terms.specs.Presets.{Preset}
use Rattle.state.specs.Core.{Core, window}
use Rattle.state.specs.Model.{State, Event, new, after, faults, carried, bytes_of}
use Rattle.display.specs.declared.words.Question.{Question}
use Rattle.display.specs.declared.words.Question.TheVariants.{Cell, Cursor, Window, User, Macro, Lamp, Modes}
use Rattle.display.specs.declared.words.Answer.{Answer}
use Rattle.display.specs.declared.words.AskRefusal.{AskRefusal}
use Rattle.display.specs.declared.engine.Display.{Display}
use Rattle.display.specs.Answers.{answer}
use Rattle.display.specs.Calls.{view, Asks}
use Rattle.history.specs.Lives.{Life}
use Rattle.history.specs.Recall.{recall}
use Rattle.history.specs.Confined.{Alike, Keeps, NoneTurns}

-- a question on a place of the glass outside the current window
abbrev pub Outside : Core → Question → Type 0
Outside c (Cell x y) = (holds whole x y ≡ true) × (inside (window c) x y ≡ false)
Outside c Cursor = ⊥
Outside c (Window n) = ⊥
Outside c (User n) = ⊥
Outside c (Macro n) = ⊥
Outside c Lamp = ⊥
Outside c Modes = ⊥

module _ {P R : Type 0} (make : Make P) (reads : Reads R) where
  -- A display shows what the abstract display shows that is in state s and is given these events:
  -- glass, answers, and the faults given from there on, after those given before.
  pub record Shows (s : State R) (before : List Fault) (es : List Event) (fs : List Fault) (d : Display P R) : Type 0 where
    pub state : view make d ≡ after reads s es
    pub glass : make.cells d.panel ≡ (after reads s es).glass
    pub answers : (q : Question) (r : Result Answer AskRefusal) → Asks make d q r → r ≡ answer (after reads s es) q
    pub given : fs ≡ before ++ faults reads s es

  -- Every life shows what the abstract display shows that is given the same settings and events.
  abbrev pub Shown : Type 0
  Shown = (settings : Preset) (es : List Event) (fs : List Fault) (d : Display P R) →
      Life make reads settings es fs d → Shows (new reads settings) [] es fs d

  -- From the recall on, wherever it stands among the accepted bytes and with ticks anywhere among its own,
  -- a display shows what a new one shows that is given only what comes after.
  abbrev pub Recalled : Type 0
  Recalled = (settings : Preset) (es rs ps : List Event) (fs : List Fault) (d : Display P R) →
      Life make reads settings (es ++ (rs ++ ps)) fs d → bytes_of rs ≡ recall → Shows (new reads settings) (faults reads (new reads settings) (es ++ rs)) ps fs d

module _ {P Q R : Type 0}
    (make : Make P)
    (make' : Make Q)
    (reads : Reads R) where
  -- two displays with the same glass and answers; the faults of each, after those given before, are the same
  pub record Same (a : Display P R) (b : Display Q R) (before before' fs fs' : List Fault) : Type 0 where
    pub glass : make.cells a.panel ≡ make'.cells b.panel
    pub answers : (q : Question) (r r' : Result Answer AskRefusal) → Asks make a q r → Asks make' b q r' → r ≡ r'
    pub since : List Fault
    pub left : fs ≡ before ++ since
    pub right : fs' ≡ before' ++ since

  -- Two lives with the same settings and accepted events are the same, whatever their pieces, panels and other calls.
  abbrev pub Twins : Type 0
  Twins = (settings : Preset) (es : List Event) (fs fs' : List Fault) (a : Display P R) (b : Display Q R) →
      Life make reads settings es fs a → Life make' reads settings es fs' b → Same a b [] [] fs fs'

  -- of two displays that lived the same events with the same settings, it is said that they are the same
  abbrev pub Tells : Display P R → List Fault → Display Q R → List Fault → Bool → Type 0
  Tells a fs b fs' r = (settings : Preset) (es : List Event) → Life make reads settings es fs a → Life make' reads settings es fs' b → r ≡ true

  -- Two lives with the same settings and any pasts are the same from their recalls on.
  abbrev pub Rejoined : Type 0
  Rejoined = (settings : Preset) (es es' rs rs' ps : List Event) (fs fs' : List Fault) (a : Display P R) (b : Display Q R) →
      Life make reads settings (es ++ (rs ++ ps)) fs a → Life make' reads settings (es' ++ (rs' ++ ps)) fs' b →
      bytes_of rs ≡ recall → bytes_of rs' ≡ recall → Same a b (faults reads (new reads settings) (es ++ rs)) (faults reads (new reads settings) (es' ++ rs')) fs fs'

  -- what lies outside the current window of s and t, where two lives came to differ there only
  pub record Confines (s t : State R) (ps : List Event) (before before' fs fs' : List Fault) (a : Display P R) (b : Display Q R) : Type 0 where
    pub alike : Alike (view make a) (view make' b)
    pub left : Keeps s (view make a)
    pub right : Keeps t (view make' b)
    pub answers : (q : Question) (r r' : Result Answer AskRefusal) → (Outside (view make a).core q → ⊥) →
        Asks make a q r → Asks make' b q r' → r ≡ r'
    pub given : fs ≡ before ++ faults reads s ps
    pub given' : fs' ≡ before' ++ faults reads s ps

  -- Where two displays differ only in cells outside the current window and are then given the same events, none of which
  -- carries out a window command or ESC @, they still share the inside and all the rest, and each keeps its outside.
  abbrev pub ConfinedLives : Type 0
  ConfinedLives = (settings settings' : Preset) (es es' ps : List Event) (fs fs' : List Fault) (a : Display P R) (b : Display Q R) →
      Life make reads settings (es ++ ps) fs a → Life make' reads settings' (es' ++ ps) fs' b →
      Alike (after reads (new reads settings) es) (after reads (new reads settings') es') → NoneTurns (carried reads (after reads (new reads settings) es) ps) →
      Confines (after reads (new reads settings) es) (after reads (new reads settings') es') ps (faults reads (new reads settings) es) (faults reads (new reads settings') es') fs fs' a b

  pub record History : Type 0 where
    pub shown : Shown make reads
    pub shown' : Shown make' reads
    pub twins : Twins
    pub recalled : Recalled make reads
    pub recalled' : Recalled make' reads
    pub rejoined : Rejoined
    pub confined : ConfinedLives
