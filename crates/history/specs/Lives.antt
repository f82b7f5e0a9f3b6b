-- The life of a display: switching on, and then any calls in any order, refused ones too.
use Rattle.panel.specs.Laws.{Make}
use Rattle.std.specs.Prelude.{◌≡◌, ℕ, List, [], ◌∷◌, ◌++◌, map, Ok, Err, Option, Result}
use Rattle.list.specs.declared.list.BoundedList.{BoundedList}
use Rattle.list.specs.Entries.{entries}
use Rattle.terms.specs.declared.fault.Fault.{Fault}
use Rattle.terms.specs.Presets.{Preset}
use Rattle.commands.specs.Sets.{Reads}
use Rattle.state.specs.Model.{Event, byte, tick, fault_of}
use Rattle.display.specs.declared.words.Question.{Question}
use Rattle.display.specs.declared.words.Answer.{Answer}
use Rattle.display.specs.declared.words.AskRefusal.{AskRefusal}
use Rattle.display.specs.declared.words.FeedRefusal.{FeedRefusal}
use Rattle.display.specs.declared.engine.Display.{Display}
use Rattle.display.specs.Calls.{SwitchesOn, Feeds, Ticks, Paints, Asks}

-- the events of a fed piece: its bytes, where feeding accepted it
abbrev pub accepted : Result ℕ FeedRefusal → List ℕ → List Event
accepted (Ok n) piece = map byte piece
accepted (Err e) piece = []

module _ {P R : Type 0} (make : Make P) (reads : Reads R) where
  -- Calls one after another, from a display to the display at their end, with the events accepted and the faults given.
  pub data Calls (d : Display P R) : List Event → List Fault → Display P R → Type 0 where
    none : Calls d [] [] d
    fed : {es : List Event} {fs : List Fault} {d₁ d₂ : Display P R} (given : List Fault) (piece : List ℕ) (l l' : BoundedList Fault) (r : Result ℕ FeedRefusal) →
        Calls d es fs d₁ → Feeds make reads d₁ piece l r d₂ l' → entries l' ≡ entries l ++ given → Calls d (es ++ accepted r piece) (fs ++ given) d₂
    ticked : {es : List Event} {fs : List Fault} {d₁ d₂ : Display P R} (r : Option Fault) →
        Calls d es fs d₁ → Ticks make reads d₁ r d₂ → Calls d (es ++ tick ∷ []) (fs ++ fault_of r) d₂
    painted : {es : List Event} {fs : List Fault} {d₁ d₂ : Display P R} →
        Calls d es fs d₁ → Paints make d₁ d₂ → Calls d es fs d₂
    asked : {es : List Event} {fs : List Fault} {d₁ : Display P R} (q : Question) (r : Result Answer AskRefusal) →
        Calls d es fs d₁ → Asks make d₁ q r → Calls d es fs d₁

  -- since switching on with these settings, over some panel
  pub record Life (settings : Preset) (es : List Event) (fs : List Fault) (d : Display P R) : Type 0 where
    pub panel : P
    pub first : Display P R
    pub on : SwitchesOn make reads settings panel first
    pub calls : Calls first es fs d
