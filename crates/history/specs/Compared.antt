-- Displays compared, over panels of any two makes.
use Rattle.panel.specs.Laws.{Make}
use Rattle.std.specs.Prelude.{◌≡◌, ℕ}
use Rattle.display.specs.declared.words.Question.{Question}
use Rattle.display.specs.declared.words.Question.TheVariants.{Cell, Cursor, Window, User, Macro, Lamp, Modes}
use Rattle.display.specs.declared.engine.Display.{Display}
use Rattle.display.specs.Answers.{answer}
use Rattle.display.specs.Calls.{view}

module _ {P Q R : Type 0} (make : Make P) (make' : Make Q) (a : Display P R) (b : Display Q R) where
  -- both answer a question alike
  abbrev pub AgreeOn : Question → Type 0
  AgreeOn q = answer (view make a) q ≡ answer (view make' b) q

  -- both answer every question alike
  abbrev pub Agree : Type 0
  Agree = (q : Question) → AgreeOn q

  -- its parts
  abbrev pub AgreeOnGlass : Type 0
  AgreeOnGlass = (x y : ℕ) → AgreeOn (Cell x y)

  abbrev pub AgreeOnWindows : Type 0
  AgreeOnWindows = (n : ℕ) → AgreeOn (Window n)

  abbrev pub AgreeOnUsers : Type 0
  AgreeOnUsers = (n : ℕ) → AgreeOn (User n)

  abbrev pub AgreeOnMacro : Type 0
  AgreeOnMacro = (n : ℕ) → AgreeOn (Macro n)

  abbrev pub AgreeOnTables : Type 0
  AgreeOnTables = AgreeOnWindows × AgreeOnUsers × AgreeOnMacro

  abbrev pub AgreeOnRest : Type 0
  AgreeOnRest = AgreeOn Cursor × AgreeOn Lamp × AgreeOn Modes

  abbrev pub AgreeInParts : Type 0
  AgreeInParts = AgreeOnGlass × AgreeOnTables × AgreeOnRest
