-- What each call does to a display over any panel, for every input.
use Rattle.std.specs.Prelude.{◌≡◌, ℕ, ◌+◌, ◌-◌, ◌*◌, cond, List, [], ◌∷◌, ◌++◌, map, length, Some, None, Ok, Err, Option, Result, MatchOption, nat_lt, slice_set}
use Rattle.list.specs.declared.list.BoundedList.{BoundedList}
use Rattle.list.specs.Entries.{entries, places, capacity}
use Rattle.panel.specs.Laws.{Make, Reached}
use Rattle.terms.specs.declared.fault.Fault.{Fault}
use Rattle.terms.specs.Presets.{Preset}
use Rattle.glass.specs.Drawn.{drawn_all}
use Rattle.panel.specs.Steps.{written}
use Rattle.commands.specs.declared.words.Mark.{Mark}
use Rattle.commands.specs.declared.words.Command.{Command}
use Rattle.commands.specs.declared.outcome.Outcome.TheVariants.{Complete}
use Rattle.commands.specs.Sets.{Reads}
use Rattle.state.specs.declared.listener.Voice.TheVariants.{Host}
use Rattle.state.specs.Cells.{built_in}
use Rattle.state.specs.Heard.{heard_as}
use Rattle.state.specs.Shorts.{typed_on}
use Rattle.state.specs.Core.{core_of}
use Rattle.state.specs.Model.{State, Act, byte, tick, new, next, reply, after, faults, fault_of, obeyed, drawn_by, reported}
use Rattle.display.specs.declared.words.Question.{Question}
use Rattle.display.specs.declared.words.Answer.{Answer}
use Rattle.display.specs.declared.words.AskRefusal.{AskRefusal}
use Rattle.display.specs.declared.words.FeedRefusal.{FeedRefusal}
use Rattle.display.specs.declared.words.FeedRefusal.TheVariants.{LongPiece, FewPlaces}
use Rattle.display.specs.declared.engine.Display.{Display}
use Rattle.display.specs.Answers.{answer}

-- a display's state, given what its panel means
abbrev pub view : {P R : Type 0} → Make P → Display P R → State R
view make d = record { reading = d.controller.listener.reading; core = core_of d.controller.machine; glass = make.cells d.panel }

-- how many fault places a piece needs
abbrev pub room_needed : List ℕ → ℕ
room_needed piece = 2 * length piece

abbrev pub free : BoundedList Fault → ℕ
free l = capacity l - length (entries l)

-- why a piece is refused: the first cause in this order
abbrev pub feed_cause : List ℕ → BoundedList Fault → Option FeedRefusal
feed_cause piece l = cond (nat_lt 4096 (length piece)) (Some LongPiece) (cond (nat_lt (free l) (room_needed piece)) (Some FewPlaces) None)

-- places after entries were laid into them one after another, from place n on
abbrev pub laid : {A : Type 0} → List A → ℕ → List A → List A
laid xs n [] = xs
laid xs n (y ∷ ys) = laid (slice_set xs n y) (n + 1) ys

-- a list to which these entries were appended: the same lent places, the others as they were
pub record Grown (l : BoundedList Fault) (given : List Fault) (l' : BoundedList Fault) : Type 0 where
  pub list : entries l' ≡ entries l ++ given
  pub places : places l' ≡ laid (places l) (length (entries l)) given
  pub lent : l'.slots.ghost_name ≡ l.slots.ghost_name

module _ {P R : Type 0} (make : Make P) (reads : Reads R) where
  -- a new display of these settings; the panel was reached by puts alone
  pub record SwitchesOn (settings : Preset) (p : P) (d : Display P R) : Type 0 where
    pub state : view make d ≡ new reads settings
    pub reached : Reached make.puts p d.panel

  -- one byte is given, and its faults to the list; the panel is reached by puts alone
  pub record Takes (d : Display P R) (b : ℕ) (l : BoundedList Fault) (d' : Display P R) (l' : BoundedList Fault) : Type 0 where
    pub state : view make d' ≡ next reads (view make d) (byte b)
    pub grown : Grown l (reply reads (byte b) (view make d)).faults l'
    pub reached : Reached make.puts d.panel d'.panel

  -- the piece is accepted: its bytes are given to the display one by one, and its faults to the list
  pub record Accepts (d : Display P R) (piece : List ℕ) (l : BoundedList Fault) (r : Result ℕ FeedRefusal) (d' : Display P R) (l' : BoundedList Fault) : Type 0 where
    pub state : view make d' ≡ after reads (view make d) (map byte piece)
    pub grown : Grown l (faults reads (view make d) (map byte piece)) l'
    pub answers : r ≡ Ok (length (faults reads (view make d) (map byte piece)))
    pub reached : Reached make.puts d.panel d'.panel

  -- the piece is refused: everything is as it was
  pub record Refuses (e : FeedRefusal) (d : Display P R) (l : BoundedList Fault) (r : Result ℕ FeedRefusal) (d' : Display P R) (l' : BoundedList Fault) : Type 0 where
    pub display : d' ≡ d
    pub list : l' ≡ l
    pub answers : r ≡ Err e

  abbrev pub Feeds : Display P R → List ℕ → BoundedList Fault → Result ℕ FeedRefusal → Display P R → BoundedList Fault → Type 0
  Feeds d piece l r d' l' = MatchOption (feed_cause piece l) (Accepts d piece l r d' l') (λ e. Refuses e d l r d' l')

  pub record Ticks (d : Display P R) (r : Option Fault) (d' : Display P R) : Type 0 where
    pub state : view make d' ≡ next reads (view make d) tick
    pub fault : fault_of r ≡ (reply reads tick (view make d)).faults
    pub reached : Reached make.puts d.panel d'.panel

module _ {P R : Type 0} (make : Make P) where
  -- the panel's own `painted`, once
  pub record Paints (d d' : Display P R) : Type 0 where
    pub panel : make.paints d.panel d'.panel
    pub controller : d'.controller ≡ d.controller

  abbrev pub Asks : Display P R → Question → Result Answer AskRefusal → Type 0
  Asks d q r = r ≡ answer (view make d) q

  abbrev pub SwitchesOff : Display P R → P → Type 0
  SwitchesOff d p = p ≡ d.panel

  -- a character is put where the cursor stands, which then goes right
  pub record Puts (n : ℕ) (m : Option Mark) (d d' : Display P R) : Type 0 where
    pub reading : d'.controller.listener.reading ≡ d.controller.listener.reading
    pub core : core_of d'.controller.machine ≡ typed_on (core_of d.controller.machine)
    pub cells : make.cells d'.panel ≡ written (core_of d.controller.machine).layout.column (core_of d.controller.machine).layout.row (built_in n d.controller.machine.pen m) (make.cells d.panel)
    pub reached : Reached make.puts d.panel d'.panel

module _ {P R : Type 0} (make : Make P) (reads : Reads R) where
  abbrev pub act_of : Command → Display P R → Act
  act_of o d = obeyed (heard_as Host (Complete o)) (core_of d.controller.machine)

  -- what a byte amounts to that was read is carried out
  pub record CarriesOut (o : Command) (d : Display P R) (l : BoundedList Fault) (d' : Display P R) (l' : BoundedList Fault) : Type 0 where
    pub state : view make d' ≡ record {
      reading = d.controller.listener.reading;
      core = (act_of o d).core;
      glass = drawn_all (drawn_by (act_of o d).answer) (make.cells d.panel);
    }
    pub grown : Grown l (reported Host d.controller.machine.selected (act_of o d).answer) l'
    pub reached : Reached make.puts d.panel d'.panel
