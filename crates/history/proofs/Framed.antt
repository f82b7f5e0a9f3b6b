-- The forms that a command's effect has, told once for every command; and what a host byte changes before it is read.
use Rattle.std.proofs.Common.{◌≡◌, ℕ, true, List, [], ◌∷◌, Some, None, Ok, Err, Option, refl, ap}
use Rattle.std.proofs.lemmas.Bool.{cond_both}
use Rattle.glass.specs.declared.area.Area.{Area}
use Rattle.glass.specs.Places.{whole}
use Rattle.glass.specs.declared.stroke.Ink.{Ink}
use Rattle.glass.specs.declared.stroke.Ink.TheVariants.{Blank}
use Rattle.glass.specs.declared.stroke.Stroke.{Stroke}
use Rattle.glass.specs.declared.frame.Frame.{Frame}
use Rattle.commands.specs.declared.words.Mode.{Mode}
use Rattle.commands.specs.declared.words.Mode.TheVariants.{Horizontal}
use Rattle.commands.specs.declared.words.Slot.{Slot}
use Rattle.commands.specs.declared.words.WindowChange.{WindowChange}
use Rattle.commands.specs.declared.words.WindowChange.TheVariants.{Define, Cancel, TurnTo}
use Rattle.commands.specs.declared.words.Name.{Name}
use Rattle.commands.specs.declared.words.Refusal.{Refusal}
use Rattle.commands.specs.declared.words.Command.{Command}
use Rattle.commands.specs.declared.words.Command.TheVariants.{Character, Move, GoTo, Clear, ClearRow, Window, Play, Initialize}
use Rattle.commands.specs.Sets.{Bears}
use Rattle.terms.specs.declared.fault.DisplayFault.TheVariants.{Refused}
use Rattle.state.specs.declared.controller.Strokes.{Strokes}
use Rattle.state.specs.declared.listener.Voice.{Voice}
use Rattle.state.specs.declared.listener.Voice.TheVariants.{Host, Macro}
use Rattle.state.specs.declared.tape.Use.{Use}
use Rattle.state.specs.declared.tape.Use.TheVariants as used
use Rattle.state.specs.Slots.{at, known, clear_all}
use Rattle.state.specs.Layouts.{Layout, Turn, cancelled, defined, reaches, at_spot}
use Rattle.state.specs.Reels.{is_playing}
use Rattle.state.specs.Tapes.{playing_by, stored}
use Rattle.state.specs.Core.{Core, fresh, window}
use Rattle.state.specs.Effects.{Effect, no_strokes, strokes_of, stroke, inks, one, quietly, drawing, writes, winds, effect}
use Rattle.state.specs.Effects as effects
use Rattle.state.specs.Model.{ended, before}
use Rattle.history.specs.Confined.{turns}

-- strokes on one area
abbrev pub On : Area → List Stroke → Type 0
On a [] = Unit {0}
On a (s ∷ ss) = (s.area ≡ a) × On a ss

inks_on : (a : Area) (o : Option Ink) → On a (one (inks a o))
inks_on a None = tt
inks_on a (Some i) = (refl, tt)

alone_on : (a : Area) (o : Option Ink) → On a (strokes_of (record { first = inks a o; second = None }))
alone_on a None = tt
alone_on a (Some i) = (refl, tt)

-- a refusal of a command is told by a name that the command bears
abbrev pub IsToldBy : Command → Refusal → Name → Type 0
IsToldBy d r n = (names : Refusal → Name) → Bears names d → n ≡ names r

-- a command's effect stays in the window, is refused, moves to another window, or makes the display new
pub data Framed (d : Command) (c : Core) : Effect → Type 0 where
  stays : (e : Core) (s : Strokes) → window e ≡ window c → On (window c) (strokes_of s) → Framed d c (record { core = e; answer = Ok s })
  refused : {e : Core} {r : Refusal} {n : Name} → e ≡ c → IsToldBy d r n → Framed d c (record { core = e; answer = Err (Refused r n) })
  moves : (l : Layout) → turns d ≡ true → Framed d c (record { core = record c { layout = l }; answer = Ok no_strokes })
  renews : turns d ≡ true → Framed d c (drawing (fresh c.settings) (stroke whole Blank))

-- nothing is drawn
quiet : {d : Command} {c e : Core} → window e ≡ window c → Framed d c (quietly e)
quiet {e = e} w = stays e no_strokes w tt

written : {d : Command} (m : Mode) (c : Core) (v : ℕ) → Framed d c (writes m c v)
written Horizontal c v = stays _ _ refl (refl, (refl, tt))
written m c v = stays _ _ refl (refl, inks_on (window c) _)

-- what windows answer
abbrev Changed : WindowChange → Name → Core → Turn → Type 0
Changed w k c t = Framed (Window w k) c (effects.turns c k t)

opened : (o : Option Area) (n : Slot) (f : Frame) (k : Name) (c : Core) → Changed (Define n f) k c (defined o n f.area c.layout)
opened (Some o) n f k c = refused refl (λ names h. h.0)
opened None n f k c = cond_both (clear_all f.area c.layout.slots) _ _ (Changed (Define n f) k c) (λ _. moves _ refl) (λ _. refused refl (λ names h. h.1))

withdrawn : (o : Option Area) (n : Slot) (k : Name) (c : Core) → Changed (Cancel n) k c (cancelled o n c.layout)
withdrawn None n k c = refused refl (λ names h. h)
withdrawn (Some a) n k c = moves _ refl

-- a tape that refuses stays as it is
starts : (n m : ℕ) (k : Name) (c : Core) (u : Use) → u ≡ c.tape.current → Framed (Play n m k) c (winds c k (playing_by u c.tape.bytes n m))
starts n m k c used.Recording e = refused (λ i. record c { tape = record c.tape { current = e i } }) (λ names h. h.0)
starts n m k c used.Blank e = refused (λ i. record c { tape = record c.tape { current = e i } }) (λ names h. h.1)
starts n m k c u e = quiet refl

pub framed : (v : Voice) (d : Command) (c : Core) → Framed d c (effect v d c)
framed v (Character n m) c = written c.pen.mode c _
framed v (Move w) c = stays _ _ refl (alone_on (window c) _)
framed v (GoTo p k) c =
    cond_both (reaches p.at.column p.at.row c.layout) _ _ (λ t. Framed (GoTo p k) c (effects.turns c k t))
    (λ _. quiet refl) (λ _. refused refl (λ names h. h))
framed v Clear c = stays _ _ refl (refl, tt)
framed v ClearRow c = stays _ _ refl (refl, tt)
framed v (Window (Define n f) k) c = opened (at c.layout.slots n) n f k c
framed v (Window (Cancel n) k) c = withdrawn (at c.layout.slots n) n k c
framed v (Window (TurnTo n) k) c =
    cond_both (known c.layout.slots n) _ _ (Changed (TurnTo n) k c) (λ _. moves _ refl) (λ _. refused refl (λ names h. h))
framed Host (Play n m k) c = starts n m k c c.tape.current refl
framed Macro (Play n m k) c = refused refl (λ names h. h.0)
framed v Initialize c = renews refl
framed Host d c = quiet refl
framed Macro d c = quiet refl

-- a state with the cursor and the tape of another
abbrev pub moved : Core → Core → Core
moved c e = record c { layout = at_spot c.layout e.layout.column e.layout.row; tape = e.tape }

ended_moved : (c : Core) → ended c ≡ moved c (ended c)
ended_moved c = cond_both (is_playing c.tape.current) _ _ (λ x. x ≡ moved c x) (λ _. refl) (λ _. refl)

-- a host byte changes no more than these before it is read
pub before_moved : (b : ℕ) (c : Core) → before b c ≡ moved c (before b c)
before_moved b c =
    cond_both (ended c).selected _ _ (λ x. x ≡ moved c x)
    (λ _. ap (λ (x : Core). record x { tape = stored (ended c).tape b }) (ended_moved c)) (λ _. ended_moved c)
