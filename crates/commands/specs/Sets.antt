-- What a command set means, and what it shows of its meaning.
use Rattle.std.specs.Prelude.{◌≡◌, ◌≤◌, ℕ, true, List, [], ◌∷◌}
use Rattle.commands.specs.declared.words.Name.{Name}
use Rattle.commands.specs.declared.words.Command.{Command}
use Rattle.commands.specs.declared.words.Command.TheVariants.{Character, GoTo, Window, Play, Initialize, Select}
use Rattle.commands.specs.declared.words.WindowChange.{WindowChange}
use Rattle.commands.specs.declared.words.WindowChange.TheVariants.{Define, Cancel, TurnTo}
use Rattle.commands.specs.declared.words.Refusal.{Refusal}
use Rattle.commands.specs.declared.words.Refusal.TheVariants.{WindowDefined, WindowTouches, WindowUndefined, OutsideWindow, PlayRefused, NoMacro, RecordingFull}
use Rattle.commands.specs.declared.words.Dialect.{Dialect}
use Rattle.commands.specs.declared.outcome.Outcome.{Outcome}
use Rattle.commands.specs.declared.outcome.Outcome.TheVariants.{Pending, Complete}
use Rattle.commands.specs.declared.outcome.Glance.{Glance}
use Rattle.commands.specs.declared.outcome.Glance.TheVariants as glance
use Rattle.commands.specs.declared.outcome.Transition.{Transition}
use Rattle.commands.specs.Items.{ends}

-- A make of command set: the reading at rest, what a byte does to a reading, what is told of a byte at a glance, and the
-- names by which refusals are told.
pub record Make (R : Type 0) : Type 0 where
  pub rest : R
  pub step : R → ℕ → Transition R
  pub glance : R → ℕ → Glance
  pub names : Refusal → Name

-- Several sets, one in force: the reading at rest in each, the set that a reading is in, and the rest as for one.
pub record Reads (R : Type 0) : Type 0 where
  pub rest : Dialect → R
  pub dialect : R → Dialect
  pub step : R → ℕ → Transition R
  pub glance : R → ℕ → Glance
  pub names : Dialect → Refusal → Name

abbrev pub to : {R : Type 0} → R → Outcome → Transition R
to r o = record { next = r; outcome = o }

-- a transition of one reading, as that of another which holds it
abbrev pub inside : {R S : Type 0} → (R → S) → Transition R → Transition S
inside f t = to (f t.next) t.outcome

-- where a run of bytes leaves a reading
abbrev pub run : {R : Type 0} → (R → ℕ → Transition R) → R → List ℕ → R
run step r [] = r
run step r (b ∷ bs) = run step (step r b).next bs

-- What a glance at a byte tells: nothing, and the byte is not read; or what it amounts to, and it is read.
abbrev pub Glances : {R : Type 0} → (R → ℕ → Transition R) → R → ℕ → Glance → R → Type 0
Glances step r b glance.Unread q = q ≡ r
Glances step r b glance.Pending q = step r b ≡ to q Pending
Glances step r b (glance.Character m) q = (0x20 ≤ b) × (step r b ≡ to q (Complete (Character b m)))
Glances step r b (glance.GoTo p n) q = step r b ≡ to q (Complete (GoTo p n))

abbrev pub six : List ℕ
six = 0x18 ∷ 0x18 ∷ 0x18 ∷ 0x18 ∷ 0x18 ∷ 0x18 ∷ []

-- from a reading, bytes lead to rest and are this one command
abbrev pub Says : {R : Type 0} → (R → ℕ → Transition R) → R → R → List ℕ → Command → Type 0
Says step rest r [] d = ⊥
Says step rest r (b ∷ []) d = step r b ≡ to rest (Complete d)
Says step rest r (b ∷ c ∷ bs) d = ((step r b).outcome ≡ Pending) × Says step rest (step r b).next (c ∷ bs) d

abbrev pub IsNamed : (Refusal → Name) → WindowChange → Name → Type 0
IsNamed names (Define slot frame) n = (n ≡ names WindowDefined) × (n ≡ names WindowTouches)
IsNamed names (Cancel slot) n = n ≡ names WindowUndefined
IsNamed names (TurnTo window) n = n ≡ names WindowUndefined

-- a command bears the name by which a refusal of it is told
abbrev pub Bears : (Refusal → Name) → Command → Type 0
Bears names (GoTo p n) = n ≡ names OutsideWindow
Bears names (Window change n) = IsNamed names change n
Bears names (Play wait gap n) = (n ≡ names PlayRefused) × (n ≡ names NoMacro)
Bears names command = Unit {0}

-- What a reading shows, of which this is the rest and these are the names by which refusals are told.
pub record RulesAt {R : Type 0} (step : R → ℕ → Transition R) (rest : R) (names : Refusal → Name) (r : R) : Type 0 where
  -- where an item ends the reading is at rest: no byte of it is read again
  pub rests : (b : ℕ) → ends (step r b).outcome ≡ true → (step r b).next ≡ rest
  -- six bytes 18h lead to rest
  pub cancels : run step r six ≡ rest
  -- the last two commands of the recall
  pub selects : Says step rest rest (0x1B ∷ 0x3D ∷ 0x02 ∷ []) (Select true)
  pub initializes : Says step rest rest (0x1B ∷ 0x40 ∷ []) Initialize
  -- what is refused bears its name, and a recording that is too long is told of 1Fh 3Ah
  pub bears : (b : ℕ) (d : Command) → (step r b).outcome ≡ Complete d → Bears names d
  pub full : names RecordingFull ≡ record { first = 0x1F; second = 0x3A }

-- Every reading of a make shows it.
abbrev pub Laws : {R : Type 0} → Make R → Type 0
Laws {R = R} m = (r : R) → RulesAt m.step m.rest m.names r

-- The same of the sets together, each with its own rest and names; and no byte changes the set in force.
pub record SetsLaws {R : Type 0} (m : Reads R) : Type 0 where
  pub rules : (r : R) → RulesAt m.step (m.rest (m.dialect r)) (m.names (m.dialect r)) r
  pub starts : (d : Dialect) → m.dialect (m.rest d) ≡ d
  pub keeps : (r : R) (b : ℕ) → m.dialect (m.step r b).next ≡ m.dialect r
