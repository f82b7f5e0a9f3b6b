-- What a strip panel means, and what a put and a painting leave of it.
use Rattle.std.specs.Prelude.{◌≡◌, ℕ, ◌<◌, ◌≤◌, Bool, true, false, List, [], ◌∷◌, ◌++◌, length, slice_set}
use Rattle.list.specs.Entries.{entries, places, capacity}
use Rattle.panel.specs.Forty.{forty}
use Rattle.strip.specs.declared.strip.Change.{Change}
use Rattle.strip.specs.declared.strip.StripPanel.{StripPanel}

abbrev pub picture_of : StripPanel → List ℕ
picture_of s = forty s.picture.held

-- the changes that wait to be painted, oldest first
abbrev pub waiting_of : StripPanel → List Change
waiting_of s = entries s.changes

-- changes taken in order into a picture
abbrev pub merged : List ℕ → List Change → List ℕ
merged p [] = p
merged p (c ∷ cs) = merged (slice_set p c.place c.cell) cs

abbrev pub cells_of : StripPanel → List ℕ
cells_of s = merged (picture_of s) (waiting_of s)

-- whether the list can take one more
abbrev pub HasRoom : StripPanel → Type 0
HasRoom s = length (waiting_of s) < capacity s.changes

abbrev pub IsFull : StripPanel → Type 0
IsFull s = capacity s.changes ≤ length (waiting_of s)

-- the list is over the very places that were lent
abbrev pub KeepsLoan : StripPanel → StripPanel → Type 0
KeepsLoan s t = t.changes.slots.ghost_name ≡ s.changes.slots.ghost_name

-- The changes are in the picture, the list is empty, and the flag is `all`; the places are as they were.
pub record Merged (s : StripPanel) (all : Bool) (t : StripPanel) : Type 0 where
  pub picture : picture_of t ≡ cells_of s
  pub none : waiting_of t ≡ []
  pub flag : t.all ≡ all
  pub places : places t.changes ≡ places s.changes
  pub lent : KeepsLoan s t

-- Painted: the changes are in the picture, the list is empty, and the flag is down.
abbrev pub Paints : StripPanel → StripPanel → Type 0
Paints s t = Merged s false t

-- the change went to the end of the list
pub record Appends (s : StripPanel) (c : Change) (t : StripPanel) : Type 0 where
  pub picture : picture_of t ≡ picture_of s
  pub waiting : waiting_of t ≡ waiting_of s ++ c ∷ []
  pub flag : t.all ≡ s.all
  pub places : places t.changes ≡ slice_set (places s.changes) (length (waiting_of s)) c

-- all earlier changes went into the picture, unpainted, and the list begins anew
pub record Overflows (s : StripPanel) (c : Change) (t : StripPanel) : Type 0 where
  pub picture : picture_of t ≡ cells_of s
  pub waiting : waiting_of t ≡ c ∷ []
  pub flag : t.all ≡ true
  pub places : places t.changes ≡ slice_set (places s.changes) 0 c

-- the change went into the picture, unpainted
pub record Writes (s : StripPanel) (c : Change) (t : StripPanel) : Type 0 where
  pub picture : picture_of t ≡ slice_set (picture_of s) c.place c.cell
  pub waiting : waiting_of t ≡ []
  pub flag : t.all ≡ true
  pub places : places t.changes ≡ places s.changes

-- A full list was emptied into the picture and the flag raised; else nothing changed.
pub record Roomed (s t : StripPanel) : Type 0 where
  pub room : HasRoom s → t ≡ s
  pub full : IsFull s → Merged s true t
  pub lent : KeepsLoan s t

-- a change went to the end of the list, or into the picture
pub record Added (s : StripPanel) (c : Change) (t : StripPanel) : Type 0 where
  pub room : HasRoom s → Appends s c t
  pub full : IsFull s → (picture_of t ≡ slice_set (picture_of s) c.place c.cell) × (t.changes ≡ s.changes) × (t.all ≡ s.all)
  pub lent : KeepsLoan s t

-- A put at a place of the glass: with room in the list, on a full list, and with no places at all.
pub record Puts (s : StripPanel) (c : Change) (t : StripPanel) : Type 0 where
  pub room : HasRoom s → Appends s c t
  pub full : IsFull s → 0 < capacity s.changes → Overflows s c t
  pub empty : capacity s.changes ≡ 0 → Writes s c t
  pub lent : KeepsLoan s t
