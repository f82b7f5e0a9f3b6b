-- How far an item of a buffer reaches, by what its bytes are read as.
use Rattle.std.specs.Prelude.{ℕ, ◌+◌, if◌then◌else◌, List, [], ◌∷◌, Some, None, Option}
use Rattle.commands.specs.declared.outcome.Outcome.{Outcome}
use Rattle.commands.specs.declared.outcome.Outcome.TheVariants.{Pending, Ignored, Complete, Partial, Faulty}
use Rattle.commands.specs.Items.{is_character}
use Rattle.commands.specs.Sets.{Reads}
use Rattle.items.specs.declared.kinds.Kind.{Kind}
use Rattle.items.specs.declared.kinds.Kind.TheVariants as kind
use Rattle.items.specs.declared.parts.Extent.{Extent}

-- the kind of the item that an outcome ends, if it ends one
abbrev pub ending : Outcome → Option Kind
ending Pending = None
ending Ignored = Some kind.Ignored
ending (Complete command) = Some (if is_character command then kind.Character else kind.Command)
ending (Partial code columns) = None
ending (Faulty fault) = Some kind.Faulty

-- one byte more, in front
abbrev pub longer : Extent → Extent
longer e = record e { size = e.size + 1 }

abbrev pub or_else : Option Kind → Extent → Extent
or_else (Some k) e = record { size = 1; kind = k }
or_else None e = longer e

-- the item at the front of the bytes, read on from a reading: up to the first byte that ends it, or unfinished
abbrev pub extent_of : {R : Type 0} → Reads R → R → List ℕ → Extent
extent_of reads r [] = record { size = 0; kind = kind.Unfinished }
extent_of reads r (b ∷ bs) = or_else (ending (reads.step r b).outcome) (extent_of reads (reads.step r b).next bs)
