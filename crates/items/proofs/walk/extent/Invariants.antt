use Rattle.std.proofs.Common.{◌≡◌, ℕ, ◌+◌, drop}
use Rattle.items.specs.declared.parts.Extent.{Extent}
use Rattle.items.specs.Extents.{extent_of}
use Rattle.items.proofs.walk.extent.Given as goal

-- the item with n bytes more in front
abbrev ahead : ℕ → Extent → Extent
ahead n e = record e { size = n + e.size }

abbrev pub invariant-loop-i : goal.invariant-loop-i
invariant-loop-i g l =
    let reads = g.S.CommandSets.reads in
    extent_of reads l.initial.reading l.bytes ≡ ahead l.i (extent_of reads l.reading (drop l.i l.bytes))
