-- The parts that are handed out of a buffer.
use Rattle.std.specs.Prelude.{◌≡◌, ℕ, ◌+◌, ◌<◌, List, [], ◌∷◌, ◌++◌, length, take, drop, ◌≢◌}
use Rattle.std.specs.List.{flat_map}
use Rattle.commands.specs.Sets.{Reads, run}
use Rattle.items.specs.declared.kinds.Kind.TheVariants.{Unfinished}
use Rattle.items.specs.declared.parts.Part.{Part}
use Rattle.items.specs.Extents.{extent_of}

abbrev pub bytes_of : Part → List ℕ
bytes_of p = p.bytes.now

-- rest is the reading at which each item begins
module _ {R : Type 0} (reads : Reads R) (rest : R) where
  -- p is the item of bs at a place, and the next one begins at next
  pub record PartAt (bs : List ℕ) (at : ℕ) (p : Part) (next : ℕ) : Type 0 where
    pub before : at < length bs
    pub place : p.place ≡ at
    pub kind : p.kind ≡ (extent_of reads rest (drop at bs)).kind
    pub bytes : bytes_of p ≡ take (extent_of reads rest (drop at bs)).size (drop at bs)
    pub next_is : next ≡ at + (extent_of reads rest (drop at bs)).size

  -- ps are the items of bs from one place to another, one after the other
  abbrev pub Walked : List ℕ → ℕ → List Part → ℕ → Type 0
  Walked bs at [] to = at ≡ to
  Walked bs at (p ∷ ps) to = (n : ℕ) × PartAt bs at p n × Walked bs n ps to

  -- n is the number of the items of bs
  abbrev pub Counted : List ℕ → ℕ → Type 0
  Counted bs n = (ps : List Part) × Walked bs 0 ps (length bs) × (n ≡ length ps)

  -- What the items of a buffer are, whatever the commands: joined they are the buffer, each stands where those before it
  -- end, only the last can be unfinished, and after each that is finished the reader is at rest.
  pub record Whole (bs : List ℕ) (ps : List Part) : Type 0 where
    pub joins : flat_map bytes_of ps ≡ bs
    pub placed : (qs : List Part) (p : Part) (rs : List Part) → ps ≡ qs ++ p ∷ rs → p.place ≡ length (flat_map bytes_of qs)
    pub last : (qs : List Part) (p : Part) (rs : List Part) → ps ≡ qs ++ p ∷ rs → p.kind ≡ Unfinished → rs ≡ []
    pub rests : (qs : List Part) (p : Part) (rs : List Part) → ps ≡ qs ++ p ∷ rs → (p.kind ≢ Unfinished) → run reads.step rest (bytes_of p) ≡ rest
