-- What one call of the item reader does, and what all calls together do.
use Rattle.std.specs.Prelude.{◌≡◌, ℕ, ◌-◌, ◌≤◌, List, length, None, Option, MatchOption}
use Rattle.commands.specs.declared.words.Dialect.{Dialect}
use Rattle.commands.specs.Sets.{Reads}
use Rattle.items.specs.declared.parts.Items.{Items}
use Rattle.items.specs.declared.parts.Part.{Part}
use Rattle.items.specs.Handed.{PartAt, Walked, Whole}

-- the bytes that are left
abbrev pub bytes_left : {R : Type 0} → Items R → ℕ
bytes_left s = length s.buffer.now - s.at

module _ {R : Type 0} (reads : Reads R) where
  -- at the end none is handed out and nothing changes; before it, the item at the place, and the place moves past it
  pub record Hands (s : Items R) (r : Option Part) (t : Items R) : Type 0 where
    pub buffer : t.buffer ≡ s.buffer
    pub rest : t.rest ≡ s.rest
    pub item : MatchOption r ((length s.buffer.now ≤ s.at) × (t.at ≡ s.at)) (λ p. PartAt reads s.rest s.buffer.now s.at p t.at)

  -- Every walk over a whole buffer, in any set, is whole, and at the end of it no further item is handed out.
  pub record WholeWalk : Type 0 where
    pub whole : (d : Dialect) (bs : List ℕ) (ps : List Part) →
        Walked reads (reads.rest d) bs 0 ps (length bs) → Whole reads (reads.rest d) bs ps
    pub then_none : (s : Items R) (r : Option Part) (t : Items R) → Hands s r t → length s.buffer.now ≤ s.at → r ≡ None
