-- What a glance at a byte tells, where the byte is only read.
use Rattle.std.proofs.Common.{◌≡◌, ℕ, ◌≤◌, true}
use Rattle.std.proofs.lemmas.Bool.{and_parts}
use Rattle.commands.specs.declared.outcome.Glance.{Glance}
use Rattle.commands.specs.declared.outcome.Glance.TheVariants.{Unread, Pending, Character, GoTo}
use Rattle.commands.specs.Sets.{Reads, Glances}
use Rattle.state.specs.Core.{Core}
use Rattle.state.specs.Shorts.{undisturbed, Calm, PutsOnly, ReadCalmly}

pub selected : (k : Core) → undisturbed k ≡ true → k.selected ≡ true
selected k h = (and_parts _ _ h).0

pub glanced : {R : Type 0} (reads : Reads R) (r q : R) (b : ℕ) (o : Glance) (k : Core) → Calm reads k → k.selected ≡ true → (32 ≤ b → PutsOnly k) →
    Glances reads.step r b o q → ReadCalmly reads o k
glanced reads r q b Unread k c s p h = tt
glanced reads r q b Pending k c s p h = c
glanced reads r q b (Character m) k c s p h = (c, s, p h.0)
glanced reads r q b (GoTo x n) k c s p h = (c, s)
