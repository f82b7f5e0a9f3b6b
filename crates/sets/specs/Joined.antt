-- The command sets joined: each reads as it does alone, and no byte changes the set in force.
use Rattle.std.specs.Prelude.{ℕ, refl}
use Rattle.commands.specs.declared.words.Dialect.{Dialect}
use Rattle.commands.specs.declared.words.Dialect.TheVariants as dialect
use Rattle.commands.specs.declared.words.Name.{Name}
use Rattle.commands.specs.declared.words.Refusal.{Refusal}
use Rattle.commands.specs.declared.outcome.Glance.{Glance}
use Rattle.commands.specs.declared.outcome.Transition.{Transition}
use Rattle.commands.specs.Sets.{Reads, SetsLaws, inside}
use Rattle.commands.specs.Held.{rules_held}
use Rattle.escpos.specs.Laws.{escpos, escpos_laws}
use Rattle.sets.specs.declared.Commands.{Commands}
use Rattle.sets.specs.declared.Commands.TheVariants.{EscPos}

abbrev pub rest : Dialect → Commands
rest dialect.EscPos = EscPos escpos.rest

-- the set in force
abbrev pub dialect_of : Commands → Dialect
dialect_of (EscPos r) = dialect.EscPos

abbrev pub step : Commands → ℕ → Transition Commands
step (EscPos r) b = inside EscPos (escpos.step r b)

abbrev pub glance : Commands → ℕ → Glance
glance (EscPos r) b = escpos.glance r b

abbrev pub names : Dialect → Refusal → Name
names dialect.EscPos = escpos.names

abbrev pub reads : Reads Commands
reads = record { rest = rest; dialect = dialect_of; step = step; glance = glance; names = names }

pub reads_laws : SetsLaws reads
reads_laws = record {
  rules = elim [ EscPos r ↦ rules_held EscPos escpos step (λ q b. refl) escpos_laws r ];
  starts = elim [ dialect.EscPos ↦ refl ];
  keeps = elim [ EscPos r ↦ λ b. refl ];
}
