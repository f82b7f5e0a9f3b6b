-- The number of each refusal.
use Rattle.std.specs.Prelude.{ℕ}
use Rattle.list.specs.declared.list.ListRefusal.{ListRefusal}
use Rattle.list.specs.declared.list.ListRefusal.TheVariants.{Full}

abbrev pub list_refusal : ListRefusal → ℕ
list_refusal Full = 42
