-- What a bounded list means: its entries in order, and how many it can hold.
use Rattle.std.specs.Prelude.{ℕ, List, length, take}
use Rattle.list.specs.declared.list.BoundedList.{BoundedList}

-- all places, used or not
abbrev pub places : {T : Type 0} → BoundedList T → List T
places l = l.slots.now

abbrev pub capacity : {T : Type 0} → BoundedList T → ℕ
capacity l = length (places l)

abbrev pub entries : {T : Type 0} → BoundedList T → List T
entries l = take l.len (places l)
