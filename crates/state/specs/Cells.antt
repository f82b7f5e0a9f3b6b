-- The cell of a character.
use Rattle.std.specs.Prelude.{ℕ, ◌+◌, ◌*◌, cond, List, Some, None, Option, slice_index}
use Rattle.commands.specs.declared.words.Mark.{Mark}
use Rattle.commands.specs.Numbers.{mark_number}
use Rattle.state.specs.declared.cell.Pen.{Pen}

abbrev pub mark_of : Option Mark → ℕ
mark_of None = 0
mark_of (Some m) = mark_number m

-- the code in bits 0 to 7, the table in bits 8 to 15, the set in bits 16 to 23, the mark in bits 40 and 41
abbrev pub built_in : ℕ → Pen → Option Mark → ℕ
built_in code p m = code + 0x100 * p.table + 0x10000 * p.set + 0x10000000000 * mark_of m

-- five columns, the first in bits 0 to 7
abbrev pub user_bits : List ℕ → ℕ
user_bits cs = slice_index cs 0 + 0x100 * slice_index cs 1 + 0x10000 * slice_index cs 2 + 0x1000000 * slice_index cs 3 + 0x100000000 * slice_index cs 4

-- a user character has bit 42 set
abbrev pub user_cell : List ℕ → Option Mark → ℕ
user_cell cs m = user_bits cs + 0x40000000000 + 0x10000000000 * mark_of m

-- the user's where one is defined and in use, and else the built-in one
abbrev pub cell_of : ℕ → Pen → Option (List ℕ) → Option Mark → ℕ
cell_of code p None m = built_in code p m
cell_of code p (Some cs) m = cond p.user (user_cell cs m) (built_in code p m)
