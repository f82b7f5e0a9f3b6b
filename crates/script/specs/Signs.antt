-- A cell taken apart: code in bits 0 to 7, table in 8 to 15, set in 16 to 23, mark in 40 and 41, and bit 42 for a user
-- character. Assumes nothing.
use Rattle.std.specs.Prelude.{◌≡◌, ℕ, ◌+◌, ◌*◌, ◌/◌, ◌%◌, ◌^◌, ◌<◌, false, cond, ◌&&◌, Some, None, Option, ◌==◌, nat_le}
use Rattle.script.specs.declared.cells.CellParts.{CellParts}
use Rattle.commands.specs.declared.words.Mark.{Mark}
use Rattle.commands.specs.declared.words.Mark.TheVariants.{Point, Comma, Semicolon}
use Rattle.commands.specs.Numbers.{mark_number, mark_byte}

-- the number that a mark has in a cell
abbrev pub mark_bits : Option Mark → ℕ
mark_bits None = 0
mark_bits (Some m) = mark_number m

abbrev mark_by : ℕ → Option Mark
mark_by n = cond (n == 1) (Some Point) (cond (n == 2) (Some Comma) (cond (n == 3) (Some Semicolon) None))

abbrev pub mark_of : ℕ → Option Mark
mark_of cell = mark_by (cell / 0x100_0000_0000 % 4)

abbrev pub parts_of : ℕ → CellParts
parts_of cell = record { code = cell % 256; table = cell / 0x100 % 256; set = cell / 0x1_0000 % 256; mark = mark_of cell; user = (cell / 0x400_0000_0000 % 2 == 1) }

abbrev glyph_by : CellParts → ℕ
glyph_by p = cond p.user 0x2592 (cond (nat_le 0x20 p.code && nat_le p.code 0x7E) p.code 0x25A1)

abbrev pub glyph_of : ℕ → ℕ
glyph_of cell = glyph_by (parts_of cell)

-- a mark as it is written: none is a blank
abbrev sign_by : Option Mark → ℕ
sign_by None = 32
sign_by (Some m) = mark_byte m

abbrev pub sign_of : ℕ → ℕ
sign_of cell = sign_by (parts_of cell).mark

-- the parts of a built-in character's cell are those that it was written with
abbrev pub PartsTell : Type 0
PartsTell =
    (code table set : ℕ) (mark : Option Mark) → code < 256 → table < 256 → set < 256
    → parts_of (code + 256 * table + 65536 * set + 2 ^ 40 * mark_bits mark) ≡ record { code = code; table = table; set = set; mark = mark; user = false }
