-- Places of the glass by column and row, and areas of it.
use Rattle.std.specs.Prelude.{ℕ, ◌+◌, ◌-◌, ◌*◌, Bool, cond, ◌&&◌, ◌||◌, Some, None, Option, nat_le, nat_lt}
use Rattle.glass.specs.declared.area.Area.{Area}

-- places 0 to 19 are the first row, 20 to 39 the second
abbrev pub column : ℕ → ℕ
column k = cond (nat_lt k 20) (k + 1) (k - 19)

abbrev pub line : ℕ → ℕ
line k = cond (nat_lt k 20) 1 2

abbrev pub place : ℕ → ℕ → ℕ
place x y = 20 * (y - 1) + (x - 1)

abbrev pub holds : Area → ℕ → ℕ → Bool
holds a x y = nat_le a.x1 x && (nat_le x a.x2 && (nat_le a.y1 y && nat_le y a.y2))

abbrev pub whole : Area
whole = record { x1 = 1; y1 = 1; x2 = 20; y2 = 2 }

-- a column and a row inside an area, and on the glass
abbrev pub inside : Area → ℕ → ℕ → Bool
inside a x y = holds whole x y && holds a x y

-- an area with a place, all of it on the glass
abbrev pub lawful : Area → Bool
lawful a = nat_le 1 a.x1 && (nat_le a.x1 a.x2 && (nat_le a.x2 20 && (nat_le 1 a.y1 && (nat_le a.y1 a.y2 && nat_le a.y2 2))))

-- areas that share no place
abbrev pub apart : Area → Area → Bool
apart a b = nat_lt a.x2 b.x1 || (nat_lt b.x2 a.x1 || (nat_lt a.y2 b.y1 || nat_lt b.y2 a.y1))

-- the place of a column and a row that are on the glass
abbrev pub place_at : ℕ → ℕ → Option ℕ
place_at x y = cond (holds whole x y) (Some (place x y)) None
