-- Numbers in decimal, and bytes in hex. Assumes nothing.
use Rattle.std.specs.Prelude.{◌≡◌, ℕ, ◌+◌, ◌-◌, ◌*◌, ◌/◌, ◌%◌, ◌<◌, Bool, cond, ◌&&◌, List, [], ◌∷◌, map, length, Some, None, Option, nat_le, nat_lt}

abbrev pub between : ℕ → ℕ → ℕ → Bool
between a b n = nat_le a n && nat_le n b

abbrev pub digit_value : ℕ → Option ℕ
digit_value d = cond (between 48 57 d) (Some (d - 48)) None

abbrev pub if_digit : Option ℕ → (ℕ → Option ℕ) → Option ℕ
if_digit None f = None
if_digit (Some v) f = f v

-- what the digits write after the number so far; none where one of them is no digit
abbrev pub decimal : ℕ → List ℕ → Option ℕ
decimal n [] = Some n
decimal n (d ∷ ds) = if_digit (digit_value d) (λ v. decimal (10 * n + v) ds)

-- one to nine digits
abbrev pub number_of : List ℕ → Option ℕ
number_of w = cond (between 1 9 (length w)) (decimal 0 w) None

abbrev pub hex_value : ℕ → Option ℕ
hex_value d = cond (between 48 57 d) (Some (d - 48)) (cond (between 65 70 d) (Some (d - 55)) (cond (between 97 102 d) (Some (d - 87)) None))

abbrev pub hex_pair : Option ℕ → Option ℕ → Option ℕ
hex_pair None l = None
hex_pair (Some h) None = None
hex_pair (Some h) (Some l) = Some (16 * h + l)

abbrev pub hex_byte : List ℕ → Option ℕ
hex_byte [] = None
hex_byte (a ∷ []) = None
hex_byte (a ∷ b ∷ []) = hex_pair (hex_value a) (hex_value b)
hex_byte (a ∷ b ∷ c ∷ w) = None

abbrev pub hex_digit : ℕ → ℕ
hex_digit n = cond (nat_lt n 10) (48 + n) (65 + (n - 10))

abbrev pub hex_of : ℕ → List ℕ
hex_of b = hex_digit (b / 16) ∷ hex_digit (b % 16) ∷ []

-- a capital as a small letter, and any other byte as it is
abbrev pub small : ℕ → ℕ
small d = cond (between 65 90 d) (d + 32) d

-- a byte that is written in hex is read back, whether its letters are capital or small
pub record ReadsBack : Type 0 where
  pub capital : (b : ℕ) → b < 256 → hex_byte (hex_of b) ≡ Some b
  pub lower : (b : ℕ) → b < 256 → hex_byte (map small (hex_of b)) ≡ Some b
