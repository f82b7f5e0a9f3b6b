-- User characters by their codes, 20h to FFh.
use Rattle.std.specs.Prelude.{ℕ, ◌-◌, cond, List, replicate, None, Option, nat_lt, slice_index_or, slice_set}
use Rattle.state.specs.declared.users.Users.{Users}

-- one place for each code; a defined character has five columns
abbrev pub users_of : Users → List (Option (List ℕ))
users_of u = u.places

abbrev pub no_users : List (Option (List ℕ))
no_users = replicate 224 None

abbrev pub user_at : List (Option (List ℕ)) → ℕ → Option (List ℕ)
user_at us n = cond (nat_lt n 0x20) None (slice_index_or us (n - 0x20) None)

-- a character is defined, or forgotten
abbrev pub user_set : List (Option (List ℕ)) → ℕ → Option (List ℕ) → List (Option (List ℕ))
user_set us n o = cond (nat_lt n 0x20) us (slice_set us (n - 0x20) o)
