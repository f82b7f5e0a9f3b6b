-- The lamp and its ticks.
use Rattle.std.specs.Prelude.{ℕ, ◌+◌, ◌*◌, Bool, true, false, cond, ◌==◌, nat_lt}
use Rattle.state.specs.declared.lamp.Lamp.{Lamp}
use Rattle.state.specs.declared.lamp.Lamp.TheVariants.{Lit, Dark, Blinking}

-- blink n: 0 is lit and 255 dark
abbrev pub lamp_set : ℕ → Lamp
lamp_set n = cond (n == 0) Lit (cond (n == 255) Dark (Blinking n 0))

-- one tick more, modulo 10n
abbrev pub lamp_ticked : Lamp → Lamp
lamp_ticked Lit = Lit
lamp_ticked Dark = Dark
lamp_ticked (Blinking n t) = Blinking n (cond (nat_lt (t + 1) (10 * n)) (t + 1) 0)

-- t ÷ 5n, rounded down, is even: t is below 10n, so this is its first half
abbrev pub lamp_lit : Lamp → Bool
lamp_lit Lit = true
lamp_lit Dark = false
lamp_lit (Blinking n t) = nat_lt t (5 * n)

-- the blink number that the lamp was given
abbrev pub lamp_number : Lamp → ℕ
lamp_number Lit = 0
lamp_number Dark = 255
lamp_number (Blinking n t) = n
