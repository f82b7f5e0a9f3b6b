-- Settings: their numbers, and why numbers are refused.
use Rattle.std.specs.Prelude.{◌≡◌, ℕ, cond, ◌&&◌, Some, None, Ok, Err, Option, Result, nat_le, nat_lt}
use Rattle.terms.specs.declared.settings.Settings.{Settings}
use Rattle.terms.specs.declared.settings.SettingsRefusal.{SettingsRefusal}
use Rattle.terms.specs.declared.settings.SettingsRefusal.TheVariants.{Set, Table, Brightness}

-- the numbers of settings
pub record Preset : Type 0 where
  pub set : ℕ
  pub table : ℕ
  pub brightness : ℕ

abbrev pub preset : Settings → Preset
preset s = record { set = s.set; table = s.table; brightness = s.brightness }

abbrev pub settings_refusal : SettingsRefusal → ℕ
settings_refusal Set = 11
settings_refusal Table = 12
settings_refusal Brightness = 13

-- why three numbers make no settings: the first cause in this order
abbrev pub settings_cause : ℕ → ℕ → ℕ → Option SettingsRefusal
settings_cause s t b =
    cond (nat_lt 12 s) (Some Set) (cond (nat_lt 8 t) (Some Table) (cond (nat_le 1 b && nat_le b 4) None (Some Brightness)))

-- the settings of these numbers, or the cause
abbrev pub Checked : ℕ → ℕ → ℕ → Result Settings SettingsRefusal → Type 0
Checked s t b (Ok made) = (settings_cause s t b ≡ None) × (preset made ≡ record { set = s; table = t; brightness = b })
Checked s t b (Err e) = settings_cause s t b ≡ Some e
