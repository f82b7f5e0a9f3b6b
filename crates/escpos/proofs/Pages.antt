-- The table of classes is what the transition makes of each byte.
use Rattle.std.proofs.Common.{◌≡◌, ℕ, ◌<◌, Some, map, get_or, slice_get, refl, sym, ap, ◌∙◌, arith}
use Rattle.std.specs.List.{range_with_len}
use Rattle.std.proofs.lemmas.Option.{get_or_from_slice_get}
use Rattle.std.proofs.lemmas.List.FromFn.{get_or-map-range_with_len}
use Rattle.escpos.specs.declared.classes.TheConstants.{CLASSES}
use Rattle.escpos.specs.declared.classes.Class.TheVariants.{Ignored}
use Rattle.escpos.specs.declared.classes.Page.{Page}
use Rattle.escpos.specs.declared.classes.Page.TheVariants.{Resting, Esc, Us}
use Rattle.escpos.specs.Classes.{class_of, place_of}

-- two rules that compute to one list agree at each place of it
pointwise : {A : Type 0} (d : A) (f g : ℕ → A) (n : ℕ) → map f (range_with_len 0 n) ≡ map g (range_with_len 0 n) → (k : ℕ) → k < n → f k ≡ g k
pointwise d f g n e k h =
    sym (get_or-map-range_with_len f 0 n k k d h (omega arith)) ∙ ap (λ l. get_or l k d) e ∙ get_or-map-range_with_len g 0 n k k d h (omega arith)

-- antt computes the rule for all 256 bytes of a page
pub table_agrees : (p : Page) (b : ℕ) → b < 256 → slice_get CLASSES.now (place_of p b) ≡ Some (class_of p b)
table_agrees Resting = pointwise (Some Ignored) (λ b. slice_get CLASSES.now (place_of Resting b)) (λ b. Some (class_of Resting b)) 256 refl
table_agrees Esc = pointwise (Some Ignored) (λ b. slice_get CLASSES.now (place_of Esc b)) (λ b. Some (class_of Esc b)) 256 refl
table_agrees Us = pointwise (Some Ignored) (λ b. slice_get CLASSES.now (place_of Us b)) (λ b. Some (class_of Us b)) 256 refl

pub class_read : (p : Page) (b : ℕ) → b < 256 → get_or CLASSES.now (place_of p b) Ignored ≡ class_of p b
class_read p b h = get_or_from_slice_get CLASSES.now (place_of p b) (class_of p b) Ignored (table_agrees p b h)
