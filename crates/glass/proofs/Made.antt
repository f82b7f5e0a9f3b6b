-- What is made of numbers, by the test that they passed or failed.
use Rattle.std.proofs.Common.{◌≡◌, Bool, true, false, Some, None, Option, refl, ap}
use Rattle.std.proofs.lemmas.Bool.{false≢true, true≢false}
use Rattle.std.proofs.Math.Bool.{Bool-set}
use Rattle.glass.specs.Frames.{made}

pub made_of : {A : Type 0} (b : Bool) (f : b ≡ true → A) (h : b ≡ true) → made b f ≡ Some (f h)
made_of true f h = ap (λ p. Some (f p)) (Bool-set true true refl h)
made_of false f h = absurd (false≢true h)

pub none_made : {A : Type 0} (b : Bool) (f : b ≡ true → A) → b ≡ false → made b f ≡ None
none_made true f h = absurd (true≢false h)
none_made false f h = refl

-- whichever way the test went
pub either_made : {A : Type 0} (b : Bool) (f : b ≡ true → A) (P : Option A → Type 0) → ((a : A) → P (Some a)) → P None → P (made b f)
either_made true f P h k = h (f refl)
either_made false f P h k = k
