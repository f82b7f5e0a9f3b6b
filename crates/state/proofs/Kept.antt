-- What the window record keeps when windows are defined and cancelled.
use Rattle.std.proofs.Common.{◌≡◌, ℕ, true, false, cond, Some, None, Option, refl, ap, ◌∙◌, arith}
use Rattle.std.proofs.lemmas.Bool.Decides.{nat_tests}
use Rattle.glass.specs.declared.area.Area.{Area}
use Rattle.glass.specs.Places.{holds, lawful, apart}
use Rattle.commands.specs.declared.words.Slot.{Slot}
use Rattle.commands.specs.declared.words.Slot.TheVariants.{First, Second, Third, Fourth}
use Rattle.state.specs.declared.slots.Slots.{Slots}
use Rattle.state.specs.Slots.{clear, clears, clear_all, fits, at, with_at, known, area_of, or_whole, turned_to, same, is_some}

apart_sym : (a b : Area) → apart a b ≡ true → apart b a ≡ true
apart_sym a b h = grind (arith, nat_tests)

clears_sym : (o k : Option Area) → clears o k ≡ true → clears k o ≡ true
clears_sym None None h = refl
clears_sym None (Some b) h = refl
clears_sym (Some a) None h = refl
clears_sym (Some a) (Some b) h = apart_sym a b h

fits_whole : (o : Option Area) → fits o ≡ true → lawful (or_whole o) ≡ true
fits_whole None h = refl
fits_whole (Some a) h = h

-- the current window is on the glass
pub fit_area : (s : Slots) (n : Option Slot) → ((m : Slot) → fits (at s m) ≡ true) → lawful (area_of s n) ≡ true
fit_area s None h = refl
fit_area s (Some n) h = fits_whole (at s n) (h n)

home_held : (a : Area) → lawful a ≡ true → holds a a.x1 a.y1 ≡ true
home_held a h = grind (arith, nat_tests)

-- a slot after one was changed
at_with : (s : Slots) (n m : Slot) (o : Option Area) → at (with_at s n o) m ≡ cond (same n m) o (at s m)
at_with s First First o = refl
at_with s First Second o = refl
at_with s First Third o = refl
at_with s First Fourth o = refl
at_with s Second First o = refl
at_with s Second Second o = refl
at_with s Second Third o = refl
at_with s Second Fourth o = refl
at_with s Third First o = refl
at_with s Third Second o = refl
at_with s Third Third o = refl
at_with s Third Fourth o = refl
at_with s Fourth First o = refl
at_with s Fourth Second o = refl
at_with s Fourth Third o = refl
at_with s Fourth Fourth o = refl

with_fits : (s : Slots) (n : Slot) (o : Option Area) → ((m : Slot) → fits (at s m) ≡ true) → fits o ≡ true →
    (m : Slot) → fits (at (with_at s n o) m) ≡ true
with_fits s n o h f m = let e = at_with s n m o in let k = h m in grind (arith, nat_tests)

with_apart : (s : Slots) (n : Slot) (o : Option Area) → ((k m : Slot) → same k m ≡ false → clears (at s k) (at s m) ≡ true) →
    ((m : Slot) → clears o (at s m) ≡ true) →
    (k m : Slot) → same k m ≡ false → clears (at (with_at s n o) k) (at (with_at s n o) m) ≡ true
with_apart s n o h c k m d =
    let e = at_with s n k o in
    let f = at_with s n m o in
    let i = h k m d in
    let j = c m in
    let l = clears_sym o (at s k) (c k) in
    grind (arith, nat_tests)

-- turned to another window than the changed one
other_turn : (s : Slots) (t : Option Slot) (n : Slot) (o : Option Area) → turned_to t n ≡ false →
    (known (with_at s n o) t ≡ known s t) × (area_of (with_at s n o) t ≡ area_of s t)
other_turn s None n o h = (refl, refl)
other_turn s (Some m) n o h = let e : at (with_at s n o) m ≡ at s m = at_with s n m o ∙ ap (λ b. cond b o (at s m)) h in (ap is_some e, ap or_whole e)

same_self : (n : Slot) → same n n ≡ true
same_self First = refl
same_self Second = refl
same_self Third = refl
same_self Fourth = refl

at_same : (s : Slots) (n : Slot) (o : Option Area) → at (with_at s n o) n ≡ o
at_same s n o = at_with s n n o ∙ ap (λ b. cond b o (at s n)) (same_self n)

clear_each : (a : Area) (s : Slots) → clear_all a s ≡ true → (m : Slot) → clear a (at s m) ≡ true
clear_each a s h First = grind arith
clear_each a s h Second = grind arith
clear_each a s h Third = grind arith
clear_each a s h Fourth = grind arith

-- what the window record keeps
pub record Sound (s : Slots) (t : Option Slot) (x y : ℕ) : Type 0 where
  pub sharing : (n m : Slot) → same n m ≡ false → clears (at s n) (at s m) ≡ true
  pub fitting : (n : Slot) → fits (at s n) ≡ true
  pub defined : known s t ≡ true
  pub inside : holds (area_of s t) x y ≡ true

pub cancelled_home : (s : Slots) (n : Slot) (t : Option Slot) (x y : ℕ) → Sound s t x y → Sound (with_at s n None) None 1 1
cancelled_home s n t x y w =
    record { sharing = with_apart s n None w.sharing (λ m. refl); fitting = with_fits s n None w.fitting refl; defined = refl; inside = refl }

pub cancelled_other : (s : Slots) (n : Slot) (t : Option Slot) (x y : ℕ) → Sound s t x y → turned_to t n ≡ false → Sound (with_at s n None) t x y
cancelled_other s n t x y w h =
    let o = other_turn s t n None h in
    record {
      sharing = with_apart s n None w.sharing (λ m. refl);
      fitting = with_fits s n None w.fitting refl;
      defined = o.0 ∙ w.defined;
      inside = ap (λ a. holds a x y) o.1 ∙ w.inside;
    }

pub defined_sound : (s : Slots) (n : Slot) (a : Area) (t : Option Slot) (x y : ℕ) → Sound s t x y → lawful a ≡ true → clear_all a s ≡ true →
    Sound (with_at s n (Some a)) (Some n) a.x1 a.y1
defined_sound s n a t x y w l c =
    let e = at_same s n (Some a) in
    record {
      sharing = with_apart s n (Some a) w.sharing (clear_each a s c);
      fitting = with_fits s n (Some a) w.fitting l;
      defined = ap is_some e;
      inside = ap (λ o. holds (or_whole o) a.x1 a.y1) e ∙ home_held a l;
    }
