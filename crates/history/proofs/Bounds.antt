-- What a display never exceeds: its window record and its tape hold these facts.
use Rattle.std.proofs.Common.{◌≡◌, ℕ, ◌≤◌, true, length, Some, Option, sym, ap, ◌∙◌, subst, arith}
use Rattle.std.proofs.lemmas.List.{length-take-le}
use Rattle.std.proofs.lemmas.Bool.Decides.{nat_tests}
use Rattle.glass.specs.declared.area.Area.{Area}
use Rattle.glass.specs.Places.{holds, whole, lawful, apart}
use Rattle.panel.specs.Laws.{Make, Laws}
use Rattle.commands.specs.Sets.{Reads}
use Rattle.state.specs.declared.controller.Machine.{Machine}
use Rattle.state.specs.declared.tape.Tape.{Tape}
use Rattle.state.specs.declared.tape.Use.{Use}
use Rattle.state.specs.declared.tape.Use.TheVariants.{Blank}
use Rattle.state.specs.Reels.{lawful_reel}
use Rattle.state.specs.Slots.{fits, clears}
use Rattle.state.specs.Tapes.{reel_of}
use Rattle.state.specs.Core.{core_of}
use Rattle.history.specs.Bounds.{Stores, Bounded, Bounds}
use Rattle.history.proofs.Lived.{life_run}

-- what a tape stores, which is no more than its memory
stores : (u : Use) (n : ℕ) → lawful_reel u n ≡ true → Stores u n × (n ≤ 82)
stores Blank n h = grind (arith, nat_tests)
stores u n h = grind (arith, nat_tests)

tape_stores : (t : Tape) → Stores t.current (length (reel_of t).bytes)
tape_stores t =
    let s = stores t.current t.len t.bounds in
    subst (Stores t.current) (sym (length-take-le t.len t.bytes (omega (arith, s.1, t.size)))) s.0

corner_held : (a : Area) → lawful a ≡ true → holds a a.x1 a.y1 ≡ true
corner_held a h = grind (arith, nat_tests)

on_glass : (a : Area) → lawful a ≡ true → (x y : ℕ) → holds a x y ≡ true → holds whole x y ≡ true
on_glass a l x y h = grind (arith, nat_tests)

none_shared : (a b : Area) → apart a b ≡ true → (x y : ℕ) → holds a x y ≡ true → holds b x y ≡ true → ⊥
none_shared a b p x y h k = grind (arith, nat_tests)

both_clear : (o k : Option Area) (a b : Area) → clears o k ≡ true → o ≡ Some a → k ≡ Some b → apart a b ≡ true
both_clear o k a b h p q = ap (λ x. clears x (Some b)) (sym p) ∙ ap (clears o) (sym q) ∙ h

bounded : (c : Machine) → Bounded (core_of c)
bounded c =
    let w = c.windows in
    record {
      tape = tape_stores c.tape;
      cursor = w.inside;
      current = w.defined;
      some = λ n a e. corner_held a (ap fits (sym e) ∙ w.fitting n);
      glass = λ n a e. on_glass a (ap fits (sym e) ∙ w.fitting n);
      sharing = λ n m a b d p q. none_shared a b (both_clear _ _ a b (w.sharing n m d) p q);
    }

pub bounds : {P R : Type 0} (make : Make P) (laws : Laws make) (reads : Reads R) → Bounds make reads
bounds make laws reads = record {
  displays = λ d. bounded d.controller.machine;
  lives = λ p es fs d life. subst Bounded (ap (λ s. s.core) (life_run make laws reads p es fs d life).state) (bounded d.controller.machine);
}
