-- A question outside its table is answered alike by all displays.
use Rattle.panel.specs.Laws.{Make}
use Rattle.std.proofs.Common.{◌≡◌, ℕ, ◌-◌, ◌<◌, ◌≤◌, true, List, length, take, Some, None, Ok, sym, refl, ap, ◌∙◌, subst, ⊎_elim, arith}
use Rattle.std.proofs.lemmas.List.{ext_get_or, get_or_past, length-take}
use Rattle.std.proofs.lemmas.Bool.{cases_lt, cases_eq, cond_both, cond-true, cond-false}
use Rattle.std.proofs.lemmas.Bool.Decides.{nat_tests}
use Rattle.glass.specs.Places.{column, line, holds, whole, place, place_at}
use Rattle.panel.proofs.Glass.{on_glass, place_column, whole_holds}
use Rattle.state.specs.declared.slots.Slots.{Slots}
use Rattle.state.specs.declared.controller.Machine.{Machine}
use Rattle.state.specs.Core.{core_of}
use Rattle.state.specs.Layouts.{window_area}
use Rattle.state.specs.declared.tape.Use.{Use}
use Rattle.state.specs.declared.tape.Use.TheVariants.{Stored, Playing}
use Rattle.state.specs.Reels.{lawful_reel}
use Rattle.state.specs.Tapes.{macro_by}
use Rattle.state.specs.Questions.{user_of, macro_of}
use Rattle.display.specs.declared.words.Question.TheVariants.{Cell, Cursor, Window, User, Macro, Lamp, Modes}
use Rattle.display.specs.declared.words.Answer.TheVariants as say
use Rattle.display.specs.declared.engine.Display.{Display}
use Rattle.display.specs.Answers.{cell_at}
use Rattle.history.specs.Compared.{AgreeOn, Agree, AgreeOnGlass, AgreeOnWindows, AgreeOnUsers, AgreeOnMacro, AgreeInParts}

window_bounded : (s : Slots) (n : ℕ) → 5 ≤ n → window_area s n ≡ None
window_bounded s n h = grind (arith, nat_tests)

-- there is no user character from code 256 on
user_bounded : (c : Machine) (n : ℕ) → 256 ≤ n → user_of (core_of c) n ≡ None
user_bounded c n h =
    let e = get_or_past c.users.places (n - 32) None (omega (arith, c.users.all)) in
    grind (arith, nat_tests)

take_short : (n : ℕ) (bs : List ℕ) → length (take n bs) ≤ n
take_short n bs = omega (arith, length-take n bs)

-- a macro has eighty bytes at most
macro_short : (u : Use) (bs : List ℕ) (k n : ℕ) → lawful_reel u k ≡ true → length bs ≤ k → 81 ≤ n → macro_by u bs n ≡ None
macro_short Stored bs k n h l m = grind (arith, nat_tests)
macro_short (Playing a b w i) bs k n h l m = grind (arith, nat_tests)
macro_short u bs k n h l m = refl

macro_bounded : (c : Machine) (n : ℕ) → 81 ≤ n → macro_of (core_of c) n ≡ None
macro_bounded c n h = macro_short c.tape.current (take c.tape.len c.tape.bytes) c.tape.len n c.tape.bounds (take_short c.tape.len c.tape.bytes) h

module _ {P Q R : Type 0} (make : Make P) (make' : Make Q) (a : Display P R) (b : Display Q R) where
  -- off the glass both refuse
  placed : (x y : ℕ) → (holds whole x y ≡ true → AgreeOn make make' a b (Cell x y)) → AgreeOn make make' a b (Cell x y)
  placed x y h =
      cond_both (holds whole x y) x x (λ _. AgreeOn make make' a b (Cell x y)) h
      (λ e. subst (λ o. cell_at (make.cells a.panel) o ≡ cell_at (make'.cells b.panel) o) (sym (cond-false (holds whole x y) (Some (place x y)) None e)) refl)

  pub row_all : (y : ℕ) → ((x : ℕ) → 1 ≤ x → x < 21 → AgreeOn make make' a b (Cell x y)) → (x : ℕ) → AgreeOn make make' a b (Cell x y)
  row_all y h x = placed x y (λ e. h x (on_glass x y e).0 (omega (arith, on_glass x y e)))

  pub glass_all : ((x : ℕ) → AgreeOn make make' a b (Cell x 1)) → ((x : ℕ) → AgreeOn make make' a b (Cell x 2)) → AgreeOnGlass make make' a b
  glass_all h k x y =
      placed x y (λ e.
      ⊎_elim (λ one. subst (λ n. AgreeOn make make' a b (Cell x n)) (sym one) (h x))
      (λ more. let two : 2 ≡ y = omega (arith, on_glass x y e) in subst (λ n. AgreeOn make make' a b (Cell x n)) two (k x))
      (cases_eq y 1))

  pub windows_all : ((n : ℕ) → n < 5 → AgreeOn make make' a b (Window n)) → AgreeOnWindows make make' a b
  windows_all h n =
      ⊎_elim (λ lt. h n lt)
      (λ ge. ap (λ o. Ok (say.Window o)) (window_bounded a.controller.machine.windows.slots n ge ∙ sym (window_bounded b.controller.machine.windows.slots n ge)))
      (cases_lt n 5)

  pub users_all : ((n : ℕ) → n < 256 → AgreeOn make make' a b (User n)) → AgreeOnUsers make make' a b
  users_all h n =
      ⊎_elim (λ lt. h n lt)
      (λ ge. ap (λ o. Ok (say.User o)) (user_bounded a.controller.machine n ge ∙ sym (user_bounded b.controller.machine n ge)))
      (cases_lt n 256)

  pub macro_all : ((n : ℕ) → n < 81 → AgreeOn make make' a b (Macro n)) → AgreeOnMacro make make' a b
  macro_all h n =
      ⊎_elim (λ lt. h n lt)
      (λ ge. ap (λ o. Ok (say.Macro o)) (macro_bounded a.controller.machine n ge ∙ sym (macro_bounded b.controller.machine n ge)))
      (cases_lt n 81)

  pub from_parts : AgreeInParts make make' a b → Agree make make' a b
  from_parts h (Cell x y) = h.0 x y
  from_parts h (Window n) = h.1.0 n
  from_parts h (User n) = h.1.1 n
  from_parts h (Macro n) = h.1.2 n
  from_parts h Cursor = h.2.0
  from_parts h Lamp = h.2.1
  from_parts h Modes = h.2.2

  pub to_parts : Agree make make' a b → AgreeInParts make make' a b
  to_parts h = (λ x y. h (Cell x y), (λ n. h (Window n), λ n. h (User n), λ n. h (Macro n)), (h Cursor, h Lamp, h Modes))

  -- and then the forty cells are the same
  pub same_cells : length (make.cells a.panel) ≡ 40 → length (make'.cells b.panel) ≡ 40 → Agree make make' a b → make.cells a.panel ≡ make'.cells b.panel
  same_cells l l' h =
      let f = make.cells a.panel in
      let g = make'.cells b.panel in
      ext_get_or 0 f g (l ∙ sym l')
      (λ k lt.
      let on : holds whole (column k) (line k) ≡ true = whole_holds k (omega arith) in
      let e : place_at (column k) (line k) ≡ Some k = cond-true (holds whole (column k) (line k)) (Some (place (column k) (line k))) None on ∙ ap Some (place_column k) in
      let x : cell_at f (Some k) ≡ cell_at g (Some k) = subst (λ o. cell_at f o ≡ cell_at g o) e (h (Cell (column k) (line k))) in
      cc)
