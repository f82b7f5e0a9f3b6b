-- A stroke drawn row by row.
use Rattle.std.proofs.Common.{◌≡◌, ℕ, ◌+◌, ◌-◌, ◌<◌, ◌≤◌, min, max, Bool, true, false, cond, ◌&&◌, ◌||◌, eqb, ltb, leb, ◌⊎◌, List, length, get_or, set, sym, refl, ap, ◌∙◌, inl, inr, ⊎_elim, arith}
use Rattle.std.proofs.lemmas.List.{ext_get_or, get_or_past, length-set, get_or-set_same, get_or-set_other}
use Rattle.std.proofs.lemmas.Bool.{and_parts, and_left, and_right, cases_Bool, cases_eq, cases_lt, eq-eqb, ne_eqb, cond-true, cond-false, leb-true, true≢false}
use Rattle.std.proofs.lemmas.Bool.Decides.{nat_tests}
use Rattle.glass.specs.declared.area.Area.{Area}
use Rattle.glass.specs.declared.area.Position.{Position}
use Rattle.glass.specs.declared.stroke.Ink.{Ink}
use Rattle.glass.specs.declared.stroke.Ink.TheVariants.{Blank, BlankRow, Write, ShiftLeft, ShiftRight, ScrollUp, ScrollDown}
use Rattle.glass.specs.declared.stroke.Stroke.{Stroke}
use Rattle.glass.specs.Places.{column, line, place, holds, whole, inside}
use Rattle.glass.specs.Drawn.{blank, seen, inked, within, drawn}
use Rattle.panel.specs.Steps.{rises, falls, cell_at, stepped, Rowed}
use Rattle.panel.proofs.Glass.{on_glass, place_column, column_place, line_place, inside_within, seen_at, seen_here, drawn-length, drawn_in, drawn_out}

-- the place from which an ink takes the cell of a place
abbrev pub source : Ink → ℕ → ℕ
source Blank k = k
source (BlankRow r) k = k
source (Write p v) k = k
source (ShiftLeft r) k = place (column k + 1) (line k)
source (ShiftRight r) k = place (column k - 1) (line k)
source ScrollUp k = place (column k) (line k + 1)
source ScrollDown k = place (column k) (line k - 1)

-- in a row nothing comes from a lower column, or from a higher one

source_rises : (ink : Ink) (k : ℕ) → k < 40 → source ink k < 40 → rises ink ≡ true → line (source ink k) ≡ line k → column (source ink k) < column k → ⊥
source_rises Blank k m o e l b = omega arith
source_rises (BlankRow r) k m o e l b = omega arith
source_rises (Write p v) k m o e l b = omega arith
source_rises (ShiftLeft r) k m o e l b = grind (arith, nat_tests)
source_rises (ShiftRight r) k m o e l b = true≢false (sym e)
source_rises ScrollUp k m o e l b = grind (arith, nat_tests)
source_rises ScrollDown k m o e l b = grind (arith, nat_tests)

source_falls : (ink : Ink) (k : ℕ) → k < 40 → source ink k < 40 → falls ink ≡ true → line (source ink k) ≡ line k → column k < column (source ink k) → ⊥
source_falls Blank k m o e l b = omega arith
source_falls (BlankRow r) k m o e l b = omega arith
source_falls (Write p v) k m o e l b = omega arith
source_falls (ShiftLeft r) k m o e l b = true≢false (sym e)
source_falls (ShiftRight r) k m o e l b = grind (arith, nat_tests)
source_falls ScrollUp k m o e l b = grind (arith, nat_tests)
source_falls ScrollDown k m o e l b = grind (arith, nat_tests)

-- the new cell rests on the place and its source alone
cell_near : (ink : Ink) (a : Area) (g h : List ℕ) (k : ℕ) → get_or g k 0 ≡ get_or h k 0 → get_or g (source ink k) 0 ≡ get_or h (source ink k) 0 →
    inked ink (seen a g) (column k) (line k) ≡ inked ink (seen a h) (column k) (line k)
cell_near ink a g h k here there = go ink there
  where
    own : seen a g (column k) (line k) ≡ seen a h (column k) (line k)
    own = seen_at a g h (column k) (line k) (λ _. ap (λ j. get_or g j 0) (place_column k) ∙ here ∙ ap (λ j. get_or h j 0) (sym (place_column k)))

    go : (i : Ink) → get_or g (source i k) 0 ≡ get_or h (source i k) 0 → inked i (seen a g) (column k) (line k) ≡ inked i (seen a h) (column k) (line k)
    go Blank e = refl
    go (BlankRow r) e = ap (cond (eqb (line k) r) blank) own
    go (Write p v) e = ap (cond (eqb (column k) p.column && eqb (line k) p.row) v) own
    go (ShiftLeft r) e = λ i. cond (eqb (line k) r) (seen_at a g h (column k + 1) (line k) (λ _. e) i) (own i)
    go (ShiftRight r) e = λ i. cond (eqb (line k) r) (seen_at a g h (column k - 1) (line k) (λ _. e) i) (own i)
    go ScrollUp e = seen_at a g h (column k) (line k + 1) (λ _. e)
    go ScrollDown e = seen_at a g h (column k) (line k - 1) (λ _. e)

-- one position

stepped-length : (s : Stroke) (x y : ℕ) (g : List ℕ) → length (stepped s x y g) ≡ length g
stepped-length s x y g = go (inside s.area x y)
  where
    go : (b : Bool) → length (cond b (set g (place x y) (inked s.ink (seen s.area g) x y)) g) ≡ length g
    go true = length-set g (place x y) (inked s.ink (seen s.area g) x y)
    go false = refl

stepped_here : (s : Stroke) (x y : ℕ) (g : List ℕ) (k : ℕ) → k < length g → within s.area k ≡ true → column k ≡ x → line k ≡ y → get_or (stepped s x y g) k 0 ≡ cell_at s g k
stepped_here s x y g k l w p q =
    (λ i. get_or (stepped s (sym p i) (sym q i) g) k 0)
    ∙ ap (λ c. get_or c k 0) (cond-true (within s.area k) (set g (place (column k) (line k)) (cell_at s g k)) g w)
    ∙ ap (λ j. get_or (set g j (cell_at s g k)) k 0) (place_column k)
    ∙ get_or-set_same g k (cell_at s g k) 0 l

stepped_other : (s : Stroke) (x y : ℕ) (g : List ℕ) (k : ℕ) → (within s.area k ≡ true → column k ≡ x → line k ≡ y → ⊥) → get_or (stepped s x y g) k 0 ≡ get_or g k 0
stepped_other s x y g k n =
    ⊎_elim
    (λ h.
    let w = (and_parts (holds whole x y) (holds s.area x y) h).0 in
    ap (λ c. get_or c k 0) (cond-true (inside s.area x y) (set g (place x y) (inked s.ink (seen s.area g) x y)) g h)
    ∙ get_or-set_other g (place x y) k (inked s.ink (seen s.area g) x y) 0
    (λ q. n (ap (within s.area) q ∙ inside_within s.area x y h) (ap column q ∙ column_place x y w) (ap line q ∙ line_place x y w)))
    (λ h. ap (λ c. get_or c k 0) (cond-false (inside s.area x y) (set g (place x y) (inked s.ink (seen s.area g) x y)) g h))
    (cases_Bool (inside s.area x y))

-- one row, column after column

or_right : (a : Bool) → (a || true) ≡ true
or_right true = refl
or_right false = refl

or_else : (a b : Bool) → (a || b) ≡ true → b ≡ false → a ≡ true
or_else true b e f = refl
or_else false b e f = absurd (true≢false (sym e ∙ f))

columns_of : (a : Area) (k : ℕ) → within a k ≡ true → (a.x1 ≤ column k) × (column k ≤ a.x2) × (1 ≤ column k) × (column k ≤ 20)
columns_of a k h =
    let w = and_parts (holds whole (column k) (line k)) (holds a (column k) (line k)) h in
    let p = and_parts (leb a.x1 (column k)) (leb (column k) a.x2 && (leb a.y1 (line k) && leb (line k) a.y2)) w.1 in
    let q = and_parts (leb (column k) a.x2) (leb a.y1 (line k) && leb (line k) a.y2) p.1 in
    let o = on_glass (column k) (line k) w.0 in
    (leb-true a.x1 (column k) p.0, leb-true (column k) a.x2 q.0, o.0, o.1)

-- some columns of the row are drawn, and the others are as they were
pub record Partly (s : Stroke) (r : ℕ) (past : ℕ → Bool) (old g : List ℕ) : Type 0 where
  pub long : length g ≡ length old
  pub done : (k : ℕ) → k < length old → within s.area k ≡ true → line k ≡ r → past (column k) ≡ true → get_or g k 0 ≡ cell_at s old k
  pub left : (k : ℕ) → (within s.area k ≡ true → line k ≡ r → past (column k) ≡ true → ⊥) → get_or g k 0 ≡ get_or old k 0

module _ (s : Stroke) (r : ℕ) (old : List ℕ) where
  partly_none : (past : ℕ → Bool) → ((k : ℕ) → within s.area k ≡ true → past (column k) ≡ true → ⊥) → Partly s r past old old
  partly_none past n = record { long = refl; done = λ k l w e d. absurd (n k w d); left = λ k h. refl }

  partly_all : (past : ℕ → Bool) (g : List ℕ) → ((k : ℕ) → within s.area k ≡ true → past (column k) ≡ true) → Partly s r past old g → Rowed s r old g
  partly_all past g all inv =
      record { long = inv.long; done = λ k l w e. inv.done k l w e (all k w); left = λ k n. inv.left k (λ w e d. n w e) }

  -- one column more, whose cells come from no column that is drawn
  partly_more : (past next : ℕ → Bool) (g h : List ℕ) (x : ℕ) → Partly s r past old g → h ≡ stepped s x r g → past x ≡ false →
      ((c : ℕ) → next c ≡ (past c || eqb c x)) → ((k : ℕ) → k < length old → source s.ink k < length old → column k ≡ x → line (source s.ink k) ≡ line k → past (column (source s.ink k)) ≡ true → ⊥) →
      Partly s r next old h
  partly_more past next g h x inv e fresh is from = record { long = ap length e ∙ stepped-length s x r g ∙ inv.long; done = done; left = left }
    where
      own : (k : ℕ) → column k ≡ x → get_or g k 0 ≡ get_or old k 0
      own k q = inv.left k (λ w l d. true≢false (sym d ∙ ap past q ∙ fresh))

      there : (k : ℕ) → k < length old → column k ≡ x → line k ≡ r → get_or g (source s.ink k) 0 ≡ get_or old (source s.ink k) 0
      there k b q l =
          ⊎_elim
          (λ o. inv.left (source s.ink k) (λ w m d. from k b o q (m ∙ sym l) d))
          (λ o. get_or_past g (source s.ink k) 0 (omega (arith, inv.long)) ∙ sym (get_or_past old (source s.ink k) 0 o))
          (cases_lt (source s.ink k) (length old))

      here : (k : ℕ) → column k ≡ x → next (column k) ≡ true
      here k q = is (column k) ∙ ap (λ b. past (column k) || b) (eq-eqb (column k) x q) ∙ or_right (past (column k))

      before : (k : ℕ) → past (column k) ≡ true → next (column k) ≡ true
      before k d = is (column k) ∙ ap (λ b. b || eqb (column k) x) d

      done : (k : ℕ) → k < length old → within s.area k ≡ true → line k ≡ r → next (column k) ≡ true → get_or h k 0 ≡ cell_at s old k
      done k b w l d = go (cases_eq (column k) x)
        where
          go : (column k ≡ x) ⊎ (column k ≡ x → ⊥) → get_or h k 0 ≡ cell_at s old k
          go (inl q) =
              ap (λ c. get_or c k 0) e ∙ stepped_here s x r g k (omega (arith, inv.long)) w q l ∙ cell_near s.ink s.area g old k (own k q) (there k b q l)
          go (inr n) =
              let p = or_else (past (column k)) (eqb (column k) x) (sym (is (column k)) ∙ d) (ne_eqb (column k) x n) in
              ap (λ c. get_or c k 0) e ∙ stepped_other s x r g k (λ _ q _. n q) ∙ inv.done k b w l p

      left : (k : ℕ) → (within s.area k ≡ true → line k ≡ r → next (column k) ≡ true → ⊥) → get_or h k 0 ≡ get_or old k 0
      left k n = ap (λ c. get_or c k 0) e ∙ stepped_other s x r g k (λ w q l. n w l (here k q)) ∙ inv.left k (λ w l d. n w l (before k d))

  -- from left to right: the columns below x are drawn

  pub right_none : (x : ℕ) → x ≡ max s.area.x1 1 → Partly s r (λ c. ltb c x) old old
  right_none x e = partly_none (λ c. ltb c x) (λ k w d. let o = columns_of s.area k w in grind (arith, nat_tests))

  pub right_more : (g h : List ℕ) (x : ℕ) → length old ≡ 40 → rises s.ink ≡ true → Partly s r (λ c. ltb c x) old g → h ≡ stepped s x r g → Partly s r (λ c. ltb c (x + 1)) old h
  right_more g h x forty up inv e =
      partly_more (λ c. ltb c x) (λ c. ltb c (x + 1)) g h x inv e (grind (arith, nat_tests)) (λ c. grind (arith, nat_tests))
      (λ k b o q l d. source_rises s.ink k (omega arith) (omega arith) up l (grind (arith, nat_tests)))

  pub right_all : (g : List ℕ) (x : ℕ) → min s.area.x2 20 + 1 ≤ x → Partly s r (λ c. ltb c x) old g → Rowed s r old g
  right_all g x b inv = partly_all (λ c. ltb c x) g (λ k w. let o = columns_of s.area k w in grind (arith, nat_tests)) inv

  -- from right to left: the columns from x on are drawn

  pub left_none : (x : ℕ) → x ≡ min s.area.x2 20 + 1 → Partly s r (λ c. leb x c) old old
  left_none x e = partly_none (λ c. leb x c) (λ k w d. let o = columns_of s.area k w in grind (arith, nat_tests))

  pub left_more : (g h : List ℕ) (x : ℕ) → length old ≡ 40 → falls s.ink ≡ true → 0 < x → Partly s r (λ c. leb x c) old g → h ≡ stepped s (x - 1) r g → Partly s r (λ c. leb (x - 1) c) old h
  left_more g h x forty down b inv e =
      partly_more (λ c. leb x c) (λ c. leb (x - 1) c) g h (x - 1) inv e (grind (arith, nat_tests)) (λ c. grind (arith, nat_tests))
      (λ k b o q l d. source_falls s.ink k (omega arith) (omega arith) down l (grind (arith, nat_tests)))

  pub left_all : (g : List ℕ) (x : ℕ) → x ≤ max s.area.x1 1 → Partly s r (λ c. leb x c) old g → Rowed s r old g
  left_all g x b inv = partly_all (λ c. leb x c) g (λ k w. let o = columns_of s.area k w in grind (arith, nat_tests)) inv

-- the stroke from its rows

alike : (s : Stroke) (g h : List ℕ) → length h ≡ length g → ((k : ℕ) → k < length g → within s.area k ≡ true → get_or h k 0 ≡ cell_at s g k) →
    ((k : ℕ) → k < length g → within s.area k ≡ false → get_or h k 0 ≡ get_or g k 0) → h ≡ drawn s g
alike s g h l inner outer =
    ext_get_or 0 h (drawn s g) (l ∙ sym (drawn-length s g)) (λ k b. go k (omega (arith, l)))
  where
    go : (k : ℕ) → k < length g → get_or h k 0 ≡ get_or (drawn s g) k 0
    go k b = ⊎_elim (λ w. inner k b w ∙ sym (drawn_in s g k b w)) (λ w. outer k b w ∙ sym (drawn_out s g k w)) (cases_Bool (within s.area k))

-- both rows, of which the second takes nothing from the first
pub both_rows : (s : Stroke) (a b : ℕ) (g h c : List ℕ) → length g ≡ 40 → Rowed s a g h → Rowed s b h c → (a ≡ b → ⊥) → ((k : ℕ) → (line k ≡ a) ⊎ (line k ≡ b)) →
    ((k : ℕ) → line k ≡ b → line (source s.ink k) ≡ a → ⊥) → c ≡ drawn s g
both_rows s a b g h c forty one two apart lines free = alike s g c (two.long ∙ one.long) (λ k l w. inner k l w (lines k)) outer
  where
    inner : (k : ℕ) → k < length g → within s.area k ≡ true → (line k ≡ a) ⊎ (line k ≡ b) → get_or c k 0 ≡ cell_at s g k
    inner k l w (inl e) = two.left k (λ _ f. apart (sym e ∙ f)) ∙ one.done k l w e
    inner k l w (inr e) =
        two.done k (omega (arith, one.long)) w e
        ∙ cell_near s.ink s.area h g k (one.left k (λ _ f. apart (sym f ∙ e))) (one.left (source s.ink k) (λ _ f. free k e f))

    outer : (k : ℕ) → k < length g → within s.area k ≡ false → get_or c k 0 ≡ get_or g k 0
    outer k l f = two.left k (λ w _. true≢false (sym w ∙ f)) ∙ one.left k (λ w _. true≢false (sym w ∙ f))

-- one row, where the ink leaves every other row
pub one_row : (s : Stroke) (r : ℕ) (g h : List ℕ) → Rowed s r g h → ((look : ℕ → ℕ → ℕ) (x y : ℕ) → (y ≡ r → ⊥) → inked s.ink look x y ≡ look x y) → h ≡ drawn s g
one_row s r g h one else = alike s g h one.long (λ k l w. inner k l w (cases_eq (line k) r)) (λ k l f. one.left k (λ w _. true≢false (sym w ∙ f)))
  where
    inner : (k : ℕ) → k < length g → within s.area k ≡ true → (line k ≡ r) ⊎ (line k ≡ r → ⊥) → get_or h k 0 ≡ cell_at s g k
    inner k l w (inl e) = one.done k l w e
    inner k l w (inr n) = one.left k (λ _. n) ∙ sym (else (seen s.area g) (column k) (line k) n ∙ seen_here s.area g k w)

-- one position, where the ink leaves every other one
pub one_step : (s : Stroke) (x y : ℕ) (g h : List ℕ) → h ≡ stepped s x y g → ((look : ℕ → ℕ → ℕ) (u v : ℕ) → (u ≡ x → v ≡ y → ⊥) → inked s.ink look u v ≡ look u v) → h ≡ drawn s g
one_step s x y g h e else = e ∙ alike s g (stepped s x y g) (stepped-length s x y g) inner (λ k l f. stepped_other s x y g k (λ w _ _. true≢false (sym w ∙ f)))
  where
    apart : (k : ℕ) → k < length g → within s.area k ≡ true → (column k ≡ x → line k ≡ y → ⊥) → get_or (stepped s x y g) k 0 ≡ cell_at s g k
    apart k l w n = stepped_other s x y g k (λ _. n) ∙ sym (else (seen s.area g) (column k) (line k) n ∙ seen_here s.area g k w)

    inner : (k : ℕ) → k < length g → within s.area k ≡ true → get_or (stepped s x y g) k 0 ≡ cell_at s g k
    inner k l w =
        ⊎_elim
        (λ p. ⊎_elim (λ q. stepped_here s x y g k l w p q) (λ n. apart k l w (λ _. n)) (cases_eq (line k) y))
        (λ n. apart k l w (λ p _. n p))
        (cases_eq (column k) x)

-- inks of one row and of one position leave what is seen elsewhere

pub blank_else : (r : ℕ) (look : ℕ → ℕ → ℕ) (x y : ℕ) → (y ≡ r → ⊥) → inked (BlankRow r) look x y ≡ look x y
blank_else r look x y n = cond-false (eqb y r) blank (look x y) (ne_eqb y r n)

pub left_else : (r : ℕ) (look : ℕ → ℕ → ℕ) (x y : ℕ) → (y ≡ r → ⊥) → inked (ShiftLeft r) look x y ≡ look x y
left_else r look x y n = cond-false (eqb y r) (look (x + 1) y) (look x y) (ne_eqb y r n)

pub right_else : (r : ℕ) (look : ℕ → ℕ → ℕ) (x y : ℕ) → (y ≡ r → ⊥) → inked (ShiftRight r) look x y ≡ look x y
right_else r look x y n = cond-false (eqb y r) (look (x - 1) y) (look x y) (ne_eqb y r n)

pub write_else : (p : Position) (v : ℕ) (look : ℕ → ℕ → ℕ) (x y : ℕ) → (x ≡ p.column → y ≡ p.row → ⊥) → inked (Write p v) look x y ≡ look x y
write_else p v look x y n = cond-false (eqb x p.column && eqb y p.row) v (look x y) (go (cases_eq x p.column))
  where
    go : (x ≡ p.column) ⊎ (x ≡ p.column → ⊥) → (eqb x p.column && eqb y p.row) ≡ false
    go (inl e) = and_right (eqb x p.column) (eqb y p.row) (ne_eqb y p.row (n e))
    go (inr f) = and_left (eqb x p.column) (eqb y p.row) (ne_eqb x p.column f)

-- which row, and that the row which is drawn second takes nothing from the first

pub lines : (k : ℕ) → (line k ≡ 1) ⊎ (line k ≡ 2)
lines k = ⊎_elim (λ b. inl (grind (arith, nat_tests))) (λ b. inr (grind (arith, nat_tests))) (cases_lt k 20)

pub blank_free : (k : ℕ) → line k ≡ 2 → line (source Blank k) ≡ 1 → ⊥
blank_free k e f = omega arith

pub up_free : (k : ℕ) → line k ≡ 2 → line (source ScrollUp k) ≡ 1 → ⊥
up_free k e f = grind (arith, nat_tests)

pub down_free : (k : ℕ) → line k ≡ 1 → line (source ScrollDown k) ≡ 2 → ⊥
down_free k e f = grind (arith, nat_tests)
