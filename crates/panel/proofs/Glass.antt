-- What a stroke does to the cells.
use Rattle.std.proofs.Common.{◌≡◌, ℕ, zero, suc, ◌<◌, ◌≤◌, Bool, true, false, cond, ◌&&◌, eqb, leb, List, [], ◌∷◌, length, get_or, set, replicate, Some, None, Option, sym, refl, ap, ◌∙◌, ⊎_elim, arith}
use Rattle.std.proofs.lemmas.List.{ext_get_or, get_or_past, get_or-replicate, length-replicate, length-set, get_or-set_same, get_or-set_other}
use Rattle.std.proofs.lemmas.Bool.{and_parts, and_from, leb-true, cases_lt, cases_eq, cases_Bool, eq-eqb, eqb-true, cond-true, cond-false, false≢true}
use Rattle.std.proofs.lemmas.Bool.Decides.{nat_tests}
use Rattle.glass.specs.declared.area.Area.{Area}
use Rattle.glass.specs.declared.stroke.Ink.TheVariants.{Blank, Write}
use Rattle.glass.specs.declared.stroke.Stroke.{Stroke}
use Rattle.glass.specs.Places.{column, line, place, place_at, holds, whole, inside}
use Rattle.glass.specs.Drawn.{blank, seen, inked, redraw, within, drawn}
use Rattle.panel.specs.Steps.{cell_at, written}

cond_in : (b : Bool) (x y z : ℕ) → (b ≡ true → y ≡ z) → cond b y x ≡ cond b z x
cond_in true x y z h = h refl
cond_in false x y z h = refl

-- redraw

pub redraw-length : (picks : ℕ → Bool) (f : ℕ → ℕ) (g : List ℕ) → length (redraw picks f g) ≡ length g
redraw-length picks f [] = refl
redraw-length picks f (x ∷ xs) = ap suc (redraw-length (λ k. picks (suc k)) (λ k. f (suc k)) xs)

pub redraw-get : (picks : ℕ → Bool) (f : ℕ → ℕ) (g : List ℕ) (k : ℕ) → k < length g → get_or (redraw picks f g) k 0 ≡ cond (picks k) (f k) (get_or g k 0)
redraw-get picks f [] k h = absurd (omega arith)
redraw-get picks f (x ∷ xs) zero h = refl
redraw-get picks f (x ∷ xs) (suc k) h = redraw-get (λ j. picks (suc j)) (λ j. f (suc j)) xs k (omega arith)

-- past the end too
pub redraw_out : (picks : ℕ → Bool) (f : ℕ → ℕ) (g : List ℕ) (k : ℕ) → picks k ≡ false → get_or (redraw picks f g) k 0 ≡ get_or g k 0
redraw_out picks f [] k e = refl
redraw_out picks f (x ∷ xs) zero e = cond-false (picks 0) (f 0) x e
redraw_out picks f (x ∷ xs) (suc k) e = redraw_out (λ j. picks (suc j)) (λ j. f (suc j)) xs k e

-- to redraw is to say what each place holds
pub redraw_is : (picks : ℕ → Bool) (f : ℕ → ℕ) (g h : List ℕ) → length h ≡ length g →
    ((k : ℕ) → k < length g → picks k ≡ true → get_or h k 0 ≡ f k) → ((k : ℕ) → k < length g → picks k ≡ false → get_or h k 0 ≡ get_or g k 0) → h ≡ redraw picks f g
redraw_is picks f g h l picked left =
    ext_get_or 0 h (redraw picks f g) (l ∙ sym (redraw-length picks f g)) (λ k lt. go k (picks k) refl (omega (arith, l)) ∙ sym (redraw-get picks f g k (omega (arith, l))))
  where
    go : (k : ℕ) (b : Bool) → picks k ≡ b → k < length g → get_or h k 0 ≡ cond (picks k) (f k) (get_or g k 0)
    go k true e lt = picked k lt e ∙ sym (cond-true (picks k) (f k) (get_or g k 0) e)
    go k false e lt = left k lt e ∙ sym (cond-false (picks k) (f k) (get_or g k 0) e)

-- places

pub on_glass : (x y : ℕ) → holds whole x y ≡ true → (1 ≤ x) × (x ≤ 20) × (1 ≤ y) × (y ≤ 2)
on_glass x y h =
    let a = and_parts (leb 1 x) (leb x 20 && (leb 1 y && leb y 2)) h in
    let b = and_parts (leb x 20) (leb 1 y && leb y 2) a.1 in
    let c = and_parts (leb 1 y) (leb y 2) b.1 in
    (leb-true 1 x a.0, leb-true x 20 b.0, leb-true 1 y c.0, leb-true y 2 c.1)

pub place_column : (k : ℕ) → place (column k) (line k) ≡ k
place_column k = grind (arith, nat_tests)

pub column_place : (x y : ℕ) → holds whole x y ≡ true → column (place x y) ≡ x
column_place x y h = let b = on_glass x y h in grind (arith, nat_tests)

pub line_place : (x y : ℕ) → holds whole x y ≡ true → line (place x y) ≡ y
line_place x y h = let b = on_glass x y h in grind (arith, nat_tests)

pub whole_holds : (k : ℕ) → k < 40 → holds whole (column k) (line k) ≡ true
whole_holds k h = grind (arith, nat_tests)

pub inside_within : (a : Area) (x y : ℕ) → inside a x y ≡ true → within a (place x y) ≡ true
inside_within a x y h =
    let w = (and_parts (holds whole x y) (holds a x y) h).0 in
    (λ i. inside a (column_place x y w i) (line_place x y w i)) ∙ h

-- what is seen

pub seen_at : (a : Area) (g h : List ℕ) (x y : ℕ) → (inside a x y ≡ true → get_or g (place x y) 0 ≡ get_or h (place x y) 0) → seen a g x y ≡ seen a h x y
seen_at a g h x y same = cond_in (inside a x y) blank (get_or g (place x y) 0) (get_or h (place x y) 0) same

-- equal looks from equal cells inside
pub seen_same : (a : Area) (g h : List ℕ) → ((k : ℕ) → within a k ≡ true → get_or g k 0 ≡ get_or h k 0) → seen a g ≡ seen a h
seen_same a g h same = λ i x y. seen_at a g h x y (λ e. same (place x y) (inside_within a x y e)) i

pub seen_here : (a : Area) (g : List ℕ) (k : ℕ) → within a k ≡ true → seen a g (column k) (line k) ≡ get_or g k 0
seen_here a g k e = cond-true (within a k) (get_or g (place (column k) (line k)) 0) blank e ∙ ap (λ j. get_or g j 0) (place_column k)

-- drawn

pub drawn-length : (s : Stroke) (g : List ℕ) → length (drawn s g) ≡ length g
drawn-length s g = redraw-length (within s.area) (cell_at s g) g

pub drawn_in : (s : Stroke) (g : List ℕ) (k : ℕ) → k < length g → within s.area k ≡ true → get_or (drawn s g) k 0 ≡ cell_at s g k
drawn_in s g k l e = redraw-get (within s.area) (cell_at s g) g k l ∙ cond-true (within s.area k) (cell_at s g k) (get_or g k 0) e

pub drawn_out : (s : Stroke) (g : List ℕ) (k : ℕ) → within s.area k ≡ false → get_or (drawn s g) k 0 ≡ get_or g k 0
drawn_out s g k e = redraw_out (within s.area) (cell_at s g) g k e

pub drawn_past : (s : Stroke) (g : List ℕ) (k : ℕ) → length g ≤ k → get_or (drawn s g) k 0 ≡ 0
drawn_past s g k h = get_or_past (drawn s g) k 0 (omega (arith, drawn-length s g))

-- what a stroke leaves inside its area rests on what was inside alone
pub drawn_same : (s : Stroke) (g h : List ℕ) → length g ≡ length h → ((k : ℕ) → within s.area k ≡ true → get_or g k 0 ≡ get_or h k 0) →
    (k : ℕ) → within s.area k ≡ true → get_or (drawn s g) k 0 ≡ get_or (drawn s h) k 0
drawn_same s g h l same k e =
    ⊎_elim
    (λ b. drawn_in s g k b e ∙ ap (λ look. inked s.ink look (column k) (line k)) (seen_same s.area g h same) ∙ sym (drawn_in s h k (omega arith) e))
    (λ b. drawn_past s g k b ∙ sym (drawn_past s h k (omega arith)))
    (cases_lt k (length g))

pub blank_whole : (g : List ℕ) → length g ≡ 40 → drawn (record { area = whole; ink = Blank }) g ≡ replicate 40 32
blank_whole g l =
    sym (redraw_is (within whole) (λ _. blank) g (replicate 40 32) (length-replicate {A = ℕ} 40 32 ∙ sym l)
    (λ k b e. get_or-replicate 40 k 32 0 (omega arith))
    (λ k b e. absurd (false≢true (sym e ∙ within_whole k (omega arith)))))
  where
    within_whole : (k : ℕ) → k < 40 → within whole k ≡ true
    within_whole k b = and_from (holds whole (column k) (line k)) (holds whole (column k) (line k)) (whole_holds k b) (whole_holds k b)

-- the stroke that writes a cell

pub drawn_cell : (a : Area) (x y v : ℕ) (g : List ℕ) → length g ≡ 40 → inside a x y ≡ true → written x y v g ≡ drawn (record { area = a; ink = Write (record { column = x; row = y }) v }) g
drawn_cell a x y v g l h =
    cond-true (holds whole x y) (set g p v) g w ∙ redraw_is (within a) (λ k. inked (Write (record { column = x; row = y }) v) (seen a g) (column k) (line k)) g (set g p v) (length-set g p v) picked left
  where
    p : ℕ
    p = place x y

    w : holds whole x y ≡ true
    w = (and_parts (holds whole x y) (holds a x y) h).0

    low : p < length g
    low = let b = on_glass x y w in omega arith

    picked : (k : ℕ) → k < length g → within a k ≡ true → get_or (set g p v) k 0 ≡ inked (Write (record { column = x; row = y }) v) (seen a g) (column k) (line k)
    picked k lt e = ⊎_elim here there (cases_eq k p)
      where
        here : k ≡ p → get_or (set g p v) k 0 ≡ inked (Write (record { column = x; row = y }) v) (seen a g) (column k) (line k)
        here q =
            ap (λ j. get_or (set g p v) j 0) q ∙ get_or-set_same g p v 0 low
            ∙ sym (cond-true _ _ _ (and_from _ _ (eq-eqb (column k) x (ap column q ∙ column_place x y w)) (eq-eqb (line k) y (ap line q ∙ line_place x y w))))

        there : (k ≡ p → ⊥) → get_or (set g p v) k 0 ≡ inked (Write (record { column = x; row = y }) v) (seen a g) (column k) (line k)
        there n =
            get_or-set_other g p k v 0 n ∙ sym (seen_here a g k e)
            ∙ sym (cond-false _ _ _ (⊎_elim
            (λ t.
            let both = and_parts (eqb (column k) x) (eqb (line k) y) t in
            absurd (n (sym (place_column k) ∙ (λ i. place (eqb-true (column k) x both.0 i) (eqb-true (line k) y both.1 i)))))
            (λ f. f) (cases_Bool (eqb (column k) x && eqb (line k) y))))

    left : (k : ℕ) → k < length g → within a k ≡ false → get_or (set g p v) k 0 ≡ get_or g k 0
    left k lt e = get_or-set_other g p k v 0 (λ q. false≢true (sym e ∙ ap (within a) q ∙ inside_within a x y h))

-- a place, by its column and row

pub placed_at : (x y k : ℕ) → ◌≡◌ {A = Option ℕ} (Some k) (place_at x y) → (holds whole x y ≡ true) × (k ≡ place x y)
placed_at x y k e =
    ⊎_elim
    (λ t. (t, let s : ◌≡◌ {A = Option ℕ} (Some k) (Some (place x y)) = e ∙ cond-true (holds whole x y) (Some (place x y)) None t in let q : k ≡ place x y = cc in q))
    (λ f. absurd (let s : ◌≡◌ {A = Option ℕ} (Some k) None = e ∙ cond-false (holds whole x y) (Some (place x y)) None f in let z : ◌≡◌ {A = ℕ} 0 1 = cc in omega arith))
    (cases_Bool (holds whole x y))

pub unplaced : (x y : ℕ) → ◌≡◌ {A = Option ℕ} None (place_at x y) → holds whole x y ≡ false
unplaced x y e =
    ⊎_elim
    (λ t. absurd (let s : ◌≡◌ {A = Option ℕ} None (Some (place x y)) = e ∙ cond-true (holds whole x y) (Some (place x y)) None t in let z : ◌≡◌ {A = ℕ} 0 1 = cc in omega arith))
    (λ f. f) (cases_Bool (holds whole x y))
