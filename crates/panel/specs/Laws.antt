-- What a make of panel means, and what it shows of its meaning.
use Rattle.std.specs.Prelude.{◌≡◌, ℕ, ◌<◌, List, length, slice_set}

-- The forty cells, which are all that a panel means; what one put of a cell at a place of the glass leaves; and how
-- `painted` leaves the panel.
pub record Make (S : Type 0) : Type 1 where
  pub cells : S → List ℕ
  pub puts : S → ℕ → ℕ → S → Type 0
  pub paints : S → S → Type 0

-- There are always forty cells; a put sets one of them and keeps the others; painting changes none.
pub record Laws {S : Type 0} (m : Make S) : Type 0 where
  pub forty : (p : S) → length (m.cells p) ≡ 40
  pub putting : (p q : S) (k v : ℕ) → m.puts p k v q → m.cells q ≡ slice_set (m.cells p) k v
  pub painting : (p q : S) → m.paints p q → m.cells q ≡ m.cells p

-- A panel is reached from another by puts alone, any number of them, each at a place of the glass.
pub data Reached {S : Type 0} (puts : S → ℕ → ℕ → S → Type 0) (p : S) : S → Type 0 where
  none : Reached puts p p
  more : {q r : S} (k v : ℕ) → Reached puts p q → k < 40 → puts q k v r → Reached puts p r

-- The panel was drawn on: it was reached by puts alone, and its cells are these.
pub record Drew {S : Type 0} (m : Make S) (p : S) (glass : List ℕ) (q : S) : Type 0 where
  pub cells : m.cells q ≡ glass
  pub reached : Reached m.puts p q
