-- Panels reached by puts alone.
use Rattle.std.proofs.Common.{ℕ, ◌<◌}
use Rattle.panel.specs.Laws.{Reached, none, more}

module _ {S : Type 0} {puts : S → ℕ → ℕ → S → Type 0} where
  pub reached_one : {p q : S} (k v : ℕ) → k < 40 → puts p k v q → Reached puts p q
  reached_one k v l h = more k v none l h

  pub reached_trans : {p q r : S} → Reached puts p q → Reached puts q r → Reached puts p r
  reached_trans a none = a
  reached_trans a (more k v b l h) = more k v (reached_trans a b) l h
