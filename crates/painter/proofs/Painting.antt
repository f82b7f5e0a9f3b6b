-- A screen takes the changes one by one.
use Rattle.std.proofs.Common.{◌≡◌, ℕ, ◌+◌, ◌<◌, ◌≤◌, List, length, get_or, take, set, sym, ap, ◌∙◌}
use Rattle.std.proofs.lemmas.List.{take_more, set_past}
use Rattle.strip.specs.declared.strip.Change.{Change}
use Rattle.strip.specs.Strip.{merged}
use Rattle.strip.specs.Laws.{merged_push}

-- one change more
pub merged_more : (s t u : List ℕ) (cs : List Change) (i : ℕ) (d : Change) → t ≡ merged s (take i cs) → i < length cs →
    u ≡ set t (get_or cs i d).place (get_or cs i d).cell → u ≡ merged s (take (i + 1) cs)
merged_more s t u cs i d e h put =
    let c = get_or cs i d in
    put ∙ ap (λ x. set x c.place c.cell) e ∙ sym (merged_push s (take i cs) c) ∙ sym (ap (merged s) (take_more cs i d h))

-- a change beside the screen
pub off_screen : (xs : List ℕ) (k v : ℕ) → length xs ≤ k → set xs k v ≡ xs
off_screen xs k v h = set_past xs k v h
