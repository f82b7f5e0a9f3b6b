-- The logic does not know how long an array is: forty numbers of any list, which are the list itself where it has forty.
use Rattle.std.specs.Prelude.{◌≡◌, ℕ, ◌≤◌, List, ◌++◌, length, take, replicate, slice_set}
use Rattle.std.proofs.Common.{sym, ap, ◌∙◌, arith}
use Rattle.std.proofs.lemmas.List.{length-append, length-replicate, length-take-le, take-append-le, take_all, length-set}

abbrev pub forty : List ℕ → List ℕ
forty xs = take 40 (xs ++ replicate 40 0)

pub forty_length : (xs : List ℕ) → length (forty xs) ≡ 40
forty_length xs =
    let h : 40 ≤ length (xs ++ replicate 40 0) = simp (length-append, length-replicate) (omega arith) in
    length-take-le 40 (xs ++ replicate 40 0) h

pub forty_same : (xs : List ℕ) → length xs ≡ 40 → forty xs ≡ xs
forty_same xs e =
    let h : 40 ≤ length xs = omega arith in
    let k : length xs ≤ 40 = omega arith in
    take-append-le 40 xs (replicate 40 0) h ∙ take_all 40 xs k

pub forty_set : (xs : List ℕ) (k v : ℕ) → length xs ≡ 40 → forty (slice_set xs k v) ≡ slice_set (forty xs) k v
forty_set xs k v e = forty_same (slice_set xs k v) (length-set xs k v ∙ e) ∙ ap (λ ys. slice_set ys k v) (sym (forty_same xs e))
