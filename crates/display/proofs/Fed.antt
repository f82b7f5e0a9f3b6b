-- A piece is fed byte by byte.
use Rattle.std.proofs.Common.{◌≡◌, ℕ, ◌+◌, ◌*◌, ◌<◌, ◌≤◌, cond, ltb, List, [], ◌∷◌, ◌++◌, map, length, get_or, take, set, Some, None, Option, sym, refl, ap, ◌∙◌, subst, append_assoc, add-zero, arith}
use Rattle.std.proofs.lemmas.List.{append-nil, map-append, take_more, take_all, length-append, length-set}
use Rattle.list.specs.declared.list.BoundedList.{BoundedList}
use Rattle.list.specs.Entries.{entries, places, capacity}
use Rattle.commands.specs.Sets.{Reads}
use Rattle.terms.specs.declared.fault.Fault.{Fault}
use Rattle.state.specs.Model.{State, byte, next, after, faults, reply, fault_of}
use Rattle.state.proofs.Runs.{after-append, faults-append, few_faults}
use Rattle.display.specs.Calls.{laid, Grown, feed_cause, room_needed, free}
use Rattle.display.specs.declared.words.FeedRefusal.TheVariants.{LongPiece, FewPlaces}
use Rattle.std.proofs.lemmas.Bool.{le-ltb, cond-false}

pub laid-length : {A : Type 0} (xs : List A) (n : ℕ) (ys : List A) → length (laid xs n ys) ≡ length xs
laid-length xs n [] = refl
laid-length xs n (y ∷ ys) = laid-length (set xs n y) (n + 1) ys ∙ length-set xs n y

laid-append : {A : Type 0} (xs : List A) (n : ℕ) (ys zs : List A) → laid xs n (ys ++ zs) ≡ laid (laid xs n ys) (n + length ys) zs
laid-append xs n [] zs = ap (λ m. laid xs m zs) (sym (add-zero n))
laid-append xs n (y ∷ ys) zs =
    let sum : n + 1 + length ys ≡ n + length (y ∷ ys) = omega arith in
    laid-append (set xs n y) (n + 1) ys zs ∙ ap (λ m. laid (laid (set xs n y) (n + 1) ys) m zs) sum

pub grown_none : (l : BoundedList Fault) → Grown l [] l
grown_none l = record { list = sym (append-nil (entries l)); places = refl; lent = refl }

pub grown_more : (l m n : BoundedList Fault) (fs gs : List Fault) → Grown l fs m → Grown m gs n → Grown l (fs ++ gs) n
grown_more l m n fs gs a b =
    let long : length (entries m) ≡ length (entries l) + length fs = ap length a.list ∙ length-append (entries l) fs in
    record {
      list = b.list ∙ ap (λ x. x ++ gs) a.list ∙ append_assoc (entries l) fs gs;
      places = b.places ∙ ap (λ x. laid x (length (entries m)) gs) a.places ∙ ap (λ k. laid (laid (places l) (length (entries l)) fs) k gs) long ∙ sym (laid-append (places l) (length (entries l)) fs gs);
      lent = b.lent ∙ a.lent;
    }

pub grown_capacity : (l m : BoundedList Fault) (fs : List Fault) → Grown l fs m → capacity m ≡ capacity l
grown_capacity l m fs a = ap length a.places ∙ laid-length (places l) (length (entries l)) fs

module _ {R : Type 0} (reads : Reads R) where
  -- the first i bytes of a piece have led from s and l to t and m
  pub record Sofar (s : State R) (l : BoundedList Fault) (piece : List ℕ) (i : ℕ) (t : State R) (m : BoundedList Fault) : Type 0 where
    pub state : t ≡ after reads s (map byte (take i piece))
    pub grown : Grown l (faults reads s (map byte (take i piece))) m
    pub few : length (faults reads s (map byte (take i piece))) ≤ 2 * i

  pub sofar_none : (s : State R) (l : BoundedList Fault) (piece : List ℕ) → Sofar s l piece 0 s l
  sofar_none s l piece = record { state = refl; grown = grown_none l; few = omega arith }

  -- one byte more
  pub sofar_more : (s t u : State R) (l m n : BoundedList Fault) (piece : List ℕ) (i b : ℕ) → i < length piece → b ≡ get_or piece i 0 →
      Sofar s l piece i t m → u ≡ next reads t (byte b) → Grown m (reply reads (byte b) t).faults n → Sofar s l piece (i + 1) u n
  sofar_more s t u l m n piece i b lt is h su gr =
      let es = map byte (take i piece) in
      let split : map byte (take (i + 1) piece) ≡ es ++ byte b ∷ [] =
      ap (map byte) (take_more piece i 0 lt ∙ ap (λ x. take i piece ++ x ∷ []) (sym is)) ∙ map-append byte (take i piece) (b ∷ []) in
      let fs = faults reads s es in
      let gs = (reply reads (byte b) t).faults in
      let all : fs ++ gs ≡ faults reads s (map byte (take (i + 1) piece)) =
      ap (λ x. fs ++ (reply reads (byte b) x).faults) h.state ∙ ap (λ x. fs ++ x) (sym (append-nil (reply reads (byte b) (after reads s es)).faults)) ∙ sym (faults-append reads s es (byte b ∷ [])) ∙ ap (faults reads s) (sym split) in
      record {
        state = su ∙ ap (λ x. next reads x (byte b)) h.state ∙ sym (after-append reads s es (byte b ∷ [])) ∙ ap (after reads s) (sym split);
        grown = subst (λ x. Grown l x n) all (grown_more l m n fs gs h.grown gr);
        few = omega (arith, h.few, ap length (sym all), length-append fs gs, few_faults reads (byte b) t.reading t.core);
      }

  -- the whole piece
  pub sofar_all : (s t : State R) (l m : BoundedList Fault) (piece : List ℕ) (i : ℕ) → length piece ≤ i → Sofar s l piece i t m →
      (t ≡ after reads s (map byte piece)) × Grown l (faults reads s (map byte piece)) m
  sofar_all s t l m piece i le h =
      subst (λ p. (t ≡ after reads s (map byte p)) × Grown l (faults reads s (map byte p)) m) (take_all i piece le) (h.state, h.grown)

-- a piece that is short enough, with room for its faults, has no cause of refusal
pub no_cause : (piece : List ℕ) (l : BoundedList Fault) → length piece ≤ 4096 → room_needed piece ≤ free l → feed_cause piece l ≡ None
no_cause piece l a b =
    cond-false (ltb 4096 (length piece)) (Some LongPiece) (cond (ltb (free l) (room_needed piece)) (Some FewPlaces) None) (le-ltb 4096 (length piece) a)
    ∙ cond-false (ltb (free l) (room_needed piece)) (Some FewPlaces) None (le-ltb (free l) (room_needed piece) b)

pub fault_few : (o : Option Fault) → length (fault_of o) ≤ 1
fault_few None = omega arith
fault_few (Some f) = omega arith
