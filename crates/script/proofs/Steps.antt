-- Steps of the loops and of the reading of words. Assumes nothing.
use Rattle.std.proofs.Common.{◌≡◌, ℕ, suc, ◌+◌, ◌*◌, ◌/◌, ◌%◌, ◌^◌, ◌<◌, ◌≤◌, Bool, true, false, cond, not, eqb, ◌⊎◌, List, [], ◌∷◌, ◌++◌, filter, length, get_or, take, drop, Some, None, Option, sym, refl, ap, ◌∙◌, inl, inr, ⊎_elim, append_assoc, append-nil, add-one, one-add, arith, Bor}
use native.Mathlib.Nat.{pow-le-pow_right}
use Rattle.std.proofs.lemmas.List.{at_drop_more, at_drop_all, take_all}
use Rattle.std.proofs.lemmas.Bool.{cond_both, eq-eqb, ne_eqb, eqb-true, cond-true, cond-false, and_from, and_parts, cases_lt, not_from_false}
use Rattle.std.proofs.lemmas.Bool.Decides.{nat_tests}
use Rattle.std.proofs.lemmas.List.Sums.{prefix_len-le-length, fails_before_first, passes_at_first, split_at_first}
use Rattle.std.proofs.lemmas.List.Recursion.{is_position_or_len}
use Rattle.std.specs.Char.{digit_value as char_value}
use Rattle.std.specs.Option.{SomeIff, unwrap_or}
use Rattle.std.specs.List.{flat_map, position, position_or_len, slice_split, onto_first, AllByRecursion}
use Rattle.script.specs.Figures.{hex_value, hex_pair, hex_byte, hex_digit, small, ReadsBack}
use Rattle.script.specs.Rows.{line_size, LinesJoin}
use Rattle.script.specs.Splits.{blank, texts, ended, gather, comment, from_word, after, after_first, if_byte, bytes_from, solid, no_blank, WordsStand}

-- the first place that passes

pub place_or_end : (p : ℕ → Bool) (bs : List ℕ) (o : Option ℕ) → o ≡ position p bs → unwrap_or o (length bs) ≡ position_or_len p bs
place_or_end p bs o h = grind (arith, nat_tests, prefix_len-le-length (λ b. not (p b)) bs)

pub place_found : (p : ℕ → Bool) (bs : List ℕ) (o : Option ℕ) (i : ℕ) → o ≡ position p bs → o ≡ Some i → i ≡ position_or_len p bs
place_found p bs o i h e = grind (arith, nat_tests)

pub place_none : (p : ℕ → Bool) (bs : List ℕ) (o : Option ℕ) → o ≡ position p bs → o ≡ None → length bs ≤ position_or_len p bs
place_none p bs o h e = grind (arith, nat_tests)

-- numbers

pub nine_fit : (n i : ℕ) → n < 10 ^ i → i < 9 → n < 100000000
nine_fit n i h k = let p : i ≤ 8 = omega arith in omega (arith, pow-le-pow_right {n = 10} (omega arith) p)

-- the library's value of a character, below 16, is its value as a digit here
pub hex_char : (c : ℕ) (o : Option ℕ) → SomeIff o (char_value c < 16) (char_value c) → o ≡ hex_value c
hex_char c None h = grind (arith, nat_tests)
hex_char c (Some v) h = grind (arith, nat_tests)

pub pair_of : (w : List ℕ) → length w ≡ 2 → hex_byte w ≡ hex_pair (hex_value (get_or w 0 0)) (hex_value (get_or w 1 0))
pair_of [] h = absurd (omega arith)
pair_of (a ∷ []) h = absurd (omega arith)
pair_of (a ∷ b ∷ []) h = refl
pair_of (a ∷ b ∷ c ∷ w) h = absurd (omega arith)

pub no_low : (o : Option ℕ) → hex_pair o None ≡ None
no_low None = refl
no_low (Some h) = refl

digit_back : (n : ℕ) → n < 16 → hex_value (hex_digit n) ≡ Some n
digit_back n h = grind (arith, nat_tests)

small_back : (n : ℕ) → n < 16 → hex_value (small (hex_digit n)) ≡ Some n
small_back n h = grind (arith, nat_tests)

pub reads_back : ReadsBack
reads_back = record {
  capital = λ b h.
      let p : b / 16 < 16 = omega arith in
      let q : b % 16 < 16 = omega arith in
      let e : 16 * (b / 16) + b % 16 ≡ b = omega arith in
      (λ i. hex_pair (digit_back (b / 16) p i) (digit_back (b % 16) q i)) ∙ ap (λ n. Some n) e;
  lower = λ b h.
      let p : b / 16 < 16 = omega arith in
      let q : b % 16 < 16 = omega arith in
      let e : 16 * (b / 16) + b % 16 ≡ b = omega arith in
      (λ i. hex_pair (small_back (b / 16) p i) (small_back (b % 16) q i)) ∙ ap (λ n. Some n) e;
}

-- lines

pub size_is : (bs : List ℕ) → line_size bs ≡ position_or_len (λ b. eqb b 10) bs
size_is bs = is_position_or_len line_size (λ b. eqb b 10) refl (λ x xs. ap (λ n. cond (eqb x 10) 0 n) (sym (one-add (line_size xs)))) bs

line_free : (bs : List ℕ) (k : ℕ) → k < line_size bs → get_or bs k 0 ≡ 10 → ⊥
line_free bs k h e =
    let n = fails_before_first (λ b. eqb b 10) bs k 0 (omega (arith, size_is bs)) in
    let t = eq-eqb (get_or bs k 0) 10 e in cc

line_ends : (bs : List ℕ) → (bs ≡ take (line_size bs) bs ++ 10 ∷ drop (suc (line_size bs)) bs) ⊎ (take (line_size bs) bs ≡ bs)
line_ends bs =
    let p : ℕ → Bool = λ b. eqb b 10 in
    rw size_is
    (⊎_elim
    (λ (h : position_or_len p bs < length bs).
    let e = split_at_first p bs 0 h in
    let t = eqb-true (get_or bs (position_or_len p bs) 0) 10 (passes_at_first p bs 0 h) in
    let m = add-one (position_or_len p bs) in inl cc)
    (λ (h : length bs ≤ position_or_len p bs). inr (take_all _ bs h))
    (cases_lt (position_or_len p bs) (length bs)))

pub lines_join : LinesJoin
lines_join = record { free = line_free; ends = line_ends }

-- words

abbrev pub some : List ℕ → Bool
some w = not (eqb (length w) 0)

-- the parts, where w was begun before the first
abbrev onto : List ℕ → List (List ℕ) → List (List ℕ)
onto w [] = w ∷ []
onto w (v ∷ vs) = (w ++ v) ∷ vs

onto_more : (w : List ℕ) (b : ℕ) (vs : List (List ℕ)) → onto w (onto_first b vs) ≡ onto (w ++ b ∷ []) vs
onto_more w b [] = refl
onto_more w b (v ∷ vs) = ap (λ u. u ∷ vs) (sym (append_assoc w (b ∷ []) v))

ended_kept : (w : List ℕ) (ws : List (List ℕ)) → filter some (w ∷ ws) ≡ ended w (filter some ws)
ended_kept [] ws = refl
ended_kept (b ∷ w) ws = cond-true (some (b ∷ w)) _ _ (not_from_false _ (ne_eqb _ _ (λ h. omega arith)))

none_kept : (ws : List (List ℕ)) → filter some ws ≡ filter some (onto [] ws)
none_kept [] = refl
none_kept (w ∷ ws) = refl

gather_step : (t : Bool) (w : List ℕ) (b : ℕ) (S G H : List (List ℕ)) → filter some S ≡ G → filter some (onto (w ++ b ∷ []) S) ≡ H → filter some (onto w (cond t ([] ∷ S) (onto_first b S))) ≡ cond t (ended w G) H
gather_step true w b S G H g h = ap (λ v. filter some (v ∷ S)) (append-nil w) ∙ ended_kept w S ∙ ap (ended w) g
gather_step false w b S G H g h = ap (filter some) (onto_more w b S) ∙ h

gather_kept : (w bs : List ℕ) → filter some (onto w (slice_split blank bs)) ≡ gather w bs
gather_kept w [] = ap (λ v. filter some (v ∷ [])) (append-nil w) ∙ ended_kept w []
gather_kept w (b ∷ bs) = gather_step (blank b) w b (slice_split blank bs) _ _ (none_kept (slice_split blank bs) ∙ gather_kept [] bs) (gather_kept (w ++ b ∷ []) bs)

-- the parts between blanks that have a byte are the words
pub words_kept : (bs : List ℕ) → filter some (slice_split blank bs) ≡ gather [] bs
words_kept bs = none_kept (slice_split blank bs) ∙ gather_kept [] bs

-- blanks before the first word begin none
pub gathered_from : (bs : List ℕ) → gather [] bs ≡ gather [] (from_word bs)
gathered_from [] = refl
gathered_from (b ∷ bs) = cond_both (blank b) _ _ (λ x. gather [] (b ∷ bs) ≡ gather [] x) (λ t. cond-true (blank b) _ _ t ∙ gathered_from bs) (λ f. refl)

ended_joined : (w : List ℕ) (ws : List (List ℕ)) → flat_map (λ v. v) (ended w ws) ≡ w ++ flat_map (λ v. v) ws
ended_joined [] ws = refl
ended_joined (b ∷ w) ws = refl

joined_step : (t : Bool) (b : ℕ) (w bs : List ℕ) (G H : List (List ℕ)) → flat_map (λ v. v) G ≡ solid bs → flat_map (λ v. v) H ≡ (w ++ b ∷ []) ++ solid bs → flat_map (λ v. v) (cond t (ended w G) H) ≡ w ++ cond t (solid bs) (b ∷ solid bs)
joined_step true b w bs G H g h = ended_joined w G ∙ ap (λ l. w ++ l) g
joined_step false b w bs G H g h = h ∙ append_assoc w (b ∷ []) (solid bs)

gather_joined : (w bs : List ℕ) → flat_map (λ v. v) (gather w bs) ≡ w ++ solid bs
gather_joined w [] = ended_joined w []
gather_joined w (b ∷ bs) = joined_step (blank b) b w bs (gather [] bs) (gather (w ++ b ∷ []) bs) (gather_joined [] bs) (gather_joined (w ++ b ∷ []) bs)

abbrev Word : List ℕ → Type 0
Word w = (0 < length w) × (no_blank w ≡ true)

ended_each : (w : List ℕ) (ws : List (List ℕ)) → no_blank w ≡ true → AllByRecursion Word ws → AllByRecursion Word (ended w ws)
ended_each [] ws n e = e
ended_each (b ∷ w) ws n e = ((omega arith, n), e)

no_blank_push : (w : List ℕ) (b : ℕ) → no_blank w ≡ true → blank b ≡ false → no_blank (w ++ b ∷ []) ≡ true
no_blank_push [] b n f = and_from (not (blank b)) true (not_from_false (blank b) f) refl
no_blank_push (x ∷ w) b n f =
    let p = and_parts (not (blank x)) (no_blank w) n in
    and_from (not (blank x)) (no_blank (w ++ b ∷ [])) p.0 (no_blank_push w b p.1 f)

each_step : (t : Bool) (w : List ℕ) (G H : List (List ℕ)) → no_blank w ≡ true → AllByRecursion Word G → (t ≡ false → AllByRecursion Word H) → AllByRecursion Word (cond t (ended w G) H)
each_step true w G H n g h = ended_each w G n g
each_step false w G H n g h = h refl

gather_each : (w bs : List ℕ) → no_blank w ≡ true → AllByRecursion Word (gather w bs)
gather_each w [] n = ended_each w [] n tt
gather_each w (b ∷ bs) n = each_step (blank b) w (gather [] bs) (gather (w ++ b ∷ []) bs) n (gather_each [] bs refl) (λ f. gather_each (w ++ b ∷ []) bs (no_blank_push w b n f))

words_each : (t : Bool) (bs : List ℕ) → AllByRecursion Word (cond t [] (gather [] bs))
words_each true bs = tt
words_each false bs = gather_each [] bs refl

pub words_stand : WordsStand
words_stand = record {
  whole = λ bs f. ap (λ ws. flat_map (λ v. v) ws) (cond-false (comment bs) [] (gather [] bs) f) ∙ gather_joined [] bs;
  each = λ bs. words_each (comment bs) bs;
}

-- what follows the first word

begun_step : (t : Bool) (b : ℕ) (bs : List ℕ) (n : ℕ) → after true bs ≡ drop (n + 1) bs → cond t bs (after true bs) ≡ drop (cond (not t) (1 + n) 0 + 1) (b ∷ bs)
begun_step true b bs n e = refl
begun_step false b bs n e = let m : 1 + n + 1 ≡ suc (n + 1) = omega arith in e ∙ ap (λ k. drop k (b ∷ bs)) (sym m)

after_begun : (bs : List ℕ) → after true bs ≡ drop (position_or_len blank bs + 1) bs
after_begun [] = refl
after_begun (b ∷ bs) = begun_step (blank b) b bs (position_or_len blank bs) (after_begun bs)

skip_step : (t : Bool) (b : ℕ) (bs : List ℕ) (n : ℕ) → from_word bs ≡ drop n bs → cond t (from_word bs) (b ∷ bs) ≡ drop (cond (not (not t)) (1 + n) 0) (b ∷ bs)
skip_step true b bs n e = e ∙ ap (λ k. drop k (b ∷ bs)) (sym (one-add n))
skip_step false b bs n e = refl

pub from_word_is : (bs : List ℕ) → from_word bs ≡ drop (position_or_len (λ b. not (blank b)) bs) bs
from_word_is [] = refl
from_word_is (b ∷ bs) = skip_step (blank b) b bs (position_or_len (λ b. not (blank b)) bs) (from_word_is bs)

blanks_step : (t : Bool) (b : ℕ) (bs : List ℕ) → blank b ≡ t → after false bs ≡ after true (from_word bs) → cond t (after false bs) (after true bs) ≡ after true (cond t (from_word bs) (b ∷ bs))
blanks_step true b bs t e = e
blanks_step false b bs t e = sym (cond-false (blank b) bs (after true bs) t)

after_blanks : (bs : List ℕ) → after false bs ≡ after true (from_word bs)
after_blanks [] = refl
after_blanks (b ∷ bs) = blanks_step (blank b) b bs refl (after_blanks bs)

pub after_is : (bs w : List ℕ) → w ≡ from_word bs → after_first bs ≡ drop (position_or_len blank w + 1) w
after_is bs w e = after_blanks bs ∙ ap (after true) (sym e) ∙ after_begun w

-- bytes

pub bytes_more : (ws : List (Bor (List ℕ))) (bs : List ℕ) (i : ℕ) (d : Bor (List ℕ)) (o : Option ℕ) → i < length ws → o ≡ hex_byte (get_or ws i d).now → bytes_from bs (texts (drop i ws)) ≡ if_byte o (λ b. bytes_from (bs ++ b ∷ []) (texts (drop (i + 1) ws)))
bytes_more ws bs i d o h e =
    at_drop_more (λ l. bytes_from bs (texts l)) ws i d h ∙ ap (λ t. if_byte t (λ b. bytes_from (bs ++ b ∷ []) (texts (drop (i + 1) ws)))) (sym e)

pub bytes_end : (ws : List (Bor (List ℕ))) (bs : List ℕ) (i : ℕ) → length ws ≤ i → bytes_from bs (texts (drop i ws)) ≡ Some bs
bytes_end ws bs i h = at_drop_all (λ l. bytes_from bs (texts l)) ws i h
