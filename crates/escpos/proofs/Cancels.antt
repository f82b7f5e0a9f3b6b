-- What one byte 18h amounts to, in each reading.
use Rattle.std.proofs.Common.{◌≡◌, ℕ, zero, suc, ◌+◌, ◌-◌, ◌<◌, ◌≤◌, nat_lt, nat_le, ◌&&◌, Bool, true, false, cond, slice_set, replicate, Some, None, Option, refl, arith, rules}
use Rattle.std.proofs.lemmas.Bool.Decides.{nat_tests}
use Rattle.glass.specs.declared.area.Area.{Area}
use Rattle.glass.specs.Places.{holds, whole, lawful}
use Rattle.glass.specs.Frames.{made}
use Rattle.commands.specs.declared.outcome.Transition.{Transition}
use Rattle.escpos.specs.declared.reading.Reading.{Reading}
use Rattle.escpos.specs.declared.reading.Reading.TheVariants.{Rest, GoToY, WindowS, WindowY1, WindowX2, WindowY2, DefineLast, DefineLength, DefineColumn}
use Rattle.escpos.specs.Cancels.{depth, CancelOutcome, goes_on, clears, blinks, plays, defines, defines_one, malformed}
use Rattle.commands.specs.Sets.{run, to}
use Rattle.commands.specs.declared.words.Command.TheVariants.{Define}
use Rattle.commands.specs.declared.outcome.Outcome.TheVariants.{Partial}
use Rattle.escpos.specs.Names.{define}
use Rattle.escpos.specs.Steps.{on_some, off, done, wait, step}

abbrev Cancels : Transition Reading → Type 0
Cancels t = CancelOutcome t.outcome

if_cancels : (b : Bool) (s t : Transition Reading) → Cancels s → Cancels t → Cancels (cond b s t)
if_cancels true s t hs ht = hs
if_cancels false s t hs ht = ht

some_cancels : {A : Type 0} (o : Option A) (f : A → Transition Reading) (t : Transition Reading) → ((a : A) → Cancels (f a)) → Cancels t → Cancels (on_some o f t)
some_cancels (Some a) f t hf ht = hf a
some_cancels None f t hf ht = ht

-- where the test fails nothing is made
none_cancels : {A : Type 0} (b : Bool) (f : b ≡ true → A) (g : A → Transition Reading) (t : Transition Reading) → (b ≡ true → ⊥) → Cancels t → Cancels (on_some (made b f) g t)
none_cancels true f g t never ht = absurd (never refl)
none_cancels false f g t never ht = ht

-- 18h is no row
no_row : (x : ℕ) → holds whole x 0x18 ≡ true → ⊥
no_row x h = grind (arith, nat_tests)

no_last_row : (a : Area) → lawful (record a { y2 = 0x18 }) ≡ true → ⊥
no_last_row a h = grind (arith, nat_tests)

ruleset outcomes = (rules, goes_on, clears, blinks, plays, defines, defines_one, malformed, if_cancels, some_cancels)

pub cancel_outcome : (r : Reading) → CancelOutcome (step r 0x18).outcome
cancel_outcome (GoToY x) = none_cancels _ _ _ _ (no_row x.number) (malformed _)
cancel_outcome (WindowS None) = malformed _
cancel_outcome (WindowS (Some slot)) = malformed _
cancel_outcome (WindowY2 slot f) = none_cancels _ _ _ _ (no_last_row f.area) (malformed _)
cancel_outcome r = search outcomes

pub depth_zero : (r : Reading) → depth r ≤ 0 → r ≡ Rest
depth_zero Rest h = refl
depth_zero r h = absurd (omega arith)

-- a transition leaves at most k bytes 18h to rest
abbrev Within : ℕ → Transition Reading → Type 0
Within k t = depth t.next ≤ k

if_within : (k : ℕ) (b : Bool) (s t : Transition Reading) → (b ≡ true → Within k s) → (b ≡ false → Within k t) → Within k (cond b s t)
if_within k true s t hs ht = hs refl
if_within k false s t hs ht = ht refl

made_within : {A : Type 0} (k : ℕ) (b : Bool) (f : b ≡ true → A) (g : A → Transition Reading) (t : Transition Reading) → ((h : b ≡ true) → Within k (g (f h))) → Within k t →
    Within k (on_some (made b f) g t)
made_within k true f g t hf ht = hf refl
made_within k false f g t hf ht = ht

no_last_column : (x y z : ℕ) → lawful (record { x1 = x; y1 = y; x2 = 0x18; y2 = z }) ≡ true → ⊥
no_last_column x y z h = grind (arith, nat_tests)

more_columns : (at size : ℕ) → (nat_lt at size && nat_le size 5) ≡ true → at < size
more_columns at size h = grind (arith, nat_tests)

nearer : (at size k : ℕ) → (size - at) + 1 ≤ k + 1 → at + 1 < size → (size - (at + 1)) + 1 ≤ k
nearer at size k d more = omega arith

-- one byte 18h brings a reading nearer to rest
pub depth_step : (r : Reading) (k : ℕ) → depth r ≤ k + 1 → depth (step r 0x18).next ≤ k
depth_step (GoToY x) k d = made_within k _ _ _ _ (λ h. absurd (no_row x.number h)) (omega arith)
depth_step (WindowS None) k d = omega arith
depth_step (WindowS (Some slot)) k d = omega arith
depth_step (WindowY1 slot x) k d = made_within k _ _ _ _ (λ h. absurd (no_row x.number h)) (omega arith)
depth_step (WindowX2 slot p) k d = made_within k _ _ _ _ (λ h. absurd (no_last_column p.at.column p.at.row p.at.row h)) (omega arith)
depth_step (WindowY2 slot f) k d = made_within k _ _ _ _ (λ h. absurd (no_last_row f.area h)) (omega arith)
depth_step (DefineLast first) k d = let one : 1 ≤ k = omega arith in let none : 0 ≤ k = omega arith in
    if_within k (nat_le first 0x18) (wait (DefineLength first 0x18)) (off define 3) (λ _. one) (λ _. none)
depth_step (DefineColumn code last c) k d =
    let columns = slice_set c.columns c.at 0x18 in
    let left = more_columns c.at c.size c.fits in
    let one : 1 ≤ k = omega arith in
    let none : 0 ≤ k = omega arith in
    made_within k _ _ _ _ (λ h. nearer c.at c.size k d (more_columns (c.at + 1) c.size h))
    (if_within k (nat_le last code) (done (Define code columns)) (to (DefineLength (code + 1) last) (Partial code columns)) (λ _. none) (λ _. one))
depth_step r k d = omega arith

-- as many bytes 18h as a reading is deep, or more, bring it to rest
pub sinks : (n : ℕ) (r : Reading) → depth r ≤ n → run step r (replicate n 0x18) ≡ Rest
sinks zero r d = depth_zero r d
sinks (suc n) r d = sinks n (step r 0x18).next (depth_step r n (omega arith))
