-- ESC/POS as a make of command set, and that it keeps the laws of one.
use Rattle.std.proofs.Common.{◌≡◌, ℕ, zero, suc, ◌+◌, ◌<◌, ◌≤◌, Bool, nat_lt, nat_le, true, false, cond, ◌&&◌, replicate, List, Some, None, Option, refl, subst, arith, rules}
use Rattle.std.proofs.lemmas.Bool.{false≢true}
use Rattle.std.proofs.lemmas.Bool.Decides.{nat_tests}
use Rattle.glass.specs.Frames.{made}
use Rattle.commands.specs.declared.words.Command.{Command}
use Rattle.commands.specs.declared.outcome.Outcome.{Outcome}
use Rattle.commands.specs.declared.outcome.Outcome.TheVariants.{Pending, Ignored, Complete, Partial}
use Rattle.commands.specs.declared.outcome.Transition.{Transition}
use Rattle.commands.specs.declared.outcome.ReadFault.{ReadFault}
use Rattle.commands.specs.Items.{ends}
use Rattle.commands.specs.Sets.{Make, Laws, Bears, run, to}
use Rattle.escpos.specs.declared.reading.Reading.{Reading}
use Rattle.escpos.specs.declared.reading.Reading.TheVariants.{Rest, WindowS, DefineColumn}
use Rattle.escpos.specs.Glances.{glance_of}
use Rattle.escpos.specs.Names.{names}
use Rattle.escpos.specs.Steps.{on_some, columns_of, defined, done, wait, fails, step}

abbrev pub escpos : Make Reading
escpos = record { rest = Rest; step = step; glance = glance_of; names = names }

-- The forms that a transition has: an item goes on, or it ends at rest, and then a command bears its name.
data Form : Transition Reading → Type 0 where
  is_pending : (r : Reading) → Form (wait r)
  is_partial : (r : Reading) (code : ℕ) (columns : List ℕ) → Form (to r (Partial code columns))
  is_ignored : Form (to Rest Ignored)
  is_complete : (c : Command) → Bears names c → Form (done c)
  is_faulty : (f : ReadFault) → Form (fails f)

if_form : (b : Bool) (s t : Transition Reading) → Form s → Form t → Form (cond b s t)
if_form true s t hs ht = hs
if_form false s t hs ht = ht

some_form : {A : Type 0} (o : Option A) (f : A → Transition Reading) (t : Transition Reading) → ((a : A) → Form (f a)) → Form t → Form (on_some o f t)
some_form (Some a) f t hf ht = hf a
some_form None f t hf ht = ht

ruleset forms = (rules, is_pending, is_partial, is_ignored, is_complete, is_faulty, if_form, some_form)

form : (r : Reading) (b : ℕ) → Form (step r b)
form (WindowS None) b = search forms
form (WindowS (Some slot)) b = search forms
form r b = search forms

rests_by : {t : Transition Reading} → Form t → ends t.outcome ≡ true → t.next ≡ Rest
rests_by (is_pending r) e = absurd (false≢true e)
rests_by (is_partial r code columns) e = absurd (false≢true e)
rests_by is_ignored e = refl
rests_by (is_complete c h) e = refl
rests_by (is_faulty f) e = refl

bears_by : {t : Transition Reading} (d : Command) → Form t → t.outcome ≡ Complete d → Bears names d
bears_by d (is_pending r) e = cc
bears_by d (is_partial r code columns) e = cc
bears_by d is_ignored e = cc
bears_by d (is_complete c h) e = let same : c ≡ d = cc in subst (Bears names) same h
bears_by d (is_faulty f) e = cc

-- A transition after which so many bytes 18h lead to rest, or fewer.
data Leads : ℕ → Transition Reading → Type 0 where
  at_rest : (n : ℕ) (o : Outcome) → Leads n (to Rest o)
  nearer : (n : ℕ) (r : Reading) (o : Outcome) → Leads n (step r 0x18) → Leads (suc n) (to r o)

stays_at_rest : (n : ℕ) → run step Rest (replicate n 0x18) ≡ Rest
stays_at_rest zero = refl
stays_at_rest (suc n) = stays_at_rest n

run_by : {n : ℕ} {t : Transition Reading} → Leads n t → run step t.next (replicate n 0x18) ≡ Rest
run_by (at_rest n o) = stays_at_rest n
run_by (nearer n r o h) = run_by h

if_leads : (n : ℕ) (b : Bool) (s t : Transition Reading) → Leads n s → Leads n t → Leads n (cond b s t)
if_leads n true s t hs ht = hs
if_leads n false s t hs ht = ht

some_leads : {A : Type 0} (n : ℕ) (o : Option A) (f : A → Transition Reading) (t : Transition Reading) → ((a : A) → Leads n (f a)) → Leads n t → Leads n (on_some o f t)
some_leads n (Some a) f t hf ht = hf a
some_leads n None f t hf ht = ht

made_leads : {A : Type 0} (n : ℕ) (b : Bool) (f : b ≡ true → A) (g : A → Transition Reading) (t : Transition Reading) → ((h : b ≡ true) → Leads n (g (f h))) → Leads n t → Leads n (on_some (made b f) g t)
made_leads n true f g t hf ht = hf refl
made_leads n false f g t hf ht = ht

ruleset ways = (rules, at_rest, nearer, if_leads, some_leads)

complete_leads : (n code last : ℕ) (columns : List ℕ) → Leads (suc n) (defined code last columns)
complete_leads n code last columns = search ways

fits : (at size : ℕ) → (nat_lt at size && nat_le size 5) ≡ true → (at < size) × (size ≤ 5)
fits at size h = (grind (arith, nat_tests), grind (arith, nat_tests))

-- Each byte is a column: as many are needed as are still to come, and one more where another character follows.
columns_lead : (n code last : ℕ) (columns : List ℕ) (at size : ℕ) → size ≤ at + n → Leads (suc n) (on_some (columns_of columns at size) (λ c. wait (DefineColumn code last c)) (defined code last columns))
columns_lead zero code last columns at size left =
    made_leads 1 _ _ (λ c. wait (DefineColumn code last c)) _
    (λ h. let more = fits at size h in absurd (omega arith))
    (complete_leads 0 code last columns)
columns_lead (suc n) code last columns at size left =
    made_leads (suc (suc n)) _ _ (λ c. wait (DefineColumn code last c)) _
    (λ h. nearer (suc n) _ _ (columns_lead n code last _ (at + 1) size (omega arith)))
    (complete_leads (suc n) code last columns)

leads : (r : Reading) → Leads 5 (step r 0x18)
leads (WindowS None) = search ways
leads (WindowS (Some slot)) = search ways
leads (DefineColumn code last c) = let few = fits c.at c.size c.fits in columns_lead 4 code last _ (c.at + 1) c.size (omega arith)
leads r = search ways

pub escpos_laws : Laws escpos
escpos_laws r = record {
  rests = λ b. rests_by (form r b);
  cancels = run_by (nearer 5 r Pending (leads r));
  selects = (refl, (refl, refl));
  initializes = (refl, refl);
  bears = λ b d. bears_by d (form r b);
  full = refl;
}
