-- Equality of answers, as `==` finds it.
use Rattle.std.proofs.Common.{◌≡◌, List, Bool, true, false, Some, None, Option, Ok, Err, Result, Decides, sym, ap, rules}
use Rattle.std.proofs.lemmas.Bool.{true≢false}
use Rattle.std.specs.Cmp.Lexicographic.{pointwise}
use Rattle.std.proofs.lemmas.Slice.Eq.{slice_eq-Decides}
use Rattle.terms.specs.declared.fault.Fault.{Fault}
use Rattle.terms.specs.contracts.fault.FaultPartialEq.TheImpl as fault_eq
use Rattle.std.specs.Option.{option_eq}
use Rattle.std.specs.Result.{result_eq}
use mathlib.Core.Bool.{beq}
use Rattle.std.proofs.lemmas.Bool.Decides.{Decides-eqb, Decides-and, Decides-like}
use Rattle.commands.specs.declared.words.Mode.{Mode}
use Rattle.commands.specs.declared.words.Mode.TheVariants.{Overwrite, Vertical, Horizontal}
use Rattle.commands.specs.declared.words.Slot.{Slot}
use Rattle.commands.specs.declared.words.Slot.TheVariants.{First, Second, Third, Fourth}
use Rattle.commands.specs.contracts.words.SlotPartialEq.TheImpl as slot_eq
use Rattle.commands.specs.contracts.words.ModePartialEq.TheImpl as mode_eq
use Rattle.state.specs.declared.controller.questions.Modes as modes
use Rattle.state.specs.contracts.controller.questions.ModesPartialEq.TheImpl as modes_eq
use Rattle.display.specs.declared.words.Answer.{Answer}
use Rattle.display.specs.declared.words.Answer.TheVariants.{Cell, Cursor, Window, User, Macro, Lamp, Modes}
use Rattle.display.specs.contracts.words.AnswerPartialEq.TheImpl as answer_eq

pub faults_decide : (xs ys : List Fault) (r : Bool) → r ≡ pointwise fault_eq.ghosts.eq xs ys → Decides r (xs ≡ ys)
faults_decide = slice_eq-Decides (λ a b. search rules)

pub result_eq-Decides : {A E : Type 0} {f : A → A → Bool} {g : E → E → Bool} → ((a b : A) → Decides (f a b) (a ≡ b)) → ((a b : E) → Decides (g a b) (a ≡ b)) →
    (r s : Result A E) → Decides (result_eq f g r s) (r ≡ s)
result_eq-Decides df dg (Ok a) (Ok b) = (λ h. ap Ok ((df a b).0 h), λ h. (df a b).1 (let i : a ≡ b = cc in i))
result_eq-Decides df dg (Ok a) (Err e) = (λ h. absurd (true≢false (sym h)), λ h. let i : false ≡ true = cc in i)
result_eq-Decides df dg (Err e) (Ok b) = (λ h. absurd (true≢false (sym h)), λ h. let i : false ≡ true = cc in i)
result_eq-Decides df dg (Err a) (Err b) = (λ h. ap Err ((dg a b).0 h), λ h. (dg a b).1 (let i : a ≡ b = cc in i))

mode_decides : (a b : Mode) → Decides (mode_eq.ghosts.eq a b) (a ≡ b)
mode_decides Overwrite b = search rules
mode_decides Vertical b = search rules
mode_decides Horizontal b = search rules

window_decides : (a b : Option Slot) → Decides (option_eq slot_eq.ghosts.eq a b) (a ≡ b)
window_decides None b = search rules
window_decides (Some First) b = search rules
window_decides (Some Second) b = search rules
window_decides (Some Third) b = search rules
window_decides (Some Fourth) b = search rules

flag_decides : (a b : Bool) → Decides (beq a b) (a ≡ b)
flag_decides true b = search rules
flag_decides false b = search rules

pub modes_decide : (a b : modes.Modes) → Decides (modes_eq.ghosts.eq a b) (a ≡ b)
modes_decide a b =
    Decides-like _ (λ h i. record { mode = h.0 i; window = h.1.0 i; cursor = h.1.1.0 i; user = h.1.1.1.0 i; recording = h.1.1.1.1.0 i; playing = h.1.1.1.1.1.0 i; selected = h.1.1.1.1.1.1.0 i; blink = h.1.1.1.1.1.1.1.0 i; table = h.1.1.1.1.1.1.1.1.0 i; set = h.1.1.1.1.1.1.1.1.1.0 i; brightness = h.1.1.1.1.1.1.1.1.1.1 i }) (λ e. (ap (λ m. m.mode) e, (ap (λ m. m.window) e, (ap (λ m. m.cursor) e, (ap (λ m. m.user) e, (ap (λ m. m.recording) e, (ap (λ m. m.playing) e, (ap (λ m. m.selected) e, (ap (λ m. m.blink) e, (ap (λ m. m.table) e, (ap (λ m. m.set) e, (ap (λ m. m.brightness) e))))))))))))
    (Decides-and _ _ (mode_decides a.mode b.mode) (Decides-and _ _ (window_decides a.window b.window) (Decides-and _ _ (flag_decides a.cursor b.cursor) (Decides-and _ _ (flag_decides a.user b.user) (Decides-and _ _ (flag_decides a.recording b.recording) (Decides-and _ _ (flag_decides a.playing b.playing) (Decides-and _ _ (flag_decides a.selected b.selected) (Decides-and _ _ (Decides-eqb a.blink b.blink) (Decides-and _ _ (Decides-eqb a.table b.table) (Decides-and _ _ (Decides-eqb a.set b.set) (Decides-eqb a.brightness b.brightness)))))))))))

pub answers_decide : (a b : Answer) → Decides (answer_eq.ghosts.eq a b) (a ≡ b)
answers_decide (Cell x) b = search rules
answers_decide (Cursor x) b = search rules
answers_decide (Window x) b = search rules
answers_decide (User x) b = search rules
answers_decide (Macro x) b = search rules
answers_decide (Lamp x) b = search rules
answers_decide (Modes x) b = search (rules, modes_decide)
