use Rattle.std.proofs.Common.{◌≡◌, Decides, Ok, true, sym, subst, rules}
use Rattle.display.specs.Answers.{answer}
use Rattle.display.specs.Calls.{view}
use Rattle.history.proofs.Said.{result_eq-Decides, answers_decide}
use Rattle.history.proofs.compare.same_at.Goals as goal

pub returns-in-Ok-Ok : goal.returns-in-Ok-Ok
returns-in-Ok-Ok g c =
    let said : Decides c.eq.result (c.ask.result ≡ c.ask-2.result) =
    subst (λ x. Decides c.eq.result (x ≡ c.ask-2.result)) (sym c.in-Ok-Ok.is-0)
    (subst (λ x. Decides c.eq.result (Ok c.in-Ok-Ok.a ≡ x)) (sym c.in-Ok-Ok.is-1)
    (subst (λ r. Decides r (Ok c.in-Ok-Ok.a ≡ Ok c.in-Ok-Ok.b)) (sym c.eq.ensures) (result_eq-Decides {g = λ a b. true} answers_decide (λ a b. search rules) (Ok c.in-Ok-Ok.a) (Ok c.in-Ok-Ok.b)))) in
    subst (λ x. Decides c.eq.result (x ≡ answer (view g.Q.Panel.make c.args.b.now) c.args.question)) c.ask.ensures
    (subst (λ x. Decides c.eq.result (c.ask.result ≡ x)) c.ask-2.ensures said)
