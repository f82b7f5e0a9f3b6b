use Rattle.std.proofs.lemmas.Bool.{false≢true}
use Rattle.std.proofs.Common.{sym, ◌∙◌}
use Rattle.history.proofs.Lived.{history, told}
use Rattle.history.proofs.compare.same_lives.Goals as goal

pub returns-then-same : goal.returns-then-same
returns-then-same g c =
    let p = g.P.Panel in
    let q = g.Q.Panel in
    let both = c.same_faults.ensures in
    record {
      answers = (λ e. (c.same.ensures.answers.0 c.if-same.true, both.0 e), λ h. both.1 h.1);
      twins = λ settings es la lb.
          both.1 (told p.make g.met.P.Panel.laws q.make g.met.Q.Panel.laws g.S.CommandSets.reads g.met.S.CommandSets.laws _ _ _ _ settings es la lb).1;
      history = history p.make g.met.P.Panel.laws q.make g.met.Q.Panel.laws g.S.CommandSets.reads g.met.S.CommandSets.laws;
    }

pub returns-else-same : goal.returns-else-same
returns-else-same g c =
    let p = g.P.Panel in
    let q = g.Q.Panel in
    let glass = c.same.ensures.answers in
    record {
      answers = (λ e. absurd (false≢true (sym c.if-same.false ∙ e)), λ h. glass.1 h.0);
      twins = λ settings es la lb.
          glass.1 (told p.make g.met.P.Panel.laws q.make g.met.Q.Panel.laws g.S.CommandSets.reads g.met.S.CommandSets.laws _ _ _ _ settings es la lb).0;
      history = history p.make g.met.P.Panel.laws q.make g.met.Q.Panel.laws g.S.CommandSets.reads g.met.S.CommandSets.laws;
    }
