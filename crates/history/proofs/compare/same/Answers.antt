use Rattle.std.proofs.lemmas.Bool.Decides.{Decides-like}
use Rattle.history.proofs.Compared.{from_parts, to_parts, same_cells}
use Rattle.history.proofs.Lived.{history}
use Rattle.history.proofs.compare.same.Goals as goal

pub returns : goal.returns
returns g c =
    let p = g.P.Panel in
    let q = g.Q.Panel in
    let a = c.args.a.now in
    let b = c.args.b.now in
    record {
      answers = Decides-like c.same_parts.result (from_parts p.make q.make a b) (to_parts p.make q.make a b) c.same_parts.ensures;
      glass = λ e. same_cells p.make q.make a b (g.met.P.Panel.laws.forty a.panel) (g.met.Q.Panel.laws.forty b.panel) (from_parts p.make q.make a b (c.same_parts.ensures.0 e));
      history = history p.make g.met.P.Panel.laws q.make g.met.Q.Panel.laws g.S.CommandSets.reads g.met.S.CommandSets.laws;
    }
