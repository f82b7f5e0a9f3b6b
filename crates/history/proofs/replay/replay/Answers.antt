use Rattle.std.proofs.Common.{[], vec_items, sym, subst, rules}
use Rattle.terms.specs.Presets.{preset}
use Rattle.history.specs.Lives.{Calls, none}
use Rattle.history.proofs.Replayed.{handled, lives_on}
use Rattle.history.proofs.Bounds.{bounds}
use Rattle.history.proofs.Lived.{history}
use Rattle.history.proofs.Malformed.{malformed}
use Rattle.history.proofs.Named.{named}
use Rattle.history.proofs.replay.replay.Goals as goal

pub returns : goal.returns
returns g c =
    let p = g.P.Panel in
    let d = c.switch_on-display.result in
    let d' = c.go_through.new.display in
    let hs = c.args.script.now in
    record {
      lived = lives_on p.make g.S.CommandSets.reads d d' hs (vec_items c.new-faults.result) (vec_items c.go_through.new.faults) c.in_ok-go_through.ensures (preset c.args.settings) []
          (record {
            panel = c.args.panel;
            first = d;
            on = c.switch_on-display.ensures;
            calls = subst (λ x. Calls p.make g.S.CommandSets.reads d [] x d) (sym c.new-faults.ensures.items) none;
          });
      panel = handled p.make c.args.panel d.panel d'.panel hs c.switch_on-display.ensures.reached c.in_ok-go_through.ensures.panel;
      history = history p.make g.met.P.Panel.laws p.make g.met.P.Panel.laws g.S.CommandSets.reads g.met.S.CommandSets.laws;
      malformed = malformed g.S.CommandSets.reads g.met.S.CommandSets.laws;
      bounds = bounds p.make g.met.P.Panel.laws g.S.CommandSets.reads;
      named = named g.S.CommandSets.reads g.met.S.CommandSets.laws p.make g.met.P.Panel.laws;
    }

pub returns-in_err-go_through : goal.returns-in_err-go_through
returns-in_err-go_through g c =
    let p = g.P.Panel in
    record {
      lived = search rules;
      panel = search rules;
      history = history p.make g.met.P.Panel.laws p.make g.met.P.Panel.laws g.S.CommandSets.reads g.met.S.CommandSets.laws;
      malformed = malformed g.S.CommandSets.reads g.met.S.CommandSets.laws;
      bounds = bounds p.make g.met.P.Panel.laws g.S.CommandSets.reads;
      named = named g.S.CommandSets.reads g.met.S.CommandSets.laws p.make g.met.P.Panel.laws;
    }
