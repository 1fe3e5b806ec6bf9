use Rattle.std.proofs.Common.{◌∙◌, ap, subst, sym}
use Rattle.pip_model_types.specs.declared.pip.Pip.{Pip}
use Rattle.graph_check_outputs.specs.Firsts.{IsFirst}
use Rattle.graph_check.specs.Rules.{FailsAt}
use Rattle.graph_check.proofs.Answering.{fails_within, spec_at}
use Rattle.graph_check.proofs.checking.keep_rule.Goals as goal

pub bounds-pips-number : goal.bounds-pips-number
bounds-pips-number c =
    let pips = c.args.pips.now in
    let tree = c.args.sources.now in
    let first = subst (IsFirst (FailsAt c.args.rule pips tree)) c.in-Some.is c.in_ok-number.ensures in
    fails_within c.args.rule pips tree c.in-Some.number first.0

pub returns : goal.returns
returns c =
    let pips = c.args.pips.now in
    let tree = c.args.sources.now in
    let first = subst (IsFirst (FailsAt c.args.rule pips tree)) c.in-Some.is c.in_ok-number.ensures in record {
      earlier_rules = c.requires.earlier;
      earlier_pips = first.1;
      fails = first.0;
      spec = spec_at pips c.in-Some.number c.index-pips-number.result c.in_ok-file.file (fails_within c.args.rule pips tree c.in-Some.number first.0)
          c.index-pips-number.is (c.in_ok-file.ensures ∙ ap (λ (p : Pip). p.spec) (sym c.index-pips-number.is));
    }
