use Rattle.std.proofs.Common.{◌++◌, ap, sym, ◌∙◌, arith}
use Rattle.pip_model_types.specs.declared.pip.Pip.{Pip}
use Rattle.build_report.specs.Reports.{pip_line}
use Rattle.build_report.proofs.PipLines.{all_lines, one_more_line}
use Rattle.build_report.proofs.built.report_of.Goals as goal

pub pips-preserved : goal.pips-preserved
pips-preserved c =
    one_more_line c.args.pips.now c.args.verdicts.now c.pips.number c.index-pips-number.result c.index-verdicts-number.result
    c.pips.text.items c.add_pip.new.text.items _ (omega arith) c.pips-test.true c.index-pips-number.is c.index-verdicts-number.is c.pips.invariant
    (c.in_ok-add_pip.ensures
    ∙ ap (λ (p : Pip). c.pips.text.items ++ pip_line c.pips.number p.kind c.index-verdicts-number.result) (sym c.index-pips-number.is))

pub returns : goal.returns
returns c = all_lines c.args.pips.now c.args.verdicts.now c.pips.number _ _ c.pips-test.false c.pips.invariant
