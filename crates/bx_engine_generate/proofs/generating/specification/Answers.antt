use Rattle.bx_engine_generate.specs.Generated.{lines_from}
use Rattle.bx_engine_generate.proofs.Lines.{all_lines, one_more_line}
use Rattle.bx_engine_generate.proofs.generating.specification.Goals as goal

pub pips-preserved : goal.pips-preserved
pips-preserved c =
    one_more_line c.args.pips c.pips.pip c.pips.numbers c.append_pip.new.numbers c.pips.text.items c.append_pip.new.text.items (lines_from c.args.pips 0 c.args.seed)
    c.pips-test.true c.pips.invariant c.in_ok-append_pip.ensures.text c.in_ok-append_pip.ensures.state

pub returns : goal.returns
returns c =
    all_lines c.args.pips c.pips.pip c.pips.numbers c.pips.text.items (lines_from c.args.pips 0 c.args.seed) c.pips-test.false c.pips.invariant
