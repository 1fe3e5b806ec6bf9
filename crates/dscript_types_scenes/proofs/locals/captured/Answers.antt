use Rattle.dscript_types_scenes.proofs.Captures.{captures_begin, captures_end, captures_next}
use Rattle.dscript_types_scenes.proofs.Noting.{read_again}
use Rattle.dscript_types_scenes.proofs.locals.captured.Goals as goal

pub captured-init : goal.captured-init
captured-init c = captures_begin c.args.scene.now c.args.numbers.now c.new-locals.result c.new-locals.ensures

pub captured-preserved : goal.captured-preserved
captured-preserved c =
    captures_next c.args.scene.now c.args.numbers.now c.captured.number-index _ c.captured-test.true
    (read_again c.args.numbers.now c.captured.number-index _ c.captured-test.true)
    c.captured.locals c.in_ok-locals.locals c.captured.invariant c.in_ok-locals.ensures

pub returns : goal.returns
returns c =
    captures_end c.args.scene.now c.args.numbers.now c.captured.number-index c.captured.locals c.captured-test.false c.captured.invariant
