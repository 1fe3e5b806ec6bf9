use Rattle.std.proofs.Common.{ap, sym, ◌∙◌}
use Rattle.dscript_sdk_values.specs.Answers.{text_answer}
use Rattle.dscript_eval_operators.specs.PathLiterals.{path_literal}
use Rattle.dscript_eval_operators.specs.RelativeLiterals.{atom_literal, relative_literal}
use Rattle.dscript_eval_meaning.specs.Evaluating.{answered}
use Rattle.dscript_eval_meaning.specs.Expressions.{directory}
use Rattle.dscript_eval_frames.specs.Views.{seen}
use Rattle.dscript_eval_frames.specs.Works.{comes_by, ended}
use Rattle.dscript_eval_frames.proofs.Kept.{keeps_at}
use Rattle.dscript_eval_exprs.proofs.literals.end_literal.Goals as goal

pub returns-in-Template : goal.returns-in-Template
returns-in-Template c =
    let v = seen c.args.machine.now in
    keeps_at _ _ _ _ (ap (λ l. comes_by (ended v.program l c.args.text.items) v) c.in-Template.is)
    (c.finish.ensures (text_answer c.args.text.items) c.text_value-outcome.ensures)

pub returns-in-Relative : goal.returns-in-Relative
returns-in-Relative c =
    let v = seen c.args.machine.now in
    keeps_at _ _ _ _
    (ap (λ l. comes_by (ended v.program l c.args.text.items) v) c.in-Relative.is
    ∙ ap (λ t. comes_by (answered (relative_literal t)) v) (sym c.as_slice.ensures.value))
    (c.finish-in-Relative.ensures (relative_literal c.as_slice.result.now) c.relative_literal-outcome.ensures)

pub returns-in-Atom : goal.returns-in-Atom
returns-in-Atom c =
    let v = seen c.args.machine.now in
    keeps_at _ _ _ _ (ap (λ l. comes_by (ended v.program l c.args.text.items) v) c.in-Atom.is)
    (c.finish-in-Atom.ensures (atom_literal c.args.text.items) c.atom_literal-outcome.ensures)

pub returns-in-Path : goal.returns-in-Path
returns-in-Path c =
    let v = seen c.args.machine.now in
    keeps_at _ _ _ _
    (ap (λ l. comes_by (ended v.program l c.args.text.items) v) c.in-Path.is
    ∙ ap (λ t. comes_by (answered (path_literal c.in-Path.letter (directory v.program v.state) c.in-Path.base t)) v)
    (sym c.as_slice-in-Path.ensures.value))
    (c.finish-in-Path.ensures
    (path_literal c.in-Path.letter (directory v.program v.state) c.in-Path.base c.as_slice-in-Path.result.now)
    c.path_value-outcome.ensures)
