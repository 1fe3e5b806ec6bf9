use Rattle.std.proofs.Common.{[], ap, subst, ◌∙◌}
use Rattle.std.specs.Prelude.{unwrap_or}
use Rattle.bx_tree.specs.Paths.{Atoms}
use Rattle.bx_path.specs.Joining.{parent}
use Rattle.dscript_eval_operators.specs.PathLiterals.{path_literal}
use Rattle.dscript_eval_frames.specs.Made.{Answers}
use Rattle.dscript_eval_exprs.proofs.literals.path_value.Goals as goal

pub returns-in-Ok : goal.returns-in-Ok
returns-in-Ok c =
    let P : Atoms → Type 0 = λ d. Answers c.path_literal.result (path_literal c.args.letter d c.args.base c.args.text.now) in
    subst P (c.in-Ok.ensures ∙ ap (λ f. unwrap_or (parent f) []) c.in_ok-file.ensures) c.path_literal.ensures
