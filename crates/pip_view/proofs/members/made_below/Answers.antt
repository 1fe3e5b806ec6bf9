use Rattle.std.proofs.Common.{None, ap, cond, sym, ◌∙◌}
use Rattle.bx_tree.specs.Trees.{file_at}
use Rattle.bx_tree.specs.Below.{is_below}
use Rattle.pip_view_inputs.specs.Results.{files_by}
use Rattle.pip_view.proofs.SourceMembers.{at_passing}
use Rattle.pip_view.proofs.members.made_below.Goals as goal

pub returns-then-not-is_below : goal.returns-then-not-is_below
returns-then-not-is_below c =
    let path = c.args.path.now in
    let files = files_by c.args.inputs.now c.args.pip in
    sym (at_passing (λ p. is_below p c.args.dir.now) files path
    ∙ ap (λ b. cond b (file_at files path) None) (sym c.is_below.ensures.value ∙ c.if-not-is_below.true))

pub returns : goal.returns
returns c =
    let path = c.args.path.now in
    let files = files_by c.args.inputs.now c.args.pip in
    c.made_at.ensures
    ∙ sym (at_passing (λ p. is_below p c.args.dir.now) files path
    ∙ ap (λ b. cond b (file_at files path) None) (sym c.is_below.ensures.value ∙ c.if-not-is_below.false))
