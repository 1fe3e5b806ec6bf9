use Rattle.std.proofs.Common.{ap, sym, ◌∙◌}
use Rattle.bx_tree.specs.Trees.{Files}
use Rattle.tool_run_writes.specs.Writes.{has_below}
use Rattle.pip_view_inputs.specs.Results.{files_by}
use Rattle.pip_view.proofs.MadeLists.{below_made, made_rise}
use Rattle.pip_view.proofs.OpaqueMembers.{below_deeper, has_within}
use Rattle.pip_view.proofs.members.has_made.Goals as goal

pub has_below-requires : goal.has_below-requires
has_below-requires c = made_rise c.made_by.result.now c.made_by.ensures.rising

pub returns-in-Some : goal.returns-in-Some
returns-in-Some c =
    let files = files_by c.args.inputs.now c.args.pip in
    let root = c.in-Some.root.now in
    c.has_below.ensures ∙ below_made root c.made_by.result.now
    ∙ ap (λ (fs : Files). has_below fs root) c.made_by.ensures.files
    ∙ ap (λ o. has_within o files) c.in-Some.ensures
    ∙ sym (below_deeper c.args.dir.now c.args.path.now files)

pub returns-in-None : goal.returns-in-None
returns-in-None c =
    let files = files_by c.args.inputs.now c.args.pip in
    ap (λ o. has_within o files) c.in-None.ensures ∙ sym (below_deeper c.args.dir.now c.args.path.now files)
