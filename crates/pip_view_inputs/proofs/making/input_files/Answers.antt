use Rattle.std.proofs.Common.{IfOk, ap, map, subst, ◌∙◌}
use Rattle.std.specs.List.Sorted.{IsPermutation}
use Rattle.bx_tree.specs.Trees.{Files}
use Rattle.pip_model_types.proofs.SameFiles.{one_made}
use Rattle.pip_model_types.specs.Made.{made_files}
use Rattle.pip_view_inputs.specs.Contents.{input_file}
use Rattle.pip_view_inputs.proofs.TakenFiles.{taken_distinct, taken_rise}
use Rattle.pip_view_inputs.proofs.making.input_files.Goals as goal

pub of-requires : goal.of-requires
of-requires c =
    taken_distinct c.args.sources.now c.args.inputs.now c.args.files.now (made_files c.in_ok-taken.taken.items) c.files-list.ensures.rising
    (c.in_ok-taken.ensures ∙ ap (map (input_file c.args.sources.now c.args.inputs.now)) c.files-list.ensures.files)

pub returns : goal.returns
returns c =
    one_made c.of.result (map (input_file c.args.sources.now c.args.inputs.now) c.args.files.now)
    (taken_rise c.args.sources.now c.args.inputs.now c.args.files.now c.files-list.ensures.rising)
    (subst (λ (fs : Files). IfOk c.of.result (IsPermutation fs))
    (c.in_ok-taken.ensures ∙ ap (map (input_file c.args.sources.now c.args.inputs.now)) c.files-list.ensures.files) c.of.ensures.same)
    c.of.ensures.rising
