use Rattle.std.proofs.Common.{ap, ◌∙◌}
use Rattle.dscript_program.specs.Views.{part_data}
use Rattle.dscript_program.proofs.NodeViews.{part_data-Call, part_data-Index, part_data-Member}
use Rattle.dscript_eval_frames.specs.Views.{seen}
use Rattle.dscript_eval.proofs.PartRests.{call_from, index_from, part_as}
use Rattle.dscript_eval.proofs.parts.part.Goals as goal

pub returns-in-Member : goal.returns-in-Member
returns-in-Member c =
    part_as _ (seen c.args.machine.now) _ _ _ _ (ap part_data c.in-Member.is ∙ part_data-Member _)
    c.after_member.ensures

pub returns-in-Index : goal.returns-in-Index
returns-in-Index c =
    part_as _ (seen c.args.machine.now) _ _ _ _
    (index_from _ c.in-Index.e.value c.deref.result.now (ap part_data c.in-Index.is ∙ part_data-Index c.in-Index.e) c.deref.ensures)
    c.before_index.ensures

pub returns-in-Call : goal.returns-in-Call
returns-in-Call c =
    part_as _ (seen c.args.machine.now) _ _ _ _
    (call_from _ c.in-Call.args.items c.as_slice.result.now (ap part_data c.in-Call.is ∙ part_data-Call c.in-Call.args)
    c.as_slice.ensures.value)
    c.before_apply.ensures
