use Rattle.std.proofs.Common.{ap}
use Rattle.dscript_eval_frames.specs.Views.{seen}
use Rattle.dscript_eval_frames.specs.declared.work.Work.TheVariants as works
use Rattle.dscript_eval.proofs.Turns.{done_as}
use Rattle.dscript_eval.proofs.running.turn_expr.Goals as goal

pub returns-in-Value : goal.returns-in-Value
returns-in-Value c = done_as _ (seen c.args.machine.now) _ _ _ (ap works.Expr c.in-Value.is) c.eval.ensures

pub returns-in-Choose : goal.returns-in-Choose
returns-in-Choose c = done_as _ (seen c.args.machine.now) _ _ _ (ap works.Expr c.in-Choose.is) c.choose.ensures

pub returns-in-Operands : goal.returns-in-Operands
returns-in-Operands c = done_as _ (seen c.args.machine.now) _ _ _ (ap works.Expr c.in-Operands.is) c.operands.ensures

pub returns-in-Operate : goal.returns-in-Operate
returns-in-Operate c = done_as _ (seen c.args.machine.now) _ _ _ (ap works.Expr c.in-Operate.is) c.operated-outcome.ensures

pub returns-in-Prefix : goal.returns-in-Prefix
returns-in-Prefix c = done_as _ (seen c.args.machine.now) _ _ _ (ap works.Expr c.in-Prefix.is) c.prefix.ensures

pub returns-in-After : goal.returns-in-After
returns-in-After c = done_as _ (seen c.args.machine.now) _ _ _ (ap works.Expr c.in-After.is) c.after.ensures

pub returns-in-AfterMember : goal.returns-in-AfterMember
returns-in-AfterMember c = done_as _ (seen c.args.machine.now) _ _ _ (ap works.Expr c.in-AfterMember.is) c.after_member.ensures

pub returns-in-Index : goal.returns-in-Index
returns-in-Index c = done_as _ (seen c.args.machine.now) _ _ _ (ap works.Expr c.in-Index.is) c.index_value-outcome.ensures

pub returns-in-Items : goal.returns-in-Items
returns-in-Items c = done_as _ (seen c.args.machine.now) _ _ _ (ap works.Expr c.in-Items.is) c.items.ensures

pub returns-in-Item : goal.returns-in-Item
returns-in-Item c = done_as _ (seen c.args.machine.now) _ _ _ (ap works.Expr c.in-Item.is) c.item.ensures

pub returns-in-SpreadItem : goal.returns-in-SpreadItem
returns-in-SpreadItem c = done_as _ (seen c.args.machine.now) _ _ _ (ap works.Expr c.in-SpreadItem.is) c.spread_item.ensures

pub returns-in-Fields : goal.returns-in-Fields
returns-in-Fields c = done_as _ (seen c.args.machine.now) _ _ _ (ap works.Expr c.in-Fields.is) c.fields.ensures

pub returns-in-Named : goal.returns-in-Named
returns-in-Named c = done_as _ (seen c.args.machine.now) _ _ _ (ap works.Expr c.in-Named.is) c.named_field.ensures

pub returns-in-SpreadFields : goal.returns-in-SpreadFields
returns-in-SpreadFields c = done_as _ (seen c.args.machine.now) _ _ _ (ap works.Expr c.in-SpreadFields.is) c.spread_fields.ensures

pub returns-in-FirstHole : goal.returns-in-FirstHole
returns-in-FirstHole c = done_as _ (seen c.args.machine.now) _ _ _ (ap works.Expr c.in-FirstHole.is) c.first_hole.ensures

pub returns-in-Holes : goal.returns-in-Holes
returns-in-Holes c = done_as _ (seen c.args.machine.now) _ _ _ (ap works.Expr c.in-Holes.is) c.other_holes.ensures

pub returns-in-Hole : goal.returns-in-Hole
returns-in-Hole c = done_as _ (seen c.args.machine.now) _ _ _ (ap works.Expr c.in-Hole.is) c.hole.ensures
