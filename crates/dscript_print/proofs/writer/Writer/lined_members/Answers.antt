use Rattle.std.proofs.Common.{rules, map}
use Rattle.dscript_ast.specs.Views.{member_tree}
use Rattle.dscript_print.specs.TypeKinds.{member_kinds}
use Rattle.dscript_print.proofs.Steps.{joined_turn, maps_listed}
use Rattle.dscript_print.proofs.writer.Writer.lined_members.Goals as goal

pub loop-member-preserved : goal.loop-member-preserved
loop-member-preserved c =
    joined_turn (λ xs. map member_kinds (map member_tree xs)) (λ x. member_kinds (member_tree x)) (maps_listed member_kinds member_tree) c.args.members.now c.loop-member.member-index _ _ _ _
    c.loop-member.invariant (search rules) (search rules) c.member-item.is
