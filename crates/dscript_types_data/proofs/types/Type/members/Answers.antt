use Rattle.std.proofs.Common.{ap, ◌∙◌}
use Rattle.dscript_types_data.proofs.Rows.{members_are}
use Rattle.dscript_types_data.specs.Views.{held}
use Rattle.dscript_types_data.proofs.types.Type.members.Goals as goal

pub returns : goal.returns
returns c = members_are _ _ _ (c.all.ensures ∙ ap held c.deref.ensures) c.self.view_is
