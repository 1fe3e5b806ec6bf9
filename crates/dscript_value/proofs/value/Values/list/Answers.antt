use Rattle.std.proofs.Common.{subst}
use Rattle.dscript_value.specs.Depths.{IsDeep}
use Rattle.dscript_value.proofs.Deep.{list_of_deep}
use Rattle.dscript_value.proofs.Inside.{deep_of_whole}
use Rattle.dscript_value.proofs.value.Values.list.Goals as goal

pub returns : goal.returns
returns c = list_of_deep c.args.self (subst IsDeep c.self.view_is (deep_of_whole c.self.inside.parts c.self.invariant))
