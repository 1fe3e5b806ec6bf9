use Rattle.dscript_types_data.proofs.Sets.{one_put}
use Rattle.dscript_types_data.proofs.unions.set_of.Goals as goal

pub members-preserved : goal.members-preserved
members-preserved c =
    one_put c.members.members.items c.pop.new.self.items c.members.set.keys c.insert.new.self.keys c.in-Some.member _
    c.in-Some.ensures.items c.in_ok-insert.ensures.keys c.members.invariant
