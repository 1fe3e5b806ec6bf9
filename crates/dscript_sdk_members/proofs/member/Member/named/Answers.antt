use Rattle.dscript_sdk_members.specs.Names.{member_named}
use Rattle.dscript_sdk_members.proofs.AllMembers.{found_among_all}
use Rattle.dscript_sdk_members.proofs.member.Member.named.Goals as goal

pub returns-clause-value : goal.returns-clause-value
unfolding member_named
returns-clause-value c = c.find_named.ensures

pub returns-clause-only : goal.returns-clause-only
returns-clause-only c = found_among_all c.args.name.now _ c.find_named.ensures
