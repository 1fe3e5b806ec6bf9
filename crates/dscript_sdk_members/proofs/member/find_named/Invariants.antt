use Rattle.std.proofs.Common.{◌≡◌, drop}
use Rattle.std.specs.Prelude.{find}
use Rattle.std.specs.Str.{bytes_eq}
use Rattle.dscript_sdk_members.specs.Names.{written_name}
use Rattle.dscript_sdk_members.proofs.member.find_named.Given as goal

abbrev pub invariant-members : goal.invariant-members
invariant-members l =
    find (λ member. bytes_eq (written_name member) l.name) (drop l.member-index l.members)
    ≡ find (λ member. bytes_eq (written_name member) l.name) l.members
