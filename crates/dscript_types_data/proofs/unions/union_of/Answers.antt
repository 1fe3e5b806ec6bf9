use Rattle.std.proofs.Common.{◌≡◌, ◌<◌, length, rules, subst}
use Rattle.std.specs.Prelude.{IfOk}
use Rattle.dscript_types_data.proofs.Sets.{few}
use Rattle.dscript_types_meaning.specs.Types.{TypeData}
use Rattle.dscript_types_data.proofs.unions.union_of.Goals as goal

pub returns-then-len-lt2 : goal.returns-then-len-lt2
returns-then-len-lt2 c =
    let l : length c.args.members.items < 2 = search rules in
    subst (λ (u : TypeData). IfOk c.of_members.result (λ t. t ≡ u)) (few c.args.members.items l) c.of_members.ensures
