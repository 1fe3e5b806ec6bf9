use Rattle.std.proofs.Common.{◌≡◌, MatchResult, Ok, Err, codes, subst, sym}
use Rattle.dscript_value.specs.Plain.{member_list, plain_fields, plain_of}
use Rattle.dscript_sdk_values.specs.Kinds.{directory_in}
use Rattle.dscript_sdk_values.specs.Objects.{field_in}
use Rattle.dscript_sdk_execute.specs.ExecuteObject.{shared_directory_in}
use Rattle.dscript_sdk_execute.proofs.output.read_shared_directory.Goals as goal

pub returns : goal.returns
returns c =
    let last = field_in (member_list (plain_fields c.in_ok-fields.fields.now).members) (codes "directory") directory_in in
    let whole : shared_directory_in (plain_of c.args.value.now) ≡ last = simp (c.in_ok-fields.ensures, c.in_ok-kind_field.ensures) in
    subst (λ o. MatchResult c.path_field.result (λ dir. o ≡ Ok dir.now) (λ fault. o ≡ Err fault)) (sym whole)
    c.path_field.ensures
