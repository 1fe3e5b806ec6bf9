use Rattle.std.proofs.Common.{◌≡◌, ◌≢◌, MatchResult, None, Some, subst}
use Rattle.dscript_sdk_members.proofs.JoinedPaths.{join_down}
use Rattle.dscript_sdk_values.specs.declared.fault.SdkFault.TheVariants.{BadPath, Memory}
use Rattle.dscript_sdk_pips.proofs.new_directories.join_atom.Goals as goal

pub returns : goal.returns
returns c =
    subst (λ o. MatchResult c.join_text.result (λ path. o ≡ Some path) (λ fault. fault ≢ Memory → (fault ≡ BadPath) × (o ≡ None)))
    (join_down c.args.base.now c.args.atom.now c.requires) c.join_text.ensures
