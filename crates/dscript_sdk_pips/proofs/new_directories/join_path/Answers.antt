use Rattle.std.proofs.Common.{◌≡◌, ◌≢◌, ◌∙◌, ap, MatchResult, None, Some, subst}
use Rattle.bx_path.specs.Joining.{join_of}
use Rattle.dscript_sdk_values.specs.declared.fault.SdkFault.TheVariants.{BadPath, Memory}
use Rattle.dscript_sdk_pips.proofs.ShortPaths.{join_text_of}
use Rattle.dscript_sdk_pips.proofs.new_directories.join_path.Goals as goal

pub returns : goal.returns
returns c =
    subst (λ o. MatchResult c.join_text.result (λ path. o ≡ Some path) (λ fault. fault ≢ Memory → (fault ≡ BadPath) × (o ≡ None)))
    (ap (join_of c.args.base.now) (c.as_bytes.ensures.value ∙ c.text.ensures.text)
    ∙ join_text_of c.args.base.now c.args.path.now c.text.ensures.is_path)
    c.join_text.ensures
