use Rattle.std.proofs.Common.{sym, ◌∙◌}
use Rattle.pip_model_types.specs.Orders.{outdir_cmp_total}
use Rattle.pip_model_types.proofs.SetsOf.{equal_outdirs}
use Rattle.dscript_sdk_execute.proofs.Searches.{there_if_found}
use Rattle.dscript_sdk_execute.proofs.clashes.has_directory.Goals as goal

pub returns : goal.returns
returns c =
    let found = there_if_found outdir_cmp_total equal_outdirs c.args.dirs.now c.args.dir.now c.binary_search.result
    c.requires c.binary_search.ensures.bound c.binary_search.ensures.position in
    (λ e. found.0 (sym c.is_ok.ensures.value ∙ e), λ h. c.is_ok.ensures.value ∙ found.1 h)
