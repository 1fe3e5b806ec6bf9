use Rattle.std.proofs.Common.{sym, ◌∙◌}
use Rattle.pip_view_directories.proofs.Rising.{there_if_found}
use Rattle.pip_view_directories.proofs.near.has_dir.Goals as goal

pub returns : goal.returns
returns c =
    let found = there_if_found c.args.dirs.now c.args.dir.now c.binary_search.result c.requires c.binary_search.ensures.bound
    c.binary_search.ensures.position in
    (λ e. found.0 (sym c.is_ok.ensures.value ∙ e), λ h. c.is_ok.ensures.value ∙ found.1 h)
