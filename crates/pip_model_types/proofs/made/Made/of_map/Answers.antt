use Rattle.std.proofs.Common.{◌≡◌, IfOk, sym, subst}
use Rattle.bx_tree.specs.Trees.{Files}
use Rattle.pip_model_types.specs.Made.{RisingFiles}
use Rattle.pip_model_types.proofs.SameFiles.{distinct_paths, one_made}
use Rattle.pip_model_types.proofs.made.Made.of_map.Goals as goal

pub of-requires : goal.of-requires
of-requires c = distinct_paths _ (subst RisingFiles (sym c.in_ok-files_of.ensures.files) c.in_ok-files_of.ensures.rising)

pub returns : goal.returns
returns c =
    let files = c.in_ok-files_of.ensures.files in
    subst (λ (fs : Files). IfOk c.of.result (λ made. made ≡ fs)) (files)
    (one_made c.of.result _ (subst RisingFiles (sym files) c.in_ok-files_of.ensures.rising) c.of.ensures.same c.of.ensures.rising)
