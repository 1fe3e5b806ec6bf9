use Rattle.std.proofs.Common.{List, ℕ, sym, subst}
use Rattle.std.specs.List.{Any}
use Rattle.bx_tree.specs.Paths.{Atoms}
use Rattle.bx_tree.specs.Trees.{IsReserved}
use Rattle.bx_tree.specs.Views.{file_of}
use Rattle.bx_tree.proofs.AnyElement.{Any-map, Any-from_map}
use Rattle.bx_tree.proofs.tree.reserved.Goals as goal

pub returns : goal.returns
returns c =
    let HasOne = λ (fs : List (Atoms × List ℕ)). Any (λ f. IsReserved f.0) fs in (
      λ t. subst HasOne c.files.ensures.files (Any-map file_of (λ f. IsReserved f.0) c.files.result.now (c.has_reserved.ensures.0 t)),
      λ h. c.has_reserved.ensures.1 (Any-from_map file_of (λ f. IsReserved f.0) c.files.result.now (subst HasOne (sym c.files.ensures.files) h)),
    )
