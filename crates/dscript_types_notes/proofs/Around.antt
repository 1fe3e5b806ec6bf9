-- The names of namespaces around a declaration.
use Rattle.std.proofs.Common.{◌≡◌, List, ℕ, ◌++◌, Option, Some, None, append_assoc, ap, sym, ◌∙◌}
use Rattle.std.specs.declared.alloc.Global.{Global}
use Rattle.std.specs.declared.rc.Rc.{Rc}
use Rattle.std.specs.declared.vec.Vec.{Vec}
use Rattle.dscript_program.specs.ProgramData.{Dotted}
use Rattle.dscript_program.specs.Views.{around_names, namespace_names, namespace_step}
use Rattle.dscript_program.specs.declared.program.Namespace.{Namespace}
use Rattle.dscript_program.specs.declared.program.Namespace.TheFolds.{fold-roll-Namespace, fold_out-Namespace}
use Rattle.dscript_program.specs.declared.program.Namespace.TheViews.{out-Namespace, roll-Namespace}

namespace_made
    : (outer : Option (Rc Namespace Global)) (names : Vec (List ℕ) Global)
    → namespace_names (roll-Namespace (record { outer = outer; names = names })) ≡ around_names outer ++ names.items
namespace_made None names = fold-roll-Namespace Dotted namespace_step (record { outer = None; names = names })
namespace_made (Some n) names = fold-roll-Namespace Dotted namespace_step (record { outer = Some n; names = names })

pub namespace_opened
    : (n : Namespace) → namespace_names n ≡ around_names (out-Namespace n).outer ++ (out-Namespace n).names.items
namespace_opened n =
    fold_out-Namespace Dotted namespace_step n ∙ sym (fold-roll-Namespace Dotted namespace_step (out-Namespace n))
    ∙ namespace_made (out-Namespace n).outer (out-Namespace n).names

-- all names are added, from the outermost
pub names_added
    : (n : Namespace) (old with_outer new : Dotted) → with_outer ≡ old ++ around_names (out-Namespace n).outer
    → new ≡ with_outer ++ (out-Namespace n).names.items → new ≡ old ++ namespace_names n
names_added n old with_outer new first last =
    last ∙ ap (λ xs. xs ++ (out-Namespace n).names.items) first
    ∙ append_assoc old (around_names (out-Namespace n).outer) (out-Namespace n).names.items
    ∙ ap (λ xs. old ++ xs) (sym (namespace_opened n))
