-- Written types, node by node.
use Rattle.std.proofs.Common.{◌≡◌, List, [], IfOk, Some, None, Result, Ok, Err, sym, subst}
use Rattle.dscript_ast.specs.TypeTree as tree
use Rattle.dscript_ast.specs.TypeTree.{MemberTrees, TypeTree}
use Rattle.dscript_program.specs.ProgramData.{ProgramData}
use Rattle.dscript_types_known.specs.Findings.{Finding, Found, Nothing}
use Rattle.dscript_types_known.specs.Views.{finding_data}
use Rattle.dscript_types_known.specs.declared.finding.Finding.{Finding as AnyFinding}
use Rattle.dscript_types_meaning.specs.Annotations.{meant}
use Rattle.dscript_types_meaning.specs.Contexts.{Context, Known}
use Rattle.dscript_types_meaning.specs.Types.{FieldData, TypeData, kind_type}
use Rattle.dscript_types_meaning.specs.declared.kind.Kind.{Kind}
use Rattle.dscript_types_notes.specs.Means.{Says, SaysFrom, found_if, object_after}
use Rattle.dscript_types_notes.specs.declared.world.Place.{Place}
use Rattle.dscript_types_notes.specs.declared.world.World.{World}
use Rattle.dscript_types_notes.proofs.Going.{from_says, is_rest}

module _ {M : Type 0} (w : World) (place : Place) where
  -- what is found of a tree
  abbrev pub SaysOf : TypeTree → Result (AnyFinding TypeData) M → Type 0
  SaysOf t r = IfOk r (λ f. Says w place (finding_data f) (λ p known c. meant p known c t))

  pub of_tree : (t u : TypeTree) (r : Result (AnyFinding TypeData) M) → t ≡ u → SaysOf t r → SaysOf u r
  of_tree t u r e says = subst (λ (v : TypeTree). SaysOf v r) e says

  pub of_a_kind
      : (t : TypeTree) (kind : Kind) (r : Result (AnyFinding TypeData) M)
      → ((p : ProgramData) (known : Known) (c : Context) → meant p known c t ≡ Some (kind_type kind))
      → IfOk r (λ f. finding_data f ≡ found_if (Some (kind_type kind)) 0) → SaysOf t r
  of_a_kind t kind (Ok f) means is =
      subst (λ (g : Finding TypeData). Says w place g (λ p known c. meant p known c t)) (sym is)
      (from_says w place (Found (kind_type kind) 0) (λ p known c. meant p known c t)
      (is_rest w place 0 (λ p known c. meant p known c t) (Some (kind_type kind)) (λ known c at. means _ known c)))
  of_a_kind t kind (Err fault) means is = tt

  -- the fields of a body, after none
  pub of_a_body
      : (ms : MemberTrees) (done : List FieldData) (r : Result (AnyFinding TypeData) M) → done ≡ []
      → IfOk r (λ f. SaysFrom w place 0 (finding_data f) (λ p known c. object_after p known c ms done)) → SaysOf (tree.Body ms) r
  unfolding meant
  of_a_body ms done (Ok f) e says =
      from_says w place (finding_data f) (λ p known c. meant p known c (tree.Body ms))
      (subst (λ (fs : List FieldData). SaysFrom w place 0 (finding_data f) (λ p known c. object_after p known c ms fs)) e says)
  of_a_body ms done (Err fault) e says = tt
  -- what means nothing

module _ (w : World) (place : Place) where
  pub means_nothing
      : (t u : TypeTree) → t ≡ u → ((p : ProgramData) (known : Known) (c : Context) → meant p known c t ≡ None)
      → Says w place Nothing (λ p known c. meant p known c u)
  means_nothing t u e none =
      subst (λ (v : TypeTree). Says w place Nothing (λ p known c. meant p known c v)) e
      (λ n more c below within at. none _ _ c)
