-- Literals with holes have no text that is known.
use Rattle.std.proofs.Common.{◌≡◌, ℕ, List, [], ◌∷◌, None, false, length, map, refl, ap, sym, ◌∙◌, arith}
use Rattle.std.specs.Prelude.{◌==◌}
use Rattle.std.proofs.lemmas.Bool.Decides.{nat_tests}
use Rattle.std.proofs.lemmas.List.{length-map}
use Rattle.std.specs.declared.alloc.Global.{Global}
use Rattle.std.specs.declared.vec.Vec.{Vec}
use Rattle.dscript_ast.specs.ExprTree as tree
use Rattle.dscript_ast.specs.ExprTree.{HoleTree, to_holes}
use Rattle.dscript_ast.specs.Views.{expr_tree, hole_tree}
use Rattle.dscript_ast.specs.declared.expr.Expr.{Expr}
use Rattle.dscript_ast.specs.declared.expr.Expr.TheVariants as exprs
use Rattle.dscript_ast.specs.declared.expr.Hole.{Hole}
use Rattle.dscript_ast.specs.declared.expr.PathKind.{PathKind}
use Rattle.dscript_ast.specs.declared.expr.PathKind.TheVariants as letters
use Rattle.dscript_ast.proofs.NodeViews.{expr_tree-Path}
use Rattle.dscript_names_workspace.specs.Lists.{directory_text, file_text}

pub not_zero : (n : ℕ) → (n == 0) ≡ false → n ≡ 0 → ⊥
not_zero n e h = grind (arith, nat_tests)

file_with : (k : PathKind) (text : List ℕ) (holes : List HoleTree) → (length holes ≡ 0 → ⊥)
    → file_text (tree.Path k text (to_holes holes)) ≡ None
file_with k text [] n = absurd (n refl)
file_with letters.Path text (hole ∷ holes) n = refl
file_with letters.File text (hole ∷ holes) n = refl
file_with letters.Directory text (hole ∷ holes) n = refl
file_with letters.Relative text (hole ∷ holes) n = refl
file_with letters.Atom text (hole ∷ holes) n = refl

directory_with : (k : PathKind) (text : List ℕ) (holes : List HoleTree) → (length holes ≡ 0 → ⊥)
    → directory_text (tree.Path k text (to_holes holes)) ≡ None
directory_with k text [] n = absurd (n refl)
directory_with letters.Path text (hole ∷ holes) n = refl
directory_with letters.File text (hole ∷ holes) n = refl
directory_with letters.Directory text (hole ∷ holes) n = refl
directory_with letters.Relative text (hole ∷ holes) n = refl
directory_with letters.Atom text (hole ∷ holes) n = refl

mapped : (holes : List Hole) → (length holes ≡ 0 → ⊥) → length (map hole_tree holes) ≡ 0 → ⊥
mapped holes n h = n (sym (length-map holes hole_tree) ∙ h)

pub no_file_text : (e : Expr) (k : PathKind) (text : List ℕ) (holes : Vec Hole Global) → e ≡ exprs.Path k text holes
    → (length holes.items ≡ 0 → ⊥) → file_text (expr_tree e) ≡ None
no_file_text e k text holes is some =
    ap (λ x. file_text (expr_tree x)) is ∙ ap file_text (expr_tree-Path k text holes)
    ∙ file_with k text (map hole_tree holes.items) (mapped holes.items some)

pub no_directory_text : (e : Expr) (k : PathKind) (text : List ℕ) (holes : Vec Hole Global)
    → e ≡ exprs.Path k text holes
    → (length holes.items ≡ 0 → ⊥) → directory_text (expr_tree e) ≡ None
no_directory_text e k text holes is some =
    ap (λ x. directory_text (expr_tree x)) is ∙ ap directory_text (expr_tree-Path k text holes)
    ∙ directory_with k text (map hole_tree holes.items) (mapped holes.items some)
