-- The tokens of declarations, from lists of parts as they are in memory.
use Rattle.std.proofs.Common.{◌≡◌, ◌<◌, List, [], ◌∷◌, ◌++◌, map, length, refl, ap, sym, ◌∙◌, arith}
use Rattle.dscript_lex.specs.declared.token.TokenKind.{TokenKind}
use Rattle.dscript_ast.specs.TypeTree.{to_types}
use Rattle.dscript_ast.specs.ExprTree.{to_stmts}
use Rattle.dscript_ast.specs.FileTree.{to_marked}
use Rattle.dscript_ast.specs.Views.{type_tree, stmt_tree, marked_tree}
use Rattle.dscript_ast.specs.declared.type_node.TypeNode.{TypeNode}
use Rattle.dscript_ast.specs.declared.expr.Stmt.{Stmt}
use Rattle.dscript_ast.specs.declared.file.Marked as marked
use Rattle.dscript_print.specs.Runs.{punct, keyword, concat_tokens, separate}
use Rattle.dscript_print.specs.TypeKinds.{types_kinds, type_kinds}
use Rattle.dscript_grammar.specs.TypeGrammar.{any_type}
use Rattle.dscript_print.specs.ExprKinds.{stmt_kinds, stmts_kinds}
use Rattle.dscript_print.specs.FileKinds.{extends_kinds, block_kinds, marked_kinds, all_marked_kinds}
use Rattle.dscript_print.proofs.Steps.{types_listed, maps_listed}
use Rattle.dscript_print.proofs.Arms.{stmts_listed}

pub marked_listed : (xs : List marked.Marked) → all_marked_kinds (to_marked (map marked_tree xs)) ≡ map (λ x. marked_kinds (marked_tree x)) xs
unfolding marked_kinds
marked_listed [] = refl
marked_listed (x ∷ xs) = ap (λ ys. marked_kinds (marked_tree x) ∷ ys) (marked_listed xs)

pub none_extended : (xs : List TypeNode) → length xs ≡ 0 → extends_kinds (map type_tree xs) ≡ []
none_extended [] e = refl
none_extended (x ∷ xs) e = absurd (omega (arith, e))

pub some_extended : (xs : List TypeNode) → 0 < length xs → extends_kinds (map type_tree xs) ≡ keyword "extends" ∷ separate "," (types_kinds (to_types (map type_tree xs)))
some_extended [] e = absurd (omega (arith, e))
some_extended (x ∷ xs) e = ap (λ ys. keyword "extends" ∷ separate "," ys) (maps_listed (type_kinds any_type) type_tree (x ∷ xs) ∙ sym (types_listed (x ∷ xs)))

pub block_listed : (xs : List Stmt) → punct "{" ∷ (concat_tokens (stmts_kinds (to_stmts (map stmt_tree xs))) ++ (punct "}" ∷ [])) ≡ block_kinds (map stmt_tree xs)
block_listed xs = ap (λ ys. punct "{" ∷ (concat_tokens ys ++ (punct "}" ∷ []))) (stmts_listed xs ∙ sym (maps_listed stmt_kinds stmt_tree xs))

pub block_step : (o s n : List TokenKind) (xs : List Stmt) → s ≡ o → n ≡ s ++ (punct "{" ∷ (concat_tokens (stmts_kinds (to_stmts (map stmt_tree xs))) ++ (punct "}" ∷ []))) → n ≡ o ++ block_kinds (map stmt_tree xs)
block_step o s n xs p q = q ∙ ap (λ z. z ++ (punct "{" ∷ (concat_tokens (stmts_kinds (to_stmts (map stmt_tree xs))) ++ (punct "}" ∷ [])))) p ∙ ap (λ z. o ++ z) (block_listed xs)
