-- The names in a file are met in the order of its tokens.
use Rattle.std.proofs.Common.{◌≡◌, ℕ, zero, suc, List, [], ◌∷◌, ◌++◌, refl, ap}
use Rattle.std.specs.List.{flat_map}
use Rattle.dscript_lex.specs.declared.token.TokenKind.{TokenKind}
use Rattle.dscript_ast.specs.ExprTree.{StmtTree, to_stmts}
use Rattle.dscript_ast.specs.TypeTree.{TypeTree}
use Rattle.dscript_ast.specs.FileTree as file
use Rattle.dscript_ast.specs.FileTree.{MarkedTree, DeclTree, MarkedTrees, ImportTree, ItemTree, Marked, marked_of}
use Rattle.dscript_ast.specs.declared.file.Form.TheVariants as forms
use Rattle.dscript_ast.specs.declared.file.Mark.{Mark}
use Rattle.dscript_ast.specs.declared.file.Mark.TheVariants as marks
use Rattle.dscript_grammar.specs.ExprGrammar.{any_expr, stmt_at, type_note}
use Rattle.dscript_grammar.specs.FileGrammar.{block_at, decl_node, extends, file_at, import_name, item_at, mark, marked_at, type_params}
use Rattle.dscript_grammar.specs.Language.{Language, identifier, keyword, ◌⋅◌}
use Rattle.dscript_grammar.specs.TypeGrammar.{any_type, type_at}
use Rattle.dscript_names_laws.specs.Met.{Occur, Words, all_marked_met, decl_met, item_met, items_met, marked_met, names_met, stmt_met, stmts_met}
use Rattle.dscript_names_laws.proofs.MetTrees.{meets_expr, meets_stmt}
use Rattle.dscript_names_laws.proofs.MetTypes.{skips_body, skips_note, skips_params, skips_type}
use Rattle.dscript_names_laws.proofs.Occurring.{Meets, meets_after, meets_as, meets_before, meets_list, meets_many, meets_name, meets_never, meets_nothing, meets_token, skips_name, skips_optional, skips_separated}

skips_mark : (m : Mark) → Meets [] (mark m)
skips_mark marks.Plain = meets_nothing
skips_mark marks.Export = meets_token _
skips_mark marks.Public = meets_after (meets_token _) (meets_after (meets_token _) (meets_token _))

stmts_row : (ss : List StmtTree) → stmts_met (to_stmts ss) ≡ flat_map stmt_met ss
unfolding names_met
stmts_row [] = refl
stmts_row (s ∷ ss) = ap (λ (ws : Words). stmt_met s ++ ws) (stmts_row ss)

marked_row : (ms : MarkedTrees) → all_marked_met ms ≡ flat_map marked_met (marked_of ms)
unfolding marked_met
marked_row file.no_marked = refl
marked_row (file.more_marked m ms) = ap (λ (ws : Words). marked_met m ++ ws) (marked_row ms)

meets_block : (h : ℕ) (ss : List StmtTree) → Meets (flat_map stmt_met ss) (block_at h ss)
meets_block h ss = meets_after (meets_token _) (meets_before (meets_many stmt_met (stmt_at h) (meets_stmt h) ss) (meets_token _))

skips_type_params : (ts : List (List ℕ)) → Meets [] (type_params ts)
skips_type_params [] = meets_nothing
skips_type_params (x ∷ more) =
    meets_after (meets_token _) (meets_after (skips_separated identifier skips_name "," (x ∷ more)) (meets_token _))

skips_extends : (h : ℕ) (es : List TypeTree) → Meets [] (extends h es)
skips_extends h [] = meets_nothing
skips_extends h (t ∷ more) =
    meets_after (meets_token _) (skips_separated (type_at h any_type) (skips_type h any_type) "," (t ∷ more))

module _ (h : ℕ) (marked : MarkedTree → Language) (meets : (m : MarkedTree) → Meets (marked_met m) (marked m)) where
  meets_decl : (d : DeclTree) → Meets (decl_met d) (decl_node h marked d)
  unfolding marked_met
  meets_decl (file.Const x t e) =
      meets_after (meets_token _) (meets_after (skips_name x) (meets_after (skips_optional (type_note h) (skips_note h) t) (meets_after (meets_token _)
      (meets_before (meets_expr h any_expr e) (meets_token _)))))
  meets_decl (file.Function x ts ps t ss) =
      meets_as (stmts_met (to_stmts ss)) (flat_map stmt_met ss) (stmts_row ss)
      (meets_after (meets_token _) (meets_after (skips_name x) (meets_after (skips_type_params ts)
      (meets_after (skips_params h ps) (meets_after (skips_optional (type_note h) (skips_note h) t) (meets_block h ss))))))
  meets_decl (file.Namespace names ms) =
      meets_as (all_marked_met ms) (flat_map marked_met (marked_of ms)) (marked_row ms)
      (meets_after (meets_token _) (meets_after (skips_separated identifier skips_name "." names)
      (meets_after (meets_token _) (meets_before (meets_many marked_met marked meets (marked_of ms)) (meets_token _)))))
  meets_decl (file.Interface x ts es ms) =
      meets_after (meets_token _) (meets_after (skips_name x) (meets_after (skips_type_params ts)
      (meets_after (skips_extends h es) (skips_body (type_at h) (skips_type h) ms))))
  meets_decl (file.TypeAlias x ts t) =
      meets_after (meets_token _) (meets_after (skips_name x) (meets_after (skips_type_params ts)
      (meets_after (meets_token _) (meets_after (skips_type h any_type t) (meets_token _)))))

meets_marked : (h : ℕ) (m : MarkedTree) → Meets (marked_met m) (marked_at h m)
unfolding marked_at marked_met
meets_marked zero m = meets_never (marked_met m)
meets_marked (suc h) (Marked x d) = meets_after (skips_mark x) (meets_decl h (marked_at h) (meets_marked h) d)

skips_alias : (x : List ℕ) → Meets [] (keyword "as" ⋅ identifier x)
skips_alias x = meets_after (meets_token _) (skips_name x)

meets_import : (i : ImportTree) → Meets (i.name ∷ []) (import_name i)
meets_import i = meets_before (meets_name i.name) (skips_optional (λ x. keyword "as" ⋅ identifier x) skips_alias i.alias)

meets_item : (h : ℕ) (i : ItemTree) → Meets (item_met i) (item_at h i)
unfolding item_at
meets_item zero i = meets_never (item_met i)
meets_item (suc h) (file.ImportAll x from) =
    meets_after (meets_token _) (meets_after (meets_token _) (meets_after (meets_token _)
    (meets_after (skips_name x) (meets_after (meets_token _) (meets_after (meets_token _) (meets_token _))))))
meets_item (suc h) (file.ImportNames names from) =
    meets_after (meets_token _) (meets_after (meets_token _)
    (meets_before (meets_list (λ (i : ImportTree). i.name ∷ []) import_name meets_import names)
    (meets_after (meets_token _) (meets_after (meets_token _) (meets_after (meets_token _) (meets_token _))))))
meets_item (suc h) (file.Declared m) = meets_marked (suc h) m
meets_item (suc h) file.Empty = meets_token _

-- the words occur among the tokens of the file
pub met_in_order
    : (tokens : List TokenKind) (items : List ItemTree) (height : ℕ)
    → file_at height forms.Project (file.Project items) tokens [] → Occur (items_met items) tokens []
unfolding file_at
met_in_order tokens items zero p = absurd p
met_in_order tokens items (suc h) p = (meets_many item_met (item_at h) (meets_item h) items).at tokens [] p
