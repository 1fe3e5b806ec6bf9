-- A file has at least as many tokens as its size.
use Rattle.std.proofs.Common.{◌≡◌, ℕ, zero, suc, ◌+◌, ◌≤◌, List, [], ◌∷◌, length, refl, ap, arith}
use Rattle.dscript_lex.specs.declared.token.TokenKind.{TokenKind}
use Rattle.dscript_ast.specs.ExprTree.{StmtTree, to_stmts}
use Rattle.dscript_ast.specs.FileTree as file
use Rattle.dscript_ast.specs.FileTree.{MarkedTree, DeclTree, MarkedTrees, ItemTree, Marked, marked_of}
use Rattle.dscript_ast.specs.declared.file.Form.TheVariants as forms
use Rattle.dscript_ast.specs.declared.file.Mark.{Mark}
use Rattle.dscript_ast.specs.declared.file.Mark.TheVariants as marks
use Rattle.dscript_grammar.specs.ExprGrammar.{any_expr, stmt_at}
use Rattle.dscript_grammar.specs.FileGrammar.{block_at, decl_node, file_at, import_name, item_at, mark, marked_at}
use Rattle.dscript_grammar.specs.Language.{Language, identifier}
use Rattle.dscript_grammar.specs.TypeGrammar.{any_type, type_at}
use Rattle.dscript_grammar.proofs.Combinators.{identifier_consumes, list_not_longer, not_longer, separated_consumes}
use Rattle.dscript_grammar.proofs.TypeComplete.{body_consumes, type_consumes}
use Rattle.dscript_grammar.proofs.FileComplete.{import_name_consumes, type_params_not_longer, extends_not_longer}
use Rattle.dscript_names.specs.Sizes.{marked_size, decl_size, all_marked_size, expr_size, item_size, items_size, stmt_size, stmts_size}
use Rattle.dscript_names.proofs.Takes.{Takes, total, takes_after, takes_before, takes_less, takes_many, takes_never, takes_none, takes_note, takes_nothing, takes_one, takes_params, takes_then, takes_token, takes_identifier}
use Rattle.dscript_names.proofs.TakesTrees.{takes_expr, takes_stmt}

takes_mark : (m : Mark) → Takes 0 (mark m)
takes_mark marks.Plain = takes_nothing (λ ts rest e. e)
takes_mark marks.Export = takes_less 0 1 (omega arith) (takes_token _)
takes_mark marks.Public = takes_less 0 3 (omega arith) (takes_then (takes_token _) (takes_then (takes_token _) (takes_token _)))

stmts_sum : (ss : List StmtTree) → stmts_size (to_stmts ss) ≡ total stmt_size ss
unfolding expr_size
stmts_sum [] = refl
stmts_sum (s ∷ ss) = ap (λ n. stmt_size s + n) (stmts_sum ss)

all_marked_sum : (ms : MarkedTrees) → all_marked_size ms ≡ total marked_size (marked_of ms)
unfolding marked_size
all_marked_sum file.no_marked = refl
all_marked_sum (file.more_marked m ms) = ap (λ n. marked_size m + n) (all_marked_sum ms)

items_sum : (is : List ItemTree) → items_size is ≡ total item_size is
items_sum [] = refl
items_sum (i ∷ is) = ap (λ n. item_size i + n) (items_sum is)

takes_block : (h : ℕ) (ss : List StmtTree) → Takes (total stmt_size ss) (block_at h ss)
takes_block h ss = takes_after (takes_token _) (takes_before (takes_many stmt_size (stmt_at h) (takes_stmt h) ss) (takes_token _))

module _ (h : ℕ) (marked : MarkedTree → Language) (takes : (m : MarkedTree) → Takes (marked_size m) (marked m)) where
  takes_decl : (d : DeclTree) → Takes (decl_size d) (decl_node h marked d)
  unfolding marked_size
  takes_decl (file.Const x t e) =
      takes_then (takes_token _) (takes_after (takes_identifier x) (takes_after (takes_note h t) (takes_after (takes_token _)
      (takes_before (takes_expr h any_expr e) (takes_token _)))))
  takes_decl (file.Function x ts ps t ss) =
      takes_less (2 + length ps + stmts_size (to_stmts ss)) (1 + (1 + (length ps + total stmt_size ss))) (omega (arith, stmts_sum ss))
      (takes_then (takes_token _) (takes_then (takes_identifier x) (takes_after (takes_none (type_params_not_longer ts))
      (takes_then (takes_params h ps) (takes_after (takes_note h t) (takes_block h ss))))))
  takes_decl (file.Namespace names ms) =
      takes_less (all_marked_size ms) (total marked_size (marked_of ms)) (omega (arith, all_marked_sum ms))
      (takes_after (takes_token _) (takes_after (takes_none (not_longer (separated_consumes identifier identifier_consumes "." names)))
      (takes_after (takes_token _) (takes_before (takes_many marked_size marked takes (marked_of ms)) (takes_token _)))))
  takes_decl (file.Interface x ts es ms) =
      takes_before (takes_token _) (takes_after (takes_identifier x) (takes_after (takes_none (type_params_not_longer ts))
      (takes_after (takes_none (extends_not_longer h es)) (takes_one (body_consumes (type_at h) (type_consumes h) ms)))))
  takes_decl (file.TypeAlias x ts t) =
      takes_before (takes_token _) (takes_after (takes_identifier x) (takes_after (takes_none (type_params_not_longer ts))
      (takes_after (takes_token _) (takes_after (takes_one (type_consumes h any_type t)) (takes_token _)))))

takes_marked : (h : ℕ) (m : MarkedTree) → Takes (marked_size m) (marked_at h m)
unfolding marked_at marked_size
takes_marked zero m = takes_never (marked_size m)
takes_marked (suc h) (Marked x d) = takes_after (takes_mark x) (takes_decl h (marked_at h) (takes_marked h) d)

takes_item : (h : ℕ) (i : ItemTree) → Takes (item_size i) (item_at h i)
unfolding item_at
takes_item zero i = takes_never (item_size i)
takes_item (suc h) (file.ImportAll x from) =
    takes_less 0 1 (omega arith) (takes_after (takes_token _) (takes_after (takes_token _) (takes_after (takes_token _)
    (takes_after (takes_identifier x) (takes_after (takes_token _) (takes_after (takes_token _) (takes_token _)))))))
takes_item (suc h) (file.ImportNames names from) =
    takes_less 0 1 (omega arith) (takes_after (takes_token _) (takes_after (takes_token _)
    (takes_after (takes_none (list_not_longer import_name import_name_consumes names)) (takes_after (takes_token _) (takes_after (takes_token _)
    (takes_after (takes_token _) (takes_token _)))))))
takes_item (suc h) (file.Declared m) = takes_marked (suc h) m
takes_item (suc h) file.Empty = takes_less 0 1 (omega arith) (takes_token _)

-- the size of a file is at most its tokens
pub size_within : (tokens : List TokenKind) (items : List ItemTree) (height : ℕ)
    → file_at height forms.Project (file.Project items) tokens [] → items_size items ≤ length tokens
unfolding file_at
size_within tokens items zero p = absurd p
size_within tokens items (suc h) p =
    let l : total item_size items + 0 ≤ length tokens =
    (takes_many item_size (item_at h) (takes_item h) items).at tokens [] p in
    omega (arith, l, items_sum items)
