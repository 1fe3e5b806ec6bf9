-- The tokens that are printed of a file derive it, within the height within which other tokens do, and can be written.
use Rattle.std.proofs.Common.{◌≡◌, ℕ, zero, suc, ◌≤◌, false, List, [], ◌∷◌, ◌++◌, map, Option, Some, None, refl, ap, sym, subst, arith}
use Rattle.dscript_lex.specs.declared.token.TokenKind.{TokenKind}
use Rattle.dscript_lex.specs.declared.token.TokenKind.TheVariants as kinds
use Rattle.dscript_grammar.specs.Language.{Language, keyword as keyword_rule, punctuator, identifier, string, ◌⋅◌, optional, many, separated, list}
use Rattle.dscript_ast.specs.TypeTree.{TypeTree}
use Rattle.dscript_grammar.specs.TypeGrammar.{any_type, type_at, body}
use Rattle.dscript_ast.specs.ExprTree.{StmtTree, ExprTree}
use Rattle.dscript_grammar.specs.ExprGrammar.{any_expr, expr_at, stmt_at, type_note, params}
use Rattle.dscript_ast.specs.FileTree.{MarkedTree, Marked, DeclTree, Const, Function, Namespace, Interface, TypeAlias, MarkedTrees, no_marked, more_marked, marked_of, ImportTree, ItemTree, ImportAll, ImportNames, Declared, Empty, FileTree, Project, Config, Module}
use Rattle.dscript_grammar.specs.FileGrammar.{import_name, mark, type_params, extends, block_at, decl_node, marked_at, item_at, file_at}
use Rattle.dscript_grammar.specs.Derives.{Derives}
use Rattle.dscript_ast.specs.declared.file.Form.{Form}
use Rattle.dscript_ast.specs.declared.file.Form.TheVariants as forms
use Rattle.dscript_ast.specs.declared.file.Mark.{Mark}
use Rattle.dscript_ast.specs.declared.file.Mark.TheVariants as marks
use Rattle.dscript_print_tokens.specs.Spellable.{AreSpellable}
use Rattle.dscript_print.specs.Runs.{punct, keyword, concat_tokens, separate, word_run}
use Rattle.dscript_print.specs.TypeKinds.{type_kinds, note_kinds}
use Rattle.dscript_print.specs.ExprKinds.{expr_kinds, stmt_kinds, params_kinds}
use Rattle.dscript_print.specs.FileKinds.{alias_kinds, import_kinds, mark_kinds, type_params_kinds, extends_kinds, block_kinds, body_kinds, marked_kinds, decl_kinds, all_marked_kinds, item_kinds, file_kinds}
use Rattle.dscript_print.proofs.Spelled.{spellable, append_nil}
use Rattle.dscript_print.proofs.Reprint.{AllSpell, Reprints, reprints_seq, reprints_nothing, reprints_token, reprints_after, reprints_id, reprints_after_id, reprints_many, reprints_separated, reprints_list, reprints_in_braces, reprints_braces}
use Rattle.dscript_print.proofs.TypeReprint.{type_reprint, reprints_members}
use Rattle.dscript_print.proofs.ExprReprint.{expr_reprint, stmt_reprint, reprints_notes, reprints_params}

pub marked_runs : (xs : MarkedTrees) → all_marked_kinds xs ≡ map marked_kinds (marked_of xs)
unfolding marked_kinds
marked_runs no_marked = refl
marked_runs (more_marked x xs) = ap (λ ys. marked_kinds x ∷ ys) (marked_runs xs)

reprints_alias : (o : Option (List ℕ)) → Reprints (optional (λ x. keyword_rule "as" ⋅ identifier x) o) (optional (λ x. keyword_rule "as" ⋅ identifier x) o) (alias_kinds o)
reprints_alias None = reprints_nothing
reprints_alias (Some x) = reprints_after (keyword "as") refl (identifier x) (identifier x) _ (reprints_id x)

reprints_import : (i : ImportTree) → Reprints (import_name i) (import_name i) (import_kinds i)
reprints_import i = reprints_after_id i.name _ _ _ (reprints_alias i.alias)

reprints_mark : (m : Mark) → Reprints (mark m) (mark m) (mark_kinds m)
reprints_mark marks.Plain = reprints_nothing
reprints_mark marks.Export = reprints_token (keyword "export") refl
reprints_mark marks.Public = reprints_after (punct "@@") refl _ _ _ (reprints_after (keyword "public") refl (keyword_rule "export") (keyword_rule "export") _ (reprints_token (keyword "export") refl))

reprints_type_params : (xs : List (List ℕ)) → Reprints (type_params xs) (type_params xs) (type_params_kinds xs)
reprints_type_params [] = reprints_nothing
reprints_type_params (x ∷ more) =
    reprints_after (punct "<") refl _ _ _ (reprints_seq (separated "," identifier (x ∷ more)) (separated "," identifier (x ∷ more)) (punctuator ">") (punctuator ">") (separate "," (map word_run (x ∷ more))) (punct ">" ∷ [])
    (reprints_separated identifier identifier word_run reprints_id "," refl (x ∷ more)) (reprints_token (punct ">") refl))

module _ (h m : ℕ) (le : h ≤ m) where
  reprints_extends : (ts : List TypeTree) → Reprints (extends h ts) (extends m ts) (extends_kinds ts)
  reprints_extends [] = reprints_nothing
  reprints_extends (t ∷ more) =
      reprints_after (keyword "extends") refl (separated "," (type_at h any_type) (t ∷ more)) (separated "," (type_at m any_type) (t ∷ more)) _
      (reprints_separated (type_at h any_type) (type_at m any_type) (type_kinds any_type) (type_reprint h m le any_type) "," refl (t ∷ more))

  reprints_block : (ss : List StmtTree) → Reprints (block_at h ss) (block_at m ss) (block_kinds ss)
  reprints_block ss = reprints_in_braces (many (stmt_at h) ss) (many (stmt_at m) ss) (concat_tokens (map stmt_kinds ss)) (reprints_many (stmt_at h) (stmt_at m) stmt_kinds (stmt_reprint h m le) ss)

  reprints_noted : (t : Option TypeTree) (B B2 : Language) (ys : List TokenKind) → Reprints B B2 ys → Reprints (optional (type_note h) t ⋅ B) (optional (type_note m) t ⋅ B2) (note_kinds t ++ ys)
  reprints_noted t B B2 ys b = reprints_seq (optional (type_note h) t) (optional (type_note m) t) B B2 (note_kinds t) ys (reprints_notes h m le t) b

  reprints_generic : (xs : List (List ℕ)) (B B2 : Language) (ys : List TokenKind) → Reprints B B2 ys → Reprints (type_params xs ⋅ B) (type_params xs ⋅ B2) (type_params_kinds xs ++ ys)
  reprints_generic xs B B2 ys b = reprints_seq (type_params xs) (type_params xs) B B2 (type_params_kinds xs) ys (reprints_type_params xs) b

  module _ (marked marked2 : MarkedTree → Language) (one : (x : MarkedTree) → Reprints (marked x) (marked2 x) (marked_kinds x)) where
    reprints_all_marked : (xs : MarkedTrees) → Reprints (punctuator "{" ⋅ many marked (marked_of xs) ⋅ punctuator "}") (punctuator "{" ⋅ many marked2 (marked_of xs) ⋅ punctuator "}") (punct "{" ∷ (concat_tokens (all_marked_kinds xs) ++ (punct "}" ∷ [])))
    reprints_all_marked xs =
        subst (λ (runs : List (List TokenKind)). Reprints (punctuator "{" ⋅ many marked (marked_of xs) ⋅ punctuator "}") (punctuator "{" ⋅ many marked2 (marked_of xs) ⋅ punctuator "}") (punct "{" ∷ (concat_tokens runs ++ (punct "}" ∷ [])))) (sym (marked_runs xs))
        (reprints_in_braces (many marked (marked_of xs)) (many marked2 (marked_of xs)) (concat_tokens (map marked_kinds (marked_of xs))) (reprints_many marked marked2 marked_kinds one (marked_of xs)))

    reprints_decl : (d : DeclTree) → Reprints (decl_node h marked d) (decl_node m marked2 d) (decl_kinds d)
    unfolding decl_kinds
    reprints_decl (Const x t e) =
        reprints_after (keyword "const") refl _ _ _ (reprints_after_id x _ _ _ (reprints_noted t _ _ _ (reprints_after (punct "=") refl _ _ _
        (reprints_seq (expr_at h any_expr e) (expr_at m any_expr e) (punctuator ";") (punctuator ";") (expr_kinds false any_expr e) (punct ";" ∷ []) (expr_reprint h m le e) (reprints_token (punct ";") refl)))))
    reprints_decl (Function x ts ps t ss) =
        reprints_after (keyword "function") refl _ _ _ (reprints_after_id x _ _ _ (reprints_generic ts _ _ _
        (reprints_seq (params h ps) (params m ps) _ _ (params_kinds ps) _ (reprints_params h m le ps) (reprints_noted t (block_at h ss) (block_at m ss) (block_kinds ss) (reprints_block ss)))))
    reprints_decl (Namespace names ms) =
        reprints_after (keyword "namespace") refl _ _ _ (reprints_seq (separated "." identifier names) (separated "." identifier names) _ _ (separate "." (map word_run names)) _
        (reprints_separated identifier identifier word_run reprints_id "." refl names) (reprints_all_marked ms))
    reprints_decl (Interface x ts es ms) =
        reprints_after (keyword "interface") refl _ _ _ (reprints_after_id x _ _ _ (reprints_generic ts _ _ _
        (reprints_seq (extends h es) (extends m es) (body (type_at h) ms) (body (type_at m) ms) (extends_kinds es) (body_kinds ms) (reprints_extends es)
        (reprints_members (type_at h) (type_at m) (type_reprint h m le) ms))))
    reprints_decl (TypeAlias x ts t) =
        reprints_after (keyword "type") refl _ _ _ (reprints_after_id x _ _ _ (reprints_generic ts _ _ _ (reprints_after (punct "=") refl _ _ _
        (reprints_seq (type_at h any_type t) (type_at m any_type t) (punctuator ";") (punctuator ";") (type_kinds any_type t) (punct ";" ∷ []) (type_reprint h m le any_type t) (reprints_token (punct ";") refl)))))

marked_reprint : (h m : ℕ) → h ≤ m → (x : MarkedTree) → Reprints (marked_at h x) (marked_at m x) (marked_kinds x)
unfolding marked_at marked_kinds
marked_reprint zero m le x = λ ts rest fine d. absurd d
marked_reprint (suc h) zero le x = absurd (omega (arith, le))
marked_reprint (suc h) (suc m) le (Marked x d) =
    reprints_seq (mark x) (mark x) (decl_node h (marked_at h) d) (decl_node m (marked_at m) d) (mark_kinds x) (decl_kinds d) (reprints_mark x)
    (reprints_decl h m (omega (arith, le)) (marked_at h) (marked_at m) (marked_reprint h m (omega (arith, le))) d)

reprints_from : (from : List ℕ) → Reprints (keyword_rule "from" ⋅ string from ⋅ punctuator ";") (keyword_rule "from" ⋅ string from ⋅ punctuator ";") (keyword "from" ∷ kinds.Str from ∷ punct ";" ∷ [])
reprints_from from = reprints_after (keyword "from") refl _ _ _ (reprints_after (kinds.Str from) refl (punctuator ";") (punctuator ";") _ (reprints_token (punct ";") refl))

item_reprint : (h : ℕ) (x : ItemTree) → Reprints (item_at h x) (item_at h x) (item_kinds x)
unfolding item_at
item_reprint zero x = λ ts rest fine d. absurd d
item_reprint (suc h) (ImportAll x from) =
    reprints_after (keyword "import") refl _ _ _ (reprints_after (punct "*") refl _ _ _ (reprints_after (keyword "as") refl _ _ _ (reprints_after_id x _ _ _ (reprints_from from))))
item_reprint (suc h) (ImportNames names from) =
    reprints_after (keyword "import") refl _ _ _ (reprints_braces (list import_name names) (list import_name names) _ _ (separate "," (map import_kinds names)) _
    (reprints_list import_name import_name import_kinds reprints_import names) (reprints_from from))
item_reprint (suc h) (Declared x) = marked_reprint (suc h) (suc h) (omega arith) x
item_reprint (suc h) Empty = reprints_token (punct ";") refl

reprints_called : (h : ℕ) (e : ExprTree) → Reprints (punctuator "(" ⋅ expr_at h any_expr e ⋅ punctuator ")" ⋅ punctuator ";") (punctuator "(" ⋅ expr_at h any_expr e ⋅ punctuator ")" ⋅ punctuator ";") (punct "(" ∷ (expr_kinds false any_expr e ++ (punct ")" ∷ punct ";" ∷ [])))
reprints_called h e =
    reprints_after (punct "(") refl _ _ _ (reprints_seq (expr_at h any_expr e) (expr_at h any_expr e) _ _ (expr_kinds false any_expr e) _ (expr_reprint h h (omega arith) e)
    (reprints_after (punct ")") refl (punctuator ";") (punctuator ";") _ (reprints_token (punct ";") refl)))

file_reprint : (h : ℕ) (form : Form) (f : FileTree) → Reprints (file_at h form f) (file_at h form f) (file_kinds f)
unfolding file_at
file_reprint zero form f = λ ts rest fine d. absurd d
file_reprint (suc h) forms.Project (Project items) = reprints_many (item_at h) (item_at h) item_kinds (item_reprint h) items
file_reprint (suc h) forms.Config (Config e) = reprints_after (keyword "config") refl _ _ _ (reprints_called h e)
file_reprint (suc h) forms.Module (Module e) = reprints_after (keyword "module") refl _ _ _ (reprints_called h e)
file_reprint (suc h) forms.Project (Config e) = λ ts rest fine d. absurd d
file_reprint (suc h) forms.Project (Module e) = λ ts rest fine d. absurd d
file_reprint (suc h) forms.Config (Project items) = λ ts rest fine d. absurd d
file_reprint (suc h) forms.Config (Module e) = λ ts rest fine d. absurd d
file_reprint (suc h) forms.Module (Project items) = λ ts rest fine d. absurd d
file_reprint (suc h) forms.Module (Config e) = λ ts rest fine d. absurd d

-- what a file is printed as, where some tokens derive it
pub derived_again : (form : Form) (tokens : List TokenKind) (f : FileTree) (h : ℕ) → AllSpell tokens → Derives form tokens f h → Derives form (file_kinds f) f h
derived_again form tokens f h fine d =
    record { counts = d.counts; derived = subst (λ (ts : List TokenKind). file_at h form f ts []) (append_nil (file_kinds f)) ((file_reprint h form f tokens [] fine d.derived).derived []) }

pub can_be_written : (form : Form) (tokens : List TokenKind) (f : FileTree) (h : ℕ) → AllSpell tokens → Derives form tokens f h → AreSpellable (file_kinds f)
can_be_written form tokens f h fine d = spellable (file_kinds f) (file_reprint h form f tokens [] fine d.derived).fine
