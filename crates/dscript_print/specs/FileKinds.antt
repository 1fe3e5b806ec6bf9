-- The tokens of declarations and files.
use Rattle.std.specs.Prelude.{ℕ, Option, Some, None, List, [], ◌∷◌, ◌++◌, map, false}
use Rattle.dscript_lex.specs.declared.token.TokenKind.{TokenKind}
use Rattle.dscript_lex.specs.declared.token.TokenKind.TheVariants as kinds
use Rattle.dscript_ast.specs.TypeTree.{TypeTree, MemberTree}
use Rattle.dscript_grammar.specs.TypeGrammar.{any_type}
use Rattle.dscript_ast.specs.ExprTree.{StmtTree}
use Rattle.dscript_grammar.specs.ExprGrammar.{any_expr}
use Rattle.dscript_ast.specs.FileTree.{MarkedTree, Marked, DeclTree, Const, Function, Namespace, Interface}
use Rattle.dscript_ast.specs.FileTree.{TypeAlias, MarkedTrees, no_marked, more_marked, ImportTree, ItemTree}
use Rattle.dscript_ast.specs.FileTree.{ImportAll, ImportNames, Declared, Empty, FileTree, Project, Config}
use Rattle.dscript_ast.specs.FileTree.{Module}
use Rattle.dscript_ast.specs.declared.file.Mark.{Mark}
use Rattle.dscript_ast.specs.declared.file.Mark.TheVariants as marks
use Rattle.dscript_print.specs.Runs.{punct, keyword, concat_tokens, separate, word_run}
use Rattle.dscript_print.specs.TypeKinds.{type_kinds, note_kinds, member_kinds}
use Rattle.dscript_print.specs.ExprKinds.{expr_kinds, stmt_kinds, params_kinds}

-- a name that is imported, and the name after `as`
abbrev pub alias_kinds : Option (List ℕ) → List TokenKind
alias_kinds None = []
alias_kinds (Some x) = keyword "as" ∷ kinds.Word x ∷ []

abbrev pub import_kinds : ImportTree → List TokenKind
import_kinds i = kinds.Word i.name ∷ alias_kinds i.alias

abbrev pub mark_kinds : Mark → List TokenKind
mark_kinds marks.Plain = []
mark_kinds marks.Export = keyword "export" ∷ []
mark_kinds marks.Public = punct "@@" ∷ keyword "public" ∷ keyword "export" ∷ []

abbrev pub type_params_kinds : List (List ℕ) → List TokenKind
type_params_kinds [] = []
type_params_kinds (x ∷ more) = punct "<" ∷ (separate "," (map word_run (x ∷ more)) ++ (punct ">" ∷ []))

abbrev pub extends_kinds : List TypeTree → List TokenKind
extends_kinds [] = []
extends_kinds (t ∷ more) = keyword "extends" ∷ separate "," (map (type_kinds any_type) (t ∷ more))

abbrev pub block_kinds : List StmtTree → List TokenKind
block_kinds ss = punct "{" ∷ (concat_tokens (map stmt_kinds ss) ++ (punct "}" ∷ []))

abbrev pub body_kinds : List MemberTree → List TokenKind
body_kinds ms = punct "{" ∷ (concat_tokens (map member_kinds ms) ++ (punct "}" ∷ []))

abbrev pub interface_kinds : List ℕ → List (List ℕ) → List TypeTree → List MemberTree → List TokenKind
interface_kinds x ts es ms =
    keyword "interface" ∷ kinds.Word x ∷ (type_params_kinds ts ++ (extends_kinds es ++ body_kinds ms))

abbrev pub alias_type_kinds : List ℕ → List (List ℕ) → TypeTree → List TokenKind
alias_type_kinds x ts t =
    keyword "type" ∷ kinds.Word x
    ∷ (type_params_kinds ts ++ (punct "=" ∷ (type_kinds any_type t ++ (punct ";" ∷ []))))

unfoldable mutual
  pub marked_kinds : MarkedTree → List TokenKind
  marked_kinds (Marked x d) = mark_kinds x ++ decl_kinds d

  pub decl_kinds : DeclTree → List TokenKind
  decl_kinds (Const x t e) =
      keyword "const" ∷ kinds.Word x ∷ (note_kinds t ++ (punct "=" ∷ (expr_kinds false any_expr e
      ++ (punct ";" ∷ []))))
  decl_kinds (Function x ts ps t ss) =
      keyword "function" ∷ kinds.Word x ∷ (type_params_kinds ts ++ (params_kinds ps ++ (note_kinds t
      ++ block_kinds ss)))
  decl_kinds (Namespace names ms) =
      keyword "namespace" ∷ (separate "." (map word_run names) ++ (punct "{" ∷ (concat_tokens (all_marked_kinds ms)
      ++ (punct "}" ∷ []))))
  decl_kinds (Interface x ts es ms) = interface_kinds x ts es ms
  decl_kinds (TypeAlias x ts t) = alias_type_kinds x ts t

  pub all_marked_kinds : MarkedTrees → List (List TokenKind)
  all_marked_kinds no_marked = []
  all_marked_kinds (more_marked x xs) = marked_kinds x ∷ all_marked_kinds xs

abbrev pub item_kinds : ItemTree → List TokenKind
item_kinds (ImportAll x from) =
    keyword "import" ∷ punct "*" ∷ keyword "as" ∷ kinds.Word x ∷ keyword "from" ∷ kinds.Str from ∷ punct ";"
    ∷ []
item_kinds (ImportNames names from) =
    keyword "import" ∷ punct "{" ∷ (separate "," (map import_kinds names) ++ (punct "}" ∷ keyword "from"
    ∷ kinds.Str from ∷ punct ";" ∷ []))
item_kinds (Declared m) = marked_kinds m
item_kinds Empty = punct ";" ∷ []

-- a whole file
abbrev pub file_kinds : FileTree → List TokenKind
file_kinds (Project items) = concat_tokens (map item_kinds items)
file_kinds (Config e) =
    keyword "config" ∷ punct "(" ∷ (expr_kinds false any_expr e ++ (punct ")" ∷ punct ";" ∷ []))
file_kinds (Module e) =
    keyword "module" ∷ punct "(" ∷ (expr_kinds false any_expr e ++ (punct ")" ∷ punct ";" ∷ []))
