-- The grammar of files. Rules are written as in docs/FORMATS.md.
use Rattle.std.specs.Prelude.{ℕ, zero, suc, List, [], ◌∷◌}
use Rattle.dscript_grammar.specs.Language.{Language, nothing, never, keyword, punctuator, identifier, string}
use Rattle.dscript_grammar.specs.Language.{◌⋅◌, optional, many, separated, list}
use Rattle.dscript_ast.specs.TypeTree.{TypeTree}
use Rattle.dscript_grammar.specs.TypeGrammar.{any_type, type_at, body}
use Rattle.dscript_ast.specs.ExprTree.{StmtTree}
use Rattle.dscript_grammar.specs.ExprGrammar.{any_expr, expr_at, stmt_at, type_note, params}
use Rattle.dscript_ast.specs.FileTree.{MarkedTree, Marked, DeclTree, Const, Function, Namespace, Interface}
use Rattle.dscript_ast.specs.FileTree.{TypeAlias, marked_of, ImportTree, ItemTree, ImportAll, ImportNames}
use Rattle.dscript_ast.specs.FileTree.{Declared, Empty, FileTree, Project, Config, Module}
use Rattle.dscript_ast.specs.declared.file.Form.{Form}
use Rattle.dscript_ast.specs.declared.file.Form.TheVariants as forms
use Rattle.dscript_ast.specs.declared.file.Mark.{Mark}
use Rattle.dscript_ast.specs.declared.file.Mark.TheVariants as marks

-- name ("as" name)?
abbrev pub import_name : ImportTree → Language
import_name i = identifier i.name ⋅ optional (λ x. keyword "as" ⋅ identifier x) i.alias

-- (("@@" "public")? "export")?
abbrev pub mark : Mark → Language
mark marks.Plain = nothing
mark marks.Export = keyword "export"
mark marks.Public = punctuator "@@" ⋅ keyword "public" ⋅ keyword "export"

-- generics?, where generics = "<" name ("," name)* ">"
abbrev pub type_params : List (List ℕ) → Language
type_params [] = nothing
type_params (x ∷ more) = punctuator "<" ⋅ separated "," identifier (x ∷ more) ⋅ punctuator ">"

-- ("extends" type ("," type)*)?
abbrev pub extends : ℕ → List TypeTree → Language
extends h [] = nothing
extends h (t ∷ more) = keyword "extends" ⋅ separated "," (type_at h any_type) (t ∷ more)

-- block
abbrev pub block_at : ℕ → List StmtTree → Language
block_at h ss = punctuator "{" ⋅ many (stmt_at h) ss ⋅ punctuator "}"

-- `marked` derives the declarations that are parts of one. Every other part has at most the height `h`.
--
-- declaration = "const" name (":" type)? "=" expression ";"
--       | "function" name generics? parameters (":" type)? block
--       | "namespace" name ("." name)* "{" marked* "}"
--       | "interface" name generics? ("extends" type ("," type)*)? members
--       | "type" name generics? "=" type ";"
abbrev pub decl_node : ℕ → (MarkedTree → Language) → DeclTree → Language
decl_node h marked (Const x t e) =
    keyword "const" ⋅ identifier x ⋅ optional (type_note h) t ⋅ punctuator "=" ⋅ expr_at h any_expr e
    ⋅ punctuator ";"
decl_node h marked (Function x ts ps t ss) =
    keyword "function" ⋅ identifier x ⋅ type_params ts ⋅ params h ps ⋅ optional (type_note h) t
    ⋅ block_at h ss
decl_node h marked (Namespace names ms) =
    keyword "namespace" ⋅ separated "." identifier names ⋅ punctuator "{" ⋅ many marked (marked_of ms)
    ⋅ punctuator "}"
decl_node h marked (Interface x ts es ms) =
    keyword "interface" ⋅ identifier x ⋅ type_params ts ⋅ extends h es ⋅ body (type_at h) ms
decl_node h marked (TypeAlias x ts t) =
    keyword "type" ⋅ identifier x ⋅ type_params ts ⋅ punctuator "=" ⋅ type_at h any_type t ⋅ punctuator ";"

-- marked = (("@@" "public")? "export")? declaration
--
-- The declarations of at most this height. A declaration is one higher than its highest part; its mark adds
-- nothing.
unfoldable pub marked_at : ℕ → MarkedTree → Language
marked_at zero m = never
marked_at (suc h) (Marked x d) = mark x ⋅ decl_node h (marked_at h) d

-- item = "import" "*" "as" name "from" string ";"
--       | "import" "{" seq(name ("as" name)?) "}" "from" string ";"
--       | marked | ";"
--
-- The items of at most this height. A declaration adds nothing as an item; every other item has the height 1.
unfoldable pub item_at : ℕ → ItemTree → Language
item_at zero i = never
item_at (suc h) (ImportAll x from) =
    keyword "import" ⋅ punctuator "*" ⋅ keyword "as" ⋅ identifier x ⋅ keyword "from" ⋅ string from
    ⋅ punctuator ";"
item_at (suc h) (ImportNames names from) =
    keyword "import" ⋅ punctuator "{" ⋅ list import_name names ⋅ punctuator "}" ⋅ keyword "from"
    ⋅ string from ⋅ punctuator ";"
item_at (suc h) (Declared m) = marked_at (suc h) m
item_at (suc h) Empty = punctuator ";"

-- project = item*
-- config = "config" "(" expression ")" ";"
-- module = "module" "(" expression ")" ";"
--
-- The files of at most this height. A file is one higher than its highest part.
unfoldable pub file_at : ℕ → Form → FileTree → Language
file_at zero form file = never
file_at (suc h) forms.Project (Project items) = many (item_at h) items
file_at (suc h) forms.Config (Config e) =
    keyword "config" ⋅ punctuator "(" ⋅ expr_at h any_expr e ⋅ punctuator ")" ⋅ punctuator ";"
file_at (suc h) forms.Module (Module e) =
    keyword "module" ⋅ punctuator "(" ⋅ expr_at h any_expr e ⋅ punctuator ")" ⋅ punctuator ";"
file_at (suc h) _ _ = never
