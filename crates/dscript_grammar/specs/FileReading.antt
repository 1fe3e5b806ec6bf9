-- Reading files.
use Rattle.std.specs.Prelude.{ℕ, zero, suc, ◌-◌, max, Bool, true, false, not, ◌&&◌, List, [], ◌∷◌, length}
use Rattle.std.specs.Prelude.{Option, Some, None, nat_le}
use Rattle.dscript_lex.specs.declared.token.TokenKind.{TokenKind}
use Rattle.dscript_grammar.specs.Reading.{Read, Reader, got, ◌>>=◌, choose, pick, at_punctuator}
use Rattle.dscript_grammar.specs.Reading.{take_punctuator, take_keyword, read_identifier, read_string}
use Rattle.dscript_grammar.specs.Reading.{read_many, read_separated, read_list}
use Rattle.dscript_ast.specs.TypeTree.{TypeTree}
use Rattle.dscript_grammar.specs.TypeReading.{read_type, read_body}
use Rattle.dscript_ast.specs.ExprTree.{ExprTree}
use Rattle.dscript_grammar.specs.ExprReading.{read_expr, read_stmt, read_note, read_params, read_block}
use Rattle.dscript_grammar.specs.ExprReading.{read_value}
use Rattle.dscript_ast.specs.FileTree.{MarkedTree, Marked, DeclTree, Const, Function, Namespace, Interface}
use Rattle.dscript_ast.specs.FileTree.{TypeAlias, to_marked, ImportTree, ItemTree, ImportAll, ImportNames}
use Rattle.dscript_ast.specs.FileTree.{Declared, Empty, FileTree, Project, Config, Module}
use Rattle.dscript_ast.specs.declared.file.Form.{Form}
use Rattle.dscript_grammar.specs.declared.height.TheConstants.{MAX_HEIGHT}
use Rattle.dscript_ast.specs.declared.file.Form.TheVariants as forms
use Rattle.dscript_ast.specs.declared.file.Mark.{Mark}
use Rattle.dscript_ast.specs.declared.file.Mark.TheVariants as marks

unfoldable pub read_import_name : Reader ImportTree
read_import_name ts =
    read_identifier ts
    >>= λ x. choose (take_keyword "as" x.rest) (got (record { name = x.value; alias = None }) 0 x.rest)
    (λ r. read_identifier r >>= λ y. got (record { name = x.value; alias = Some y.value }) 0 y.rest)

unfoldable pub read_mark : Reader Mark
read_mark ts =
    choose (take_punctuator "@@" ts)
    (choose (take_keyword "export" ts) (got marks.Plain 0 ts) (λ r. got marks.Export 0 r))
    (λ r. take_keyword "public" r >>= λ r2. take_keyword "export" r2 >>= λ r3. got marks.Public 0 r3)

unfoldable pub read_type_params : Reader (List (List ℕ))
read_type_params ts =
    choose (take_punctuator "<" ts) (got [] 0 ts)
    (λ r. read_separated "," read_identifier (length r) r
    >>= λ xs. take_punctuator ">" xs.rest
    >>= λ r2. got xs.value 0 r2)

unfoldable pub read_extends : ℕ → Reader (List TypeTree)
read_extends depth ts =
    choose (take_keyword "extends" ts) (got [] 0 ts) (λ r. read_separated "," (read_type depth) (length r) r)

-- `depth` is how deeply nodes may be nested in the declaration; `marked` reads the declarations of a
-- namespace
module _ (depth : ℕ) (marked : Reader MarkedTree) where
  unfoldable pub read_const : Reader DeclTree
  read_const ts =
      read_identifier ts
      >>= λ x. read_note depth (read_expr depth) (read_stmt depth) x.rest
      >>= λ t. read_value depth (read_expr depth) (read_stmt depth) t.rest
      >>= λ e. got (Const x.value t.value e.value) (max t.height e.height) e.rest

  unfoldable pub read_function : Reader DeclTree
  read_function ts =
      read_identifier ts
      >>= λ x. read_type_params x.rest
      >>= λ ps. read_params depth (read_expr depth) (read_stmt depth) ps.rest
      >>= λ xs. read_note depth (read_expr depth) (read_stmt depth) xs.rest
      >>= λ t. read_block depth (read_expr depth) (read_stmt depth) t.rest
      >>= λ ss. got (Function x.value ps.value xs.value t.value ss.value)
      (max xs.height (max t.height ss.height)) ss.rest

  unfoldable pub read_namespace : Reader DeclTree
  read_namespace ts =
      read_separated "." read_identifier (length ts) ts
      >>= λ xs. take_punctuator "{" xs.rest
      >>= λ r. read_many (λ us. not (at_punctuator "}" us)) marked (suc (length r)) r
      >>= λ ms. take_punctuator "}" ms.rest
      >>= λ r2. got (Namespace xs.value (to_marked ms.value)) ms.height r2

  unfoldable pub read_interface : Reader DeclTree
  read_interface ts =
      read_identifier ts
      >>= λ x. read_type_params x.rest
      >>= λ ps. read_extends depth ps.rest
      >>= λ es. read_body (read_type depth) es.rest
      >>= λ ms. got (Interface x.value ps.value es.value ms.value) (max es.height ms.height) ms.rest

  unfoldable pub read_alias : Reader DeclTree
  read_alias ts =
      read_identifier ts
      >>= λ x. read_type_params x.rest
      >>= λ ps. take_punctuator "=" ps.rest
      >>= λ r. read_type depth r
      >>= λ t. take_punctuator ";" t.rest
      >>= λ r2. got (TypeAlias x.value ps.value t.value) t.height r2

  unfoldable pub read_decl : Reader DeclTree
  read_decl ts =
      choose (take_keyword "const" ts)
      (choose (take_keyword "function" ts)
      (choose (take_keyword "namespace" ts)
      (choose (take_keyword "interface" ts) (take_keyword "type" ts >>= read_alias) read_interface)
      read_namespace)
      read_function)
      read_const

  unfoldable pub read_declared : Reader MarkedTree
  read_declared ts =
      read_mark ts
      >>= λ m. read_decl m.rest
      >>= λ d. got (Marked m.value d.value) (suc d.height) d.rest

unfoldable pub read_marked : ℕ → Reader MarkedTree
read_marked zero ts = None
read_marked (suc depth) ts = read_declared depth (read_marked depth) ts

-- the rest of an import
unfoldable pub read_source : Reader (List ℕ)
read_source ts =
    take_keyword "from" ts
    >>= λ r. read_string r
    >>= λ s. take_punctuator ";" s.rest
    >>= λ r2. got s.value 0 r2

unfoldable pub read_import_all : Reader ItemTree
read_import_all ts =
    take_keyword "as" ts
    >>= λ r. read_identifier r
    >>= λ x. read_source x.rest
    >>= λ s. got (ImportAll x.value s.value) 1 s.rest

unfoldable pub read_import_names : Reader ItemTree
read_import_names ts =
    take_punctuator "{" ts
    >>= λ r. read_list "}" read_import_name (suc (length r)) r
    >>= λ xs. take_punctuator "}" xs.rest
    >>= λ r2. read_source r2
    >>= λ s. got (ImportNames xs.value s.value) 1 s.rest

unfoldable pub read_import : Reader ItemTree
read_import ts = choose (take_punctuator "*" ts) (read_import_names ts) read_import_all

unfoldable pub read_item : ℕ → Reader ItemTree
read_item zero ts = None
read_item (suc depth) ts =
    choose (take_punctuator ";" ts)
    (choose (take_keyword "import" ts)
    (read_marked (suc depth) ts >>= λ m. got (Declared m.value) m.height m.rest)
    read_import)
    (λ r. got Empty 1 r)

unfoldable pub at_end : List TokenKind → Bool
at_end [] = true
at_end (t ∷ ts) = false

unfoldable pub read_called : ℕ → Reader ExprTree
read_called depth ts =
    take_punctuator "(" ts
    >>= λ r. read_expr depth r
    >>= λ e. take_punctuator ")" e.rest
    >>= λ r2. take_punctuator ";" r2
    >>= λ r3. got e.value e.height r3

-- no item, and an item before others that were read
abbrev pub no_items : List TokenKind → Read (List ItemTree)
no_items ts = record { value = []; height = 0; rest = ts }

abbrev pub item_before : Read ItemTree → Read (List ItemTree) → Read (List ItemTree)
item_before i xs = record { value = i.value ∷ xs.value; height = max i.height xs.height; rest = xs.rest }

-- The items at the start of the tokens, at most n, up to the end or to the first that is malformed or exceeds
-- the height limit, and the tokens after them.
unfoldable pub read_items : ℕ → ℕ → List TokenKind → Read (List ItemTree)
read_items depth zero ts = no_items ts
read_items depth (suc n) ts =
    choose (read_item depth ts) (no_items ts)
    (λ i. pick (nat_le i.height depth) (item_before i (read_items depth n i.rest)) (no_items ts))

-- the items at the start of the tokens, as many as there are
abbrev pub items_of : ℕ → List TokenKind → Read (List ItemTree)
items_of depth ts = read_items depth (length ts) ts

-- a project file, where no token is left after its items
unfoldable pub as_project : Read (List ItemTree) → Option (Read FileTree)
as_project xs = pick (at_end xs.rest) (got (Project xs.value) (suc xs.height) xs.rest) None

unfoldable pub read_file : ℕ → Form → Reader FileTree
read_file zero form ts = None
read_file (suc depth) forms.Project ts = as_project (items_of depth ts)
read_file (suc depth) forms.Config ts =
    take_keyword "config" ts >>= λ r. read_called depth r >>= λ e. got (Config e.value) (suc e.height) e.rest
read_file (suc depth) forms.Module ts =
    take_keyword "module" ts >>= λ r. read_called depth r >>= λ e. got (Module e.value) (suc e.height) e.rest

-- the file that all of the tokens are, if its height counts
unfoldable pub file_of : Form → List TokenKind → Option FileTree
file_of form ts =
    read_file MAX_HEIGHT form ts
    >>= λ f. pick (at_end f.rest && nat_le f.height MAX_HEIGHT) (Some f.value) None

-- the greatest height of an item: a file is one higher than its items
abbrev pub max_item_height : ℕ
max_item_height = MAX_HEIGHT - 1

-- how many tokens the items of a project file have that are read one by one, up to the first that is wrong
abbrev pub tokens_read : List TokenKind → ℕ
tokens_read ts = length ts - length (items_of max_item_height ts).rest
