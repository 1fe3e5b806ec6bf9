-- The tokens of a type, with the parentheses that it needs and no others.
use Rattle.std.specs.Prelude.{ℕ, nat_lt, Bool, Option, Some, None, List, [], ◌∷◌, ◌++◌, map}
use Rattle.dscript_lex.specs.declared.token.TokenKind.{TokenKind}
use Rattle.dscript_lex.specs.declared.token.TokenKind.TheVariants as kinds
use Rattle.dscript_ast.specs.TypeTree.{TypeTree, Union, Array, Named, Str, Number, Undefined, True, False}
use Rattle.dscript_ast.specs.TypeTree.{Body, Function, FieldTree, Field, MemberTree, Property, Method}
use Rattle.dscript_ast.specs.TypeTree.{TypeTrees, no_types, more_types, FieldTrees, no_fields, more_fields}
use Rattle.dscript_ast.specs.TypeTree.{MemberTrees, no_members, more_members}
use Rattle.dscript_grammar.specs.TypeGrammar.{type_precedence, any_type, last_type, earlier_type, base_type}
use Rattle.dscript_print.specs.Runs.{punct, keyword, enclosed_if, run_if, concat_tokens, separate, word_run}
use Rattle.dscript_print.specs.Runs.{repeated}

-- the tokens of a type where at most this level is allowed: in parentheses if its own level is looser
abbrev pub fit : ℕ → TypeTree → List TokenKind → List TokenKind
fit level t xs = enclosed_if (nat_lt level (type_precedence t)) xs

-- the level that is allowed for a type of a union, by the types after it
abbrev pub place_before : TypeTrees → ℕ
place_before no_types = last_type
place_before (more_types _ _) = earlier_type

-- the tokens of the other types of a union, after a `|`
abbrev pub before_bar : TypeTrees → List TokenKind → List TokenKind
before_bar no_types xs = xs
before_bar (more_types _ _) xs = punct "|" ∷ xs

-- the types in angle brackets, where there are any
abbrev pub argument_run : TypeTrees → List TokenKind → List TokenKind
argument_run no_types xs = []
argument_run (more_types _ _) xs = punct "<" ∷ (xs ++ (punct ">" ∷ []))

-- a name, and `?` where it is optional
abbrev pub optional_name : List ℕ → Bool → List TokenKind
optional_name x optional = kinds.Word x ∷ run_if optional (punct "?" ∷ [])

-- types without parentheses around them, and the runs of their parts
unfoldable mutual
  pub type_node_kinds : TypeTree → List TokenKind
  type_node_kinds (Union ts) = union_kinds ts
  type_node_kinds (Array t n) = fit base_type t (type_node_kinds t) ++ repeated n (punct "[" ∷ punct "]" ∷ [])
  type_node_kinds (Named names args) =
      separate "." (map word_run names) ++ argument_run args (separate "," (types_kinds args))
  type_node_kinds (Str s) = kinds.Str s ∷ []
  type_node_kinds (Number n) = kinds.Number n ∷ []
  type_node_kinds Undefined = keyword "undefined" ∷ []
  type_node_kinds True = keyword "true" ∷ []
  type_node_kinds False = keyword "false" ∷ []
  type_node_kinds (Body members) = punct "{" ∷ (concat_tokens (members_kinds members) ++ (punct "}" ∷ []))
  type_node_kinds (Function fields t) =
      punct "(" ∷ (separate "," (fields_kinds fields) ++ (punct ")" ∷ punct "=>"
      ∷ fit any_type t (type_node_kinds t)))

  pub union_kinds : TypeTrees → List TokenKind
  union_kinds no_types = []
  union_kinds (more_types t ts) =
      fit (place_before ts) t (type_node_kinds t) ++ before_bar ts (union_kinds ts)

  pub types_kinds : TypeTrees → List (List TokenKind)
  types_kinds no_types = []
  types_kinds (more_types t ts) = fit any_type t (type_node_kinds t) ∷ types_kinds ts

  pub field_kinds : FieldTree → List TokenKind
  field_kinds (Field x optional t) =
      optional_name x optional ++ (punct ":" ∷ fit any_type t (type_node_kinds t))

  pub fields_kinds : FieldTrees → List (List TokenKind)
  fields_kinds no_fields = []
  fields_kinds (more_fields x xs) = field_kinds x ∷ fields_kinds xs

  -- a member, and `;` after it
  pub member_kinds : MemberTree → List TokenKind
  member_kinds (Property x optional t) =
      (optional_name x optional ++ (punct ":" ∷ fit any_type t (type_node_kinds t))) ++ (punct ";" ∷ [])
  member_kinds (Method x optional fields t) =
      (optional_name x optional ++ (punct "(" ∷ (separate "," (fields_kinds fields) ++ (punct ")" ∷ punct ":"
      ∷ fit any_type t (type_node_kinds t))))) ++ (punct ";" ∷ [])

  pub members_kinds : MemberTrees → List (List TokenKind)
  members_kinds no_members = []
  members_kinds (more_members x xs) = member_kinds x ∷ members_kinds xs

-- a type where at most this level is allowed
abbrev pub type_kinds : ℕ → TypeTree → List TokenKind
type_kinds level t = fit level t (type_node_kinds t)

-- `:` and a type, where one is given
abbrev pub note_kinds : Option TypeTree → List TokenKind
note_kinds None = []
note_kinds (Some t) = punct ":" ∷ type_kinds any_type t
