-- The grammar of types. Rules are written as in docs/FORMATS.md.
--
-- type = array ("|" array)*
-- array = base ("[" "]")*
-- base = name ("." name)* ("<" type ("," type)* ">")? | string | number
--       | "undefined" | "true" | "false" | members | "(" type ")"
--       | "(" seq(name "?"? ":" type) ")" "=>" type
-- members = "{" (word "?"? (":" type | "(" seq(name "?"? ":" type) ")" ":" type) (";" | ",")?)* "}"
--
-- The result of a function type is as long as it can be: without parentheses around it, a function type is
-- followed neither by `|` nor by `[`.
use Rattle.std.specs.Prelude.{ℕ, zero, suc, ◌≤◌, List, [], ◌∷◌, length}
use Rattle.dscript_lex.specs.declared.token.TokenKind.TheVariants as kinds
use Rattle.dscript_grammar.specs.Language.{Language, nothing, never, token, keyword, punctuator, name}
use Rattle.dscript_grammar.specs.Language.{identifier, string, ◌⋅◌, either, given, only_if, many, times}
use Rattle.dscript_grammar.specs.Language.{separated, list}
use Rattle.dscript_ast.specs.TypeTree.{TypeTree, Union, Array, Named, Str, Number, Undefined, True, False}
use Rattle.dscript_ast.specs.TypeTree.{Body, Function, FieldTree, Field, MemberTree, Property, Method}
use Rattle.dscript_ast.specs.TypeTree.{TypeTrees, no_types, more_types, types_of, fields_of, members_of}

-- The precedence level of a type: a smaller number binds tighter.
abbrev pub type_precedence : TypeTree → ℕ
type_precedence (Union _) = 3
type_precedence (Function _ _) = 2
type_precedence (Array _ _) = 1
type_precedence _ = 0

-- the loosest level that is allowed for: any type; the last type of a union; its other types; the type before
-- `[`
abbrev pub any_type : ℕ
any_type = 3

abbrev pub last_type : ℕ
last_type = 2

abbrev pub earlier_type : ℕ
earlier_type = 1

abbrev pub base_type : ℕ
base_type = 0

-- (";" | ",")?
abbrev pub member_end : Language
member_end = either (punctuator ";") (either (punctuator ",") nothing)

-- `type` derives the types that are parts of one; its number is the loosest level that is allowed
module _ (type : ℕ → TypeTree → Language) where
  -- array ("|" array)*
  abbrev pub union : List TypeTree → Language
  union [] = never
  union (t ∷ []) = type last_type t
  union (t ∷ u ∷ more) = type earlier_type t ⋅ punctuator "|" ⋅ union (u ∷ more)

  -- ("<" type ("," type)* ">")?
  abbrev pub arguments : TypeTrees → Language
  arguments no_types = nothing
  arguments (more_types t more) =
      punctuator "<" ⋅ separated "," (type any_type) (t ∷ types_of more) ⋅ punctuator ">"

  -- name "?"? ":" type
  abbrev pub field : FieldTree → Language
  field (Field x optional t) =
      identifier x ⋅ only_if optional (punctuator "?") ⋅ punctuator ":" ⋅ type any_type t

  -- word "?"? (":" type | "(" seq(name "?"? ":" type) ")" ":" type)
  abbrev pub member : MemberTree → Language
  member (Property x optional t) =
      name x ⋅ only_if optional (punctuator "?") ⋅ punctuator ":" ⋅ type any_type t
  member (Method x optional fields t) =
      name x ⋅ only_if optional (punctuator "?") ⋅ punctuator "(" ⋅ list field (fields_of fields)
      ⋅ punctuator ")" ⋅ punctuator ":" ⋅ type any_type t

  -- members
  abbrev pub body : List MemberTree → Language
  body members = punctuator "{" ⋅ many (λ m. member m ⋅ member_end) members ⋅ punctuator "}"

  -- the alternatives
  abbrev pub type_node : TypeTree → Language
  type_node (Union ts) = given (2 ≤ length (types_of ts)) (union (types_of ts))
  type_node (Array t n) = given (1 ≤ n) (type base_type t ⋅ times n (punctuator "[" ⋅ punctuator "]"))
  type_node (Named names args) = separated "." identifier names ⋅ arguments args
  type_node (Str s) = string s
  type_node (Number n) = token (kinds.Number n)
  type_node Undefined = keyword "undefined"
  type_node True = keyword "true"
  type_node False = keyword "false"
  type_node (Body members) = body (members_of members)
  type_node (Function fields t) =
      punctuator "(" ⋅ list field (fields_of fields) ⋅ punctuator ")" ⋅ punctuator "=>" ⋅ type any_type t

-- The types of at most this height and level. A node is one higher than its highest part, and so is a pair of
-- parentheses, which makes no node.
unfoldable pub type_at : ℕ → ℕ → TypeTree → Language
type_at zero level t = never
type_at (suc h) level t =
    either (given (type_precedence t ≤ level) (type_node (type_at h) t))
    (punctuator "(" ⋅ type_at h any_type t ⋅ punctuator ")")
