-- The types of operators.
use Rattle.std.specs.Prelude.{◌&&◌, ◌||◌, Bool, if◌then◌else◌, List, [], ◌∷◌}
use Rattle.std.specs.Prelude.{Option, Some, None}
use Rattle.std.specs.Option.{option_and_then, option_map}
use Rattle.dscript_ast.specs.declared.operator.BinaryOp.{BinaryOp}
use Rattle.dscript_ast.specs.declared.operator.BinaryOp.TheVariants as binary
use Rattle.dscript_ast.specs.declared.operator.UnaryOp.{UnaryOp}
use Rattle.dscript_ast.specs.declared.operator.UnaryOp.TheVariants as unary
use Rattle.dscript_types_meaning.specs.declared.kind.Kind.{Kind}
use Rattle.dscript_types_meaning.specs.declared.kind.Kind.TheVariants as kinds
use Rattle.dscript_types_meaning.specs.Types.{TypeData, MemberData, Values, kind_type, members_of, never}
use Rattle.dscript_types_meaning.specs.Sizes.{within_limit}
use Rattle.dscript_types_meaning.specs.Unions.{can_be_list, can_be_object, join}
use Rattle.dscript_types_meaning.specs.Unions.{without_undefined}
use Rattle.dscript_types_meaning.specs.Fits.{fits}

abbrev pub number_type : TypeData
number_type = kind_type kinds.Number

abbrev pub text_type : TypeData
text_type = kind_type kinds.String

abbrev pub boolean_type : TypeData
boolean_type = kind_type kinds.Boolean

-- ## Each member, and each pair of members

-- the union of what is answered at each of these; none where one has no answer
abbrev pub at_each : (MemberData → Option TypeData) → List MemberData → Option TypeData
at_each answer [] = Some never
at_each answer (m ∷ ms) = option_and_then (λ t. option_map (join t) (at_each answer ms)) (answer m)

abbrev pub at_pairs : (MemberData → MemberData → Option TypeData) → TypeData → TypeData → Option TypeData
at_pairs answer t u = at_each (λ m. at_each (answer m) (members_of u)) (members_of t)

-- ## Operators between operands

-- two numbers, two texts, or a text and a number
abbrev pub sum_of : MemberData → MemberData → Option TypeData
sum_of (Values kinds.Number) (Values kinds.Number) = Some number_type
sum_of (Values kinds.Number) (Values kinds.String) = Some text_type
sum_of (Values kinds.String) (Values kinds.Number) = Some text_type
sum_of (Values kinds.String) (Values kinds.String) = Some text_type
sum_of _ _ = None

abbrev pub of_numbers : TypeData → TypeData → TypeData → Option TypeData
of_numbers answer t u = if fits t number_type && fits u number_type then Some answer else None

-- whether two values of these types can be two lists, or two objects
abbrev pub may_be_alike : TypeData → TypeData → Bool
may_be_alike t u = (can_be_list t && can_be_list u) || (can_be_object t && can_be_object u)

abbrev pub compared : TypeData → TypeData → Option TypeData
compared t u = if may_be_alike t u then None else Some boolean_type

-- `&&` and `||` give an operand, and `||` its left one only where that is not undefined.
unfoldable pub operated : BinaryOp → TypeData → TypeData → Option TypeData
operated binary.Or t u = within_limit (join (without_undefined t) u)
operated binary.And t u = within_limit (join t u)
operated binary.Equal t u = compared t u
operated binary.NotEqual t u = compared t u
operated binary.Less t u = of_numbers boolean_type t u
operated binary.LessOrEqual t u = of_numbers boolean_type t u
operated binary.Greater t u = of_numbers boolean_type t u
operated binary.GreaterOrEqual t u = of_numbers boolean_type t u
operated binary.Add t u = at_pairs sum_of t u
operated binary.Subtract t u = of_numbers number_type t u
operated binary.Multiply t u = of_numbers number_type t u

-- ## Operators before an operand

abbrev pub prefixed_by : UnaryOp → TypeData → Option TypeData
prefixed_by unary.Not t = Some boolean_type
prefixed_by unary.Negate t = of_numbers number_type t t

-- the operator next to the operand is the first to act
unfoldable pub prefixed : List UnaryOp → TypeData → Option TypeData
prefixed [] t = Some t
prefixed (op ∷ ops) t = option_and_then (prefixed_by op) (prefixed ops t)

-- ## Holes

abbrev pub types_of_kinds : List Kind → TypeData
types_of_kinds [] = never
types_of_kinds (kind ∷ more) = join (kind_type kind) (types_of_kinds more)

-- what a hole of a path literal, a relative path or an atom may hold
abbrev pub literal_hole : TypeData
literal_hole =
    types_of_kinds (kinds.String ∷ kinds.Number ∷ kinds.PathAtom ∷ kinds.RelativePath ∷ [])

-- what the hole may hold with which a path, file or directory literal begins
abbrev pub leading_hole : TypeData
leading_hole = join literal_hole (types_of_kinds (kinds.Path ∷ kinds.File ∷ kinds.Directory ∷ []))

-- what a hole of a template may hold
abbrev pub template_hole : TypeData
template_hole = join leading_hole boolean_type
