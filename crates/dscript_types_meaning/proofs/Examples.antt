-- Worked examples, which pin down what types are.
use Rattle.std.proofs.Common.{◌≡◌, ℕ, Bool, true, false, [], ◌∷◌, codes, None, Some, refl}
use Rattle.dscript_ast.specs.declared.expr.LoopKind.TheVariants as loops
use Rattle.dscript_ast.specs.declared.operator.BinaryOp.{BinaryOp}
use Rattle.dscript_ast.specs.declared.operator.BinaryOp.TheVariants as binary
use Rattle.dscript_program.specs.BoundTree as tree
use Rattle.dscript_program.specs.BoundTree.{ExprData, StmtData, to_exprs, to_operands, to_parts, to_elements}
use Rattle.dscript_program.specs.declared.target.Target.TheVariants as targets
use Rattle.dscript_types_meaning.specs.declared.kind.Kind.TheVariants as kinds
use Rattle.dscript_types_meaning.specs.Types.{TypeData, kind_type, list_type, never, object_type}
use Rattle.dscript_types_meaning.specs.Sizes.{type_nodes, member_nodes, members_nodes, fields_nodes}
use Rattle.dscript_types_meaning.specs.Codes.{member_cmp, type_code, member_code, members_code, fields_code}
use Rattle.dscript_types_meaning.specs.Unions.{join, undefined_type, union_of, with_undefined, without_undefined}
use Rattle.dscript_types_meaning.specs.Fits.{all_fit, fields_fit, fits, member_fits}
use Rattle.dscript_types_meaning.specs.Operators.{boolean_type, number_type, operated, text_type}
use Rattle.dscript_types_meaning.specs.Bodies.{passes, else_passes, all_pass}
use Rattle.dscript_types_meaning.specs.Narrowing.{told}

abbrev maybe_number : TypeData
maybe_number = with_undefined number_type

abbrev with_a : Bool → TypeData → TypeData
with_a optional t = object_type (record { name = codes "a"; optional = optional; type_data = t } ∷ [])

-- ## Unions

in_any_order : join number_type undefined_type ≡ join undefined_type number_type
unfolding union_of member_cmp member_code type_code members_code fields_code
in_any_order = refl

once : join maybe_number number_type ≡ maybe_number
unfolding union_of member_cmp member_code type_code members_code fields_code
once = refl

without : without_undefined maybe_number ≡ number_type
unfolding union_of member_cmp member_code type_code members_code fields_code
without = refl

nodes : (type_nodes never ≡ 1) × (type_nodes number_type ≡ 1) × (type_nodes (list_type maybe_number) ≡ 4)
unfolding type_nodes member_nodes members_nodes fields_nodes union_of member_cmp member_code type_code members_code fields_code
nodes = (refl, refl, refl)

-- ## Fit

fields : (fits (with_a false number_type) (with_a true number_type) ≡ true)
    × (fits (with_a true number_type) (with_a false number_type) ≡ false)
    × (fits (with_a false undefined_type) (with_a true number_type) ≡ false)
unfolding fits all_fit member_fits fields_fit
fields = (refl, refl, refl)

lists : (fits (join (list_type number_type) (list_type text_type)) (list_type (join number_type text_type)) ≡ true)
    × (fits (list_type (join number_type text_type)) (join (list_type number_type) (list_type text_type)) ≡ false)
unfolding fits all_fit member_fits fields_fit union_of member_cmp member_code type_code members_code fields_code
lists = (refl, refl)

nothing : fits never (kind_type kinds.File) ≡ true
unfolding fits all_fit member_fits fields_fit
nothing = refl

-- ## Operators

sums : (operated binary.Add (join number_type text_type) number_type ≡ Some (join number_type text_type))
    × (operated binary.Add (join number_type boolean_type) number_type ≡ None)
    × (operated binary.Add never boolean_type ≡ Some never)
unfolding operated union_of member_cmp member_code type_code members_code fields_code
sums = (refl, refl, refl)

choices : operated binary.Or maybe_number text_type ≡ Some (join number_type text_type)
unfolding operated union_of member_cmp member_code type_code members_code fields_code type_nodes member_nodes members_nodes fields_nodes
choices = refl

-- ## Conditions and ends

abbrev local : ℕ → ExprData
local n = tree.Name (targets.Local n)

abbrev chain : ExprData → BinaryOp → ExprData → ExprData
chain a op b = tree.Chain a (to_operands (tree.Operand op b ∷ []))

conditions : (told (local 3) ≡ Some (3, true)) × (told (chain (local 3) binary.Equal tree.Undefined) ≡ Some (3, false))
    × (told (chain tree.Undefined binary.Equal (local 3)) ≡ None)
    × (told (chain (local 3) binary.And tree.True) ≡ None)
unfolding told
conditions = (refl, refl, refl, refl)

ends : (passes (tree.If (local 0) (tree.Return None) (tree.a_stmt (tree.Return None))) ≡ false)
    × (passes (tree.If (local 0) (tree.Return None) tree.no_stmt) ≡ true)
    × (passes (tree.For loops.Const 0 (local 0) (tree.Return None)) ≡ true)
unfolding passes else_passes all_pass
ends = (refl, refl, refl)
