-- How many steps literals, lists and objects take.
use Rattle.std.proofs.Common.{[], ◌∷◌, codes, false, true, refl}
use Rattle.dscript_ast.specs.declared.expr.PathKind.TheVariants as letters
use Rattle.dscript_program.specs.BoundTree as tree
use Rattle.dscript_program.specs.BoundTree.{to_elements, to_holes, to_props}
use Rattle.dscript_program.specs.declared.target.Target.TheVariants as targets
use Rattle.dscript_eval_operators.specs.PathLiterals.{first_hole, path_literal}
use Rattle.dscript_eval_operators.specs.RelativeLiterals.{atom_literal, relative_literal}
use Rattle.dscript_eval_operators.specs.Spreads.{spread_fields, with_items_of}
use Rattle.dscript_eval_operators.specs.Texts.{literal_hole, template_hole}
use Rattle.dscript_eval_meaning.specs.Constants.{constant as a_constant}
use Rattle.dscript_eval_meaning.specs.Expressions.{named, value}
use Rattle.dscript_eval_meaning.specs.Meaning.{acts, evaluated, meaning}
use Rattle.dscript_eval_meaning.proofs.Samples.{Takes, constant, list, literal, number, only, program, text}

-- `1`
one_number : Takes (only (number 1)) 1
unfolding meaning evaluated acts a_constant value
one_number = (refl, refl)

-- a template without holes
whole_template : Takes (only (tree.Template (codes "a") (to_holes []))) 1
unfolding meaning evaluated acts a_constant value
whole_template = (refl, refl)

-- `${"a"}b${"c"}` in a template
two_holes
    : Takes
    (only (tree.Template []
    (to_holes (tree.Hole (text (codes "a")) (codes "b") ∷ tree.Hole (text (codes "c")) [] ∷ []))))
    3
unfolding meaning evaluated acts a_constant value template_hole literal_hole
two_holes = (refl, refl)

-- p`a`
path : Takes (only (literal letters.Path (codes "a"))) 1
unfolding meaning evaluated acts a_constant value path_literal
path = (refl, refl)

-- p`${d`a`}/b`
path_from_base
    : Takes
    (only (tree.Path letters.Path []
    (to_holes (tree.Hole (literal letters.Directory (codes "a")) (codes "/b") ∷ []))))
    2
unfolding meaning evaluated acts a_constant value path_literal first_hole
path_from_base = (refl, refl)

-- r`a/./b`
relative : Takes (only (literal letters.Relative (codes "a/./b"))) 1
unfolding meaning evaluated acts a_constant value relative_literal
relative = (refl, refl)

-- a`b`
atom : Takes (only (literal letters.Atom (codes "b"))) 1
unfolding meaning evaluated acts a_constant value atom_literal
atom = (refl, refl)

-- `[1, 2, 3]`
three_items : Takes (only (list (number 1 ∷ number 2 ∷ number 3 ∷ []))) 4
unfolding meaning evaluated acts a_constant value
three_items = (refl, refl)

-- `[1, ...[2, 3]]`
spread_list
    : Takes
    (only (tree.Elements (to_elements
    (tree.Element false (number 1) ∷ tree.Element true (list (number 2 ∷ number 3 ∷ [])) ∷ []))))
    5
unfolding meaning evaluated acts a_constant value with_items_of
spread_list = (refl, refl)

-- `{a: 1, "b": 2}`
two_fields
    : Takes
    (only (tree.Object (to_props (tree.Named (codes "a") (number 1)
    ∷ tree.Quoted (codes "b") (number 2) ∷ [])))) 3
unfolding meaning evaluated acts a_constant value
two_fields = (refl, refl)

-- `const y = 1; const x = {y};`
short_field
    : Takes
    (program
    (constant (number 1)
    ∷ constant (tree.Object (to_props (tree.Short (codes "y") (targets.Declared 0 0) ∷ []))) ∷ [])
    [])
    3
unfolding meaning evaluated acts a_constant value named
short_field = (refl, refl)

-- `{...{a: 1}, ...undefined}`
spread_objects
    : Takes
    (only (tree.Object (to_props
    (tree.Spread (tree.Object (to_props (tree.Named (codes "a") (number 1) ∷ [])))
    ∷ tree.Spread tree.Undefined ∷ []))))
    4
unfolding meaning evaluated acts a_constant value spread_fields
spread_objects = (refl, refl)
