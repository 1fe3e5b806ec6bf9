-- The holes of templates and literals.
use Rattle.std.specs.Prelude.{Bool, false, true}
use Rattle.dscript_types_meaning.specs.Operators.{leading_hole, literal_hole, template_hole}
use Rattle.dscript_types_meaning.specs.Types.{TypeData}
use Rattle.dscript_types_scenes.specs.declared.found.Subject.{Subject}
use Rattle.dscript_types_scenes.specs.declared.found.Subject.TheVariants as subjects
use Rattle.dscript_types_scenes.specs.declared.found.Typing.{Typing}
use Rattle.dscript_types_scenes.specs.declared.found.Typing.TheVariants as typings
use Rattle.dscript_types_scenes.specs.declared.holes.Allowed.{Allowed}
use Rattle.dscript_types_scenes.specs.declared.holes.Allowed.TheVariants as holes

-- the type of what a hole may hold
abbrev pub hole_type : Allowed → TypeData
hole_type holes.InTemplate = template_hole
hole_type holes.InLiteral = literal_hole
hole_type holes.LeadingLiteral = leading_hole

-- what the first hole may hold, where nothing is before it, and where something is
abbrev pub leading_if : Bool → Allowed
leading_if true = holes.LeadingLiteral
leading_if false = holes.InLiteral

-- a value of a type, after what has none
abbrev pub after_typing : Typing (Unit {0}) → TypeData → Typing Subject
after_typing (typings.Found u seen) t = typings.Found (subjects.Whole t) seen
after_typing typings.Nothing t = typings.Nothing
after_typing (typings.Open pending) t = (typings.Open pending)
