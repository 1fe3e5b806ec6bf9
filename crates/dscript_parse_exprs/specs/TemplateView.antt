-- What contracts see of a template.
use Rattle.std.specs.Prelude.{map}
use Rattle.dscript_ast.specs.Views.{hole_tree}
use Rattle.dscript_grammar.specs.ExprReading.{Pieces}
use Rattle.dscript_parse_exprs.specs.declared.exprs.TemplateParts.{TemplateParts}

abbrev pub template_view : TemplateParts → Pieces
template_view t = record { text = t.text; holes = map hole_tree t.holes.items }
