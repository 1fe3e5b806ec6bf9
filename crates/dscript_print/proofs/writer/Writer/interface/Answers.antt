use Rattle.std.proofs.Common.{◌∷◌, refl, map}
use Rattle.dscript_lex.specs.declared.token.TokenKind.TheVariants as kinds
use Rattle.dscript_ast.specs.Views.{type_tree, member_tree}
use Rattle.dscript_print.specs.FileKinds.{type_params_kinds, extends_kinds, body_kinds}
use Rattle.dscript_print.specs.Runs.{keyword}
use Rattle.dscript_print.proofs.Arms.{three_steps}
use Rattle.dscript_print.proofs.Steps.{if_ok}
use Rattle.dscript_print.proofs.writer.Writer.interface.Goals as goal

pub returns : goal.returns
returns c =
    if_ok c.lined_body.result (λ x e. three_steps _ _ _ _
    (keyword "interface" ∷ kinds.Word c.args.name.now ∷ type_params_kinds c.args.type_params.now) (extends_kinds (map type_tree c.args.extended.now)) (body_kinds (map member_tree c.args.members.now)) _
    refl c.in_ok-declared.ensures c.in_ok-extends.ensures e) c.lined_body.ensures
