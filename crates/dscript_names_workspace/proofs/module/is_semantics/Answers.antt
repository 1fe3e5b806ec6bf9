use Rattle.std.proofs.Common.{codes, map, ap, sym, ◌∙◌}
use Rattle.dscript_ast.specs.Views.{expr_tree, part_tree}
use Rattle.dscript_names_workspace.specs.Modules.{is_text}
use Rattle.dscript_names_workspace.proofs.Members.{member_is, semantics_by_member}
use Rattle.dscript_names_workspace.proofs.module.is_semantics.Goals as goal
use Rattle.dscript_ast.specs.Literals.{name_of}

pub returns-then-is_name : goal.returns-then-is_name
returns-then-is_name c =
    let callee = c.in-Postfix.callee in
    let parts = c.in-Postfix.parts in
    c.is_member.ensures ∙ ap (λ ps. member_is (map part_tree ps)) c.as_slice.ensures.value
    ∙ sym (semantics_by_member c.args.value.now callee parts c.in-Postfix.is
    (ap (λ x. is_text (codes "NameResolutionSemantics") (name_of (expr_tree x))) (sym c.deref.ensures)
    ∙ sym c.is_name.ensures ∙ c.if-is_name.true))
