use Rattle.std.proofs.Common.{◌≡◌, cond, Ok, Err, ap, sym, ◌∙◌, subst}
use Rattle.std.proofs.lemmas.Bool.{false≢true}
use Rattle.bx_tree.specs.Paths.{IsAtom}
use Rattle.bx_path.proofs.StepsOfTexts.{is_atom_true, is_atom_false}
use Rattle.dscript_value.specs.Plain as plain
use Rattle.dscript_sdk_values.specs.declared.fault.SdkFault.TheVariants.{BadPath}
use Rattle.dscript_eval_operators.specs.RelativeLiterals.{atom_literal}
use Rattle.dscript_eval_operators.proofs.relative_literals.atom_literal.Goals as goal

pub returns-then-not-is_atom : goal.returns-then-not-is_atom
unfolding atom_literal
returns-then-not-is_atom c _ =
    let none : IsAtom c.args.text.items → ⊥ =
    λ h. false≢true (sym c.if-not-is_atom.true ∙ c.is_atom.ensures.1 (subst IsAtom (sym c.as_slice.ensures.value) h)) in
    ap (λ b. cond b (Ok (plain.Atom c.args.text.items)) (Err BadPath)) (is_atom_false c.args.text.items none)

pub returns : goal.returns
unfolding atom_literal
returns c =
    let atom : IsAtom c.args.text.items =
    subst IsAtom c.as_slice.ensures.value (c.is_atom.ensures.0 c.if-not-is_atom.false) in
    ap (λ b. cond b (Ok (plain.Atom c.args.text.items)) (Err BadPath)) (is_atom_true c.args.text.items atom)
    ∙ ap Ok (sym c.in_ok-atom_value.ensures)
