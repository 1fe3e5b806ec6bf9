use Rattle.std.proofs.Common.{rules, ◌≡◌, ◌≢◌, ℕ, ◌+◌, List, [], ◌∷◌, ◌++◌, true, false, drop, get_or, Err, codes, ap, sym, ◌∙◌}
use Rattle.std.specs.Borrow.{Bor}
use Rattle.std.specs.Str.{bytes_eq}
use Rattle.std.proofs.lemmas.Bool.{false≢true}
use Rattle.dscript_sdk_values.specs.declared.fault.SdkFault.TheVariants.{BadPath}
use Rattle.dscript_eval_operators.specs.RelativeLiterals.{atoms_of}
use Rattle.dscript_eval_operators.proofs.AtomSteps.{before, atom_goes_down, next_part, other_is_bad}
use Rattle.dscript_eval_operators.proofs.relative_literals.atoms_of.Goals as goal
use Rattle.bx_tree.specs.Lent.{texts_now}

pub returns-then-not-is_atom : goal.returns-then-not-is_atom
returns-then-not-is_atom c _ =
    let none : Bor (List ℕ) = record { ref_ptr = (0, 0); now = [] } in
    let part = (get_or c.args.parts.now c.parts.part-index none).now in
    let dot : bytes_eq part (codes ".") ≡ false =
    ap (bytes_eq part) (sym c.as_slice.ensures) ∙ sym c.if-eq.ensures in
    sym c.parts.invariant
    ∙ ap (λ ps. before c.parts.atoms.items (atoms_of ps)) (next_part c.args.parts.now c.parts.part-index none c.parts-test.true)
    ∙ other_is_bad c.parts.atoms.items part (texts_now (drop (c.parts.part-index + 1) c.args.parts.now)) dot
    (λ h. false≢true (sym c.if-not-is_atom.true ∙ c.is_atom.ensures.1 h))

pub parts-preserved : goal.parts-preserved
parts-preserved c =
    let none : Bor (List ℕ) = record { ref_ptr = (0, 0); now = [] } in
    let part = (get_or c.args.parts.now c.parts.part-index none).now in
    let rest = texts_now (drop (c.parts.part-index + 1) c.args.parts.now) in
    let dot : bytes_eq part (codes ".") ≡ false =
    ap (bytes_eq part) (sym c.as_slice.ensures) ∙ sym c.if-eq.ensures in
    ap (λ atoms. before atoms (atoms_of rest)) (c.in_ok-push.ensures.items ∙ ap (λ atom. c.parts.atoms.items ++ atom ∷ []) (c.in_ok-new.ensures ∙ c.in_ok-to_vec.ensures.items_if_clones_equal (search rules)))
    ∙ sym (atom_goes_down c.parts.atoms.items part rest dot (c.is_atom.ensures.0 c.if-not-is_atom.false))
    ∙ ap (λ ps. before c.parts.atoms.items (atoms_of ps)) (sym (next_part c.args.parts.now c.parts.part-index none c.parts-test.true))
    ∙ c.parts.invariant
