use Rattle.std.proofs.Common.{◌≡◌, ◌≢◌, codes, ap, sym, ◌∙◌, subst, eqb}
use Rattle.std.specs.List.{AllByRecursion, slice_split}
use Rattle.std.proofs.lemmas.Bool.{false≢true}
use Rattle.std.proofs.lemmas.Result.{IfOk-weaker}
use Rattle.std.proofs.lemmas.Slice.Eq.{bytes_eq-Decides}
use Rattle.bx_tree.specs.Paths.{IsAtom, path_text}
use Rattle.bx_tree.proofs.PathTexts.{root_from_text, atoms_from_text}
use Rattle.bx_path.proofs.joining.atoms_of.Goals as goal
use Rattle.bx_tree.specs.Lent.{texts_now}

pub returns-then-eq-clause-atoms : goal.returns-then-eq-clause-atoms
returns-then-eq-clause-atoms c =
    let same : c.as_bytes-text.result.now ≡ c.as_slice.result.now = (bytes_eq-Decides c.as_bytes-text.result.now c.as_slice.result.now).0 (sym c.if-eq.ensures) in
    let text : path_text c.args.path.now ≡ codes "." = sym (c.as_bytes-text.ensures.value ∙ c.text.ensures.text) ∙ same ∙ c.as_slice.ensures in
    ap texts_now c.new.ensures.items ∙ sym (root_from_text c.args.path.now c.text.ensures.is_path text)

pub returns-clause-atoms : goal.returns-clause-atoms
returns-clause-atoms c =
    let text = c.as_bytes-text.ensures.value ∙ c.text.ensures.text in
    let other : path_text c.args.path.now ≢ codes "." =
    λ e. false≢true (c.if-eq.ensures ∙ (bytes_eq-Decides c.as_bytes-text.result.now c.as_slice.result.now).1 (text ∙ e ∙ sym c.as_slice.ensures)) in
    IfOk-weaker c.parts_of.result _ _ (λ parts h. h ∙ ap (slice_split (λ b. eqb b 47)) text ∙ atoms_from_text c.args.path.now c.text.ensures.is_path other) c.parts_of.ensures

pub returns-clause-valid : goal.returns-clause-valid
returns-clause-valid c =
    let text = c.as_bytes-text.ensures.value ∙ c.text.ensures.text in
    let other : path_text c.args.path.now ≢ codes "." =
    λ e. false≢true (c.if-eq.ensures ∙ (bytes_eq-Decides c.as_bytes-text.result.now c.as_slice.result.now).1 (text ∙ e ∙ sym c.as_slice.ensures)) in
    IfOk-weaker c.parts_of.result _ _
    (λ parts h. subst (AllByRecursion IsAtom) (sym (h ∙ ap (slice_split (λ b. eqb b 47)) text ∙ atoms_from_text c.args.path.now c.text.ensures.is_path other)) c.text.ensures.is_path.atoms)
    c.parts_of.ensures
