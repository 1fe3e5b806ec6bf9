use Rattle.std.proofs.Common.{◌≡◌, ◌≢◌, None, codes, ap, sym, ◌∙◌}
use Rattle.std.specs.List.{last_or, slice_split}
use Rattle.std.proofs.lemmas.Bool.{false≢true}
use Rattle.std.proofs.lemmas.Slice.Eq.{bytes_eq-Decides}
use Rattle.bx_tree.specs.Paths.{path_text}
use Rattle.bx_tree.proofs.PathTexts.{root_from_text, atoms_from_text, is_slash}
use Rattle.dscript_sdk_members.proofs.path_members.last_atom.Goals as goal

pub returns-then-eq : goal.returns-then-eq
returns-then-eq c =
    let same : c.as_bytes-text.result.now ≡ c.as_slice.result.now = (bytes_eq-Decides c.as_bytes-text.result.now c.as_slice.result.now).0 (sym c.eq.ensures ∙ c.if-eq.true) in
    let text : path_text c.args.path.now ≡ codes "." = sym (c.as_bytes-text.ensures.value ∙ c.text.ensures.text) ∙ same ∙ c.as_slice.ensures in
    ap (last_or None) (root_from_text c.args.path.now c.text.ensures.is_path text)

pub returns : goal.returns
returns c =
    let text = c.as_bytes-text.ensures.value ∙ c.text.ensures.text in
    let other : path_text c.args.path.now ≢ codes "." =
    λ e. false≢true (sym c.if-eq.false ∙ c.eq.ensures ∙ (bytes_eq-Decides c.as_bytes-text.result.now c.as_slice.result.now).1 (text ∙ e ∙ sym c.as_slice.ensures)) in
    ap (last_or None) (sym (atoms_from_text c.args.path.now c.text.ensures.is_path other))
    ∙ ap (λ t. last_or None (slice_split is_slash t)) (sym text) ∙ c.last_part.ensures
