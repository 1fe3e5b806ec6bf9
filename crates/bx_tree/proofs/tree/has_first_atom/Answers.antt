use Rattle.bx_tree.proofs.PathTexts.{first_atom, first_text}
use Rattle.bx_tree.proofs.tree.has_first_atom.Goals as goal

pub returns : goal.returns
returns c =
    let known = rw (c.as_bytes.ensures.value, c.text.ensures.text) at c.is_first_atom.ensures in (
      λ t. first_atom c.args.path.now c.args.atom.now c.text.ensures.is_path c.requires (known.0 t),
      λ h. known.1 (first_text c.args.path.now c.args.atom.now h.0 h.1),
    )
