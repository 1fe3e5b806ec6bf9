use Rattle.std.proofs.Common.{Ok, ap, sym, ◌∙◌}
use Rattle.std.proofs.lemmas.Bool.{false≢true}
use Rattle.bx_path.specs.Joining.{is_atom}
use Rattle.bx_path.proofs.StepsOfTexts.{is_atom_false, is_atom_true}
use Rattle.dscript_sdk_pips.proofs.new_directories.read_name.Goals as goal

pub returns-then-not-is_atom : goal.returns-then-not-is_atom
returns-then-not-is_atom c =
    let other =
    ap is_atom (sym c.bytes-name.ensures)
    ∙ is_atom_false c.bytes-name.result.now (λ h. false≢true (sym c.if-not-is_atom.true ∙ c.is_atom.ensures.1 h)) in
    simp (c.in_ok-first_argument.ensures, c.in_ok-read_text.ensures, other)

pub returns : goal.returns
returns c =
    let atom = c.is_atom.ensures.0 c.if-not-is_atom.false in
    let there = ap is_atom (sym c.bytes-name.ensures) ∙ is_atom_true c.bytes-name.result.now atom in
    (atom, simp (c.in_ok-first_argument.ensures, c.in_ok-read_text.ensures, there) (ap Ok (sym c.bytes-name.ensures)))
