use Rattle.std.proofs.Common.{◌≡◌, ◌≢◌, [], codes, ap, sym, ◌∙◌}
use Rattle.std.proofs.lemmas.Bool.{false≢true}
use Rattle.std.proofs.lemmas.Slice.Eq.{bytes_eq-Decides}
use Rattle.bx_tree.specs.Paths.{path_text}
use Rattle.bx_path.specs.Joining.{parent}
use Rattle.bx_tree.proofs.PathTexts.{root_from_text}
use Rattle.bx_path.proofs.Ancestors.{join_up}
use Rattle.dscript_sdk_members.proofs.JoinedPaths.{parent_there}
use Rattle.dscript_sdk_members.proofs.path_members.parent_of.Goals as goal

pub returns-then-eq : goal.returns-then-eq
returns-then-eq c =
    let text : path_text c.args.path.now ≡ codes "." =
    sym c.text.ensures.text ∙ (bytes_eq-Decides c.text.result.now (codes ".")).0 (sym c.eq.ensures ∙ c.if-eq.true) in
    ap parent (root_from_text c.args.path.now c.text.ensures.is_path text)

pub returns-in-Err : goal.returns-in-Err
returns-in-Err c e =
    let some : c.args.path.now ≢ [] =
    λ root. false≢true (sym c.if-eq.false ∙ c.eq.ensures ∙ (bytes_eq-Decides c.text.result.now (codes ".")).1 (c.text.ensures.text ∙ ap path_text root)) in
    parent_there c.args.path.now some (sym (join_up c.args.path.now c.text.ensures.is_path) ∙ c.in-Err.ensures e)
