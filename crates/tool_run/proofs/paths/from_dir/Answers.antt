use Rattle.std.proofs.Common.{◌≡◌, Option, IfOk, codes, subst, sym, ◌∙◌}
use Rattle.std.proofs.lemmas.Slice.Eq.{bytes_eq-Decides}
use Rattle.bx_tree.specs.Paths.{Atoms, path_text}
use Rattle.bx_path.specs.Joining.{join_of}
use Rattle.bx_tree.proofs.PathTexts.{root_from_text}
use Rattle.tool_run.proofs.paths.from_dir.Goals as goal

pub returns-then-eq : goal.returns-then-eq
returns-then-eq c =
    let dot : path_text c.args.dir.now ≡ codes "." =
    sym c.text-name.ensures.text ∙ (bytes_eq-Decides c.text-name.result.now (codes ".")).0 (sym c.eq.ensures ∙ c.if-eq.true) in
    subst (λ (d : Atoms). IfOk c.from_root.result (λ (path : Option Atoms). path ≡ join_of d c.args.text.now))
    (sym (root_from_text c.args.dir.now c.text-name.ensures.is_path dot)) c.from_root.ensures
