use Rattle.std.proofs.Common.{◌≡◌, ◌++◌, ◌∷◌, List, ℕ, OnOk, ap, subst, ◌∙◌}
use Rattle.std.specs.Option.{unwrap_or}
use Rattle.bx_tree.specs.Lent.{texts_now}
use Rattle.pip_view.specs.Taken.{executable}
use Rattle.pip_view.proofs.NearFiles.{names_searched}
use Rattle.pip_view.proofs.taken.add_taken.Goals as goal

pub returns : goal.returns
returns c =
    let process = c.args.process.now in
    subst (λ (ns : List (List ℕ)). OnOk c.add_among.result (texts_now c.add_among.new.names.items ≡ texts_now c.args.names.now.items ++ ns))
    (names_searched c.args.plan.now.pips c.pips.result.now c.args.dir.now (executable process ∷ process.files) process.dirs
    c.searched-dirs.result.now c.in_ok-near.near
    (c.pips.ensures.pips, c.searched-dirs.ensures ∙ ap (unwrap_or c.in_ok-near.near) c.dirs.ensures.dirs, c.dirs.ensures.rising, c.in_ok-near.ensures))
    c.add_among.ensures
