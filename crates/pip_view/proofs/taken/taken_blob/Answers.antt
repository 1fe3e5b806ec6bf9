use Rattle.std.proofs.Common.{◌≡◌, ◌++◌, ℕ, List, Option, IfOk, ap, refl, subst, sym, ◌∙◌}
use Rattle.std.specs.Option.{unwrap_or}
use Rattle.pip_view.specs.Taken.{dirs_files, first_at}
use Rattle.pip_view.proofs.NearFiles.{first_searched}
use Rattle.pip_view.proofs.TakenFiles.{executable_found, executable_passed, found_taken}
use Rattle.pip_view.proofs.taken.taken_blob.Goals as goal

pub returns-then-eq : goal.returns-then-eq
returns-then-eq c =
    let process = c.args.process.now in
    executable_found c.args.sources.now c.args.inputs.now process c.args.path.now
    (process.files ++ dirs_files c.args.plan.now.pips process.dirs) c.in_ok-blob.blob (sym c.eq.ensures ∙ c.if-eq.true) c.in_ok-blob.ensures

pub returns : goal.returns
returns c =
    let process = c.args.process.now in
    let pips = c.args.plan.now.pips in
    let path = c.args.path.now in
    let tree = c.args.sources.now in
    let made = c.args.inputs.now in
    let found = process.files ++ dirs_files c.pips.result.now c.searched-dirs.result.now in
    let all = process.files ++ dirs_files pips process.dirs in
    subst (λ (o : Option (List ℕ)). IfOk c.declared_blob.result (λ found. found ≡ o))
    (sym (found_taken tree made path found)
    ∙ executable_passed tree made process path all (first_at path found) (sym c.eq.ensures ∙ c.if-eq.false)
    (first_searched pips c.pips.result.now path process.files process.dirs c.searched-dirs.result.now c.in_ok-near.near
    (c.pips.ensures.pips, c.searched-dirs.ensures ∙ ap (unwrap_or c.in_ok-near.near) c.dirs.ensures.dirs, c.dirs.ensures.rising, c.in_ok-near.ensures)))
    c.declared_blob.ensures
