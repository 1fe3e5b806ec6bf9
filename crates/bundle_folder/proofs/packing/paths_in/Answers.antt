use Rattle.std.proofs.Common.{◌≡◌, ◌+◌, ◌++◌, ◌∷◌, List, [], ap, subst, sym, take, ◌∙◌}
use Rattle.std.proofs.lemmas.List.{take_all, take_more}
use Rattle.std.proofs.lemmas.Result.{err_from_is_err_and}
use Rattle.bx_tree.specs.Paths.{Atoms}
use Rattle.bundle_folder.specs.Steps.{AreEntryPaths}
use Rattle.bundle_folder.specs.declared.folder.Entry.{Entry}
use Rattle.bundle_folder.proofs.Held.{no_paths, paths_more}
use Rattle.bundle_folder.proofs.packing.paths_in.Goals as goal

pub entries-init : goal.entries-init
entries-init c = subst (λ (ps : List Atoms). AreEntryPaths [] ps) (sym c.new-paths.ensures.items) no_paths

pub entries-preserved : goal.entries-preserved
entries-preserved c =
    let i = c.entries.entry-index in
    let entries = c.args.entries.now in
    let entry = c.entry-item.result in
    let more : take (i + 1) entries ≡ take i entries ++ entry ∷ [] =
    take_more entries i entry c.entries-test.true ∙ ap (λ (e : Entry). take i entries ++ e ∷ []) (sym c.entry-item.is) in
    subst (λ (ps : List Atoms). AreEntryPaths (take (i + 1) entries) ps) (sym c.in_ok-push.ensures.items)
    (subst (λ (es : List Entry). AreEntryPaths es (c.entries.paths.items ++ c.in_ok-path_of.field-0 ∷ [])) (sym more)
    (paths_more (take i entries) c.entries.paths.items entry c.in_ok-path_of.field-0 c.entries.invariant c.in_ok-path_of.ensures))

pub returns-in_err-path_of : goal.returns-in_err-path_of
returns-in_err-path_of c =
    let p = err_from_is_err_and c.from_residual.result c.from_residual.ensures.1 in
    rw (p.1, p.2) (c.entry-item.result, (c.entries.entry-index, c.entries-test.true, sym c.entry-item.is), c.in_err-path_of.ensures)

pub returns-in_err-push : goal.returns-in_err-push
returns-in_err-push c =
    let p = err_from_is_err_and c.from_residual-in_err-push.result c.from_residual-in_err-push.ensures.1 in
    rw (p.1, p.2) (c.entry-item.result, (c.entries.entry-index, c.entries-test.true, sym c.entry-item.is), tt)

pub returns : goal.returns
returns c =
    subst (λ (es : List Entry). AreEntryPaths es c.entries.paths.items)
    (take_all c.entries.entry-index c.args.entries.now c.entries-test.false) c.entries.invariant
