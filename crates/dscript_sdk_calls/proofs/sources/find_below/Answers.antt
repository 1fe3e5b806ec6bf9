use Rattle.std.proofs.Common.{◌≡◌, ◌-◌, IfOk, true, false, length, drop, ap, sym, ◌∙◌, subst, arith}
use Rattle.std.proofs.lemmas.List.{length-drop, take_all}
use Rattle.std.specs.List.Sorted.{IsPartitionPoint}
use Rattle.bx_tree.specs.Trees.{IsTree}
use Rattle.bx_tree.specs.Trees.{paths_of}
use Rattle.bx_tree.specs.Views.{files_of}
use Rattle.dscript_sdk_calls.specs.Sources.{files_below}
use Rattle.dscript_sdk_calls.proofs.Together.{all_below}
use Rattle.dscript_sdk_calls.proofs.sources.find_below.Goals as goal
use Rattle.bx_tree.specs.Ranges.{comes_before, first_below}

pub returns : goal.returns
returns c =
    let files = c.files-files.result.now in
    let start = c.count_before-start.result in
    let prefix = c.as_slice.ensures.value ∙ c.in_ok-prefix.ensures.prefix in
    let point = subst (λ p. IsPartitionPoint (λ f. comes_before p f.path ≡ true) (λ f. comes_before p f.path ≡ false) files start)
    prefix c.count_before-start.ensures.before in
    let tree = subst IsTree (sym c.files-files.ensures.files) c.files-files.ensures.tree in
    let rest = take_all (length files - start) (drop start files) (omega (arith, length-drop start files)) in
    subst (λ l. IfOk c.share_first_below.result (λ paths. paths.items ≡ l))
    (ap (λ fs. first_below c.args.dir.now (paths_of (files_of fs))) rest
    ∙ all_below c.args.dir.now files start c.in_ok-prefix.ensures.is_path tree point
    ∙ ap (λ fs. files_below fs c.args.dir.now) c.files-files.ensures.files)
    c.share_first_below.ensures
