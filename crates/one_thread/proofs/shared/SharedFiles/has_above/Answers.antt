use Rattle.std.proofs.Common.{List, ap, ◌∙◌}
use Rattle.std.specs.BTreeSet.{contains}
use Rattle.std.specs.List.{list_any}
use Rattle.bx_tree.specs.Paths.{Atoms, path_cmp}
use Rattle.one_thread.proofs.SharedSets.{above_is}
use Rattle.one_thread.proofs.shared.SharedFiles.has_above.Goals as goal

pub returns : goal.returns
returns c = λ paths h.
    c.has_any.ensures
    ∙ ap (λ (ds : List Atoms). list_any (λ d. contains path_cmp c.args.self.now.files d) ds) c.as_slice.ensures.value
    ∙ above_is c.args.self.now.files c.args.self.now.dirs paths c.in_ok-above.above.items c.args.path.now h c.in_ok-above.ensures
