use Rattle.std.proofs.Common.{◌≡◌, ◌∙◌, [], List, ap, refl, sym}
use Rattle.std.specs.Prelude.{is_some}
use Rattle.std.specs.BTreeMap.{is_at}
use Rattle.std.specs.List.{list_any}
use Rattle.std.specs.Map.{lookup}
use Rattle.bx_tree.specs.Paths.{Atoms, path_cmp}
use Rattle.bx_tree.specs.Trees.{Files}
use Rattle.bx_tree.specs.Below.{is_below}
use Rattle.bx_tree.proofs.Lists.{none_left}
use Rattle.tool_run_writes.proofs.DirectorySets.{file_above}
use Rattle.tool_run_writes.proofs.writes.Writes.has_file_above.Goals as goal

pub returns-then-is_empty : goal.returns-then-is_empty
returns-then-is_empty c =
    let none : c.self.inside.files.entries ≡ [] = none_left c.self.inside.files.entries (c.if-is_empty.ensures.0 refl) in
    sym (ap (λ (files : Files). list_any (λ f. is_below c.args.path.now f.0) files) (sym c.self.view_is ∙ none))

pub returns : goal.returns
returns c =
    c.is_any_file.ensures
    ∙ ap (λ (ds : List Atoms). list_any (λ d. is_some (lookup (is_at (path_cmp d)) c.self.inside.files.entries)) ds) c.as_slice.ensures.value
    ∙ file_above c.in_ok-above.above.items c.self.inside.files.entries c.args.path.now c.in_ok-above.ensures
    ∙ ap (λ (files : Files). list_any (λ f. is_below c.args.path.now f.0) files) c.self.view_is
