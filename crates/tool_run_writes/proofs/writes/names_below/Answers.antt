use Rattle.std.proofs.Common.{◌≡◌, ◌∙◌, ℕ, List, [], ◌∷◌, refl, ap, sym, map}
use Rattle.std.specs.Borrow.{Bor}
use Rattle.std.specs.List.{filter_map}
use Rattle.std.specs.Map.Iter.{deref_pair}
use Rattle.std.specs.Option.{option_copied}
use Rattle.std.specs.BTreeMap.Range.{range_contains}
use Rattle.std.proofs.lemmas.Iterator.Consumers.{YieldsList-from_rest, YieldsList-end}
use Rattle.bx_tree.specs.Paths.{Atoms, path_cmp}
use Rattle.bx_tree.specs.Below.{next_atom}
use Rattle.tool_run_writes.proofs.Bounds.{names_within}
use Rattle.tool_run_writes.proofs.NextAtoms.{name_added, name_skipped, path_seen}
use Rattle.tool_run_writes.proofs.writes.names_below.Goals as goal
use Rattle.bx_tree.specs.Lent.{texts_now}

paths_of_pairs : (files : List (Bor Atoms × Bor (List ℕ))) → map path_seen files ≡ map (λ (f : Atoms × List ℕ). f.0) (map deref_pair files)
paths_of_pairs [] = refl
paths_of_pairs (f ∷ fs) = ap (λ (ps : List Atoms). f.0.now ∷ ps) (paths_of_pairs fs)

pub files-preserved-in_ok-push : goal.files-preserved-in_ok-push
files-preserved-in_ok-push c =
    ap texts_now c.in_ok-push.ensures.items
    ∙ name_added path_seen c.args.dir.now c.files.names.items c.files.yielded c.in-Some-next_atom.name _
    (sym (ap option_copied (sym c.in-Some-next_atom.is) ∙ c.next_atom.ensures)) c.files.invariant

pub files-preserved : goal.files-preserved
files-preserved c =
    name_skipped path_seen c.args.dir.now c.files.names.items c.files.yielded _
    (sym (ap option_copied (sym c.in_default.is) ∙ c.next_atom.ensures)) c.files.invariant

pub returns : goal.returns
returns c =
    let dir = c.args.dir.now in
    let bounds = c.in_ok-bounds_below.field-0 in
    let all = YieldsList-end (YieldsList-from_rest _ (c.into_iter-file-iterator.ensures.into_iter_gives ∙ c.range-file-items.ensures.between tt))
    c.files.yielded _ c.files.yielded_by _ _ c.in-None.is c.next.ensures.steps in
    c.files.invariant
    ∙ ap (filter_map (next_atom dir)) (paths_of_pairs c.files.yielded ∙ ap (map (λ (f : Atoms × List ℕ). f.0)) all.0)
    ∙ names_within dir (range_contains path_cmp bounds.0 bounds.1) c.args.files.now.entries c.in_ok-bounds_below.ensures.within
