use Rattle.std.proofs.Common.{◌≡◌, List, Some, ap, arith, length, rules, slice_get, subst, sym, vec_len, ◌∙◌}
use Rattle.std.specs.List.Sorted.{IsStrictlySortedBy}
use Rattle.std.proofs.lemmas.Option.{slice_get-get_or}
use Rattle.bx_tree.specs.Paths.{Atoms, path_cmp}
use Rattle.bx_tree_paths.proofs.Rising.{paths_rise}
use Rattle.pip_model_types.proofs.FilesAt.{found_beside, not_beside, paths_beside}
use Rattle.pip_model_types.proofs.sources.Sources.find_near.Goals as goal

pub place_near-requires : goal.place_near-requires
place_near-requires c = paths_rise c.paths.result.now (subst (IsStrictlySortedBy path_cmp) (sym c.paths.ensures.paths) c.paths.ensures.tree.rising)

pub index-requires : goal.index-requires
index-requires c =
    let is = paths_beside c.self.inside.paths c.self.inside.blobs.items c.args.self.now c.paths.result.now c.self.invariant.size c.self.view_is c.paths.ensures.paths in
    let long : vec_len c.self.inside.blobs ≡ length c.self.inside.blobs.items = search rules in
    omega (arith, c.in-Some.ensures.0, ap length is, c.self.invariant.size, long)

pub returns-in-Some-clause-value : goal.returns-in-Some-clause-value
returns-in-Some-clause-value c =
    let found = found_beside c.self.inside.paths c.self.inside.blobs.items c.args.self.now c.paths.result.now c.args.path.now c.in-Some.place c.index.result.now
    c.self.invariant.size c.self.view_is c.paths.ensures.paths c.paths.ensures.tree.rising c.in-Some.ensures.0 c.in-Some.ensures.1 in
    cc (found, c.index.ensures)

pub returns-in-Some-clause-place : goal.returns-in-Some-clause-place
returns-in-Some-clause-place c =
    let path = c.args.path.now in
    let place = c.in-Some.place in
    ap (λ (ps : List Atoms). slice_get ps place) (sym c.paths.ensures.paths)
    ∙ slice_get-get_or c.paths.result.now place path c.in-Some.ensures.0 ∙ ap Some (c.in-Some.ensures.1 path)

pub returns-in-None-clause-value : goal.returns-in-None-clause-value
returns-in-None-clause-value c = sym (not_beside c.args.self.now c.paths.result.now c.args.path.now c.paths.ensures.paths c.in-None.ensures)
