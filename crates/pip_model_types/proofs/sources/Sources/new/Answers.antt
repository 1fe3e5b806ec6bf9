use Rattle.std.proofs.Common.{ap, arith, ◌∙◌}
use Rattle.bx_tree.specs.Views.{files_of}
use Rattle.bx_tree.proofs.Lists.{none_left}
use Rattle.pip_model_types.proofs.FilesAt.{divides_all, divides_more, source_paths}
use Rattle.pip_model_types.proofs.sources.Sources.new.Goals as goal

pub files-preserved : goal.files-preserved
files-preserved c =
    divides_more _ _ _ _ _ _ _ c.in-Some.file.path c.in-Some.file.bytes.items c.in_ok-add.ensures.path c.in_ok-add.ensures.blob
    (ap files_of c.in-Some.ensures.steps.0) c.files.invariant

pub sorted-requires : goal.sorted-requires
sorted-requires c =
    let left = c.files.file-iterator.rest.items in
    let none = none_left left (omega (arith, c.in-None.ensures.steps.0, c.files.file-iterator.rest.ok.0)) in
    let given = ap files_of c.into_iter-file-iterator.ensures.into_iter_gives.0 ∙ c.into_files-file-items.ensures in
    let whole = divides_all _ (files_of left) c.files.paths.items c.files.blobs.items (ap files_of none) c.files.invariant ∙ given in
    source_paths c.files.paths.items c.files.blobs.items c.args.tree c.files.invariant.size whole c.files-2.ensures.tree
