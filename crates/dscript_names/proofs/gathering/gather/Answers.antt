use Rattle.std.proofs.Common.{◌≡◌, ◌∙◌, ap, map, take}
use Rattle.std.proofs.lemmas.List.{take_all}
use Rattle.dscript_program.specs.Workspaces.{modules_of}
use Rattle.dscript_names_scopes.specs.Declarations.{names_of}
use Rattle.dscript_names.specs.Views.{parsed_data}
use Rattle.dscript_names.proofs.Duplicated.{duplicate_first, files_more, first_here, first_later, first_none}
use Rattle.dscript_names.proofs.Owning.{owned}
use Rattle.dscript_names.proofs.gathering.gather.Goals as goal

pub files-preserved : goal.files-preserved
files-preserved c =
    let modules = modules_of c.args.work.now in
    let xs = c.args.parsed.now in
    let owner = owned _ _ c.in_ok-owners.owners c.file-item.result.path _ c.number-owner.ensures c.in_ok-owners.ensures c.as_slice.ensures.value in
    let added = c.in_ok-duplicate.ensures in (
      files_more modules xs c.files.file-index c.file-item.result _ _ _ _ _ c.files-test.true c.file-item.is owner
          c.items_in-items.ensures added c.files.invariant.0,
      added.exports c.files.invariant.1,
      first_later modules xs c.files.file-index c.file-item.result _ _ _ _ _ c.files-test.true c.file-item.is owner
          c.items_in-items.ensures added c.files.invariant.1 c.if-duplicate.false _ c.files.invariant.2,
    )

pub returns-then-duplicate : goal.returns-then-duplicate
returns-then-duplicate c =
    let owner = owned _ _ c.in_ok-owners.owners c.file-item.result.path _ c.number-owner.ensures c.in_ok-owners.ensures c.as_slice.ensures.value in
    duplicate_first (modules_of c.args.work.now) (map parsed_data c.args.parsed.now) c.file-item.result.path _ c.duplicate_in.ensures
    (first_here (modules_of c.args.work.now) c.args.parsed.now c.files.file-index c.file-item.result _ _ _ _ _
    c.files-test.true c.file-item.is owner c.items_in-items.ensures c.in_ok-duplicate.ensures c.files.invariant.1
    c.if-duplicate.true _ c.files.invariant.2)

pub returns : goal.returns
returns c =
    let modules = modules_of c.args.work.now in
    let all : take c.files.file-index c.args.parsed.now ≡ c.args.parsed.now =
    take_all c.files.file-index c.args.parsed.now c.files-test.false in (
      c.files.invariant.0 ∙ ap (λ xs. map (names_of modules) (map parsed_data xs)) all,
      first_none modules c.args.parsed.now c.files.file-index c.files.gathering c.files-test.false _ c.files.invariant.2,
    )
