use Rattle.std.proofs.Common.{refl, ap, sym, ◌∙◌, subst}
use Rattle.std.specs.List.{Contains}
use Rattle.std.specs.List.Sorted.{IsStrictlySortedBy}
use Rattle.std.proofs.lemmas.Bool.{false≢true}
use Rattle.bx_tree.specs.Trees.{file_at, paths_of}
use Rattle.pip_model_types.specs.Made.{RisingFiles}
use Rattle.bx_tree.specs.Paths.{path_cmp}
use Rattle.bx_tree_paths.proofs.Rising.{rise_by_text}
use Rattle.pip_model_types.specs.declared.made.MadeFile.{MadeFile}
use Rattle.pip_model_types.proofs.FilesAt.{made_there, no_made, paths-made}
use Rattle.pip_model_types.proofs.made.Made.find.Goals as goal

pub place_of-requires : goal.place_of-requires
place_of-requires c =
    let files = c.files-files.ensures in
    rise_by_text (λ (f : MadeFile). f.path) c.files-files.result.now
    (subst (IsStrictlySortedBy path_cmp) (paths-made c.files-files.result.now) (subst RisingFiles (sym files.files) files.rising))

pub returns-in-None-clause-value : goal.returns-in-None-clause-value
returns-in-None-clause-value c =
    sym (ap (λ fs. file_at fs c.args.path.now) (sym c.files-files.ensures.files)
    ∙ (no_made c.files-files.result.now c.args.path.now c.in-None.ensures).0)

pub returns-in-None-clause-there : goal.returns-in-None-clause-there
returns-in-None-clause-there c = (
  λ e. absurd (false≢true e),
  λ h. absurd ((no_made c.files-files.result.now c.args.path.now c.in-None.ensures).1
      (subst (λ fs. Contains (paths_of fs) c.args.path.now) (sym c.files-files.ensures.files) h)),
)

pub returns-in-Some-clause-value : goal.returns-in-Some-clause-value
returns-in-Some-clause-value c =
    let files = c.files-files.ensures in
    let there = made_there c.files-files.result.now c.args.path.now c.in-Some.place c.index-files-place.result
    (subst RisingFiles (sym files.files) files.rising) c.in-Some.ensures.0 (c.in-Some.ensures.1 _) in
    sym there.0 ∙ ap (λ fs. file_at fs c.args.path.now) files.files

pub returns-in-Some-clause-there : goal.returns-in-Some-clause-there
returns-in-Some-clause-there c =
    let files = c.files-files.ensures in
    let there = made_there c.files-files.result.now c.args.path.now c.in-Some.place c.index-files-place.result
    (subst RisingFiles (sym files.files) files.rising) c.in-Some.ensures.0 (c.in-Some.ensures.1 _) in
    (λ _. subst (λ fs. Contains (paths_of fs) c.args.path.now) files.files there.1, λ _. refl)
