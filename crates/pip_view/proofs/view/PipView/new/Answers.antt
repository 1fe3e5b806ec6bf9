use Rattle.std.proofs.Common.{List, filter, ap, subst, ◌∙◌}
use Rattle.std.specs.Prelude.{slice_get}
use Rattle.pip_view_directories.specs.Ranges.{AreOthers}
use Rattle.violations.specs.Producing.{dirs_at}
use Rattle.pip_model_types.specs.Dirs.{RiseByForm}
use Rattle.pip_model_types.specs.declared.dir_inputs.DirInput.{DirInput}
use Rattle.pip_model_types.specs.declared.pip.Pip.{Pip}
use Rattle.pip_view.specs.InputFiles.{by_pip, is_opaque}
use Rattle.pip_view.proofs.view.PipView.new.Goals as goal

pub invariant_of-result : goal.invariant_of-result
invariant_of-result c =
    let all = c.taken_dirs-dirs.ensures.dirs ∙ ap (λ (ps : List Pip). dirs_at (slice_get ps c.args.pip)) c.pips.ensures.pips in record {
      there = c.requires;
      rising = subst RiseByForm all c.taken_dirs-dirs.ensures.rising;
      dirs = c.in_ok-opaque.ensures ∙ ap (λ (ds : List DirInput). by_pip (filter is_opaque ds)) all;
      unlisted = subst (λ (ds : List DirInput). AreOthers ds c.in_ok-others.others) all c.in_ok-others.ensures;
    }
