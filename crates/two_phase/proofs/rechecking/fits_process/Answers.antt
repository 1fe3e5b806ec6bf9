use Rattle.std.proofs.Common.{ap, sym, ◌∙◌, subst}
use Rattle.bx_tree.specs.Trees.{Files}
use Rattle.memo_format.specs.Entries.{OutputsRise, output_paths}
use Rattle.memo_format.specs.declared.entry.Entry.{Entry}
use Rattle.pip_model_types.specs.Made.{RisingFiles}
use Rattle.two_phase_meaning.specs.Usable.{fits}
use Rattle.two_phase.proofs.Kept.{found_paths, found_rise}
use Rattle.two_phase.proofs.rechecking.fits_process.Goals as goal

pub fits-requires : goal.fits-requires
fits-requires c =
    subst OutputsRise (sym (c.lines.ensures ∙ ap (λ (e : Entry). e.outputs) c.entry.ensures.entry))
    (found_rise c.args.found.now c.entry.ensures.found (subst (λ (fs : Files). RisingFiles fs) c.made.ensures.made c.files-rising.ensures.rising))

pub returns : goal.returns
returns c =
    c.fits.ensures
    ∙ ap (fits c.args.process.now) (ap output_paths (c.lines.ensures ∙ ap (λ (e : Entry). e.outputs) c.entry.ensures.entry) ∙ found_paths c.args.found.now c.entry.ensures.found)
