use Rattle.std.proofs.Common.{refl, subst, sym}
use Rattle.dscript_program.specs.Views.{program_data}
use Rattle.dscript_eval_meaning.specs.declared.fault.EvalFault.TheVariants as eval_faults
use Rattle.dscript_eval_frames.specs.declared.stop.Stop.{Stop}
use Rattle.dscript_eval.specs.Tops.{IsAnsweredAs}
use Rattle.dscript_eval.proofs.evaluation.fault_of.Goals as goal

pub returns-in-Ok : goal.returns-in-Ok
returns-in-Ok c =
    let P : Stop → Type 0 =
    λ s. IsAnsweredAs (program_data c.args.program.now) s (eval_faults.Fault c.in-Fault.kind c.in-Ok.file c.in-Fault.message) in
    subst P (sym c.in-Fault.is) (refl, c.in-Ok.ensures, refl)
