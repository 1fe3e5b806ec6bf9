use Rattle.std.proofs.Common.{List, Ok, Err, ap, subst, sym, ◌∙◌}
use Rattle.pip_model_types.specs.declared.pip.Pip.{Pip}
use Rattle.dscript_sdk_calls.specs.Sources.{tree_answers}
use Rattle.dscript_sdk_calls.specs.declared.tree_ask.TreeAsk.{TreeAsk}
use Rattle.dscript_program.specs.Views.{program_data}
use Rattle.dscript_eval_frames.specs.Keeps.{StopsWith}
use Rattle.dscript_eval_frames.specs.Views.{seen}
use Rattle.dscript_eval_frames.specs.Works.{Answer, comes}
use Rattle.dscript_eval_laws.proofs.MadePrograms.{gives_pip_list}
use Rattle.dscript_eval.proofs.Tops.{answered_as, asked, built, ended, unnumbered_is}
use Rattle.dscript_eval.proofs.evaluation.evaluate_asked.Goals as goal

pub into_asked-requires : goal.into_asked-requires
into_asked-requires c =
    gives_pip_list (program_data c.args.program.now) c.args.tree.now c.args.budget (seen c.run.new.machine).state.calls.pips
    (built (program_data c.args.program.now) c.args.tree.now c.args.budget (seen c.run.new.machine).state
    (ap comes (sym c.in_ok-machine.ensures) ∙ c.in-Ok.ensures.kept ∙ ended (seen c.run.new.machine) c.in-Ok.ensures.done))

pub returns-in-Ok-clause-pips : goal.returns-in-Ok-clause-pips
returns-in-Ok-clause-pips c =
    built (program_data c.args.program.now) c.args.tree.now c.args.budget (seen c.run.new.machine).state
    (ap comes (sym c.in_ok-machine.ensures) ∙ c.in-Ok.ensures.kept ∙ ended (seen c.run.new.machine) c.in-Ok.ensures.done)
    ∙ ap Ok (sym c.into_asked.ensures.pips)

pub returns-in-Ok-clause-asked : goal.returns-in-Ok-clause-asked
returns-in-Ok-clause-asked c =
    asked (program_data c.args.program.now) (tree_answers c.args.tree.now) c.args.budget (seen c.run.new.machine).state
    (ap comes (sym c.in_ok-machine.ensures) ∙ c.in-Ok.ensures.kept ∙ ended (seen c.run.new.machine) c.in-Ok.ensures.done)
    ∙ ap (λ (ps : List Pip). Ok (ps, (seen c.run.new.machine).state.calls.asks)) (sym c.into_asked.ensures.pips)
    ∙ ap (λ (asks : List TreeAsk). Ok (c.into_asked.result.pips, asks)) (sym c.into_asked.ensures.asks)

pub returns-clause-fault : goal.returns-clause-fault
returns-clause-fault c =
    let P : Answer → Type 0 = λ a. StopsWith c.in-Err.stop a in
    answered_as (program_data c.args.program.now) c.args.tree.now c.args.budget c.in-Err.stop _
    (subst P (ap comes c.in_ok-machine.ensures) c.in-Err.ensures.kept) c.fault_of.ensures

pub returns-in-Ok-clause-unnumbered : goal.returns-in-Ok-clause-unnumbered
returns-in-Ok-clause-unnumbered c none = let pips = returns-in-Ok-clause-pips c in cc

pub returns-clause-unnumbered : goal.returns-clause-unnumbered
returns-clause-unnumbered c none =
    ap Err (unnumbered_is (program_data c.args.program.now) c.args.tree.now c.args.budget _ (returns-clause-fault c) none)
