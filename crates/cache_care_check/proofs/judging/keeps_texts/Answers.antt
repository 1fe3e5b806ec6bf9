use Rattle.std.proofs.Common.{◌≡◌, Err, List, Option, Some, IfOk, subst}
use Rattle.std.proofs.lemmas.Result.{err_from_is_err_and}
use Rattle.bx_tree.specs.Trees.{Files}
use Rattle.pip_model_types.specs.declared.desc.Desc.{Desc}
use Rattle.observed.specs.declared.access.Answer.{Answer}
use Rattle.prints.specs.declared.strong_parts.AnswerLine.{AnswerLine}
use Rattle.memo_format.specs.declared.entry.OutputLine.{OutputLine}
use Rattle.two_phase.specs.Finding.{FindsOne}
use Rattle.cache_care_check.specs.Judging.{AreAnswersOf, AreFilesOf, IsDescOf, MakesJust}
use Rattle.cache_care_check.specs.Known.{TellsWhether}
use Rattle.cache_care_check.proofs.Judged.{found_run, keeps_where, no_run}
use Rattle.cache_care_check.proofs.Steps.{fault_on}
use Rattle.cache_care_check.proofs.judging.keeps_texts.Goals as goal

pub returns-in_err-answers-clause-keeper : goal.returns-in_err-answers-clause-keeper
returns-in_err-answers-clause-keeper g c =
    let p = err_from_is_err_and c.from_residual-in_err-answers.result c.from_residual-in_err-answers.ensures.1 in
    let is : c.from_residual-in_err-answers.result ≡ Err c.in_err-answers.field-0.0 =
    let gives = p.1 in
    let same = p.2 in
    cc in
    fault_on (g.K.Keeper.bound c.args.keeper.now) (g.K.Keeper.bound c.desc_of.new.keeper) (g.K.Keeper.bound c.answers_of.new.keeper)
    (g.K.Keeper.faults c.args.keeper.now) (g.K.Keeper.faults c.desc_of.new.keeper) (g.K.Keeper.faults c.answers_of.new.keeper) c.in_ok-desc.field-0
    c.in_err-answers.field-0.0 c.from_residual-in_err-answers.result is c.in_ok-desc.ensures.keeper
    c.in_err-answers.ensures.keeper

pub returns-in-Some-3-clause-keeps : goal.returns-in-Some-3-clause-keeps
returns-in-Some-3-clause-keeps g c =
    keeps_where (g.K.Keeper.known c.answers_of.new.keeper).held (g.K.Keeper.known c.are_files.new.keeper).held c.args.entry.now c.args.texts c.in-Some.desc
    c.in-Some-2.answers c.in-Some-3.made c.are_files.result c.are_files.ensures.known.held
    (found_run (g.K.Keeper.known c.desc_of.new.keeper).held (g.K.Keeper.known c.answers_of.new.keeper).held c.args.texts c.in-Some.desc c.in-Some-2.answers
    c.in_ok-answers.ensures.known.held
    (subst (λ (o : Option Desc). FindsOne (g.K.Keeper.known c.desc_of.new.keeper).held (λ S d. IsDescOf S c.args.texts.weak d) o) c.in-Some.is
    c.in_ok-desc.ensures.found)
    (subst (λ (ls : List AnswerLine). FindsOne (g.K.Keeper.known c.answers_of.new.keeper).held (λ S given. AreAnswersOf S ls given) (Some c.in-Some-2.answers))
    c.lines-2.ensures
    (subst (λ (o : Option (List Answer)). FindsOne (g.K.Keeper.known c.answers_of.new.keeper).held (λ S given. AreAnswersOf S c.lines-2.result.now given) o)
    c.in-Some-2.is c.in_ok-answers.ensures.found)))
    (subst (λ (o : Option Files). MakesJust c.in-Some.desc c.args.texts.paths c.in-Some-2.answers o) c.in-Some-3.is
    (subst (λ (given : List Answer). MakesJust c.in-Some.desc c.args.texts.paths given c.in_ok-made.field-0) c.into_answers.ensures c.in_ok-made.ensures))
    (subst (λ (ls : List OutputLine). IfOk c.are_files.result (TellsWhether (g.K.Keeper.known c.are_files.new.keeper).held
    (λ S. AreFilesOf S ls c.in-Some-3.made))) c.lines-in-Some-3.ensures c.are_files.ensures.same)

pub returns-clause-keeps : goal.returns-clause-keeps
returns-clause-keeps g c =
    no_run (g.K.Keeper.known c.answers_of.new.keeper).held c.args.entry.now c.args.texts c.in-Some.desc c.in-Some-2.answers
    (found_run (g.K.Keeper.known c.desc_of.new.keeper).held (g.K.Keeper.known c.answers_of.new.keeper).held c.args.texts c.in-Some.desc c.in-Some-2.answers
    c.in_ok-answers.ensures.known.held
    (subst (λ (o : Option Desc). FindsOne (g.K.Keeper.known c.desc_of.new.keeper).held (λ S d. IsDescOf S c.args.texts.weak d) o) c.in-Some.is
    c.in_ok-desc.ensures.found)
    (subst (λ (ls : List AnswerLine). FindsOne (g.K.Keeper.known c.answers_of.new.keeper).held (λ S given. AreAnswersOf S ls given) (Some c.in-Some-2.answers))
    c.lines-2.ensures
    (subst (λ (o : Option (List Answer)). FindsOne (g.K.Keeper.known c.answers_of.new.keeper).held (λ S given. AreAnswersOf S c.lines-2.result.now given) o)
    c.in-Some-2.is c.in_ok-answers.ensures.found)))
    (subst (λ (o : Option Files). MakesJust c.in-Some.desc c.args.texts.paths c.in-Some-2.answers o) c.in-None-3.is
    (subst (λ (given : List Answer). MakesJust c.in-Some.desc c.args.texts.paths given c.in_ok-made.field-0) c.into_answers.ensures c.in_ok-made.ensures))
