use Rattle.std.proofs.Common.{◌≡◌, Option, IfOk, subst}
use Rattle.std.specs.Prelude.{IfNone, IfSome, MatchOption, ◌≢◌}
use Rattle.bx_tree.specs.Trees.{Files}
use Rattle.tool_run.specs.Described.{described}
use Rattle.tool_run.specs.Run.{path_set}
use Rattle.run_record.specs.Answered.{answered}
use Rattle.run_record.specs.Facts.{Facts, Replays, run_for}
use Rattle.run_record.specs.declared.outcome.Outcome.{Outcome}
use Rattle.run_record.specs.declared.outcome.Outcome.TheVariants.{Good}
use Rattle.cache_care_check.proofs.Judged.{another_set, made_just}
use Rattle.cache_care_check.proofs.running.files_of_run.Goals as goal

pub returns-in-Some : goal.returns-in-Some
returns-in-Some c =
    made_just c.args.desc c.args.paths.now c.args.answers.items c.in-Some.ran c.made_by.result
    (subst (λ (o : Option Facts). IfSome o (λ (f : Facts). Replays f c.args.desc c.args.paths.now c.args.answers.items)) c.in-Some.is
    c.in_ok-ran.ensures.found)
    (subst (λ (o : Outcome). IfOk c.made_by.result (λ m. MatchOption m ((files : Files) → o ≡ Good files → ⊥) (λ files. o ≡ Good files))) c.outcome.ensures
    c.made_by.ensures)

pub returns-in-None : goal.returns-in-None
returns-in-None c =
    another_set c.args.desc c.args.paths.now c.args.answers.items
    (subst (λ (o : Option Facts). IfNone o (path_set (described c.args.desc)
    (run_for c.args.desc (answered c.args.paths.now c.args.answers.items)).accesses ≢ c.args.paths.now)) c.in-None.is c.in_ok-ran.ensures.none)
