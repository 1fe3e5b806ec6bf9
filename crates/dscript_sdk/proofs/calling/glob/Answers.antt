use Rattle.std.proofs.Common.{map}
use Rattle.std.proofs.lemmas.Result.{err_from_is_err_and}
use Rattle.dscript_sdk_calls.specs.Globs.{glob_files}
use Rattle.dscript_sdk_calls.specs.Sources.{tree_answers}
use Rattle.dscript_sdk_pips.specs.States.{over_tree}
use Rattle.dscript_value.specs.Plain.{plain_of}
use Rattle.dscript_sdk.proofs.Unchanged.{asked_once, asking_refused}
use Rattle.dscript_sdk.proofs.calling.glob.Goals as goal

pub returns-clause-answer : goal.returns-clause-answer
returns-clause-answer c =
    let state = c.args.state.now in
    asked_once (glob_files c.args.deep (map plain_of c.args.args.now) (tree_answers state.sources)) state c.note.new.self
    (plain_of c.in_ok-files.files) c.in_ok-files.ask (rw c.tree.ensures at c.in_ok-files.ensures) c.in_ok-note.ensures.noted

pub returns-in_err-files-clause-fault : goal.returns-in_err-files-clause-fault
returns-in_err-files-clause-fault c =
    let p = err_from_is_err_and c.from_residual.result c.from_residual.ensures.1 in
    let state = c.args.state.now in
    rw (p.1, p.2)
    (asking_refused (glob_files c.args.deep (map plain_of c.args.args.now) (tree_answers state.sources)) (over_tree state)
    c.in_err-files.field-0.0 (rw c.tree.ensures at c.in_err-files.ensures))
