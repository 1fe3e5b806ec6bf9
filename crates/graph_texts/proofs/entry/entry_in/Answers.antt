use Rattle.std.proofs.lemmas.Result.{err_from_is_err_and}
use Rattle.graph_texts.proofs.EntryRead.{sealed_entry, unseal_refused}
use Rattle.graph_texts.proofs.entry.entry_in.Goals as goal

pub returns-in_err-body : goal.returns-in_err-body
returns-in_err-body c =
    let p = err_from_is_err_and c.from_residual.result c.from_residual.ensures.1 in
    rw (p.1, p.2) (unseal_refused c.in_err-body.field-0.0 c.args.bytes.now c.in_err-body.ensures)

pub returns : goal.returns
returns c = sealed_entry c.in_body.result c.args.bytes.now c.in_ok-body.body.now c.in_ok-body.ensures c.in_body.ensures
