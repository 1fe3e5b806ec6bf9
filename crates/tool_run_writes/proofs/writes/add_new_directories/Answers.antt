use Rattle.std.proofs.Common.{◌∙◌, sym}
use Rattle.tool_run_writes.proofs.Unnested.{known_below}
use Rattle.tool_run_writes.proofs.writes.add_new_directories.Goals as goal

pub returns-then-contains_key : goal.returns-then-contains_key
returns-then-contains_key c = λ q.
    c.requires q ∙ known_below c.args.files.now.entries c.args.path.now q (sym c.contains_key.ensures ∙ c.if-contains_key.true)
