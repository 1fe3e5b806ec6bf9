use Rattle.std.proofs.Common.{◌∙◌, ap, sym}
use Rattle.tool_run_writes.proofs.NextAtoms.{no_names}
use Rattle.tool_run_writes.proofs.writes.Writes.own_names.Goals as goal
use Rattle.bx_tree.specs.Lent.{texts_now}

pub returns-then-not-has_below : goal.returns-then-not-has_below
returns-then-not-has_below c =
    ap texts_now c.new.ensures.items ∙ sym (no_names c.args.self.now c.args.dir.now (sym c.has_below.ensures ∙ c.if-not-has_below.true))
