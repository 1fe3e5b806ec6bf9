use Rattle.std.proofs.Common.{◌≡◌, ◌+◌, drop}
use Rattle.bx_tree.specs.Lent.{texts_now}
use Rattle.tool_text.specs.Tables.{place_in}
use Rattle.tool_faults.specs.Faults.{first_bad}
use Rattle.tool_faults.proofs.operands.first_bad.Given as goal

abbrev pub invariant-texts : goal.invariant-texts
invariant-texts l =
    first_bad (place_in l.table) (l.place + 1) (drop l.place l.kinds) (texts_now (drop l.place l.texts))
    ≡ first_bad (place_in l.table) 1 l.kinds (texts_now l.texts)
