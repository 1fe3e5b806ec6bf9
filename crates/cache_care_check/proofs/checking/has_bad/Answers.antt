use Rattle.std.proofs.Common.{List, ap, map, sym, ◌∙◌, arith}
use Rattle.cache_care_check.specs.CareLists.{has_bad_remark, line_remark}
use Rattle.cache_care_check.specs.declared.checking.CareLine.{CareLine}
use Rattle.cache_care_check.proofs.Listed.{bad_here}
use Rattle.cache_care_check.proofs.checking.has_bad.Goals as goal

pub returns-then-is_bad_line : goal.returns-then-is_bad_line
returns-then-is_bad_line c =
    sym (ap (λ (ls : List CareLine). has_bad_remark (map line_remark ls)) (sym c.deref-line-items.ensures.value)
    ∙ bad_here c.deref-line-items.result.now c.lines.line-index c.line-item.result (omega (arith, c.lines-test.true)) c.line-item.is
    (sym c.is_bad_line.ensures ∙ c.if-is_bad_line.true))
