use Rattle.std.proofs.Common.{map, arith}
use Rattle.cache_care_check.specs.CareLists.{line_remark}
use Rattle.cache_care_check.proofs.Listed.{lines_more}
use Rattle.cache_care_check.proofs.checking.lines.Goals as goal

pub names-preserved : goal.names-preserved
names-preserved c =
    lines_more c.args.survey.now.names.items c.args.survey.now.findings.items c.names.place c.index.result.now c.index-in-names.result.now
    (map line_remark c.names.lines.items) (map line_remark c.add_line.new.lines.items) c.requires (omega arith) c.index.ensures c.index-in-names.ensures
    c.names.invariant c.in_ok-add_line.ensures
