use Rattle.std.proofs.Common.{◌≡◌, ◌++◌, drop}
use Rattle.build_report.specs.Reports.{head_text, pip_lines}
use Rattle.build_report.proofs.built.report_of.Given as goal

abbrev pub invariant-pips : goal.invariant-pips
invariant-pips l =
    l.text.items ++ pip_lines l.number (drop l.number l.pips) (drop l.number l.verdicts) ≡ head_text l.verdicts ++ pip_lines 0 l.pips l.verdicts
