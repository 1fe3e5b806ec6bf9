use Rattle.one_thread.proofs.Reported.{line_of}
use Rattle.one_thread.proofs.lines.each_verdict_has_its_line.Goals as goal

pub returns : goal.returns
returns c = line_of
