use Rattle.bx_digest.proofs.HashesAreDigests.{is_digest}
use Rattle.prints.proofs.weak_lines.InKindLineMadeFileFileLine.has_line.Goals as goal

pub returns : goal.returns
returns c = (c.text-path.ensures.is_path, is_digest c.args.value.now.blob)
