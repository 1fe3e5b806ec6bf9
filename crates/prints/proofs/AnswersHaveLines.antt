-- Each answer has a line.
use Rattle.bx_digest.proofs.HashesAreDigests.{is_digest}
use Rattle.observed.specs.declared.access.Answer.{Answer}
use Rattle.observed.specs.declared.access.Answer.TheVariants as answers
use Rattle.prints.specs.Strong.{IsAnswerLine, line_of}

pub is_line : (answer : Answer) → IsAnswerLine (line_of answer)
is_line answers.Absent = tt
is_line (answers.Content bytes) = is_digest bytes
is_line answers.File = tt
is_line answers.Directory = tt
is_line (answers.Names names) = is_digest names
is_line answers.Denied = tt
