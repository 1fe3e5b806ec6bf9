use Rattle.std.proofs.Common.{◌≡◌, ◌++◌, take}
use Rattle.two_phase_meaning.specs.Contents.{given_contents}
use Rattle.two_phase.proofs.recording.add_answers.Given as goal

abbrev pub invariant-answers : goal.invariant-answers
invariant-answers l = l.contents.items ≡ l.fn.contents.items ++ given_contents (take l.answer-index l.answers)
