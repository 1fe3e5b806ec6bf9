use Rattle.two_phase.proofs.Recorded.{answer_more}
use Rattle.two_phase.proofs.recording.add_answers.Goals as goal

pub answers-preserved : goal.answers-preserved
answers-preserved c =
    answer_more c.args.contents.now.items c.answers.contents.items c.add_answer.new.contents.items c.args.answers.now c.answers.answer-index c.answer-item.result
    c.answers-test.true c.answer-item.is c.answers.invariant c.in_ok-add_answer.ensures
