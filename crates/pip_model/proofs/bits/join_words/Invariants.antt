use Rattle.pip_model.proofs.BitSets.{JoinedBelow}
use Rattle.pip_model.proofs.bits.join_words.Given as goal

abbrev pub invariant-words : goal.invariant-words
invariant-words l = JoinedBelow l.initial.row l.other l.row l.place
