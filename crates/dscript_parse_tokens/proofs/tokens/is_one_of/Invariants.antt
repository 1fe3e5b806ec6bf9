use Rattle.std.proofs.Common.{◌≡◌, map, drop}
use Rattle.dscript_grammar.specs.Language.{is_one_of}
use Rattle.dscript_parse_tokens.proofs.tokens.is_one_of.Given as goal

abbrev pub invariant-loop-candidate : goal.invariant-loop-candidate
invariant-loop-candidate l =
    is_one_of l.word (map (λ w. w.now) (drop l.candidate-index l.words)) ≡ is_one_of l.word (map (λ w. w.now) l.words)
