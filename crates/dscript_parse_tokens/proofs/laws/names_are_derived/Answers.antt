use Rattle.std.proofs.Common.{length, arith}
use Rattle.dscript_grammar.specs.Language.{identifier}
use Rattle.dscript_grammar.specs.Reading.{read_identifier}
use Rattle.dscript_grammar.proofs.Combinators.{identifier_sound, identifier_complete, identifier_consumes, separated_sound, separated_complete, separated_count}
use Rattle.dscript_parse_tokens.proofs.laws.names_are_derived.Goals as goal

pub returns-clause-sound : goal.returns-clause-sound
returns-clause-sound c between tokens rest values height limit read low =
    (separated_sound (λ h. identifier) read_identifier identifier_sound between (length tokens) tokens).is _ read limit low

pub returns-clause-complete : goal.returns-clause-complete
returns-clause-complete c between depth tokens rest values limit fits p (stops, ended) =
    let r = separated_complete identifier read_identifier limit (λ us. Unit {0}) (λ x us vs e u. identifier_complete e) between (λ us after e. tt)
    values tokens rest (length tokens) p stops tt
    (omega (arith, separated_count identifier identifier_consumes between values tokens rest p)) in
    (r.height, (r.within, r.is))
