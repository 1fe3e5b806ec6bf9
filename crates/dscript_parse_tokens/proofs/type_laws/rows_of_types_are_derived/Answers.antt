use Rattle.std.proofs.Common.{length, refl, arith}
use Rattle.dscript_grammar.specs.TypeGrammar.{any_type, type_at}
use Rattle.dscript_grammar.specs.TypeReading.{read_type}
use Rattle.dscript_grammar.proofs.Combinators.{separated_sound, separated_complete, separated_count}
use Rattle.dscript_grammar.proofs.TypeSound.{type_sound}
use Rattle.dscript_grammar.proofs.TypeComplete.{EndsType, ends_at, type_complete, type_consumes}
use Rattle.dscript_parse_tokens.proofs.type_laws.rows_of_types_are_derived.Goals as goal

pub returns-clause-sound : goal.returns-clause-sound
returns-clause-sound c depth tokens rest types height limit read low =
    (separated_sound (λ h. type_at h any_type) (read_type depth) (type_sound depth) "," (length tokens) tokens).is _ read limit low

pub returns-clause-complete : goal.returns-clause-complete
returns-clause-complete c depth tokens rest types limit fits p (stops, ends) =
    let r = separated_complete (type_at limit any_type) (read_type depth) limit EndsType (type_complete depth limit fits) ","
    (λ us after e. ends_at e refl refl refl refl) types tokens rest (length tokens) p stops
    (record { array = record { named = record { no_dot = ends.no_dot; no_angle = ends.no_angle }; no_bracket = ends.no_bracket }; no_bar = ends.no_bar })
    (omega (arith, separated_count (type_at limit any_type) (type_consumes limit any_type) "," types tokens rest p)) in
    (r.height, (r.within, r.is))
