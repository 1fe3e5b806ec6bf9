use Rattle.dscript_grammar.proofs.TypeSound.{type_sound}
use Rattle.dscript_grammar.proofs.TypeComplete.{type_complete}
use Rattle.dscript_parse_tokens.proofs.type_laws.types_are_derived.Goals as goal

pub returns-clause-sound : goal.returns-clause-sound
returns-clause-sound c depth tokens rest t height limit e low = (type_sound depth tokens).is _ e limit low

pub returns-clause-complete : goal.returns-clause-complete
returns-clause-complete c depth tokens rest t limit fits p ends =
    let r = type_complete depth limit fits t tokens rest p
    (record { array = record { named = record { no_dot = ends.no_dot; no_angle = ends.no_angle }; no_bracket = ends.no_bracket }; no_bar = ends.no_bar }) in
    (r.height, (r.within, r.is))
