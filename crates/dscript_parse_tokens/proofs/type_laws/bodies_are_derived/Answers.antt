use Rattle.dscript_grammar.specs.TypeReading.{read_type}
use Rattle.dscript_grammar.proofs.TypeSound.{body_sound, type_sound}
use Rattle.dscript_grammar.proofs.TypeComplete.{body_complete, type_complete}
use Rattle.dscript_parse_tokens.proofs.type_laws.bodies_are_derived.Goals as goal

pub returns-clause-sound : goal.returns-clause-sound
returns-clause-sound c depth tokens rest members height limit e low = (body_sound (read_type depth) (type_sound depth) tokens).is _ e limit low

pub returns-clause-complete : goal.returns-clause-complete
returns-clause-complete c depth tokens rest members limit fits p ends =
    let r = body_complete (read_type depth) depth (type_complete depth) limit fits members tokens rest p in
    (r.height, (r.within, r.is))
