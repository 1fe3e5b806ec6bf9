use Rattle.dscript_grammar.proofs.ExprSound.{expr_sound}
use Rattle.dscript_grammar.proofs.ExprComplete.{expr_complete}
use Rattle.dscript_parse_exprs.proofs.laws.expressions_are_derived.Goals as goal

pub returns-clause-sound : goal.returns-clause-sound
returns-clause-sound c depth tokens rest e height limit read low = (expr_sound depth tokens).is _ read limit low

pub returns-clause-complete : goal.returns-clause-complete
returns-clause-complete c depth tokens rest e limit fits p ends =
    let r = expr_complete depth limit fits e tokens rest p
    (record { no_arrow = ends.no_arrow; no_template = ends.no_template; no_part = λ _. ends.no_part; no_operator = ends.no_operator; no_question = λ _. ends.no_question }) in
    (r.height, (r.within, r.is))
