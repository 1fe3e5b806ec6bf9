use Rattle.dscript_grammar.specs.ExprReading.{read_expr, read_stmt}
use Rattle.dscript_grammar.proofs.ExprSound.{expr_sound, stmt_sound, value_sound}
use Rattle.dscript_grammar.proofs.ExprComplete.{expr_complete, stmt_complete, value_complete}
use Rattle.dscript_parse_exprs.proofs.laws.values_are_derived.Goals as goal

pub returns-clause-sound : goal.returns-clause-sound
returns-clause-sound c depth tokens rest e height limit read low =
    (value_sound depth (read_expr depth) (read_stmt depth) (expr_sound depth) (stmt_sound depth) tokens).is _ read limit low

pub returns-clause-complete : goal.returns-clause-complete
returns-clause-complete c depth tokens rest e limit fits p ends =
    let r = value_complete depth (read_expr depth) (read_stmt depth) (expr_complete depth) (stmt_complete depth) limit fits e tokens rest p in
    (r.height, (r.within, r.is))
