use Rattle.dscript_grammar.specs.ExprReading.{read_expr, read_stmt}
use Rattle.dscript_grammar.proofs.ExprSound.{expr_sound, stmt_sound, note_sound}
use Rattle.dscript_grammar.proofs.ExprComplete.{expr_complete, stmt_complete, note_complete}
use Rattle.dscript_parse_exprs.proofs.laws.notes_are_derived.Goals as goal

pub returns-clause-sound : goal.returns-clause-sound
returns-clause-sound c depth tokens rest t height limit read low =
    (note_sound depth (read_expr depth) (read_stmt depth) (expr_sound depth) (stmt_sound depth) tokens).is _ read limit low

pub returns-clause-complete : goal.returns-clause-complete
returns-clause-complete c depth tokens rest t limit fits p ends =
    let r = note_complete depth (read_expr depth) (read_stmt depth) (expr_complete depth) (stmt_complete depth) limit fits t tokens rest p
    (record {
      no_colon = ends.no_colon;
      ends = record {
        array = record { named = record { no_dot = ends.no_more.no_dot; no_angle = ends.no_more.no_angle }; no_bracket = ends.no_more.no_bracket };
        no_bar = ends.no_more.no_bar;
      };
    }) in
    (r.height, (r.within, r.is))
