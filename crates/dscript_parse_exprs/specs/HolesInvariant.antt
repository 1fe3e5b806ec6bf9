-- What the loop over the holes of a template keeps.
use Rattle.std.specs.Prelude.{◌≡◌, ℕ, ◌+◌, ◌≤◌, List, length, map}
use Rattle.dscript_lex.specs.declared.token.TokenKind.{TokenKind}
use Rattle.dscript_grammar.specs.ExprReading.{read_expr, read_holes, read_stmt}
use Rattle.dscript_ast.specs.Views.{hole_tree}
use Rattle.dscript_ast.specs.declared.expr.Hole.{Hole}
use Rattle.dscript_parse_tokens.specs.LoopInvariants.{with_items}

pub record HolesInvariant (depth : ℕ) (items : List Hole) (height : ℕ)
    (rest start : List TokenKind) : Type 0 where
  pub resumes : (n : ℕ) → with_items (map hole_tree items) height
      (read_holes depth (read_expr depth) (read_stmt depth) n rest)
      ≡ read_holes depth (read_expr depth) (read_stmt depth) (n + length items) start
  pub count : length items + length rest ≤ length start
