-- What the loops over unions and over `[]` keep.
use Rattle.std.specs.Prelude.{◌≡◌, ℕ, ◌+◌, ◌≤◌, List, length, map}
use Rattle.dscript_lex.specs.declared.token.TokenKind.{TokenKind}
use Rattle.dscript_grammar.specs.Reading.{Reader, got, and_then}
use Rattle.dscript_ast.specs.TypeTree.{TypeTree}
use Rattle.dscript_grammar.specs.TypeReading.{read_union, read_brackets}
use Rattle.dscript_ast.specs.Views.{type_tree}
use Rattle.dscript_ast.specs.declared.type_node.TypeNode.{TypeNode}
use Rattle.dscript_parse_tokens.specs.LoopInvariants.{with_items}

pub record UnionInvariant (type : Reader TypeTree) (depth : ℕ) (items : List TypeNode) (height : ℕ)
    (rest start : List TokenKind) : Type 0 where
  pub resumes : (n : ℕ) → with_items (map type_tree items) height
      (read_union type depth n rest) ≡ read_union type depth (n + length items) start
  pub count : length items + length rest ≤ length start

pub record BracketsInvariant (count : ℕ) (rest start : List TokenKind) : Type 0 where
  pub resumes : (n : ℕ) → and_then (read_brackets n rest)
      (λ r. got (count + r.value) 0 r.rest) ≡ read_brackets (n + count) start
  pub within : count + length rest ≤ length start
