-- What is counted in a file is at most its tokens.
use Rattle.std.proofs.Common.{◌≡◌, ℕ, ◌+◌, ◌<◌, ◌≤◌, List, [], ◌∷◌, length, map, Ok, subst, arith}
use Rattle.std.proofs.lemmas.List.{length-map}
use Rattle.dscript_ast.specs.FileTree.{ItemTree, Project}
use Rattle.dscript_ast.specs.declared.file.Form.TheVariants as forms
use Rattle.dscript_names_binding.specs.Binding.{bind_items}
use Rattle.dscript_names_binding.specs.Walk.{Bound, Here}
use Rattle.dscript_grammar.specs.Derives.{Derives}
use Rattle.dscript_lex.proofs.TokenPlaces.{places}
use Rattle.dscript_lex.specs.Tokens.{AreTokens, Rise}
use Rattle.dscript_lex.specs.declared.token.Token.{Token}
use Rattle.dscript_lex.specs.declared.token.TokenKind.{TokenKind}
use Rattle.dscript_program.specs.ProgramData.{DeclData}
use Rattle.dscript_names_scopes.specs.Names.{FileNames, World}
use Rattle.dscript_names.specs.Counted.{CountedWithin}
use Rattle.dscript_names.specs.Sizes.{items_size}
use Rattle.dscript_names.proofs.TakesFiles.{size_within}
use Rattle.dscript_names.proofs.WalksFiles.{FiledIfOk, counted_more, items_filed}

pub bounded : (tokens : List TokenKind) (items : List ItemTree) (height : ℕ) → Derives forms.Project tokens (Project items) height
    → (world : World) (number : ℕ) (names : FileNames) (here : Here) (b : Bound (List DeclData))
    → bind_items world number names items here ≡ Ok b → CountedWithin (length tokens) b
bounded tokens items height derives world number names here b is =
    counted_more (items_size items) (length tokens) b (size_within tokens items height derives.derived)
    (subst (FiledIfOk (items_size items)) is ((items_filed world number names items).good here))

rise_length : (from : ℕ) (ts : List Token) (to : ℕ) → Rise from ts to → from + length ts ≤ to
rise_length from [] to h = omega (arith, h)
rise_length from (t ∷ ts) to h =
    let begins : from ≤ t.start = h.0 in
    let ends : t.start < t.end = h.1 in
    let rest : t.end + length ts ≤ to = rise_length t.end ts to h.2 in omega (arith, begins, ends, rest)

-- a text has at most as many tokens as bytes
pub kinds_within : (text : List ℕ) (tokens : List Token) → AreTokens text tokens → length (map (λ t. t.kind) tokens) ≤ length text
kinds_within text tokens are =
    let l : 0 + length tokens ≤ length text = rise_length 0 tokens (length text) (places text tokens are).rise in
    omega (arith, l, length-map tokens (λ t. t.kind))

pub bounded_by_bytes : (text : List ℕ) (tokens : List Token) (items : List ItemTree) (height : ℕ) → AreTokens text tokens
    → Derives forms.Project (map (λ t. t.kind) tokens) (Project items) height
    → (world : World) (number : ℕ) (names : FileNames) (here : Here) (b : Bound (List DeclData))
    → bind_items world number names items here ≡ Ok b → CountedWithin (length text) b
bounded_by_bytes text tokens items height are derives world number names here b is =
    counted_more (length (map (λ t. t.kind) tokens)) (length text) b (kinds_within text tokens are)
    (bounded (map (λ t. t.kind) tokens) items height derives world number names here b is)
