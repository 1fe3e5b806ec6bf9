-- The operator at the start of tokens is the one with the spelling of the first.
use Rattle.std.proofs.Common.{◌≡◌, ℕ, Bool, true, false, cond, List, [], ◌∷◌, Option, Some, None, codes, refl, ap, ◌∙◌}
use Rattle.std.specs.Prelude.{bytes_eq}
use Rattle.dscript_lex.specs.declared.token.TokenKind.{TokenKind}
use Rattle.dscript_lex.specs.declared.token.TokenKind.TheVariants as kinds
use Rattle.dscript_grammar.specs.Reading.{Read, got, choose, pick, is_punctuator_bytes, take_punctuator_bytes}
use Rattle.dscript_ast.specs.Operators.{spelling}
use Rattle.dscript_grammar.specs.ExprReading.{read_one_of, read_operator}
use Rattle.dscript_ast.specs.declared.operator.BinaryOp.{BinaryOp}
use Rattle.dscript_parse_exprs.specs.Spelled.{binary_operators, operator_spelled, read_spelled, spelled_among}

one_more : (b : Bool) (op : BinaryOp) (ops : List BinaryOp) (text : List ℕ) (ts : List TokenKind)
    (rest : Option (Read BinaryOp)) → rest ≡ choose (spelled_among ops text) None (λ o. got o 0 ts)
    → choose (pick b (Some ts) None) rest (λ r. got op 0 r)
    ≡ choose (cond b (Some op) (spelled_among ops text)) None (λ o. got o 0 ts)
unfolding choose pick
one_more true op ops text ts rest e = refl
one_more false op ops text ts rest e = e

read_among : (ops : List BinaryOp) (text : List ℕ) (ts : List TokenKind)
    → read_one_of ops (kinds.Punct text ∷ ts) ≡ choose (spelled_among ops text) None (λ o. got o 0 ts)
unfolding read_one_of take_punctuator_bytes choose
read_among [] text ts = refl
read_among (op ∷ ops) text ts =
    one_more (bytes_eq text (codes (spelling op))) op ops text ts (read_one_of ops (kinds.Punct text ∷ ts))
    (read_among ops text ts)

none_among : (ops : List BinaryOp) (t : TokenKind) (ts : List TokenKind)
    → ((s : List ℕ) → is_punctuator_bytes s t ≡ false) → read_one_of ops (t ∷ ts) ≡ None
unfolding read_one_of take_punctuator_bytes choose pick
none_among [] t ts other = refl
none_among (op ∷ ops) t ts other =
    ap (λ b. choose (pick b (Some ts) None) (read_one_of ops (t ∷ ts)) (λ r. got op 0 r))
    (other (codes (spelling op)))
    ∙ none_among ops t ts other

nothing_among : (ops : List BinaryOp) → read_one_of ops [] ≡ None
unfolding read_one_of take_punctuator_bytes choose
nothing_among [] = refl
nothing_among (op ∷ ops) = nothing_among ops

pub same_operator : (ts : List TokenKind) → read_operator ts ≡ read_spelled ts
unfolding read_operator read_spelled operator_spelled
same_operator [] = nothing_among binary_operators
same_operator (kinds.Punct text ∷ ts) = read_among binary_operators text ts
same_operator (kinds.Word w ∷ ts) = none_among binary_operators (kinds.Word w) ts (λ s. refl)
same_operator (kinds.Number n ∷ ts) = none_among binary_operators (kinds.Number n) ts (λ s. refl)
same_operator (kinds.Str w ∷ ts) = none_among binary_operators (kinds.Str w) ts (λ s. refl)
same_operator (kinds.Whole w ∷ ts) = none_among binary_operators (kinds.Whole w) ts (λ s. refl)
same_operator (kinds.Head w ∷ ts) = none_among binary_operators (kinds.Head w) ts (λ s. refl)
same_operator (kinds.Middle w ∷ ts) = none_among binary_operators (kinds.Middle w) ts (λ s. refl)
same_operator (kinds.Tail w ∷ ts) = none_among binary_operators (kinds.Tail w) ts (λ s. refl)
