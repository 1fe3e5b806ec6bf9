-- Operators before an operand, from the nearest on.
use Rattle.std.proofs.Common.{◌≡◌, List, [], ◌∷◌, ◌++◌, Option, Some, None, refl, ap, sym, ◌∙◌}
use Rattle.std.specs.Option.{option_and_then}
use Rattle.dscript_ast.specs.declared.operator.UnaryOp.{UnaryOp}
use Rattle.dscript_types_meaning.specs.Operators.{prefixed, prefixed_by}
use Rattle.dscript_types_meaning.specs.Types.{TypeData}

and_some : (o : Option TypeData) → o ≡ option_and_then (λ (t : TypeData). Some t) o
and_some None = refl
and_some (Some t) = refl

and_twice
    : (f g : TypeData → Option TypeData) (o : Option TypeData)
    → option_and_then f (option_and_then g o) ≡ option_and_then (λ (t : TypeData). option_and_then f (g t)) o
and_twice f g None = refl
and_twice f g (Some t) = refl

prefixed_last
    : (ops : List UnaryOp) (op : UnaryOp) (t : TypeData)
    → prefixed (ops ++ op ∷ []) t ≡ option_and_then (prefixed ops) (prefixed_by op t)
unfolding prefixed
prefixed_last [] op t = and_some (prefixed_by op t)
prefixed_last (o ∷ ops) op t =
    ap (option_and_then (prefixed_by o)) (prefixed_last ops op t)
    ∙ and_twice (prefixed_by o) (prefixed ops) (prefixed_by op t)

module _ (left before : List UnaryOp) (op : UnaryOp) (t : TypeData) (o whole : Option TypeData) (split : left ≡ before ++ op ∷ [])
    (is : o ≡ prefixed_by op t) (kept : prefixed left t ≡ whole) where
  first_acts : option_and_then (prefixed before) o ≡ whole
  first_acts =
      ap (option_and_then (prefixed before)) is ∙ sym (prefixed_last before op t)
      ∙ sym (ap (λ ops. prefixed ops t) split) ∙ kept

  -- the nearest operator acts
  pub prefix_acts : (u : TypeData) → o ≡ Some u → prefixed before u ≡ whole
  prefix_acts u some = sym (ap (option_and_then (prefixed before)) some) ∙ first_acts

  -- it has no answer
  pub prefix_stops : o ≡ None → None ≡ whole
  prefix_stops none = sym (ap (option_and_then (prefixed before)) none) ∙ first_acts

-- all have acted
pub prefix_ends : (left : List UnaryOp) (t : TypeData) (whole : Option TypeData) → left ≡ [] → prefixed left t ≡ whole → Some t ≡ whole
unfolding prefixed
prefix_ends left t whole e kept = sym (ap (λ ops. prefixed ops t) e) ∙ kept
