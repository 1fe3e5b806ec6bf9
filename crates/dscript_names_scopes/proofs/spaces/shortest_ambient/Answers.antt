use Rattle.std.proofs.Common.{◌≡◌, ◌+◌, ℕ, List, [], ◌∷◌, ◌++◌, Some, None, length, eqb, ap, sym, ◌∙◌, arith}
use Rattle.std.specs.List.{join_with_byte}
use Rattle.std.specs.Option.{option_map}
use Rattle.std.proofs.lemmas.List.{length-append}
use Rattle.dscript_program.specs.declared.target.Target.TheVariants as targets
use Rattle.dscript_names_scopes.specs.Lookup.{ambient_of, shortest}
use Rattle.dscript_names_scopes.specs.Spaces.{with_part}
use Rattle.dscript_names_scopes.proofs.AmbientCalls.{find_named, find_no_named}
use Rattle.dscript_names_scopes.proofs.Joining.{joined-with}
use Rattle.dscript_names_scopes.proofs.ShortestPrefixes.{shortest_here, shortest_later}
use Rattle.dscript_names_scopes.proofs.spaces.shortest_ambient.Goals as goal

pub returns-in-Some-named : goal.returns-in-Some-named
returns-in-Some-named c =
    let inv = c.prefixes.invariant in
    let x : List ℕ = c.in-Some.first.now in
    let text : c.add_part.new.text.items ≡ join_with_byte 46 (inv.0 ++ x ∷ []) =
    c.in_ok-add_part.ensures ∙ ap (λ n. with_part (eqb n 0) c.prefixes.text.items x) inv.2
    ∙ ap (λ t. with_part (eqb (length inv.0) 0) t x) inv.1 ∙ sym (joined-with inv.0 x) in
    let found : ambient_of (inv.0 ++ x ∷ []) ≡ Some (targets.Ambient c.in-Some-named.call) =
    ap (option_map targets.Ambient) (find_named c.in-Some-named.call _ (c.in-Some-named.ensures ∙ c.as_slice.ensures.value ∙ text)) in
    sym (shortest_here ambient_of c.prefixes.parts inv.0 c.prefixes.left.now x c.in-Some.rest.now c.in-Some.ensures.cases.0 (targets.Ambient c.in-Some-named.call) found) ∙ inv.3

pub prefixes-preserved : goal.prefixes-preserved
prefixes-preserved c =
    let inv = c.prefixes.invariant in
    let x : List ℕ = c.in-Some.first.now in
    let text : c.add_part.new.text.items ≡ join_with_byte 46 (inv.0 ++ x ∷ []) =
    c.in_ok-add_part.ensures ∙ ap (λ n. with_part (eqb n 0) c.prefixes.text.items x) inv.2
    ∙ ap (λ t. with_part (eqb (length inv.0) 0) t x) inv.1 ∙ sym (joined-with inv.0 x) in
    let none : ambient_of (inv.0 ++ x ∷ []) ≡ None =
    ap (option_map targets.Ambient) (find_no_named _ (λ call e. c.in_default-named.ensures call (e ∙ sym (c.as_slice.ensures.value ∙ text)))) in
    let left : length c.prefixes.left.now ≡ length (x ∷ c.in-Some.rest.now) = ap (λ (xs : List (List ℕ)). length xs) c.in-Some.ensures.cases.0 in (
      inv.0 ++ x ∷ [],
      text,
      omega (arith, inv.2, length-append inv.0 (x ∷ [])),
      sym (shortest_later ambient_of c.prefixes.parts inv.0 c.prefixes.left.now x c.in-Some.rest.now c.in-Some.ensures.cases.0 none) ∙ inv.3,
      omega (arith, left, inv.4),
    )
