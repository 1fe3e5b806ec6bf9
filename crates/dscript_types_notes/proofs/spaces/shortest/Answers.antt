use Rattle.std.proofs.Common.{◌≡◌, List, [], ◌∷◌, ◌++◌, ℕ, ap, arith, length, sym, ◌∙◌}
use Rattle.std.proofs.lemmas.Bool.Decides.{nat_tests}
use Rattle.std.specs.Option.{option_map}
use Rattle.dscript_program.specs.ProgramData.{Dotted}
use Rattle.dscript_types_meaning.specs.Lookups.{Place}
use Rattle.dscript_types_notes.specs.Found.{found_in}
use Rattle.dscript_types_notes.proofs.Shorter.{shortest_last}
use Rattle.dscript_types_notes.proofs.spaces.shortest.Goals as goal

pub returns-then-is_empty : goal.returns-then-is_empty
returns-then-is_empty c =
    let empty = sym c.is_empty.ensures ∙ c.if-is_empty.true in
    let none : length c.in-Some.rest.now ≡ 0 = grind (arith, nat_tests) in
    c.found_whole.ensures
    ∙ ap
    (λ (d : Dotted). option_map (λ (place : Place). (place, c.in-Some.rest.now)) (found_in c.args.names.now c.args.space d))
    (c.new-whole.ensures ∙ c.in_ok-push.ensures.items ∙ ap (λ (x : List ℕ). c.prefixes.parts.items ++ x ∷ []) c.in_ok-share.ensures)
    ∙ shortest_last (found_in c.args.names.now c.args.space) c.prefixes.parts.items c.prefixes.left.now c.in-Some.rest.now
    c.in-Some.first.now _ c.in-Some.ensures.cases.0 none c.prefixes.invariant
