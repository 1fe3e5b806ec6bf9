-- Lists of what is its own tree.
use Rattle.std.proofs.Common.{ℕ, ◌≤◌, List, map, Option, Result, Ok, Err, ap, ◌∙◌, arith}
use Rattle.std.specs.declared.alloc.Global.{Global}
use Rattle.std.specs.declared.vec.Vec.{Vec}
use Rattle.std.proofs.lemmas.List.{map-id}
use Rattle.dscript_grammar.specs.Reading.{Read, got}
use Rattle.dscript_parse_tokens.specs.Gives.{kinds, Gives}
use Rattle.dscript_parse_tokens.specs.declared.parsed.Parsed.{Parsed}
use Rattle.dscript_parse_tokens.specs.declared.parsed.Refusal.{Refusal}

pub as_they_are : {X : Type 0} (read : Option (Read (List X))) (limit bound : ℕ) (result : Result (Parsed (Vec X Global)) Refusal)
    → Gives (λ v. map (λ x. x) v.items) read limit bound result → Gives (λ v. v.items) read limit bound result
as_they_are read limit bound (Ok p) g = record {
  is = g.is ∙ ap (λ xs. got xs p.height (kinds p.rest.now)) (map-id p.value.items);
  within = g.within;
  shorter = g.shorter;
}
as_they_are read limit bound (Err fault) g = g

pub lower : {X T : Type 0} (view : X → T) (read : Option (Read T)) (limit bound : ℕ) (result : Result (Parsed X) Refusal)
    → Gives view read 0 bound result → Gives view read limit bound result
lower view read limit bound (Ok p) g = record { is = g.is; within = omega (arith, g.within); shorter = g.shorter }
lower view read limit bound (Err fault) g = g
