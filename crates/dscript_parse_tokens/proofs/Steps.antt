-- What is read after a first step.
use Rattle.std.proofs.Common.{◌≡◌, ℕ, ◌<◌, ◌≤◌, Option, Some, Result, Ok, Err, ◌∙◌, arith}
use Rattle.dscript_grammar.specs.Reading.{Read, and_then}
use Rattle.dscript_parse_tokens.specs.Gives.{kinds, Gives}
use Rattle.dscript_parse_tokens.specs.declared.parsed.Parsed.{Parsed}
use Rattle.dscript_parse_tokens.specs.declared.parsed.Refusal.{Refusal}
use Rattle.dscript_parse_tokens.specs.declared.parsed.Refusal.TheVariants as refusals
use Rattle.dscript_parse_tokens.proofs.Loops.{then_some}

pub then_gives : {A X T : Type 0} (view : X → T) {m : Option A} {x : A} (f : A → Option (Read T)) (limit bound more : ℕ) (result : Result (Parsed X) Refusal)
    → m ≡ Some x → bound < more → Gives view (f x) limit bound result → Gives view (and_then m f) limit more result
then_gives view f limit bound more (Ok p) e l g = record { is = then_some f e ∙ g.is; within = g.within; shorter = omega (arith, g.shorter, l) }
then_gives view f limit bound more (Err refusals.Syntax) e l none = then_some f e ∙ none
then_gives view f limit bound more (Err refusals.Memory) e l g = tt
