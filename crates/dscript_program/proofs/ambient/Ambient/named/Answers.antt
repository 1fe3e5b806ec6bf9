use Rattle.std.proofs.Common.{◌≡◌, ◌≢◌, ℕ, List, Option, Some, None, lit<}
use Rattle.std.specs.List.{All}
use Rattle.std.specs.Option.{MatchOption}
use Rattle.dscript_program.specs.Ambient.{written_name}
use Rattle.dscript_program.specs.declared.ambient.Ambient.{Ambient}
use Rattle.dscript_program.specs.declared.ambient.TheConstants.{AMBIENT_CALLS}
use Rattle.dscript_program.proofs.AllCalls.{of_every_call}
use Rattle.dscript_program.proofs.ambient.Ambient.named.Goals as goal

-- nothing found among all calls is nothing found at all
nothing_else : (name : List ℕ) (r : Option Ambient)
    → MatchOption r (All (λ (call : Ambient). written_name call ≢ name) AMBIENT_CALLS) (λ call. written_name call ≡ name)
    → MatchOption r ((call : Ambient) → written_name call ≢ name) (λ call. written_name call ≡ name)
nothing_else name (Some call) h = h
nothing_else name None h = of_every_call (λ call. written_name call ≢ name) h

pub returns : goal.returns
returns c = nothing_else c.args.name.now c.find_named.result c.find_named.ensures
