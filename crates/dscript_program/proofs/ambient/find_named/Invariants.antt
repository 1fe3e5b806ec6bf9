use Rattle.std.proofs.Common.{◌≡◌, ◌≢◌, take}
use Rattle.std.specs.List.{All}
use Rattle.dscript_program.specs.Ambient.{written_name}
use Rattle.dscript_program.specs.declared.ambient.Ambient.{Ambient}
use Rattle.dscript_program.proofs.ambient.find_named.Given as goal

abbrev pub invariant-calls : goal.invariant-calls
invariant-calls l = All (λ (call : Ambient). written_name call ≢ l.name) (take l.call-index l.calls)
