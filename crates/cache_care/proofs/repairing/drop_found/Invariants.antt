use Rattle.std.proofs.Common.{◌≡◌, ◌++◌, map, take}
use Rattle.std.specs.Prelude.{string_bytes}
use Rattle.bx_io.specs.Holdings.{Drop}
use Rattle.cache_care.specs.Planning.{planned_change}
use Rattle.cache_care.specs.Repairing.{names_found}
use Rattle.cache_care.proofs.repairing.drop_found.Given as goal

abbrev pub invariant-names : goal.invariant-names
invariant-names l =
    map planned_change l.plan.items
    ≡ map planned_change l.fn.plan.items
    ++ map Drop (names_found l.wanted (take l.place (map string_bytes l.survey.names.items)) (take l.place l.survey.findings.items))
