use Rattle.std.proofs.Common.{◌≡◌, take, nat_lt}
use Rattle.std.specs.List.{filter}
use Rattle.dscript_names_binding.specs.Seen.{HasNumbers}
use Rattle.dscript_names_binding.specs.Walk.{each_once}
use Rattle.dscript_names_binding.proofs.functions.captured.Given as goal

abbrev pub invariant-names : goal.invariant-names
invariant-names l = record {
  captured : l.captured.items ≡ each_once (filter (λ n. nat_lt n l.first) (take l.name-index l.names));
  seen : HasNumbers l.captured.items l.seen;
}
