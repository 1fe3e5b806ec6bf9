use Rattle.std.proofs.Common.{◌≡◌, map, take}
use Rattle.dscript_names.proofs.exported.import_names.Given as goal
use Rattle.bx_tree.specs.Lent.{texts_now}

abbrev pub invariant-imports : goal.invariant-imports
invariant-imports l = texts_now l.names.items ≡ map (λ i. i.name) (take l.import-index l.imports)
