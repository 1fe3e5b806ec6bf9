use Rattle.std.proofs.Common.{◌≡◌, drop}
use Rattle.std.specs.List.{find}
use Rattle.std.specs.Str.{bytes_eq}
use Rattle.dscript_types_notes.specs.KnownNames.{written_name}
use Rattle.dscript_types_notes.proofs.known_names.find_name.Given as goal

abbrev pub invariant-names : goal.invariant-names
invariant-names l =
    find (λ known. bytes_eq (written_name known) l.name) (drop l.known-index l.names)
    ≡ find (λ known. bytes_eq (written_name known) l.name) l.names
