-- The report of a build that is refused before a pip runs.
use Rattle.std.specs.Prelude.{ℕ, nat_le, ◌&&◌, if◌then◌else◌, List, [], ◌++◌, map, take, codes}
use Rattle.std.specs.Fmt.{decimal}
use Rattle.std.specs.Option.{option_map_or}
use Rattle.bx_tree.specs.Paths.{Atoms, path_text}
use Rattle.dscript_program.specs.declared.place.Place.{Place}
use Rattle.build_report.specs.declared.refusal.Refusal.{Refusal}
use Rattle.build_report.specs.declared.refusal.Refusal.TheVariants.{Input, Specification}
use Rattle.build_report.specs.declared.refusal.TheConstants.{MAX_SHOWN_BYTES}

-- a byte as it is shown: a printable character of ASCII as it is, and any other as `?`
abbrev pub shown_byte : ℕ → ℕ
shown_byte b = if nat_le 32 b && nat_le b 126 then b else 63

abbrev pub shown_bytes : List ℕ → List ℕ
shown_bytes = map shown_byte

-- the bytes of a message that are shown, which are its first ones
abbrev pub shown_part : List ℕ → List ℕ
shown_part message = take MAX_SHOWN_BYTES message

abbrev pub message_text : List ℕ → List ℕ
message_text message = codes "message " ++ shown_bytes (shown_part message) ++ codes "\n"

abbrev pub place_text : Place → List ℕ
place_text place = codes "at " ++ decimal place.line ++ (codes " " ++ decimal place.column ++ codes "\n")

-- the lines up to the one that names a fault with its file
abbrev pub fault_text : List ℕ → Atoms → List ℕ
fault_text kind file =
    codes "report 1\nverdict specification-refused\nfault " ++ kind ++ codes " "
    ++ path_text file ++ codes "\n"

abbrev pub input_text : List ℕ → List ℕ
input_text kind = codes "report 1\nverdict input-refused\nfault " ++ kind ++ codes "\n"

-- The report of a refusal: its kind, and for a specification the file, with the message and the place that
-- the fault has.
abbrev pub refused_text : Refusal → List ℕ
refused_text (Input kind) = input_text kind
refused_text (Specification kind file message place) =
    fault_text kind file ++ option_map_or message_text message [] ++ option_map_or place_text place []
