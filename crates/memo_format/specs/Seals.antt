-- Seals: the last line of a stored form, which names the digest of all bytes before it.
use Rattle.std.specs.Prelude.{◌≡◌, ℕ, ◌-◌, List, ◌++◌, length, take, codes, Option, Some, None, Result, Ok}
use Rattle.std.specs.Prelude.{Err, if◌then◌else◌}
use Rattle.std.specs.Borrow.{Bor}
use Rattle.std.specs.Str.{bytes_eq}
use Rattle.sha2.specs.Sha256.{sha256}
use Rattle.prints.specs.Parts.{digest_part}
use Rattle.prints.specs.declared.fault.PrintFault.{PrintFault}
use Rattle.prints.specs.declared.fault.PrintFault.TheVariants as faults
use Rattle.memo_format.specs.declared.sealing.TheConstants.{SEAL_BYTES}

abbrev pub seal_line : List ℕ → List ℕ
seal_line body = codes "seal " ++ digest_part 10 (sha256 body)

-- a body with its seal
abbrev pub sealed : List ℕ → List ℕ
sealed body = body ++ seal_line body

-- what comes before the line of the seal, by its length
abbrev pub body_of : List ℕ → List ℕ
body_of text = take (length text - SEAL_BYTES) text

-- the body of a text whose seal fits
abbrev pub unsealed : List ℕ → Option (List ℕ)
unsealed text = if bytes_eq (sealed (body_of text)) text then Some (body_of text) else None

-- A function of the program gives what comes before the seal, unless memory runs out.
abbrev pub Unseals : Result (Bor (List ℕ)) PrintFault → List ℕ → Type 0
Unseals (Ok body) text = unsealed text ≡ Some body.now
Unseals (Err faults.BadPrint) text = unsealed text ≡ None
Unseals (Err faults.Memory) text = Unit {0}
