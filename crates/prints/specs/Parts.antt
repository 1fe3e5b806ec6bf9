-- The parts of stored texts, each ended by a given byte: how they are written, and how they are read.
use Rattle.std.specs.Prelude.{ℕ, ◌^◌, Bool, false, ◌&&◌, ◌||◌, ◌==◌, nat_lt, if◌then◌else◌, List, [], ◌∷◌}
use Rattle.std.specs.Prelude.{◌++◌, length, take, drop, Option, Some, None, Result, Ok, Err}
use Rattle.std.specs.Fmt.{decimal}
use Rattle.std.specs.Str.{bytes_eq}
use Rattle.std.specs.Str.Parse.{digits_value}
use Rattle.hex.specs.Hex.{decode_sized, encode_lower}
use Rattle.hex.specs.declared.error.FromHexError.{FromHexError}
use Rattle.bx_tree.specs.Paths.{Atoms, path_text}
use Rattle.bx_digest.specs.declared.digest.TheConstants.{DIGEST_BYTES}
use Rattle.observed.specs.Texts.{after_prefix, named_path}
use Rattle.prints.specs.Reading.{Taken, ◌>>=◌}

-- ## Written

-- a path, the root as `.`
abbrev pub path_part : ℕ → Atoms → List ℕ
path_part end path = path_text path ++ end ∷ []

-- a digest, in 64 hexadecimal digits in lower case
abbrev pub digest_part : ℕ → List ℕ → List ℕ
digest_part end digest = encode_lower digest ++ end ∷ []

-- a number, in decimal without leading zeros
abbrev pub number_part : ℕ → ℕ → List ℕ
number_part end number = decimal number ++ end ∷ []

-- any bytes: how many, a space, and they themselves
abbrev pub counted_part : ℕ → List ℕ → List ℕ
counted_part end bytes = number_part 32 (length bytes) ++ (bytes ++ end ∷ [])

-- ## Read

abbrev pub with_first : ℕ → Taken (List ℕ) → Taken (List ℕ)
with_first b None = None
with_first b (Some part) = Some (b ∷ part.0, part.1)

-- what comes before the first such byte, and what comes after it
abbrev pub part_at : ℕ → List ℕ → Taken (List ℕ)
part_at end [] = None
part_at end (b ∷ bs) = if b == end then Some ([], bs) else with_first b (part_at end bs)

abbrev pub path_at : ℕ → List ℕ → Taken Atoms
path_at end text = part_at end text >>= λ part. named_path part.0 >>= λ path. Some (path, part.1)

abbrev pub if_written : List ℕ → Result (List ℕ) FromHexError → Option (List ℕ)
if_written text (Ok digest) = if bytes_eq (encode_lower digest) text then Some digest else None
if_written text (Err fault) = None

-- the digest that is written so
abbrev pub named_digest : List ℕ → Option (List ℕ)
named_digest text = if_written text (decode_sized text DIGEST_BYTES)

abbrev pub digest_at : ℕ → List ℕ → Taken (List ℕ)
digest_at end text = part_at end text >>= λ part. named_digest part.0 >>= λ digest. Some (digest, part.1)

-- the number below 2 ^ 64 that is written so
abbrev pub named_number : List ℕ → Option ℕ
named_number text =
    let number = digits_value 10 text in
    if nat_lt number (2 ^ 64) && bytes_eq (decimal number) text then Some number else None

abbrev pub number_at : ℕ → List ℕ → Taken ℕ
number_at end text = part_at end text >>= λ part. named_number part.0 >>= λ number. Some (number, part.1)

-- that many bytes, and the byte after them
abbrev pub bytes_at : ℕ → ℕ → List ℕ → Taken (List ℕ)
bytes_at count end text = after_prefix (end ∷ []) (drop count text) >>= λ rest. Some (take count text, rest)

abbrev pub counted_at : ℕ → List ℕ → Taken (List ℕ)
counted_at end text = number_at 32 text >>= λ count. bytes_at count.0 end count.1

-- whether a text begins with a plus, or with a zero before something else
abbrev pub odd_start : List ℕ → Bool
odd_start [] = false
odd_start (b ∷ bs) = b == 43 || (b == 48 && nat_lt 0 (length bs))
