-- The hash of a dotted name: FNV-1a of 64 bits over its parts, one after the other.
use Rattle.std.specs.Prelude.{ℕ, ◌*◌, ◌%◌, ◌^◌, List, bit_xor, fold}
use Rattle.dscript_program.specs.ProgramData.{Dotted}
use Rattle.dscript_names_scopes.specs.declared.hashing.TheConstants.{FIRST_HASH, HASH_FACTOR}

-- the hash of what comes before, with one more byte
abbrev pub byte_hash : ℕ → ℕ → ℕ
byte_hash before byte = (bit_xor before byte * HASH_FACTOR) % 2 ^ 64

-- the hash of what comes before, with a text after it
abbrev pub text_hash : ℕ → List ℕ → ℕ
text_hash before text = fold byte_hash before text

unfoldable pub name_hash : Dotted → ℕ
name_hash name = fold text_hash FIRST_HASH name
