-- Digests, and the texts that name them.
use Rattle.std.specs.Prelude.{◌≡◌, ℕ, List, length, Contains}
use Rattle.std.specs.List.{All}
use Rattle.hex.specs.Hex.{IsBytes, lower_digits}
use Rattle.bx_digest.specs.declared.digest.TheConstants.{DIGEST_BYTES, HEX_DIGITS}

-- a digest, as SHA-256 (FIPS 180-4, section 6.2) gives it: 32 bytes
pub record IsDigest (digest : List ℕ) : Type 0 where
  pub size : length digest ≡ DIGEST_BYTES
  pub bytes : IsBytes digest

-- the text of a digest: 64 of the digits `0` to `9` and `a` to `f`
pub record IsHexText (text : List ℕ) : Type 0 where
  pub size : length text ≡ HEX_DIGITS
  pub digits : All (Contains lower_digits) text
