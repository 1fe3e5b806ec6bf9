-- Path sets that were read.
use Rattle.std.specs.Prelude.{◌≡◌, ℕ, List, Some}
use Rattle.sha2.specs.Sha256.{sha256}
use Rattle.observed.specs.Texts.{read_paths_text}
use Rattle.observed.specs.declared.ask.Ask.{Ask}

-- a text, its digest, and the asks of the path set that it is
pub record PathsText : Type 0 where
  pub text : List ℕ
  pub digest : List ℕ
  pub asks : List Ask

-- The text has this digest, and is read as these asks.
pub record IsPathsText (p : PathsText) : Type 0 where
  pub digest_is : p.digest ≡ sha256 p.text
  pub read : read_paths_text p.text ≡ Some p.asks
