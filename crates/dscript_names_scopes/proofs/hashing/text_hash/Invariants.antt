use Rattle.std.proofs.Common.{◌≡◌, take, fold}
use Rattle.dscript_names_scopes.specs.Hashes.{byte_hash}
use Rattle.dscript_names_scopes.proofs.hashing.text_hash.Given as goal

abbrev pub invariant-bytes : goal.invariant-bytes
invariant-bytes l = l.hash ≡ fold byte_hash l.before (take l.byte-index l.bytes)
