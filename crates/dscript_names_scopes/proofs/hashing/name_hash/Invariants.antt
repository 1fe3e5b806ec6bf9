use Rattle.std.proofs.Common.{◌≡◌, take, fold}
use Rattle.dscript_names_scopes.specs.Hashes.{text_hash}
use Rattle.dscript_names_scopes.specs.declared.hashing.TheConstants.{FIRST_HASH}
use Rattle.dscript_names_scopes.proofs.hashing.name_hash.Given as goal

abbrev pub invariant-parts : goal.invariant-parts
invariant-parts l = l.hash ≡ fold text_hash FIRST_HASH (take l.part-index l.parts)
