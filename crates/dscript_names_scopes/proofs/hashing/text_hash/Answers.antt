use Rattle.std.proofs.Common.{rules, take_all}
use Rattle.std.proofs.hash.Loops.{byte_more}
use Rattle.dscript_names_scopes.proofs.hashing.text_hash.Goals as goal

pub bytes-preserved : goal.bytes-preserved
bytes-preserved c = search (rules, byte_more)

pub returns : goal.returns
returns c = search (rules, take_all)
