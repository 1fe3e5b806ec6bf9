use Rattle.std.proofs.Common.{◌≡◌, ◌<◌, ◌+◌, length, take, take_all, fold, rules, arith}
use Rattle.dscript_names_scopes.specs.Hashes.{name_hash, text_hash}
use Rattle.dscript_names_scopes.specs.declared.hashing.TheConstants.{FIRST_HASH}
use Rattle.dscript_names_scopes.proofs.FoldSteps.{fold_more}
use Rattle.dscript_names_scopes.proofs.hashing.name_hash.Goals as goal

pub parts-preserved : goal.parts-preserved
parts-preserved c =
    let parts = c.args.parts.now in
    let i = c.parts.part-index in
    let part = c.part-item.result in
    let within : i < length parts = omega arith in
    let more : fold text_hash FIRST_HASH (take (i + 1) parts) ≡ text_hash (fold text_hash FIRST_HASH (take i parts)) part = fold_more text_hash FIRST_HASH parts i part within c.part-item.is in
    cc

pub returns : goal.returns
unfolding name_hash
returns c = search (rules, take_all)
