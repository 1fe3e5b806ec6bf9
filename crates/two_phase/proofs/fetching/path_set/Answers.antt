use Rattle.std.proofs.Common.{◌≡◌, ◌∙◌}
use Rattle.memo_format.specs.StoreNames.{at_blob}
use Rattle.two_phase.proofs.Fetched.{no_set, set_held, set_named}
use Rattle.two_phase.proofs.fetching.path_set.Goals as goal

pub returns-in-Found-clause-found : goal.returns-in-Found-clause-found
returns-in-Found-clause-found g c =
    let named : c.as_str.result.now ≡ at_blob c.args.digest.now = c.as_str.ensures.value ∙ c.in_ok-name.ensures.name in
    set_held (g.R.KeepReader.held c.get.new.self) c.args.digest.now c.as_str.result.now c.in-Found.bytes c.set_of.result named c.in-Found.ensures.found
    c.set_of.ensures.read

pub returns-in-Found-clause-digest : goal.returns-in-Found-clause-digest
returns-in-Found-clause-digest g c = set_named c.in-Found.bytes.items c.args.digest.now c.set_of.result c.set_of.ensures.read

pub returns-in-None-clause-found : goal.returns-in-None-clause-found
returns-in-None-clause-found g c =
    let named : c.as_str.result.now ≡ at_blob c.args.digest.now = c.as_str.ensures.value ∙ c.in_ok-name.ensures.name in
    no_set (g.R.KeepReader.held c.get.new.self) c.args.digest.now c.as_str.result.now named c.in-None.ensures.found
