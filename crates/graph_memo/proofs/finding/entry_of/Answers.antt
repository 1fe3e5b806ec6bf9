use Rattle.std.proofs.Common.{◌≡◌, ◌∙◌}
use Rattle.memo_format.specs.StoreNames.{at_entry}
use Rattle.graph_memo.proofs.Usable.{entry_given, entry_key, no_entry}
use Rattle.graph_memo.proofs.finding.entry_of.Goals as goal

pub returns-in-Found-clause-found : goal.returns-in-Found-clause-found
returns-in-Found-clause-found g c =
    let named : c.as_str.result.now ≡ at_entry c.args.key.now = c.as_str.ensures.value ∙ c.in_ok-name.ensures.name in
    entry_given (g.R.KeepReader.held c.get.new.self) c.args.key.now c.as_str.result.now c.in-Found.bytes c.as_slice.result.now c.entry_in.result named
    c.in-Found.ensures.found c.as_slice.ensures.value c.entry_in.ensures.checks

pub returns-in-Found-clause-key : goal.returns-in-Found-clause-key
returns-in-Found-clause-key g c = entry_key c.as_slice.result.now c.args.key.now c.entry_in.result c.entry_in.ensures.checks

pub returns-in-None-clause-found : goal.returns-in-None-clause-found
returns-in-None-clause-found g c =
    let named : c.as_str.result.now ≡ at_entry c.args.key.now = c.as_str.ensures.value ∙ c.in_ok-name.ensures.name in
    no_entry (g.R.KeepReader.held c.get.new.self) c.args.key.now c.as_str.result.now named c.in-None.ensures.found
