use Rattle.std.proofs.Common.{◌≡◌, ◌∙◌}
use Rattle.memo_format.specs.StoreNames.{at_blob}
use Rattle.graph_memo.proofs.Usable.{bytes_decide, none_decides}
use Rattle.graph_memo.proofs.finding.is_text_held.Goals as goal

pub returns-in-Found-clause-held : goal.returns-in-Found-clause-held
returns-in-Found-clause-held g c =
    let named : c.as_str.result.now ≡ at_blob c.args.digest.now = c.as_str.ensures.value ∙ c.in_ok-name.ensures.name in
    bytes_decide (g.R.KeepReader.held c.get.new.self) c.args.digest.now c.as_str.result.now c.in-Found.bytes c.as_slice.result.now c.has_digest_of.result named
    c.in-Found.ensures.found c.as_slice.ensures.value c.has_digest_of.ensures

pub returns-in-None-clause-held : goal.returns-in-None-clause-held
returns-in-None-clause-held g c =
    let named : c.as_str.result.now ≡ at_blob c.args.digest.now = c.as_str.ensures.value ∙ c.in_ok-name.ensures.name in
    none_decides (g.R.KeepReader.held c.get.new.self) c.args.digest.now c.as_str.result.now named c.in-None.ensures.found
