use Rattle.std.proofs.Common.{◌≡◌, ◌∙◌, ap, sym}
use Rattle.std.specs.FinMap.{get}
use Rattle.memo_format.specs.StoreNames.{at_list}
use Rattle.miss_reasons.proofs.reason.list_text.Goals as goal

pub returns-in-Found-clause-text : goal.returns-in-Found-clause-text
returns-in-Found-clause-text g c = λ S told.
    let named : c.as_str.result.now ≡ at_list c.args.weak.now = c.as_str.ensures.value ∙ c.in_ok-name.ensures.name in
    ap (get S) (sym named) ∙ c.in-Found.ensures.found S told

pub returns-in-None-clause-text : goal.returns-in-None-clause-text
returns-in-None-clause-text g c = λ S told.
    let named : c.as_str.result.now ≡ at_list c.args.weak.now = c.as_str.ensures.value ∙ c.in_ok-name.ensures.name in
    ap (get S) (sym named) ∙ c.in-None.ensures.found S told
