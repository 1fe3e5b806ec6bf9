use Rattle.std.proofs.Common.{◌≡◌, ◌∙◌}
use Rattle.memo_format.specs.StoreNames.{at_blob}
use Rattle.content_store.proofs.HeldContents.{no_content}
use Rattle.cache_care_check.proofs.Noted.{call_kept, content_matched, not_failed}
use Rattle.cache_care_check.proofs.known.held_content.Goals as goal

pub returns-in-Found-clause-found : goal.returns-in-Found-clause-found
returns-in-Found-clause-found g c =
    let named : c.as_str.result.now ≡ at_blob c.args.digest.now = c.as_str.ensures.value ∙ c.in_ok-name.ensures.name in
    content_matched (g.K.Keeper.known c.get.new.self).held c.args.digest.now c.as_str.result.now c.in-Found.bytes c.content_of.result c.matched.result named
    c.in-Found.ensures.found c.content_of.ensures c.matched.ensures

pub returns-in-Found-clause-keeper : goal.returns-in-Found-clause-keeper
returns-in-Found-clause-keeper g c =
    call_kept (g.K.Keeper.bound c.args.keeper.now) (g.K.Keeper.bound c.get.new.self) (g.K.Keeper.faults c.args.keeper.now) (g.K.Keeper.faults c.get.new.self) _ _
    c.in-Found.ensures.bound c.in-Found.ensures.can_rise c.in-Found.ensures.cause c.in-Found.ensures.no_fault (λ e. cc)
    (not_failed c.args.digest.now c.in-Found.bytes.items c.content_of.result c.matched.result c.content_of.ensures c.matched.ensures)

pub returns-in-None-clause-found : goal.returns-in-None-clause-found
returns-in-None-clause-found g c =
    let named : c.as_str.result.now ≡ at_blob c.args.digest.now = c.as_str.ensures.value ∙ c.in_ok-name.ensures.name in
    no_content (g.K.Keeper.known c.get.new.self).held c.args.digest.now c.as_str.result.now named c.in-None.ensures.found
