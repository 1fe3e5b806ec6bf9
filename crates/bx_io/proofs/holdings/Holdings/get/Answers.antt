use Rattle.std.proofs.Common.{◌∙◌, sym, ap, option_map}
use Rattle.std.specs.FinMap.{get}
use Rattle.bx_io.proofs.Mapped.{get-holdings_of, items_lent}
use Rattle.bx_io.proofs.holdings.Holdings.get.Goals as goal

pub returns : goal.returns
returns c =
    items_lent c.get.result
    ∙ ap (option_map (λ v. v.items)) c.get.ensures.value
    ∙ sym (get-holdings_of c.self.inside.map c.args.name.now)
    ∙ ap (λ held. get held c.args.name.now) c.self.view_is
