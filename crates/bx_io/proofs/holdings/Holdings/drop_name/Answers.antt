use Rattle.std.proofs.Common.{◌∙◌, ap, string_bytes}
use Rattle.std.specs.FinMap.{remove}
use Rattle.std.proofs.lemmas.Map.Views.{All-map-remove_entry}
use Rattle.bx_io.specs.Names.{IsName}
use Rattle.bx_io.proofs.Mapped.{holdings_drop}
use Rattle.bx_io.proofs.holdings.Holdings.drop_name.Goals as goal

pub invariant_of-self : goal.invariant_of-self
invariant_of-self c =
    rw c.remove.ensures.entries (All-map-remove_entry _ (λ e. e.0) (λ key. IsName (string_bytes key)) c.self.inside.map.entries c.self.invariant)

pub returns : goal.returns
returns c =
    holdings_drop c.args.name.now c.self.inside.map c.remove.new.self c.remove.ensures.updates
    ∙ ap (λ held. remove held c.args.name.now) c.self.view_is
