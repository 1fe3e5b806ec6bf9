use Rattle.std.proofs.Common.{◌∙◌, ap, string_bytes}
use Rattle.std.specs.String.{string_cmp}
use Rattle.std.specs.FinMap.{insert}
use Rattle.std.proofs.lemmas.Map.Views.{All-keys-insert_entry}
use Rattle.bx_io.specs.Names.{IsName}
use Rattle.bx_io.proofs.Mapped.{holdings_put}
use Rattle.bx_io.proofs.holdings.Holdings.put.Goals as goal

pub invariant_of-self-2 : goal.invariant_of-self-2
invariant_of-self-2 c =
    rw c.in_ok-insert.ensures.entries (All-keys-insert_entry string_cmp c.args.name c.args.bytes (λ key. IsName (string_bytes key)) c.self.inside.map.entries c.self.invariant c.requires)

pub returns-clause-held : goal.returns-clause-held
returns-clause-held c =
    holdings_put (string_bytes c.args.name) c.self.inside.map c.insert.new.self c.args.bytes c.in_ok-insert.ensures.updates
    ∙ ap (λ held. insert held (string_bytes c.args.name) c.args.bytes.items) c.self.view_is
