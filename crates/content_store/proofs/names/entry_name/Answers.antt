use Rattle.std.proofs.Common.{◌∷◌, ◌∙◌, List, ℕ, inr, refl, ap, sym, subst}
use Rattle.bx_io.specs.Names.{IsName}
use Rattle.content_store.proofs.NameTexts.{name_is}
use Rattle.content_store.proofs.names.entry_name.Goals as goal

pub returns-clause-is_name : goal.returns-clause-is_name
returns-clause-is_name c =
    subst IsName (sym c.in_ok-name.ensures)
    (name_is 101 c.args.strong.now (inr (inr refl)) c.bytes-bytes.ensures.is_digest)
