use Rattle.std.proofs.Common.{◌∷◌, ◌∙◌, List, ℕ, inl, refl, ap, sym, subst}
use Rattle.bx_io.specs.Names.{IsName}
use Rattle.content_store.proofs.NameTexts.{name_is}
use Rattle.content_store.proofs.names.blob_name.Goals as goal

pub returns-clause-is_name : goal.returns-clause-is_name
returns-clause-is_name c =
    subst IsName (sym c.in_ok-name.ensures)
    (name_is 98 c.args.digest.now (inl refl) c.bytes-bytes.ensures.is_digest)
