use Rattle.std.proofs.Common.{◌≡◌, ◌-◌, ◌∙◌, false, true, length, take, drop, ap, sym, subst, arith}
use Rattle.std.proofs.lemmas.List.{length-drop, take_all}
use Rattle.bx_digest.specs.Digests.{IsHexText}
use Rattle.cache_care_check.proofs.NameParts.{hex_text}
use Rattle.cache_care_check.proofs.names.read_name.Goals as goal

pub unreachable-requires : goal.unreachable-requires
unreachable-requires c =
    let bytes = c.as_bytes-bytes.result.now in
    let text : take (length bytes - 2) (drop 2 bytes) ≡ drop 2 c.args.name.now =
    take_all (length bytes - 2) (drop 2 bytes) (omega (arith, length-drop 2 bytes)) ∙ ap (drop 2) c.as_bytes-bytes.ensures.value in
    let never : false ≡ true = c.in-Err.ensures.digits.1 (subst IsHexText (sym text) (hex_text c.args.name.now c.requires)) in
    absurd cc
