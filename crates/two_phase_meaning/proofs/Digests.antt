-- The names that digests of SHA-256 give: they tell digests and kinds apart.
use Rattle.std.proofs.Common.{◌≡◌, ℕ, List, sym, ap, ◌∙◌, arith}
use Rattle.hex.specs.Hex.{IsBytes, decode_of, encode_lower}
use Rattle.hex.proofs.HexLemmas.{decode_of-encode_lower}
use Rattle.bx_digest.specs.Digests.{IsDigest}
use Rattle.memo_format.specs.StoreNames.{at_blob, at_entry, at_list}

same_text : (a b : List ℕ) → IsBytes a → IsBytes b → encode_lower a ≡ encode_lower b → a ≡ b
same_text a b h k e =
    let both = sym (decode_of-encode_lower a h) ∙ ap decode_of e ∙ decode_of-encode_lower b k in cc

pub same_blob_name : (a b : List ℕ) → IsDigest a → IsDigest b → at_blob a ≡ at_blob b → a ≡ b
same_blob_name a b h k e = same_text a b h.bytes k.bytes (let t : encode_lower a ≡ encode_lower b = cc in t)

pub same_entry_name : (a b : List ℕ) → IsDigest a → IsDigest b → at_entry a ≡ at_entry b → a ≡ b
same_entry_name a b h k e = same_text a b h.bytes k.bytes (let t : encode_lower a ≡ encode_lower b = cc in t)

pub same_list_name : (a b : List ℕ) → IsDigest a → IsDigest b → at_list a ≡ at_list b → a ≡ b
same_list_name a b h k e = same_text a b h.bytes k.bytes (let t : encode_lower a ≡ encode_lower b = cc in t)

pub entry_no_blob : (a b : List ℕ) → at_entry a ≡ at_blob b → ⊥
entry_no_blob a b e = let kind : ◌≡◌ {A = ℕ} 101 98 = cc in absurd (omega (arith, kind))

pub blob_no_entry : (a b : List ℕ) → at_blob a ≡ at_entry b → ⊥
blob_no_entry a b e = entry_no_blob b a (sym e)

pub list_no_blob : (a b : List ℕ) → at_list a ≡ at_blob b → ⊥
list_no_blob a b e = let kind : ◌≡◌ {A = ℕ} 119 98 = cc in absurd (omega (arith, kind))

pub blob_no_list : (a b : List ℕ) → at_blob a ≡ at_list b → ⊥
blob_no_list a b e = list_no_blob b a (sym e)

pub list_no_entry : (a b : List ℕ) → at_list a ≡ at_entry b → ⊥
list_no_entry a b e = let kind : ◌≡◌ {A = ℕ} 119 101 = cc in absurd (omega (arith, kind))

pub entry_no_list : (a b : List ℕ) → at_entry a ≡ at_list b → ⊥
entry_no_list a b e = list_no_entry b a (sym e)
