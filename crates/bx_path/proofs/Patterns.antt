-- The test of patterns decides what a pattern is, and a pattern has only bytes of patterns.
use Rattle.std.proofs.Common.{◌≡◌, ℕ, true, false, List, [], ◌∷◌, length, ap, sym, ◌∙◌, inl, inr, arith, IsTrue}
use Rattle.std.specs.Prelude.{◌&&◌, ◌==◌, nat_le}
use Rattle.std.specs.List.{AllByRecursion, list_all}
use Rattle.std.proofs.lemmas.Bool.{cases_Bool, and_parts}
use Rattle.std.proofs.lemmas.Bool.Decides.{Decides-eqb, nat_tests}
use Rattle.bx_tree.proofs.Lists.{true_all, all_true}
use Rattle.bx_path.specs.Globbing.{IsPattern, is_pattern, is_pattern_byte}
use Rattle.bx_path.specs.declared.globbing.TheConstants.{MAX_PATTERN_BYTES}

pub pattern_passes : (text : List ℕ) → IsPattern text → is_pattern text ≡ true
pattern_passes text h =
    let some : nat_le 1 (length text) ≡ true = let l = h.some in grind (arith, nat_tests) in
    let short : nat_le (length text) MAX_PATTERN_BYTES ≡ true = let l = h.short in grind (arith, nat_tests) in
    let bytes = true_all is_pattern_byte text h.bytes in
    ap (λ t. t && nat_le (length text) MAX_PATTERN_BYTES && list_all is_pattern_byte text) some
    ∙ ap (λ t. t && list_all is_pattern_byte text) short ∙ bytes

pub pattern_is : (text : List ℕ) → is_pattern text ≡ true → IsPattern text
pattern_is text e =
    let low = nat_le 1 (length text) in
    let high = nat_le (length text) MAX_PATTERN_BYTES in
    let bytes = list_all is_pattern_byte text in
    let both = (and_parts (low && high) bytes e).0 in
    let some : low ≡ true = (and_parts low high both).0 in
    let short : high ≡ true = (and_parts low high both).1 in
    record {
      some = grind (arith, nat_tests, some);
      short = grind (arith, nat_tests, short);
      bytes = all_true is_pattern_byte text (and_parts (low && high) bytes e).1;
    }

-- a byte that is none of patterns is not in one
byte_lacks : (end b : ℕ) → is_pattern_byte end ≡ false → is_pattern_byte b ≡ true → (b == end) ≡ false
byte_lacks end b none e = elim (cases_Bool (b == end)) [
  | inl same ↦ let clash : false ≡ true = sym none ∙ ap is_pattern_byte (sym ((Decides-eqb b end).0 same)) ∙ e in cc
  | inr other ↦ other
]

pub bytes_lack : (end : ℕ) (text : List ℕ) → is_pattern_byte end ≡ false → AllByRecursion (λ b. IsTrue (is_pattern_byte b)) text
    → AllByRecursion (λ b. (b == end) ≡ false) text
bytes_lack end [] none h = tt
bytes_lack end (b ∷ bs) none h = (byte_lacks end b none h.0, bytes_lack end bs none h.1)
