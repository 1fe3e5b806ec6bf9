-- Patterns by a test, and what lies below a directory.
use Rattle.std.proofs.Common.{◌≡◌, ℕ, true, false, ◌&&◌, nat_le, List, length, inl, inr}
use Rattle.std.specs.List.{list_all}
use Rattle.std.proofs.lemmas.Bool.{and_from, and_parts, cases_Bool, le-leb, leb-true}
use Rattle.bx_tree.proofs.Lists.{true_all, all_true}
use Rattle.bx_path.specs.Globbing.{IsPattern, is_pattern, is_pattern_byte}
use Rattle.bx_path.specs.declared.globbing.TheConstants.{MAX_PATTERN_BYTES}

pub is_pattern_true : (text : List ℕ) → IsPattern text → is_pattern text ≡ true
is_pattern_true text h =
    and_from _ _ (and_from _ _ (le-leb 1 (length text) h.some) (le-leb (length text) MAX_PATTERN_BYTES h.short)) (true_all is_pattern_byte text h.bytes)

pub is_pattern_false : (text : List ℕ) → (IsPattern text → ⊥) → is_pattern text ≡ false
is_pattern_false text n = elim (cases_Bool (is_pattern text)) [
  | inl e ↦
      let a = and_parts (nat_le 1 (length text) && nat_le (length text) MAX_PATTERN_BYTES) (list_all is_pattern_byte text) e in
      let b = and_parts (nat_le 1 (length text)) (nat_le (length text) MAX_PATTERN_BYTES) a.0 in
      absurd (n (record {
        some = leb-true 1 (length text) b.0;
        short = leb-true (length text) MAX_PATTERN_BYTES b.1;
        bytes = all_true is_pattern_byte text a.1;
      }))
  | inr e ↦ e
]
