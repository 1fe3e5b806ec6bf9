-- The test of patterns decides what a pattern is.
use Rattle.std.proofs.Common.{◌≡◌, ℕ, Bool, true, List, Option, Some, None, length, ap, sym, ◌∙◌, inl, inr, arith}
use Rattle.std.specs.Prelude.{◌&&◌, cond, nat_le, option_and_then}
use Rattle.std.specs.List.{list_all}
use Rattle.std.proofs.lemmas.Bool.{cases_Bool, and_parts}
use Rattle.std.proofs.lemmas.Bool.Decides.{nat_tests}
use Rattle.bx_tree.specs.Paths.{Atoms}
use Rattle.bx_tree.specs.Trees.{Files}
use Rattle.bx_tree.proofs.Lists.{true_all, all_true}
use Rattle.bx_path.specs.Joining.{join_of}
use Rattle.bx_path.specs.Globbing.{IsPattern, glob_of, is_pattern, is_pattern_byte}
use Rattle.bx_path.specs.declared.globbing.TheConstants.{MAX_PATTERN_BYTES}
use Rattle.dscript_names_workspace.specs.Lists.{GlobData, glob_in}

passes : (a b c : Bool) → a ≡ true → b ≡ true → c ≡ true → (a && b && c) ≡ true
passes a b c x y z = cc

pub pattern_passes : (text : List ℕ) → IsPattern text → is_pattern text ≡ true
pattern_passes text h =
    let some : nat_le 1 (length text) ≡ true = let l = h.some in grind (arith, nat_tests) in
    let short : nat_le (length text) MAX_PATTERN_BYTES ≡ true = let l = h.short in grind (arith, nat_tests) in
    let bytes = true_all is_pattern_byte text h.bytes in
    ap (λ t. t && nat_le (length text) MAX_PATTERN_BYTES && list_all is_pattern_byte text) some
    ∙ ap (λ t. t && list_all is_pattern_byte text) short ∙ bytes

pub pattern_is : (text : List ℕ) → is_pattern text ≡ true → IsPattern text
pattern_is text e =
    let low = nat_le 1 (length text) in
    let high = nat_le (length text) MAX_PATTERN_BYTES in
    let bytes = list_all is_pattern_byte text in
    let both = (and_parts (low && high) bytes e).0 in
    let some : low ≡ true = (and_parts low high both).0 in
    let short : high ≡ true = (and_parts low high both).1 in
    record {
      some = grind (arith, nat_tests, some);
      short = grind (arith, nat_tests, short);
      bytes = all_true is_pattern_byte text (and_parts (low && high) bytes e).1;
    }

abbrev if_pattern : Bool → List Atoms → Option (List Atoms)
if_pattern b paths = cond b (Some paths) None

at_path : (files : Files) (dir : Atoms) (call : GlobData) (path : Atoms) → join_of dir call.directory ≡ Some path
    → glob_in files dir call ≡ if_pattern (is_pattern call.pattern) (glob_of files path call.pattern call.deep)
at_path files dir call path e =
    ap (option_and_then (λ p. if_pattern (is_pattern call.pattern) (glob_of files p call.pattern call.deep))) e

pub globbed : (files : Files) (dir : Atoms) (call : GlobData) (path : Atoms) (paths : List Atoms)
    → join_of dir call.directory ≡ Some path → IsPattern call.pattern
    → paths ≡ glob_of files path call.pattern call.deep → glob_in files dir call ≡ Some paths
globbed files dir call path paths e h is =
    at_path files dir call path e
    ∙ ap (λ b. if_pattern b (glob_of files path call.pattern call.deep)) (pattern_passes call.pattern h)
    ∙ ap Some (sym is)

pub not_globbed : (files : Files) (dir : Atoms) (call : GlobData) (path : Atoms)
    → join_of dir call.directory ≡ Some path → (IsPattern call.pattern → ⊥) → glob_in files dir call ≡ None
not_globbed files dir call path e n = elim (cases_Bool (is_pattern call.pattern)) [
  | inl passed ↦ absurd (n (pattern_is call.pattern passed))
  | inr failed ↦
      at_path files dir call path e
      ∙ ap (λ b. if_pattern b (glob_of files path call.pattern call.deep)) failed
]
