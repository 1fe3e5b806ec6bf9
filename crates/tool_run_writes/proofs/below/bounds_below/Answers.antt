use Rattle.std.proofs.Common.{◌≡◌, ◌≢◌, ◌∙◌, ◌++◌, true, false, true≢false, ℕ, List, [], Option, Some, IfSome, ap, sym, subst, codes}
use Rattle.std.specs.declared.ops.Bound.TheVariants.{Included, Excluded, Unbounded}
use Rattle.std.specs.BTreeMap.Range.{IsLeBy, range_contains}
use Rattle.std.specs.Str.{bytes_eq}
use Rattle.std.proofs.lemmas.Slice.Eq.{bytes_eq-Decides}
use Rattle.bx_tree.specs.Paths.{Atoms, path_cmp, path_text}
use Rattle.tool_run_writes.proofs.Bounds.{forward_to, within_both, within_start}
use Rattle.tool_run_writes.proofs.below.bounds_below.Goals as goal

some_atoms : (dir : Atoms) (text : List ℕ) → text ≡ path_text dir → false ≡ bytes_eq text (codes ".") → dir ≢ []
some_atoms dir text is other none =
    true≢false (sym ((bytes_eq-Decides text (codes ".")).1 (is ∙ ap path_text none)) ∙ sym other)

next_text : (dir : Atoms) (o : Option Atoms) (next : Atoms) → o ≡ Some next → IfSome o (λ p. path_text p ≡ path_text dir ++ codes "0")
    → path_text next ≡ path_text dir ++ codes "0"
next_text dir o next is h = subst (λ (x : Option Atoms). IfSome x (λ p. path_text p ≡ path_text dir ++ codes "0")) is h

pub returns-in-Some-clause-forward : goal.returns-in-Some-clause-forward
returns-in-Some-clause-forward c =
    subst (λ (d : Atoms). IsLeBy path_cmp d c.in-Some.path) (sym c.in_ok-share.ensures)
    (forward_to c.args.dir.now c.in-Some.path (next_text c.args.dir.now _ c.in-Some.path c.in-Some.is c.in_ok-path.ensures))

pub returns-in-Some-clause-within : goal.returns-in-Some-clause-within
returns-in-Some-clause-within c = λ q below.
    subst (λ (d : Atoms). range_contains path_cmp (Included d) (Excluded c.in-Some.path) q ≡ true) (sym c.in_ok-share.ensures)
    (within_both c.args.dir.now c.in-Some.path q (next_text c.args.dir.now _ c.in-Some.path c.in-Some.is c.in_ok-path.ensures)
    (some_atoms c.args.dir.now c.text.result.now c.text.ensures.text c.if-eq.ensures) below)

pub returns-in-None-clause-within : goal.returns-in-None-clause-within
returns-in-None-clause-within c = λ q below.
    subst (λ (d : Atoms). range_contains path_cmp (Included d) Unbounded q ≡ true) (sym c.in_ok-share.ensures)
    (within_start c.args.dir.now q (some_atoms c.args.dir.now c.text.result.now c.text.ensures.text c.if-eq.ensures) below)
