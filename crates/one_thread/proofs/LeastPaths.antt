-- The first path for which a process fails is the least.
use Rattle.std.proofs.Common.{◌≡◌, ℕ, zero, suc, ◌+◌, ◌≤◌, Bool, true, false, cond, List, [], ◌∷◌, filter, Option, Some, None, refl, sym, ap, ◌∙◌, subst, inl, inr, arith}
use Rattle.std.specs.Prelude.{is_none, slice_get}
use Rattle.std.specs.declared.cmp.Ordering.{Ordering}
use Rattle.std.specs.declared.cmp.Ordering.TheVariants.{Less}
use Rattle.std.specs.List.{AllByRecursion}
use Rattle.std.specs.List.Sorted.{IsStrictlySortedBy}
use Rattle.std.proofs.lemmas.Bool.{both_ways}
use Rattle.std.proofs.lemmas.Option.{same_Some}
use Rattle.bx_tree.specs.Members.{Has}
use Rattle.bx_tree.specs.Orders.{path_cmp_total}
use Rattle.bx_tree.specs.Paths.{Atoms, path_cmp}
use Rattle.bx_tree.specs.Trees.{Files, file_at, paths_of}
use Rattle.bx_tree.proofs.Members.{has_all}
use Rattle.bx_tree.proofs.Sets.{never_both}
use Rattle.pip_model_types.specs.Made.{RisingFiles}
use Rattle.pip_model_types.specs.declared.outputs.OutDir.{OutDir}
use Rattle.pip_model_types.specs.declared.pip.Pip.{Pip}
use Rattle.run_record.specs.Outcomes.{first_missing}
use Rattle.violations.specs.DoubleWrites.{clash_of, first_clash, has_clash, is_shared, least_clash, or_next, shared_paths}
use Rattle.violations.specs.Verdicts.{with_pip}
use Rattle.violations.specs.declared.verdict.DeedKind.TheVariants as deeds
use Rattle.violations.specs.declared.verdict.Violation.{Violation}
use Rattle.violations.specs.declared.verdict.ViolationKind.TheVariants as violations
use Rattle.one_thread.specs.Least.{Clashes, IsLeastClash, IsLeastMissing}

-- ## Order

-- no path of a sorted list is below its first
none_below : (first other : Atoms) (rest : List Atoms) → AllByRecursion (λ y. path_cmp first y ≡ Less) rest → Has (first ∷ rest) other
    → path_cmp other first ≡ Less → ⊥
none_below first other rest all h less = elim h [
  | inl same ↦
      let self : path_cmp first first ≡ Less = subst (λ p. path_cmp p first ≡ Less) (sym same) less in
      never_both path_cmp_total first first self self
  | inr later ↦ never_both path_cmp_total first other (has_all (λ y. path_cmp first y ≡ Less) rest other all later) less
]

-- ## Missing outputs

none_is : (o : Option (List ℕ)) → is_none o ≡ true → o ≡ None
none_is None e = refl
none_is (Some x) e = absurd cc

some_is : (o : Option (List ℕ)) → is_none o ≡ false → o ≡ None → ⊥
some_is None e n = absurd cc
some_is (Some x) e n = absurd cc

-- the first of some outputs, where nothing was written at it or something was
least_at : (out : Atoms) (outs : List Atoms) (writes : Files) (path : Atoms) → AllByRecursion (λ y. path_cmp out y ≡ Less) outs
    → (first_missing outs writes ≡ Some path → IsLeastMissing outs writes path) → (b : Bool) → is_none (file_at writes out) ≡ b
    → cond b (Some out) (first_missing outs writes) ≡ Some path → IsLeastMissing (out ∷ outs) writes path
least_at out outs writes path below more true t is =
    let same : out ≡ path = same_Some out path is in
    subst (IsLeastMissing (out ∷ outs) writes) same (record {
      among = inl refl;
      missing = none_is (file_at writes out) t;
      least = λ other h none less. none_below out other outs below h less;
    })
least_at out outs writes path below more false t is =
    let rest : IsLeastMissing outs writes path = more is in
    record {
      among = inr rest.among;
      missing = rest.missing;
      least = λ other h none less. elim h [
        | inl same ↦ some_is (file_at writes out) t (ap (file_at writes) same ∙ none)
        | inr later ↦ rest.least other later none less
      ];
    }

pub least_missing : (outs : List Atoms) (writes : Files) (path : Atoms) → IsStrictlySortedBy path_cmp outs → first_missing outs writes ≡ Some path
    → IsLeastMissing outs writes path
unfolding IsStrictlySortedBy
least_missing [] writes path sorted e = absurd cc
least_missing (out ∷ outs) writes path sorted e =
    least_at out outs writes path sorted.0 (λ is. least_missing outs writes path sorted.1 is) (is_none (file_at writes out)) refl e

-- ## Clashes

-- the pip that is given clashes, and no pip before it does
record IsFirstPip (path : Atoms) (j : ℕ) (pips : List Pip) (made : List Files) (n : ℕ) : Type 0 where
  place : ℕ
  place_is : n ≡ j + place
  clashes : Clashes pips made path place
  first : (k : ℕ) → Clashes pips made path k → place ≤ k

one_later : (pip : Pip) (files : Files) (pips : List Pip) (made : List Files) (path : Atoms) (k : ℕ) → Clashes pips made path k
    → Clashes (pip ∷ pips) (files ∷ made) path (suc k)
one_later pip files pips made path k c = record { pip = c.pip; files = c.files; at = c.at; made_at = c.made_at; clash = c.clash }

one_earlier : (pip : Pip) (files : Files) (pips : List Pip) (made : List Files) (path : Atoms) (k : ℕ) → Clashes (pip ∷ pips) (files ∷ made) path (suc k)
    → Clashes pips made path k
one_earlier pip files pips made path k c = record { pip = c.pip; files = c.files; at = c.at; made_at = c.made_at; clash = c.clash }

-- the pip that comes first does not clash
not_first : (pip : Pip) (files : Files) (pips : List Pip) (made : List Files) (path : Atoms) → has_clash path pip.kind files ≡ false
    → Clashes (pip ∷ pips) (files ∷ made) path 0 → ⊥
not_first pip files pips made path t c =
    let p : pip ≡ c.pip = same_Some pip c.pip c.at in
    let f : files ≡ c.files = same_Some files c.files c.made_at in
    both_ways (has_clash path pip.kind files) t
    (ap (λ (q : Pip). has_clash path q.kind files) p ∙ ap (λ (fs : Files). has_clash path c.pip.kind fs) f ∙ c.clash)

no_earlier : (pip : Pip) (files : Files) (pips : List Pip) (made : List Files) (path : Atoms) (j n : ℕ) → has_clash path pip.kind files ≡ false
    → (rest : IsFirstPip path j pips made n) → (k : ℕ) → Clashes (pip ∷ pips) (files ∷ made) path k → suc rest.place ≤ k
no_earlier pip files pips made path j n t rest zero c = absurd (not_first pip files pips made path t c)
no_earlier pip files pips made path j n t rest (suc k) c =
    let l = rest.first k (one_earlier pip files pips made path k c) in omega (arith, l)

pip_at : (path : Atoms) (j : ℕ) (pip : Pip) (pips : List Pip) (files : Files) (made : List Files) (n : ℕ)
    → (least_clash path (j + 1) pips made ≡ Some n → IsFirstPip path (j + 1) pips made n) → (b : Bool) → has_clash path pip.kind files ≡ b
    → cond b (Some j) (least_clash path (j + 1) pips made) ≡ Some n → IsFirstPip path j (pip ∷ pips) (files ∷ made) n
pip_at path j pip pips files made n more true t is =
    let same : j ≡ n = same_Some j n is in
    record {
      place = 0;
      place_is = omega (arith, same);
      clashes = record { pip = pip; files = files; at = refl; made_at = refl; clash = t };
      first = λ k c. omega arith;
    }
pip_at path j pip pips files made n more false t is =
    let rest : IsFirstPip path (j + 1) pips made n = more is in
    let is_n : n ≡ (j + 1) + rest.place = rest.place_is in
    record {
      place = suc rest.place;
      place_is = omega (arith, is_n);
      clashes = one_later pip files pips made path rest.place rest.clashes;
      first = λ k c. no_earlier pip files pips made path (j + 1) n t rest k c;
    }

first_pip : (path : Atoms) (j : ℕ) (pips : List Pip) (made : List Files) (n : ℕ) → least_clash path j pips made ≡ Some n → IsFirstPip path j pips made n
first_pip path j [] made n e = absurd cc
first_pip path j (pip ∷ pips) [] n e = absurd cc
first_pip path j (pip ∷ pips) (files ∷ made) n e =
    pip_at path j pip pips files made n (λ is. first_pip path (j + 1) pips made n is) (has_clash path pip.kind files) refl e

-- where no pip is given, none clashes
none_at : (path : Atoms) (j : ℕ) (pip : Pip) (pips : List Pip) (files : Files) (made : List Files)
    → (least_clash path (j + 1) pips made ≡ None → (k : ℕ) → Clashes pips made path k → ⊥) → (b : Bool) → has_clash path pip.kind files ≡ b
    → cond b (Some j) (least_clash path (j + 1) pips made) ≡ None → (k : ℕ) → Clashes (pip ∷ pips) (files ∷ made) path k → ⊥
none_at path j pip pips files made more true t is k c = absurd cc
none_at path j pip pips files made more false t is zero c = not_first pip files pips made path t c
none_at path j pip pips files made more false t is (suc k) c = more is k (one_earlier pip files pips made path k c)

none_clashes : (path : Atoms) (j : ℕ) (pips : List Pip) (made : List Files) → least_clash path j pips made ≡ None → (k : ℕ) → Clashes pips made path k → ⊥
none_clashes path j [] made e zero c = let never : None ≡ Some c.pip = c.at in absurd cc
none_clashes path j [] made e (suc k) c = let never : None ≡ Some c.pip = c.at in absurd cc
none_clashes path j (pip ∷ pips) [] e zero c = let never : None ≡ Some c.files = c.made_at in absurd cc
none_clashes path j (pip ∷ pips) [] e (suc k) c = let never : None ≡ Some c.files = c.made_at in absurd cc
none_clashes path j (pip ∷ pips) (files ∷ made) e k c =
    none_at path j pip pips files made (λ is. none_clashes path (j + 1) pips made is) (has_clash path pip.kind files) refl e k c

clash_from : (path : Atoms) (paths : List Atoms) (before : List Pip) (made : List Files) (v : Violation) → AllByRecursion (λ y. path_cmp path y ≡ Less) paths
    → (first_clash paths before made ≡ Some v → IsLeastClash paths before made v) → (o : Option ℕ) → least_clash path 0 before made ≡ o
    → or_next path o (first_clash paths before made) ≡ Some v → IsLeastClash (path ∷ paths) before made v
clash_from path paths before made v below more (Some n) t is =
    let first : IsFirstPip path 0 before made n = first_pip path 0 before made n t in
    let place : first.place ≡ n = let i = first.place_is in omega (arith, i) in
    let same : with_pip violations.DoubleWrite deeds.Write path n ≡ v = same_Some (with_pip violations.DoubleWrite deeds.Write path n) v is in
    subst (IsLeastClash (path ∷ paths) before made) same (record {
      among = inl refl;
      pip = n;
      names = refl;
      clashes = subst (Clashes before made path) place first.clashes;
      least_pip = λ j c. let l = first.first j c in omega (arith, l, place);
      least = λ other j h c less. none_below path other paths below h less;
    })
clash_from path paths before made v below more None t is =
    let rest : IsLeastClash paths before made v = more is in
    record {
      among = inr rest.among;
      pip = rest.pip;
      names = rest.names;
      clashes = rest.clashes;
      least_pip = rest.least_pip;
      least = λ other j h c less. elim h [
        | inl same ↦ none_clashes path 0 before made t j (subst (λ p. Clashes before made p j) (sym same) c)
        | inr later ↦ rest.least other j later c less
      ];
    }

least_path : (paths : List Atoms) (before : List Pip) (made : List Files) (v : Violation) → IsStrictlySortedBy path_cmp paths
    → first_clash paths before made ≡ Some v → IsLeastClash paths before made v
unfolding IsStrictlySortedBy
least_path [] before made v sorted e = absurd cc
least_path (path ∷ paths) before made v sorted e =
    clash_from path paths before made v sorted.0 (λ is. least_path paths before made v sorted.1 is) (least_clash path 0 before made) refl e

-- ## Paths in shared directories

kept_by : (P : Atoms → Type 0) (p : Atoms) (rest : List Atoms) → P p → AllByRecursion P rest → (b : Bool) → AllByRecursion P (cond b (p ∷ rest) rest)
kept_by P p rest here more true = (here, more)
kept_by P p rest here more false = more

all_kept : (P : Atoms → Type 0) (test : Atoms → Bool) (paths : List Atoms) → AllByRecursion P paths → AllByRecursion P (filter test paths)
all_kept P test [] h = tt
all_kept P test (p ∷ ps) h = kept_by P p (filter test ps) h.0 (all_kept P test ps h.1) (test p)

sorted_by : (p : Atoms) (rest : List Atoms) → AllByRecursion (λ y. path_cmp p y ≡ Less) rest → IsStrictlySortedBy path_cmp rest → (b : Bool)
    → IsStrictlySortedBy path_cmp (cond b (p ∷ rest) rest)
unfolding IsStrictlySortedBy
sorted_by p rest below sorted true = (below, sorted)
sorted_by p rest below sorted false = sorted

sorted_kept : (test : Atoms → Bool) (paths : List Atoms) → IsStrictlySortedBy path_cmp paths → IsStrictlySortedBy path_cmp (filter test paths)
unfolding IsStrictlySortedBy
sorted_kept test [] h = tt
sorted_kept test (p ∷ ps) h =
    sorted_by p (filter test ps) (all_kept (λ y. path_cmp p y ≡ Less) test ps h.0) (sorted_kept test ps h.1) (test p)

pub least_shared : (before : List Pip) (made : List Files) (dirs : List OutDir) (files : Files) (violation : Violation) → RisingFiles files
    → clash_of before made dirs files ≡ Some violation → IsLeastClash (shared_paths dirs files) before made violation
least_shared before made dirs files violation rising is =
    least_path (shared_paths dirs files) before made violation (sorted_kept (is_shared dirs) (paths_of files) rising) is
