-- Where files of pips that keep the rules of the graph can lie below one another.
use Rattle.std.proofs.Common.{◌≡◌, ◌⊎◌, ℕ, true, false, List, map, Option, Some, sym, ◌∙◌, subst, inl, inr, arith, IsTrue}
use Rattle.std.specs.Prelude.{Contains, IsSomeAnd, slice_get}
use Rattle.std.proofs.lemmas.Bool.{cases_Bool, cases_lt, false≢true}
use Rattle.bx_tree.specs.Paths.{Atoms, IsBelow}
use Rattle.bx_tree.specs.Trees.{Files}
use Rattle.bx_tree.specs.Members.{Has}
use Rattle.bx_tree.proofs.Sets.{contains_has}
use Rattle.graph_check.specs.Rules.{KeepsRules}
use Rattle.graph_check.specs.declared.fault.GraphKind.TheVariants as rules
use Rattle.graph_check_outputs.specs.OutsideOut.{out_dir}
use Rattle.graph_check_outputs.specs.Outputs.{declared_files, outputs, PipHas as At}
use Rattle.graph_check_outputs.specs.Overlap.{Overlaps, Nested, OnePath, Unshared}
use Rattle.bx_tree.specs.Below.{is_below}
use Rattle.bx_tree.proofs.BelowPaths.{below_decides}
use Rattle.bx_tree.proofs.Members.{has_back, has_front, has_map}
use Rattle.pip_model_types.specs.declared.outputs.OutDir.{OutDir}
use Rattle.pip_model_types.specs.declared.pip.Pip.{Pip}
use Rattle.pip_model_types.specs.declared.pip.PipKind.{PipKind}
use Rattle.one_thread.specs.Keeping.{Makes}
use Rattle.one_thread.proofs.Prefixes.{Related, Below, Above, Same, below_above, both_above}
use Rattle.pip_model_types.specs.Kinds.{outdirs_of}

-- ## Rules

-- no two pips overlap, and none overlaps with itself
abbrev pub Apart : List Pip → Type 0
Apart pips = (i j : ℕ) → Overlaps pips i j → ⊥

pub kept_apart : (pips : List Pip) (tree : Files) → KeepsRules pips tree → Apart pips
kept_apart pips tree h i j o = elim (cases_lt i j) [
  | inl less ↦ h rules.Overlap j (i, omega (arith, less), inr o)
  | inr more ↦ h rules.Overlap i (j, more, inl o)
]

-- all outputs lie below `out`
abbrev pub AllBelowOut : List Pip → Type 0
AllBelowOut pips = (i : ℕ) (path : Atoms) → At outputs pips i path → IsBelow path out_dir

pub kept_below : (pips : List Pip) (tree : Files) → KeepsRules pips tree → AllBelowOut pips
kept_below pips tree h i path at = elim (cases_Bool (is_below path out_dir)) [
  | inl below ↦ (below_decides path out_dir).0 below
  | inr not_below ↦
      absurd (h rules.OutsideOut i (path, at, λ below. false≢true (sym not_below ∙ (below_decides path out_dir).1 below)))
]

-- ## What a pip declares

pub declares : {X : Type 0} (items : PipKind → List X) (pips : List Pip) (i : ℕ) (pip : Pip) (x : X) → slice_get pips i ≡ Some pip
    → Has (items pip.kind) x → At items pips i x
declares items pips i pip x at h =
    subst (λ (o : Option Pip). IsSomeAnd o (λ (p : Pip). Contains (items p.kind) x)) (sym at) (contains_has (items pip.kind) x h)

file_output : (pips : List Pip) (i : ℕ) (pip : Pip) (path : Atoms) → slice_get pips i ≡ Some pip → Has (declared_files pip.kind) path
    → At outputs pips i path
file_output pips i pip path at h =
    declares outputs pips i pip path at (has_front (declared_files pip.kind) (map (λ (d : OutDir). d.path) (outdirs_of pip.kind)) path h)

dir_output : (pips : List Pip) (i : ℕ) (pip : Pip) (dir : OutDir) → slice_get pips i ≡ Some pip → Has (outdirs_of pip.kind) dir
    → At outputs pips i dir.path
dir_output pips i pip dir at h =
    declares outputs pips i pip dir.path at
    (has_back (declared_files pip.kind) (map (λ (d : OutDir). d.path) (outdirs_of pip.kind)) dir.path (has_map (λ (d : OutDir). d.path) (outdirs_of pip.kind) dir h))

pub made_below : (pips : List Pip) (i : ℕ) (pip : Pip) (path : Atoms) → AllBelowOut pips → slice_get pips i ≡ Some pip → Makes pip.kind path
    → IsBelow path out_dir
made_below pips i pip path h at m = elim m [
  | inl file ↦ h i path (file_output pips i pip path at file)
  | inr dir ↦ below_above path dir.0.path out_dir dir.2 (h i dir.0.path (dir_output pips i pip dir.0 at dir.1))
]

-- ## Files below files

-- the directories of two pips are of one path, below which both files lie
pub record InOneDir (a b : PipKind) (p q : Atoms) : Type 0 where
  pub first : OutDir
  pub second : OutDir
  pub has_first : Has (outdirs_of a) first
  pub has_second : Has (outdirs_of b) second
  pub one_path : first.path ≡ second.path
  pub below_first : IsBelow p first.path
  pub below_second : IsBelow q second.path

module _ (pips : List Pip) (apart : Apart pips) (i j : ℕ) (a b : Pip) (at_a : slice_get pips i ≡ Some a) (at_b : slice_get pips j ≡ Some b)
    (p q : Atoms) (below : IsBelow p q) where
  -- a declared file lies below no file of a pip
  pub file_below : Has (declared_files a.kind) p → Makes b.kind q → ⊥
  file_below file m = elim m [
    | inl other ↦ apart i j (Nested (p, q, file_output pips i a p at_a file, file_output pips j b q at_b other, below))
    | inr dir ↦
        apart i j (Nested (p, dir.0.path, file_output pips i a p at_a file, dir_output pips j b dir.0 at_b dir.1, below_above p q dir.0.path below dir.2))
  ]

  -- no file of a pip lies below a declared file
  in_dir_below : (dir : OutDir) → Has (outdirs_of a.kind) dir → Has (declared_files b.kind) q → Related dir.path q → ⊥
  in_dir_below dir h file (Below r) = apart i j (Nested (dir.path, q, dir_output pips i a dir at_a h, file_output pips j b q at_b file, r))
  in_dir_below dir h file (Above r) = apart j i (Nested (q, dir.path, file_output pips j b q at_b file, dir_output pips i a dir at_a h, r))
  in_dir_below dir h file (Same r) =
      apart j i (OnePath (q, dir, declares declared_files pips j b q at_b file, declares outdirs_of pips i a dir at_a h, sym r))

  pub below_file : Makes a.kind p → Has (declared_files b.kind) q → ⊥
  below_file m file = elim m [
    | inl other ↦ file_below other (inl file)
    | inr dir ↦ in_dir_below dir.0 dir.1 file (both_above p dir.0.path q dir.2 below)
  ]

  two_dirs : (dir other : OutDir) → Has (outdirs_of a.kind) dir → Has (outdirs_of b.kind) other → IsBelow p dir.path → IsBelow q other.path
      → Related dir.path other.path → InOneDir a.kind b.kind p q
  two_dirs dir other h k m n (Below r) =
      absurd (apart i j (Nested (dir.path, other.path, dir_output pips i a dir at_a h, dir_output pips j b other at_b k, r)))
  two_dirs dir other h k m n (Above r) =
      absurd (apart j i (Nested (other.path, dir.path, dir_output pips j b other at_b k, dir_output pips i a dir at_a h, r)))
  two_dirs dir other h k m n (Same r) = record {
    first = dir;
    second = other;
    has_first = h;
    has_second = k;
    one_path = r;
    below_first = m;
    below_second = n;
  }

  -- one file of two pips below another is in one directory with it
  pub in_one_dir : Makes a.kind p → Makes b.kind q → InOneDir a.kind b.kind p q
  in_one_dir m n = elim m [
    | inl file ↦ absurd (file_below file n)
    | inr dir ↦ elim n [
      | inl other ↦ absurd (below_file (inr dir) other)
      | inr other ↦
          two_dirs dir.0 other.0 dir.1 other.1 dir.2 other.2
          (both_above p dir.0.path other.0.path dir.2 (below_above p q other.0.path below other.2))
    ]
  ]

-- ## Shared directories

-- one directory of two pips is shared by both
pub both_share : (pips : List Pip) → Apart pips → (i j : ℕ) (a b : Pip) (dir other : OutDir) → slice_get pips i ≡ Some a → slice_get pips j ≡ Some b
    → (i ≡ j → ⊥) → Has (outdirs_of a.kind) dir → Has (outdirs_of b.kind) other → dir.path ≡ other.path
    → (dir.shared ≡ true) × (other.shared ≡ true)
both_share pips apart i j a b dir other at_a at_b differ h k same = by_tests (cases_Bool dir.shared) (cases_Bool other.shared)
  where
    unshared : (IsTrue dir.shared → IsTrue other.shared → ⊥) → ⊥
    unshared none =
        apart i j
        (Unshared (differ, (dir, other, declares outdirs_of pips i a dir at_a h, declares outdirs_of pips j b other at_b k, same, none)))

    by_tests : ((dir.shared ≡ true) ⊎ (dir.shared ≡ false)) → ((other.shared ≡ true) ⊎ (other.shared ≡ false))
        → (dir.shared ≡ true) × (other.shared ≡ true)
    by_tests (inl s) (inl t) = (s, t)
    by_tests (inl s) (inr t) = absurd (unshared (λ u v. false≢true (sym t ∙ v)))
    by_tests (inr s) t = absurd (unshared (λ u v. false≢true (sym s ∙ u)))
