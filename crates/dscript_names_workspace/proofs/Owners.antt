-- The files that a module implies are those whose deepest listed directory is the module's.
use mathlib.Core.Path.{fun_ext}
use Rattle.std.proofs.Common.{◌≡◌, ◌<◌, ◌+◌, ℕ, suc, Bool, true, false, not, List, [], ◌∷◌, ◌++◌, Option, Some, None, length, take, get_or, cond, refl, ap, sym, ◌∙◌, subst, inl, inr, arith}
use Rattle.std.specs.Prelude.{◌&&◌, ◌||◌, filter}
use Rattle.std.specs.Bool.{MatchBool}
use Rattle.std.specs.List.{list_any}
use Rattle.std.proofs.lemmas.Bool.{cases_Bool, false≢true, and_left, and_from}
use Rattle.std.proofs.Math.Seq.{take-suc}
use Rattle.std.proofs.lemmas.List.{map-append}
use Rattle.std.proofs.lemmas.List.Elements.{filter-append}
use Rattle.bx_tree.specs.Paths.{Atoms, has_path, same_path}
use Rattle.bx_tree.specs.Orders.{same_path_decides}
use Rattle.bx_tree.specs.Trees.{paths_of}
use Rattle.bx_tree.specs.Views.{files_of}
use Rattle.bx_tree.specs.declared.tree_file.TreeFile.{TreeFile}
use Rattle.dscript_names_workspace.specs.Paths.{is_module_file, is_specification}
use Rattle.bx_tree.specs.Below.{is_below}
use Rattle.bx_tree.proofs.BelowPaths.{below_decides}
use Rattle.dscript_names_workspace.specs.Membership.{is_between, is_config, is_deeper, is_implied}
use Rattle.dscript_names_workspace.specs.PathSets.{IsDeepest, IsOwner, is_owner, may_belong}
use Rattle.dscript_names_workspace.proofs.Deepest.{comparable}

-- ## One of a list

none_of : (dirs : List Atoms) (test : Atoms → Bool) → ((q : Atoms) → has_path dirs q ≡ true → test q ≡ false)
    → list_any test dirs ≡ false
none_of [] test h = refl
none_of (d ∷ ds) test h =
    ap (λ b. b || list_any test ds) (h d (ap (λ b. b || has_path ds d) ((same_path_decides d d).1 refl)))
    ∙ none_of ds test (λ q m. h q (ap (λ b. same_path d q || b) m ∙ or_true (same_path d q)))
  where
    or_true : (b : Bool) → (b || true) ≡ true
    or_true true = refl
    or_true false = refl

some_of : (dirs : List Atoms) (test : Atoms → Bool) (q : Atoms) → has_path dirs q ≡ true → test q ≡ true
    → list_any test dirs ≡ true
some_of [] test q m t = absurd (false≢true m)
some_of (d ∷ ds) test q m t = elim (cases_Bool (same_path d q)) [
  | inl same ↦ ap (λ b. b || list_any test ds) (ap test ((same_path_decides d q).0 same) ∙ t)
  | inr differ ↦
      ap (λ b. test d || b) (some_of ds test q (sym (ap (λ b. b || has_path ds q) differ) ∙ m) t) ∙ or_true (test d)
]
  where
    or_true : (b : Bool) → (b || true) ≡ true
    or_true true = refl
    or_true false = refl

-- ## The deepest directory

below_and : (b d : Bool) → b ≡ true → d ≡ false → (b && not d) ≡ true
below_and true false e f = refl
below_and true true e f = cc
below_and false d e f = cc

and_not : (b d : Bool) → d ≡ true → (b && not d) ≡ false
and_not true true e = refl
and_not false d e = refl
and_not true false e = cc

other_dir : (dirs : List Atoms) (path own dir : Atoms) → has_path dirs own ≡ true → has_path dirs dir ≡ true
    → is_below path own ≡ true → is_below path dir ≡ true → same_path own dir ≡ false
    → (is_below dir own && is_below path dir) ≡ false → is_deeper dirs dir path ≡ true
other_dir dirs path own dir m n b c differ last =
    let above = (below_decides path own).0 b in
    let above' = (below_decides path dir).0 c in
    elim (comparable path own dir above.0 above'.0 above.2 above'.2) [
      | inl same ↦ absurd (false≢true (sym differ ∙ (same_path_decides own dir).1 same))
      | inr apart ↦ elim apart [
        | inl deeper ↦
            some_of dirs (is_between dir path) own m
            (and_from (is_below own dir) (is_below path own) ((below_decides own dir).1 deeper) b)
        | inr higher ↦
            absurd (false≢true (sym last ∙ and_from (is_below dir own) (is_below path dir) ((below_decides dir own).1 higher) c))
      ]
    ]

at_owner : (dirs : List Atoms) (path own dir : Atoms) → has_path dirs own ≡ true → has_path dirs dir ≡ true
    → is_below path own ≡ true → ((q : Atoms) → has_path dirs q ≡ true → (is_below q own && is_below path q) ≡ false)
    → (is_below path dir && not (is_deeper dirs dir path)) ≡ same_path own dir
at_owner dirs path own dir m n b last = elim (cases_Bool (same_path own dir)) [
  | inl same ↦
      let is = (same_path_decides own dir).0 same in
      below_and (is_below path dir) (is_deeper dirs dir path) (ap (λ d. is_below path d) (sym is) ∙ b)
      (ap (λ d. is_deeper dirs d path) (sym is) ∙ none_of dirs (is_between own path) last) ∙ sym same
  | inr differ ↦ elim (cases_Bool (is_below path dir)) [
    | inl c ↦
        and_not (is_below path dir) (is_deeper dirs dir path) (other_dir dirs path own dir m n b c differ (last dir n))
        ∙ sym differ
    | inr c ↦ and_left (is_below path dir) (not (is_deeper dirs dir path)) c ∙ sym differ
  ]
]

at_deepest : (dirs : List Atoms) (path : Atoms) (owner : Option Atoms) (dir : Atoms) → IsDeepest (has_path dirs) path owner
    → has_path dirs dir ≡ true → (is_below path dir && not (is_deeper dirs dir path)) ≡ is_owner owner dir
at_deepest dirs path None dir h n = and_left (is_below path dir) (not (is_deeper dirs dir path)) (h dir n)
at_deepest dirs path (Some own) dir h n = at_owner dirs path own dir h.0 n h.1 h.2

-- ## The files of a module

reordered : (a b c d e : Bool) → (a && b && c && d && e) ≡ ((b && c && d) && (a && e))
reordered true true c d e = refl
reordered true false c d e = refl
reordered false true true true e = refl
reordered false true true false e = refl
reordered false true false d e = refl
reordered false false c d e = refl

implied_by_owner : (b : Bool) (dirs : List Atoms) (path : Atoms) (owner : Option Atoms) (dir : Atoms)
    → MatchBool b (IsDeepest (has_path dirs) path owner) (owner ≡ None) → has_path dirs dir ≡ true
    → (b && (is_below path dir && not (is_deeper dirs dir path))) ≡ is_owner owner dir
implied_by_owner true dirs path owner dir h n = at_deepest dirs path owner dir h n
implied_by_owner false dirs path owner dir h n = ap (λ o. is_owner o dir) (sym h)

pub is_implied_at : (dirs : List Atoms) (path : Atoms) (owner : Option Atoms) (dir : Atoms) → IsOwner (has_path dirs) path owner
    → has_path dirs dir ≡ true → is_implied dirs dir path ≡ is_owner owner dir
is_implied_at dirs path owner dir h n =
    reordered (is_below path dir) (is_specification path) (not (is_config path)) (not (is_module_file path))
    (not (is_deeper dirs dir path))
    ∙ implied_by_owner (may_belong path) dirs path owner dir h n

paths-more : (files : List TreeFile) (i : ℕ) (file : TreeFile) → i < length files → file ≡ get_or files i file
    → paths_of (files_of (take (i + 1) files)) ≡ paths_of (files_of (take i files)) ++ file.path ∷ []
paths-more files i file l is =
    ap (λ n. paths_of (files_of (take n files))) (let n : i + 1 ≡ suc i = omega arith in n)
    ∙ ap (λ fs. paths_of (files_of fs)) (take-suc files i file l)
    ∙ ap paths_of (map-append (λ (f : TreeFile). (f.path, f.bytes.items)) (take i files) (get_or files i file ∷ []))
    ∙ map-append (λ (f : Atoms × List ℕ). f.0) (files_of (take i files)) (files_of (get_or files i file ∷ []))
    ∙ ap (λ (f : TreeFile). paths_of (files_of (take i files)) ++ f.path ∷ []) (sym is)

-- the implied files among one file more
pub implied_more : (files : List TreeFile) (i : ℕ) (file : TreeFile) (dirs : List Atoms) (test : Atoms → Bool)
    (owner : Option Atoms) (dir : Atoms) (before after : List Atoms) → i < length files → file ≡ get_or files i file
    → ((q : Atoms) → test q ≡ has_path dirs q) → IsOwner test file.path owner → has_path dirs dir ≡ true
    → before ≡ filter (is_implied dirs dir) (paths_of (files_of (take i files)))
    → after ≡ before ++ cond (is_owner owner dir) (file.path ∷ []) []
    → after ≡ filter (is_implied dirs dir) (paths_of (files_of (take (i + 1) files)))
implied_more files i file dirs test owner dir before after l is same h m e f =
    let h' = subst (λ (t : Atoms → Bool). IsOwner t file.path owner) (fun_ext same) h in
    f ∙ ap (λ xs. xs ++ cond (is_owner owner dir) (file.path ∷ []) []) e
    ∙ ap (λ b. filter (is_implied dirs dir) (paths_of (files_of (take i files))) ++ cond b (file.path ∷ []) [])
    (sym (is_implied_at dirs file.path owner dir h' m))
    ∙ sym (filter-append (is_implied dirs dir) (paths_of (files_of (take i files))) (file.path ∷ []))
    ∙ ap (filter (is_implied dirs dir)) (sym (paths-more files i file l is))
