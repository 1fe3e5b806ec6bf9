-- Directories at, above and below a path, by texts.
use Rattle.std.proofs.Common.{◌≡◌, ◌≢◌, ℕ, ◌+◌, ◌<◌, ◌≤◌, Bool, true, false, List, [], ◌∷◌, ◌++◌, ◌⊎◌, filter, length, take, get_or, codes, refl, ap, sym, ◌∙◌, subst, inl, inr, arith, length-append}
use Rattle.std.specs.Prelude.{Contains}
use Rattle.std.proofs.lemmas.Bool.{cases_lt}
use Rattle.std.proofs.lemmas.List.{take_more}
use Rattle.std.proofs.lemmas.List.Elements.{filter-append}
use Rattle.bx_tree.specs.Paths.{Atoms, IsBelow, path_text}
use Rattle.bx_tree.proofs.PathTexts.{prefix_from_below}
use Rattle.bx_tree.specs.Sets.{IsSetOf}
use Rattle.pip_model_types.specs.Dirs.{dir_cmp, dir_path}
use Rattle.pip_model_types.specs.declared.dir_inputs.DirInput.{DirInput}
use Rattle.pip_view_directories.specs.Around.{AreAround, HasText, IsAround, IsOver, IsPart, IsTextAround, IsUnder}
use Rattle.pip_view_directories.specs.Ranges.{AddsAll, AreOthers, is_other}
use Rattle.pip_view_directories.proofs.Between.{adds_both, adds_fewer, adds_none}
use Rattle.pip_view_directories.proofs.Rising.{filter_from, filter_keeps, none_there}

-- ## Above a path, part by part

take_before : (xs ys : List ℕ) → take (length xs) (xs ++ ys) ≡ xs
take_before [] ys = refl
take_before (x ∷ xs) ys = ap (λ zs. x ∷ zs) (take_before xs ys)

at_slash : (xs ys : List ℕ) → get_or (xs ++ 47 ∷ ys) (length xs) 0 ≡ 47
at_slash [] ys = refl
at_slash (x ∷ xs) ys = at_slash xs ys

-- the directory has the text before one of the first slashes
abbrev pub IsFirst : List ℕ → ℕ → DirInput → Type 0
IsFirst text place dir = (m : ℕ) × (m < place) × IsPart text m dir

pub over_none : (text : List ℕ) (dirs old : List DirInput) → AddsAll dirs (IsFirst text 0) old old
over_none text dirs old = adds_none (IsFirst text 0) dirs old (λ d (m, l, is). omega (arith, l))

pub over_more : (text : List ℕ) (place : ℕ) (dirs old mid new : List DirInput) → AddsAll dirs (IsFirst text place) old mid
    → AddsAll dirs (IsPart text place) mid new → AddsAll dirs (IsFirst text (place + 1)) old new
over_more text place dirs old mid new h k =
    adds_fewer (λ d. IsFirst text place d ⊎ IsPart text place d) (IsFirst text (place + 1)) dirs old new
    (λ d (m, l, is). elim (cases_lt m place) [
      | inl before ↦ inl (m, before, is)
      | inr past ↦
          let same : m ≡ place = omega (arith, l, past) in
          inr (subst (λ n. IsPart text n d) same is)
    ])
    (adds_both (IsFirst text place) (IsPart text place) dirs old mid new h k)

pub over_all : (text : List ℕ) (place : ℕ) (dirs old new : List DirInput) → length text ≤ place → AddsAll dirs (IsFirst text place) old new
    → AddsAll dirs (IsOver text) old new
over_all text place dirs old new long h = adds_fewer (IsFirst text place) (IsOver text) dirs old new (λ d (rest, e).
    let dir = path_text (dir_path d) in
    let size : length text ≡ length dir + (length rest + 1) = ap length e ∙ length-append dir (47 ∷ rest) ∙ omega arith in (
      length dir,
      omega (arith, size, long),
      (ap (λ ns. get_or ns (length dir) 0) e ∙ at_slash dir rest, sym (ap (take (length dir)) e ∙ take_before dir (47 ∷ rest))),
    )) h

-- ## All around a path

pub around_all : (text : List ℕ) (dirs old a b c new : List DirInput) → AddsAll dirs (HasText (codes ".")) old a → AddsAll dirs (HasText text) a b
    → AddsAll dirs (IsOver text) b c → AddsAll dirs (IsUnder text) c new → AddsAll dirs (IsTextAround text) old new
around_all text dirs old a b c new root at over under =
    adds_both (HasText (codes ".")) (λ d. HasText text d ⊎ IsOver text d ⊎ IsUnder text d) dirs old a new root
    (adds_both (HasText text) (λ d. IsOver text d ⊎ IsUnder text d) dirs a b new at
    (adds_both (IsOver text) (IsUnder text) dirs b c new over under))

over_by_text : (path dir : Atoms) → IsBelow path dir
    → (path_text dir ≡ codes ".") ⊎ ((rest : List ℕ) × (path_text path ≡ path_text dir ++ 47 ∷ rest))
over_by_text path [] h = inl refl
over_by_text path (a ∷ as') h = inr (prefix_from_below path (a ∷ as') (λ e. cc) h)

around_by_text : (path : Atoms) (dir : DirInput) → path ≢ [] → IsAround path dir → IsTextAround (path_text path) dir
around_by_text path dir some is = elim is [
  | inl at ↦ inr (inl (ap path_text at))
  | inr other ↦ elim other [
    | inl over ↦ elim (over_by_text path (dir_path dir) over) [
      | inl root ↦ inl root
      | inr by ↦ inr (inr (inl by))
    ]
    | inr under ↦ inr (inr (inr (prefix_from_below (dir_path dir) path some under)))
  ]
]

pub around_found : (path : Atoms) (text : List ℕ) (dirs none found around : List DirInput) → path ≢ [] → text ≡ path_text path → none ≡ []
    → AddsAll dirs (IsTextAround text) none found → IsSetOf dir_cmp found around → AreAround dirs path around
around_found path text dirs none found around some e empty h set = record {
  rising = set.rising;
  some = λ d c. elim (h.only d ((set.members d).1 c)) [
    | inl before ↦ absurd (none_there d (subst (λ ds. Contains ds d) empty before))
    | inr there ↦ there
  ];
  all = λ d c is. (set.members d).0 (h.added d c (subst (λ t. IsTextAround t d) (sym e) (around_by_text path d some is)));
}

-- ## Directories that do not list their files

pub others_are : (dirs found others : List DirInput) → found ≡ filter is_other dirs → IsSetOf dir_cmp found others → AreOthers dirs others
others_are dirs found others e set = record {
  rising = set.rising;
  all = λ d. (
    λ c. let h = filter_from is_other dirs d (subst (λ ds. Contains ds d) e ((set.members d).1 c)) in (h.1, h.0),
    λ (c, is). (set.members d).0 (subst (λ ds. Contains ds d) (sym e) (filter_keeps is_other dirs d is c)),
  );
}

pub others_more : (dirs : List DirInput) (i : ℕ) (x : DirInput) (old new : List DirInput) → i < length dirs → x ≡ get_or dirs i x
    → new ≡ old ++ filter is_other (x ∷ []) → old ≡ filter is_other (take i dirs) → new ≡ filter is_other (take (i + 1) dirs)
others_more dirs i x old new l is more so_far =
    more ∙ ap (λ ds. ds ++ filter is_other (x ∷ [])) so_far
    ∙ sym (ap (filter is_other) (take_more dirs i x l ∙ ap (λ d. take i dirs ++ d ∷ []) (sym is))
    ∙ filter-append is_other (take i dirs) (x ∷ []))
