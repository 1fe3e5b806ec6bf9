-- The directories of the seals that are found by a path.
use Rattle.std.proofs.Common.{◌≡◌, ◌≢◌, ℕ, ◌+◌, ◌<◌, ◌≤◌, List, [], ◌∷◌, ◌++◌, length, get_or, take, Option, Some, None, refl, ap, ◌∙◌, subst, inl, inr, ◌⊎◌, arith}
use Rattle.std.specs.Prelude.{Any, Contains, IsSomeAnd, slice_get}
use Rattle.std.specs.List.{All}
use Rattle.std.proofs.lemmas.List.{take_more, take_all}
use Rattle.std.proofs.lemmas.List.Elements.{All-contains, Contains-push, Contains-push_cases}
use Rattle.bx_tree.specs.Paths.{Atoms, IsBelow, path_text}
use Rattle.bx_tree.specs.declared.file_input.FileInput.{FileInput}
use Rattle.bx_tree.proofs.PathTexts.{prefix_from_below}
use Rattle.pip_model_types.specs.Dirs.{dir_cmp, dir_pip}
use Rattle.pip_model_types.specs.Makers.{HasOutDir, IsDirAmong, IsSealOf}
use Rattle.pip_model_types.specs.declared.dir_inputs.DirInput.{DirInput}
use Rattle.pip_model_types.specs.declared.dir_inputs.DirInput.TheVariants.{Sealed, Opaque}
use Rattle.pip_model_types.specs.declared.dir_inputs.SealForm.{SealForm}
use Rattle.pip_model_types.specs.declared.pip.Pip.{Pip}
use Rattle.pip_model_types.specs.declared.pip.PipKind.{PipKind}
use Rattle.pip_model_types.specs.declared.pip.PipKind.TheVariants.{Process, Copy, Write, Seal}
use Rattle.pip_model_types.specs.Kinds.{listed_files}
use Rattle.pip_model.specs.Listings.{IsNear, ListsNear}
use Rattle.pip_view_directories.specs.Near.{AddsDir, AreNear, AreOfSeals, ListsAt, dir_in, kind_dir}
use Rattle.bx_tree.specs.FileInputs.{input_path}
use Rattle.bx_tree.specs.Sets.{IsSetOf}

-- ## One seal more

pub seals_none : (pips : List Pip) (dirs : List DirInput) → AreOfSeals pips dirs [] []
seals_none pips dirs = record {
  only = λ dir (k, l, e). absurd (omega (arith, l));
  all = λ j dir (k, l, e) is c. absurd (omega (arith, l));
}

pub seals_more : (pips : List Pip) (dirs : List DirInput) (seals : List ℕ) (i : ℕ) (old new : List DirInput) → i < length seals
    → AddsDir pips dirs (get_or seals i 0) old new → AreOfSeals pips dirs (take i seals) old → AreOfSeals pips dirs (take (i + 1) seals) new
seals_more pips dirs seals i old new l adds h = record {
  only = λ dir c. elim (adds.only dir c) [
    | inl before ↦ h.only dir before
    | inr taken ↦ taken
  ];
  all = λ j dir c e k. elim (Contains-push_cases (take i seals) (get_or seals i 0) j (subst (λ ss. Contains ss j) (take_more seals i 0 l) c)) [
    | inl before ↦ adds.kept dir (h.all j dir before e k)
    | inr same ↦ adds.added dir (ap (λ n. dir_in n (slice_get pips n)) same ∙ e) k
  ];
}

pub seals_all : (pips : List Pip) (dirs : List DirInput) (seals : List ℕ) (i : ℕ) (found : List DirInput) → length seals ≤ i
    → AreOfSeals pips dirs (take i seals) found → AreOfSeals pips dirs seals found
seals_all pips dirs seals i found l h = subst (λ ss. AreOfSeals pips dirs ss found) (take_all i seals l) h

-- ## Which seals there are

of_kind : (j : ℕ) (form : SealForm) (root : Atoms) (kind : PipKind) → IsSealOf form root kind → kind_dir j kind ≡ Some (Sealed j form root)
of_kind j form root (Process d) h = absurd h
of_kind j form root (Copy d) h = absurd h
of_kind j form root (Write d) h = absurd h
of_kind j form root (Seal d) (a, b) = ap (λ f. Some (Sealed j f d.root)) a ∙ ap (λ r. Some (Sealed j form r)) b

of_pip : (j : ℕ) (form : SealForm) (root : Atoms) (o : Option Pip) → IsSomeAnd o (λ (pip : Pip). IsSealOf form root pip.kind)
    → dir_in j o ≡ Some (Sealed j form root)
of_pip j form root None h = absurd h
of_pip j form root (Some pip) h = of_kind j form root pip.kind h

nothing_listed : (path : Atoms) (P : FileInput → Type 0) (kind : PipKind) → HasOutDir path kind → Any P (listed_files kind) → ⊥
nothing_listed path P (Process d) h (k, f, l, is, p) = omega (arith, l)
nothing_listed path P (Copy d) h any = absurd h
nothing_listed path P (Write d) h any = absurd h
nothing_listed path P (Seal d) h any = absurd h

no_listing : (path : Atoms) (P : FileInput → Type 0) (o : Option Pip) → IsSomeAnd o (λ (pip : Pip). HasOutDir path pip.kind)
    → IsSomeAnd o (λ (pip : Pip). Any P (listed_files pip.kind)) → ⊥
no_listing path P None h k = absurd h
no_listing path P (Some pip) h k = nothing_listed path P pip.kind h k

-- a directory that is one of these pips' is the directory of its pip, if that lists a file
pub dir_of_pip : (pips : List Pip) (dir : DirInput) (path : Atoms) → IsDirAmong pips dir → ListsAt pips (dir_pip dir) path
    → dir_in (dir_pip dir) (slice_get pips (dir_pip dir)) ≡ Some dir
dir_of_pip pips (Sealed j form root) path h lists = of_pip j form root (slice_get pips j) h
dir_of_pip pips (Opaque j root) path h lists = absurd (no_listing root _ (slice_get pips j) h lists)

near_option : (path : Atoms) → path ≢ [] → (o : Option Pip)
    → IsSomeAnd o (λ (pip : Pip). Any (λ (f : FileInput). (input_path f ≡ path) ⊎ IsBelow (input_path f) path) (listed_files pip.kind))
    → IsSomeAnd o (λ (pip : Pip). Any (IsNear (path_text path)) (listed_files pip.kind))
near_option path some None h = absurd h
near_option path some (Some pip) (k, f, l, is, at) = (
  k,
  f,
  l,
  is,
  elim at [
    | inl same ↦ inl (ap path_text same)
    | inr below ↦ inr (prefix_from_below (input_path f) path some below)
  ],
)

-- what lists a file at a path or below it is found by the text of the path
pub near_by_text : (pips : List Pip) (j : ℕ) (path : Atoms) → path ≢ [] → ListsAt pips j path → ListsNear pips j (path_text path)
near_by_text pips j path some h = near_option path some (slice_get pips j) h

-- ## All that are near

pub near_found : (pips : List Pip) (dirs : List DirInput) (path : Atoms) (seals : List ℕ) (found near : List DirInput) → path ≢ []
    → All (IsDirAmong pips) dirs → ((j : ℕ) → ListsNear pips j (path_text path) → Contains seals j)
    → AreOfSeals pips dirs seals found → IsSetOf dir_cmp found near → AreNear pips dirs path near
near_found pips dirs path seals found near some among seen h set = record {
  rising = set.rising;
  some = λ dir c. h.only dir ((set.members dir).1 c);
  all = λ dir c lists.
      let j = dir_pip dir in
      (set.members dir).0 (h.all j dir (seen j (near_by_text pips j path some lists))
      (dir_of_pip pips dir path (All-contains (IsDirAmong pips) dirs dir among c) lists) c);
}
