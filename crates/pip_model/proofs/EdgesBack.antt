-- Each edge of a list of pips goes to a smaller pip.
use Rattle.std.proofs.Common.{inl, inr, ◌≡◌, ℕ, zero, suc, ◌<◌, List, [], ◌∷◌, length, take, Option, Some, None, refl, subst, arith, length-take}
use Rattle.std.specs.Prelude.{IsSomeAnd, slice_get}
use Rattle.std.specs.List.{All, Contains, flat_map}
use Rattle.std.proofs.lemmas.List.Elements.{All-contains, Contains-append_cases}
use Rattle.std.proofs.lemmas.Option.{get_or_from_slice_get, slice_get_within}
use Rattle.bx_tree.specs.declared.file_input.FileInput.{FileInput}
use Rattle.bx_tree.specs.declared.file_input.FileInput.TheVariants.{Source, Made}
use Rattle.pip_model_types.specs.declared.dir_inputs.DirInput.{DirInput}
use Rattle.pip_model_types.specs.declared.dir_inputs.DirInput.TheVariants.{Sealed, Opaque}
use Rattle.pip_model_types.specs.declared.dir_inputs.SealForm.{SealForm}
use Rattle.pip_model_types.specs.declared.dir_inputs.SealForm.TheVariants.{Full, Partial, SourceTop, SourceAll}
use Rattle.pip_model_types.specs.declared.pip.Pip.{Pip}
use Rattle.pip_model_types.specs.declared.pip.PipKind.{PipKind}
use Rattle.pip_model_types.specs.declared.pip.PipKind.TheVariants.{Process, Copy, Write, Seal}
use Rattle.pip_model_types.specs.Makers.{IsDirAmong, IsFileAmong, IsPipList, NamesAmong}
use Rattle.pip_model_types.specs.Kinds.{form_files, listed_files, listed_in}
use Rattle.pip_model.specs.Edges.{Edge, dir_targets, maker, makers, targets}

-- what is there in a list is at a place of it
pub in_range : {X : Type 0} (xs : List X) (i : ℕ) (P : X → Type 0) → IsSomeAnd (slice_get xs i) P → i < length xs
in_range [] i P h = absurd h
in_range (x ∷ xs) zero P h = omega arith
in_range (x ∷ xs) (suc i) P h = let l = in_range xs i P h in omega (arith, l)

-- an element of what a function makes of a list comes from an element of the list
from_element : {X : Type 0} (f : X → List ℕ) (xs : List X) (j : ℕ) → Contains (flat_map f xs) j → (x : X) × Contains xs x × Contains (f x) j
from_element f [] j (k, l, e) = absurd (omega (arith, l))
from_element f (x ∷ xs) j c = elim (Contains-append_cases (f x) (flat_map f xs) j c) [
  | inl here ↦ (x, (0, omega arith, refl), here)
  | inr there ↦ let y = from_element f xs j there in (y.0, (suc y.1.0, omega (arith, y.1.1), y.1.2), y.2)
]

only : (a j : ℕ) → Contains (a ∷ []) j → a ≡ j
only a j (zero, l, e) = e
only a j (suc k, l, e) = absurd (omega (arith, l))

-- the maker of a file is one of the pips before
maker_before : (before : List Pip) (f : FileInput) (j : ℕ) → IsFileAmong before f → Contains (maker f) j → j < length before
maker_before before (Source path) j h (k, l, e) = absurd (omega (arith, l))
maker_before before (Made path m) j h c = subst (λ n. n < length before) (only m j c) (in_range before m _ h)

makers_before : (before : List Pip) (fs : List FileInput) (j : ℕ) → All (IsFileAmong before) fs → Contains (makers fs) j → j < length before
makers_before before fs j all c =
    let f = from_element maker fs j c in
    maker_before before f.0 j (All-contains (IsFileAmong before) fs f.0 all f.1) f.2

-- ## A pip of a list

-- what a pip names is made by the pips before it
names_before : (pips : List Pip) → IsPipList pips → (i : ℕ) (pip : Pip) → slice_get pips i ≡ Some pip → NamesAmong (take i pips) pip.kind
names_before pips list i pip e =
    subst (λ (p : Pip). NamesAmong (take i pips) p.kind) (get_or_from_slice_get pips i pip pip e) (list i (slice_get_within pips i pip e) pip)

below_take : (pips : List Pip) (i j : ℕ) → j < length (take i pips) → j < i
below_take pips i j l = omega (arith, l, length-take i pips)

-- a maker of a file that a seal of this form lists is one of the pips before
form_before : (before : List Pip) (form : SealForm) (fs : List FileInput) (j : ℕ) → All (IsFileAmong before) fs
    → Contains (makers (form_files form fs)) j → j < length before
form_before before Full fs j all c = makers_before before fs j all c
form_before before Partial fs j all c = makers_before before fs j all c
form_before before SourceTop fs j all (k, l, e) = absurd (omega (arith, l))
form_before before SourceAll fs j all (k, l, e) = absurd (omega (arith, l))

-- a maker of a file that a pip lists is below the pip
listed_below : (pips : List Pip) → IsPipList pips → (m j : ℕ) (kind : PipKind) → NamesAmong (take m pips) kind
    → Contains (makers (listed_files kind)) j → j < m
listed_below pips list m j (Process d) n (k, l, e) = absurd (omega (arith, l))
listed_below pips list m j (Copy d) n (k, l, e) = absurd (omega (arith, l))
listed_below pips list m j (Write d) n (k, l, e) = absurd (omega (arith, l))
listed_below pips list m j (Seal d) n c = below_take pips m j (form_before (take m pips) d.form d.files j n c)

listed_among : (pips : List Pip) → IsPipList pips → (m j : ℕ) (o : Option Pip) → slice_get pips m ≡ o
    → Contains (makers (listed_in o)) j → j < m
listed_among pips list m j None e (k, l, is) = absurd (omega (arith, l))
listed_among pips list m j (Some pip) e c = listed_below pips list m j pip.kind (names_before pips list m pip e) c

dir_before : (pips : List Pip) → IsPipList pips → (i : ℕ) (d : DirInput) (j : ℕ) → IsDirAmong (take i pips) d → Contains (dir_targets pips d) j → j < i
dir_before pips list i (Sealed m form root) j h c =
    let m_below = below_take pips i m (in_range (take i pips) m _ h) in
    elim (Contains-append_cases (m ∷ []) (makers (listed_in (slice_get pips m))) j c) [
      | inl itself ↦ subst (λ n. n < i) (only m j itself) m_below
      | inr member ↦ let less = listed_among pips list m j (slice_get pips m) refl member in omega (arith, less, m_below)
    ]
dir_before pips list i (Opaque m path) j h c =
    subst (λ n. n < i) (only m j c) (below_take pips i m (in_range (take i pips) m _ h))

targets_before : (pips : List Pip) → IsPipList pips → (i j : ℕ) (kind : PipKind) → NamesAmong (take i pips) kind → Contains (targets pips kind) j → j < i
targets_before pips list i j (Process d) n c = elim (Contains-append_cases (makers d.files) (flat_map (dir_targets pips) d.dirs) j c) [
  | inl file ↦ below_take pips i j (makers_before (take i pips) d.files j n.0 file)
  | inr dir ↦
      let found = from_element (dir_targets pips) d.dirs j dir in
      dir_before pips list i found.0 j (All-contains (IsDirAmong (take i pips)) d.dirs found.0 n.1 found.1) found.2
]
targets_before pips list i j (Copy d) n c = below_take pips i j (maker_before (take i pips) d.from j n c)
targets_before pips list i j (Write d) n (k, l, e) = absurd (omega (arith, l))
targets_before pips list i j (Seal d) n c = below_take pips i j (form_before (take i pips) d.form d.files j n c)

edge_from : (pips : List Pip) → IsPipList pips → (i j : ℕ) (o : Option Pip) → slice_get pips i ≡ o
    → IsSomeAnd o (λ (pip : Pip). Contains (targets pips pip.kind) j) → j < i
edge_from pips list i j None e h = absurd h
edge_from pips list i j (Some pip) e h = targets_before pips list i j pip.kind (names_before pips list i pip e) h

-- each edge goes to a smaller pip
pub edge_back : (pips : List Pip) → IsPipList pips → (i j : ℕ) → Edge pips i j → j < i
edge_back pips list i j h = edge_from pips list i j (slice_get pips i) refl h
