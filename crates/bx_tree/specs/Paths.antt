-- Paths: lists of atoms, their texts, which path is below which, and their order.
use Rattle.std.specs.Prelude.{◌≡◌, ◌≢◌, ℕ, ◌<◌, ◌≤◌, Bool, true, false, IsTrue, ◌&&◌, ◌||◌, ◌==◌, nat_le, nat_eq, cond}
use Rattle.std.specs.Prelude.{List, [], ◌∷◌, ◌++◌, length, codes, ◌⊎◌}
use Rattle.std.specs.List.{AllByRecursion, join_with_byte, list_any, slice_split}
use Rattle.std.specs.Cmp.Lexicographic.{slice_cmp, pointwise}
use Rattle.std.specs.Ordering.{nat_cmp, on, then_cmp}
use Rattle.std.specs.declared.cmp.Ordering.{Ordering}
use Rattle.bx_tree.specs.declared.limits.TheConstants.{MAX_ATOM_BYTES, MAX_PATH_BYTES}

-- a path: its atoms, from the root down; the root has none
abbrev pub Atoms : Type 0
Atoms = List (List ℕ)

-- a letter, a digit, `.`, `_` or `-`
abbrev pub is_atom_byte : ℕ → Bool
is_atom_byte b =
    (nat_le 65 b && nat_le b 90) || (nat_le 97 b && nat_le b 122) || (nat_le 48 b && nat_le b 57)
    || b == 46 || b == 95 || b == 45

-- an atom: at least one such byte, and neither `.` nor `..`
pub record IsAtom (atom : List ℕ) : Type 0 where
  pub some : 0 < length atom
  pub short : length atom ≤ MAX_ATOM_BYTES
  pub bytes : AllByRecursion (λ b. IsTrue (is_atom_byte b)) atom
  pub not_dot : atom ≢ codes "."
  pub not_dots : atom ≢ codes ".."

-- the text of a path: its atoms joined by `/`; the root is written `.`
abbrev pub path_text : Atoms → List ℕ
path_text [] = codes "."
path_text (atom ∷ rest) = join_with_byte 47 (atom ∷ rest)

-- a path: atoms whose text is short enough; the root is one
pub record IsPath (path : Atoms) : Type 0 where
  pub atoms : AllByRecursion IsAtom path
  pub short : length (path_text path) ≤ MAX_PATH_BYTES

-- the text names this path, which is not the root
pub record Names (text : List ℕ) (path : Atoms) : Type 0 where
  pub is_path : IsPath path
  pub not_root : path ≢ []
  pub text_is : text ≡ path_text path

-- a path text: one that names a path
abbrev pub IsPathText : List ℕ → Type 0
IsPathText text = (path : Atoms) × Names text path

-- whether the path is the root, which has no atoms
abbrev pub is_root : Atoms → Bool
is_root [] = true
is_root (atom ∷ rest) = false

-- the path lies strictly below the directory
abbrev pub IsBelow : Atoms → Atoms → Type 0
IsBelow path dir = (rest : Atoms) × (rest ≢ []) × (path ≡ dir ++ rest)

-- the text goes on after the directory's and a `/`
abbrev pub TextGoesOn : List ℕ → List ℕ → Type 0
TextGoesOn dir text = (rest : List ℕ) × (text ≡ dir ++ 47 ∷ rest)

-- Which path is below which, by their texts: all but the root lie below the root, and a path below any other
-- directory has a text that starts with the directory's text and a `/`.
abbrev pub TextBelow : List ℕ → List ℕ → Type 0
TextBelow dir text =
    ((dir ≡ codes ".") × (text ≢ codes "."))
    ⊎ ((dir ≢ codes ".") × TextGoesOn dir text)

-- The order of paths is that of the bytes of their texts. Paths with equal texts are equal; the second
-- comparison makes the order total on lists of atoms that are no paths.
abbrev pub path_cmp : Atoms → Atoms → Ordering
path_cmp = then_cmp (on path_text (slice_cmp nat_cmp)) (slice_cmp (slice_cmp nat_cmp))

-- whether two paths are equal, atom by atom
abbrev pub same_path : Atoms → Atoms → Bool
same_path = pointwise (pointwise nat_eq)

-- the path that a text names: its parts between `/`, and the root for `.`
abbrev pub path_of : List ℕ → Atoms
path_of text = cond (pointwise nat_eq text (codes ".")) [] (slice_split (λ b. b == 47) text)

-- a text that a `Path` holds: the root's, or a path text
pub record IsKept (text : List ℕ) : Type 0 where
  pub is_path : IsPath (path_of text)
  pub text_is : path_text (path_of text) ≡ text

-- whether the path is one of these
abbrev pub has_path : List Atoms → Atoms → Bool
has_path paths path = list_any (λ other. same_path other path) paths
