-- The path that a text leads to from another path.
use Rattle.std.specs.Prelude.{◌≡◌, ◌≢◌, ℕ, Bool, not, ◌&&◌, ◌==◌, nat_le, if◌then◌else◌}
use Rattle.std.specs.Prelude.{List, [], ◌∷◌, ◌++◌, length, take, codes, Option, Some, None, option_and_then}
use Rattle.std.specs.List.{AllByRecursion, list_all, slice_split}
use Rattle.std.specs.Str.{bytes_eq}
use Rattle.bx_tree.specs.Paths.{Atoms, is_atom_byte, path_text}
use Rattle.bx_tree.specs.declared.limits.TheConstants.{MAX_ATOM_BYTES, MAX_PATH_BYTES}

-- whether a text is an atom: at least one byte, each of those that atoms have, and neither `.` nor `..`
abbrev pub is_atom : List ℕ → Bool
is_atom text =
    nat_le 1 (length text) && nat_le (length text) MAX_ATOM_BYTES && list_all is_atom_byte text
    && not (bytes_eq text (codes ".")) && not (bytes_eq text (codes ".."))

-- the path without its last atom; the root has none
abbrev pub parent : Atoms → Option Atoms
parent [] = None
parent (atom ∷ rest) = Some (take (length rest) (atom ∷ rest))

-- where one part leads: `.` stays, `..` goes up, an atom goes down, and nothing else leads anywhere
abbrev pub step : Atoms → List ℕ → Option Atoms
step path part =
    if bytes_eq part (codes ".") then Some path else
    (if bytes_eq part (codes "..") then parent path else
    (if is_atom part then Some (path ++ part ∷ []) else None))

-- where the parts lead, one after the other
abbrev pub walk : Atoms → List (List ℕ) → Option Atoms
walk path [] = Some path
walk path (part ∷ parts) = option_and_then (λ next. walk next parts) (step path part)

-- the path, if its text is short enough
abbrev pub if_short : Atoms → Option Atoms
if_short path = if nat_le (length (path_text path)) MAX_PATH_BYTES then Some path else None

-- where the parts of a text between its `/` lead from a path, if the end is short enough to be a path
abbrev pub join_of : Atoms → List ℕ → Option Atoms
join_of base text = option_and_then if_short (walk base (slice_split (λ b. b == 47) text))

-- ## The last part of a text

-- the text has no `/`
abbrev pub HasNoSlash : List ℕ → Type 0
HasNoSlash text = AllByRecursion (λ b. b ≢ 47) text

-- the text is another, a `/`, and a part with no `/`
pub record EndsWithPart (before text : List ℕ) : Type 0 where
  pub part : List ℕ
  pub whole : HasNoSlash part
  pub text_is : text ≡ before ++ 47 ∷ part
