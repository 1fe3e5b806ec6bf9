-- Which names match a pattern, and which files of a tree a glob lists.
use Rattle.std.specs.Prelude.{Bool, IsTrue, false, if◌then◌else◌, nat_le, true, ℕ, ◌&&◌, ◌<◌, ◌==◌, ◌||◌, ◌≤◌}
use Rattle.std.specs.Prelude.{List, [], ◌∷◌, length, filter}
use Rattle.std.specs.List.{AllByRecursion, list_all}
use Rattle.std.specs.Option.{option_map_or}
use Rattle.bx_tree.specs.Below.{strip_dir}
use Rattle.bx_tree.specs.Paths.{Atoms, is_atom_byte}
use Rattle.bx_tree.specs.Trees.{Files, paths_of}
use Rattle.bx_path.specs.declared.globbing.TheConstants.{MAX_PATTERN_BYTES}

-- a byte of an atom, `*` or `?`
abbrev pub is_pattern_byte : ℕ → Bool
is_pattern_byte b = is_atom_byte b || b == 42 || b == 63

-- a pattern: 1 to 255 such bytes
pub record IsPattern (text : List ℕ) : Type 0 where
  pub some : 0 < length text
  pub short : length text ≤ MAX_PATTERN_BYTES
  pub bytes : AllByRecursion (λ b. IsTrue (is_pattern_byte b)) text

-- the test holds of some suffix of the text
abbrev pub some_suffix : (List ℕ → Bool) → List ℕ → Bool
some_suffix test [] = test []
some_suffix test (b ∷ bs) = test (b ∷ bs) || some_suffix test bs

-- the text has a first byte, the pattern's byte is `?` or this byte, and the test holds of the rest
abbrev pub one_byte : ℕ → (List ℕ → Bool) → List ℕ → Bool
one_byte p test [] = false
one_byte p test (b ∷ bs) = (p == 63 || p == b) && test bs

-- whether a name matches a pattern: `*` matches any run of bytes, `?` any byte, and any other byte itself
abbrev pub is_match : List ℕ → List ℕ → Bool
is_match [] [] = true
is_match [] (b ∷ bs) = false
is_match (p ∷ ps) name = if p == 42 then some_suffix (is_match ps) name else one_byte p (is_match ps) name

-- the last of the atoms matches the pattern, and it is the only one unless the glob is deep
abbrev pub last_is_match : List ℕ → Bool → Atoms → Bool
last_is_match pattern deep [] = false
last_is_match pattern deep (atom ∷ []) = is_match pattern atom
last_is_match pattern deep (atom ∷ next ∷ rest) = deep && last_is_match pattern deep (next ∷ rest)

-- a path in the directory, or anywhere below it if the glob is deep, whose last atom matches the pattern
abbrev pub is_hit : Atoms → List ℕ → Bool → Atoms → Bool
is_hit dir pattern deep path = option_map_or (last_is_match pattern deep) (strip_dir dir path) false

-- the paths of these files, in their order
abbrev pub glob_of : Files → Atoms → List ℕ → Bool → List Atoms
glob_of files dir pattern deep = filter (is_hit dir pattern deep) (paths_of files)

-- whether a text is a pattern
abbrev pub is_pattern : List ℕ → Bool
is_pattern text =
    nat_le 1 (length text) && nat_le (length text) MAX_PATTERN_BYTES && list_all is_pattern_byte text
