-- Files that are put at their places, and where they come from.
use Rattle.std.proofs.Common.{◌≡◌, ◌⊎◌, ℕ, suc, List, [], ◌∷◌, ◌++◌, Some, refl, inl, inr}
use Rattle.std.specs.Prelude.{slice_get}
use Rattle.bx_tree.specs.Paths.{Atoms}
use Rattle.bx_tree.specs.Trees.{Files, paths_of}
use Rattle.bx_tree.specs.Members.{Has}
use Rattle.tool_run_writes.specs.Writes.{with_file}
use Rattle.tool_run_writes.proofs.Unnested.{put_rising, put_has}
use Rattle.pip_model_types.specs.Made.{RisingFiles}
use Rattle.one_thread.specs.OneThread.{all_made, put_all}

-- ## All files

pub has_put_all : (more files : Files) (q : Atoms) → Has (paths_of (put_all files more)) q → Has (paths_of files) q ⊎ Has (paths_of more) q
has_put_all [] files q h = inl h
has_put_all (f ∷ fs) files q h = elim (has_put_all fs (with_file files f.0 f.1) q h) [
  | inl k ↦ elim (put_has files f.0 f.1 q k) [ inl e ↦ inr (inl e) | inr m ↦ inl m ]
  | inr k ↦ inr (inr k)
]

pub put_all_rising : (more files : Files) → RisingFiles files → RisingFiles (put_all files more)
put_all_rising [] files h = h
put_all_rising (f ∷ fs) files h = put_all_rising fs (with_file files f.0 f.1) (put_rising files f.0 f.1 h)

-- ## Files of many pips

has_either : (xs ys : Files) (q : Atoms) → Has (paths_of (xs ++ ys)) q → Has (paths_of xs) q ⊎ Has (paths_of ys) q
has_either [] ys q h = inr h
has_either (x ∷ xs) ys q h = elim h [
  | inl e ↦ inl (inl e)
  | inr k ↦ elim (has_either xs ys q k) [ inl m ↦ inl (inr m) | inr m ↦ inr m ]
]

-- the files with this number have this path
pub record MadeAt (made : List Files) (q : Atoms) : Type 0 where
  pub number : ℕ
  pub files : Files
  pub there : slice_get made number ≡ Some files
  pub has : Has (paths_of files) q

one_on : (files : Files) (made : List Files) (q : Atoms) → MadeAt made q → MadeAt (files ∷ made) q
one_on files made q m = record { number = suc m.number; files = m.files; there = m.there; has = m.has }

pub made_at : (made : List Files) (q : Atoms) → Has (paths_of (all_made made)) q → MadeAt made q
made_at [] q h = absurd h
made_at (files ∷ made) q h = elim (has_either files (all_made made) q h) [
  | inl k ↦ record { number = 0; files = files; there = refl; has = k }
  | inr k ↦ one_on files made q (made_at made q k)
]
