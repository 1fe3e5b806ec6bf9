-- Declared files that a store has the contents of.
use Rattle.std.specs.Prelude.{◌≡◌, ℕ, List, map}
use Rattle.sha2.specs.Sha256.{sha256}
use Rattle.bx_io.specs.Holdings.{Holdings}
use Rattle.bx_tree.specs.Paths.{Atoms}
use Rattle.bx_tree.specs.Trees.{Files, paths_of}
use Rattle.content_store.specs.Contents.{IsContent}
use Rattle.pip_model_types.specs.declared.made.MadeFile.{MadeFile}
use Rattle.run_record.specs.Collisions.{contents_of}
use Rattle.two_phase_meaning.specs.Contents.{HoldsAll}

-- the file at the path, with the content of the digest
abbrev pub IsDeclared : Holdings → Atoms → List ℕ → MadeFile → Type 0
IsDeclared S path digest f = (f.path ≡ path) × IsContent S digest f.blob

-- the files at the paths, with the contents of the digests
pub record AreDeclared (S : Holdings) (paths : List Atoms) (digests : List (List ℕ)) (files : Files) : Type 0 where
  pub paths_are : paths_of files ≡ paths
  pub digests_are : map sha256 (contents_of files) ≡ digests
  pub held : HoldsAll S (contents_of files)
