-- Overlaps of pips, by what is in the lists of all that they declare.
use Rattle.std.proofs.Common.{inl, inr, ◌⊎◌, ◌≡◌, ◌∙◌, ℕ, List, length, arith, refl, subst, sym}
use Rattle.std.specs.Prelude.{Option, Some, None, IsSomeAnd, slice_get}
use Rattle.std.specs.List.{Any, Contains}
use Rattle.std.proofs.lemmas.List.Elements.{Contains-append_left, Contains-append_right}
use Rattle.std.proofs.lemmas.Option.{get_or_from_slice_get, slice_get_read, slice_get_within}
use Rattle.bx_tree.specs.Paths.{Atoms, IsBelow}
use Rattle.pip_model_types.specs.declared.pip.Pip.{Pip}
use Rattle.pip_model_types.specs.declared.pip.SealDesc.{SealDesc}
use Rattle.graph_check_outputs.specs.Gathered.{IsListOf}
use Rattle.graph_check_outputs.specs.Outputs.{PipHas, declared_files, outputs}
use Rattle.bx_tree.specs.Below.{IsAtOrBelow}
use Rattle.graph_check_outputs.specs.Overlap.{IsUnlisted, full_seals}
use Rattle.graph_check_outputs.specs.Overlap.Overlaps.{Nested, OnePath, Unshared, Unlisted, Meets}
use Rattle.graph_check_outputs.specs.Sharing.{HasFileDir, HasNested, HasOverlap, HasSealedDir, HasUnlisted, HasUnshared, declared_dir_paths, full_roots}
use Rattle.graph_check_outputs.proofs.Among.{from_map, to_map}
use Rattle.graph_check_outputs.proofs.Has.{has_there}
use Rattle.graph_check_outputs.proofs.Unsharing.{dir_path_of, has_along, path_dir}

-- some element of the one list and some of the other
abbrev pub SomePair : (Atoms → Atoms → Type 0) → List Atoms → List Atoms → Type 0
SomePair R paths dirs = Any (λ dir. Any (λ path. R path dir) paths) dirs

pub pair_from : (R : Atoms → Atoms → Type 0) (paths dirs : List Atoms) → SomePair R paths dirs
    → (path : Atoms) × (dir : Atoms) × Contains paths path × Contains dirs dir × R path dir
pair_from R paths dirs (k, dir, l, is, (m, path, n, at, r)) = (path, dir, (m, n, at), (k, l, is), r)

pub pair_to : (R : Atoms → Atoms → Type 0) (paths dirs : List Atoms) (path dir : Atoms) → Contains paths path → Contains dirs dir → R path dir
    → SomePair R paths dirs
pair_to R paths dirs path dir c d r = (d.0, dir, d.1, d.2, (c.0, path, c.1, c.2, r))

file_output : (pips : List Pip) (i : ℕ) (p : Atoms) → PipHas declared_files pips i p → PipHas outputs pips i p
file_output pips i p h =
    let y = has_along declared_files outputs p (λ q. q ≡ p)
    (λ kind c. (p, Contains-append_left (declared_files kind) (declared_dir_paths kind) p c, refl)) pips i h in
    subst (PipHas outputs pips i) y.2 y.1

dir_output : (pips : List Pip) (i : ℕ) (p : Atoms) → PipHas declared_dir_paths pips i p → PipHas outputs pips i p
dir_output pips i p h =
    let y = has_along declared_dir_paths outputs p (λ q. q ≡ p)
    (λ kind c. (p, Contains-append_right (declared_files kind) (declared_dir_paths kind) p c, refl)) pips i h in
    subst (PipHas outputs pips i) y.2 y.1

pub root_seal : (pips : List Pip) (i : ℕ) (p : Atoms) → PipHas full_roots pips i p → (seal : SealDesc) × PipHas full_seals pips i seal × (seal.root ≡ p)
root_seal pips i p h =
    has_along full_roots full_seals p (λ (seal : SealDesc). seal.root ≡ p)
    (λ kind c. from_map (λ (seal : SealDesc). seal.root) (full_seals kind) p c) pips i h

root_of : (pips : List Pip) (i : ℕ) (seal : SealDesc) → PipHas full_seals pips i seal → PipHas full_roots pips i seal.root
root_of pips i seal h =
    let y = has_along full_seals full_roots seal (λ p. p ≡ seal.root)
    (λ kind c. (seal.root, to_map (λ (s : SealDesc). s.root) (full_seals kind) seal c, refl)) pips i h in
    subst (PipHas full_roots pips i) y.2 y.1

-- ## Outputs

pub nested_from : (pips : List Pip) (xs : List Atoms) → IsListOf outputs pips xs → SomePair IsBelow xs xs → HasNested pips
nested_from pips xs all some =
    let pair = pair_from IsBelow xs xs some in
    let path = (all.members pair.0).0 pair.2 in
    let dir = (all.members pair.1).0 pair.3 in
    (path.0, dir.0, (pair.0, pair.1, path.1, dir.1, pair.4))

pub nested_to : (pips : List Pip) (xs : List Atoms) → IsListOf outputs pips xs → HasNested pips → SomePair IsBelow xs xs
nested_to pips xs all (i, j, (path, dir, h, k, below)) =
    pair_to IsBelow xs xs path dir ((all.members path).1 (i, h)) ((all.members dir).1 (j, k)) below

pub file_dir_from : (pips : List Pip) (files dirs : List Atoms) → IsListOf declared_files pips files → IsListOf declared_dir_paths pips dirs
    → SomePair IsAtOrBelow files dirs → HasNested pips ⊎ HasFileDir pips
file_dir_from pips files dirs fs ds some =
    let pair = pair_from IsAtOrBelow files dirs some in
    let file = (fs.members pair.0).0 pair.2 in
    let path = (ds.members pair.1).0 pair.3 in
    let dir = path_dir pips path.0 pair.1 path.1 in
    elim pair.4 [
      | inl same ↦ inr (file.0, path.0, (pair.0, dir.0, file.1, dir.1, same ∙ sym dir.2))
      | inr below ↦ inl (file.0, path.0, (pair.0, pair.1, file_output pips file.0 pair.0 file.1, dir_output pips path.0 pair.1 path.1, below))
    ]

pub file_dir_to : (pips : List Pip) (files dirs : List Atoms) → IsListOf declared_files pips files → IsListOf declared_dir_paths pips dirs
    → HasFileDir pips → SomePair IsAtOrBelow files dirs
file_dir_to pips files dirs fs ds (i, j, (file, dir, h, k, same)) =
    pair_to IsAtOrBelow files dirs file dir.path ((fs.members file).1 (i, h)) ((ds.members dir.path).1 (j, dir_path_of pips j dir k)) (inl same)

-- where there are no directories, no file is one
pub no_file_dir : (pips : List Pip) (dirs : List Atoms) → IsListOf declared_dir_paths pips dirs → length dirs ≡ 0 → HasFileDir pips → ⊥
no_file_dir pips dirs ds e (i, j, (file, dir, h, k, same)) =
    let there = (ds.members dir.path).1 (j, dir_path_of pips j dir k) in omega (arith, there.1, e)

-- ## Seals

pub sealed_from_below : (pips : List Pip) (dirs roots : List Atoms) → IsListOf declared_dir_paths pips dirs → IsListOf full_roots pips roots
    → SomePair IsAtOrBelow dirs roots → HasSealedDir pips
sealed_from_below pips dirs roots ds rs some =
    let pair = pair_from IsAtOrBelow dirs roots some in
    let path = (ds.members pair.0).0 pair.2 in
    let root = (rs.members pair.1).0 pair.3 in
    let dir = path_dir pips path.0 pair.0 path.1 in
    let seal = root_seal pips root.0 pair.1 root.1 in (
      root.0,
      path.0,
      (
        seal.0,
        dir.0,
        seal.1,
        dir.1,
        elim pair.4 [
          | inl same ↦ inl (inl (seal.2 ∙ sym same ∙ sym dir.2))
          | inr below ↦ inr (subst (IsBelow dir.0.path) (sym seal.2) (subst (λ p. IsBelow p pair.1) (sym dir.2) below))
        ],
      ),
    )

pub sealed_from_above : (pips : List Pip) (dirs roots : List Atoms) → IsListOf declared_dir_paths pips dirs → IsListOf full_roots pips roots
    → SomePair IsAtOrBelow roots dirs → HasSealedDir pips
sealed_from_above pips dirs roots ds rs some =
    let pair = pair_from IsAtOrBelow roots dirs some in
    let root = (rs.members pair.0).0 pair.2 in
    let path = (ds.members pair.1).0 pair.3 in
    let dir = path_dir pips path.0 pair.1 path.1 in
    let seal = root_seal pips root.0 pair.0 root.1 in (
      root.0,
      path.0,
      (
        seal.0,
        dir.0,
        seal.1,
        dir.1,
        inl (subst (IsAtOrBelow seal.0.root) (sym dir.2) (subst (λ p. IsAtOrBelow p pair.1) (sym seal.2) pair.4)),
      ),
    )

pub sealed_to : (pips : List Pip) (dirs roots : List Atoms) → IsListOf declared_dir_paths pips dirs → IsListOf full_roots pips roots
    → HasSealedDir pips → SomePair IsAtOrBelow dirs roots ⊎ SomePair IsAtOrBelow roots dirs
sealed_to pips dirs roots ds rs (i, j, (seal, dir, h, k, meets)) =
    let root = (rs.members seal.root).1 (i, root_of pips i seal h) in
    let path = (ds.members dir.path).1 (j, dir_path_of pips j dir k) in
    elim meets [
      | inl within ↦ inr (pair_to IsAtOrBelow roots dirs seal.root dir.path root path within)
      | inr below ↦ inl (pair_to IsAtOrBelow dirs roots dir.path seal.root path root (inr below))
    ]

-- some file is left out by a full seal of some pip
abbrev pub SomeLeavesOut : List Atoms → List Pip → Type 0
SomeLeavesOut files pips = Any (λ (pip : Pip). Any (λ seal. Any (IsUnlisted seal) files) (full_seals pip.kind)) pips

pub unlisted_from : (pips : List Pip) (files : List Atoms) → IsListOf declared_files pips files → SomeLeavesOut files pips → HasUnlisted pips
unlisted_from pips files fs (j, pip, l, is, (m, seal, n, at, (k, file, o, there, un))) =
    let owner = (fs.members file).0 (k, o, there) in
    (owner.0, j, (file, seal, owner.1, has_there full_seals pips j pip seal (slice_get_read pips (length pips) j pip refl l (sym is)) (m, n, at), un))

pub unlisted_to : (pips : List Pip) (files : List Atoms) → IsListOf declared_files pips files → HasUnlisted pips → SomeLeavesOut files pips
unlisted_to pips files fs (i, j, (file, seal, h, k, un)) = at (slice_get pips j) refl k
  where
    at : (o : Option Pip) → slice_get pips j ≡ o → IsSomeAnd o (λ (p : Pip). Contains (full_seals p.kind) seal) → SomeLeavesOut files pips
    at None e c = absurd c
    at (Some pip) e c =
        let there = (fs.members file).1 (i, h) in
        (j, pip, slice_get_within pips j pip e, get_or_from_slice_get pips j pip pip e, (c.0, seal, c.1, c.2, (there.0, file, there.1, there.2, un)))

-- where there are no full seals, none leaves a file out
pub no_unlisted : (pips : List Pip) (roots : List Atoms) → IsListOf full_roots pips roots → length roots ≡ 0 → HasUnlisted pips → ⊥
no_unlisted pips roots rs e (i, j, (file, seal, h, k, un)) =
    let there = (rs.members seal.root).1 (j, root_of pips j seal k) in omega (arith, there.1, e)

-- ## All ways

pub overlap_cases : (pips : List Pip) → HasOverlap pips
    → (HasNested pips ⊎ HasFileDir pips) ⊎ (HasSealedDir pips ⊎ (HasUnlisted pips ⊎ HasUnshared pips))
overlap_cases pips (i, j, Nested h) = inl (inl (i, j, h))
overlap_cases pips (i, j, OnePath h) = inl (inr (i, j, h))
overlap_cases pips (i, j, Unshared h) = inr (inr (inr (i, j, h)))
overlap_cases pips (i, j, Unlisted h) = inr (inr (inl (i, j, h)))
overlap_cases pips (i, j, Meets h) = inr (inl (i, j, h))

pub overlap_from : (pips : List Pip) → (HasNested pips ⊎ HasFileDir pips) ⊎ (HasSealedDir pips ⊎ (HasUnlisted pips ⊎ HasUnshared pips)) → HasOverlap pips
overlap_from pips (inl (inl (i, j, h))) = (i, j, Nested h)
overlap_from pips (inl (inr (i, j, h))) = (i, j, OnePath h)
overlap_from pips (inr (inl (i, j, h))) = (i, j, Meets h)
overlap_from pips (inr (inr (inl (i, j, h)))) = (i, j, Unlisted h)
overlap_from pips (inr (inr (inr (i, j, h)))) = (i, j, Unshared h)
