-- Pips of one output directory that not both share, found by the directories of the pips before.
use Rattle.std.proofs.Common.{inl, inr, ◌⊎◌, ◌≡◌, ◌≢◌, ◌∙◌, ℕ, ◌<◌, ◌≤◌, Bool, true, false, List, [], ◌∷◌, length, get_or, arith, refl, subst, sym}
use Rattle.std.specs.Prelude.{Option, Some, None, slice_get, IsSomeAnd}
use Rattle.std.specs.List.{Any, Contains}
use Rattle.std.proofs.lemmas.Bool.{cases_lt, false≢true}
use Rattle.bx_tree.specs.Paths.{Atoms}
use Rattle.pip_model_types.specs.declared.outputs.OutDir.{OutDir}
use Rattle.pip_model_types.specs.declared.pip.Pip.{Pip}
use Rattle.pip_model_types.specs.declared.pip.PipKind.{PipKind}
use Rattle.graph_check_outputs.specs.Outputs.{PipHas}
use Rattle.graph_check_outputs.specs.Sharing.{HasUnshared, declared_dir_paths, lone_paths, unless_shared}
use Rattle.graph_check_outputs.proofs.Among.{from_flat, from_map, to_flat, to_map}
use Rattle.graph_check_outputs.proofs.Firsts.{none_at_all}
use Rattle.graph_check_outputs.proofs.Has.{has_there, has_within, there_has}
use Rattle.graph_check_outputs.proofs.Repeats.{IsSoFar}
use Rattle.pip_model_types.specs.Kinds.{outdirs_of}

-- what a pip has among some items it has, in another way, among others
pub has_along : {X Y : Type 0} (as' : PipKind → List X) (bs : PipKind → List Y) (x : X) (P : Y → Type 0)
    → ((kind : PipKind) → Contains (as' kind) x → (y : Y) × Contains (bs kind) y × P y) → (pips : List Pip) (i : ℕ) → PipHas as' pips i x
    → (y : Y) × PipHas bs pips i y × P y
has_along as' bs x P into pips i h = at (slice_get pips i) refl h
  where
    at : (o : Option Pip) → slice_get pips i ≡ o → IsSomeAnd o (λ (p : Pip). Contains (as' p.kind) x) → (y : _) × PipHas bs pips i y × P y
    at None e h = absurd h
    at (Some pip) e h =
        let y = into pip.kind h in
        (y.0, subst (λ o. IsSomeAnd o (λ (p : Pip). Contains (bs p.kind) y.0)) (sym e) y.1, y.2)

from_unless : (b : Bool) (path p : Atoms) → Contains (unless_shared b path) p → (b ≡ false) × (path ≡ p)
from_unless true path p (k, l, e) = absurd (omega (arith, l))
from_unless false path p (k, l, e) = (refl, let zero : k ≡ 0 = omega (arith, l) in subst (λ n. get_or (path ∷ []) n p ≡ p) zero e)

to_unless : (b : Bool) (path : Atoms) → b ≡ false → Contains (unless_shared b path) path
to_unless true path e = cc
to_unless false path e = (0, omega arith, refl)

-- a lone path is that of a directory that is not shared
pub lone_dir : (pips : List Pip) (i : ℕ) (p : Atoms) → PipHas lone_paths pips i p
    → (dir : OutDir) × PipHas outdirs_of pips i dir × ((dir.path ≡ p) × (dir.shared ≡ false))
lone_dir pips i p h =
    has_along lone_paths outdirs_of p (λ (dir : OutDir). (dir.path ≡ p) × (dir.shared ≡ false))
    (λ kind c.
    let found = from_flat (λ (dir : OutDir). unless_shared dir.shared dir.path) (outdirs_of kind) p c in
    let parts = from_unless found.0.shared found.0.path p found.2 in
    (found.0, found.1, (parts.1, parts.0))) pips i h

pub path_dir : (pips : List Pip) (i : ℕ) (p : Atoms) → PipHas declared_dir_paths pips i p → (dir : OutDir) × PipHas outdirs_of pips i dir × (dir.path ≡ p)
path_dir pips i p h =
    has_along declared_dir_paths outdirs_of p (λ (dir : OutDir). dir.path ≡ p)
    (λ kind c. from_map (λ (dir : OutDir). dir.path) (outdirs_of kind) p c) pips i h

pub dir_path_of : (pips : List Pip) (i : ℕ) (dir : OutDir) → PipHas outdirs_of pips i dir → PipHas declared_dir_paths pips i dir.path
dir_path_of pips i dir h =
    let y = has_along outdirs_of declared_dir_paths dir (λ p. p ≡ dir.path)
    (λ kind c. (dir.path, to_map (λ (d : OutDir). d.path) (outdirs_of kind) dir c, refl)) pips i h in
    subst (PipHas declared_dir_paths pips i) y.2 y.1

pub lone_path_of : (pips : List Pip) (i : ℕ) (dir : OutDir) → dir.shared ≡ false → PipHas outdirs_of pips i dir → PipHas lone_paths pips i dir.path
lone_path_of pips i dir alone h =
    let y = has_along outdirs_of lone_paths dir (λ p. p ≡ dir.path)
    (λ kind c. (
      dir.path,
      to_flat (λ (d : OutDir). unless_shared d.shared d.path) (outdirs_of kind) dir dir.path c (to_unless dir.shared dir.path alone),
      refl,
    )) pips i h in
    subst (PipHas lone_paths pips i) y.2 y.1

-- pip i has a directory of an earlier pip, and not both share it
abbrev pub ClashAt : List Pip → ℕ → Type 0
ClashAt pips i =
    (j : ℕ) × (j < i)
    × ((p : Atoms) × ((PipHas lone_paths pips i p × PipHas declared_dir_paths pips j p) ⊎ (PipHas declared_dir_paths pips i p × PipHas lone_paths pips j p)))

pub clash_within : (pips : List Pip) (i : ℕ) → ClashAt pips i → i < length pips
clash_within pips i (j, l, (p, h)) = elim h [
  | inl x ↦ has_within lone_paths pips i p x.0
  | inr x ↦ has_within declared_dir_paths pips i p x.0
]

lone_clash : (pips : List Pip) (i j : ℕ) (p : Atoms) → i ≢ j → PipHas lone_paths pips i p → PipHas declared_dir_paths pips j p → HasUnshared pips
lone_clash pips i j p apart h k =
    let dir = lone_dir pips i p h in
    let other = path_dir pips j p k in
    (i, j, (apart, (dir.0, other.0, dir.1, other.1, dir.2.0 ∙ sym other.2, λ t u. let f = dir.2.1 in absurd (false≢true (sym f ∙ t)))))

-- a clash is an overlap
pub unshared_from_clash : (pips : List Pip) (i : ℕ) → ClashAt pips i → HasUnshared pips
unshared_from_clash pips i (j, l, (p, h)) = elim h [
  | inl x ↦ lone_clash pips i j p (λ e. omega (arith, l, e)) x.0 x.1
  | inr x ↦ lone_clash pips j i p (λ e. omega (arith, l, e)) x.1 x.0
]

-- where two pips have an output directory that is not shared, some pip clashes with an earlier one
pub clash_from_unshared : (pips : List Pip) → HasUnshared pips → (i : ℕ) × ClashAt pips i
clash_from_unshared pips (i, j, (apart, (dir, other, h, k, same, not_both))) = by_sharing dir.shared other.shared refl refl
  where
    at_pips : (m n : ℕ) → m ≢ n → PipHas lone_paths pips m dir.path → PipHas declared_dir_paths pips n dir.path → (i : ℕ) × ClashAt pips i
    at_pips m n apart a b = elim (cases_lt n m) [
      | inl l ↦ (m, (n, l, (dir.path, inl (a, b))))
      | inr l ↦ (n, (m, omega (arith, l, apart), (dir.path, inr (b, a))))
    ]

    by_sharing : (a b : Bool) → dir.shared ≡ a → other.shared ≡ b → (i : ℕ) × ClashAt pips i
    by_sharing false b e f = at_pips i j apart (lone_path_of pips i dir e h) (subst (PipHas declared_dir_paths pips j) (sym same) (dir_path_of pips j other k))
    by_sharing true false e f =
        at_pips j i (λ x. apart (sym x)) (subst (PipHas lone_paths pips j) (sym same) (lone_path_of pips j other f k)) (dir_path_of pips i dir h)
    by_sharing true true e f = absurd (not_both e f)

-- what is found of a pip among the directories of the pips before is a clash, and where nothing is found it has none
pub clash_here : (pips : List Pip) (i : ℕ) (pip : Pip) (A L : Atoms → Type 0) → slice_get pips i ≡ Some pip → IsSoFar declared_dir_paths pips i A
    → IsSoFar lone_paths pips i L → Any A (lone_paths pip.kind) ⊎ Any L (declared_dir_paths pip.kind) → ClashAt pips i
clash_here pips i pip A L e all lone h = elim h [
  | inl (k, x, l, is, a) ↦ let b = (all x).0 a in (b.0, b.1, (x, inl (has_there lone_paths pips i pip x e (k, l, is), b.2)))
  | inr (k, x, l, is, a) ↦ let b = (lone x).0 a in (b.0, b.1, (x, inr (has_there declared_dir_paths pips i pip x e (k, l, is), b.2)))
]

pub no_clash_here : (pips : List Pip) (i : ℕ) (pip : Pip) (A L : Atoms → Type 0) → slice_get pips i ≡ Some pip → IsSoFar declared_dir_paths pips i A
    → IsSoFar lone_paths pips i L → (Any A (lone_paths pip.kind) ⊎ Any L (declared_dir_paths pip.kind) → ⊥) → ClashAt pips i → ⊥
no_clash_here pips i pip A L e all lone none (j, below, (p, h)) = elim h [
  | inl x ↦ let c = there_has lone_paths pips i pip p e x.0 in none (inl (c.0, p, c.1, c.2, (all p).1 (j, below, x.1)))
  | inr x ↦ let c = there_has declared_dir_paths pips i pip p e x.0 in none (inr (c.0, p, c.1, c.2, (lone p).1 (j, below, x.1)))
]

-- pips of which none clashes with an earlier one share their directories
pub none_unshared : (pips : List Pip) (i : ℕ) → length pips ≤ i → ((j : ℕ) → j < i → ClashAt pips j → ⊥) → HasUnshared pips → ⊥
none_unshared pips i l none h =
    let clash = clash_from_unshared pips h in none_at_all (ClashAt pips) (length pips) i l (clash_within pips) none clash.0 clash.1
