-- The claims of all pips, those of the first pips, and the lists of paths that are made of them.
use Rattle.std.proofs.Common.{inl, inr, ◌≡◌, ℕ, ◌+◌, ◌<◌, ◌≤◌, Bool, true, false, ◌&&◌, cond, List, [], ◌∷◌, ◌++◌, length, length-take, map, take, Some, None, arith, refl, ap, subst, sym}
use Rattle.std.specs.Prelude.{◌↔◌, Option, IsSomeAnd, nat_lt, slice_get}
use Rattle.std.specs.Bool.{Decides}
use Rattle.std.specs.List.{Contains, filter}
use Rattle.std.specs.List.Sorted.{IsPermutation}
use Rattle.std.proofs.lemmas.Bool.{cases_lt}
use Rattle.std.proofs.lemmas.Bool.Decides.{Decides-and, Decides-ltb}
use Rattle.std.proofs.lemmas.List.Elements.{Contains-append_cases, Contains-append_left, Contains-append_right}
use Rattle.std.proofs.lemmas.List.Sorted.{Contains-permutation, IsPermutation-sym}
use Rattle.bx_tree.specs.Paths.{Atoms}
use Rattle.pip_model_types.specs.declared.pip.Pip.{Pip}
use Rattle.pip_model_types.specs.declared.pip.PipKind.{PipKind}
use Rattle.graph_check_outputs.specs.declared.gathered.Claim.{Claim}
use Rattle.graph_check_outputs.specs.declared.gathered.Role.{Role}
use Rattle.graph_check_outputs.specs.declared.gathered.Role.TheVariants.{File, Dir, Root}
use Rattle.graph_check_outputs.specs.declared.gathered.Wanted.{Wanted}
use Rattle.graph_check_outputs.specs.declared.gathered.Wanted.TheVariants.{Files, Dirs, Outputs, Roots}
use Rattle.graph_check_outputs.specs.Claims.{AreClaims, IsInClaimOrder, claim_of, claims_of, if_wanted, in_role, paths_among, wanted_items, wants}
use Rattle.graph_check_outputs.specs.Gathered.{IsInOrder, IsListOf}
use Rattle.graph_check_outputs.specs.Outputs.{PipHas, declared_files}
use Rattle.graph_check_outputs.specs.Sharing.{declared_dir_paths, full_roots}
use Rattle.graph_check_outputs.proofs.Among.{from_flat, from_map, to_flat, to_map}
use Rattle.graph_check_outputs.proofs.Has.{has_there, has_within, there_has}
use Rattle.graph_check_outputs.proofs.Prefixes.{into, out_of}
use Rattle.graph_check_outputs.proofs.InOrder.{rise_filter, rise_map}

-- ## The claims of one pip

from_claims : (role : Role) (pip : ℕ) (xs : List Atoms) (c : Claim) → Contains (map (claim_of role pip) xs) c
    → (c.role ≡ role) × (c.pip ≡ pip) × Contains xs c.path
from_claims role pip xs c h =
    let found = from_map (claim_of role pip) xs c h in (
      sym (ap (λ (d : Claim). d.role) found.2),
      sym (ap (λ (d : Claim). d.pip) found.2),
      subst (Contains xs) (ap (λ (d : Claim). d.path) found.2) found.1,
    )

claims_from : (pip : ℕ) (kind : PipKind) (c : Claim) → Contains (claims_of pip kind) c → (c.pip ≡ pip) × Contains (in_role c.role kind) c.path
claims_from pip kind c h =
    let files = map (claim_of File pip) (declared_files kind) in
    let dirs = map (claim_of Dir pip) (declared_dir_paths kind) in
    let roots = map (claim_of Root pip) (full_roots kind) in
    elim (Contains-append_cases (files ++ dirs) roots c h) [
      | inl prefix ↦ elim (Contains-append_cases files dirs c prefix) [
        | inl file ↦ at File (from_claims File pip (declared_files kind) c file)
        | inr dir ↦ at Dir (from_claims Dir pip (declared_dir_paths kind) c dir)
      ]
      | inr root ↦ at Root (from_claims Root pip (full_roots kind) c root)
    ]
  where
    at : (role : Role) → (c.role ≡ role) × (c.pip ≡ pip) × Contains (in_role role kind) c.path → (c.pip ≡ pip) × Contains (in_role c.role kind) c.path
    at role (e, n, there) = (n, subst (λ r. Contains (in_role r kind) c.path) (sym e) there)

by_role : (pip : ℕ) (kind : PipKind) (role : Role) (path : Atoms) → Contains (in_role role kind) path → Contains (claims_of pip kind) (claim_of role pip path)
by_role pip kind File path h =
    let files = map (claim_of File pip) (declared_files kind) in
    let dirs = map (claim_of Dir pip) (declared_dir_paths kind) in
    Contains-append_left (files ++ dirs) (map (claim_of Root pip) (full_roots kind)) (claim_of File pip path)
    (Contains-append_left files dirs (claim_of File pip path) (to_map (claim_of File pip) (declared_files kind) path h))
by_role pip kind Dir path h =
    let files = map (claim_of File pip) (declared_files kind) in
    let dirs = map (claim_of Dir pip) (declared_dir_paths kind) in
    Contains-append_left (files ++ dirs) (map (claim_of Root pip) (full_roots kind)) (claim_of Dir pip path)
    (Contains-append_right files dirs (claim_of Dir pip path) (to_map (claim_of Dir pip) (declared_dir_paths kind) path h))
by_role pip kind Root path h =
    Contains-append_right (map (claim_of File pip) (declared_files kind) ++ map (claim_of Dir pip) (declared_dir_paths kind)) (map (claim_of Root pip) (full_roots kind))
    (claim_of Root pip path) (to_map (claim_of Root pip) (full_roots kind) path h)

claims_to : (pip : ℕ) (kind : PipKind) (c : Claim) → c.pip ≡ pip → Contains (in_role c.role kind) c.path → Contains (claims_of pip kind) c
claims_to pip kind c e h = subst (λ n. Contains (claims_of pip kind) (claim_of c.role n c.path)) (sym e) (by_role pip kind c.role c.path h)

-- ## The claims of all pips

-- the claims are those of the first n pips
abbrev pub AreFirstClaims : List Pip → ℕ → List Claim → Type 0
AreFirstClaims pips n claims = (c : Claim) → Contains claims c ↔ ((c.pip < n) × PipHas (in_role c.role) pips c.pip c.path)

pub no_claims : (pips : List Pip) (claims : List Claim) → length claims ≡ 0 → AreFirstClaims pips 0 claims
no_claims pips claims e c = (λ (k, l, is). absurd (omega (arith, l, e)), λ (l, has). absurd (omega (arith, l)))

pub more_claims : (pips : List Pip) (n : ℕ) (pip : Pip) (now next : List Claim) → slice_get pips n ≡ Some pip → next ≡ now ++ claims_of n pip.kind
    → AreFirstClaims pips n now → AreFirstClaims pips (n + 1) next
more_claims pips n pip now next there e before c = (
  λ h. elim (Contains-append_cases now (claims_of n pip.kind) c (subst (λ cs. Contains cs c) e h)) [
    | inl old ↦ let b = (before c).0 old in (omega (arith, b.0), b.1)
    | inr new ↦
        let b = claims_from n pip.kind c new in
        (omega (arith, b.0), subst (λ m. PipHas (in_role c.role) pips m c.path) (sym b.0) (has_there (in_role c.role) pips n pip c.path there b.1))
  ],
  λ (l, has). subst (λ cs. Contains cs c) (sym e) (elim (cases_lt c.pip n) [
    | inl below ↦ Contains-append_left now (claims_of n pip.kind) c ((before c).1 (below, has))
    | inr above ↦
        let here : c.pip ≡ n = omega (arith, l, above) in
        Contains-append_right now (claims_of n pip.kind) c
        (claims_to n pip.kind c here (there_has (in_role c.role) pips n pip c.path there (subst (λ m. PipHas (in_role c.role) pips m c.path) here has)))
  ]),
)

pub sorted_claims : (pips : List Pip) (n : ℕ) (xs ys : List Claim) → length pips ≤ n → AreFirstClaims pips n xs → IsPermutation xs ys → IsInClaimOrder ys
    → AreClaims pips ys
sorted_claims pips n xs ys long all moved up = record {
  sorted = up;
  members = λ c l. (
    λ h. ((all c).0 (Contains-permutation ys xs c (IsPermutation-sym xs ys moved) h)).1,
    λ has. Contains-permutation xs ys c moved ((all c).1 (omega (arith, l, long), has)),
  );
}

-- the claims of pips have those of the first ones
pub claims_of_first : (pips : List Pip) (m : ℕ) (claims : List Claim) → AreClaims pips claims → AreClaims (take m pips) claims
claims_of_first pips m claims are = record {
  sorted = are.sorted;
  members = λ c l.
      let long = length-take m pips in
      let first : c.pip < m = omega (arith, l, long) in
      let within : c.pip < length pips = omega (arith, l, long) in (
        λ h. into (in_role c.role) pips m c.pip c.path first ((are.members c within).0 h),
        λ has. (are.members c within).1 (out_of (in_role c.role) pips m c.pip c.path first has),
      );
}

-- ## Lists of paths

-- a list in which some claims are kept
abbrev is_asked : Wanted → ℕ → Claim → Bool
is_asked wanted count c = nat_lt c.pip count && wants wanted c.role

abbrev claim_path : Claim → Atoms
claim_path c = c.path

kept_paths : (c : Claim) (b : Bool) (ps : List Atoms) (cs : List Claim) → ps ≡ map claim_path cs
    → cond b (c.path ∷ []) [] ++ ps ≡ map claim_path (cond b (c ∷ cs) cs)
kept_paths c true ps cs e = ap (λ qs. c.path ∷ qs) e
kept_paths c false ps cs e = e

among_is : (wanted : Wanted) (count : ℕ) (claims : List Claim) → paths_among wanted count claims ≡ map claim_path (filter (is_asked wanted count) claims)
among_is wanted count [] = refl
among_is wanted count (c ∷ cs) =
    kept_paths c (is_asked wanted count c) (paths_among wanted count cs) (filter (is_asked wanted count) cs) (among_is wanted count cs)

sorted_among : (wanted : Wanted) (count : ℕ) (claims : List Claim) → IsInClaimOrder claims → IsInOrder (paths_among wanted count claims)
sorted_among wanted count claims up =
    subst IsInOrder (sym (among_is wanted count claims))
    (rise_map claim_path (filter (is_asked wanted count) claims) (rise_filter claim_path (is_asked wanted count) claims up))

asked_decides : (wanted : Wanted) (count : ℕ) (c : Claim) → Decides (is_asked wanted count c) ((c.pip < count) × (wants wanted c.role ≡ true))
asked_decides wanted count c = Decides-and (nat_lt c.pip count) (wants wanted c.role) (Decides-ltb c.pip count) (λ t. t, λ t. t)

from_kept : (b : Bool) (path p : Atoms) → Contains (cond b (path ∷ []) []) p → (b ≡ true) × (path ≡ p)
from_kept true path p (k, l, e) = (refl, let zero : k ≡ 0 = omega (arith, l) in rw zero at e)
from_kept false path p (k, l, e) = absurd (omega (arith, l))

to_kept : (b : Bool) (path : Atoms) → b ≡ true → Contains (cond b (path ∷ []) []) path
to_kept true path e = (0, omega arith, refl)
to_kept false path e = cc

wanted_from : (wanted : Wanted) (role : Role) (kind : PipKind) (p : Atoms) → wants wanted role ≡ true → Contains (in_role role kind) p
    → Contains (wanted_items wanted kind) p
wanted_from Files File kind p e h = h
wanted_from Files Dir kind p e h = cc
wanted_from Files Root kind p e h = cc
wanted_from Dirs File kind p e h = cc
wanted_from Dirs Dir kind p e h = h
wanted_from Dirs Root kind p e h = cc
wanted_from Outputs File kind p e h = Contains-append_left (declared_files kind) (declared_dir_paths kind) p h
wanted_from Outputs Dir kind p e h = Contains-append_right (declared_files kind) (declared_dir_paths kind) p h
wanted_from Outputs Root kind p e h = cc
wanted_from Roots File kind p e h = cc
wanted_from Roots Dir kind p e h = cc
wanted_from Roots Root kind p e h = h

wanted_to : (wanted : Wanted) (kind : PipKind) (p : Atoms) → Contains (wanted_items wanted kind) p
    → (role : Role) × (wants wanted role ≡ true) × Contains (in_role role kind) p
wanted_to Files kind p h = (File, refl, h)
wanted_to Dirs kind p h = (Dir, refl, h)
wanted_to Outputs kind p h = elim (Contains-append_cases (declared_files kind) (declared_dir_paths kind) p h) [
  | inl file ↦ (File, refl, file)
  | inr dir ↦ (Dir, refl, dir)
]
wanted_to Roots kind p h = (Root, refl, h)

has_wanted : (wanted : Wanted) (role : Role) (pips : List Pip) (i : ℕ) (p : Atoms) → wants wanted role ≡ true → PipHas (in_role role) pips i p
    → PipHas (wanted_items wanted) pips i p
has_wanted wanted role pips i p e h = at (slice_get pips i) h
  where
    at : (o : Option Pip) → IsSomeAnd o (λ (q : Pip). Contains (in_role role q.kind) p) → IsSomeAnd o (λ (q : Pip). Contains (wanted_items wanted q.kind) p)
    at None h = absurd h
    at (Some pip) h = wanted_from wanted role pip.kind p e h

has_in_role : (wanted : Wanted) (pips : List Pip) (i : ℕ) (p : Atoms) → PipHas (wanted_items wanted) pips i p
    → (role : Role) × (wants wanted role ≡ true) × PipHas (in_role role) pips i p
has_in_role wanted pips i p h = at (slice_get pips i) h
  where
    at : (o : Option Pip) → IsSomeAnd o (λ (q : Pip). Contains (wanted_items wanted q.kind) p)
        → (role : Role) × (wants wanted role ≡ true) × IsSomeAnd o (λ (q : Pip). Contains (in_role role q.kind) p)
    at None h = absurd h
    at (Some pip) h = wanted_to wanted pip.kind p h

pub list_of_claims : (wanted : Wanted) (pips : List Pip) (claims : List Claim) → AreClaims pips claims
    → IsListOf (wanted_items wanted) pips (paths_among wanted (length pips) claims)
list_of_claims wanted pips claims are = record {
  sorted = sorted_among wanted (length pips) claims are.sorted;
  members = λ p. (
    λ h.
        let found = from_flat (if_wanted wanted (length pips)) claims p h in
        let c = found.0 in
        let kept = from_kept (is_asked wanted (length pips) c) c.path p found.2 in
        let asked = (asked_decides wanted (length pips) c).0 kept.0 in
        let has = (are.members c asked.0).0 found.1 in
        (c.pip, subst (PipHas (wanted_items wanted) pips c.pip) kept.1 (has_wanted wanted c.role pips c.pip c.path asked.1 has)),
    λ (i, has).
        let role = has_in_role wanted pips i p has in
        let within = has_within (wanted_items wanted) pips i p has in
        let c = claim_of role.0 i p in
        to_flat (if_wanted wanted (length pips)) claims c p ((are.members c within).1 role.2)
        (to_kept (is_asked wanted (length pips) c) p ((asked_decides wanted (length pips) c).1 (within, role.1))),
  );
}
