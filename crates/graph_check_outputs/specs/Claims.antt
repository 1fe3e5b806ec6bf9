-- What all pips declare, each path with its pip and with what it is declared as.
use Rattle.std.specs.Prelude.{◌↔◌, ℕ, ◌<◌, Bool, true, false, ◌&&◌, cond, List, [], ◌∷◌, ◌++◌, length, map}
use Rattle.std.specs.Prelude.{Contains, nat_lt}
use Rattle.std.specs.List.{flat_map}
use Rattle.bx_tree.specs.Paths.{Atoms}
use Rattle.bx_tree_paths.specs.Searches.{RiseByText}
use Rattle.pip_model_types.specs.declared.pip.Pip.{Pip}
use Rattle.pip_model_types.specs.declared.pip.PipKind.{PipKind}
use Rattle.graph_check_outputs.specs.Outputs.{PipHas, declared_files, outputs}
use Rattle.graph_check_outputs.specs.Sharing.{declared_dir_paths, full_roots}
use Rattle.graph_check_outputs.specs.declared.gathered.Claim.{Claim}
use Rattle.graph_check_outputs.specs.declared.gathered.Role.{Role}
use Rattle.graph_check_outputs.specs.declared.gathered.Role.TheVariants.{File, Dir, Root}
use Rattle.graph_check_outputs.specs.declared.gathered.Wanted.{Wanted}
use Rattle.graph_check_outputs.specs.declared.gathered.Wanted.TheVariants.{Files, Dirs, Outputs, Roots}

-- what a pip declares in a role
abbrev pub in_role : Role → PipKind → List Atoms
in_role File = declared_files
in_role Dir = declared_dir_paths
in_role Root = full_roots

abbrev pub wants : Wanted → Role → Bool
wants Files File = true
wants Files Dir = false
wants Files Root = false
wants Dirs File = false
wants Dirs Dir = true
wants Dirs Root = false
wants Outputs File = true
wants Outputs Dir = true
wants Outputs Root = false
wants Roots File = false
wants Roots Dir = false
wants Roots Root = true

-- what a pip declares of what is asked for
abbrev pub wanted_items : Wanted → PipKind → List Atoms
wanted_items Files = declared_files
wanted_items Dirs = declared_dir_paths
wanted_items Outputs = outputs
wanted_items Roots = full_roots

abbrev pub claim_of : Role → ℕ → Atoms → Claim
claim_of role pip path = record { role = role; pip = pip; path = path }

-- all claims of a pip
abbrev pub claims_of : ℕ → PipKind → List Claim
claims_of pip kind =
    map (claim_of File pip) (declared_files kind) ++ map (claim_of Dir pip) (declared_dir_paths kind)
    ++ map (claim_of Root pip) (full_roots kind)

-- the claims rise by the texts of their paths
abbrev pub IsInClaimOrder : List Claim → Type 0
IsInClaimOrder = RiseByText (λ (c : Claim). c.path)

-- Of the pips of this list, which may be the first of more, the claims are just what they declare.
pub record AreClaims (pips : List Pip) (claims : List Claim) : Type 0 where
  pub sorted : IsInClaimOrder claims
  pub members : (c : Claim) → c.pip < length pips → Contains claims c ↔ PipHas (in_role c.role) pips c.pip c.path

-- the path of the claim, if it is asked for and of one of the first pips
abbrev pub if_wanted : Wanted → ℕ → Claim → List Atoms
if_wanted wanted count c = cond (nat_lt c.pip count && wants wanted c.role) (c.path ∷ []) []

abbrev pub paths_among : Wanted → ℕ → List Claim → List Atoms
paths_among wanted count = flat_map (if_wanted wanted count)
