-- What a fair store is for a plan, and for an input that is read.
use Rattle.std.proofs.Common.{◌≡◌, ℕ, ◌<◌, Bool, true, false, List, [], length, get_or, Option, Some, sym, ◌∙◌, subst, arith}
use Rattle.std.specs.List.{Contains}
use Rattle.std.proofs.lemmas.Option.{same_Some}
use Rattle.std.proofs.lemmas.List.{get_or-map, get_or_default, length-map}
use Rattle.bx_tree.specs.Paths.{Atoms}
use Rattle.bx_tree.specs.Trees.{Files, IsReserved, paths_of}
use Rattle.bx_io.specs.Holdings.{Holdings}
use Rattle.bx_engine_front.specs.Specifications.{Plans}
use Rattle.bx_engine_front.specs.declared.limits.Limits.{Limits}
use Rattle.pip_model_types.specs.declared.pip.Pip.{Pip}
use Rattle.retire.specs.Runs.{NoneReserved}
use Rattle.retire.specs.Builds.{Fair, IsFair, IsFairStore}
use Rattle.bx_engine.specs.Ends.{AreSources, HasReserved}
use Rattle.bx_engine.specs.Stores.{FairWhere}

-- the store of an input is fair for the plan of that input
pub fair_plan : (cached : Bool) (limits : Limits) (input : List ℕ) (before now : Option Holdings) (tree : Files) (pips : List Pip)
    → FairWhere cached limits input before now → AreSources input tree → Plans limits tree pips → Fair pips tree limits.tool_budget cached before now
fair_plan false limits input before now tree pips fair sources plans = tt
fair_plan true limits input before now tree pips fair sources plans = fair tree pips sources plans

-- a store that is fair where it is used
pub fair_at : (pips : List Pip) (tree : Files) (budget : ℕ) (cached : Bool) (before now : Option Holdings) → Fair pips tree budget cached before now → cached ≡ true
    → IsFairStore pips tree budget before now
fair_at pips tree budget cached before now fair on = subst (λ (b : Bool). Fair pips tree budget b before now) on fair

-- is so where it held this
pub fair_is : (pips : List Pip) (tree : Files) (budget : ℕ) (before now : Option Holdings) (S : Holdings) → IsFairStore pips tree budget before now
    → before ≡ Some S → IsFair pips tree budget S
fair_is pips tree budget before now S at is = subst (IsFair pips tree budget) (same_Some at.held S (sym at.told ∙ is)) at.fair

-- a file whose path is reserved
reserved_there : (tree : Files) (path : Atoms) → Contains (paths_of tree) path → IsReserved path → HasReserved tree
reserved_there tree path c r =
    let d : List (List ℕ) × List ℕ = (path, []) in
    let inside : c.0 < length tree = omega (arith, c.1, length-map tree (λ (f : List (List ℕ) × List ℕ). f.0)) in
    let is : path ≡ (get_or tree c.0 d).0 = sym c.2 ∙ get_or-map (λ (f : List (List ℕ) × List ℕ). f.0) tree c.0 d path inside in
    (c.0, get_or tree c.0 d, inside, get_or_default tree c.0 (get_or tree c.0 d) d inside, subst (λ (p : Atoms). IsReserved p) is r)

pub none_reserved : (tree : Files) → (HasReserved tree → ⊥) → NoneReserved tree
none_reserved tree free = λ path c r. free (reserved_there tree path c r)
