-- What holds of every run.
use Rattle.std.specs.Prelude.{◌≡◌, ◌≢◌, ◌≤◌, IsTrue, false, List, [], ◌∷◌, ◌++◌}
use Rattle.std.specs.List.{AllByRecursion}
use Rattle.bx_tree.specs.Trees.{NoneNested, paths_of}
use Rattle.bx_tree.specs.Members.{Has}
use Rattle.observed.specs.Asks.{is_listing}
use Rattle.observed.specs.declared.ask.Ask.{Ask}
use Rattle.observed.specs.declared.access.Access.{Access}
use Rattle.observed.specs.declared.access.Access.TheVariants.{Asked, Wrote, WriteDenied}
use Rattle.observed.specs.declared.access.Answer.{Answer}
use Rattle.observed.specs.declared.access.Answer.TheVariants as answers
use Rattle.observed.specs.declared.access.End.TheVariants as ends
use Rattle.pip_model_types.specs.Made.{RisingFiles}
use Rattle.tool_run.specs.Description.{Description, answer_of, permits}
use Rattle.tool_run.specs.Run.{Run, path_set, run_of}

-- the two answer alike at each of these asks
abbrev pub Agree : (Ask → Answer) → (Ask → Answer) → List Ask → Type 0
Agree a b asks = (q : Ask) → Has asks q → a q ≡ b q

-- No answer outside the path set changes anything that the run does.
abbrev pub DependsOnPathSet : Description → Type 0
DependsOnPathSet d =
    (a b : Ask → Answer) → Agree a b (path_set d (run_of d a).accesses) → run_of d b ≡ run_of d a

-- an access that was asked has the answer of its ask
abbrev pub IsAnswered : Description → (Ask → Answer) → Access → Type 0
IsAnswered d a (Asked ask answer) = answer ≡ answer_of d a ask
IsAnswered d a (Wrote path) = Unit {0}
IsAnswered d a (WriteDenied path) = Unit {0}

-- a denied access: a read or a probe that was answered so, or a denied write
abbrev pub IsDenied : Access → Type 0
IsDenied (Asked ask answer) = (is_listing ask.kind ≡ false) × (answer ≡ answers.Denied)
IsDenied (Wrote path) = ⊥
IsDenied (WriteDenied path) = Unit {0}

-- the last of the accesses is denied, and none before it
pub record EndsDenied (accesses : List Access) : Type 0 where
  pub before : List Access
  pub last : Access
  pub accesses_are : accesses ≡ before ++ last ∷ []
  pub denied : IsDenied last
  pub others : AllByRecursion (λ x. ¬ IsDenied x) before

-- What holds of each run: its asks are answered; a denied access is the last and the only one, and is there
-- exactly where the run ended so; it takes no more steps than it may; and the files that it wrote have
-- permitted paths, which rise, and none lies below another.
pub record RunInvariant (d : Description) (a : Ask → Answer) (r : Run) : Type 0 where
  pub answered : AllByRecursion (IsAnswered d a) r.accesses
  pub denied : r.end ≡ ends.Denied → EndsDenied r.accesses
  pub not_denied : r.end ≢ ends.Denied → AllByRecursion (λ x. ¬ IsDenied x) r.accesses
  pub steps : r.steps ≤ d.budget
  pub permitted : AllByRecursion (λ f. IsTrue (permits d f.0)) r.writes
  pub rising : RisingFiles r.writes
  pub unnested : NoneNested (paths_of r.writes)
