-- What a walk over a body has come to.
use Rattle.std.specs.Prelude.{◌++◌, ◌∷◌, ◌≡◌, ◌≤◌, ℕ, Bool, List, None, Option, Some, [], false, max}
use Rattle.std.specs.declared.alloc.Global.{Global}
use Rattle.std.specs.declared.vec.Vec.{Vec}
use Rattle.dscript_program.specs.ProgramData.{ProgramData}
use Rattle.dscript_types_known.specs.Findings.{Finding, Found, Nothing, Open}
use Rattle.dscript_types_known.specs.declared.finding.Finding.{Finding as AnyFinding}
use Rattle.dscript_types_known.specs.declared.finding.Finding.TheVariants as findings
use Rattle.dscript_types_meaning.specs.Contexts.{Context, Known}
use Rattle.dscript_types_meaning.specs.Typed.{known_within}
use Rattle.dscript_types_meaning.specs.Types.{TypeData}
use Rattle.dscript_types_notes.specs.Means.{program_of}
use Rattle.dscript_types_notes.specs.declared.world.World.{World}
use Rattle.dscript_types_scenes.specs.Scenes.{Closed, Matches}
use Rattle.dscript_types_scenes.specs.Typings.{FromOn, both_right}
use Rattle.dscript_types_scenes.specs.declared.found.Typing.{Typing}
use Rattle.dscript_types_scenes.specs.declared.found.Typing.TheVariants as typings
use Rattle.dscript_types_scenes.specs.declared.scene.Scene.{Scene}
use Rattle.dscript_types_scenes.specs.declared.walk.Rule.{Rule}
use Rattle.dscript_types_scenes.specs.declared.walk.Rule.TheVariants as rules

abbrev pub finding_types : AnyFinding (Vec TypeData Global) → Finding (List TypeData)
finding_types (findings.Found types rank) = Found types.items rank
finding_types findings.Nothing = Nothing
finding_types (findings.Open pending) = Open

-- ## Steps

-- from which number on an expression has a type where it stands
abbrev pub judged : Typing TypeData → Rule → Option ℕ
judged (typings.Found t seen) (rules.Met rank) = both_right (Some (max seen.rank rank)) seen.right
judged _ _ = None

-- the types of what is returned, with another
abbrev pub returned : Finding (List TypeData) → Typing TypeData → Finding (List TypeData)
returned (Found types rank) (typings.Found t seen) = Found (types ++ t ∷ []) (max rank seen.rank)
returned (Found types rank) typings.Nothing = Nothing
returned (Found types rank) (typings.Open pending) = Open
returned Nothing typing = Nothing
returned Open typing = Open

-- A rule says whether an expression of this type meets it, from which number on.
abbrev pub RuleSays : Type 0 → ℕ → Rule → Bool → Type 0
RuleSays closed n (rules.Met rank) met = FromOn (Some rank) n met
RuleSays closed n rules.NotMet met = closed → met ≡ false

-- in each context of the scene, of the type that was found
abbrev pub RulesAs : World → Scene → Typing TypeData → Rule → (ProgramData → Known → Context → TypeData → Bool) → Type 0
RulesAs w scene (typings.Found t seen) rule met =
    (n more : ℕ) (c : Context) → n ≤ more → n ≤ w.left → Matches (Closed w more) n scene c
    → RuleSays (Closed w more) n rule (met (program_of w) (known_within (program_of w) n) c t)
RulesAs w scene typings.Nothing rule met = Unit {0}
RulesAs w scene (typings.Open pending) rule met = Unit {0}
