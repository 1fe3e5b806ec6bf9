-- The parts of statements, and the rules of places.
use Rattle.std.specs.Option.{option_map}
use Rattle.std.specs.Prelude.{◌≡◌, ◌≤◌, ℕ, Bool, None, Option, Some, if◌then◌else◌}
use Rattle.std.specs.declared.alloc.Global.{Global}
use Rattle.std.specs.declared.boxed.Box.{Box}
use Rattle.dscript_ast.specs.TypeTree.{TypeTree}
use Rattle.dscript_ast.specs.Views.{type_tree}
use Rattle.dscript_ast.specs.declared.type_node.TypeNode.{TypeNode}
use Rattle.dscript_program.specs.BoundTree.{MaybeStmt, a_stmt, no_stmt, to_stmt}
use Rattle.dscript_program.specs.ProgramData.{ProgramData}
use Rattle.dscript_program.specs.Views.{stmt_data}
use Rattle.dscript_program.specs.declared.bound.BoundStmt.{BoundStmt}
use Rattle.dscript_types_known.specs.Findings.{Finding, Found, Nothing, Open}
use Rattle.dscript_types_known.specs.Matching.{FoundLocal}
use Rattle.dscript_types_known.specs.Views.{found_local}
use Rattle.dscript_types_known.specs.declared.locals.Local.{Local}
use Rattle.dscript_types_meaning.specs.Bodies.{item_of_list}
use Rattle.dscript_types_meaning.specs.Contexts.{Captured, Context, Fixed, Hold, Known, Variable}
use Rattle.dscript_types_meaning.specs.Fits.{fits}
use Rattle.dscript_types_meaning.specs.Typed.{known_within}
use Rattle.dscript_types_meaning.specs.Types.{TypeData}
use Rattle.dscript_types_meaning.specs.Unions.{is_list_type}
use Rattle.dscript_types_notes.specs.Means.{found_if, program_of}
use Rattle.dscript_types_notes.specs.declared.world.World.{World}
use Rattle.dscript_types_scenes.specs.Scenes.{Closed, IsSceneWith, Matches}
use Rattle.dscript_types_scenes.specs.Walks.{RuleSays}
use Rattle.dscript_types_scenes.specs.declared.found.Typing.{Typing}
use Rattle.dscript_types_scenes.specs.declared.found.Typing.TheVariants as typings
use Rattle.dscript_types_scenes.specs.declared.scene.Scene.{Scene}
use Rattle.dscript_types_scenes.specs.declared.walk.Rule.{Rule}
use Rattle.dscript_types_scenes.specs.declared.walk.Rule.TheVariants as rules

-- what there is behind `else`
abbrev pub maybe_of : Option BoundStmt → MaybeStmt
maybe_of None = no_stmt
maybe_of (Some s) = a_stmt (stmt_data s)

abbrev pub behind_else : Option (Box BoundStmt Global) → MaybeStmt
behind_else other = to_stmt (option_map (λ (s : Box BoundStmt Global). stmt_data s.value) other)

abbrev pub note_of : Option TypeNode → Option TypeTree
note_of annotation = option_map type_tree annotation

-- ## Rules of places

-- a type that fits the variable that is found
abbrev pub fitting : Finding TypeData → TypeData → Rule
fitting (Found u rank) t = if fits t u then rules.Met rank else rules.NotMet
fitting Nothing t = rules.NotMet
fitting Open t = rules.NotMet

-- the same of what is found of a value
abbrev pub found_fitting : Typing TypeData → Finding TypeData → Rule
found_fitting (typings.Found t seen) f = fitting f t
found_fitting typings.Nothing f = rules.Met 0
found_fitting (typings.Open pending) f = rules.Met 0

abbrev pub fitting_held : Hold → Finding TypeData → TypeData → Rule
fitting_held Variable finding t = fitting finding t
fitting_held Fixed finding t = rules.NotMet
fitting_held Captured finding t = rules.NotMet

-- what is assigned must fit the variable of the local
abbrev pub variable_rule : Option FoundLocal → Typing TypeData → Rule
variable_rule (Some f) (typings.Found t seen) = fitting_held f.hold f.type_data t
variable_rule _ _ = rules.NotMet

-- a list in a loop, and what is found of its items
abbrev pub loop_rule : Typing TypeData → Rule
loop_rule (typings.Found t seen) = if is_list_type t then rules.Met 0 else rules.NotMet
loop_rule typings.Nothing = rules.NotMet
loop_rule (typings.Open pending) = rules.NotMet

abbrev pub loop_items : Typing TypeData → Finding TypeData
loop_items (typings.Found t seen) = found_if (item_of_list t) seen.rank
loop_items typings.Nothing = Nothing
loop_items (typings.Open pending) = Open

-- a rule says whether a type meets it, in each context of the scene
abbrev pub MeetsAs : World → Scene → Rule → (ProgramData → Known → Context → Bool) → Type 0
MeetsAs w scene rule met =
    (n more : ℕ) (c : Context) → n ≤ more → n ≤ w.left → Matches (Closed w more) n scene c
    → RuleSays (Closed w more) n rule (met (program_of w) (known_within (program_of w) n) c)

-- ## Locals that are declared

-- a local that was declared is in the new scene
abbrev pub IsSceneAfter : Scene → Option (ℕ × Local) → Scene → Type 0
IsSceneAfter scene None new = new ≡ scene
IsSceneAfter scene (Some added) new = IsSceneWith scene added.0 (found_local added.1) new
