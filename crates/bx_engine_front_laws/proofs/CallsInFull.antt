-- A program whose names are resolved calls each function with as many values as it captures.
use Rattle.std.proofs.Common.{◌≡◌, ℕ, List, [], Option, Some, None, Ok}
use Rattle.std.specs.Prelude.{IsSomeAnd, option_and_then, option_map, slice_get}
use Rattle.std.specs.List.{AllByRecursion}
use Rattle.bx_tree.specs.Trees.{Files}
use Rattle.dscript_program.specs.ProgramData as declared
use Rattle.dscript_program.specs.ProgramData.{DeclData, FileData, FunctionData, KindData, ProgramData}
use Rattle.dscript_program.specs.Workspaces.{ModuleData}
use Rattle.dscript_names_scopes.specs.Declarations.{ParsedData}
use Rattle.dscript_names.specs.Named.{named}
use Rattle.dscript_names_laws.specs.Whole.{IsWhole, IsWholeKind}
use Rattle.dscript_names_laws.proofs.WholePrograms.{whole}
use Rattle.dscript_eval_meaning.specs.Acts.{Acts}
use Rattle.dscript_eval_meaning.specs.Expressions.{captured_of}
use Rattle.dscript_eval_meaning.specs.Meaning.{meaning}
use Rattle.dscript_eval_laws.specs.FullCalls.{CapturesNothing, DeclaredCaptureNothing, meaning_or}
use Rattle.dscript_eval_laws.proofs.FullCalls.{all_calls_are_full}
use Rattle.dscript_eval_laws.proofs.MadeOutcomes.{IfThere}
use Rattle.dscript_eval_laws.proofs.MadeStates.{at_place}

nothing_held : (f : Option FunctionData) → IsSomeAnd f (λ (g : FunctionData). g.captured ≡ []) → captured_of f ≡ []
nothing_held None h = absurd h
nothing_held (Some g) h = h

module _ (p : ProgramData) where
  by_kind : (kind : KindData) → IsWholeKind p kind → CapturesNothing p (Some kind)
  by_kind (declared.Const t e) h = tt
  by_kind (declared.Function ts t number) h = nothing_held (slice_get p.functions number) h
  by_kind (declared.Interface ts es ms) h = tt
  by_kind (declared.TypeAlias ts t) h = tt

  by_declaration
      : (d : Option DeclData) → IfThere (λ (d : DeclData). IsWholeKind p d.kind) d
      → CapturesNothing p (option_map (λ (d : DeclData). d.kind) d)
  by_declaration None h = tt
  by_declaration (Some d) h = by_kind d.kind h

  by_file
      : (decl : ℕ) (f : Option FileData)
      → IfThere (λ (f : FileData). AllByRecursion (λ (d : DeclData). IsWholeKind p d.kind) f.decls) f
      → CapturesNothing p
      (option_and_then (λ (f : FileData). option_map (λ (d : DeclData). d.kind) (slice_get f.decls decl)) f)
  by_file decl None h = tt
  by_file decl (Some f) h =
      by_declaration (slice_get f.decls decl) (at_place (λ (d : DeclData). IsWholeKind p d.kind) f.decls decl h)

  declared_capture_nothing : IsWhole p → DeclaredCaptureNothing p
  declared_capture_nothing w = λ file decl.
      by_file decl (slice_get p.files file)
      (at_place (λ (f : FileData). AllByRecursion (λ (d : DeclData). IsWholeKind p d.kind) f.decls) p.files file w.files)

pub in_full
    : (modules : List ModuleData) (files : List ParsedData) (p : ProgramData) (otherwise : Acts) (sources : Files)
    (budget : ℕ) → named modules files ≡ Ok p → meaning_or p otherwise sources budget ≡ meaning p sources budget
in_full modules files p otherwise sources budget is =
    all_calls_are_full p otherwise sources budget (declared_capture_nothing p (whole modules files p is))
