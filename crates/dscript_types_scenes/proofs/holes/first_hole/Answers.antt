use Rattle.std.proofs.Common.{◌∙◌, ap, refl, sym}
use Rattle.dscript_ast.specs.declared.expr.PathKind.TheVariants as letters
use Rattle.dscript_types_meaning.specs.Expressions.{first_hole}
use Rattle.dscript_types_scenes.proofs.Leading.{first_leads}
use Rattle.dscript_types_scenes.proofs.holes.first_hole.Goals as goal

pub returns-in-Path : goal.returns-in-Path
returns-in-Path c =
    first_leads letters.Path refl (λ x xs. refl) c.args.text.now _ _ _ c.bytes.ensures c.is_empty.ensures c.leading_if.ensures
    ∙ sym (ap (λ letter. first_hole letter c.args.text.now) c.in-Path.is)

pub returns-in-File : goal.returns-in-File
returns-in-File c =
    first_leads letters.File refl (λ x xs. refl) c.args.text.now _ _ _ c.bytes-in-File.ensures c.is_empty-in-File.ensures c.leading_if-in-File.ensures
    ∙ sym (ap (λ letter. first_hole letter c.args.text.now) c.in-File.is)

pub returns-in-Directory : goal.returns-in-Directory
returns-in-Directory c =
    first_leads letters.Directory refl (λ x xs. refl) c.args.text.now _ _ _ c.bytes-in-Directory.ensures c.is_empty-in-Directory.ensures c.leading_if-in-Directory.ensures
    ∙ sym (ap (λ letter. first_hole letter c.args.text.now) c.in-Directory.is)
