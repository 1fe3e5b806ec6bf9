use Rattle.std.proofs.Common.{ℕ, List, ap, map, ◌∙◌}
use Rattle.std.specs.Borrow.{Bor}
use Rattle.std.specs.Str.{bytes_eq}
use Rattle.bx_tree.specs.Paths.{same_path}
use Rattle.dscript_program.specs.ProgramData.{Dotted}
use Rattle.dscript_names_scopes.specs.Duplicates.{has_repeat, repeats}
use Rattle.dscript_names_scopes.specs.declared.names.Declared.{Declared}
use Rattle.dscript_names_scopes.specs.declared.names.Imported.{Imported}
use Rattle.dscript_names.proofs.Distinct.{repeat_mapped}
use Rattle.dscript_names.proofs.SeenNames.{itself}
use Rattle.dscript_names.proofs.gathering.repeats_itself.Goals as goal

pub returns : goal.returns
returns c =
    itself _ c.has_repeat-declared.result c.either-others.result c.has_repeat-imported.result c.in_ok-in_blocks.in_blocks
    _ (map (λ (d : Declared). d.name) c.args.names.now.decls.items)
    (map (λ (i : Imported). i.name) c.args.names.now.imports.items) c.either.ensures c.either-others.ensures
    (c.has_repeat-declared.ensures
    ∙ repeat_mapped same_path (λ (name : Bor Dotted). name.now) c.in_ok-decls.decls.items
    ∙ ap (has_repeat same_path)
    (c.in_ok-decls.ensures ∙ ap (map (λ (d : Declared). d.name)) c.as_slice.ensures.value))
    (c.has_repeat-imported.ensures
    ∙ repeat_mapped bytes_eq (λ (text : Bor (List ℕ)). text.now) c.in_ok-imports.imports.items
    ∙ ap repeats
    (c.in_ok-imports.ensures ∙ ap (map (λ (i : Imported). i.name)) c.as_slice-2.ensures.value))
    c.in_ok-in_blocks.ensures
