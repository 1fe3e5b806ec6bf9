use Rattle.std.proofs.Common.{◌∙◌, [], ap, length, map, sym}
use Rattle.std.proofs.lemmas.Result.{err_from_is_err_and}
use Rattle.std.proofs.lemmas.List.{length-map}
use Rattle.dscript_program.specs.Workspaces.{modules_data, modules_of}
use Rattle.dscript_names_scopes.specs.Declarations.{names_of}
use Rattle.dscript_names_scopes.specs.Duplicates.{first_duplicate}
use Rattle.dscript_names.specs.Views.{parsed_data}
use Rattle.dscript_names.proofs.Resolved.{named_is, refused_duplicate, resolved}
use Rattle.dscript_names.proofs.resolving.resolve.Goals as goal

pub returns-in_err-files : goal.returns-in_err-files
returns-in_err-files c =
    let p = err_from_is_err_and c.from_residual.result c.from_residual.ensures.1 in
    rw (p.1, p.2)
    (refused_duplicate (modules_of c.args.work.now) c.as_slice.result.now c.args.parsed.items c.in_err-files.field-0.0
    c.as_slice.ensures.value c.in_err-files.ensures)

pub bind-requires : goal.bind-requires
bind-requires c =
    let modules = modules_of c.args.work.now in
    let xs = c.as_slice.result.now in
    ap (λ w. length w.files) c.in_ok-world.ensures ∙ ap length c.in_ok-files.ensures.0
    ∙ length-map (map parsed_data xs) (names_of modules) ∙ length-map xs parsed_data
    ∙ ap length c.as_slice.ensures.value

pub returns : goal.returns
returns c =
    let modules = modules_of c.args.work.now in
    let ps = map parsed_data c.args.parsed.items in
    let is = ap (map parsed_data) c.as_slice.ensures.value in
    resolved modules ps _ c.bind.result
    (named_is modules ps c.in_ok-world.world c.in_ok-names.names.items c.in_ok-files.files.items
    (ap (first_duplicate modules []) (sym is) ∙ c.in_ok-files.ensures.1)
    (c.in_ok-files.ensures.0 ∙ ap (map (names_of modules)) is)
    (c.in_ok-names.ensures ∙ ap (λ ms. map (λ m. m.name) (modules_data ms)) c.as_slice-2.ensures.value)
    c.in_ok-world.ensures)
    c.bind.ensures
