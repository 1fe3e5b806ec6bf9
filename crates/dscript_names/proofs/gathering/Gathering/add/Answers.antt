use Rattle.std.proofs.Common.{◌∙◌, ap, map}
use Rattle.std.specs.List.{filter, list_any}
use Rattle.dscript_names_scopes.specs.Declarations.{is_exported}
use Rattle.dscript_names.specs.Exports.{exported_at}
use Rattle.dscript_names.proofs.Duplicated.{file_added}
use Rattle.dscript_names.proofs.gathering.Gathering.add.Goals as goal

pub returns : goal.returns
returns c =
    file_added c.args.self.now _ c.args.owner _ c.in_ok-names.names c.in_ok-file.file c.in_ok-exported.exported.items
    c.in_ok-repeats.repeats c.has_one_of-clashes.result _
    c.in_ok-names.ensures c.in_ok-file.ensures
    (c.in_ok-exported.ensures ∙ ap (λ ds. map (λ d. d.name) (filter (λ d. is_exported d.mark) ds)) c.as_slice.ensures.value)
    c.in_ok-push.ensures.items c.in_ok-add.ensures c.in_ok-repeats.ensures
    (c.has_one_of-clashes.ensures
    ∙ ap (list_any (exported_at c.args.self.now.exports c.args.owner)) c.as_slice-2.ensures.value)
    c.either.ensures
