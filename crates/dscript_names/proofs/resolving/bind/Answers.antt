use Rattle.std.proofs.Common.{◌<◌, ◌∙◌, ap, arith, drop, get_or, length, map, sym}
use Rattle.std.specs.Vec.Iter.{into_iter_items}
use Rattle.std.proofs.lemmas.Result.{err_from_is_err_and}
use Rattle.bx_tree.proofs.Lists.{none_left}
use Rattle.dscript_names.specs.Views.{parsed_data}
use Rattle.dscript_names.proofs.Listed.{length_after, length_before}
use Rattle.dscript_names.proofs.Resolved.{names_split, resolved_all, resolved_first, resolved_more, resolved_stop}
use Rattle.dscript_names.proofs.resolving.bind.Goals as goal

pub files-init : goal.files-init
files-init c =
    let whole = c.into_iter-file-iterator.ensures.into_iter_gives.0 in
    let count = c.requires ∙ ap length (sym whole) in (
      tt,
      tt,
      omega (arith, count),
      resolved_first c.args.world.now c.args.world.now.files (map parsed_data c.args.parsed.items) _ c.new-resolving.result
          c.new-resolving.ensures.files c.new-resolving.ensures.table (ap (map parsed_data) whole),
    )

pub files-preserved : goal.files-preserved
files-preserved c =
    let split = c.in-Some.ensures.steps.0 in
    let within : c.files.number < length c.args.world.now.files = length_before c.files.number c.files.invariant.2 split in
    let at = c.index-names-number.is
    ∙ ap (λ fs. get_or fs c.files.number c.index-names-number.result) c.files-names.ensures in (
      tt,
      tt,
      length_after c.files.number c.files.invariant.2 split,
      resolved_more c.files.invariant.3
          (names_split c.args.world.now.files c.files.number c.index-names-number.result within at)
          (ap (map parsed_data) split) c.into_items-items.ensures c.in_ok-file.ensures,
    )

pub returns-in_err-file : goal.returns-in_err-file
returns-in_err-file c =
    let split = c.in-Some.ensures.steps.0 in
    let within : c.files.number < length c.args.world.now.files = length_before c.files.number c.files.invariant.2 split in
    let at = c.index-names-number.is
    ∙ ap (λ fs. get_or fs c.files.number c.index-names-number.result) c.files-names.ensures in
    let p = err_from_is_err_and c.from_residual.result c.from_residual.ensures.1 in
    rw (p.1, p.2)
    (resolved_stop c.args.world.now c.files.number c.files.resolving c.in_err-file.field-0.0 c.files.invariant.3
    (names_split c.args.world.now.files c.files.number c.index-names-number.result within at)
    (ap (map parsed_data) split) c.into_items-items.ensures c.in_err-file.ensures)

pub returns : goal.returns
returns c =
    let none = none_left (into_iter_items c.files.file-iterator)
    (omega (arith, c.in-None.ensures.steps.0, c.files.file-iterator.rest.ok.0)) in
    resolved_all c.args.world.now c.files.number (drop c.files.number c.args.world.now.files) c.files.resolving
    c.files.invariant.3 (ap (map parsed_data) none)
