use Rattle.std.proofs.Common.{◌≡◌, rules, List, Some, None, ap, option_copied, sym, ◌∙◌}
use Rattle.std.specs.List.{position_from, slice_get}
use Rattle.std.specs.Str.{bytes_eq}
use Rattle.dscript_names_scopes.specs.Blocks.{Block}
use Rattle.dscript_names_scopes.specs.Lookup.{local_in}
use Rattle.dscript_names_scopes.specs.declared.local.Local.{Local}
use Rattle.dscript_names_scopes.proofs.Placed.{find_placed, find_nowhere}
use Rattle.dscript_names_scopes.proofs.indexed.IndexedBlock.local.Goals as goal

pub returns : goal.returns
returns c =
    let x = c.args.name.now in
    let locals = c.self.inside.locals.items in
    let place = c.in_ok-place.place in
    let first : position_from (λ (y : Local). bytes_eq y.name x) 0 locals ≡ Some place =
    sym (c.self.invariant x) ∙ sym c.place.ensures ∙ c.in_ok-place.was in
    c.local_at.ensures ∙ ap (λ (ys : List Local). slice_get ys place) c.as_slice.ensures.value
    ∙ sym (find_placed (λ (y : Local). bytes_eq y.name x) locals place first)
    ∙ ap (λ (b : Block). local_in x b) c.self.view_is

pub returns-in_err-place : goal.returns-in_err-place
returns-in_err-place c =
    let x = c.args.name.now in
    let locals = c.self.inside.locals.items in
    let none : position_from (λ (y : Local). bytes_eq y.name x) 0 locals ≡ None =
    sym (c.self.invariant x) ∙ sym c.place.ensures ∙ c.in_err-place.was in
    let given : c.from_residual.result ≡ None = search rules in
    ap option_copied given ∙ sym (find_nowhere (λ (y : Local). bytes_eq y.name x) locals none) ∙ ap (λ (b : Block). local_in x b) c.self.view_is
