use Rattle.std.proofs.Common.{◌≡◌, rules, List, Some, None, ap, option_copied, sym, ◌∙◌}
use Rattle.std.specs.List.{find, position_from, slice_get}
use Rattle.std.specs.Str.{bytes_eq}
use Rattle.dscript_names_scopes.specs.Names.{FileNames}
use Rattle.dscript_names_scopes.specs.declared.names.Imported.{Imported}
use Rattle.dscript_names_scopes.proofs.Placed.{find_placed, find_nowhere}
use Rattle.dscript_names_scopes.proofs.names.FileNames.import.Goals as goal

pub returns : goal.returns
returns c =
    let x = c.args.name.now in
    let imports = c.self.inside.imports.items in
    let place = c.in_ok-place.place in
    let first : position_from (λ (y : Imported). bytes_eq y.name x) 0 imports ≡ Some place =
    sym (c.self.invariant.places x) ∙ sym c.place.ensures ∙ c.in_ok-place.was in
    c.import_at.ensures ∙ ap (λ (ys : List Imported). slice_get ys place) c.as_slice.ensures.value
    ∙ sym (find_placed (λ (y : Imported). bytes_eq y.name x) imports place first)
    ∙ ap (λ (b : FileNames). find (λ (y : Imported). bytes_eq y.name x) b.imports) c.self.view_is

pub returns-in_err-place : goal.returns-in_err-place
returns-in_err-place c =
    let x = c.args.name.now in
    let imports = c.self.inside.imports.items in
    let none : position_from (λ (y : Imported). bytes_eq y.name x) 0 imports ≡ None =
    sym (c.self.invariant.places x) ∙ sym c.place.ensures ∙ c.in_err-place.was in
    let given : c.from_residual.result ≡ None = search rules in
    ap option_copied given ∙ sym (find_nowhere (λ (y : Imported). bytes_eq y.name x) imports none) ∙ ap (λ (b : FileNames). find (λ (y : Imported). bytes_eq y.name x) b.imports) c.self.view_is
