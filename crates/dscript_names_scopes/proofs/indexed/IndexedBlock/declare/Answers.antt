use Rattle.std.proofs.Common.{◌≡◌, ◌<◌, length, arith, Some, None, ap, get_or, slice_set, sym, ◌∙◌}
use Rattle.std.proofs.lemmas.Iterator.Adapters.{position_from-zero}
use Rattle.std.specs.List.{position_from}
use Rattle.std.specs.Str.{bytes_eq}
use Rattle.dscript_names_scopes.specs.Blocks.{Block}
use Rattle.dscript_names_scopes.specs.Lookup.{with_number}
use Rattle.dscript_names_scopes.specs.declared.local.Local.{Local}
use Rattle.dscript_names_scopes.proofs.Numbering.{numbered_at, not_numbered}
use Rattle.dscript_names_scopes.proofs.Placed.{placed_set, placed_within}
use Rattle.dscript_names_scopes.proofs.indexed.IndexedBlock.declare.Goals as goal

pub index_mut-local-requires : goal.index_mut-local-requires
index_mut-local-requires c =
    let locals = c.self.inside.locals in
    let within : c.in-Some.place < length locals.items =
    placed_within (λ (l : Local). bytes_eq l.name c.args.name.now) locals.items c.in-Some.place
    (sym (c.self.invariant c.args.name.now) ∙ sym c.place.ensures ∙ c.in-Some.is) in
    omega (arith, within, locals.ok.0)

pub invariant_of-self : goal.invariant_of-self
invariant_of-self c = λ x.
    let local = c.index_mut-local.result.now in
    c.self.invariant x
    ∙ sym (placed_set (λ (l : Local). bytes_eq l.name x) c.self.inside.locals.items c.in-Some.place
    (record local { number = Some c.args.number }) local
    (ap (λ (l : Local). bytes_eq l.name x) c.index_mut-local.ensures.value))

pub returns-in-Some : goal.returns-in-Some
returns-in-Some c =
    let x = c.args.name.now in
    let locals = c.args.self.now.locals in
    let local = c.index_mut-local.result.now in
    let at : local ≡ get_or locals c.in-Some.place local =
    c.index_mut-local.ensures.value
    ∙ ap (λ (b : Block). get_or b.locals c.in-Some.place local) c.self.view_is in
    let first : position_from (λ (l : Local). bytes_eq l.name x) 0 locals ≡ Some c.in-Some.place =
    sym (ap (λ (b : Block). position_from (λ (l : Local). bytes_eq l.name x) 0 b.locals) c.self.view_is)
    ∙ sym (c.self.invariant x) ∙ sym c.place.ensures ∙ c.in-Some.is in
    ap (λ (b : Block). record b { locals = slice_set b.locals c.in-Some.place (record local { number = Some c.args.number }) }) c.self.view_is
    ∙ ap (λ ls. record c.args.self.now { locals = ls })
    (sym (numbered_at x c.args.number locals local c.in-Some.place
    (position_from-zero (λ (l : Local). bytes_eq l.name x) locals ∙ first) at))

pub returns-in_default : goal.returns-in_default
returns-in_default c =
    let x = c.args.name.now in
    let locals = c.args.self.now.locals in
    let none : position_from (λ (l : Local). bytes_eq l.name x) 0 locals ≡ None =
    sym (ap (λ (b : Block). position_from (λ (l : Local). bytes_eq l.name x) 0 b.locals) c.self.view_is)
    ∙ sym (c.self.invariant x) ∙ sym c.place.ensures ∙ c.in_default.is in
    let same : c.args.self.now ≡ record c.args.self.now { locals = with_number x c.args.number locals } =
    ap (λ ls. record c.args.self.now { locals = ls })
    (sym (not_numbered x c.args.number locals
    (position_from-zero (λ (l : Local). bytes_eq l.name x) locals ∙ none))) in
    cc
