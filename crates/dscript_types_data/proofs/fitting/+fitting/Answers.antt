use Rattle.std.proofs.Common.{rules, ◌≡◌, ◌&&◌, ◌∙◌, true, false, ap, arith, map, sym}
use Rattle.std.specs.List.{list_any}
use Rattle.dscript_types_data.proofs.Fitted.{field_lighter, fits_rows, member_goes, member_of_type, member_stops, fields_unfit, objects_fit}
use Rattle.dscript_types_data.specs.Views.{field_data, member_data}
use Rattle.dscript_types_meaning.specs.Fits.{all_fit, are_required, member_fits}
use Rattle.dscript_types_meaning.specs.Types.{members_of, to_members}
use Rattle.dscript_types_data.proofs.fitting.+fitting.Goals as goal

pub fields_fit-fits-requires : goal.fields_fit-fits-requires
fields_fit-fits-requires t c =
    let less = field_lighter c.args.fields.now c.fields.field-index c.field-item.result c.fields-test.true c.field-item.is in
    (omega (arith, less, c.decreases), tt)

pub fits-members-init : goal.fits-members-init
fits-members-init t c =
    ap (λ xs. all_fit (to_members xs) (members_of c.args.other.now)) c.members-member-items.ensures
    ∙ fits_rows c.args.t.now c.args.other.now

pub fits-fits_one-requires : goal.fits-fits_one-requires
fits-fits_one-requires t c =
    let less = member_of_type c.members-member-items.result.now c.members.member-index c.member-item.result c.args.t.now
    c.members-test.true c.member-item.is c.members-member-items.ensures in
    (omega (arith, less, c.decreases), tt)

pub fits-returns-then-not-fits_one : goal.fits-returns-then-not-fits_one
fits-returns-then-not-fits_one t c =
    let fails : false ≡ c.fits_one.result = search rules in
    member_stops c.members-member-items.result.now c.members.member-index c.member-item.result
    (members_of c.args.other.now) c.fits_one.result c.members-test.true c.member-item.is
    (c.fits_one.ensures ∙ ap (λ os. list_any (λ o. member_fits (member_data c.member-item.result) o) os) c.members-in-members.ensures)
    fails
    ∙ c.members.invariant

pub fits-members-preserved : goal.fits-members-preserved
fits-members-preserved t c =
    let holds : true ≡ c.fits_one.result = search rules in
    member_goes c.members-member-items.result.now c.members.member-index c.member-item.result
    (members_of c.args.other.now) c.fits_one.result c.members-test.true c.member-item.is
    (c.fits_one.ensures ∙ ap (λ os. list_any (λ o. member_fits (member_data c.member-item.result) o) os) c.members-in-members.ensures)
    holds
    ∙ c.members.invariant

pub member_fits-returns-then-fields_fit : goal.member_fits-returns-then-fields_fit
member_fits-returns-then-fields_fit t c =
    rw (c.in-Objects-Objects.is-0, c.in-Objects-Objects.is-1)
    (c.are_required.ensures
    ∙ ap
    (λ b. b && are_required (map field_data c.items-then-fields_fit.result.now) (map field_data c.items-then-fields_fit-2.result.now))
    (sym c.if-fields_fit.true ∙ c.fields_fit.ensures)
    ∙ objects_fit _ _ _ _ _ _ c.items.ensures c.items-in-Objects-Objects.ensures c.items-then-fields_fit.ensures
    c.items-then-fields_fit-2.ensures)

pub member_fits-returns-else-fields_fit : goal.member_fits-returns-else-fields_fit
member_fits-returns-else-fields_fit t c =
    rw (c.in-Objects-Objects.is-0, c.in-Objects-Objects.is-1)
    (fields_unfit _ _ _ _ _ c.items.ensures c.items-in-Objects-Objects.ensures c.fields_fit.ensures (search rules))
