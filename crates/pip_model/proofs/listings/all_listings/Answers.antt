use Rattle.std.proofs.Common.{◌++◌, List, ap, map, ◌∙◌}
use Rattle.bx_tree.specs.declared.file_input.FileInput.{FileInput}
use Rattle.pip_model.specs.Listings.{listing, listings_from}
use Rattle.pip_model.specs.declared.listings.Listing.{Listing}
use Rattle.pip_model.proofs.Listed.{pips_all, pips_more}
use Rattle.pip_model.proofs.listings.all_listings.Goals as goal

pub pips-init : goal.pips-init
pips-init c = ap (λ (ls : List Listing). ls ++ listings_from 0 c.args.pips.now) c.new-found.ensures.items

pub pips-preserved : goal.pips-preserved
pips-preserved c =
    pips_more c.args.pips.now c.pips.place c.index-pips-place.result c.pips.found.items c.add_files.new.found.items c.pips-test.true
    c.index-pips-place.is
    (c.in_ok-add_files.ensures
    ∙ ap (λ (fs : List FileInput). c.pips.found.items ++ map (listing c.pips.place) fs) c.listed.ensures.files)
    c.pips.invariant

pub returns : goal.returns
returns c = pips_all c.args.pips.now c.pips.place c.pips.found.items c.pips-test.false c.pips.invariant
