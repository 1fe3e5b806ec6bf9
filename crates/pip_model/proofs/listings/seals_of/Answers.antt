use Rattle.std.proofs.Common.{[], ap, map, ◌∙◌}
use Rattle.std.proofs.lemmas.List.{take_all}
use Rattle.pip_model.specs.Listings.{listing_seal}
use Rattle.pip_model.proofs.Listed.{map_more}
use Rattle.pip_model.proofs.listings.seals_of.Goals as goal

pub files-preserved : goal.files-preserved
files-preserved c =
    map_more listing_seal c.args.files.now c.files.file-index c.file-item.result [] c.files.seals.items c.push.new.self.items c.files-test.true
    c.file-item.is c.in_ok-push.ensures.items c.files.invariant

pub returns : goal.returns
returns c = c.files.invariant ∙ ap (map listing_seal) (take_all c.files.file-index c.args.files.now c.files-test.false)
