use Rattle.cache_care_check.proofs.Surveyed.{list_there}
use Rattle.cache_care_check.proofs.surveying.of_selectors.Goals as goal

pub returns-in-Ok-clause-finding : goal.returns-in-Ok-clause-finding
returns-in-Ok-clause-finding g c =
    list_there (g.K.Keeper.known c.get.new.self).held c.args.weak.now c.args.name.now c.in-Found.text c.as_slice.result.now c.in-Ok.field-0.items
    c.bytes-bytes.ensures.is_digest c.requires.name c.in-Found.ensures.found c.as_slice.ensures.value c.in-Ok.ensures.read
