use Rattle.memo_format.specs.StoreNames.{at_blob}
use Rattle.cache_care_check.proofs.Surveyed.{found_as}
use Rattle.cache_care_check.proofs.surveying.of_name.Goals as goal

pub returns-in-Content-clause-finding : goal.returns-in-Content-clause-finding
returns-in-Content-clause-finding g c =
    found_as (g.K.Keeper.known c.of_content.new.keeper).held c.args.name.now (at_blob c.in-Content.digest) c.of_content.result c.in-Content.ensures
    c.of_content.ensures.finding
