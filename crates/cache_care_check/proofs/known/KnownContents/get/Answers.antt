use Rattle.std.proofs.Common.{◌≡◌, Some, rules}
use Rattle.cache_care_check.specs.Known.{noted_at}
use Rattle.cache_care_check.proofs.Noted.{right_noted, right_on, right_there}
use Rattle.cache_care_check.proofs.known.KnownContents.get.Goals as goal

pub returns-in-Some-clause-found : goal.returns-in-Some-clause-found
returns-in-Some-clause-found g c =
    let there : noted_at c.args.self.now c.args.digest.now ≡ Some c.in-Some.found.now = search rules in
    right_there (g.K.Keeper.known c.args.keeper.now).held c.args.self.now c.args.digest.now c.in-Some.found.now c.in_ok-share.field-0 c.requires there
    c.in_ok-share.ensures

pub returns-clause-right : goal.returns-clause-right
returns-clause-right g c =
    right_noted (g.K.Keeper.known c.held_content.new.keeper).held c.args.digest.now c.in_ok-found.found c.args.self.now c.note.new.self
    (right_on (g.K.Keeper.known c.args.keeper.now).held (g.K.Keeper.known c.held_content.new.keeper).held c.args.self.now c.in_ok-found.ensures.known.held
    c.requires)
    c.in_ok-found.ensures.found c.in_ok-note.ensures.noted c.in_ok-note.ensures.others
