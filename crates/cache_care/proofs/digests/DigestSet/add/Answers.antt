use Rattle.std.proofs.Common.{◌∙◌}
use Rattle.cache_care.proofs.Sets.{added}
use Rattle.cache_care.proofs.digests.DigestSet.add.Goals as goal

pub returns : goal.returns
returns c =
    added c.in_ok-key.key.items c.args.digest.now c.args.self.now (record { digests = c.insert.new.self })
    (c.in_ok-key.ensures.items ∙ c.bytes.ensures.bytes) c.in_ok-insert.ensures.updates
