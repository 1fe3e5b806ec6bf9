use Rattle.std.proofs.Common.{◌∙◌}
use Rattle.cache_care_check.proofs.Noted.{others_noted}
use Rattle.cache_care_check.proofs.known.KnownContents.note.Goals as goal

pub returns-clause-others : goal.returns-clause-others
returns-clause-others c =
    others_noted c.args.digest.now c.in_ok-key.key.items _ c.args.self.now (record { contents = c.insert.new.self })
    (c.in_ok-key.ensures.items ∙ c.bytes.ensures.bytes) c.in_ok-insert.ensures.updates
