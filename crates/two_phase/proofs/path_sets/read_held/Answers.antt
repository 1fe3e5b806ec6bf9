use Rattle.two_phase.proofs.Fetched.{set_read}
use Rattle.two_phase.proofs.path_sets.read_held.Goals as goal

pub returns-in-Found-clause-read : goal.returns-in-Found-clause-read
returns-in-Found-clause-read c =
    set_read c.args.bytes.items c.args.digest.now c.in-Found.text c.read_text.result c.in-Found.ensures.0 c.in-Found.ensures.1 c.read_text.ensures.read
