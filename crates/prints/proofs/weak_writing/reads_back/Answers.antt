use Rattle.std.proofs.Common.{refl}
use Rattle.prints.specs.Processes.{weak_parts}
use Rattle.prints.specs.Weak.{weak_text}
use Rattle.prints.proofs.DescTexts.{desc_again}
use Rattle.prints.proofs.weak_writing.reads_back.Goals as goal

pub returns : goal.returns
returns c =
    let d = c.args.desc.now in
    desc_again (weak_text (weak_parts d)) d refl c.known_head.ensures c.known_lists.ensures
