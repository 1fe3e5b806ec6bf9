use Rattle.std.proofs.Common.{Some, sym}
use Rattle.cache_care.specs.Naming.{in_strong, strong_at}
use Rattle.cache_care.proofs.Listed.{adds_nothing}
use Rattle.cache_care.proofs.NamedTexts.{found_strong, no_strong}
use Rattle.cache_care.proofs.Sets.{adds_same}
use Rattle.cache_care.proofs.naming.add_strong_of.Goals as goal

pub returns-in_ok-add_strong-in-Some-clause-added : goal.returns-in_ok-add_strong-in-Some-clause-added
returns-in_ok-add_strong-in-Some-clause-added g c S told =
    adds_same c.args.named.now c.add_strong.new.named (in_strong (Some c.in-Some.parts)) (in_strong (strong_at S c.args.digest.now))
    (found_strong S c.args.digest.now c.in_ok-parts.field-0 c.in-Some.parts c.in-Some.is (c.in_ok-parts.ensures.found S told))
    c.in_ok-add_strong-in-Some.ensures

pub returns-in-None-clause-added : goal.returns-in-None-clause-added
returns-in-None-clause-added g c S told =
    adds_nothing c.args.named.now (in_strong (strong_at S c.args.digest.now))
    (sym (no_strong S c.args.digest.now c.in_ok-parts.field-0 c.in-None.is (c.in_ok-parts.ensures.found S told)))
