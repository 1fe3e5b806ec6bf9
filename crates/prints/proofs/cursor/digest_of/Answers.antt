use Rattle.prints.proofs.PartReading.{digest_found, no_digest}
use Rattle.prints.proofs.cursor.digest_of.Goals as goal

pub returns-in-Ok : goal.returns-in-Ok
returns-in-Ok c = digest_found c.args.text.now c.in-Ok.digest c.in-Ok.ensures.value c.bytes-bytes.ensures.is_digest

pub returns-in-Err : goal.returns-in-Err
returns-in-Err c = no_digest c.args.text.now (λ h. cc (c.in-Err.ensures.digits.1 h))
