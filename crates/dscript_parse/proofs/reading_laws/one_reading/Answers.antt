use Rattle.dscript_parse.proofs.OneReading.{one_reading}
use Rattle.dscript_parse.proofs.reading_laws.one_reading.Goals as goal

pub returns : goal.returns
returns c = one_reading
