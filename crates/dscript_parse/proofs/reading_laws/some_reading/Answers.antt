use Rattle.dscript_parse.proofs.SomeReading.{some_reading}
use Rattle.dscript_parse.proofs.reading_laws.some_reading.Goals as goal

pub returns : goal.returns
returns c = some_reading
