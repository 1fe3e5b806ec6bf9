use Rattle.std.proofs.Common.{refl}
use Rattle.miss_reasons.proofs.Answering.{best_held, best_stays}
use Rattle.miss_reasons.proofs.nearest.nearer.Goals as goal

pub returns-in_ok-count-in-Some-clause-held : goal.returns-in_ok-count-in-Some-clause-held
returns-in_ok-count-in-Some-clause-held g c =
    best_held (g.R.KeepReader.held c.args.reader.now) (g.R.KeepReader.held c.content.new.reader) c.args.digest.now c.in_ok-text.field-0 c.in-Some.text c.args.best
    (record { count = c.in_ok-count-in-Some.count; text = c.in-Some.text }) c.better.result c.in_ok-text.ensures.reader.held_is c.in_ok-text.ensures.found c.in-Some.is refl c.better.ensures c.requires.before

pub returns-in-None-clause-held : goal.returns-in-None-clause-held
returns-in-None-clause-held g c = best_stays (g.R.KeepReader.held c.args.reader.now) (g.R.KeepReader.held c.content.new.reader) c.args.best c.in_ok-text.ensures.reader.held_is c.requires.before
