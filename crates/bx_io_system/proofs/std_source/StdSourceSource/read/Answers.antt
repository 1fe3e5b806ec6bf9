use Rattle.std.proofs.Common.{length, take, arith}
use Rattle.std.proofs.lemmas.Grind.{common_steps}
use Rattle.bx_io_disk.specs.Events.{left_of}
use Rattle.bx_io_system.proofs.Left.{ended_unasked, left_gave}
use Rattle.bx_io_system.proofs.std_source.StdSourceSource.read.Goals as goal

pub returns-in-Ok-clause-moved : goal.returns-in-Ok-clause-moved
returns-in-Ok-clause-moved g c rest told =
    let noted = c.in-Ok.ensures.noted in
    let piece = take c.in-Ok.count c.ask.new.into in
    let was = left_of c.args.self.now.log.first c.args.self.now.log.events in
    let now = rw (c.ask.ensures.first, noted) at told in
    left_gave (length c.args.into.now) piece was rest now

pub returns-in-Ok-clause-empty_piece : goal.returns-in-Ok-clause-empty_piece
returns-in-Ok-clause-empty_piece g c none =
    let noted = c.in-Ok.ensures.noted in
    let piece = take c.in-Ok.count c.ask.new.into in
    rw noted (ended_unasked (length c.args.into.now) piece c.args.self.now.log.events none (grind (arith, common_steps, none, c.in-Ok.ensures.bound, c.ask.auto.into)))
