-- What holds when a worker is through.
use Rattle.std.specs.Prelude.{◌||◌, Bool, is_some}
use Rattle.worker.specs.Workers.{WorkerData}

-- Its share has its mark: it was told that nothing is left to do. Or its tally tells that it starved, or the refusal for which it left.
abbrev pub has_ended : WorkerData → Bool
has_ended w = w.share.marked || (w.tally.starved || is_some w.tally.left)
