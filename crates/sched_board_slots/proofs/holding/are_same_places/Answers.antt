use Rattle.std.proofs.Common.{ap, sym, ◌∙◌}
use Rattle.prints.specs.Processes.{numbered_from}
use Rattle.sched_board_slots.proofs.Tests.{refuted}
use Rattle.sched_board_slots.proofs.holding.are_same_places.Goals as goal

pub returns-then-not-are_same_dirs : goal.returns-then-not-are_same_dirs
returns-then-not-are_same_dirs c =
    refuted _ _ c.are_same_dirs.result c.if-not-are_same_dirs.true c.are_same_dirs.ensures
    (λ same. ap (numbered_from 0) c.dirs.ensures.dirs ∙ same.dirs ∙ sym (ap (numbered_from 0) c.dirs-2.ensures.dirs))

pub returns-then-not-are_same_paths : goal.returns-then-not-are_same_paths
returns-then-not-are_same_paths c =
    refuted _ _ c.are_same_paths.result c.if-not-are_same_paths.true c.are_same_paths.ensures
    (λ same. c.paths.ensures.paths ∙ same.outs ∙ sym c.paths-2.ensures.paths)

pub returns-then-not-are_same_outdirs : goal.returns-then-not-are_same_outdirs
returns-then-not-are_same_outdirs c =
    refuted _ _ c.are_same_outdirs.result c.if-not-are_same_outdirs.true c.are_same_outdirs.ensures
    (λ same. c.dirs-3.ensures.dirs ∙ same.outdirs ∙ sym c.dirs-4.ensures.dirs)

pub returns : goal.returns
returns c = (
  λ e. record {
    dirs =
        sym (ap (numbered_from 0) c.dirs.ensures.dirs) ∙ c.are_same_dirs.ensures.0 c.if-not-are_same_dirs.false ∙ ap (numbered_from 0) c.dirs-2.ensures.dirs;
    outs = sym c.paths.ensures.paths ∙ c.are_same_paths.ensures.0 c.if-not-are_same_paths.false ∙ c.paths-2.ensures.paths;
    outdirs = sym c.dirs-3.ensures.dirs ∙ c.are_same_outdirs.ensures.0 c.if-not-are_same_outdirs.false ∙ c.dirs-4.ensures.dirs;
    console = c.is_same_console.ensures.0 e;
  },
  λ same. c.is_same_console.ensures.1 same.console,
)
