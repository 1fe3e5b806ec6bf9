use Rattle.std.proofs.Common.{refl, arith}
use Rattle.bx_tree.proofs.Lists.{none_left}
use Rattle.dscript_program.specs.Views.{program_data}
use Rattle.dscript_types.proofs.Looking.{down_begins, down_ends, down_goes, down_waits, fewer_wait}
use Rattle.dscript_types.proofs.finding.Finder.look_down.Goals as goal

pub waiting-init : goal.waiting-init
waiting-init c =
    down_begins (program_data c.args.self.now.program.now) _ _ c.args.at _ _ c.requires.right c.in_ok-waiting.ensures.items refl

pub waiting-preserved : goal.waiting-preserved
waiting-preserved c =
    down_waits (program_data c.args.self.now.program.now) _ _ c.args.at _ _ _
    (down_goes (program_data c.args.self.now.program.now) _ _ c.args.at _ _ _ c.waiting.invariant _ _ c.in-Some.top c.in-Some.ensures.items c.in_ok-look_next.ensures.over)
    _ _ _ c.in_ok-look_next.ensures.waits

pub waiting-smaller : goal.waiting-smaller
waiting-smaller c =
    omega (
      arith,
      fewer_wait _ _ c.in-Some.top c.waiting.visits c.in-Some.ensures.items,
      c.in_ok-look_next.ensures.waits.fewer,
    )

pub look_next-requires : goal.look_next-requires
look_next-requires c = record { ready = c.requires.ready; right = c.waiting.invariant.right }

pub returns : goal.returns
returns c =
    down_ends (program_data c.args.self.now.program.now) _ _ c.args.at _ _ _ c.waiting.invariant
    (none_left c.waiting.waiting.items (omega (arith, c.in_default.ensures.cases.0, c.waiting.waiting.ok.0)))
