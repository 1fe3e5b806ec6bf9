use Rattle.std.proofs.Common.{◌≡◌, ℕ, ◌<◌, ◌≤◌, Some, None, length, ap, sym, ◌∙◌, subst, arith}
use Rattle.std.specs.Prelude.{slice_get}
use Rattle.std.proofs.lemmas.Option.{slice_get-get_or, slice_get_past}
use Rattle.sched_core.specs.Sound.{IsSound}
use Rattle.sched_core.specs.Table.{state_at}
use Rattle.sched_core.specs.declared.state.PipState.TheVariants as state
use Rattle.sched_board.specs.Board.{BoardData, IsBoard}
use Rattle.sched_board.proofs.Keeping.{sound_board}
use Rattle.sched_board.proofs.board.Board.state_of.Goals as goal

pub returns-then-len-pip : goal.returns-then-len-pip
returns-then-len-pip g c =
    let b = c.args.self.now in
    let pip = c.in_ok-job.job.now.pip in
    let board : IsBoard b = subst IsBoard c.self.view_is c.self.invariant.board in
    let size : length b.core.states ≡ length b.core.nodes = (sound_board b board).same_size in
    let nodes : c.len.result ≡ length b.core.nodes = c.len.ensures ∙ ap (λ (x : BoardData). length x.core.nodes) c.self.view_is in
    let past : slice_get b.core.states pip ≡ None = slice_get_past b.core.states pip (omega (arith, c.if-len-pip.true, nodes, size, c.pip.ensures)) in
    rw c.in_ok-job.was (sym past)

pub returns : goal.returns
returns g c =
    let b = c.args.self.now in
    let pip = c.in_ok-job.job.now.pip in
    let board : IsBoard b = subst IsBoard c.self.view_is c.self.invariant.board in
    let size : length b.core.states ≡ length b.core.nodes = (sound_board b board).same_size in
    let nodes : c.len.result ≡ length b.core.nodes = c.len.ensures ∙ ap (λ (x : BoardData). length x.core.nodes) c.self.view_is in
    let there : pip < length b.core.states = omega (arith, c.if-len-pip.false, nodes, size, c.pip.ensures) in
    let read : c.state.result ≡ state_at b.core.states pip =
    c.state.ensures ∙ ap (state_at c.self.inside.core.states) c.pip-2.ensures ∙ ap (λ (x : BoardData). state_at x.core.states pip) c.self.view_is in
    rw c.in_ok-job.was (ap Some read ∙ sym (slice_get-get_or b.core.states pip state.Skipped there))
