use Rattle.std.proofs.Common.{sym, ◌∙◌}
use Rattle.tool_run.specs.Described.{described}
use Rattle.tool_run.specs.Description.{given}
use Rattle.tool_run.proofs.AskedAmong.{ask_added, ask_given}
use Rattle.tool_run.proofs.path_sets.add_ask.Goals as goal

pub returns-then-is_given : goal.returns-then-is_given
returns-then-is_given c =
    ask_given (given (described c.args.desc.now) c.args.ask.now) c.args.ask.now c.args.asks.now.items (sym c.is_given.ensures ∙ c.if-is_given.true)

pub returns : goal.returns
returns c =
    ask_added (given (described c.args.desc.now) c.args.ask.now) c.args.ask.now c.in_ok-shared.shared c.args.asks.now.items c.push.new.self.items
    (sym c.is_given.ensures ∙ c.if-is_given.false) c.in_ok-shared.ensures c.in_ok-push.ensures.items
