use Rattle.std.proofs.Common.{subst}
use Rattle.std.specs.List.{AllByRecursion}
use Rattle.std.proofs.lemmas.List.{map-id}
use Rattle.graph_texts.specs.Asks.{IsAskLine}
use Rattle.graph_texts.proofs.EntryRead.{entry_written}
use Rattle.graph_texts.proofs.entry.write_graph_entry.Goals as goal

pub returns-clause-text : goal.returns-clause-text
returns-clause-text c =
    entry_written c.in_ok-text.text.items c.append_digest.new.text.items c.append_lines.new.text.items c.append_pips.new.text.items
    c.seal.new.text.items c.args.key.now c.args.asks.now c.args.pips.now c.in_ok-text.ensures.items c.in_ok-append_digest.ensures.text
    c.in_ok-append_lines.ensures.text c.in_ok-append_pips.ensures.text c.in_ok-seal.ensures

pub returns-clause-entry : goal.returns-clause-entry
returns-clause-entry c = record {
  key = c.in_ok-append_digest.ensures.digest;
  asks = subst (AllByRecursion IsAskLine) (map-id c.args.asks.now) c.in_ok-append_lines.ensures.fit;
  pips = c.in_ok-append_pips.ensures.pips;
}
