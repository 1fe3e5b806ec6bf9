use Rattle.std.proofs.Common.{sym, ◌∙◌, arith, ap}
use Rattle.dscript_lex.specs.Scanning.{option_more}
use Rattle.dscript_lex.proofs.CommentClose.{close_here, close_later, close_end}
use Rattle.dscript_lex.proofs.comments.close_len.Goals as goal

pub returns-then-closes-clause-len : goal.returns-then-closes-clause-len
returns-then-closes-clause-len c = sym (close_here c.args.bytes.now c.search.at c.search-test.true (sym c.closes.ensures ∙ c.if-closes.true)) ∙ c.search.invariant.found

pub search-preserved : goal.search-preserved
search-preserved c = record {
  in_range = omega arith;
  found = close_later c.args.bytes.now c.search.at c.search-test.true (sym c.closes.ensures ∙ c.if-closes.false) ∙ c.search.invariant.found;
}

pub returns-clause-len : goal.returns-clause-len
returns-clause-len c = sym (ap (option_more c.search.at) (close_end c.args.bytes.now c.search.at c.search-test.false)) ∙ c.search.invariant.found
