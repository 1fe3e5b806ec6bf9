use Rattle.dscript_lex.proofs.CommentClose.{closes_nowhere, nowhere_closes}
use Rattle.dscript_lex.proofs.comments.comment_len.Goals as goal

pub block_len-requires : goal.block_len-requires
block_len-requires c =
    λ closed. closes_nowhere _ _ _ _ _ c.in_ok-first.ensures.cases.0 c.in_ok-second.ensures.cases.0 (c.requires closed)

pub returns-in_err-block_len-in-42-clause-unclosed : goal.returns-in_err-block_len-in-42-clause-unclosed
returns-in_err-block_len-in-42-clause-unclosed c =
    λ closed. nowhere_closes _ _ _ _ _ c.in_ok-first.ensures.cases.0 c.in_ok-second.ensures.cases.0 (c.block_len.ensures.unclosed closed)
