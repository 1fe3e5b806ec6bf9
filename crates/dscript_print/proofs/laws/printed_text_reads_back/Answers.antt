use Rattle.std.proofs.Common.{map, subst}
use Rattle.dscript_lex.proofs.OneReading.{one_reading}
use Rattle.dscript_grammar.proofs.FileLaws.{one_file}
use Rattle.dscript_grammar.specs.Derives.{Derives}
use Rattle.dscript_print.proofs.laws.printed_text_reads_back.Goals as goal

pub returns : goal.returns
returns c form file other source printed height other_height tokens prints reads are derive =
    let read = prints form source height reads in
    one_file form (map (λ t. t.kind) tokens) other file other_height height derive
    (subst (λ ts. Derives form (map (λ t. t.kind) ts) file height) (one_reading printed read.tokens tokens read.are are) read.derive)
