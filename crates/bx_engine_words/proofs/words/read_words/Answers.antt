use Rattle.std.proofs.Common.{List, ℕ, ◌∷◌, ap, map, string_bytes, ◌∙◌}
use Rattle.bx_engine_words.proofs.ReadSoFar.{starts}
use Rattle.bx_engine_words.proofs.ReadWords.{no_command, read_after_command}
use Rattle.bx_engine_words.proofs.words.read_words.Goals as goal

pub returns-in-Some-named : goal.returns-in-Some-named
returns-in-Some-named c =
    read_after_command c.in-Some-named.command (map string_bytes c.args.words.now) (map string_bytes c.in-Some.rest.now) c.read_options.result _
    c.ok_or.result
    (starts string_bytes c.args.words.now c.in-Some.rest.now c.in-Some.first.now c.as_str.result.now c.in-Some.ensures.cases.0
    c.as_str.ensures.value
    ∙ ap (λ (t : List ℕ). t ∷ map string_bytes c.in-Some.rest.now) c.in-Some-named.ensures)
    c.ok_or.ensures.value c.read_options.ensures

pub returns-in-None : goal.returns-in-None
returns-in-None c order are =
    no_command (map string_bytes c.args.words.now) (map string_bytes c.in-Some.rest.now) c.as_str.result.now order
    (starts string_bytes c.args.words.now c.in-Some.rest.now c.in-Some.first.now c.as_str.result.now c.in-Some.ensures.cases.0
    c.as_str.ensures.value)
    c.in-None.ensures are
