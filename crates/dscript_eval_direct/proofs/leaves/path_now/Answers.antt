use Rattle.std.proofs.Common.{length, sym, ◌∙◌}
use Rattle.std.proofs.lemmas.Bool.{eqb-true}
use Rattle.dscript_value.specs.Plain.{plain_of}
use Rattle.dscript_eval_direct.specs.Now.{knowledge}
use Rattle.dscript_eval_direct.proofs.Makes.{path_gives}
use Rattle.dscript_eval_direct.proofs.leaves.path_now.Goals as goal

pub returns : goal.returns
returns c =
    path_gives (knowledge c.args.known.now) c.args.letter c.args.text.now c.args.holes.now (plain_of c.in_ok-value.value)
    c.args.left _ (eqb-true (length c.args.holes.now) 0 (sym c.is_empty.ensures ∙ c.if-not-is_empty.false))
    (sym c.is_rooted.ensures ∙ c.if-not-is_rooted.false) c.in_ok-value.ensures c.in_ok-after.ensures.0
    c.in_ok-after.ensures.1
