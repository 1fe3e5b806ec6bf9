use Rattle.std.proofs.Common.{subst, sym}
use Rattle.std.proofs.lemmas.Result.{IfOk-weaker}
use Rattle.graph_check_outputs.specs.Claims.{wanted_items}
use Rattle.graph_check_outputs.specs.Gathered.{IsListOf}
use Rattle.graph_check_outputs.proofs.Claiming.{list_of_claims}
use Rattle.graph_check_outputs.proofs.gathered.list_of.Goals as goal

pub returns : goal.returns
returns c =
    IfOk-weaker c.wanted_paths.result _ _
    (λ paths e. subst (IsListOf (wanted_items c.args.wanted) c.args.pips.now) (sym e)
    (list_of_claims c.args.wanted c.args.pips.now c.args.claims.now c.requires))
    c.wanted_paths.ensures
