use Rattle.std.proofs.Common.{◌≡◌, ◌+◌, ◌-◌, ◌/◌, ℕ, List, arith, length, subst, sym, take}
use Rattle.std.proofs.lemmas.List.{take_all}
use Rattle.pip_model_types.specs.declared.pip.Pip.{Pip}
use Rattle.graph_check_outputs.specs.Sharing.{HasOverlap}
use Rattle.graph_check_outputs.proofs.Claiming.{claims_of_first}
use Rattle.graph_check_outputs.proofs.Prefixes.{first_from_prefixes, none_of_none, some_pips}
use Rattle.graph_check_outputs.proofs.Telling.{tells_first}
use Rattle.graph_check_outputs.proofs.overlap.least_overlap.Goals as goal

pub bounds-init : goal.bounds-init
bounds-init c =
    let pips = c.args.pips.now in record {
      between = some_pips pips c.requires.overlap;
      within = omega arith;
      none = none_of_none pips;
      some = subst (λ (ps : List Pip). HasOverlap ps) (sym (take_all (length pips) pips (omega arith))) c.requires.overlap;
    }

pub has_overlap-requires : goal.has_overlap-requires
has_overlap-requires c =
    let pips = c.args.pips.now in
    let middle = c.bounds.apart + (c.bounds.overlapping - c.bounds.apart) / 2 in record {
      claims = claims_of_first pips middle c.args.claims.now c.requires.claims;
      unshared = tells_first pips middle c.args.unshared c.requires.unshared;
    }

pub returns : goal.returns
returns c =
    let pips = c.args.pips.now in
    let next : c.bounds.overlapping ≡ c.bounds.apart + 1 = omega (arith, c.bounds.invariant.between, c.bounds-test.false) in
    first_from_prefixes pips c.bounds.apart c.bounds.invariant.none
    (subst (λ (n : ℕ). HasOverlap (take n pips)) next c.bounds.invariant.some)
