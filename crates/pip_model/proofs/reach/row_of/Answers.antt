use Rattle.std.proofs.Common.{ℕ, List, [], get_or, subst, sym, take, ◌∙◌, ◌⊎◌}
use Rattle.std.specs.Prelude.{◌↔◌}
use Rattle.std.proofs.lemmas.List.{get_or_default, take_all, take_more}
use Rattle.pip_model.specs.Bits.{HasBit}
use Rattle.pip_model.specs.Rows.{ByTarget}
use Rattle.pip_model.proofs.WalksBack.{one_target_more}
use Rattle.pip_model.proofs.reach.row_of.Goals as goal

pub targets-preserved : goal.targets-preserved
targets-preserved c =
    let rows = c.args.rows.now in
    let targets = c.args.targets.now in
    let i = c.targets.target-index in
    let target = get_or targets i 0 in
    let row = c.index-rows-target.is ∙ get_or_default rows target c.index-rows-target.result [] (c.requires.targets i 0 c.targets-test.true) in
    record {
      size = c.join.ensures.size ∙ c.add.ensures.size ∙ c.targets.invariant.size;
      bits =
          subst (λ (ts : List ℕ). (k : ℕ) → HasBit c.join.new.self k ↔ ByTarget rows ts k) (sym (take_more targets i 0 c.targets-test.true))
          (one_target_more rows (take i targets) target c.targets.row c.add.new.self c.join.new.self c.targets.invariant.bits c.add.ensures.added
          (subst (λ (r : List ℕ). (k : ℕ) → HasBit c.join.new.self k ↔ (HasBit c.add.new.self k ⊎ HasBit r k)) row c.join.ensures.joined));
    }

pub returns-clause-row : goal.returns-clause-row
returns-clause-row c =
    subst (λ (ts : List ℕ). (k : ℕ) → HasBit c.targets.row k ↔ ByTarget c.args.rows.now ts k)
    (take_all c.targets.target-index c.args.targets.now c.targets-test.false) c.targets.invariant.bits
