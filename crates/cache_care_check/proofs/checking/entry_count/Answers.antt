use Rattle.std.proofs.Common.{◌^◌, arith, get_or}
use Rattle.std.proofs.lemmas.List.{get_or_default}
use Rattle.cache_care_check.specs.declared.surveying.Finding.TheVariants as found
use Rattle.cache_care_check.proofs.Listed.{count_fits, count_more}
use Rattle.cache_care_check.proofs.checking.entry_count.Goals as goal

pub overflow_add-count : goal.overflow_add-count
overflow_add-count c =
    omega (
      arith,
      count_fits c.args.findings.now c.findings.finding-index (2 ^ 64) c.findings.count c.entries_of-count.result _ c.findings-test.true
          (omega arith) c.findings.invariant c.entries_of-count.ensures,
    )

pub findings-preserved : goal.findings-preserved
findings-preserved c =
    let f = get_or c.args.findings.now c.findings.finding-index found.Damaged in
    count_more c.args.findings.now c.findings.finding-index c.findings.count c.entries_of-count.result f c.findings-test.true
    (get_or_default c.args.findings.now c.findings.finding-index found.Damaged f c.findings-test.true) c.findings.invariant c.entries_of-count.ensures
