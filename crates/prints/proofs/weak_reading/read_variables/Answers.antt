use Rattle.std.proofs.Common.{◌∙◌, ap, sym}
use Rattle.std.specs.Cmp.Lexicographic.{slice_cmp}
use Rattle.std.specs.Ordering.{is_lt, nat_cmp}
use Rattle.pip_model_types.specs.declared.args.EnvPair.{EnvPair}
use Rattle.prints.specs.Lines.{rises}
use Rattle.prints.specs.ReadWeak.{not_after}
use Rattle.prints.proofs.Rising.{rising_sorted_by}
use Rattle.prints.proofs.weak_reading.read_variables.Goals as goal

pub in_order-requires : goal.in_order-requires
in_order-requires c =
    rising_sorted_by (λ (a b : EnvPair). is_lt (slice_cmp nat_cmp a.name b.name)) c.in_ok-pairs.pairs.items
    (sym (c.are_variables_sorted.ensures ∙ ap (rises not_after) c.as_slice.ensures.value) ∙ c.if-not-are_variables_sorted.false)
