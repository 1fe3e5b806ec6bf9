use Rattle.std.proofs.Common.{List, ℕ, ap, ◌∙◌}
use Rattle.dscript_value.specs.Plain.{Plain, plain_of}
use Rattle.dscript_eval_frames.specs.Views.{seen}
use Rattle.dscript_eval_exprs.proofs.CollectionMoves.{named_field_move}
use Rattle.dscript_eval_frames.proofs.ItemLists.{ends_in}
use Rattle.dscript_eval_frames.proofs.Kept.{keeps_at}
use Rattle.dscript_eval_exprs.proofs.collections.named_field.Goals as goal

pub returns : goal.returns
returns c =
    keeps_at _ _ _ _
    (named_field_move (seen c.args.machine.now) _ c.args.name c.args.others c.args.done c.add_field.new.fields
    (ends_in _ _ _ _ c.in_ok-add_field.ensures
    (ap (λ (n : List ℕ). (n, plain_of c.take-value.result)) c.in_ok-name.ensures
    ∙ ap (λ (x : Plain). (c.args.name.now, x)) c.take-value.ensures.value))
    c.take-value.ensures.taken)
    c.fields.ensures
