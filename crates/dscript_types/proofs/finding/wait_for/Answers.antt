use Rattle.std.proofs.Common.{List, [], ◌∷◌, ◌++◌, refl, ap, ◌∙◌, arith}
use Rattle.dscript_types.specs.declared.finding.Waiting.{Waiting}
use Rattle.dscript_types_known.specs.declared.finding.Pending.{Pending}
use Rattle.dscript_types.proofs.Looking.{waits_for, waits_no_more, waits_not}
use Rattle.dscript_types.proofs.finding.wait_for.Goals as goal

abbrev newly : Pending → Waiting
newly at = record { at = at; looks = 0 }

pub returns-then-top-ge-MAX_LOOKS : goal.returns-then-top-ge-MAX_LOOKS
returns-then-top-ge-MAX_LOOKS c = waits_no_more c.args.waiting.now.items c.args.visits.now c.args.top.looks

pub returns-then-not-see : goal.returns-then-not-see
returns-then-not-see c =
    waits_not c.args.waiting.now.items c.args.visits.now c.args.top.looks _ c.args.pending.file c.args.pending.decl _ c.see.ensures
    c.if-not-see.true

pub returns : goal.returns
returns c =
    waits_for c.args.waiting.now.items c.args.visits.now c.args.top.looks _ _ _ _ _ c.see.ensures c.if-not-see.false
    (omega (arith, c.if-top-ge-MAX_LOOKS.false)) refl refl
    (c.in_ok-push-2.ensures.items ∙ ap (λ (ws : List Waiting). ws ++ newly c.args.pending ∷ []) c.in_ok-push.ensures.items)
