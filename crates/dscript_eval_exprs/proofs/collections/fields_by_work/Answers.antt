use Rattle.std.proofs.Common.{ap, map, refl, subst, sym, ◌∙◌}
use Rattle.dscript_program.specs.BoundTree.{to_props}
use Rattle.dscript_program.specs.Views.{expr_data, prop_data}
use Rattle.dscript_program.proofs.NodeViews.{prop_data-Named, prop_data-Quoted, prop_data-Short, prop_data-Spread}
use Rattle.dscript_value.specs.Plain.{plain_field}
use Rattle.dscript_eval_meaning.specs.Expressions.{named}
use Rattle.dscript_eval_frames.specs.Forms.{acts_at, field_form}
use Rattle.dscript_eval_frames.specs.Keeps.{StopsWith}
use Rattle.dscript_eval_frames.specs.Views.{View, seen}
use Rattle.dscript_eval_frames.specs.Works.{Answer}
use Rattle.dscript_eval_exprs.proofs.CollectionMoves.{fields_end, named_move, quoted_move, short_move, spread_fields_move}
use Rattle.dscript_eval_frames.proofs.Kept.{keeps_at, kept, spent_then, unspent_first}
use Rattle.dscript_eval_exprs.proofs.collections.fields_by_work.Goals as goal

pub returns-in_default : goal.returns-in_default
returns-in_default c =
    keeps_at _ _ _ _ (fields_end (seen c.args.machine.now) c.args.ps c.args.done c.in_default.ensures.cases)
    (c.finish.ensures _ c.object_value.ensures)

pub returns-in-Named : goal.returns-in-Named
returns-in-Named c =
    keeps_at _ _ _ _
    (named_move (seen c.args.machine.now) c.args.ps c.in-Some.others c.in-Some.property.now c.in-Named.name
    (expr_data c.in-Named.e) c.args.done c.in-Some.ensures.cases.0 (ap prop_data c.in-Named.is ∙ prop_data-Named _ _))
    c.value_field.ensures

pub returns-in-Quoted : goal.returns-in-Quoted
returns-in-Quoted c =
    keeps_at _ _ _ _
    (quoted_move (seen c.args.machine.now) c.args.ps c.in-Some.others c.in-Some.property.now c.in-Quoted.name
    (expr_data c.in-Quoted.e) c.args.done c.in-Some.ensures.cases.0 (ap prop_data c.in-Quoted.is ∙ prop_data-Quoted _ _))
    c.value_field-in-Quoted.ensures

pub returns-in-Ok : goal.returns-in-Ok
returns-in-Ok c =
    let v = seen c.args.machine.now in
    let name = c.in-Short.name in
    let target = c.in-Short.target in
    let others = to_props (map prop_data c.in-Some.others.now) in
    keeps_at _ _ _ _
    (short_move v c.args.ps c.in-Some.others c.in-Some.property.now name target c.args.done c.in-Some.ensures.cases.0
    (ap prop_data c.in-Short.is ∙ prop_data-Short _ _))
    (spent_then _ 1 (λ (z : View). field_form z.program (acts_at z) name (map plain_field c.args.done.items) others
    (named z.program (acts_at z) target)) v _ _ c.in-Ok.ensures refl c.short_field.ensures)

pub returns-in-Err : goal.returns-in-Err
returns-in-Err c =
    let v = seen c.args.machine.now in
    let name = c.in-Short.name in
    let target = c.in-Short.target in
    let others = to_props (map prop_data c.in-Some.others.now) in
    let P : Answer → Type 0 = λ a. StopsWith c.in-Err.stop a in
    subst P
    (sym (short_move v c.args.ps c.in-Some.others c.in-Some.property.now name target c.args.done c.in-Some.ensures.cases.0
    (ap prop_data c.in-Short.is ∙ prop_data-Short _ _)))
    (unspent_first 1 (field_form v.program (acts_at v) name (map plain_field c.args.done.items) others
    (named v.program (acts_at v) target)) v _ c.in-Err.ensures)

pub returns-in-Spread : goal.returns-in-Spread
returns-in-Spread c =
    kept _ _ _ _ c.push_two.ensures
    (spread_fields_move (seen c.args.machine.now) c.args.ps c.in-Some.others c.in-Some.property.now
    (record { ref_ptr = (0, 0); now = c.in-Spread.e }) c.args.done c.in-Some.ensures.cases.0 (ap prop_data c.in-Spread.is ∙ prop_data-Spread _))
