use Rattle.std.proofs.Common.{◌≡◌, ◌<◌, false, true, length, sym, ◌∙◌, arith}
use Rattle.std.proofs.lemmas.Bool.{false≢true}
use Rattle.pip_model_types.specs.declared.made.MadeFile.{MadeFile}
use Rattle.pip_view_inputs.specs.Contents.{input_file}
use Rattle.sched_board_slots.proofs.SamePlaces.{seen_here, seen_more}
use Rattle.sched_board_slots.proofs.holding.are_taken.Goals as goal

pub returns-then-not-is_taken : goal.returns-then-not-is_taken
returns-then-not-is_taken c =
    let other : c.files.place < length c.args.shown.now = omega (arith, c.files-test.true, c.if-files-shown.false) in (
      λ (yes : false ≡ true). absurd cc,
      λ same. absurd (false≢true (sym c.if-not-is_taken.true ∙ c.is_taken.ensures.1
          (seen_here (λ (f : MadeFile). (f.path, f.blob)) (input_file c.args.sources.now c.args.inputs.now) c.args.shown.now c.args.files.now c.files.place
          c.index-shown-place.result c.index-files-place.result other c.files-test.true c.index-shown-place.is c.index-files-place.is same))),
    )

pub files-preserved : goal.files-preserved
files-preserved c =
    seen_more (λ (f : MadeFile). (f.path, f.blob)) (input_file c.args.sources.now c.args.inputs.now) c.args.shown.now c.args.files.now c.files.place
    c.index-shown-place.result c.index-files-place.result (omega (arith, c.files-test.true, c.if-files-shown.false)) c.files-test.true
    c.index-shown-place.is c.index-files-place.is c.files.invariant (c.is_taken.ensures.0 c.if-not-is_taken.false)
