use Rattle.std.proofs.Common.{◌≡◌, List, ap, arith, length, map, take, ◌∙◌}
use Rattle.std.proofs.lemmas.List.{length-map}
use Rattle.dscript_ast.specs.Views.{param_tree}
use Rattle.dscript_value.specs.Plain.{Plain, plain_of}
use Rattle.dscript_eval_meaning.specs.States as meaning
use Rattle.dscript_eval_frames.specs.Codes.{code_data}
use Rattle.dscript_eval_frames.specs.Frames.{held_by}
use Rattle.dscript_eval_frames.proofs.OwnLocals.{own_begun}
use Rattle.dscript_eval_frames.proofs.frame.Frame.of_function.Goals as goal

pub returns : goal.returns
returns c =
    let f = c.args.code.now.function.now in
    let args = map plain_of c.args.args.now in
    let with_own : List Plain → meaning.Frame = λ own. record {
      file = f.file;
      captured = f.captured.items;
      held = held_by c.args.held;
      first = f.first_local;
      own = own;
    } in
    let params : c.len.result ≡ length (code_data c.args.code.now).params = omega (arith, c.len.ensures, f.params.ok.0, length-map f.params.items param_tree) in
    ap with_own
    (own_begun c.in_ok-own.own.items c.new.result f.local_count (take (length (code_data c.args.code.now).params) args) c.new.ensures.empty
    (c.in_ok-own.ensures ∙ ap (λ n. take f.local_count (take n args)) params))
