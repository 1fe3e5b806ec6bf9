use Rattle.std.proofs.Common.{drop, nat_lt, ◌≡◌, ap, map, ◌∙◌}
use Rattle.std.proofs.lemmas.List.{map-set}
use Rattle.std.specs.List.{filter}
use Rattle.std.specs.Prelude.{slice_set}
use Rattle.dscript_names_binding.specs.Walk.{each_once}
use Rattle.dscript_ast.specs.Views.{param_tree}
use Rattle.dscript_program.specs.Views.{body_data, function_data}
use Rattle.dscript_names_binding.proofs.Closing.{closed_is}
use Rattle.dscript_names_binding.specs.Walked.{table_of}
use Rattle.dscript_names_binding.specs.declared.walker.Walker.{Walker}
use Rattle.dscript_names_binding.proofs.walker.Walker.close.Goals as goal

pub returns : goal.returns
returns c =
    let own : c.in_ok-captured.captured.items
    ≡ each_once (filter (λ n. nat_lt n c.args.function.first_local)
    (drop c.args.function.names c.args.self.now.names.items)) =
    c.in_ok-captured.ensures
    ∙ ap (λ ns. each_once (filter (λ n. nat_lt n c.args.function.first_local) ns))
    (c.split_at.ensures.back ∙ ap (drop c.args.function.names) c.as_slice.ensures.value) in
    record {
      number = c.in_ok-number.ensures;
      table = ap table_of c.leave.ensures ∙ ap (map function_data) c.put.ensures
          ∙ map-set function_data c.args.self.now.functions.items c.args.function.number _
          ∙ ap (slice_set (table_of c.args.self.now) c.args.function.number)
          (closed_is _ _ _ _ (map param_tree c.args.function.params.items) c.args.function.first_local _ _
          (body_data c.args.body) c.in_ok-file.ensures own c.saturating_sub.ensures);
      named = ap (λ (w : Walker). w.names.items) c.leave.ensures;
      counted = ap (λ (w : Walker). w.locals) c.leave.ensures;
      scopes = ap (λ (w : Walker). w.scopes) c.leave.ensures;
    }
