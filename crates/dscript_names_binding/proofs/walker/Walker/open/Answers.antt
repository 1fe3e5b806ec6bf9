use Rattle.std.proofs.Common.{[], ◌∷◌, ◌++◌, true, ap, arith, map, refl, ◌∙◌, ◌+◌}
use Rattle.std.proofs.lemmas.List.{map-append, length-map}
use Rattle.dscript_ast.specs.Views.{param_tree}
use Rattle.dscript_program.specs.Views.{function_data}
use Rattle.dscript_names_binding.specs.Walk.{params_from}
use Rattle.dscript_names_binding.specs.Walked.{table_of}
use Rattle.dscript_names_binding.specs.declared.walker.Walker.{Walker}
use Rattle.dscript_names_binding.proofs.walker.Walker.open.Goals as goal

pub returns : goal.returns
returns c = record {
  number = omega (arith, c.len-number.ensures, c.args.self.now.functions.ok.0);
  first = refl;
  names = omega (arith, c.len-names.ensures, c.args.self.now.names.ok.0);
  params_are = refl;
  before = function_data c.placeholder.result;
  table = ap table_of c.in_ok-enter.ensures ∙ ap (map function_data) c.in_ok-push.ensures.items
      ∙ map-append function_data c.args.self.now.functions.items (c.placeholder.result ∷ []);
  named = ap (λ (w : Walker). w.names.items) c.in_ok-enter.ensures;
  counted = ap (λ (w : Walker). w.locals) c.in_ok-enter.ensures ∙ c.in_ok-self.ensures
      ∙ ap (λ n. c.args.self.now.locals + n) (omega (arith, c.len.ensures, c.args.params.ok.0, length-map c.args.params.items param_tree));
  scopes = ap (λ (w : Walker). w.scopes) c.in_ok-enter.ensures
      ∙ ap (λ ls. record { locals = ls; is_body = true } ∷ c.args.self.now.scopes) (c.in_ok-block.ensures
      ∙ ap (λ ps. params_from c.args.self.now.locals (map param_tree ps) ++ c.args.locals.items) c.as_slice.ensures.value);
}
