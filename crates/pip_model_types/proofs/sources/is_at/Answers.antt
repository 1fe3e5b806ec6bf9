use Rattle.std.proofs.Common.{sym, ◌∙◌}
use Rattle.std.proofs.lemmas.List.{get_or_default}
use Rattle.pip_model_types.proofs.SetsOf.{same_path_exact}
use Rattle.pip_model_types.proofs.sources.is_at.Goals as goal

pub returns-then-place-paths : goal.returns-then-place-paths
returns-then-place-paths c = λ e. (
  c.if-place-paths.true,
  λ d.
      get_or_default c.args.paths.now c.args.place d c.index-paths-place.result c.if-place-paths.true
      ∙ sym c.index-paths-place.is ∙ same_path_exact c.index-paths-place.result c.args.path.now (sym c.eq.ensures ∙ e),
)
