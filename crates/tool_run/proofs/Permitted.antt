-- The paths that a run may write, tested one by one.
use Rattle.std.proofs.Common.{◌≡◌, true, false, Bool, ◌||◌, List, [], ◌∷◌, refl, ap, sym, ◌∙◌}
use Rattle.std.specs.List.{list_any}
use Rattle.bx_tree.specs.Paths.{Atoms}
use Rattle.pip_model_types.specs.declared.outputs.OutDir.{OutDir}
use Rattle.bx_tree.specs.Below.{is_below}
use Rattle.pip_model_types.specs.Outputs.{outdir_paths}

pub any_dirs : (path : Atoms) (dirs : List OutDir) → list_any (λ (d : OutDir). is_below path d.path) dirs ≡ list_any (λ dir. is_below path dir) (outdir_paths dirs)
any_dirs path [] = refl
any_dirs path (d ∷ ds) = ap (λ t. is_below path d.path || t) (any_dirs path ds)

pub outside : (a inside b : Bool) → inside ≡ b → inside ≡ true → true ≡ (a || b)
outside true inside b same e = refl
outside false inside b same e = sym e ∙ same

pub not_outside : (a inside b r : Bool) → inside ≡ b → inside ≡ false → r ≡ a → r ≡ (a || b)
not_outside true inside b r same e is = is
not_outside false inside b r same e is = is ∙ sym e ∙ same
