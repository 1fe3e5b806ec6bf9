use Rattle.std.proofs.Common.{◌≡◌, ◌∷◌, ◌++◌, [], arith, codes, ap, sym, ◌∙◌}
use Rattle.std.proofs.lemmas.Result.{err_from_is_err_and}
use Rattle.bx_path.specs.Joining.{if_short}
use Rattle.dscript_sdk_pips.proofs.ShortPaths.{long_with_more, short_is}
use Rattle.dscript_sdk_pips.proofs.new_directories.directory_of.Goals as goal

pub returns-in_err-below : goal.returns-in_err-below
returns-in_err-below c =
    let p = err_from_is_err_and c.from_residual-in_err-below.result c.from_residual-in_err-below.ensures.1 in
    let out : c.in_ok-out.out ≡ codes "out" ∷ [] =
    short_is (c.in_ok-root.root ++ codes "out" ∷ []) c.in_ok-out.out c.in_ok-out.ensures
    ∙ ap (λ r. r ++ (codes "out" ∷ [])) c.in_ok-root.ensures in
    rw (p.1, p.2)
    (λ n. (
      (c.in_err-below.ensures n).0,
      long_with_more (codes "out" ∷ c.args.site.now.file) c.args.name.now (omega arith)
          (ap (λ o. if_short (o ++ c.args.site.now.file)) (sym out) ∙ (c.in_err-below.ensures n).1),
    ))
