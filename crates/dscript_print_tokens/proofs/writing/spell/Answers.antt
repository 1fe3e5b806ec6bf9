use Rattle.std.proofs.Common.{◌≡◌, subst, sym}
use Rattle.std.proofs.lemmas.Result.{IfOk-weaker}
use Rattle.dscript_print_tokens.specs.declared.side.Side.TheVariants.{Other}
use Rattle.dscript_print_tokens.specs.Spellable.{kinds, AreSpellable, HasKinds}
use Rattle.dscript_print_tokens.specs.Layout.{written}
use Rattle.dscript_print_tokens.proofs.Whole.{written_has_kinds}
use Rattle.dscript_print_tokens.proofs.writing.spell.Goals as goal

pub returns-clause-tokens : goal.returns-clause-tokens
returns-clause-tokens c =
    let all = kinds c.args.laid.now in
    IfOk-weaker c.write.result (λ text. text.items ≡ written Other c.args.laid.now) (λ text. AreSpellable all → HasKinds text.items all)
    (λ text is spellable. subst (λ t. HasKinds t all) (sym is) (written_has_kinds c.args.laid.now spellable))
    c.write.ensures
