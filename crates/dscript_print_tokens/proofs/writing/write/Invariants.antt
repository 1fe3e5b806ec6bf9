use Rattle.std.proofs.Common.{◌≡◌, ◌++◌, drop}
use Rattle.dscript_print_tokens.specs.declared.side.Side.TheVariants.{Other}
use Rattle.dscript_print_tokens.specs.Layout.{written}
use Rattle.dscript_print_tokens.proofs.writing.write.Given as goal

abbrev pub invariant-tokens : goal.invariant-tokens
invariant-tokens l = l.text.items ++ written l.before (drop l.token-index l.laid) ≡ written Other l.laid
