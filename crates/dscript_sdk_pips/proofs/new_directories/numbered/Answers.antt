use Rattle.std.proofs.Common.{◌∙◌, sym, subst, arith}
use Rattle.bx_tree.specs.Paths.{IsAtom}
use Rattle.dscript_sdk_pips.proofs.ShortPaths.{decimal_atom}
use Rattle.dscript_sdk_pips.proofs.new_directories.numbered.Goals as goal

pub join_atom-requires : goal.join_atom-requires
join_atom-requires c =
    subst IsAtom (sym (c.as_bytes.ensures.value ∙ c.as_str.ensures.value ∙ c.in_ok-digits.ensures.ok))
    (decimal_atom c.args.number (omega arith))
