-- The text of tokens that are laid out.
use Rattle.std.specs.Prelude.{ℕ, ◌*◌, Bool, List, [], ◌∷◌, ◌++◌, replicate, if◌then◌else◌}
use Rattle.dscript_print_tokens.specs.declared.laid.Laid.{Laid}
use Rattle.dscript_print_tokens.specs.declared.laid.Gap.{Gap}
use Rattle.dscript_print_tokens.specs.declared.laid.Gap.TheVariants as gaps
use Rattle.dscript_print_tokens.specs.declared.side.Side.{Side}
use Rattle.dscript_print_tokens.specs.Sides.{side_of, run_together}
use Rattle.dscript_print_tokens.specs.Spellings.{spelling}

-- the blanks of a gap, where the token would run together with the one before it, or would not
abbrev pub blanks : Gap → Bool → List ℕ
blanks gaps.None together = if together then 0x20 ∷ [] else []
blanks gaps.Space together = 0x20 ∷ []
blanks (gaps.Line levels) together = 0x0a ∷ replicate (4 * levels) 0x20

-- the tokens after such a token, and the newline at the end
unfoldable pub written : Side → List Laid → List ℕ
written before [] = 0x0a ∷ []
written before (l ∷ ls) =
    blanks l.gap (run_together before (side_of l.kind)) ++ (spelling l.kind ++ written (side_of l.kind) ls)
