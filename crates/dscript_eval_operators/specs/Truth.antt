-- Which values count as true.
use Rattle.std.specs.Prelude.{Bool, true, false, not, pos, [], ◌∷◌}
use Rattle.std.specs.Ordering.{int_eq}
use Rattle.dscript_value.specs.Plain as plain
use Rattle.dscript_value.specs.Plain.{Plain}

-- undefined, false, 0 and the empty text count as false, and all else as true
unfoldable pub is_true : Plain → Bool
is_true plain.Undefined = false
is_true (plain.Flag flag) = flag
is_true (plain.Number number) = not (int_eq number (pos 0))
is_true (plain.Text []) = false
is_true (plain.Text (b ∷ bs)) = true
is_true _ = true
