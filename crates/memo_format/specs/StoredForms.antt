-- The lines of stored forms are read back as they are written: proofs that the kinds of lines carry, and no
-- definitions.
use Rattle.std.proofs.Common.{codes, refl}
use Rattle.prints.specs.Forms.{Anything, IsForm}
use Rattle.prints.specs.Combining.{after_form, as_form, pair_form}
use Rattle.prints.specs.PartForms.{digest_form, newline, path_form, space}
use Rattle.memo_format.specs.Entries.{IsOutput, output_at, output_line, output_of}
use Rattle.memo_format.specs.Selectors.{IsSelector, select_at, select_line, selector_from_parts}
use Rattle.memo_format.specs.declared.entry.OutputLine.{OutputLine}
use Rattle.memo_format.specs.declared.selector.Selector.{Selector}

pub select_form : IsForm IsSelector Anything select_line select_at
select_form =
    as_form IsSelector selector_from_parts (λ (s : Selector). (s.paths, s.strong)) (λ p g. (g, refl))
    (λ s h. (h, refl))
    (after_form (codes "select ") (pair_form (digest_form 32 space) (digest_form 10 newline)))

pub output_form : IsForm IsOutput Anything output_line output_at
output_form =
    as_form IsOutput output_of (λ (o : OutputLine). (o.path, o.digest)) (λ p g. (g, refl)) (λ o h. (h, refl))
    (after_form (codes "output ") (pair_form (path_form 32 space) (digest_form 10 newline)))
