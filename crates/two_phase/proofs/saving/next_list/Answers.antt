use Rattle.std.proofs.Common.{◌∙◌, List, ℕ, ap}
use Rattle.memo_format.specs.Selectors.{selectors_text}
use Rattle.memo_format.specs.declared.selector.Selector.{Selector}
use Rattle.two_phase_meaning.specs.Saving.{with_first}
use Rattle.two_phase.specs.Putting.{written_selector}
use Rattle.two_phase.proofs.Prefixes.{list_few}
use Rattle.two_phase.proofs.saving.next_list.Goals as goal

pub write_selectors-requires : goal.write_selectors-requires
write_selectors-requires g c =
    list_few (record { paths = c.digest.result; strong = c.args.written.now.strong.digest }) c.as_slice.result.now c.as_slice-2.result.now
    (c.as_slice-2.ensures.value ∙ c.in_ok-list.ensures)

pub returns-clause-list : goal.returns-clause-list
returns-clause-list g c = record {
  old = c.in_ok-old.old.items;
  old_is = c.in_ok-old.ensures.list;
  text_is = c.in_ok-text.ensures.text
      ∙ ap selectors_text (c.as_slice-2.ensures.value ∙ c.in_ok-list.ensures
      ∙ ap (λ (d : List ℕ). with_first (record { paths = d; strong = c.args.written.now.strong.digest }) c.as_slice.result.now) c.digest.ensures
      ∙ ap (λ (l : List Selector). with_first (written_selector c.args.written.now) l) c.as_slice.ensures.value);
}
