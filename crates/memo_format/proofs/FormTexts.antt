-- What a text of a stored form is read as.
use Rattle.std.proofs.Common.{◌≡◌, ◌↔◌, ℕ, true, false, List, length, codes, Some, None, refl, sym, ap, ◌∙◌}
use Rattle.std.specs.Bool.{nat_le}
use Rattle.std.specs.List.{AllByRecursion, flat_map}
use Rattle.std.proofs.lemmas.Bool.{leb-true, le-leb}
use Rattle.bx_tree.specs.Orders.{path_cmp_total}
use Rattle.prints.specs.Forms.{IsForm}
use Rattle.prints.specs.Lines.{begins, rises}
use Rattle.prints.specs.Reading.{◌>>=◌}
use Rattle.prints.specs.Combining.{after_form, as_form, bind_some, form_of, only_form, pair_form, whole_again, whole_read}
use Rattle.prints.proofs.LineLists.{lines_form}
use Rattle.prints.specs.PartForms.{digest_form, newline}
use Rattle.prints.proofs.Rising.{rising_sorted, sorted_rising}
use Rattle.memo_format.specs.declared.entry.Entry.{Entry}
use Rattle.memo_format.specs.declared.entry.OutputLine.{OutputLine}
use Rattle.memo_format.specs.declared.selector.Selector.{Selector}
use Rattle.memo_format.specs.Entries.{IsEntry, IsOutput, body_entry, entry_at, entry_body, entry_from_parts, entry_text, output_before, output_line, outputs_at, read_entry_text}
use Rattle.memo_format.specs.Seals.{sealed, unsealed}
use Rattle.memo_format.specs.Selectors.{AreSelectors, body_selectors, read_selectors_text, selectors_at, selectors_body, selectors_text}
use Rattle.memo_format.proofs.SealTexts.{unsealed_again, unsealed_sound}
use Rattle.memo_format.specs.StoredForms.{output_form, select_form}

-- ## Selectors

abbrev pub NoMore : List ℕ → List ℕ → Type 0
NoMore word text = begins word text ≡ false

selectors_form : IsForm AreSelectors (NoMore (codes "select ")) selectors_body selectors_at
selectors_form =
    form_of AreSelectors (NoMore (codes "select "))
    (λ list g. record { few = leb-true (length list) 64 g.1; each = g.0 }) (λ list h. (h.each, le-leb (length list) 64 h.few)) (λ t k. k)
    (only_form (λ list. nat_le (length list) 64)
    (after_form (codes "selectors 1\n") (lines_form (begins (codes "select ")) select_form (λ x rest. refl) refl)))

pub selectors_sound : (text : List ℕ) (list : List Selector) → read_selectors_text text ≡ Some list → AreSelectors list × (text ≡ selectors_text list)
unfolding read_selectors_text body_selectors
selectors_sound text list e =
    let a = bind_some (unsealed text) body_selectors list e in
    let b = whole_read selectors_form a.0 list a.2 in
    (b.0, unsealed_sound text a.0 a.1 ∙ ap sealed b.1)

pub selectors_again : (list : List Selector) → AreSelectors list → read_selectors_text (selectors_text list) ≡ Some list
unfolding read_selectors_text body_selectors
selectors_again list h =
    ap (λ o. o >>= body_selectors) (unsealed_again (selectors_body list)) ∙ whole_again selectors_form refl list h

pub selectors_law : (text : List ℕ) (list : List Selector) → (read_selectors_text text ≡ Some list) ↔ (AreSelectors list × (text ≡ selectors_text list))
selectors_law text list = (selectors_sound text list, λ h. ap read_selectors_text h.1 ∙ selectors_again list h.0)

-- ## Entries

outputs_form : IsForm (λ outputs. AllByRecursion IsOutput outputs × (rises output_before outputs ≡ true)) (NoMore (codes "output ")) (flat_map output_line) outputs_at
unfolding outputs_at
outputs_form = only_form (rises output_before) (lines_form (begins (codes "output ")) output_form (λ x rest. refl) refl)

entry_form : IsForm IsEntry (NoMore (codes "output ")) entry_body entry_at
entry_form =
    as_form IsEntry entry_from_parts (λ (e : Entry). (e.weak, (e.paths, (e.strong, e.outputs))))
    (λ p g. (
      record {
        weak = g.0;
        paths = g.1.0;
        strong = g.1.1.0;
        outputs = g.1.1.1.0;
        order = rising_sorted path_cmp_total (λ (o : OutputLine). o.path) p.1.1.1 g.1.1.1.1;
      },
      refl,
    ))
    (λ e h. ((h.weak, (h.paths, (h.strong, (h.outputs, sorted_rising path_cmp_total (λ (o : OutputLine). o.path) e.outputs h.order)))), refl))
    (after_form (codes "entry 1\n") (pair_form (after_form (codes "weak ") (digest_form 10 newline))
    (pair_form (after_form (codes "paths ") (digest_form 10 newline))
    (pair_form (after_form (codes "strong ") (digest_form 10 newline)) outputs_form))))

pub entry_sound : (text : List ℕ) (e : Entry) → read_entry_text text ≡ Some e → IsEntry e × (text ≡ entry_text e)
unfolding read_entry_text body_entry
entry_sound text e read =
    let a = bind_some (unsealed text) body_entry e read in
    let b = whole_read entry_form a.0 e a.2 in
    (b.0, unsealed_sound text a.0 a.1 ∙ ap sealed b.1)

pub entry_again : (e : Entry) → IsEntry e → read_entry_text (entry_text e) ≡ Some e
unfolding read_entry_text body_entry
entry_again e h = ap (λ o. o >>= body_entry) (unsealed_again (entry_body e)) ∙ whole_again entry_form refl e h

pub entry_law : (text : List ℕ) (e : Entry) → (read_entry_text text ≡ Some e) ↔ (IsEntry e × (text ≡ entry_text e))
entry_law text e = (entry_sound text e, λ h. ap read_entry_text h.1 ∙ entry_again e h.0)

-- ## Refusals

pub no_selectors : (text : List ℕ) → read_selectors_text text ≡ None → (list : List Selector) → AreSelectors list → text ≡ selectors_text list → ⊥
no_selectors text none list h is = let clash : Some list ≡ None = sym (ap read_selectors_text is ∙ selectors_again list h) ∙ none in cc

pub no_entry : (text : List ℕ) → read_entry_text text ≡ None → (e : Entry) → IsEntry e → text ≡ entry_text e → ⊥
no_entry text none e h is = let clash : Some e ≡ None = sym (ap read_entry_text is ∙ entry_again e h) ∙ none in cc
