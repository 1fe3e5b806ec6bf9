-- What a trim of a store leaves.
use Rattle.std.specs.Prelude.{◌≡◌, ℕ, true, false, List, [], codes, take, Some, None}
use Rattle.std.specs.FinMap.{get}
use Rattle.bx_io.specs.Holdings.{Holdings}
use Rattle.prints.specs.Lines.{begins}
use Rattle.prints.specs.Reading.{◌>>=◌}
use Rattle.memo_format.specs.Selectors.{read_selectors_text, selectors_text}
use Rattle.memo_format.specs.declared.selector.Selector.{Selector}
use Rattle.two_phase_meaning.specs.Saving.{selectors_in}
use Rattle.cache_care.specs.Trimming.{is_named, is_selected}

-- The second is what the first store has left after a trim: of each well-formed list its first selectors, and no
-- list without selectors; the entries that these name; the contents that these name; and what is of no kind.
pub record IsTrimmed (S : Holdings) (keep : ℕ) (T : Holdings) : Type 0 where
  pub entries_stay : (name : List ℕ) → begins (codes "e/") name ≡ true → is_selected S keep name ≡ true
      → get T name ≡ get S name
  pub entries_go : (name : List ℕ) → begins (codes "e/") name ≡ true → is_selected S keep name ≡ false
      → get T name ≡ None
  pub lists_stay : (name : List ℕ) → begins (codes "w/") name ≡ true → (list : List Selector)
      → take keep (selectors_in (get S name)) ≡ list → (list ≡ [] → ⊥) → get T name ≡ Some (selectors_text list)
  pub lists_go : (name : List ℕ) → begins (codes "w/") name ≡ true → take keep (selectors_in (get S name)) ≡ []
      → get T name ≡ None
  pub contents_stay : (name : List ℕ) → begins (codes "b/") name ≡ true → is_named S keep name ≡ true
      → get T name ≡ get S name
  pub contents_go : (name : List ℕ) → begins (codes "b/") name ≡ true → is_named S keep name ≡ false
      → get T name ≡ None
  pub others : (name : List ℕ) → begins (codes "e/") name ≡ false → begins (codes "w/") name ≡ false
      → begins (codes "b/") name ≡ false → get T name ≡ get S name
