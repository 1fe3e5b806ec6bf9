-- Lists of selectors: their text, and what a text is read as.
use Rattle.std.specs.Prelude.{ℕ, ◌≤◌, nat_le, List, ◌++◌, length, codes, Option}
use Rattle.std.specs.List.{AllByRecursion, flat_map}
use Rattle.bx_digest.specs.Digests.{IsDigest}
use Rattle.prints.specs.Lines.{begins, lines_at}
use Rattle.prints.specs.Parts.{digest_at, digest_part}
use Rattle.prints.specs.Reading.{Taken, ◌>>=◌, after_word, as_at, both_at, only_at, whole_of}
use Rattle.memo_format.specs.Seals.{sealed, unsealed}
use Rattle.memo_format.specs.declared.selector.TheConstants.{MAX_SELECTORS}
use Rattle.memo_format.specs.declared.selector.Selector.{Selector}

abbrev pub IsSelector : Selector → Type 0
IsSelector s = IsDigest s.paths × IsDigest s.strong

-- What is a list of selectors: at most 64 of them, of digests. One may be there twice.
pub record AreSelectors (list : List Selector) : Type 0 where
  pub few : length list ≤ MAX_SELECTORS
  pub each : AllByRecursion IsSelector list

-- ## The text

-- the digest of a path set, and that of the strong text which its answers gave
abbrev pub select_line : Selector → List ℕ
select_line s = codes "select " ++ (digest_part 32 s.paths ++ digest_part 10 s.strong)

abbrev pub selectors_body : List Selector → List ℕ
selectors_body list = codes "selectors 1\n" ++ flat_map select_line list

abbrev pub selectors_text : List Selector → List ℕ
selectors_text list = sealed (selectors_body list)

-- ## What a text is read as

abbrev pub selector_from_parts : List ℕ × List ℕ → Selector
selector_from_parts p = record { paths = p.0; strong = p.1 }

abbrev pub select_at : List ℕ → Taken Selector
select_at = as_at selector_from_parts (after_word (codes "select ") (both_at (digest_at 32) (digest_at 10)))

abbrev pub selectors_at : List ℕ → Taken (List Selector)
selectors_at =
    only_at (λ list. nat_le (length list) MAX_SELECTORS)
    (after_word (codes "selectors 1\n") (lines_at (begins (codes "select ")) select_at))

unfoldable pub body_selectors : List ℕ → Option (List Selector)
body_selectors = whole_of selectors_at

-- the list that has this text, if one has
unfoldable pub read_selectors_text : List ℕ → Option (List Selector)
read_selectors_text text = unsealed text >>= body_selectors
