-- How a page is read: where a text may stand, so that it opens no tag and ends no value.
use Rattle.std.specs.Prelude.{◌≡◌, ◌⊎◌, ℕ, ◌==◌, if◌then◌else◌, List, [], ◌∷◌}
use Rattle.std.specs.List.{AllByRecursion}
use Rattle.html_page.specs.Escaping.{escaped}
use Rattle.html_page.specs.Pages.{Given, Markup, Part}

-- Where a reader is: between tags, in a tag, or in the value of an attribute. These are the states of HTML's tokenizer
-- (HTML, 13.2.5: data; the tag states; attribute value, double-quoted) for pages whose values are all in double
-- quotes, or free of `"` and `>`. A reference does not leave the state that it stands in.
pub data Mode : Type 0 where
  InText : Mode
  InTag : Mode
  InValue : Mode

-- where the reader is after a byte
abbrev pub step : Mode → ℕ → Mode
step InText b = if b == 60 then InTag else InText
step InTag b = if b == 62 then InText else (if b == 34 then InValue else InTag)
step InValue b = if b == 34 then InTag else InValue

abbrev pub mode_after : Mode → List ℕ → Mode
mode_after mode [] = mode
mode_after mode (b ∷ bs) = mode_after (step mode b) bs

-- no byte of the text leads the reader elsewhere: none opens or ends a tag, or begins or ends a value
abbrev pub Stays : Mode → List ℕ → Type 0
Stays mode text = AllByRecursion (λ b. step mode b ≡ mode) text

-- a given text stands between tags or in a value
abbrev pub MayStand : Mode → Type 0
MayStand mode = (mode ≡ InText) ⊎ (mode ≡ InValue)

-- From this mode on each given text stands between tags or in a value and leads the reader nowhere else, and after all
-- parts the reader is between tags.
abbrev pub IsKept : Mode → List Part → Type 0
IsKept mode [] = mode ≡ InText
IsKept mode (Markup text ∷ parts) = IsKept (mode_after mode text) parts
IsKept mode (Given text ∷ parts) = MayStand mode × Stays mode (escaped text) × IsKept mode parts
