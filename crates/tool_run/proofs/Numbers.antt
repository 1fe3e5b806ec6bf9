-- Numbers of at most nine digits.
use Rattle.std.proofs.Common.{◌≡◌, ℕ, ◌≤◌, true, List, length, cond, ap, sym, ◌∙◌, Some, None}
use Rattle.std.specs.Prelude.{nat_le}
use Rattle.std.specs.Str.Parse.{AllDigits, digits_value}
use Rattle.std.specs.List.{list_all}
use Rattle.std.proofs.lemmas.Bool.{and_from, and_parts, le-leb, lt-ltb}
use Rattle.std.proofs.lemmas.Str.Parse.{tells_digits, digits_value_short, numerals_by_value}
use Rattle.tool_text.specs.Grammar.{is_digit}
use Rattle.tool_text.specs.Reading.{is_digits, is_number, value_below}
use Rattle.tool_text.proofs.DigitValues.{digits_all}
use Rattle.tool_run.specs.Values.{number_of}

pub digits_of_number : (text : List ℕ) → is_number text ≡ true → list_all is_digit text ≡ true
digits_of_number text h = (and_parts _ (list_all is_digit text) (and_parts (is_digits text) _ h).0).1

pub number_is : (text : List ℕ) → is_number text ≡ true → length text ≤ 9 → value_below 1000000000 text ≡ number_of text
number_is text h l =
    ap (λ b. cond b (Some (digits_value 10 text)) None)
    (lt-ltb (digits_value 10 text) 1000000000 (digits_value_short (numerals_by_value (AllDigits 10) tells_digits) text 9 (digits_all text (digits_of_number text h)) l)
    ∙ sym (and_from (is_number text) (nat_le (length text) 9) h (le-leb (length text) 9 l)))
