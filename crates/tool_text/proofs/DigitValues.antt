-- The values of digits.
use Rattle.std.proofs.Common.{lit≤, ◌≡◌, ℕ, ◌<◌, ◌≤◌, ◌+◌, ◌-◌, ◌*◌, true, List, [], ◌∷◌, length, get_or, take, ap, sym, arith}
use Rattle.std.specs.Prelude.{nat_le, Some, None, cond}
use Rattle.std.specs.Int.{IsInRange}
use Rattle.std.specs.List.{list_all}
use Rattle.std.specs.Str.Parse.{AllDigits, digits_value}
use Rattle.std.proofs.lemmas.Bool.{and_parts, leb-true, le-ltb}
use Rattle.std.proofs.lemmas.Int.Digits.{digits_value_more}
use Rattle.std.proofs.lemmas.Str.Parse.{tells_digits, digit_at, digits_value-take-le}
use Rattle.bx_tree.proofs.HeaderParts.{digit_is}
use Rattle.tool_text.specs.Grammar.{is_digit}
use Rattle.tool_text.specs.Reading.{value_below}

-- a digit by its test
pub digit_range : (b : ℕ) → is_digit b ≡ true → IsInRange 48 57 b
digit_range b h = let parts = and_parts (nat_le 48 b) (nat_le b 57) h in (leb-true 48 b parts.0, leb-true b 57 parts.1)

pub digits_all : (bs : List ℕ) → list_all is_digit bs ≡ true → AllDigits 10 bs
digits_all [] h = tells_digits.empty
digits_all (b ∷ bs) h =
    let parts = and_parts (is_digit b) (list_all is_digit bs) h in
    tells_digits.more b bs (digit_range b parts.0) (digits_all bs parts.1)

pub at_least : (bs : List ℕ) (i : ℕ) → list_all is_digit bs ≡ true → i < length bs → 48 ≤ get_or bs i 0
at_least bs i h l = (digit_at bs i (digits_all bs h) l).0

-- one digit more
pub value_more : (bs : List ℕ) (i n : ℕ) → list_all is_digit bs ≡ true → i < length bs → n ≡ digits_value 10 (take i bs)
    → 10 * n + (get_or bs i 0 - 48) ≡ digits_value 10 (take (i + 1) bs)
value_more bs i n h l e =
    let d = digit_is (get_or bs i 0) (digit_at bs i (digits_all bs h) l) in
    omega (arith, e, d, digits_value_more 10 bs i l)

-- a prefix that reaches the limit shows that the whole does
pub value_above : (bs : List ℕ) (i n k : ℕ) → n ≡ digits_value 10 (take i bs) → k ≤ n → k ≤ digits_value 10 bs
value_above bs i n k e l = omega (arith, e, l, digits_value-take-le 10 bs i (lit≤ tt))

pub none_above : (limit : ℕ) (digits : List ℕ) → limit ≤ digits_value 10 digits → None ≡ value_below limit digits
none_above limit digits l = ap (λ b. cond b (Some (digits_value 10 digits)) None) (sym (le-ltb (digits_value 10 digits) limit l))
