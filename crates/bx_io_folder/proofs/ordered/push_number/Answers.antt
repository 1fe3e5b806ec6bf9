use Rattle.std.proofs.Common.{◌≡◌, ◌++◌, ◌∷◌, [], List, OnOk, arith, rules, string_bytes, subst, sym, ℕ}
use Rattle.std.proofs.lemmas.Fmt.{decimal_digit}
use Rattle.std.specs.Fmt.{decimal}
use Rattle.bx_io_folder.proofs.ordered.push_number.Goals as goal

pub returns-then-number-eq0 : goal.returns-then-number-eq0
returns-then-number-eq0 c =
    let zero : c.args.number ≡ 0 = search rules in
    let digit : decimal c.args.number ≡ 48 ∷ [] = subst (λ n. decimal n ≡ 48 ∷ []) (sym zero) (decimal_digit 0 (omega arith)) in
    let is : OnOk c.push_str.result (string_bytes c.push_str.new.self ≡ string_bytes c.args.text.now ++ (48 ∷ [])) = search rules in
    subst (λ (ds : List ℕ). OnOk c.push_str.result (string_bytes c.push_str.new.self ≡ string_bytes c.args.text.now ++ ds)) (sym digit) is
