-- Paths that are short enough, and atoms one after another.
use Rattle.std.proofs.Common.{append-nil, ◌≡◌, ◌≢◌, ℕ, ◌+◌, ◌<◌, ◌≤◌, ◌^◌, Bool, true, false, cond, nat_le, IsTrue, List, [], ◌∷◌, ◌++◌, length, length-append, codes, Some, None, ap, sym, ◌∙◌, inl, inr, arith, lit<, ◌%◌}
use Rattle.std.specs.Prelude.{option_and_then}
use Rattle.std.specs.Fmt.{decimal}
use Rattle.std.specs.List.{AllByRecursion, join_with_byte}
use Rattle.std.proofs.lemmas.Bool.{cases_Bool, le-leb, leb-true}
use Rattle.std.proofs.lemmas.Bool.Decides.{nat_tests}
use Rattle.std.proofs.lemmas.Fmt.{decimal_by_steps, length-decimal-le}
use Rattle.bx_tree.specs.Paths.{Atoms, IsAtom, IsPath, is_atom_byte, path_text}
use Rattle.bx_tree.specs.declared.limits.TheConstants.{MAX_PATH_BYTES}
use Rattle.bx_path.specs.Joining.{if_short, join_of, walk}
use Rattle.bx_path.proofs.StepsOfTexts.{join-push, walk_down}
use Rattle.bx_tree.proofs.PathTexts.{atoms_from_text, root_from_text}

-- ## Short paths

pub short_is : (path found : Atoms) → if_short path ≡ Some found → found ≡ path
short_is path found e = by_test (nat_le (length (path_text path)) MAX_PATH_BYTES) e
  where
    by_test : (b : Bool) → cond b (Some path) None ≡ Some found → found ≡ path
    by_test true h = cc
    by_test false h = cc

text_of_more : (path : Atoms) (atom : List ℕ) → 0 < length path → length (path_text path) ≤ length (path_text (path ++ atom ∷ []))
text_of_more [] atom l = absurd (omega (arith, l))
text_of_more (a ∷ rest) atom l =
    omega (
      arith,
      ap length (join-push (a ∷ rest) atom l),
      length-append (join_with_byte 47 (a ∷ rest)) (47 ∷ atom),
      length-append (join_with_byte 47 (a ∷ rest) ++ (47 ∷ [])) atom,
      length-append (join_with_byte 47 (a ∷ rest)) (47 ∷ []),
    )

-- a path that is too long is no shorter with one more atom
pub long_with_more : (path : Atoms) (atom : List ℕ) → 0 < length path → if_short path ≡ None → if_short (path ++ atom ∷ []) ≡ None
long_with_more path atom l e = elim (cases_Bool (nat_le (length (path_text (path ++ atom ∷ []))) MAX_PATH_BYTES)) [
  | inl short ↦
      let fits : length (path_text path) ≤ MAX_PATH_BYTES = omega (arith, text_of_more path atom l, leb-true (length (path_text (path ++ atom ∷ []))) MAX_PATH_BYTES short) in
      let there : if_short path ≡ Some path = ap (λ b. cond b (Some path) None) (le-leb (length (path_text path)) MAX_PATH_BYTES fits) in
      absurd (cc)
  | inr long ↦ ap (λ b. cond b (Some (path ++ atom ∷ [])) None) long
]

-- ## Atoms one after another

-- the text of a path leads to the path below
pub join_text_of : (dir path : Atoms) → IsPath path → join_of dir (path_text path) ≡ if_short (dir ++ path)
join_text_of dir [] h = ap if_short (sym (append-nil dir))
join_text_of dir (a ∷ rest) h =
    let other : path_text (a ∷ rest) ≢ codes "." = λ e. let root = root_from_text (a ∷ rest) h e in cc in
    ap (λ parts. option_and_then if_short (walk dir parts)) (atoms_from_text (a ∷ rest) h other)
    ∙ ap (option_and_then if_short) (walk_down dir (a ∷ rest) h.atoms)

-- ## Digits

-- digits, at least one
pub record AreDigits (text : List ℕ) : Type 0 where
  pub some : 0 < length text
  pub each : AllByRecursion (λ b. (48 ≤ b) × (b ≤ 57)) text

one_more_digit : (text : List ℕ) (b : ℕ) → AllByRecursion (λ b. (48 ≤ b) × (b ≤ 57)) text → (48 ≤ b) × (b ≤ 57)
    → AllByRecursion (λ b. (48 ≤ b) × (b ≤ 57)) (text ++ b ∷ [])
one_more_digit [] b all here = (here, tt)
one_more_digit (x ∷ xs) b all here = (all.0, one_more_digit xs b all.1 here)

decimal_digits : (n : ℕ) → n < 2 ^ 64 → AreDigits (decimal n)
decimal_digits n l =
    decimal_by_steps (λ n text. AreDigits text)
    (λ n small. record { some = omega arith; each = ((omega arith, omega arith), tt) })
    (λ n text large h. record {
      some = omega (arith, length-append text ((48 + n % 10) ∷ []), h.some);
      each = one_more_digit text (48 + n % 10) h.each (omega arith, omega arith);
    })
    n l

digit_byte : (b : ℕ) → 48 ≤ b → b ≤ 57 → is_atom_byte b ≡ true
digit_byte b low high = grind (arith, nat_tests)

digit_bytes : (text : List ℕ) → AllByRecursion (λ b. (48 ≤ b) × (b ≤ 57)) text → AllByRecursion (λ b. IsTrue (is_atom_byte b)) text
digit_bytes [] h = tt
digit_bytes (b ∷ bs) h = (digit_byte b h.0.0 h.0.1, digit_bytes bs h.1)

not_dots : (text : List ℕ) (more : List ℕ) → AllByRecursion (λ b. (48 ≤ b) × (b ≤ 57)) text → text ≢ 46 ∷ more
not_dots [] more h e = cc
not_dots (b ∷ bs) more h e = let same : b ≡ 46 = cc in omega (arith, h.0.0, same)

pub decimal_atom : (n : ℕ) → n < 2 ^ 64 → IsAtom (decimal n)
decimal_atom n l =
    let h = decimal_digits n l in
    record {
      some = h.some;
      short = omega (arith, length-decimal-le 20 n (lit< tt) (omega arith) l);
      bytes = digit_bytes (decimal n) h.each;
      not_dot = not_dots (decimal n) [] h.each;
      not_dots = not_dots (decimal n) (46 ∷ []) h.each;
    }
