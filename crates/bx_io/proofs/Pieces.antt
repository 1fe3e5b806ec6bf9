-- Pieces that are moved from the start of a list.
use Rattle.std.proofs.Common.{◌≡◌, ℕ, ◌+◌, List, ◌++◌, length, take, drop, sym, ap, ◌∙◌, ◌≤◌, arith}
use Rattle.std.proofs.lemmas.List.{take-append-drop, take-take, drop-take, drop-append-le, drop-drop}
use Rattle.std.proofs.Math.Seq.{take-append_seam}

-- what is left from g on is its first n, which were copied into a buffer, and what is left from g + n on
pub piece_moved : (xs ys zs : List ℕ) (g n : ℕ) → length ys ≡ n → ys ≡ take n (drop g xs) → drop g xs ≡ take n (ys ++ zs) ++ drop (g + n) xs
piece_moved xs ys zs g n len is =
    let seam : take n (ys ++ zs) ≡ ys = rw (← len) (take-append_seam ys zs) in
    let further : drop (g + n) xs ≡ drop n (drop g xs) = sym (drop-drop n g xs) in
    rw (seam, is, further) (sym (take-append-drop n (drop g xs)))

-- what follows the first n of a buffer is as it was, where it is in the prefix of the buffer, of at least n
pub rest_kept : (into ys : List ℕ) (k n : ℕ) → n ≤ length ys → length ys ≡ length (take k into) → drop n ys ≡ drop n (take k into)
    → drop n (ys ++ drop k into) ≡ drop n into
rest_kept into ys k n within len same =
    let within_prefix : n ≤ length (take k into) = omega arith in
    drop-append-le n ys (drop k into) within
    ∙ ap (λ prefix. prefix ++ drop k into) same
    ∙ sym (drop-append-le n (take k into) (drop k into) within_prefix)
    ∙ ap (drop n) (take-append-drop k into)

-- what was given from the start on, and then the first n of what is left
pub piece_given : (xs ys zs : List ℕ) (g n : ℕ) → length ys ≡ n → ys ≡ take n (drop g xs) → take (g + n) xs ≡ take g xs ++ take n (ys ++ zs)
piece_given xs ys zs g n len is =
    let seam : take n (ys ++ zs) ≡ ys = rw (← len) (take-append_seam ys zs) in
    let within : g ≤ g + n = omega arith in
    let first : take g (take (g + n) xs) ≡ take g xs = take-take g (g + n) xs within in
    let next : drop g (take (g + n) xs) ≡ ys = drop-take g n xs ∙ sym is in
    sym (take-append-drop g (take (g + n) xs)) ∙ ap (λ front. front ++ drop g (take (g + n) xs)) first
    ∙ ap (λ back. take g xs ++ back) (next ∙ sym seam)
