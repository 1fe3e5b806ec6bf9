-- Texts that are added one after another.
use Rattle.std.proofs.Common.{◌≡◌, ℕ, List, ◌++◌, ap, ◌∙◌, append_assoc}

pub joined_two : (t0 t1 t2 a b : List ℕ) → t1 ≡ t0 ++ a → t2 ≡ t1 ++ b → t2 ≡ t0 ++ (a ++ b)
joined_two t0 t1 t2 a b g h = h ∙ ap (λ t. t ++ b) g ∙ append_assoc t0 a b

pub joined_four : (t0 t1 t2 t3 t4 a b c d : List ℕ) → t1 ≡ t0 ++ a → t2 ≡ t1 ++ b → t3 ≡ t2 ++ c → t4 ≡ t3 ++ d → t4 ≡ t0 ++ (a ++ (b ++ (c ++ d)))
joined_four t0 t1 t2 t3 t4 a b c d h1 h2 h3 h4 =
    let to3 = joined_two t2 t3 t4 c d h3 h4 in
    let to2 = joined_two t1 t2 t4 b (c ++ d) h2 to3 in
    joined_two t0 t1 t4 a (b ++ (c ++ d)) h1 to2

pub joined_six : (t0 t1 t2 t3 t4 t5 t6 a b c d e f : List ℕ) → t1 ≡ t0 ++ a → t2 ≡ t1 ++ b → t3 ≡ t2 ++ c → t4 ≡ t3 ++ d → t5 ≡ t4 ++ e → t6 ≡ t5 ++ f
    → t6 ≡ t0 ++ (a ++ (b ++ (c ++ (d ++ (e ++ f)))))
joined_six t0 t1 t2 t3 t4 t5 t6 a b c d e f h1 h2 h3 h4 h5 h6 =
    let to4 = joined_four t2 t3 t4 t5 t6 c d e f h3 h4 h5 h6 in
    let to2 = joined_two t1 t2 t6 b (c ++ (d ++ (e ++ f))) h2 to4 in
    joined_two t0 t1 t6 a (b ++ (c ++ (d ++ (e ++ f)))) h1 to2
