use Rattle.std.proofs.Common.{◌≡◌, ◌+◌, ◌<◌, ℕ, zero, suc, List, [], ◌∷◌, ◌++◌, ◌∙◌, length, take, get_or, ap, sym, refl, arith}
use Rattle.prints.specs.declared.weak_lines.DirLine.{DirLine}
use Rattle.prints.specs.ReadWeak.{dir_of, dirs_from}
use Rattle.std.proofs.lemmas.List.{length-take}
use Rattle.prints.proofs.weak_reading.numbered.Goals as goal

-- one more line gives one more directory
one_more : (k i : ℕ) (ls : List DirLine) (d : DirLine) → i < length ls → dirs_from k (take (suc i) ls) ≡ dirs_from k (take i ls) ++ dir_of (k + i) (get_or ls i d).form (get_or ls i d).path ∷ []
one_more k i [] d l = absurd (omega (arith, l))
one_more k zero (x ∷ xs) d l =
    let same : k + 0 ≡ k = omega arith in
    ap (λ n. dir_of n x.form x.path ∷ []) (sym same)
one_more k (suc i) (x ∷ xs) d l =
    let next : k + 1 + i ≡ k + suc i = omega arith in
    ap (λ t. dir_of k x.form x.path ∷ t)
    (one_more (k + 1) i xs d (omega (arith, l)) ∙ ap (λ n. dirs_from (k + 1) (take i xs) ++ dir_of n (get_or xs i d).form (get_or xs i d).path ∷ []) next)

as_many : (k : ℕ) (ls : List DirLine) → length (dirs_from k ls) ≡ length ls
as_many k [] = refl
as_many k (l ∷ ls) = ap suc (as_many (k + 1) ls)

pub lines-preserved : goal.lines-preserved
lines-preserved c =
    let i = c.lines.line-index in
    let ls = c.args.lines.now in
    let lt : i < length ls = omega (arith, c.lines-test.true) in
    let many : length c.lines.dirs.items ≡ i = ap length c.lines.invariant ∙ as_many 0 (take i ls) ∙ omega (arith, length-take i ls, lt) in
    let next : suc i ≡ i + 1 = omega arith in
    let line : DirLine = c.line-item.result in
    let pip : c.in-Ok.pip ≡ 0 + i = omega (arith, c.in-Ok.ensures.1, c.len.ensures, many) in
    c.in_ok-push.ensures.items
    ∙ ap (λ xs. xs ++ c.in_ok-dir_of.field-0 ∷ []) c.lines.invariant
    ∙ ap (λ d. dirs_from 0 (take i ls) ++ d ∷ [])
    (c.in_ok-dir_of.ensures ∙ ap (λ n. dir_of n line.form line.path) pip ∙ ap (λ (x : DirLine). dir_of (0 + i) x.form x.path) c.line-item.is)
    ∙ sym (one_more 0 i ls line lt) ∙ ap (λ n. dirs_from 0 (take n ls)) next
