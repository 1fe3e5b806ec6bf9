-- Lines of one form, one after another, are a form; and reading them one by one.
use Rattle.std.proofs.Common.{◌≡◌, ℕ, zero, suc, ◌≤◌, ◌<◌, Bool, true, false, cond, List, [], ◌∷◌, ◌++◌, length, Some, None, Err, refl, sym, ap, subst, ◌∙◌, append_assoc, arith, length-append}
use Rattle.std.specs.List.{flat_map, AllByRecursion}
use Rattle.std.proofs.lemmas.List.{append-nil}
use Rattle.std.proofs.lemmas.List.Concat.{flat_map-cons}
use Rattle.std.proofs.lemmas.Option.{same_Some}
use Rattle.prints.specs.declared.fault.PrintFault.{PrintFault}
use Rattle.prints.specs.declared.fault.PrintFault.TheVariants as faults
use Rattle.prints.specs.Forms.{Anything, IsForm}
use Rattle.prints.specs.Lines.{some_lines, lines_at}
use Rattle.prints.specs.Reading.{Taken, Takes, TakesItems, ◌>>=◌}
use Rattle.prints.specs.Combining.{bind_some}

-- the lines that were read before those that are still read
abbrev pub with_prefix : {X : Type 0} → List X → Taken (List X) → Taken (List X)
with_prefix prefix read = read >>= λ x. Some (prefix ++ x.0, x.1)

module _ {X : Type 0} {G : X → Type 0} {w : X → List ℕ} {r : List ℕ → Taken X} (starts : List ℕ → Bool) (form : IsForm G Anything w r)
    (seen : (x : X) (rest : List ℕ) → starts (w x ++ rest) ≡ true) (none : starts [] ≡ false) where
  -- a line is not empty
  pub some_bytes : (x : X) → 0 < length (w x)
  some_bytes x = by_bytes (w x) (seen x [])
    where
      by_bytes : (bytes : List ℕ) → starts (bytes ++ []) ≡ true → 0 < length bytes
      by_bytes [] e = let clash : true ≡ false = sym e ∙ none in absurd cc
      by_bytes (b ∷ bs) e = omega arith

  -- what is left of a text once a line is read is shorter
  pub shorter : (text : List ℕ) (taken : X × List ℕ) → r text ≡ Some taken → length taken.1 < length text
  shorter text taken e =
      omega (arith, ap length (form.written text taken e), length-append (w taken.0) taken.1, some_bytes taken.0)

  -- what lines say of a text that they are read of
  pub record AreLinesOf (text : List ℕ) (taken : List X × List ℕ) : Type 0 where
    pub good : AllByRecursion G taken.0
    pub written : text ≡ flat_map w taken.0 ++ taken.1

  lines_read : (n : ℕ) (text : List ℕ) (taken : List X × List ℕ) → some_lines starts r n text ≡ Some taken → AreLinesOf text taken
  unfolding some_lines
  lines_read zero text taken e = by_start (starts text) e
    where
      by_start : (b : Bool) → cond b None (Some ([], text)) ≡ Some taken → AreLinesOf text taken
      by_start true e = absurd cc
      by_start false e = subst (AreLinesOf text) (same_Some ([], text) taken e) (record { good = tt; written = refl })
  lines_read (suc n) text taken e = by_start (starts text) (λ t read. lines_read n t read) e
    where
      by_start : (b : Bool) → ((t : List ℕ) (read : List X × List ℕ) → some_lines starts r n t ≡ Some read → AreLinesOf t read)
          → cond b (r text >>= λ first. some_lines starts r n first.1 >>= λ more. Some (first.0 ∷ more.0, more.1)) (Some ([], text)) ≡ Some taken
          → AreLinesOf text taken
      by_start false again e = subst (AreLinesOf text) (same_Some ([], text) taken e) (record { good = tt; written = refl })
      by_start true again e =
          let a = bind_some (r text) (λ first. some_lines starts r n first.1 >>= λ more. Some (first.0 ∷ more.0, more.1)) taken e in
          let b = bind_some (some_lines starts r n a.0.1) (λ more. Some (a.0.0 ∷ more.0, more.1)) taken a.2 in
          let others = again a.0.1 b.0 b.1 in
          subst (AreLinesOf text) (same_Some (a.0.0 ∷ b.0.0, b.0.1) taken b.2) (record {
            good = (form.good text a.0 a.1, others.good);
            written =
                form.written text a.0 a.1 ∙ ap (λ t. w a.0.0 ++ t) others.written ∙ sym (append_assoc (w a.0.0) (flat_map w b.0.0) b.0.1)
                ∙ ap (λ t. t ++ b.0.1) (sym (flat_map-cons w a.0.0 b.0.0));
          })

  lines_again : (n : ℕ) (xs : List X) (rest : List ℕ) → length xs ≤ n → AllByRecursion G xs → starts rest ≡ false
      → some_lines starts r n (flat_map w xs ++ rest) ≡ Some (xs, rest)
  unfolding some_lines
  lines_again zero [] rest le g e = ap (λ b. cond b None (Some ([], rest))) e
  lines_again (suc n) [] rest le g e = ap (λ b. cond b (r rest >>= λ first. some_lines starts r n first.1 >>= λ more. Some (first.0 ∷ more.0, more.1)) (Some ([], rest))) e
  lines_again zero (x ∷ xs) rest le g e = absurd (omega (arith, le))
  lines_again (suc n) (x ∷ xs) rest le g e =
      let tail = flat_map w xs ++ rest in
      ap (some_lines starts r (suc n)) (ap (λ t. t ++ rest) (flat_map-cons w x xs) ∙ append_assoc (w x) (flat_map w xs) rest)
      ∙ ap (λ b. cond b (r (w x ++ tail) >>= λ first. some_lines starts r n first.1 >>= λ more. Some (first.0 ∷ more.0, more.1)) (Some ([], w x ++ tail))) (seen x tail)
      ∙ ap (λ o. o >>= λ first. some_lines starts r n first.1 >>= λ more. Some (first.0 ∷ more.0, more.1)) (form.again x tail g.0 tt)
      ∙ ap (λ o. o >>= λ more. Some (x ∷ more.0, more.1)) (lines_again n xs rest (omega (arith, le)) g.1 e)

  -- there are no more lines than bytes
  few : (xs : List X) (rest : List ℕ) → length xs ≤ length (flat_map w xs ++ rest)
  few [] rest = omega arith
  few (x ∷ xs) rest =
      let regrouped : flat_map w (x ∷ xs) ++ rest ≡ w x ++ (flat_map w xs ++ rest) = ap (λ t. t ++ rest) (flat_map-cons w x xs) ∙ append_assoc (w x) (flat_map w xs) rest in
      omega (arith, ap length regrouped, length-append (w x) (flat_map w xs ++ rest), some_bytes x, few xs rest)

  pub lines_form : IsForm (AllByRecursion G) (λ t. starts t ≡ false) (flat_map w) (lines_at starts r)
  lines_form = record {
    good = λ text taken e. (lines_read (length text) text taken e).good;
    written = λ text taken e. (lines_read (length text) text taken e).written;
    again = λ xs rest g e. lines_again (length (flat_map w xs ++ rest)) xs rest (few xs rest) g e;
  }

-- ## Reading lines one by one

-- What is read so far is a prefix of what a text reads as, with lines still to be read.
pub record IsUnderWay {X : Type 0} (starts : List ℕ → Bool) (r : List ℕ → Taken X) (prefix : List X) (rest : List ℕ) (all : Taken (List X)) : Type 0 where
  pub most : ℕ
  pub enough : length rest ≤ most
  pub so_far : with_prefix prefix (some_lines starts r most rest) ≡ all

pub begun : {X : Type 0} (starts : List ℕ → Bool) (r : List ℕ → Taken X) (text : List ℕ) → IsUnderWay starts r [] text (lines_at starts r text)
begun starts r text = record { most = length text; enough = omega arith; so_far = same (some_lines starts r (length text) text) }
  where
    same : {X : Type 0} (read : Taken (List X)) → with_prefix [] read ≡ read
    same None = refl
    same (Some x) = refl

module _ {X : Type 0} (starts : List ℕ → Bool) (r : List ℕ → Taken X) (prefix : List X) (rest : List ℕ) (all : Taken (List X)) where
  pub goes_on : (new : List X) (x : X) (after : List ℕ) → new ≡ prefix ++ x ∷ [] → starts rest ≡ true → r rest ≡ Some (x, after) → length after < length rest
      → IsUnderWay starts r prefix rest all → IsUnderWay starts r new after all
  unfolding some_lines
  goes_on new x after more start e less way = by_most way.most way.enough way.so_far
    where
      regroup : (read : Taken (List X)) → with_prefix prefix (read >>= λ more. Some (x ∷ more.0, more.1)) ≡ with_prefix (prefix ++ x ∷ []) read
      regroup None = refl
      regroup (Some t) = ap (λ xs. Some (xs, t.1)) (sym (append_assoc prefix (x ∷ []) t.0))

      by_most : (n : ℕ) → length rest ≤ n → with_prefix prefix (some_lines starts r n rest) ≡ all → IsUnderWay starts r new after all
      by_most zero le so_far = absurd (omega (arith, le, less))
      by_most (suc n) le so_far = record {
        most = n;
        enough = omega (arith, le, less);
        so_far =
            ap (λ xs. with_prefix xs (some_lines starts r n after)) more
            ∙ sym (regroup (some_lines starts r n after))
            ∙ ap (λ o. with_prefix prefix (o >>= λ first. some_lines starts r n first.1 >>= λ more. Some (first.0 ∷ more.0, more.1))) (sym e)
            ∙ ap (λ b. with_prefix prefix (cond b (r rest >>= λ first. some_lines starts r n first.1 >>= λ more. Some (first.0 ∷ more.0, more.1)) (Some ([], rest)))) (sym start)
            ∙ so_far;
      }

  pub no_line : starts rest ≡ true → r rest ≡ None → IsUnderWay starts r prefix rest all → all ≡ None
  unfolding some_lines
  no_line start e way = by_most way.most way.so_far
    where
      by_most : (n : ℕ) → with_prefix prefix (some_lines starts r n rest) ≡ all → all ≡ None
      by_most zero so_far = sym so_far ∙ ap (λ b. with_prefix prefix (cond b None (Some ([], rest)))) start
      by_most (suc n) so_far =
          sym so_far
          ∙ ap (λ b. with_prefix prefix (cond b (r rest >>= λ first. some_lines starts r n first.1 >>= λ more. Some (first.0 ∷ more.0, more.1)) (Some ([], rest)))) start
          ∙ ap (λ o. with_prefix prefix (o >>= λ first. some_lines starts r n first.1 >>= λ more. Some (first.0 ∷ more.0, more.1))) e

  pub all_lines : starts rest ≡ false → IsUnderWay starts r prefix rest all → all ≡ Some (prefix, rest)
  unfolding some_lines
  all_lines start way = by_most way.most way.so_far
    where
      by_most : (n : ℕ) → with_prefix prefix (some_lines starts r n rest) ≡ all → all ≡ Some (prefix, rest)
      by_most zero so_far =
          sym so_far ∙ ap (λ b. with_prefix prefix (cond b None (Some ([], rest)))) start ∙ ap (λ xs. Some (xs, rest)) (append-nil prefix)
      by_most (suc n) so_far =
          sym so_far
          ∙ ap (λ b. with_prefix prefix (cond b (r rest >>= λ first. some_lines starts r n first.1 >>= λ more. Some (first.0 ∷ more.0, more.1)) (Some ([], rest)))) start
          ∙ ap (λ xs. Some (xs, rest)) (append-nil prefix)

  -- what a fault in a line says of the lines
  pub faulty : (after : List ℕ) (e : PrintFault) → starts rest ≡ true → Takes (Err e) after (r rest) → IsUnderWay starts r prefix rest all → TakesItems {X = X} (Err e) after all
  faulty after faults.BadPrint start e way = no_line start e way
  faulty after faults.Memory start e way = tt
