-- Reading items one by one: what is read is derived, and no item is derived where the reading stops.
use Rattle.std.proofs.Common.{◌≡◌, ℕ, zero, suc, ◌<◌, ◌≤◌, max, Bool, true, false, List, [], ◌∷◌, ◌++◌, append_assoc, length, Option, Some, None, nat_le, refl, ap, sym, ◌∙◌, subst, arith}
use Rattle.std.proofs.lemmas.Bool.{false≢true}
use Rattle.std.proofs.lemmas.Bool.Decides.{nat_tests}
use Rattle.std.proofs.lemmas.List.{append-nil}
use Rattle.std.proofs.lemmas.Option.{same_Some, none-some}
use Rattle.dscript_lex.specs.declared.token.TokenKind.{TokenKind}
use Rattle.dscript_ast.specs.FileTree.{ItemTree}
use Rattle.dscript_grammar.specs.Language.{many}
use Rattle.dscript_grammar.specs.Reading.{Read, got, choose, pick}
use Rattle.dscript_grammar.specs.FileGrammar.{item_at}
use Rattle.dscript_grammar.specs.FileReading.{read_item, read_items, items_of, no_items, item_before}
use Rattle.dscript_grammar.proofs.Combinators.{many_not_longer}
use Rattle.dscript_grammar.proofs.FileSound.{item_sound}
use Rattle.dscript_grammar.proofs.FileComplete.{item_complete, item_consumes}

-- no item of this height is derived at the start of the tokens
abbrev pub NoItem : ℕ → List TokenKind → Type 0
NoItem depth ts = (i : ItemTree) (rest : List TokenKind) → item_at depth i ts rest → ⊥

-- either an item is read at the start of the tokens, or the reading stops there
data Turn (depth : ℕ) (ts : List TokenKind) : Type 0 where
  next : (i : Read ItemTree) → read_item depth ts ≡ Some i → i.height ≤ depth → Turn depth ts
  stop : NoItem depth ts → ((n : ℕ) → read_items depth n ts ≡ no_items ts) → Turn depth ts

-- the part of a reading that follows the first item, by what was read first
abbrev after_first : ℕ → ℕ → List TokenKind → Option (Read ItemTree) → Read (List ItemTree)
after_first depth n ts o =
    choose o (no_items ts) (λ i. pick (nat_le i.height depth) (item_before i (read_items depth n i.rest)) (no_items ts))

none_read : (depth : ℕ) (ts : List TokenKind) → read_item depth ts ≡ None → NoItem depth ts
none_read depth ts e i rest p =
    let r = item_complete depth depth (omega arith) i ts rest p in none-some _ (sym e ∙ r.is)

beyond_height : (depth : ℕ) (ts : List TokenKind) (i : Read ItemTree) → read_item depth ts ≡ Some i → nat_le i.height depth ≡ false → NoItem depth ts
beyond_height depth ts i e high j rest p =
    let r = item_complete depth depth (omega arith) j ts rest p in
    let low : i.height ≤ depth = subst (λ (x : Read ItemTree). x.height ≤ depth) (same_Some _ i (sym r.is ∙ e)) r.within in
    false≢true (sym high ∙ grind (arith, nat_tests, low))

stops_at_none : (depth : ℕ) (ts : List TokenKind) → read_item depth ts ≡ None → (n : ℕ) → read_items depth n ts ≡ no_items ts
unfolding read_items choose
stops_at_none depth ts e zero = refl
stops_at_none depth ts e (suc n) = ap (after_first depth n ts) e

stops_beyond_height : (depth : ℕ) (ts : List TokenKind) (i : Read ItemTree) → read_item depth ts ≡ Some i → nat_le i.height depth ≡ false → (n : ℕ) → read_items depth n ts ≡ no_items ts
unfolding read_items choose pick
stops_beyond_height depth ts i e high zero = refl
stops_beyond_height depth ts i e high (suc n) =
    ap (after_first depth n ts) e ∙ ap (λ b. pick b (item_before i (read_items depth n i.rest)) (no_items ts)) high

turn : (depth : ℕ) (ts : List TokenKind) → Turn depth ts
turn depth ts = by (read_item depth ts) refl
  where
    by_height : (i : Read ItemTree) → read_item depth ts ≡ Some i → (b : Bool) → nat_le i.height depth ≡ b → Turn depth ts
    by_height i e true low = next i e (grind (arith, nat_tests, low))
    by_height i e false high = stop (beyond_height depth ts i e high) (stops_beyond_height depth ts i e high)

    by : (o : Option (Read ItemTree)) → read_item depth ts ≡ o → Turn depth ts
    by None e = stop (none_read depth ts e) (stops_at_none depth ts e)
    by (Some i) e = by_height i e (nat_le i.height depth) refl

read_next : (depth n : ℕ) (ts : List TokenKind) (i : Read ItemTree) → read_item depth ts ≡ Some i → i.height ≤ depth → read_items depth (suc n) ts ≡ item_before i (read_items depth n i.rest)
unfolding read_items choose pick
read_next depth n ts i e low =
    let test : nat_le i.height depth ≡ true = grind (arith, nat_tests, low) in
    ap (after_first depth n ts) e ∙ ap (λ b. pick b (item_before i (read_items depth n i.rest)) (no_items ts)) test

item_shorter : (depth : ℕ) (ts : List TokenKind) (i : Read ItemTree) → read_item depth ts ≡ Some i → length i.rest < length ts
item_shorter depth ts i e = item_consumes i.height i.value ts i.rest ((item_sound depth ts).is i e i.height (omega arith))

-- What a reading of items says: its items are derived, none is higher than the depth, and no item is derived after them.
pub record Longest (depth : ℕ) (ts : List TokenKind) (read : Read (List ItemTree)) : Type 0 where
  pub within : read.height ≤ depth
  pub derived : (h : ℕ) → read.height ≤ h → many (item_at h) read.value ts read.rest
  pub none_after : NoItem depth read.rest

longest_stop : (depth : ℕ) (ts : List TokenKind) → NoItem depth ts → Longest depth ts (no_items ts)
longest_stop depth ts none = record { within = omega arith; derived = λ h l. refl; none_after = none }

longest_next : (depth : ℕ) (ts : List TokenKind) (i : Read ItemTree) (more : Read (List ItemTree)) → read_item depth ts ≡ Some i → i.height ≤ depth → Longest depth i.rest more → Longest depth ts (item_before i more)
longest_next depth ts i more e low p =
    record {
      within = omega (arith, low, p.within);
      derived = λ h l. (i.rest, (item_sound depth ts).is i e h (omega (arith, l)), p.derived h (omega (arith, l)));
      none_after = p.none_after;
    }

no_item_in_nothing : (depth : ℕ) (ts : List TokenKind) → length ts ≤ 0 → NoItem depth ts
no_item_in_nothing depth ts l i rest p = let k : length rest < length ts = item_consumes depth i ts rest p in omega (arith, l)

pub longest : (depth n : ℕ) (ts : List TokenKind) → length ts ≤ n → Longest depth ts (read_items depth n ts)
unfolding read_items
longest depth zero ts l = longest_stop depth ts (no_item_in_nothing depth ts l)
longest depth (suc n) ts l =
    elim (turn depth ts) [
      | next i e low ↦
          let shorter = item_shorter depth ts i e in
          subst (Longest depth ts) (sym (read_next depth n ts i e low)) (longest_next depth ts i (read_items depth n i.rest) e low (longest depth n i.rest (omega (arith, l, shorter))))
      | stop none is ↦ subst (Longest depth ts) (sym (is (suc n))) (longest_stop depth ts none)
    ]

pub items_shorter : (depth n : ℕ) (ts : List TokenKind) → length ts ≤ n → length (read_items depth n ts).rest ≤ length ts
items_shorter depth n ts l =
    let p = longest depth n ts l in
    many_not_longer (item_at depth) (item_consumes depth) (read_items depth n ts).value ts (read_items depth n ts).rest (p.derived depth p.within)

-- how many items a reading may give does not count where it is at least the number of tokens
pub read_enough : (depth n m : ℕ) (ts : List TokenKind) → length ts ≤ n → length ts ≤ m → read_items depth n ts ≡ read_items depth m ts
read_enough depth zero m ts l k =
    elim (turn depth ts) [ next i e low ↦ let shorter = item_shorter depth ts i e in absurd (omega (arith, l, shorter)) | stop none is ↦ is zero ∙ sym (is m) ]
read_enough depth (suc n) zero ts l k =
    elim (turn depth ts) [ next i e low ↦ let shorter = item_shorter depth ts i e in absurd (omega (arith, k, shorter)) | stop none is ↦ is (suc n) ∙ sym (is zero) ]
read_enough depth (suc n) (suc m) ts l k =
    elim (turn depth ts) [
      | next i e low ↦
          let shorter = item_shorter depth ts i e in
          read_next depth n ts i e low ∙ ap (item_before i) (read_enough depth n m i.rest (omega (arith, l, shorter)) (omega (arith, k, shorter))) ∙ sym (read_next depth m ts i e low)
      | stop none is ↦ is (suc n) ∙ sym (is (suc m))
    ]

-- one turn of a loop that reads items
pub items_next : (depth : ℕ) (ts : List TokenKind) (i : Read ItemTree) → read_item depth ts ≡ Some i → i.height ≤ depth → items_of depth ts ≡ item_before i (items_of depth i.rest)
items_next depth ts i e low =
    let shorter = item_shorter depth ts i e in
    read_enough depth (length ts) (suc (length ts)) ts (omega arith) (omega arith) ∙ read_next depth (length ts) ts i e low
    ∙ ap (item_before i) (read_enough depth (length ts) (length i.rest) i.rest (omega (arith, shorter)) (omega arith))

pub items_stop : (depth : ℕ) (ts : List TokenKind) → read_item depth ts ≡ None → items_of depth ts ≡ no_items ts
items_stop depth ts e = stops_at_none depth ts e (length ts)

pub no_items_in_nothing : (depth n : ℕ) → read_items depth n [] ≡ no_items []
no_items_in_nothing depth n =
    elim (turn depth []) [ next i e low ↦ let shorter = item_shorter depth [] i e in absurd (omega (arith, shorter)) | stop none is ↦ is n ]

-- items, and then those of a reading
abbrev pub items_before : List ItemTree → ℕ → Read (List ItemTree) → Read (List ItemTree)
items_before xs height more = record { value = xs ++ more.value; height = max height more.height; rest = more.rest }

-- a reading goes on after items that are derived at the start
pub record GoesOn (depth n h : ℕ) (ts : List TokenKind) (xs : List ItemTree) (rest : List TokenKind) : Type 0 where
  pub bound : ℕ
  pub enough : length rest ≤ bound
  pub height : ℕ
  pub within : height ≤ h
  pub is : read_items depth n ts ≡ items_before xs height (read_items depth bound rest)

goes_on_here : (depth n h : ℕ) (ts rest : List TokenKind) → ts ≡ rest → length ts ≤ n → GoesOn depth n h ts [] rest
goes_on_here depth n h ts rest e l =
    let r = read_items depth n ts in
    let zero_more : r.height ≡ max 0 r.height = omega arith in
    record {
      bound = n;
      enough = omega (arith, l, ap length e);
      height = 0;
      within = omega arith;
      is = ap (λ (k : ℕ). let x : Read (List ItemTree) = record { value = r.value; height = k; rest = r.rest } in x) zero_more ∙ ap (λ us. items_before [] 0 (read_items depth n us)) e;
    }

goes_on_after : (depth n h k : ℕ) (ts mid rest : List TokenKind) (a : ItemTree) (more : List ItemTree) → k ≤ h
    → read_items depth (suc n) ts ≡ item_before (record { value = a; height = k; rest = mid }) (read_items depth n mid) → GoesOn depth n h mid more rest → GoesOn depth (suc n) h ts (a ∷ more) rest
goes_on_after depth n h k ts mid rest a more low e c =
    let r = read_items depth c.bound rest in
    let assoc : max k (max c.height r.height) ≡ max (max k c.height) r.height = omega arith in
    record {
      bound = c.bound;
      enough = c.enough;
      height = max k c.height;
      within = omega (arith, low, c.within);
      is =
          e ∙ ap (item_before (record { value = a; height = k; rest = mid })) c.is
          ∙ ap (λ (j : ℕ). let x : Read (List ItemTree) = record { value = a ∷ (more ++ r.value); height = j; rest = r.rest } in x) assoc;
    }

pub goes_on : (depth n h : ℕ) → h ≤ depth → (xs : List ItemTree) (ts rest : List TokenKind) → many (item_at h) xs ts rest → length ts ≤ n → GoesOn depth n h ts xs rest
goes_on depth n h fits [] ts rest e l = goes_on_here depth n h ts rest e l
goes_on depth zero h fits (a ∷ more) ts rest (mid, p, q) l =
    let shorter : length mid < length ts = item_consumes h a ts mid p in absurd (omega (arith, l, shorter))
goes_on depth (suc n) h fits (a ∷ more) ts rest (mid, p, q) l =
    let r = item_complete depth h fits a ts mid p in
    let shorter : length mid < length ts = item_consumes h a ts mid p in
    goes_on_after depth n h r.height ts mid rest a more r.within
    (read_next depth n ts (record { value = a; height = r.height; rest = mid }) r.is (omega (arith, fits, r.within)))
    (goes_on depth n h fits more mid rest q (omega (arith, l, shorter)))

-- A loop over items keeps `items_of depth ts ≡ items_before xs height (items_of depth rest)`, where xs are the items so
-- far and rest the tokens after them. These are its beginning, its turn and its two ends.
pub loop_begins : (depth : ℕ) (ts : List TokenKind) → items_of depth ts ≡ items_before [] 0 (items_of depth ts)
loop_begins depth ts =
    let r = items_of depth ts in
    let zero_more : r.height ≡ max 0 r.height = omega arith in
    ap (λ (k : ℕ). let x : Read (List ItemTree) = record { value = r.value; height = k; rest = r.rest } in x) zero_more

pub loop_turns : (depth : ℕ) (ts mid rest : List TokenKind) (xs : List ItemTree) (height : ℕ) (a : ItemTree) (k : ℕ) → items_of depth ts ≡ items_before xs height (items_of depth mid)
    → read_item depth mid ≡ got a k rest → k ≤ depth → items_of depth ts ≡ items_before (xs ++ a ∷ []) (max height k) (items_of depth rest)
loop_turns depth ts mid rest xs height a k so_far e low =
    let r = items_of depth rest in
    let assoc : max height (max k r.height) ≡ max (max height k) r.height = omega arith in
    so_far ∙ ap (items_before xs height) (items_next depth mid (record { value = a; height = k; rest = rest }) e low)
    ∙ ap (λ (j : ℕ). let x : Read (List ItemTree) = record { value = xs ++ a ∷ r.value; height = j; rest = r.rest } in x) assoc
    ∙ ap (λ (ys : List ItemTree). let x : Read (List ItemTree) = record { value = ys; height = max (max height k) r.height; rest = r.rest } in x) (sym (append_assoc xs (a ∷ []) r.value))

nothing_before : (xs : List ItemTree) (height : ℕ) (rest : List TokenKind) → items_before xs height (no_items rest) ≡ record { value = xs; height = height; rest = rest }
nothing_before xs height rest =
    let no_more : max height 0 ≡ height = omega arith in
    ap (λ (ys : List ItemTree). let x : Read (List ItemTree) = record { value = ys; height = max height 0; rest = rest } in x) (append-nil xs)
    ∙ ap (λ (k : ℕ). let x : Read (List ItemTree) = record { value = xs; height = k; rest = rest } in x) no_more

pub loop_fails : (depth : ℕ) (ts rest : List TokenKind) (xs : List ItemTree) (height : ℕ) → items_of depth ts ≡ items_before xs height (items_of depth rest)
    → read_item depth rest ≡ None → items_of depth ts ≡ record { value = xs; height = height; rest = rest }
loop_fails depth ts rest xs height so_far e = so_far ∙ ap (items_before xs height) (items_stop depth rest e) ∙ nothing_before xs height rest

pub loop_ends : (depth : ℕ) (ts : List TokenKind) (xs : List ItemTree) (height : ℕ) → items_of depth ts ≡ items_before xs height (items_of depth [])
    → items_of depth ts ≡ record { value = xs; height = height; rest = [] }
loop_ends depth ts xs height so_far = so_far ∙ ap (items_before xs height) (no_items_in_nothing depth 0) ∙ nothing_before xs height []
