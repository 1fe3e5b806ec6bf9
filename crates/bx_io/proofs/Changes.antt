-- Lists of changes: made one list after another, cut off, and what they keep.
use Rattle.std.proofs.Common.{◌≡◌, ℕ, ◌+◌, ◌<◌, ◌≤◌, Bool, true, false, cond, List, [], ◌∷◌, ◌++◌, Option, Some, None, Result, Ok, Err, refl, sym, ap, subst, ◌∙◌, append_assoc, append-nil, arith}
use Rattle.std.specs.Prelude.{All, OnOk}
use Rattle.std.specs.Ordering.{nat_cmp, eq_by_cmp}
use Rattle.std.specs.Cmp.{Equal-is}
use Rattle.std.specs.Cmp.Lexicographic.{slice_cmp, nat_list_cmp_total}
use Rattle.std.specs.FinMap.{get, get-insert, get-remove, slice_cmp-IsAntisymmetric, nat_cmp-IsAntisymmetric}
use Rattle.std.proofs.lemmas.List.Elements.{All-head, All-tail}
use Rattle.bx_io.specs.Causes.{Rose, last_count}
use Rattle.bx_io.specs.Names.{IsName}
use Rattle.bx_io.specs.Told.{Stays}
use Rattle.bx_io.specs.Holdings.{Holdings, AreNames, Change, Put, Drop, changed, holdings_after, name_of, StoreState, state_after, StoreTold, told_of, held_in, after_told, Makes, Keeps, MakesPrefix, IsPrefix}

pub after-append : (held : Holdings) (first next : List Change) → holdings_after held (first ++ next) ≡ holdings_after (holdings_after held first) next
after-append held [] next = refl
after-append held (change ∷ first) next = after-append (changed held change) first next

-- what is told after two lists of changes
pub after_told-append : (told : Option Holdings) (first next : List Change) → after_told told (first ++ next) ≡ after_told (after_told told first) next
after_told-append None first next = refl
after_told-append (Some held) first next = ap Some (after-append held first next)

pub after_told-nil : (told : Option Holdings) → after_told told [] ≡ told
after_told-nil None = refl
after_told-nil (Some held) = refl

-- what is told after changes was told before them
pub after_told-some : (told : Option Holdings) (made : List Change) (now : Holdings) → after_told told made ≡ Some now
    → (held : Holdings) × (told ≡ Some held) × (holdings_after held made ≡ now)
after_told-some None made now h = absurd (cc)
after_told-some (Some held) made now h = (held, refl, cc)

pub after_told-stays : (before between : Option Holdings) (made : List Change) → Stays before between → Stays (after_told before made) (after_told between made)
after_told-stays before between made stays = λ now h.
    let from = after_told-some between made now h in
    let was : before ≡ Some from.0 = stays from.0 from.1 in
    ap (λ (told : Option Holdings). after_told told made) was ∙ ap Some from.2

-- ## Stores

pub keeps_all : (known : StoreTold) → Keeps known known
keeps_all known = record { held = λ held h. h; changes = refl; alone = λ alone. alone }

pub keeps_on : (before between now : StoreTold) → Keeps before between → Keeps between now → Keeps before now
keeps_on before between now first next = record {
  held = λ held h. first.held held (next.held held h);
  changes = next.changes ∙ first.changes;
  alone = λ alone. next.alone (first.alone alone);
}

-- no change was made
pub makes_none : (before now : StoreTold) → Keeps before now → Makes before [] now
makes_none before now keeps = record {
  held = λ held h. after_told-nil before.held ∙ keeps.held held h;
  changes = keeps.changes ∙ sym (append-nil before.changes);
  alone = keeps.alone;
}

pub keeps_none : (before now : StoreTold) → Makes before [] now → Keeps before now
keeps_none before now makes = record {
  held = λ held h. sym (after_told-nil before.held) ∙ makes.held held h;
  changes = makes.changes ∙ append-nil before.changes;
  alone = makes.alone;
}

pub makes_both : (before between now : StoreTold) (first next : List Change) → Makes before first between → Makes between next now
    → Makes before (first ++ next) now
makes_both before between now first next one other = record {
  held = λ held h.
      let told = after_told-stays (after_told before.held first) between.held next one.held held (other.held held h) in
      after_told-append before.held first next ∙ told;
  changes = other.changes ∙ ap (λ changes. changes ++ next) one.changes ∙ append_assoc before.changes first next;
  alone = λ alone. other.alone (one.alone alone);
}

pub keeps_makes : (before between now : StoreTold) (made : List Change) → Keeps before between → Makes between made now → Makes before made now
keeps_makes before between now made keeps makes = record {
  held = λ held h. after_told-stays before.held between.held made keeps.held held (makes.held held h);
  changes = makes.changes ∙ ap (λ changes. changes ++ made) keeps.changes;
  alone = λ alone. makes.alone (keeps.alone alone);
}

pub makes_keeps : (before between now : StoreTold) (made : List Change) → Makes before made between → Keeps between now → Makes before made now
makes_keeps before between now made makes keeps = record {
  held = λ held h. makes.held held (keeps.held held h);
  changes = keeps.changes ∙ makes.changes;
  alone = λ alone. keeps.alone (makes.alone alone);
}

-- what is still told after changes was told before them, with the changes
pub makes_some : (before now : StoreTold) (made : List Change) (held : Holdings) → Makes before made now → held_in now ≡ Some held
    → (first : Holdings) × (held_in before ≡ Some first) × (holdings_after first made ≡ held)
makes_some before now made held makes h = after_told-some before.held made held (makes.held held h)

-- what is told after changes, where what was told before them is this
pub told_after : (before now : StoreTold) (made : List Change) (held last : Holdings) → held_in before ≡ Some held → held_in now ≡ Some last → Makes before made now
    → held_in now ≡ Some (holdings_after held made)
told_after before now made held last was is makes = is ∙ sym (makes.held last is) ∙ ap (λ (told : Option Holdings). after_told told made) was

-- one put, of a name and of bytes that are these
pub makes_put : (before now : StoreTold) (name other bytes same : List ℕ) → name ≡ other → bytes ≡ same → Makes before (Put name bytes ∷ []) now
    → Makes before (Put other same ∷ []) now
makes_put before now name other bytes same named are makes =
    subst (λ (n : List ℕ). Makes before (Put n same ∷ []) now) named (subst (λ (b : List ℕ). Makes before (Put name b ∷ []) now) are makes)

-- as a call answers it
pub made_put : {X E : Type 0} (r : Result X E) (before now : StoreTold) (name other bytes same : List ℕ) → name ≡ other → bytes ≡ same
    → OnOk r (Makes before (Put name bytes ∷ []) now) → OnOk r (Makes before (Put other same ∷ []) now)
made_put (Ok x) before now name other bytes same named are makes = makes_put before now name other bytes same named are makes
made_put (Err e) before now name other bytes same named are makes = tt

-- a store in memory after a list of changes
pub makes_state : (kept : StoreState) (made : List Change) → Makes (told_of kept) made (told_of (state_after kept made))
makes_state kept made = record { held = λ held h. h; changes = refl; alone = λ alone. alone }

pub makes_state_is : (kept now : StoreState) (made : List Change) → now ≡ state_after kept made → Makes (told_of kept) made (told_of now)
makes_state_is kept now made is = subst (λ (n : StoreState). Makes (told_of kept) made (told_of n)) (sym is) (makes_state kept made)

pub keeps_state_is : (kept now : StoreState) → now ≡ kept → Keeps (told_of kept) (told_of now)
keeps_state_is kept now is = subst (λ (n : StoreState). Keeps (told_of kept) (told_of n)) (sym is) (keeps_all (told_of kept))

-- a name that is found after a change was found before or is the change's name

one_name : (q name : List ℕ) → eq_by_cmp (slice_cmp nat_cmp) q name ≡ true → IsName name → IsName q
one_name q name here named =
    subst IsName (sym (slice_cmp-IsAntisymmetric nat_cmp-IsAntisymmetric q name ((Equal-is (slice_cmp nat_cmp q name)).0 here))) named

found_after : (b : Bool) (q name bytes : List ℕ) (put held : Option (List ℕ)) → eq_by_cmp (slice_cmp nat_cmp) q name ≡ b → IsName name → (held ≡ Some bytes → IsName q)
    → cond b put held ≡ Some bytes → IsName q
found_after true q name bytes put held here named before found = one_name q name here named
found_after false q name bytes put held other named before found = before found

names-changed : (held : Holdings) (change : Change) → AreNames held → IsName (name_of change) → AreNames (changed held change)
names-changed held (Put name bytes) names named = record {
  each = λ q found is.
      found_after (eq_by_cmp (slice_cmp nat_cmp) q name) q name found (Some bytes) (get held q) refl named (names.each q found)
      (sym (get-insert nat_list_cmp_total held name bytes q) ∙ is);
}
names-changed held (Drop name) names named = record {
  each = λ q found is.
      found_after (eq_by_cmp (slice_cmp nat_cmp) q name) q name found None (get held q) refl named (names.each q found)
      (sym (get-remove nat_list_cmp_total held name q) ∙ is);
}

pub names-after : (held : Holdings) (changes : List Change) → AreNames held → All (λ change. IsName (name_of change)) changes → AreNames (holdings_after held changes)
names-after held [] names named = names
names-after held (change ∷ changes) names named =
    names-after (changed held change) changes
    (names-changed held change names (All-head (λ c. IsName (name_of c)) change changes named)) (All-tail (λ c. IsName (name_of c)) change changes named)

-- changes that were cut off in the first list, or in the next one once the first was made, are a prefix of both lists

pub prefix_of_first : (before now : StoreTold) (first next : List Change) → MakesPrefix before now first → MakesPrefix before now (first ++ next)
prefix_of_first before now first next made = record {
  made = made.made;
  first = record {
    rest = made.first.rest ++ next;
    joined = sym (append_assoc made.made made.first.rest next) ∙ ap (λ changes. changes ++ next) made.first.joined;
  };
  makes = made.makes;
}

pub prefix_of_next : (before between now : StoreTold) (first next : List Change) → Makes before first between → MakesPrefix between now next → MakesPrefix before now (first ++ next)
prefix_of_next before between now first next done made = record {
  made = first ++ made.made;
  first = record {
    rest = made.first.rest;
    joined = append_assoc first made.made made.first.rest ∙ ap (λ changes. first ++ changes) made.first.joined;
  };
  makes = makes_both before between now first made.made done made.makes;
}

-- a count that can still rise rose by one at least
pub rose_by_one : (before now : ℕ) → Rose before now → now < last_count → before + 1 ≤ now
rose_by_one before now rose below = omega (arith, rose, below)

-- only no changes at all come before no changes
pub nothing_before : (start : List Change) → IsPrefix start [] → start ≡ []
nothing_before [] p = refl
nothing_before (c ∷ cs) p = let joined : c ∷ (cs ++ p.rest) ≡ [] = p.joined in absurd cc
