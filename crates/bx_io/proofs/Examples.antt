-- Worked examples of changes, of their prefixes and of counts.
use Rattle.std.proofs.Common.{◌≡◌, ◌∙◌, ℕ, false, true, List, [], ◌∷◌, Some, None, codes, refl, ap, arith, rules}
use Rattle.std.specs.FinMap.{empty, get, gets}
use Rattle.bx_io.specs.Causes.{Rose, last_count}
use Rattle.bx_io.specs.Holdings.{Holdings, Put, Drop, holdings_after, after_told, Keeps, Makes, IsPrefix, opened}
use Rattle.bx_io.specs.Told.{Stays}
use Rattle.bx_io.proofs.Mapped.{same_holdings}

abbrev a : List ℕ
a = codes "b/0a"

abbrev b : List ℕ
b = codes "b/0b"

abbrev one : List ℕ
one = 1 ∷ []

abbrev two : List ℕ
two = 2 ∷ []

abbrev none : Holdings
none = empty

no_change : holdings_after none [] ≡ none
no_change = refl

put_is_held : get (holdings_after none (Put a one ∷ [])) a ≡ Some one
put_is_held = grind (gets, rules)

others_are_not : get (holdings_after none (Put a one ∷ [])) b ≡ None
others_are_not = grind (gets, rules)

later_put_counts : get (holdings_after none (Put a one ∷ Put a two ∷ [])) a ≡ Some two
later_put_counts = grind (gets, rules)

dropped_is_gone : get (holdings_after none (Put a one ∷ Drop a ∷ [])) a ≡ None
dropped_is_gone = grind (gets, rules)

put_after_drop : get (holdings_after none (Drop a ∷ Put a one ∷ [])) a ≡ Some one
put_after_drop = grind (gets, rules)

drop_of_nothing : holdings_after none (Drop a ∷ []) ≡ none
drop_of_nothing = same_holdings (holdings_after none (Drop a ∷ [])) none (λ q. grind (gets, rules))

drop_leaves_others : get (holdings_after none (Put a one ∷ Put b two ∷ Drop a ∷ [])) b ≡ Some two
drop_leaves_others = grind (gets, rules)

other_name_stays : get (holdings_after none (Put b two ∷ Put a one ∷ [])) b ≡ Some two
other_name_stays = grind (gets, rules)

-- a store that tells is told with its change
told_with_change : after_told (Some none) (Drop a ∷ []) ≡ Some none
told_with_change = ap Some drop_of_nothing

-- what is not told is not told after a change
nothing_is_told : after_told None (Put a one ∷ []) ≡ None
nothing_is_told = refl

-- what is told now was told before
told_was_told : Stays (Some none) (Some none)
told_was_told = λ held h. h

-- what was lost does not come back
lost_stays_lost : Stays None (Some none) → ⊥
lost_stays_lost stays = let back : None ≡ Some none = stays none refl in cc

-- anything may be lost
all_may_be_lost : Stays (Some none) None
all_may_be_lost = λ held h. absurd (cc)

-- a change that changes nothing is listed too
listed_anyway : Makes (record { held = Some none; changes = Put b two ∷ []; alone = false }) (Drop a ∷ []) (record { held = Some none; changes = Put b two ∷ Drop a ∷ []; alone = false })
listed_anyway = record { held = λ held h. told_with_change ∙ h; changes = refl; alone = λ alone. alone }

-- the changes are known where nothing is told any more
changes_without_telling : Makes (opened none) (Put a one ∷ []) (record { held = None; changes = Put a one ∷ []; alone = false })
changes_without_telling = record { held = λ held h. absurd (cc); changes = refl; alone = λ alone. alone }

-- a change that was made cannot be left out of the list
forgets_a_drop : Makes (opened none) (Drop a ∷ []) (opened none) → ⊥
forgets_a_drop makes = let none_listed : [] ≡ Drop a ∷ [] = makes.changes in cc

-- a store that works alone goes on to
ends_alone : Keeps (record { held = Some none; changes = []; alone = true }) (opened none) → ⊥
ends_alone keeps = let alone : false ≡ true = keeps.alone refl in cc

-- and one that did not may begin to
begins_alone : Keeps (opened none) (record { held = Some none; changes = []; alone = true })
begins_alone = record { held = λ held h. h; changes = refl; alone = λ alone. refl }

first_is_prefix : IsPrefix (Put a one ∷ []) (Put a one ∷ Put b two ∷ [])
first_is_prefix = record { rest = Put b two ∷ []; joined = refl }

none_is_prefix : IsPrefix [] (Put a one ∷ [])
none_is_prefix = record { rest = Put a one ∷ []; joined = refl }

all_is_prefix : IsPrefix (Put a one ∷ []) (Put a one ∷ [])
all_is_prefix = record { rest = []; joined = refl }

second_is_no_prefix : IsPrefix (Put b two ∷ []) (Put a one ∷ Put b two ∷ []) → ⊥
second_is_no_prefix prefix =
    let joined : Put b two ∷ prefix.rest ≡ Put a one ∷ Put b two ∷ [] = prefix.joined in
    cc

rises_by_one : Rose 0 1
rises_by_one = omega arith

stays_below : Rose 1 1 → ⊥
stays_below rose = omega (arith, rose)

last_counts_as_risen : Rose last_count last_count
last_counts_as_risen = omega arith
