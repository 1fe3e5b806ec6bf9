-- What is held after changes of other names, and after changes that put nothing under a name.
use Rattle.std.proofs.Common.{◌≡◌, ◌⊎◌, ℕ, Bool, true, false, cond, List, [], ◌∷◌, ◌++◌, map, Option, Some, None, refl, sym, ap, subst, ◌∙◌, inl, inr}
use Rattle.std.specs.FinMap.{get, get-insert, get-remove, insert, remove}
use Rattle.std.specs.List.{AllByRecursion}
use Rattle.std.specs.Ordering.{eq_by_cmp, nat_cmp}
use Rattle.std.specs.Cmp.Lexicographic.{nat_list_cmp_total, slice_cmp}
use Rattle.std.proofs.lemmas.Cmp.{eq_by_cmp_equiv}
use Rattle.bx_tree.specs.Members.{Has}
use Rattle.bx_tree.proofs.Lists.{all_weaker}
use Rattle.bx_tree.proofs.Members.{has_front}
use Rattle.bx_io.specs.Holdings.{Change, Drop, Holdings, IsPrefix, Put, changed, holdings_after, name_of}
use Rattle.two_phase_meaning.proofs.Puts.{same_name}
use Rattle.cache_care.specs.Planning.{IsDrop}

-- ## Changes of other names

unchosen : {X : Type 0} (b : Bool) (x y : X) → (b ≡ true → ⊥) → cond b x y ≡ y
unchosen true x y none = absurd (none refl)
unchosen false x y none = refl

pub after_other : (S : Holdings) (change : Change) (q : List ℕ) → (q ≡ name_of change → ⊥) → get (changed S change) q ≡ get S q
after_other S (Put name bytes) q other =
    get-insert nat_list_cmp_total S name bytes q
    ∙ unchosen (eq_by_cmp (slice_cmp nat_cmp) q name) (Some bytes) (get S q) (λ e. other (same_name q name e))
after_other S (Drop name) q other =
    get-remove nat_list_cmp_total S name q
    ∙ unchosen (eq_by_cmp (slice_cmp nat_cmp) q name) None (get S q) (λ e. other (same_name q name e))

pub after_others : (S : Holdings) (changes : List Change) (q : List ℕ) → ((c : Change) → Has changes c → q ≡ name_of c → ⊥)
    → get (holdings_after S changes) q ≡ get S q
after_others S [] q none = refl
after_others S (c ∷ changes) q none =
    after_others (changed S c) changes q (λ d h. none d (inr h)) ∙ after_other S c q (none c (inl refl))

-- ## Changes that put nothing there

-- the change puts nothing under this name
abbrev pub PutsNone : List ℕ → Change → Type 0
PutsNone q (Put name bytes) = q ≡ name → ⊥
PutsNone q (Drop name) = Unit {0}

none_left : (b : Bool) (o : Option (List ℕ)) → o ≡ None → cond b None o ≡ None
none_left true o e = refl
none_left false o e = e

-- what is not there is not there after changes that do not put it
pub none_after : (S : Holdings) (changes : List Change) (q : List ℕ) → AllByRecursion (PutsNone q) changes → get S q ≡ None
    → get (holdings_after S changes) q ≡ None
none_after S [] q none e = e
none_after S (Put name bytes ∷ changes) q none e =
    none_after (insert S name bytes) changes q none.1 (after_other S (Put name bytes) q none.0 ∙ e)
none_after S (Drop name ∷ changes) q none e =
    none_after (remove S name) changes q none.1
    (get-remove nat_list_cmp_total S name q ∙ none_left (eq_by_cmp (slice_cmp nat_cmp) q name) (get S q) e)

pub name_itself : (name : List ℕ) → eq_by_cmp (slice_cmp nat_cmp) name name ≡ true
name_itself name = (eq_by_cmp_equiv nat_list_cmp_total).refl name

-- a name that is dropped and not put is not there afterwards
pub dropped_after : (S : Holdings) (changes : List Change) (q : List ℕ) → AllByRecursion (PutsNone q) changes → Has changes (Drop q)
    → get (holdings_after S changes) q ≡ None
dropped_after S [] q none h = absurd h
dropped_after S (c ∷ changes) q none h = elim h [
  | inl e ↦
      subst (λ (d : Change). get (holdings_after (changed S d) changes) q ≡ None) (sym e)
      (none_after (remove S q) changes q none.1
      (get-remove nat_list_cmp_total S q q ∙ ap (λ b. cond b None (get S q)) (name_itself q)))
  | inr k ↦ dropped_after (changed S c) changes q none.1 k
]

kept_some : (b : Bool) (o : Option (List ℕ)) (x : List ℕ) → cond b None o ≡ Some x → o ≡ Some x
kept_some true o x e = absurd cc
kept_some false o x e = e

-- what is there after changes that do not put it was there before
pub there_before : (S : Holdings) (changes : List Change) (q x : List ℕ) → AllByRecursion (PutsNone q) changes
    → get (holdings_after S changes) q ≡ Some x → get S q ≡ Some x
there_before S [] q x none e = e
there_before S (Put name bytes ∷ changes) q x none e =
    sym (after_other S (Put name bytes) q none.0) ∙ there_before (insert S name bytes) changes q x none.1 e
there_before S (Drop name ∷ changes) q x none e =
    kept_some (eq_by_cmp (slice_cmp nat_cmp) q name) (get S q) x
    (sym (get-remove nat_list_cmp_total S name q) ∙ there_before (remove S name) changes q x none.1 e)

drop_puts_none : (q : List ℕ) (c : Change) → IsDrop c → PutsNone q c
drop_puts_none q (Put name bytes) h = absurd h
drop_puts_none q (Drop name) h = tt

pub drops_put_none : (q : List ℕ) (changes : List Change) → AllByRecursion IsDrop changes → AllByRecursion (PutsNone q) changes
drops_put_none q changes h = all_weaker IsDrop (PutsNone q) (drop_puts_none q) changes h

-- ## Prefixes

pub has_in_whole : (made changes : List Change) → IsPrefix made changes → (c : Change) → Has made c → Has changes c
has_in_whole made changes p c h = subst (λ (cs : List Change). Has cs c) p.joined (has_front made p.rest c h)

front_drops : (made rest : List Change) → AllByRecursion IsDrop (made ++ rest) → AllByRecursion IsDrop made
front_drops [] rest h = tt
front_drops (c ∷ made) rest h = (h.0, front_drops made rest h.1)

pub prefix_drops : (made changes : List Change) → IsPrefix made changes → AllByRecursion IsDrop changes → AllByRecursion IsDrop made
prefix_drops made changes p h = front_drops made p.rest (subst (AllByRecursion IsDrop) (sym p.joined) h)

pub all_drops : (names : List (List ℕ)) → AllByRecursion IsDrop (map Drop names)
all_drops [] = tt
all_drops (name ∷ names) = (tt, all_drops names)

pub drops_both : (first next : List Change) → AllByRecursion IsDrop first → AllByRecursion IsDrop next → AllByRecursion IsDrop (first ++ next)
drops_both [] next h k = k
drops_both (c ∷ first) next h k = (h.0, drops_both first next h.1 k)

-- a drop that is planned is of one of the names
pub drop_of : (names : List (List ℕ)) (c : Change) → Has (map Drop names) c → Has names (name_of c)
drop_of [] c h = absurd h
drop_of (name ∷ names) c h = elim h [
  | inl e ↦ inl (ap name_of e)
  | inr k ↦ inr (drop_of names c k)
]
