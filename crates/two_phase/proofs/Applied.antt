-- Changes that are made one after another, but for those that would change nothing.
use Rattle.std.proofs.Common.{◌≡◌, ℕ, ◌<◌, ◌≤◌, ◌+◌, append-nil, append_assoc, List, [], ◌∷◌, ◌++◌, map, take, drop, length, get_or, Some, Result, Ok, Err, refl, sym, ap, ◌∙◌, subst, inl, inr}
use Rattle.std.specs.Prelude.{OnOk, OnErr}
use Rattle.std.proofs.lemmas.List.{map-append, take_all, take_more, take-append-drop}
use Rattle.bx_io.specs.Holdings.{Change, Holdings, IsPrefix, Keeps, Makes, StoreTold, changed, held_in, holdings_after}
use Rattle.bx_io.specs.declared.keeper.PutFault.{PutFault}
use Rattle.bx_io.proofs.Changes.{keeps_all, keeps_makes, keeps_on, makes_both, makes_none, makes_some, nothing_before, told_after}
use Rattle.content_store.specs.Contents.{blob_put}
use Rattle.two_phase.specs.Applying.{Applies, AppliesAll, AppliesPrefix}

-- ## Steps

pub none_applied : (before now : StoreTold) (all : List Change) → Keeps before now → AppliesPrefix before now all
none_applied before now all keeps = record { first = []; is_first = record { rest = all; joined = refl }; applies = keeps }

pub one_applied : (before now : StoreTold) (change : Change) → Applies before change now → AppliesAll before (change ∷ []) now
one_applied before now change step = (now, step, keeps_all now)

-- a call that changed nothing comes before a step
keeps_applies : (before between now : StoreTold) (change : Change) → Keeps before between → Applies between change now → Applies before change now
keeps_applies before between now change keeps step = elim step [
  | inl makes ↦ inl (keeps_makes before between now (change ∷ []) keeps makes)
  | inr left ↦ inr (keeps_on before between now keeps left.0, left.1)
]

-- or before all steps, or after them
pub keeps_then_all : (all : List Change) (before between now : StoreTold) → Keeps before between → AppliesAll between all now → AppliesAll before all now
keeps_then_all [] before between now keeps done = keeps_on before between now keeps done
keeps_then_all (c ∷ cs) before between now keeps done = (done.0, keeps_applies before between done.0 c keeps done.1, done.2)

all_then_keeps : (all : List Change) (before between now : StoreTold) → AppliesAll before all between → Keeps between now → AppliesAll before all now
all_then_keeps [] before between now done keeps = keeps_on before between now done keeps
all_then_keeps (c ∷ cs) before between now done keeps = (done.0, done.1, all_then_keeps cs done.0 between now done.2 keeps)

-- both steps were made
pub both : (first next : List Change) (before between now : StoreTold) → AppliesAll before first between → AppliesAll between next now
    → AppliesAll before (first ++ next) now
both [] next before between now done more = keeps_then_all next before between now done more
both (c ∷ cs) next before between now done more = (done.0, done.1, both cs next done.0 between now done.2 more)

pub all_applied : (before now : StoreTold) (all more : List Change) → AppliesAll before all now → AppliesPrefix before now (all ++ more)
all_applied before now all more done = record { first = all; is_first = record { rest = more; joined = refl }; applies = done }

-- the next step was refused
pub all_but_next : (before between now : StoreTold) (all more : List Change) → AppliesAll before all between → Keeps between now → AppliesPrefix before now (all ++ more)
all_but_next before between now all more done refused =
    all_applied before now all more (all_then_keeps all before between now done refused)

pub whole_applied : (before now : StoreTold) (all : List Change) → AppliesAll before all now → AppliesPrefix before now all
whole_applied before now all done = record { first = all; is_first = record { rest = []; joined = append-nil all }; applies = done }

-- the first step was made in part
pub in_first : (before now : StoreTold) (first next : List Change) → AppliesPrefix before now first → AppliesPrefix before now (first ++ next)
in_first before now first next p = record {
  first = p.first;
  is_first = record {
    rest = p.is_first.rest ++ next;
    joined = sym (append_assoc p.first p.is_first.rest next) ∙ ap (λ cs. cs ++ next) p.is_first.joined;
  };
  applies = p.applies;
}

-- the first step was made, and the next in part
pub in_next : (before between now : StoreTold) (first next : List Change) → AppliesAll before first between → AppliesPrefix between now next
    → AppliesPrefix before now (first ++ next)
in_next before between now first next done p = record {
  first = first ++ p.first;
  is_first = record {
    rest = p.is_first.rest;
    joined = append_assoc first p.first p.is_first.rest ∙ ap (λ cs. first ++ cs) p.is_first.joined;
  };
  applies = both first p.first before between now done p.applies;
}

-- the last step as a call answers it
pub then : (first next : List Change) (before between now : StoreTold) (r : Result (Unit {0}) PutFault) → AppliesAll before first between
    → OnOk r (AppliesAll between next now) → OnOk r (AppliesAll before (first ++ next) now)
then first next before between now (Ok x) done last = both first next before between now done last
then first next before between now (Err e) done last = tt

-- a change as a call answers it
pub made : (before now : StoreTold) (change : Change) (r : Result (Unit {0}) PutFault) → OnOk r (Makes before (change ∷ []) now)
    → OnOk r (AppliesAll before (change ∷ []) now)
made before now change (Ok x) done = (now, inl done, keeps_all now)
made before now change (Err e) done = tt

pub made_or_not : (before now : StoreTold) (change : Change) (r : Result (Unit {0}) PutFault) → OnOk r (Makes before (change ∷ []) now) → OnErr r (Keeps before now)
    → AppliesPrefix before now (change ∷ [])
made_or_not before now change (Ok x) done refused = all_applied before now (change ∷ []) [] (now, inl done, keeps_all now)
made_or_not before now change (Err e) done refused = none_applied before now (change ∷ []) refused

-- ## Contents

-- one content more
pub blob_more : (start before now : StoreTold) (contents : List (List ℕ)) (i : ℕ) (x : List ℕ) → i < length contents → x ≡ get_or contents i x
    → AppliesAll start (map blob_put (take i contents)) before → Applies before (blob_put x) now
    → AppliesAll start (map blob_put (take (i + 1) contents)) now
blob_more start before now contents i x l is so_far put =
    let more : take (i + 1) contents ≡ take i contents ++ x ∷ [] = take_more contents i x l ∙ ap (λ y. take i contents ++ y ∷ []) (sym is) in
    subst (λ (cs : List Change). AppliesAll start cs now) (sym (ap (map blob_put) more ∙ map-append blob_put (take i contents) (x ∷ [])))
    (both (map blob_put (take i contents)) (blob_put x ∷ []) start before now so_far (now, put, keeps_all now))

-- a put that was refused leaves those before it
pub blobs_cut : (start before now : StoreTold) (contents : List (List ℕ)) (i : ℕ) → AppliesAll start (map blob_put (take i contents)) before → Keeps before now
    → AppliesPrefix start now (map blob_put contents)
blobs_cut start before now contents i so_far refused = record {
  first = map blob_put (take i contents);
  is_first = record {
    rest = map blob_put (drop i contents);
    joined = sym (map-append blob_put (take i contents) (drop i contents)) ∙ ap (map blob_put) (take-append-drop i contents);
  };
  applies = all_then_keeps (map blob_put (take i contents)) start before now so_far refused;
}

pub blobs_whole : (start now : StoreTold) (contents : List (List ℕ)) (i : ℕ) → length contents ≤ i → AppliesAll start (map blob_put (take i contents)) now
    → AppliesAll start (map blob_put contents) now
blobs_whole start now contents i l so_far = subst (λ (cs : List (List ℕ)). AppliesAll start (map blob_put cs) now) (take_all i contents l) so_far

-- ## What was made

-- a prefix leads to what a prefix of all leads to
abbrev pub LeadsBack : Holdings → List Change → List Change → Type 0
LeadsBack S start all = (first : List Change) × IsPrefix first all × (holdings_after S start ≡ holdings_after S first)

-- What was made leads to what all would lead to, and each of its prefixes to what a prefix of all leads to.
pub record Made (held : Holdings) (before : StoreTold) (all : List Change) (now : StoreTold) : Type 0 where
  pub made : List Change
  pub makes : Makes before made now
  pub same : holdings_after held made ≡ holdings_after held all
  pub along : (start : List Change) → IsPrefix start made → LeadsBack held start all

one_along : (c : Change) (cs made : List Change) (S : Holdings) → ((start : List Change) → IsPrefix start made → LeadsBack (changed S c) start cs)
    → (start : List Change) → IsPrefix start (c ∷ made) → LeadsBack S start (c ∷ cs)
one_along c cs made S along [] p = ([], record { rest = c ∷ cs; joined = refl }, refl)
one_along c cs made S along (d ∷ ds) p =
    let joined : d ∷ (ds ++ p.rest) ≡ c ∷ made = p.joined in
    let head : d ≡ c = cc in
    let tail : ds ++ p.rest ≡ made = cc in
    let more = along ds (record { rest = p.rest; joined = tail }) in (
      c ∷ more.0,
      record { rest = more.1.rest; joined = ap (λ xs. c ∷ xs) more.1.joined },
      ap (λ (e : Change). holdings_after (changed S e) ds) head ∙ more.2,
    )

none_along : (c : Change) (cs made : List Change) (S : Holdings) → changed S c ≡ S → ((start : List Change) → IsPrefix start made → LeadsBack S start cs)
    → (start : List Change) → IsPrefix start made → LeadsBack S start (c ∷ cs)
none_along c cs made S same along start p =
    let more = along start p in (
      c ∷ more.0,
      record { rest = more.1.rest; joined = ap (λ xs. c ∷ xs) more.1.joined },
      more.2 ∙ ap (λ (T : Holdings). holdings_after T more.0) (sym same),
    )

-- what is still told after a step was told before it
told_first : (before between : StoreTold) (change : Change) (S : Holdings) → held_in between ≡ Some S → Applies before change between
    → (T : Holdings) × (held_in before ≡ Some T)
told_first before between change S is step = elim step [
  | inl makes ↦ let from = makes_some before between (change ∷ []) S makes is in (from.0, from.1)
  | inr left ↦ (S, left.0.held S is)
]

-- and so of all steps
pub told_before : (all : List Change) (before now : StoreTold) (S : Holdings) → held_in now ≡ Some S → AppliesAll before all now
    → (T : Holdings) × (held_in before ≡ Some T)
told_before [] before now S is done = (S, done.held S is)
told_before (c ∷ cs) before now S is done =
    let there : (T : Holdings) × (held_in done.0 ≡ Some T) = told_before cs done.0 now S is done.2 in
    told_first before done.0 c there.0 there.1 done.1

pub made_of : (all : List Change) (held S : Holdings) (before now : StoreTold) → held_in before ≡ Some held → held_in now ≡ Some S → AppliesAll before all now
    → Made held before all now
made_of [] held S before now was is done = record {
  made = [];
  makes = makes_none before now done;
  same = refl;
  along = λ start p. ([], record { rest = []; joined = refl }, ap (holdings_after held) (nothing_before start p));
}
made_of (c ∷ cs) held S before now was is done =
    let there : (T : Holdings) × (held_in done.0 ≡ Some T) = told_before cs done.0 now S is done.2 in
    elim done.1 [
      | inl step ↦
          let told : held_in done.0 ≡ Some (changed held c) = told_after before done.0 (c ∷ []) held there.0 was there.1 step in
          let rest : Made (changed held c) done.0 cs now = made_of cs (changed held c) S done.0 now told is done.2 in
          record {
            made = c ∷ rest.made;
            makes = makes_both before done.0 now (c ∷ []) rest.made step rest.makes;
            same = rest.same;
            along = one_along c cs rest.made held rest.along;
          }
      | inr left ↦
          let told : held_in done.0 ≡ Some held = there.1 ∙ sym (left.0.held there.0 there.1) ∙ was in
          let rest : Made held done.0 cs now = made_of cs held S done.0 now told is done.2 in
          let same : changed held c ≡ held = left.1 held told in
          record {
            made = rest.made;
            makes = keeps_makes before done.0 now rest.made left.0 rest.makes;
            same = rest.same ∙ ap (λ (T : Holdings). holdings_after T cs) (sym same);
            along = none_along c cs rest.made held same rest.along;
          }
    ]
