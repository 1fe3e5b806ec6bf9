-- Changes of a trim by the names that they are of.
use Rattle.std.proofs.Common.{◌≡◌, ◌⊎◌, ℕ, ◌+◌, ◌≤◌, Bool, true, false, cond, List, [], ◌∷◌, ◌++◌, codes, filter, length, map, length-append, refl, sym, ap, ◌∙◌, subst, inl, inr, arith}
use Rattle.std.specs.Prelude.{All, string_bytes}
use Rattle.std.specs.List.{AllByRecursion}
use Rattle.bx_tree.specs.Members.{Has}
use Rattle.bx_tree.proofs.Members.{has_back, has_front}
use Rattle.bx_io.specs.Holdings.{Change, Drop, Put, name_of}
use Rattle.bx_io.specs.Names.{IsName}
use Rattle.prints.specs.Lines.{begins}
use Rattle.memo_format.specs.Selectors.{AreSelectors, selectors_text}
use Rattle.memo_format.specs.declared.selector.Selector.{Selector}
use Rattle.cache_care.specs.Counts.{drop_count}
use Rattle.cache_care.specs.Trimming.{AreTrims, IsListName, IsTrim}
use Rattle.cache_care.proofs.Planned.{drop_count-append}

-- ## Trims of names

abbrev IsOf : List (List ℕ) → Change → Type 0
IsOf names c = IsTrim c × Has names (name_of c)

each_both : (names more : List (List ℕ)) (first next : List Change) → AllByRecursion (IsOf names) first → AllByRecursion (IsOf more) next
    → AllByRecursion (IsOf (names ++ more)) (first ++ next)
each_both names more [] next h k = later next k
  where
    later : (cs : List Change) → AllByRecursion (IsOf more) cs → AllByRecursion (IsOf (names ++ more)) cs
    later [] k = tt
    later (c ∷ cs) k = ((k.0.0, has_back names more (name_of c) k.0.1), later cs k.1)
each_both names more (c ∷ first) next h k = ((h.0.0, has_front names more (name_of c) h.0.1), each_both names more first next h.1 k)

pub trims_none : AreTrims [] []
trims_none = record { each = tt; few = omega arith }

pub trims_both : (names more : List (List ℕ)) (first next : List Change) → AreTrims names first → AreTrims more next → AreTrims (names ++ more) (first ++ next)
trims_both names more first next h k = record {
  each = each_both names more first next h.each k.each;
  few =
      let sum = drop_count-append first next in
      let long = length-append names more in
      let a = h.few in
      let b = k.few in
      omega (arith, sum, long, a, b);
}

pub trims_same : (names : List (List ℕ)) (one other : List Change) → one ≡ other → AreTrims names one → AreTrims names other
trims_same names one other same h = subst (AreTrims names) same h

-- no change of a name
pub trims_kept : (name : List ℕ) → AreTrims (name ∷ []) []
trims_kept name = record { each = tt; few = omega arith }

pub trims_drop : (name : List ℕ) → AreTrims (name ∷ []) (Drop name ∷ [])
trims_drop name = record { each = ((tt, inl refl), tt); few = omega arith }

pub trims_put : (name : List ℕ) (list : List Selector) → IsListName name → AreSelectors list → AreTrims (name ∷ []) (Put name (selectors_text list) ∷ [])
trims_put name list is ok = record { each = (((is.0, list, is.1, ok, is.2, refl), inl refl), tt); few = omega arith }
