-- The union of what is answered at each member, from the last one on.
use Rattle.std.proofs.Common.{◌≡◌, List, [], ◌∷◌, ◌++◌, length, Option, Some, None, map, refl, ap, sym, ◌∙◌}
use Rattle.std.proofs.lemmas.List.{map-append}
use Rattle.bx_tree.proofs.Lists.{none_left}
use Rattle.std.specs.Option.{option_and_then, option_map}
use Rattle.dscript_types_data.specs.declared.types.Member.{Member}
use Rattle.dscript_types_data.specs.Views.{member_data}
use Rattle.dscript_types_meaning.specs.Operators.{at_each}
use Rattle.dscript_types_meaning.specs.Types.{MemberData, TypeData, never}
use Rattle.dscript_types_meaning.specs.Unions.{join}

-- the union of what is answered at each of these and what was answered at those behind them
abbrev pub at_each_over : (MemberData → Option TypeData) → List MemberData → TypeData → Option TypeData
at_each_over answer [] done = Some done
at_each_over answer (m ∷ ms) done =
    option_and_then (λ t. option_map (join t) (at_each_over answer ms done)) (answer m)

pub over_never : (answer : MemberData → Option TypeData) (ms : List MemberData) → at_each_over answer ms never ≡ at_each answer ms
over_never answer [] = refl
over_never answer (m ∷ ms) = ap (λ o. option_and_then (λ t. option_map (join t) o) (answer m)) (over_never answer ms)

over_last
    : (answer : MemberData → Option TypeData) (ms : List MemberData) (m : MemberData) (done t : TypeData) → answer m ≡ Some t
    → at_each_over answer (ms ++ m ∷ []) done ≡ at_each_over answer ms (join t done)
over_last answer [] m done t e = ap (λ o. option_and_then (λ u. option_map (join u) (Some done)) o) e
over_last answer (n ∷ ms) m done t e =
    ap (λ o. option_and_then (λ u. option_map (join u) o) (answer n)) (over_last answer ms m done t e)

none_within : (o : Option TypeData) → option_and_then (λ (u : TypeData). option_map (join u) None) o ≡ None
none_within None = refl
none_within (Some u) = refl

over_none
    : (answer : MemberData → Option TypeData) (ms : List MemberData) (m : MemberData) (done : TypeData) → answer m ≡ None
    → at_each_over answer (ms ++ m ∷ []) done ≡ None
over_none answer [] m done e = ap (λ o. option_and_then (λ u. option_map (join u) (Some done)) o) e
over_none answer (n ∷ ms) m done e =
    ap (λ o. option_and_then (λ u. option_map (join u) o) (answer n)) (over_none answer ms m done e) ∙ none_within (answer n)

module _ (answer : MemberData → Option TypeData) where
  -- nothing has been answered
  pub over_begins
      : (ms : List Member) (whole : List MemberData) (done : TypeData) → map member_data ms ≡ whole → done ≡ never
      → at_each_over answer (map member_data ms) done ≡ at_each answer whole
  over_begins ms whole done is e =
      ap (at_each_over answer (map member_data ms)) e ∙ over_never answer (map member_data ms) ∙ ap (at_each answer) is

  last_first : (left before : List Member) (m : Member) → left ≡ before ++ m ∷ []
      → map member_data left ≡ map member_data before ++ member_data m ∷ []
  last_first left before m e = ap (map member_data) e ∙ map-append member_data before (m ∷ [])

  -- one more member is answered
  pub over_goes
      : (left before : List Member) (m : Member) (done new t : TypeData) (o whole : Option TypeData)
      → left ≡ before ++ m ∷ [] → o ≡ answer (member_data m) → o ≡ Some t → new ≡ join t done
      → at_each_over answer (map member_data left) done ≡ whole → at_each_over answer (map member_data before) new ≡ whole
  over_goes left before m done new t o whole split is some made kept =
      ap (at_each_over answer (map member_data before)) made
      ∙ sym (over_last answer (map member_data before) (member_data m) done t (sym is ∙ some))
      ∙ sym (ap (λ ms. at_each_over answer ms done) (last_first left before m split)) ∙ kept

  -- a member has no answer
  pub over_stops
      : (left before : List Member) (m : Member) (done : TypeData) (o whole : Option TypeData)
      → left ≡ before ++ m ∷ [] → o ≡ answer (member_data m) → o ≡ None
      → at_each_over answer (map member_data left) done ≡ whole → whole ≡ None
  over_stops left before m done o whole split is none kept =
      sym kept ∙ ap (λ ms. at_each_over answer ms done) (last_first left before m split)
      ∙ over_none answer (map member_data before) (member_data m) done (sym is ∙ none)

  -- all are answered
  pub over_ends
      : (left : List Member) (done : TypeData) (whole : Option TypeData) → length left ≡ 0
      → at_each_over answer (map member_data left) done ≡ whole → whole ≡ Some done
  over_ends left done whole e kept =
      sym kept ∙ ap (λ ms. at_each_over answer (map member_data ms) done) (none_left left e)
