-- What a call looks at.
use Rattle.std.proofs.Common.{◌≡◌, List, [], ◌∷◌, length, map, set, ap, sym, ◌∙◌}
use Rattle.dscript_program.specs.declared.ambient.Ambient.TheVariants as calls
use Rattle.dscript_types_meaning.specs.Ambients.{looked_at, without_free}
use Rattle.dscript_types_meaning.specs.Types.{TypeData, members_of}
use Rattle.dscript_types_meaning.specs.Unions.{union_of}
use Rattle.bx_tree.proofs.Lists.{none_left}

module _ (given slice : List TypeData) (same : slice ≡ given) where
  -- nothing is given
  pub none_looked : length slice ≡ 0 → given ≡ looked_at calls.Execute given
  none_looked e =
      let is : given ≡ [] = sym same ∙ none_left slice e in
      is ∙ sym (ap (looked_at calls.Execute) is)

  -- the first one is looked at in part
  pub first_looked
      : (rest : List TypeData) (first looked : TypeData) → slice ≡ first ∷ rest
      → looked ≡ union_of (map without_free (members_of first)) → set given 0 looked ≡ looked_at calls.Execute given
  first_looked rest first looked e is =
      let split : given ≡ first ∷ rest = sym same ∙ e in
      ap (λ ts. set ts 0 looked) split ∙ ap (λ t. t ∷ rest) is ∙ sym (ap (looked_at calls.Execute) split)
