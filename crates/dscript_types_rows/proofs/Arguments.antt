-- Arguments, one after another.
use Rattle.std.proofs.Common.{◌≡◌, Bool, true, false, List, [], ◌∷◌, refl, ap, sym, ◌∙◌}
use Rattle.dscript_types_meaning.specs.Access.{arguments_fit}
use Rattle.dscript_types_meaning.specs.Fits.{fits}
use Rattle.dscript_types_meaning.specs.Types.{TypeData}

first_passes : (t g : TypeData) (takes given : List TypeData) → fits g t ≡ true
    → arguments_fit (t ∷ takes) (g ∷ given) ≡ arguments_fit takes given
first_passes t g takes given is = rw (is, arguments_fit) refl

first_fails : (t g : TypeData) (takes given : List TypeData) → fits g t ≡ false → arguments_fit (t ∷ takes) (g ∷ given) ≡ false
first_fails t g takes given is = rw (is, arguments_fit) refl

-- nothing more is taken
pub none_taken : (left right : List TypeData) (whole : Bool) → left ≡ [] → arguments_fit left right ≡ whole → true ≡ whole
none_taken left right whole e kept = sym (ap (λ ts. arguments_fit ts right) e) ∙ kept

module _ (left more right : List TypeData) (taken : TypeData) (whole : Bool) (split : left ≡ taken ∷ more)
    (kept : arguments_fit left right ≡ whole) where
  -- nothing more is given
  pub none_given : right ≡ [] → true ≡ whole
  none_given e =
      sym (ap (λ ts. arguments_fit ts right) split ∙ ap (arguments_fit (taken ∷ more)) e) ∙ kept

  module _ (rest : List TypeData) (t : TypeData) (given : right ≡ t ∷ rest) (fit : Bool) (is : fit ≡ fits t taken) where
    next_is : arguments_fit (taken ∷ more) (t ∷ rest) ≡ whole
    next_is = sym (ap (λ ts. arguments_fit ts right) split ∙ ap (arguments_fit (taken ∷ more)) given) ∙ kept

    pub next_passes : fit ≡ true → arguments_fit more rest ≡ whole
    next_passes e = sym (first_passes taken t more rest (sym is ∙ e)) ∙ next_is

    pub next_fails : fit ≡ false → false ≡ whole
    next_fails e = sym (first_fails taken t more rest (sym is ∙ e)) ∙ next_is
