-- Lists in fields that may be missing.
use Rattle.std.proofs.Common.{◌≡◌, ℕ, List, [], Some, None, Ok, Err, refl, ap, ◌∙◌}
use Rattle.std.specs.Prelude.{unwrap_or}
use Rattle.dscript_value.specs.Depths.{field_at}
use Rattle.dscript_value.specs.Plain.{Plain, PlainField}
use Rattle.dscript_sdk_values.specs.Objects.{optional_list_in, read_if_there}
use Rattle.dscript_sdk_values.specs.Outcomes.{Outcome, ◌>>=◌}

-- a list that is there, or nothing
abbrev or_none : {X : Type 0} → Outcome (List X) → Outcome (List X)
or_none outcome = (outcome >>= λ x. Ok (Some x)) >>= λ items. Ok (unwrap_or items [])

or_none_is : {X : Type 0} (outcome : Outcome (List X)) → or_none outcome ≡ outcome
or_none_is (Ok xs) = refl
or_none_is (Err fault) = refl

pub list_there : {X : Type 0} (fields : List PlainField) (name : List ℕ) (read : Plain → Outcome (List X)) (v : Plain)
    → field_at fields name ≡ Some v → optional_list_in fields name read ≡ read v
list_there fields name read v e =
    ap (λ found. read_if_there read found >>= λ items. Ok (unwrap_or items [])) e ∙ or_none_is (read v)

pub list_missing : {X : Type 0} (fields : List PlainField) (name : List ℕ) (read : Plain → Outcome (List X))
    → field_at fields name ≡ None → optional_list_in fields name read ≡ Ok []
list_missing fields name read e = ap (λ found. read_if_there read found >>= λ items. Ok (unwrap_or items [])) e
