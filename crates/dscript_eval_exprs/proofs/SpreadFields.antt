-- The fields of a spread by what the operator answers.
use Rattle.std.proofs.Common.{◌≡◌, List, ◌++◌, Ok, Err, refl}
use Rattle.dscript_value.specs.Plain.{Plain, PlainField}
use Rattle.dscript_sdk_values.specs.Outcomes.{Outcome, Refuses, ◌>>=◌}
use Rattle.dscript_sdk_values.specs.declared.fault.SdkFault.{SdkFault}
use Rattle.dscript_eval_operators.specs.Spreads.{spread_fields, with_fields_of}

-- the fields that were added
pub record IsSpread (done : List PlainField) (o : Outcome (List PlainField)) (more : List PlainField) : Type 0 where
  pub these : List PlainField
  pub found : o ≡ Ok these
  pub added : done ++ these ≡ more

spread_by
    : (done : List PlainField) (o : Outcome (List PlainField)) (more : List PlainField)
    → (o >>= λ fs. Ok (done ++ fs)) ≡ Ok more → IsSpread done o more
spread_by done (Ok these) more is =
    let all : Ok (done ++ these) ≡ Ok more = is in
    record { these = these; found = refl; added = cc }
spread_by done (Err fault) more is = let never : Err fault ≡ Ok more = is in cc

pub is_spread
    : (done : List PlainField) (x : Plain) (more : List PlainField) → with_fields_of done x ≡ Ok more
    → IsSpread done (spread_fields x) more
unfolding with_fields_of
is_spread done x more is = spread_by done (spread_fields x) more is

refused_by
    : (done : List PlainField) (o : Outcome (List PlainField)) (fault : SdkFault)
    → (o >>= λ fs. Ok (done ++ fs)) ≡ Err fault → o ≡ Err fault
refused_by done (Ok these) fault is = let never : Ok (done ++ these) ≡ Err fault = is in cc
refused_by done (Err f) fault is = is

pub spread_refuses
    : (done : List PlainField) (x : Plain) (fault : SdkFault) → Refuses fault (with_fields_of done x)
    → Refuses fault (spread_fields x)
unfolding with_fields_of
spread_refuses done x fault h = λ n. refused_by done (spread_fields x) fault (h n)
