-- What is chosen of the artifacts among arguments.
use Rattle.std.proofs.Common.{◌≡◌, List, Option, Some, None, refl}
use Rattle.std.specs.Prelude.{option_and_then}
use Rattle.std.specs.List.{cons_option, filter_map}

pub chosen : {X Y : Type 0} (choose : X → Option Y) (first : Option X) (rest : List X)
    → filter_map choose (cons_option first rest) ≡ cons_option (option_and_then choose first) (filter_map choose rest)
chosen choose None rest = refl
chosen choose (Some x) rest = refl
