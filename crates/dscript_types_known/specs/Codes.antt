-- Codes of tables.
use Rattle.std.specs.Prelude.{◌≡◌, ℕ, Bool, true, false, ◌⊎◌}
use Rattle.std.proofs.Common.{refl}
use Rattle.std.specs.Coded.{Coded, code_by, coded×, coded⊎, coded_bool, coded_list, coded_ℕ}
use mathlib.Core.Logic.{inl, inr}
use Rattle.dscript_types_data.specs.Coded.{types_coded}
use Rattle.dscript_types_meaning.specs.Types.{TypeData}
use Rattle.dscript_types_known.specs.Findings.{Finding, Found, Nothing, Open}
use Rattle.dscript_types_known.specs.Tables.{TableData}

abbrev Parts : Type 0
Parts = (TypeData × ℕ) ⊎ Bool

abbrev pub to_parts : Finding TypeData → Parts
to_parts (Found t rank) = inl (t, rank)
to_parts Nothing = inr false
to_parts Open = inr true

abbrev pub from_parts : Parts → Finding TypeData
from_parts (inl found) = Found found.0 found.1
from_parts (inr false) = Nothing
from_parts (inr true) = Open

pub parts_again : (f : Finding TypeData) → from_parts (to_parts f) ≡ f
parts_again (Found t rank) = refl
parts_again Nothing = refl
parts_again Open = refl

abbrev pub finding_coded : Coded (Finding TypeData)
finding_coded = code_by Parts (coded⊎ (coded× types_coded coded_ℕ) coded_bool) to_parts from_parts parts_again

abbrev pub table_coded : Coded TableData
table_coded = coded_list (coded_list finding_coded)
