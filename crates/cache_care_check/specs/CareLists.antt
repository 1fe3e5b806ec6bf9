-- What a check of a store tells.
use Rattle.std.specs.Prelude.{◌≡◌, ℕ, ◌+◌, Bool, true, false, List, [], ◌∷◌, ◌++◌, length, map, string_bytes}
use Rattle.std.specs.FinMap.{keys}
use Rattle.std.specs.List.{list_any}
use Rattle.bx_io.specs.Holdings.{Holdings}
use Rattle.cache_care_check.specs.Findings.{AreFindings}
use Rattle.cache_care_check.specs.declared.checking.CareLine.{CareLine}
use Rattle.cache_care_check.specs.declared.checking.CareLine.TheVariants as lines
use Rattle.cache_care_check.specs.declared.checking.CareList.{CareList}
use Rattle.cache_care_check.specs.declared.surveying.Finding.{Finding}
use Rattle.cache_care_check.specs.declared.surveying.Finding.TheVariants as findings

-- a finding that is told, with its name
abbrev pub Remark : Type 0
Remark = Finding × List ℕ

-- what a line says
abbrev pub line_remark : CareLine → Remark
line_remark (lines.Damaged name) = (findings.Damaged, string_bytes name)
line_remark (lines.Bad name) = (findings.Bad, string_bytes name)

-- what is told of a name
abbrev pub remark_of : List ℕ → Finding → List Remark
remark_of name findings.Damaged = (findings.Damaged, name) ∷ []
remark_of name findings.Bad = (findings.Bad, name) ∷ []
remark_of name findings.Honest = []
remark_of name findings.Other = []

-- what is told of all names, in their order
abbrev pub remarks_of : List (List ℕ) → List Finding → List Remark
remarks_of [] found = []
remarks_of (name ∷ names) [] = []
remarks_of (name ∷ names) (f ∷ found) = remark_of name f ++ remarks_of names found

abbrev pub one_entry : Finding → ℕ
one_entry findings.Damaged = 0
one_entry findings.Bad = 1
one_entry findings.Honest = 1
one_entry findings.Other = 0

-- how many of the names hold an entry as they say
abbrev pub entry_count : List Finding → ℕ
entry_count [] = 0
entry_count (f ∷ found) = one_entry f + entry_count found

abbrev pub is_bad : Finding → Bool
is_bad findings.Damaged = false
is_bad findings.Bad = true
is_bad findings.Honest = false
is_bad findings.Other = false

-- whether an entry that is not honest is told
abbrev pub has_bad_remark : List Remark → Bool
has_bad_remark remarks = list_any (λ (r : Remark). is_bad r.0) remarks

-- One line for each name that is damaged or holds a bad entry, in the order of the names; how many names there are,
-- damaged ones too; and how many of them hold an entry as they say.
pub record IsCareList (S : Holdings) (list : CareList) : Type 0 where
  pub found : List Finding
  pub findings : AreFindings S (keys S) found
  pub lines : map line_remark list.lines.items ≡ remarks_of (keys S) found
  pub names : list.names ≡ length (keys S)
  pub entries : list.entries ≡ entry_count found
