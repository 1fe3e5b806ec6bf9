-- When a record is of the run of a process now, byte by byte.
use Rattle.std.specs.Prelude.{◌≡◌, ℕ, map}
use Rattle.pip_model_types.specs.declared.desc.Desc.{Desc}
use Rattle.observed.specs.declared.ask.Ask.{Ask}
use Rattle.observed.specs.declared.access.Answer.{Answer}
use Rattle.observed.specs.declared.access.Answer.TheVariants as answers
use Rattle.prints.specs.Processes.{with_sources}
use Rattle.run_record.specs.Facts.{Facts}

-- Two descriptions are the same work: all that their weak texts say is the same, and so are the contents that these name by digest. Nothing else is
-- compared: which pips made the files and the directories no weak text says and no run asks; and of the declared files a weak text and a run take
-- those with contents (`files`), so the list in the process itself is not looked at.
pub record IsSameWork (d e : Desc) : Type 0 where
  pub process : with_sources d.files d.process ≡ with_sources e.files e.process
  pub exe : d.exe ≡ e.exe
  pub files : d.files ≡ e.files
  pub budget : d.budget ≡ e.budget

-- A record holds now: it is of this work, and each of its answers is what the view answers now.
pub record HoldsNow (d : Desc) (see : Ask → Answer) (f : Facts) : Type 0 where
  pub work : IsSameWork f.desc d
  pub answers : f.answers ≡ map see f.paths

-- the record with this description in place of its own
abbrev pub at_desc : Desc → Facts → Facts
at_desc d f = record f { desc = d }

-- the place of an answer's kind
abbrev pub answer_kind : Answer → ℕ
answer_kind answers.Absent = 0
answer_kind (answers.Content bytes) = 1
answer_kind answers.File = 2
answer_kind answers.Directory = 3
answer_kind (answers.Names names) = 4
answer_kind answers.Denied = 5
