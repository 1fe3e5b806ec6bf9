-- The digests by which a record is compared with a process and a view.
use Rattle.std.specs.Prelude.{◌≡◌, ℕ, List, Some}
use Rattle.sha2.specs.Sha256.{sha256}
use Rattle.pip_model_types.specs.declared.desc.Desc.{Desc}
use Rattle.observed.specs.declared.ask.Ask.{Ask}
use Rattle.observed.specs.declared.access.Answer.{Answer}
use Rattle.prints.specs.Processes.{weak_parts}
use Rattle.prints.specs.ReadWeak.{read_weak_text}
use Rattle.prints.specs.Strong.{answer_line, line_of}
use Rattle.prints.specs.Weak.{weak_text}
use Rattle.prints.specs.declared.printed.Printed.{Printed}

-- the digest of the weak text of a process
abbrev pub weak_of : Desc → List ℕ
weak_of d = sha256 (weak_text (weak_parts d))

-- the text is the weak text of the process, with its digest
pub record IsWeakOf (d : Desc) (printed : Printed) : Type 0 where
  pub text : printed.text.items ≡ weak_text (weak_parts d)
  pub digest : printed.digest ≡ weak_of d

-- the digest of the line that says an answer
abbrev pub digest_of_line : Answer → List ℕ
digest_of_line answer = sha256 (answer_line (line_of answer))

-- the digest of the line that says what an ask is answered
abbrev pub digest_asked : (Ask → Answer) → Ask → List ℕ
digest_asked see q = digest_of_line (see q)

-- the weak text of the process is read back as what it was written of
abbrev pub IsReadBack : Desc → Type 0
IsReadBack d = read_weak_text (weak_text (weak_parts d)) ≡ Some (weak_parts d)
