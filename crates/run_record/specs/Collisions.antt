-- Bytes among which there is no hash collision.
use Rattle.std.specs.Prelude.{◌≡◌, ◌⊎◌, ℕ, List, [], ◌∷◌, map}
use Rattle.sha2.specs.Sha256.{sha256}
use Rattle.bx_tree.specs.Trees.{Files}
use Rattle.bx_tree.specs.Paths.{Atoms}
use Rattle.bx_tree.specs.Members.{Has}
use Rattle.pip_model_types.specs.declared.desc.Desc.{Desc}
use Rattle.observed.specs.declared.ask.Ask.{Ask}
use Rattle.observed.specs.declared.access.Answer.{Answer}
use Rattle.observed.specs.declared.access.Answer.TheVariants as answers
use Rattle.prints.specs.Processes.{weak_parts}
use Rattle.prints.specs.Strong.{answer_line, line_of}
use Rattle.prints.specs.Weak.{weak_text}
use Rattle.run_record.specs.Facts.{Facts}

-- any two of these bytes that have one SHA-256 digest are equal
abbrev pub NoCollision : (List ℕ → Type 0) → Type 0
NoCollision M = (x y : List ℕ) → M x → M y → sha256 x ≡ sha256 y → x ≡ y

-- ## What a comparison meets

-- the contents of files
abbrev pub contents_of : Files → List (List ℕ)
contents_of files = map (λ (f : Atoms × List ℕ). f.1) files

-- the weak text of a process, the content of its executable, or that of a declared file
abbrev pub IsOfDesc : Desc → List ℕ → Type 0
IsOfDesc d x = (weak_text (weak_parts d) ≡ x) ⊎ ((d.exe ≡ x) ⊎ Has (contents_of d.files) x)

-- the content or the names that an answer has
abbrev pub IsIn : Answer → List ℕ → Type 0
IsIn answers.Absent x = ⊥
IsIn (answers.Content bytes) x = bytes ≡ x
IsIn answers.File x = ⊥
IsIn answers.Directory x = ⊥
IsIn (answers.Names names) x = names ≡ x
IsIn answers.Denied x = ⊥

-- the line of an answer, or its content or names
abbrev pub IsOfAnswer : Answer → List ℕ → Type 0
IsOfAnswer answer x = (answer_line (line_of answer) ≡ x) ⊎ IsIn answer x

abbrev pub AreOfAnswers : List Answer → List ℕ → Type 0
AreOfAnswers [] x = ⊥
AreOfAnswers (answer ∷ rest) x = IsOfAnswer answer x ⊎ AreOfAnswers rest x

-- The contents, the weak texts and the lines of answers of both sides: of a process and what asks are
-- answered now, and of what a record holds.
abbrev pub IsCompared : Desc → Facts → (Ask → Answer) → List ℕ → Type 0
IsCompared d f see x =
    (IsOfDesc d x ⊎ IsOfDesc f.desc x) ⊎ (AreOfAnswers f.answers x ⊎ AreOfAnswers (map see f.paths) x)
