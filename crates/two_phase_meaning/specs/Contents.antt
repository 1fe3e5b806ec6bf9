-- The contents that runs are given and make, and the texts and contents that a store holds.
use Rattle.std.specs.Prelude.{◌≡◌, ℕ, List, [], ◌∷◌, Some}
use Rattle.std.specs.List.{AllByRecursion, flat_map}
use Rattle.pip_model_types.specs.declared.desc.Desc.{Desc}
use Rattle.observed.specs.Texts.{read_paths_text}
use Rattle.observed.specs.declared.ask.Ask.{Ask}
use Rattle.observed.specs.declared.access.Answer.{Answer}
use Rattle.observed.specs.declared.access.Answer.TheVariants as answers
use Rattle.bx_io.specs.Holdings.{Holdings}
use Rattle.prints.specs.ReadWeak.{read_weak_text}
use Rattle.prints.specs.Strong.{read_strong_text}
use Rattle.prints.specs.declared.strong_parts.StrongParts.{StrongParts}
use Rattle.prints.specs.declared.weak_parts.WeakParts.{WeakParts}
use Rattle.run_record.specs.Collisions.{contents_of}
use Rattle.memo_format.specs.StoreNames.{HoldsBlob}
use Rattle.content_store.specs.Contents.{IsContent}

-- ## Contents

-- the contents of the executable and of the declared files
abbrev pub desc_contents : Desc → List (List ℕ)
desc_contents d = d.exe ∷ contents_of d.files

-- the bytes of an answer, or its names, each with a newline after it
abbrev pub answer_contents : Answer → List (List ℕ)
answer_contents answers.Absent = []
answer_contents (answers.Content bytes) = bytes ∷ []
answer_contents answers.File = []
answer_contents answers.Directory = []
answer_contents (answers.Names names) = names ∷ []
answer_contents answers.Denied = []

abbrev pub given_contents : List Answer → List (List ℕ)
given_contents given = flat_map answer_contents given

-- ## What is held

-- each content is held under its own digest
abbrev pub HoldsAll : Holdings → List (List ℕ) → Type 0
HoldsAll S contents = AllByRecursion (HoldsBlob S) contents

-- a weak text that says this is held under the digest
abbrev pub HoldsWeak : Holdings → List ℕ → WeakParts → Type 0
HoldsWeak S digest parts = (text : List ℕ) × IsContent S digest text × (read_weak_text text ≡ Some parts)

-- the text of this path set is held under the digest
abbrev pub HoldsPaths : Holdings → List ℕ → List Ask → Type 0
HoldsPaths S digest asks = (text : List ℕ) × IsContent S digest text × (read_paths_text text ≡ Some asks)

-- a strong text that says this is held under the digest
abbrev pub HoldsStrong : Holdings → List ℕ → StrongParts → Type 0
HoldsStrong S digest parts =
    (text : List ℕ) × IsContent S digest text × (read_strong_text text ≡ Some parts)
