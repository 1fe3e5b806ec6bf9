-- What is found on the way to a reason.
use Rattle.std.specs.Prelude.{◌≡◌, ◌≢◌, ℕ, ◌<◌, List, Option, Some, None, slice_get, ⊤}
use Rattle.std.specs.FinMap.{get}
use Rattle.std.specs.List.{AllByRecursion}
use Rattle.std.specs.declared.alloc.Global.{Global}
use Rattle.std.specs.declared.vec.Vec.{Vec}
use Rattle.bx_tree.specs.Members.{Has}
use Rattle.bx_io.specs.Holdings.{Holdings}
use Rattle.pip_model_types.specs.declared.desc.Desc.{Desc}
use Rattle.observed.specs.declared.ask.Ask.{Ask}
use Rattle.observed.specs.declared.access.Answer.{Answer}
use Rattle.prints.specs.ReadWeak.{read_weak_text}
use Rattle.prints.specs.Strong.{line_of}
use Rattle.prints.specs.declared.strong_parts.AnswerLine.{AnswerLine}
use Rattle.prints.specs.declared.strong_parts.AnswerLine.TheVariants as answer_lines
use Rattle.prints.specs.declared.strong_parts.StrongParts.{StrongParts}
use Rattle.prints.specs.declared.weak_parts.WeakParts.{WeakParts}
use Rattle.memo_format.specs.StoreNames.{at_list}
use Rattle.memo_format.specs.declared.entry.Entry.{Entry}
use Rattle.memo_format.specs.declared.entry.OutputLine.{OutputLine}
use Rattle.memo_format.specs.declared.selector.Selector.{Selector}
use Rattle.content_store.specs.Contents.{IsContent}
use Rattle.two_phase_meaning.specs.Contents.{HoldsStrong}
use Rattle.miss_reasons.specs.Reasons.{AreStoredNames, IsTaken}
use Rattle.miss_reasons.specs.declared.nearest.Best.{Best}
use Rattle.miss_reasons.specs.declared.reason.Near.{Near}
use Rattle.miss_reasons.specs.declared.reason.NoFit.{NoFit}
use Rattle.miss_reasons.specs.declared.reason.NoFit.TheVariants as no_fits

-- ## Answers

-- the place of a line's kind
abbrev pub line_kind : AnswerLine → ℕ
line_kind answer_lines.Absent = 0
line_kind (answer_lines.Content digest) = 1
line_kind answer_lines.File = 2
line_kind answer_lines.Directory = 3
line_kind (answer_lines.Names digest) = 4
line_kind answer_lines.Denied = 5

-- The line at this place is the first that does not say its answer.
pub record IsFirstOther (lines : List AnswerLine) (given : List Answer) (place : ℕ) : Type 0 where
  pub line : AnswerLine
  pub answer : Answer
  pub stored : slice_get lines place ≡ Some line
  pub given_is : slice_get given place ≡ Some answer
  pub differs : line ≢ line_of answer
  pub before : (i : ℕ) (a : Answer) → i < place → slice_get given i ≡ Some a → slice_get lines i ≡ Some (line_of a)

-- The line of this ask is the first that does not say its answer.
pub record IsAskedOther (lines : List AnswerLine) (asks : List Ask) (given : List Answer) (ask : Ask) (line : AnswerLine)
    (now : Answer) : Type 0 where
  pub place : ℕ
  pub first : IsFirstOther lines given place
  pub asked : slice_get asks place ≡ Some ask
  pub line_is : first.line ≡ line
  pub answer_is : first.answer ≡ now

-- what is told of an ask that is answered otherwise than a line says
abbrev pub IsAnsweredBy : Holdings → Ask → AnswerLine → Answer → NoFit → Type 0
IsAnsweredBy S ask line now why =
    (names : Option (List ℕ)) × (why ≡ no_fits.Answered ask line now names) × AreStoredNames S line names

-- which answer is another than its line, or that it is not known which
abbrev pub IsOtherOf : Holdings → List AnswerLine → List Ask → List Answer → NoFit → Type 0
IsOtherOf S lines asks given no_fits.NoPaths = ⊥
IsOtherOf S lines asks given (no_fits.Answered ask line now names) =
    IsAskedOther lines asks given ask line now × AreStoredNames S line names
IsOtherOf S lines asks given no_fits.AnsweredOtherwise = ⊤
IsOtherOf S lines asks given no_fits.NoEntry = ⊥
IsOtherOf S lines asks given no_fits.OtherEntry = ⊥
IsOtherOf S lines asks given (no_fits.NoOutput output) = ⊥

-- That of the lines of the strong text that is held.
pub record IsOtherAt (S : Holdings) (s : Selector) (asks : List Ask) (given : List Answer) (ask : Ask) (line : AnswerLine)
    (now : Answer) : Type 0 where
  pub strong : StrongParts
  pub held : HoldsStrong S s.strong strong
  pub other : IsAskedOther strong.lines asks given ask line now

-- which answer is another than the stored one, or that it is not known which
abbrev pub IsOther : Holdings → Selector → List Ask → List Answer → NoFit → Type 0
IsOther S s asks given no_fits.NoPaths = ⊥
IsOther S s asks given (no_fits.Answered ask line now names) =
    IsOtherAt S s asks given ask line now × AreStoredNames S line names
IsOther S s asks given no_fits.AnsweredOtherwise = ⊤
IsOther S s asks given no_fits.NoEntry = ⊥
IsOther S s asks given no_fits.OtherEntry = ⊥
IsOther S s asks given (no_fits.NoOutput output) = ⊥

-- ## Outputs

-- a content is held for the output
abbrev pub HasContent : Holdings → OutputLine → Type 0
HasContent S output = (bytes : List ℕ) × IsContent S output.digest bytes

-- one of the outputs that is not held; where none is told, all are
abbrev pub IsMissing : Holdings → List OutputLine → Option OutputLine → Type 0
IsMissing S outputs None = AllByRecursion (HasContent S) outputs
IsMissing S outputs (Some output) = Has outputs output × (HasContent S output → ⊥)

-- an entry that this process may take, with all its outputs
abbrev pub IsTakenWhole : Holdings → Desc → Selector → Entry → Type 0
IsTakenWhole S d s e = IsTaken d s e × AllByRecursion (HasContent S) e.outputs

-- ## Lists of selectors

-- what is held where the selectors of a weak text are
abbrev pub IsListText : Holdings → List ℕ → Option (Vec ℕ Global) → Type 0
IsListText S weak None = get S (at_list weak) ≡ None
IsListText S weak (Some text) = get S (at_list weak) ≡ Some text.items

-- ## Descriptions

-- what a stored description and the text of an own one say
abbrev pub AreRead : List ℕ → List ℕ → Option Near → Type 0
AreRead stored own None = ⊤
AreRead stored own (Some near) = (read_weak_text stored ≡ Some near.stored) × (read_weak_text own ≡ Some near.own)

-- that of a stored description whose text was read
abbrev pub IsBeside : WeakParts → List ℕ → Option Near → Type 0
IsBeside stored own None = ⊤
IsBeside stored own (Some near) = (near.stored ≡ stored) × (read_weak_text own ≡ Some near.own)

-- the text of the best description so far is held under a digest
abbrev pub IsHeldBest : Holdings → Option Best → Type 0
IsHeldBest S None = ⊤
IsHeldBest S (Some best) = (digest : List ℕ) × IsContent S digest best.text

-- that of what is told to be held
abbrev pub Told : {X : Type 0} → Option Holdings → (Holdings → X → Type 0) → X → Type 0
Told told P x = (S : Holdings) → told ≡ Some S → P S x
