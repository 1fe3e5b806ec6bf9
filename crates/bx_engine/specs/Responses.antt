-- What a response says of a build.
use Rattle.std.specs.Prelude.{◌≡◌, ◌⊎◌, ℕ, ◌+◌, ◌-◌, ◌^◌, Bool, List, [], Option, Some, min}
use Rattle.build_report.specs.Notes.{notes_text}
use Rattle.build_report.specs.declared.counts.Counts.{Counts}
use Rattle.build_report.specs.declared.counts.GraphLine.{GraphLine}
use Rattle.build_report.specs.declared.counts.GraphLine.TheVariants.{Hit}
use Rattle.build_report.specs.declared.refusal.Refusal.{Refusal}
use Rattle.bx_io.specs.Holdings.{held_in}
use Rattle.bx_tree.specs.Paths.{Atoms}
use Rattle.bx_tree.specs.Trees.{Files}
use Rattle.graph_check.specs.declared.fault.GraphKind.{GraphKind}
use Rattle.one_thread.specs.OneThread.{one_thread}
use Rattle.pip_model_types.specs.declared.pip.Pip.{Pip}
use Rattle.retire.specs.Builds.{Fair}
use Rattle.retire.specs.declared.retiring.RetireTally.{RetireTally}
use Rattle.retire.specs.declared.retiring.Retired.{Retired}
use Rattle.retire.specs.Runs.{NoneReserved}
use Rattle.bx_engine_front.specs.Refusals.{refusal_of}
use Rattle.bx_engine_front.specs.Specifications.{OfGraph}
use Rattle.bx_engine_front.specs.declared.fault.FrontFault.{FrontFault}
use Rattle.bx_engine_front.specs.declared.fault.FrontFault.TheVariants as front_faults
use Rattle.bx_tree.specs.declared.bundle.BundleFault.{BundleFault}
use Rattle.bx_tree.specs.declared.bundle.BundleFault.TheVariants as bundle_faults
use Rattle.bx_engine_words.specs.Words.{workers_in}
use Rattle.bx_engine_words.specs.declared.order.Order.{Order}
use Rattle.bx_engine.specs.Calls.{StoreChange}
use Rattle.bx_engine.specs.Counting.{CountsOf, Gone, IsNoted, gone_output, gone_status}
use Rattle.bx_engine.specs.Ending.{Ending, InputRefused, SpecificationRefused, Built}
use Rattle.bx_engine.specs.Ending.{output_of, refusal_output, status_of}
use Rattle.bx_engine.specs.Expected.{Expected, limits_of}
use Rattle.bx_engine.specs.OutputTrees.{IsOutputText}
use Rattle.bx_engine.specs.Statuses.{IsGone, IsRefusal, IsWhole}
use Rattle.bx_engine.specs.Stores.{AsksFor, FairGraphStore, FairStore, KeepRulesOf, TellsLine, uses_store}
use Rattle.bx_engine.specs.declared.crew.Worked.{Worked}
use Rattle.bx_engine.specs.declared.fault.InputFault.TheVariants as input_faults
use Rattle.bx_engine.specs.declared.response.Response.{Response}
use Rattle.bx_engine.specs.declared.status.Status.{Status}
use Rattle.bx_engine.specs.declared.status.Status.TheVariants as statuses

-- the response is that to an input which ends so, with these notes
pub record IsResponseTo (ending : Ending) (notes : List ℕ) (response : Response) : Type 0 where
  pub status_is : response.status ≡ status_of ending
  pub bytes_are : response.bytes.items ≡ output_of ending
  pub notes_are : response.notes.items ≡ notes

-- ## Refusals

-- the response has this status, the report of this refusal alone, and no notes
pub record IsReportOf (status : Status) (refusal : Refusal) (response : Response) : Type 0 where
  pub status_is : response.status ≡ status
  pub bytes_are : response.bytes.items ≡ refusal_output refusal
  pub notes_are : response.notes.items ≡ []

-- the response says why a tree is refused; want of memory has none
abbrev pub IsResponseToFault : FrontFault → Response → Type 0
IsResponseToFault (front_faults.Refused refusal) response =
    IsResponseTo (SpecificationRefused refusal) [] response
IsResponseToFault front_faults.Memory response = ⊥

-- the response says why an input is no bundle; want of memory has none
abbrev pub IsResponseToBundle : BundleFault → Response → Type 0
IsResponseToBundle bundle_faults.BadBundle response =
    IsResponseTo (InputRefused input_faults.BadBundle) [] response
IsResponseToBundle bundle_faults.BadPath response =
    IsResponseTo (InputRefused input_faults.BadPath) [] response
IsResponseToBundle bundle_faults.Unordered response =
    IsResponseTo (InputRefused input_faults.Unordered) [] response
IsResponseToBundle bundle_faults.Nested response =
    IsResponseTo (InputRefused input_faults.Nested) [] response
IsResponseToBundle bundle_faults.TooManyFiles response =
    IsResponseTo (InputRefused input_faults.TooManyFiles) [] response
IsResponseToBundle bundle_faults.TooLarge response =
    IsResponseTo (InputRefused input_faults.TooLarge) [] response
IsResponseToBundle bundle_faults.Memory response = ⊥

-- ## Builds

-- the counts of a build, by what was counted when its results were collected and by its workers, whose faults are added as long as
-- the sum has 64 bits, with the line that says where its pips came from
abbrev pub counts_in : RetireTally → Worked → Option GraphLine → Counts
counts_in tally worked line = record {
  hits = tally.hits;
  ran = tally.ran;
  late = tally.late;
  faults = min (tally.faults + worked.faults) (2 ^ 64 - 1);
  starved = worked.starved;
  graph = line;
}

-- The response has the status, the output and the notes of what these pips came to.
pub record IsResponseOf (pips : List Pip) (retired : Retired) (worked : Worked) (line : Option GraphLine) (response : Response)
    : Type 0 where
  pub status_is : response.status ≡ gone_status retired.verdicts.items
  pub bytes_are : response.bytes.items ≡ gone_output pips retired.verdicts.items retired.outputs
  pub notes_are : response.notes.items ≡ notes_text (counts_in retired.tally worked line)

-- The response is that of pips that were gone through.
pub record IsGoneResponse (cached : Bool) (workers : ℕ) (change : StoreChange) (response : Response) : Type 0 where
  pub gone : Gone cached workers change
  pub status_is : response.status ≡ gone_status gone.verdicts
  pub bytes_are : response.bytes.items ≡ gone_output gone.pips gone.verdicts gone.files
  pub notes_are : response.notes.items ≡ notes_text gone.counts

-- The response of a build of these pips by so many workers. Whatever the store, its bytes are an output; over a fair
-- store it is that of the sequential build, with the counts of the workers.
pub record IsBuildResponse (pips : List Pip) (tree : Files) (budget : ℕ) (cached : Bool) (workers : ℕ)
    (change : StoreChange) (line : Option GraphLine) (response : Response) : Type 0 where
  pub went : IsGoneResponse cached workers change response
  pub pips_are : went.gone.pips ≡ pips
  pub line_is : went.gone.counts.graph ≡ line
  pub text : IsOutputText response.bytes.items
  pub shown : Fair pips tree budget cached (held_in change.before) (held_in change.now)
      → IsResponseTo (Built pips (one_thread pips tree budget)) (notes_text went.gone.counts) response
  pub built : Fair pips tree budget cached (held_in change.before) (held_in change.now) → NoneReserved tree
      → CountsOf cached workers pips tree budget (one_thread pips tree budget) change went.gone.counts

-- ## Inputs

-- The response is that of pips that were gone through, which keep all rules of the graph, and that the input asks for,
-- if the store of graphs is fair where they were taken from it. A line of the notes says where they came from.
pub record IsGoneTo (order : Order) (input : List ℕ) (change : StoreChange) (graphs : Option StoreChange)
    (response : Response) : Type 0 where
  pub went : IsGoneResponse (uses_store order) (workers_in order) change response
  pub asked : (went.gone.counts.graph ≡ Some Hit → FairGraphStore order input graphs)
      → AsksFor (limits_of order) input went.gone.pips
  pub rules : KeepRulesOf input went.gone.pips
  pub line : TellsLine order input graphs went.gone.pips went.gone.counts.graph

-- the report that a rule of the graph fails
abbrev pub IsRuleReport : List ℕ → Type 0
IsRuleReport text = (rule : GraphKind) × (file : Atoms) × (text ≡ refusal_output (refusal_of (OfGraph rule file)))

-- The response to this input. Whatever the stores, its bytes are an output; a refusal has no notes, and is expected, that
-- by a rule of the graph where the store of graphs is fair; and any other status is that of pips that were gone through.
-- Over fair stores it is the expected one, with its notes.
pub record Responds (order : Order) (input : List ℕ) (change : StoreChange) (graphs : Option StoreChange)
    (response : Response) : Type 0 where
  pub whole : IsWhole response.status
  pub text : IsOutputText response.bytes.items
  pub refused_input : response.status ≡ statuses.InputRefused
      → Expected order input response.status response.bytes.items
  pub refused : IsRefusal response.status → Expected order input response.status response.bytes.items
      ⊎ (IsRuleReport response.bytes.items × (FairGraphStore order input graphs
      → Expected order input response.status response.bytes.items))
  pub quiet : IsRefusal response.status → response.notes.items ≡ []
  pub went : IsGone response.status → IsGoneTo order input change graphs response
  pub expected : FairStore order input (held_in change.before) (held_in change.now) graphs
      → Expected order input response.status response.bytes.items
  pub noted : FairStore order input (held_in change.before) (held_in change.now) graphs
      → IsNoted order input change graphs response.status response.notes.items
