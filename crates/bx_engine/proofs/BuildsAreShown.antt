-- The response of a build, by what its pips came to.
use Rattle.std.proofs.Common.{◌≡◌, ℕ, ◌+◌, ◌-◌, ◌*◌, ◌^◌, ◌≤◌, Bool, true, false, List, length, min, Option, Some, refl, ap, ◌∙◌, arith}
use Rattle.std.specs.Prelude.{IfOk, IsSome, OnOk, Result as Answer, Ok, Err}
use Rattle.std.specs.List.{AllByRecursion}
use Rattle.bx_tree.specs.Paths.{IsPath}
use Rattle.bx_tree.specs.Trees.{Files, paths_of}
use Rattle.bx_io.specs.Holdings.{Holdings, held_in}
use Rattle.one_thread.specs.Outputs.{AreOutputs}
use Rattle.build_report.specs.Notes.{notes_text}
use Rattle.build_report.specs.declared.counts.GraphLine.{GraphLine}
use Rattle.pip_model_types.specs.declared.pip.Pip.{Pip}
use Rattle.one_thread.specs.OneThread.{one_thread, outputs_of, run_count, verdicts_of}
use Rattle.violations.specs.declared.verdict.Verdict.{Verdict}
use Rattle.retire.specs.Runs.{NoneReserved}
use Rattle.retire.specs.Builds.{Fair, IsBuild, IsFair, LeavesUsable}
use Rattle.retire.specs.Counts.{CountsWithin}
use Rattle.retire.specs.declared.retiring.Retired.{Retired}
use Rattle.bx_engine.specs.Calls.{StoreChange}
use Rattle.bx_engine.specs.Crews.{AreThrough}
use Rattle.bx_engine.specs.Counting.{AreCounts, CountsOf, given_files, gone_output, gone_status}
use Rattle.bx_engine.specs.Ending.{Built}
use Rattle.bx_engine.specs.Responses.{IsBuildResponse, IsGoneResponse, IsResponseOf, IsResponseTo, counts_in}
use Rattle.bx_engine.specs.declared.crew.Worked.{Worked}
use Rattle.bx_engine.specs.declared.response.Response.{Response}
use Rattle.bx_engine.proofs.FairPlans.{fair_at, fair_is}
use Rattle.bx_engine.proofs.OutputsAreTrees.{gone_text}

-- What is known of how the pips were gone through.
pub record Went (pips : List Pip) (tree : Files) (budget : ℕ) (cached : Bool) (workers : ℕ) (change : StoreChange) (retired : Retired) (worked : Worked) : Type 0 where
  pub build : Fair pips tree budget cached (held_in change.before) (held_in change.now)
      → IsBuild pips tree budget retired.verdicts.items retired.outputs retired.tally.hits retired.tally.ran
  pub number : length retired.verdicts.items ≡ length pips
  pub counted : retired.tally.hits + retired.tally.ran ≡ run_count pips retired.verdicts.items
  pub places : AreOutputs retired.outputs
  pub late : retired.tally.late ≤ retired.tally.ran
  pub unused : cached ≡ false → (retired.tally.hits ≡ 0) × (retired.tally.faults ≡ 0)
  pub within : cached ≡ true → (S : Holdings) → held_in change.before ≡ Some S → IsSome (held_in change.now) → IsFair pips tree budget S
      → CountsWithin pips tree budget S retired.tally.hits retired.tally.late retired.tally.faults
  pub usable : cached ≡ true → (S : Holdings) → held_in change.before ≡ Some S → IsFair pips tree budget S → NoneReserved tree
      → retired.tally.faults ≡ 0 → LeavesUsable pips tree budget change.now
  pub faults : (b : ℕ) → change.bound ≡ Some b → change.faults_before + retired.tally.faults ≤ change.faults_now + b
  pub seen : retired.tally.faults ≡ 0 → change.faults_now ≡ change.faults_before
  pub through : AreThrough cached change.bound workers worked.faults worked.starved
  pub more : retired.tally.faults ≤ min (retired.tally.faults + worked.faults) (2 ^ 64 - 1)

-- one more worker
one_times_more : (b n : ℕ) → b * (n + 1) ≡ b * n + b
one_times_more b n = grind arith

are_counts : (pips : List Pip) (tree : Files) (budget : ℕ) (cached : Bool) (workers : ℕ) (change : StoreChange) (retired : Retired) (worked : Worked) (line : Option GraphLine)
    → Went pips tree budget cached workers change retired worked → AreCounts cached workers change (counts_in retired.tally worked line)
are_counts pips tree budget cached workers change retired worked line went = record {
  some_late = went.late;
  few_starved = went.through.few_starved;
  few_faults = λ b is.
      let one = went.faults b is in
      let others = went.through.few_faults b is in
      let all : b * (workers + 1) ≡ b * workers + b = one_times_more b workers in
      omega (arith, one, others, all);
  seen = λ none. let more = went.more in went.seen (omega (arith, none, more));
  unused = λ off.
      let own = went.unused off in
      let others = went.through.unread off in
      (own.0, omega (arith, own.1, others));
}

abbrev gone_response : (pips : List Pip) (tree : Files) (budget : ℕ) (cached : Bool) (workers : ℕ) (change : StoreChange) (retired : Retired) (worked : Worked) (line : Option GraphLine) (response : Response)
    → Went pips tree budget cached workers change retired worked → IsResponseOf pips retired worked line response → IsGoneResponse cached workers change response
gone_response pips tree budget cached workers change retired worked line response went h = record {
  gone = record {
    pips = pips;
    verdicts = retired.verdicts.items;
    files = retired.outputs;
    counts = counts_in retired.tally worked line;
    one_each = went.number;
    counted = are_counts pips tree budget cached workers change retired worked line went;
    hit_or_ran = went.counted;
  };
  status_is = h.status_is;
  bytes_are = h.bytes_are;
  notes_are = h.notes_are;
}

counts_of : (pips : List Pip) (tree : Files) (budget : ℕ) (cached : Bool) (workers : ℕ) (change : StoreChange) (retired : Retired) (worked : Worked) (line : Option GraphLine)
    → Went pips tree budget cached workers change retired worked → Fair pips tree budget cached (held_in change.before) (held_in change.now) → NoneReserved tree
    → CountsOf cached workers pips tree budget (one_thread pips tree budget) change (counts_in retired.tally worked line)
counts_of pips tree budget cached workers change retired worked line went fair free = record {
  counted = are_counts pips tree budget cached workers change retired worked line went;
  hit_or_ran = went.counted ∙ ap (λ (vs : List Verdict). run_count pips vs) (went.build fair).verdicts_are;
  within = λ on S is.
      let at = fair_at pips tree budget cached (held_in change.before) (held_in change.now) fair on in
      let own = went.within on S is at.tells (fair_is pips tree budget (held_in change.before) (held_in change.now) S at is) in
      record {
        hits_are = own.hits_are;
        late_are = λ numbers set. let late = own.late_are numbers set in let more = went.more in omega (arith, late, more);
      };
  usable = λ on none.
      let at = fair_at pips tree budget cached (held_in change.before) (held_in change.now) fair on in
      let more = went.more in
      went.usable on at.held at.told at.fair free (omega (arith, none, more));
}

-- the response to these results
shown : (pips : List Pip) (tree : Files) (budget : ℕ) (retired : Retired) (worked : Worked) (line : Option GraphLine) (response : Response)
    → IsBuild pips tree budget retired.verdicts.items retired.outputs retired.tally.hits retired.tally.ran → IsResponseOf pips retired worked line response
    → IsResponseTo (Built pips (one_thread pips tree budget)) (notes_text (counts_in retired.tally worked line)) response
shown pips tree budget retired worked line response build h =
    let results = one_thread pips tree budget in
    let status : response.status ≡ gone_status (verdicts_of results) =
    h.status_is ∙ ap (λ (vs : List Verdict). gone_status vs) build.verdicts_are in
    let bytes : response.bytes.items ≡ gone_output pips (verdicts_of results) (outputs_of results) =
    h.bytes_are ∙ ap (λ (vs : List Verdict). gone_output pips vs retired.outputs) build.verdicts_are
    ∙ ap (λ (fs : Files). gone_output pips (verdicts_of results) fs) build.outputs_are in
    record {
      status_is = status;
      bytes_are = bytes;
      notes_are = h.notes_are;
    }

pub build_response : (pips : List Pip) (tree : Files) (budget : ℕ) (cached : Bool) (workers : ℕ) (change : StoreChange) (retired : Retired) (worked : Worked) (line : Option GraphLine) (response : Response)
    → Went pips tree budget cached workers change retired worked → IsResponseOf pips retired worked line response
    → AllByRecursion IsPath (paths_of (given_files retired.verdicts.items retired.outputs)) → IsBuildResponse pips tree budget cached workers change line response
build_response pips tree budget cached workers change retired worked line response went h paths = record {
  went = gone_response pips tree budget cached workers change retired worked line response went h;
  pips_are = refl;
  line_is = refl;
  text = gone_text pips retired.verdicts.items retired.outputs response.bytes.items h.bytes_are went.places paths;
  shown = λ fair. shown pips tree budget retired worked line response (went.build fair) h;
  built = λ fair free. counts_of pips tree budget cached workers change retired worked line went fair free;
}

-- what follows from two facts of an answer
pub both_ok : {X E : Type 0} (r : Answer X E) (P Q : X → Type 0) (R : Type 0) → ((x : X) → P x → R → Q x) → IfOk r P → OnOk r R → IfOk r Q
both_ok (Ok x) P Q R f p s = f x p s
both_ok (Err y) P Q R f p s = tt
