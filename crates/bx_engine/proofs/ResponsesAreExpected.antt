-- Responses to inputs.
use Rattle.std.proofs.Common.{◌≡◌, ◌≢◌, ℕ, inl, inr, Bool, List, [], Option, Some, refl, sym, ap, ◌∙◌, subst}
use Rattle.bx_tree.specs.Bundle.{Faults, IsBundle, bundle}
use Rattle.bx_tree.specs.declared.bundle.BundleFault.{BundleFault}
use Rattle.bx_tree.specs.declared.bundle.BundleFault.TheVariants as bundle_faults
use Rattle.bx_engine_front.specs.declared.fault.FrontFault.{FrontFault}
use Rattle.bx_engine_front.specs.declared.fault.FrontFault.TheVariants as front_faults
use Rattle.bx_io.specs.Holdings.{held_in}
use Rattle.bx_tree.specs.Trees.{Files}
use Rattle.bx_engine_words.specs.Words.{workers_in}
use Rattle.bx_engine_words.specs.declared.order.Order.{Order}
use Rattle.build_report.specs.Notes.{notes_text}
use Rattle.build_report.specs.declared.counts.GraphLine.{GraphLine}
use Rattle.build_report.specs.declared.counts.GraphLine.TheVariants.{Hit}
use Rattle.build_report.specs.declared.refusal.Refusal.{Refusal}
use Rattle.build_report.specs.declared.refusal.Refusal.TheVariants.{Input}
use Rattle.bx_engine_front.specs.Graphs.{RefusesBy}
use Rattle.bx_engine_front.specs.Specifications.{Plans}
use Rattle.graph_check.specs.Rules.{KeepsRules}
use Rattle.bx_engine_front.specs.declared.limits.Limits.{Limits}
use Rattle.one_thread.specs.OneThread.{one_thread}
use Rattle.pip_model_types.specs.declared.pip.Pip.{Pip}
use Rattle.retire.specs.Builds.{Fair}
use Rattle.bx_engine.specs.Calls.{StoreChange}
use Rattle.bx_engine.specs.Ending as endings
use Rattle.bx_engine.specs.Ending.{Ending, input_fault_name}
use Rattle.bx_engine.specs.Ends.{AreSources, Ends, HasReserved, RefusesInput}
use Rattle.bx_engine.specs.Expected.{IsExpected, limits_of}
use Rattle.bx_engine.specs.Responses.{IsBuildResponse, IsReportOf, IsResponseTo, IsResponseToBundle, IsResponseToFault, IsRuleReport, Responds}
use Rattle.bx_engine.specs.Statuses.{IsRefusal}
use Rattle.bx_engine.specs.Stores.{AsksFor, FairGraphStore, FairStore, KeepRulesOf, TellsLine, uses_store}
use Rattle.bx_engine.proofs.ExpectedIsWritten.{whole_expected}
use Rattle.bx_engine.proofs.FairPlans.{fair_plan, none_reserved}
use Rattle.bx_engine.proofs.FaultIsNotMemory.{bad_bundle, bad_path, nested, too_large, too_many_files, unordered}
use Rattle.bx_engine.proofs.OutputsAreTrees.{input_text, refusal_text}
use Rattle.bx_engine.proofs.StatusesDiffer.{gone_is, gone_or_refused, gone_whole, refusal_whole}
use Rattle.bx_engine.specs.declared.fault.InputFault.{InputFault}
use Rattle.bx_engine.specs.declared.fault.InputFault.TheVariants as input_faults
use Rattle.bx_engine.specs.declared.response.Response.{Response}
use Rattle.bx_engine.specs.declared.status.Status.TheVariants as statuses

-- ## Reports of refusals

pub input_shown : (fault : InputFault) (name : List ℕ) (response : Response) → name ≡ input_fault_name fault
    → IsReportOf statuses.InputRefused (Input name) response → IsResponseTo (endings.InputRefused fault) [] response
input_shown fault name response is h = record {
  status_is = h.status_is;
  bytes_are = subst (λ (n : List ℕ). response.bytes.items ≡ endings.refusal_output (Input n)) is h.bytes_are;
  notes_are = h.notes_are;
}

pub specification_shown : (refusal : Refusal) (response : Response) → IsReportOf statuses.SpecificationRefused refusal response
    → IsResponseTo (endings.SpecificationRefused refusal) [] response
specification_shown refusal response h = record { status_is = h.status_is; bytes_are = h.bytes_are; notes_are = h.notes_are }

-- a response to an input that ends so is expected
expected_of : (limits : Limits) (input : List ℕ) (ending : Ending) (notes : List ℕ) (response : Response) → Ends limits input ending
    → IsResponseTo ending notes response → IsExpected limits input response.status response.bytes.items
expected_of limits input ending notes response ends h = record {
  ending = ending;
  ends = ends;
  status_is = h.status_is;
  bytes_are = h.bytes_are;
}

-- ## Refused inputs

pub input_responds : (order : Order) (input : List ℕ) (change : StoreChange) (graphs : Option StoreChange) (fault : InputFault) (response : Response) → RefusesInput input fault
    → IsResponseTo (endings.InputRefused fault) [] response → Responds order input change graphs response
input_responds order input change graphs fault response refuses h =
    let expected = expected_of (limits_of order) input (endings.InputRefused fault) [] response refuses h in
    record {
      whole = whole_expected (limits_of order) input response.status response.bytes.items expected;
      text = input_text fault response h;
      refused_input = λ r. expected;
      refused = λ r. inl expected;
      quiet = λ r. h.notes_are;
      went = λ g. absurd (gone_or_refused response.status g (inl h.status_is));
      expected = λ fair. expected;
      noted = λ fair. record { ending = endings.InputRefused fault; ends = refuses; status_is = h.status_is; text_is = h.notes_are };
    }

pub bundle_responds : (order : Order) (input : List ℕ) (change : StoreChange) (graphs : Option StoreChange) (fault : BundleFault) (response : Response)
    → (fault ≢ bundle_faults.Memory → Faults input fault) → IsResponseToBundle fault response → Responds order input change graphs response
bundle_responds order input change graphs bundle_faults.BadBundle response h shows = input_responds order input change graphs input_faults.BadBundle response (h bad_bundle) shows
bundle_responds order input change graphs bundle_faults.BadPath response h shows = input_responds order input change graphs input_faults.BadPath response (h bad_path) shows
bundle_responds order input change graphs bundle_faults.Unordered response h shows = input_responds order input change graphs input_faults.Unordered response (h unordered) shows
bundle_responds order input change graphs bundle_faults.Nested response h shows = input_responds order input change graphs input_faults.Nested response (h nested) shows
bundle_responds order input change graphs bundle_faults.TooManyFiles response h shows =
    input_responds order input change graphs input_faults.TooManyFiles response (h too_many_files) shows
bundle_responds order input change graphs bundle_faults.TooLarge response h shows = input_responds order input change graphs input_faults.TooLarge response (h too_large) shows
bundle_responds order input change graphs bundle_faults.Memory response h shows = absurd shows

-- ## Refused specifications

two_refusals : statuses.InputRefused ≡ statuses.SpecificationRefused → ⊥
two_refusals e = cc

refusal_responds : (order : Order) (input : List ℕ) (change : StoreChange) (graphs : Option StoreChange) (tree : Files) (refusal : Refusal) (response : Response)
    → AreSources input tree → RefusesBy (FairGraphStore order input graphs) (limits_of order) tree (front_faults.Refused refusal)
    → IsResponseTo (endings.SpecificationRefused refusal) [] response → Responds order input change graphs response
refusal_responds order input change graphs tree refusal response sources (inl refuses) h =
    let limits = limits_of order in
    let ends : Ends limits input (endings.SpecificationRefused refusal) = (tree, sources, refuses) in
    record {
      whole = refusal_whole response.status (inr h.status_is);
      text = refusal_text refusal response h;
      refused_input = λ r. absurd (two_refusals (sym r ∙ h.status_is));
      refused = λ r. inl (expected_of limits input (endings.SpecificationRefused refusal) [] response ends h);
      quiet = λ r. h.notes_are;
      went = λ g. absurd (gone_or_refused response.status g (inr h.status_is));
      expected = λ fair. expected_of limits input (endings.SpecificationRefused refusal) [] response ends h;
      noted = λ fair. record {
        ending = endings.SpecificationRefused refusal;
        ends = ends;
        status_is = h.status_is;
        text_is = h.notes_are;
      };
    }
refusal_responds order input change graphs tree refusal response sources (inr rule) h =
    let limits = limits_of order in
    let ends : FairGraphStore order input graphs → Ends limits input (endings.SpecificationRefused refusal) = λ fair. (tree, sources, rule.1 fair) in
    let report : IsRuleReport response.bytes.items = (rule.0.0, rule.0.1, h.bytes_are ∙ ap (λ (r : Refusal). endings.refusal_output r) rule.0.2) in
    record {
      whole = refusal_whole response.status (inr h.status_is);
      text = refusal_text refusal response h;
      refused_input = λ r. absurd (two_refusals (sym r ∙ h.status_is));
      refused = λ r. inr (report, λ fair. expected_of limits input (endings.SpecificationRefused refusal) [] response (ends fair) h);
      quiet = λ r. h.notes_are;
      went = λ g. absurd (gone_or_refused response.status g (inr h.status_is));
      expected = λ fair. expected_of limits input (endings.SpecificationRefused refusal) [] response (ends fair.graph_store) h;
      noted = λ fair. record {
        ending = endings.SpecificationRefused refusal;
        ends = ends fair.graph_store;
        status_is = h.status_is;
        text_is = h.notes_are;
      };
    }

pub fault_responds : (order : Order) (input : List ℕ) (change : StoreChange) (graphs : Option StoreChange) (tree : Files) (fault : FrontFault) (response : Response)
    → IsBundle input tree → (HasReserved tree → ⊥) → RefusesBy (FairGraphStore order input graphs) (limits_of order) tree fault
    → IsResponseToFault fault response → Responds order input change graphs response
fault_responds order input change graphs tree (front_faults.Refused refusal) response bundle free h shows =
    refusal_responds order input change graphs tree refusal response (record { bundle = bundle; free = free }) h shows
fault_responds order input change graphs tree front_faults.Memory response bundle free h shows = absurd shows

-- ## Builds

-- a store that is fair for the input is fair for its plan
is_fair : (order : Order) (input : List ℕ) (change : StoreChange) (graphs : Option StoreChange) (tree : Files) (pips : List Pip) → AreSources input tree → Plans (limits_of order) tree pips
    → FairStore order input (held_in change.before) (held_in change.now) graphs
    → Fair pips tree (limits_of order).tool_budget (uses_store order) (held_in change.before) (held_in change.now)
is_fair order input change graphs tree pips sources plans fair =
    fair_plan (uses_store order) (limits_of order) input (held_in change.before) (held_in change.now) tree pips fair.store sources plans

plan_responds : (order : Order) (input : List ℕ) (change : StoreChange) (graphs : Option StoreChange) (tree : Files) (pips : List Pip) (line : Option GraphLine) (response : Response)
    → AreSources input tree → ((line ≡ Some Hit → FairGraphStore order input graphs) → Plans (limits_of order) tree pips) → KeepsRules pips tree
    → TellsLine order input graphs pips line
    → IsBuildResponse pips tree (limits_of order).tool_budget (uses_store order) (workers_in order) change line response
    → Responds order input change graphs response
plan_responds order input change graphs tree pips line response sources plans rules tells b =
    let limits = limits_of order in
    let results = one_thread pips tree limits.tool_budget in
    let ends : FairGraphStore order input graphs → Ends limits input (endings.Built pips results) =
    λ fair. (tree, sources, record { plans = plans (λ hit. fair); built = refl }) in
    let gone = gone_is response.status b.went.gone.verdicts b.went.status_is in
    let told : TellsLine order input graphs pips b.went.gone.counts.graph =
    subst (λ (l : Option GraphLine). TellsLine order input graphs pips l) (sym b.line_is) tells in
    record {
      whole = gone_whole response.status gone;
      text = b.text;
      refused_input = λ r. absurd (gone_or_refused response.status gone (inl r));
      refused = λ r. absurd (gone_or_refused response.status gone r);
      quiet = λ r. absurd (gone_or_refused response.status gone r);
      went = λ g. record {
        went = b.went;
        asked = λ fair.
            subst (λ (ps : List Pip). AsksFor limits input ps) (sym b.pips_are) (tree, sources, plans (λ hit. fair (b.line_is ∙ hit)));
        rules = subst (λ (ps : List Pip). KeepRulesOf input ps) (sym b.pips_are) (tree, sources, rules);
        line = subst (λ (ps : List Pip). TellsLine order input graphs ps b.went.gone.counts.graph) (sym b.pips_are) told;
      };
      expected = λ fair.
          expected_of limits input (endings.Built pips results) (notes_text b.went.gone.counts) response (ends fair.graph_store)
          (b.shown (is_fair order input change graphs tree pips sources (plans (λ hit. fair.graph_store)) fair));
      noted = λ fair. record {
        ending = endings.Built pips results;
        ends = ends fair.graph_store;
        status_is = (b.shown (is_fair order input change graphs tree pips sources (plans (λ hit. fair.graph_store)) fair)).status_is;
        text_is = (
          tree,
          sources,
          b.went.gone.counts,
          b.built (is_fair order input change graphs tree pips sources (plans (λ hit. fair.graph_store)) fair) (none_reserved tree sources.free),
          told,
          b.went.notes_are,
        );
      };
    }

-- the plan is given with its own sources and budget
pub build_responds : (order : Order) (input : List ℕ) (change : StoreChange) (graphs : Option StoreChange) (tree given : Files) (pips : List Pip) (budget : ℕ) (cached : Bool) (workers : ℕ)
    (line : Option GraphLine) (response : Response) → IsBundle input tree → (HasReserved tree → ⊥)
    → ((line ≡ Some Hit → FairGraphStore order input graphs) → Plans (limits_of order) tree pips) → KeepsRules pips given
    → TellsLine order input graphs pips line → given ≡ tree
    → budget ≡ (limits_of order).tool_budget → cached ≡ uses_store order → workers ≡ workers_in order
    → IsBuildResponse pips given budget cached workers change line response → Responds order input change graphs response
build_responds order input change graphs tree given pips budget cached workers line response bundle free plans rules tells same steps on many b =
    let limits = limits_of order in
    let here : IsBuildResponse pips tree budget cached workers change line response =
    subst (λ (t : Files). IsBuildResponse pips t budget cached workers change line response) same b in
    let there : IsBuildResponse pips tree limits.tool_budget cached workers change line response =
    subst (λ (n : ℕ). IsBuildResponse pips tree n cached workers change line response) steps here in
    let all : IsBuildResponse pips tree limits.tool_budget (uses_store order) (workers_in order) change line response =
    subst (λ (n : ℕ). IsBuildResponse pips tree limits.tool_budget (uses_store order) n change line response) many
    (subst (λ (c : Bool). IsBuildResponse pips tree limits.tool_budget c workers change line response) on there) in
    plan_responds order input change graphs tree pips line response (record { bundle = bundle; free = free }) plans
    (subst (λ (t : Files). KeepsRules pips t) same rules) tells all

-- a build whose pips were gone through is no refusal
pub build_not_refused : (pips : List Pip) (tree : Files) (budget : ℕ) (cached : Bool) (workers : ℕ) (change : StoreChange) (line : Option GraphLine) (response : Response)
    → IsBuildResponse pips tree budget cached workers change line response → IsRefusal response.status → ⊥
build_not_refused pips tree budget cached workers change line response h refused =
    gone_or_refused response.status (gone_is response.status h.went.gone.verdicts h.went.status_is) refused
