-- What a repair and a trim did, by what their steps did.
use Rattle.std.proofs.Common.{◌≡◌, ℕ, ◌+◌, List, [], ◌∷◌, ◌++◌, codes, filter, length, map, not, Option, Some, Result, Ok, Err, refl, sym, ap, ◌∙◌, subst, inl, inr}
use Rattle.std.specs.Prelude.{IsSome, OnErr, string_bytes}
use Rattle.std.specs.FinMap.{keys}
use Rattle.std.specs.List.{AllByRecursion}
use Rattle.std.proofs.lemmas.List.{append_assoc, length-map, map-append}
use Rattle.std.proofs.lemmas.Option.{same_Some}
use Rattle.bx_io.specs.Holdings.{Change, Drop, Holdings, Keeps, Makes, MakesPrefix, StoreTold, held_in}
use Rattle.bx_io.proofs.Changes.{keeps_makes, keeps_on, makes_some}
use Rattle.prints.specs.Lines.{begins}
use Rattle.two_phase.proofs.Prefixes.{some_of}
use Rattle.cache_care_check.specs.Findings.{IsSurvey}
use Rattle.cache_care_check.specs.declared.surveying.Finding.{Finding}
use Rattle.cache_care_check.specs.declared.surveying.Finding.TheVariants as findings
use Rattle.cache_care_check.specs.declared.surveying.Survey.{Survey}
use Rattle.cache_care.specs.Counts.{CountsMade, IsCount, drop_count}
use Rattle.cache_care.specs.Planning.{IsDrop, OnlyDrops, planned_change}
use Rattle.cache_care.specs.Repairing.{AreRepairs, DoesRepair, DoesRepairInPart, names_found, repairs}
use Rattle.cache_care.specs.Trimming.{DoesTrim, entry_names, is_named, is_selected, list_changes, trims}
use Rattle.cache_care.specs.declared.planning.CareCount.{CareCount}
use Rattle.cache_care.specs.declared.planning.Planned.{Planned}
use Rattle.cache_care.proofs.Dropping.{all_drops, drops_both}
use Rattle.cache_care.proofs.Plans.{keeps_prefix, none_prefix, only_drops, whole_prefix}

-- ## As calls answer

pub on_err : {X E : Type 0} (r : Result X E) (P : Type 0) → P → OnErr r P
on_err (Ok x) P p = tt
on_err (Err e) P p = p

-- ## What is told

-- what is still told after changes was told before them, and before a call that changed nothing
pub told_between : (before between now : StoreTold) (changes : List Change) (S : Holdings) → Keeps before between → Makes between changes now
    → held_in before ≡ Some S → IsSome (held_in now) → held_in between ≡ Some S
told_between before between now changes S keeps makes was tells =
    let last = some_of (held_in now) tells in
    let there = makes_some between now changes last.0 makes last.1 in
    there.1 ∙ sym (keeps.held there.0 there.1) ∙ was

-- the changes that were made are those that were counted
pub counted_made : (before between now : StoreTold) (plan : List Planned) (count : CareCount) → Keeps before between
    → Makes between (map planned_change plan) now → count.dropped ≡ drop_count (map planned_change plan) → CountsMade before now count
counted_made before between now plan count keeps makes dropped = record {
  made = map planned_change plan;
  makes = keeps_makes before between now (map planned_change plan) keeps makes;
  dropped = dropped;
}

-- ## A repair

repairs_drop : (names : List (List ℕ)) (found : List Finding) → AllByRecursion IsDrop (repairs names found)
repairs_drop names found =
    drops_both (map Drop (names_found findings.Bad names found)) (map Drop (names_found findings.Damaged names found))
    (all_drops (names_found findings.Bad names found)) (all_drops (names_found findings.Damaged names found))

pub nothing_dropped : (before now : StoreTold) → Keeps before now → OnlyDrops before now
nothing_dropped before now keeps = only_drops before now [] tt (none_prefix before now [] keeps)

pub repair_drops : (before between now : StoreTold) (survey : Survey) (plan : List Planned) → Keeps before between
    → map planned_change plan ≡ repairs (map string_bytes survey.names.items) survey.findings.items
    → MakesPrefix between now (map planned_change plan) → OnlyDrops before now
repair_drops before between now survey plan keeps is p =
    only_drops before now (map planned_change plan)
    (subst (AllByRecursion IsDrop) (sym is) (repairs_drop (map string_bytes survey.names.items) survey.findings.items))
    (keeps_prefix before between now (map planned_change plan) keeps p)

are_repairs : (S : Holdings) (survey : Survey) (plan : List Planned) → IsSurvey S survey
    → map planned_change plan ≡ repairs (map string_bytes survey.names.items) survey.findings.items → AreRepairs S (map planned_change plan)
are_repairs S survey plan is planned = record {
  found = survey.findings.items;
  findings = is.found;
  changes_are = planned ∙ ap (λ (ns : List (List ℕ)). repairs ns survey.findings.items) is.names;
}

pub repair_done : (S : Holdings) (before between now : StoreTold) (survey : Survey) (plan : List Planned) (count : CareCount) → Keeps before between
    → Makes between (map planned_change plan) now → held_in before ≡ Some S → IsSome (held_in now)
    → ((T : Holdings) → held_in between ≡ Some T → IsSurvey T survey)
    → map planned_change plan ≡ repairs (map string_bytes survey.names.items) survey.findings.items
    → count.dropped ≡ drop_count (map planned_change plan) → count.kept + count.dropped ≡ length survey.names.items
    → DoesRepair S before now count
repair_done S before between now survey plan count keeps makes was tells surveyed planned dropped all =
    let is : IsSurvey S survey = surveyed S (told_between before between now (map planned_change plan) S keeps makes was tells) in
    record {
      changes = map planned_change plan;
      are = are_repairs S survey plan is planned;
      makes = keeps_makes before between now (map planned_change plan) keeps makes;
      counted = record {
        dropped = dropped;
        all = all ∙ sym (length-map survey.names.items string_bytes) ∙ ap (λ (ns : List (List ℕ)). length ns) is.names;
      };
    }

pub repair_cut : (S : Holdings) (before between now : StoreTold) (survey : Survey) (plan : List Planned) → Keeps before between
    → MakesPrefix between now (map planned_change plan) → held_in before ≡ Some S → IsSome (held_in now)
    → ((T : Holdings) → held_in between ≡ Some T → IsSurvey T survey)
    → map planned_change plan ≡ repairs (map string_bytes survey.names.items) survey.findings.items → DoesRepairInPart S before now
repair_cut S before between now survey plan keeps p was tells surveyed planned =
    inr (
      map planned_change plan,
      are_repairs S survey plan (surveyed S (told_between before between now p.made S keeps p.makes was tells)) planned,
      keeps_prefix before between now (map planned_change plan) keeps p,
    )

-- ## A trim

pub trim_done : {X : Type 0} (text : X → List ℕ) (S : Holdings) (keep : ℕ) (before listed between now : StoreTold) (names : List X) (plan : List Planned)
    (count : CareCount) → Keeps before listed → Keeps listed between → Makes between (map planned_change plan) now → held_in before ≡ Some S
    → IsSome (held_in now) → ((T : Holdings) → held_in listed ≡ Some T → map text names ≡ keys T)
    → ((T : Holdings) → held_in between ≡ Some T → map text names ≡ keys T → map planned_change plan ≡ trims T keep)
    → count.dropped ≡ drop_count (map planned_change plan) → count.kept + count.dropped ≡ length names → DoesTrim S keep before now count
trim_done text S keep before listed between now names plan count keeps more makes was tells names_are planned dropped all =
    let told : held_in between ≡ Some S =
    told_between before between now (map planned_change plan) S (keeps_on before listed between keeps more) makes was tells in
    let listing : map text names ≡ keys S = names_are S (more.held S told) in
    let is : map planned_change plan ≡ trims S keep = planned S told listing in
    record {
      makes = subst (λ (cs : List Change). Makes before cs now) is
          (keeps_makes before between now (map planned_change plan) (keeps_on before listed between keeps more) makes);
      counted = record {
        dropped = dropped ∙ ap drop_count is;
        all = all ∙ sym (length-map names text) ∙ ap (λ (ns : List (List ℕ)). length ns) listing;
      };
    }

pub trim_cut : {X : Type 0} (text : X → List ℕ) (S : Holdings) (keep : ℕ) (before listed between now : StoreTold) (names : List X) (plan : List Planned)
    → Keeps before listed → Keeps listed between → MakesPrefix between now (map planned_change plan) → held_in before ≡ Some S
    → IsSome (held_in now) → ((T : Holdings) → held_in listed ≡ Some T → map text names ≡ keys T)
    → ((T : Holdings) → held_in between ≡ Some T → map text names ≡ keys T → map planned_change plan ≡ trims T keep)
    → MakesPrefix before now (trims S keep)
trim_cut text S keep before listed between now names plan keeps more p was tells names_are planned =
    let told : held_in between ≡ Some S = told_between before between now p.made S (keeps_on before listed between keeps more) p.makes was tells in
    subst (λ (cs : List Change). MakesPrefix before now cs) (planned S told (names_are S (more.held S told)))
    (keeps_prefix before between now (map planned_change plan) (keeps_on before listed between keeps more) p)

-- the plan of a trim: entries, then lists, then contents
pub plan_is : {X : Type 0} (text : X → List ℕ) (S : Holdings) (keep : ℕ) (names : List X) (entries lists joined plan : List Planned) → map text names ≡ keys S
    → map planned_change entries ≡ map Drop (filter (λ n. not (is_selected S keep n)) (entry_names S)) → map planned_change lists ≡ list_changes S keep
    → joined ≡ entries ++ lists
    → map planned_change plan ≡ map planned_change joined ++ map Drop (filter (λ n. not (is_named S keep n)) (filter (begins (codes "b/")) (map text names)))
    → map planned_change plan ≡ trims S keep
plan_is text S keep names entries lists joined plan listed of_entries of_lists is last =
    let first : List Change = map Drop (filter (λ n. not (is_selected S keep n)) (entry_names S)) in
    let contents : List Change = map Drop (filter (λ n. not (is_named S keep n)) (filter (begins (codes "b/")) (map text names))) in
    last
    ∙ ap (λ (cs : List Change). cs ++ contents)
    (ap (map planned_change) is ∙ map-append planned_change entries lists ∙ ap (λ (cs : List Change). cs ++ map planned_change lists) of_entries
    ∙ ap (λ (cs : List Change). first ++ cs) of_lists)
    ∙ append_assoc first (list_changes S keep) contents
    ∙ ap (λ (ns : List (List ℕ)). first ++ (list_changes S keep ++ map Drop (filter (λ n. not (is_named S keep n)) (filter (begins (codes "b/")) ns)))) listed
