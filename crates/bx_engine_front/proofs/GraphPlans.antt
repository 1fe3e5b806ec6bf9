-- Pips that come from a store of graphs.
use Rattle.std.proofs.Common.{◌≡◌, ℕ, ◌≤◌, Bool, true, false, cond, List, [], ◌∷◌, Option, Some, None, Result, Ok, Err, inl, inr, refl, sym, ap, subst, ◌∙◌, arith}
use Rattle.std.specs.Prelude.{IfOk, IsSome, MatchResult, is_some}
use Rattle.std.specs.List.{AllByRecursion}
use Rattle.std.proofs.lemmas.Option.{same_Some}
use Rattle.bx_io.specs.Causes.{IsWithin, Rose}
use Rattle.bx_io.specs.Holdings.{Change, Holdings, Keeps, StoreTold, held_in, holdings_after}
use Rattle.bx_io.specs.Told.{Stays}
use Rattle.bx_io.proofs.Changes.{keeps_makes, keeps_on, makes_none, nothing_before}
use Rattle.bx_tree.proofs.Lists.{all_append}
use Rattle.bx_tree.proofs.Members.{all_has}
use Rattle.bx_tree.specs.Members.{Has}
use Rattle.bx_tree.specs.Orders.{same_path_decides}
use Rattle.bx_tree.specs.Paths.{Atoms, has_path, same_path}
use Rattle.bx_tree.specs.Trees.{Files, IsTree, file_at, paths_of}
use Rattle.build_report.specs.declared.counts.GraphLine.{GraphLine}
use Rattle.build_report.specs.declared.counts.GraphLine.TheVariants.{Hit, Ran, Fault}
use Rattle.dscript_eval_meaning.specs.Meaning.{Made, answered_meaning, meaning, pips_of}
use Rattle.dscript_names.specs.ProjectFiles.{paths_of_modules}
use Rattle.dscript_names_workspace.proofs.ModuleSources.{own_files}
use Rattle.dscript_names_workspace.proofs.SomeAnswer.{kept}
use Rattle.dscript_names_workspace.specs.Finding.{Finds}
use Rattle.dscript_names_workspace.specs.ModuleLaws.{AreSpecifications}
use Rattle.dscript_names_workspace.specs.Workspaces.{Found}
use Rattle.dscript_program.specs.ProgramData.{ProgramData}
use Rattle.dscript_program.specs.Views.{program_data}
use Rattle.dscript_program.specs.Workspaces.{ModuleData}
use Rattle.dscript_program.specs.declared.program.Program.{Program}
use Rattle.dscript_sdk_calls.specs.Sources.{tree_answers}
use Rattle.graph_memo.specs.Finding.{FindsGraph, IsFound, Leads}
use Rattle.graph_memo.specs.Keeping.{KeepsAll, KeepsUpTo, LeavesHonest}
use Rattle.graph_memo.specs.declared.finding.GraphFound.{GraphFound}
use Rattle.graph_memo.specs.declared.finding.GraphFound.TheVariants as found_as
use Rattle.graph_memo_meaning.specs.Compared.{ComparedInFind, ComparedInKeep}
use Rattle.graph_memo_meaning.specs.Contents.{entry_for, made_of}
use Rattle.graph_memo_meaning.specs.Honest.{HonestGraphs}
use Rattle.graph_memo_meaning.specs.Usable.{HasUsableGraph, UsableGraph}
use Rattle.graph_memo_meaning.specs.Work.{Evaluates, IsWork, Work, own_answers}
use Rattle.graph_texts.specs.Keys.{HasKey}
use Rattle.graph_texts.specs.declared.entry.GraphEntry.{GraphEntry}
use Rattle.pip_model_types.specs.declared.pip.Pip.{Pip}
use Rattle.run_record.specs.Collisions.{NoCollision}
use Rattle.two_phase.proofs.Applied.{keeps_then_all, told_before}
use Rattle.two_phase.proofs.Prefixes.{some_of}
use Rattle.two_phase.specs.Calls.{ReaderCall}
use Rattle.bx_engine_front.specs.Graphs.{ComparedGraphs, EvaluatedTells, EvaluatesIn, FairGraphs, FromGraphs, GraphsLeft, IsTypedIn, OnlyKeepsGraph, TellsGraph, TellsGraphs, typed_data, work_in}
use Rattle.bx_engine_front.specs.Specifications.{IsProgram, IsProgramOf, MakesPips, PassesTypes}
use Rattle.bx_engine_front.specs.StoreChanges.{StoreChange, change_of}
use Rattle.bx_engine_front.specs.declared.limits.Limits.{Limits}
use Rattle.bx_engine_front.proofs.OneProgram.{one_program, one_workspace}
use Rattle.bx_engine_front.proofs.Passes.{program_found, some_program}

-- ## What is evaluated

-- a path of some file is that of a file
there_later : (f : Atoms × List ℕ) (fs : Files) (p : Atoms) → IsSome (file_at fs p) → IsSome (file_at (f ∷ fs) p)
there_later f fs p h = by_test (same_path f.0 p)
  where
    by_test : (b : Bool) → IsSome (cond b (Some f.1) (file_at fs p))
    by_test true = refl
    by_test false = h

there_first : (f : Atoms × List ℕ) (fs : Files) (p : Atoms) → p ≡ f.0 → same_path f.0 f.0 ≡ true → IsSome (file_at (f ∷ fs) p)
there_first f fs p is same =
    subst (λ (q : Atoms). IsSome (file_at (f ∷ fs) q)) (sym is) (ap (λ b. is_some (cond b (Some f.1) (file_at fs f.0))) same)

-- files of the tree, in its order, are files of the tree
own_there : (tree : Files) (paths : List Atoms) → AreSpecifications tree paths → AllByRecursion (λ p. IsSome (file_at tree p)) paths
own_there tree paths own =
    subst (AllByRecursion (λ (p : Atoms). IsSome (file_at tree p))) own.in_order
    (kept (λ p. IsSome (file_at tree p)) (has_path paths) (paths_of tree)
    (all_has (λ p. IsSome (file_at tree p)) (paths_of tree) (all_there tree)))
  where
    all_there : (fs : Files) (p : Atoms) → Has (paths_of fs) p → IsSome (file_at fs p)
    all_there [] p h = absurd h
    all_there (f ∷ fs) p h = elim h [
      | inl is ↦ there_first f fs p (sym is) ((same_path_decides f.0 f.0).1 refl)
      | inr k ↦ there_later f fs p (all_there fs p k)
    ]

all_own : (tree : Files) (modules : List ModuleData) → AllByRecursion (λ m. AreSpecifications tree m.files) modules
    → AllByRecursion (λ p. IsSome (file_at tree p)) (paths_of_modules modules)
all_own tree [] own = tt
all_own tree (m ∷ ms) own =
    all_append (λ p. IsSome (file_at tree p)) m.files (paths_of_modules ms) (own_there tree m.files own.0) (all_own tree ms own.1)

pub is_work : (limits : Limits) (tree : Files) (modules : List ModuleData) → IsTree tree → Finds tree (Found modules)
    → HasKey limits.eval_budget modules → IsWork (work_in limits tree modules)
is_work limits tree modules is finds key = record {
  has_key = key;
  tree = is;
  files = all_own tree modules (own_files tree modules is finds);
}

abbrev OverSources : Type 0
OverSources =
    (p : ProgramData) (sources : Files) (budget : ℕ) → pips_of (answered_meaning p (tree_answers sources) budget) ≡ meaning p sources budget

-- what evaluation makes of the modules of a tree is what the tree makes
pub made_pips : OverSources → (limits : Limits) (tree : Files) (modules : List ModuleData) (made : Made) → Finds tree (Found modules)
    → EvaluatesIn limits tree modules made → MakesPips limits tree made.0
made_pips over limits tree modules made finds all = let e = all.evaluates in record {
  program = e.program;
  is_program = program_found tree modules e.parsed e.program finds e.parses e.names;
  types = all.types;
  evaluates = sym (over e.program tree limits.eval_budget) ∙ ap pips_of e.makes;
}

-- what a program of the modules of a tree makes is evaluated
pub evaluated_there : (limits : Limits) (tree : Files) (modules : List ModuleData) (program : ProgramData) (made : Made)
    → IsProgramOf tree modules program → PassesTypes limits program
    → answered_meaning program (tree_answers tree) limits.eval_budget ≡ Ok made → EvaluatesIn limits tree modules made
evaluated_there limits tree modules program made h types is = record {
  evaluates = record {
    parsed = h.parsed;
    parses = h.reads.parses;
    program = program;
    names = h.names;
    makes = is;
  };
  types = types;
}

-- where types are to be checked and were, those of the one program of the modules pass
pub typed_passes : (limits : Limits) (tree : Files) (modules : List ModuleData) (typed : Option ProgramData) (program : ProgramData)
    → IsTypedIn limits tree modules typed → IsProgram tree program → PassesTypes limits program
typed_passes limits tree modules (Some other) program h is =
    subst (λ (p : ProgramData). PassesTypes limits p) (one_program tree other program (some_program tree modules other h.0) is) h.1
typed_passes limits tree modules None program h is = λ asked. absurd (true_or_false (sym asked ∙ h))
  where
    true_or_false : true ≡ false → ⊥
    true_or_false e = cc

-- the program that was read, where one was
pub typed_program : (limits : Limits) (tree : Files) (modules : List ModuleData) (typed : Option Program) (program : Program) → typed ≡ Some program
    → IsTypedIn limits tree modules (typed_data typed)
    → IsProgramOf tree modules (program_data program) × PassesTypes limits (program_data program)
typed_program limits tree modules typed program is h = subst (λ (t : Option Program). IsTypedIn limits tree modules (typed_data t)) is h

-- where none was read, types are not to be checked
pub untyped_passes : (limits : Limits) (tree : Files) (modules : List ModuleData) (typed : Option Program) (program : ProgramData) → typed ≡ None
    → IsTypedIn limits tree modules (typed_data typed) → PassesTypes limits program
untyped_passes limits tree modules typed program is h = λ asked.
    let off : limits.types ≡ false = subst (λ (t : Option Program). IsTypedIn limits tree modules (typed_data t)) is h in
    absurd (true_or_false (sym asked ∙ off))
  where
    true_or_false : true ≡ false → ⊥
    true_or_false e = cc

-- ## Readers

-- what was found in what the reader told is found in what the store told, where it still tells
pub looked : (told held after now : Option Holdings) (w : Work) (found : GraphFound) → held ≡ told → Stays held after → (IsSome now → IsSome after)
    → FindsGraph after w found → (G : Holdings) → told ≡ Some G → IsSome now → IsFound G w found
looked told held after now w found is stays still finds G was tells =
    let last = some_of after (still tells) in
    let same : last.0 ≡ G = same_Some last.0 G (sym (stays last.0 last.1) ∙ is ∙ was) in
    subst (λ (S : Holdings). IsFound S w found) same (finds last.0 last.1)

-- a reader that may not fail answers no fault
pub never_fails : (h0 h1 : Option Holdings) (b0 b1 : Option ℕ) (f0 f1 : ℕ) (fault : Type 0) → ReaderCall h0 h1 b0 b1 f0 f1 fault → b0 ≡ Some 0 → f0 ≡ 0
    → fault → ⊥
never_fails h0 h1 b0 b1 f0 f1 fault call is zero failed =
    let start : IsWithin b0 f0 = λ most same. omega (arith, zero) in
    let end : f1 ≤ 0 = call.within start 0 (call.bound_is ∙ is) in
    let rose : Rose 0 f1 = subst (λ (n : ℕ). Rose n f1) zero (call.cause.rose failed) in
    omega (arith, end, rose)

-- ## Collisions

apart_find : (G : Holdings) (w : Work) → NoCollision (ComparedGraphs G w) → NoCollision (ComparedInFind G w)
apart_find G w none = λ x y a b e. none x y (inl a) (inl b) e

apart_keep : (G : Holdings) (w : Work) (made : Made) → Evaluates w (own_answers w) made → NoCollision (ComparedGraphs G w)
    → NoCollision (ComparedInKeep G w made.1)
apart_keep G w made e none = λ x y a b same. none x y (inr (made, e, a)) (inr (made, e, b)) same

-- ## Hits

abbrev HitLaw : Type 0
HitLaw =
    (G : Holdings) (w : Work) (e : GraphEntry) → HonestGraphs G → IsWork w → NoCollision (ComparedInFind G w)
    → UsableGraph G w e → Evaluates w (own_answers w) (made_of e)

-- the pips of a usable entry of a fair store are those that the tree makes
hit_makes : OverSources → HitLaw → (limits : Limits) (tree : Files) (modules : List ModuleData) (typed : Option ProgramData) (before now : Option Holdings)
    (pips : List Pip) → IsTree tree → Finds tree (Found modules) → HasKey limits.eval_budget modules → IsTypedIn limits tree modules typed
    → ((G : Holdings) → before ≡ Some G → IsSome now → Leads G (work_in limits tree modules) pips)
    → FairGraphs limits tree before now → MakesPips limits tree pips
hit_makes over law limits tree modules typed before now pips is finds key passes found fair =
    let w = work_in limits tree modules in
    let f = fair modules finds in
    let leads = found f.held f.told f.tells in
    let e : Evaluates w (own_answers w) (made_of leads.entry) =
    law f.held w leads.entry f.honest (is_work limits tree modules is finds key) (apart_find f.held w f.apart) leads.usable in
    subst (λ (ps : List Pip). MakesPips limits tree ps) leads.pips_are
    (made_pips over limits tree modules (made_of leads.entry) finds
    (record {
      evaluates = e;
      types = typed_passes limits tree modules typed e.program passes (program_found tree modules e.parsed e.program finds e.parses e.names);
    }))

-- what is told after a call that changed nothing is what was told before it
same_told : (before now : StoreTold) (G S : Holdings) → Keeps before now → held_in before ≡ Some G → held_in now ≡ Some S → G ≡ S
same_told before now G S keeps was is = same_Some G S (sym was ∙ keeps.held S is)

hit_tells : (w : Work) (change : StoreChange) (pips : List Pip) → Keeps change.before change.now → change.faults_now ≡ change.faults_before
    → ((G : Holdings) → held_in change.before ≡ Some G → IsSome (held_in change.now) → Leads G w pips) → TellsGraph w change pips Hit
hit_tells w change pips keeps same found = record {
  hit = λ e G was tells. found G was tells;
  kept = λ e. keeps;
  ran = λ e. absurd (line_differs e);
  fault = λ e. absurd (fault_differs e);
  seen = λ no. same;
  usable = λ no G S was is.
      let leads = found G was (told_some (held_in change.now) S is) in
      subst (λ (T : Holdings). HasUsableGraph T w) (same_told change.before change.now G S keeps was is) (leads.entry, leads.usable);
}
  where
    line_differs : Hit ≡ Ran → ⊥
    line_differs e = cc

    fault_differs : Hit ≡ Fault → ⊥
    fault_differs e = cc

    told_some : (told : Option Holdings) (S : Holdings) → told ≡ Some S → IsSome told
    told_some told S is = subst (λ (t : Option Holdings). IsSome t) (sym is) refl

-- ## What is evaluated and kept

abbrev KeepLaw : Type 0
KeepLaw =
    (held : Holdings) (before now : StoreTold) (w : Work) (made : Made) → held_in before ≡ Some held → IsSome (held_in now) → IsWork w
    → Evaluates w (own_answers w) made → KeepsUpTo before now w made → HonestGraphs held → NoCollision (ComparedInKeep held w made.1)
    → LeavesHonest held before now

abbrev UsableLaw : Type 0
UsableLaw =
    (held after : Holdings) (before now : StoreTold) (w : Work) (made : Made) → held_in before ≡ Some held → held_in now ≡ Some after
    → KeepsAll before now w made → UsableGraph after w (entry_for w (own_answers w) made)

pub unchanged_left : (limits : Limits) (tree : Files) (change : StoreChange) → Keeps change.before change.now → change.faults_before ≤ change.faults_now
    → GraphsLeft limits tree change
unchanged_left limits tree change keeps later = record {
  only = inl keeps;
  later = later;
  honest = λ held was tells honest fair. record {
    made = [];
    makes = makes_none change.before change.now keeps;
    along = λ start p. subst (λ (cs : List Change). HonestGraphs (holdings_after held cs)) (sym (nothing_before start p)) honest;
  };
}

pub kept_left : KeepLaw → (limits : Limits) (tree : Files) (modules : List ModuleData) (change : StoreChange) (made : Made) → IsTree tree
    → Finds tree (Found modules) → HasKey limits.eval_budget modules → EvaluatesIn limits tree modules made
    → KeepsUpTo change.before change.now (work_in limits tree modules) made → change.faults_before ≤ change.faults_now
    → GraphsLeft limits tree change
kept_left law limits tree modules change made is finds key all keeps later =
    let w = work_in limits tree modules in
    let e = all.evaluates in
    record {
      only = inr (modules, finds, made, all, keeps);
      later = later;
      honest = λ held was tells honest fair.
          let f = fair modules finds in
          let same : f.held ≡ held = same_Some f.held held (sym f.told ∙ was) in
          law held change.before change.now w made was tells (is_work limits tree modules is finds key) e keeps honest
          (apart_keep held w made e (subst (λ (G : Holdings). NoCollision (ComparedGraphs G w)) same f.apart));
    }

-- what was put whole was not cut off
pub kept_whole : {E : Type 0} (kept : Bool) → kept ≡ true → ◌≡◌ {A = Result Bool E} (Ok kept) (Ok false) → ⊥
kept_whole kept is other = cc

-- the line of pips that were evaluated, where a reader failed before or not, and all was put or not
abbrev line_of : Bool → Bool → GraphLine
line_of failed kept = cond failed Fault (cond kept Ran Fault)

pub evaluated_tells : UsableLaw → (w : Work) (change : StoreChange) (made : Made) (failed kept : Bool) (line : GraphLine) → Evaluates w (own_answers w) made
    → (kept ≡ true → KeepsAll change.before change.now w made) → (kept ≡ false → Rose change.faults_before change.faults_now)
    → (kept ≡ true → change.faults_now ≡ change.faults_before) → line ≡ line_of failed kept → EvaluatedTells w change failed line
evaluated_tells law w change made true kept line e all rose same is = record {
  no_hit = λ h. hit_or_fault (sym h ∙ is);
  ran = λ h. absurd (ran_or_fault (sym h ∙ is));
  fault = λ h no. absurd (true_or_false no);
  seen = λ no. absurd (no is);
  usable = λ no. absurd (no is);
}
  where
    hit_or_fault : Hit ≡ Fault → ⊥
    hit_or_fault e = cc

    ran_or_fault : Ran ≡ Fault → ⊥
    ran_or_fault e = cc

    true_or_false : true ≡ false → ⊥
    true_or_false e = cc
evaluated_tells law w change made false true line e all rose same is = record {
  no_hit = λ h. hit_or_ran (sym h ∙ is);
  ran = λ h. refl;
  fault = λ h no. absurd (fault_or_ran (sym h ∙ is));
  seen = λ no. same refl;
  usable = λ no G S was now. (entry_for w (own_answers w) made, law G S change.before change.now w made was now (all refl));
}
  where
    hit_or_ran : Hit ≡ Ran → ⊥
    hit_or_ran e = cc

    fault_or_ran : Fault ≡ Ran → ⊥
    fault_or_ran e = cc
evaluated_tells law w change made false false line e all rose same is = record {
  no_hit = λ h. hit_or_fault (sym h ∙ is);
  ran = λ h. absurd (ran_or_fault (sym h ∙ is));
  fault = λ h no. rose refl;
  seen = λ no. absurd (no is);
  usable = λ no. absurd (no is);
}
  where
    hit_or_fault : Hit ≡ Fault → ⊥
    hit_or_fault e = cc

    ran_or_fault : Ran ≡ Fault → ⊥
    ran_or_fault e = cc

-- ## One call after another

-- a store that still tells in the end told before what was evaluated was put
told_between : (limits : Limits) (tree : Files) (between now : StoreTold) → OnlyKeepsGraph limits tree between now → IsSome (held_in now)
    → (T : Holdings) × (held_in between ≡ Some T)
told_between limits tree between now only tells =
    let last = some_of (held_in now) tells in
    elim only [
      | inl keeps ↦ (last.0, keeps.held last.0 last.1)
      | inr kept ↦ told_before kept.4.first between now last.0 last.1 kept.4.applies
    ]

-- what was told before a call that changed nothing is told after it
told_here : (limits : Limits) (tree : Files) (before between now : StoreTold) (G : Holdings) → Keeps before between
    → OnlyKeepsGraph limits tree between now → held_in before ≡ Some G → IsSome (held_in now) → held_in between ≡ Some G
told_here limits tree before between now G keeps only was tells =
    let there = told_between limits tree between now only tells in
    there.1 ∙ ap Some (same_Some there.0 G (sym (keeps.held there.0 there.1) ∙ was))

only_after : (limits : Limits) (tree : Files) (before between now : StoreTold) → Keeps before between → OnlyKeepsGraph limits tree between now
    → OnlyKeepsGraph limits tree before now
only_after limits tree before between now keeps (inl same) = inl (keeps_on before between now keeps same)
only_after limits tree before between now keeps (inr kept) = inr (
  kept.0,
  kept.1,
  kept.2,
  kept.3,
  record {
    first = kept.4.first;
    are = kept.4.are;
    applies = keeps_then_all kept.4.first before between now keeps kept.4.applies;
  },
)

fair_between : (limits : Limits) (tree : Files) (before between now : StoreTold) → Keeps before between → OnlyKeepsGraph limits tree between now
    → FairGraphs limits tree (held_in before) (held_in now) → FairGraphs limits tree (held_in between) (held_in now)
fair_between limits tree before between now keeps only fair = λ modules finds.
    let f = fair modules finds in
    record {
      held = f.held;
      told = told_here limits tree before between now f.held keeps only f.told f.tells;
      tells = f.tells;
      honest = f.honest;
      apart = f.apart;
    }

-- where a store was looked into, what is left is what is left of it afterwards
pub left_after : (limits : Limits) (tree : Files) (before between now : StoreTold) (bound other : Option ℕ) (m k n : ℕ) → Keeps before between → m ≡ k
    → GraphsLeft limits tree (change_of between now other k n) → GraphsLeft limits tree (change_of before now bound m n)
left_after limits tree before between now bound other m k n keeps same left = record {
  only = only_after limits tree before between now keeps left.only;
  later = omega (arith, same, left.later);
  honest = λ held was tells honest fair.
      let there = left.honest held (told_here limits tree before between now held keeps left.only was tells) tells honest
      (fair_between limits tree before between now keeps left.only fair) in
      record { made = there.made; makes = keeps_makes before between now there.made keeps there.makes; along = there.along };
}

-- and what is said of where the pips came from is said of the whole
tells_after : (limits : Limits) (tree : Files) (w : Work) (before between now : StoreTold) (bound other : Option ℕ) (m k n : ℕ) (failed : Bool)
    (pips : List Pip) (line : GraphLine) → Keeps before between → m ≡ k → OnlyKeepsGraph limits tree between now
    → (failed ≡ true → bound ≡ Some 0 → ⊥)
    → (failed ≡ false → (G : Holdings) → held_in before ≡ Some G → IsSome (held_in between) → HasUsableGraph G w → ⊥)
    → EvaluatedTells w (change_of between now other k n) failed line → TellsGraph w (change_of before now bound m n) pips line
tells_after limits tree w before between now bound other m k n failed pips line keeps same only fails none h = record {
  hit = λ e. absurd (h.no_hit e);
  kept = λ e. absurd (h.no_hit e);
  ran = λ e G was tells.
      let there = told_between limits tree between now only tells in
      none (h.ran e) G was (some_told there.0 there.1);
  fault = λ e no. by_failed failed refl e no;
  seen = λ no. h.seen no ∙ sym same;
  usable = λ no G S was is. h.usable no G S (told_here limits tree before between now G keeps only was (some_now S is)) is;
}
  where
    some_told : (T : Holdings) → held_in between ≡ Some T → IsSome (held_in between)
    some_told T is = subst (λ (t : Option Holdings). IsSome t) (sym is) refl

    some_now : (T : Holdings) → held_in now ≡ Some T → IsSome (held_in now)
    some_now T is = subst (λ (t : Option Holdings). IsSome t) (sym is) refl

    by_failed : (b : Bool) → failed ≡ b → line ≡ Fault → bound ≡ Some 0 → Rose m n
    by_failed true is e other = absurd (fails is other)
    by_failed false is e other = subst (λ (i : ℕ). Rose i n) (sym same) (h.fault e is)

-- ## What a build is told

-- the modules of a tree are one list
tells_all : (limits : Limits) (tree : Files) (modules : List ModuleData) (change : StoreChange) (pips : List Pip) (line : GraphLine)
    → Finds tree (Found modules) → TellsGraph (work_in limits tree modules) change pips line → TellsGraphs limits tree change pips line
tells_all limits tree modules change pips line finds tells = λ others there.
    subst (λ (ms : List ModuleData). TellsGraph (work_in limits tree ms) change pips line) (one_workspace tree modules others finds there) tells

-- pips of a usable entry
pub hit_from : OverSources → HitLaw → (limits : Limits) (tree : Files) (modules : List ModuleData) (typed : Option ProgramData) (change : StoreChange) (pips : List Pip)
    → IsTree tree → Finds tree (Found modules) → HasKey limits.eval_budget modules → IsTypedIn limits tree modules typed → Keeps change.before change.now
    → change.faults_now ≡ change.faults_before
    → ((G : Holdings) → held_in change.before ≡ Some G → IsSome (held_in change.now) → IsFound G (work_in limits tree modules) (found_as.Hit pips))
    → FromGraphs limits tree change pips Hit
hit_from over law limits tree modules typed change pips is finds key passes keeps same found = record {
  makes = λ fair. hit_makes over law limits tree modules typed (held_in change.before) (held_in change.now) pips is finds key passes found (fair refl);
  tells = tells_all limits tree modules change pips Hit finds (hit_tells (work_in limits tree modules) change pips keeps same found);
}

-- pips that were evaluated after a look into the store
pub evaluated_from : {X E : Type 0} (limits : Limits) (tree : Files) (modules : List ModuleData) (before between now : StoreTold) (bound other : Option ℕ)
    (m k n : ℕ) (failed : Bool) (pips : X → List Pip) (line : X → GraphLine) (fault : E → Type 0) (r : Result X E) → Finds tree (Found modules)
    → Keeps before between → m ≡ k → OnlyKeepsGraph limits tree between now → (failed ≡ true → bound ≡ Some 0 → ⊥)
    → (failed ≡ false → (G : Holdings) → held_in before ≡ Some G → IsSome (held_in between) → HasUsableGraph G (work_in limits tree modules) → ⊥)
    → MatchResult r (λ (x : X). MakesPips limits tree (pips x)) fault
    → IfOk r (λ (x : X). EvaluatedTells (work_in limits tree modules) (change_of between now other k n) failed (line x))
    → IfOk r (λ (x : X). FromGraphs limits tree (change_of before now bound m n) (pips x) (line x))
evaluated_from limits tree modules before between now bound other m k n failed pips line fault (Err e) finds keeps same only fails none makes tells = tt
evaluated_from limits tree modules before between now bound other m k n failed pips line fault (Ok x) finds keeps same only fails none makes tells = record {
  makes = λ fair. makes;
  tells =
      tells_all limits tree modules (change_of before now bound m n) (pips x) (line x) finds
      (tells_after limits tree (work_in limits tree modules) before between now bound other m k n failed (pips x) (line x) keeps same only fails none tells);
}

-- what a store found is no entry
pub none_found : (limits : Limits) (tree : Files) (modules : List ModuleData) (before between : StoreTold)
    → ((G : Holdings) → held_in before ≡ Some G → IsSome (held_in between) → IsFound G (work_in limits tree modules) found_as.Miss)
    → false ≡ false → (G : Holdings) → held_in before ≡ Some G → IsSome (held_in between) → HasUsableGraph G (work_in limits tree modules) → ⊥
none_found limits tree modules before between found e = found
