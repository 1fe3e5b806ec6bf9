-- A store that was honest is honest, and what was usable is usable.
use Rattle.std.proofs.Common.{◌≡◌, cond, List, [], ◌∷◌, map, Option, Some, None, refl, ap, sym, ◌∙◌, subst, inl, inr}
use Rattle.sha2.specs.Sha256.{sha256}
use Rattle.bx_tree.specs.Trees.{Files}
use Rattle.bx_io.specs.Holdings.{Holdings}
use Rattle.observed.specs.Asks.{same_ask}
use Rattle.observed.specs.declared.ask.Ask.{Ask}
use Rattle.observed.specs.declared.access.Answer.{Answer}
use Rattle.pip_model_types.specs.declared.desc.Desc.{Desc}
use Rattle.tool_text.specs.declared.tool.Instr.{Instr}
use Rattle.tool_run.specs.Described.{described}
use Rattle.tool_run.specs.Description.{Description}
use Rattle.tool_run.specs.Run.{Run}
use Rattle.run_record.specs.Answered as now_answers
use Rattle.run_record.specs.Digests.{weak_of}
use Rattle.run_record.specs.Outcomes.{outcome_of}
use Rattle.run_record.specs.declared.outcome.Outcome.TheVariants.{Good}
use Rattle.prints.specs.Strong as now_strong
use Rattle.memo_format.specs.declared.entry.Entry.{Entry}
use Rattle.memo_format.specs.declared.selector.Selector.{Selector}
use Rattle.two_phase_meaning.specs.Honest as now_honest
use Rattle.two_phase_meaning.specs.Usable as now_usable
use Rattle.before_patterns.specs.Asks.{WereAsks}
use Rattle.before_patterns.specs.Runs as old_runs
use Rattle.before_patterns.specs.Stores as old
use Rattle.before_patterns.specs.StrongTexts as old_strong
use Rattle.before_patterns.specs.Tools as old_tools
use Rattle.before_patterns.specs.Tools.{IsNoSecond}
use Rattle.before_patterns.proofs.SameAsks.{one_same}
use Rattle.before_patterns.proofs.SameRuns.{described_same, paths_same, run_same}
use Rattle.before_patterns.proofs.SameTexts.{no_match, paths_read, strong_read, strong_same}
use Rattle.before_patterns.proofs.SameTools.{no_second}
use mathlib.Core.Path.{fun_ext}

-- ## Runs

each_answer : (asks : List Ask) (given : List Answer) (q : Ask) → WereAsks asks → old.answered asks given q ≡ now_answers.answered asks given q
each_answer [] given q h = refl
each_answer (x ∷ xs) [] q h = refl
each_answer (x ∷ xs) (a ∷ given) q h =
    ap (λ t. cond t a (old.answered xs given q)) (one_same x q h.0) ∙ ap (λ (r : Answer). cond (same_ask x q) a r) (each_answer xs given q h.1)

answers_same : (asks : List Ask) (given : List Answer) → WereAsks asks → old.answered asks given ≡ now_answers.answered asks given
answers_same asks given h = fun_ext (λ q. each_answer asks given q h)

-- a process that succeeded ran a tool of then
was_tool : (d : Desc) (a : Ask → Answer) (files : Files) → outcome_of (old_runs.described d) (old_runs.run_of (old_runs.described d) a) ≡ Good files → IsNoSecond d.exe
was_tool d a files e = by_tool (old_tools.tool_of d.exe) refl e
  where
    by_tool : (o : Option (List Instr)) → old_tools.tool_of d.exe ≡ o → outcome_of (old_runs.described d) (old_runs.run_tool (old_runs.described d) a o) ≡ Good files → IsNoSecond d.exe
    by_tool None is e = cc
    by_tool (Some tool) is e = no_second d.exe tool is

good_run : (d : Desc) (a : Ask → Answer) (asks : List Ask) (files : Files) → old.IsGoodRun (old_runs.described d) a asks files → now_honest.IsGoodRun (described d) a asks files
good_run d a asks files h =
    let none : IsNoSecond d.exe = was_tool d a files h.outcome in
    record {
      paths_are = paths_same d a none ∙ h.paths_are;
      outcome =
          ap (λ (r : Run). outcome_of (described d) r) (run_same d a none)
          ∙ ap (λ (x : Description). outcome_of x (old_runs.run_of (old_runs.described d) a)) (sym (described_same d none)) ∙ h.outcome;
    }

-- ## Honest stores

entry_stays : (S : Holdings) (e : Entry) → old.HonestEntry S e → now_honest.HonestEntry S e
entry_stays S e h =
    let read = paths_read h.paths.0 h.asks h.paths.2 in
    record {
      desc = h.desc;
      asks = h.asks;
      given = h.given;
      files = h.files;
      weak = h.weak;
      paths = (h.paths.0, h.paths.1, read.1);
      strong = (
        h.strong.0,
        h.strong.1,
        strong_read h.strong.0 (old_strong.strong_parts e.weak e.paths h.given) h.strong.2
            ∙ ap (λ v. Some (now_strong.strong_parts v e.weak e.paths h.given)) (sym (no_match h.asks read.0)),
      );
      one_each = h.one_each;
      declared = h.declared;
      answers = h.answers;
      made = h.made;
      outputs = h.outputs;
      run = good_run h.desc (now_answers.answered h.asks h.given) h.asks h.files
          (subst (λ a. old.IsGoodRun (old_runs.described h.desc) a h.asks h.files) (answers_same h.asks h.given read.0) h.run);
    }

pub honest_stays : (S : Holdings) → old.Honest S → now_honest.Honest S
honest_stays S h e held = entry_stays S e (h e held)

-- ## Usable selectors

by_stays : (S : Holdings) (d : Desc) (see : Ask → Answer) (s : Selector) → old.UsableBy S d see s → now_usable.UsableBy S d see s
by_stays S d see s u =
    let read = paths_read u.paths.0 u.asks u.paths.2 in
    record {
      asks = u.asks;
      paths = (u.paths.0, u.paths.1, read.1);
      asked = ap sha256 (strong_same u.asks (weak_of d) s.paths (map see u.asks) read.0) ∙ u.asked;
      entry = u.entry;
      held = u.held;
      weak_is = u.weak_is;
      paths_are = u.paths_are;
      fit = u.fit;
      unnested = u.unnested;
      files = u.files;
      outputs = u.outputs;
      made = u.made;
    }

any_stays : (S : Holdings) (d : Desc) (see : Ask → Answer) (list : List Selector) → old.AnyUsable S d see list → now_usable.AnyUsable S d see list
any_stays S d see [] h = h
any_stays S d see (s ∷ rest) (inl u) = inl (by_stays S d see s u)
any_stays S d see (s ∷ rest) (inr h) = inr (any_stays S d see rest h)

pub usable_stays : (S : Holdings) (d : Desc) (see : Ask → Answer) → old.Usable S d see → now_usable.Usable S d see
usable_stays S d see u = record { list = u.list; held = u.held; any = any_stays S d see u.list u.any }
