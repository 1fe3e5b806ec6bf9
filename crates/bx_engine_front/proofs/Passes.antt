-- What the passes come to, one after the other.
use Rattle.std.proofs.Common.{◌≡◌, List, inl, inr, subst, sym}
use Rattle.std.specs.Prelude.{Ok, true}
use Rattle.std.specs.List.{AllByRecursion}
use Rattle.bx_tree.specs.Bundle.{IsInSize}
use Rattle.bx_tree.specs.Trees.{Files}
use Rattle.dscript_eval_meaning.specs.Answers.{Stops}
use Rattle.dscript_eval_meaning.specs.declared.fault.EvalFault.{EvalFault}
use Rattle.dscript_eval_meaning.specs.declared.fault.EvalFault.TheVariants as eval_faults
use Rattle.dscript_program.specs.Workspaces.{ModuleData}
use Rattle.dscript_program.specs.declared.spec_fault.SpecFault.{SpecFault}
use Rattle.dscript_program.specs.declared.spec_fault.SpecFault.TheVariants as spec_faults
use Rattle.dscript_names.specs.Named.{named}
use Rattle.dscript_names.specs.Views as of_names
use Rattle.dscript_program.specs.ProgramData.{ProgramData}
use Rattle.dscript_names_scopes.specs.Declarations.{ParsedData}
use Rattle.dscript_names_workspace.specs.Finding.{Finds}
use Rattle.dscript_names_workspace.specs.Views as of_trees
use Rattle.dscript_names_workspace.specs.Workspaces.{Found}
use Rattle.dscript_names_workspace.proofs.SomeAnswer.{kept}
use Rattle.dscript_types.specs.Faults.{Refuses as RefusesTypes}
use Rattle.dscript_types.specs.declared.fault.TypeFault.{TypeFault}
use Rattle.dscript_types.specs.declared.fault.TypeFault.TheVariants as type_faults
use Rattle.graph_check.specs.Rules.{KeepsRules, IsRefusal as IsBroken}
use Rattle.graph_check.specs.declared.fault.GraphFault.{GraphFault}
use Rattle.graph_check.specs.declared.fault.GraphFault.TheVariants as graph_faults
use Rattle.pip_model_types.specs.declared.pip.Pip.{Pip}
use Rattle.bx_engine_front.specs.FileFaults.{RefusesFiles, RefusesTree}
use Rattle.bx_engine_front.specs.Faults.{IsOfRule, IsRefusal, IsRefused, ShowsEvaluation, ShowsFile, ShowsRule, ShowsTypes}
use Rattle.dscript_names.specs.ProjectFiles.{AreParsed, is_among, paths_of_modules, project_files}
use Rattle.bx_engine_front.specs.Projects.{IsShort}
use Rattle.bx_engine_front.specs.Refusals.{refusal_of}
use Rattle.bx_engine_front.specs.Specifications.{HasFault, IsProgram, IsProgramOf, MakesPips, PassesTypes, Plans, SpecificationFault, OfProgram, OfTypes, OfEvaluation, OfGraph}
use Rattle.bx_engine_front.specs.declared.fault.FrontFault.{FrontFault}
use Rattle.bx_engine_front.specs.declared.fault.FrontFault.TheVariants as front_faults
use Rattle.bx_engine_front.specs.declared.limits.Limits.{Limits}

-- ## Programs

pub refused_modules : (tree : Files) (fault : SpecFault) → of_trees.IsRefused tree fault → RefusesTree tree fault
refused_modules tree (spec_faults.Fault kind path place) h = inl h
refused_modules tree spec_faults.Memory h = h

pub refused_files : (tree : Files) (modules : List ModuleData) (fault : SpecFault) → Finds tree (Found modules)
    → RefusesFiles (project_files tree modules) fault → RefusesTree tree fault
refused_files tree modules (spec_faults.Fault kind path place) h k = inr (inl (modules, h, k))
refused_files tree modules spec_faults.Memory h k = k

pub refused_names : (tree : Files) (modules : List ModuleData) (parsed : List ParsedData) (fault : SpecFault) → Finds tree (Found modules)
    → AreParsed (project_files tree modules) parsed → of_names.IsRefused modules parsed fault → RefusesTree tree fault
refused_names tree modules parsed (spec_faults.Fault kind path place) h k is =
    inr (inr (modules, parsed, record { finds = h; parses = k }, is))
refused_names tree modules parsed spec_faults.Memory h k is = is

pub program_found : (tree : Files) (modules : List ModuleData) (parsed : List ParsedData) (program : ProgramData) → Finds tree (Found modules)
    → AreParsed (project_files tree modules) parsed → named modules parsed ≡ Ok program → IsProgram tree program
program_found tree modules parsed program h k is = record {
  modules = modules;
  parsed = parsed;
  reads = record { finds = h; parses = k };
  names = is;
}

pub program_of_modules : (tree : Files) (modules : List ModuleData) (parsed : List ParsedData) (program : ProgramData) → Finds tree (Found modules)
    → AreParsed (project_files tree modules) parsed → named modules parsed ≡ Ok program → IsProgramOf tree modules program
program_of_modules tree modules parsed program h k is = record { parsed = parsed; reads = record { finds = h; parses = k }; names = is }

pub some_program : (tree : Files) (modules : List ModuleData) (program : ProgramData) → IsProgramOf tree modules program → IsProgram tree program
some_program tree modules program h = record { modules = modules; parsed = h.parsed; reads = h.reads; names = h.names }

-- project files are short where all source files are
pub short_projects : (tree projects : Files) (modules : List ModuleData) → IsInSize tree → projects ≡ project_files tree modules
    → AllByRecursion IsShort projects
short_projects tree projects modules h is =
    subst (AllByRecursion IsShort) (sym is) (kept IsShort (is_among (paths_of_modules modules)) tree h.sizes)

-- ## Refusals

-- a refusal that shows a fault of the tree
shown : (limits : Limits) (tree : Files) (fault : SpecificationFault) (answer : FrontFault) → HasFault limits tree fault
    → IsRefusal (refusal_of fault) answer → IsRefused limits tree answer
shown limits tree fault (front_faults.Refused refusal) h is = record { fault = fault; has = h; shown = is }
shown limits tree fault front_faults.Memory h is = is

-- want of memory refuses nothing
no_memory : (limits : Limits) (tree : Files) (answer : FrontFault) → answer ≡ front_faults.Memory → IsRefused limits tree answer
no_memory limits tree (front_faults.Refused refusal) is = cc
no_memory limits tree front_faults.Memory is = tt

pub tree_refused : (limits : Limits) (tree : Files) (fault : SpecFault) (answer : FrontFault) → RefusesTree tree fault → ShowsFile fault answer
    → IsRefused limits tree answer
tree_refused limits tree (spec_faults.Fault kind path place) answer h is =
    shown limits tree (OfProgram (record { kind = kind; file = path; place = place })) answer h is
tree_refused limits tree spec_faults.Memory answer h is = no_memory limits tree answer is

pub types_refused : (limits : Limits) (tree : Files) (program : ProgramData) (fault : TypeFault) (answer : FrontFault) → limits.types ≡ true
    → IsProgram tree program → RefusesTypes program fault → ShowsTypes fault answer → IsRefused limits tree answer
types_refused limits tree program (type_faults.Untyped file) answer asked h first is =
    shown limits tree (OfTypes file) answer (asked, program, h, first) is
types_refused limits tree program type_faults.Memory answer asked h first is = no_memory limits tree answer is

pub program_refused : (limits : Limits) (tree : Files) (program : ProgramData) (fault : EvalFault) (answer : FrontFault) → IsProgram tree program
    → PassesTypes limits program → Stops program tree limits.eval_budget fault → ShowsEvaluation fault answer → IsRefused limits tree answer
program_refused limits tree program (eval_faults.Fault kind file message) answer h types stops is =
    shown limits tree (OfEvaluation kind file message) answer (program, h, types, stops) is
program_refused limits tree program eval_faults.Memory answer h types stops is = no_memory limits tree answer is

pub pips_refused : (limits : Limits) (tree : Files) (pips : List Pip) (fault : GraphFault) (answer : FrontFault) → MakesPips limits tree pips
    → IsBroken pips tree fault → ShowsRule fault answer → IsRefused limits tree answer
pips_refused limits tree pips (graph_faults.Fault rule pip file) answer h first is =
    shown limits tree (OfGraph rule file) answer (pips, h, pip, first) is
pips_refused limits tree pips graph_faults.Memory answer h first is = no_memory limits tree answer is

memory_of_rule : (answer : FrontFault) → answer ≡ front_faults.Memory → IsOfRule answer
memory_of_rule (front_faults.Refused refusal) is = absurd cc
memory_of_rule front_faults.Memory is = tt

-- what shows a rule is of a rule
pub of_rule : (fault : GraphFault) (answer : FrontFault) → ShowsRule fault answer → IsOfRule answer
of_rule (graph_faults.Fault rule pip file) (front_faults.Refused refusal) is = (rule, file, is)
of_rule (graph_faults.Fault rule pip file) front_faults.Memory is = tt
of_rule graph_faults.Memory answer is = memory_of_rule answer is

-- the plan of the pips over the sources that the tree became
pub planned : (limits : Limits) (tree : Files) (pips planned_pips : List Pip) (sources : Files) → MakesPips limits tree pips → sources ≡ tree
    → planned_pips ≡ pips → KeepsRules pips sources → Plans limits tree planned_pips
planned limits tree pips planned_pips sources makes same is keeps =
    subst (λ (ps : List Pip). Plans limits tree ps) (sym is)
    (record { makes = makes; rules = subst (λ (files : Files). KeepsRules pips files) same keeps })
