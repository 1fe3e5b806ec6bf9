-- What the files of a process that succeeded are.
use Rattle.std.proofs.Common.{◌≡◌, ◌⊎◌, ℕ, ◌==◌, Bool, true, false, ◌||◌, not, cond, List, [], ◌∷◌, Option, Some, None, refl, sym, subst, inl, inr, IsTrue}
use Rattle.std.specs.List.{AllByRecursion, list_any}
use Rattle.std.specs.Option.{option_to_list}
use Rattle.std.proofs.lemmas.Bool.{or_cases, and_parts}
use Rattle.bx_tree.specs.Paths.{Atoms, IsBelow, same_path}
use Rattle.bx_tree.specs.Trees.{Files, paths_of}
use Rattle.bx_tree.specs.Members.{Has}
use Rattle.observed.specs.declared.access.Access.{Access}
use Rattle.observed.specs.declared.access.End.{End}
use Rattle.observed.specs.declared.access.End.TheVariants as ends
use Rattle.tool_run_writes.proofs.Unnested.{put_has}
use Rattle.bx_tree.specs.Below.{is_below}
use Rattle.bx_tree.proofs.BelowPaths.{below_decides}
use Rattle.bx_tree.proofs.Members.{has_front, found_has}
use Rattle.pip_model_types.specs.declared.desc.Desc.{Desc}
use Rattle.pip_model_types.specs.declared.outputs.OutDir.{OutDir}
use Rattle.pip_model_types.specs.declared.pip.PipKind.TheVariants.{Process}
use Rattle.run_record.specs.Outcomes.{complete, first_missing, last_access, outcome_by_end, outcome_of, refused, with_console}
use Rattle.run_record.specs.declared.outcome.Outcome.TheVariants.{Good, Failed}
use Rattle.run_record.specs.declared.outcome.Cause.TheVariants as causes
use Rattle.tool_run.specs.Described.{described}
use Rattle.tool_run.specs.Description.{Description, permits}
use Rattle.tool_run.specs.Run.{Run}
use Rattle.one_thread.specs.Keeping.{Makes}
use Rattle.pip_model_types.specs.Outputs.{is_console, outdir_paths}

-- ## What a pip may make

any_dir : (dirs : List OutDir) (path : Atoms) → list_any (λ dir. is_below path dir) (outdir_paths dirs) ≡ true
    → (dir : OutDir) × Has dirs dir × IsBelow path dir.path
any_dir [] path e = cc
any_dir (dir ∷ dirs) path e = elim (or_cases (is_below path dir.path) (list_any (λ d. is_below path d) (outdir_paths dirs)) e) [
  | inl here ↦ (dir, inl refl, (below_decides path dir.path).0 here)
  | inr more ↦ let rest = any_dir dirs path more in (rest.0, inr rest.1, rest.2)
]

-- what a run may write its process makes
permitted_makes : (x : Desc) (path : Atoms) → permits (described x) path ≡ true → Makes (Process x.process) path
permitted_makes x path e =
    let files = list_any (λ out. same_path out path) x.process.outs in
    let dirs = list_any (λ dir. is_below path dir) (outdir_paths x.process.outdirs) in
    elim (or_cases files dirs (and_parts (files || dirs) (not (is_console x.process.console path)) e).0) [
      | inl out ↦ inl (has_front x.process.outs (option_to_list x.process.console) path (found_has x.process.outs path out))
      | inr dir ↦ inr (any_dir x.process.outdirs path dir)
    ]

permitted_at : (d : Description) (writes : Files) (path : Atoms) → AllByRecursion (λ f. IsTrue (permits d f.0)) writes → Has (paths_of writes) path
    → permits d path ≡ true
permitted_at d [] path all h = absurd h
permitted_at d (f ∷ fs) path all h = elim h [
  | inl same ↦ subst (λ (p : Atoms). permits d p ≡ true) same all.0
  | inr more ↦ permitted_at d fs path all.1 more
]

pub written_makes : (x : Desc) (writes : Files) (path : Atoms) → AllByRecursion (λ f. IsTrue (permits (described x) f.0)) writes
    → Has (paths_of writes) path → Makes (Process x.process) path
written_makes x writes path all h = permitted_makes x path (permitted_at (described x) writes path all h)

-- ## The files of a process

-- a file is the console file, or was written
pub with_console_has : (console : Option Atoms) (writes : Files) (said : List ℕ) (path : Atoms) → Has (paths_of (with_console console writes said)) path
    → Has (option_to_list console) path ⊎ Has (paths_of writes) path
with_console_has None writes said path h = inr h
with_console_has (Some file) writes said path h = elim (put_has writes file said path h) [ inl same ↦ inl (inl same) | inr more ↦ inr more ]

same_files : (a b : Files) → Good a ≡ Good b → a ≡ b
same_files a b e = cc

of_complete : (missing : Option Atoms) (made files : Files) → complete missing made ≡ Good files → files ≡ made
of_complete None made files e = sym (same_files made files e)
of_complete (Some path) made files e = cc

of_refused : (last : Option Access) (files : Files) → refused last ≡ Good files → ⊥
of_refused None files e = cc
of_refused (Some access) files e = cc

of_exit : (t : Bool) (code : ℕ) (missing : Option Atoms) (made files : Files)
    → cond t (complete missing made) (Failed (causes.Exit code)) ≡ Good files → files ≡ made
of_exit true code missing made files e = of_complete missing made files e
of_exit false code missing made files e = cc

of_end : (d : Description) (r : Run) (end : End) (files : Files) → outcome_by_end d r end ≡ Good files → files ≡ with_console d.console r.writes r.console
of_end d r (ends.Exit code) files e =
    of_exit (code == 0) code (first_missing d.outs r.writes) (with_console d.console r.writes r.console) files e
of_end d r ends.Denied files e = absurd (of_refused (last_access r.accesses) files e)
of_end d r ends.BadProgram files e = cc
of_end d r ends.BadPath files e = cc
of_end d r ends.Budget files e = cc
of_end d r ends.TooLong files e = cc
of_end d r ends.NotADirectory files e = cc

-- the files of a run that is good
pub good_files : (d : Description) (r : Run) (files : Files) → outcome_of d r ≡ Good files → files ≡ with_console d.console r.writes r.console
good_files d r files e = of_end d r r.end files e
