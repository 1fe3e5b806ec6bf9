-- The files of a run that succeeded are what its process declares and may make.
use Rattle.std.proofs.Common.{◌≡◌, ℕ, Bool, true, false, cond, ◌&&◌, ◌||◌, ◌==◌, not, List, [], ◌∷◌, Option, Some, None, refl, sym, ap, ◌∙◌, subst, inl, inr}
use Rattle.std.specs.Prelude.{IsTrue, is_none}
use Rattle.std.specs.BTreeMap.{insert_entry}
use Rattle.std.specs.List.{AllByRecursion, list_all, list_any}
use Rattle.std.specs.Option.{option_map_or}
use Rattle.std.specs.Ordering.{match_ordering}
use Rattle.std.specs.declared.cmp.Ordering.{Ordering}
use Rattle.std.specs.declared.cmp.Ordering.TheVariants.{Less, Equal, Greater}
use Rattle.bx_tree.specs.Paths.{Atoms, has_path, path_cmp, same_path}
use Rattle.bx_tree.specs.Trees.{Files, file_at, paths_of}
use Rattle.bx_tree.specs.Orders.{equal_paths, same_path_decides}
use Rattle.bx_tree.specs.Members.{Has}
use Rattle.observed.specs.declared.access.Access.{Access}
use Rattle.observed.specs.declared.access.End.{End}
use Rattle.observed.specs.declared.access.End.TheVariants as ends
use Rattle.pip_model_types.specs.declared.desc.Desc.{Desc}
use Rattle.pip_model_types.specs.declared.outputs.OutDir.{OutDir}
use Rattle.pip_model_types.specs.declared.pip.ProcessDesc.{ProcessDesc}
use Rattle.tool_run_writes.proofs.Unnested.{put_has}
use Rattle.bx_tree.specs.Below.{is_below}
use Rattle.bx_tree.proofs.Members.{all_pass, has_found}
use Rattle.tool_run.specs.Description.{Description, permits}
use Rattle.tool_run.specs.Described.{described}
use Rattle.tool_run.specs.Laws.{RunInvariant}
use Rattle.tool_run.specs.Run.{Run}
use Rattle.tool_run.proofs.Accesses.{holds}
use Rattle.tool_run.proofs.Permitted.{any_dirs}
use Rattle.run_record.specs.Facts.{Facts, Sound, run_for}
use Rattle.run_record.specs.Answered.{answered}
use Rattle.run_record.specs.Outcomes.{complete, completed, first_missing, last_access, outcome_by_end, refused, with_console}
use Rattle.run_record.specs.declared.outcome.Outcome.TheVariants.{Good, Failed}
use Rattle.run_record.specs.declared.outcome.Cause.TheVariants as causes
use Rattle.memo_format.specs.Entries.{output_paths}
use Rattle.memo_format.specs.Found.{output_lines}
use Rattle.two_phase_meaning.specs.Saving.{IsGood, outcome_files}
use Rattle.two_phase_meaning.specs.Usable.{fits, may_make}
use Rattle.pip_model_types.specs.Outputs.{is_console, outdir_paths}

-- ## What a success comes of

abbrev Succeeds : Description → Run → Files → Type 0
Succeeds d r files = (first_missing d.outs r.writes ≡ None) × (with_console d.console r.writes r.console ≡ files)

by_missing : (o : Option Atoms) (made files : Files) → complete o made ≡ Good files → (o ≡ None) × (made ≡ files)
by_missing (Some path) made files e = absurd cc
by_missing None made files e = (refl, cc)

by_code : (t : Bool) (d : Description) (r : Run) (code : ℕ) (files : Files) → cond t (completed d r) (Failed (causes.Exit code)) ≡ Good files → Succeeds d r files
by_code true d r code files e = by_missing (first_missing d.outs r.writes) (with_console d.console r.writes r.console) files e
by_code false d r code files e = absurd cc

not_refused : (o : Option Access) (files : Files) → refused o ≡ Good files → ⊥
not_refused (Some access) files e = cc
not_refused None files e = cc

success : (d : Description) (r : Run) (end : End) (files : Files) → outcome_by_end d r end ≡ Good files → Succeeds d r files
success d r (ends.Exit code) files e = by_code (code == 0) d r code files e
success d r ends.Denied files e = absurd (not_refused (last_access r.accesses) files e)
success d r ends.BadProgram files e = absurd cc
success d r ends.BadPath files e = absurd cc
success d r ends.Budget files e = absurd cc
success d r ends.TooLong files e = absurd cc
success d r ends.NotADirectory files e = absurd cc

-- ## Paths of files

there_by : (t : Bool) (f : Atoms × List ℕ) (fs : Files) (q : Atoms) → same_path f.0 q ≡ t → (is_none (file_at fs q) ≡ false → Has (paths_of fs) q)
    → is_none (cond t (Some f.1) (file_at fs q)) ≡ false → Has (paths_of (f ∷ fs)) q
there_by true f fs q same more h = inl ((same_path_decides f.0 q).0 same)
there_by false f fs q other more h = inr (more h)

there : (files : Files) (q : Atoms) → is_none (file_at files q) ≡ false → Has (paths_of files) q
there [] q e = absurd cc
there (f ∷ fs) q e = there_by (same_path f.0 q) f fs q refl (there fs q) e

put_keeps : (files : Files) (path : Atoms) (bytes : List ℕ) (q : Atoms) → Has (paths_of files) q → Has (paths_of (insert_entry path_cmp files path bytes)) q
put_keeps [] path bytes q h = absurd h
put_keeps (f ∷ fs) path bytes q h = by_order (path_cmp path f.0) (insert_entry path_cmp fs path bytes) (put_keeps fs path bytes q) h
  where
    by_order : (o : Ordering) (rest : Files) → (Has (paths_of fs) q → Has (paths_of rest) q) → Has (paths_of (f ∷ fs)) q
        → Has (paths_of (match_ordering o ((path, bytes) ∷ f ∷ fs) ((f.0, bytes) ∷ fs) (f ∷ rest))) q
    by_order Less rest more h = inr h
    by_order Equal rest more h = h
    by_order Greater rest more h = elim h [ inl e ↦ inl e | inr k ↦ inr (more k) ]

put_there : (files : Files) (path : Atoms) (bytes : List ℕ) → Has (paths_of (insert_entry path_cmp files path bytes)) path
put_there [] path bytes = inl refl
put_there (f ∷ fs) path bytes = by_order (path_cmp path f.0) refl (insert_entry path_cmp fs path bytes) (put_there fs path bytes)
  where
    by_order : (o : Ordering) → path_cmp path f.0 ≡ o → (rest : Files) → Has (paths_of rest) path
        → Has (paths_of (match_ordering o ((path, bytes) ∷ f ∷ fs) ((f.0, bytes) ∷ fs) (f ∷ rest))) path
    by_order Less e rest more = inl refl
    by_order Equal e rest more = inl (sym (equal_paths path f.0 e))
    by_order Greater e rest more = inr more

pub paths_lines : (files : Files) → output_paths (output_lines files) ≡ paths_of files
paths_lines [] = refl
paths_lines (f ∷ fs) = ap (λ ps. f.0 ∷ ps) (paths_lines fs)

-- ## Output files

all_by : (t : Bool) (out : Atoms) (outs : List Atoms) (files : Files) (paths : List Atoms) → is_none (file_at files out) ≡ t
    → (Has (paths_of files) out → Has paths out) → (first_missing outs files ≡ None → list_all (has_path paths) outs ≡ true)
    → cond t (Some out) (first_missing outs files) ≡ None → list_all (has_path paths) (out ∷ outs) ≡ true
all_by true out outs files paths missing within more h = absurd cc
all_by false out outs files paths held within more h =
    ap (λ t. t && list_all (has_path paths) outs) (has_found paths out (within (there files out held))) ∙ more h

all_there : (outs : List Atoms) (files : Files) (paths : List Atoms) → ((q : Atoms) → Has (paths_of files) q → Has paths q) → first_missing outs files ≡ None
    → list_all (has_path paths) outs ≡ true
all_there [] files paths within e = refl
all_there (out ∷ outs) files paths within e =
    all_by (is_none (file_at files out)) out outs files paths refl (within out) (all_there outs files paths within) e

with_within : (console : Option Atoms) (files : Files) (said : List ℕ) (q : Atoms) → Has (paths_of files) q → Has (paths_of (with_console console files said)) q
with_within None files said q h = h
with_within (Some path) files said q h = put_keeps files path said q h

console_there : (console : Option Atoms) (files : Files) (said : List ℕ) → option_map_or (has_path (paths_of (with_console console files said))) console true ≡ true
console_there None files said = refl
console_there (Some path) files said = has_found (paths_of (with_console (Some path) files said)) path (put_there files path said)

-- ## What may be made

made_by : (a b b' c : Bool) → b ≡ b' → ((a || b') && not c) ≡ true → (a || c || b) ≡ true
made_by true b b' c e h = refl
made_by false b true true e h = refl
made_by false b true false e h = e
made_by false b false c e h = absurd cc

permitted_made : (d : Desc) (q : Atoms) → permits (described d) q ≡ true → may_make d.process q ≡ true
permitted_made d q h =
    made_by (has_path d.process.outs q) (list_any (λ (dir : OutDir). is_below q dir.path) d.process.outdirs)
    (list_any (λ dir. is_below q dir) (outdir_paths d.process.outdirs)) (is_console d.process.console q) (any_dirs q d.process.outdirs) h

permitted_at : (d : Description) (files : Files) (q : Atoms) → AllByRecursion (λ (f : Atoms × List ℕ). IsTrue (permits d f.0)) files → Has (paths_of files) q
    → permits d q ≡ true
permitted_at d [] q h k = absurd k
permitted_at d (f ∷ fs) q h k = elim k [ inl e ↦ subst (λ (p : Atoms). permits d p ≡ true) e h.0 | inr r ↦ permitted_at d fs q h.1 r ]

console_made : (p : ProcessDesc) (path q : Atoms) → p.console ≡ Some path → path ≡ q → may_make p q ≡ true
console_made p path q is e =
    ap (λ (c : Option Atoms). has_path p.outs q || is_console c q || list_any (λ (dir : OutDir). is_below q dir.path) p.outdirs) is
    ∙ ap (λ t. has_path p.outs q || t || list_any (λ (dir : OutDir). is_below q dir.path) p.outdirs) ((same_path_decides path q).1 e)
    ∙ middle (has_path p.outs q) (list_any (λ (dir : OutDir). is_below q dir.path) p.outdirs)
  where
    middle : (a b : Bool) → (a || true || b) ≡ true
    middle true b = refl
    middle false b = refl

made_with : (d : Desc) (console : Option Atoms) (files : Files) (said : List ℕ) (q : Atoms) → d.process.console ≡ console
    → ((p : Atoms) → Has (paths_of files) p → permits (described d) p ≡ true) → Has (paths_of (with_console console files said)) q → may_make d.process q ≡ true
made_with d None files said q is all h = permitted_made d q (all q h)
made_with d (Some path) files said q is all h = elim (put_has files path said q h) [
  | inl e ↦ console_made d.process path q is e
  | inr k ↦ permitted_made d q (all q k)
]

-- ## Records

all_three : (a b c : Bool) → a ≡ true → b ≡ true → c ≡ true → (a && b && c) ≡ true
all_three a b c ha hb hc = ap (λ x. x && b && c) ha ∙ ap (λ y. true && y && c) hb ∙ ap (λ z. true && true && z) hc

run_fits : (d : Desc) (r : Run) (files : Files) → AllByRecursion (λ (f : Atoms × List ℕ). IsTrue (permits (described d) f.0)) r.writes
    → Succeeds (described d) r files → fits d.process (paths_of files) ≡ true
run_fits d r files permitted s =
    subst (λ (fs : Files). fits d.process (paths_of fs) ≡ true) s.1
    (all_three (list_all (has_path (paths_of (with_console d.process.console r.writes r.console))) d.process.outs) _ _
    (all_there d.process.outs r.writes (paths_of (with_console d.process.console r.writes r.console)) (with_within d.process.console r.writes r.console) s.0)
    (console_there d.process.console r.writes r.console)
    (all_pass (may_make d.process) (paths_of (with_console d.process.console r.writes r.console))
    (λ q h. made_with d d.process.console r.writes r.console q refl (λ p k. permitted_at (described d) r.writes p permitted k) h)))

pub files_fit : (f : Facts) → Sound f → IsGood f → fits f.desc.process (output_paths (output_lines (outcome_files f.outcome))) ≡ true
files_fit f sound good =
    let a = answered f.paths f.answers in
    let r : Run = run_for f.desc a in
    let lawful : RunInvariant (described f.desc) a r = holds (described f.desc) a in
    subst (λ (ps : List Atoms). fits f.desc.process ps ≡ true) (sym (paths_lines (outcome_files f.outcome)))
    (run_fits f.desc r (outcome_files f.outcome) lawful.permitted (success (described f.desc) r r.end (outcome_files f.outcome) (sound.run.outcome ∙ good)))
