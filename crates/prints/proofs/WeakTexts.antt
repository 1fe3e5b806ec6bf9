-- What a weak text is read as.
use Rattle.std.proofs.Common.{◌≡◌, ℕ, suc, ◌+◌, true, false, cond, ◌==◌, List, [], ◌∷◌, ◌++◌, length, map, codes, Option, Some, None, Result, Ok, Err, IfOk, refl, sym, ap, subst, ◌∙◌, append_assoc, arith}
use Rattle.std.specs.List.{AllByRecursion, flat_map}
use Rattle.std.specs.List.Sorted.{IsStrictlySortedBy}
use Rattle.std.specs.Cmp.Lexicographic.{slice_cmp}
use Rattle.std.specs.Ordering.{is_lt, nat_cmp, ordering_then}
use Rattle.std.specs.declared.cmp.Ordering.{Ordering}
use Rattle.std.specs.declared.cmp.Ordering.TheVariants.{Less, Equal, Greater}
use Rattle.std.specs.Cmp.{IsTotalOrder}
use Rattle.std.proofs.lemmas.Bool.{and_from, lt-ltb}
use Rattle.std.proofs.lemmas.List.{append-nil, length-map, map-id}
use Rattle.std.proofs.lemmas.List.Concat.{flat_map-cons}
use Rattle.bx_tree.specs.Paths.{Atoms, IsPath, path_cmp}
use Rattle.bx_tree.specs.Orders.{path_cmp_total}
use Rattle.bx_tree.specs.declared.file_input.FileInput.{FileInput}
use Rattle.bx_tree.specs.declared.file_input.FileInput.TheVariants.{Source}
use Rattle.pip_model_types.specs.Dirs.{RiseByForm, dir_cmp, dir_path, form_rank}
use Rattle.pip_model_types.specs.Inputs.{RiseByPath}
use Rattle.pip_model_types.specs.Orders.{dir_cmp_total, outdir_cmp_total}
use Rattle.pip_model_types.specs.declared.args.EnvPair.{EnvPair}
use Rattle.pip_model_types.specs.declared.dir_inputs.SealForm.{SealForm}
use Rattle.pip_model_types.specs.declared.dir_inputs.DirInput.{DirInput}
use Rattle.pip_model_types.specs.declared.dir_inputs.DirInput.TheVariants.{Sealed, Opaque}
use Rattle.pip_model_types.specs.declared.outputs.OutDir.{OutDir}
use Rattle.prints.specs.Forms.{IsForm}
use Rattle.prints.specs.Lines.{begins, rises}
use Rattle.prints.specs.Reading.{Gives, both_at}
use Rattle.prints.specs.Combining.{after_form, as_form, both_form, form_of, only_form, pair_form, whole_again, whole_read}
use Rattle.prints.proofs.LineLists.{lines_form}
use Rattle.prints.proofs.Rising.{rising_sorted, rising_sorted_by, sorted_by_rising, sorted_rising}
use Rattle.prints.specs.declared.fault.PrintFault.{PrintFault}
use Rattle.prints.specs.declared.fault.PrintFault.TheVariants as faults
use Rattle.prints.specs.declared.weak_reading.Head.{Head}
use Rattle.prints.specs.declared.weak_reading.Lists.{Lists}
use Rattle.prints.specs.declared.weak_lines.DirLine.{DirLine}
use Rattle.prints.specs.declared.weak_lines.FileLine.{FileLine}
use Rattle.prints.specs.declared.weak_parts.WeakParts.{WeakParts}
use Rattle.prints.specs.Processes.{AreListsWeak, IsCountable, IsDirLine, IsFileLine, IsOutDir, IsVariable, IsWeak, numbered_from, with_pip, without_pips}
use Rattle.prints.specs.ReadWeak.{args_at, digests_of, dir_before, dir_of, dirs_from, envs_at, file_before, indirs_at, ins_at, lists_from, lists_of, not_after, outdir_before, outdirs_at, outs_at, parts_of, path_before, read_weak_text, sources_of, weak_at}
use Rattle.prints.specs.Weak.{arg_line, dir_line, env_line, file_lines, head_text, in_line, indir_line, out_line, outdir_line, weak_text}
use Rattle.prints.proofs.InOrder.{sources_rise}
use Rattle.prints.specs.LineForms.{IsHead, arg_form, env_form, head_form, head_tuple, in_form, indir_form, out_form, outdir_form}
use Rattle.bx_tree.specs.FileInputs.{input_path}

-- ## The lists

-- no line with this word follows
abbrev pub NoMore : List ℕ → List ℕ → Type 0
NoMore word text = begins word text ≡ false

pub args_form : IsForm (AllByRecursion IsCountable) (NoMore (codes "arg ")) (flat_map arg_line) args_at
unfolding args_at
args_form = lines_form (begins (codes "arg ")) arg_form (λ x rest. refl) refl

pub envs_form : IsForm (λ vs. AllByRecursion IsVariable vs × (rises not_after vs ≡ true)) (NoMore (codes "env ")) (flat_map env_line) envs_at
unfolding envs_at
envs_form = only_form (rises not_after) (lines_form (begins (codes "env ")) env_form (λ x rest. refl) refl)

ins_form : IsForm (λ fs. AllByRecursion IsFileLine fs × (rises file_before fs ≡ true)) (NoMore (codes "in ")) (flat_map in_line) ins_at
unfolding ins_at
ins_form = only_form (rises file_before) (lines_form (begins (codes "in ")) in_form (λ x rest. refl) refl)

-- the directories of lines have these lines
lines_of_dirs : (k : ℕ) (ls : List DirLine) → map dir_line (dirs_from k ls) ≡ ls
lines_of_dirs k [] = refl
lines_of_dirs k (l ∷ ls) = ap (λ t. dir_line (dir_of k l.form l.path) ∷ t) (lines_of_dirs (k + 1) ls) ∙ ap (λ d. d ∷ ls) (one l.form l.path)
  where
    one : (form : Option SealForm) (path : Atoms) → dir_line (dir_of k form path) ≡ record { form = form; path = path }
    one (Some form) path = refl
    one None path = refl

-- directories that are numbered from 0
abbrev AreNumbered : List DirInput → Type 0
AreNumbered dirs = dirs_from 0 (map dir_line dirs) ≡ dirs

abbrev AreDirs : List DirInput → Type 0
AreDirs dirs = (AllByRecursion IsDirLine (map dir_line dirs) × AreNumbered dirs) × (rises dir_before dirs ≡ true)

indirs_form : IsForm AreDirs (NoMore (codes "indir ")) (λ dirs. flat_map indir_line (map dir_line dirs)) indirs_at
unfolding indirs_at
indirs_form =
    only_form (rises dir_before)
    (as_form (λ dirs. AllByRecursion IsDirLine (map dir_line dirs) × AreNumbered dirs) (dirs_from 0) (map dir_line)
    (λ ls g. ((subst (AllByRecursion IsDirLine) (sym (lines_of_dirs 0 ls)) g, ap (dirs_from 0) (lines_of_dirs 0 ls)), lines_of_dirs 0 ls))
    (λ dirs h. h) (lines_form (begins (codes "indir ")) indir_form (λ x rest. refl) refl))

pub outs_form : IsForm (λ ps. AllByRecursion IsPath ps × (rises path_before ps ≡ true)) (NoMore (codes "out ")) (flat_map out_line) outs_at
unfolding outs_at
outs_form = only_form (rises path_before) (lines_form (begins (codes "out ")) out_form (λ x rest. refl) refl)

pub outdirs_form : IsForm (λ ds. AllByRecursion IsOutDir ds × (rises outdir_before ds ≡ true)) (NoMore (codes "outdir ")) (flat_map outdir_line) outdirs_at
unfolding outdirs_at
outdirs_form = only_form (rises outdir_before) (lines_form (begins (codes "outdir ")) outdir_form (λ x rest. refl) refl)

-- ## Which lines follow

-- lines of another word are passed over
pub passes : {X : Type 0} (word : List ℕ) (line : X → List ℕ) (xs : List X) (rest : List ℕ) → ((x : X) (t : List ℕ) → begins word (line x ++ t) ≡ false)
    → begins word rest ≡ false → begins word (flat_map line xs ++ rest) ≡ false
passes word line [] rest other none = none
passes word line (x ∷ xs) rest other none =
    ap (begins word) (ap (λ t. t ++ rest) (flat_map-cons line x xs) ∙ append_assoc (line x) (flat_map line xs) rest) ∙ other x (flat_map line xs ++ rest)

-- where nothing follows
abbrev Ends : List ℕ → Type 0
Ends text = text ≡ []

ends_after : (word text rest : List ℕ) → begins word text ≡ false → Ends rest → begins word (text ++ rest) ≡ false
ends_after word text rest none end = ap (λ t. begins word (text ++ t)) end ∙ ap (begins word) (append-nil text) ∙ none

abbrev OutTuple : Type 0
OutTuple = List Atoms × List OutDir

abbrev DirTuple : Type 0
DirTuple = List DirInput × OutTuple

abbrev FileTuple : Type 0
FileTuple = List FileLine × DirTuple

abbrev EnvTuple : Type 0
EnvTuple = List EnvPair × FileTuple

abbrev ListTuple : Type 0
ListTuple = List (List ℕ) × EnvTuple

abbrev outs_written : OutTuple → List ℕ
outs_written t = flat_map out_line t.0 ++ flat_map outdir_line t.1

abbrev dirs_written : DirTuple → List ℕ
dirs_written t = flat_map indir_line (map dir_line t.0) ++ outs_written t.1

abbrev files_written : FileTuple → List ℕ
files_written t = flat_map in_line t.0 ++ dirs_written t.1

abbrev env_written : EnvTuple → List ℕ
env_written t = flat_map env_line t.0 ++ files_written t.1

abbrev lists_written : ListTuple → List ℕ
lists_written t = flat_map arg_line t.0 ++ env_written t.1

-- output directories alone, before nothing
last_lines : (word : List ℕ) (xs : List OutDir) → ((x : OutDir) (t : List ℕ) → begins word (outdir_line x ++ t) ≡ false) → begins word [] ≡ false
    → begins word (flat_map outdir_line xs) ≡ false
last_lines word xs other none = ap (begins word) (sym (append-nil (flat_map outdir_line xs))) ∙ passes word outdir_line xs [] other none

after_outs : (t : OutTuple) → begins (codes "indir ") (outs_written t) ≡ false
after_outs t =
    passes (codes "indir ") out_line t.0 (flat_map outdir_line t.1) (λ x r. refl) (last_lines (codes "indir ") t.1 (λ x r. refl) refl)

after_dirs : (t : DirTuple) → begins (codes "in ") (dirs_written t) ≡ false
after_dirs t =
    passes (codes "in ") indir_line (map dir_line t.0) (outs_written t.1) (λ x r. refl)
    (passes (codes "in ") out_line t.1.0 (flat_map outdir_line t.1.1) (λ x r. refl) (last_lines (codes "in ") t.1.1 (λ x r. refl) refl))

after_files : (t : FileTuple) → begins (codes "env ") (files_written t) ≡ false
after_files t =
    passes (codes "env ") in_line t.0 (dirs_written t.1) (λ x r. refl)
    (passes (codes "env ") indir_line (map dir_line t.1.0) (outs_written t.1.1) (λ x r. refl)
    (passes (codes "env ") out_line t.1.1.0 (flat_map outdir_line t.1.1.1) (λ x r. refl) (last_lines (codes "env ") t.1.1.1 (λ x r. refl) refl)))

after_env : (t : EnvTuple) → begins (codes "arg ") (env_written t) ≡ false
after_env t =
    passes (codes "arg ") env_line t.0 (files_written t.1) (λ x r. refl)
    (passes (codes "arg ") in_line t.1.0 (dirs_written t.1.1) (λ x r. refl)
    (passes (codes "arg ") indir_line (map dir_line t.1.1.0) (outs_written t.1.1.1) (λ x r. refl)
    (passes (codes "arg ") out_line t.1.1.1.0 (flat_map outdir_line t.1.1.1.1) (λ x r. refl) (last_lines (codes "arg ") t.1.1.1.1 (λ x r. refl) refl))))

-- what the lists are
abbrev AreOuts : OutTuple → Type 0
AreOuts t =
    (AllByRecursion IsPath t.0 × (rises path_before t.0 ≡ true)) × (AllByRecursion IsOutDir t.1 × (rises outdir_before t.1 ≡ true))

abbrev AreLists : ListTuple → Type 0
AreLists t =
    AllByRecursion IsCountable t.0
    × ((AllByRecursion IsVariable t.1.0 × (rises not_after t.1.0 ≡ true))
    × ((AllByRecursion IsFileLine t.1.1.0 × (rises file_before t.1.1.0 ≡ true)) × (AreDirs t.1.1.1.0 × AreOuts t.1.1.1.1)))

outs_both : IsForm AreOuts Ends outs_written (both_at outs_at outdirs_at)
outs_both =
    both_form outs_form
    (form_of (λ ds. AllByRecursion IsOutDir ds × (rises outdir_before ds ≡ true)) Ends (λ ds g. g) (λ ds g. g) (λ t end. ap (begins (codes "outdir ")) end) outdirs_form)
    (λ ds rest g end. ends_after (codes "out ") (flat_map outdir_line ds) rest (last_lines (codes "out ") ds (λ x r. refl) refl) end)

tuple_form : IsForm AreLists Ends lists_written (both_at args_at (both_at envs_at (both_at ins_at (both_at indirs_at (both_at outs_at outdirs_at)))))
tuple_form =
    both_form args_form
    (both_form envs_form
    (both_form ins_form
    (both_form indirs_form outs_both
    (λ t rest g end. ends_after (codes "indir ") (outs_written t) rest (after_outs t) end))
    (λ t rest g end. ends_after (codes "in ") (dirs_written t) rest (after_dirs t) end))
    (λ t rest g end. ends_after (codes "env ") (files_written t) rest (after_files t) end))
    (λ t rest g end. ends_after (codes "arg ") (env_written t) rest (after_env t) end)

-- ## Files and their digests

files_again : (ls : List FileLine) → file_lines (map input_path (sources_of ls)) (digests_of ls) ≡ ls
files_again [] = refl
files_again (l ∷ ls) = ap (λ t. l ∷ t) (files_again ls)

as_many : (ls : List FileLine) → length (sources_of ls) ≡ length (digests_of ls)
as_many [] = refl
as_many (l ∷ ls) = ap suc (as_many ls)

pub sources_again : (ls : List FileLine) → map (λ f. Source (input_path f)) (sources_of ls) ≡ sources_of ls
sources_again [] = refl
sources_again (l ∷ ls) = ap (λ t. Source l.path ∷ t) (sources_again ls)

-- the lists, as lines
abbrev list_tuple : Lists → ListTuple
list_tuple l = (l.args, (l.env, (file_lines (map input_path l.files) l.digests, (l.dirs, (l.outs, l.outdirs)))))

tuple_again : (t : ListTuple) → list_tuple (lists_of t) ≡ t
tuple_again t = ap (λ ls. (t.0, (t.1.0, (ls, t.1.1.1)))) (files_again t.1.1.0)

abbrev AreReadLists : Lists → Type 0
AreReadLists l = AreLists (list_tuple l) × (lists_of (list_tuple l) ≡ l)

read_lists_form : IsForm AreReadLists Ends (λ l. lists_written (list_tuple l)) lists_from
unfolding lists_from
read_lists_form =
    as_form AreReadLists lists_of list_tuple
    (λ t g. ((subst AreLists (sym (tuple_again t)) g, ap lists_of (tuple_again t)), tuple_again t))
    (λ l h. h) tuple_form

-- ## The whole text

abbrev head_of_parts : WeakParts → Head
head_of_parts w = record { exe = w.process.exe; digest = w.exe; dir = w.process.dir; budget = w.budget; console = w.process.console }

abbrev lists_of_parts : WeakParts → Lists
lists_of_parts w = record {
  args = w.process.args;
  env = w.process.env;
  files = w.process.files;
  digests = w.files;
  dirs = w.process.dirs;
  outs = w.process.outs;
  outdirs = w.process.outdirs;
}

abbrev AreRead : WeakParts → Type 0
AreRead w = IsHead (head_tuple (head_of_parts w)) × AreReadLists (lists_of_parts w)

weak_form : IsForm AreRead Ends weak_text weak_at
weak_form =
    as_form AreRead parts_of (λ w. (head_of_parts w, lists_of_parts w)) (λ p g. (g, refl)) (λ w h. (h, refl))
    (after_form (codes "bxl 1\n") (pair_form head_form read_lists_form))

-- ## Directories without pips

pub dir_numbers : (k : ℕ) (dirs : List DirInput) → dirs_from k (map dir_line dirs) ≡ numbered_from k dirs
dir_numbers k [] = refl
dir_numbers k (Sealed pip form root ∷ ds) = ap (λ t. Sealed k form root ∷ t) (dir_numbers (k + 1) ds)
dir_numbers k (Opaque pip path ∷ ds) = ap (λ t. Opaque k path ∷ t) (dir_numbers (k + 1) ds)

pub lines_of_numbered : (k : ℕ) (dirs : List DirInput) → map dir_line (numbered_from k dirs) ≡ map dir_line dirs
lines_of_numbered k dirs = ap (map dir_line) (sym (dir_numbers k dirs)) ∙ lines_of_dirs k (map dir_line dirs)

pub numbered_again : (k : ℕ) (dirs : List DirInput) → numbered_from k (numbered_from k dirs) ≡ numbered_from k dirs
numbered_again k dirs =
    sym (dir_numbers k (numbered_from k dirs)) ∙ ap (dirs_from k) (lines_of_numbered k dirs) ∙ dir_numbers k dirs

-- directories that rise still do where they are numbered in order
next_pip : (k : ℕ) → nat_cmp k (k + 1) ≡ Less
next_pip k = ap (λ b. cond b Less (cond (k == (k + 1)) Equal Greater)) (lt-ltb k (k + 1) (omega arith))

pips_less : (o p : Ordering) (i j k : ℕ) → ordering_then o (ordering_then p (nat_cmp i j)) ≡ Less
    → ordering_then o (ordering_then p (nat_cmp k (k + 1))) ≡ Less
pips_less Less p i j k e = refl
pips_less Equal Less i j k e = refl
pips_less Equal Equal i j k e = next_pip k
pips_less Equal Greater i j k e = cc
pips_less Greater p i j k e = cc

still_less : (k : ℕ) (d e : DirInput) → dir_cmp d e ≡ Less → dir_cmp (with_pip k d) (with_pip (k + 1) e) ≡ Less
still_less k (Sealed i f p) (Sealed j g q) h = pips_less (path_cmp p q) (nat_cmp (form_rank (Sealed i f p)) (form_rank (Sealed j g q))) i j k h
still_less k (Sealed i f p) (Opaque j q) h = pips_less (path_cmp p q) (nat_cmp (form_rank (Sealed i f p)) (form_rank (Opaque j q))) i j k h
still_less k (Opaque i p) (Sealed j g q) h = pips_less (path_cmp p q) (nat_cmp (form_rank (Opaque i p)) (form_rank (Sealed j g q))) i j k h
still_less k (Opaque i p) (Opaque j q) h = pips_less (path_cmp p q) (nat_cmp (form_rank (Opaque i p)) (form_rank (Opaque j q))) i j k h

pub numbered_rise : (k : ℕ) (dirs : List DirInput) → RiseByForm dirs → rises dir_before (numbered_from k dirs) ≡ true
unfolding IsStrictlySortedBy
numbered_rise k [] h = refl
numbered_rise k (d ∷ []) h = refl
numbered_rise k (d ∷ e ∷ ds) h =
    and_from (is_lt (dir_cmp (with_pip k d) (with_pip (k + 1) e))) (rises dir_before (numbered_from (k + 1) (e ∷ ds)))
    (ap is_lt (still_less k d e h.0.0)) (numbered_rise (k + 1) (e ∷ ds) h.1)

-- ## Files and digests apart

same_paths : (files : List FileInput) → map input_path (map (λ f. Source (input_path f)) files) ≡ map input_path files
same_paths [] = refl
same_paths (f ∷ fs) = ap (λ t. input_path f ∷ t) (same_paths fs)

paths_again : (ps : List Atoms) (ds : List (List ℕ)) → length ps ≡ length ds → map (λ (f : FileLine). f.path) (file_lines ps ds) ≡ ps
paths_again [] ds e = refl
paths_again (p ∷ ps) [] e = absurd (omega (arith, e))
paths_again (p ∷ ps) (d ∷ ds) e = ap (λ t. p ∷ t) (paths_again ps ds (omega (arith, e)))

digests_again : (ps : List Atoms) (ds : List (List ℕ)) → length ps ≡ length ds → digests_of (file_lines ps ds) ≡ ds
digests_again [] [] e = refl
digests_again [] (d ∷ ds) e = absurd (omega (arith, e))
digests_again (p ∷ ps) [] e = absurd (omega (arith, e))
digests_again (p ∷ ps) (d ∷ ds) e = ap (λ t. d ∷ t) (digests_again ps ds (omega (arith, e)))

sources_of_paths : (ps : List Atoms) (ds : List (List ℕ)) → length ps ≡ length ds → sources_of (file_lines ps ds) ≡ map Source ps
sources_of_paths [] ds e = refl
sources_of_paths (p ∷ ps) [] e = absurd (omega (arith, e))
sources_of_paths (p ∷ ps) (d ∷ ds) e = ap (λ t. Source p ∷ t) (sources_of_paths ps ds (omega (arith, e)))

sources_map : (files : List FileInput) → map Source (map input_path files) ≡ map (λ f. Source (input_path f)) files
sources_map [] = refl
sources_map (f ∷ fs) = ap (λ t. Source (input_path f) ∷ t) (sources_map fs)

-- ## What is read is well formed, and names no pips

pub dir_paths : (dirs : List DirInput) → AllByRecursion IsDirLine (map dir_line dirs) → AllByRecursion (λ d. IsPath (dir_path d)) dirs
dir_paths [] h = tt
dir_paths (Sealed pip form root ∷ ds) h = (h.0, dir_paths ds h.1)
dir_paths (Opaque pip path ∷ ds) h = (h.0, dir_paths ds h.1)

dir_lines : (dirs : List DirInput) → AllByRecursion (λ d. IsPath (dir_path d)) dirs → AllByRecursion IsDirLine (map dir_line dirs)
dir_lines [] h = tt
dir_lines (Sealed pip form root ∷ ds) h = (h.0, dir_lines ds h.1)
dir_lines (Opaque pip path ∷ ds) h = (h.0, dir_lines ds h.1)

pub rising_itself : {K : Type 0} {R : K → K → Ordering} → IsTotalOrder R → (xs : List K) → rises (λ a b. is_lt (R a b)) xs ≡ true → IsStrictlySortedBy R xs
rising_itself {R = R} order xs e = subst (IsStrictlySortedBy R) (map-id xs) (rising_sorted order (λ x. x) xs e)

itself_rising : {K : Type 0} {R : K → K → Ordering} → IsTotalOrder R → (xs : List K) → IsStrictlySortedBy R xs → rises (λ a b. is_lt (R a b)) xs ≡ true
itself_rising {R = R} order xs h = sorted_rising order (λ x. x) xs (subst (IsStrictlySortedBy R) (sym (map-id xs)) h)

abbrev with_lists : WeakParts → List FileInput → List DirInput → WeakParts
with_lists w files dirs = record {
  process = record {
    exe = w.process.exe;
    args = w.process.args;
    env = w.process.env;
    dir = w.process.dir;
    files = files;
    dirs = dirs;
    outs = w.process.outs;
    outdirs = w.process.outdirs;
    console = w.process.console;
  };
  budget = w.budget;
  exe = w.exe;
  files = w.files;
}

lists_read : (w : WeakParts) → AreReadLists (lists_of_parts w) → AreListsWeak w × (without_pips w ≡ w)
lists_read w (g, s) =
    let lines = file_lines (map input_path w.process.files) w.files in
    let files : sources_of lines ≡ w.process.files = ap (λ (l : Lists). l.files) s in
    let digests : digests_of lines ≡ w.files = ap (λ (l : Lists). l.digests) s in
    let dirs : dirs_from 0 (map dir_line w.process.dirs) ≡ w.process.dirs = g.1.1.1.0.0.1 in (
      record {
        args = g.0;
        env = g.1.0.0;
        env_order = rising_sorted_by (λ a b. is_lt (slice_cmp nat_cmp a.name b.name)) w.process.env g.1.0.1;
        files = g.1.1.0.0;
        files_order = subst RiseByPath files (sources_rise lines g.1.1.0.1);
        one_each = ap length (sym files) ∙ as_many lines ∙ ap length digests;
        dirs = dir_paths w.process.dirs g.1.1.1.0.0.0;
        dirs_order = rising_itself dir_cmp_total w.process.dirs g.1.1.1.0.1;
        outs = g.1.1.1.1.0.0;
        outs_order = rising_itself path_cmp_total w.process.outs g.1.1.1.1.0.1;
        outdirs = g.1.1.1.1.1.0;
        outdirs_order = rising_itself outdir_cmp_total w.process.outdirs g.1.1.1.1.1.1;
      },
      ap (λ fs. with_lists w fs (numbered_from 0 w.process.dirs))
          (ap (map (λ f. Source (input_path f))) (sym files) ∙ sources_again lines ∙ files)
          ∙ ap (with_lists w w.process.files) (sym (dir_numbers 0 w.process.dirs) ∙ dirs),
    )

is_read : (w : WeakParts) → AreRead w → IsWeak w × (without_pips w ≡ w)
is_read w (h, l) =
    let lists = lists_read w l in (
      record {
        head = record { exe = h.0.0; digest = h.0.1; dir = h.1.0; budget = h.1.1.0; console = h.1.1.1 };
        lists = lists.0;
      },
      lists.1,
    )

-- ## What has a weak text is read

reads_lists : (w : WeakParts) → AreListsWeak w → AreReadLists (lists_of_parts (without_pips w))
reads_lists w h =
    let paths = map input_path w.process.files in
    let sources = map (λ f. Source (input_path f)) w.process.files in
    let many : length paths ≡ length w.files = length-map w.process.files input_path ∙ h.one_each in
    let lines : file_lines (map input_path sources) w.files ≡ file_lines paths w.files = ap (λ ps. file_lines ps w.files) (same_paths w.process.files) in
    let rising : rises file_before (file_lines paths w.files) ≡ true =
    sorted_rising path_cmp_total (λ (f : FileLine). f.path) (file_lines paths w.files)
    (subst (IsStrictlySortedBy path_cmp) (sym (paths_again paths w.files many)) h.files_order) in
    let dirs = numbered_from 0 w.process.dirs in
    let numbered : dirs_from 0 (map dir_line dirs) ≡ dirs = dir_numbers 0 dirs ∙ numbered_again 0 w.process.dirs in
    let files : sources_of (file_lines (map input_path sources) w.files) ≡ sources =
    ap sources_of lines ∙ sources_of_paths paths w.files many ∙ sources_map w.process.files in
    let digests : digests_of (file_lines (map input_path sources) w.files) ≡ w.files = ap digests_of lines ∙ digests_again paths w.files many in (
      (
        h.args,
        (
          (h.env, sorted_by_rising (λ a b. is_lt (slice_cmp nat_cmp a.name b.name)) w.process.env h.env_order),
          (
            subst (λ ls. AllByRecursion IsFileLine ls × (rises file_before ls ≡ true)) (sym lines) (h.files, rising),
            (
              ((subst (AllByRecursion IsDirLine) (sym (lines_of_numbered 0 w.process.dirs)) (dir_lines w.process.dirs h.dirs), numbered), numbered_rise 0 w.process.dirs h.dirs_order),
              ((h.outs, itself_rising path_cmp_total w.process.outs h.outs_order), (h.outdirs, itself_rising outdir_cmp_total w.process.outdirs h.outdirs_order)),
            ),
          ),
        ),
      ),
      ap (λ fs. with_files w fs (digests_of (file_lines (map input_path sources) w.files)) dirs) files
          ∙ ap (λ ds. with_files w sources ds dirs) digests,
    )
  where
    with_files : WeakParts → List FileInput → List (List ℕ) → List DirInput → Lists
    with_files w files digests dirs = record {
      args = w.process.args;
      env = w.process.env;
      files = files;
      digests = digests;
      dirs = dirs;
      outs = w.process.outs;
      outdirs = w.process.outdirs;
    }

reads : (w : WeakParts) → IsWeak w → AreRead (without_pips w)
reads w h =
    (((h.head.exe, h.head.digest), (h.head.dir, (h.head.budget, h.head.console))), reads_lists w h.lists)

-- the text of a process names no pips
same_text : (w : WeakParts) → weak_text (without_pips w) ≡ weak_text w
same_text w =
    ap (λ ls. text_with ls (map dir_line (numbered_from 0 w.process.dirs))) (ap (λ ps. file_lines ps w.files) (same_paths w.process.files))
    ∙ ap (text_with (file_lines (map input_path w.process.files) w.files)) (lines_of_numbered 0 w.process.dirs)
  where
    text_with : List FileLine → List DirLine → List ℕ
    text_with files dirs =
        codes "bxl 1\n" ++ (head_text w ++ (flat_map arg_line w.process.args ++ (flat_map env_line w.process.env
        ++ (flat_map in_line files ++ (flat_map indir_line dirs ++ (flat_map out_line w.process.outs ++ flat_map outdir_line w.process.outdirs))))))

pub weak_sound : (text : List ℕ) (w : WeakParts) → read_weak_text text ≡ Some w → IsWeak w × (without_pips w ≡ w) × (text ≡ weak_text w)
unfolding read_weak_text
weak_sound text w e =
    let a = whole_read weak_form text w e in
    let b = is_read w a.0 in
    (b.0, b.1, a.1)

pub weak_again : (w : WeakParts) → IsWeak w → read_weak_text (weak_text w) ≡ Some (without_pips w)
unfolding read_weak_text
weak_again w h = ap read_weak_text (sym (same_text w)) ∙ whole_again weak_form refl (without_pips w) (reads w h)

pub no_weak : (text : List ℕ) → read_weak_text text ≡ None → (w : WeakParts) → IsWeak w → text ≡ weak_text w → ⊥
no_weak text none w h is = let clash : Some (without_pips w) ≡ None = sym (ap read_weak_text is ∙ weak_again w h) ∙ none in cc

-- ## What a reader of weak texts gives

pub weak_found : (text : List ℕ) (r : Result WeakParts PrintFault) → Gives r (read_weak_text text) → IfOk r (λ w. IsWeak w × (text ≡ weak_text w))
weak_found text (Ok w) h = let s = weak_sound text w h in (s.0, s.2)
weak_found text (Err e) h = tt

pub weak_pips : (text : List ℕ) (r : Result WeakParts PrintFault) → Gives r (read_weak_text text) → IfOk r (λ w. without_pips w ≡ w)
weak_pips text (Ok w) h = (weak_sound text w h).1
weak_pips text (Err e) h = tt

pub weak_refused : (text : List ℕ) (r : Result WeakParts PrintFault) → Gives r (read_weak_text text) → r ≡ Err faults.BadPrint
    → (w : WeakParts) → IsWeak w → text ≡ weak_text w → ⊥
weak_refused text r h bad w is same = no_weak text (subst (λ (s : Result WeakParts PrintFault). Gives s (read_weak_text text)) bad h) w is same
