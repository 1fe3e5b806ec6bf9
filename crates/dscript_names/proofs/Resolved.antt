-- Files, resolved one after the other.
use Rattle.std.proofs.Common.{◌≡◌, ℕ, suc, ◌+◌, ◌<◌, List, [], ◌∷◌, ◌++◌, map, length, drop, get_or, drop-cons, add-one, None, Result, Ok, Err, refl, sym, ◌∙◌, ap, append_assoc, append-nil, subst}
use Rattle.bx_tree.specs.Paths.{Atoms}
use Rattle.dscript_ast.specs.FileTree.{ItemTree}
use Rattle.dscript_names_binding.specs.Binding.{bind_items}
use Rattle.dscript_names_binding.specs.Declares.{Came}
use Rattle.dscript_names_binding.specs.Walk.{Bound, declaration}
use Rattle.dscript_names_binding.specs.Walked.{here_of, table_of}
use Rattle.dscript_names_binding.specs.declared.walker.Walker.{Walker}
use Rattle.dscript_program.specs.SpecFaults.{FaultData}
use Rattle.dscript_program.specs.Workspaces.{ModuleData}
use Rattle.dscript_program.specs.declared.spec_fault.SpecKind.{SpecKind}
use Rattle.dscript_program.specs.declared.spec_fault.SpecFault.{SpecFault}
use Rattle.dscript_program.specs.declared.spec_fault.SpecFault.TheVariants as faults
use Rattle.std.specs.declared.alloc.Global.{Global}
use Rattle.std.specs.declared.vec.Vec.{Vec}
use Rattle.std.proofs.lemmas.List.{map-append, length-map}
use Rattle.dscript_program.specs.Views.{decl_data, file_data, function_data, program_data}
use Rattle.dscript_program.specs.declared.program.Program.{Program}
use Rattle.std.specs.Prelude.{MatchResult}
use Rattle.dscript_program.specs.declared.program.BoundDecl.{BoundDecl}
use Rattle.dscript_program.specs.declared.program.BoundFile.{BoundFile}
use Rattle.dscript_program.specs.ProgramData.{DeclData, FileData, FunctionData, ProgramData}
use Rattle.dscript_names_scopes.specs.Declarations.{ParsedData, items_of, names_of, world_of}
use Rattle.dscript_names_scopes.specs.Names.{FileNames, World}
use Rattle.dscript_names_scopes.specs.Duplicates.{first_duplicate}
use Rattle.dscript_names.specs.Gathering.{IsDuplicate}
use Rattle.dscript_names.specs.Named.{bind_files, file_first, before_others, named, unless_duplicate}
use Rattle.dscript_names.specs.Views.{IsRefused, parsed_data}
use Rattle.dscript_names.specs.declared.parsed.Parsed.{Parsed}
use Rattle.dscript_names.specs.Resolving.{FileResolved, IsFileFault, after_files, begun_with, bind_each, count_of, files_of, IsFaultOf}
use Rattle.dscript_names.specs.declared.resolving.Resolving.{Resolving}

-- each file with its own names
pub each_is : (modules : List ModuleData) (world : World) (n : ℕ) (ps : List ParsedData) (k : ℕ)
    → bind_each world n (map (names_of modules) ps) ps k ≡ bind_files modules world n ps k
each_is modules world n [] k = refl
each_is modules world n (p ∷ ps) k =
    let b = bind_items world n (names_of modules p) (items_of p.file) (begun_with k) in
    first_alike p.path (names_of modules p) b (bind_each world (n + 1) (map (names_of modules) ps) ps)
    (bind_files modules world (n + 1) ps) (λ j. each_is modules world (n + 1) ps j)
  where
    first_alike : (path : Atoms) (names : FileNames) (r : Result (Bound (List DeclData)) SpecKind)
        (f g : ℕ → Result ProgramData FaultData) → ((j : ℕ) → f j ≡ g j)
        → file_first path names r f ≡ file_first path names r g
    first_alike path names (Ok b) f g same = ap (before_others path names b) (same b.after.functions)
    first_alike path names (Err kind) f g same = refl

after_next : (path : Atoms) (names : FileNames) (fs : List FileData) (gs : List FunctionData) (b : Bound (List DeclData))
    (r : Result ProgramData FaultData)
    → after_files fs gs (before_others path names b r)
    ≡ after_files (fs ++ record { path = path; module_number = names.module_number; decls = b.value } ∷ []) (gs ++ b.functions) r
after_next path names fs gs b (Err fault) = refl
after_next path names fs gs b (Ok p) =
    let f : FileData = record { path = path; module_number = names.module_number; decls = b.value } in
    ap (λ hs. Ok (record { files = hs; functions = gs ++ (b.functions ++ p.functions) })) (sym (append_assoc fs (f ∷ []) p.files))
    ∙ ap (λ hs. Ok (record { files = (fs ++ f ∷ []) ++ p.files; functions = hs })) (sym (append_assoc gs b.functions p.functions))

after_none : (r : Result ProgramData FaultData) → after_files [] [] r ≡ r
after_none (Ok p) = refl
after_none (Err fault) = refl

-- no file yet
pub resolved_first : (world : World) (files : List FileNames) (all left : List ParsedData) (r : Resolving)
    → files_of r ≡ [] → table_of r.binder.walker ≡ [] → left ≡ all
    → bind_each world 0 files all 0
    ≡ after_files (files_of r) (table_of r.binder.walker) (bind_each world 0 files left (count_of r))
resolved_first world files all left r no_files no_table whole =
    let none : count_of r ≡ 0 = sym (length-map r.binder.walker.functions.items function_data) ∙ ap length no_table in
    sym (ap (λ fs. after_files fs (table_of r.binder.walker) (bind_each world 0 files left (count_of r))) no_files
    ∙ ap (λ gs. after_files [] gs (bind_each world 0 files left (count_of r))) no_table
    ∙ ap (λ k. after_files [] [] (bind_each world 0 files left k)) none
    ∙ ap (λ ps. after_files [] [] (bind_each world 0 files ps 0)) whole
    ∙ after_none (bind_each world 0 files all 0))

-- the names of the next file, and those after it
pub names_split : (files : List FileNames) (n : ℕ) (names : FileNames) → n < length files → names ≡ get_or files n names
    → drop n files ≡ names ∷ drop (n + 1) files
names_split files n names l e =
    drop-cons files n names l ∙ ap (λ y. y ∷ drop (suc n) files) (sym e)
    ∙ ap (λ k. names ∷ drop k files) (sym (add-one n))

-- one file more
pub resolved_more : {world : World} {n : ℕ} {left more : List FileNames} {names : FileNames} {qs ps : List ParsedData}
    {p : ParsedData} {items : List ItemTree} {before after : Resolving} {whole : Result ProgramData FaultData}
    → whole ≡ after_files (files_of before) (table_of before.binder.walker) (bind_each world n left qs (count_of before))
    → left ≡ names ∷ more → qs ≡ p ∷ ps → items ≡ items_of p.file
    → FileResolved world n names items p.path before after
    → whole ≡ after_files (files_of after) (table_of after.binder.walker) (bind_each world (n + 1) more ps (count_of after))
resolved_more {world} {n} {left} {more} {names} {qs} {ps} {p} {items} {before} {after} {whole} kept split_names split given h =
    let fs = files_of before in
    let gs = table_of before.binder.walker in
    let k = count_of before in
    let rest = bind_each world (n + 1) more ps in
    let at : bind_items world n names (items_of p.file) (begun_with k) ≡ Ok h.came =
    ap (λ is. bind_items world n names is (begun_with k)) (sym given) ∙ h.is in
    kept ∙ ap (λ ns. after_files fs gs (bind_each world n ns qs k)) split_names
    ∙ ap (λ rs. after_files fs gs (bind_each world n (names ∷ more) rs k)) split
    ∙ ap (λ r. after_files fs gs (file_first p.path names r rest)) at
    ∙ after_next p.path names fs gs h.came (rest h.came.after.functions)
    ∙ ap (λ hs. after_files hs (gs ++ h.came.functions) (rest h.came.after.functions)) (sym h.files)
    ∙ ap (λ hs. after_files (files_of after) hs (rest h.came.after.functions)) (sym h.table)
    ∙ ap (λ j. after_files (files_of after) (table_of after.binder.walker) (rest j)) h.count

-- the file has a fault
pub resolved_stop : {left more : List FileNames} {names : FileNames} {qs ps : List ParsedData}
    {p : ParsedData} {items : List ItemTree} {whole : Result ProgramData FaultData}
    (world : World) (n : ℕ) (before : Resolving) (fault : SpecFault)
    → whole ≡ after_files (files_of before) (table_of before.binder.walker) (bind_each world n left qs (count_of before))
    → left ≡ names ∷ more → qs ≡ p ∷ ps → items ≡ items_of p.file
    → IsFileFault world n names items p.path (count_of before) fault
    → IsFaultOf whole fault
resolved_stop world n before faults.Memory kept split_names split given h = tt
resolved_stop {left} {more} {names} {qs} {ps} {p} {items} {whole} world n before (faults.Fault kind file place)
    kept split_names split given h =
    let fs = files_of before in
    let gs = table_of before.binder.walker in
    let k = count_of before in
    let rest = bind_each world (n + 1) more ps in
    let at : bind_items world n names (items_of p.file) (begun_with k) ≡ Err kind =
    ap (λ is. bind_items world n names is (begun_with k)) (sym given) ∙ h.0 in
    kept ∙ ap (λ ns. after_files fs gs (bind_each world n ns qs k)) split_names
    ∙ ap (λ rs. after_files fs gs (bind_each world n (names ∷ more) rs k)) split
    ∙ ap (λ r. after_files fs gs (file_first p.path names r rest)) at
    ∙ ap (λ f. Err (record { kind = kind; file = f; place = None })) (sym h.1)
    ∙ ap (λ o. Err (record { kind = kind; file = file; place = o })) (sym h.2)

-- none is left
pub resolved_all : {qs : List ParsedData} {whole : Result ProgramData FaultData} (world : World) (n : ℕ)
    (left : List FileNames) (r : Resolving)
    → whole ≡ after_files (files_of r) (table_of r.binder.walker) (bind_each world n left qs (count_of r)) → qs ≡ []
    → whole ≡ Ok (record { files = files_of r; functions = table_of r.binder.walker })
resolved_all {qs} {whole} world n left r kept none =
    kept ∙ ap (λ rs. after_files (files_of r) (table_of r.binder.walker) (bind_each world n left rs (count_of r))) none
    ∙ ended left
    ∙ ap (λ fs. Ok (record { files = fs; functions = table_of r.binder.walker ++ [] })) (append-nil (files_of r))
    ∙ ap (λ gs. Ok (record { files = files_of r; functions = gs })) (append-nil (table_of r.binder.walker))
  where
    ended : (ns : List FileNames)
        → after_files (files_of r) (table_of r.binder.walker) (bind_each world n ns [] (count_of r))
        ≡ Ok (record { files = files_of r ++ []; functions = table_of r.binder.walker ++ [] })
    ended [] = refl
    ended (x ∷ ns) = refl

-- ## A file

pub file_resolved : {world : World} {n : ℕ} {names : FileNames} {items : List ItemTree} {s1 : Walker} {decls : Vec BoundDecl Global}
    (before after : Resolving) (path : Atoms) (f : BoundFile)
    → Came (λ (v : Vec BoundDecl Global). map decl_data v.items) (declaration (bind_items world n names items)) before.binder.walker s1 decls
    → after.binder.walker ≡ s1 → after.files.items ≡ before.files.items ++ f ∷ []
    → file_data f ≡ record { path = path; module_number = names.module_number; decls = map decl_data decls.items }
    → FileResolved world n names items path before after
file_resolved {world} {n} {names} {items} {s1} {decls} before after path f h walker pushed is = record {
  came = record {
    value = map decl_data decls.items;
    after = here_of s1;
    functions = h.functions;
    names = h.names;
  };
  is = h.is;
  files = ap (map file_data) pushed ∙ map-append file_data before.files.items (f ∷ [])
      ∙ ap (λ g. files_of before ++ g ∷ []) is;
  table = ap table_of walker ∙ h.table;
  count = sym (ap (λ (s : Walker). length s.functions.items) walker);
}

pub file_is : (names : FileNames) (path : Atoms) (decls : Vec BoundDecl Global) (f : BoundFile) → f.path ≡ path
    → f.module ≡ names.module_number → f.decls ≡ decls
    → file_data f ≡ record { path = path; module_number = names.module_number; decls = map decl_data decls.items }
file_is names path decls f path_is number_is decls_are =
    ap (λ p. with_parts p f.module f.decls) path_is ∙ ap (λ k. with_parts path k f.decls) number_is
    ∙ ap (with_parts path names.module_number) decls_are
  where
    with_parts : Atoms → ℕ → Vec BoundDecl Global → FileData
    with_parts p k ds = record { path = p; module_number = k; decls = map decl_data ds.items }

-- ## All files

pub named_each : (modules : List ModuleData) (ps : List ParsedData) (world : World) → first_duplicate modules [] ps ≡ None
    → world ≡ world_of modules ps → named modules ps ≡ bind_each world 0 world.files ps 0
unfolding named
named_each modules ps world none is =
    ap (λ d. unless_duplicate d (bind_files modules (world_of modules ps) 0 ps 0)) none
    ∙ sym (ap (λ (w : World). bind_each w 0 w.files ps 0) is ∙ each_is modules (world_of modules ps) 0 ps 0)

duplicate_is : (modules : List ModuleData) (ps : List ParsedData) (fault : SpecFault)
    → IsDuplicate modules ps fault → IsRefused modules ps fault
unfolding named
duplicate_is modules ps faults.Memory h = tt
duplicate_is modules ps (faults.Fault kind path place) h =
    ap (λ d. unless_duplicate d (bind_files modules (world_of modules ps) 0 ps 0)) h.1
    ∙ ap (λ k. Err (record { kind = k; file = path; place = None })) (sym h.0)
    ∙ ap (λ p. Err (record { kind = kind; file = path; place = p })) (sym h.2)

pub refused_duplicate : (modules : List ModuleData) (xs ys : List Parsed) (fault : SpecFault) → xs ≡ ys
    → IsDuplicate modules (map parsed_data xs) fault → IsRefused modules (map parsed_data ys) fault
refused_duplicate modules xs ys fault is h =
    duplicate_is modules (map parsed_data ys) fault
    (subst (λ (zs : List Parsed). IsDuplicate modules (map parsed_data zs) fault) is h)

pub refused_file : (modules : List ModuleData) (ps : List ParsedData) (whole : Result ProgramData FaultData) (fault : SpecFault)
    → named modules ps ≡ whole → IsFaultOf whole fault → IsRefused modules ps fault
refused_file modules ps whole faults.Memory e h = tt
refused_file modules ps whole (faults.Fault kind path place) e h = e ∙ h

-- the names of the modules and of the files are those of the workspace
pub named_is : (modules : List ModuleData) (ps : List ParsedData) (world : World) (names : List (List ℕ))
    (files : List FileNames) → first_duplicate modules [] ps ≡ None → files ≡ map (names_of modules) ps
    → names ≡ map (λ m. m.name) modules → world ≡ record { modules = names; files = files }
    → named modules ps ≡ bind_each world 0 world.files ps 0
named_is modules ps world names files none files_are names_are is =
    named_each modules ps world none
    (is ∙ ap (λ ns. record { modules = ns; files = files }) names_are
    ∙ ap (λ fs. record { modules = map (λ m. m.name) modules; files = fs }) files_are)

pub resolved : (modules : List ModuleData) (ps : List ParsedData) (whole : Result ProgramData FaultData)
    (r : Result Program SpecFault) → named modules ps ≡ whole
    → MatchResult r (λ p. whole ≡ Ok (program_data p)) (λ fault. IsFaultOf whole fault)
    → MatchResult r (λ p. named modules ps ≡ Ok (program_data p)) (λ fault. IsRefused modules ps fault)
resolved modules ps whole (Ok p) e h = e ∙ h
resolved modules ps whole (Err fault) e h = refused_file modules ps whole fault e h
