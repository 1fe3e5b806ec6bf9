-- The lines of pips are read back as they are written: proofs that the kinds of lines carry, and no definitions.
use Rattle.std.proofs.Common.{◌≡◌, ◌⊎◌, ℕ, true, false, List, [], ◌++◌, codes, Option, Some, None, IfSome, inl, inr, refl, ap, subst, ◌∙◌, append_assoc}
use Rattle.std.specs.List.{AllByRecursion, flat_map}
use Rattle.std.proofs.lemmas.Option.{same_Some}
use Rattle.observed.specs.Texts.{after_prefix}
use Rattle.observed.proofs.ReadTexts.{prefix_sound, prefix_complete}
use Rattle.bx_tree.specs.Paths.{Atoms, IsPath}
use Rattle.bx_tree.specs.declared.file_input.FileInput.{FileInput}
use Rattle.bx_tree.specs.declared.file_input.FileInput.TheVariants.{Source}
use Rattle.pip_model_types.specs.declared.args.EnvPair.{EnvPair}
use Rattle.pip_model_types.specs.declared.dir_inputs.SealForm.{SealForm}
use Rattle.pip_model_types.specs.declared.dir_inputs.SealForm.TheVariants.{Full}
use Rattle.pip_model_types.specs.declared.outputs.OutDir.{OutDir}
use Rattle.prints.specs.Combining.{after_form, as_form, bind_some, both_form, form_of, only_form, pair_form}
use Rattle.prints.specs.Forms.{Anything, IsForm}
use Rattle.prints.specs.LineForms.{form_again, form_lacks, form_sound}
use Rattle.prints.specs.Lines.{begins, rises}
use Rattle.prints.specs.PartForms.{Lacks, counted_form, newline, part_form, path_form, space}
use Rattle.prints.specs.Parts.{counted_part, path_part}
use Rattle.prints.specs.Processes.{IsCountable, IsOutDir, IsVariable}
use Rattle.prints.specs.ReadWeak.{named_form, not_after, outdir_before, path_before}
use Rattle.prints.specs.Reading.{Taken, ◌>>=◌, after_word}
use Rattle.prints.specs.Weak.{arg_line, env_line, form_word, out_line, outdir_line}
use Rattle.prints.proofs.LineLists.{lines_form}
use Rattle.prints.proofs.WeakTexts.{NoMore, args_form, envs_form, outdirs_form, outs_form, passes}
use Rattle.graph_texts.specs.Either.{first_of, maybe_written}
use Rattle.graph_texts.specs.EitherForms.{first_form, maybe_form}
use Rattle.graph_texts.specs.Inputs.{IsInput, IsRef, input_before, input_part}
use Rattle.graph_texts.specs.PartForms.{input_form, ref_form}
use Rattle.graph_texts.specs.Rows.{IsCopy, IsProcessRow, IsRow, IsRowKind, IsSeal, IsWrite, ListParts, copy_at, copy_of}
use Rattle.graph_texts.specs.Rows.{done_at, done_line, in_at, in_line, indir_at, indir_line, indirs_at, ins_at, is_row}
use Rattle.graph_texts.specs.Rows.{kind_text, lists_at, member_at, member_line, members_at, process_at, process_of}
use Rattle.graph_texts.specs.Rows.{row_at, row_text, seal_at, seal_form_at, seal_form_in, seal_of, write_at, write_of}
use Rattle.graph_texts.specs.declared.rows.DirRef.{DirRef}
use Rattle.graph_texts.specs.declared.rows.PipRow.{PipRow}
use Rattle.graph_texts.specs.declared.rows.ProcessRow.{ProcessRow}
use Rattle.graph_texts.specs.declared.rows.RowKind.{RowKind}
use Rattle.graph_texts.specs.declared.rows.RowKind.TheVariants as rows

-- ## Lines of lists

pub in_form : IsForm IsInput Anything in_line in_at
in_form = after_form (codes "in ") (input_form 10 newline)

pub indir_form : IsForm IsRef Anything indir_line indir_at
indir_form = after_form (codes "indir ") ref_form

pub member_form : IsForm IsInput Anything member_line member_at
member_form = after_form (codes "member ") (input_form 10 newline)

pub done_form : IsForm (λ u. Unit {0}) Anything (λ u. done_line) done_at
done_form = record {
  good = λ text taken e. tt;
  written = λ text taken e.
      let a = bind_some (after_prefix done_line text) (λ rest. Some (tt, rest)) taken e in
      subst (λ (t : Unit {0} × List ℕ). text ≡ done_line ++ t.1) (same_Some (tt, a.0) taken a.2)
      (prefix_sound done_line text a.0 a.1);
  again = λ u rest g k. ap (λ o. o >>= λ left. Some (tt, left)) (prefix_complete done_line rest);
}

-- ## Lists

abbrev AreFiles : List FileInput → Type 0
AreFiles fs = AllByRecursion IsInput fs × (rises input_before fs ≡ true)

ins_form : IsForm AreFiles (NoMore (codes "in ")) (flat_map in_line) ins_at
unfolding ins_at
ins_form = only_form (rises input_before) (lines_form (begins (codes "in ")) in_form (λ x rest. refl) refl)

indirs_form : IsForm (AllByRecursion IsRef) (NoMore (codes "indir ")) (flat_map indir_line) indirs_at
unfolding indirs_at
indirs_form = lines_form (begins (codes "indir ")) indir_form (λ x rest. refl) refl

members_form : IsForm AreFiles (NoMore (codes "member ")) (flat_map member_line) members_at
unfolding members_at
members_form = only_form (rises input_before) (lines_form (begins (codes "member ")) member_form (λ x rest. refl) refl)

-- lines of another word are passed over, whatever comes after
over : {X : Type 0} (word : List ℕ) (line : X → List ℕ) (xs : List X) (more rest : List ℕ)
    → ((x : X) (t : List ℕ) → begins word (line x ++ t) ≡ false) → begins word (more ++ rest) ≡ false
    → begins word ((flat_map line xs ++ more) ++ rest) ≡ false
over word line xs more rest other none =
    ap (begins word) (append_assoc (flat_map line xs) more rest) ∙ passes word line xs (more ++ rest) other none

-- ## Writes and copies

abbrev WriteTuple : Type 0
WriteTuple = Atoms × (Atoms × List ℕ)

abbrev write_tuple : Atoms → RowKind → WriteTuple
write_tuple spec (rows.Write d) = (spec, (d.to, d.text))
write_tuple spec (rows.Copy d) = (spec, ([], []))
write_tuple spec (rows.Seal d) = (spec, ([], []))
write_tuple spec (rows.Process d) = (spec, ([], []))

abbrev Writes : RowKind → Type 0
Writes (rows.Write d) = IsWrite d
Writes (rows.Copy d) = ⊥
Writes (rows.Seal d) = ⊥
Writes (rows.Process d) = ⊥

abbrev IsWriteRow : PipRow → Type 0
IsWriteRow r = IsPath r.spec × Writes r.kind

abbrev row_of : Atoms → RowKind → PipRow
row_of spec kind = record { spec = spec; kind = kind }

abbrev write_written : WriteTuple → List ℕ
write_written p = path_part 32 p.0 ++ (path_part 32 p.1.0 ++ counted_part 10 p.1.1)

write_form : IsForm IsWriteRow Anything (λ r. write_written (write_tuple r.spec r.kind)) write_at
unfolding write_at
write_form =
    as_form IsWriteRow write_of (λ (r : PipRow). write_tuple r.spec r.kind)
    (λ p g. ((g.0, record { to = g.1.0; text = g.1.1 }), refl)) (λ r g. back r.spec r.kind g.0 g.1)
    (pair_form (path_form 32 space) (pair_form (path_form 32 space) (counted_form 10)))
  where
    back : (spec : Atoms) (kind : RowKind) → IsPath spec → Writes kind
        → (IsPath (write_tuple spec kind).0 × (IsPath (write_tuple spec kind).1.0 × IsCountable (write_tuple spec kind).1.1))
        × (write_of (write_tuple spec kind) ≡ row_of spec kind)
    back spec (rows.Write d) s g = ((s, (g.to, g.text)), refl)
    back spec (rows.Copy d) s g = absurd g
    back spec (rows.Seal d) s g = absurd g
    back spec (rows.Process d) s g = absurd g

abbrev CopyTuple : Type 0
CopyTuple = Atoms × (Atoms × FileInput)

abbrev copy_tuple : Atoms → RowKind → CopyTuple
copy_tuple spec (rows.Copy d) = (spec, (d.to, d.from))
copy_tuple spec (rows.Write d) = (spec, ([], Source []))
copy_tuple spec (rows.Seal d) = (spec, ([], Source []))
copy_tuple spec (rows.Process d) = (spec, ([], Source []))

abbrev Copies : RowKind → Type 0
Copies (rows.Copy d) = IsCopy d
Copies (rows.Write d) = ⊥
Copies (rows.Seal d) = ⊥
Copies (rows.Process d) = ⊥

abbrev IsCopyRow : PipRow → Type 0
IsCopyRow r = IsPath r.spec × Copies r.kind

abbrev copy_written : CopyTuple → List ℕ
copy_written p = path_part 32 p.0 ++ (path_part 32 p.1.0 ++ input_part 10 p.1.1)

copy_form : IsForm IsCopyRow Anything (λ r. copy_written (copy_tuple r.spec r.kind)) copy_at
unfolding copy_at
copy_form =
    as_form IsCopyRow copy_of (λ (r : PipRow). copy_tuple r.spec r.kind)
    (λ p g. ((g.0, record { from = g.1.1; to = g.1.0 }), refl)) (λ r g. back r.spec r.kind g.0 g.1)
    (pair_form (path_form 32 space) (pair_form (path_form 32 space) (input_form 10 newline)))
  where
    back : (spec : Atoms) (kind : RowKind) → IsPath spec → Copies kind
        → (IsPath (copy_tuple spec kind).0 × (IsPath (copy_tuple spec kind).1.0 × IsInput (copy_tuple spec kind).1.1))
        × (copy_of (copy_tuple spec kind) ≡ row_of spec kind)
    back spec (rows.Copy d) s g = ((s, (g.to, g.from)), refl)
    back spec (rows.Write d) s g = absurd g
    back spec (rows.Seal d) s g = absurd g
    back spec (rows.Process d) s g = absurd g

-- ## Seals

seal_form_form : IsForm (λ (f : SealForm). Unit {0}) Anything (λ f. form_word (Some f) ++ codes " ") seal_form_at
seal_form_form =
    part_form (λ f. Unit {0}) (λ f. form_word (Some f)) (λ text. seal_form_in (named_form text)) 32 sound again lacks
  where
    sound_in : (text : List ℕ) (o : Option (Option SealForm)) (f : SealForm) → named_form text ≡ o
        → seal_form_in o ≡ Some f → Unit {0} × (text ≡ form_word (Some f))
    sound_in text None f is e = absurd cc
    sound_in text (Some form) f is e =
        let same : form ≡ Some f = e in
        (tt, (form_sound text form is).1 ∙ ap form_word same)

    sound : (text : List ℕ) (f : SealForm) → seal_form_in (named_form text) ≡ Some f
        → Unit {0} × (text ≡ form_word (Some f))
    sound text f e = sound_in text (named_form text) f refl e

    again : (f : SealForm) → Unit {0} → seal_form_in (named_form (form_word (Some f))) ≡ Some f
    again f g = ap seal_form_in (form_again (Some f) tt)

    lacks : (f : SealForm) → Unit {0} → Lacks 32 (form_word (Some f))
    lacks f g = form_lacks (Some f) tt

abbrev SealTuple : Type 0
SealTuple = Atoms × (SealForm × (Atoms × (List FileInput × Unit {0})))

abbrev seal_tuple : Atoms → RowKind → SealTuple
seal_tuple spec (rows.Seal d) = (spec, (d.form, (d.root, (d.files, tt))))
seal_tuple spec (rows.Copy d) = (spec, (Full, ([], ([], tt))))
seal_tuple spec (rows.Write d) = (spec, (Full, ([], ([], tt))))
seal_tuple spec (rows.Process d) = (spec, (Full, ([], ([], tt))))

abbrev Seals : RowKind → Type 0
Seals (rows.Seal d) = IsSeal d
Seals (rows.Copy d) = ⊥
Seals (rows.Write d) = ⊥
Seals (rows.Process d) = ⊥

abbrev IsSealRow : PipRow → Type 0
IsSealRow r = IsPath r.spec × Seals r.kind

abbrev IsSealTuple : SealTuple → Type 0
IsSealTuple p = IsPath p.0 × (Unit {0} × (IsPath p.1.1.0 × (AreFiles p.1.1.1.0 × Unit {0})))

abbrev seal_written : SealTuple → List ℕ
seal_written p =
    path_part 32 p.0 ++ ((form_word (Some p.1.0) ++ codes " ") ++ (path_part 10 p.1.1.0
    ++ (flat_map member_line p.1.1.1.0 ++ done_line)))

seal_form : IsForm IsSealRow Anything (λ r. seal_written (seal_tuple r.spec r.kind)) seal_at
unfolding seal_at
seal_form =
    as_form IsSealRow seal_of (λ (r : PipRow). seal_tuple r.spec r.kind)
    (λ p g. ((g.0, record { root = g.1.1.0; files = g.1.1.1.0.0; order = g.1.1.1.0.1 }), refl))
    (λ r g. back r.spec r.kind g.0 g.1)
    (pair_form (path_form 32 space) (pair_form seal_form_form (pair_form (path_form 10 newline)
    (both_form members_form done_form (λ u rest g k. refl)))))
  where
    back : (spec : Atoms) (kind : RowKind) → IsPath spec → Seals kind
        → IsSealTuple (seal_tuple spec kind) × (seal_of (seal_tuple spec kind) ≡ row_of spec kind)
    back spec (rows.Seal d) s g = ((s, (tt, (g.root, ((g.files, g.order), tt)))), refl)
    back spec (rows.Copy d) s g = absurd g
    back spec (rows.Write d) s g = absurd g
    back spec (rows.Process d) s g = absurd g

-- ## Processes

abbrev OutdirTuple : Type 0
OutdirTuple = List OutDir × Unit {0}

abbrev OutTuple : Type 0
OutTuple = List Atoms × OutdirTuple

abbrev DirTuple : Type 0
DirTuple = List DirRef × OutTuple

abbrev InTuple : Type 0
InTuple = List FileInput × DirTuple

abbrev EnvTuple : Type 0
EnvTuple = List EnvPair × InTuple

abbrev outdirs_written : OutdirTuple → List ℕ
outdirs_written t = flat_map outdir_line t.0 ++ done_line

abbrev outs_written : OutTuple → List ℕ
outs_written t = flat_map out_line t.0 ++ outdirs_written t.1

abbrev dirs_written : DirTuple → List ℕ
dirs_written t = flat_map indir_line t.0 ++ outs_written t.1

abbrev ins_written : InTuple → List ℕ
ins_written t = flat_map in_line t.0 ++ dirs_written t.1

abbrev env_written : EnvTuple → List ℕ
env_written t = flat_map env_line t.0 ++ ins_written t.1

abbrev lists_written : ListParts → List ℕ
lists_written t = flat_map arg_line t.0 ++ env_written t.1

after_outs : (t : OutdirTuple) (rest : List ℕ) → begins (codes "out ") (outdirs_written t ++ rest) ≡ false
after_outs t rest = over (codes "out ") outdir_line t.0 done_line rest (λ x r. refl) refl

after_dirs : (t : OutTuple) (rest : List ℕ) → begins (codes "indir ") (outs_written t ++ rest) ≡ false
after_dirs t rest =
    over (codes "indir ") out_line t.0 (outdirs_written t.1) rest (λ x r. refl)
    (over (codes "indir ") outdir_line t.1.0 done_line rest (λ x r. refl) refl)

after_ins : (t : DirTuple) (rest : List ℕ) → begins (codes "in ") (dirs_written t ++ rest) ≡ false
after_ins t rest =
    over (codes "in ") indir_line t.0 (outs_written t.1) rest (λ x r. refl)
    (over (codes "in ") out_line t.1.0 (outdirs_written t.1.1) rest (λ x r. refl)
    (over (codes "in ") outdir_line t.1.1.0 done_line rest (λ x r. refl) refl))

after_env : (t : InTuple) (rest : List ℕ) → begins (codes "env ") (ins_written t ++ rest) ≡ false
after_env t rest =
    over (codes "env ") in_line t.0 (dirs_written t.1) rest (λ x r. refl)
    (over (codes "env ") indir_line t.1.0 (outs_written t.1.1) rest (λ x r. refl)
    (over (codes "env ") out_line t.1.1.0 (outdirs_written t.1.1.1) rest (λ x r. refl)
    (over (codes "env ") outdir_line t.1.1.1.0 done_line rest (λ x r. refl) refl)))

after_args : (t : EnvTuple) (rest : List ℕ) → begins (codes "arg ") (env_written t ++ rest) ≡ false
after_args t rest =
    over (codes "arg ") env_line t.0 (ins_written t.1) rest (λ x r. refl)
    (over (codes "arg ") in_line t.1.0 (dirs_written t.1.1) rest (λ x r. refl)
    (over (codes "arg ") indir_line t.1.1.0 (outs_written t.1.1.1) rest (λ x r. refl)
    (over (codes "arg ") out_line t.1.1.1.0 (outdirs_written t.1.1.1.1) rest (λ x r. refl)
    (over (codes "arg ") outdir_line t.1.1.1.1.0 done_line rest (λ x r. refl) refl))))

after_console : (t : ListParts) (rest : List ℕ) → begins (codes "console ") (lists_written t ++ rest) ≡ false
after_console t rest =
    over (codes "console ") arg_line t.0 (env_written t.1) rest (λ x r. refl)
    (over (codes "console ") env_line t.1.0 (ins_written t.1.1) rest (λ x r. refl)
    (over (codes "console ") in_line t.1.1.0 (dirs_written t.1.1.1) rest (λ x r. refl)
    (over (codes "console ") indir_line t.1.1.1.0 (outs_written t.1.1.1.1) rest (λ x r. refl)
    (over (codes "console ") out_line t.1.1.1.1.0 (outdirs_written t.1.1.1.1.1) rest (λ x r. refl)
    (over (codes "console ") outdir_line t.1.1.1.1.1.0 done_line rest (λ x r. refl) refl)))))

abbrev AreListParts : ListParts → Type 0
AreListParts t =
    AllByRecursion IsCountable t.0
    × ((AllByRecursion IsVariable t.1.0 × (rises not_after t.1.0 ≡ true))
    × (AreFiles t.1.1.0
    × (AllByRecursion IsRef t.1.1.1.0
    × ((AllByRecursion IsPath t.1.1.1.1.0 × (rises path_before t.1.1.1.1.0 ≡ true))
    × ((AllByRecursion IsOutDir t.1.1.1.1.1.0 × (rises outdir_before t.1.1.1.1.1.0 ≡ true))
    × Unit {0})))))

lists_form : IsForm AreListParts Anything lists_written lists_at
unfolding lists_at
lists_form =
    both_form args_form
    (both_form envs_form
    (both_form ins_form
    (both_form indirs_form
    (both_form outs_form
    (both_form outdirs_form done_form (λ u rest g k. refl))
    (λ t rest g k. after_outs t rest))
    (λ t rest g k. after_dirs t rest))
    (λ t rest g k. after_ins t rest))
    (λ t rest g k. after_env t rest))
    (λ t rest g k. after_args t rest)

abbrev ProcessTuple : Type 0
ProcessTuple = Atoms × (Atoms × (Atoms × (Option Atoms × ListParts)))

abbrev list_parts : ProcessRow → ListParts
list_parts r = (r.args, (r.env, (r.files, (r.dirs, (r.outs, (r.outdirs, tt))))))

abbrev no_lists : ListParts
no_lists = ([], ([], ([], ([], ([], ([], tt))))))

abbrev process_tuple : Atoms → RowKind → ProcessTuple
process_tuple spec (rows.Process r) = (spec, (r.exe, (r.dir, (r.console, list_parts r))))
process_tuple spec (rows.Copy d) = (spec, ([], ([], (None, no_lists))))
process_tuple spec (rows.Write d) = (spec, ([], ([], (None, no_lists))))
process_tuple spec (rows.Seal d) = (spec, ([], ([], (None, no_lists))))

abbrev Processes : RowKind → Type 0
Processes (rows.Process r) = IsProcessRow r
Processes (rows.Copy d) = ⊥
Processes (rows.Write d) = ⊥
Processes (rows.Seal d) = ⊥

abbrev IsProcessOfRow : PipRow → Type 0
IsProcessOfRow r = IsPath r.spec × Processes r.kind

abbrev IsProcessTuple : ProcessTuple → Type 0
IsProcessTuple p =
    IsPath p.0 × (IsPath p.1.0 × (IsPath p.1.1.0 × (IfSome p.1.1.1.0 IsPath × AreListParts p.1.1.1.1)))

abbrev process_written : ProcessTuple → List ℕ
process_written p =
    path_part 32 p.0 ++ (path_part 32 p.1.0 ++ (path_part 10 p.1.1.0
    ++ (maybe_written (codes "console ") (path_part 10) p.1.1.1.0 ++ lists_written p.1.1.1.1)))

process_form : IsForm IsProcessOfRow Anything (λ r. process_written (process_tuple r.spec r.kind)) process_at
unfolding process_at
process_form =
    as_form IsProcessOfRow process_of (λ (r : PipRow). process_tuple r.spec r.kind)
    (λ p g. (
      (
        g.0,
        record {
          exe = g.1.0;
          dir = g.1.1.0;
          console = g.1.1.1.0;
          lists = record {
            args = g.1.1.1.1.0;
            env = g.1.1.1.1.1.0.0;
            env_order = g.1.1.1.1.1.0.1;
            files = g.1.1.1.1.1.1.0.0;
            files_order = g.1.1.1.1.1.1.0.1;
            dirs = g.1.1.1.1.1.1.1.0;
            outs = g.1.1.1.1.1.1.1.1.0.0;
            outs_order = g.1.1.1.1.1.1.1.1.0.1;
            outdirs = g.1.1.1.1.1.1.1.1.1.0.0;
            outdirs_order = g.1.1.1.1.1.1.1.1.1.0.1;
          };
        },
      ),
      refl,
    ))
    (λ r g. back r.spec r.kind g.0 g.1)
    (pair_form (path_form 32 space) (pair_form (path_form 32 space) (pair_form (path_form 10 newline)
    (both_form (maybe_form (codes "console ") (path_form 10 newline)) lists_form
    (λ t rest g k. after_console t rest)))))
  where
    back : (spec : Atoms) (kind : RowKind) → IsPath spec → Processes kind
        → IsProcessTuple (process_tuple spec kind) × (process_of (process_tuple spec kind) ≡ row_of spec kind)
    back spec (rows.Process r) s g = (
      (
        s,
        (
          g.exe,
          (
            g.dir,
            (
              g.console,
              (
                g.lists.args,
                (
                  (g.lists.env, g.lists.env_order),
                  (
                    (g.lists.files, g.lists.files_order),
                    (
                      g.lists.dirs,
                      (
                        (g.lists.outs, g.lists.outs_order),
                        ((g.lists.outdirs, g.lists.outdirs_order), tt),
                      ),
                    ),
                  ),
                ),
              ),
            ),
          ),
        ),
      ),
      refl,
    )
    back spec (rows.Copy d) s g = absurd g
    back spec (rows.Write d) s g = absurd g
    back spec (rows.Seal d) s g = absurd g

-- ## All kinds

abbrev write_or_seal_at : List ℕ → Taken PipRow
write_or_seal_at = first_of (codes "write ") write_at (after_word (codes "seal ") seal_at)

write_or_seal : IsForm (λ r. IsWriteRow r ⊎ IsSealRow r) Anything row_text write_or_seal_at
write_or_seal =
    first_form row_text (codes "write ") write_form (after_form (codes "seal ") seal_form)
    (λ r g. one r.spec r.kind g.1) (λ r g. other r.spec r.kind g.1) (λ r rest g k. refl)
  where
    one : (spec : Atoms) (kind : RowKind) → Writes kind
        → kind_text spec kind ≡ codes "write " ++ write_written (write_tuple spec kind)
    one spec (rows.Write d) g = refl
    one spec (rows.Copy d) g = absurd g
    one spec (rows.Seal d) g = absurd g
    one spec (rows.Process d) g = absurd g

    other : (spec : Atoms) (kind : RowKind) → Seals kind
        → kind_text spec kind ≡ codes "seal " ++ seal_written (seal_tuple spec kind)
    other spec (rows.Seal d) g = refl
    other spec (rows.Copy d) g = absurd g
    other spec (rows.Write d) g = absurd g
    other spec (rows.Process d) g = absurd g

abbrev copy_or_later_at : List ℕ → Taken PipRow
copy_or_later_at = first_of (codes "copy ") copy_at write_or_seal_at

copy_or_later : IsForm (λ r. IsCopyRow r ⊎ (IsWriteRow r ⊎ IsSealRow r)) Anything row_text copy_or_later_at
copy_or_later =
    first_form row_text (codes "copy ") copy_form write_or_seal
    (λ r g. one r.spec r.kind g.1) (λ r g. refl) (λ r rest g k. apart r.spec r.kind rest (kind_of r g))
  where
    one : (spec : Atoms) (kind : RowKind) → Copies kind
        → kind_text spec kind ≡ codes "copy " ++ copy_written (copy_tuple spec kind)
    one spec (rows.Copy d) g = refl
    one spec (rows.Write d) g = absurd g
    one spec (rows.Seal d) g = absurd g
    one spec (rows.Process d) g = absurd g

    kind_of : (r : PipRow) → IsWriteRow r ⊎ IsSealRow r → Writes r.kind ⊎ Seals r.kind
    kind_of r (inl g) = inl g.1
    kind_of r (inr g) = inr g.1

    apart : (spec : Atoms) (kind : RowKind) (rest : List ℕ) → Writes kind ⊎ Seals kind
        → after_prefix (codes "copy ") (kind_text spec kind ++ rest) ≡ None
    apart spec (rows.Write d) rest g = refl
    apart spec (rows.Seal d) rest g = refl
    apart spec (rows.Copy d) rest (inl g) = absurd g
    apart spec (rows.Copy d) rest (inr g) = absurd g
    apart spec (rows.Process d) rest (inl g) = absurd g
    apart spec (rows.Process d) rest (inr g) = absurd g

pub row_form : IsForm IsRow Anything row_text row_at
unfolding row_at
row_form =
    form_of IsRow Anything to (λ r g. from r.spec r.kind g.spec g.kind) (λ t k. k)
    (first_form row_text (codes "process ") process_form copy_or_later
    (λ r g. one r.spec r.kind g.1) (λ r g. refl) (λ r rest g k. apart r.spec r.kind rest (kind_of r g)))
  where
    to_kind : (kind : RowKind) → Processes kind ⊎ (Copies kind ⊎ (Writes kind ⊎ Seals kind)) → IsRowKind kind
    to_kind (rows.Process r) (inl g) = g
    to_kind (rows.Process r) (inr (inl g)) = absurd g
    to_kind (rows.Process r) (inr (inr (inl g))) = absurd g
    to_kind (rows.Process r) (inr (inr (inr g))) = absurd g
    to_kind (rows.Copy d) (inl g) = absurd g
    to_kind (rows.Copy d) (inr (inl g)) = g
    to_kind (rows.Copy d) (inr (inr (inl g))) = absurd g
    to_kind (rows.Copy d) (inr (inr (inr g))) = absurd g
    to_kind (rows.Write d) (inl g) = absurd g
    to_kind (rows.Write d) (inr (inl g)) = absurd g
    to_kind (rows.Write d) (inr (inr (inl g))) = g
    to_kind (rows.Write d) (inr (inr (inr g))) = absurd g
    to_kind (rows.Seal d) (inl g) = absurd g
    to_kind (rows.Seal d) (inr (inl g)) = absurd g
    to_kind (rows.Seal d) (inr (inr (inl g))) = absurd g
    to_kind (rows.Seal d) (inr (inr (inr g))) = g

    to : (r : PipRow) → IsProcessOfRow r ⊎ (IsCopyRow r ⊎ (IsWriteRow r ⊎ IsSealRow r)) → IsRow r
    to r (inl g) = record { spec = g.0; kind = to_kind r.kind (inl g.1) }
    to r (inr (inl g)) = record { spec = g.0; kind = to_kind r.kind (inr (inl g.1)) }
    to r (inr (inr (inl g))) = record { spec = g.0; kind = to_kind r.kind (inr (inr (inl g.1))) }
    to r (inr (inr (inr g))) = record { spec = g.0; kind = to_kind r.kind (inr (inr (inr g.1))) }

    from : (spec : Atoms) (kind : RowKind) → IsPath spec → IsRowKind kind
        → (IsPath spec × Processes kind) ⊎ ((IsPath spec × Copies kind) ⊎ ((IsPath spec × Writes kind) ⊎ (IsPath spec × Seals kind)))
    from spec (rows.Process r) s g = inl (s, g)
    from spec (rows.Copy d) s g = inr (inl (s, g))
    from spec (rows.Write d) s g = inr (inr (inl (s, g)))
    from spec (rows.Seal d) s g = inr (inr (inr (s, g)))

    one : (spec : Atoms) (kind : RowKind) → Processes kind
        → kind_text spec kind ≡ codes "process " ++ process_written (process_tuple spec kind)
    one spec (rows.Process r) g = refl
    one spec (rows.Copy d) g = absurd g
    one spec (rows.Write d) g = absurd g
    one spec (rows.Seal d) g = absurd g

    kind_of : (r : PipRow) → IsCopyRow r ⊎ (IsWriteRow r ⊎ IsSealRow r) → Copies r.kind ⊎ (Writes r.kind ⊎ Seals r.kind)
    kind_of r (inl g) = inl g.1
    kind_of r (inr (inl g)) = inr (inl g.1)
    kind_of r (inr (inr g)) = inr (inr g.1)

    apart : (spec : Atoms) (kind : RowKind) (rest : List ℕ) → Copies kind ⊎ (Writes kind ⊎ Seals kind)
        → after_prefix (codes "process ") (kind_text spec kind ++ rest) ≡ None
    apart spec (rows.Copy d) rest g = refl
    apart spec (rows.Write d) rest g = refl
    apart spec (rows.Seal d) rest g = refl
    apart spec (rows.Process d) rest (inl g) = absurd g
    apart spec (rows.Process d) rest (inr (inl g)) = absurd g
    apart spec (rows.Process d) rest (inr (inr g)) = absurd g

pub row_seen : (r : PipRow) (rest : List ℕ) → is_row (row_text r ++ rest) ≡ true
row_seen r rest = by_kind r.kind
  where
    by_kind : (kind : RowKind) → is_row (kind_text r.spec kind ++ rest) ≡ true
    by_kind (rows.Process d) = refl
    by_kind (rows.Copy d) = refl
    by_kind (rows.Write d) = refl
    by_kind (rows.Seal d) = refl

pub no_row : is_row [] ≡ false
no_row = refl
