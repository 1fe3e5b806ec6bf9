-- The lines of weak texts are read back as they are written: proofs that the kinds of lines carry, and no
-- definitions.
use Rattle.std.proofs.Common.{◌≡◌, ◌⊎◌, ℕ, Bool, true, false, cond, not, ◌==◌, List, [], ◌∷◌, ◌++◌, codes}
use Rattle.std.proofs.Common.{Option, Some, None, inl, inr, refl, ap, subst, ◌∙◌, IfSome}
use Rattle.std.specs.List.{list_all}
use Rattle.std.specs.Str.{bytes_eq}
use Rattle.std.proofs.lemmas.Bool.{and_parts}
use Rattle.std.proofs.lemmas.Slice.Eq.{bytes_eq-Decides}
use Rattle.std.proofs.lemmas.Option.{same_Some}
use Rattle.bx_tree.specs.Paths.{Atoms, IsPath, path_text}
use Rattle.bx_digest.specs.Digests.{IsDigest}
use Rattle.observed.specs.Texts.{after_prefix, named_path}
use Rattle.observed.proofs.ReadTexts.{path_sound, path_complete, prefix_sound}
use Rattle.pip_model_types.specs.declared.args.EnvPair.{EnvPair}
use Rattle.pip_model_types.specs.declared.dir_inputs.SealForm.{SealForm}
use Rattle.pip_model_types.specs.declared.dir_inputs.SealForm.TheVariants.{Full, Partial, SourceTop, SourceAll}
use Rattle.pip_model_types.specs.declared.outputs.OutDir.{OutDir}
use Rattle.prints.specs.Forms.{Anything, IsForm}
use Rattle.prints.specs.Reading.{◌>>=◌}
use Rattle.prints.specs.Combining.{after_form, as_form, bind_some, pair_form}
use Rattle.prints.specs.PartForms.{Lacks, IsSmall, counted_form, digest_form, lacks_append, newline}
use Rattle.prints.specs.PartForms.{number_form, part_form, path_form, path_lacks, space}
use Rattle.prints.specs.declared.weak_reading.Head.{Head}
use Rattle.prints.specs.declared.weak_lines.DirLine.{DirLine}
use Rattle.prints.specs.declared.weak_lines.FileLine.{FileLine}
use Rattle.prints.specs.Processes.{IsCountable, IsDirLine, IsFileLine, IsOutDir, IsVariable}
use Rattle.prints.specs.ReadWeak.{arg_at, env_at, env_pair, file_line, head_at, head_of, in_at, indir_at}
use Rattle.prints.specs.ReadWeak.{line_of_dir, named_console, named_form, named_sharing, out_at, outdir_at}
use Rattle.prints.specs.ReadWeak.{outdir_of}
use Rattle.prints.specs.Weak.{arg_line, budget_line, console_line, console_words, cwd_line, env_line}
use Rattle.prints.specs.Weak.{exe_line, form_word, in_line, indir_line, out_line, outdir_line, sharing_word}

-- ## Words

-- what a test for a word says
pub if_word : {X : Type 0} (text word : List ℕ) (v : X) (rest : Option X) (x : X)
    → cond (bytes_eq text word) (Some v) rest ≡ Some x
    → ((text ≡ word) × (v ≡ x)) ⊎ (rest ≡ Some x)
if_word {X = X} text word v rest x e = by_test (bytes_eq text word) refl e
  where
    by_test : (b : Bool) → bytes_eq text word ≡ b → cond b (Some v) rest ≡ Some x
        → ((text ≡ word) × (v ≡ x)) ⊎ (rest ≡ Some x)
    by_test true same e = inl ((bytes_eq-Decides text word).0 same, same_Some v x e)
    by_test false other e = inr e

-- a word of which a test says that it lacks the byte
pub word_lacks : (end : ℕ) (word : List ℕ) → list_all (λ b. not (b == end)) word ≡ true
    → Lacks end word
word_lacks end [] e = tt
word_lacks end (b ∷ bs) e =
    let parts = and_parts (not (b == end)) (list_all (λ b. not (b == end)) bs) e in
    (is_false (b == end) parts.0, word_lacks end bs parts.1)
  where
    is_false : (t : Bool) → not t ≡ true → t ≡ false
    is_false true e = cc
    is_false false e = refl

-- ## Lines of the lists

pub arg_form : IsForm IsCountable Anything arg_line arg_at
arg_form = after_form (codes "arg ") (counted_form 10)

pub env_form : IsForm IsVariable Anything env_line env_at
env_form =
    as_form IsVariable env_pair (λ (v : EnvPair). (v.name, v.value)) (λ p g. (g, refl)) (λ v h. (h, refl))
    (after_form (codes "env ") (pair_form (counted_form 32) (counted_form 10)))

pub in_form : IsForm IsFileLine Anything in_line in_at
in_form =
    as_form IsFileLine file_line (λ (f : FileLine). (f.path, f.digest)) (λ p g. (g, refl))
    (λ f h. (h, refl))
    (after_form (codes "in ") (pair_form (path_form 32 space) (digest_form 10 newline)))

pub form_sound : (text : List ℕ) (form : Option SealForm) → named_form text ≡ Some form
    → Unit {0} × (text ≡ form_word form)
form_sound text form e = elim (if_word text (codes "full") (Some Full) _ form e) [
  | inl h ↦ (tt, h.0 ∙ ap form_word h.1)
  | inr e1 ↦ elim (if_word text (codes "partial") (Some Partial) _ form e1) [
    | inl h ↦ (tt, h.0 ∙ ap form_word h.1)
    | inr e2 ↦ elim (if_word text (codes "source-top") (Some SourceTop) _ form e2) [
      | inl h ↦ (tt, h.0 ∙ ap form_word h.1)
      | inr e3 ↦ elim (if_word text (codes "source-all") (Some SourceAll) _ form e3) [
        | inl h ↦ (tt, h.0 ∙ ap form_word h.1)
        | inr e4 ↦ elim (if_word text (codes "opaque") None None form e4) [
          | inl h ↦ (tt, h.0 ∙ ap form_word h.1)
          | inr e5 ↦ cc
        ]
      ]
    ]
  ]
]

pub form_again : (form : Option SealForm) → Unit {0} → named_form (form_word form) ≡ Some form
form_again (Some Full) h = refl
form_again (Some Partial) h = refl
form_again (Some SourceTop) h = refl
form_again (Some SourceAll) h = refl
form_again None h = refl

pub form_lacks : (form : Option SealForm) → Unit {0} → Lacks 32 (form_word form)
form_lacks (Some Full) h = word_lacks 32 (codes "full") refl
form_lacks (Some Partial) h = word_lacks 32 (codes "partial") refl
form_lacks (Some SourceTop) h = word_lacks 32 (codes "source-top") refl
form_lacks (Some SourceAll) h = word_lacks 32 (codes "source-all") refl
form_lacks None h = word_lacks 32 (codes "opaque") refl

pub indir_form : IsForm IsDirLine Anything indir_line indir_at
indir_form =
    as_form IsDirLine line_of_dir (λ (d : DirLine). (d.form, d.path)) (λ p g. (g.1, refl))
    (λ d h. ((tt, h), refl))
    (after_form (codes "indir ")
    (pair_form (part_form (λ form. Unit {0}) form_word named_form 32 form_sound form_again form_lacks)
    (path_form 10 newline)))

pub out_form : IsForm IsPath Anything out_line out_at
out_form = after_form (codes "out ") (path_form 10 newline)

sharing_sound : (text : List ℕ) (shared : Bool) → named_sharing text ≡ Some shared
    → Unit {0} × (text ≡ sharing_word shared)
sharing_sound text shared e = elim (if_word text (codes "exclusive") false _ shared e) [
  | inl h ↦ (tt, h.0 ∙ ap sharing_word h.1)
  | inr e1 ↦ elim (if_word text (codes "shared") true None shared e1) [
    | inl h ↦ (tt, h.0 ∙ ap sharing_word h.1)
    | inr e2 ↦ cc
  ]
]

sharing_again : (shared : Bool) → Unit {0} → named_sharing (sharing_word shared) ≡ Some shared
sharing_again false h = refl
sharing_again true h = refl

sharing_lacks : (shared : Bool) → Unit {0} → Lacks 32 (sharing_word shared)
sharing_lacks false h = word_lacks 32 (codes "exclusive") refl
sharing_lacks true h = word_lacks 32 (codes "shared") refl

pub outdir_form : IsForm IsOutDir Anything outdir_line outdir_at
outdir_form =
    as_form IsOutDir outdir_of (λ (d : OutDir). (d.shared, d.path)) (λ p g. (g.1, refl))
    (λ d h. ((tt, h), refl))
    (after_form (codes "outdir ")
    (pair_form
    (part_form (λ shared. Unit {0}) sharing_word named_sharing 32 sharing_sound sharing_again sharing_lacks)
    (path_form 10 newline)))

-- ## Lines that are there once

console_sound : (text : List ℕ) (console : Option Atoms) → named_console text ≡ Some console
    → IfSome console IsPath × (text ≡ console_words console)
console_sound text console e = elim (if_word text (codes "no-console") None _ console e) [
  | inl h ↦ subst (λ c. IfSome c IsPath × (text ≡ console_words c)) h.1 (tt, h.0)
  | inr e1 ↦
      let a =
      bind_some (after_prefix (codes "console ") text >>= named_path) (λ path. Some (Some path)) console e1
      in
      let b = bind_some (after_prefix (codes "console ") text) named_path a.0 a.1 in
      let path = path_sound b.0 a.0 b.2 in
      subst (λ c. IfSome c IsPath × (text ≡ console_words c)) (same_Some (Some a.0) console a.2) (
        path.is_path,
        prefix_sound (codes "console ") text b.0 b.1 ∙ ap (λ t. codes "console " ++ t) path.text_is,
      )
]

console_again : (console : Option Atoms) → IfSome console IsPath
    → named_console (console_words console) ≡ Some console
console_again None h = refl
console_again (Some path) h = ap (λ o. o >>= λ p. Some (Some p)) (path_complete path h)

console_lacks : (console : Option Atoms) → IfSome console IsPath → Lacks 10 (console_words console)
console_lacks None h = word_lacks 10 (codes "no-console") refl
console_lacks (Some path) h =
    lacks_append 10 (codes "console ") (path_text path) (word_lacks 10 (codes "console ") refl)
    (path_lacks 10 newline path h.atoms)

-- what the lines that are there once say
abbrev pub HeadTuple : Type 0
HeadTuple = (Atoms × List ℕ) × (Atoms × (ℕ × Option Atoms))

abbrev pub IsHead : HeadTuple → Type 0
IsHead p = (IsPath p.0.0 × IsDigest p.0.1) × (IsPath p.1.0 × (IsSmall p.1.1.0 × IfSome p.1.1.1 IsPath))

abbrev pub head_written : HeadTuple → List ℕ
head_written p = exe_line p.0.0 p.0.1 ++ (cwd_line p.1.0 ++ (budget_line p.1.1.0 ++ console_line p.1.1.1))

abbrev pub head_tuple : Head → HeadTuple
head_tuple h = ((h.exe, h.digest), (h.dir, (h.budget, h.console)))

pub head_form : IsForm (λ h. IsHead (head_tuple h)) Anything (λ h. head_written (head_tuple h)) head_at
unfolding head_at
head_form =
    as_form (λ h. IsHead (head_tuple h)) head_of head_tuple (λ p g. (g, refl)) (λ h g. (g, refl))
    (pair_form (after_form (codes "exe ") (pair_form (path_form 32 space) (digest_form 10 newline)))
    (pair_form (after_form (codes "cwd ") (path_form 10 newline))
    (pair_form (after_form (codes "budget ") (number_form 10 newline))
    (part_form (λ c. IfSome c IsPath) console_words named_console 10 console_sound console_again
    console_lacks))))
