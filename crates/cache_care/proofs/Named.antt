-- An honest entry stays honest while the contents stay that it names.
use Rattle.std.proofs.Common.{◌≡◌, ◌⊎◌, ℕ, Bool, cond, List, [], ◌∷◌, ◌++◌, map, flat_map, Option, Some, None, refl, sym, ap, subst, ◌∙◌, inl, inr}
use Rattle.std.specs.FinMap.{get}
use Rattle.std.specs.List.{AllByRecursion}
use Rattle.std.specs.Str.{bytes_eq}
use Rattle.std.proofs.lemmas.Slice.Eq.{bytes_eq-Decides}
use Rattle.sha2.specs.Sha256.{sha256}
use Rattle.bx_tree.specs.Members.{Has}
use Rattle.bx_tree.specs.Paths.{Atoms}
use Rattle.bx_tree.specs.Trees.{Files}
use Rattle.bx_tree.proofs.Members.{all_has, has_all, has_back, has_front}
use Rattle.bx_io.specs.Holdings.{Holdings}
use Rattle.pip_model_types.specs.declared.desc.Desc.{Desc}
use Rattle.observed.specs.Texts.{has_match}
use Rattle.observed.specs.declared.access.Answer.{Answer}
use Rattle.observed.specs.declared.access.Answer.TheVariants as answers
use Rattle.run_record.specs.Collisions.{contents_of}
use Rattle.prints.specs.Processes.{weak_parts}
use Rattle.prints.specs.ReadWeak.{read_weak_text}
use Rattle.prints.specs.Reading.{◌>>=◌}
use Rattle.prints.specs.Strong.{line_of, read_strong_text, strong_parts}
use Rattle.prints.specs.declared.strong_parts.StrongParts.{StrongParts}
use Rattle.prints.specs.declared.weak_parts.WeakParts.{WeakParts}
use Rattle.memo_format.specs.Entries.{entry_body, read_entry_text}
use Rattle.memo_format.specs.Found.{output_lines}
use Rattle.memo_format.specs.StoreNames.{HoldsBlob, HoldsEntry, at_blob, at_entry}
use Rattle.memo_format.specs.declared.entry.Entry.{Entry}
use Rattle.memo_format.specs.declared.entry.OutputLine.{OutputLine}
use Rattle.content_store.specs.Contents.{IsContent}
use Rattle.two_phase_meaning.specs.Contents.{HoldsAll, desc_contents, given_contents}
use Rattle.two_phase_meaning.specs.Honest.{HonestEntry}
use Rattle.cache_care.specs.Naming.{content_at, entry_at, in_entry, in_line, in_strong, in_weak, named_at, named_by}

-- ## What is held

pub content_is : (S : Holdings) (digest text : List ℕ) → IsContent S digest text → content_at S digest ≡ Some text
content_is S digest text h =
    ap (λ (o : Option (List ℕ)). o >>= λ (bytes : List ℕ). cond (bytes_eq (sha256 bytes) digest) (Some bytes) None)
    (subst (λ (d : List ℕ). get S (at_blob d) ≡ Some text) h.digest_is h.held)
    ∙ ap (λ b. cond b (Some text) None) ((bytes_eq-Decides (sha256 text) digest).1 h.digest_is)

-- a name of an entry that it holds names what that names
pub entry_is : (S : Holdings) (e : Entry) → HoldsEntry S e → entry_at S (at_entry e.strong) ≡ Some e
entry_is S e h =
    ap
    (λ (o : Option (List ℕ)).
    o >>= read_entry_text >>= λ (d : Entry). cond (bytes_eq (at_entry d.strong) (at_entry e.strong)) (Some d) None)
    h.1
    ∙ ap (λ (o : Option Entry). o >>= λ (d : Entry). cond (bytes_eq (at_entry d.strong) (at_entry e.strong)) (Some d) None) h.2
    ∙ ap (λ b. cond b (Some e) None) ((bytes_eq-Decides (at_entry e.strong) (at_entry e.strong)).1 refl)

-- ## What is named

files_named : (files : Files) (x : List ℕ) → Has (contents_of files) x
    → Has (map (λ (f : Atoms × List ℕ). sha256 f.1) files) (sha256 x)
files_named [] x h = absurd h
files_named (f ∷ files) x h = elim h [
  | inl e ↦ inl (ap sha256 e)
  | inr k ↦ inr (files_named files x k)
]

desc_named : (d : Desc) (x : List ℕ) → Has (desc_contents d) x → Has (in_weak (Some (weak_parts d))) (sha256 x)
desc_named d x h = elim h [
  | inl e ↦ inl (ap sha256 e)
  | inr k ↦ inr (files_named d.files x k)
]

answers_named : (given : List Answer) (x : List ℕ) → Has (given_contents given) x
    → Has (flat_map in_line (map line_of given)) (sha256 x)
answers_named [] x h = absurd h
answers_named (answers.Absent ∷ given) x h = answers_named given x h
answers_named (answers.Content bytes ∷ given) x h = elim h [
  | inl e ↦ inl (ap sha256 e)
  | inr k ↦ inr (answers_named given x k)
]
answers_named (answers.File ∷ given) x h = answers_named given x h
answers_named (answers.Directory ∷ given) x h = answers_named given x h
answers_named (answers.Names names ∷ given) x h = elim h [
  | inl e ↦ inl (ap sha256 e)
  | inr k ↦ inr (answers_named given x k)
]
answers_named (answers.Denied ∷ given) x h = answers_named given x h

outputs_named : (files : Files) (x : List ℕ) → Has (contents_of files) x
    → Has (map (λ (o : OutputLine). o.digest) (output_lines files)) (sha256 x)
outputs_named [] x h = absurd h
outputs_named (f ∷ files) x h = elim h [
  | inl e ↦ inl (ap sha256 e)
  | inr k ↦ inr (outputs_named files x k)
]

-- ## By an honest entry

module _ (S : Holdings) (e : Entry) (h : HonestEntry S e) where
  abbrev of_weak : List (List ℕ)
  of_weak = in_weak (content_at S e.weak >>= read_weak_text)

  abbrev of_strong : List (List ℕ)
  of_strong = in_strong (content_at S e.strong >>= read_strong_text)

  weak_said : (content_at S e.weak >>= read_weak_text) ≡ Some (weak_parts h.desc)
  weak_said = ap (λ (o : Option (List ℕ)). o >>= read_weak_text) (content_is S e.weak h.weak.0 h.weak.1) ∙ h.weak.2

  strong_said : (content_at S e.strong >>= read_strong_text) ≡ Some (strong_parts (has_match h.asks) e.weak e.paths h.given)
  strong_said =
      ap (λ (o : Option (List ℕ)). o >>= read_strong_text) (content_is S e.strong h.strong.0 h.strong.1) ∙ h.strong.2

  by_entry : (digest : List ℕ) → Has (in_entry e) digest → Has (named_by S e) digest
  by_entry digest k = has_front (in_entry e) (of_weak ++ of_strong) digest k

  by_weak : (x : List ℕ) → Has (desc_contents h.desc) x → Has (named_by S e) (sha256 x)
  by_weak x k =
      has_back (in_entry e) (of_weak ++ of_strong) (sha256 x)
      (has_front of_weak of_strong (sha256 x)
      (subst (λ (o : Option WeakParts). Has (in_weak o) (sha256 x)) (sym weak_said) (desc_named h.desc x k)))

  by_strong : (x : List ℕ) → Has (given_contents h.given) x → Has (named_by S e) (sha256 x)
  by_strong x k =
      has_back (in_entry e) (of_weak ++ of_strong) (sha256 x)
      (has_back of_weak of_strong (sha256 x)
      (subst (λ (o : Option StrongParts). Has (in_strong o) (sha256 x)) (sym strong_said)
      (inr (inr (answers_named h.given x k)))))

  by_outputs : (x : List ℕ) → Has (contents_of h.files) x → Has (named_by S e) (sha256 x)
  by_outputs x k =
      by_entry (sha256 x)
      (inr (inr (inr (has_front (map (λ (o : OutputLine). o.digest) e.outputs) (sha256 (entry_body e) ∷ []) (sha256 x)
      (subst (λ (os : List OutputLine). Has (map (λ (o : OutputLine). o.digest) os) (sha256 x)) h.outputs
      (outputs_named h.files x k))))))

  -- ## Honest still

  module _ (T : Holdings) (stay : (x : List ℕ) → HoldsBlob S x → Has (named_by S e) (sha256 x) → HoldsBlob T x) where
    stays : (digest text : List ℕ) → Has (in_entry e) digest → IsContent S digest text → IsContent T digest text
    stays digest text k is = record {
      held = stay text is.held (subst (Has (named_by S e)) (sym is.digest_is) (by_entry digest k));
      digest_is = is.digest_is;
    }

    all_stay : (xs : List (List ℕ)) → HoldsAll S xs → ((x : List ℕ) → Has xs x → Has (named_by S e) (sha256 x)) → HoldsAll T xs
    all_stay xs held named =
        all_has (HoldsBlob T) xs (λ x k. stay x (has_all (HoldsBlob S) xs x held k) (named x k))

    pub named_honest : HonestEntry T e
    named_honest = record {
      desc = h.desc;
      asks = h.asks;
      given = h.given;
      files = h.files;
      weak = (h.weak.0, stays e.weak h.weak.0 (inl refl) h.weak.1, h.weak.2);
      paths = (h.paths.0, stays e.paths h.paths.0 (inr (inl refl)) h.paths.1, h.paths.2);
      strong = (h.strong.0, stays e.strong h.strong.0 (inr (inr (inl refl))) h.strong.1, h.strong.2);
      one_each = h.one_each;
      declared = all_stay (desc_contents h.desc) h.declared by_weak;
      answers = all_stay (given_contents h.given) h.answers by_strong;
      made = all_stay (contents_of h.files) h.made by_outputs;
      outputs = h.outputs;
      run = h.run;
    }
