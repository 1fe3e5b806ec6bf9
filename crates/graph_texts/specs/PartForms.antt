-- Numbers of pips, files, directories and asks are read back as they are written: proofs that the kinds of lines
-- carry, and no definitions.
use Rattle.std.proofs.Common.{◌≡◌, ◌⊎◌, ℕ, ◌^◌, ltb, cond, true, false, List, [], ◌++◌, codes, Some, None, inl, inr, refl, sym, ap, subst, ◌∙◌, append_assoc, arith}
use Rattle.std.proofs.lemmas.Bool.{ltb-true, lt-ltb}
use Rattle.std.proofs.lemmas.Option.{cond_some}
use Rattle.observed.specs.Texts.{after_prefix}
use Rattle.bx_digest.specs.Digests.{IsDigest}
use Rattle.bx_path.specs.Globbing.{IsPattern, is_pattern}
use Rattle.bx_path.proofs.Patterns.{bytes_lack, pattern_is, pattern_passes}
use Rattle.bx_tree.specs.FileInputs.{input_path}
use Rattle.bx_tree.specs.Paths.{Atoms, IsPath}
use Rattle.bx_tree.specs.declared.file_input.FileInput.{FileInput}
use Rattle.bx_tree.specs.declared.file_input.FileInput.TheVariants.{Source, Made}
use Rattle.prints.specs.Combining.{after_form, as_form, bind_some, form_of, only_form, pair_form}
use Rattle.prints.specs.Forms.{Anything, IsForm}
use Rattle.prints.specs.PartForms.{IsEnd, IsSmall, digest_form, newline, number_form, part_again, part_sound, path_form, space}
use Rattle.prints.specs.Parts.{digest_at, digest_part, number_part, part_at, path_at, path_part}
use Rattle.prints.specs.Reading.{Taken, ◌>>=◌, after_word, as_at, both_at}
use Rattle.graph_texts.specs.Either.{first_of}
use Rattle.dscript_sdk_calls.specs.declared.tree_ask.TreeAsk.{TreeAsk}
use Rattle.dscript_sdk_calls.specs.declared.tree_ask.TreeAsk.TheVariants.{Glob, GlobDeep, Below}
use Rattle.graph_texts.specs.Asks.{IsAskLine, IsTreeAsk, ask_at, ask_line, ask_with, below_line, deep_line, glob_line}
use Rattle.graph_texts.specs.Asks.{glob_part, globbed_at, is_ask, pattern_at, words_of}
use Rattle.graph_texts.specs.EitherForms.{first_form}
use Rattle.graph_texts.specs.declared.asks.AskLine.{AskLine}
use Rattle.graph_texts.specs.Inputs.{IsInput, IsPipNumber, IsRef, input_at, input_part, made_at, made_input, made_part}
use Rattle.graph_texts.specs.Inputs.{pip_number_at, process_ref, ref_at, ref_part}
use Rattle.graph_texts.specs.declared.rows.DirRef.{DirRef}
use Rattle.graph_texts.specs.declared.rows.DirRef.TheVariants.{OfSeal, OfProcess}

-- ## Numbers of pips

small : (n : ℕ) → IsPipNumber n → IsSmall n
small n h = omega (arith, h)

pub pip_number_form : (end : ℕ) → IsEnd end → IsForm IsPipNumber Anything (number_part end) (pip_number_at end)
pip_number_form end h =
    form_of IsPipNumber Anything (λ n g. ltb-true n (2 ^ 32) g.1) (λ n g. (small n g, lt-ltb n (2 ^ 32) g)) (λ t k. k)
    (only_form (λ n. ltb n (2 ^ 32)) (number_form end h))

abbrev IsMade : ℕ × Atoms → Type 0
IsMade p = IsPipNumber p.0 × IsPath p.1

made_form : (end : ℕ) → IsEnd end → IsForm IsMade Anything (λ p. made_part end p.0 p.1) (made_at end)
made_form end h = pair_form (pip_number_form 32 space) (path_form end h)

-- ## Files

abbrev IsOfSource : FileInput → Type 0
IsOfSource (Source path) = IsPath path
IsOfSource (Made path maker) = ⊥

abbrev IsOfPip : FileInput → Type 0
IsOfPip (Source path) = ⊥
IsOfPip (Made path maker) = IsPipNumber maker × IsPath path

abbrev made_parts : FileInput → ℕ × Atoms
made_parts (Source path) = (0, path)
made_parts (Made path maker) = (maker, path)

source_form : (end : ℕ) → IsEnd end → IsForm IsOfSource Anything (λ f. path_part end (input_path f)) (as_at Source (path_at end))
source_form end h = as_form IsOfSource Source input_path (λ path g. (g, refl)) back (path_form end h)
  where
    back : (f : FileInput) → IsOfSource f → IsPath (input_path f) × (Source (input_path f) ≡ f)
    back (Source path) g = (g, refl)
    back (Made path maker) g = absurd g

of_pip_form : (end : ℕ) → IsEnd end
    → IsForm IsOfPip Anything (λ f. codes "made " ++ made_part end (made_parts f).0 (made_parts f).1)
    (after_word (codes "made ") (as_at made_input (made_at end)))
of_pip_form end h = after_form (codes "made ") (as_form IsOfPip made_input made_parts (λ p g. (g, refl)) back (made_form end h))
  where
    back : (f : FileInput) → IsOfPip f → IsMade (made_parts f) × (made_input (made_parts f) ≡ f)
    back (Source path) g = absurd g
    back (Made path maker) g = (g, refl)

pub input_form : (end : ℕ) → IsEnd end → IsForm IsInput Anything (input_part end) (input_at end)
unfolding input_at
input_form end h =
    form_of IsInput Anything to from (λ t k. k)
    (first_form (input_part end) (codes "source ") (source_form end h) (of_pip_form end h) one other (λ f rest g k. refl))
  where
    to : (f : FileInput) → IsOfSource f ⊎ IsOfPip f → IsInput f
    to (Source path) (inl g) = g
    to (Source path) (inr g) = absurd g
    to (Made path maker) (inl g) = absurd g
    to (Made path maker) (inr g) = g

    from : (f : FileInput) → IsInput f → IsOfSource f ⊎ IsOfPip f
    from (Source path) g = inl g
    from (Made path maker) g = inr g

    one : (f : FileInput) → IsOfSource f → input_part end f ≡ codes "source " ++ path_part end (input_path f)
    one (Source path) g = refl
    one (Made path maker) g = absurd g

    other : (f : FileInput) → IsOfPip f
        → input_part end f ≡ codes "made " ++ made_part end (made_parts f).0 (made_parts f).1
    other (Source path) g = absurd g
    other (Made path maker) g = refl

-- ## Directories

abbrev IsOfSeal : DirRef → Type 0
IsOfSeal (OfSeal pip) = IsPipNumber pip
IsOfSeal (OfProcess pip path) = ⊥

abbrev IsOfProcess : DirRef → Type 0
IsOfProcess (OfSeal pip) = ⊥
IsOfProcess (OfProcess pip path) = IsPipNumber pip × IsPath path

abbrev ref_pip : DirRef → ℕ
ref_pip (OfSeal pip) = pip
ref_pip (OfProcess pip path) = pip

abbrev ref_parts : DirRef → ℕ × Atoms
ref_parts (OfSeal pip) = (pip, [])
ref_parts (OfProcess pip path) = (pip, path)

of_seal_form : IsForm IsOfSeal Anything (λ d. number_part 10 (ref_pip d)) (as_at OfSeal (pip_number_at 10))
of_seal_form = as_form IsOfSeal OfSeal ref_pip (λ n g. (g, refl)) back (pip_number_form 10 newline)
  where
    back : (d : DirRef) → IsOfSeal d → IsPipNumber (ref_pip d) × (OfSeal (ref_pip d) ≡ d)
    back (OfSeal pip) g = (g, refl)
    back (OfProcess pip path) g = absurd g

of_process_form
    : IsForm IsOfProcess Anything (λ d. codes "opaque " ++ made_part 10 (ref_parts d).0 (ref_parts d).1)
    (after_word (codes "opaque ") (as_at process_ref (made_at 10)))
of_process_form =
    after_form (codes "opaque ") (as_form IsOfProcess process_ref ref_parts (λ p g. (g, refl)) back (made_form 10 newline))
  where
    back : (d : DirRef) → IsOfProcess d → IsMade (ref_parts d) × (process_ref (ref_parts d) ≡ d)
    back (OfSeal pip) g = absurd g
    back (OfProcess pip path) g = (g, refl)

pub ref_form : IsForm IsRef Anything ref_part ref_at
unfolding ref_at
ref_form =
    form_of IsRef Anything to from (λ t k. k)
    (first_form ref_part (codes "sealed ") of_seal_form of_process_form one other (λ d rest g k. refl))
  where
    to : (d : DirRef) → IsOfSeal d ⊎ IsOfProcess d → IsRef d
    to (OfSeal pip) (inl g) = g
    to (OfSeal pip) (inr g) = absurd g
    to (OfProcess pip path) (inl g) = absurd g
    to (OfProcess pip path) (inr g) = g

    from : (d : DirRef) → IsRef d → IsOfSeal d ⊎ IsOfProcess d
    from (OfSeal pip) g = inl g
    from (OfProcess pip path) g = inr g

    one : (d : DirRef) → IsOfSeal d → ref_part d ≡ codes "sealed " ++ number_part 10 (ref_pip d)
    one (OfSeal pip) g = refl
    one (OfProcess pip path) g = absurd g

    other : (d : DirRef) → IsOfProcess d
        → ref_part d ≡ codes "opaque " ++ made_part 10 (ref_parts d).0 (ref_parts d).1
    other (OfSeal pip) g = absurd g
    other (OfProcess pip path) g = refl

-- ## Asks

pattern_form : IsForm IsPattern Anything (λ p. p ++ codes " ") pattern_at
pattern_form = record {
  good = λ text taken e.
      let a = bind_some (part_at 32 text) (λ x. cond (is_pattern x.0) (Some x) None) taken e in
      let b = cond_some (is_pattern a.0.0) a.0 taken a.2 in
      subst (λ (t : List ℕ × List ℕ). IsPattern t.0) b.1 (pattern_is a.0.0 b.0);
  written = λ text taken e.
      let a = bind_some (part_at 32 text) (λ x. cond (is_pattern x.0) (Some x) None) taken e in
      let b = cond_some (is_pattern a.0.0) a.0 taken a.2 in
      subst (λ (t : List ℕ × List ℕ). text ≡ (t.0 ++ codes " ") ++ t.1) b.1
      (part_sound 32 text a.0 a.1 ∙ sym (append_assoc a.0.0 (codes " ") a.0.1));
  again = λ p rest g k.
      ap pattern_at (append_assoc p (codes " ") rest)
      ∙ ap (λ o. o >>= λ x. cond (is_pattern x.0) (Some x) None) (part_again 32 p rest (bytes_lack 32 p refl g.bytes))
      ∙ ap (λ b. cond b (Some (p, rest)) None) (pattern_passes p g);
}

abbrev IsGlobbed : Atoms × (List ℕ × List ℕ) → Type 0
IsGlobbed p = IsPath p.0 × (IsPattern p.1.0 × IsDigest p.1.1)

globbed_form : IsForm IsGlobbed Anything (λ p. glob_part p.0 p.1.0 p.1.1) globbed_at
globbed_form = pair_form (path_form 32 space) (pair_form pattern_form (digest_form 10 newline))

-- the parts of an ask of files by a pattern
abbrev globbed_parts : TreeAsk → List ℕ → Atoms × (List ℕ × List ℕ)
globbed_parts (Glob dir pattern) listing = (dir, (pattern, listing))
globbed_parts (GlobDeep dir pattern) listing = (dir, (pattern, listing))
globbed_parts (Below dir) listing = (dir, ([], listing))

abbrev parts_of_line : AskLine → Atoms × (List ℕ × List ℕ)
parts_of_line a = globbed_parts a.ask a.listing

abbrev AsksGlob : TreeAsk → List ℕ → Type 0
AsksGlob (Glob dir pattern) listing = IsGlobbed (dir, (pattern, listing))
AsksGlob (GlobDeep dir pattern) listing = ⊥
AsksGlob (Below dir) listing = ⊥

abbrev AsksDeep : TreeAsk → List ℕ → Type 0
AsksDeep (Glob dir pattern) listing = ⊥
AsksDeep (GlobDeep dir pattern) listing = IsGlobbed (dir, (pattern, listing))
AsksDeep (Below dir) listing = ⊥

abbrev AsksBelow : TreeAsk → List ℕ → Type 0
AsksBelow (Glob dir pattern) listing = ⊥
AsksBelow (GlobDeep dir pattern) listing = ⊥
AsksBelow (Below dir) listing = IsPath dir × IsDigest listing

abbrev IsGlobLine : AskLine → Type 0
IsGlobLine a = AsksGlob a.ask a.listing

abbrev IsDeepLine : AskLine → Type 0
IsDeepLine a = AsksDeep a.ask a.listing

abbrev IsBelowLine : AskLine → Type 0
IsBelowLine a = AsksBelow a.ask a.listing

abbrev globbed_text : AskLine → List ℕ
globbed_text a = glob_part (parts_of_line a).0 (parts_of_line a).1.0 (parts_of_line a).1.1

abbrev below_text : AskLine → List ℕ
below_text a = path_part 32 (parts_of_line a).0 ++ digest_part 10 a.listing

glob_line_form : IsForm IsGlobLine Anything globbed_text (as_at glob_line globbed_at)
glob_line_form = as_form IsGlobLine glob_line parts_of_line (λ p g. (g, refl)) (λ a g. back a.ask a.listing g) globbed_form
  where
    back : (ask : TreeAsk) (listing : List ℕ) → AsksGlob ask listing
        → IsGlobbed (globbed_parts ask listing) × (glob_line (globbed_parts ask listing) ≡ ask_with ask listing)
    back (Glob dir pattern) listing g = (g, refl)
    back (GlobDeep dir pattern) listing g = absurd g
    back (Below dir) listing g = absurd g

deep_line_form : IsForm IsDeepLine Anything globbed_text (as_at deep_line globbed_at)
deep_line_form = as_form IsDeepLine deep_line parts_of_line (λ p g. (g, refl)) (λ a g. back a.ask a.listing g) globbed_form
  where
    back : (ask : TreeAsk) (listing : List ℕ) → AsksDeep ask listing
        → IsGlobbed (globbed_parts ask listing) × (deep_line (globbed_parts ask listing) ≡ ask_with ask listing)
    back (Glob dir pattern) listing g = absurd g
    back (GlobDeep dir pattern) listing g = (g, refl)
    back (Below dir) listing g = absurd g

below_line_form : IsForm IsBelowLine Anything below_text (as_at below_line (both_at (path_at 32) (digest_at 10)))
below_line_form =
    as_form IsBelowLine below_line (λ a. ((parts_of_line a).0, a.listing)) (λ p g. (g, refl)) (λ a g. back a.ask a.listing g)
    (pair_form (path_form 32 space) (digest_form 10 newline))
  where
    back : (ask : TreeAsk) (listing : List ℕ) → AsksBelow ask listing
        → (IsPath (globbed_parts ask listing).0 × IsDigest listing)
        × (below_line ((globbed_parts ask listing).0, listing) ≡ ask_with ask listing)
    back (Glob dir pattern) listing g = absurd g
    back (GlobDeep dir pattern) listing g = absurd g
    back (Below dir) listing g = (g, refl)

abbrev IsLaterLine : AskLine → Type 0
IsLaterLine a = IsDeepLine a ⊎ IsBelowLine a

abbrev later_at : List ℕ → Taken AskLine
later_at =
    first_of (codes "globr ") (as_at deep_line globbed_at)
    (after_word (codes "below ") (as_at below_line (both_at (path_at 32) (digest_at 10))))

later_form : IsForm IsLaterLine Anything ask_line later_at
later_form =
    first_form ask_line (codes "globr ") deep_line_form (after_form (codes "below ") below_line_form)
    (λ a g. one a.ask a.listing g) (λ a g. other a.ask a.listing g) (λ a rest g k. refl)
  where
    one : (ask : TreeAsk) (listing : List ℕ) → AsksDeep ask listing
        → words_of ask listing ≡ codes "globr " ++ globbed_text (ask_with ask listing)
    one (Glob dir pattern) listing g = absurd g
    one (GlobDeep dir pattern) listing g = refl
    one (Below dir) listing g = absurd g

    other : (ask : TreeAsk) (listing : List ℕ) → AsksBelow ask listing
        → words_of ask listing ≡ codes "below " ++ below_text (ask_with ask listing)
    other (Glob dir pattern) listing g = absurd g
    other (GlobDeep dir pattern) listing g = absurd g
    other (Below dir) listing g = refl

pub ask_form : IsForm IsAskLine Anything ask_line ask_at
unfolding ask_at
ask_form =
    form_of IsAskLine Anything (λ a g. to a.ask a.listing g) (λ a g. from a.ask a.listing g.0 g.1) (λ t k. k)
    (first_form ask_line (codes "glob ") glob_line_form later_form (λ a g. one a.ask a.listing g) (λ a g. refl)
    (λ a rest g k. apart a.ask a.listing rest g))
  where
    to : (ask : TreeAsk) (listing : List ℕ) → AsksGlob ask listing ⊎ (AsksDeep ask listing ⊎ AsksBelow ask listing)
        → IsTreeAsk ask × IsDigest listing
    to (Glob dir pattern) listing (inl g) = ((g.0, g.1.0), g.1.1)
    to (Glob dir pattern) listing (inr (inl g)) = absurd g
    to (Glob dir pattern) listing (inr (inr g)) = absurd g
    to (GlobDeep dir pattern) listing (inl g) = absurd g
    to (GlobDeep dir pattern) listing (inr (inl g)) = ((g.0, g.1.0), g.1.1)
    to (GlobDeep dir pattern) listing (inr (inr g)) = absurd g
    to (Below dir) listing (inl g) = absurd g
    to (Below dir) listing (inr (inl g)) = absurd g
    to (Below dir) listing (inr (inr g)) = g

    from : (ask : TreeAsk) (listing : List ℕ) → IsTreeAsk ask → IsDigest listing
        → AsksGlob ask listing ⊎ (AsksDeep ask listing ⊎ AsksBelow ask listing)
    from (Glob dir pattern) listing g d = inl (g.0, (g.1, d))
    from (GlobDeep dir pattern) listing g d = inr (inl (g.0, (g.1, d)))
    from (Below dir) listing g d = inr (inr (g, d))

    one : (ask : TreeAsk) (listing : List ℕ) → AsksGlob ask listing
        → words_of ask listing ≡ codes "glob " ++ globbed_text (ask_with ask listing)
    one (Glob dir pattern) listing g = refl
    one (GlobDeep dir pattern) listing g = absurd g
    one (Below dir) listing g = absurd g

    apart : (ask : TreeAsk) (listing rest : List ℕ) → AsksDeep ask listing ⊎ AsksBelow ask listing
        → after_prefix (codes "glob ") (words_of ask listing ++ rest) ≡ None
    apart (Glob dir pattern) listing rest (inl g) = absurd g
    apart (Glob dir pattern) listing rest (inr g) = absurd g
    apart (GlobDeep dir pattern) listing rest g = refl
    apart (Below dir) listing rest g = refl

pub ask_seen : (a : AskLine) (rest : List ℕ) → is_ask (ask_line a ++ rest) ≡ true
ask_seen a rest = by_ask a.ask
  where
    by_ask : (ask : TreeAsk) → is_ask (words_of ask a.listing ++ rest) ≡ true
    by_ask (Glob dir pattern) = refl
    by_ask (GlobDeep dir pattern) = refl
    by_ask (Below dir) = refl

pub no_ask : is_ask [] ≡ false
no_ask = refl
