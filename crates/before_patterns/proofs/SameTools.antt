-- A text that is no tool of the second version is the tool that it was.
use Rattle.std.proofs.Common.{◌≡◌, ℕ, Bool, true, false, not, ◌||◌, ◌==◌, cond, List, [], ◌∷◌, map, codes, filter, length, Option, Some, None, refl, ap, sym, ◌∙◌, subst, true≢false}
use Rattle.std.specs.List.{list_any, slice_split}
use Rattle.std.specs.Option.{option_and_then, option_map}
use Rattle.std.specs.Str.{bytes_eq}
use Rattle.std.proofs.lemmas.Slice.Eq.{bytes_eq-Decides}
use Rattle.tool_text.specs.declared.tool.Instr.{Instr}
use Rattle.tool_text.specs.declared.tool.Instr.TheVariants as instrs
use Rattle.tool_text.specs.declared.tool.Operand.{Operand}
use Rattle.tool_text.specs.declared.op.Op.{Op}
use Rattle.tool_text.specs.declared.op.Op.TheVariants as ops
use Rattle.tool_text.specs.Grammar.{IsTool, first_line, is_of_second, says}
use Rattle.tool_text.specs.Reading as now
use Rattle.tool_text.specs.Reading.{Places, after_byte, after_label, are_distinct, before_byte, both, code_of, full_listing, if_in_version, label_of, lone, matching_listing, op_of, operand_of, operand_texts, place_of, quadruple, register_of, register_operand, register_target, register_two, skip_blanks, split_of, tool_after, tool_in, two_operands, two_target, with_line, with_pair}
use Rattle.tool_text.proofs.OneTool.{read}
use Rattle.before_patterns.specs.Tools as old
use Rattle.before_patterns.specs.Tools.{IsNoSecond}

-- an instruction that there was
abbrev was : Instr → Option Instr
was i = cond (is_of_second i) None (Some i)

-- ## Instructions

mapped : {A : Type 0} (f : A → Instr) (o : Option A) → ((a : A) → is_of_second (f a) ≡ false) → option_map f o ≡ option_and_then was (option_map f o)
mapped f None h = refl
mapped f (Some a) h = ap (λ b. cond b None (Some (f a))) (sym (h a))

split_same : (q : Option (List ℕ × List ℕ × List ℕ × List ℕ))
    → option_and_then (λ p. with_pair (both (register_of p.0) (register_of p.1)) (both (operand_of p.2) (operand_of p.3))) q
    ≡ option_and_then was (option_and_then (λ p. with_pair (both (register_of p.0) (register_of p.1)) (both (operand_of p.2) (operand_of p.3))) q)
split_same None = refl
split_same (Some p) = paired (both (register_of p.0) (register_of p.1)) (both (operand_of p.2) (operand_of p.3))
  where
    paired : (r : Option (ℕ × ℕ)) (o : Option (Operand × Operand)) → with_pair r o ≡ option_and_then was (with_pair r o)
    paired None o = refl
    paired (Some r) None = refl
    paired (Some r) (Some o) = refl

-- a listing by a pattern, which there was not
matching_none : (o : Option (ℕ × Operand × Operand)) → None ≡ option_and_then was (option_map (λ p. instrs.Match p.0 p.1 p.2) o)
matching_none None = refl
matching_none (Some p) = refl

none_either : (t : Bool) → None ≡ option_and_then was (cond t None None)
none_either true = refl
none_either false = refl

listing_same : (texts : List (List ℕ)) → full_listing texts ≡ option_and_then was (now.listing_of texts)
listing_same [] = refl
listing_same (a ∷ []) = refl
listing_same (a ∷ b ∷ []) = mapped (λ p. instrs.List p.0 p.1) (register_operand (a ∷ b ∷ [])) (λ p. refl)
listing_same (a ∷ b ∷ c ∷ []) = matching_none (register_two (a ∷ b ∷ c ∷ []))
listing_same (a ∷ b ∷ c ∷ e ∷ rest) = none_either (length (a ∷ b ∷ c ∷ e ∷ rest) == 3)

instr_same : (places : Places) (op : Op) (texts : List (List ℕ)) → old.instr_of places op texts ≡ option_and_then was (now.instr_of places op texts)
instr_same places ops.Set texts = mapped (λ p. instrs.Set p.0 p.1) (register_operand texts) (λ p. refl)
instr_same places ops.Cat texts = mapped (λ p. instrs.Cat p.0 p.1 p.2) (register_two texts) (λ p. refl)
instr_same places ops.Len texts = mapped (λ p. instrs.Len p.0 p.1) (register_operand texts) (λ p. refl)
instr_same places ops.Head texts = mapped (λ p. instrs.Head p.0 p.1 p.2) (register_two texts) (λ p. refl)
instr_same places ops.Tail texts = mapped (λ p. instrs.Tail p.0 p.1 p.2) (register_two texts) (λ p. refl)
instr_same places ops.Split texts = split_same (quadruple texts)
instr_same places ops.Arg texts = mapped (λ p. instrs.Arg p.0 p.1 p.2) (register_target places texts) (λ p. refl)
instr_same places ops.Args texts = mapped instrs.Args (option_and_then register_of (lone texts)) (λ p. refl)
instr_same places ops.Env texts = mapped (λ p. instrs.Env p.0 p.1 p.2) (register_target places texts) (λ p. refl)
instr_same places ops.Eq texts = mapped (λ p. instrs.Eq p.0 p.1 p.2) (two_target places texts) (λ p. refl)
instr_same places ops.Jump texts = mapped instrs.Jump (option_and_then places (lone texts)) (λ p. refl)
instr_same places ops.Exit texts = mapped instrs.Exit (option_and_then code_of (lone texts)) (λ p. refl)
instr_same places ops.Say texts = mapped instrs.Say (option_and_then operand_of (lone texts)) (λ p. refl)
instr_same places ops.Read texts = mapped (λ p. instrs.Read p.0 p.1 p.2) (register_target places texts) (λ p. refl)
instr_same places ops.Probe texts = mapped (λ p. instrs.Probe p.0 p.1) (register_operand texts) (λ p. refl)
instr_same places ops.List texts = listing_same texts
instr_same places ops.Write texts = mapped (λ p. instrs.Write p.0 p.1) (two_operands texts) (λ p. refl)

in_same : (places : Places) (texts : List (List ℕ)) (o : Option Op)
    → option_and_then (λ op. old.instr_of places op texts) o ≡ option_and_then was (option_and_then (λ op. now.instr_of places op texts) o)
in_same places texts None = refl
in_same places texts (Some op) = instr_same places op texts

line_same : (places : Places) (line : List ℕ) → old.line_of places line ≡ option_and_then was (now.line_of places line)
line_same places line =
    let text : List ℕ = skip_blanks (after_label line) in
    in_same places (operand_texts (after_byte 32 text)) (op_of (before_byte 32 text))

-- ## Tools

with_same : (o : Option Instr) (r : Option (List Instr))
    → with_line (option_and_then was o) (option_and_then (if_in_version false) r) ≡ option_and_then (if_in_version false) (with_line o r)
with_same None r = refl
with_same (Some i) None = first_only (is_of_second i)
  where
    first_only : (s : Bool) → with_line (cond s None (Some i)) None ≡ None
    first_only true = refl
    first_only false = refl
with_same (Some i) (Some tool) = by_tests (is_of_second i) (list_any is_of_second tool)
  where
    by_tests : (s t : Bool) → with_line (cond s None (Some i)) (cond (not t) (Some tool) None) ≡ cond (not (s || t)) (Some (i ∷ tool)) None
    by_tests true true = refl
    by_tests true false = refl
    by_tests false true = refl
    by_tests false false = refl

lines_same : (places : Places) (lines : List (List ℕ)) → old.lines_of places lines ≡ option_and_then (if_in_version false) (now.lines_of places lines)
lines_same places [] = refl
lines_same places (line ∷ lines) =
    ap (λ o. with_line o (old.lines_of places lines)) (line_same places line)
    ∙ ap (with_line (option_and_then was (now.line_of places line))) (lines_same places lines)
    ∙ with_same (now.line_of places line) (now.lines_of places lines)

inside_same : (lines : List (List ℕ)) → old.tool_in lines ≡ option_and_then (if_in_version false) (tool_in lines)
inside_same lines =
    ap (λ r. cond (are_distinct (map label_of lines)) r None) (lines_same (place_of (map label_of lines)) lines)
    ∙ by_labels (are_distinct (map label_of lines)) (now.lines_of (place_of (map label_of lines)) lines)
  where
    by_labels : (b : Bool) (r : Option (List Instr)) → cond b (option_and_then (if_in_version false) r) None ≡ option_and_then (if_in_version false) (cond b r None)
    by_labels true r = refl
    by_labels false r = refl

versions_differ : first_line true ≡ first_line false → ⊥
versions_differ e = true≢false (ap (λ l. bytes_eq l (codes "tool 2")) e)

first_of : (xs ys : List (List ℕ)) (x y : List ℕ) → x ∷ xs ≡ y ∷ ys → x ≡ y
first_of xs ys x y e = cc

-- nothing is read after the first line of the second version
none_read : (text : List ℕ) (rest : List (List ℕ)) (o : Option (List Instr)) → IsNoSecond text → slice_split (λ b. b == 10) text ≡ first_line true ∷ rest
    → now.tool_of text ≡ o → o ≡ None
none_read text rest None none is e = refl
none_read text rest (Some tool) none is e = let t : IsTool text tool = (read text tool).0 e in absurd (none tool t (is_second t.second (first_of rest t.rest (first_line true) (first_line t.second) (sym is ∙ t.first))))
  where
    is_second : (s : Bool) → first_line true ≡ first_line s → s ≡ true
    is_second true e = refl
    is_second false e = absurd (versions_differ e)

pub tool_same : (text : List ℕ) → IsNoSecond text → old.tool_of text ≡ now.tool_of text
tool_same text none = by_lines (slice_split (λ b. b == 10) text) refl
  where
    by_tests : (t u : Bool) (first : List ℕ) (rest : List (List ℕ)) → slice_split (λ b. b == 10) text ≡ first ∷ rest
        → bytes_eq first (first_line true) ≡ t → bytes_eq first (first_line false) ≡ u
        → cond u (old.tool_in (filter says rest)) None ≡ cond t (tool_after true rest) (cond u (tool_after false rest) None)
    by_tests true true first rest is second other =
        absurd (versions_differ (sym ((bytes_eq-Decides first (first_line true)).0 second) ∙ (bytes_eq-Decides first (first_line false)).0 other))
    by_tests true false first rest is second other =
        let named : first ≡ first_line true = (bytes_eq-Decides first (first_line true)).0 second in
        let whole : slice_split (λ b. b == 10) text ≡ first_line true ∷ rest = is ∙ ap (λ l. l ∷ rest) named in
        sym (none_read text rest (tool_after true rest) none whole (ap now.tool_from whole))
    by_tests false true first rest is second other = inside_same (filter says rest)
    by_tests false false first rest is second other = refl

    by_lines : (lines : List (List ℕ)) → slice_split (λ b. b == 10) text ≡ lines → old.tool_from lines ≡ now.tool_from lines
    by_lines [] is = refl
    by_lines (first ∷ rest) is = by_tests (bytes_eq first (first_line true)) (bytes_eq first (first_line false)) first rest is refl refl

-- ## What was read

-- no instruction of the tool is of the second version
abbrev pub IsOld : Option (List Instr) → Type 0
IsOld None = Unit {0}
IsOld (Some tool) = list_any is_of_second tool ≡ false

old_kept : (o : Option (List Instr)) → IsOld (option_and_then (if_in_version false) o)
old_kept None = tt
old_kept (Some tool) = by_test (list_any is_of_second tool) refl
  where
    by_test : (t : Bool) → list_any is_of_second tool ≡ t → IsOld (cond (not t) (Some tool) None)
    by_test true e = tt
    by_test false e = e

pub old_tool : (text : List ℕ) → IsOld (old.tool_of text)
old_tool text = by_lines (slice_split (λ b. b == 10) text)
  where
    by_first : (u : Bool) (rest : List (List ℕ)) → IsOld (cond u (old.tool_in (filter says rest)) None)
    by_first true rest = subst IsOld (sym (inside_same (filter says rest))) (old_kept (tool_in (filter says rest)))
    by_first false rest = tt

    by_lines : (lines : List (List ℕ)) → IsOld (old.tool_from lines)
    by_lines [] = tt
    by_lines (first ∷ rest) = by_first (bytes_eq first old.first_line) rest

-- what was a tool is none of the second version
pub no_second : (text : List ℕ) (tool : List Instr) → old.tool_of text ≡ Some tool → IsNoSecond text
no_second text tool e other t second = by_lines (slice_split (λ b. b == 10) text) refl e
  where
    by_first : (u : Bool) (first : List ℕ) (rest : List (List ℕ)) → bytes_eq first (first_line false) ≡ u → slice_split (λ b. b == 10) text ≡ first ∷ rest
        → cond u (old.tool_in (filter says rest)) None ≡ Some tool → ⊥
    by_first false first rest named is e = cc
    by_first true first rest named is e =
        versions_differ
        (ap first_line (sym second) ∙ sym (first_of rest t.rest first (first_line t.second) (sym is ∙ t.first)) ∙ (bytes_eq-Decides first (first_line false)).0 named)

    by_lines : (lines : List (List ℕ)) → slice_split (λ b. b == 10) text ≡ lines → old.tool_from lines ≡ Some tool → ⊥
    by_lines [] is e = cc
    by_lines (first ∷ rest) is e = by_first (bytes_eq first (first_line false)) first rest refl is e
