-- The reading of a tool is by its grammar, which gives a text one tool at most.
use Rattle.std.proofs.Common.{◌≡◌, ℕ, ◌<◌, suc, true, false, Bool, not, ◌||◌, ◌==◌, cond, List, [], ◌∷◌, ◌++◌, ◌+◌, length, map, take, drop, filter, Option, Some, None, inl, inr, refl, ap, sym, ◌∙◌, subst, arith, append_assoc, length-append, IsTrue, ◌↔◌, ◌⊎◌, Result, Ok, Err, IfOk}
use Rattle.std.specs.Bool.{nat_lt}
use Rattle.std.specs.List.{AllByRecursion, slice_split, position_or_len}
use Rattle.std.specs.Option.{option_and_then}
use Rattle.std.specs.Str.{bytes_eq}
use Rattle.std.proofs.lemmas.Bool.{and_from, and_parts, and_right}
use Rattle.std.proofs.lemmas.Bool.Decides.{Decides-ltb, nat_tests}
use Rattle.std.proofs.lemmas.List.{append-nil}
use Rattle.std.proofs.lemmas.Slice.Eq.{bytes_eq-Decides}
use Rattle.std.proofs.lemmas.Option.{same_Some}
use Rattle.bx_tree.proofs.Options.{if_some}
use Rattle.tool_text.specs.declared.tool.Instr.{Instr}
use Rattle.tool_text.specs.declared.tool.Instr.TheVariants as instrs
use Rattle.tool_text.specs.declared.fault.ToolFault.{ToolFault}
use Rattle.tool_text.specs.declared.fault.ToolFault.TheVariants.{BadTool}
use Rattle.tool_text.specs.Grammar.{AreBlanks, AreDistinct, AreLines, AreOperands, IsInstr, IsLabel, IsLine, IsStart, IsTool, Labels, first_line, is_in_version, is_lower, says, word_of}
use Rattle.tool_text.specs.Reading.{ReadsTool, op_of, after_byte, after_label, are_distinct, before_byte, if_in_version, instr_in, instr_of, is_label, is_label_byte, is_labelled, label_of, line_of, lines_of, operand_texts, place_of, skip_blanks, tool_after, tool_from, tool_in, tool_of, with_line}
use Rattle.tool_text.proofs.Values.{equal_numbers}
use Rattle.tool_text.proofs.Places.{are_labels, distinct_complete, distinct_sound, label_complete, label_sound}
use Rattle.tool_text.proofs.Commas.{separated_complete, separated_sound}
use Rattle.tool_text.proofs.Wording.{HasLabels, are_parts, instr_complete, instr_sound, op_in, op_read, then_some, word_sound}

-- ## The first such byte of a text

before_other : (c x : ℕ) (xs : List ℕ) → (x == c) ≡ false → before_byte c (x ∷ xs) ≡ x ∷ before_byte c xs
before_other c x xs e =
    let place = position_or_len (λ b. b == c) xs in
    ap (λ t. take (cond (not t) (1 + place) 0) (x ∷ xs)) e ∙ ap (λ n. take n (x ∷ xs)) (let one : 1 + place ≡ suc place = omega arith in one)

after_other : (c x : ℕ) (xs : List ℕ) → (x == c) ≡ false → after_byte c (x ∷ xs) ≡ after_byte c xs
after_other c x xs e =
    let place = position_or_len (λ b. b == c) xs in
    ap (λ t. drop (cond (not t) (1 + place) 0 + 1) (x ∷ xs)) e ∙ ap (λ n. drop n (x ∷ xs)) (let one : (1 + place) + 1 ≡ suc (place + 1) = omega arith in one)

before_same : (c : ℕ) (x : ℕ) (xs : List ℕ) → (x == c) ≡ true → before_byte c (x ∷ xs) ≡ []
before_same c x xs e = ap (λ t. take (cond (not t) (1 + position_or_len (λ b. b == c) xs) 0) (x ∷ xs)) e

after_same : (c : ℕ) (x : ℕ) (xs : List ℕ) → (x == c) ≡ true → after_byte c (x ∷ xs) ≡ xs
after_same c x xs e = ap (λ t. drop (cond (not t) (1 + position_or_len (λ b. b == c) xs) 0 + 1) (x ∷ xs)) e

-- a list is cut at the first byte c, or has none
abbrev pub IsCutAt : ℕ → List ℕ → Type 0
IsCutAt c xs = (xs ≡ before_byte c xs ++ c ∷ after_byte c xs) ⊎ ((before_byte c xs ≡ xs) × (after_byte c xs ≡ []))

cut_at : (c : ℕ) (xs : List ℕ) → IsCutAt c xs
cut_at c [] = inr (refl, refl)
cut_at c (x ∷ xs) = by_byte (x == c) refl (cut_at c xs)
  where
    by_byte : (t : Bool) → (x == c) ≡ t → IsCutAt c xs → IsCutAt c (x ∷ xs)
    by_byte true e more =
        inl (ap (λ b. b ∷ xs) (equal_numbers x c e) ∙ ap (λ t. c ∷ t) (sym (after_same c x xs e)) ∙ ap (λ t. t ++ c ∷ after_byte c (x ∷ xs)) (sym (before_same c x xs e)))
    by_byte false e (inl is) =
        inl (ap (λ t. x ∷ t) is ∙ ap (λ t. t ++ c ∷ after_byte c xs) (sym (before_other c x xs e)) ∙ ap (λ t. before_byte c (x ∷ xs) ++ c ∷ t) (sym (after_other c x xs e)))
    by_byte false e (inr none) = inr (before_other c x xs e ∙ ap (λ t. x ∷ t) none.0, after_other c x xs e ∙ none.1)

-- no byte of the text is this one
abbrev pub Lacks : ℕ → List ℕ → Type 0
Lacks c xs = AllByRecursion (λ b. (b == c) ≡ false) xs

before_lacks : (c : ℕ) (xs rest : List ℕ) → Lacks c xs → before_byte c (xs ++ rest) ≡ xs ++ before_byte c rest
before_lacks c [] rest h = refl
before_lacks c (x ∷ xs) rest h = before_other c x (xs ++ rest) h.0 ∙ ap (λ t. x ∷ t) (before_lacks c xs rest h.1)

after_lacks : (c : ℕ) (xs rest : List ℕ) → Lacks c xs → after_byte c (xs ++ rest) ≡ after_byte c rest
after_lacks c [] rest h = refl
after_lacks c (x ∷ xs) rest h = after_other c x (xs ++ rest) h.0 ∙ after_lacks c xs rest h.1

before_at : (c : ℕ) (xs rest : List ℕ) → (c == c) ≡ true → Lacks c xs → before_byte c (xs ++ c ∷ rest) ≡ xs
before_at c xs rest e h = before_lacks c xs (c ∷ rest) h ∙ ap (λ t. xs ++ t) (before_same c c rest e) ∙ append-nil xs

after_at : (c : ℕ) (xs rest : List ℕ) → (c == c) ≡ true → Lacks c xs → after_byte c (xs ++ c ∷ rest) ≡ rest
after_at c xs rest e h = after_lacks c xs (c ∷ rest) h ∙ after_same c c rest e

-- ## Words

word_lacks : (instr : Instr) → Lacks 32 (word_of instr) × Lacks 58 (word_of instr)
word_lacks (instrs.Set r x) = ((refl, (refl, (refl, tt))), (refl, (refl, (refl, tt))))
word_lacks (instrs.Cat r x y) = ((refl, (refl, (refl, tt))), (refl, (refl, (refl, tt))))
word_lacks (instrs.Len r x) = ((refl, (refl, (refl, tt))), (refl, (refl, (refl, tt))))
word_lacks (instrs.Head r x n) = ((refl, (refl, (refl, (refl, tt)))), (refl, (refl, (refl, (refl, tt)))))
word_lacks (instrs.Tail r x n) = ((refl, (refl, (refl, (refl, tt)))), (refl, (refl, (refl, (refl, tt)))))
word_lacks (instrs.Split r s x y) = ((refl, (refl, (refl, (refl, (refl, tt))))), (refl, (refl, (refl, (refl, (refl, tt))))))
word_lacks (instrs.Arg r n label) = ((refl, (refl, (refl, tt))), (refl, (refl, (refl, tt))))
word_lacks (instrs.Args r) = ((refl, (refl, (refl, (refl, tt)))), (refl, (refl, (refl, (refl, tt)))))
word_lacks (instrs.Env r x label) = ((refl, (refl, (refl, tt))), (refl, (refl, (refl, tt))))
word_lacks (instrs.Eq x y label) = ((refl, (refl, tt)), (refl, (refl, tt)))
word_lacks (instrs.Jump label) = ((refl, (refl, (refl, (refl, tt)))), (refl, (refl, (refl, (refl, tt)))))
word_lacks (instrs.Exit n) = ((refl, (refl, (refl, (refl, tt)))), (refl, (refl, (refl, (refl, tt)))))
word_lacks (instrs.Say x) = ((refl, (refl, (refl, tt))), (refl, (refl, (refl, tt))))
word_lacks (instrs.Read r x label) = ((refl, (refl, (refl, (refl, tt)))), (refl, (refl, (refl, (refl, tt)))))
word_lacks (instrs.Probe r x) = ((refl, (refl, (refl, (refl, (refl, tt))))), (refl, (refl, (refl, (refl, (refl, tt))))))
word_lacks (instrs.List r x) = ((refl, (refl, (refl, (refl, tt)))), (refl, (refl, (refl, (refl, tt)))))
word_lacks (instrs.Match r x y) = ((refl, (refl, (refl, (refl, tt)))), (refl, (refl, (refl, (refl, tt)))))
word_lacks (instrs.Write x y) = ((refl, (refl, (refl, (refl, (refl, tt))))), (refl, (refl, (refl, (refl, (refl, tt))))))

word_no_label : (instr : Instr) (rest : List ℕ) → is_label (word_of instr ++ 32 ∷ rest) ≡ false
word_no_label (instrs.Set r x) rest = refl
word_no_label (instrs.Cat r x y) rest = refl
word_no_label (instrs.Len r x) rest = refl
word_no_label (instrs.Head r x n) rest = refl
word_no_label (instrs.Tail r x n) rest = refl
word_no_label (instrs.Split r s x y) rest = refl
word_no_label (instrs.Arg r n label) rest = refl
word_no_label (instrs.Args r) rest = refl
word_no_label (instrs.Env r x label) rest = refl
word_no_label (instrs.Eq x y label) rest = refl
word_no_label (instrs.Jump label) rest = refl
word_no_label (instrs.Exit n) rest = refl
word_no_label (instrs.Say x) rest = refl
word_no_label (instrs.Read r x label) rest = refl
word_no_label (instrs.Probe r x) rest = refl
word_no_label (instrs.List r x) rest = refl
word_no_label (instrs.Match r x y) rest = refl
word_no_label (instrs.Write x y) rest = refl

word_no_blank : (instr : Instr) (rest : List ℕ) → skip_blanks (word_of instr ++ rest) ≡ word_of instr ++ rest
word_no_blank (instrs.Set r x) rest = refl
word_no_blank (instrs.Cat r x y) rest = refl
word_no_blank (instrs.Len r x) rest = refl
word_no_blank (instrs.Head r x n) rest = refl
word_no_blank (instrs.Tail r x n) rest = refl
word_no_blank (instrs.Split r s x y) rest = refl
word_no_blank (instrs.Arg r n label) rest = refl
word_no_blank (instrs.Args r) rest = refl
word_no_blank (instrs.Env r x label) rest = refl
word_no_blank (instrs.Eq x y label) rest = refl
word_no_blank (instrs.Jump label) rest = refl
word_no_blank (instrs.Exit n) rest = refl
word_no_blank (instrs.Say x) rest = refl
word_no_blank (instrs.Read r x label) rest = refl
word_no_blank (instrs.Probe r x) rest = refl
word_no_blank (instrs.List r x) rest = refl
word_no_blank (instrs.Match r x y) rest = refl
word_no_blank (instrs.Write x y) rest = refl

-- ## Instructions

no_operands : (labels : Labels) (instr : Instr) → HasLabels labels → AreOperands labels ([] ∷ []) instr → ⊥
no_operands labels instr ok h = let part = (are_parts labels ([] ∷ []) instr ok h).0 in empty part.first part.after part.begins
  where
    empty : (x : ℕ) (xs : List ℕ) → [] ≡ x ∷ xs → ⊥
    empty x xs e = cc

pub in_sound : (labels : Labels) (text : List ℕ) (instr : Instr) → HasLabels labels → instr_in (place_of labels) text ≡ Some instr → IsInstr labels text instr
in_sound labels text instr ok e =
    let parts = then_some (λ op. instr_of (place_of labels) op (operand_texts (after_byte 32 text))) (op_of (before_byte 32 text)) instr e in
    let made = instr_sound labels parts.0 (operand_texts (after_byte 32 text)) instr parts.2 in
    elim (cut_at 32 text) [
      | inl is ↦ record {
        rest = after_byte 32 text;
        texts = operand_texts (after_byte 32 text);
        word = is ∙ ap (λ w. w ++ 32 ∷ after_byte 32 text) (word_sound (before_byte 32 text) parts.0 parts.1 ∙ made.word);
        separated = separated_sound (after_byte 32 text);
        operands = made.operands;
      }
      | inr none ↦ absurd (no_operands labels instr ok (subst (λ t. AreOperands labels (operand_texts t) instr) none.1 made.operands))
    ]

pub in_complete : (labels : Labels) (text : List ℕ) (instr : Instr) → HasLabels labels → AreDistinct labels → IsInstr labels text instr
    → instr_in (place_of labels) text ≡ Some instr
in_complete labels text instr ok distinct h =
    let word = word_of instr in
    let before : before_byte 32 text ≡ word = ap (before_byte 32) h.word ∙ before_at 32 word h.rest refl (word_lacks instr).0 in
    let after : after_byte 32 text ≡ h.rest = ap (after_byte 32) h.word ∙ after_at 32 word h.rest refl (word_lacks instr).0 in
    let texts : operand_texts (after_byte 32 text) ≡ h.texts =
    ap operand_texts after ∙ separated_complete h.texts h.rest h.separated (are_parts labels h.texts instr ok h.operands) in
    ap (option_and_then (λ op. instr_of (place_of labels) op (operand_texts (after_byte 32 text)))) (ap op_of before ∙ op_read instr)
    ∙ ap (instr_of (place_of labels) (op_in instr)) texts ∙ instr_complete labels h.texts instr distinct h.operands

-- ## Lines

blanks_skipped : (xs : List ℕ) → (blanks : List ℕ) × AreBlanks blanks × (xs ≡ blanks ++ skip_blanks xs)
blanks_skipped [] = ([], tt, refl)
blanks_skipped (x ∷ xs) = by_blank (x == 32) (x == 9) refl refl (blanks_skipped xs)
  where
    by_blank : (s t : Bool) → (x == 32) ≡ s → (x == 9) ≡ t → ((blanks : List ℕ) × AreBlanks blanks × (xs ≡ blanks ++ skip_blanks xs))
        → (blanks : List ℕ) × AreBlanks blanks × (x ∷ xs ≡ blanks ++ cond (s || t) (skip_blanks xs) (x ∷ xs))
    by_blank true t is-s is-t more = (x ∷ more.0, (inl (equal_numbers x 32 is-s), more.1), ap (λ l. x ∷ l) more.2)
    by_blank false true is-s is-t more = (x ∷ more.0, (inr (equal_numbers x 9 is-t), more.1), ap (λ l. x ∷ l) more.2)
    by_blank false false is-s is-t more = ([], tt, refl)

skip_start : (blanks rest : List ℕ) → AreBlanks blanks → skip_blanks (blanks ++ rest) ≡ skip_blanks rest
skip_start [] rest h = refl
skip_start (x ∷ xs) rest h = one h.0 ∙ skip_start xs rest h.1
  where
    one : (x ≡ 32) ⊎ (x ≡ 9) → skip_blanks (x ∷ xs ++ rest) ≡ skip_blanks (xs ++ rest)
    one (inl e) = ap (λ b. skip_blanks (b ∷ xs ++ rest)) e
    one (inr e) = ap (λ b. skip_blanks (b ∷ xs ++ rest)) e

below_itself : (n : ℕ) → nat_lt n n ≡ true → ⊥
below_itself n e = let l : n < n = (Decides-ltb n n).0 e in omega (arith, l)

pub line_sound : (labels : Labels) (line : List ℕ) (instr : Instr) → HasLabels labels → line_of (place_of labels) line ≡ Some instr
    → IsLine labels line (label_of line) instr
line_sound labels line instr ok e = by_test (is_labelled line) refl e
  where
    by_test : (t : Bool) → is_labelled line ≡ t → instr_in (place_of labels) (skip_blanks (cond t (after_byte 58 line) line)) ≡ Some instr
        → IsLine labels line (cond t (Some (before_byte 58 line)) None) instr
    by_test true labelled read =
        let tests = and_parts (nat_lt (length (before_byte 58 line)) (length line)) (is_label (before_byte 58 line)) labelled in
        let skipped = blanks_skipped (after_byte 58 line) in
        elim (cut_at 58 line) [
          | inl is ↦ (
            before_byte 58 line ++ 58 ∷ skipped.0,
            skip_blanks (after_byte 58 line),
            is ∙ ap (λ t. before_byte 58 line ++ 58 ∷ t) skipped.2 ∙ sym (append_assoc (before_byte 58 line) (58 ∷ skipped.0) (skip_blanks (after_byte 58 line))),
            (label_sound (before_byte 58 line) tests.1, (skipped.0, skipped.1, refl)),
            in_sound labels (skip_blanks (after_byte 58 line)) instr ok read,
          )
          | inr none ↦ absurd (below_itself (length line) (ap (λ t. nat_lt (length t) (length line)) (sym none.0) ∙ tests.0))
        ]
    by_test false labelled read =
        let skipped = blanks_skipped line in
        (skipped.0, skip_blanks line, skipped.2, skipped.1, in_sound labels (skip_blanks line) instr ok read)

blank_no_label : (x : ℕ) (rest : List ℕ) → (x ≡ 32) ⊎ (x ≡ 9) → is_label (x ∷ rest) ≡ false
blank_no_label x rest (inl e) = ap (λ b. is_label (b ∷ rest)) e
blank_no_label x rest (inr e) = ap (λ b. is_label (b ∷ rest)) e

blank_lacks : (x : ℕ) → (x ≡ 32) ⊎ (x ≡ 9) → (x == 58) ≡ false
blank_lacks x (inl e) = ap (λ b. b == 58) e
blank_lacks x (inr e) = ap (λ b. b == 58) e

no_label : (start : List ℕ) (instr : Instr) (rest : List ℕ) → AreBlanks start → is_label (before_byte 58 (start ++ (word_of instr ++ 32 ∷ rest))) ≡ false
no_label [] instr rest h =
    ap is_label (before_lacks 58 (word_of instr) (32 ∷ rest) (word_lacks instr).1 ∙ ap (λ t. word_of instr ++ t) (before_other 58 32 rest refl))
    ∙ word_no_label instr (before_byte 58 rest)
no_label (x ∷ xs) instr rest h =
    let text = xs ++ (word_of instr ++ 32 ∷ rest) in
    ap is_label (before_other 58 x text (blank_lacks x h.0)) ∙ blank_no_label x (before_byte 58 text) h.0

label_byte_lacks : (b : ℕ) → is_label_byte b ≡ true → (b == 58) ≡ false
label_byte_lacks b e = grind (arith, nat_tests)

lower_lacks : (b : ℕ) → is_lower b ≡ true → (b == 58) ≡ false
lower_lacks b e = grind (arith, nat_tests)

bytes_lack : (xs : List ℕ) → AllByRecursion (λ b. IsTrue (is_label_byte b)) xs → Lacks 58 xs
bytes_lack [] h = tt
bytes_lack (x ∷ xs) h = (label_byte_lacks x h.0, bytes_lack xs h.1)

label_lacks : (text : List ℕ) → IsLabel text → Lacks 58 text
label_lacks [] h = absurd h
label_lacks (b ∷ bs) h = (lower_lacks b h.0, bytes_lack bs h.1)

-- what a line has before its instruction, and where that begins
pub record Begins (line : List ℕ) (label : Option (List ℕ)) (rest : List ℕ) : Type 0 where
  pub label_is : label_of line ≡ label
  pub rest_is : skip_blanks (after_label line) ≡ rest

begins : (line start rest after : List ℕ) (label : Option (List ℕ)) (instr : Instr) → line ≡ start ++ rest → rest ≡ word_of instr ++ 32 ∷ after → IsStart start label
    → Begins line label rest
begins line start rest after None instr is word h =
    let none : is_labelled line ≡ false =
    and_right (nat_lt (length (before_byte 58 line)) (length line)) (is_label (before_byte 58 line))
    (ap (λ t. is_label (before_byte 58 t)) (is ∙ ap (λ t. start ++ t) word) ∙ no_label start instr after h) in
    record {
      label_is = ap (λ t. cond t (Some (before_byte 58 line)) None) none;
      rest_is = ap (λ t. skip_blanks (cond t (after_byte 58 line) line)) none ∙ ap skip_blanks is ∙ skip_start start rest h
          ∙ ap skip_blanks word ∙ word_no_blank instr (32 ∷ after) ∙ sym word;
    }
begins line start rest after (Some label) instr is word h =
    let blanks = h.1.0 in
    let whole : line ≡ label ++ 58 ∷ (blanks ++ rest) = is ∙ ap (λ t. t ++ rest) h.1.2 ∙ append_assoc label (58 ∷ blanks) rest in
    let before : before_byte 58 line ≡ label = ap (before_byte 58) whole ∙ before_at 58 label (blanks ++ rest) refl (label_lacks label h.0) in
    let later : after_byte 58 line ≡ blanks ++ rest = ap (after_byte 58) whole ∙ after_at 58 label (blanks ++ rest) refl (label_lacks label h.0) in
    let size : length line ≡ length label + suc (length (blanks ++ rest)) = ap length whole ∙ length-append label (58 ∷ (blanks ++ rest)) in
    let shorter : length label < length line = omega (arith, size) in
    let labelled : is_labelled line ≡ true =
    and_from (nat_lt (length (before_byte 58 line)) (length line)) (is_label (before_byte 58 line))
    (ap (λ t. nat_lt (length t) (length line)) before ∙ (Decides-ltb (length label) (length line)).1 shorter)
    (ap is_label before ∙ label_complete label h.0) in
    record {
      label_is = ap (λ t. cond t (Some (before_byte 58 line)) None) labelled ∙ ap Some before;
      rest_is = ap (λ t. skip_blanks (cond t (after_byte 58 line) line)) labelled ∙ ap skip_blanks later ∙ skip_start blanks rest h.1.1
          ∙ ap skip_blanks word ∙ word_no_blank instr (32 ∷ after) ∙ sym word;
    }

line_begins : (labels : Labels) (line : List ℕ) (label : Option (List ℕ)) (instr : Instr) (h : IsLine labels line label instr) → Begins line label h.1
line_begins labels line label instr h = begins line h.0 h.1 h.4.rest label instr h.2 h.4.word h.3

line_complete : (labels : Labels) (line : List ℕ) (label : Option (List ℕ)) (instr : Instr) → HasLabels labels → AreDistinct labels → IsLine labels line label instr
    → line_of (place_of labels) line ≡ Some instr
line_complete labels line label instr ok distinct h =
    ap (instr_in (place_of labels)) (line_begins labels line label instr h).rest_is ∙ in_complete labels h.1 instr ok distinct h.4

with_sound : (o : Option Instr) (rest : Option (List Instr)) (tool : List Instr) → with_line o rest ≡ Some tool
    → (instr : Instr) × (instrs : List Instr) × (o ≡ Some instr) × (rest ≡ Some instrs) × (instr ∷ instrs ≡ tool)
with_sound None rest tool e = cc
with_sound (Some instr) None tool e = cc
with_sound (Some instr) (Some instrs) tool e = (instr, instrs, refl, refl, same_Some (instr ∷ instrs) tool e)

pub lines_sound : (labels : Labels) (lines : List (List ℕ)) (tool : List Instr) → HasLabels labels → lines_of (place_of labels) lines ≡ Some tool
    → AreLines labels lines (map label_of lines) tool
lines_sound labels [] tool ok e = subst (λ t. AreLines labels [] [] t) (same_Some [] tool e) tt
lines_sound labels (line ∷ lines) tool ok e =
    let parts = with_sound (line_of (place_of labels) line) (lines_of (place_of labels) lines) tool e in
    subst (λ t. AreLines labels (line ∷ lines) (map label_of (line ∷ lines)) t) parts.4
    (line_sound labels line parts.0 ok parts.2, lines_sound labels lines parts.1 ok parts.3)

labels_are : (labels : Labels) (lines : List (List ℕ)) (own : Labels) (tool : List Instr) → AreLines labels lines own tool → own ≡ map label_of lines
labels_are labels [] [] [] h = refl
labels_are labels [] [] (instr ∷ tool) h = absurd h
labels_are labels [] (label ∷ own) [] h = absurd h
labels_are labels [] (label ∷ own) (instr ∷ tool) h = absurd h
labels_are labels (line ∷ lines) [] [] h = absurd h
labels_are labels (line ∷ lines) [] (instr ∷ tool) h = absurd h
labels_are labels (line ∷ lines) (label ∷ own) [] h = absurd h
labels_are labels (line ∷ lines) (label ∷ own) (instr ∷ tool) h =
    ap (λ l. l ∷ own) (sym (line_begins labels line label instr h.0).label_is) ∙ ap (λ ls. label_of line ∷ ls) (labels_are labels lines own tool h.1)

lines_complete : (labels : Labels) (lines : List (List ℕ)) (own : Labels) (tool : List Instr) → HasLabels labels → AreDistinct labels → AreLines labels lines own tool
    → lines_of (place_of labels) lines ≡ Some tool
lines_complete labels [] [] [] ok distinct h = refl
lines_complete labels [] [] (instr ∷ tool) ok distinct h = absurd h
lines_complete labels [] (label ∷ own) [] ok distinct h = absurd h
lines_complete labels [] (label ∷ own) (instr ∷ tool) ok distinct h = absurd h
lines_complete labels (line ∷ lines) [] [] ok distinct h = absurd h
lines_complete labels (line ∷ lines) [] (instr ∷ tool) ok distinct h = absurd h
lines_complete labels (line ∷ lines) (label ∷ own) [] ok distinct h = absurd h
lines_complete labels (line ∷ lines) (label ∷ own) (instr ∷ tool) ok distinct h =
    ap (λ o. with_line o (lines_of (place_of labels) lines)) (line_complete labels line label instr ok distinct h.0)
    ∙ ap (with_line (Some instr)) (lines_complete labels lines own tool ok distinct h.1)

-- ## Tools

tool_sound : (text : List ℕ) (tool : List Instr) → tool_of text ≡ Some tool → IsTool text tool
tool_sound text tool e = by_lines (slice_split (λ b. b == 10) text) refl e
  where
    of_version : (second : Bool) (first : List ℕ) (rest : List (List ℕ)) → slice_split (λ b. b == 10) text ≡ first ∷ rest → bytes_eq first (first_line second) ≡ true
        → tool_after second rest ≡ Some tool → IsTool text tool
    of_version second first rest is named read =
        let lines = filter says rest in
        let own = then_some (if_in_version second) (tool_in lines) tool read in
        let whole = if_some (is_in_version second own.0) (Some own.0) tool own.2 in
        let inside : tool_in lines ≡ Some tool = own.1 ∙ whole.1 in
        let tests = if_some (are_distinct (map label_of lines)) (lines_of (place_of (map label_of lines)) lines) tool inside in
        record {
          second = second;
          rest = rest;
          labels = map label_of lines;
          first = is ∙ ap (λ l. l ∷ rest) ((bytes_eq-Decides first (first_line second)).0 named);
          lines = lines_sound (map label_of lines) lines tool (are_labels lines) tests.1;
          distinct = distinct_sound (map label_of lines) tests.0;
          version = ap (is_in_version second) (sym (same_Some own.0 tool whole.1)) ∙ whole.0;
        }

    by_first : (t u : Bool) (first : List ℕ) (rest : List (List ℕ)) → slice_split (λ b. b == 10) text ≡ first ∷ rest → bytes_eq first (first_line true) ≡ t
        → bytes_eq first (first_line false) ≡ u → cond t (tool_after true rest) (cond u (tool_after false rest) None) ≡ Some tool → IsTool text tool
    by_first true u first rest is second other read = of_version true first rest is second read
    by_first false true first rest is second other read = of_version false first rest is other read
    by_first false false first rest is second other read = cc

    by_lines : (lines : List (List ℕ)) → slice_split (λ b. b == 10) text ≡ lines → tool_from lines ≡ Some tool → IsTool text tool
    by_lines [] is read = cc
    by_lines (first ∷ rest) is read = by_first (bytes_eq first (first_line true)) (bytes_eq first (first_line false)) first rest is refl refl read

by_version : (second : Bool) (rest : List (List ℕ)) → tool_from (first_line second ∷ rest) ≡ tool_after second rest
by_version true rest = refl
by_version false rest = refl

tool_complete : (text : List ℕ) (tool : List Instr) → IsTool text tool → tool_of text ≡ Some tool
tool_complete text tool t =
    let lines = filter says t.rest in
    let own : t.labels ≡ map label_of lines = labels_are t.labels lines t.labels tool t.lines in
    let distinct : AreDistinct (map label_of lines) = subst AreDistinct own t.distinct in
    let each : AreLines (map label_of lines) lines (map label_of lines) tool = subst (λ (ls : Labels). AreLines ls lines ls tool) own t.lines in
    ap tool_from t.first ∙ by_version t.second t.rest
    ∙ ap (λ b. option_and_then (if_in_version t.second) (cond b (lines_of (place_of (map label_of lines)) lines) None)) (distinct_complete (map label_of lines) distinct)
    ∙ ap (option_and_then (if_in_version t.second)) (lines_complete (map label_of lines) lines (map label_of lines) tool (are_labels lines) distinct each)
    ∙ ap (λ b. cond b (Some tool) None) t.version

pub read : (text : List ℕ) (tool : List Instr) → (tool_of text ≡ Some tool) ↔ IsTool text tool
read text tool = (tool_sound text tool, tool_complete text tool)

pub only : (text : List ℕ) (s t : List Instr) → IsTool text s → IsTool text t → s ≡ t
only text s t h k = same_Some s t (sym (tool_complete text s h) ∙ tool_complete text t k)

-- what is read is a tool of the text, and where none is read there is none
pub found : (text : List ℕ) (read : Result (List Instr) ToolFault) → ReadsTool read (tool_of text) → IfOk read (λ tool. IsTool text tool)
found text (Ok tool) h = tool_sound text tool h
found text (Err fault) h = tt

pub none : (text : List ℕ) (read : Result (List Instr) ToolFault) → ReadsTool read (tool_of text) → read ≡ Err BadTool → (tool : List Instr) → IsTool text tool → ⊥
none text read h bad tool is = no_tool (tool_of text) (subst (λ (r : Result (List Instr) ToolFault). ReadsTool r (tool_of text)) bad h) (tool_complete text tool is)
  where
    no_tool : (o : Option (List Instr)) → o ≡ None → o ≡ Some tool → ⊥
    no_tool o e f = cc
