-- A tool from its lines.
use Rattle.std.proofs.Common.{◌≡◌, ℕ, ◌+◌, ◌<◌, true, false, cond, List, [], ◌∷◌, ◌++◌, length, drop, get_or, Option, Some, None, refl, ap, sym, ◌∙◌, Err, append_assoc}
use mathlib.Core.Path.{fun_ext}
use Rattle.std.specs.Borrow.{Bor}
use Rattle.tool_text.specs.declared.tool.Instr.{Instr}
use Rattle.tool_text.specs.declared.fault.ToolFault.{ToolFault}
use Rattle.tool_text.specs.declared.fault.ToolFault.TheVariants.{BadTool, Memory}
use Rattle.tool_text.specs.Reading.{Places, ReadsTool, after_lines, are_distinct, line_of, lines_of, place_of, tool_in, with_line}
use Rattle.tool_text.proofs.Labelled.{labels_of}
use Rattle.bx_tree.specs.Lent.{texts_now}
use Rattle.bx_tree.proofs.Lent.{texts_at, drop_whole}

pub tool_read : (lines : List (Bor (List ℕ))) (places : Places) (read : Option (List Instr)) → are_distinct (labels_of lines) ≡ true
    → ((q : List ℕ) → places q ≡ place_of (labels_of lines) q) → lines_of places (texts_now lines) ≡ read → tool_in (texts_now lines) ≡ read
tool_read lines places read distinct known is =
    ap (λ b. cond b (lines_of (place_of (labels_of lines)) (texts_now lines)) None) distinct
    ∙ ap (λ (f : Places). lines_of f (texts_now lines)) (sym (fun_ext known)) ∙ is

pub no_tool : (lines : List (Bor (List ℕ))) → are_distinct (labels_of lines) ≡ false → tool_in (texts_now lines) ≡ None
no_tool lines twice = ap (λ b. cond b (lines_of (place_of (labels_of lines)) (texts_now lines)) None) twice

after_more : (prefix : List Instr) (instr : Instr) (read : Option (List Instr)) → after_lines (prefix ++ instr ∷ []) read ≡ after_lines prefix (with_line (Some instr) read)
after_more prefix instr None = refl
after_more prefix instr (Some tool) = ap Some (append_assoc prefix (instr ∷ []) tool)

pub one_instr : (lines : List (Bor (List ℕ))) (i : ℕ) (d : Bor (List ℕ)) (places : Places) (prefix new : List Instr) (instr : Instr) (all : Option (List Instr)) → i < length lines
    → line_of places (get_or lines i d).now ≡ Some instr → new ≡ prefix ++ instr ∷ [] → after_lines prefix (lines_of places (texts_now (drop i lines))) ≡ all
    → after_lines new (lines_of places (texts_now (drop (i + 1) lines))) ≡ all
one_instr lines i d places prefix new instr all l is more so_far =
    ap (λ xs. after_lines xs (lines_of places (texts_now (drop (i + 1) lines)))) more
    ∙ after_more prefix instr (lines_of places (texts_now (drop (i + 1) lines)))
    ∙ ap (λ o. after_lines prefix (with_line o (lines_of places (texts_now (drop (i + 1) lines))))) (sym is)
    ∙ ap (λ ts. after_lines prefix (lines_of places ts)) (sym (texts_at lines i d l)) ∙ so_far

pub bad_line : (lines : List (Bor (List ℕ))) (i : ℕ) (d : Bor (List ℕ)) (places : Places) (prefix : List Instr) (all : Option (List Instr)) → i < length lines
    → line_of places (get_or lines i d).now ≡ None → after_lines prefix (lines_of places (texts_now (drop i lines))) ≡ all → all ≡ None
bad_line lines i d places prefix all l is so_far =
    sym so_far ∙ ap (λ ts. after_lines prefix (lines_of places ts)) (texts_at lines i d l)
    ∙ ap (λ o. after_lines prefix (with_line o (lines_of places (texts_now (drop (i + 1) lines))))) is

pub all_instrs : (lines : List (Bor (List ℕ))) (i : ℕ) (places : Places) (prefix : List Instr) (all : Option (List Instr)) → length lines ≡ i
    → after_lines prefix (lines_of places (texts_now (drop i lines))) ≡ all → all ≡ Some prefix
all_instrs lines i places prefix all l so_far =
    sym so_far ∙ ap (λ ls. after_lines prefix (lines_of places (texts_now ls))) (drop_whole lines i l) ∙ ap Some (no_more prefix)
  where
    no_more : (xs : List Instr) → xs ++ [] ≡ xs
    no_more [] = refl
    no_more (x ∷ xs) = ap (λ ys. x ∷ ys) (no_more xs)

-- what a fault of a part says of the whole
pub err_again : {X Y : Type 0} (e : ToolFault) (part : Option X) (all : Option Y) → ReadsTool (Err e) part → (part ≡ None → all ≡ None) → ReadsTool (Err e) all
err_again BadTool part all h f = f h
err_again Memory part all h f = tt
