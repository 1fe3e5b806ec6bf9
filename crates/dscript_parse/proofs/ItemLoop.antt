-- The loop over the items of a project file.
use Rattle.std.proofs.Common.{◌≡◌, ℕ, suc, ◌-◌, ◌≤◌, ◌++◌, max, true, false, ◌==◌, List, [], ◌∷◌, length, map, Option, Some, None, refl, ap, sym, ◌∙◌, subst, arith}
use Rattle.std.proofs.lemmas.Bool.{false≢true}
use Rattle.std.proofs.lemmas.Bool.Decides.{nat_tests}
use Rattle.std.proofs.lemmas.List.{map_push}
use Rattle.dscript_lex.specs.declared.token.Token.{Token}
use Rattle.dscript_lex.specs.declared.token.TokenKind.{TokenKind}
use Rattle.dscript_ast.specs.FileTree.{Project}
use Rattle.dscript_ast.specs.Views.{item_tree}
use Rattle.dscript_ast.specs.declared.file.Form.TheVariants as forms
use Rattle.dscript_ast.specs.declared.file.Item.{Item}
use Rattle.dscript_grammar.specs.FileReading.{at_end, file_of, items_of, max_item_height, read_item}
use Rattle.dscript_grammar.specs.Place.{IsRefusedAt}
use Rattle.dscript_grammar.specs.Reading.{got}
use Rattle.dscript_grammar.proofs.Items.{items_before, loop_begins, loop_turns, loop_fails, loop_ends}
use Rattle.dscript_grammar.proofs.Places.{project_of_items, refused_after_items}
use Rattle.dscript_parse_tokens.specs.Gives.{kinds, Fails}
use Rattle.dscript_parse_tokens.specs.declared.parsed.Refusal.{Refusal}
use Rattle.dscript_parse_tokens.specs.declared.parsed.Refusal.TheVariants as refusals

-- the items so far, and then those that are read from the rest, are the items that are read from the start
pub record ItemsInvariant (items : List Item) (rest start : List TokenKind) : Type 0 where
  pub height : ℕ
  pub resumes : items_of max_item_height start ≡ items_before (map item_tree items) height (items_of max_item_height rest)

pub items_init : {items : List Item} (start : List TokenKind) → items ≡ [] → ItemsInvariant items start start
items_init start e =
    subst (λ (xs : List Item). ItemsInvariant xs start start) (sym e) (record { height = 0; resumes = loop_begins max_item_height start })

pub items_next : (x : Item) (items : List Item) {pushed : List Item} {k : ℕ} {rest start after : List TokenKind} → pushed ≡ items ++ x ∷ []
    → ItemsInvariant items rest start → read_item max_item_height rest ≡ got (item_tree x) k after → k ≤ max_item_height → ItemsInvariant pushed after start
items_next x items {k = k} {rest = rest} {start = start} {after = after} e i is low =
    subst (λ (xs : List Item). ItemsInvariant xs after start) (sym e)
    (record {
      height = max i.height k;
      resumes = loop_turns max_item_height start rest after (map item_tree items) i.height (item_tree x) k i.resumes is low
          ∙ ap (λ xs. items_before xs (max i.height k) (items_of max_item_height after)) (sym (map_push item_tree items x));
    })

pub items_done : (items : List Item) (rest start : List TokenKind) → ItemsInvariant items rest start → rest ≡ []
    → file_of forms.Project start ≡ Some (Project (map item_tree items))
items_done items rest start i e =
    project_of_items start (map item_tree items) i.height
    (loop_ends max_item_height start (map item_tree items) i.height
    (i.resumes ∙ ap (λ us. items_before (map item_tree items) i.height (items_of max_item_height us)) e))

pub items_refused : (items : List Item) (rest start : List TokenKind) → ItemsInvariant items rest start → at_end rest ≡ false → read_item max_item_height rest ≡ None
    → IsRefusedAt forms.Project start (length start - length rest)
items_refused items rest start i more none =
    refused_after_items start (map item_tree items) i.height rest
    (loop_fails max_item_height start rest (map item_tree items) i.height i.resumes none) more

pub length_kinds : (ts : List Token) → length (kinds ts) ≡ length ts
length_kinds [] = refl
length_kinds (t ∷ ts) = ap suc (length_kinds ts)

pub nothing_left : (ts : List Token) → (length ts == 0) ≡ true → kinds ts ≡ []
nothing_left [] e = refl
nothing_left (t ∷ ts) e = let l : suc (length ts) ≡ 0 = grind (arith, nat_tests, e) in absurd (omega (arith, l))

pub at_the_end : (ts : List Token) → (length ts == 0) ≡ true → at_end (kinds ts) ≡ true
unfolding at_end
at_the_end [] e = refl
at_the_end (t ∷ ts) e = let l : suc (length ts) ≡ 0 = grind (arith, nat_tests, e) in absurd (omega (arith, l))

pub something_left : (ts : List Token) → (length ts == 0) ≡ false → at_end (kinds ts) ≡ false
unfolding at_end
something_left [] e = absurd (false≢true (sym e))
something_left (t ∷ ts) e = refl

pub syntax_fails : {A : Type 0} (fault : Refusal) (read : Option A) → fault ≡ refusals.Syntax → Fails fault read → read ≡ None
syntax_fails fault read e fails = let known : Fails refusals.Syntax read = subst (λ f. Fails f read) e fails in known
