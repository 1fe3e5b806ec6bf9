-- How the loops over unions and `[]` begin, go on and end.
use Rattle.std.proofs.Common.{◌≡◌, ℕ, zero, suc, ◌+◌, ◌-◌, ◌<◌, max, true, false, List, [], ◌∷◌, ◌++◌, length, map, Option, Some, None, refl, ap, sym, ◌∙◌, subst, arith}
use Rattle.std.proofs.lemmas.Option.{same_Some, none-some}
use Rattle.std.proofs.lemmas.List.{map_push}
use Rattle.dscript_lex.specs.declared.token.TokenKind.{TokenKind}
use Rattle.dscript_grammar.specs.Reading.{Read, Reader, got, and_then, choose, take_punctuator}
use Rattle.dscript_ast.specs.TypeTree.{TypeTree}
use Rattle.dscript_grammar.specs.TypeReading.{at_function, read_function, read_array, read_union, read_brackets}
use Rattle.dscript_grammar.proofs.ExprComplete.{pick_false}
use Rattle.dscript_ast.specs.Views.{type_tree}
use Rattle.dscript_ast.specs.declared.type_node.TypeNode.{TypeNode}
use Rattle.dscript_parse_tokens.specs.LoopInvariants.{with_items}
use Rattle.dscript_parse_tokens.specs.UnionInvariants.{UnionInvariant, BracketsInvariant}
use Rattle.dscript_parse_tokens.proofs.Loops.{length_push, items_none, items_one, items_fails, items_moves, pick_true, then_some, then_none, choose_some, choose_none}

module _ (type : Reader TypeTree) (depth : ℕ) where
  pub union_init : {items : List TypeNode} {start : List TokenKind} → items ≡ [] → UnionInvariant type depth items 0 start start
  union_init {start = start} e =
      subst (λ (xs : List TypeNode). UnionInvariant type depth xs 0 start start) (sym e)
      (record { resumes = λ n. items_none _ ∙ ap (λ k. read_union type depth k start) (omega arith); count = omega arith })

  union_step : (n : ℕ) (x : Read TypeTree) (rest after : List TokenKind) → at_function rest ≡ false → read_array type depth rest ≡ Some x → take_punctuator "|" x.rest ≡ Some after
      → read_union type depth (suc n) rest ≡ and_then (read_union type depth n after) (λ ys. got (x.value ∷ ys.value) (max x.height ys.height) ys.rest)
  unfolding read_union
  union_step n x rest after o is e = pick_false _ _ o ∙ then_some _ is ∙ choose_some _ _ e

  pub union_next : (x : TypeNode) {items pushed : List TypeNode} {height k : ℕ} {rest start later after : List TokenKind} → pushed ≡ items ++ x ∷ []
      → UnionInvariant type depth items height rest start → at_function rest ≡ false → read_array type depth rest ≡ Some (record { value = type_tree x; height = k; rest = later }) → take_punctuator "|" later ≡ Some after
      → length later < length rest → length after < length later
      → UnionInvariant type depth pushed (max height k) after start
  union_next x {items = items} {pushed = pushed} {height = height} {k = k} {rest = rest} {start = start} {later = later} {after = after} e f o is t s u =
      let pushes : map type_tree pushed ≡ map type_tree items ++ type_tree x ∷ [] = ap (map type_tree) e ∙ map_push type_tree items x in
      let long : length pushed ≡ suc (length items) = ap length e ∙ length_push items x in
      record {
        resumes = λ n. ap (λ xs. with_items xs (max height k) (read_union type depth n after)) pushes
            ∙ items_moves (map type_tree items) (type_tree x) height k (read_union type depth n after)
            ∙ ap (with_items (map type_tree items) height) (sym (union_step n _ rest after o is t))
            ∙ f.resumes (suc n)
            ∙ ap (λ j. read_union type depth j start) (omega arith);
        count = omega (arith, f.count);
      }

  union_last : (n : ℕ) (x : Read TypeTree) (rest : List TokenKind) → at_function rest ≡ false → read_array type depth rest ≡ Some x → take_punctuator "|" x.rest ≡ None → read_union type depth (suc n) rest ≡ got (x.value ∷ []) x.height x.rest
  unfolding read_union
  union_last n x rest o is e = pick_false _ _ o ∙ then_some _ is ∙ choose_none _ _ e

  union_function : (n : ℕ) (x : Read TypeTree) (rest : List TokenKind) → at_function rest ≡ true → read_function type rest ≡ Some x → read_union type depth (suc n) rest ≡ got (x.value ∷ []) x.height x.rest
  unfolding read_union
  union_function n x rest o is = pick_true _ _ o ∙ then_some _ is

  union_at : (items : List TypeNode) (height : ℕ) (rest start : List TokenKind) (r : Option (Read (List TypeTree))) → UnionInvariant type depth items height rest start
      → ((n : ℕ) → read_union type depth (suc n) rest ≡ r) → read_union type depth (suc (length start)) start ≡ with_items (map type_tree items) height r
  union_at items height rest start r f is =
      let n : ℕ = length start - length items in
      ap (λ j. read_union type depth j start) (omega (arith, f.count)) ∙ sym (f.resumes (suc n)) ∙ ap (with_items (map type_tree items) height) (is n)

  ending : (x : TypeNode) (items pushed : List TypeNode) (height k : ℕ) (later : List TokenKind) → pushed ≡ items ++ x ∷ []
      → with_items (map type_tree items) height (got (type_tree x ∷ []) k later) ≡ got (map type_tree pushed) (max height k) later
  ending x items pushed height k later e =
      items_one (map type_tree items) (type_tree x) height k later ∙ ap (λ xs. got xs (max height k) later) (sym (ap (map type_tree) e ∙ map_push type_tree items x))

  pub union_done : (x : TypeNode) {items pushed : List TypeNode} {height k : ℕ} {rest start later : List TokenKind} → pushed ≡ items ++ x ∷ []
      → UnionInvariant type depth items height rest start → at_function rest ≡ false → read_array type depth rest ≡ Some (record { value = type_tree x; height = k; rest = later }) → take_punctuator "|" later ≡ None
      → read_union type depth (suc (length start)) start ≡ got (map type_tree pushed) (max height k) later
  union_done x {items = items} {pushed = pushed} {height = height} {k = k} {rest = rest} {start = start} {later = later} e f o is t =
      union_at items height rest start _ f (λ n. union_last n _ rest o is t) ∙ ending x items pushed height k later e

  pub union_closed : (x : TypeNode) {items pushed : List TypeNode} {height k : ℕ} {rest start later : List TokenKind} → pushed ≡ items ++ x ∷ []
      → UnionInvariant type depth items height rest start → at_function rest ≡ true → read_function type rest ≡ Some (record { value = type_tree x; height = k; rest = later })
      → read_union type depth (suc (length start)) start ≡ got (map type_tree pushed) (max height k) later
  union_closed x {items = items} {pushed = pushed} {height = height} {k = k} {rest = rest} {start = start} {later = later} e f o is =
      union_at items height rest start _ f (λ n. union_function n _ rest o is) ∙ ending x items pushed height k later e

  array_stuck : (n : ℕ) (rest : List TokenKind) → at_function rest ≡ false → read_array type depth rest ≡ None → read_union type depth (suc n) rest ≡ None
  unfolding read_union
  array_stuck n rest o none = pick_false _ _ o ∙ then_none _ none

  function_stuck : (n : ℕ) (rest : List TokenKind) → at_function rest ≡ true → read_function type rest ≡ None → read_union type depth (suc n) rest ≡ None
  unfolding read_union
  function_stuck n rest o none = pick_true _ _ o ∙ then_none _ none

  pub union_none : {items : List TypeNode} {height : ℕ} {rest start : List TokenKind} → UnionInvariant type depth items height rest start → at_function rest ≡ false → read_array type depth rest ≡ None
      → read_union type depth (suc (length start)) start ≡ None
  union_none {items = items} {height = height} {rest = rest} {start = start} f o none =
      union_at items height rest start None f (λ n. array_stuck n rest o none) ∙ items_fails (map type_tree items) height

  pub union_no_function : {items : List TypeNode} {height : ℕ} {rest start : List TokenKind} → UnionInvariant type depth items height rest start → at_function rest ≡ true → read_function type rest ≡ None
      → read_union type depth (suc (length start)) start ≡ None
  union_no_function {items = items} {height = height} {rest = rest} {start = start} f o none =
      union_at items height rest start None f (λ n. function_stuck n rest o none) ∙ items_fails (map type_tree items) height

-- `[]`
brackets_more : (k : ℕ) (m : Option (Read ℕ)) → and_then m (λ r. got (suc k + r.value) 0 r.rest) ≡ and_then (and_then m (λ r. got (suc r.value) 0 r.rest)) (λ r. got (k + r.value) 0 r.rest)
unfolding and_then
brackets_more k None = refl
brackets_more k (Some r) = ap (λ n. got n 0 r.rest) (omega arith)

-- adding no height to what is read changes nothing
flat : (m : Option (Read ℕ)) → ((r : Read ℕ) → m ≡ Some r → r.height ≡ 0) → and_then m (λ r. got (0 + r.value) 0 r.rest) ≡ m
unfolding and_then
flat None f = refl
flat (Some r) f = ap (λ n. got n 0 r.rest) (omega arith) ∙ ap (λ h. got r.value h r.rest) (sym (f r refl))

low_then : (m : Option (Read ℕ)) (r : Read ℕ) → and_then m (λ k. got (suc k.value) 0 k.rest) ≡ Some r → r.height ≡ 0
unfolding and_then
low_then None r e = absurd (none-some r e)
low_then (Some k) r e = sym (ap (λ x. x.height) (same_Some _ r e))

low_after : (m : Option (List TokenKind)) (n : ℕ) (r : Read ℕ) → and_then m (λ r2. and_then (read_brackets n r2) (λ k. got (suc k.value) 0 k.rest)) ≡ Some r → r.height ≡ 0
unfolding and_then
low_after None n r e = absurd (none-some r e)
low_after (Some r2) n r e = low_then (read_brackets n r2) r e

low_choice : (m : Option (List TokenKind)) (n : ℕ) (ts : List TokenKind) (r : Read ℕ)
    → choose m (got 0 0 ts) (λ r. and_then (take_punctuator "]" r) (λ r2. and_then (read_brackets n r2) (λ k. got (suc k.value) 0 k.rest))) ≡ Some r → r.height ≡ 0
unfolding choose
low_choice None n ts r e = sym (ap (λ x. x.height) (same_Some _ r e))
low_choice (Some mid) n ts r e = low_after (take_punctuator "]" mid) n r e

brackets_low : (n : ℕ) (ts : List TokenKind) (r : Read ℕ) → read_brackets n ts ≡ Some r → r.height ≡ 0
unfolding read_brackets
brackets_low zero ts r e = sym (ap (λ x. x.height) (same_Some _ r e))
brackets_low (suc n) ts r e = by (take_punctuator "[" ts) e
  where
    by : (m : Option (List TokenKind)) → choose m (got 0 0 ts) (λ r. and_then (take_punctuator "]" r) (λ r2. and_then (read_brackets n r2) (λ k. got (suc k.value) 0 k.rest))) ≡ Some r → r.height ≡ 0
    by m is = low_choice m n ts r is

pub brackets_init : {start : List TokenKind} → BracketsInvariant 0 start start
brackets_init {start = start} = record { resumes = λ n. flat (read_brackets n start) (brackets_low n start) ∙ ap (λ k. read_brackets k start) (omega arith); within = omega arith }

brackets_step : (n : ℕ) (rest mid after : List TokenKind) → take_punctuator "[" rest ≡ Some mid → take_punctuator "]" mid ≡ Some after
    → read_brackets (suc n) rest ≡ and_then (read_brackets n after) (λ r. got (suc r.value) 0 r.rest)
unfolding read_brackets
brackets_step n rest mid after e e2 = choose_some _ _ e ∙ then_some _ e2

pub brackets_next : {count : ℕ} {rest start mid after : List TokenKind} → BracketsInvariant count rest start → take_punctuator "[" rest ≡ Some mid → take_punctuator "]" mid ≡ Some after
    → length mid < length rest → length after < length mid → BracketsInvariant (suc count) after start
brackets_next {count = count} {rest = rest} {start = start} {mid = mid} {after = after} f e e2 s u = record {
  resumes = λ n. brackets_more count (read_brackets n after) ∙ ap (λ m. and_then m (λ r. got (count + r.value) 0 r.rest)) (sym (brackets_step n rest mid after e e2))
      ∙ f.resumes (suc n) ∙ ap (λ k. read_brackets k start) (omega arith);
  within = omega (arith, f.within);
}

brackets_stop : (n : ℕ) (rest : List TokenKind) → take_punctuator "[" rest ≡ None → read_brackets n rest ≡ got 0 0 rest
unfolding read_brackets
brackets_stop zero rest e = refl
brackets_stop (suc n) rest e = choose_none _ _ e

pub brackets_done : {count : ℕ} {rest start : List TokenKind} → BracketsInvariant count rest start → take_punctuator "[" rest ≡ None → read_brackets (length start) start ≡ got count 0 rest
unfolding and_then
brackets_done {count = count} {rest = rest} {start = start} f e =
    let n : ℕ = length start - count in
    ap (λ k. read_brackets k start) (omega (arith, f.within)) ∙ sym (f.resumes n) ∙ ap (λ m. and_then m (λ r. got (count + r.value) 0 r.rest)) (brackets_stop n rest e)
    ∙ ap (λ k. got k 0 rest) (omega arith)

brackets_stuck : (n : ℕ) (rest mid : List TokenKind) → take_punctuator "[" rest ≡ Some mid → take_punctuator "]" mid ≡ None → read_brackets (suc n) rest ≡ None
unfolding read_brackets
brackets_stuck n rest mid e e2 = choose_some _ _ e ∙ then_none _ e2

pub brackets_none : {count : ℕ} {rest start mid : List TokenKind} → BracketsInvariant count rest start → take_punctuator "[" rest ≡ Some mid → length mid < length rest → take_punctuator "]" mid ≡ None → read_brackets (length start) start ≡ None
unfolding and_then
brackets_none {count = count} {rest = rest} {start = start} {mid = mid} f e s e2 =
    let n : ℕ = length start - count - 1 in
    ap (λ k. read_brackets k start) (omega (arith, f.within)) ∙ sym (f.resumes (suc n)) ∙ ap (λ m. and_then m (λ r. got (count + r.value) 0 r.rest)) (brackets_stuck n rest mid e e2)
