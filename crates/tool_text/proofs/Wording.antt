-- The words and operands of instructions are read as the grammar says.
use Rattle.std.proofs.Common.{◌≡◌, ℕ, true, false, Bool, cond, ◌==◌, List, [], ◌∷◌, length, codes, Option, Some, None, inl, inr, refl, ap, sym, ◌∙◌, subst, arith, IsTrue}
use Rattle.std.specs.List.{AllByRecursion}
use Rattle.std.specs.Option.{option_map, option_and_then}
use Rattle.std.specs.Str.{bytes_eq}
use Rattle.std.proofs.lemmas.Bool.Decides.{nat_tests}
use Rattle.std.proofs.lemmas.Slice.Eq.{bytes_eq-Decides}
use Rattle.std.proofs.lemmas.Option.{same_Some}
use Rattle.tool_text.specs.declared.tool.Operand.{Operand}
use Rattle.tool_text.specs.declared.tool.Operand.TheVariants.{Register, Constant}
use Rattle.tool_text.specs.declared.tool.Instr.{Instr}
use Rattle.tool_text.specs.declared.tool.Instr.TheVariants as instrs
use Rattle.tool_text.specs.declared.op.Op.{Op}
use Rattle.tool_text.specs.declared.op.Op.TheVariants as ops
use Rattle.tool_text.specs.Grammar.{AreDistinct, AreOperands, IsCode, IsDigits, IsLabel, IsRegister, IsTarget, IsValue, Labels, One, Three, Two, is_digit, is_lower, word_of}
use Rattle.tool_text.specs.Reading.{all_three, both, code_of, instr_of, is_label_byte, full_listing, matching_listing, listing_of, lone, op_of, operand_of, pair, place_of, quadruple, register_of, register_operand, register_target, register_two, split_of, triple, two_operands, two_target, with_pair}
use Rattle.tool_text.proofs.Values.{code_complete, code_sound, map_some, register_complete, register_sound, value_complete, value_sound}
use Rattle.tool_text.proofs.Places.{target_complete, target_sound}
use Rattle.tool_text.proofs.Commas.{IsPart, is_solid, solid_part, string_part}

-- ## Words

-- the word of an operation
abbrev pub op_word : Op → List ℕ
op_word ops.Set = codes "set"
op_word ops.Cat = codes "cat"
op_word ops.Len = codes "len"
op_word ops.Head = codes "head"
op_word ops.Tail = codes "tail"
op_word ops.Split = codes "split"
op_word ops.Arg = codes "arg"
op_word ops.Args = codes "args"
op_word ops.Env = codes "env"
op_word ops.Eq = codes "eq"
op_word ops.Jump = codes "jump"
op_word ops.Exit = codes "exit"
op_word ops.Say = codes "say"
op_word ops.Read = codes "read"
op_word ops.Probe = codes "probe"
op_word ops.List = codes "list"
op_word ops.Write = codes "write"

one_word : (word : List ℕ) (op found : Op) (rest : Option Op) → cond (bytes_eq word (op_word op)) (Some op) rest ≡ Some found
    → (rest ≡ Some found → word ≡ op_word found) → word ≡ op_word found
one_word word op found rest e more = by_word (bytes_eq word (op_word op)) refl e
  where
    by_word : (t : Bool) → bytes_eq word (op_word op) ≡ t → cond t (Some op) rest ≡ Some found → word ≡ op_word found
    by_word true same is = (bytes_eq-Decides word (op_word op)).0 same ∙ ap op_word (same_Some op found is)
    by_word false other is = more is

pub word_sound : (word : List ℕ) (op : Op) → op_of word ≡ Some op → word ≡ op_word op
word_sound word op e =
    one_word word ops.Set op _ e (λ e.
    one_word word ops.Cat op _ e (λ e.
    one_word word ops.Len op _ e (λ e.
    one_word word ops.Head op _ e (λ e.
    one_word word ops.Tail op _ e (λ e.
    one_word word ops.Split op _ e (λ e.
    one_word word ops.Arg op _ e (λ e.
    one_word word ops.Args op _ e (λ e.
    one_word word ops.Env op _ e (λ e.
    one_word word ops.Eq op _ e (λ e.
    one_word word ops.Jump op _ e (λ e.
    one_word word ops.Exit op _ e (λ e.
    one_word word ops.Say op _ e (λ e.
    one_word word ops.Read op _ e (λ e.
    one_word word ops.Probe op _ e (λ e.
    one_word word ops.List op _ e (λ e.
    one_word word ops.Write op _ e (λ e.
    absurd (none_some e))))))))))))))))))
  where
    none_some : {X : Type 0} {x : X} → None ≡ Some x → ⊥
    none_some e = cc

-- the operation of an instruction
abbrev pub op_in : Instr → Op
op_in (instrs.Set r x) = ops.Set
op_in (instrs.Cat r x y) = ops.Cat
op_in (instrs.Len r x) = ops.Len
op_in (instrs.Head r x n) = ops.Head
op_in (instrs.Tail r x n) = ops.Tail
op_in (instrs.Split r s x y) = ops.Split
op_in (instrs.Arg r n label) = ops.Arg
op_in (instrs.Args r) = ops.Args
op_in (instrs.Env r x label) = ops.Env
op_in (instrs.Eq x y label) = ops.Eq
op_in (instrs.Jump label) = ops.Jump
op_in (instrs.Exit n) = ops.Exit
op_in (instrs.Say x) = ops.Say
op_in (instrs.Read r x label) = ops.Read
op_in (instrs.Probe r x) = ops.Probe
op_in (instrs.List r x) = ops.List
op_in (instrs.Match r x y) = ops.List
op_in (instrs.Write x y) = ops.Write

pub op_read : (instr : Instr) → op_of (word_of instr) ≡ Some (op_in instr)
op_read (instrs.Set r x) = refl
op_read (instrs.Cat r x y) = refl
op_read (instrs.Len r x) = refl
op_read (instrs.Head r x n) = refl
op_read (instrs.Tail r x n) = refl
op_read (instrs.Split r s x y) = refl
op_read (instrs.Arg r n label) = refl
op_read (instrs.Args r) = refl
op_read (instrs.Env r x label) = refl
op_read (instrs.Eq x y label) = refl
op_read (instrs.Jump label) = refl
op_read (instrs.Exit n) = refl
op_read (instrs.Say x) = refl
op_read (instrs.Read r x label) = refl
op_read (instrs.Probe r x) = refl
op_read (instrs.List r x) = refl
op_read (instrs.Match r x y) = refl
op_read (instrs.Write x y) = refl

-- ## Numbers of operands

lone_sound : (texts : List (List ℕ)) (a : List ℕ) → lone texts ≡ Some a → texts ≡ a ∷ []
lone_sound [] a e = cc
lone_sound (x ∷ []) a e = ap (λ t. t ∷ []) (same_Some x a e)
lone_sound (x ∷ y ∷ rest) a e = cc

pair_sound : (texts : List (List ℕ)) (p : List ℕ × List ℕ) → pair texts ≡ Some p → texts ≡ p.0 ∷ p.1 ∷ []
pair_sound [] p e = cc
pair_sound (x ∷ []) p e = cc
pair_sound (x ∷ y ∷ []) p e = let same = same_Some (x, y) p e in ap (λ (q : List ℕ × List ℕ). q.0 ∷ q.1 ∷ []) same
pair_sound (x ∷ y ∷ z ∷ rest) p e = cc

triple_sound : (texts : List (List ℕ)) (p : List ℕ × List ℕ × List ℕ) → triple texts ≡ Some p → texts ≡ p.0 ∷ p.1 ∷ p.2 ∷ []
triple_sound [] p e = cc
triple_sound (x ∷ []) p e = cc
triple_sound (x ∷ y ∷ []) p e = cc
triple_sound (x ∷ y ∷ z ∷ []) p e = let same = same_Some (x, y, z) p e in ap (λ (q : List ℕ × List ℕ × List ℕ). q.0 ∷ q.1 ∷ q.2 ∷ []) same
triple_sound (x ∷ y ∷ z ∷ w ∷ rest) p e = cc

quadruple_sound : (texts : List (List ℕ)) (p : List ℕ × List ℕ × List ℕ × List ℕ) → quadruple texts ≡ Some p → texts ≡ p.0 ∷ p.1 ∷ p.2 ∷ p.3 ∷ []
quadruple_sound [] p e = cc
quadruple_sound (x ∷ []) p e = cc
quadruple_sound (x ∷ y ∷ []) p e = cc
quadruple_sound (x ∷ y ∷ z ∷ []) p e = cc
quadruple_sound (x ∷ y ∷ z ∷ w ∷ []) p e =
    let same = same_Some (x, y, z, w) p e in ap (λ (q : List ℕ × List ℕ × List ℕ × List ℕ). q.0 ∷ q.1 ∷ q.2 ∷ q.3 ∷ []) same
quadruple_sound (x ∷ y ∷ z ∷ w ∷ v ∷ rest) p e = cc

both_sound : {A B : Type 0} (a : Option A) (b : Option B) (p : A × B) → both a b ≡ Some p → (a ≡ Some p.0) × (b ≡ Some p.1)
both_sound None b p e = cc
both_sound (Some a) None p e = cc
both_sound {A = A} {B = B} (Some a) (Some b) p e = let same = same_Some (a, b) p e in (ap (λ (q : A × B). Some q.0) same, ap (λ (q : A × B). Some q.1) same)

three_sound : {A B C : Type 0} (a : Option A) (b : Option B) (c : Option C) (p : A × B × C) → all_three a b c ≡ Some p
    → (a ≡ Some p.0) × (b ≡ Some p.1) × (c ≡ Some p.2)
three_sound None b c p e = cc
three_sound (Some a) None c p e = cc
three_sound (Some a) (Some b) None p e = cc
three_sound {A = A} {B = B} {C = C} (Some a) (Some b) (Some c) p e =
    let same = same_Some (a, b, c) p e in
    (ap (λ (q : A × B × C). Some q.0) same, ap (λ (q : A × B × C). Some q.1) same, ap (λ (q : A × B × C). Some q.2) same)

pub then_some : {X Y : Type 0} (f : X → Option Y) (o : Option X) (y : Y) → option_and_then f o ≡ Some y → (x : X) × (o ≡ Some x) × (f x ≡ Some y)
then_some f None y e = cc
then_some f (Some x) y e = (x, refl, e)

both_from : {A B : Type 0} (o : Option A) (p : Option B) (a : A) (b : B) → o ≡ Some a → p ≡ Some b → both o p ≡ Some (a, b)
both_from o p a b e f = ap (λ t. both t p) e ∙ ap (both (Some a)) f

three_from : {A B C : Type 0} (o : Option A) (p : Option B) (q : Option C) (a : A) (b : B) (c : C) → o ≡ Some a → p ≡ Some b → q ≡ Some c
    → all_three o p q ≡ Some (a, b, c)
three_from o p q a b c e f g = ap (λ t. all_three t p q) e ∙ ap (λ t. all_three (Some a) t q) f ∙ ap (all_three (Some a) (Some b)) g

-- ## What is read is by the grammar

-- the operation has this instruction with these operands
pub record Made (labels : Labels) (op : Op) (texts : List (List ℕ)) (instr : Instr) : Type 0 where
  pub is_op : op_in instr ≡ op
  pub word : op_word op ≡ word_of instr
  pub operands : AreOperands labels texts instr

register_operand_sound : (texts : List (List ℕ)) (p : ℕ × Operand) → register_operand texts ≡ Some p → Two (λ a. IsRegister a p.0) (λ a. IsValue a p.1) texts
register_operand_sound texts p e =
    let cut = then_some (λ (p : List ℕ × List ℕ). both (register_of p.0) (operand_of p.1)) (pair texts) p e in
    let parts = both_sound (register_of cut.0.0) (operand_of cut.0.1) p cut.2 in
    (cut.0.0, cut.0.1, pair_sound texts cut.0 cut.1, register_sound cut.0.0 p.0 parts.0, value_sound cut.0.1 p.1 parts.1)

two_operands_sound : (texts : List (List ℕ)) (p : Operand × Operand) → two_operands texts ≡ Some p → Two (λ a. IsValue a p.0) (λ a. IsValue a p.1) texts
two_operands_sound texts p e =
    let cut = then_some (λ (p : List ℕ × List ℕ). both (operand_of p.0) (operand_of p.1)) (pair texts) p e in
    let parts = both_sound (operand_of cut.0.0) (operand_of cut.0.1) p cut.2 in
    (cut.0.0, cut.0.1, pair_sound texts cut.0 cut.1, value_sound cut.0.0 p.0 parts.0, value_sound cut.0.1 p.1 parts.1)

register_two_sound : (texts : List (List ℕ)) (p : ℕ × Operand × Operand) → register_two texts ≡ Some p
    → Three (λ a. IsRegister a p.0) (λ a. IsValue a p.1) (λ a. IsValue a p.2) texts
register_two_sound texts p e =
    let cut = then_some (λ (p : List ℕ × List ℕ × List ℕ). all_three (register_of p.0) (operand_of p.1) (operand_of p.2)) (triple texts) p e in
    let parts = three_sound (register_of cut.0.0) (operand_of cut.0.1) (operand_of cut.0.2) p cut.2 in
    (cut.0.0, cut.0.1, cut.0.2, triple_sound texts cut.0 cut.1, register_sound cut.0.0 p.0 parts.0, value_sound cut.0.1 p.1 parts.1, value_sound cut.0.2 p.2 parts.2)

register_target_sound : (labels : Labels) (texts : List (List ℕ)) (p : ℕ × Operand × ℕ) → register_target (place_of labels) texts ≡ Some p
    → Three (λ a. IsRegister a p.0) (λ a. IsValue a p.1) (λ a. IsTarget labels a p.2) texts
register_target_sound labels texts p e =
    let cut = then_some (λ (p : List ℕ × List ℕ × List ℕ). all_three (register_of p.0) (operand_of p.1) (place_of labels p.2)) (triple texts) p e in
    let parts = three_sound (register_of cut.0.0) (operand_of cut.0.1) (place_of labels cut.0.2) p cut.2 in
    (cut.0.0, cut.0.1, cut.0.2, triple_sound texts cut.0 cut.1, register_sound cut.0.0 p.0 parts.0, value_sound cut.0.1 p.1 parts.1, target_sound labels cut.0.2 p.2 parts.2)

two_target_sound : (labels : Labels) (texts : List (List ℕ)) (p : Operand × Operand × ℕ) → two_target (place_of labels) texts ≡ Some p
    → Three (λ a. IsValue a p.0) (λ a. IsValue a p.1) (λ a. IsTarget labels a p.2) texts
two_target_sound labels texts p e =
    let cut = then_some (λ (p : List ℕ × List ℕ × List ℕ). all_three (operand_of p.0) (operand_of p.1) (place_of labels p.2)) (triple texts) p e in
    let parts = three_sound (operand_of cut.0.0) (operand_of cut.0.1) (place_of labels cut.0.2) p cut.2 in
    (cut.0.0, cut.0.1, cut.0.2, triple_sound texts cut.0 cut.1, value_sound cut.0.0 p.0 parts.0, value_sound cut.0.1 p.1 parts.1, target_sound labels cut.0.2 p.2 parts.2)

with_pair_sound : (rs : Option (ℕ × ℕ)) (xs : Option (Operand × Operand)) (instr : Instr) → with_pair rs xs ≡ Some instr
    → (p : ℕ × ℕ) × (q : Operand × Operand) × (rs ≡ Some p) × (xs ≡ Some q) × (instrs.Split p.0 p.1 q.0 q.1 ≡ instr)
with_pair_sound None xs instr e = cc
with_pair_sound (Some p) None instr e = cc
with_pair_sound (Some p) (Some q) instr e = (p, q, refl, refl, same_Some (instrs.Split p.0 p.1 q.0 q.1) instr e)

split_sound : (labels : Labels) (texts : List (List ℕ)) (instr : Instr) → split_of texts ≡ Some instr → Made labels ops.Split texts instr
split_sound labels texts instr e =
    let cut = then_some (λ (p : List ℕ × List ℕ × List ℕ × List ℕ). with_pair (both (register_of p.0) (register_of p.1)) (both (operand_of p.2) (operand_of p.3))) (quadruple texts) instr e in
    let parts = with_pair_sound (both (register_of cut.0.0) (register_of cut.0.1)) (both (operand_of cut.0.2) (operand_of cut.0.3)) instr cut.2 in
    let rs = both_sound (register_of cut.0.0) (register_of cut.0.1) parts.0 parts.2 in
    let xs = both_sound (operand_of cut.0.2) (operand_of cut.0.3) parts.1 parts.3 in
    subst (Made labels ops.Split texts) parts.4 (record {
      is_op = refl;
      word = refl;
      operands = (
        cut.0.0,
        cut.0.1,
        cut.0.2,
        cut.0.3,
        quadruple_sound texts cut.0 cut.1,
        register_sound cut.0.0 parts.0.0 rs.0,
        register_sound cut.0.1 parts.0.1 rs.1,
        value_sound cut.0.2 parts.1.0 xs.0,
        value_sound cut.0.3 parts.1.1 xs.1,
      );
    })

-- an instruction that is made of what its operands are read as
made_of : {X : Type 0} (labels : Labels) (op : Op) (texts : List (List ℕ)) (instr : Instr) (f : X → Instr) (o : Option X) → option_map f o ≡ Some instr
    → ((x : X) → o ≡ Some x → Made labels op texts (f x)) → Made labels op texts instr
made_of labels op texts instr f o e made = let parts = map_some f o instr e in subst (Made labels op texts) parts.2 (made parts.0 parts.1)

one_of : {X : Type 0} (A : List ℕ → X → Type 0) (read : List ℕ → Option X) (sound : (a : List ℕ) (x : X) → read a ≡ Some x → A a x) (texts : List (List ℕ)) (x : X)
    → option_and_then read (lone texts) ≡ Some x → One (λ a. A a x) texts
one_of A read sound texts x e = let cut = then_some read (lone texts) x e in (cut.0, lone_sound texts cut.0 cut.1, sound cut.0 x cut.2)

abbrev as_list : ℕ × Operand → Instr
as_list p = instrs.List p.0 p.1

abbrev as_match : ℕ × Operand × Operand → Instr
as_match p = instrs.Match p.0 p.1 p.2

listing_sound : (labels : Labels) (texts : List (List ℕ)) (instr : Instr) → listing_of texts ≡ Some instr → Made labels ops.List texts instr
listing_sound labels texts instr e = by_number (length texts == 3) e
  where
    by_number : (t : Bool) → cond t (matching_listing texts) (full_listing texts) ≡ Some instr → Made labels ops.List texts instr
    by_number true e = made_of labels ops.List texts instr as_match (register_two texts) e (λ p is. record { is_op = refl; word = refl; operands = register_two_sound texts p is })
    by_number false e = made_of labels ops.List texts instr as_list (register_operand texts) e (λ p is. record { is_op = refl; word = refl; operands = register_operand_sound texts p is })

pub instr_sound : (labels : Labels) (op : Op) (texts : List (List ℕ)) (instr : Instr) → instr_of (place_of labels) op texts ≡ Some instr → Made labels op texts instr
instr_sound labels ops.Set texts instr e =
    made_of labels ops.Set texts instr (λ (p : ℕ × Operand). instrs.Set p.0 p.1) (register_operand texts) e (λ p is. record { is_op = refl; word = refl; operands = register_operand_sound texts p is })
instr_sound labels ops.Cat texts instr e =
    made_of labels ops.Cat texts instr (λ (p : ℕ × Operand × Operand). instrs.Cat p.0 p.1 p.2) (register_two texts) e (λ p is. record { is_op = refl; word = refl; operands = register_two_sound texts p is })
instr_sound labels ops.Len texts instr e =
    made_of labels ops.Len texts instr (λ (p : ℕ × Operand). instrs.Len p.0 p.1) (register_operand texts) e (λ p is. record { is_op = refl; word = refl; operands = register_operand_sound texts p is })
instr_sound labels ops.Head texts instr e =
    made_of labels ops.Head texts instr (λ (p : ℕ × Operand × Operand). instrs.Head p.0 p.1 p.2) (register_two texts) e (λ p is. record { is_op = refl; word = refl; operands = register_two_sound texts p is })
instr_sound labels ops.Tail texts instr e =
    made_of labels ops.Tail texts instr (λ (p : ℕ × Operand × Operand). instrs.Tail p.0 p.1 p.2) (register_two texts) e (λ p is. record { is_op = refl; word = refl; operands = register_two_sound texts p is })
instr_sound labels ops.Split texts instr e = split_sound labels texts instr e
instr_sound labels ops.Arg texts instr e =
    made_of labels ops.Arg texts instr (λ (p : ℕ × Operand × ℕ). instrs.Arg p.0 p.1 p.2) (register_target (place_of labels) texts) e (λ p is. record { is_op = refl; word = refl; operands = register_target_sound labels texts p is })
instr_sound labels ops.Args texts instr e =
    made_of labels ops.Args texts instr instrs.Args (option_and_then register_of (lone texts)) e (λ p is. record { is_op = refl; word = refl; operands = one_of IsRegister register_of register_sound texts p is })
instr_sound labels ops.Env texts instr e =
    made_of labels ops.Env texts instr (λ (p : ℕ × Operand × ℕ). instrs.Env p.0 p.1 p.2) (register_target (place_of labels) texts) e (λ p is. record { is_op = refl; word = refl; operands = register_target_sound labels texts p is })
instr_sound labels ops.Eq texts instr e =
    made_of labels ops.Eq texts instr (λ (p : Operand × Operand × ℕ). instrs.Eq p.0 p.1 p.2) (two_target (place_of labels) texts) e (λ p is. record { is_op = refl; word = refl; operands = two_target_sound labels texts p is })
instr_sound labels ops.Jump texts instr e =
    made_of labels ops.Jump texts instr instrs.Jump (option_and_then (place_of labels) (lone texts)) e (λ p is. record { is_op = refl; word = refl; operands = one_of (λ a x. IsTarget labels a x) (place_of labels) (target_sound labels) texts p is })
instr_sound labels ops.Exit texts instr e =
    made_of labels ops.Exit texts instr instrs.Exit (option_and_then code_of (lone texts)) e (λ p is. record { is_op = refl; word = refl; operands = one_of IsCode code_of code_sound texts p is })
instr_sound labels ops.Say texts instr e =
    made_of labels ops.Say texts instr instrs.Say (option_and_then operand_of (lone texts)) e (λ p is. record { is_op = refl; word = refl; operands = one_of IsValue operand_of value_sound texts p is })
instr_sound labels ops.Read texts instr e =
    made_of labels ops.Read texts instr (λ (p : ℕ × Operand × ℕ). instrs.Read p.0 p.1 p.2) (register_target (place_of labels) texts) e (λ p is. record { is_op = refl; word = refl; operands = register_target_sound labels texts p is })
instr_sound labels ops.Probe texts instr e =
    made_of labels ops.Probe texts instr (λ (p : ℕ × Operand). instrs.Probe p.0 p.1) (register_operand texts) e (λ p is. record { is_op = refl; word = refl; operands = register_operand_sound texts p is })
instr_sound labels ops.List texts instr e = listing_sound labels texts instr e
instr_sound labels ops.Write texts instr e =
    made_of labels ops.Write texts instr (λ (p : Operand × Operand). instrs.Write p.0 p.1) (two_operands texts) e (λ p is. record { is_op = refl; word = refl; operands = two_operands_sound texts p is })

-- ## What the grammar gives is read

-- each operand's text is one part, since a label is a label
abbrev pub HasLabels : Labels → Type 0
HasLabels labels = (text : List ℕ) (i : ℕ) → IsTarget labels text i → IsLabel text

digit_solid : (b : ℕ) → is_digit b ≡ true → is_solid b ≡ true
digit_solid b e = grind (arith, nat_tests)

digits_solid : (xs : List ℕ) → AllByRecursion (λ b. IsTrue (is_digit b)) xs → AllByRecursion (λ b. IsTrue (is_solid b)) xs
digits_solid [] h = tt
digits_solid (x ∷ xs) h = (digit_solid x h.0, digits_solid xs h.1)

lower_solid : (b : ℕ) → is_lower b ≡ true → is_solid b ≡ true
lower_solid b e = grind (arith, nat_tests)

byte_solid : (b : ℕ) → is_label_byte b ≡ true → is_solid b ≡ true
byte_solid b e = grind (arith, nat_tests)

bytes_solid : (xs : List ℕ) → AllByRecursion (λ b. IsTrue (is_label_byte b)) xs → AllByRecursion (λ b. IsTrue (is_solid b)) xs
bytes_solid [] h = tt
bytes_solid (x ∷ xs) h = (byte_solid x h.0, bytes_solid xs h.1)

digits_part : (text : List ℕ) → IsDigits text → IsPart text
digits_part [] d = absurd (d.some refl)
digits_part (b ∷ bs) d = solid_part b bs (digits_solid (b ∷ bs) d.digits)

register_part : (text : List ℕ) (r : ℕ) → IsRegister text r → IsPart text
register_part text r h = subst IsPart (sym h.1) (solid_part 114 h.0 (refl, digits_solid h.0 h.2.digits.digits))

value_part : (text : List ℕ) (x : Operand) → IsValue text x → IsPart text
value_part text (Register r) h = register_part text r h
value_part text (Constant bytes) (inl h) = string_part text bytes h
value_part text (Constant bytes) (inr h) = digits_part text h.0

label_part : (text : List ℕ) → IsLabel text → IsPart text
label_part [] h = absurd h
label_part (b ∷ bs) h = solid_part b bs (lower_solid b h.0, bytes_solid bs h.1)

one_part : (A : List ℕ → Type 0) (texts : List (List ℕ)) → ((a : List ℕ) → A a → IsPart a) → One A texts → AllByRecursion IsPart texts
one_part A texts f h = subst (AllByRecursion IsPart) (sym h.1) (f h.0 h.2, tt)

two_parts : (A B : List ℕ → Type 0) (texts : List (List ℕ)) → ((a : List ℕ) → A a → IsPart a) → ((a : List ℕ) → B a → IsPart a) → Two A B texts
    → AllByRecursion IsPart texts
two_parts A B texts f g h = subst (AllByRecursion IsPart) (sym h.2) (f h.0 h.3, (g h.1 h.4, tt))

three_parts : (A B C : List ℕ → Type 0) (texts : List (List ℕ)) → ((a : List ℕ) → A a → IsPart a) → ((a : List ℕ) → B a → IsPart a) → ((a : List ℕ) → C a → IsPart a)
    → Three A B C texts → AllByRecursion IsPart texts
three_parts A B C texts f g k h = subst (AllByRecursion IsPart) (sym h.3) (f h.0 h.4, (g h.1 h.5, (k h.2 h.6, tt)))

pub are_parts : (labels : Labels) (texts : List (List ℕ)) (instr : Instr) → HasLabels labels → AreOperands labels texts instr → AllByRecursion IsPart texts
are_parts labels texts (instrs.Set r x) ok h = two_parts (λ a. IsRegister a r) (λ a. IsValue a x) texts (λ a. register_part a r) (λ a. value_part a x) h
are_parts labels texts (instrs.Cat r x y) ok h = three_parts (λ a. IsRegister a r) (λ a. IsValue a x) (λ a. IsValue a y) texts (λ a. register_part a r) (λ a. value_part a x) (λ a. value_part a y) h
are_parts labels texts (instrs.Len r x) ok h = two_parts (λ a. IsRegister a r) (λ a. IsValue a x) texts (λ a. register_part a r) (λ a. value_part a x) h
are_parts labels texts (instrs.Head r x n) ok h = three_parts (λ a. IsRegister a r) (λ a. IsValue a x) (λ a. IsValue a n) texts (λ a. register_part a r) (λ a. value_part a x) (λ a. value_part a n) h
are_parts labels texts (instrs.Tail r x n) ok h = three_parts (λ a. IsRegister a r) (λ a. IsValue a x) (λ a. IsValue a n) texts (λ a. register_part a r) (λ a. value_part a x) (λ a. value_part a n) h
are_parts labels texts (instrs.Split r s x y) ok h =
    subst (AllByRecursion IsPart) (sym h.4) (register_part h.0 r h.5, (register_part h.1 s h.6, (value_part h.2 x h.7, (value_part h.3 y h.8, tt))))
are_parts labels texts (instrs.Arg r n label) ok h = three_parts (λ a. IsRegister a r) (λ a. IsValue a n) (λ a. IsTarget labels a label) texts (λ a. register_part a r) (λ a. value_part a n) (λ a h. label_part a (ok a label h)) h
are_parts labels texts (instrs.Args r) ok h = one_part (λ a. IsRegister a r) texts (λ a. register_part a r) h
are_parts labels texts (instrs.Env r x label) ok h = three_parts (λ a. IsRegister a r) (λ a. IsValue a x) (λ a. IsTarget labels a label) texts (λ a. register_part a r) (λ a. value_part a x) (λ a h. label_part a (ok a label h)) h
are_parts labels texts (instrs.Eq x y label) ok h = three_parts (λ a. IsValue a x) (λ a. IsValue a y) (λ a. IsTarget labels a label) texts (λ a. value_part a x) (λ a. value_part a y) (λ a h. label_part a (ok a label h)) h
are_parts labels texts (instrs.Jump label) ok h = one_part (λ a. IsTarget labels a label) texts (λ a h. label_part a (ok a label h)) h
are_parts labels texts (instrs.Exit n) ok h = one_part (λ a. IsCode a n) texts (λ a code. digits_part a code.digits) h
are_parts labels texts (instrs.Say x) ok h = one_part (λ a. IsValue a x) texts (λ a. value_part a x) h
are_parts labels texts (instrs.Read r x label) ok h = three_parts (λ a. IsRegister a r) (λ a. IsValue a x) (λ a. IsTarget labels a label) texts (λ a. register_part a r) (λ a. value_part a x) (λ a h. label_part a (ok a label h)) h
are_parts labels texts (instrs.Probe r x) ok h = two_parts (λ a. IsRegister a r) (λ a. IsValue a x) texts (λ a. register_part a r) (λ a. value_part a x) h
are_parts labels texts (instrs.List r x) ok h = two_parts (λ a. IsRegister a r) (λ a. IsValue a x) texts (λ a. register_part a r) (λ a. value_part a x) h
are_parts labels texts (instrs.Match r x y) ok h = three_parts (λ a. IsRegister a r) (λ a. IsValue a x) (λ a. IsValue a y) texts (λ a. register_part a r) (λ a. value_part a x) (λ a. value_part a y) h
are_parts labels texts (instrs.Write x y) ok h = two_parts (λ a. IsValue a x) (λ a. IsValue a y) texts (λ a. value_part a x) (λ a. value_part a y) h

register_operand_complete : (texts : List (List ℕ)) (r : ℕ) (x : Operand) → Two (λ a. IsRegister a r) (λ a. IsValue a x) texts → register_operand texts ≡ Some (r, x)
register_operand_complete texts r x h =
    ap register_operand h.2 ∙ both_from (register_of h.0) (operand_of h.1) r x (register_complete h.0 r h.3) (value_complete h.1 x h.4)

two_operands_complete : (texts : List (List ℕ)) (x y : Operand) → Two (λ a. IsValue a x) (λ a. IsValue a y) texts → two_operands texts ≡ Some (x, y)
two_operands_complete texts x y h =
    ap two_operands h.2 ∙ both_from (operand_of h.0) (operand_of h.1) x y (value_complete h.0 x h.3) (value_complete h.1 y h.4)

register_two_complete : (texts : List (List ℕ)) (r : ℕ) (x y : Operand) → Three (λ a. IsRegister a r) (λ a. IsValue a x) (λ a. IsValue a y) texts
    → register_two texts ≡ Some (r, x, y)
register_two_complete texts r x y h =
    ap register_two h.3
    ∙ three_from (register_of h.0) (operand_of h.1) (operand_of h.2) r x y (register_complete h.0 r h.4) (value_complete h.1 x h.5) (value_complete h.2 y h.6)

register_target_complete : (labels : Labels) (texts : List (List ℕ)) (r : ℕ) (x : Operand) (place : ℕ) → AreDistinct labels
    → Three (λ a. IsRegister a r) (λ a. IsValue a x) (λ a. IsTarget labels a place) texts → register_target (place_of labels) texts ≡ Some (r, x, place)
register_target_complete labels texts r x place distinct h =
    ap (register_target (place_of labels)) h.3
    ∙ three_from (register_of h.0) (operand_of h.1) (place_of labels h.2) r x place (register_complete h.0 r h.4) (value_complete h.1 x h.5) (target_complete labels h.2 place distinct h.6)

two_target_complete : (labels : Labels) (texts : List (List ℕ)) (x y : Operand) (place : ℕ) → AreDistinct labels
    → Three (λ a. IsValue a x) (λ a. IsValue a y) (λ a. IsTarget labels a place) texts → two_target (place_of labels) texts ≡ Some (x, y, place)
two_target_complete labels texts x y place distinct h =
    ap (two_target (place_of labels)) h.3
    ∙ three_from (operand_of h.0) (operand_of h.1) (place_of labels h.2) x y place (value_complete h.0 x h.4) (value_complete h.1 y h.5) (target_complete labels h.2 place distinct h.6)

pub instr_complete : (labels : Labels) (texts : List (List ℕ)) (instr : Instr) → AreDistinct labels → AreOperands labels texts instr
    → instr_of (place_of labels) (op_in instr) texts ≡ Some instr
instr_complete labels texts (instrs.Set r x) distinct h = ap (option_map (λ (p : ℕ × Operand). instrs.Set p.0 p.1)) (register_operand_complete texts r x h)
instr_complete labels texts (instrs.Cat r x y) distinct h = ap (option_map (λ (p : ℕ × Operand × Operand). instrs.Cat p.0 p.1 p.2)) (register_two_complete texts r x y h)
instr_complete labels texts (instrs.Len r x) distinct h = ap (option_map (λ (p : ℕ × Operand). instrs.Len p.0 p.1)) (register_operand_complete texts r x h)
instr_complete labels texts (instrs.Head r x n) distinct h = ap (option_map (λ (p : ℕ × Operand × Operand). instrs.Head p.0 p.1 p.2)) (register_two_complete texts r x n h)
instr_complete labels texts (instrs.Tail r x n) distinct h = ap (option_map (λ (p : ℕ × Operand × Operand). instrs.Tail p.0 p.1 p.2)) (register_two_complete texts r x n h)
instr_complete labels texts (instrs.Split r s x y) distinct h =
    ap split_of h.4
    ∙ ap (λ t. with_pair t (both (operand_of h.2) (operand_of h.3))) (both_from (register_of h.0) (register_of h.1) r s (register_complete h.0 r h.5) (register_complete h.1 s h.6))
    ∙ ap (with_pair (Some (r, s))) (both_from (operand_of h.2) (operand_of h.3) x y (value_complete h.2 x h.7) (value_complete h.3 y h.8))
instr_complete labels texts (instrs.Arg r n label) distinct h = ap (option_map (λ (p : ℕ × Operand × ℕ). instrs.Arg p.0 p.1 p.2)) (register_target_complete labels texts r n label distinct h)
instr_complete labels texts (instrs.Args r) distinct h =
    ap (λ ts. option_map instrs.Args (option_and_then register_of (lone ts))) h.1 ∙ ap (option_map instrs.Args) (register_complete h.0 r h.2)
instr_complete labels texts (instrs.Env r x label) distinct h = ap (option_map (λ (p : ℕ × Operand × ℕ). instrs.Env p.0 p.1 p.2)) (register_target_complete labels texts r x label distinct h)
instr_complete labels texts (instrs.Eq x y label) distinct h = ap (option_map (λ (p : Operand × Operand × ℕ). instrs.Eq p.0 p.1 p.2)) (two_target_complete labels texts x y label distinct h)
instr_complete labels texts (instrs.Jump label) distinct h =
    ap (λ ts. option_map instrs.Jump (option_and_then (place_of labels) (lone ts))) h.1 ∙ ap (option_map instrs.Jump) (target_complete labels h.0 label distinct h.2)
instr_complete labels texts (instrs.Exit n) distinct h =
    ap (λ ts. option_map instrs.Exit (option_and_then code_of (lone ts))) h.1 ∙ ap (option_map instrs.Exit) (code_complete h.0 n h.2)
instr_complete labels texts (instrs.Say x) distinct h =
    ap (λ ts. option_map instrs.Say (option_and_then operand_of (lone ts))) h.1 ∙ ap (option_map instrs.Say) (value_complete h.0 x h.2)
instr_complete labels texts (instrs.Read r x label) distinct h = ap (option_map (λ (p : ℕ × Operand × ℕ). instrs.Read p.0 p.1 p.2)) (register_target_complete labels texts r x label distinct h)
instr_complete labels texts (instrs.Probe r x) distinct h = ap (option_map (λ (p : ℕ × Operand). instrs.Probe p.0 p.1)) (register_operand_complete texts r x h)
instr_complete labels texts (instrs.List r x) distinct h =
    ap (λ t. cond t (matching_listing texts) (full_listing texts)) (ap (λ (ts : List (List ℕ)). length ts == 3) h.2)
    ∙ ap (option_map as_list) (register_operand_complete texts r x h)
instr_complete labels texts (instrs.Match r x y) distinct h =
    ap (λ t. cond t (matching_listing texts) (full_listing texts)) (ap (λ (ts : List (List ℕ)). length ts == 3) h.3)
    ∙ ap (option_map as_match) (register_two_complete texts r x y h)
instr_complete labels texts (instrs.Write x y) distinct h = ap (option_map (λ (p : Operand × Operand). instrs.Write p.0 p.1)) (two_operands_complete texts x y h)
