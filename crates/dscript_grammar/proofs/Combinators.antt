-- Soundness and completeness of the parts that all readers share.
use Prim.Native.String.{String as Letters}
use Rattle.std.proofs.Common.{◌≡◌, ℕ, zero, suc, ◌+◌, ◌<◌, ◌≤◌, Bool, true, false, List, [], ◌∷◌, length, Option, Some, None, codes, bytes_eq, refl, ap, sym, ◌∙◌, subst, inl, inr, arith}
use Rattle.std.proofs.lemmas.Bool.{false≢true}
use Rattle.std.proofs.lemmas.Option.{same_Some, none-some}
use Rattle.std.proofs.lemmas.Slice.Eq.{bytes_eq-Decides}
use Rattle.dscript_lex.specs.declared.token.TokenKind.{TokenKind}
use Rattle.dscript_lex.specs.declared.token.TokenKind.TheVariants as kinds
use Rattle.dscript_grammar.specs.Language.{Language, token, keyword, punctuator, name, identifier, string, ◌⋅◌, only_if, many, separated, list}
use Rattle.dscript_grammar.specs.Reading.{Read, Reader, got, and_then, ◌>>=◌, choose, pick, is_punctuator, is_keyword, at_punctuator, take_punctuator, take_keyword, read_name, read_identifier, read_string, read_flag, read_many, read_separated, read_list, take_punctuator_bytes, take_keyword_bytes, flag_by}

-- the value of m, if there is one, has the property
pub record Found {A : Type 0} (m : Option A) (P : A → Type 0) : Type 0 where
  pub is : (x : A) → m ≡ Some x → P x

-- m has this value, of at most the height h, and this rest
pub record Reads {X : Type 0} (m : Option (Read X)) (h : ℕ) (v : X) (rest : List TokenKind) : Type 0 where
  pub height : ℕ
  pub within : height ≤ h
  pub is : m ≡ got v height rest

-- the reader is sound: what it reads is derived, at each great enough height
abbrev pub Sound : {X : Type 0} → (ℕ → X → Language) → Reader X → Type 0
Sound L one = (ts : List TokenKind) → Found (one ts) (λ r. (h : ℕ) → r.height ≤ h → L h r.value ts r.rest)

pub found_some : {A : Type 0} {P : A → Type 0} {x : A} → P x → Found (Some x) P
found_some {P = P} {x = x} p = record { is = λ y e. subst P (same_Some x y e) p }

pub found_none : {A : Type 0} {P : A → Type 0} → Found None P
found_none = record { is = λ y e. absurd (none-some y e) }

pub found_bind : {A B : Type 0} {m : Option A} {f : A → Option B} {P : A → Type 0} {Q : B → Type 0}
    → Found m P → ((x : A) → P x → Found (f x) Q) → Found (m >>= f) Q
unfolding and_then
found_bind {m = None} p k = found_none
found_bind {m = Some x} p k = k x (p.is x refl)

pub found_choose : {A B : Type 0} {m : Option A} {n : Option B} {f : A → Option B} {Q : B → Type 0}
    → (m ≡ None → Found n Q) → ((x : A) → m ≡ Some x → Found (f x) Q) → Found (choose m n f) Q
unfolding choose
found_choose {m = None} p k = p refl
found_choose {m = Some x} p k = k x refl

pub found_if : {B : Type 0} {b : Bool} {x y : Option B} {Q : B → Type 0}
    → (b ≡ true → Found x Q) → (b ≡ false → Found y Q) → Found (pick b x y) Q
unfolding pick
found_if {b = true} p q = p refl
found_if {b = false} p q = q refl

pub reads_done : {X : Type 0} {v : X} {n h : ℕ} {rest : List TokenKind} → n ≤ h → Reads (got v n rest) h v rest
reads_done {n = n} l = record { height = n; within = l; is = refl }

pub reads_bind : {X Y : Type 0} {m : Option (Read X)} (f : Read X → Option (Read Y)) {h k : ℕ} {v : X} {w : Y} {mid rest : List TokenKind}
    → Reads m h v mid → ((n : ℕ) → n ≤ h → Reads (f (record { value = v; height = n; rest = mid })) k w rest) → Reads (m >>= f) k w rest
unfolding and_then
reads_bind f r next =
    let a = next r.height r.within in record { height = a.height; within = a.within; is = ap (λ o. o >>= f) r.is ∙ a.is }

pub take_bind : {A Y : Type 0} {m : Option A} (f : A → Option (Read Y)) {x : A} {k : ℕ} {w : Y} {rest : List TokenKind}
    → m ≡ Some x → Reads (f x) k w rest → Reads (m >>= f) k w rest
unfolding and_then
take_bind f e r = record { height = r.height; within = r.within; is = ap (λ o. o >>= f) e ∙ r.is }

pub choose_some : {A Y : Type 0} {m : Option A} (n : Option (Read Y)) (f : A → Option (Read Y)) {x : A} {k : ℕ} {w : Y} {rest : List TokenKind}
    → m ≡ Some x → Reads (f x) k w rest → Reads (choose m n f) k w rest
unfolding choose
choose_some n f e r = record { height = r.height; within = r.within; is = ap (λ o. choose o n f) e ∙ r.is }

pub choose_none : {A Y : Type 0} {m : Option A} {n : Option (Read Y)} (f : A → Option (Read Y)) {k : ℕ} {w : Y} {rest : List TokenKind}
    → m ≡ None → Reads n k w rest → Reads (choose m n f) k w rest
unfolding choose
choose_none {n = n} f e r = record { height = r.height; within = r.within; is = ap (λ o. choose o n f) e ∙ r.is }

pub if_true : {Y : Type 0} {b : Bool} {x : Option (Read Y)} (y : Option (Read Y)) {k : ℕ} {w : Y} {rest : List TokenKind}
    → b ≡ true → Reads x k w rest → Reads (pick b x y) k w rest
unfolding pick
if_true {x = x} y e r = record { height = r.height; within = r.within; is = ap (λ c. pick c x y) e ∙ r.is }

pub if_false : {Y : Type 0} {b : Bool} (x : Option (Read Y)) {y : Option (Read Y)} {k : ℕ} {w : Y} {rest : List TokenKind}
    → b ≡ false → Reads y k w rest → Reads (pick b x y) k w rest
unfolding pick
if_false x {y = y} e r = record { height = r.height; within = r.within; is = ap (λ c. pick c x y) e ∙ r.is }

-- single tokens
pub bytes_eq_self : (w : List ℕ) → bytes_eq w w ≡ true
bytes_eq_self w = (bytes_eq-Decides w w).1 refl

pub is_punctuator-same : (s : Letters) (t : TokenKind) → is_punctuator s t ≡ true → t ≡ kinds.Punct (codes s)
is_punctuator-same s (kinds.Punct p) e = ap kinds.Punct ((bytes_eq-Decides p (codes s)).0 e)
is_punctuator-same s _ e = absurd (false≢true e)

pub is_keyword-same : (w : Letters) (t : TokenKind) → is_keyword w t ≡ true → t ≡ kinds.Word (codes w)
is_keyword-same w (kinds.Word p) e = ap kinds.Word ((bytes_eq-Decides p (codes w)).0 e)
is_keyword-same w _ e = absurd (false≢true e)

pub punctuator_sound : (s : Letters) (ts : List TokenKind) → Found (take_punctuator s ts) (λ rest. punctuator s ts rest)
unfolding take_punctuator_bytes
punctuator_sound s [] = found_none
punctuator_sound s (t ∷ ts) = found_if (λ e. found_some (ap (λ u. u ∷ ts) (is_punctuator-same s t e))) (λ e. found_none)

pub keyword_sound : (w : Letters) (ts : List TokenKind) → Found (take_keyword w ts) (λ rest. keyword w ts rest)
unfolding take_keyword_bytes
keyword_sound w [] = found_none
keyword_sound w (t ∷ ts) = found_if (λ e. found_some (ap (λ u. u ∷ ts) (is_keyword-same w t e))) (λ e. found_none)

pub name_sound : Sound (λ h. name) read_name
unfolding read_name
name_sound [] = found_none
name_sound (kinds.Word w ∷ ts) = found_some (λ h l. refl)
name_sound (_ ∷ ts) = found_none

pub identifier_sound : Sound (λ h. identifier) read_identifier
unfolding read_identifier
identifier_sound [] = found_none
identifier_sound (kinds.Word w ∷ ts) = found_if (λ e. found_none) (λ e. found_some (λ h l. (refl, e)))
identifier_sound (_ ∷ ts) = found_none

pub string_sound : Sound (λ h. string) read_string
unfolding read_string
string_sound [] = found_none
string_sound (kinds.Str s ∷ ts) = found_some (λ h l. refl)
string_sound (_ ∷ ts) = found_none

-- a flag that is set if the punctuator is there
pub flag_sound : (s : Letters) → Sound (λ h b. only_if b (punctuator s)) (read_flag s)
unfolding flag_by
flag_sound s ts = found_choose (λ e. found_some (λ h l. refl)) (λ rest e. found_some (λ h l. (punctuator_sound s ts).is rest e))

pub punctuator_taken : (s : Letters) {ts rest : List TokenKind} → punctuator s ts rest → take_punctuator s ts ≡ Some rest
unfolding take_punctuator_bytes pick
punctuator_taken s {rest = rest} e =
    ap (take_punctuator s) e ∙ ap (λ b. pick b (Some rest) None) (bytes_eq_self (codes s))

pub keyword_taken : (w : Letters) {ts rest : List TokenKind} → keyword w ts rest → take_keyword w ts ≡ Some rest
unfolding take_keyword_bytes pick
keyword_taken w {rest = rest} e =
    ap (take_keyword w) e ∙ ap (λ b. pick b (Some rest) None) (bytes_eq_self (codes w))

pub name_complete : {w : List ℕ} {ts rest : List TokenKind} {h : ℕ} → name w ts rest → Reads (read_name ts) h w rest
unfolding read_name
name_complete e = record { height = 0; within = omega arith; is = ap read_name e }

pub identifier_complete : {w : List ℕ} {ts rest : List TokenKind} {h : ℕ} → identifier w ts rest → Reads (read_identifier ts) h w rest
unfolding read_identifier pick
identifier_complete {w = w} {rest = rest} e =
    record { height = 0; within = omega arith; is = ap read_identifier e.0 ∙ ap (λ b. pick b None (got w 0 rest)) e.1 }

pub string_complete : {s : List ℕ} {ts rest : List TokenKind} {h : ℕ} → string s ts rest → Reads (read_string ts) h s rest
unfolding read_string
string_complete e = record { height = 0; within = omega arith; is = ap read_string e }

pub flag_set : (s : Letters) {ts rest : List TokenKind} {h : ℕ} → punctuator s ts rest → Reads (read_flag s ts) h true rest
unfolding flag_by
flag_set s e = choose_some _ _ (punctuator_taken s e) (reads_done (omega arith))

-- a value with an equal rest
pub reads_moved : {X : Type 0} {v : X} {n h : ℕ} {mid rest : List TokenKind} → mid ≡ rest → n ≤ h → Reads (got v n mid) h v rest
reads_moved {v = v} {n = n} e l = record { height = n; within = l; is = ap (got v n) e }

-- Repetitions.

separated_more : {X : Type 0} (s : Letters) (x : X → Language) (a : X) (xs : List X) {ts mid after : List TokenKind} (rest : List TokenKind)
    → x a ts mid → punctuator s mid after → separated s x xs after rest → separated s x (a ∷ xs) ts rest
separated_more s x a [] rest p e q = absurd q
separated_more s x a (b ∷ more) {mid = mid} {after = after} rest p e q = (mid, p, (after, e, q))

list_more : {X : Type 0} (x : X → Language) (a : X) (xs : List X) {ts mid after : List TokenKind} (rest : List TokenKind)
    → x a ts mid → punctuator "," mid after → list x xs after rest → list x (a ∷ xs) ts rest
list_more x a [] {mid = mid} rest p e q = (mid, p, inl (e ∙ ap (λ r. kinds.Punct (codes ",") ∷ r) q))
list_more x a (b ∷ more) {mid = mid} {after = after} rest p e q = (mid, p, (after, e, q))

module _ {X : Type 0} (L : ℕ → X → Language) (one : Reader X) (sound : Sound L one) where
  pub many_sound : (go : List TokenKind → Bool) (n : ℕ) → Sound (λ h. many (L h)) (read_many go one n)
  unfolding read_many
  many_sound go zero ts = found_some (λ h l. refl)
  many_sound go (suc n) ts =
      found_if
      (λ e. found_bind (sound ts) λ x p. found_bind (many_sound go n x.rest) λ xs q.
      found_some (λ h l. (x.rest, p h (omega arith), q h (omega arith))))
      (λ e. found_some (λ h l. refl))

  pub separated_sound : (s : Letters) (n : ℕ) → Sound (λ h. separated s (L h)) (read_separated s one n)
  unfolding read_separated
  separated_sound s zero ts = found_bind (sound ts) λ x p. found_some (λ h l. p h l)
  separated_sound s (suc n) ts =
      found_bind (sound ts) λ x p. found_choose (λ e. found_some (λ h l. p h l)) λ after e.
      found_bind (separated_sound s n after) λ xs q.
      found_some (λ h l. separated_more s (L h) x.value xs.value _ (p h (omega arith)) ((punctuator_sound s x.rest).is after e) (q h (omega arith)))

  pub list_sound : (close : Letters) (n : ℕ) → Sound (λ h. list (L h)) (read_list close one n)
  unfolding read_list
  list_sound close zero ts = found_some (λ h l. refl)
  list_sound close (suc n) ts =
      found_if (λ e. found_some (λ h l. refl)) λ e.
      found_bind (sound ts) λ x p. found_choose (λ e. found_some (λ h l. (x.rest, p h l, inr refl))) λ after e.
      found_bind (list_sound close n after) λ xs q.
      found_some (λ h l. list_more (L h) x.value xs.value _ (p h (omega arith)) ((punctuator_sound "," x.rest).is after e) (q h (omega arith)))

-- `each`: one value is read, before the tokens that may follow it.
module _ {X : Type 0} (L : X → Language) (one : Reader X) (h : ℕ) (Follow : List TokenKind → Type 0)
    (each : (a : X) (ts rest : List TokenKind) → L a ts rest → Follow rest → Reads (one ts) h a rest) where
  many_follow : (go : List TokenKind → Bool) → ((a : X) (ts rest : List TokenKind) → L a ts rest → (go ts ≡ true) × Follow ts)
      → (xs : List X) (ts rest : List TokenKind) → many L xs ts rest → Follow rest → Follow ts
  many_follow go starts [] ts rest e f = subst Follow (sym e) f
  many_follow go starts (a ∷ more) ts rest p f = (starts a ts p.0 p.1).1

  pub many_complete : (go : List TokenKind → Bool) → ((a : X) (ts rest : List TokenKind) → L a ts rest → (go ts ≡ true) × Follow ts)
      → (xs : List X) (ts rest : List TokenKind) (n : ℕ) → many L xs ts rest → go rest ≡ false → Follow rest → length xs ≤ n
      → Reads (read_many go one n ts) h xs rest
  unfolding read_many
  many_complete go starts [] ts rest zero e stop f l = reads_moved e (omega arith)
  many_complete go starts [] ts rest (suc n) e stop f l = if_false _ (ap go e ∙ stop) (reads_moved e (omega arith))
  many_complete go starts (a ∷ more) ts rest zero p stop f l = absurd (omega arith)
  many_complete go starts (a ∷ more) ts rest (suc n) p stop f l =
      if_true _ (starts a ts p.0 p.1).0
      (reads_bind _ (each a ts p.0 p.1 (many_follow go starts more p.0 rest p.2 f)) λ i li.
      reads_bind _ (many_complete go starts more p.0 rest n p.2 stop f (omega arith)) λ j lj.
      reads_done (omega arith))

  pub separated_complete : (s : Letters) → ((ts after : List TokenKind) → punctuator s ts after → Follow ts)
      → (xs : List X) (ts rest : List TokenKind) (n : ℕ) → separated s L xs ts rest → take_punctuator s rest ≡ None → Follow rest → length xs ≤ suc n
      → Reads (read_separated s one n ts) h xs rest
  unfolding read_separated
  separated_complete s follows [] ts rest n p stop f l = absurd p
  separated_complete s follows (a ∷ []) ts rest zero p stop f l = reads_bind _ (each a ts rest p f) λ i li. reads_done li
  separated_complete s follows (a ∷ []) ts rest (suc n) p stop f l =
      reads_bind _ (each a ts rest p f) λ i li. choose_none _ stop (reads_done li)
  separated_complete s follows (a ∷ b ∷ more) ts rest zero p stop f l = absurd (omega arith)
  separated_complete s follows (a ∷ b ∷ more) ts rest (suc n) (mid, p, (after, e, q)) stop f l =
      reads_bind _ (each a ts mid p (follows mid after e)) λ i li. choose_some _ _ (punctuator_taken s e)
      (reads_bind _ (separated_complete s follows (b ∷ more) after rest n q stop f (omega arith)) λ j lj. reads_done (omega arith))

  pub list_complete : (close : Letters) → ((ts after : List TokenKind) → punctuator "," ts after → Follow ts)
      → ((a : X) (ts rest : List TokenKind) → L a ts rest → at_punctuator close ts ≡ false)
      → (xs : List X) (ts rest : List TokenKind) (n : ℕ) → list L xs ts rest → at_punctuator close rest ≡ true → take_punctuator "," rest ≡ None → Follow rest → length xs ≤ n
      → Reads (read_list close one n ts) h xs rest
  unfolding read_list
  list_complete close follows starts [] ts rest zero e closed stop f l = reads_moved e (omega arith)
  list_complete close follows starts [] ts rest (suc n) e closed stop f l = if_true _ (ap (at_punctuator close) e ∙ closed) (reads_moved e (omega arith))
  list_complete close follows starts (a ∷ []) ts rest zero p closed stop f l = absurd (omega arith)
  list_complete close follows starts (a ∷ []) ts rest (suc n) (mid, p, inl e) closed stop f l =
      if_false _ (starts a ts mid p)
      (reads_bind _ (each a ts mid p (follows mid rest e)) λ i li. choose_some _ _ (punctuator_taken "," e)
      (reads_bind _ (list_complete close follows starts [] rest rest n refl closed stop f (omega arith)) λ j lj. reads_done (omega arith)))
  list_complete close follows starts (a ∷ []) ts rest (suc n) (mid, p, inr e) closed stop f l =
      if_false _ (starts a ts mid p)
      (reads_bind _ (each a ts mid p (subst Follow (sym e) f)) λ i li. choose_none _ (ap (take_punctuator ",") e ∙ stop) (reads_moved e li))
  list_complete close follows starts (a ∷ b ∷ more) ts rest zero p closed stop f l = absurd (omega arith)
  list_complete close follows starts (a ∷ b ∷ more) ts rest (suc n) (mid, p, (after, e, q)) closed stop f l =
      if_false _ (starts a ts mid p)
      (reads_bind _ (each a ts mid p (follows mid after e)) λ i li. choose_some _ _ (punctuator_taken "," e)
      (reads_bind _ (list_complete close follows starts (b ∷ more) after rest n q closed stop f (omega arith)) λ j lj. reads_done (omega arith)))

-- How many tokens a language consumes: any number, at least one, at least one for each value of a repetition.
abbrev pub NotLonger : Language → Type 0
NotLonger A = (ts rest : List TokenKind) → A ts rest → length rest ≤ length ts

abbrev pub Consumes : Language → Type 0
Consumes A = (ts rest : List TokenKind) → A ts rest → length rest < length ts

pub token_consumes : (t : TokenKind) → Consumes (token t)
token_consumes t ts rest e = omega (arith, ap length e)

pub identifier_consumes : (w : List ℕ) → Consumes (identifier w)
identifier_consumes w ts rest e = omega (arith, ap length e.0)

pub not_longer : {A : Language} → Consumes A → NotLonger A
not_longer consumes ts rest p = let l : length rest < length ts = consumes ts rest p in omega arith

pub consumes_then : {A B : Language} → Consumes A → NotLonger B → Consumes (A ⋅ B)
consumes_then a b ts rest (mid, p, q) =
    let l : length mid < length ts = a ts mid p in let k : length rest ≤ length mid = b mid rest q in omega arith

pub not_longer_then : {A B : Language} → NotLonger A → NotLonger B → NotLonger (A ⋅ B)
not_longer_then a b ts rest (mid, p, q) =
    let l : length mid ≤ length ts = a ts mid p in let k : length rest ≤ length mid = b mid rest q in omega arith

-- the first part may be empty
pub then_consumes : {A B : Language} → NotLonger A → Consumes B → Consumes (A ⋅ B)
then_consumes a b ts rest (mid, p, q) =
    let l : length mid ≤ length ts = a ts mid p in let k : length rest < length mid = b mid rest q in omega arith

pub flag_not_longer : (s : Letters) (b : Bool) → NotLonger (only_if b (punctuator s))
flag_not_longer s true ts rest e = omega (arith, ap length e)
flag_not_longer s false ts rest e = omega (arith, ap length e)

module _ {X : Type 0} (L : X → Language) (consumes : (a : X) → Consumes (L a)) where
  pub many_count : (xs : List X) (ts rest : List TokenKind) → many L xs ts rest → length xs + length rest ≤ length ts
  many_count [] ts rest e = omega (arith, ap length e)
  many_count (a ∷ more) ts rest (mid, p, q) =
      let l : length mid < length ts = consumes a ts mid p in omega (arith, many_count more mid rest q)

  pub many_not_longer : (xs : List X) → NotLonger (many L xs)
  many_not_longer xs ts rest p = omega (arith, many_count xs ts rest p)

  pub separated_count : (s : Letters) (xs : List X) (ts rest : List TokenKind) → separated s L xs ts rest → length xs + length rest ≤ length ts
  separated_count s [] ts rest p = absurd p
  separated_count s (a ∷ []) ts rest p = let l : length rest < length ts = consumes a ts rest p in omega arith
  separated_count s (a ∷ b ∷ more) ts rest (mid, p, (after, e, q)) =
      let l : length mid < length ts = consumes a ts mid p in
      omega (arith, ap length e, separated_count s (b ∷ more) after rest q)

  pub separated_consumes : (s : Letters) (xs : List X) → Consumes (separated s L xs)
  separated_consumes s [] ts rest p = absurd p
  separated_consumes s (a ∷ more) ts rest p = omega (arith, separated_count s (a ∷ more) ts rest p)

  pub list_count : (xs : List X) (ts rest : List TokenKind) → list L xs ts rest → length xs + length rest ≤ length ts
  list_count [] ts rest e = omega (arith, ap length e)
  list_count (a ∷ []) ts rest (mid, p, inl e) = let l : length mid < length ts = consumes a ts mid p in omega (arith, ap length e)
  list_count (a ∷ []) ts rest (mid, p, inr e) = let l : length mid < length ts = consumes a ts mid p in omega (arith, ap length e)
  list_count (a ∷ b ∷ more) ts rest (mid, p, (after, e, q)) =
      let l : length mid < length ts = consumes a ts mid p in
      omega (arith, ap length e, list_count (b ∷ more) after rest q)

  pub list_not_longer : (xs : List X) → NotLonger (list L xs)
  list_not_longer xs ts rest p = omega (arith, list_count xs ts rest p)
