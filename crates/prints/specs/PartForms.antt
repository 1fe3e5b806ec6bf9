-- Parts are forms.
use Rattle.std.proofs.Common.{◌≡◌, ℕ, zero, suc, ◌^◌, ◌/◌, ◌%◌, ◌<◌, Bool, true, false, cond, not, ◌&&◌, ◌==◌, ltb, List, [], ◌∷◌, ◌++◌, length, slice_index, take, drop, Option, Some, None, Result, Ok, Err, inl, inr, refl, sym, ap, subst, ◌∙◌, append_assoc, arith, IsTrue}
use Rattle.std.specs.Char.{digit_value}
use Rattle.std.specs.Fmt.{decimal}
use Rattle.std.specs.List.{AllByRecursion, join_with_byte, list_all}
use Rattle.std.specs.Str.{bytes_eq}
use Rattle.std.specs.Str.Parse.{AllDigits, digits_value}
use Rattle.std.proofs.lemmas.Bool.{and_from, and_parts, cases_Bool, ltb-true, lt-ltb, both_ways}
use Rattle.std.proofs.lemmas.Bool.Decides.{Decides-eqb}
use Rattle.std.proofs.lemmas.Fmt.{decimal_is_IsNumeral}
use Rattle.std.proofs.lemmas.List.{take_at, drop_at, take-append-drop, length-take, length-drop}
use Rattle.std.proofs.lemmas.Option.{cond_some, same_Some}
use Rattle.std.proofs.lemmas.Slice.Eq.{bytes_eq-Decides}
use Rattle.hex.specs.Hex.{IsBytes, decode_sized, encode_lower, encode_with, lower_digits}
use Rattle.hex.specs.declared.error.FromHexError.{FromHexError}
use Rattle.hex.proofs.HexLemmas.{decode_of-ok, decode_sized-encode_lower, decode_sized-ok, decode_sized-twice}
use Rattle.bx_tree.specs.Paths.{Atoms, IsAtom, IsPath, is_atom_byte, path_text}
use Rattle.bx_digest.specs.Digests.{IsDigest}
use Rattle.observed.specs.Texts.{after_prefix, named_path}
use Rattle.observed.proofs.ReadTexts.{path_sound, path_complete, prefix_sound, prefix_complete}
use Rattle.prints.specs.Forms.{Anything, IsForm}
use Rattle.prints.specs.Parts.{bytes_at, counted_at, counted_part, digest_at, digest_part, if_written, named_digest, named_number, number_at, number_part, part_at, path_at, path_part, with_first}
use Rattle.prints.specs.Reading.{Taken, ◌>>=◌}
use Rattle.prints.specs.Combining.{bind_some}

-- ## Bytes that end a part

abbrev pub Lacks : ℕ → List ℕ → Type 0
Lacks end bytes = AllByRecursion (λ b. (b == end) ≡ false) bytes

-- a byte that no path, no digest and no number has
pub record IsEnd (end : ℕ) : Type 0 where
  pub atom : is_atom_byte end ≡ false
  pub slash : (47 == end) ≡ false
  pub dot : (46 == end) ≡ false
  pub hex : list_all (λ d. not (d == end)) lower_digits ≡ true
  pub digit : digit_value end < 10 → ⊥

pub space : IsEnd 32
space = record { atom = refl; slash = refl; dot = refl; hex = refl; digit = λ l. omega (arith, l) }

pub newline : IsEnd 10
newline = record { atom = refl; slash = refl; dot = refl; hex = refl; digit = λ l. omega (arith, l) }

pub lacks_append : (end : ℕ) (xs ys : List ℕ) → Lacks end xs → Lacks end ys → Lacks end (xs ++ ys)
lacks_append end [] ys h k = k
lacks_append end (x ∷ xs) ys h k = (h.0, lacks_append end xs ys h.1 k)

-- a byte with what the end lacks is not the end
other_byte : (end b : ℕ) (P : ℕ → Type 0) → (P end → ⊥) → P b → (b == end) ≡ false
other_byte end b P none p = elim (cases_Bool (b == end)) [
  | inl same ↦ absurd (none (subst P ((Decides-eqb b end).0 same) p))
  | inr other ↦ other
]

-- ## Parts

first_sound : (b end : ℕ) (bs : List ℕ) (o : Taken (List ℕ)) (part : List ℕ × List ℕ) → ((t : List ℕ × List ℕ) → o ≡ Some t → bs ≡ t.0 ++ end ∷ t.1)
    → with_first b o ≡ Some part → b ∷ bs ≡ part.0 ++ end ∷ part.1
first_sound b end bs None part sound f = cc
first_sound b end bs (Some t) part sound f =
    subst (λ (p : List ℕ × List ℕ). b ∷ bs ≡ p.0 ++ end ∷ p.1) (same_Some (b ∷ t.0, t.1) part f) (ap (λ r. b ∷ r) (sound t refl))

pub part_sound : (end : ℕ) (text : List ℕ) (part : List ℕ × List ℕ) → part_at end text ≡ Some part → text ≡ part.0 ++ end ∷ part.1
part_sound end [] part e = cc
part_sound end (b ∷ bs) part e = by_byte (b == end) refl (λ t f. part_sound end bs t f) e
  where
    by_byte : (t : Bool) → (b == end) ≡ t → ((u : List ℕ × List ℕ) → part_at end bs ≡ Some u → bs ≡ u.0 ++ end ∷ u.1)
        → cond t (Some ([], bs)) (with_first b (part_at end bs)) ≡ Some part → b ∷ bs ≡ part.0 ++ end ∷ part.1
    by_byte true same sound e =
        subst (λ (p : List ℕ × List ℕ). b ∷ bs ≡ p.0 ++ end ∷ p.1) (same_Some ([], bs) part e) (ap (λ x. x ∷ bs) ((Decides-eqb b end).0 same))
    by_byte false other sound e = first_sound b end bs (part_at end bs) part sound e

pub part_again : (end : ℕ) (part rest : List ℕ) → Lacks end part → part_at end (part ++ end ∷ rest) ≡ Some (part, rest)
part_again end [] rest h = ap (λ t. cond t (Some ([], rest)) (with_first end (part_at end rest))) ((Decides-eqb end end).1 refl)
part_again end (b ∷ bs) rest h =
    ap (λ t. cond t (Some ([], bs ++ end ∷ rest)) (with_first b (part_at end (bs ++ end ∷ rest)))) h.0
    ∙ ap (with_first b) (part_again end bs rest h.1)

pub no_part : (end : ℕ) (text : List ℕ) → Lacks end text → part_at end text ≡ None
no_part end [] h = refl
no_part end (b ∷ bs) h = ap (λ t. cond t (Some ([], bs)) (with_first b (part_at end bs))) h.0 ∙ ap (with_first b) (no_part end bs h.1)

-- a part that stands for a value
pub part_form : {X : Type 0} (G : X → Type 0) (w : X → List ℕ) (named : List ℕ → Option X) (end : ℕ)
    → ((text : List ℕ) (x : X) → named text ≡ Some x → G x × (text ≡ w x)) → ((x : X) → G x → named (w x) ≡ Some x) → ((x : X) → G x → Lacks end (w x))
    → IsForm G Anything (λ x. w x ++ end ∷ []) (λ text. part_at end text >>= λ part. named part.0 >>= λ x. Some (x, part.1))
part_form {X = X} G w named end sound again lacks = record {
  good = λ text taken e.
      let a = bind_some (part_at end text) (λ part. named part.0 >>= λ x. Some (x, part.1)) taken e in
      let b = bind_some (named a.0.0) (λ x. Some (x, a.0.1)) taken a.2 in
      subst (λ (t : X × List ℕ). G t.0) (same_Some (b.0, a.0.1) taken b.2) (sound a.0.0 b.0 b.1).0;
  written = λ text taken e.
      let a = bind_some (part_at end text) (λ part. named part.0 >>= λ x. Some (x, part.1)) taken e in
      let b = bind_some (named a.0.0) (λ x. Some (x, a.0.1)) taken a.2 in
      subst (λ (t : X × List ℕ). text ≡ (w t.0 ++ end ∷ []) ++ t.1) (same_Some (b.0, a.0.1) taken b.2)
      (part_sound end text a.0 a.1 ∙ ap (λ t. t ++ end ∷ a.0.1) (sound a.0.0 b.0 b.1).1 ∙ sym (append_assoc (w b.0) (end ∷ []) a.0.1));
  again = λ x rest g k.
      ap (λ text. part_at end text >>= λ part. named part.0 >>= λ x. Some (x, part.1)) (append_assoc (w x) (end ∷ []) rest)
      ∙ ap (λ o. o >>= λ part. named part.0 >>= λ x. Some (x, part.1)) (part_again end (w x) rest (lacks x g))
      ∙ ap (λ o. o >>= λ x. Some (x, rest)) (again x g);
}

-- ## Paths

atom_lacks : (end : ℕ) → IsEnd end → (bs : List ℕ) → AllByRecursion (λ b. IsTrue (is_atom_byte b)) bs → Lacks end bs
atom_lacks end h [] all = tt
atom_lacks end h (b ∷ bs) all =
    (other_byte end b (λ c. is_atom_byte c ≡ true) (both_ways (is_atom_byte end) h.atom) all.0, atom_lacks end h bs all.1)

pub path_lacks : (end : ℕ) → IsEnd end → (path : Atoms) → AllByRecursion IsAtom path → Lacks end (path_text path)
path_lacks end h [] all = (h.dot, tt)
path_lacks end h (atom ∷ rest) all = joined atom rest all
  where
    joined : (atom : List ℕ) (rest : Atoms) → AllByRecursion IsAtom (atom ∷ rest) → Lacks end (join_with_byte 47 (atom ∷ rest))
    joined atom [] all = atom_lacks end h atom all.0.bytes
    joined atom (more ∷ rest) all =
        lacks_append end atom (47 ∷ join_with_byte 47 (more ∷ rest)) (atom_lacks end h atom all.0.bytes) (h.slash, joined more rest all.1)

pub path_form : (end : ℕ) → IsEnd end → IsForm IsPath Anything (path_part end) (path_at end)
path_form end h =
    part_form IsPath path_text named_path end (λ text path e. let s = path_sound text path e in (s.is_path, s.text_is)) path_complete
    (λ path g. path_lacks end h path g.atoms)

-- ## Digests

digest_written : (text digest : List ℕ) (r : Result (List ℕ) FromHexError) → decode_sized text 32 ≡ r → if_written text r ≡ Some digest → IsDigest digest × (text ≡ encode_lower digest)
digest_written text digest (Ok bytes) is e =
    let b = cond_some (bytes_eq (encode_lower bytes) text) bytes digest e in
    let size = decode_sized-ok text 32 bytes is in
    let ok = decode_of-ok text bytes (sym (decode_sized-twice text 32 size) ∙ is) in
    subst (λ d. IsDigest d × (text ≡ encode_lower d)) b.1
    (record { size = omega (arith, size, ok.2); bytes = ok.3 }, sym ((bytes_eq-Decides (encode_lower bytes) text).0 b.0))
digest_written text digest (Err fault) is e = absurd cc

pub digest_sound : (text digest : List ℕ) → named_digest text ≡ Some digest → IsDigest digest × (text ≡ encode_lower digest)
digest_sound text digest e = digest_written text digest (decode_sized text 32) refl e

pub digest_again : (digest : List ℕ) → IsDigest digest → named_digest (encode_lower digest) ≡ Some digest
digest_again digest h =
    ap (if_written (encode_lower digest)) (decode_sized-encode_lower digest 32 h.size h.bytes)
    ∙ ap (λ b. cond b (Some digest) None) ((bytes_eq-Decides (encode_lower digest) (encode_lower digest)).1 refl)

-- a hexadecimal digit is not the end
hex_digit_lacks : (end k : ℕ) (ds : List ℕ) → k < length ds → list_all (λ d. not (d == end)) ds ≡ true → (slice_index ds k == end) ≡ false
hex_digit_lacks end k [] l e = absurd (omega (arith, l))
hex_digit_lacks end zero (d ∷ ds) l e = not_true (d == end) (and_parts (not (d == end)) (list_all (λ d. not (d == end)) ds) e).0
  where
    not_true : (b : Bool) → not b ≡ true → b ≡ false
    not_true true e = cc
    not_true false e = refl
hex_digit_lacks end (suc k) (d ∷ ds) l e =
    hex_digit_lacks end k ds (omega (arith, l)) (and_parts (not (d == end)) (list_all (λ d. not (d == end)) ds) e).1

pub hex_lacks : (end : ℕ) → IsEnd end → (bytes : List ℕ) → IsBytes bytes → Lacks end (encode_lower bytes)
unfolding encode_with
hex_lacks end h [] all = tt
hex_lacks end h (b ∷ bs) all =
    let small : b < 256 = all 0 in
    (hex_digit_lacks end (b / 16) lower_digits (omega arith) h.hex, (hex_digit_lacks end (b % 16) lower_digits (omega arith) h.hex, hex_lacks end h bs (λ k. all (suc k))))

pub digest_form : (end : ℕ) → IsEnd end → IsForm IsDigest Anything (digest_part end) (digest_at end)
digest_form end h = part_form IsDigest encode_lower named_digest end digest_sound digest_again (λ digest g. hex_lacks end h digest g.bytes)

-- ## Numbers

abbrev pub IsSmall : ℕ → Type 0
IsSmall n = n < 2 ^ 64

pub number_sound : (text : List ℕ) (n : ℕ) → named_number text ≡ Some n → IsSmall n × (text ≡ decimal n)
number_sound text n e =
    let b = cond_some (ltb (digits_value 10 text) (2 ^ 64) && bytes_eq (decimal (digits_value 10 text)) text) (digits_value 10 text) n e in
    let tests = and_parts (ltb (digits_value 10 text) (2 ^ 64)) (bytes_eq (decimal (digits_value 10 text)) text) b.0 in
    subst (λ m. IsSmall m × (text ≡ decimal m)) b.1
    (ltb-true (digits_value 10 text) (2 ^ 64) tests.0, sym ((bytes_eq-Decides (decimal (digits_value 10 text)) text).0 tests.1))

pub number_again : (n : ℕ) → IsSmall n → named_number (decimal n) ≡ Some n
number_again n small =
    ap (λ m. cond (ltb m (2 ^ 64) && bytes_eq (decimal m) (decimal n)) (Some m) None) (decimal_is_IsNumeral n small).1
    ∙ ap (λ b. cond b (Some n) None)
    (and_from (ltb n (2 ^ 64)) (bytes_eq (decimal n) (decimal n)) (lt-ltb n (2 ^ 64) small) ((bytes_eq-Decides (decimal n) (decimal n)).1 refl))

digits_lack : (end : ℕ) → IsEnd end → (ds : List ℕ) → AllDigits 10 ds → Lacks end ds
digits_lack end h [] all = tt
digits_lack end h (d ∷ ds) all = (other_byte end d (λ c. digit_value c < 10) h.digit all.0, digits_lack end h ds all.1)

pub number_form : (end : ℕ) → IsEnd end → IsForm IsSmall Anything (number_part end) (number_at end)
number_form end h =
    part_form IsSmall decimal named_number end number_sound number_again
    (λ n small. digits_lack end h (decimal n) (decimal_is_IsNumeral n small).0.1)

-- ## Counted bytes

bytes_sound : (count end : ℕ) (text : List ℕ) (taken : List ℕ × List ℕ) → bytes_at count end text ≡ Some taken → (text ≡ taken.0 ++ end ∷ taken.1) × (length taken.0 ≡ count)
bytes_sound count end text taken e =
    let a = bind_some (after_prefix (end ∷ []) (drop count text)) (λ rest. Some (take count text, rest)) taken e in
    let after = prefix_sound (end ∷ []) (drop count text) a.0 a.1 in
    subst (λ (t : List ℕ × List ℕ). (text ≡ t.0 ++ end ∷ t.1) × (length t.0 ≡ count)) (same_Some (take count text, a.0) taken a.2) (
      sym (take-append-drop count text) ∙ ap (λ t. take count text ++ t) after,
      omega (arith, length-take count text, length-drop count text, ap length after),
    )

bytes_again : (end : ℕ) (bytes rest : List ℕ) → bytes_at (length bytes) end (bytes ++ end ∷ rest) ≡ Some (bytes, rest)
bytes_again end bytes rest =
    ap (λ t. after_prefix (end ∷ []) t >>= λ rest'. Some (take (length bytes) (bytes ++ end ∷ rest), rest')) (drop_at bytes (end ∷ rest) (length bytes) refl)
    ∙ ap (λ o. o >>= λ rest'. Some (take (length bytes) (bytes ++ end ∷ rest), rest')) (prefix_complete (end ∷ []) rest)
    ∙ ap (λ t. Some (t, rest)) (take_at bytes (end ∷ rest) (length bytes) refl)

abbrev pub IsCountable : List ℕ → Type 0
IsCountable bytes = IsSmall (length bytes)

pub counted_form : (end : ℕ) → IsForm IsCountable Anything (counted_part end) (counted_at end)
counted_form end = record {
  good = λ text taken e.
      let a = bind_some (number_at 32 text) (λ count. bytes_at count.0 end count.1) taken e in
      subst IsSmall (sym (bytes_sound a.0.0 end a.0.1 taken a.2).1) (numbers.good text a.0 a.1);
  written = λ text taken e.
      let a = bind_some (number_at 32 text) (λ count. bytes_at count.0 end count.1) taken e in
      let b = bytes_sound a.0.0 end a.0.1 taken a.2 in
      numbers.written text a.0 a.1
      ∙ ap (λ n. number_part 32 n ++ a.0.1) (sym b.1)
      ∙ ap (λ t. number_part 32 (length taken.0) ++ t) (b.0 ∙ sym (append_assoc taken.0 (end ∷ []) taken.1))
      ∙ sym (append_assoc (number_part 32 (length taken.0)) (taken.0 ++ end ∷ []) taken.1);
  again = λ bytes rest g k.
      ap (counted_at end)
      (append_assoc (number_part 32 (length bytes)) (bytes ++ end ∷ []) rest ∙ ap (λ t. number_part 32 (length bytes) ++ t) (append_assoc bytes (end ∷ []) rest))
      ∙ ap (λ o. o >>= λ count. bytes_at count.0 end count.1) (numbers.again (length bytes) (bytes ++ end ∷ rest) g tt)
      ∙ bytes_again end bytes rest;
}
  where
    numbers : IsForm IsSmall Anything (number_part 32) (number_at 32)
    numbers = number_form 32 space
