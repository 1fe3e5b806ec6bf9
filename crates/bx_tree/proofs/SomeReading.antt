-- Each text is the bundle of a tree or has a first fault.
use Rattle.std.proofs.Common.{inl, inr, ◌⊎◌, ◌≡◌, ◌≢◌, ℕ, ◌<◌, ◌+◌, zero, suc, eqb, IsTrue, List, [], ◌∷◌, ◌++◌, length}
use Rattle.std.proofs.Common.{get_or, drop, codes, refl, ap, sym, ◌∙◌, arith, append_assoc, lit≤}
use Rattle.std.specs.Cmp.Lexicographic.{slice_cmp, pointwise}
use Rattle.std.specs.Int.{IsInRange}
use Rattle.std.specs.List.{AllByRecursion, slice_split}
use Rattle.std.specs.Ordering.{nat_cmp}
use Rattle.std.specs.Str.Parse.{digits_value}
use Rattle.std.specs.declared.cmp.Ordering.{Ordering}
use Rattle.std.specs.declared.cmp.Ordering.TheVariants.{Less, Equal, Greater}
use Rattle.std.proofs.lemmas.Bool.{cases_Bool, cases_eq, cases_lt, false≢true}
use Rattle.std.proofs.lemmas.List.{append-nil, length-append}
use Rattle.std.proofs.lemmas.Slice.Eq.{bytes_eq-Decides}
use Rattle.bx_tree.specs.declared.limits.TheConstants.{MAX_ATOM_BYTES, MAX_BUNDLE_BYTES, MAX_FILE_BYTES, MAX_FILES, MAX_PATH_BYTES}
use Rattle.bx_tree.specs.declared.bundle.BundleFault.{BundleFault}
use Rattle.bx_tree.specs.declared.bundle.BundleFault.TheVariants.{BadBundle, BadPath, Unordered, Nested, TooManyFiles, TooLarge, Memory}
use Rattle.bx_tree.specs.Paths.{Atoms, IsAtom, IsPathText, is_atom_byte, path_text}
use Rattle.bx_tree.specs.Trees.{Files}
use Rattle.bx_tree.specs.Bundle.{Header, HeaderFault, StartsWithHeader, ComesAfterAll, HasNoAncestor, HasBytes, HasReading, IsLength, RestFault, body_text}
use Rattle.bx_tree.specs.Headers.{HasNo}
use Rattle.bx_tree.specs.Reading.{Announces, BodyFaults, BodyStartsWithFiles, IsBody}
use Rattle.bx_tree.proofs.HeaderParts.{begins_from, length_with, no_header_blank, no_header_length, no_header_line, no_header_word, range_from_digits, zero_alone}
use Rattle.bx_tree.proofs.PathTexts.{is_slash, named_by_parts, parts_of_named}
use Rattle.bx_tree.proofs.TreeGrowth.{newline_at, no_files, push_file, shorter, starts_from_newline}

-- ## Conditions that hold or fail

abbrev Decided : Type 0 → Type 0
Decided P = P ⊎ (¬ P)

all_decided : {X : Type 0} (P : X → Type 0) → ((x : X) → Decided (P x)) → (xs : List X) → Decided (AllByRecursion P xs)
all_decided P d [] = inl tt
all_decided P d (x ∷ xs) = elim (d x) [
  | inl p ↦ elim (all_decided P d xs) [ inl ps ↦ inl (p, ps) | inr n ↦ inr (λ h. n h.1) ]
  | inr n ↦ inr (λ h. n h.0)
]

texts_decided : (a b : List ℕ) → Decided (a ≡ b)
texts_decided a b = elim (cases_Bool (pointwise eqb a b)) [
  | inl e ↦ inl ((bytes_eq-Decides a b).0 e)
  | inr e ↦ inr (λ same. false≢true (sym e ∙ (bytes_eq-Decides a b).1 same))
]

less_decided : (o : Ordering) → Decided (o ≡ Less)
less_decided Less = inl refl
less_decided Equal = inr (λ e. cc)
less_decided Greater = inr (λ e. cc)

range_decided : (b : ℕ) → Decided (IsInRange 48 57 b)
range_decided b = elim (cases_lt b 48) [
  | inl low ↦ inr (λ h. omega (arith, low, h.0))
  | inr from ↦ elim (cases_lt 57 b) [ inl high ↦ inr (λ h. omega (arith, high, h.1)) | inr upto ↦ inl (from, upto) ]
]

same_head : (b p : ℕ) (bs cs : List ℕ) → b ∷ bs ≡ p ∷ cs → b ≡ p
same_head b p bs cs e = cc

same_tail : (b p : ℕ) (bs cs : List ℕ) → b ∷ bs ≡ p ∷ cs → bs ≡ cs
same_tail b p bs cs e = cc

not_empty : (p : ℕ) (cs : List ℕ) → [] ≡ p ∷ cs → ⊥
not_empty p cs e = cc

-- whether a text starts with a prefix
prefix_decided : (prefix text : List ℕ) → Decided ((rest : List ℕ) × (text ≡ prefix ++ rest))
prefix_decided [] text = inl (text, refl)
prefix_decided (p ∷ ps) [] = inr (λ h. not_empty p (ps ++ h.0) h.1)
prefix_decided (p ∷ ps) (b ∷ bs) = elim (cases_eq b p) [
  | inl same ↦ elim (prefix_decided ps bs) [
    | inl h ↦ inl (h.0, ap (λ c. c ∷ bs) same ∙ ap (λ t. p ∷ t) h.1)
    | inr n ↦ inr (λ h. n (h.0, same_tail b p bs (ps ++ h.0) h.1))
  ]
  | inr differ ↦ inr (λ h. differ (same_head b p bs (ps ++ h.0) h.1))
]

-- ## Headers

record Split (byte : ℕ) (text : List ℕ) : Type 0 where
  before : List ℕ
  after : List ℕ
  first : HasNo byte before
  text_is : text ≡ before ++ byte ∷ after

split_decided : (byte : ℕ) (text : List ℕ) → HasNo byte text ⊎ Split byte text
split_decided byte [] = inl tt
split_decided byte (b ∷ bs) = elim (cases_eq b byte) [
  | inl same ↦ inr (record { before = []; after = bs; first = tt; text_is = ap (λ c. c ∷ bs) same })
  | inr differ ↦ elim (split_decided byte bs) [
    | inl none ↦ inl (differ, none)
    | inr s ↦ inr (record { before = b ∷ s.before; after = s.after; first = (differ, s.first); text_is = ap (λ t. b ∷ t) s.text_is })
  ]
]

length_decided : (text : List ℕ) → Decided (IsLength text)
length_decided [] = inr (λ h. h.some refl)
length_decided (b ∷ bs) = elim (cases_eq b 48) [
  | inl is_zero ↦ elim (cases_eq (length (b ∷ bs)) 1) [
    | inl one ↦ inl ((zero_alone (b ∷ bs) is_zero).0 one)
    | inr more ↦ inr (λ h. more ((zero_alone (b ∷ bs) is_zero).1 h))
  ]
  | inr other ↦ elim (all_decided (λ c. IsInRange 48 57 c) range_decided (b ∷ bs)) [
    | inl all ↦ inl (length_with (b ∷ bs) (omega arith) other all)
    | inr n ↦ inr (λ h. n (range_from_digits (b ∷ bs) h.digits))
  ]
]

-- whether a text starts with a complete header
header_decided : (text : List ℕ) → ((h : Header) × StartsWithHeader text h) ⊎ ((h : Header) → StartsWithHeader text h → ⊥)
header_decided text = elim (prefix_decided (codes "file ") text) [
  | inr n ↦ inr (no_header_word text (λ rest e. n (rest, e)))
  | inl word ↦ elim (split_decided 32 word.0) [
    | inl none ↦ inr (no_header_blank text word.0 word.1 none)
    | inr d ↦ elim (length_decided d.before) [
      | inr n ↦ inr (no_header_length text word.0 d.before d.after word.1 d.text_is d.first n)
      | inl l ↦ elim (split_decided 10 d.after) [
        | inl none ↦ inr (no_header_line text word.0 d.before d.after word.1 d.text_is d.first none)
        | inr p ↦ inl (
          record { digits = d.before; path = p.before; rest = p.after },
          begins_from text word.0 d.before d.after p.before p.after word.1 d.text_is p.text_is l p.first,
        )
      ]
    ]
  ]
]

-- ## The conditions on a header

atom_decided : (atom : List ℕ) → Decided (IsAtom atom)
atom_decided atom = elim (cases_lt 0 (length atom)) [
  | inr none ↦ inr (λ h. omega (arith, none, h.some))
  | inl some ↦ elim (cases_lt MAX_ATOM_BYTES (length atom)) [
    | inl long ↦ inr (λ h. omega (arith, long, h.short))
    | inr short ↦ elim (all_decided (λ b. IsTrue (is_atom_byte b)) byte_decided atom) [
      | inr n ↦ inr (λ h. n h.bytes)
      | inl bytes ↦ elim (texts_decided atom (codes ".")) [
        | inl dot ↦ inr (λ h. h.not_dot dot)
        | inr not_dot ↦ elim (texts_decided atom (codes "..")) [
          | inl dots ↦ inr (λ h. h.not_dots dots)
          | inr not_dots ↦ inl (record { some = some; short = short; bytes = bytes; not_dot = not_dot; not_dots = not_dots })
        ]
      ]
    ]
  ]
]
  where
    byte_decided : (b : ℕ) → Decided (IsTrue (is_atom_byte b))
    byte_decided b = elim (cases_Bool (is_atom_byte b)) [ inl e ↦ inl e | inr e ↦ inr (λ h. false≢true (sym e ∙ h)) ]

path_text_decided : (text : List ℕ) → Decided (IsPathText text)
path_text_decided text = elim (all_decided IsAtom atom_decided (slice_split is_slash text)) [
  | inl atoms ↦ elim (cases_lt MAX_PATH_BYTES (length text)) [
    | inl long ↦ inr (λ h. omega (arith, long, (parts_of_named text h).1))
    | inr short ↦ inl (slice_split is_slash text, named_by_parts text atoms short)
  ]
  | inr n ↦ inr (λ h. n (parts_of_named text h).0)
]

not_below_decided : (text dir : List ℕ) → Decided ((rest : List ℕ) → text ≡ dir ++ 47 ∷ rest → ⊥)
not_below_decided text dir = elim (prefix_decided (dir ++ 47 ∷ []) text) [
  | inl h ↦ inr (λ n. n h.0 (h.1 ∙ append_assoc dir (47 ∷ []) h.0))
  | inr n ↦ inl (λ rest e. n (rest, e ∙ sym (append_assoc dir (47 ∷ []) rest)))
]

after_decided : (before : Files) (text : List ℕ) → Decided (ComesAfterAll before text)
after_decided before text =
    all_decided (λ f. slice_cmp nat_cmp (path_text f.0) text ≡ Less) (λ f. less_decided (slice_cmp nat_cmp (path_text f.0) text)) before

no_ancestor_decided : (before : Files) (text : List ℕ) → Decided (HasNoAncestor before text)
no_ancestor_decided before text =
    all_decided (λ f. (rest : List ℕ) → text ≡ path_text f.0 ++ 47 ∷ rest → ⊥) (λ f. not_below_decided text (path_text f.0)) before

bytes_decided : (h : Header) → Decided (HasBytes h)
bytes_decided h =
    let size = digits_value 10 h.digits in
    elim (cases_lt size (length h.rest)) [
      | inr few ↦ inr (λ (bytes, more, l, e). omega (arith, few, l, ap length e, length-append (bytes ++ codes "\n") more, length-append bytes (codes "\n")))
      | inl enough ↦ elim (cases_eq (get_or h.rest size 0) 10) [
        | inl newline ↦ inl (starts_from_newline h.rest size enough newline)
        | inr other ↦ inr (λ held. other (newline_at h.rest size held))
      ]
    ]

-- ## Files

-- a fault other than out of memory for which this holds
record SomeFault (F : BundleFault → Type 0) : Type 0 where
  fault : BundleFault
  other : fault ≢ Memory
  holds : F fault

-- the text continues with this file
record NextFile (before : Files) (text : List ℕ) : Type 0 where
  header : Header
  file : Atoms × List ℕ
  starts : StartsWithHeader text header
  announces : Announces before header file

-- a header has a fault or announces a file
announced_or_fault : (before : Files) (h : Header) → SomeFault (HeaderFault before h) ⊎ ((f : Atoms × List ℕ) × Announces before h f)
announced_or_fault before h = elim (cases_lt MAX_FILE_BYTES (digits_value 10 h.digits)) [
  | inl large ↦ inl (record { fault = TooLarge; other = λ e. cc; holds = inl ((λ l. omega (arith, large, l)), refl) })
  | inr size ↦ elim (cases_lt (length before) MAX_FILES) [
    | inr many ↦ inl (record { fault = TooManyFiles; other = λ e. cc; holds = inr (size, inl ((λ l. omega (arith, many, l)), refl)) })
    | inl count ↦ elim (path_text_decided h.path) [
      | inr n ↦ inl (record { fault = BadPath; other = λ e. cc; holds = inr (size, inr (count, inl (n, refl))) })
      | inl path ↦ elim (after_decided before h.path) [
        | inr n ↦ inl (record { fault = Unordered; other = λ e. cc; holds = inr (size, inr (count, inr (path, inl (n, refl)))) })
        | inl after ↦ elim (no_ancestor_decided before h.path) [
          | inr n ↦ inl (record { fault = Nested; other = λ e. cc; holds = inr (size, inr (count, inr (path, inr (after, inl (n, refl))))) })
          | inl apart ↦ elim (bytes_decided h) [
            | inr n ↦ inl (record { fault = BadBundle; other = λ e. cc; holds = inr (size, inr (count, inr (path, inr (after, inr (apart, inl (n, refl)))))) })
            | inl (bytes, more, l, e) ↦ inr (
              (path.0, bytes),
              record {
                in_size = size;
                count = count;
                names = path.1;
                after = after;
                no_ancestor = apart;
                size = l;
                bytes = (more, e);
              },
            )
          ]
        ]
      ]
    ]
  ]
]

-- the end is the last of a text, or more bytes are a fault
end_or_fault : (before : Files) (text more : List ℕ) → text ≡ codes "end\n" ++ more → SomeFault (RestFault before text) ⊎ (text ≡ codes "end\n")
end_or_fault before text [] e = inr (e ∙ append-nil (codes "end\n"))
end_or_fault before text (b ∷ bs) e =
    inl (record { fault = BadBundle; other = λ z. cc; holds = inr (inl (b ∷ bs, (λ z. cc), e, refl)) })

-- after files in order there is a fault, the end or one more file
rest_decided : (before : Files) (text : List ℕ) → SomeFault (RestFault before text) ⊎ ((text ≡ codes "end\n") ⊎ NextFile before text)
rest_decided before text = elim (prefix_decided (codes "end\n") text) [
  | inl end ↦ elim (end_or_fault before text end.0 end.1) [ inl s ↦ inl s | inr e ↦ inr (inl e) ]
  | inr no_end ↦ elim (header_decided text) [
    | inr none ↦ inl (record { fault = BadBundle; other = λ e. cc; holds = inl ((λ more e. no_end (more, e)), none, refl) })
    | inl h ↦ elim (announced_or_fault before h.0) [
      | inl s ↦ inl (record { fault = s.fault; other = s.other; holds = inr (inr (h.0, h.1, s.holds)) })
      | inr f ↦ inr (inr (record { header = h.0; file = f.0; starts = h.1; announces = f.1 }))
    ]
  ]
]

-- the text after the first line is that of a tree, or has a fault
body_decided : (n : ℕ) (text : List ℕ) (before : Files) (rest : List ℕ) → length rest < n → BodyStartsWithFiles text before rest
    → ((files : Files) × IsBody text files) ⊎ SomeFault (BodyFaults text)
body_decided zero text before rest l s = absurd (omega (arith, l))
body_decided (suc n) text before rest l s = elim (rest_decided before rest) [
  | inl u ↦ inr (record { fault = u.fault; other = u.other; holds = (before, rest, s, u.holds) })
  | inr (inl end) ↦ inl (
    before,
    record { tree = s.tree; in_size = s.in_size; text_is = s.text_is ∙ ap (λ r. body_text before ++ r) end },
  )
  | inr (inr next) ↦ body_decided n text (before ++ next.file ∷ []) (drop (length next.file.1 + 1) next.header.rest)
      (omega (arith, l, shorter rest before next.header next.file next.starts next.announces))
      (push_file text rest before next.header next.file s next.starts next.announces)
]

-- each text has a reading
pub some_reading : (text : List ℕ) → HasReading text
some_reading text = elim (cases_lt MAX_BUNDLE_BYTES (length text)) [
  | inl large ↦ inr (TooLarge, (λ e. cc), inl ((λ l. omega (arith, large, l)), refl))
  | inr whole ↦ elim (prefix_decided (codes "bundle 1\n") text) [
    | inr n ↦ inr (BadBundle, (λ e. cc), inr (whole, inl (n, refl)))
    | inl (body, line) ↦
        let start : BodyStartsWithFiles body [] body =
        record { tree = no_files; in_size = record { count = lit≤ tt; sizes = tt }; text_is = refl } in
        elim (body_decided (length body + 1) body [] body (omega arith) start) [
          | inl (files, is) ↦ inl (
            files,
            record { tree = is.tree; in_size = is.in_size; whole = whole; text_is = line_more body files (codes "end\n") line is.text_is },
          )
          | inr u ↦
              let (before, rest, s, holds) = u.holds in
              inr (
                u.fault,
                u.other,
                inr (
                  whole,
                  inr (
                    (body, line),
                    (
                      before,
                      rest,
                      record { tree = s.tree; in_size = s.in_size; text_is = line_more body before rest line s.text_is },
                      holds,
                    ),
                  ),
                ),
              )
        ]
  ]
]
  where
    line_more : (body : List ℕ) (files : Files) (rest : List ℕ) → text ≡ codes "bundle 1\n" ++ body → body ≡ body_text files ++ rest
        → text ≡ codes "bundle 1\n" ++ body_text files ++ rest
    line_more body files rest e f =
        e ∙ ap (λ t. codes "bundle 1\n" ++ t) f ∙ sym (append_assoc (codes "bundle 1\n") (body_text files) rest)
