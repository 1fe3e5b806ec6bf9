-- An input that is read up to one byte past the limit ends as the whole input does.
use Rattle.std.proofs.Common.{◌≡◌, ◌⊎◌, ℕ, Bool, true, false, ◌<◌, ◌≤◌, inl, inr, List, [], ◌++◌, length, drop}
use Rattle.std.proofs.Common.{refl, sym, ap, append_assoc, subst, ◌∙◌, arith}
use Rattle.std.specs.Prelude.{Some, None, IsSome}
use Rattle.std.specs.declared.option.Option.{Option}
use Rattle.bx_io.specs.Told.{Moves, NoneLeft}
use Rattle.bx_engine.specs.Known.{GivesPiece, IsInput, IsLong, IsReadOut, LeavesRest, ReadOf}
use Rattle.std.proofs.lemmas.List.{append-nil, append_cancel_left, drop_all, drop_at, length-append}
use Rattle.std.proofs.lemmas.Bool.{cases_lt}
use Rattle.bx_tree.specs.Bundle.{Faults}
use Rattle.bx_tree.specs.declared.bundle.BundleFault.{BundleFault}
use Rattle.bx_tree.specs.declared.bundle.BundleFault.TheVariants as bundle_faults
use Rattle.bx_engine.specs.declared.fault.InputFault.TheVariants as input_faults
use Rattle.bx_engine_words.specs.declared.order.Order.{Order}
use Rattle.bx_engine.specs.declared.status.Status.{Status}
use Rattle.bx_engine.specs.declared.limits.TheConstants.{READ_LIMIT}
use Rattle.bx_tree.specs.declared.limits.TheConstants.{MAX_BUNDLE_BYTES}
use Rattle.bx_engine.specs.Ends.{Ends}
use Rattle.bx_io.specs.Holdings.{Holdings, StoreTold}
use Rattle.bx_engine.specs.Beyond.{ReportsRule}
use Rattle.bx_engine.specs.Calls.{Call, Given, StoreChange}
use Rattle.bx_engine.specs.Counting.{AppendsNotes, IsNoted, IsShown, NotesOf}
use Rattle.bx_engine.specs.Expected.{IsExpected, Answers, Begins, limits_of}
use Rattle.bx_engine.specs.Graphs.{FairGraphsWhere, KeepsOfInput, TellsLineWhere}
use Rattle.bx_engine.specs.Stores.{AsksFor, FairGraphStore, FairStore, FairWhere, KeepRulesOf, LeftOfBuild, StoreLeft, TellsLine, uses_graphs, uses_store}
use Rattle.bx_engine_words.specs.Words.{asks_graphs}
use Rattle.build_report.specs.declared.counts.GraphLine.{GraphLine}
use Rattle.bx_engine.specs.Ending.{Ending, InputRefused, SpecificationRefused, Built}
use Rattle.bx_engine_front.specs.declared.limits.Limits.{Limits}
use Rattle.pip_model_types.specs.declared.pip.Pip.{Pip}

not_long : (input : List ℕ) → IsLong input → length input ≤ MAX_BUNDLE_BYTES → ⊥
not_long input h k = omega arith

-- a text over the limit has one fault
long_fault : (a b : List ℕ) (fault : BundleFault) → IsLong a → IsLong b → Faults a fault → Faults b fault
long_fault a b fault h k f = elim f [
  | inl x ↦ inl (not_long b k, x.1)
  | inr y ↦ absurd (not_long a h y.0)
]

-- two inputs over the limit end alike
long_ends : (limits : Limits) (a b : List ℕ) (ending : Ending) → IsLong a → IsLong b → Ends limits a ending → Ends limits b ending
long_ends limits a b (InputRefused input_faults.BadBundle) h k e = long_fault a b bundle_faults.BadBundle h k e
long_ends limits a b (InputRefused input_faults.BadPath) h k e = long_fault a b bundle_faults.BadPath h k e
long_ends limits a b (InputRefused input_faults.Unordered) h k e = long_fault a b bundle_faults.Unordered h k e
long_ends limits a b (InputRefused input_faults.Nested) h k e = long_fault a b bundle_faults.Nested h k e
long_ends limits a b (InputRefused input_faults.TooManyFiles) h k e = long_fault a b bundle_faults.TooManyFiles h k e
long_ends limits a b (InputRefused input_faults.TooLarge) h k e = long_fault a b bundle_faults.TooLarge h k e
long_ends limits a b (InputRefused input_faults.Reserved) h k e = absurd (not_long a h e.1.whole)
long_ends limits a b (SpecificationRefused fault) h k e = absurd (not_long a h e.1.bundle.whole)
long_ends limits a b (Built pips results) h k e = absurd (not_long a h e.1.bundle.whole)

-- an input is over the limit where a prefix of it is
long_prefix : (input bytes rest : List ℕ) → input ≡ bytes ++ rest → IsLong bytes → IsLong input
long_prefix input bytes rest e h = omega (arith, ap length e, length-append bytes rest)

at_limit : (bytes : List ℕ) → IsLong bytes → length bytes ≤ READ_LIMIT → length bytes ≡ READ_LIMIT
at_limit bytes h k = omega arith

past_limit : (count : ℕ) → MAX_BUNDLE_BYTES < count → count ≤ READ_LIMIT → count ≡ READ_LIMIT
past_limit count h k = omega arith

below_limit : (bytes : List ℕ) → length bytes ≤ MAX_BUNDLE_BYTES → length bytes ≤ READ_LIMIT
below_limit bytes h = omega arith

some_of : (told : Option (List ℕ)) → IsSome told → (rest : List ℕ) × (told ≡ Some rest)
some_of None h = absurd (cc)
some_of (Some rest) h = (rest, refl)

same_told : (told : Option (List ℕ)) (input whole : List ℕ) → told ≡ Some input → told ≡ Some whole → input ≡ whole
same_told told input whole h k = let same : Some input ≡ Some whole = sym h ∙ k in cc

-- what was left is what was read and what is left
parts_of : (left now : Option (List ℕ)) (input bytes : List ℕ) → left ≡ Some input → IsSome now → Moves left now bytes
    → (rest : List ℕ) × (now ≡ Some rest) × (input ≡ bytes ++ rest)
parts_of left now input bytes told tells moved =
    let is = some_of now tells in
    (is.0, is.1, same_told left input (bytes ++ is.0) told (moved is.0 is.1))

-- what reading an input gives, where the source tells what it has left
read_told : (left now : Option (List ℕ)) (input bytes : List ℕ) → left ≡ Some input → IsSome now → Moves left now bytes → length bytes ≤ READ_LIMIT
    → (length bytes ≤ MAX_BUNDLE_BYTES → NoneLeft now) → ReadOf input bytes
read_told left now input bytes told tells moved bound end =
    let parts = parts_of left now input bytes told tells moved in
    elim (cases_lt MAX_BUNDLE_BYTES (length bytes)) [
      | inl long ↦ record { whole = inr (long, long_prefix input bytes parts.0 parts.2 long) }
      | inr short ↦
          let none : parts.0 ≡ [] = end short parts.0 parts.1 in
          record { whole = inl (sym (append-nil bytes) ∙ ap (λ r. bytes ++ r) (sym none) ∙ sym parts.2) }
    ]

-- what is left of it
left_told : (left now : Option (List ℕ)) (input bytes : List ℕ) → left ≡ Some input → IsSome now → Moves left now bytes → length bytes ≤ READ_LIMIT
    → (length bytes ≤ MAX_BUNDLE_BYTES → NoneLeft now) → now ≡ Some (drop READ_LIMIT input)
left_told left now input bytes told tells moved bound end =
    let parts = parts_of left now input bytes told tells moved in
    elim (cases_lt MAX_BUNDLE_BYTES (length bytes)) [
      | inl long ↦
          parts.1
          ∙ ap (λ (r : List ℕ). Some r) (sym (drop_at bytes parts.0 READ_LIMIT (at_limit bytes long bound)) ∙ ap (λ i. drop READ_LIMIT i) (sym parts.2))
      | inr short ↦
          let none : parts.0 ≡ [] = end short parts.0 parts.1 in
          let whole : bytes ≡ input = sym (append-nil bytes) ∙ ap (λ r. bytes ++ r) (sym none) ∙ sym parts.2 in
          parts.1
          ∙ ap (λ (r : List ℕ). Some r)
          (none ∙ sym (drop_all READ_LIMIT input (subst (λ i. length i ≤ READ_LIMIT) whole (below_limit bytes short))))
    ]

-- what reading an input gives: it is what was given, or all that was left
pub read_input : (source : Given) (input bytes : List ℕ) → IsInput source input → source.now ≡ source.before ++ bytes
    → Moves source.left_before source.left_now bytes → length bytes ≤ READ_LIMIT → (length bytes ≤ MAX_BUNDLE_BYTES → NoneLeft source.left_now) → ReadOf input bytes
read_input source input bytes (inl gave) was moved bound end = record { whole = inl (append_cancel_left source.before bytes input (sym was ∙ gave)) }
read_input source input bytes (inr told) was moved bound end = read_told source.left_before source.left_now input bytes told.0 told.1 moved bound end

-- the same where the bytes are a slice of a vector
pub read_slice : (source : Given) (input items slice : List ℕ) (count : ℕ) → slice ≡ items → length slice ≡ count
    → IsInput source input → source.now ≡ source.before ++ items → Moves source.left_before source.left_now items → count ≤ READ_LIMIT
    → (count ≤ MAX_BUNDLE_BYTES → NoneLeft source.left_now) → ReadOf input slice
read_slice source input items slice count is long asked was moved bound end =
    read_input source input slice asked (subst (λ (b : List ℕ). source.now ≡ source.before ++ b) (sym is) was)
    (subst (λ (b : List ℕ). Moves source.left_before source.left_now b) (sym is) moved) (subst (λ n. n ≤ READ_LIMIT) (sym long) bound)
    (λ short. end (subst (λ n. n ≤ MAX_BUNDLE_BYTES) long short))

pub left_slice : (source : Given) (items : List ℕ) (count : ℕ) → length items ≡ count → Moves source.left_before source.left_now items
    → count ≤ READ_LIMIT → (count ≤ MAX_BUNDLE_BYTES → NoneLeft source.left_now) → LeavesRest source
left_slice source items count long moved bound end = λ input told tells.
    left_told source.left_before source.left_now input items told tells moved (subst (λ n. n ≤ READ_LIMIT) (sym long) bound)
    (λ short. end (subst (λ n. n ≤ MAX_BUNDLE_BYTES) long short))

-- how the input ends
ends_whole : (limits : Limits) (input bytes : List ℕ) (ending : Ending) → ReadOf input bytes
    → Ends limits bytes ending → Ends limits input ending
ends_whole limits input bytes ending r e = elim r.whole [
  | inl is ↦ subst (λ i. Ends limits i ending) is e
  | inr long ↦ long_ends limits bytes input ending long.0 long.1 e
]

expected_whole : (limits : Limits) (input bytes : List ℕ) (status : Status) (written : List ℕ)
    → ReadOf input bytes → IsExpected limits bytes status written → IsExpected limits input status written
expected_whole limits input bytes status written r e = record {
  ending = e.ending;
  ends = ends_whole limits input bytes e.ending r e.ends;
  status_is = e.status_is;
  bytes_are = e.bytes_are;
}

pub answers_whole : (order : Order) (input bytes : List ℕ) (status : Status)
    (before now : List ℕ) → ReadOf input bytes
    → Answers order bytes status before now → Answers order input status before now
answers_whole order input bytes status before now r a = record {
  bytes = a.bytes;
  expected = expected_whole (limits_of order) input bytes status a.bytes r a.expected;
  appended = a.appended;
}

pub begins_whole : (order : Order) (input bytes : List ℕ) (before now : List ℕ)
    → ReadOf input bytes → Begins order bytes before now → Begins order input before now
begins_whole order input bytes before now r b = record {
  status = b.status;
  bytes = b.bytes;
  expected = expected_whole (limits_of order) input bytes b.status b.bytes r b.expected;
  appended = b.appended;
}

-- ## Notes

long_notes : (order : Order) (a b : List ℕ) (change : StoreChange) (graphs : Option StoreChange) (ending : Ending) (text : List ℕ) → IsLong a → Ends (limits_of order) a ending
    → NotesOf order a change graphs ending text → NotesOf order b change graphs ending text
long_notes order a b change graphs (InputRefused fault) text h e n = n
long_notes order a b change graphs (SpecificationRefused refusal) text h e n = n
long_notes order a b change graphs (Built pips results) text h e n = absurd (not_long a h e.1.bundle.whole)

noted_whole : (order : Order) (input bytes : List ℕ) (change : StoreChange) (graphs : Option StoreChange) (status : Status) (text : List ℕ)
    → ReadOf input bytes → IsNoted order bytes change graphs status text → IsNoted order input change graphs status text
noted_whole order input bytes change graphs status text r n = elim r.whole [
  | inl is ↦ subst (λ i. IsNoted order i change graphs status text) is n
  | inr long ↦ record {
    ending = n.ending;
    ends = long_ends (limits_of order) bytes input n.ending long.0 long.1 n.ends;
    status_is = n.status_is;
    text_is = long_notes order bytes input change graphs n.ending text long.0 n.ends n.text_is;
  }
]

pub notes_whole : (call : Call) (input bytes : List ℕ) (order : Order) → ReadOf input bytes → AppendsNotes call bytes order → AppendsNotes call input order
notes_whole call input bytes order r t = record {
  text = t.text;
  noted = noted_whole order input bytes call.store call.graphs call.status t.text r t.noted;
  appended = t.appended;
}

-- ## Stores

long_fair : (cached : Bool) (limits : Limits) (input : List ℕ) (before now : Option Holdings) → IsLong input → FairWhere cached limits input before now
long_fair false limits input before now h = tt
long_fair true limits input before now h = λ sources pips s plans. absurd (not_long input h s.bundle.whole)

-- a store that is fair for an input is fair for what is read of it
pub fair_read : (cached : Bool) (limits : Limits) (input bytes : List ℕ) (before now : Option Holdings) → ReadOf input bytes
    → FairWhere cached limits input before now → FairWhere cached limits bytes before now
fair_read cached limits input bytes before now r fair = elim r.whole [
  | inl is ↦ subst (λ (i : List ℕ). FairWhere cached limits i before now) (sym is) fair
  | inr long ↦ long_fair cached limits bytes before now long.0
]

long_graphs : (graphs : Option StoreChange) (used : Bool) (limits : Limits) (input : List ℕ) → IsLong input → FairGraphsWhere graphs used limits input
long_graphs None used limits input h = tt
long_graphs (Some change) false limits input h = tt
long_graphs (Some change) true limits input h = λ sources s. absurd (not_long input h s.bundle.whole)

-- and so is a store of graphs
pub graphs_read : (graphs : Option StoreChange) (used : Bool) (limits : Limits) (input bytes : List ℕ) → ReadOf input bytes
    → FairGraphsWhere graphs used limits input → FairGraphsWhere graphs used limits bytes
graphs_read graphs used limits input bytes r fair = elim r.whole [
  | inl is ↦ subst (λ (i : List ℕ). FairGraphsWhere graphs used limits i) (sym is) fair
  | inr long ↦ long_graphs graphs used limits bytes long.0
]

pub stores_read : (order : Order) (input bytes : List ℕ) (before now : Option Holdings) (graphs : Option StoreChange) → ReadOf input bytes
    → FairStore order input before now graphs → FairStore order bytes before now graphs
stores_read order input bytes before now graphs r fair = record {
  store = fair_read (uses_store order) (limits_of order) input bytes before now r fair.store;
  graph_store = graphs_read graphs (uses_graphs order) (limits_of order) input bytes r fair.graph_store;
}

-- a refusal of what was read is one of the input
pub refused_whole : (order : Order) (input bytes : List ℕ) (status : Status) (before now : List ℕ) (graphs : Option StoreChange) → ReadOf input bytes
    → Answers order bytes status before now
    ⊎ (ReportsRule before now × (FairGraphStore order bytes graphs → Answers order bytes status before now))
    → Answers order input status before now
    ⊎ (ReportsRule before now × (FairGraphStore order input graphs → Answers order input status before now))
refused_whole order input bytes status before now graphs r h = elim h [
  | inl answers ↦ inl (answers_whole order input bytes status before now r answers)
  | inr rule ↦ inr (
    rule.0,
    λ fair. answers_whole order input bytes status before now r (rule.1 (graphs_read graphs (uses_graphs order) (limits_of order) input bytes r fair)),
  )
]

long_line : (asks cached : Bool) (graphs : Option StoreChange) (limits : Limits) (a b : List ℕ) (pips : List Pip) (line : Option GraphLine) → IsLong b
    → TellsLineWhere asks cached graphs limits a pips line → TellsLineWhere asks cached graphs limits b pips line
long_line false cached graphs limits a b pips line h t = t
long_line true false graphs limits a b pips line h t = t
long_line true true None limits a b pips line h t = (t.0, t.1, tt)
long_line true true (Some change) limits a b pips line h t = (t.0, t.1, λ sources are. absurd (not_long b h are.bundle.whole))

line_whole : (order : Order) (input bytes : List ℕ) (graphs : Option StoreChange) (pips : List Pip) (line : Option GraphLine) → ReadOf input bytes
    → TellsLine order bytes graphs pips line → TellsLine order input graphs pips line
line_whole order input bytes graphs pips line r t = elim r.whole [
  | inl is ↦ subst (λ (i : List ℕ). TellsLine order i graphs pips line) is t
  | inr long ↦ long_line (asks_graphs order) (uses_store order) graphs (limits_of order) bytes input pips line long.1 t
]

long_keeps : (graphs : Option StoreChange) (limits : Limits) (input : List ℕ) → IsLong input → KeepsOfInput graphs limits input
long_keeps None limits input h = tt
long_keeps (Some change) limits input h = λ sources are. absurd (not_long input h are.bundle.whole)

-- what was put is what the input makes
pub keeps_whole : (graphs : Option StoreChange) (limits : Limits) (input bytes : List ℕ) → ReadOf input bytes → KeepsOfInput graphs limits bytes
    → KeepsOfInput graphs limits input
keeps_whole graphs limits input bytes r kept = elim r.whole [
  | inl is ↦ subst (λ (i : List ℕ). KeepsOfInput graphs limits i) is kept
  | inr long ↦ long_keeps graphs limits input long.1
]

came_whole : (limits : Limits) (input bytes : List ℕ) (held : Holdings) (before now : StoreTold) → ReadOf input bytes
    → LeftOfBuild limits bytes held before now → LeftOfBuild limits input held before now
came_whole limits input bytes held before now r came = elim r.whole [
  | inl is ↦ subst (λ (i : List ℕ). LeftOfBuild limits i held before now) is came
  | inr long ↦ elim came [
    | inl same ↦ inl same
    | inr h ↦ absurd (not_long bytes long.0 h.2.bundle.whole)
  ]
]

pub left_whole : (limits : Limits) (input bytes : List ℕ) (held : Holdings) (before now : StoreTold) → ReadOf input bytes
    → StoreLeft limits bytes held before now → StoreLeft limits input held before now
left_whole limits input bytes held before now r s = record {
  honest = s.honest;
  came = came_whole limits input bytes held before now r s.came;
}

-- ## Pips that were gone through

asked_whole : (limits : Limits) (input bytes : List ℕ) (pips : List Pip) → ReadOf input bytes → AsksFor limits bytes pips
    → AsksFor limits input pips
asked_whole limits input bytes pips r h = elim r.whole [
  | inl is ↦ subst (λ (i : List ℕ). AsksFor limits i pips) is h
  | inr long ↦ absurd (not_long bytes long.0 h.1.bundle.whole)
]

rules_whole : (input bytes : List ℕ) (pips : List Pip) → ReadOf input bytes → KeepRulesOf bytes pips → KeepRulesOf input pips
rules_whole input bytes pips r h = elim r.whole [
  | inl is ↦ subst (λ (i : List ℕ). KeepRulesOf i pips) is h
  | inr long ↦ absurd (not_long bytes long.0 h.1.bundle.whole)
]

pub shown_whole : (call : Call) (input bytes : List ℕ) (order : Order) → ReadOf input bytes → IsShown call bytes order → IsShown call input order
shown_whole call input bytes order read s = record {
  gone = s.gone;
  asked = λ fair.
      asked_whole (limits_of order) input bytes s.gone.pips read
      (s.asked (λ hit. graphs_read call.graphs (uses_graphs order) (limits_of order) input bytes read (fair hit)));
  rules = rules_whole input bytes s.gone.pips read s.rules;
  line = line_whole order input bytes call.graphs s.gone.pips s.gone.counts.graph read s.line;
  status_is = s.status_is;
  written = s.written;
  noted = s.noted;
}

-- ## What was read

-- to its end, or to one byte past the limit
pub read_out : (source : Given) (bytes : List ℕ) (count : ℕ) → length bytes ≡ count → source.now ≡ source.before ++ bytes → count ≤ READ_LIMIT
    → (count ≤ MAX_BUNDLE_BYTES → source.ended ≡ true) → IsReadOut source
read_out source bytes count long gave bound end = record {
  input = bytes;
  gave = gave;
  out = elim (cases_lt MAX_BUNDLE_BYTES count) [
    | inl over ↦ inr (long ∙ past_limit count over bound)
    | inr within ↦ inl (end within)
  ];
}

-- ## Pieces that were given

-- a source that was not asked gave nothing
pub gives_none : (source : Given) → source.now ≡ source.before → source.left_now ≡ source.left_before → GivesPiece source
gives_none source gave left = record {
  piece = [];
  gave = gave ∙ sym (append-nil source.before);
  moved = λ rest is. sym left ∙ is;
}

-- one piece after another
pub moves_both : (a b c : Option (List ℕ)) (xs ys : List ℕ) → Moves a b xs → Moves b c ys → Moves a c (xs ++ ys)
moves_both a b c xs ys h k = λ rest is. h (ys ++ rest) (k rest is) ∙ ap (λ (zs : List ℕ). Some zs) (sym (append_assoc xs ys rest))
