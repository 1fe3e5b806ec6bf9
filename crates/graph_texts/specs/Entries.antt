-- Entries: what evaluation asked and made under a key.
use Rattle.std.specs.Prelude.{◌≡◌, ℕ, List, ◌++◌, codes, Result, Ok, Err, ⊤}
use Rattle.std.specs.List.{AllByRecursion, flat_map}
use Rattle.bx_digest.specs.Digests.{IsDigest}
use Rattle.memo_format.specs.Seals.{sealed}
use Rattle.memo_format.specs.declared.fault.FormatFault.{FormatFault}
use Rattle.memo_format.specs.declared.fault.FormatFault.TheVariants as faults
use Rattle.prints.specs.Parts.{digest_part}
use Rattle.prints.specs.declared.fault.PrintFault.{PrintFault}
use Rattle.prints.specs.declared.fault.PrintFault.TheVariants as print_faults
use Rattle.graph_texts.specs.Asks.{IsAskLine, ask_line}
use Rattle.graph_texts.specs.Pips.{ArePips, pips_text}
use Rattle.graph_texts.specs.declared.entry.GraphEntry.{GraphEntry}

-- What is an entry: a digest of a key, asks of paths by patterns with digests of listings, and a list of pips.
pub record IsGraphEntry (e : GraphEntry) : Type 0 where
  pub key : IsDigest e.key
  pub asks : AllByRecursion IsAskLine e.asks
  pub pips : ArePips e.pips

-- ## The text

abbrev pub graph_entry_body : GraphEntry → List ℕ
graph_entry_body e =
    codes "graph-entry 1\nkey " ++ (digest_part 10 e.key ++ (flat_map ask_line e.asks ++ pips_text e.pips))

-- the text of an entry, with its seal
abbrev pub graph_entry_text : GraphEntry → List ℕ
graph_entry_text e = sealed (graph_entry_body e)

-- ## What a reader gives

-- The entry that has a body, or none has it. Nothing is said where memory runs out.
abbrev pub GivesEntry : Result GraphEntry PrintFault → List ℕ → Type 0
GivesEntry (Ok e) body = IsGraphEntry e × (body ≡ graph_entry_body e)
GivesEntry (Err print_faults.BadPrint) body =
    (e : GraphEntry) → IsGraphEntry e → body ≡ graph_entry_body e → ⊥
GivesEntry (Err print_faults.Memory) body = ⊤

-- the same of a text with its seal
abbrev pub GivesSealed : Result GraphEntry PrintFault → List ℕ → Type 0
GivesSealed (Ok e) text = IsGraphEntry e × (text ≡ graph_entry_text e)
GivesSealed (Err print_faults.BadPrint) text =
    (e : GraphEntry) → IsGraphEntry e → text ≡ graph_entry_text e → ⊥
GivesSealed (Err print_faults.Memory) text = ⊤

abbrev pub ReadsEntry : Result GraphEntry FormatFault → List ℕ → Type 0
ReadsEntry (Ok e) text = IsGraphEntry e × (text ≡ graph_entry_text e)
ReadsEntry (Err faults.BadForm) text = (e : GraphEntry) → IsGraphEntry e → text ≡ graph_entry_text e → ⊥
ReadsEntry (Err faults.Memory) text = ⊤
