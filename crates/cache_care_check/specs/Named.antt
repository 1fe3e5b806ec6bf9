-- What the names of a store are of.
use Rattle.std.specs.Prelude.{ℕ, List}
use Rattle.memo_format.specs.StoreNames.{at_blob, at_entry, at_list}
use Rattle.cache_care_check.specs.declared.names.Named.{Named}
use Rattle.cache_care_check.specs.declared.names.Named.TheVariants as named

-- the name of a content, of an entry or of a list of selectors
abbrev pub name_text : Named → List ℕ
name_text (named.Content digest) = at_blob digest
name_text (named.Entry strong) = at_entry strong
name_text (named.Selectors weak) = at_list weak
