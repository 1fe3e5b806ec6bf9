-- The content of a register.
use Rattle.std.specs.Prelude.{ℕ, List, drop}
use Rattle.tool_run.specs.declared.content.Backing.{Backing}
use Rattle.tool_run.specs.declared.content.Backing.TheVariants.{Owned, Shared, File}

-- the bytes of a content, whoever owns them
abbrev pub kept_bytes : Backing → List ℕ
kept_bytes (Owned bytes) = bytes.items
kept_bytes (Shared text start) = drop start text
kept_bytes (File blob start) = drop start blob
