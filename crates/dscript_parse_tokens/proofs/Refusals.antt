-- A refusal that is passed on.
use Rattle.std.proofs.Common.{◌≡◌, Option, None}
use Rattle.dscript_parse_tokens.specs.Gives.{Fails}
use Rattle.dscript_parse_tokens.specs.declared.parsed.Refusal.{Refusal}
use Rattle.dscript_parse_tokens.specs.declared.parsed.Refusal.TheVariants as refusals

pub fails_from : (fault : Refusal) {A B : Type 0} (one : Option A) (read : Option B) → Fails fault one → (one ≡ None → read ≡ None) → Fails fault read
fails_from refusals.Syntax one read f go = go f
fails_from refusals.Memory one read f go = tt
