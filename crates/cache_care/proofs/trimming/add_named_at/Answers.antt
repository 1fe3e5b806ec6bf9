use Rattle.std.proofs.Common.{◌∙◌, ap, List, ℕ, subst, sym}
use Rattle.std.specs.Prelude.{OnOk, string_bytes}
use Rattle.bx_io.specs.Holdings.{held_in}
use Rattle.content_store.specs.HeldEntries.{IsHeld}
use Rattle.memo_format.specs.declared.entry.Entry.{Entry}
use Rattle.cache_care.specs.Digests.{AddsAll}
use Rattle.cache_care.specs.Naming.{named_at}
use Rattle.cache_care.proofs.Listed.{adds_nothing}
use Rattle.cache_care.proofs.NamedTexts.{at_found, at_none}
use Rattle.cache_care.proofs.trimming.add_named_at.Goals as goal

pub returns-in-Some-clause-added : goal.returns-in-Some-clause-added
returns-in-Some-clause-added g c S told digest =
    subst (λ (ds : List (List ℕ)). OnOk c.add_named.result (AddsAll c.args.named.now c.add_named.new.named ds))
    (at_found S (string_bytes c.args.name.now) c.args.strong.now c.in_ok-entry.field-0 c.in-Some.entry c.in-Some.is c.requires.name
    (c.in_ok-entry.ensures.found S (c.add_named.ensures.known.held S told)))
    (c.add_named.ensures.added S told)

pub returns-in-None-clause-added : goal.returns-in-None-clause-added
returns-in-None-clause-added g c S told digest =
    adds_nothing c.args.named.now (named_at S (string_bytes c.args.name.now))
    (at_none S (string_bytes c.args.name.now) c.args.strong.now c.in_ok-entry.field-0 c.in-None.is c.requires.name digest
    (c.in_ok-entry.ensures.found S told))
