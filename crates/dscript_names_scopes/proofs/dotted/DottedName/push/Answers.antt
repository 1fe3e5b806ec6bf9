use Rattle.std.proofs.Common.{◌∷◌, [], ℕ, ap, sym, ◌∙◌}
use Rattle.std.proofs.lemmas.List.Sums.{fold-append}
use Rattle.dscript_program.specs.ProgramData.{Dotted}
use Rattle.dscript_names_scopes.specs.Hashes.{name_hash, text_hash}
use Rattle.dscript_names_scopes.specs.declared.hashing.TheConstants.{FIRST_HASH}
use Rattle.dscript_names_scopes.proofs.dotted.DottedName.push.Goals as goal

pub invariant_of-self-2 : goal.invariant_of-self-2
unfolding name_hash
invariant_of-self-2 c =
    let parts : Dotted = c.self.inside.parts.items in
    c.text_hash-hash.ensures ∙ ap (λ (before : ℕ). text_hash before c.bytes.result.now) c.self.invariant ∙ ap (text_hash (name_hash parts)) c.bytes.ensures
    ∙ sym (fold-append text_hash FIRST_HASH parts (c.args.part ∷ [])) ∙ ap name_hash (sym c.in_ok-push.ensures.items)
