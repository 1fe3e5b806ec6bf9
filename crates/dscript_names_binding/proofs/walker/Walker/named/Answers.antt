use Rattle.std.proofs.Common.{refl, ap, sym, ◌∙◌, ◌++◌, append-nil}
use Rattle.std.specs.Option.{option_to_list}
use Rattle.dscript_names_binding.proofs.Moves.{named_walked}
use Rattle.dscript_names_binding.proofs.walker.Walker.named.Goals as goal

pub returns-in_ok-push : goal.returns-in_ok-push
returns-in_ok-push c =
    named_walked _ _ _ _ c.args.self.now _ c.in_ok-found.found c.in_ok-found.ensures refl refl
    (c.in_ok-push.ensures.items ∙ ap (λ l. c.args.self.now.names.items ++ l)
    (ap option_to_list (sym c.in-Some.is) ∙ c.local_named.ensures)) refl

pub returns-in_default : goal.returns-in_default
returns-in_default c =
    named_walked _ _ _ _ c.args.self.now _ c.in_ok-found.found c.in_ok-found.ensures refl refl
    (sym (append-nil c.args.self.now.names.items) ∙ ap (λ l. c.args.self.now.names.items ++ l)
    (ap option_to_list (sym c.in_default.is) ∙ c.local_named.ensures)) refl
