use Rattle.std.proofs.Common.{◌≡◌, ◌∙◌, ap, sym, subst, ℕ, List, Option, OnOk}
use Rattle.std.specs.Option.{option_copied}
use Rattle.bx_tree.specs.TextTables.{at_text}
use Rattle.tool_faults.specs.Tables.{with_first}
use Rattle.tool_faults.proofs.FirstPlaces.{no_label}
use Rattle.tool_faults.proofs.first_places.add_first.Goals as goal

pub returns-in-Some : goal.returns-in-Some
returns-in-Some c =
    subst (λ (o : Option (List ℕ)). OnOk c.add_absent.result ((q : List ℕ) → at_text c.add_absent.new.by_label q ≡ with_first o c.args.place (at_text c.args.by_label.now) q))
    (ap option_copied (sym c.in-Some.is) ∙ c.label_parts.ensures.label) c.add_absent.ensures

pub returns-in-None : goal.returns-in-None
returns-in-None c = λ q.
    no_label c.args.place (at_text c.args.by_label.now) q
    ∙ ap (λ (o : Option (List ℕ)). with_first o c.args.place (at_text c.args.by_label.now) q) (ap option_copied (sym c.in-None.is) ∙ c.label_parts.ensures.label)
