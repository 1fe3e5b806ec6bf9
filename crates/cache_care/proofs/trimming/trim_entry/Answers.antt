use Rattle.std.proofs.Common.{◌≡◌, ◌++◌, [], ◌∷◌, List, ℕ, cond, map, refl, sym, ◌∙◌}
use Rattle.std.specs.Prelude.{OnOk, string_bytes}
use Rattle.bx_io.specs.Holdings.{Change, Drop}
use Rattle.cache_care.specs.Digests.{AddsAll, has_digest}
use Rattle.cache_care.specs.Naming.{named_at}
use Rattle.cache_care.specs.Planning.{planned_change}
use Rattle.cache_care.specs.Trimming.{AreTrims}
use Rattle.cache_care.proofs.Cutting.{dropped_changes, kept_changes, on_more, on_ok, trims_dropped, trims_unchanged}
use Rattle.cache_care.proofs.Sets.{adds_if, adds_not}
use Rattle.cache_care.proofs.trimming.trim_entry.Goals as goal

pub returns-then-has-clause-changes : goal.returns-then-has-clause-changes
returns-then-has-clause-changes g c =
    on_ok c.add_named_at.result _
    (kept_changes (has_digest c.args.selected.now c.args.strong.now) (string_bytes c.args.name.now) (map planned_change c.args.trim.now.changes.items)
    (map planned_change c.args.trim.now.changes.items) (sym c.has.ensures.has ∙ c.if-has.true) refl)

pub returns-then-has-clause-named : goal.returns-then-has-clause-named
returns-then-has-clause-named g c S told =
    on_more c.add_named_at.result (AddsAll c.args.trim.now.digests c.add_named_at.new.named (named_at S (string_bytes c.args.name.now))) _
    (λ (h : AddsAll c.args.trim.now.digests c.add_named_at.new.named (named_at S (string_bytes c.args.name.now))).
    adds_if (has_digest c.args.selected.now c.args.strong.now) c.args.trim.now.digests c.add_named_at.new.named (named_at S (string_bytes c.args.name.now))
    (named_at S (string_bytes c.args.name.now)) (sym c.has.ensures.has ∙ c.if-has.true) refl h)
    (c.add_named_at.ensures.added S told c.has.ensures.is_digest)

pub returns-then-has-clause-trims : goal.returns-then-has-clause-trims
returns-then-has-clause-trims g c =
    on_ok c.add_named_at.result _
    (λ (names : List (List ℕ)) (h : AreTrims names (map planned_change c.args.trim.now.changes.items)).
    trims_unchanged names (string_bytes c.args.name.now) (map planned_change c.args.trim.now.changes.items) (map planned_change c.args.trim.now.changes.items) refl h)

pub returns-clause-changes : goal.returns-clause-changes
returns-clause-changes g c =
    dropped_changes (has_digest c.args.selected.now c.args.strong.now) (string_bytes c.args.name.now) (map planned_change c.args.trim.now.changes.items)
    (map planned_change c.drop_name.new.self.changes.items) (sym c.has.ensures.has ∙ c.if-has.false) c.in_ok-drop_name.ensures.changes

pub returns-clause-named : goal.returns-clause-named
returns-clause-named g c S told =
    adds_not (has_digest c.args.selected.now c.args.strong.now) c.args.trim.now.digests c.drop_name.new.self.digests (named_at S (string_bytes c.args.name.now))
    (sym c.has.ensures.has ∙ c.if-has.false) c.in_ok-drop_name.ensures.digests

pub returns-clause-trims : goal.returns-clause-trims
returns-clause-trims g c =
    λ names h.
    trims_dropped names (string_bytes c.args.name.now) (map planned_change c.args.trim.now.changes.items) (map planned_change c.drop_name.new.self.changes.items)
    c.in_ok-drop_name.ensures.changes h
