use Rattle.std.proofs.Common.{List, refl, subst, sym, take, ◌∙◌}
use Rattle.std.proofs.lemmas.Bool.{false≢true}
use Rattle.std.proofs.lemmas.List.{take_all}
use Rattle.std.proofs.lemmas.Slice.Eq.{bytes_eq-Decides}
use Rattle.bundle_folder.specs.Folders.{AllApart}
use Rattle.bundle_folder.specs.Places.{IsApart}
use Rattle.bundle_folder.specs.Stored.{placed, stored}
use Rattle.bundle_folder.specs.declared.mem_folder.Placed.{Placed}
use Rattle.bundle_folder.proofs.Entries.{apart_more, none_apart, stored_has, stored_more}
use Rattle.bundle_folder.proofs.mem_folder.is_free_among.Goals as goal

pub returns-then-eq : goal.returns-then-eq
returns-then-eq c = (
  λ e. absurd (false≢true e),
  λ f. absurd (f.no_root ((bytes_eq-Decides _ _).0 (sym c.eq.ensures ∙ c.if-eq.true))),
)

pub things-init : goal.things-init
things-init c = none_apart c.args.place.now

pub returns-then-not-is_apart : goal.returns-then-not-is_apart
returns-then-not-is_apart c = (
  λ e. absurd (false≢true e),
  λ f.
      let thing = c.placed-item.result in
      let apart = f.apart (placed thing).0 (placed thing).1
      (stored_has c.args.things.now c.things.placed-index thing c.things-test.true c.placed-item.is) in
      absurd (false≢true (sym c.if-not-is_apart.true ∙ c.is_apart.ensures.1
      (subst (IsApart c.args.place.now) (sym c.as_str.ensures.value) apart))),
)

pub things-preserved : goal.things-preserved
things-preserved c =
    let thing = c.placed-item.result in
    subst (λ ns. AllApart ns c.args.place.now)
    (sym (stored_more c.args.things.now c.things.placed-index thing c.things-test.true c.placed-item.is))
    (apart_more (stored (take c.things.placed-index c.args.things.now)) (placed thing) c.args.place.now c.things.invariant
    (subst (IsApart c.args.place.now) c.as_str.ensures.value (c.is_apart.ensures.0 c.if-not-is_apart.false)))

pub returns : goal.returns
returns c = (
  λ t. record {
    no_root = λ e. false≢true (sym c.if-eq.false ∙ c.eq.ensures ∙ (bytes_eq-Decides _ _).1 e);
    apart = subst (λ (ts : List Placed). AllApart (stored ts) c.args.place.now)
        (take_all c.things.placed-index c.args.things.now c.things-test.false) c.things.invariant;
  },
  λ f. refl,
)
