-- Where a reason holds, nothing is usable.
use Rattle.std.proofs.Common.{◌≡◌, ℕ, List, [], ◌∷◌, Some, None, inl, inr, ap, sym, ◌∙◌, subst}
use Rattle.sha2.specs.Sha256.{sha256}
use Rattle.bx_tree.specs.Members.{Has}
use Rattle.bx_tree.specs.Trees.{Files}
use Rattle.bx_io.specs.Holdings.{Holdings}
use Rattle.pip_model_types.specs.declared.desc.Desc.{Desc}
use Rattle.observed.specs.declared.ask.Ask.{Ask}
use Rattle.observed.specs.declared.access.Answer.{Answer}
use Rattle.memo_format.specs.Found.{output_lines}
use Rattle.memo_format.specs.declared.entry.Entry.{Entry}
use Rattle.memo_format.specs.declared.entry.OutputLine.{OutputLine}
use Rattle.memo_format.specs.declared.selector.Selector.{Selector}
use Rattle.content_store.specs.Contents.{IsContent}
use Rattle.run_record.specs.Collisions.{contents_of}
use Rattle.run_record.specs.Digests.{weak_of}
use Rattle.two_phase_meaning.specs.Contents.{HoldsAll}
use Rattle.two_phase_meaning.specs.Usable.{AnyUsable, Usable, UsableBy, asked_text}
use Rattle.two_phase.proofs.Fetched.{one_entry, one_list, one_set}
use Rattle.miss_reasons.specs.Reasons.{AreNoFits, AsksOther, IsNoFit, IsReason, IsTaken}
use Rattle.miss_reasons.specs.declared.reason.NoFit.{NoFit}
use Rattle.miss_reasons.specs.declared.reason.NoFit.TheVariants as no_fits
use Rattle.miss_reasons.specs.declared.reason.Reason.{Reason}
use Rattle.miss_reasons.specs.declared.reason.Reason.TheVariants as reasons

-- each output of files that are held is held
output_held : (S : Holdings) (files : Files) (output : OutputLine) → HoldsAll S (contents_of files) → Has (output_lines files) output
    → (bytes : List ℕ) × IsContent S output.digest bytes
output_held S [] output h has = absurd has
output_held S (f ∷ files) output h (inl is) = (f.1, record { held = h.0; digest_is = ap (λ (o : OutputLine). o.digest) is })
output_held S (f ∷ files) output h (inr later) = output_held S files output h.1 later

module _ (S : Holdings) (d : Desc) (see : Ask → Answer) where
  asks_other : (s : Selector) (asks : List Ask) → AsksOther S d see s asks → UsableBy S d see s → ⊥
  asks_other s asks h u =
      let same : asks ≡ u.asks = one_set S s.paths asks u.asks h.paths u.paths in
      h.other (ap (λ a. sha256 (asked_text d see s.paths a)) same ∙ u.asked)

  no_output : (s : Selector) (e : Entry) (output : OutputLine) → Has e.outputs output → ((bytes : List ℕ) → IsContent S output.digest bytes → ⊥)
      → (u : UsableBy S d see s) → e ≡ u.entry → ⊥
  no_output s e output has none u same =
      let there = output_held S u.files output u.made (subst (λ (o : List OutputLine). Has o output) (ap (λ (x : Entry). x.outputs) same ∙ sym u.outputs) has) in
      none there.0 there.1

  pub no_fit : (s : Selector) (why : NoFit) → IsNoFit S d see s why → UsableBy S d see s → ⊥
  no_fit s no_fits.NoPaths h u = h u.asks u.paths
  no_fit s (no_fits.Answered ask line now names) h u = asks_other s h.0 h.1 u
  no_fit s no_fits.AnsweredOtherwise h u = asks_other s h.0 h.1 u
  no_fit s no_fits.NoEntry h u = h u.entry u.held
  no_fit s no_fits.OtherEntry h u =
      h.2 (subst (IsTaken d s) (one_entry S s.strong u.entry h.0 u.held h.1) (u.weak_is, u.paths_are, u.fit, u.unnested))
  no_fit s (no_fits.NoOutput output) h u = no_output s h.0 output h.2.0 h.2.1 u (one_entry S s.strong h.0 u.entry h.1 u.held)

  none_fits : (list : List Selector) (why : List NoFit) → AreNoFits S d see list why → AnyUsable S d see list → ⊥
  none_fits [] why h u = absurd u
  none_fits (s ∷ rest) [] h u = absurd h
  none_fits (s ∷ rest) (one ∷ more) h (inl here) = no_fit s one h.0 here
  none_fits (s ∷ rest) (one ∷ more) h (inr later) = none_fits rest more h.1 later

  pub no_reason : (reason : Reason) → IsReason S d see reason → Usable S d see → ⊥
  no_reason (reasons.NoList near) h u = let z : None ≡ Some u.held.0 = sym h.0 ∙ u.held.1 in cc
  no_reason (reasons.BadList weak) h u = h.2 u.list u.held
  no_reason (reasons.NoneFits list why) h u =
      none_fits list why h.1 (subst (AnyUsable S d see) (one_list S (weak_of d) u.list list u.held h.0) u.any)
