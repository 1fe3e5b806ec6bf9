use Rattle.std.proofs.Common.{◌<◌, List, ℕ, arith, length, subst, ◌∙◌, refl}
use Rattle.bx_tree.specs.Paths.{path_text}
use Rattle.bx_tree.proofs.AncestorSearch.{Shares, no_ancestor_without, no_slash_there, no_file_there, ancestor_found, none_or_found}
use Rattle.bx_tree.proofs.order.has_no_ancestor.Goals as goal

pub returns-then-shared-text : goal.returns-then-shared-text
returns-then-shared-text c =
    let some : 0 < length c.args.files.now = grind arith in
    let s = c.common_prefix-shared.ensures in
    let shares : Shares (path_text c.index-files-files.result.path) c.args.text.now c.common_prefix-shared.result =
    subst (λ (t : List ℕ). Shares t c.args.text.now c.common_prefix-shared.result) (c.as_bytes.ensures.value ∙ c.text.ensures.text)
    (record { in_first = s.in_first; in_second = s.in_second; same = s.same; longest = s.longest }) in (
      λ _. no_ancestor_without c.args.files.now c.index-files-files.result c.args.text.now c.common_prefix-shared.result c.requires.tree some
          c.index-files-files.is c.requires.after shares
          (λ prefix rest is e f has g. no_slash_there c.args.text.now c.common_prefix-shared.result (λ l. absurd (omega arith)) prefix rest is e),
      λ _. refl,
    )

pub returns-then-text-shared-ne47 : goal.returns-then-text-shared-ne47
returns-then-text-shared-ne47 c =
    let some : 0 < length c.args.files.now = grind arith in
    let s = c.common_prefix-shared.ensures in
    let shares : Shares (path_text c.index-files-files.result.path) c.args.text.now c.common_prefix-shared.result =
    subst (λ (t : List ℕ). Shares t c.args.text.now c.common_prefix-shared.result) (c.as_bytes.ensures.value ∙ c.text.ensures.text)
    (record { in_first = s.in_first; in_second = s.in_second; same = s.same; longest = s.longest }) in (
      λ _. no_ancestor_without c.args.files.now c.index-files-files.result c.args.text.now c.common_prefix-shared.result c.requires.tree some
          c.index-files-files.is c.requires.after shares
          (λ prefix rest is e f has g. no_slash_there c.args.text.now c.common_prefix-shared.result (λ l. c.if-text-shared-ne47.true) prefix rest is e),
      λ _. refl,
    )

pub returns : goal.returns
returns c =
    let some : 0 < length c.args.files.now = grind arith in
    let s = c.common_prefix-shared.ensures in
    let shares : Shares (path_text c.index-files-files.result.path) c.args.text.now c.common_prefix-shared.result =
    subst (λ (t : List ℕ). Shares t c.args.text.now c.common_prefix-shared.result) (c.as_bytes.ensures.value ∙ c.text.ensures.text)
    (record { in_first = s.in_first; in_second = s.in_second; same = s.same; longest = s.longest }) in
    let in' : c.common_prefix-shared.result < length c.args.text.now = omega (arith, s.in_second) in
    none_or_found c.position_of.result c.is_none.result _ _ _ c.is_none.ensures c.position_of.ensures.found c.position_of.ensures.none
    (λ position here. ancestor_found c.args.files.now c.args.text.now c.common_prefix-shared.result position here.0 here.1 in' c.if-text-shared-ne47.false)
    (λ none. no_ancestor_without c.args.files.now c.index-files-files.result c.args.text.now c.common_prefix-shared.result c.requires.tree some
    c.index-files-files.is c.requires.after shares
    (no_file_there c.args.files.now c.args.text.now c.common_prefix-shared.result none))
