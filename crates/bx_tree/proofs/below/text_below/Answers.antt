use Rattle.std.proofs.Common.{◌≡◌, ◌≢◌, ◌+◌, List, ℕ, Some, codes, length, drop, ap, sym, ◌∙◌, subst, arith}
use Rattle.std.specs.List.{AllByRecursion, slice_split}
use Rattle.std.proofs.lemmas.Bool.{false≢true}
use Rattle.std.proofs.lemmas.Slice.Eq.{bytes_eq-Decides}
use Rattle.bx_tree.specs.Paths.{IsAtom, path_text}
use Rattle.bx_tree.proofs.AtomsBelow.{below_root, below_dir}
use Rattle.bx_tree.proofs.PathTexts.{is_slash}
use Rattle.bx_tree.proofs.below.text_below.Goals as goal

pub returns-then-eq-clause-rest : goal.returns-then-eq-clause-rest
returns-then-eq-clause-rest c =
    let root : path_text c.args.dir.now ≡ codes "." =
    sym c.text-prefix.ensures.text ∙ (bytes_eq-Decides c.text-prefix.result.now (codes ".")).0 (sym c.if-eq.ensures) in
    let text = c.as_bytes-text.ensures.value ∙ c.text.ensures.text in
    (below_root c.args.path.now c.args.dir.now c.text.ensures.is_path c.text-prefix.ensures.is_path c.requires root).0
    ∙ ap (λ (t : List ℕ). Some (slice_split is_slash t)) (sym text)

pub returns-then-eq-clause-atoms : goal.returns-then-eq-clause-atoms
returns-then-eq-clause-atoms c =
    let root : path_text c.args.dir.now ≡ codes "." =
    sym c.text-prefix.ensures.text ∙ (bytes_eq-Decides c.text-prefix.result.now (codes ".")).0 (sym c.if-eq.ensures) in
    let text = c.as_bytes-text.ensures.value ∙ c.text.ensures.text in
    subst (λ (t : List ℕ). AllByRecursion IsAtom (slice_split is_slash t)) (sym text)
    (below_root c.args.path.now c.args.dir.now c.text.ensures.is_path c.text-prefix.ensures.is_path c.requires root).1

pub split_at-requires : goal.split_at-requires
split_at-requires c =
    let other : path_text c.args.dir.now ≢ codes "." =
    λ e. false≢true (c.if-eq.ensures ∙ (bytes_eq-Decides c.text-prefix.result.now (codes ".")).1 (c.text-prefix.ensures.text ∙ e)) in
    let known = below_dir c.args.path.now c.args.dir.now c.text.ensures.is_path c.text-prefix.ensures.is_path other c.requires in
    omega (arith, known.0, ap length c.text-prefix.ensures.text, ap length (c.as_bytes-text.ensures.value ∙ c.text.ensures.text))

pub returns-clause-rest : goal.returns-clause-rest
returns-clause-rest c =
    let other : path_text c.args.dir.now ≢ codes "." =
    λ e. false≢true (c.if-eq.ensures ∙ (bytes_eq-Decides c.text-prefix.result.now (codes ".")).1 (c.text-prefix.ensures.text ∙ e)) in
    let known = below_dir c.args.path.now c.args.dir.now c.text.ensures.is_path c.text-prefix.ensures.is_path other c.requires in
    let left : c.split_at.result.1.now ≡ drop (length (path_text c.args.dir.now) + 1) (path_text c.args.path.now) =
    c.split_at.ensures.back ∙ ap (λ (t : List ℕ). drop (length c.text-prefix.result.now + 1) t) (c.as_bytes-text.ensures.value ∙ c.text.ensures.text)
    ∙ ap (λ (t : List ℕ). drop (length t + 1) (path_text c.args.path.now)) c.text-prefix.ensures.text in
    known.1 ∙ ap (λ (t : List ℕ). Some (slice_split is_slash t)) (sym left)

pub returns-clause-atoms : goal.returns-clause-atoms
returns-clause-atoms c =
    let other : path_text c.args.dir.now ≢ codes "." =
    λ e. false≢true (c.if-eq.ensures ∙ (bytes_eq-Decides c.text-prefix.result.now (codes ".")).1 (c.text-prefix.ensures.text ∙ e)) in
    let known = below_dir c.args.path.now c.args.dir.now c.text.ensures.is_path c.text-prefix.ensures.is_path other c.requires in
    let left : c.split_at.result.1.now ≡ drop (length (path_text c.args.dir.now) + 1) (path_text c.args.path.now) =
    c.split_at.ensures.back ∙ ap (λ (t : List ℕ). drop (length c.text-prefix.result.now + 1) t) (c.as_bytes-text.ensures.value ∙ c.text.ensures.text)
    ∙ ap (λ (t : List ℕ). drop (length t + 1) (path_text c.args.path.now)) c.text-prefix.ensures.text in
    subst (λ (t : List ℕ). AllByRecursion IsAtom (slice_split is_slash t)) (sym left) known.2
