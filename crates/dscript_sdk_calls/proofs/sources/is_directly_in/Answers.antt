use Rattle.std.proofs.Common.{ℕ, nat_eq, not, List, length, drop, ap, ◌∙◌, arith}
use Rattle.std.specs.List.{list_any}
use Rattle.bx_tree.specs.Paths.{path_text}
use Rattle.dscript_sdk_calls.proofs.DirectlyIn.{directly_in, prefix_fits}
use Rattle.dscript_sdk_calls.proofs.sources.is_directly_in.Goals as goal

pub split_at-requires : goal.split_at-requires
split_at-requires c =
    omega (
      arith,
      ap length c.requires.prefix,
      ap length (c.as_bytes.ensures.value ∙ c.text.ensures.text),
      prefix_fits c.args.dir.now c.args.path.now c.requires.below,
    )

pub returns : goal.returns
returns c =
    ap not (
    c.contains.ensures.value
    ∙ ap (list_any (λ b. nat_eq b 47)) (
    c.split_at.ensures.back
    ∙ ap (drop (length c.args.prefix.now)) (c.as_bytes.ensures.value ∙ c.text.ensures.text)
    ∙ ap (λ (p : List ℕ). drop (length p) (path_text c.args.path.now)) c.requires.prefix
    )
    ) ∙ directly_in c.args.dir.now c.args.path.now c.text.ensures.is_path c.requires.below
