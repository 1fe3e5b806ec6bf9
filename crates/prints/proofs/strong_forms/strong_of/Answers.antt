use Rattle.std.proofs.Common.{◌≡◌, ◌++◌, ◌∙◌, List, ℕ, codes, map, ap, append_assoc}
use Rattle.std.specs.List.{flat_map}
use Rattle.prints.specs.Parts.{digest_part}
use Rattle.prints.proofs.Joining.{joined_four}
use Rattle.prints.specs.Strong.{answer_line, line_of, read_strong_text, strong_head, strong_parts}
use Rattle.prints.proofs.StrongTexts.{strong_again}
use Rattle.prints.proofs.strong_forms.strong_of.Goals as goal

written : (head t0 t1 t2 t3 t4 t5 w p lines : List ℕ) → t0 ≡ head → t1 ≡ t0 ++ codes "weak " → t2 ≡ t1 ++ digest_part 10 w → t3 ≡ t2 ++ codes "paths " → t4 ≡ t3 ++ digest_part 10 p
    → t5 ≡ t4 ++ lines → t5 ≡ head ++ ((codes "weak " ++ digest_part 10 w) ++ ((codes "paths " ++ digest_part 10 p) ++ lines))
written head t0 t1 t2 t3 t4 t5 w p lines h0 h1 h2 h3 h4 h5 =
    joined_four t1 t2 t3 t4 t5 (digest_part 10 w) (codes "paths ") (digest_part 10 p) lines h2 h3 h4 h5
    ∙ ap (λ t. t ++ (digest_part 10 w ++ (codes "paths " ++ (digest_part 10 p ++ lines)))) (h1 ∙ ap (λ t. t ++ codes "weak ") h0)
    ∙ append_assoc head (codes "weak ") (digest_part 10 w ++ (codes "paths " ++ (digest_part 10 p ++ lines)))

pub returns-clause-read : goal.returns-clause-read
returns-clause-read c =
    let text = written (strong_head c.args.second) c.in_ok-text.text.items c.extend_from_slice.new.self.items c.append_digest.new.text.items c.extend_from_slice-2.new.self.items
    c.append_digest-2.new.text.items c.append_lines.new.text.items c.args.weak.now c.args.paths.now (flat_map answer_line (map line_of c.args.answers.now))
    (c.in_ok-text.ensures.items ∙ c.head_of.ensures) c.in_ok-extend_from_slice.ensures.items c.in_ok-append_digest.ensures.text c.in_ok-extend_from_slice-2.ensures.items
    c.in_ok-append_digest-2.ensures.text c.in_ok-append_lines.ensures.text in
    ap (λ v. read_strong_text v.items) c.of.ensures.text ∙ ap read_strong_text text
    ∙ strong_again (strong_parts c.args.second c.args.weak.now c.args.paths.now c.args.answers.now) (record {
      weak = c.in_ok-append_digest.ensures.digest;
      paths = c.in_ok-append_digest-2.ensures.digest;
      lines = c.in_ok-append_lines.ensures.fit;
    })
