use Rattle.std.proofs.Common.{◌≡◌, ◌++◌, ◌∙◌, List, ℕ, codes, map, ap, subst}
use Rattle.std.specs.List.{AllByRecursion, flat_map}
use Rattle.std.proofs.lemmas.List.{map-id}
use Rattle.prints.specs.Parts.{digest_part}
use Rattle.prints.proofs.Joining.{joined_six}
use Rattle.memo_format.specs.declared.entry.OutputLine.{OutputLine}
use Rattle.memo_format.specs.Entries.{IsOutput, entry_text, output_line, paths_line, read_entry_text, strong_line, weak_line}
use Rattle.memo_format.specs.Seals.{sealed}
use Rattle.memo_format.proofs.FormTexts.{entry_again}
use Rattle.memo_format.proofs.entry.write_entry.Goals as goal

written : (t0 t1 t2 t3 t4 t5 t6 all w p s lines : List ℕ) → t0 ≡ codes "entry 1\nweak " → t1 ≡ t0 ++ digest_part 10 w → t2 ≡ t1 ++ codes "paths " → t3 ≡ t2 ++ digest_part 10 p
    → t4 ≡ t3 ++ codes "strong " → t5 ≡ t4 ++ digest_part 10 s → t6 ≡ t5 ++ lines → all ≡ sealed t6
    → all ≡ sealed (codes "entry 1\n" ++ (weak_line w ++ (paths_line p ++ (strong_line s ++ lines))))
written t0 t1 t2 t3 t4 t5 t6 all w p s lines h0 h1 h2 h3 h4 h5 h6 end =
    end ∙ ap sealed (joined_six t0 t1 t2 t3 t4 t5 t6 (digest_part 10 w) (codes "paths ") (digest_part 10 p) (codes "strong ") (digest_part 10 s) lines h1 h2 h3 h4 h5 h6
    ∙ ap (λ t. t ++ (digest_part 10 w ++ (codes "paths " ++ (digest_part 10 p ++ (codes "strong " ++ (digest_part 10 s ++ lines)))))) h0)

pub returns-clause-text : goal.returns-clause-text
returns-clause-text c =
    written c.in_ok-text.text.items c.append_digest.new.text.items c.extend_from_slice.new.self.items c.append_digest-2.new.text.items c.extend_from_slice-2.new.self.items
    c.append_digest-3.new.text.items c.append_lines.new.text.items c.seal.new.text.items c.args.entry.now.weak c.args.entry.now.paths c.args.entry.now.strong
    (flat_map output_line (map (λ o. o) c.lines.result.now))
    c.in_ok-text.ensures.items c.in_ok-append_digest.ensures.text c.in_ok-extend_from_slice.ensures.items c.in_ok-append_digest-2.ensures.text c.in_ok-extend_from_slice-2.ensures.items
    c.in_ok-append_digest-3.ensures.text c.in_ok-append_lines.ensures.text c.in_ok-seal.ensures
    ∙ ap (λ (os : List OutputLine). entry_text (record { weak = c.args.entry.now.weak; paths = c.args.entry.now.paths; strong = c.args.entry.now.strong; outputs = os }))
    (map-id c.lines.result.now ∙ c.lines.ensures)

pub returns-clause-read : goal.returns-clause-read
returns-clause-read c =
    let text =
    written c.in_ok-text.text.items c.append_digest.new.text.items c.extend_from_slice.new.self.items c.append_digest-2.new.text.items c.extend_from_slice-2.new.self.items
    c.append_digest-3.new.text.items c.append_lines.new.text.items c.seal.new.text.items c.args.entry.now.weak c.args.entry.now.paths c.args.entry.now.strong
    (flat_map output_line (map (λ o. o) c.lines.result.now))
    c.in_ok-text.ensures.items c.in_ok-append_digest.ensures.text c.in_ok-extend_from_slice.ensures.items c.in_ok-append_digest-2.ensures.text c.in_ok-extend_from_slice-2.ensures.items
    c.in_ok-append_digest-3.ensures.text c.in_ok-append_lines.ensures.text c.in_ok-seal.ensures
    ∙ ap (λ (os : List OutputLine). entry_text (record { weak = c.args.entry.now.weak; paths = c.args.entry.now.paths; strong = c.args.entry.now.strong; outputs = os }))
    (map-id c.lines.result.now ∙ c.lines.ensures) in
    ap read_entry_text text
    ∙ entry_again c.args.entry.now (record {
      weak = c.in_ok-append_digest.ensures.digest;
      paths = c.in_ok-append_digest-2.ensures.digest;
      strong = c.in_ok-append_digest-3.ensures.digest;
      outputs = subst (AllByRecursion IsOutput) (map-id c.lines.result.now ∙ c.lines.ensures) c.in_ok-append_lines.ensures.fit;
      order = c.requires;
    })
