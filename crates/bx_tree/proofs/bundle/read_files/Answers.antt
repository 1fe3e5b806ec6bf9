use Rattle.std.proofs.Common.{inr, [], ◌∷◌, ◌++◌, ◌≡◌, ◌+◌, ◌-◌, List, length, take, drop, sym, ap, ◌∙◌, subst, arith, refl, lit≤}
use Rattle.std.proofs.lemmas.List.{take_rest, map_push}
use Rattle.std.proofs.lemmas.Result.{err_from_is_err_and}
use Rattle.bx_tree.specs.Headers.{header_of}
use Rattle.bx_tree.specs.Reading.{Announces, BodyStartsWithFiles}
use Rattle.bx_tree.specs.Bundle.{HeaderFault}
use Rattle.bx_tree.specs.Views.{file_of, files_of}
use Rattle.bx_tree.specs.declared.tree_file.TreeFile.{TreeFile}
use Rattle.bx_tree.proofs.TreeGrowth.{no_files, push_file}
use Rattle.bx_tree.proofs.bundle.read_files.Goals as goal

pub files-init : goal.files-init
files-init c =
    subst (λ (fs : List TreeFile). BodyStartsWithFiles c.args.text.now (files_of fs) c.args.text.now) (sym c.new-files.ensures.items)
    (record { tree = no_files; in_size = record { count = lit≤ tt; sizes = tt }; text_is = refl })

pub returns-in_err-file : goal.returns-in_err-file
returns-in_err-file c =
    let p = err_from_is_err_and c.from_residual.result c.from_residual.ensures.1 in
    rw (p.1, p.2) (λ n. (
      files_of c.files.files.items,
      c.files.rest.now,
      c.files.invariant,
      inr (inr (
        header_of c.in-Some-read_header.header,
        c.in-Some-read_header.ensures,
        subst (λ (fs : List TreeFile). HeaderFault (files_of fs) (header_of c.in-Some-read_header.header) c.in_err-file.field-0.0) c.as_slice.ensures.value
            (c.in_err-file.ensures n),
      )),
    ))

pub files-preserved : goal.files-preserved
files-preserved c =
    let h = header_of c.in-Some-read_header.header in
    let known : Announces (files_of c.files.files.items) h (file_of c.in_ok-file.file) =
    subst (λ (fs : List TreeFile). Announces (files_of fs) h (file_of c.in_ok-file.file)) c.as_slice.ensures.value c.in_ok-file.ensures in
    let rest = c.in-Some-read_header.header.rest.now in
    let n = length c.in_ok-file.file.bytes.items + 1 in
    let same : c.len.result + 1 ≡ n = omega arith in
    let left : take (length rest - (c.len.result + 1)) (drop (c.len.result + 1) rest) ≡ drop n rest =
    take_rest rest (c.len.result + 1) ∙ ap (λ k. drop k rest) same in
    let files : files_of c.push.new.self.items ≡ files_of c.files.files.items ++ file_of c.in_ok-file.file ∷ [] =
    ap files_of c.in_ok-push.ensures.items ∙ map_push file_of c.files.files.items c.in_ok-file.file in
    let next : BodyStartsWithFiles c.args.text.now (files_of c.files.files.items ++ file_of c.in_ok-file.file ∷ []) (drop n rest) =
    push_file c.args.text.now c.files.rest.now (files_of c.files.files.items) h (file_of c.in_ok-file.file)
    c.files.invariant c.in-Some-read_header.ensures known in
    let here : BodyStartsWithFiles c.args.text.now (files_of c.push.new.self.items) (drop n rest) =
    subst (λ fs. BodyStartsWithFiles c.args.text.now fs (drop n rest)) (sym files) next in
    subst (λ r. BodyStartsWithFiles c.args.text.now (files_of c.push.new.self.items) r) (sym left) here
