use Rattle.std.proofs.Common.{◌∙◌, List, subst, sym}
use Rattle.std.proofs.lemmas.Result.{MatchResult-weaker, err_from_is_err_and}
use Rattle.bundle_folder.specs.Answers.{ListsNodes}
use Rattle.bundle_folder.specs.Folders.{Known}
use Rattle.bundle_folder.specs.Steps.{ArePathsOf, AreRead}
use Rattle.bundle_folder.specs.declared.folder.Entry.{Entry}
use Rattle.bx_tree.specs.Paths.{Atoms}
use Rattle.bundle_folder.proofs.Held.{has_no_text, in_size_read, is_pack}
use Rattle.bundle_folder.proofs.packing.pack.Goals as goal
use Rattle.bx_tree.specs.Lent.{texts_now}

pub returns-in_err-files-clause-packed : goal.returns-in_err-files-clause-packed
returns-in_err-files-clause-packed g c =
    let p = err_from_is_err_and c.from_residual-in_err-files.result c.from_residual-in_err-files.ensures.1 in
    let left = texts_now c.args.left_out.now in
    rw (p.1, p.2) (λ nodes e.
    c.in_err-files.ensures.fault nodes (c.in_ok-entries.ensures.same ∙ e) left
    (subst (λ (ps : List Atoms). ArePathsOf left nodes ps) (sym c.deref-2.ensures.value)
    (c.in_ok-paths.ensures.paths left nodes
    (subst (λ (es : List Entry). ListsNodes left nodes es) (sym c.deref.ensures.value) (c.in_ok-entries.ensures.listed nodes e)))))

pub text_of-requires : goal.text_of-requires
text_of-requires g c =
    in_size_read c.in_ok-files.files.items c.in_ok-paths.paths.items (c.in_ok-files.ensures.paths ∙ c.deref-2.ensures.value)
    c.in_ok-paths.ensures.count c.in_ok-files.ensures.sizes

pub returns-clause-packed : goal.returns-clause-packed
returns-clause-packed g c =
    let left = texts_now c.args.left_out.now in
    let holds = g.F.Folder.holds c.args.folder.now in
    let paths = c.in_ok-paths.paths.items in
    let files = c.in_ok-files.files.items in
    let are : Known holds (λ nodes. ArePathsOf left nodes paths) =
    λ nodes e. c.in_ok-paths.ensures.paths left nodes
    (subst (λ (es : List Entry). ListsNodes left nodes es) (sym c.deref.ensures.value) (c.in_ok-entries.ensures.listed nodes e)) in
    let read : Known holds (λ nodes. AreRead nodes files) =
    λ nodes e. c.in_ok-files.ensures.held nodes (c.in_ok-entries.ensures.same ∙ e) in
    let same = c.in_ok-files.ensures.paths ∙ c.deref-2.ensures.value in
    MatchResult-weaker c.text_of.result c.text_of.ensures
    (λ text h. is_pack left holds paths files text.items c.in_ok-entries.ensures.folder are same read h)
    (λ fault h. has_no_text left holds paths files fault c.in_ok-entries.ensures.folder are same read h)
