use Rattle.std.proofs.Common.{ℕ, ◌++◌, ◌∷◌, [], List, ap, append-nil, map, sym, ◌∙◌}
use Rattle.std.proofs.lemmas.List.{take_all}
use Rattle.bx_tree.specs.Paths.{Atoms}
use Rattle.bx_tree.specs.declared.file_input.FileInput.{FileInput}
use Rattle.pip_model.specs.Listings.{listing}
use Rattle.pip_model.specs.declared.listings.Listing.{Listing}
use Rattle.pip_model.proofs.Listed.{map_more}
use Rattle.pip_model.proofs.listings.add_files.Goals as goal

abbrev listed : List Listing → ℕ → Atoms → List Listing
listed found seal path = found ++ record { path = path; seal = seal } ∷ []

pub files-init : goal.files-init
files-init c = sym (append-nil c.args.found.now.items)

pub files-preserved : goal.files-preserved
files-preserved c =
    map_more (listing c.args.seal) c.args.files.now c.files.file-index c.file-item.result c.args.found.now.items c.files.found.items c.push.new.self.items
    c.files-test.true c.file-item.is
    (c.in_ok-push.ensures.items ∙ ap (listed c.files.found.items c.args.seal) (c.in_ok-path.ensures ∙ c.path.ensures)) c.files.invariant

pub returns : goal.returns
returns c =
    c.files.invariant
    ∙ ap (λ (fs : List FileInput). c.args.found.now.items ++ map (listing c.args.seal) fs) (take_all c.files.file-index c.args.files.now c.files-test.false)
