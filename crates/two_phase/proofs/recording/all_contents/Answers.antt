use Rattle.std.proofs.Common.{◌++◌, ◌∙◌, ap, refl}
use Rattle.bx_tree.specs.Trees.{Files}
use Rattle.run_record.specs.Collisions.{contents_of}
use Rattle.two_phase_meaning.specs.Contents.{given_contents}
use Rattle.two_phase.proofs.Recorded.{all_joined}
use Rattle.two_phase.proofs.recording.all_contents.Goals as goal

pub returns : goal.returns
returns c =
    all_joined c.new-contents.result.items c.add.new.contents.items c.add_files.new.contents.items c.add_answers.new.contents.items c.add_files-2.new.contents.items
    c.args.desc.now.exe c.args.desc.now.exe (contents_of c.args.desc.now.files) (given_contents c.args.answers.now) (contents_of c.args.made.now)
    c.new-contents.ensures.items c.in_ok-add.ensures refl
    (c.in_ok-add_files.ensures ∙ ap (λ (fs : Files). c.add.new.contents.items ++ contents_of fs) c.files.ensures.files)
    c.in_ok-add_answers.ensures
    (c.in_ok-add_files-2.ensures ∙ ap (λ (fs : Files). c.add_answers.new.contents.items ++ contents_of fs) c.files-2.ensures.files)
