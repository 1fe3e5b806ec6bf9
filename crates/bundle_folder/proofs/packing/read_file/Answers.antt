use Rattle.std.proofs.Common.{subst, sym}
use Rattle.bundle_folder.specs.Steps.{IsFileIn}
use Rattle.bundle_folder.proofs.Held.{large_file}
use Rattle.bundle_folder.proofs.packing.read_file.Goals as goal

pub returns-in_ok-share-in-Err-TooLarge-clause-fault : goal.returns-in_ok-share-in-Err-TooLarge-clause-fault
returns-in_ok-share-in-Err-TooLarge-clause-fault g c nodes e left_out is =
    large_file left_out nodes c.args.path.now c.in_ok-share-in-Err-TooLarge.field-0 c.in_ok-share-in-Err-TooLarge.ensures
    (c.read.ensures.too_large (cc) nodes e) is

pub returns-in_ok-share-in-Err-Failed-clause-fault : goal.returns-in_ok-share-in-Err-Failed-clause-fault
returns-in_ok-share-in-Err-Failed-clause-fault g c nodes e left_out is =
    subst (λ p. IsFileIn left_out nodes p) (sym c.in_ok-share-in-Err-Failed.ensures) is
