-- The loop invariant of reading a bundle, and what reading answers for each part of it.
use Rattle.std.specs.Prelude.{◌≡◌, ◌≢◌, ℕ, ◌<◌, ◌≤◌, List, ◌++◌, length, codes}
use Rattle.std.specs.Str.Parse.{digits_value}
use Rattle.bx_tree.specs.Paths.{Atoms, Names}
use Rattle.bx_tree.specs.Trees.{Files, IsTree}
use Rattle.bx_tree.specs.Bundle.{Header, ComesAfterAll, HasNoAncestor, IsInSize}
use Rattle.bx_tree.specs.Bundle.{HeaderFault, RestFault, body_text}
use Rattle.bx_tree.specs.declared.limits.TheConstants.{MAX_FILE_BYTES, MAX_FILES}
use Rattle.bx_tree.specs.declared.bundle.BundleFault.{BundleFault}
use Rattle.bx_tree.specs.declared.bundle.BundleFault.TheVariants.{Memory}

-- the header has no fault after these files, and announces this file, whose bytes follow it
pub record Announces (before : Files) (h : Header) (file : Atoms × List ℕ) : Type 0 where
  pub in_size : digits_value 10 h.digits ≤ MAX_FILE_BYTES
  pub count : length before < MAX_FILES
  pub names : Names h.path file.0
  pub after : ComesAfterAll before h.path
  pub no_ancestor : HasNoAncestor before h.path
  pub size : length file.1 ≡ digits_value 10 h.digits
  pub bytes : (more : List ℕ) × (h.rest ≡ file.1 ++ codes "\n" ++ more)

-- the text starts with the texts of these files, which are a tree within the limits
pub record BodyStartsWithFiles (text : List ℕ) (before : Files) (rest : List ℕ) : Type 0 where
  pub tree : IsTree before
  pub in_size : IsInSize before
  pub text_is : text ≡ body_text before ++ rest

-- the text is the texts of these files, which are a tree within the limits, and the end
pub record IsBody (text : List ℕ) (files : Files) : Type 0 where
  pub tree : IsTree files
  pub in_size : IsInSize files
  pub text_is : text ≡ body_text files ++ codes "end\n"

-- the first fault of the text after the first line
abbrev pub BodyFaults : List ℕ → BundleFault → Type 0
BodyFaults text fault =
    (before : Files) × (rest : List ℕ) × BodyStartsWithFiles text before rest × RestFault before rest fault

-- ## Answers

-- the fault is out of memory, or the first fault of the header
abbrev pub IsFirstHeaderFault : Files → Header → BundleFault → Type 0
IsFirstHeaderFault before h fault = fault ≢ Memory → HeaderFault before h fault

-- the fault is out of memory, or the first fault of the text after the first line
abbrev pub IsFirstBodyFault : List ℕ → BundleFault → Type 0
IsFirstBodyFault text fault = fault ≢ Memory → BodyFaults text fault
