-- Bundles: the one text of a tree, and the first fault of a text that is no bundle.
use Rattle.std.specs.Prelude.{◌≡◌, ◌≢◌, ℕ, ◌<◌, ◌≤◌, List, [], ◌∷◌, ◌++◌, length, codes, ◌⊎◌}
use Rattle.std.specs.List.{AllByRecursion, flat_map}
use Rattle.std.specs.Cmp.Lexicographic.{slice_cmp}
use Rattle.std.specs.Ordering.{nat_cmp}
use Rattle.std.specs.Fmt.{decimal}
use Rattle.std.specs.Str.Parse.{AllDigits, digits_value}
use Rattle.std.specs.declared.cmp.Ordering.TheVariants.{Less}
use Rattle.bx_tree.specs.Paths.{Atoms, path_text, IsPathText}
use Rattle.bx_tree.specs.Trees.{Files, IsTree}
use Rattle.bx_tree.specs.declared.limits.TheConstants.{MAX_BUNDLE_BYTES, MAX_FILE_BYTES, MAX_FILES}
use Rattle.bx_tree.specs.declared.bundle.BundleFault.{BundleFault}
use Rattle.bx_tree.specs.declared.bundle.BundleFault.TheVariants.{BadBundle, BadPath, Unordered}
use Rattle.bx_tree.specs.declared.bundle.BundleFault.TheVariants.{Nested, TooManyFiles, TooLarge, Memory}

-- ## The text of a tree

-- one file: a header with its length and its path, its bytes, and a newline
abbrev pub file_text : Atoms × List ℕ → List ℕ
file_text f =
    codes "file " ++ decimal (length f.1) ++ codes " " ++ path_text f.0 ++ codes "\n" ++ f.1 ++ codes "\n"

-- the texts of the files, one after the other
abbrev pub body_text : Files → List ℕ
body_text files = flat_map file_text files

-- the first line, the files, and the end
abbrev pub bundle : Files → List ℕ
bundle files = codes "bundle 1\n" ++ body_text files ++ codes "end\n"

-- a bundle may have this many files, and files of these lengths
pub record IsInSize (files : Files) : Type 0 where
  pub count : length files ≤ MAX_FILES
  pub sizes : AllByRecursion (λ f. length f.1 ≤ MAX_FILE_BYTES) files

-- the text is the bundle of this tree, and keeps within the limits
pub record IsBundle (text : List ℕ) (files : Files) : Type 0 where
  pub tree : IsTree files
  pub in_size : IsInSize files
  pub whole : length text ≤ MAX_BUNDLE_BYTES
  pub text_is : text ≡ bundle files

-- ## The first fault of a text

-- the digits of the length and the path of a complete header, and the text after it
pub record Header : Type 0 where
  pub digits : List ℕ
  pub path : List ℕ
  pub rest : List ℕ

-- a length: `0`, or digits without a leading zero, of any number
pub record IsLength (text : List ℕ) : Type 0 where
  pub some : text ≢ []
  pub digits : AllDigits 10 text
  pub no_zero : (more : List ℕ) → text ≡ 48 ∷ more → more ≡ []

-- the text of a header: `file `, its digits, a space, its path and a newline
abbrev pub header_text : Header → List ℕ
header_text h = codes "file " ++ h.digits ++ codes " " ++ h.path ++ codes "\n"

-- the text starts with a complete header, which has a length and, as its path, bytes without a newline
pub record StartsWithHeader (text : List ℕ) (h : Header) : Type 0 where
  pub length_is : IsLength h.digits
  pub one_line : AllByRecursion (λ b. b ≢ 10) h.path
  pub text_is : text ≡ header_text h ++ h.rest

-- either the condition fails and this fault is the answer, or it holds and the next condition decides
abbrev pub Unless : (condition : Type 0) → (fault answer : BundleFault) → (next : Type 0) → Type 0
Unless condition fault answer next = ((¬ condition) × (answer ≡ fault)) ⊎ (condition × next)

-- the text of the path comes after those of all earlier files
abbrev pub ComesAfterAll : Files → List ℕ → Type 0
ComesAfterAll before text = AllByRecursion (λ f. slice_cmp nat_cmp (path_text f.0) text ≡ Less) before

-- no earlier file is a directory of the path: the path's text starts with no earlier path and a `/`
abbrev pub HasNoAncestor : Files → List ℕ → Type 0
HasNoAncestor before text =
    AllByRecursion (λ f. (rest : List ℕ) → text ≡ path_text f.0 ++ 47 ∷ rest → ⊥) before

-- as many bytes as the header announces, and a newline, follow it
abbrev pub HasBytes : Header → Type 0
HasBytes h =
    (bytes more : List ℕ) × (length bytes ≡ digits_value 10 h.digits) × (h.rest ≡ bytes ++ codes "\n" ++ more)

-- the first fault of a complete header after these files
abbrev pub HeaderFault : Files → Header → BundleFault → Type 0
HeaderFault before h answer =
    Unless (digits_value 10 h.digits ≤ MAX_FILE_BYTES) TooLarge answer
    (Unless (length before < MAX_FILES) TooManyFiles answer
    (Unless (IsPathText h.path) BadPath answer
    (Unless (ComesAfterAll before h.path) Unordered answer
    (Unless (HasNoAncestor before h.path) Nested answer
    (Unless (HasBytes h) BadBundle answer ⊥)))))

-- The first fault of the text after these files: it starts with neither an end nor a complete header, or
-- bytes follow the end, or the header has a fault.
abbrev pub RestFault : Files → List ℕ → BundleFault → Type 0
RestFault before text answer =
    (((more : List ℕ) → text ≡ codes "end\n" ++ more → ⊥) × ((h : Header) → StartsWithHeader text h → ⊥)
    × (answer ≡ BadBundle))
    ⊎ ((more : List ℕ) × (more ≢ []) × (text ≡ codes "end\n" ++ more) × (answer ≡ BadBundle))
    ⊎ ((h : Header) × StartsWithHeader text h × HeaderFault before h answer)

-- the text starts with the first line and the texts of these files, which are a tree within the limits
pub record StartsWithFiles (text : List ℕ) (before : Files) (rest : List ℕ) : Type 0 where
  pub tree : IsTree before
  pub in_size : IsInSize before
  pub text_is : text ≡ codes "bundle 1\n" ++ body_text before ++ rest

-- The first fault of a whole text: its length is checked first, then its first line, and then the text after
-- files that are in order.
abbrev pub Faults : List ℕ → BundleFault → Type 0
Faults text answer =
    Unless (length text ≤ MAX_BUNDLE_BYTES) TooLarge answer
    (Unless ((rest : List ℕ) × (text ≡ codes "bundle 1\n" ++ rest)) BadBundle answer
    ((before : Files) × (rest : List ℕ) × StartsWithFiles text before rest × RestFault before rest answer))

-- the text is the bundle of a tree, or has a fault, which is not out of memory
abbrev pub HasReading : List ℕ → Type 0
HasReading text =
    ((files : Files) × IsBundle text files) ⊎ ((fault : BundleFault) × (fault ≢ Memory) × Faults text fault)
