-- How the bytes of a sink or a source change.
use Rattle.std.specs.Prelude.{◌≡◌, ◌⊎◌, ◌<◌, ℕ, true, List, ◌++◌, drop, length, Option, Some, IsSome}
use Rattle.bx_io.specs.Told.{Moves}
use Rattle.bx_tree.specs.declared.limits.TheConstants.{MAX_BUNDLE_BYTES}
use Rattle.bx_engine.specs.Calls.{Given}
use Rattle.bx_engine.specs.declared.limits.TheConstants.{READ_LIMIT}

-- ## Sinks

-- the bytes that a sink took grow by these
abbrev pub Appends : List ℕ → List ℕ → List ℕ → Type 0
Appends before now bytes = now ≡ before ++ bytes

-- the bytes that a sink took grow by a prefix of these, which may be empty or all of them
abbrev pub AppendsPrefix : List ℕ → List ℕ → List ℕ → Type 0
AppendsPrefix before now bytes = (prefix rest : List ℕ) × (bytes ≡ prefix ++ rest) × Appends before now prefix

-- ## Sources

-- a piece of this many bytes was moved from a source to the end of a buffer
abbrev pub MovesPiece : List ℕ → List ℕ → Option (List ℕ) → Option (List ℕ) → List ℕ → List ℕ → ℕ → Type 0
MovesPiece given now_given left now_left held more count =
    (piece : List ℕ) × (now_given ≡ given ++ piece) × Moves left now_left piece × (more ≡ held ++ piece)
    × (length piece ≡ count)

-- A piece was given, and what is still told to be left is what was left without it.
pub record GivesPiece (source : Given) : Type 0 where
  pub piece : List ℕ
  pub gave : source.now ≡ source.before ++ piece
  pub moved : Moves source.left_before source.left_now piece

-- This is the input of a call: what the source gave in it; or, where the source told it to the end, all that it
-- had left.
abbrev pub IsInput : Given → List ℕ → Type 0
IsInput source input =
    (source.now ≡ source.before ++ input) ⊎ ((source.left_before ≡ Some input) × IsSome source.left_now)

-- The source was read to its end, or to one byte past the limit.
pub record IsReadOut (source : Given) : Type 0 where
  pub input : List ℕ
  pub gave : source.now ≡ source.before ++ input
  pub out : (source.ended ≡ true) ⊎ (length input ≡ READ_LIMIT)

-- Where the source told this input to the end, what is past the limit is left of it.
abbrev pub LeavesRest : Given → Type 0
LeavesRest source =
    (input : List ℕ) → source.left_before ≡ Some input → IsSome source.left_now
    → source.left_now ≡ Some (drop READ_LIMIT input)

-- ## What was read of an input

-- the input is longer than an input may be
abbrev pub IsLong : List ℕ → Type 0
IsLong input = MAX_BUNDLE_BYTES < length input

-- these bytes were read of an input: they are all of it, or both are too long
pub record ReadOf (input bytes : List ℕ) : Type 0 where
  pub whole : (bytes ≡ input) ⊎ (IsLong bytes × IsLong input)
