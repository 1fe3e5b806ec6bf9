-- The plain data of values as they are made.
use Rattle.std.proofs.Common.{◌≡◌, ℕ, ℤ, Bool, List, refl}
use Rattle.bx_tree.specs.Paths.{Atoms}
use Rattle.bx_tree.specs.declared.file_input.FileInput.{FileInput}
use Rattle.dscript_value.specs.declared.parts.StaticDir.{StaticDir}
use Rattle.dscript_value.specs.declared.parts.Artifact.{Artifact as AnyArtifact}
use Rattle.dscript_value.specs.declared.parts.ArgumentParts.{ArgumentParts as AnyArgument}
use Rattle.dscript_value.specs.declared.value.Value.TheVariants as values
use Rattle.dscript_value.specs.Plain as plain
use Rattle.dscript_value.specs.Plain.{plain_of}

pub plain-Undefined : plain_of values.Undefined ≡ plain.Undefined
plain-Undefined = refl

pub plain-Flag : (x : Bool) → plain_of (values.Flag x) ≡ plain.Flag x
plain-Flag x = refl

pub plain-Number : (x : ℤ) → plain_of (values.Number x) ≡ plain.Number x
plain-Number x = refl

pub plain-Text : (x : List ℕ) → plain_of (values.Text x) ≡ plain.Text x
plain-Text x = refl

pub plain-Path : (x : Atoms) → plain_of (values.Path x) ≡ plain.Path x
plain-Path x = refl

pub plain-File : (x : FileInput) → plain_of (values.File x) ≡ plain.File x
plain-File x = refl

pub plain-Directory : (x : Atoms) → plain_of (values.Directory x) ≡ plain.Directory x
plain-Directory x = refl

pub plain-Atom : (x : List ℕ) → plain_of (values.Atom x) ≡ plain.Atom x
plain-Atom x = refl

pub plain-Static : (x : StaticDir) → plain_of (values.Static x) ≡ plain.Static x
plain-Static x = refl

pub plain-Process : (x : ℕ) → plain_of (values.Process x) ≡ plain.Process x
plain-Process x = refl

pub plain-Artifact : (x : AnyArtifact) → plain_of (values.Artifact x) ≡ plain.Artifact x
plain-Artifact x = refl

pub plain-Argument : (x : AnyArgument) → plain_of (values.Argument x) ≡ plain.Argument x
plain-Argument x = refl

pub ruleset plain_views = (plain-Undefined, plain-Flag, plain-Number, plain-Text, plain-Path, plain-File, plain-Directory, plain-Atom, plain-Static, plain-Process, plain-Artifact, plain-Argument)
