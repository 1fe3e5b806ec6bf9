-- What a lookup of a worker comes to.
use Rattle.std.specs.Prelude.{IfSome}
use Rattle.pip_model_types.specs.declared.desc.Desc.{Desc}
use Rattle.memo_format.specs.Found.{IsFoundFor}
use Rattle.run_record.specs.Digests.{IsWeakOf}
use Rattle.worker.specs.declared.showing.Looked.{Looked}
use Rattle.worker.specs.declared.showing.Looked.TheVariants as looked

-- What was found is for the process, and the weak text is that of the process.
abbrev pub IsLooked : Desc → Looked → Type 0
IsLooked d (looked.Hit found) = IsFoundFor found d
IsLooked d (looked.Nothing weak) = IfSome weak (IsWeakOf d)
