-- Faults of operators, calls and members as the machine's.
use Rattle.std.specs.Prelude.{ℕ, Some, None}
use Rattle.dscript_sdk_values.specs.declared.fault.SdkFault.{SdkFault}
use Rattle.dscript_sdk_values.specs.declared.fault.SdkFault.TheVariants as sdk_faults
use Rattle.dscript_eval_meaning.specs.declared.fault.EvalKind.TheVariants as kinds
use Rattle.dscript_eval_frames.specs.declared.stop.Stop.{Stop}
use Rattle.dscript_eval_frames.specs.declared.stop.Stop.TheVariants as stops

-- a fault in a file
abbrev pub stop_in : ℕ → SdkFault → Stop
stop_in file sdk_faults.Kind = stops.Fault kinds.Kind file None
stop_in file sdk_faults.Missing = stops.Fault kinds.Missing file None
stop_in file sdk_faults.Range = stops.Fault kinds.Range file None
stop_in file sdk_faults.BadPath = stops.Fault kinds.BadPath file None
stop_in file sdk_faults.BadArgument = stops.Fault kinds.BadArgument file None
stop_in file (sdk_faults.User message) = stops.Fault kinds.User file (Some message)
stop_in file sdk_faults.Memory = stops.Memory
