use Rattle.std.proofs.Common.{◌≡◌, ◌<◌, ◌⊎◌, take}
use Rattle.std.specs.Str.Parse.{digits_value}
use Rattle.tool_text.proofs.bytes.value_below.Given as goal

abbrev pub invariant-digits : goal.invariant-digits
invariant-digits l = record {
  value_is : l.value ≡ digits_value 10 (take l.byte-index l.digits);
  below : (l.value < l.limit) ⊎ (l.value ≡ 0);
}
