-- The bytes that a print writes for a value. The typing rules allow integers and truth values alone; strings are pieces of the print.
use Rattle.std.specs.Prelude.{ℕ, true, false, List, [], codes}
use Rattle.std.specs.Fmt.{signed_decimal}
use Rattle.rgo_memory.specs.declared.values.Value.{Value}
use Rattle.rgo_memory.specs.declared.values.Value.TheVariants as value

-- an int in decimal, with its sign if it is negative; `true` or `false`; no bytes for nil and for objects
abbrev pub shown : Value → List ℕ
shown (value.Int n) = signed_decimal n
shown (value.Bool true) = codes "true"
shown (value.Bool false) = codes "false"
shown _ = []
