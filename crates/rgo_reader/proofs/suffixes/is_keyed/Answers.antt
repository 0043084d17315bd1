use Rattle.std.proofs.Common.{arith}
use Rattle.rgo_reader.proofs.suffixes.is_keyed.Goals as goal

pub returns-in_default : goal.returns-in_default
returns-in_default c = grind arith

pub returns-in_default-2 : goal.returns-in_default-2
returns-in_default-2 c = grind arith

pub returns-else-stands_as : goal.returns-else-stands_as
returns-else-stands_as c = grind arith

pub returns-then-stands_as : goal.returns-then-stands_as
returns-then-stands_as c = grind arith
