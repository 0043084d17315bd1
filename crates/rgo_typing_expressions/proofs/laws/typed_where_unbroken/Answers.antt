use Rattle.rgo_typing_expressions.proofs.Typed.{typed_where_unbroken, typed_parts}
use Rattle.rgo_typing_expressions.proofs.laws.typed_where_unbroken.Goals as goal

pub returns : goal.returns
returns c = record { whole = typed_where_unbroken; parts = typed_parts }
