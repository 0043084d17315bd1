-- What each action does, by how many operands it has. Receive, send and close do nothing here: they may wait, or let others continue, so
-- machines treat them apart (see Channels). Each definition names all actions, so that a new one cannot be forgotten.
use Rattle.std.specs.Prelude.{ℕ, List, [], ◌∷◌, slice_get, slice_set}
use Rattle.rgo_typed.specs.declared.types.Type.{«Type»}
use Rattle.rgo_typed.specs.declared.programs.Struct.{Struct}
use Rattle.rgo_typed.specs.declared.actions.Action.{Action}
use Rattle.rgo_typed.specs.declared.actions.Action.TheVariants as action
use Rattle.rgo_memory.specs.declared.values.Value.{Value}
use Rattle.rgo_memory.specs.declared.values.Value.TheVariants as value
use Rattle.rgo_memory.specs.Operators.{binary_of, negated_value, inverted, nil_test}
use Rattle.rgo_memory.specs.Memory.{Memory}
use Rattle.rgo_memory.specs.Effects.{Does, Effect, nothing, answered}
use Rattle.rgo_memory.specs.Fields.{or_nil, load, store}
use Rattle.rgo_memory.specs.Elements.{element_at, length_of, put}
use Rattle.rgo_memory.specs.Making.{new_struct, new_slice, new_channel}

-- the package variable of number n is assigned v
abbrev pub set_variable : ℕ → Value → Memory → Effect
set_variable n v m = Does (record m { variables = slice_set m.variables n v }) value.Nil

-- without operands
abbrev pub on_none : List Struct → Action → Memory → Effect
on_none structs (action.Int k) m = Does m (value.Int k)
on_none structs (action.Bool b) m = Does m (value.Bool b)
on_none structs action.Nil m = Does m value.Nil
on_none structs (action.New n) m = new_struct structs n m
on_none structs (action.Get n) m = Does m (or_nil (slice_get m.variables n))
on_none structs action.Copy m = nothing m
on_none structs (action.Binary op) m = nothing m
on_none structs action.Neg m = nothing m
on_none structs action.Not m = nothing m
on_none structs action.IsNil m = nothing m
on_none structs action.Len m = nothing m
on_none structs (action.Load k) m = nothing m
on_none structs (action.Store k) m = nothing m
on_none structs action.At m = nothing m
on_none structs action.Put m = nothing m
on_none structs action.Slice m = nothing m
on_none structs action.Chan m = nothing m
on_none structs action.Recv m = nothing m
on_none structs action.Send m = nothing m
on_none structs action.Close m = nothing m
on_none structs (action.Set n) m = nothing m

-- with one operand
abbrev pub on_one : Action → «Type» → Value → Memory → Effect
on_one action.Copy ty v m = Does m v
on_one action.Neg ty v m = Does m (negated_value v)
on_one action.Not ty v m = Does m (inverted v)
on_one action.IsNil ty v m = Does m (nil_test v)
on_one action.Len ty v m = Does m (length_of m v)
on_one (action.Load k) ty v m = answered m (load m v k)
on_one action.Slice ty v m = new_slice ty v m
on_one action.Chan ty v m = new_channel v m
on_one (action.Set n) ty v m = set_variable n v m
on_one (action.Int k) ty v m = nothing m
on_one (action.Bool b) ty v m = nothing m
on_one action.Nil ty v m = nothing m
on_one (action.Binary op) ty v m = nothing m
on_one (action.Store k) ty v m = nothing m
on_one action.At ty v m = nothing m
on_one action.Put ty v m = nothing m
on_one (action.New n) ty v m = nothing m
on_one action.Recv ty v m = nothing m
on_one action.Send ty v m = nothing m
on_one action.Close ty v m = nothing m
on_one (action.Get n) ty v m = nothing m

-- with two
abbrev pub on_two : Action → Value → Value → Memory → Effect
on_two (action.Binary op) v w m = answered m (binary_of op v w)
on_two (action.Store k) v w m = store m v k w
on_two action.At v w m = answered m (element_at m v w)
on_two (action.Int k) v w m = nothing m
on_two (action.Bool b) v w m = nothing m
on_two action.Nil v w m = nothing m
on_two action.Copy v w m = nothing m
on_two action.Neg v w m = nothing m
on_two action.Not v w m = nothing m
on_two action.IsNil v w m = nothing m
on_two action.Len v w m = nothing m
on_two (action.Load k) v w m = nothing m
on_two action.Put v w m = nothing m
on_two (action.New n) v w m = nothing m
on_two action.Slice v w m = nothing m
on_two action.Chan v w m = nothing m
on_two action.Recv v w m = nothing m
on_two action.Send v w m = nothing m
on_two action.Close v w m = nothing m
on_two (action.Get n) v w m = nothing m
on_two (action.Set n) v w m = nothing m

-- with three
abbrev pub on_three : Action → Value → Value → Value → Memory → Effect
on_three action.Put u v w m = put m u v w
on_three (action.Int k) u v w m = nothing m
on_three (action.Bool b) u v w m = nothing m
on_three action.Nil u v w m = nothing m
on_three action.Copy u v w m = nothing m
on_three (action.Binary op) u v w m = nothing m
on_three action.Neg u v w m = nothing m
on_three action.Not u v w m = nothing m
on_three action.IsNil u v w m = nothing m
on_three action.Len u v w m = nothing m
on_three (action.Load k) u v w m = nothing m
on_three (action.Store k) u v w m = nothing m
on_three action.At u v w m = nothing m
on_three (action.New n) u v w m = nothing m
on_three action.Slice u v w m = nothing m
on_three action.Chan u v w m = nothing m
on_three action.Recv u v w m = nothing m
on_three action.Send u v w m = nothing m
on_three action.Close u v w m = nothing m
on_three (action.Get n) u v w m = nothing m
on_three (action.Set n) u v w m = nothing m

-- what an action does with these operands; ty is the type of its value, which only a new slice looks at, for its zeros
abbrev pub perform : List Struct → Action → «Type» → List Value → Memory → Effect
perform structs a ty [] m = on_none structs a m
perform structs a ty (v ∷ []) m = on_one a ty v m
perform structs a ty (v ∷ w ∷ []) m = on_two a v w m
perform structs a ty (u ∷ v ∷ w ∷ []) m = on_three a u v w m
perform structs a ty _ m = nothing m
