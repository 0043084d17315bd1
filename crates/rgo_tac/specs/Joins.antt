-- Which variables instructions force into one region: what one of them points to may be reached from the other. A region is removed as a
-- whole, so if the two were in different regions, one could be removed while the other still leads into it.
use Rattle.std.specs.Prelude.{ℕ, Bool, true, false, ◌&&◌, List, [], ◌∷◌, Option, Some, None, slice_get, if◌then◌else◌}
use Rattle.rgo_typed.specs.declared.actions.Action.{Action}
use Rattle.rgo_typed.specs.declared.actions.Action.TheVariants as the_action
use Rattle.rgo_typed.specs.declared.types.Type.{«Type»}
use Rattle.rgo_typed.specs.Types.{is_pointer_like}
use Rattle.rgo_tac.specs.declared.regions.Member.{Member}
use Rattle.rgo_tac.specs.declared.regions.Member.TheVariants.{Variable, Result, Global}
use Rattle.rgo_tac.specs.Code.{Op, Do, Call, Go, Print, Jump, Branch, Return, TacFn}

-- whether a type that was looked up is one of pointers, slices or channels; false if there is none
abbrev pub is_pointer_like_type : Option «Type» → Bool
is_pointer_like_type None = false
is_pointer_like_type (Some ty) = is_pointer_like ty

-- Pointers, slices and channels. All package variables together count as one, since any function may store into any of them.
abbrev pub is_pointer_like_member : TacFn → Member → Bool
is_pointer_like_member f (Variable n) = is_pointer_like_type (slice_get f.variables n)
is_pointer_like_member f Result = is_pointer_like_type f.result_type
is_pointer_like_member f Global = true

-- variables a and b are the two that are joined
abbrev pub joined_variables : (a b : ℕ) → Option (Member × Member)
joined_variables a b = Some (Variable a, Variable b)

-- The two that an action joins: a copy and its original; or what is read or written and the object that contains it, with Global as the
-- container of all package variables. All other actions, and any with a wrong number of operands, join nothing.
abbrev pub action_joins : Action → (to : Option ℕ) → (from : List ℕ) → Option (Member × Member)
action_joins the_action.Copy (Some d) (a ∷ []) = joined_variables d a
action_joins (the_action.Load k) (Some d) (a ∷ []) = joined_variables d a
action_joins (the_action.Store k) to (a ∷ b ∷ []) = joined_variables a b
action_joins the_action.At (Some d) (a ∷ i ∷ []) = joined_variables d a
action_joins the_action.Put to (a ∷ i ∷ b ∷ []) = joined_variables a b
action_joins the_action.Recv (Some d) (c ∷ []) = joined_variables d c
action_joins the_action.Send to (c ∷ a ∷ []) = joined_variables c a
action_joins (the_action.Get g) (Some d) [] = Some (Variable d, Global)
action_joins (the_action.Set g) to (a ∷ []) = Some (Variable a, Global)
action_joins (the_action.Int k) to from = None
action_joins (the_action.Bool b) to from = None
action_joins the_action.Nil to from = None
action_joins the_action.Copy to from = None
action_joins (the_action.Binary op) to from = None
action_joins the_action.Neg to from = None
action_joins the_action.Not to from = None
action_joins the_action.IsNil to from = None
action_joins the_action.Len to from = None
action_joins (the_action.Load k) to from = None
action_joins (the_action.Store k) to from = None
action_joins the_action.At to from = None
action_joins the_action.Put to from = None
action_joins (the_action.New s) to from = None
action_joins the_action.Slice to from = None
action_joins the_action.Chan to from = None
action_joins the_action.Recv to from = None
action_joins the_action.Send to from = None
action_joins the_action.Close to from = None
action_joins (the_action.Get n) to from = None
action_joins (the_action.Set n) to from = None

-- a call joins what the summary of its callee says, and none by itself: what it joins depends on another function
abbrev pub op_joins : Op → Option (Member × Member)
op_joins (Do to action from) = action_joins action to from
op_joins (Return (Some a)) = Some (Variable a, Result)
op_joins (Call to function from) = None
op_joins (Go function from) = None
op_joins (Print pieces from) = None
op_joins (Jump target) = None
op_joins (Branch test target other) = None
op_joins (Return None) = None

-- the two, if both are pointer-like in f
abbrev pub if_pointer_like : TacFn → Option (Member × Member) → Option (Member × Member)
if_pointer_like f None = None
if_pointer_like f (Some p) = if is_pointer_like_member f p.0 && is_pointer_like_member f p.1 then Some p else None

-- The two that an instruction of a function joins, if both are pointer-like: a load of an int joins nothing.
abbrev pub joins : TacFn → Op → Option (Member × Member)
joins f op = if_pointer_like f (op_joins op)
