-- What is joined at first: what the instructions of each function join, with nodes for the callees of its calls.
use Rattle.std.specs.Prelude.{◌≡◌, ◌≢◌, ◌⊎◌, ◌<◌, ◌+◌, ℕ, List, [], ◌∷◌, ◌++◌, Vec, Option, Some, None, length, slice_get, Contains}
use Rattle.std.specs.Global.{Global}
use Rattle.rgo_tac.specs.declared.regions.Member.{Member}
use Rattle.rgo_tac.specs.Code.{Instr, TacFn, Tac}
use Rattle.rgo_tac.specs.Joins.{joins}
use Rattle.rgo_classes.specs.Joins.{IsPointerLike}
use Rattle.rgo_classes.specs.Labels.{member_index}
use Rattle.rgo_classes.specs.Same.{AreSame}
use Rattle.rgo_summaries.specs.declared.beginning.Calling.{Calling}
use Rattle.rgo_summaries.specs.declared.nodes.Nodes.{Nodes}
use Rattle.rgo_summaries.specs.declared.progress.Progress.{Progress}
use Rattle.rgo_summaries.specs.declared.progress.Site.{Site}
use Rattle.rgo_summaries.specs.Calls.{CallParts, call_and_callee_at, passed_member}
use Rattle.rgo_summaries.specs.Joining.{AreJoinedNodes, size_of}
use Rattle.rgo_summaries.specs.Kinds.{call_kinds, kinds_of, kinds_to, width_of}
use Rattle.rgo_summaries.specs.Nodes.{JoinsAtFirst, IsOuter}
use Rattle.rgo_summaries.specs.Progress.{JoinedOrToJoin, SameIn, size_in, width_in}
use Rattle.rgo_summaries.specs.Views.{parts_of_call, call_sites_of}

-- a node for each member of a function, each by itself
pub record AreOwn (f : TacFn) (n : Nodes) : Type 0 where
  pub size : size_of n ≡ length f.variables + 2
  pub width : n.width ≡ width_of f
  pub alone : (x y : ℕ) → AreJoinedNodes n x y → x ≡ y

-- ---- what one instruction joins, as numbers of nodes

-- what an instruction that is not a call joins
abbrev pub own_in : TacFn → Option Instr → Option (Member × Member)
own_in f None = None
own_in f (Some instr) = joins f instr.op

-- the instruction at this place joins nodes x and y, which are two members of the function
pub record OwnHere (f : TacFn) (at x y : ℕ) : Type 0 where
  pub one : Member
  pub other : Member
  pub joined : own_in f (slice_get f.body at) ≡ Some (one, other)
  pub x_is : x ≡ member_index one
  pub y_is : y ≡ member_index other

-- a call with nodes from `base` on joins x, the node for the callee's member `number`, to y, what is passed for it
pub record PassedFor (f : TacFn) (call : CallParts) (callee : TacFn) (base number x y : ℕ) : Type 0 where
  pub actual : Member
  pub outer : IsOuter callee number
  pub passes : passed_member call number ≡ Some actual
  pub pointer_like : IsPointerLike f actual
  pub x_is : x ≡ base + number
  pub y_is : y ≡ member_index actual

-- the same for some member of the callee below this number
abbrev pub PassedBelow : TacFn → CallParts → TacFn → (base below x y : ℕ) → Type 0
PassedBelow f call callee base below x y = (number : ℕ) × (number < below) × PassedFor f call callee base number x y

-- the call at this place joins x, a node for a member of the callee, to y, what is passed for it
pub record PassedHere (code : Tac) (f : TacFn) (at x y : ℕ) : Type 0 where
  pub call : CallParts
  pub callee : TacFn
  pub number : ℕ
  pub here : call_and_callee_at code f at ≡ Some (call, callee)
  pub passes : PassedFor f call callee (length (kinds_to code f at)) number x y

-- what the instruction at this place joins
abbrev pub BeginsHere : Tac → TacFn → (at x y : ℕ) → Type 0
BeginsHere code f at x y = OwnHere f at x y ⊎ PassedHere code f at x y

-- a relation between nodes of function n
abbrev pub Of : ℕ → (ℕ → ℕ → Type 0) → ℕ → ℕ → ℕ → Type 0
Of n These f x y = (f ≡ n) × These x y

-- the same for the call that the code is at
abbrev pub Passing : Calling → (number : ℕ) → ℕ → ℕ → ℕ → Type 0
Passing c number = Of c.caller (PassedFor c.function.now (parts_of_call c.call) c.callee.now c.base number)

-- the same for the members below this number
abbrev pub PassingBelow : Calling → (below : ℕ) → ℕ → ℕ → ℕ → Type 0
PassingBelow c below = Of c.caller (PassedBelow c.function.now (parts_of_call c.call) c.callee.now c.base below)

-- ---- where functions are called

-- the call at this place, as callers are listed
abbrev pub site : Tac → TacFn → (n at : ℕ) → Site
site code f n at = record { caller = n; base = length (kinds_to code f at) }

-- function g is called there, with nodes from that base on
pub record IsSite (code : Tac) (g : ℕ) (s : Site) : Type 0 where
  pub f : TacFn
  pub caller : slice_get code.functions s.caller ≡ Some f
  pub at : ℕ
  pub call : CallParts
  pub callee : TacFn
  pub here : call_and_callee_at code f at ≡ Some (call, callee)
  pub calls : call.function ≡ g
  pub base : s.base ≡ length (kinds_to code f at)

-- the calls that were listed still are, and each new one exists
pub record AddsSites (code : Tac) (old new : List (Vec Site Global)) : Type 0 where
  pub len : length new ≡ length old
  pub kept : (g : ℕ) (s : Site) → Contains (call_sites_of old g) s → Contains (call_sites_of new g) s
  pub only : (g : ℕ) (s : Site) → Contains (call_sites_of new g) s → Contains (call_sites_of old g) s ⊎ IsSite code g s

-- ---- a function has begun to this instruction

-- function n has nodes and joins for its instructions before `to`, and its calls there are listed
pub record HasBegun (code : Tac) (n : ℕ) (f : TacFn) (nodes : List Nodes) (sites : List (Vec Site Global))
    (to : ℕ) : Type 0 where
  pub size : size_in nodes n ≡ length (kinds_to code f to)
  pub width : width_in nodes n ≡ width_of f
  pub sound : (x y : ℕ) → SameIn nodes n x y → AreSame (JoinsAtFirst code f (slice_get (kinds_of code f))) x y
  pub met : (at x y : ℕ) → at < to → BeginsHere code f at x y → SameIn nodes n x y
  pub called : (at : ℕ) (call : CallParts) (callee : TacFn) → at < to → call_and_callee_at code f at ≡ Some (call, callee)
      → Contains (call_sites_of sites call.function) (site code f n at)

-- a function has the same nodes, joined as they were
pub record Unchanged (old new : List Nodes) (n : ℕ) : Type 0 where
  pub size : size_in new n ≡ size_in old n
  pub width : width_in new n ≡ width_in old n
  pub kept : (x y : ℕ) → SameIn old n x y → SameIn new n x y
  pub only : (x y : ℕ) → SameIn new n x y → (x ≡ y) ⊎ SameIn old n x y

-- function n has `count` more nodes, and these are joined
pub record StepsIn (old new : List Nodes) (n count : ℕ) (These : ℕ → ℕ → Type 0) : Type 0 where
  pub len : length new ≡ length old
  pub size : size_in new n ≡ size_in old n + count
  pub width : width_in new n ≡ width_in old n
  pub others : (g : ℕ) → g ≢ n → Unchanged old new g
  pub kept : (x y : ℕ) → SameIn old n x y → SameIn new n x y
  pub met : (x y : ℕ) → These x y → SameIn new n x y
  pub only : (x y : ℕ) → SameIn new n x y → AreSame (JoinedOrToJoin old (Of n These) n) x y

-- one more call of g is listed
pub record Lists (old new : List (Vec Site Global)) (g : ℕ) (s : Site) : Type 0 where
  pub len : length new ≡ length old
  pub here : Contains (call_sites_of new g) s
  pub kept : (h : ℕ) (t : Site) → Contains (call_sites_of old h) t → Contains (call_sites_of new h) t
  pub only : (h : ℕ) (t : Site) → Contains (call_sites_of new h) t → Contains (call_sites_of old h) t ⊎ ((h ≡ g) × (t ≡ s))

-- the call has its nodes, after those that the function had, its joins, and is listed
pub record BeginsCall (n : ℕ) (f : TacFn) (call : CallParts) (callee : TacFn) (old new : List Nodes)
    (sites sites' : List (Vec Site Global)) : Type 0 where
  pub step : StepsIn old new n (width_of callee) (PassedBelow f call callee (size_in old n) (width_of callee))
  pub lists : Lists sites sites' call.function (record { caller = n; base = size_in old n })

-- one instruction has its nodes and joins
pub record BeginsAt (code : Tac) (n : ℕ) (f : TacFn) (at : ℕ) (old new : List Nodes)
    (sites sites' : List (Vec Site Global)) : Type 0 where
  pub step : StepsIn old new n (length (call_kinds at (call_and_callee_at code f at))) (BeginsHere code f at)
  pub sites_added : AddsSites code sites sites'
  pub called : (call : CallParts) (callee : TacFn) → call_and_callee_at code f at ≡ Some (call, callee)
      → Contains (call_sites_of sites' call.function) (site code f n at)

-- one function more, with nodes for its members
pub record AddsFn (f : TacFn) (old new : Progress) : Type 0 where
  pub own : Nodes
  pub nodes : new.nodes.items ≡ old.nodes.items ++ own ∷ []
  pub log : new.log.items ≡ old.log.items
  pub are_own : AreOwn f own

-- the next function has the nodes and joins of its instructions before `to`
pub record BeginsFn (code : Tac) (n : ℕ) (f : TacFn) (old new : List Nodes) (sites sites' : List (Vec Site Global))
    (to : ℕ) : Type 0 where
  pub len : length new ≡ n + 1
  pub others : (g : ℕ) → g ≢ n → Unchanged old new g
  pub sites_added : AddsSites code sites sites'
  pub begun : HasBegun code n f new sites' to

-- all functions have the nodes and joins of all their instructions
pub record AreBegun (code : Tac) (nodes : List Nodes) (sites : List (Vec Site Global)) : Type 0 where
  pub len : length nodes ≡ length code.functions
  pub sites_len : length sites ≡ length code.functions
  pub begun : (n : ℕ) (f : TacFn) → slice_get code.functions n ≡ Some f → HasBegun code n f nodes sites (length f.body)
  pub are_sites : (g : ℕ) (s : Site) → Contains (call_sites_of sites g) s → IsSite code g s
