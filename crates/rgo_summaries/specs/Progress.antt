-- What is joined so far in all functions, and what is still to be carried to callers.
use Rattle.std.specs.Prelude.{◌≡◌, ◌≢◌, ◌⊎◌, ◌<◌, ◌≤◌, ◌+◌, ℕ, List, [], ◌∷◌, ◌++◌, Vec, Option, Some, None, length, slice_get, sum_by, Contains}
use Rattle.std.specs.Global.{Global}
use Rattle.rgo_classes.specs.Same.{AreSame}
use Rattle.rgo_summaries.specs.declared.nodes.Nodes.{Nodes}
use Rattle.rgo_summaries.specs.declared.progress.Event.{Event}
use Rattle.rgo_summaries.specs.declared.progress.Progress.{Progress}
use Rattle.rgo_summaries.specs.declared.progress.Site.{Site}
use Rattle.rgo_summaries.specs.Joining.{IsNodes, AreJoinedNodes, seen_count, size_of}
use Rattle.rgo_summaries.specs.Spreading.{Spreads}
use Rattle.rgo_summaries.specs.Views.{call_sites_of}

-- two nodes of a function are joined, if the function exists
abbrev pub same_at : Option Nodes → ℕ → ℕ → Type 0
same_at None x y = ⊥
same_at (Some n) x y = AreJoinedNodes n x y

-- how many nodes it has
abbrev pub size_at : Option Nodes → ℕ
size_at None = 0
size_at (Some n) = size_of n

-- how many of them callers see
abbrev pub width_at : Option Nodes → ℕ
width_at None = 0
width_at (Some n) = n.width

-- two nodes of the function of this number are joined
abbrev pub SameIn : List Nodes → ℕ → ℕ → ℕ → Type 0
SameIn nodes f x y = same_at (slice_get nodes f) x y

-- the number of nodes of the function of this number
abbrev pub size_in : List Nodes → ℕ → ℕ
size_in nodes f = size_at (slice_get nodes f)

-- the number of its nodes that callers see
abbrev pub width_in : List Nodes → ℕ → ℕ
width_in nodes f = width_at (slice_get nodes f)

-- callers see this node
abbrev pub Inside : List Nodes → ℕ → ℕ → Type 0
Inside nodes f x = x < width_in nodes f

-- the joins of a function's nodes that are logged
abbrev pub Logged : List Event → ℕ → ℕ → ℕ → Type 0
Logged log f x y = Contains log (record { function = f; one = x; other = y })

-- The log leads from each node that callers see to each that is joined to it. A chain of events is enough, so the log has one event for
-- each two classes that became one, and not one for each two nodes.
pub record IsProgress (p : Progress) : Type 0 where
  pub are : (f : ℕ) (n : Nodes) → slice_get p.nodes.items f ≡ Some n → IsNodes n
  pub logged : (f x y : ℕ) → Inside p.nodes.items f x → Inside p.nodes.items f y → SameIn p.nodes.items f x y
      → AreSame (Logged p.log.items f) x y
  pub events : (e : Event) → Contains p.log.items e
      → Inside p.nodes.items e.function e.one × Inside p.nodes.items e.function e.other
      × SameIn p.nodes.items e.function e.one e.other

-- the events that these news are
abbrev pub events_of : ℕ → Option (ℕ × ℕ) → List Event
events_of f None = []
events_of f (Some p) = record { function = f; one = p.0; other = p.1 } ∷ []

-- what is joined, or is to be joined
abbrev pub JoinedOrToJoin : List Nodes → (These : ℕ → ℕ → ℕ → Type 0) → ℕ → ℕ → ℕ → Type 0
JoinedOrToJoin nodes These f x y = SameIn nodes f x y ⊎ These f x y

-- the number of labels, over all functions, that have a node which callers see
abbrev pub seen_all : List Nodes → ℕ
seen_all nodes = sum_by seen_count nodes

-- these nodes are joined, no more than follows is joined, and the log grows
pub record AddsJoins (old new : Progress) (These : ℕ → ℕ → ℕ → Type 0) : Type 0 where
  pub len : length new.nodes.items ≡ length old.nodes.items
  pub sizes : (f : ℕ) → size_in new.nodes.items f ≡ size_in old.nodes.items f
  pub widths : (f : ℕ) → width_in new.nodes.items f ≡ width_in old.nodes.items f
  pub kept : (f x y : ℕ) → SameIn old.nodes.items f x y → SameIn new.nodes.items f x y
  pub met : (f x y : ℕ) → These f x y → SameIn new.nodes.items f x y
  pub only : (f x y : ℕ) → SameIn new.nodes.items f x y → AreSame (JoinedOrToJoin old.nodes.items These f) x y
  pub logs : (added : List Event) × (new.log.items ≡ old.log.items ++ added)
  pub counted : length new.log.items + seen_all new.nodes.items ≤ length old.log.items + seen_all old.nodes.items

-- two nodes of one function
abbrev pub Two : (f x y : ℕ) → ℕ → ℕ → ℕ → Type 0
Two f x y g a b = (g ≡ f) × (a ≡ x) × (b ≡ y)

-- a function has more nodes, each by itself
pub record GrowsIn (old new : Progress) (f count : ℕ) : Type 0 where
  pub len : length new.nodes.items ≡ length old.nodes.items
  pub size : size_in new.nodes.items f ≡ size_in old.nodes.items f + count
  pub sizes : (g : ℕ) → g ≢ f → size_in new.nodes.items g ≡ size_in old.nodes.items g
  pub widths : (g : ℕ) → width_in new.nodes.items g ≡ width_in old.nodes.items g
  pub kept : (g x y : ℕ) → SameIn old.nodes.items g x y → SameIn new.nodes.items g x y
  pub only : (g x y : ℕ) → SameIn new.nodes.items g x y → (x ≡ y) ⊎ SameIn old.nodes.items g x y

-- ---- what is carried to callers

-- function f calls g, with nodes from `base` on
abbrev pub Carries : List (Vec Site Global) → (g f base : ℕ) → Type 0
Carries sites g f base = Contains (call_sites_of sites g) (record { caller = f; base = base })

-- the join in caller f that an event in a callee leads to
pub record Hears (sites : List Site) (e : Event) (f x y : ℕ) : Type 0 where
  pub base : ℕ
  pub called : Contains sites (record { caller = f; base = base })
  pub one : x ≡ base + e.one
  pub other : y ≡ base + e.other

-- each caller has the nodes of its calls
abbrev pub HasRoom : List Nodes → (width : ℕ) → List Site → Type 0
HasRoom nodes width sites = (s : Site) → Contains sites s → (s.caller < length nodes)
    × (s.base + width ≤ size_in nodes s.caller)

-- The joins are carried to callers until none is left: no join is without reason (`sound`), and none is missing (`whole`).
pub record IsSpread (old new : List Nodes) (sites : List (Vec Site Global)) : Type 0 where
  pub len : length new ≡ length old
  pub are : (f : ℕ) (n : Nodes) → slice_get new f ≡ Some n → IsNodes n
  pub sizes : (f : ℕ) → size_in new f ≡ size_in old f
  pub widths : (f : ℕ) → width_in new f ≡ width_in old f
  pub sound : (f x y : ℕ) → SameIn new f x y → Spreads (SameIn old) (Inside old) (Carries sites) f x y
  pub whole : (f x y : ℕ) → Spreads (SameIn old) (Inside old) (Carries sites) f x y → (x ≡ y) ⊎ SameIn new f x y
