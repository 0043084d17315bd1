-- Nodes of a function that are joined, as labels keep them.
use Rattle.std.specs.Prelude.{◌≡◌, ◌⊎◌, ◌<◌, ◌≤◌, ◌+◌, ◌^◌, ℕ, Bool, if◌then◌else◌, List, [], ◌∷◌, ◌++◌, Option, Some, None, length, slice_index, slice_index_or, slice_set, sum_by}
use Rattle.rgo_classes.specs.Moves.{AreRows, MovesTo, member_rows}
use Rattle.rgo_summaries.specs.declared.nodes.Nodes.{Nodes}

-- the number of nodes
abbrev pub size_of : Nodes → ℕ
size_of n = length n.labels.items

-- the label of a node
abbrev pub label_at : Nodes → ℕ → ℕ
label_at n x = slice_index n.labels.items x

-- two nodes are joined
abbrev pub AreJoinedNodes : Nodes → ℕ → ℕ → Type 0
AreJoinedNodes n x y = (x < size_of n) × (y < size_of n) × (label_at n x ≡ label_at n y)

-- the node of a label that callers see, if there is one
abbrev pub seen_at : List (Option ℕ) → ℕ → Option ℕ
seen_at seen l = slice_index_or seen l None

-- the node, if callers see it
abbrev pub seen_if : Bool → ℕ → Option ℕ
seen_if is_seen n = if is_seen then Some n else None

-- Each label has its nodes and, where there is one, a node that callers see. By `has`, no class that callers see goes unnoticed.
pub record IsNodes (n : Nodes) : Type 0 where
  pub few : size_of n < 2 ^ 64
  pub rows : AreRows n.labels.items (member_rows n.rows.items)
  pub seen_len : length n.seen.items ≡ size_of n
  pub width : n.width ≤ size_of n
  pub is : (l x : ℕ) → seen_at n.seen.items l ≡ Some x → (x < n.width) × (label_at n x ≡ l)
  pub has : (x : ℕ) → x < n.width → (y : ℕ) × (seen_at n.seen.items (label_at n x) ≡ Some y)

-- one node more, by itself
pub record Grows (old new : Nodes) (is_seen : Bool) : Type 0 where
  pub labels : new.labels.items ≡ old.labels.items ++ size_of old ∷ []
  pub width : new.width ≡ (if is_seen then old.width + 1 else old.width)

-- `count` nodes more, each by itself and not seen by callers
pub record GrowsBy (old new : Nodes) (count : ℕ) : Type 0 where
  pub size : size_of new ≡ size_of old + count
  pub width : new.width ≡ old.width
  pub kept : (x y : ℕ) → AreJoinedNodes old x y → AreJoinedNodes new x y
  pub only : (x y : ℕ) → AreJoinedNodes new x y → (x ≡ y) ⊎ AreJoinedNodes old x y

-- ---- one class is moved to the label of another

-- the first that exists
abbrev pub either : (had given : Option ℕ) → Option ℕ
either None given = given
either (Some x) given = Some x

-- the pair, if both exist
abbrev pub both : (given had : Option ℕ) → Option (ℕ × ℕ)
both None had = None
both (Some x) None = None
both (Some x) (Some y) = Some (x, y)

-- the node that callers see is moved, too
abbrev pub handed : List (Option ℕ) → (from to : ℕ) → List (Option ℕ)
handed seen from to = slice_set (slice_set seen from None) to (either (seen_at seen to) (seen_at seen from))

-- the nodes of label `from` get the label `to`, and `news` are the two seen nodes that this joins
pub record GoesOver (old new : Nodes) (from to : ℕ) (news : Option (ℕ × ℕ)) : Type 0 where
  pub width : new.width ≡ old.width
  pub labels : MovesTo old.labels.items new.labels.items from to
  pub rows : AreRows new.labels.items (member_rows new.rows.items)
  pub seen : new.seen.items ≡ handed old.seen.items from to
  pub is_news : news ≡ both (seen_at old.seen.items from) (seen_at old.seen.items to)

-- ---- two nodes are joined

-- x is joined to `one`, and y to `other`
abbrev pub Crosses : Nodes → (one other x y : ℕ) → Type 0
Crosses n one other x y = AreJoinedNodes n x one × AreJoinedNodes n other y

-- what is reported to callers: nothing, or two nodes that they see
abbrev pub AreNews : (old new : Nodes) → (one other : ℕ) → Option (ℕ × ℕ) → Type 0
AreNews old new one other None = (x y : ℕ) → x < old.width → y < old.width → AreJoinedNodes new x y → AreJoinedNodes old x y
AreNews old new one other (Some p) =
    (p.0 < old.width) × (p.1 < old.width) × (Crosses old one other p.0 p.1 ⊎ Crosses old other one p.0 p.1)

-- 1 for something, 0 for nothing
abbrev pub some_count : {X : Type 0} → Option X → ℕ
some_count None = 0
some_count (Some x) = 1

-- how many labels have a node that callers see
abbrev pub seen_count : Nodes → ℕ
seen_count n = sum_by some_count n.seen.items

-- Two nodes are joined, no more than follows, and `news` reports a join that callers see. Each report leaves one label fewer with a node
-- that callers see (`counted`): this is why the analysis ends.
pub record JoinsNodes (old new : Nodes) (one other : ℕ) (news : Option (ℕ × ℕ)) : Type 0 where
  pub size : size_of new ≡ size_of old
  pub width : new.width ≡ old.width
  pub met : AreJoinedNodes new one other
  pub kept : (x y : ℕ) → AreJoinedNodes old x y → AreJoinedNodes new x y
  pub only : (x y : ℕ) → AreJoinedNodes new x y → AreJoinedNodes old x y ⊎ (Crosses old one other x y ⊎ Crosses old other one x y)
  pub heard : AreNews old new one other news
  pub counted : some_count news + seen_count new ≤ seen_count old
