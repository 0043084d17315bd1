-- Labels of a function's members: one label for each class.
use Rattle.std.specs.Prelude.{◌≡◌, ◌⊎◌, ◌↔◌, ◌<◌, ◌≤◌, ◌+◌, ℕ, List, length, slice_index}
use Rattle.rgo_tac.specs.declared.regions.Member.{Member}
use Rattle.rgo_tac.specs.declared.regions.Member.TheVariants.{Variable, Result, Global}
use Rattle.rgo_tac.specs.Code.{TacFn}
use Rattle.rgo_classes.specs.Same.{AreSame}

-- the place of a member in a list of labels
abbrev pub member_index : Member → ℕ
member_index Global = 0
member_index Result = 1
member_index (Variable v) = v + 2

-- a label for each member of the function, and perhaps more: in `rgo_summaries` the nodes of calls follow
abbrev pub AreFor : TacFn → List ℕ → Type 0
AreFor f labels = length f.variables + 2 ≤ length labels

abbrev pub IsIn : List ℕ → Member → Type 0
IsIn labels m = member_index m < length labels

abbrev pub label_of : List ℕ → Member → ℕ
label_of labels m = slice_index labels (member_index m)

abbrev pub HaveOneLabel : List ℕ → Member → Member → Type 0
HaveOneLabel labels a b = IsIn labels a × IsIn labels b × (label_of labels a ≡ label_of labels b)

-- members have one label exactly where a chain of joins leads from one to the other
abbrev pub AreLabels : (Member → Member → Type 0) → List ℕ → Type 0
AreLabels Joins labels =
    (a b : Member) → IsIn labels a → IsIn labels b → (label_of labels a ≡ label_of labels b) ↔ AreSame Joins a b

abbrev pub NoJoins : Member → Member → Type 0
NoJoins a b = ⊥

-- two members and no others
abbrev pub Pair : (p q : Member) → Member → Member → Type 0
Pair p q a b = (a ≡ p) × (b ≡ q)

-- the joins that led to the old labels, and these
abbrev pub Also : (old : List ℕ) → (These : Member → Member → Type 0) → Member → Member → Type 0
Also old These a b = HaveOneLabel old a b ⊎ These a b

-- The new labels are those of the joins that led to the old ones, and of these.
pub record JoinsAlso (old : List ℕ) (These : Member → Member → Type 0) (new : List ℕ) : Type 0 where
  pub len : length new ≡ length old
  pub labels : AreLabels (Also old These) new
