-- A summary that names the classes of an equivalence.
use Rattle.std.specs.Prelude.{◌≡◌, ◌↔◌, ◌<◌, ◌+◌, ℕ, zero, suc, Option, Some, length, slice_get}
use Rattle.rgo_tac.specs.declared.regions.Class.{Class}
use Rattle.rgo_tac.specs.declared.regions.Class.TheVariants as class
use Rattle.rgo_tac.specs.Code.{TacFn}
use Rattle.rgo_classes.specs.declared.classes.Summary.{Summary}
use Rattle.rgo_classes.specs.Joins.{IsPointerLike}
use Rattle.rgo_classes.specs.Classes.{AreNumbered}
use Rattle.rgo_summaries.specs.Calls.{member}
use Rattle.rgo_summaries.specs.Families.{outer_classes}
use Rattle.rgo_summaries.specs.Nodes.{IsOuter}

-- the class of the member of this number
abbrev pub class_at : Summary → ℕ → Option Class
class_at s zero = Some class.Global
class_at s (suc zero) = Some s.result
class_at s (suc (suc i)) = slice_get s.params i

-- Members that callers see have one class exactly where they are related.
pub record SummaryNames (Related : ℕ → ℕ → Type 0) (f : TacFn) (s : Summary) : Type 0 where
  pub len : length s.params ≡ f.params
  -- a member without a class is not pointer-like
  pub none : (i : ℕ) → i < f.params + 2 → (class_at s i ≡ Some class.NoClass) ↔ (IsPointerLike f (member i) → ⊥)
  pub same : (i j : ℕ) → IsOuter f i → IsOuter f j → (class_at s i ≡ class_at s j) ↔ Related i j
  pub numbered : AreNumbered (outer_classes s)
