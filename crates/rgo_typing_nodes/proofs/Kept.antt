-- If an operation on constants breaks no rule, its value keeps the range, so the code's 64-bit integer is the exact value.
use Rattle.std.proofs.Common.{◌≡◌, ℕ, ℤ, Bool, true, false, not, [], ◌∷◌, Option, Some, None, is_some, if◌then◌else◌, refl, ap, true≢false}
use Rattle.rgo_ast.specs.declared.ops.BinaryOp.{BinaryOp}
use Rattle.rgo_ast.specs.declared.ops.UnaryOp.{UnaryOp}
use Rattle.rgo_typing_rules.specs.Constants.{in_range, is_out_of_range, kept, folded_shape, folded_shapes}
use Rattle.rgo_typing_rules.specs.Nodes as node
use Rattle.rgo_typing_rules.specs.Nodes.{Node}
use Rattle.rgo_typing_rules.specs.Rules.{broken}
use Rattle.rgo_typing_rules.specs.Shapes.{Shape}
use Rattle.rgo_typing_rules.specs.Sites.{first_refusal, refused_at, earlier}
use Rattle.rgo_typing_rules.specs.declared.rules.Rule.{Rule}
use Rattle.rgo_typing_rules.specs.declared.rules.Rule.TheVariants as rule
use Rattle.rgo_typing_rules.proofs.Unbroken.{keeps}

unbroken : (at : ℕ) (o : Option Rule) → earlier (refused_at at o) None ≡ None → o ≡ None
unbroken at None h = refl
unbroken at (Some r) h = absurd (true≢false (ap is_some h))

kept_by : (n : ℤ) (b : Bool) → not b ≡ false → (if b then Some n else None) ≡ Some n
kept_by n true h = refl
kept_by n false h = absurd (true≢false h)

kept_is : (o : Option ℤ) → is_out_of_range o ≡ false → kept o ≡ o
kept_is None h = refl
kept_is (Some n) h = kept_by n (in_range n) h

pub kept_unary : (at : ℕ) (op : UnaryOp) (s : Shape) → first_refusal ((at, node.Unary op s) ∷ []) ≡ None
    → kept (folded_shape op s) ≡ folded_shape op s
kept_unary at op s h =
    kept_is (folded_shape op s) (keeps rule.ConstRange (node.Unary op s) (unbroken at (broken (node.Unary op s)) h))

pub kept_binary : (at : ℕ) (op : BinaryOp) (a b : Shape) → first_refusal ((at, node.Binary op a b) ∷ []) ≡ None
    → kept (folded_shapes op a b) ≡ folded_shapes op a b
kept_binary at op a b h =
    kept_is (folded_shapes op a b) (keeps rule.ConstRange (node.Binary op a b) (unbroken at (broken (node.Binary op a b)) h))
