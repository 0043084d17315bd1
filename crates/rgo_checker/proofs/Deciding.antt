-- Tests that decide facts, and a rule at an instruction by what it says of the operation there.
use Rattle.std.proofs.Common.{◌≡◌, ℕ, ◌<◌, ◌≤◌, Bool, true, false, ◌||◌, not, Option, Some, None, refl, sym, ap, ◌∙◌, subst, slice_get, nat_eq, nat_lt, nat_le, arith, Result, Ok, Err, IfOk}
use Rattle.std.proofs.lemmas.Bool.{false≢true}
use Rattle.std.proofs.lemmas.Bool.Decides.{nat_tests}
use Rattle.std.proofs.lemmas.Option.{same_Some, none-some, slice_get-map}
use Rattle.std.specs.Bool.{Decides}
use Rattle.std.specs.Option.{option_map}
use Rattle.rgo_tac.specs.Code.{Op}
use Rattle.rgo_tac.specs.Ops.{op_in}
use Rattle.rgo_code.specs.declared.rules.Rule.{Rule}
use Rattle.rgo_code.specs.Checked.{KeptByInstr}
use Rattle.rgo_code.specs.Code.{CodeInstr, CodeFn, Code}
use Rattle.rgo_code.specs.Erasure.{erased_op, erased_instr, erased_fn}
use Rattle.rgo_checker.specs.Instrs.{InstrKept}

pub always : {P : Type 0} → P → Decides true P
always p = (λ t. p, λ q. refl)

pub never : {P : Type 0} → (P → ⊥) → Decides false P
never n = (λ t. absurd (false≢true t), λ p. absurd (n p))

pub from_true : {P : Type 0} (b : Bool) → b ≡ true → P → Decides b P
from_true b e p = (λ t. p, λ q. e)

-- a premise that is a test
pub unless : {P : Type 0} (a b : Bool) → Decides b P → Decides (a || b) (a ≡ false → P)
unless true b d = (λ t e. absurd (false≢true (sym e)), λ h. refl)
unless false b d = (λ t e. d.0 t, λ h. d.1 (h refl))

pub only_if : {P : Type 0} (a b : Bool) → Decides b P → Decides (not a || b) (a ≡ true → P)
only_if true b d = (λ t e. d.0 t, λ h. d.1 (h refl))
only_if false b d = (λ t e. absurd (false≢true e), λ h. refl)

pub decides_less : (a b : ℕ) → Decides (nat_lt a b) (a < b)
decides_less a b = (λ t. grind (arith, nat_tests, t), λ h. grind (arith, nat_tests, h))

pub decides_at_most : (a b : ℕ) → Decides (nat_le a b) (a ≤ b)
decides_at_most a b = (λ t. grind (arith, nat_tests, t), λ h. grind (arith, nat_tests, h))

pub decides_same : (a b : ℕ) → Decides (nat_eq a b) (a ≡ b)
decides_same a b = (λ t. grind (arith, nat_tests, t), λ h. grind (arith, nat_tests, h))

-- ---- at an instruction

module _ (code : Code) (f : CodeFn) (i : ℕ) (rule : Rule) (o : Op) (b : Bool) where
  pub kept_at : op_in (slice_get (erased_fn f).body i) ≡ Some o
      → ((instr : CodeInstr) → slice_get f.body i ≡ Some instr → o ≡ erased_op instr.op
      → Decides b (KeptByInstr code rule f i instr))
      → Decides b (InstrKept code f i rule)
  unfolding InstrKept
  kept_at here h = go (slice_get f.body i) refl (ap op_in (sym (slice_get-map erased_instr f.body i)) ∙ here)
    where
      go : (s : Option CodeInstr) → slice_get f.body i ≡ s → op_in (option_map erased_instr s) ≡ Some o
          → Decides b ((instr : CodeInstr) → slice_get f.body i ≡ Some instr → KeptByInstr code rule f i instr)
      go None e q = absurd (none-some o q)
      go (Some x) e q =
          let d = h x e (sym (same_Some (erased_op x.op) o q)) in
          (λ t instr g. subst (KeptByInstr code rule f i) (same_Some x instr (sym e ∙ g)) (d.0 t), λ k. d.1 (k x e))

pub on_ok : {X E : Type 0} (r : Result X E) (P Q : X → Type 0) → ((x : X) → P x → Q x) → IfOk r P → IfOk r Q
on_ok (Ok x) P Q h p = h x p
on_ok (Err e) P Q h p = p
