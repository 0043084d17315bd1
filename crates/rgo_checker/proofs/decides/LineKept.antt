-- A rule at a line, by what it says of the item of that line.
use Rattle.std.proofs.Common.{◌≡◌, ◌≢◌, ℕ, ◌<◌, ◌≤◌, Bool, true, false, not, ◌&&◌, Option, Some, None, slice_get, nat_lt, nat_eq, if◌then◌else◌, refl, sym, ap, ◌∙◌, subst, arith}
use Rattle.std.proofs.lemmas.Bool.{false≢true}
use Rattle.std.proofs.lemmas.Option.{same_Some}
use Rattle.std.specs.Bool.{Decides}
use Rattle.rgo_typed.specs.declared.programs.Struct.{Struct}
use Rattle.rgo_typed.specs.declared.programs.Variable.{Variable}
use Rattle.rgo_code.specs.declared.rules.Line.TheVariants.{Struct as StructLine, Variable as VariableLine, Function as FunctionLine, Slot as SlotLine, Entry as EntryLine, Instr as InstrLine, End as EndLine}
use Rattle.rgo_code.specs.declared.rules.Rule.{Rule}
use Rattle.rgo_code.specs.Checked.{KeptByStruct, KeptByVariable, KeptByHead, KeptBySlot, KeptByEntry, KeptByInstr, KeptByEnd, rule_number}
use Rattle.rgo_code.specs.Code.{Slot, CodeInstr, CodeFn, Code}
use Rattle.rgo_checker.specs.Instrs.{InstrKept, EntryKept, LeastBroken}
use Rattle.rgo_checker.specs.Scan.{IsKept}
use Rattle.rgo_checker.specs.Tests.{broken_if}
use Rattle.rgo_checker.proofs.Deciding.{decides_less, decides_same}
use Rattle.rgo_checker.proofs.outcomes.OneOutcome.{same_rule}

-- what holds of the item of a number holds of each item of this number
found : {X : Type 0} (o : Option X) (x : X) (P : X → Type 0) (b : Bool) → o ≡ Some x → Decides b (P x)
    → Decides b ((y : X) → o ≡ Some y → P y)
found o x P b e d = (λ t y q. subst P (same_Some x y (sym e ∙ q)) (d.0 t), λ h. d.1 (h x e))

module _ (code : Code) (r : Rule) (b : Bool) where
  pub at_struct : (n : ℕ) (s : Struct) → slice_get code.structs n ≡ Some s → Decides b (KeptByStruct code r n s)
      → Decides b (IsKept code r (StructLine n))
  unfolding IsKept
  at_struct n s e d = found (slice_get code.structs n) s (KeptByStruct code r n) b e d

  pub at_variable : (n : ℕ) (v : Variable) → slice_get code.variables n ≡ Some v → Decides b (KeptByVariable code r n v)
      → Decides b (IsKept code r (VariableLine n))
  unfolding IsKept
  at_variable n v e d = found (slice_get code.variables n) v (KeptByVariable code r n) b e d

  module _ (n : ℕ) (f : CodeFn) (e : slice_get code.functions n ≡ Some f) where
    pub at_head : Decides b (KeptByHead code r n f) → Decides b (IsKept code r (FunctionLine n))
    unfolding IsKept
    at_head d = found (slice_get code.functions n) f (KeptByHead code r n) b e d

    pub at_slot : (v : ℕ) (s : Slot) → slice_get f.variables v ≡ Some s → Decides b (KeptBySlot code r s)
        → Decides b (IsKept code r (SlotLine n v))
    unfolding IsKept
    at_slot v s q d = (
      λ t g u h k. subst (KeptBySlot code r)
          (same_Some s u (sym q ∙ ap (λ (x : CodeFn). slice_get x.variables v) (same_Some f g (sym e ∙ h)) ∙ k))
          (d.0 t),
      λ h. d.1 (h f s e q),
    )

    pub at_entry : Decides b (EntryKept f r) → Decides b (IsKept code r (EntryLine n))
    unfolding IsKept EntryKept
    at_entry d = found (slice_get code.functions n) f (KeptByEntry r) b e d

    pub at_instr : (i : ℕ) → Decides b (InstrKept code f i r) → Decides b (IsKept code r (InstrLine n i))
    unfolding IsKept InstrKept
    at_instr i d = (
      λ t g instr h k. subst (λ (x : CodeFn). (y : CodeInstr) → slice_get x.body i ≡ Some y → KeptByInstr code r x i y)
          (same_Some f g (sym e ∙ h)) (d.0 t) instr k,
      λ h. d.1 (λ instr k. h f instr e k),
    )

    pub at_end : Decides b (KeptByEnd r f) → Decides b (IsKept code r (EndLine n))
    unfolding IsKept
    at_end d = found (slice_get code.functions n) f (KeptByEnd r) b e d

-- ---- the least rule that is broken at a line

-- both ways, from a test for either case
both_ways : {P Q : Type 0} → ((b : Bool) → Decides b P → Decides b Q) → (P → Q) × ((P → ⊥) → Q → ⊥)
both_ways {P} {Q} h = (λ p. (h true (λ t. p, λ q. refl)).0 refl, λ n q. false≢true ((h false (no n)).1 q))
  where
    no : (P → ⊥) → Decides false P
    no n = (λ t. absurd (false≢true t), λ p. absurd (n p))

least_like : (K L : Rule → Type 0) (from limit : ℕ) → ((r : Rule) → (K r → L r) × ((K r → ⊥) → L r → ⊥))
    → (o : Option Rule) → LeastBroken K from limit o → LeastBroken L from limit o
least_like K L from limit h None k = λ r low high. (h r).0 (k r low high)
least_like K L from limit h (Some x) k = (k.0, k.1, (h x).1 k.2, λ r low high. (h r).0 (k.3 r low high))

module _ (code : Code) (n : ℕ) (f : CodeFn) (e : slice_get code.functions n ≡ Some f) (from limit : ℕ)
    (o : Option Rule) where
  pub least_at_instr : (i : ℕ) → LeastBroken (InstrKept code f i) from limit o
      → LeastBroken (λ r. IsKept code r (InstrLine n i)) from limit o
  least_at_instr i k =
      least_like (InstrKept code f i) (λ r. IsKept code r (InstrLine n i)) from limit
      (λ r. both_ways (λ b d. at_instr code r b n f e i d)) o k

  pub least_at_entry : LeastBroken (EntryKept f) from limit o
      → LeastBroken (λ r. IsKept code r (EntryLine n)) from limit o
  least_at_entry k =
      least_like (EntryKept f) (λ r. IsKept code r (EntryLine n)) from limit
      (λ r. both_ways (λ b d. at_entry code r b n f e d)) o k

-- only one rule can be broken
pub least_of_one : (K : Rule → Type 0) (r : Rule) (kept : Bool) (from limit : ℕ) → Decides kept (K r)
    → from ≤ rule_number r
    → ((x : Rule) → from ≤ rule_number x → rule_number x < limit → rule_number x ≢ rule_number r → K x)
    → LeastBroken K from limit (broken_if limit r kept)
least_of_one K r kept from limit d low others =
    by (nat_lt (rule_number r) limit) kept (decides_less (rule_number r) limit) d
  where
    each : (p : K r) (x : Rule) → from ≤ rule_number x → rule_number x < limit → K x
    each p x l h = go (nat_eq (rule_number x) (rule_number r)) (decides_same (rule_number x) (rule_number r))
      where
        go : (b : Bool) → Decides b (rule_number x ≡ rule_number r) → K x
        go true e = subst K (sym (same_rule x r (e.0 refl))) p
        go false e = others x l h (λ q. false≢true (e.1 q))

    by : (a k : Bool) → Decides a (rule_number r < limit) → Decides k (K r)
        → LeastBroken K from limit (if a && not k then Some r else None)
    by true true a k = each (k.0 refl)
    by true false a k = (
      low,
      a.0 refl,
      (λ p. false≢true (k.1 p)),
      (λ x l h. others x l (omega (arith, h, a.0 refl)) (λ q. different x h q)),
    )
      where
        different : (x : Rule) → rule_number x < rule_number r → rule_number x ≡ rule_number r → ⊥
        different x h q = absurd (omega (arith, h, q))
    by false k a d = λ x l h. others x l h (λ q. false≢true (a.1 (less x h q)))
      where
        less : (x : Rule) → rule_number x < limit → rule_number x ≡ rule_number r → rule_number r < limit
        less x h q = omega (arith, h, q)
