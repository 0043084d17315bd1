-- Ranges of instructions that keep the first two rules, with the variables that they introduce, whose types exist.
use Rattle.std.proofs.Common.{◌≡◌, ⊎_elim, ℕ, ◌+◌, ◌<◌, ◌≤◌, Some, slice_get, length}
use Rattle.std.proofs.Common.{sym, ap, ◌∙◌, subst, arith}
use Rattle.std.proofs.lemmas.Bool.{cases_lt}
use Rattle.rgo_typed.specs.declared.types.Type.{«Type»}
use Rattle.rgo_tac.specs.Code.{Op, Instr, TacFn, Tac}
use Rattle.rgo_code.specs.Exists.{TypeExists, UsesVariable, OpExists}
use Rattle.rgo_code.specs.Types.{IsWellTypedOp}
use Rattle.rgo_code.specs.TypedCode.{StartFits, IsTypedInstr}
use Rattle.rgo_lower.specs.Lowered.{LoweringPoint, after_value, next_point, OpAt}
use Rattle.rgo_lowering_laws.specs.Laws.{PrintsFit}
use Rattle.rgo_lowering_laws.proofs.Lists.{some_is}

module _ (code : Tac) (f : TacFn) where
  -- the instruction keeps the rules at every index but the last of its function
  pub record Safe (op : Op) : Type 0 where
    pub variables : (v : ℕ) → UsesVariable op v → v < length f.variables
    pub exists : OpExists code f op
    pub fits : IsWellTypedOp code f op
    pub start : StartFits code op
    pub prints : PrintsFit f op

  -- the instruction of number i keeps the rules, and prints a variable for each piece that prints one
  pub record Right (i : ℕ) (op : Op) : Type 0 where
    pub typed : IsTypedInstr code f i op
    pub prints : PrintsFit f op

  -- the instructions from p up to q keep the rules, and the types of the variables from p up to q exist
  pub record Kept (p q : LoweringPoint) : Type 0 where
    pub grows : p.instr ≤ q.instr
    pub instrs : (i : ℕ) (instr : Instr) → p.instr ≤ i → i < q.instr → slice_get f.body i ≡ Some instr
        → Right i instr.op
    pub variables : (v : ℕ) (ty : «Type») → p.variable ≤ v → v < q.variable → slice_get f.variables v ≡ Some ty
        → TypeExists code ty

  pub nothing : (p q : LoweringPoint) → q ≡ p → Kept p q
  nothing p q e =
      let at : q.instr ≡ p.instr = ap (λ (z : LoweringPoint). z.instr) e in
      let made : q.variable ≡ p.variable = ap (λ (z : LoweringPoint). z.variable) e in
      record {
        grows = omega (arith, at);
        instrs = λ i instr from to is. absurd (omega (arith, from, to, at));
        variables = λ v ty from to is. absurd (omega (arith, from, to, made));
      }

  pub chain : (p m q : LoweringPoint) → Kept p m → Kept m q → Kept p q
  chain p m q a b = record {
    grows = omega (arith, a.grows, b.grows);
    instrs = λ i instr from to is.
        ⊎_elim (λ less. a.instrs i instr from less is) (λ more. b.instrs i instr more to is) (cases_lt i m.instr);
    variables = λ v ty from to is.
        ⊎_elim (λ less. a.variables v ty from less is) (λ more. b.variables v ty more to is) (cases_lt v m.variable);
  }

  pub ends : (p m q : LoweringPoint) → Kept p m → q ≡ m → Kept p q
  ends p m q a e = subst (Kept p) (sym e) a

  -- the instruction at an index
  pub at_place : (i j : ℕ) (op : Op) (place : ℕ) (instr : Instr) → OpAt f i op place → i ≤ j → j < i + 1
      → slice_get f.body j ≡ Some instr → Right i op → Right j instr.op
  at_place i j op place instr at from to is h =
      let here : j ≡ i = omega (arith, from, to) in
      let same = some_is (record { op = op; place = place }) instr (sym at ∙ (ap (slice_get f.body) (sym here) ∙ is)) in
      subst (λ k. Right k instr.op) (sym here) (subst (λ (z : Instr). Right i z.op) same h)

  right : (i : ℕ) (op : Op) → i + 1 < length f.body → Safe op → Right i op
  right i op within s = record {
    typed = record {
      exists = record {
        variables = s.variables;
        exists = s.exists;
        last = λ e. absurd (omega (arith, within, e));
      };
      fits = s.fits;
      start = s.start;
    };
    prints = s.prints;
  }

  -- one instruction
  pub one : (p : LoweringPoint) (op : Op) (place : ℕ) → OpAt f p.instr op place → p.instr + 1 < length f.body → Safe op
      → Kept p (next_point p)
  one p op place at within s = record {
    grows = omega arith;
    instrs = λ i instr from to is. at_place p.instr i op place instr at from to is (right p.instr op within s);
    variables = λ v ty from to is. absurd (omega (arith, from, to));
  }

  -- one instruction that writes the next variable
  pub one_value : (p : LoweringPoint) (op : Op) (place : ℕ) (ty : «Type») → OpAt f p.instr op place
      → p.instr + 1 < length f.body → Safe op → slice_get f.variables p.variable ≡ Some ty → TypeExists code ty
      → Kept p (after_value p)
  one_value p op place ty at within s made known = record {
    grows = omega arith;
    instrs = λ i instr from to is. at_place p.instr i op place instr at from to is (right p.instr op within s);
    variables = λ v other from to is.
        let here : v ≡ p.variable = omega (arith, from, to) in
        subst (TypeExists code) (some_is ty other (sym made ∙ (ap (slice_get f.variables) (sym here) ∙ is))) known;
  }
