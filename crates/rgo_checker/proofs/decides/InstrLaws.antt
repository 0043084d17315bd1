-- The rules at an instruction, by what the checker computes.
use Rattle.std.proofs.Common.{◌≡◌, ℕ, Bool, true, List, Some, slice_get, sym, ap, ◌∙◌, subst}
use Rattle.std.specs.Bool.{Decides}
use Rattle.rgo_tac.specs.declared.regions.Class.{Class}
use Rattle.rgo_tac.specs.Code.{Op}
use Rattle.rgo_tac.specs.Ops.{op_in}
use Rattle.rgo_code.specs.declared.rules.Rule.TheVariants as rule
use Rattle.rgo_code.specs.Code.{CodeFn, Code}
use Rattle.rgo_code.specs.Erasure.{erased_op, erased_fn, erased}
use Rattle.rgo_code.specs.Lists.{creates_in, passes_in, removes_in, otherwise_in}
use Rattle.rgo_code.specs.Names.{result_class}
use Rattle.rgo_checker.specs.ClassTests.{joins_agree, globals_agree, return_agrees, CallPassesBy, StartPassesBy, lends, ends_empty}
use Rattle.rgo_checker.specs.Instrs.{InstrKept}
use Rattle.rgo_checker.specs.Tests.{instr_exists, op_fits}
use Rattle.rgo_checker.proofs.decides.ClassLaws.{joins_decided, globals_decided, return_decided}
use Rattle.rgo_checker.proofs.Deciding.{always, kept_at}
use Rattle.rgo_checker.proofs.decides.ExistenceLaws.{instr_decided}
use Rattle.rgo_checker.proofs.decides.LendingLaws.{lends_decided, ends_decided}
use Rattle.rgo_checker.proofs.decides.OperandLaws.{op_fits_decided}
use Rattle.rgo_checker.proofs.decides.PassingLaws.{calls_decided, starts_decided}

decides_by : {P : Type 0} (b c : Bool) → b ≡ c → Decides c P → Decides b P
decides_by b c e d = (λ t. d.0 (sym e ∙ t), λ p. e ∙ d.1 p)

module _ (code : Code) (f : CodeFn) (i : ℕ) (o : Op) (b : Bool)
    (here : op_in (slice_get (erased_fn f).body i) ≡ Some o) where
  pub exists_kept : b ≡ instr_exists (erased code) (erased_fn f) i o → Decides b (InstrKept code f i rule.Exists)
  exists_kept e = kept_at code f i rule.Exists o b here (λ instr there q.
      decides_by b _ (e ∙ ap (instr_exists (erased code) (erased_fn f) i) q)
      (instr_decided (erased code) (erased_fn f) i (erased_op instr.op)))

  pub types_kept : b ≡ op_fits (erased code) (erased_fn f) o → Decides b (InstrKept code f i rule.Types)
  types_kept e = kept_at code f i rule.Types o b here (λ instr there q.
      decides_by b _ (e ∙ ap (op_fits (erased code) (erased_fn f)) q)
      (op_fits_decided (erased code) (erased_fn f) (erased_op instr.op)))

  pub joins_kept : b ≡ joins_agree f o → Decides b (InstrKept code f i rule.Joins)
  joins_kept e = kept_at code f i rule.Joins o b here (λ instr there q.
      decides_by b _ (e ∙ ap (joins_agree f) q) (joins_decided f instr.op))

  pub globals_kept : b ≡ globals_agree f o → Decides b (InstrKept code f i rule.Globals)
  globals_kept e = kept_at code f i rule.Globals o b here (λ instr there q.
      decides_by b _ (e ∙ ap (globals_agree f) q) (globals_decided f instr.op))

  pub returns_kept : b ≡ return_agrees f o → Decides b (InstrKept code f i rule.Returns)
  returns_kept e = kept_at code f i rule.Returns o b here (λ instr there q.
      decides_by b _ (e ∙ ap (return_agrees f) q) (return_decided f instr.op))

  pub calls_kept : (passes : List Class) → passes ≡ passes_in (slice_get f.body i)
      → Decides b (CallPassesBy code f passes o) → Decides b (InstrKept code f i rule.Calls)
  calls_kept passes p d = kept_at code f i rule.Calls o b here (λ instr there q.
      calls_decided code f instr.op b
      (subst (λ ps. Decides b (CallPassesBy code f ps (erased_op instr.op))) (p ∙ ap passes_in there)
      (subst (λ x. Decides b (CallPassesBy code f passes x)) q d)))

  pub starts_kept : (passes : List Class) → passes ≡ passes_in (slice_get f.body i)
      → Decides b (StartPassesBy code f passes o) → Decides b (InstrKept code f i rule.Starts)
  starts_kept passes p d = kept_at code f i rule.Starts o b here (λ instr there q.
      starts_decided code f instr.op b
      (subst (λ ps. Decides b (StartPassesBy code f ps (erased_op instr.op))) (p ∙ ap passes_in there)
      (subst (λ x. Decides b (StartPassesBy code f passes x)) q d)))

  pub lending_kept : (c : Class) (creates removes otherwise : List ℕ) → c ≡ result_class f
      → creates ≡ creates_in (slice_get f.body i) → removes ≡ removes_in (slice_get f.body i)
      → otherwise ≡ otherwise_in (slice_get f.body i) → b ≡ lends c creates removes otherwise
      → Decides b (InstrKept code f i rule.Lending)
  lending_kept c creates removes otherwise ec ek er eo e = kept_at code f i rule.Lending o b here (λ instr there q.
      decides_by b _
      (e ∙ (λ j. lends (ec j) (ek j) (er j) (eo j))
      ∙ ap (λ x. lends (result_class f) (creates_in x) (removes_in x) (otherwise_in x)) there)
      (lends_decided f i instr))

  pub endings_kept : (creates : List ℕ) → creates ≡ creates_in (slice_get f.body i) → b ≡ ends_empty f creates o
      → Decides b (InstrKept code f i rule.Endings)
  endings_kept creates ek e = kept_at code f i rule.Endings o b here (λ instr there q.
      decides_by b _
      (e ∙ (λ j. ends_empty f (ek j) (q j)) ∙ ap (λ x. ends_empty f (creates_in x) (erased_op instr.op)) there)
      (ends_decided f i instr there))

  pub classes_kept : b ≡ true → Decides b (InstrKept code f i rule.Classes)
  classes_kept e = kept_at code f i rule.Classes o b here (λ instr there q. decides_by b true e (always tt))

  pub entry_kept : b ≡ true → Decides b (InstrKept code f i rule.Entry)
  entry_kept e = kept_at code f i rule.Entry o b here (λ instr there q. decides_by b true e (always tt))
