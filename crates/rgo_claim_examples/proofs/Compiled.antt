-- The examples of compiled code.
use Rattle.std.proofs.Common.{◌≡◌, inr, ◌<◌, ℕ, List, [], ◌∷◌, refl, subst, arith, Contains}
use Rattle.std.specs.List.Sorted.{IsStrictlyIncreasing}
use Rattle.std.proofs.lemmas.Bool.{leb-true, ltb-true}
use Rattle.rgo_code.specs.Code.{CodeFn, CodeInstr}
use Rattle.rgo_code.specs.NameRules.{Ascends, FnAscends, InstrAscends, protected_names}
use Rattle.rgo_code.specs.Names.{edges}
use Rattle.rgo_code.specs.declared.rules.Line.TheVariants as line
use Rattle.rgo_code.specs.declared.rules.Rule.TheVariants as rule
use Rattle.rgo_region_machine.specs.Machine.{Attend}
use Rattle.rgo_run.specs.Compiled.{IsCompiledFrom}
use Rattle.rgo_claim_examples.specs.CompiledCode.{CompiledExamples, code_with, main_with}
use Rattle.rgo_claim_examples.specs.Programs.{one_object}
use Rattle.rgo_claim_examples.proofs.Checked.{AllAt, all_at, checked, no_name, not_held, nothing, one_edge}
use Rattle.rgo_claim_examples.proofs.EndlessCode.{endless_compiled}
use Rattle.rgo_claim_examples.proofs.Lowered.{one_object_lowered}
use Rattle.rgo_claim_examples.proofs.ObjectClasses.{family, has_classes, least}

-- ---- lists ascend

none : IsStrictlyIncreasing []
none k less = absurd (omega (arith, less))

one : (x : ℕ) → IsStrictlyIncreasing (x ∷ [])
one x k less = absurd (omega (arith, less))

-- an instruction with one way out
one_way : (i next : ℕ) (instr : CodeInstr) (removes : List ℕ) → IsStrictlyIncreasing instr.creates
    → IsStrictlyIncreasing (protected_names instr.op) → edges instr.op i ≡ (next, removes) ∷ []
    → IsStrictlyIncreasing removes → InstrAscends i instr
one_way i next instr removes creates protects way ascends = record {
  creates = creates;
  protects = protects;
  removes =
      λ j rs c. one_edge (next, removes) (λ j rs. IsStrictlyIncreasing rs) ascends j rs
      (subst (λ es. Contains es (j, rs)) way c);
}

abbrev main : CodeFn
main = main_with (0 ∷ [])

instrs : AllAt InstrAscends main.body
instrs = (
  one_way 0 1 _ [] (one 0) none refl none,
  (
    one_way 1 2 _ [] none none refl none,
    (
      one_way 2 3 _ (0 ∷ []) none none refl (one 0),
      (
        one_way 3 4 _ [] none none refl none,
        (record { creates = none; protects = none; removes = λ j rs c. absurd (nothing (j, rs) c) }, tt),
      ),
    ),
  ),
)

main_ascends : FnAscends main
main_ascends = record { entry = none; body = λ i instr at. all_at InstrAscends main.body i instr instrs at }

pub ascends : Ascends (code_with (0 ∷ []))
ascends n f there = all_at (λ n g. FnAscends g) (main ∷ []) n f (main_ascends, tt) there

-- ---- the examples

pub compiled : IsCompiledFrom one_object (code_with (0 ∷ []))
compiled = record {
  lowered = one_object_lowered;
  family = family;
  least = least;
  classes = has_classes;
  declared = refl;
  checked = checked;
  ascends = ascends;
}

padded : IsCompiledFrom one_object (code_with (0 ∷ 0 ∷ [])) → ⊥
padded is =
    let main_ascends = is.ascends 0 _ refl in
    let first = main_ascends.body 0 _ refl in
    let less : 0 < 0 = first.creates 0 (ltb-true 1 2 refl) in
    omega (arith, less)

uncreated : IsCompiledFrom one_object (code_with []) → ⊥
uncreated is =
    let kept = is.checked rule.Creations (line.Instr 0 0) _ _ refl refl 0 in
    nothing 0 (kept.1 (
      no_name 0,
      record { variable = 0; used = inr refl; named = refl },
      not_held [] 0 0 (λ e. omega (arith, e)) (λ e. omega (arith, e)),
    ))

pub compiled_examples : CompiledExamples
compiled_examples = record {
  compiled = compiled;
  endless = endless_compiled;
  padded = padded;
  uncreated = uncreated;
  no_page = λ has. has (code_with (0 ∷ [])) compiled (Attend 0 ∷ []) _ refl (0, refl, leb-true 0 0 refl);
  no_region = λ has. has (code_with (0 ∷ [])) compiled [] _ refl (0, 0, _, [], refl, refl, leb-true 0 0 refl);
  one_word =
      λ has. has (code_with (0 ∷ [])) compiled (Attend 0 ∷ []) _ refl (0, _, refl, (_, refl, ltb-true 0 2 refl));
}
