-- The program of every valid text is well-formed and not too large, its code is typed, and the insertion makes it compiled code. Each
-- is a law of a stage, applied to what the stages before it have returned.
use Rattle.std.proofs.Common.{◌≡◌, ℕ, List, sym, subst, arith}
use Rattle.std.specs.List.{AllByRecursion}
use Rattle.rgo_wellformed.specs.Endings.{Ends}
use Rattle.rgo_wellformed.specs.WellFormed.{IsWellFormed}
use Rattle.rgo_typing_laws.proofs.Programs.{parsed_well}
use Rattle.rgo_size_laws.proofs.Programs.{never_large}
use Rattle.rgo_tac.specs.Code.{Tac}
use Rattle.rgo_lower.specs.Lowered.{IsLowered}
use Rattle.rgo_lower.specs.Sizes.{IsTooLargeToLower}
use Rattle.rgo_lowering_laws.proofs.Programs.{lowered_is_typed}
use Rattle.rgo_classes.specs.declared.classes.Summary.{Summary}
use Rattle.rgo_summaries.specs.Families.{IsLeastFamily}
use Rattle.rgo_code.specs.Checked.{IsChecked}
use Rattle.rgo_code.specs.Code.{Code}
use Rattle.rgo_code.specs.Erasure.{erased}
use Rattle.rgo_code.specs.NameRules.{Ascends}
use Rattle.rgo_code.specs.TypedCode.{IsTypedCode}
use Rattle.rgo_insert.specs.Bare.{nothing_undeclared}
use Rattle.rgo_insert.specs.Inserted.{HasClasses}
use Rattle.rgo_run.specs.Compiled.{IsCompiled}
use Rattle.rgo_run.specs.Programs.{NoProgramIsTooLarge, ProgramsAreWellFormed}
use Rattle.rgo_run.specs.Runs.{IsCodeOf}

pub programs_are_well_formed : ProgramsAreWellFormed
programs_are_well_formed text program h =
    let valid = h.is_well_typed in
    subst (λ p. IsWellFormed p × AllByRecursion Ends p.functions) (sym h.typed)
    (parsed_well valid.is_tree.lexemes h.tree valid.is_tree.parsed.derived valid.unbroken)

pub no_program_is_too_large : NoProgramIsTooLarge
no_program_is_too_large text program h large =
    let tree = h.is_well_typed.is_tree in
    never_large text tree.lexemes h.tree tree.lexed tree.parsed.derived (omega (arith, tree.within))
    (subst IsTooLargeToLower h.typed large)

pub is_typed : (text : List ℕ) (code : Tac) → IsCodeOf text code → IsTypedCode code
is_typed text code is =
    lowered_is_typed is.program code (programs_are_well_formed text is.program is.is_program).0 is.lowered

pub compiled : (text : List ℕ) (tac : Tac) (family : List Summary) (code : Code) → IsCodeOf text tac
    → IsLeastFamily tac family → erased code ≡ tac → code.undeclared ≡ nothing_undeclared → HasClasses family code
    → IsChecked code → Ascends code → IsCompiled text code
compiled text tac family code is least same declared classes checked ascends = record {
  program = is.program;
  is_program = is.is_program;
  from = record {
    lowered = subst (IsLowered is.program) (sym same) is.lowered;
    family = family;
    least = subst (λ t. IsLeastFamily t family) (sym same) least;
    classes = classes;
    declared = declared;
    checked = checked;
    ascends = ascends;
  };
}
