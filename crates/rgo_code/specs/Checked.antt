-- Checked code: each rule is kept at each line of its text.
use Rattle.std.specs.Prelude.{◌≡◌, ◌≢◌, ◌<◌, ℕ, [], Some, slice_get, ⊤}
use Rattle.rgo_typed.specs.declared.programs.Struct.{Struct}
use Rattle.rgo_typed.specs.declared.programs.Variable.{Variable}
use Rattle.rgo_code.specs.declared.rules.Rule.{Rule}
use Rattle.rgo_code.specs.declared.rules.Rule.TheVariants as rule
use Rattle.rgo_code.specs.declared.rules.Line.{Line}
use Rattle.rgo_code.specs.declared.rules.Line.TheVariants as line
use Rattle.rgo_code.specs.Code.{Slot, CodeInstr, CodeFn, Code}
use Rattle.rgo_code.specs.Erasure.{erased_op, erased_fn, erased}
use Rattle.rgo_code.specs.Exists.{InstrExists, StructExists, VariableExists, HeadExists, TypeExists, HasMain}
use Rattle.rgo_code.specs.Types.{IsWellTypedOp}
use Rattle.rgo_code.specs.ClassRules.{SlotClassFitsType, ResultFits, JoinsAgree, GlobalsAgree, ReturnsAgree, CallsPass, StartsPass, EntryIsKnown}
use Rattle.rgo_code.specs.NameRules.{CreatesUsed, ProtectsUsed, RemovesDead, EntryRemovesDead, LendsResult, EntryLendsResult, ReturnsHoldNothing}
use Rattle.rgo_code.specs.Lines.{line_number}

-- ---- what a rule says of each kind of line

-- The rule is kept at instruction i of f. Rules 1 and 2 are about the erased code. Rules 3 and 8 require nothing of instructions: they
-- are about variables, results and the entry.
abbrev pub KeptByInstr : Code → Rule → CodeFn → ℕ → CodeInstr → Type 0
KeptByInstr code rule.Exists f i instr = InstrExists (erased code) (erased_fn f) i (erased_op instr.op)
KeptByInstr code rule.Types f i instr = IsWellTypedOp (erased code) (erased_fn f) (erased_op instr.op)
KeptByInstr code rule.Joins f i instr = JoinsAgree f instr.op
KeptByInstr code rule.Globals f i instr = GlobalsAgree f instr.op
KeptByInstr code rule.Calls f i instr = CallsPass code f instr.op
KeptByInstr code rule.Starts f i instr = StartsPass code f instr.op
KeptByInstr code rule.Creations f i instr = CreatesUsed f i instr
KeptByInstr code rule.Protections f i instr = ProtectsUsed f i instr.op
KeptByInstr code rule.Returns f i instr = ReturnsAgree f instr.op
KeptByInstr code rule.Lending f i instr = LendsResult f i instr
KeptByInstr code rule.Removals f i instr = RemovesDead code f i instr
KeptByInstr code rule.Endings f i instr = ReturnsHoldNothing f i instr instr.op
KeptByInstr code rule.Classes f i instr = ⊤
KeptByInstr code rule.Entry f i instr = ⊤

-- the rule is kept at the line `entry` of f: rule 8, and of rules 12 and 13 what they say of the removals at entry
abbrev pub KeptByEntry : Rule → CodeFn → Type 0
KeptByEntry rule.Entry f = EntryIsKnown f
KeptByEntry rule.Lending f = EntryLendsResult f
KeptByEntry rule.Removals f = EntryRemovesDead f
KeptByEntry other f = ⊤

-- the rule is kept at the line `func` of function n, which has its name, the number of its parameters, and the type and the class of
-- its result
abbrev pub KeptByHead : Code → Rule → ℕ → CodeFn → Type 0
KeptByHead code rule.Exists n f = HeadExists (erased code) n (erased_fn f)
KeptByHead code rule.Classes n f = ResultFits f.result
KeptByHead code other n f = ⊤

-- the rule is kept at the line of a variable of a function
abbrev pub KeptBySlot : Code → Rule → Slot → Type 0
KeptBySlot code rule.Exists s = TypeExists (erased code) s.ty
KeptBySlot code rule.Classes s = SlotClassFitsType s
KeptBySlot code other s = ⊤

-- the rule is kept at the line of the struct of number n; only rule 1 is about structs
abbrev pub KeptByStruct : Code → Rule → ℕ → Struct → Type 0
KeptByStruct code rule.Exists n s = StructExists (erased code) n s
KeptByStruct code other n s = ⊤

-- the rule is kept at the line of the package variable of number n, which has no class: only rule 1 is about it
abbrev pub KeptByVariable : Code → Rule → ℕ → Variable → Type 0
KeptByVariable code rule.Exists n v = VariableExists (erased code) n v
KeptByVariable code other n v = ⊤

-- a function has an instruction
abbrev pub KeptByEnd : Rule → CodeFn → Type 0
KeptByEnd rule.Exists f = f.body ≢ []
KeptByEnd other f = ⊤

-- the rule is kept after the last line, where a missing `main` is reported
abbrev pub KeptAfterLast : Code → Rule → Type 0
KeptAfterLast code rule.Exists = HasMain (erased code)
KeptAfterLast code other = ⊤

-- ---- the rules at lines

-- the rule is kept at the line; at a line that the code does not have, each is
abbrev pub KeptAt : Code → Rule → Line → Type 0
KeptAt code rule (line.Struct n) = (s : Struct) → slice_get code.structs n ≡ Some s → KeptByStruct code rule n s
KeptAt code rule (line.Variable n) = (v : Variable) → slice_get code.variables n ≡ Some v → KeptByVariable code rule n v
KeptAt code rule (line.Function n) = (f : CodeFn) → slice_get code.functions n ≡ Some f → KeptByHead code rule n f
KeptAt code rule (line.Slot n v) =
    (f : CodeFn) (s : Slot) → slice_get code.functions n ≡ Some f → slice_get f.variables v ≡ Some s
    → KeptBySlot code rule s
KeptAt code rule (line.Entry n) = (f : CodeFn) → slice_get code.functions n ≡ Some f → KeptByEntry rule f
KeptAt code rule (line.Instr n i) =
    (f : CodeFn) (instr : CodeInstr) → slice_get code.functions n ≡ Some f → slice_get f.body i ≡ Some instr
    → KeptByInstr code rule f i instr
KeptAt code rule (line.End n) = (f : CodeFn) → slice_get code.functions n ≡ Some f → KeptByEnd rule f
KeptAt code rule line.AfterLast = KeptAfterLast code rule

-- the rule is kept at every line
abbrev pub KeepsRule : Code → Rule → Type 0
KeepsRule code rule = (line : Line) → KeptAt code rule line

-- the code keeps all rules
abbrev pub IsChecked : Code → Type 0
IsChecked code = (rule : Rule) → KeepsRule code rule

-- the number of a rule
abbrev pub rule_number : Rule → ℕ
rule_number rule.Exists = 1
rule_number rule.Types = 2
rule_number rule.Classes = 3
rule_number rule.Joins = 4
rule_number rule.Globals = 5
rule_number rule.Calls = 6
rule_number rule.Starts = 7
rule_number rule.Entry = 8
rule_number rule.Creations = 9
rule_number rule.Protections = 10
rule_number rule.Returns = 11
rule_number rule.Lending = 12
rule_number rule.Removals = 13
rule_number rule.Endings = 14

-- The least rule that is broken anywhere, and the number of the first line that breaks it. The rule comes first, since later rules
-- mean little for code that breaks an earlier one.
pub record IsFirstBroken (code : Code) (broken : Rule) (number : ℕ) : Type 0 where
  pub at : Line
  pub numbered : line_number code at ≡ number
  pub is_broken : KeptAt code broken at → ⊥
  pub least : (lesser : Rule) → rule_number lesser < rule_number broken → KeepsRule code lesser
  pub first : (before : Line) → line_number code before < number → KeptAt code broken before
