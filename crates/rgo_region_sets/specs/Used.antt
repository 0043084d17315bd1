-- The names that instructions use.
use Rattle.std.specs.Prelude.{◌≡◌, ◌⊎◌, ◌↔◌, ℕ, List, Option, Some, None, option_to_list, Contains}
use Rattle.rgo_tac.specs.declared.regions.Class.{Class}
use Rattle.rgo_tac.specs.declared.regions.Class.TheVariants.{Name, NoClass, Global}
use Rattle.rgo_tac.specs.Code.{Op}
use Rattle.rgo_tac.specs.Flow.{reads, writes}
use Rattle.rgo_code.specs.Code.{CodeInstr, CodeFn}
use Rattle.rgo_code.specs.Names.{UsesRegionName, class_of}

-- the name that a class is, if it is one
abbrev pub name_of : Class → Option ℕ
name_of (Name k) = Some k
name_of NoClass = None
name_of Global = None

-- the instruction, if it exists, uses a variable of class k
abbrev pub UsesName : CodeFn → Option CodeInstr → ℕ → Type 0
UsesName f None k = ⊥
UsesName f (Some instr) k = UsesRegionName f instr.op k

-- the new names are the old ones, and that of the variable
abbrev pub AddsName : CodeFn → (old new : List ℕ) → ℕ → Type 0
AddsName f old new v = (k : ℕ) → Contains new k ↔ (Contains old k ⊎ (class_of f v ≡ Name k))

-- a variable among these has class k
abbrev pub NamesOne : CodeFn → List ℕ → ℕ → Type 0
NamesOne f variables k = (v : ℕ) × Contains variables v × (class_of f v ≡ Name k)

-- the new names are the old ones, and those of the variables
abbrev pub AddsNames : CodeFn → (old new variables : List ℕ) → Type 0
AddsNames f old new variables = (k : ℕ) → Contains new k ↔ (Contains old k ⊎ NamesOne f variables k)

-- the new names are the old ones, and those that the operation uses
abbrev pub AddsUsed : CodeFn → (old new : List ℕ) → Op → Type 0
AddsUsed f old new op =
    (k : ℕ) → Contains new k
    ↔ (Contains old k ⊎ (NamesOne f (reads op) k ⊎ NamesOne f (option_to_list (writes op)) k))
