-- Notes that say what the rules on creations, passing, protections and removals ask for.
use Rattle.std.specs.Prelude.{◌≡◌, ℕ, List, [], Some, length, slice_get}
use Rattle.rgo_tac.specs.declared.regions.Class.{Class}
use Rattle.rgo_tac.specs.Code.{Op, TacFn, Call, Do, Go, Print, Jump, Branch, Return}
use Rattle.rgo_tac.specs.Ops.{op_in}
use Rattle.rgo_code.specs.declared.notes.Note.{Note}
use Rattle.rgo_code.specs.declared.notes.Regions.{Regions}
use Rattle.rgo_code.specs.Code.{CodeFn}
use Rattle.rgo_code.specs.Erasure.{erased_fn}
use Rattle.rgo_code.specs.Views.{code_fn}
use Rattle.rgo_region_sets.specs.Asked.{AreRemoved, Creates, EntryRemoves, IsGiven, Protects, way}
use Rattle.rgo_region_sets.specs.Sets.{IsSet}
use Rattle.rgo_insert.specs.Passing.{PassesFor}

-- a call protects what the rule asks for, and no other instruction protects any name
abbrev pub ProtectsFor : CodeFn → (at : ℕ) → Op → (passes : List Class) → (protects : List ℕ) → Type 0
ProtectsFor f at (Call to n from) passes protects = IsSet protects (Protects f at passes)
ProtectsFor f at (Do to action from) passes protects = protects ≡ []
ProtectsFor f at (Go n from) passes protects = protects ≡ []
ProtectsFor f at (Print pieces from) passes protects = protects ≡ []
ProtectsFor f at (Jump target) passes protects = protects ≡ []
ProtectsFor f at (Branch test target other) passes protects = protects ≡ []
ProtectsFor f at (Return value) passes protects = protects ≡ []

-- a call leaves these names to its callee, and no other instruction leaves any
abbrev pub GivesFor : List CodeFn → Op → (passes : List Class) → (protects gives : List ℕ) → Type 0
GivesFor functions (Call to n from) passes protects gives =
    IsSet gives (IsGiven (slice_get functions n) passes protects)
GivesFor functions (Do to action from) passes protects gives = gives ≡ []
GivesFor functions (Go n from) passes protects gives = gives ≡ []
GivesFor functions (Print pieces from) passes protects gives = gives ≡ []
GivesFor functions (Jump target) passes protects gives = gives ≡ []
GivesFor functions (Branch test target other) passes protects gives = gives ≡ []
GivesFor functions (Return value) passes protects gives = gives ≡ []

-- the note of instruction `at`, which does this
pub record IsRight (functions : List CodeFn) (f : CodeFn) (at : ℕ) (op : Op) (note : Note) : Type 0 where
  pub creates : IsSet note.creates (Creates f at)
  pub passes : PassesFor functions f op note.passes
  pub protects : ProtectsFor f at op note.passes note.protects
  pub gives : List ℕ
  pub given : GivesFor functions op note.passes note.protects gives
  pub removes : AreRemoved f at gives (way f at 0) note.removes
  pub otherwise : AreRemoved f at gives (way f at 1) note.otherwise

-- the first instructions have such notes
pub record AreRight (functions : List CodeFn) (f : CodeFn) (notes : List Note) (count : ℕ) : Type 0 where
  pub len : length notes ≡ count
  pub each : (at : ℕ) (note : Note) → slice_get notes at ≡ Some note
      → (op : Op) × (op_in (slice_get (erased_fn f).body at) ≡ Some op) × IsRight functions f at op note

-- the same classes, with this entry and these notes
abbrev pub told : Regions → (entry : List ℕ) → (notes : List Note) → Regions
told r entry notes = record { classes = r.classes; result = r.result; entry = entry; notes = notes }

-- the regions of a function are its classes and what the rules ask for
pub record IsFilled (functions : List CodeFn) (f : TacFn) (bare filled : Regions) : Type 0 where
  pub classes : filled.classes ≡ bare.classes
  pub result : filled.result ≡ bare.result
  pub entry : IsSet filled.entry (EntryRemoves (code_fn f bare))
  pub notes : AreRight functions (code_fn f bare) filled.notes (length (erased_fn (code_fn f bare)).body)

-- so are those of all functions
pub record AreFilled (functions : List CodeFn) (code : List TacFn) (bare filled : List Regions) : Type 0 where
  pub len : length filled ≡ length code
  pub each : (n : ℕ) (f : TacFn) (b r : Regions) → slice_get code n ≡ Some f → slice_get bare n ≡ Some b
      → slice_get filled n ≡ Some r → IsFilled functions f b r
