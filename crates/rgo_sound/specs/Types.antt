-- Every value of a run of the three-address machine has the type of its variable or of its cell. The machine has no types at run
-- time. The part of the invariant on pointers uses this once: a variable with a pointer has a pointer-like type, and so a class.
use Rattle.std.specs.Prelude.{List, Some, [], length, map, slice_get, true, ℕ, ◌∷◌, ◌≡◌}
use Rattle.rgo_code.specs.Checked.{IsChecked}
use Rattle.rgo_code.specs.Code.{Call, Code, CodeFn, CodeInstr, CodeOp, Do, Go, Print, Jump, Branch, Return}
use Rattle.rgo_code.specs.Erasure.{erased_fn}
use Rattle.rgo_machine.specs.declared.picks.Pick.{Pick}
use Rattle.rgo_memory.specs.Memory.{Channel, Memory, Object, SliceObject, StructObject}
use Rattle.rgo_memory.specs.declared.values.Value.{Value}
use Rattle.rgo_region_machine.specs.Machine.{plain_step}
use Rattle.rgo_region_machine.specs.Owed.{current, function_at, code_function}
use Rattle.rgo_tac.specs.Frames.{TacFrame}
use Rattle.rgo_tac.specs.Tac.{TacState}
use Rattle.rgo_typed.specs.Types.{is_pointer_like}
use Rattle.rgo_typed.specs.declared.programs.Struct.{Struct}
use Rattle.rgo_typed.specs.declared.programs.Variable.{Variable}
use Rattle.rgo_typed.specs.declared.types.Type.{«Type»}
use Rattle.rgo_wellformed.specs.TypeRules.{bool, chan_of, int, pointer_to, slice_of}
use Rattle.rgo_memory.specs.declared.values.Value.TheVariants as value

-- P holds of each element of a list
abbrev pub Each : {X : Type 0} → (X → Type 0) → List X → Type 0
Each P [] = Unit {0}
Each P (x ∷ xs) = P x × Each P xs

-- `kinds` is the type of a pointer to each object, chosen when the object is made: a struct's cells alone do not show its type
abbrev pub HasKind : List «Type» → «Type» → Value → Type 0
HasKind kinds ty (value.Int i) = ty ≡ int
HasKind kinds ty (value.Bool b) = ty ≡ bool
HasKind kinds ty value.Nil = is_pointer_like ty ≡ true
HasKind kinds ty (value.Object o) = (slice_get kinds o ≡ Some ty) × (is_pointer_like ty ≡ true)

abbrev pub HaveKinds : List «Type» → List «Type» → List Value → Type 0
HaveKinds kinds [] [] = Unit {0}
HaveKinds kinds [] (v ∷ vs) = ⊥
HaveKinds kinds (ty ∷ tys) [] = ⊥
HaveKinds kinds (ty ∷ tys) (v ∷ vs) = HasKind kinds ty v × HaveKinds kinds tys vs

-- the contents of an object have the types that its own type asks for
abbrev pub ObjectFits : List Struct → List «Type» → «Type» → Object → Type 0
ObjectFits structs kinds ty (StructObject cells) =
    (n : ℕ) × (ty ≡ pointer_to n) × (s : Struct) × (slice_get structs n ≡ Some s) × HaveKinds kinds s.fields cells
ObjectFits structs kinds ty (SliceObject cells) =
    (e : «Type») × (ty ≡ slice_of e) × Each (HasKind kinds e) cells
ObjectFits structs kinds ty (Channel capacity queue closed) =
    (e : «Type») × (ty ≡ chan_of e) × Each (HasKind kinds e) queue

-- each object and each package variable fits its type
pub record MemoryFits (code : Code) (kinds : List «Type») (m : Memory) : Type 0 where
  pub objects : (o : ℕ) (object : Object) → slice_get m.heap o ≡ Some object
      → (ty : «Type») × (slice_get kinds o ≡ Some ty) × ObjectFits code.structs kinds ty object
  pub no_more : length kinds ≡ length m.heap
  pub variables : HaveKinds kinds (map (λ (v : Variable). v.ty) code.variables) m.variables

-- each variable of a frame has its type
abbrev pub FrameFits : Code → List «Type» → TacFrame → Type 0
FrameFits code kinds frame = (fn : CodeFn) × (function_at code frame ≡ Some fn)
    × HaveKinds kinds (erased_fn fn).variables frame.variables

-- A caller waits at its call of the function above it, so the value that comes back has the type of the variable that waits for it.
abbrev pub IsCallOf : Code → CodeOp → CodeFn → Type 0
IsCallOf code (Call to n from passes protects removes) fn = code_function code n ≡ Some fn
IsCallOf code (Do to action from removes) fn = ⊥
IsCallOf code (Go n from passes removes) fn = ⊥
IsCallOf code (Print pieces from removes) fn = ⊥
IsCallOf code (Jump target removes) fn = ⊥
IsCallOf code (Branch test target removes other otherwise) fn = ⊥
IsCallOf code (Return value) fn = ⊥

abbrev pub CalledFrom : Code → TacFrame → List TacFrame → Type 0
CalledFrom code frame [] = Unit {0}
CalledFrom code frame (caller ∷ callers) = (fn : CodeFn) × (function_at code frame ≡ Some fn) × (call : CodeInstr)
    × (current code caller ≡ Some call) × IsCallOf code call.op fn

abbrev pub FramesHaveKinds : Code → List «Type» → List TacFrame → Type 0
FramesHaveKinds code kinds [] = Unit {0}
FramesHaveKinds code kinds (frame ∷ callers) = FrameFits code kinds frame × CalledFrom code frame callers
    × FramesHaveKinds code kinds callers

-- each value has its type
pub record AreValuesTyped (code : Code) (p : TacState) : Type 0 where
  pub kinds : List «Type»
  pub memory : MemoryFits code kinds p.memory
  pub frames : (g : ℕ) (frames : List TacFrame) → slice_get p.goroutines g ≡ Some frames
      → FramesHaveKinds code kinds frames

-- each step of the three-address machine keeps it
abbrev pub TypesKeep : Type 0
TypesKeep = (code : Code) (p q : TacState) (pick : Pick) → IsChecked code → AreValuesTyped code p → plain_step code p pick
    ≡ Some q → AreValuesTyped code q
