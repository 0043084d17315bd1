-- Loads and stores that are the next instruction of a goroutine, by its record. Code needs only the word; which of the instructions it is,
-- the record shows.
use Rattle.std.specs.Option.{option_map_or}
use Rattle.std.specs.Prelude.{◌≡◌, ◌+◌, ℕ, suc, List, [], ◌∷◌, Some, None}
use Rattle.rgo_sound.specs.Code.Code.{Do}
use Rattle.rgo_sound.specs.Typed.declared.actions.Action.TheVariants as action
use Rattle.rgo_sound.specs.Typed.declared.types.Type.{«Type»}
use Rattle.rgo_sound.specs.WellFormed.TypeRules.{int}
use Rattle.rgo_core.specs.Frames.shown.WordFrames.{frame_word}
use Rattle.rgo_core.specs.Memory.Words.{base, variable_at}
use Rattle.rgo_core.specs.moves.Cells.{IsElementAt, IsFieldAt, IsInSlice}
use Rattle.rgo_core.specs.ties.Bounds.{target_type}
use Rattle.rgo_core.specs.Core.{Setup, layout}
use Rattle.rgo_core.specs.Next.{IsAtOp}
use Rattle.rgo_core.specs.Records.{Record}
use Rattle.rgo_core_steps.specs.After.{Position, given, position}

-- the type of the variable to which the next instruction writes a word
abbrev pub given_type : Setup → Record → «Type»
given_type T c = option_map_or (λ (p : Position). target_type T p.w (given p.instr.op)) (position T.code c) int

-- the next instruction loads this word: a field, an element, a length or a package variable
pub data Loads (T : Setup) (c : Record) (word : ℕ) : Type 0 where
  Field : (d k p address : ℕ) (removes : List ℕ) (a : IsAtOp T.code c (Do (Some d) (action.Load k) (p ∷ []) removes))
      → frame_word a.w p ≡ suc address → IsFieldAt T c a p address k word → Loads T c word
  Element : (d p q address : ℕ) (removes : List ℕ) (a : IsAtOp T.code c (Do (Some d) action.At (p ∷ q ∷ []) removes))
      → frame_word a.w p ≡ suc address → (inside : IsInSlice c address (frame_word a.w q))
      → IsElementAt T c address (frame_word a.w q) inside word → Loads T c word
  Length : (d p address : ℕ) (removes : List ℕ) (a : IsAtOp T.code c (Do (Some d) action.Len (p ∷ []) removes))
      → frame_word a.w p ≡ suc address → word ≡ base (layout T) + address → Loads T c word
  Variable : (d k : ℕ) (removes : List ℕ) → IsAtOp T.code c (Do (Some d) (action.Get k) [] removes)
      → word ≡ variable_at (layout T) k → Loads T c word

-- the next instruction stores this value to this word: a field, an element or a package variable
pub data Stores (T : Setup) (c : Record) (word value : ℕ) : Type 0 where
  ToField : (k p q address : ℕ) (removes : List ℕ) (a : IsAtOp T.code c (Do None (action.Store k) (p ∷ q ∷ []) removes))
      → frame_word a.w p ≡ suc address → IsFieldAt T c a p address k word → value ≡ frame_word a.w q → Stores T c word value
  ToElement : (p q r address : ℕ) (removes : List ℕ) (a : IsAtOp T.code c (Do None action.Put (p ∷ q ∷ r ∷ []) removes))
      → frame_word a.w p ≡ suc address → (inside : IsInSlice c address (frame_word a.w q))
      → IsElementAt T c address (frame_word a.w q) inside word → value ≡ frame_word a.w r → Stores T c word value
  ToVariable : (k q : ℕ) (removes : List ℕ) (a : IsAtOp T.code c (Do None (action.Set k) (q ∷ []) removes))
      → word ≡ variable_at (layout T) k → value ≡ frame_word a.w q → Stores T c word value

-- the next instruction takes the length of nil
pub record LengthOfNil (T : Setup) (c : Record) : Type 0 where
  pub d : ℕ
  pub p : ℕ
  pub removes : List ℕ
  pub here : IsAtOp T.code c (Do (Some d) action.Len (p ∷ []) removes)
  pub nil : frame_word here.w p ≡ 0
