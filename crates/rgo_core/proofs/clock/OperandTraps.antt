-- Traps that follow from the operands of an instruction: their words show the values on which the machine's action traps.
use Rattle.std.proofs.Common.{◌≡◌, ◌⊎◌, inl, inr, ℕ, ◌<◌, ◌≤◌, ◌^◌, ℤ, pos, negsuc, List, [], ◌∷◌, Option, Some, None, Err, map, refl, ap, subst, ◌∙◌, arith, w64, Contains}
use Rattle.std.specs.Int.{cast_signed}
use Rattle.rgo_sound.specs.Ast.declared.ops.BinaryOp.{BinaryOp}
use Rattle.rgo_sound.specs.Ast.declared.ops.BinaryOp.TheVariants.{Div, Rem}
use Rattle.rgo_sound.specs.Code.Code.{Do}
use Rattle.rgo_sound.specs.Code.Erasure.{erased, erased_fn, erased_op}
use Rattle.rgo_sound.specs.Code.Types.{DoFits, VariableHasType}
use Rattle.rgo_sound.specs.Machine.declared.picks.End.TheVariants as the_end
use Rattle.rgo_sound.specs.Machine.declared.picks.Pick.TheVariants.{One}
use Rattle.rgo_sound.specs.Memory.Effects.{Traps, answered}
use Rattle.rgo_sound.specs.Memory.Memory.{Memory}
use Rattle.rgo_sound.specs.Memory.Operators.{binary_of}
use Rattle.rgo_sound.specs.Memory.declared.traps.Trap.TheVariants.{BadSize, DivideZero, NilPointer}
use Rattle.rgo_sound.specs.Memory.declared.values.Value.{Value}
use Rattle.rgo_sound.specs.Memory.declared.values.Value.TheVariants as value
use Rattle.rgo_sound.specs.RegionMachine.Instructions.{mark_with_end}
use Rattle.rgo_sound.specs.RegionMachine.Machine.{Instruct}
use Rattle.rgo_sound.proofs.steps.Acting.{performed, trap_place}
use Rattle.rgo_sound.proofs.Places.{contains_here, contains_there}
use Rattle.rgo_sound.specs.Tac.Code.{Tac, TacFn}
use Rattle.rgo_sound.specs.Tac.Flow.{reads}
use Rattle.rgo_sound.specs.Tac.Frames.{value_at, operand_values}
use Rattle.rgo_sound.specs.Tac.Steps.{destination_type}
use Rattle.rgo_sound.specs.Typed.declared.actions.Action.{Action}
use Rattle.rgo_sound.specs.Typed.declared.actions.Action.TheVariants as action
use Rattle.rgo_sound.specs.Typed.declared.programs.Struct.{Struct}
use Rattle.rgo_sound.specs.Typed.declared.types.Type.{«Type»}
use Rattle.rgo_sound.specs.WellFormed.TypeRules.{Computes, int, pointer_to}
use Rattle.rgo_core_frames.proofs.goroutines.Ending.{trap_law}
use Rattle.rgo_core_frames.specs.steps.Bookkept.{RegionStepsTo}
use Rattle.rgo_core_frames.specs.shown.WordFrames.{frame_word as word_of_frame}
use Rattle.rgo_core.specs.Core.{Situation, Setup}
use Rattle.rgo_core.specs.Next.{IsAtOp}
use Rattle.rgo_core.specs.moves.OperandTraps.{DivideTrapMove, LoadTrapMove, SizeTrapMove, StoreTrapMove}
use Rattle.rgo_core.specs.Records.{Record, frame_of}
use Rattle.rgo_core.proofs.accesses.Accesses.{load_takes, store_takes}
use Rattle.rgo_core.proofs.accesses.ElementTraps.{index_of}
use Rattle.rgo_core.proofs.accesses.Elements.{second_type}
use Rattle.rgo_core.proofs.image.Encodings.{small_int}
use Rattle.rgo_core.proofs.new_objects.MakesObject.{channel_takes, first_type, slice_takes}
use Rattle.rgo_core.proofs.steps.Operands as operands
use Rattle.rgo_core.proofs.image.Standing.{at_instruction, frames_here}
use Rattle.rgo_core.proofs.clock.Traps.{by_ends, traps_so}

-- ---- a field of nil

pub load_trap_move : LoadTrapMove
load_trap_move T g c d k p removes a rests nil = by_ends T g c NilPointer a.instr.place (λ x.
    let rule = operands.rule x (Some d) (action.Load k) (p ∷ []) removes a in
    let t = load_takes (erased T.code) (erased_fn a.fn) d k rule.0 rule.2 in
    let n = operands.nil_there x (Some d) (action.Load k) (p ∷ []) removes a p (pointer_to t.0) (contains_here p [])
    (first_type (erased_fn a.fn) p [] rule.0 (pointer_to t.0) [] t.1 rule.1) refl nil in
    traps_so x NilPointer a.instr.place
    (trap_law (at_instruction x a) (Some d) (action.Load k) (p ∷ []) removes NilPointer a.is
    (ap (λ (v : Value). performed T.code.structs (action.Load k)
    (destination_type (erased T.code) (at_instruction x a).before.frame (Some d)) (v ∷ []) x.s.plain.memory) n))
    rests a (λ z. z))

pub store_trap_move : StoreTrapMove
store_trap_move T g c k p q removes a rests nil = by_ends T g c NilPointer a.instr.place (λ x.
    let rule = operands.rule x None (action.Store k) (p ∷ q ∷ []) removes a in
    let t = store_takes (erased T.code) (erased_fn a.fn) k rule.0 rule.2 in
    let n = operands.nil_there x None (action.Store k) (p ∷ q ∷ []) removes a p (pointer_to t.0) (contains_here p (q ∷ []))
    (first_type (erased_fn a.fn) p (q ∷ []) rule.0 (pointer_to t.0) (t.1 ∷ []) t.2 rule.1) refl nil in
    traps_so x NilPointer a.instr.place
    (trap_law (at_instruction x a) None (action.Store k) (p ∷ q ∷ []) removes NilPointer a.is
    (ap (λ (v : Value). performed T.code.structs (action.Store k)
    (destination_type (erased T.code) (at_instruction x a).before.frame None)
    (v ∷ value_at (at_instruction x a).before.frame q ∷ []) x.s.plain.memory) n))
    rests a (λ z. z))

-- ---- a division by zero

divides : (op : BinaryOp) → (op ≡ Div) ⊎ (op ≡ Rem) → (z : ℤ) → binary_of op (value.Int z) (value.Int (pos 0)) ≡ Err DivideZero
divides op (inl e) z = ap (λ (o : BinaryOp). binary_of o (value.Int z) (value.Int (pos 0))) e
divides op (inr e) z = ap (λ (o : BinaryOp). binary_of o (value.Int z) (value.Int (pos 0))) e

divide_takes : (code : Tac) (f : TacFn) (op : BinaryOp) → (op ≡ Div) ⊎ (op ≡ Rem) → (d : ℕ) (tys : List «Type»)
    → DoFits code f (Some d) (action.Binary op) tys → tys ≡ int ∷ int ∷ []
divide_takes code f op (inl e) d tys fits = let r : Computes Div tys fits.0 = subst (λ (o : BinaryOp). Computes o tys fits.0) e fits.2 in r.0
divide_takes code f op (inr e) d tys fits = let r : Computes Rem tys fits.0 = subst (λ (o : BinaryOp). Computes o tys fits.0) e fits.2 in r.0

module _ {T : Setup} {g : ℕ} {c : Record} (x : Situation T g c) (op : BinaryOp) (d p q : ℕ) (removes : List ℕ)
    (a : IsAtOp T.code c (Do (Some d) (action.Binary op) (p ∷ q ∷ []) removes)) (divide : (op ≡ Div) ⊎ (op ≡ Rem))
    (zero : word_of_frame a.w q ≡ 0) where
  abbrev read : Contains (reads (erased_op (Do (Some d) (action.Binary op) (p ∷ q ∷ []) removes))) q
  read = contains_there p (q ∷ []) q (contains_here q [])

  types_are : (operands.rule x (Some d) (action.Binary op) (p ∷ q ∷ []) removes a).0 ≡ int ∷ int ∷ []
  types_are = divide_takes (erased T.code) (erased_fn a.fn) op divide d (operands.rule x (Some d) (action.Binary op) (p ∷ q ∷ []) removes a).0
      (operands.rule x (Some d) (action.Binary op) (p ∷ q ∷ []) removes a).2

  dividend : value_at (at_instruction x a).before.frame p ≡ value.Int (cast_signed w64 (word_of_frame a.w p))
  dividend = operands.int_there x (Some d) (action.Binary op) (p ∷ q ∷ []) removes a p int (contains_here p (q ∷ []))
      (first_type (erased_fn a.fn) p (q ∷ []) (operands.rule x (Some d) (action.Binary op) (p ∷ q ∷ []) removes a).0 int (int ∷ []) types_are
      (operands.rule x (Some d) (action.Binary op) (p ∷ q ∷ []) removes a).1) refl

  divisor : value_at (at_instruction x a).before.frame q ≡ value.Int (pos 0)
  divisor =
      operands.int_there x (Some d) (action.Binary op) (p ∷ q ∷ []) removes a q int read
      (second_type (erased_fn a.fn) p q [] (operands.rule x (Some d) (action.Binary op) (p ∷ q ∷ []) removes a).0 int int [] types_are
      (operands.rule x (Some d) (action.Binary op) (p ∷ q ∷ []) removes a).1) refl
      ∙ ap (λ z. value.Int z) (ap (cast_signed w64) zero ∙ small_int 0 (omega arith))

  divide_traps : performed T.code.structs (action.Binary op) (destination_type (erased T.code) (at_instruction x a).before.frame (Some d))
      (operand_values (at_instruction x a).before.frame (p ∷ q ∷ [])) x.s.plain.memory ≡ Some (Traps DivideZero)
  divide_traps =
      (λ j. performed T.code.structs (action.Binary op) (destination_type (erased T.code) (at_instruction x a).before.frame (Some d))
      (dividend j ∷ divisor j ∷ []) x.s.plain.memory)
      ∙ ap (λ r. Some (answered x.s.plain.memory r)) (divides op divide (cast_signed w64 (word_of_frame a.w p)))

pub divide_trap_move : DivideTrapMove
divide_trap_move T g c op d p q removes a divide rests zero = by_ends T g c DivideZero a.instr.place (λ x.
    traps_so x DivideZero a.instr.place
    (trap_law (at_instruction x a) (Some d) (action.Binary op) (p ∷ q ∷ []) removes DivideZero a.is (divide_traps x op d p q removes a divide zero))
    rests a (λ z. z))

-- ---- a negative size

negative : (w : ℕ) → w < 2 ^ 64 → 2 ^ 63 ≤ w → (n : ℕ) × (cast_signed w64 w ≡ negsuc n)
negative w small large = by (cast_signed w64 w) refl
  where
    by : (z : ℤ) → cast_signed w64 w ≡ z → (n : ℕ) × (cast_signed w64 w ≡ negsuc n)
    by (pos n) e = let i = index_of w n small e in let is = i.0 in let low = i.1 in absurd (omega (arith, is, low, large))
    by (negsuc n) e = (n, e)

abbrev IsSized : Action → Type 0
IsSized act = (act ≡ action.Slice) ⊎ (act ≡ action.Chan)

size_takes : (code : Tac) (f : TacFn) (to : Option ℕ) (act : Action) (tys : List «Type») → IsSized act → DoFits code f to act tys → tys ≡ int ∷ []
size_takes code f to act tys (inl e) fits = slice_takes code f to tys (subst (λ (a : Action). DoFits code f to a tys) e fits)
size_takes code f to act tys (inr e) fits = channel_takes code f to tys (subst (λ (a : Action). DoFits code f to a tys) e fits)

size_traps : (structs : List Struct) (act : Action) (ty : «Type») (m : Memory) (n : ℕ) → IsSized act
    → performed structs act ty (value.Int (negsuc n) ∷ []) m ≡ Some (Traps BadSize)
size_traps structs act ty m n (inl e) = ap (λ (a : Action). performed structs a ty (value.Int (negsuc n) ∷ []) m) e
size_traps structs act ty m n (inr e) = ap (λ (a : Action). performed structs a ty (value.Int (negsuc n) ∷ []) m) e

size_place : (act : Action) (place : ℕ) → IsSized act → trap_place act place ≡ place
size_place act place (inl e) = ap (λ (a : Action). trap_place a place) e
size_place act place (inr e) = ap (λ (a : Action). trap_place a place) e

module _ {T : Setup} {g : ℕ} {c : Record} (x : Situation T g c) (act : Action) (d p : ℕ) (removes : List ℕ)
    (a : IsAtOp T.code c (Do (Some d) act (p ∷ []) removes)) (sized : IsSized act) (large : 2 ^ 63 ≤ word_of_frame a.w p) where
  size_typed : VariableHasType (erased_fn a.fn) p int
  size_typed =
      let rule = operands.rule x (Some d) act (p ∷ []) removes a in
      first_type (erased_fn a.fn) p [] rule.0 int [] (size_takes (erased T.code) (erased_fn a.fn) (Some d) act rule.0 sized rule.2) rule.1

  size_negative : (n : ℕ) × (cast_signed w64 (word_of_frame a.w p) ≡ negsuc n)
  size_negative = negative (word_of_frame a.w p)
      (operands.int_small x (Some d) act (p ∷ []) removes a p int (contains_here p []) size_typed refl) large

  size_is : value_at (at_instruction x a).before.frame p ≡ value.Int (negsuc size_negative.0)
  size_is =
      operands.int_there x (Some d) act (p ∷ []) removes a p int (contains_here p []) size_typed refl
      ∙ ap (λ z. value.Int z) size_negative.1

  size_step : RegionStepsTo (frames_here x) (Instruct (One g)) x.s.regions (mark_with_end x.s.mark (Some (the_end.Trap BadSize a.instr.place)))
      (map frame_of x.recs)
  size_step =
      subst
      (λ place. RegionStepsTo (frames_here x) (Instruct (One g)) x.s.regions (mark_with_end x.s.mark (Some (the_end.Trap BadSize place))) (map frame_of x.recs))
      (size_place act a.instr.place sized)
      (trap_law (at_instruction x a) (Some d) act (p ∷ []) removes BadSize a.is
      (ap (λ (v : Value). performed T.code.structs act (destination_type (erased T.code) (at_instruction x a).before.frame (Some d)) (v ∷ [])
      x.s.plain.memory) size_is
      ∙ size_traps T.code.structs act (destination_type (erased T.code) (at_instruction x a).before.frame (Some d)) x.s.plain.memory size_negative.0 sized))

pub size_trap_move : SizeTrapMove
size_trap_move T g c act d p removes a sized rests large = by_ends T g c BadSize a.instr.place (λ x.
    traps_so x BadSize a.instr.place (size_step x act d p removes a sized large) rests a (λ z. z))
