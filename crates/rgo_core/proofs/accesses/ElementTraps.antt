-- Accesses to elements that trap. The length that was read is the slice's still (`Links`), so the machine's own test of the index fails
-- in the state of the access.
use Rattle.std.proofs.Common.{◌≡◌, inl, inr, ℕ, suc, ◌+◌, ◌<◌, ◌≤◌, ◌^◌, nat_lt, Bool, false, FitsSigned, ℤ, pos, negsuc, List, [], ◌∷◌, Option, Some, None, Result, Err, length, if◌then◌else◌, slice_get, slice_set, slice_index, refl, ap, sym, subst, ◌∙◌, arith, w64, Contains}
use Rattle.std.proofs.lemmas.Bool.Decides.{nat_tests}
use Rattle.std.proofs.lemmas.Int.{of_z-to_z}
use Rattle.std.proofs.lemmas.Option.{slice_get_past}
use Rattle.std.specs.Int.{cast_signed, cast_unsigned}
use borrow.Author.Gap.{read_sfits}
use Rattle.rgo_sound.specs.Code.Code.{Do}
use Rattle.rgo_sound.specs.Code.Erasure.{erased, erased_fn, erased_op}
use Rattle.rgo_sound.specs.Code.Types.{VariableHasType}
use Rattle.rgo_sound.specs.Memory.Effects.{Does as DoesSo, Outcome, Traps, answered, in_memory, to_object}
use Rattle.rgo_sound.specs.Memory.Elements.{element, element_in, or_out_of_range, put_in}
use Rattle.rgo_sound.specs.Memory.Memory.{Object, SliceObject}
use Rattle.rgo_sound.specs.Memory.declared.traps.Trap.{Trap}
use Rattle.rgo_sound.specs.Memory.declared.traps.Trap.TheVariants.{IndexRange}
use Rattle.rgo_sound.specs.Memory.declared.values.Value.{Value}
use Rattle.rgo_sound.specs.Memory.declared.values.Value.TheVariants as value
use Rattle.rgo_sound.proofs.steps.Acting.{performed}
use Rattle.rgo_sound.proofs.Places.{contains_here, contains_there}
use Rattle.rgo_sound.specs.Tac.Flow.{reads}
use Rattle.rgo_sound.specs.Tac.Frames.{value_at, operand_values}
use Rattle.rgo_sound.specs.Tac.Steps.{destination_type}
use Rattle.rgo_sound.specs.Typed.declared.actions.Action.{Action}
use Rattle.rgo_sound.specs.Typed.declared.actions.Action.TheVariants as action
use Rattle.rgo_sound.specs.Typed.declared.types.Type.{«Type»}
use Rattle.rgo_sound.specs.WellFormed.TypeRules.{int, slice_of}
use Rattle.rgo_core_frames.proofs.goroutines.Ending.{trap_law}
use Rattle.rgo_core_frames.specs.shown.WordFrames.{frame_word as word_of_frame}
use Rattle.rgo_core_memory.specs.Words.{base}
use Rattle.rgo_core.specs.Core.{Situation, Setup, layout}
use Rattle.rgo_core.specs.moves.ElementTraps.{AtTrapMove, HasNoElement, IsOutside, PutTrapMove}
use Rattle.rgo_core.specs.Next.{IsAtOp}
use Rattle.rgo_core.specs.Records.{Record}
use Rattle.rgo_core.proofs.accesses.Elements.{second_type}
use Rattle.rgo_core.proofs.image.Encodings.{small_word}
use Rattle.rgo_core.proofs.new_objects.MakesObject.{first_type}
use Rattle.rgo_core.proofs.steps.Operands as operands
use Rattle.rgo_core.proofs.accesses.Slices as slices
use Rattle.rgo_core.proofs.image.Standing.{at_instruction}
use Rattle.rgo_core.proofs.clock.Traps.{by_ends, traps_so}

-- ---- indices

pub index_of : (w n : ℕ) → w < 2 ^ 64 → cast_signed w64 w ≡ pos n → (n ≡ w) × (n < 2 ^ 63)
index_of w n small e =
    let f : FitsSigned w64 (pos n) = subst (FitsSigned w64) e (read_sfits w64 w) in
    let low : n < 2 ^ 63 = omega (arith, f.sfits) in
    (sym (small_word n low) ∙ (ap (cast_unsigned w64) (sym e) ∙ of_z-to_z w64 w (omega (arith, small))), low)

no_element : (cells : List Value) (z : ℤ) → ((n : ℕ) → z ≡ pos n → length cells ≤ n) → element cells z ≡ Err IndexRange
no_element cells (pos n) h = ap or_out_of_range (slice_get_past cells n (h n refl))
no_element cells (negsuc n) h = refl

no_put : (cells : List Value) (z : ℤ) (v : Value) → ((n : ℕ) → z ≡ pos n → length cells ≤ n)
    → put_in z v (SliceObject cells) ≡ Traps IndexRange
no_put cells (pos n) v h = let l = h n refl in by (nat_lt n (length cells)) (grind (arith, nat_tests, l))
  where
    by : (b : Bool) → b ≡ false
        → ◌≡◌ {A = Outcome Object} (if b then DoesSo (SliceObject (slice_set cells n v)) value.Nil else Traps IndexRange) (Traps IndexRange)
    by b e = rw e refl
no_put cells (negsuc n) v h = refl

-- ---- the operands

module _ {T : Setup} {g : ℕ} {c : Record} (x : Situation T g c) (to : Option ℕ) (act : Action) (p q : ℕ) (others removes : List ℕ)
    (a : IsAtOp T.code c (Do to act (p ∷ q ∷ others) removes)) (u : «Type») (tys : List «Type»)
    (types_are : (operands.rule x to act (p ∷ q ∷ others) removes a).0 ≡ slice_of u ∷ int ∷ tys)
    (reads_slice : Contains (reads (erased_op (Do to act (p ∷ q ∷ others) removes))) p)
    (reads_index : Contains (reads (erased_op (Do to act (p ∷ q ∷ others) removes))) q) where
  abbrev index : ℤ
  index = cast_signed w64 (word_of_frame a.w q)

  index_typed : VariableHasType (erased_fn a.fn) q int
  index_typed = second_type (erased_fn a.fn) p q others (operands.rule x to act (p ∷ q ∷ others) removes a).0 (slice_of u) int tys types_are
      (operands.rule x to act (p ∷ q ∷ others) removes a).1

  index_is : value_at (at_instruction x a).before.frame q ≡ value.Int index
  index_is = operands.int_there x to act (p ∷ q ∷ others) removes a q int reads_index index_typed refl

  nil_is : word_of_frame a.w p ≡ 0 → value_at (at_instruction x a).before.frame p ≡ value.Nil
  nil_is = operands.nil_there x to act (p ∷ q ∷ others) removes a p (slice_of u) reads_slice
      (first_type (erased_fn a.fn) p (q ∷ others) (operands.rule x to act (p ∷ q ∷ others) removes a).0 (slice_of u) (int ∷ tys) types_are
      (operands.rule x to act (p ∷ q ∷ others) removes a).1) refl

  word_small : word_of_frame a.w q < 2 ^ 64
  word_small = operands.int_small x to act (p ∷ q ∷ others) removes a q int reads_index index_typed refl

  module _ (at : ℕ) (points : word_of_frame a.w p ≡ suc at) (outside : IsOutside c at (word_of_frame a.w q)) where
    abbrev it : ℕ
    it = (slices.it x to act p (q ∷ others) removes a u (int ∷ tys) types_are reads_slice at points).object

    slice_is : value_at (at_instruction x a).before.frame p ≡ value.Object it
    slice_is = (slices.it x to act p (q ∷ others) removes a u (int ∷ tys) types_are reads_slice at points).is

    abbrev cells : List Value
    cells = (slices.slice_there x to act p (q ∷ others) removes a u (int ∷ tys) types_are reads_slice at points).0

    there : slice_get x.s.plain.memory.heap it ≡ Some (SliceObject cells)
    there = (slices.slice_there x to act p (q ∷ others) removes a u (int ∷ tys) types_are reads_slice at points).1

    beyond : (n : ℕ) → index ≡ pos n → length cells ≤ n
    beyond n e =
        let k = (x.core.links g c x.is_c).knows outside.measured outside.read in
        let w = ap (λ n. slice_index x.words (base (layout T) + n)) (sym outside.its) ∙ k.still outside.now in
        let l = slices.length_word x to act p (q ∷ others) removes a u (int ∷ tys) types_are reads_slice at points in
        let same : length cells ≡ outside.measured.elements = sym l ∙ w in
        let i = (index_of (word_of_frame a.w q) n word_small e).0 in
        let b = outside.beyond in omega (arith, same, i, b)

-- ---- a load

module _ {T : Setup} {g : ℕ} {c : Record} (x : Situation T g c) (d p q : ℕ) (removes : List ℕ)
    (a : IsAtOp T.code c (Do (Some d) action.At (p ∷ q ∷ []) removes)) where
  types_of : (u : «Type») × ((operands.rule x (Some d) action.At (p ∷ q ∷ []) removes a).0 ≡ slice_of u ∷ int ∷ [])
  types_of = slices.at_takes (erased T.code) (erased_fn a.fn) d (operands.rule x (Some d) action.At (p ∷ q ∷ []) removes a).0
      (operands.rule x (Some d) action.At (p ∷ q ∷ []) removes a).2

  abbrev first_read : Contains (reads (erased_op (Do (Some d) action.At (p ∷ q ∷ []) removes))) p
  first_read = contains_here p (q ∷ [])

  abbrev second_read : Contains (reads (erased_op (Do (Some d) action.At (p ∷ q ∷ []) removes))) q
  second_read = contains_there p (q ∷ []) q (contains_here q [])

  abbrev ty : «Type»
  ty = destination_type (erased T.code) (at_instruction x a).before.frame (Some d)

  int_is : value_at (at_instruction x a).before.frame q ≡ value.Int (cast_signed w64 (word_of_frame a.w q))
  int_is = index_is x (Some d) action.At p q [] removes a types_of.0 [] types_of.1 first_read second_read

  load_traps : HasNoElement c a.w p q
      → performed T.code.structs action.At ty (operand_values (at_instruction x a).before.frame (p ∷ q ∷ [])) x.s.plain.memory ≡ Some (Traps IndexRange)
  load_traps (inl nil) =
      let n = nil_is x (Some d) action.At p q [] removes a types_of.0 [] types_of.1 first_read second_read nil in
      λ j. performed T.code.structs action.At ty (n j ∷ int_is j ∷ []) x.s.plain.memory
  load_traps (inr s) =
      let o = it x (Some d) action.At p q [] removes a types_of.0 [] types_of.1 first_read second_read s.0 s.1 s.2 in
      let is = slice_is x (Some d) action.At p q [] removes a types_of.0 [] types_of.1 first_read second_read s.0 s.1 s.2 in
      (λ j. performed T.code.structs action.At ty (is j ∷ int_is j ∷ []) x.s.plain.memory)
      ∙ (ap (λ (y : Option Object). Some (answered x.s.plain.memory (element_in y (cast_signed w64 (word_of_frame a.w q)))))
      (there x (Some d) action.At p q [] removes a types_of.0 [] types_of.1 first_read second_read s.0 s.1 s.2)
      ∙ ap (λ (y : Result Value Trap). Some (answered x.s.plain.memory y))
      (no_element (cells x (Some d) action.At p q [] removes a types_of.0 [] types_of.1 first_read second_read s.0 s.1 s.2)
      (cast_signed w64 (word_of_frame a.w q))
      (beyond x (Some d) action.At p q [] removes a types_of.0 [] types_of.1 first_read second_read s.0 s.1 s.2)))

pub at_trap_move : AtTrapMove
at_trap_move T g c d p q removes a rests none = by_ends T g c IndexRange a.instr.place (λ x.
    traps_so x IndexRange a.instr.place
    (trap_law (at_instruction x a) (Some d) action.At (p ∷ q ∷ []) removes IndexRange a.is (load_traps x d p q removes a none)) rests a (λ z. z))

-- ---- a store

module _ {T : Setup} {g : ℕ} {c : Record} (x : Situation T g c) (p q r : ℕ) (removes : List ℕ)
    (a : IsAtOp T.code c (Do None action.Put (p ∷ q ∷ r ∷ []) removes)) where
  put_types : (u : «Type») × ((operands.rule x None action.Put (p ∷ q ∷ r ∷ []) removes a).0 ≡ slice_of u ∷ int ∷ u ∷ [])
  put_types = slices.put_takes (erased T.code) (erased_fn a.fn) (operands.rule x None action.Put (p ∷ q ∷ r ∷ []) removes a).0
      (operands.rule x None action.Put (p ∷ q ∷ r ∷ []) removes a).2

  abbrev first_put : Contains (reads (erased_op (Do None action.Put (p ∷ q ∷ r ∷ []) removes))) p
  first_put = contains_here p (q ∷ r ∷ [])

  abbrev second_put : Contains (reads (erased_op (Do None action.Put (p ∷ q ∷ r ∷ []) removes))) q
  second_put = contains_there p (q ∷ r ∷ []) q (contains_here q (r ∷ []))

  abbrev put_ty : «Type»
  put_ty = destination_type (erased T.code) (at_instruction x a).before.frame None

  abbrev v : Value
  v = value_at (at_instruction x a).before.frame r

  put_int : value_at (at_instruction x a).before.frame q ≡ value.Int (cast_signed w64 (word_of_frame a.w q))
  put_int = index_is x None action.Put p q (r ∷ []) removes a put_types.0 (put_types.0 ∷ []) put_types.1 first_put second_put

  store_traps : HasNoElement c a.w p q
      → performed T.code.structs action.Put put_ty (operand_values (at_instruction x a).before.frame (p ∷ q ∷ r ∷ [])) x.s.plain.memory
      ≡ Some (Traps IndexRange)
  store_traps (inl nil) =
      let n = nil_is x None action.Put p q (r ∷ []) removes a put_types.0 (put_types.0 ∷ []) put_types.1 first_put second_put nil in
      λ j. performed T.code.structs action.Put put_ty (n j ∷ put_int j ∷ v ∷ []) x.s.plain.memory
  store_traps (inr s) =
      let o = it x None action.Put p q (r ∷ []) removes a put_types.0 (put_types.0 ∷ []) put_types.1 first_put second_put s.0 s.1 s.2 in
      let is = slice_is x None action.Put p q (r ∷ []) removes a put_types.0 (put_types.0 ∷ []) put_types.1 first_put second_put s.0 s.1 s.2 in
      (λ j. performed T.code.structs action.Put put_ty (is j ∷ put_int j ∷ v ∷ []) x.s.plain.memory)
      ∙ (ap (λ (y : Option Object). Some (to_object x.s.plain.memory o (put_in (cast_signed w64 (word_of_frame a.w q)) v) y))
      (there x None action.Put p q (r ∷ []) removes a put_types.0 (put_types.0 ∷ []) put_types.1 first_put second_put s.0 s.1 s.2)
      ∙ ap (λ (y : Outcome Object). Some (in_memory x.s.plain.memory o y))
      (no_put (cells x None action.Put p q (r ∷ []) removes a put_types.0 (put_types.0 ∷ []) put_types.1 first_put second_put s.0 s.1 s.2)
      (cast_signed w64 (word_of_frame a.w q)) v
      (beyond x None action.Put p q (r ∷ []) removes a put_types.0 (put_types.0 ∷ []) put_types.1 first_put second_put s.0 s.1 s.2)))

pub put_trap_move : PutTrapMove
put_trap_move T g c p q r removes a rests none = by_ends T g c IndexRange a.instr.place (λ x.
    traps_so x IndexRange a.instr.place
    (trap_law (at_instruction x a) None action.Put (p ∷ q ∷ r ∷ []) removes IndexRange a.is (store_traps x p q r removes a none)) rests a (λ z. z))
