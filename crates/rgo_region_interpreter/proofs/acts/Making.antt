-- The object that an instruction makes: the size that the code computes beforehand is that of the object which the three-address
-- machine makes, over whatever memory. So room can be made before the step.
use Rattle.std.proofs.Common.{◌≡◌, ℕ, ◌+◌, true, false, List, [], ◌∷◌, ◌++◌, map, length, Option, Some, None}
use Rattle.std.proofs.Common.{refl, sym, subst, ap, ◌∙◌, true≢false, slice_get, max, replicate}
use Rattle.std.specs.Prelude.{pos, negsuc}
use Rattle.std.proofs.lemmas.List.{length-map, length-replicate}
use Rattle.rgo_typed.specs.declared.actions.Action.{Action}
use Rattle.rgo_typed.specs.declared.actions.Action.TheVariants as action
use Rattle.rgo_typed.specs.declared.programs.Struct.{Struct}
use Rattle.rgo_typed.specs.declared.types.Type.{«Type»}
use Rattle.rgo_memory.specs.declared.values.Value.{Value}
use Rattle.rgo_memory.specs.declared.values.Value.TheVariants as value
use Rattle.rgo_memory.specs.Effects.{Does, Effect, Traps}
use Rattle.rgo_memory.specs.Making.{made, made_struct, sized}
use Rattle.rgo_memory.specs.Memory.{Channel, Memory, Object, SliceObject, StructObject}
use Rattle.rgo_memory.specs.Perform.{perform}
use Rattle.rgo_memory.specs.Values.{element_zero, zero_of}
use Rattle.rgo_tac.specs.Code.{Branch, Call, Do, Go, Jump, Op, Print, Return, Tac}
use Rattle.rgo_tac.specs.Frames.{TacFrame, frame_after_instr, operand_values}
use Rattle.rgo_tac.specs.Steps.{destination_type}
use Rattle.rgo_region_machine.specs.Objects.{makes_object}
use Rattle.rgo_sound.proofs.steps.Acting.{Acted, act, effected, performed, trap_place}
use Rattle.rgo_sound.proofs.plain.Steps.{Always}
use Rattle.rgo_region_interpreter.specs.declared.objects.Extent.{Extent}
use Rattle.rgo_region_interpreter.specs.declared.objects.Making.{Making}
use Rattle.rgo_region_interpreter.specs.Extents.{IsExtentOf}
use Rattle.rgo_region_interpreter.specs.Objects.{channel_extent, extent_made, making_by, making_of, sized_extent, slice_extent, struct_extent}

-- whatever the memory, an instruction of this frame makes an object that is so large, and the variable points to it
pub record Makes (code : Tac) (op : Op) (place : ℕ) (frame : TacFrame) (callers : List TacFrame) (making : Making) : Type 0
  where
    pub object : Object
    pub large : IsExtentOf making.extent object
    pub acts : (m : Memory) → act code m op place frame callers ≡ Some (record {
      memory = record m { heap = m.heap ++ object ∷ [] };
      frames = frame_after_instr frame (Some making.to) (value.Object (length m.heap)) ∷ callers;
      started = [];
      printed = [];
      trap = None;
    })

-- an effect that makes no object
abbrev pub MakesNoObject : Memory → Effect → Type 0
MakesNoObject m (Does m' v) = length m'.heap ≡ length m.heap
MakesNoObject m (Traps trap) = Unit {0}

none_made : (to : Option ℕ) (making : Making) → making_of to None ≡ Some making → ⊥
none_made None making e = cc
none_made (Some d) making e = cc

the_making : (to : Option ℕ) (extent : Extent) (making : Making) → making_of to (Some extent) ≡ Some making
    → (to ≡ Some making.to) × (extent ≡ making.extent)
the_making None extent making e = cc
the_making (Some d) extent making e = (ap (λ m. Some m.to) is, ap (λ m. m.extent) is)
  where
    the_same : (x y : Making) → Some x ≡ Some y → x ≡ y
    the_same x y e = cc

    is : ◌≡◌ {A = Making} (record { to = d; extent = extent }) making
    is = the_same _ making e

module _ (code : Tac) (place : ℕ) (frame : TacFrame) (callers : List TacFrame) where
  -- an action that makes this object, whatever the memory
  makes_object_by : (to : Option ℕ) (a : Action) (from : List ℕ) (extent : Extent) (making : Making) (object : Object)
      → making_of to (Some extent) ≡ Some making → IsExtentOf extent object
      → ((m : Memory) → performed code.structs a (destination_type code frame to) (operand_values frame from) m ≡ Some (made m object))
      → Makes code (Do to a from) place frame callers making
  makes_object_by to a from extent making object e large makes = record {
    object = object;
    large = subst (λ x. IsExtentOf x object) is.1 large;
    acts = λ m. ap (effected m frame callers to (trap_place a place)) (makes m)
        ∙ ap (λ d. effected m frame callers d (trap_place a place) (Some (made m object))) is.0;
  }
    where
      is : (to ≡ Some making.to) × (extent ≡ making.extent)
      is = the_making to extent making e

  module _ (to : Option ℕ) (from : List ℕ) (making : Making) where
    new_makes : (n : ℕ) (o : Option Struct) → slice_get code.structs n ≡ o → operand_values frame from ≡ []
        → making_of to (struct_extent o) ≡ Some making → Makes code (Do to (action.New n) from) place frame callers making
    new_makes n None q r e = absurd (none_made to making e)
    new_makes n (Some of) q r e =
        makes_object_by to (action.New n) from
        (record { cells = length of.fields; words = max 1 (length of.fields) }) making
        (StructObject (map zero_of of.fields)) e
        (let l = length-map of.fields zero_of in record { words = ap (max 1) l; cells = l })
        (λ m. ap (λ vs. Some (perform code.structs (action.New n) (destination_type code frame to) vs m)) r
        ∙ ap (λ x. Some (made_struct x m)) q)

    slice_makes : (size : Value) → operand_values frame from ≡ size ∷ []
        → making_of to (sized_extent slice_extent size) ≡ Some making
        → Makes code (Do to action.Slice from) place frame callers making
    slice_makes (value.Int (pos n)) r e =
        makes_object_by to action.Slice from (slice_extent n) making
        (SliceObject (replicate n (element_zero (destination_type code frame to)))) e
        (let l = length-replicate n (element_zero (destination_type code frame to)) in
        record { words = ap (λ k. 1 + k) l; cells = l })
        (λ m. ap (λ vs. Some (perform code.structs action.Slice (destination_type code frame to) vs m)) r)
    slice_makes (value.Int (negsuc n)) r e = absurd (none_made to making e)
    slice_makes (value.Bool b) r e = absurd (none_made to making e)
    slice_makes value.Nil r e = absurd (none_made to making e)
    slice_makes (value.Object o) r e = absurd (none_made to making e)

    channel_makes : (size : Value) → operand_values frame from ≡ size ∷ []
        → making_of to (sized_extent channel_extent size) ≡ Some making
        → Makes code (Do to action.Chan from) place frame callers making
    channel_makes (value.Int (pos n)) r e =
        makes_object_by to action.Chan from (channel_extent n) making (Channel n [] false) e
        (record { words = refl; cells = refl })
        (λ m. ap (λ vs. Some (perform code.structs action.Chan (destination_type code frame to) vs m)) r)
    channel_makes (value.Int (negsuc n)) r e = absurd (none_made to making e)
    channel_makes (value.Bool b) r e = absurd (none_made to making e)
    channel_makes value.Nil r e = absurd (none_made to making e)
    channel_makes (value.Object o) r e = absurd (none_made to making e)

    action_makes : (a : Action) (vs : List Value) → operand_values frame from ≡ vs
        → making_of to (extent_made code.structs a vs) ≡ Some making → Makes code (Do to a from) place frame callers making
    action_makes (action.Int k) vs r e = absurd (none_made to making e)
    action_makes (action.Bool b) vs r e = absurd (none_made to making e)
    action_makes action.Nil vs r e = absurd (none_made to making e)
    action_makes action.Copy vs r e = absurd (none_made to making e)
    action_makes (action.Binary op) vs r e = absurd (none_made to making e)
    action_makes action.Neg vs r e = absurd (none_made to making e)
    action_makes action.Not vs r e = absurd (none_made to making e)
    action_makes action.IsNil vs r e = absurd (none_made to making e)
    action_makes action.Len vs r e = absurd (none_made to making e)
    action_makes (action.Load k) vs r e = absurd (none_made to making e)
    action_makes (action.Store k) vs r e = absurd (none_made to making e)
    action_makes action.At vs r e = absurd (none_made to making e)
    action_makes action.Put vs r e = absurd (none_made to making e)
    action_makes (action.New n) [] r e = new_makes n (slice_get code.structs n) refl r e
    action_makes (action.New n) (v ∷ vs) r e = absurd (none_made to making e)
    action_makes action.Slice [] r e = absurd (none_made to making e)
    action_makes action.Slice (v ∷ []) r e = slice_makes v r e
    action_makes action.Slice (v ∷ w ∷ vs) r e = absurd (none_made to making e)
    action_makes action.Chan [] r e = absurd (none_made to making e)
    action_makes action.Chan (v ∷ []) r e = channel_makes v r e
    action_makes action.Chan (v ∷ w ∷ vs) r e = absurd (none_made to making e)
    action_makes action.Recv vs r e = absurd (none_made to making e)
    action_makes action.Send vs r e = absurd (none_made to making e)
    action_makes action.Close vs r e = absurd (none_made to making e)
    action_makes (action.Get n) vs r e = absurd (none_made to making e)
    action_makes (action.Set n) vs r e = absurd (none_made to making e)

  pub makes : (op : Op) (making : Making) → making_by code.structs frame op ≡ Some making
      → Makes code op place frame callers making
  makes (Do to a from) making e = action_makes to from making a (operand_values frame from) refl e
  makes (Call to n from) making e = cc
  makes (Go n from) making e = cc
  makes (Print pieces from) making e = cc
  makes (Jump target) making e = cc
  makes (Branch test target other) making e = cc
  makes (Return v) making e = cc

-- ---- no object is made

module _ (structs : List Struct) (ty : «Type») (m : Memory) where
  sized_none : (extent : ℕ → Extent) (object : ℕ → Object) (d : ℕ) (size : Value)
      → making_of (Some d) (sized_extent extent size) ≡ None → MakesNoObject m (sized object size m)
  sized_none extent object d (value.Int (pos n)) e = cc
  sized_none extent object d (value.Int (negsuc n)) e = tt
  sized_none extent object d (value.Bool b) e = refl
  sized_none extent object d value.Nil e = refl
  sized_none extent object d (value.Object o) e = refl

  struct_none : (d : ℕ) (o : Option Struct) → making_of (Some d) (struct_extent o) ≡ None
      → MakesNoObject m (made_struct o m)
  struct_none d None e = refl
  struct_none d (Some of) e = cc

  -- an action that could make an object, and writes a variable
  pub makes_none : (a : Action) (d : ℕ) (vs : List Value) → makes_object a ≡ true
      → making_of (Some d) (extent_made structs a vs) ≡ None → Always (MakesNoObject m) (performed structs a ty vs m)
  makes_none (action.New n) d [] t e = struct_none d (slice_get structs n) e
  makes_none (action.New n) d (v ∷ []) t e = refl
  makes_none (action.New n) d (v ∷ w ∷ []) t e = refl
  makes_none (action.New n) d (u ∷ v ∷ w ∷ []) t e = refl
  makes_none (action.New n) d (u ∷ v ∷ w ∷ x ∷ vs) t e = refl
  makes_none action.Slice d [] t e = refl
  makes_none action.Slice d (v ∷ []) t e =
      sized_none slice_extent (λ n. SliceObject (replicate n (element_zero ty))) d v e
  makes_none action.Slice d (v ∷ w ∷ []) t e = refl
  makes_none action.Slice d (u ∷ v ∷ w ∷ []) t e = refl
  makes_none action.Slice d (u ∷ v ∷ w ∷ x ∷ vs) t e = refl
  makes_none action.Chan d [] t e = refl
  makes_none action.Chan d (v ∷ []) t e = sized_none channel_extent (λ n. Channel n [] false) d v e
  makes_none action.Chan d (v ∷ w ∷ []) t e = refl
  makes_none action.Chan d (u ∷ v ∷ w ∷ []) t e = refl
  makes_none action.Chan d (u ∷ v ∷ w ∷ x ∷ vs) t e = refl
  makes_none (action.Int k) d vs t e = absurd (true≢false (sym t))
  makes_none (action.Bool b) d vs t e = absurd (true≢false (sym t))
  makes_none action.Nil d vs t e = absurd (true≢false (sym t))
  makes_none action.Copy d vs t e = absurd (true≢false (sym t))
  makes_none (action.Binary op) d vs t e = absurd (true≢false (sym t))
  makes_none action.Neg d vs t e = absurd (true≢false (sym t))
  makes_none action.Not d vs t e = absurd (true≢false (sym t))
  makes_none action.IsNil d vs t e = absurd (true≢false (sym t))
  makes_none action.Len d vs t e = absurd (true≢false (sym t))
  makes_none (action.Load k) d vs t e = absurd (true≢false (sym t))
  makes_none (action.Store k) d vs t e = absurd (true≢false (sym t))
  makes_none action.At d vs t e = absurd (true≢false (sym t))
  makes_none action.Put d vs t e = absurd (true≢false (sym t))
  makes_none action.Recv d vs t e = absurd (true≢false (sym t))
  makes_none action.Send d vs t e = absurd (true≢false (sym t))
  makes_none action.Close d vs t e = absurd (true≢false (sym t))
  makes_none (action.Get n) d vs t e = absurd (true≢false (sym t))
  makes_none (action.Set n) d vs t e = absurd (true≢false (sym t))

-- the same for the whole instruction
pub acts_none : (m : Memory) (frame : TacFrame) (callers : List TacFrame) (to : Option ℕ) (place : ℕ) (e : Option Effect)
    → Always (MakesNoObject m) e
    → Always (λ (a : Acted). length a.memory.heap ≡ length m.heap) (effected m frame callers to place e)
acts_none m frame callers to place None h = tt
acts_none m frame callers to place (Some (Does m' v)) h = h
acts_none m frame callers to place (Some (Traps trap)) h = refl
