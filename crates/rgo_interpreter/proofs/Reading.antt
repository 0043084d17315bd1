-- What is read of an object: where there is none, what a struct without fields gives.
use Rattle.std.specs.Prelude.{Option, Some, None, Ok, slice_get}
use Rattle.std.specs.Option.{is_some}
use Rattle.std.proofs.Common.{◌≡◌, ℕ, true, zero, suc, List, [], ◌∷◌, get_or, refl, ap, sym, ◌∙◌}
use Rattle.rgo_memory.specs.declared.values.Value.{Value}
use Rattle.rgo_memory.specs.declared.values.Value.TheVariants as value
use Rattle.rgo_memory.specs.Channels.{is_meeting_at, is_meeting_place}
use Rattle.rgo_memory.specs.Effects.{Outcome, in_memory_if_ready, to_object_if_ready, at_object_if_ready}
use Rattle.rgo_memory.specs.Elements.{element_in, element_at, length_in, length_of}
use Rattle.rgo_memory.specs.Fields.{or_nil, field_value, load}
use Rattle.rgo_memory.specs.Memory.{Object, StructObject, Memory, object_at}

-- what is the same at no element as at d
pub read_or : {X Y : Type 0} (F : Option X → Y) (d : X) → F None ≡ F (Some d) → (l : List X) (n : ℕ)
    → F (slice_get l n) ≡ F (Some (get_or l n d))
read_or F d same [] n = same
read_or F d same (x ∷ l) zero = refl
read_or F d same (x ∷ l) (suc n) = read_or F d same l n

pub cell_or_nil : (cells : List Value) (k : ℕ) → or_nil (slice_get cells k) ≡ get_or cells k value.Nil
cell_or_nil = read_or or_nil value.Nil refl

-- the object of that number
module _ (m : Memory) (n : ℕ) (object : Object) (is : object_at m n ≡ object) where
  read : {Y : Type 0} (F : Option Object → Y) → F None ≡ F (Some (StructObject []))
      → F (slice_get m.heap n) ≡ F (Some object)
  read F same = read_or F (StructObject []) same m.heap n ∙ ap (λ o. F (Some o)) is

  pub field_read : (k : ℕ) → load m (value.Object n) k ≡ Ok (field_value (Some object) k)
  field_read k = ap Ok (read (λ o. field_value o k) refl)

  pub element_read : (i : _) → element_at m (value.Object n) (value.Int i) ≡ element_in (Some object) i
  element_read i = read (λ o. element_in o i) refl

  pub length_read : length_of m (value.Object n) ≡ length_in (Some object)
  length_read = read length_in refl

  pub meeting_read : is_meeting_at (slice_get m.heap n) ≡ is_meeting_place object
  meeting_read = read is_meeting_at refl

  in_memory_is_some : (outcome : Option (Outcome Object)) → is_some (in_memory_if_ready m n outcome) ≡ is_some outcome
  in_memory_is_some None = refl
  in_memory_is_some (Some outcome) = refl

  pub ready_read : (f : Object → Option (Outcome Object)) → is_some (f (StructObject [])) ≡ true
      → is_some (at_object_if_ready m n f) ≡ is_some (f object)
  ready_read f idle =
      read (λ o. is_some (to_object_if_ready m n f o)) (sym (in_memory_is_some (f (StructObject [])) ∙ idle))
      ∙ in_memory_is_some (f object)
