-- What is done to one object in place, as done to the memory. If there is no object, nothing is done: the definitions do nothing to a
-- struct without fields, as which it is read.
use Rattle.std.specs.Prelude.{Option, Some, None, Result, Ok, Err, slice_get, slice_set}
use Rattle.std.specs.Option.{unwrap_or}
use Rattle.std.specs.declared.alloc.AllocError.{AllocError}
use Rattle.std.proofs.Common.{◌≡◌, ℕ, zero, suc, List, [], ◌∷◌, refl, ap, sym, ◌∙◌}
use Rattle.std.proofs.lemmas.List.{set-get_or}
use Rattle.std.proofs.lemmas.Option.{same_Some}
use Rattle.rgo_interpreter.specs.declared.effects.Effect.{Effect as CodeEffect}
use Rattle.rgo_interpreter.specs.declared.effects.Effect.TheVariants as effect
use Rattle.rgo_memory.specs.declared.values.Value.TheVariants.{Nil}
use Rattle.rgo_memory.specs.Memory.{Object, StructObject, Memory, with_object, object_at}
use Rattle.rgo_memory.specs.Effects.{Outcome, Does, nothing, in_memory, to_object, at_object}
use Rattle.rgo_memory.specs.Effects.{in_memory_if_ready, to_object_if_ready, at_object_if_ready}
use Rattle.rgo_interpreter.specs.Views.{LeavesOutcome, LeavesIfReady, PerformsIfReady}
use Rattle.rgo_interpreter.proofs.Reading.{read_or}

-- an element put where it was
pub set_same : {X : Type 0} (xs : List X) (n : ℕ) (x : X) → slice_get xs n ≡ Some x → slice_set xs n x ≡ xs
set_same [] n x e = refl
set_same (y ∷ xs) zero x e = ap (λ z. z ∷ xs) (same_Some x y (sym e))
set_same (y ∷ xs) (suc n) x e = ap (λ zs. y ∷ zs) (set_same xs n x e)

abbrev empty : Object
empty = StructObject []

module _ (m : Memory) (n : ℕ) where
  -- the same of an object of the memory
  kept : with_object m n (object_at m n) ≡ m
  kept = ap (λ heap. record m { heap = heap }) (set-get_or m.heap n empty)

  object_is : (found : Option Object) → slice_get m.heap n ≡ found → object_at m n ≡ unwrap_or found empty
  object_is found there = sym (read_or (λ o. unwrap_or o empty) empty refl m.heap n) ∙ ap (λ o. unwrap_or o empty) there

  -- what does nothing to a struct without fields does nothing where there is no object
  idle_there : object_at m n ≡ empty → nothing m ≡ in_memory m n (nothing empty)
  idle_there none = ap (λ k. Does k Nil) (sym kept ∙ ap (with_object m n) none)

  to_found : (f : Object → Outcome Object) → f empty ≡ nothing empty → (found : Option Object)
      → slice_get m.heap n ≡ found → to_object m n f found ≡ in_memory m n (f (object_at m n))
  to_found f idle None there =
      let none = object_is None there in
      idle_there none ∙ ap (in_memory m n) (sym (ap f none ∙ idle))
  to_found f idle (Some o) there = ap (λ x. in_memory m n (f x)) (sym (object_is (Some o) there))

  to_found_if_ready : (f : Object → Option (Outcome Object)) → f empty ≡ Some (nothing empty)
      → (found : Option Object) → slice_get m.heap n ≡ found
      → to_object_if_ready m n f found ≡ in_memory_if_ready m n (f (object_at m n))
  to_found_if_ready f idle None there =
      let none = object_is None there in
      ap Some (idle_there none) ∙ ap (in_memory_if_ready m n) (sym (ap f none ∙ idle))
  to_found_if_ready f idle (Some o) there =
      ap (λ x. in_memory_if_ready m n (f x)) (sym (object_is (Some o) there))

-- the object of that number was lent to be changed
module _ (m new : Memory) (n : ℕ) (before after : Object) (there : object_at m n ≡ before)
    (written : new ≡ with_object m n after) where
  unchanged : after ≡ before → new ≡ m
  unchanged same = written ∙ ap (with_object m n) (same ∙ sym there) ∙ kept m n

  lifted : (answer : CodeEffect) (outcome : Outcome Object) → LeavesOutcome answer before after outcome
      → LeavesOutcome answer m new (in_memory m n outcome)
  lifted (effect.Gives v) outcome leaves = ap (in_memory m n) leaves ∙ ap (λ k. Does k v) (sym written)
  lifted (effect.Traps trap) outcome leaves = (ap (in_memory m n) leaves.0, unchanged leaves.1)

  lifted_if_ready : (answer : Option CodeEffect) (outcome : Option (Outcome Object))
      → LeavesIfReady answer before after outcome → LeavesIfReady answer m new (in_memory_if_ready m n outcome)
  lifted_if_ready None outcome leaves = (ap (in_memory_if_ready m n) leaves.0, unchanged leaves.1)
  lifted_if_ready (Some (effect.Gives v)) outcome leaves =
      ap (in_memory_if_ready m n) leaves ∙ ap (λ k. Some (Does k v)) (sym written)
  lifted_if_ready (Some (effect.Traps trap)) outcome leaves =
      (ap (in_memory_if_ready m n) leaves.0, unchanged leaves.1)

  pub changed : (answer : CodeEffect) (f : Object → Outcome Object) → f empty ≡ nothing empty
      → LeavesOutcome answer before after (f before) → LeavesOutcome answer m new (at_object m n f)
  changed answer f idle leaves =
      rw (to_found m n f idle (slice_get m.heap n) refl, there) (lifted answer (f before) leaves)

  -- the same where it may not be ready
  pub changed_if_ready : (answer : Option CodeEffect) (f : Object → Option (Outcome Object))
      → f empty ≡ Some (nothing empty) → LeavesIfReady answer before after (f before)
      → LeavesIfReady answer m new (at_object_if_ready m n f)
  changed_if_ready answer f idle leaves =
      rw (to_found_if_ready m n f idle (slice_get m.heap n) refl, there) (lifted_if_ready answer (f before) leaves)

  -- the same where memory may be wanted
  pub changed_if_room : (answer : Result (Option CodeEffect) AllocError) (f : Object → Option (Outcome Object))
      → f empty ≡ Some (nothing empty) → PerformsIfReady answer before after (f before)
      → PerformsIfReady answer m new (at_object_if_ready m n f)
  changed_if_room (Ok answer) f idle leaves = changed_if_ready answer f idle leaves
  changed_if_room (Err e) f idle same = unchanged same

-- where there is none of that number, nothing is done
module _ (m new : Memory) (n : ℕ) (none : object_at m n ≡ empty) (same : new ≡ m) where
  pub not_there : (f : Object → Outcome Object) → f empty ≡ nothing empty → at_object m n f ≡ nothing new
  not_there f idle =
      changed m new n empty empty none (same ∙ sym (kept m n) ∙ ap (with_object m n) none) (effect.Gives Nil) f idle idle

  pub none_ready : (f : Object → Option (Outcome Object)) → f empty ≡ Some (nothing empty)
      → at_object_if_ready m n f ≡ Some (nothing new)
  none_ready f idle =
      changed_if_ready m new n empty empty none (same ∙ sym (kept m n) ∙ ap (with_object m n) none)
      (Some (effect.Gives Nil)) f idle idle
