-- The exchange that claims a page. Any goroutine that makes an object next may make it, on any page; if two try the same page, one
-- finds 0. What was found decides, so a law has both outcomes.
use Rattle.std.specs.Prelude.{◌≡◌, ◌+◌, ◌<◌, ◌≤◌, ◌==◌, ℕ, suc, false, true, List, length, Option, Some, if◌then◌else◌}
use Rattle.rgo_sound.specs.Code.Code.{Do}
use Rattle.rgo_sound.specs.Memory.Memory.{Object}
use Rattle.rgo_sound.specs.RegionMachine.Objects.{is_spread, is_too_large, making_region, object_words as words_of}
use Rattle.rgo_sound.specs.RegionMachine.Room.{pages_of}
use Rattle.rgo_sound.specs.RegionMachine.Owed.{code_function}
use Rattle.rgo_sound.specs.RegionMachine.States.{top_names}
use Rattle.rgo_sound.specs.RegionMachine.declared.regions.Region.{Region}
use Rattle.rgo_sound.specs.Typed.declared.actions.Action.{Action}
use Rattle.rgo_core_channels.specs.Records.{at_rest}
use Rattle.rgo_core_memory.specs.Records.{Fill, Idle, Rest, Within, with_own_page, with_reserved, with_tried_page}
use Rattle.rgo_core_memory.specs.Words.{state_at}
use Rattle.rgo_core.specs.moves.Chains.{remembers}
use Rattle.rgo_core.specs.Core.{Setup, layout}
use Rattle.rgo_core.specs.moves.NewObjects.{MakesObject, slot_number}
use Rattle.rgo_core.specs.Next.{IsAtOp}
use Rattle.rgo_core.specs.Records.{Record, accessed}
use Rattle.rgo_core.specs.Steps.{Moves}

-- the record after it has claimed a page for a slot
abbrev pub claims : Record → (page slot : ℕ) → Record
claims c p s = record c {
  clock = record (accessed c.clock) { share = record c.clock.share { taken = suc c.clock.share.taken } };
  memory = with_own_page c.memory p s;
}

-- the same of a page for a spread object
abbrev pub reserves : Record → (page slot : ℕ) → Record
reserves c p s = record c {
  clock = record (accessed c.clock) { share = record c.clock.share { taken = suc c.clock.share.taken } };
  memory = with_reserved c.memory p s;
}

-- A page that is free is claimed for the region in which the next instruction makes an object that fits a page, but not what is left of
-- the own page there. One that is not free is remembered. The last claim must be linked before (`Idle`), since a record keeps one.
abbrev pub ClaimMove : Type 0
ClaimMove = (T : Setup) (g : ℕ) (c : Record) (to : Option ℕ) (act : Action) (from removes : List ℕ)
    (a : IsAtOp T.code c (Do to act from removes)) (object : Object) (by_slot : Region) (p : ℕ) → c.side ≡ at_rest
    → MakesObject T.code a.w to act from object
    → making_region (code_function T.code a.w.function) (top_names c.frame.holder.environments) a.instr.op ≡ Some by_slot
    → words_of object ≤ T.sizes.page_words
    → ((f : Fill) → Within f c.memory.fills → f.slot ≡ slot_number (layout T) by_slot → T.sizes.page_words < f.fill + words_of object)
    → c.memory.claim ≡ Idle → c.memory.make ≡ Rest → p < T.sizes.pages
    → Moves T g c (state_at (layout T) p) (λ n. if n == 0 then suc (slot_number (layout T) by_slot) else n)
    (λ n d. d ≡ (if n == 0 then claims c p (slot_number (layout T) by_slot) else remembers c (with_tried_page c.memory p)))

-- A page that is free is claimed for a spread object, which is not too large and does not have all of its pages. One that is
-- not free is remembered.
abbrev pub ReserveMove : Type 0
ReserveMove = (T : Setup) (g : ℕ) (c : Record) (to : Option ℕ) (act : Action) (from removes : List ℕ)
    (a : IsAtOp T.code c (Do to act from removes)) (object : Object) (by_slot : Region) (p : ℕ) → c.side ≡ at_rest
    → MakesObject T.code a.w to act from object
    → making_region (code_function T.code a.w.function) (top_names c.frame.holder.environments) a.instr.op ≡ Some by_slot
    → is_spread T.sizes.page_words object ≡ true → is_too_large T.sizes.page_words object ≡ false
    → length c.memory.reserved.pages < pages_of T.sizes.page_words object
    → c.memory.claim ≡ Idle → c.memory.make ≡ Rest → p < T.sizes.pages
    → Moves T g c (state_at (layout T) p) (λ n. if n == 0 then suc (slot_number (layout T) by_slot) else n)
    (λ n d. d ≡ (if n == 0 then reserves c p (slot_number (layout T) by_slot) else remembers c (with_tried_page c.memory p)))
