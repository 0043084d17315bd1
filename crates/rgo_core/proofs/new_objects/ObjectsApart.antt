-- The last word of a spread object is stored: the object is made, by `NewApart` in every state that has this record.
use Rattle.std.proofs.Common.{◌≡◌, inl, ℕ, suc, ◌+◌, ◌<◌, ◌≤◌, List, [], ◌∷◌, Option, Some, length, slice_set, refl, ap, subst, ◌∙◌, arith}
use Rattle.std.proofs.lemmas.List.{append-nil, length-append}
use Rattle.rgo_sound.specs.Code.Code.{Do}
use Rattle.rgo_sound.specs.Machine.Limits.{deepest}
use Rattle.rgo_sound.specs.Machine.declared.picks.Pick.TheVariants.{One}
use Rattle.rgo_sound.specs.Memory.Memory.{Memory as Heap, Object}
use Rattle.rgo_sound.specs.RegionMachine.Instructions.{printed_if}
use Rattle.rgo_sound.specs.RegionMachine.Machine.{Instruct}
use Rattle.rgo_sound.specs.RegionMachine.Objects.{making_region}
use Rattle.rgo_sound.specs.RegionMachine.Owed.{code_function}
use Rattle.rgo_sound.specs.RegionMachine.States.{top_names}
use Rattle.rgo_sound.specs.RegionMachine.declared.regions.Region.{Region}
use Rattle.rgo_sound.specs.Tally.{counts_plus, no_share}
use Rattle.rgo_sound.specs.Typed.declared.actions.Action.{Action}
use Rattle.rgo_core_channels.specs.Records.{at_rest}
use Rattle.rgo_core_channels.proofs.Forward.{printed_same}
use Rattle.rgo_core_frames.specs.States.{IsSound}
use Rattle.rgo_core_frames.proofs.Sound.{sound_stays}
use Rattle.rgo_core_memory.specs.Parts.{CoversApart, MakesApart}
use Rattle.rgo_core.specs.ties.Bounds.{LieInPages, Points, row_words, target_type}
use Rattle.rgo_core.specs.Core.{Situation, Setup, layout}
use Rattle.rgo_core.specs.moves.NewObjects.{MakesObject, ObjectMoveApart, record_made_apart, reserved_address, slot_number, word_apart}
use Rattle.rgo_core.specs.Next.{IsAtOp}
use Rattle.rgo_core.specs.Records.{Record, counted, steps_of}
use Rattle.rgo_core.specs.Steps.{Steps}
use Rattle.rgo_core.proofs.steps.Lift.{moves_by}
use Rattle.rgo_core.proofs.new_objects.NewApart as new
use Rattle.rgo_core.proofs.image.Parts.{I, adds_of, as_many, image_with, shallow}
use Rattle.rgo_core.proofs.accesses.Links.{CountsOne, all_kept, claims_high, links_with, one_later, slot_made}
use Rattle.rgo_core.proofs.goroutines.Counting.{plus_zero}
use Rattle.rgo_core_memory.specs.Spread.{spread_opening, table_words}
use Rattle.rgo_core.proofs.new_objects.WordsApart.{fixed_stay, many}

module _ {T : Setup} {g : ℕ} {c : Record} (x : Situation T g c) (to : Option ℕ) (act : Action) (from removes : List ℕ)
    (a : IsAtOp T.code c (Do to act from removes)) (object : Object) (by_slot : Region) (stored : List ℕ) (i : ℕ)
    (rests : c.side ≡ at_rest) (mk : MakesObject T.code a.w to act from object)
    (making : making_region (code_function T.code a.w.function) (top_names c.frame.holder.environments) a.instr.op ≡ Some by_slot)
    (makes : MakesApart (layout T) c.memory object stored)
    (small : i < table_words T.sizes.page_words object) (covers : CoversApart (layout T) object (i ∷ stored)) where
  slotted : c.memory.reserved.slot ≡ slot_number (layout T) by_slot
  slotted = slot_made x a by_slot making (let m = many x object stored i makes small in omega (arith, m))

  counts : counted (record_made_apart T c a to).clock ≡ counts_plus (counted c.clock) (record no_share { steps = 1; objects = 1 })
  counts = λ j. record {
    made = plus_zero c.clock.share.made c.clock.share.made refl j;
    removed = plus_zero c.clock.share.removed c.clock.share.removed refl j;
    taken = plus_zero c.clock.share.taken c.clock.share.taken refl j;
    returned = plus_zero (c.clock.share.returned + c.clock.owed) (c.clock.share.returned + c.clock.owed) refl j;
    steps = (let e : suc c.clock.share.steps ≡ c.clock.share.steps + 1 = omega arith in e) j;
    objects = (let e : suc c.clock.share.objects ≡ c.clock.share.objects + 1 = omega arith in e) j;
    goroutines = plus_zero c.clock.share.goroutines c.clock.share.goroutines refl j;
  }

  pub object_steps : Steps x (slice_set x.words (word_apart T c object i) (spread_opening object c.memory.reserved.pages i)) (record_made_apart T c a to)
  object_steps =
      let words = new.next_words x to act from removes a object by_slot stored i rests mk making slotted makes small covers in
      let H = new.H x to act from removes a object by_slot stored i rests mk making slotted makes small covers in
      let places = new.places' x to act from removes a object by_slot stored i rests mk making slotted makes small covers in
      let addresses = new.addresses' x to act from removes a object by_slot stored i rests mk making slotted makes small covers in
      let sound : IsSound T.code H.state = sound_stays.step T.code T.sizes.page_words x.s H.state (Instruct (One g)) x.core.sound H.steps in
      inl (record {
        goes = record {
          event = Instruct (One g);
          next = H.state;
          steps = H.steps;
          room = refl;
          gain = record no_share { steps = 1; objects = 1 };
          adds = adds_of x.s H.state 1 1 H.regions H.global_pages H.counted
              (ap (λ (y : Heap). length y.heap) H.memory_is ∙ length-append x.s.plain.memory.heap (object ∷ []))
              (as_many x H.state (I x).places.slot addresses (record_made_apart T c a to).frame sound H.fit);
          counted = counts;
          shallow = subst (λ n. n ≤ deepest) (ap length a.frames) (shallow x);
          image = image_with x words (record_made_apart T c a to) H.state places
              (new.at' x to act from removes a object by_slot stored i rests mk making slotted makes small covers) addresses
              (new.addressed x to act from removes a object by_slot stored i rests mk making slotted makes small covers) H.fit
              (new.memory_after x to act from removes a object by_slot stored i rests mk making slotted makes small covers)
              (new.channels_after x to act from removes a object by_slot stored i rests mk making slotted makes small covers);
          links = links_with x (slice_set x.words (word_apart T c object i) (spread_opening object c.memory.reserved.pages i))
              (fixed_stay x object stored i makes small (spread_opening object c.memory.reserved.pages i))
              (claims_high x (word_apart T c object i) (spread_opening object c.memory.reserved.pages i) (omega arith))
              (record_made_apart T c a to) (all_kept refl refl refl refl) (CountsOne (one_later (steps_of c)) refl);
        };
        mark = H.mark;
        printed = H.printed ∙ (ap (printed_if x.s.mark x.s.plain.printed) (append-nil x.s.plain.printed) ∙ printed_same x.s.mark x.s.plain.printed);
        same = record { prints = refl; first = refl; children = refl; refused = refl };
      })

pub object_move_apart : ObjectMoveApart
object_move_apart T g c to act from removes a object by_slot stored i rests mk making makes small covers =
    moves_by T g c (word_apart T c object i) (λ n. spread_opening object c.memory.reserved.pages i) (λ n. record_made_apart T c a to)
    (λ n d. (d ≡ record_made_apart T c a to) × LieInPages T (reserved_address T c) (row_words T.sizes.page_words object)
    × Points T (target_type T a.w to) (suc (reserved_address T c)))
    (λ n. refl) (λ x. omega arith)
    (λ x fits. object_steps x to act from removes a object by_slot stored i rests mk making makes small covers)
    (λ x. (
      refl,
      new.made_lies x to act from removes a object by_slot stored i rests mk making
          (slotted x to act from removes a object by_slot stored i rests mk making makes small covers) makes small covers,
      new.made_points x to act from removes a object by_slot stored i rests mk making
          (slotted x to act from removes a object by_slot stored i rests mk making makes small covers) makes small covers,
    ))
