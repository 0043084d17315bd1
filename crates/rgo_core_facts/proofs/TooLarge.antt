-- An object of more data pages than one may have: the run may end for it, since the machine's next instruction makes the same object.
use Rattle.std.proofs.Common.{◌≡◌, ℕ, ◌+◌, ◌<◌, true, false, [], map, replicate, refl, sym, subst, ◌∙◌, arith}
use Rattle.std.proofs.lemmas.List.{length-replicate}
use Rattle.rgo_sound.specs.Code.Code.{Do}
use Rattle.rgo_sound.specs.Code.Erasure.{erased}
use Rattle.rgo_sound.specs.Memory.Memory.{Channel, Object, SliceObject, StructObject}
use Rattle.rgo_sound.specs.Memory.Values.{element_zero, zero_of}
use Rattle.rgo_sound.specs.RegionMachine.Objects.{cells, is_too_large, most_data_pages, object_words as words_of}
use Rattle.rgo_sound.specs.Tac.Steps.{destination_type}
use Rattle.rgo_sound.specs.Typed.declared.actions.Action.{Action}
use Rattle.rgo_core.specs.Frames.shown.WordFrames.{bare, frame_word}
use Rattle.rgo_core.specs.moves.NewObjects.{AChannel, ASlice, AStruct}
use Rattle.rgo_core.specs.Next.{IsAtOp}
use Rattle.rgo_core.proofs.clock.Ending.{too_large as larger}
use Rattle.rgo_core_facts.specs.MemoryObjects.{OfChannel, OfSlice, OfStruct, TooLarge, data_pages_of}
use Rattle.rgo_core_facts.proofs.DataPages.{less, pages_so}
use Rattle.rgo_core_facts.proofs.NewWords.{struct_many, struct_split, struct_there}

-- it is too large by its words, `before` of which precede its cells
too_many : (page_words : ℕ) (object : Object) (words before : ℕ) → words_of object ≡ words → (1 < words → cells object + before ≡ words)
    → most_data_pages page_words < data_pages_of page_words words before → is_too_large page_words object ≡ true
too_many page_words object words before many split large =
    let pages = pages_so page_words object words before many split in
    less (most_data_pages page_words) _ (omega (arith, pages, large))

pub too_large : TooLarge
too_large T g c x to act from removes a words before (OfStruct n ea en eb) large =
    let s = struct_there x to n from removes (subst (λ (y : Action). IsAtOp T.code c (Do to y from removes)) ea a) in
    let many = struct_many T.code.structs n s.1 s.2 in
    larger x to act from removes a (StructObject (map zero_of s.1.fields)) (AStruct n s.1 ea s.0 s.2 refl)
    (too_many T.sizes.page_words (StructObject (map zero_of s.1.fields)) words before (many ∙ sym en)
    (λ more. let e = struct_split T.code.structs n s.1 s.2 (omega (arith, more, en)) in omega (arith, e, en, eb)) large)
too_large T g c x to act from removes a words before (OfSlice p ea ef small en eb) large =
    let ty = destination_type (erased T.code) (bare a.w) to in
    let many = length-replicate (frame_word a.w p) (element_zero ty) in
    larger x to act from removes a (SliceObject (replicate (frame_word a.w p) (element_zero ty))) (ASlice p ea ef small refl)
    (too_many T.sizes.page_words (SliceObject (replicate (frame_word a.w p) (element_zero ty))) words before (omega (arith, en, many))
    (λ more. omega (arith, en, many, eb)) large)
too_large T g c x to act from removes a words before (OfChannel p ea ef small en eb) large =
    larger x to act from removes a (Channel (frame_word a.w p) [] false) (AChannel p ea ef small refl)
    (too_many T.sizes.page_words (Channel (frame_word a.w p) [] false) words before (omega (arith, en)) (λ more. omega (arith, en, eb)) large)
