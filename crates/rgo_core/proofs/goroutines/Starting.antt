-- A goroutine starts another: the draw of its number is the instruction of the region machine. All lists of goroutines grow by one at the
-- end, so every part of the image is proved for the old records and the new one.
use Rattle.std.proofs.Common.{◌≡◌, ⊎_elim, ℕ, suc, ◌+◌, ◌≤◌, List, [], ◌∷◌, ◌++◌, Some, length, map, slice_get, slice_set, slice_index, sum_by, count_by, refl, ap, sym, subst, ◌∙◌, arith, length-append}
use Rattle.std.proofs.lemmas.List.{append-nil}
use Rattle.std.proofs.lemmas.Option.{same_Some, slice_get_within}
use Rattle.rgo_sound.specs.Code.Code.{CodeFn, CodeOp, Go}
use Rattle.rgo_core_channels.specs.Records.{ChannelRec as SideRec, at_rest}
use Rattle.rgo_core_frames.proofs.Before.{no_offer}
use Rattle.rgo_core_frames.proofs.Sound.{next_sound}
use Rattle.rgo_core_frames.proofs.goroutines.Starting.{go_law}
use Rattle.rgo_core_frames.specs.goroutines.Children.{child_records}
use Rattle.rgo_core_frames.specs.Fits.{RecordsFit, IsPast, IsShown}
use Rattle.rgo_core_frames.specs.Records.{FramesRec as FrameRec}
use Rattle.rgo_core_frames.specs.regions.Slots.{nameless}
use Rattle.rgo_core_frames.specs.shown.WordFrames.{WordFrame, word_called, words_of}
use Rattle.rgo_core_memory.proofs.image.Quiets.{start_keeps}
use Rattle.rgo_core_memory.proofs.Rows.{set_again}
use Rattle.rgo_core_memory.specs.Image.{StateImage}
use Rattle.rgo_core_memory.specs.Opening.{first_record}
use Rattle.rgo_core_memory.specs.Quiet.{IsGo}
use Rattle.rgo_core_memory.specs.Records.{Rec as MemoryRec}
use Rattle.rgo_sound.specs.Machine.declared.picks.Pick.TheVariants.{One}
use Rattle.rgo_sound.specs.Memory.Memory.{Memory as Heap}
use Rattle.rgo_sound.specs.RegionMachine.Counts.{Counts, counts_of, is_removed, pages_if_removed}
use Rattle.rgo_sound.specs.RegionMachine.Machine.{Instruct}
use Rattle.rgo_sound.specs.RegionMachine.Owed.{code_function}
use Rattle.rgo_sound.specs.RegionMachine.Regions.{RegionInfo}
use Rattle.rgo_sound.specs.RegionMachine.States.{Holder, NoOffer, RegionState, Standing}
use Rattle.rgo_sound.proofs.Places.{get_append_last, length_set}
use Rattle.rgo_sound.specs.Tally.{counts_plus, no_share}
use Rattle.rgo_sound.specs.Tac.declared.regions.Class.{Class}
use Rattle.rgo_core.specs.moves.Clock.{StartsGoroutineNext}
use Rattle.rgo_core.specs.Core.{Situation, Setup, layout}
use Rattle.rgo_core.specs.Image.{Image, ChannelsIn}
use Rattle.rgo_core.specs.Laws.{StartMove, child_of, started_by}
use Rattle.rgo_core.specs.Next.{IsAtOp}
use Rattle.rgo_core.specs.Records.{ClockRec, Record, counted, frame_of, memory_of, side_of, with_child, steps_of}
use Rattle.rgo_core.proofs.clock.ClockLifts.{map_more, number_law}
use Rattle.rgo_core.proofs.steps.Lift.{many, shallow_here}
use Rattle.rgo_core.proofs.pages.Unreserved.{adds_nothing}
use Rattle.rgo_core.proofs.image.Standing.{at_instruction, frame_at, image_made, memory_at, side_at}
use Rattle.rgo_core.proofs.steps.Staying.{channels_keep}
use Rattle.rgo_core.proofs.accesses.Links.{CountsOne, all_kept, links_low, links_more, one_later}
use Rattle.rgo_core.proofs.goroutines.Counting.{plus_zero}

one_more : (a : ℕ) → suc a ≡ a + 1
one_more a = omega arith

abbrev gain : Counts
gain = record no_share { steps = 1; goroutines = 1 }

-- one goroutine more
counts_start : (s t : RegionState) → t.regions ≡ s.regions → t.global_pages ≡ s.global_pages → t.plain.memory ≡ s.plain.memory
    → length t.plain.goroutines ≡ length s.plain.goroutines + 1 → t.steps ≡ s.steps + 1 → counts_of t ≡ counts_plus (counts_of s) gain
counts_start s t regions pages memory more steps = λ i. record {
  made = plus_zero (length t.regions) (length s.regions) (ap length regions) i;
  removed = plus_zero (count_by is_removed t.regions) (count_by is_removed s.regions) (ap (count_by is_removed) regions) i;
  taken = plus_zero (counts_of t).taken (counts_of s).taken
      (ap (λ k. k + sum_by (λ (info : RegionInfo). info.pages) t.regions) pages
      ∙ ap (λ l. s.global_pages + sum_by (λ (info : RegionInfo). info.pages) l) regions) i;
  returned = plus_zero (sum_by pages_if_removed t.regions) (sum_by pages_if_removed s.regions) (ap (sum_by pages_if_removed) regions) i;
  steps = steps i;
  objects = plus_zero (length t.plain.memory.heap) (length s.plain.memory.heap) (ap (λ (m : Heap). length m.heap) memory) i;
  goroutines = more i;
}

counted_start : (c : ClockRec) (n : ℕ) → counted (with_child c n) ≡ counts_plus (counted c) gain
counted_start c n = λ i. record {
  made = plus_zero c.share.made c.share.made refl i;
  removed = plus_zero c.share.removed c.share.removed refl i;
  taken = plus_zero c.share.taken c.share.taken refl i;
  returned = plus_zero (c.share.returned + c.owed) (c.share.returned + c.owed) refl i;
  steps = one_more c.share.steps i;
  objects = plus_zero c.share.objects c.share.objects refl i;
  goroutines = one_more c.share.goroutines i;
}

not_standing : (o : ℕ) → Standing o ≡ NoOffer → ⊥
not_standing o e = cc e

module _ {T : Setup} {g : ℕ} {c : Record} (x : Situation T g c) (f : ℕ) (callee : CodeFn) (from : List ℕ) (passes : List Class) (removes : List ℕ)
    (a : IsAtOp T.code c (Go f from passes removes)) (is_callee : code_function T.code f ≡ Some callee) (rest : c.side ≡ at_rest) where
  abbrev d : Record
  d = started_by T c a (slice_index x.words 16)

  abbrev child : Record
  child = child_of T c a f callee from

  abbrev recs' : List Record
  recs' = slice_set x.recs g d ++ child ∷ []

  starts : StartsGoroutineNext x d child
  starts =
      let p = go_law (at_instruction x a) f callee from passes removes a.is is_callee in
      let t = p.state in
      let owners : t.owners ≡ x.s.owners = p.owners ∙ append-nil x.s.owners in
      let sound = next_sound T.code T.sizes.page_words x.s t (Instruct (One g)) x.core.sound p.steps in
      let places = x.core.image.places in
      let called : List WordFrame = word_called callee f (words_of a.w from) ∷ [] in
      let fit : RecordsFit T.code places.slot x.core.image.addresses t (slice_set (map frame_of x.recs) g d.frame ++ child.frame ∷ []) =
      subst (λ (op : CodeOp). RecordsFit T.code places.slot x.core.image.addresses t (slice_set (map frame_of x.recs) g d.frame ++ child_records T.code c.frame.holder op called)) a.is p.fit in
      let before = (at_instruction x a).before in
      let shown : StateImage (layout T) x.words (map memory_of x.recs ++ first_record ∷ []) t places =
      start_keeps T.code (layout T) x.words (map memory_of x.recs) x.s t g places x.core.image.memory p.steps before.frame before.callers a.instr before.at before.cur
      (subst IsGo (sym a.is) tt) p.memory_is in
      let as_many : length t.holders ≡ length x.s.holders + 1 =
      (let m = fit.as_many in let b = x.core.image.frames.as_many in let l = length_set (map frame_of x.recs) g d.frame in
      let n = length-append (slice_set (map frame_of x.recs) g d.frame) (child.frame ∷ []) in omega arith) in
      let channels = channels_keep x (Instruct (One g)) t p.steps refl rest p.memory_is owners p.regions 1 as_many (calm t fit as_many) in
      let image : Image T.code (layout T) x.words recs' t = record {
        places = places;
        at = x.core.image.at;
        addresses = x.core.image.addresses;
        addressed = x.core.image.addressed;
        frames = subst (λ (l : List FrameRec). RecordsFit T.code places.slot x.core.image.addresses t l) (sym (map_more frame_of x.recs g d child)) fit;
        memory = subst (λ (l : List MemoryRec). StateImage (layout T) x.words l t places)
            (sym (map_more memory_of x.recs g d child ∙ ap (λ (l : List MemoryRec). l ++ first_record ∷ []) (set_again (map memory_of x.recs) g c.memory (memory_at x)))) shown;
        channels = subst (λ (l : List SideRec). ChannelsIn T.code (layout T) places x.words l t x.core.image.at)
            (sym (map_more side_of x.recs g d child ∙ ap (λ (l : List SideRec). l ++ at_rest ∷ []) (set_again (map side_of x.recs) g c.side (side_at x)))) channels;
      } in
      let more : length t.plain.goroutines ≡ length x.s.plain.goroutines + 1 =
      (let m = many T.code _ x.core.image.addresses t (slice_set (map frame_of x.recs) g d.frame ++ child.frame ∷ []) sound fit in
      let n = many T.code _ x.core.image.addresses x.s (map frame_of x.recs) x.core.sound x.core.image.frames in
      let l = length_set (map frame_of x.recs) g d.frame in
      let k = length-append (slice_set (map frame_of x.recs) g d.frame) (child.frame ∷ []) in omega arith) in
      record {
        goes = record {
          event = Instruct (One g);
          next = t;
          steps = p.steps;
          room = refl;
          gain = gain;
          adds = counts_start x.s t p.regions p.global_pages p.memory_is more p.counted;
          counted = counted_start c.clock (slice_index x.words 16);
          shallow = let s = shallow_here x g c.frame (frame_at x) in let l = ap (λ (fs : List WordFrame). length fs) a.frames in omega arith;
          image = image_made T.code (layout T) x.words recs' t (suc (slice_index x.words 16)) image;
          links = links_more T.code (layout T) (slice_set x.words 16 (suc (slice_index x.words 16))) (slice_set x.recs g d) child
              (links_low x 16 (suc (slice_index x.words 16)) (omega arith) d (all_kept refl refl refl refl) (CountsOne (one_later (steps_of c))
              (adds_nothing x t p.steps (ap (λ (m : Heap). length m.heap) p.memory_is)))) refl refl;
        };
        mark = p.mark;
        printed = p.printed ∙ (ap (Rattle.rgo_sound.specs.RegionMachine.Instructions.printed_if x.s.mark x.s.plain.printed) (append-nil x.s.plain.printed)
            ∙ Rattle.rgo_core_frames.proofs.Leaving.print_stays x.s.mark x.s.plain.printed);
        shallow = omega arith;
      }
    where
      -- the new goroutine has no offer
      calm : (t : RegionState) → RecordsFit T.code x.core.image.places.slot x.core.image.addresses t (slice_set (map frame_of x.recs) g d.frame ++ child.frame ∷ [])
          → length t.holders ≡ length x.s.holders + 1
          → (j : ℕ) (h : Holder) → length x.s.holders ≤ j → slice_get t.holders j ≡ Some h → h.offer ≡ NoOffer
      calm t fit as_many j h le e =
          let w = slice_get_within t.holders j h e in
          let b = x.core.image.frames.as_many in
          let l = length_set (map frame_of x.recs) g d.frame in
          let y = fit.each j child.frame (get_append_last (slice_set (map frame_of x.recs) g d.frame) child.frame j (omega arith)) in
          ap (λ (k : Holder). k.offer) (same_Some h y.h (sym e ∙ y.there))
          ∙ ⊎_elim
          (λ (z : IsShown T.code x.core.image.places.slot x.core.image.addresses y.frames y.h child.frame). no_offer y.h.offer (sym (ap (λ (k : Holder). k.offer) z.holder)))
          (λ (z : IsPast T.code x.core.image.places.slot x.core.image.addresses y.frames y.h child.frame).
          let q : nameless z.before.offer ≡ NoOffer = sym (ap (λ (k : Holder). k.offer) z.shown.holder) in
          absurd (not_standing 0 (sym (ap nameless z.stood) ∙ q)))
          y.fits

pub start_move : StartMove
start_move T g c f callee from passes removes a is_callee rest never =
    number_law T g c (started_by T c a) (λ n. child_of T c a f callee from) never (λ n. refl) (λ n. refl)
    (λ x less. starts x f callee from passes removes a is_callee rest)
