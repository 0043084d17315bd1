-- Accesses to the counts of regions. Each number found is compared with what the image says of counts: 0 is a free slot, 2 one stake. The
-- hard case is the last stake: objects and channels of the region are no longer live, and its pages become owed.
use Rattle.std.proofs.Common.{◌≡◌, ◌≢◌, inl, inr, ⊎_elim, ℕ, suc, ◌+◌, ◌-◌, ◌%◌, ◌^◌, ◌<◌, ◌==◌, Bool, true, false, List, [], ◌∷◌, ◌++◌, Some, length, map, if◌then◌else◌, nat_eq, slice_get, slice_set, slice_index, refl, ap, sym, subst, ◌∙◌, arith}
use Rattle.std.proofs.lemmas.Bool.Decides.{nat_tests}
use Rattle.std.proofs.lemmas.List.{length-map}
use Rattle.std.proofs.lemmas.Option.{same_Some}
use mathlib.Core.Logic.{dite}
use native.Mathlib.Decide.{ℕ_discrete}
use Rattle.rgo_sound.specs.RegionMachine.Counts.{Counts, counts_of}
use Rattle.rgo_sound.specs.RegionMachine.Machine.{Attend}
use Rattle.rgo_sound.specs.RegionMachine.Regions.{RegionInfo, has_stakes, is_live, one_fewer, with_added_stake}
use Rattle.rgo_sound.specs.RegionMachine.Room.{has_room}
use Rattle.rgo_sound.specs.RegionMachine.States.{Create, Duty, Holder, RegionState}
use Rattle.rgo_sound.specs.RegionMachine.declared.regions.Region.{Region}
use Rattle.rgo_sound.specs.RegionMachine.declared.regions.Region.TheVariants.{Global as GlobalRegion, Numbered}
use Rattle.rgo_sound.proofs.duties.Attends.{length_with_info, staked_live}
use Rattle.rgo_sound.proofs.Places.{get_append_left}
use Rattle.rgo_sound.proofs.counts.Tally.{tally_adds}
use Rattle.rgo_sound.proofs.Tests.{eq_of, nat_eq_refl, split}
use Rattle.rgo_sound.specs.Stakes.{is_in}
use Rattle.rgo_sound.specs.Tally.{counts_plus, no_share, share_of_last}
use Rattle.rgo_core_channels.specs.Records.{at_rest}
use Rattle.rgo_core_frames.specs.regions.Creations.{created_in}
use Rattle.rgo_core_frames.specs.Fits.{RecordFits, IsPast, IsShown}
use Rattle.rgo_core_frames.specs.regions.Stakes.{ChangesStakes, stake_ended, stake_shared}
use Rattle.rgo_core_frames.specs.steps.Bookkept.{HasStep}
use Rattle.rgo_core_frames.proofs.regions.Creating.{create_law, create_duty}
use Rattle.rgo_core_frames.proofs.regions.StakeDuties.{OwesFirst, end_law, owes_first, past_owes, share_law}
use Rattle.rgo_core_memory.specs.Image.{StateImage, Where}
use Rattle.rgo_core_memory.specs.Parts.{Closing, Living}
use Rattle.rgo_core_memory.specs.Records.{Calm, Owes, with_give, with_tried_slot, without_slot}
use Rattle.rgo_core_memory.specs.Events.{IsFreeOf}
use Rattle.rgo_core_memory.specs.Words.{base, count_at, put_at}
use Rattle.rgo_core_memory.specs.declared.layout.TableSizes.{TableSizes}
use Rattle.rgo_core_memory.proofs.regions.Attending.{create_keeps, last_leave_keeps, leave_keeps, share_keeps}
use Rattle.rgo_core_memory.proofs.regions.Bounds.{count_small}
use Rattle.rgo_core_memory.proofs.image.Keeps.{tried_slot_keeps}
use Rattle.rgo_core_memory.proofs.Puts.{put_else, put_here}
use Rattle.rgo_core_memory.proofs.regions.Slots.{live_info}
use Rattle.rgo_core.specs.moves.Chains.{remembers}
use Rattle.rgo_core.specs.Core.{Situation, Setup, layout}
use Rattle.rgo_core.specs.Records.{Record, accessed, accesses, counted, frame_of, memory_of, steps_of}
use Rattle.rgo_core.specs.moves.Regions.{CreateMove, HasLeft, LeaveMove, ShareMove, creates, left_stake, leaves_last, with_holder}
use Rattle.rgo_core.specs.Steps.{MakesQuietStep, Steps}
use Rattle.rgo_core.proofs.steps.Attending.{attends, else_stays}
use Rattle.rgo_core.proofs.pages.Chains.{as_before, look_image, remembered}
use Rattle.rgo_core.proofs.steps.Lift.{Reaches, access_law, few_records, moves_by, told_law}
use Rattle.rgo_core.proofs.image.Parts.{I, memory_stays, shallow}
use Rattle.rgo_core.proofs.pages.Room.{no_creation, slot_there}
use Rattle.rgo_core.proofs.regions.Stakes.{EndsStake, SharesStake, ends_stake, share_is, share_kept, share_last, shares_stake}
use Rattle.rgo_core_memory.specs.Owed.{claimed_for}
use Rattle.rgo_core_memory.proofs.pages.Owing.{still_claimed}
use Rattle.rgo_core_memory.proofs.regions.Infos.{info_fewer}
use Rattle.rgo_core.specs.ties.Links.{Links, left_to_free}
use Rattle.rgo_core.proofs.accesses.Links.{IsElsewhere, all_kept, as_much, claims_apart, has_duty, fixed_low, links_between, links_freeing, owing_none}
use Rattle.rgo_core.proofs.image.Standing.{frames_here, frame_at, memory_at}
use Rattle.rgo_core.proofs.goroutines.Counting.{plus_zero}

counts_none : (k : Counts) → k ≡ counts_plus k no_share
counts_none k = λ i. record {
  made = plus_zero k.made k.made refl i;
  removed = plus_zero k.removed k.removed refl i;
  taken = plus_zero k.taken k.taken refl i;
  returned = plus_zero k.returned k.returned refl i;
  steps = plus_zero k.steps k.steps refl i;
  objects = plus_zero k.objects k.objects refl i;
  goroutines = plus_zero k.goroutines k.goroutines refl i;
}

plus_one : (n : ℕ) → n < 18446744073709551615 → (n + 1) % 18446744073709551616 ≡ n + 1
plus_one n l = omega (arith, l)

minus_one : (n : ℕ) → 0 < n → n < 18446744073709551616 → (n + 18446744073709551615) % 18446744073709551616 ≡ n - 1
minus_one n p l = omega (arith, p, l)

-- ---- a region is created

later : (a b : Bool) → b ≡ true → (if a then true else b) ≡ true
later true b e = refl
later false b e = e

not_among : (slot_of : ℕ → ℕ) (p : ℕ) (rs : List ℕ) → ((r : ℕ) → is_in r rs ≡ true → slot_of r ≢ p) → is_in p (map slot_of rs) ≡ false
not_among slot_of p [] none = refl
not_among slot_of p (r ∷ rs) none =
    split (nat_eq p (slot_of r))
    (λ t. absurd (none r (ap (λ b. if b then true else is_in r rs) (nat_eq_refl r)) (sym (eq_of p (slot_of r) t))))
    (λ f. ap (λ b. if b then true else is_in p (map slot_of rs)) f
    ∙ not_among slot_of p rs (λ q i. none q (later (nat_eq q r) (is_in q rs) i)))

module _ {T : Setup} {g : ℕ} {c : Record} (x : Situation T g c) (k p : ℕ) (ds : List Duty) (rests : c.side ≡ at_rest)
    (owed : c.frame.holder.duties ≡ Create k ∷ ds) (low : p < T.sizes.regions) where
  abbrev z : TableSizes
  z = layout T

  tried_steps : slice_index x.words (count_at z p) ≢ 0
      → Steps x (slice_set x.words (count_at z p) (slice_index x.words (count_at z p))) (remembers c (with_tried_slot c.memory p))
  tried_steps ne = remembered x _ _ (look_image x (count_at z p) (omega (arith, low)) _ _
      (tried_slot_keeps T.code z x.words (map memory_of x.recs) x.s (I x).places g c.memory x.core.sound.good (I x).memory (memory_at x) p low ne))
      (as_before x (count_at z p) (slice_index x.words (count_at z p)) (omega arith) (omega (arith, low)) (with_tried_slot c.memory p) refl refl refl refl)

  module _ (none : slice_index x.words (count_at z p) ≡ 0) where
    -- no live region has the slot
    fresh : (r : ℕ) → is_live x.s.regions (Numbered r) ≡ true → (I x).places.slot r ≢ p
    fresh r live e =
        let info = live_info x.s.regions r live in
        let l = (I x).memory.counts.lives r info.0 info.1 info.2 in
        let w : (I x).memory.w.count p ≡ 0 = sym ((I x).memory.shows.count p (omega (arith, low))) ∙ none in
        let u = ap (I x).memory.w.count e in
        let counts = ((I x).memory.counts.living ((I x).places.slot r) r l.0 l.1).4 in
        omega (arith, u, w, counts)

    abbrev slot' : ℕ → ℕ
    slot' = put_at (I x).places.slot (length x.s.regions) p

    step : HasStep T.code T.sizes.page_words slot' (I x).addresses x.s (Attend g) (x.s.regions ++ record { stakes = 1; pages = 0 } ∷ []) x.s.mark
        (slice_set (map frame_of x.recs) g (created_in c.frame k ds p))
    step = create_law (frames_here x) k ds p slot' owed fresh (record {
      new = put_here (I x).places.slot (length x.s.regions) p (length x.s.regions) refl;
      old = λ r l. put_else (I x).places.slot (length x.s.regions) p r (λ e. omega (arith, e, l));
    })

    abbrev t : RegionState
    t = step.state

    f : RecordFits T.code (I x).places.slot (I x).addresses x.s g c.frame
    f = (I x).frames.each g c.frame (frame_at x)

    shown : IsShown T.code (I x).places.slot (I x).addresses f.frames f.h c.frame
    shown = ⊎_elim (λ y. y)
        (λ (y : IsPast T.code (I x).places.slot (I x).addresses f.frames f.h c.frame).
        absurd (past_owes T.code (I x).places.slot (I x).addresses f.frames f.h c.frame (Create k) ds y owed)) f.fits

    first : OwesFirst (I x).places.slot f.h (Create k) ds
    first = owes_first (I x).places.slot f.h (Create k) ds (ap (λ (y : Holder). y.duties) (sym shown.holder) ∙ owed)

    owes : f.h.duties ≡ Create k ∷ first.others
    owes = first.owed ∙ ap (λ y. y ∷ first.others) (create_duty (I x).places.slot first.duty k first.is_duty)

    lives : (o : ℕ) (r : Region) → slice_get x.s.owners o ≡ Some r → is_live t.regions r ≡ true → is_live x.s.regions r ≡ true
    lives o GlobalRegion e l = refl
    lives o (Numbered j) e l =
        ap has_stakes (sym (get_append_left x.s.regions (record { stakes = 1; pages = 0 } ∷ []) j (x.core.sound.made o j e)))
        ∙ (ap (λ (rs : List RegionInfo). is_live rs (Numbered j)) (sym step.regions_are) ∙ l)

    -- the goroutine has no stake in a region of the slot
    unstaked : is_in p c.frame.holder.stakes ≡ false
    unstaked = ap (λ (y : Holder). is_in p y.stakes) shown.holder
        ∙ not_among (I x).places.slot p f.h.stakes (λ r i. fresh r (staked_live T.code x.s g f.h r x.core.sound.good.good.fine f.there i))

    adds : counts_of t ≡ counts_plus (counts_of x.s) (record no_share { made = 1 })
    adds = tally_adds T.code T.sizes.page_words x.s t (Attend g) step.steps
        ∙ ap (counts_plus (counts_of x.s)) (share_is T.code x.s g f.h (Create k) first.others f.there owes)

    counts : counted (creates c k ds p).clock ≡ counts_plus (counted c.clock) (record no_share { made = 1 })
    counts = λ i. record {
      made = (let e : suc c.clock.share.made ≡ c.clock.share.made + 1 = omega arith in e) i;
      removed = plus_zero c.clock.share.removed c.clock.share.removed refl i;
      taken = plus_zero c.clock.share.taken c.clock.share.taken refl i;
      returned = plus_zero (c.clock.share.returned + c.clock.owed) (c.clock.share.returned + c.clock.owed) refl i;
      steps = plus_zero c.clock.share.steps c.clock.share.steps refl i;
      objects = plus_zero c.clock.share.objects c.clock.share.objects refl i;
      goroutines = plus_zero c.clock.share.goroutines c.clock.share.goroutines refl i;
    }

    abbrev P' : Where
    P' = record (I x).places { slot = slot'; uses = put_at (I x).places.uses p (Living (length x.s.regions)) }

    created_steps : Steps x (slice_set x.words (count_at z p) 2) (creates c k ds p)
    created_steps = inl (attends x rests (Attend g) refl t step.steps (slot_there x p low none f.h k first.others f.there owes) (else_stays x.s t step.same) (creates c k ds p).clock (created_in c.frame k ds p) c.memory
        slot' (put_at (I x).places.uses p (Living (length x.s.regions))) (I x).places.at (I x).places.page (count_at z p) 2 (omega (arith, low)) lives step.fit
        (memory_stays x (slice_set x.words (count_at z p) 2) t P'
        (create_keeps T.code z x.words (map memory_of x.recs) x.s t g k p f.h first.others x.core.sound.good (I x).places (I x).memory f.there owes
        step.steps low none))
        (links_between x (count_at z p) 2 (omega arith) (omega (arith, low)) (creates c k ds p) (all_kept refl refl refl refl)
        (IsElsewhere (as_much (steps_of c)) (has_duty T.code c (Create k) ds owed) (owing_none x (Create k) ds owed)))
        (record no_share { made = 1 }) adds counts (shallow x) step.mark_is
        (record { prints = refl; first = refl; children = refl; refused = refl }))

if_zero : (n a : ℕ) → n ≡ 0 → (if n == 0 then a else n) ≡ a
if_zero n a e = by (n == 0) (grind (arith, nat_tests))
  where
    by : (b : Bool) → b ≡ true → (if b then a else n) ≡ a
    by b e = ap (λ (t : Bool). if t then a else n) e

pub create_move : CreateMove
create_move T g c k p ds rests owed low =
    moves_by T g c (count_at (layout T) p) (λ n. if n == 0 then 2 else n)
    (λ n. if n == 0 then creates c k ds p else remembers c (with_tried_slot c.memory p))
    (λ n d. (d ≡ (if n == 0 then creates c k ds p else remembers c (with_tried_slot c.memory p))) × (n ≡ 0 → is_in p c.frame.holder.stakes ≡ false))
    (λ n. counted_so (n == 0)) (λ x. omega arith)
    (λ x small. by x (slice_index x.words (count_at (layout T) p) == 0) refl)
    (λ x. (refl, unstaked x k p ds rests owed low))
  where
    counted_so : (b : Bool) → accesses (if b then creates c k ds p else remembers c (with_tried_slot c.memory p)) ≡ suc (accesses c)
    counted_so true = refl
    counted_so false = refl

    by : (x : Situation T g c) (b : Bool) → (slice_index x.words (count_at (layout T) p) == 0) ≡ b
        → Steps x (slice_set x.words (count_at (layout T) p) (if b then 2 else slice_index x.words (count_at (layout T) p)))
        (if b then creates c k ds p else remembers c (with_tried_slot c.memory p))
    by x true e = created_steps x k p ds rests owed low (grind (arith, nat_tests))
    by x false e = tried_steps x k p ds rests owed low (grind (arith, nat_tests))

-- ---- the count of a live region

module _ {T : Setup} {g : ℕ} {c : Record} (x : Situation T g c) (j p : ℕ) (slot_is : (I x).places.slot j ≡ p)
    (live : is_live x.s.regions (Numbered j) ≡ true) where
  pub info_of : (info : RegionInfo) × (slice_get x.s.regions j ≡ Some info) × (0 < info.stakes)
  info_of = live_info x.s.regions j live

  pub in_table : p < T.sizes.regions
  in_table = subst (λ n. n < T.sizes.regions) slot_is ((I x).memory.counts.lives j info_of.0 info_of.1 info_of.2).0

  pub count_is : slice_index x.words (count_at (layout T) p) ≡ suc info_of.0.stakes
  count_is =
      let l = (I x).memory.counts.lives j info_of.0 info_of.1 info_of.2 in
      let y = (I x).memory.counts.living ((I x).places.slot j) j l.0 l.1 in
      let same : y.1 ≡ info_of.0 = same_Some y.1 info_of.0 (sym y.2 ∙ info_of.1) in
      let low = in_table in
      (I x).memory.shows.count p (omega (arith, low))
      ∙ (ap (I x).memory.w.count (sym slot_is) ∙ (y.4 ∙ ap (λ (i : RegionInfo). suc i.stakes) same))

-- ---- a stake is taken

module _ {T : Setup} {g : ℕ} {c : Record} (x : Situation T g c) (d : Duty) (ds : List Duty) (p : ℕ) (k : Holder) (rests : c.side ≡ at_rest)
    (owed : c.frame.holder.duties ≡ d ∷ ds) (shares : stake_shared (record c.frame.holder { duties = ds }) d ≡ Some (p, k)) where
  S : ChangesStakes T.code T.sizes.page_words (I x).places.slot (I x).addresses x.s g p stake_shared with_added_stake
      (slice_set (map frame_of x.recs) g (record c.frame { holder = k }))
  S = share_law (frames_here x) d ds p k owed shares

  shared : SharesStake x.s S.h S.duty S.others S.region
  shared = shares_stake x.s S.h S.duty S.others S.region S.after S.owed S.does

  share_lives : (o : ℕ) (r : Region) → slice_get x.s.owners o ≡ Some r → is_live S.step.state.regions r ≡ true → is_live x.s.regions r ≡ true
  share_lives o r e l = info_fewer x.s.regions S.region with_added_stake S.live r
      (ap (λ (rs : List RegionInfo). is_live rs r) (sym S.step.regions_are) ∙ l)

  share_memory : StateImage (layout T) (slice_set x.words (count_at (layout T) p) (slice_index x.words (count_at (layout T) p) + 1))
      (map memory_of x.recs) S.step.state (I x).places
  share_memory = subst (λ n. StateImage (layout T) (slice_set x.words (count_at (layout T) n) (slice_index x.words (count_at (layout T) n) + 1))
      (map memory_of x.recs) S.step.state (I x).places) S.slot_is
      (share_keeps T.code (layout T) x.words (map memory_of x.recs) x.s S.step.state g shared.name S.region S.h S.others (I x).places (I x).memory
      S.there shared.owed shared.named shared.fresh S.step.steps)

  share_adds : counts_of S.step.state ≡ counts_plus (counts_of x.s) no_share
  share_adds = tally_adds T.code T.sizes.page_words x.s S.step.state (Attend g) S.step.steps
      ∙ ap (counts_plus (counts_of x.s)) (share_is T.code x.s g S.h S.duty S.others S.there S.owed ∙ shared.share)

  share_room : has_room T.sizes x.s (Attend g) ≡ true
  share_room = no_creation T.code T.sizes x.s S.step.state g S.step.steps (ap length S.step.regions_are ∙ length_with_info x.s.regions S.region with_added_stake)

  share_does : MakesQuietStep x (slice_set x.words (count_at (layout T) p) (slice_index x.words (count_at (layout T) p) + 1)) (with_holder c k)
  share_does = attends x rests (Attend g) refl S.step.state S.step.steps share_room (else_stays x.s S.step.state S.step.same) (accessed c.clock) (record c.frame { holder = k }) c.memory
      (I x).places.slot (I x).places.uses (I x).places.at (I x).places.page (count_at (layout T) p) (slice_index x.words (count_at (layout T) p) + 1)
      (let l = in_table x S.region p S.slot_is S.live in omega (arith, l)) share_lives S.step.fit
      (memory_stays x (slice_set x.words (count_at (layout T) p) (slice_index x.words (count_at (layout T) p) + 1)) S.step.state (I x).places share_memory)
      (links_between x (count_at (layout T) p) (slice_index x.words (count_at (layout T) p) + 1) (omega arith)
      (let l = in_table x S.region p S.slot_is S.live in omega (arith, l)) (with_holder c k) (all_kept refl refl refl refl)
      (IsElsewhere (as_much (steps_of c)) (has_duty T.code c d ds owed) (owing_none x d ds owed)))
      no_share share_adds (counts_none (counted c.clock)) (shallow x) S.step.mark_is
      (record { prints = refl; first = refl; children = refl; refused = refl })

  -- the count is small, so that it does not wrap around
  small_count : slice_index x.words (count_at (layout T) p) < 18446744073709551615
  small_count =
      let n = count_small T.code (layout T) x.words (map memory_of x.recs) x.s (I x).places S.region x.core.sound.good (I x).memory S.live in
      let e = ap (λ m. slice_index x.words (count_at (layout T) m)) S.slot_is in
      let few = few_records x in
      let cap = x.core.capped in
      let many = (I x).frames.as_many in
      let mapped = length-map x.recs frame_of in
      omega (arith, n, e, few, cap, many, mapped)

  pub share_steps : Steps x (slice_set x.words (count_at (layout T) p) ((slice_index x.words (count_at (layout T) p) + 1) % 2 ^ 64)) (with_holder c k)
  share_steps = inl (subst (λ n. MakesQuietStep x (slice_set x.words (count_at (layout T) p) n) (with_holder c k))
      (sym (plus_one (slice_index x.words (count_at (layout T) p)) small_count)) share_does)

pub share_move : ShareMove
share_move T g c d ds p k rests owed shares =
    access_law T g c (count_at (layout T) p) (λ n. (n + 1) % 2 ^ 64) (λ n. with_holder c k) (omega arith) (λ n. refl)
    (λ x small. share_steps x d ds p k rests owed shares)

-- ---- a stake ends

module _ {T : Setup} {g : ℕ} {c : Record} (x : Situation T g c) (d : Duty) (ds : List Duty) (p : ℕ) (k : Holder) (rests : c.side ≡ at_rest)
    (owed : c.frame.holder.duties ≡ d ∷ ds) (ends : stake_ended (record c.frame.holder { duties = ds }) d ≡ Some (p, k))
    (free : IsFreeOf c.memory p) (calm : c.memory.give ≡ Calm) where
  E : ChangesStakes T.code T.sizes.page_words (I x).places.slot (I x).addresses x.s g p stake_ended one_fewer
      (slice_set (map frame_of x.recs) g (record c.frame { holder = k }))
  E = end_law (frames_here x) d ds p k owed ends

  end_of : EndsStake x.s E.h E.duty E.others E.region
  end_of = ends_stake x.s E.h E.duty E.others E.region E.after E.owed E.does

  abbrev n : ℕ
  n = slice_index x.words (count_at (layout T) p)

  abbrev info : RegionInfo
  info = (info_of x E.region p E.slot_is E.live).0

  n_is : n ≡ suc info.stakes
  n_is = count_is x E.region p E.slot_is E.live

  end_lives : (o : ℕ) (r : Region) → slice_get x.s.owners o ≡ Some r → is_live E.step.state.regions r ≡ true → is_live x.s.regions r ≡ true
  end_lives o r e l = info_fewer x.s.regions E.region one_fewer E.live r
      (ap (λ (rs : List RegionInfo). is_live rs r) (sym E.step.regions_are) ∙ l)

  end_free : IsFreeOf c.memory ((I x).places.slot E.region)
  end_free = subst (IsFreeOf c.memory) (sym E.slot_is) free

  abbrev found_at : ℕ → ℕ
  found_at m = slice_index x.words (count_at (layout T) m)

  end_adds : counts_of E.step.state ≡ counts_plus (counts_of x.s) (share_of_last (slice_get x.s.regions E.region))
  end_adds = tally_adds T.code T.sizes.page_words x.s E.step.state (Attend g) E.step.steps
      ∙ ap (counts_plus (counts_of x.s)) (share_is T.code x.s g E.h E.duty E.others E.there E.owed ∙ end_of.share)

  end_room : has_room T.sizes x.s (Attend g) ≡ true
  end_room = no_creation T.code T.sizes x.s E.step.state g E.step.steps (ap length E.step.regions_are ∙ length_with_info x.s.regions E.region one_fewer)

  low_end : count_at (layout T) p < base (layout T)
  low_end = let l = in_table x E.region p E.slot_is E.live in omega (arith, l)

  -- one that was not the last
  module _ (more : n ≢ 2) where
    leave_memory : StateImage (layout T) (slice_set x.words (count_at (layout T) p) (n - 1))
        (slice_set (map memory_of x.recs) g (without_slot c.memory p)) E.step.state (I x).places
    leave_memory = subst (λ m. StateImage (layout T) (slice_set x.words (count_at (layout T) m) (found_at m - 1))
        (slice_set (map memory_of x.recs) g (without_slot c.memory m)) E.step.state (I x).places) E.slot_is
        (leave_keeps T.code (layout T) x.words (map memory_of x.recs) x.s E.step.state g E.region E.h c.memory x.core.sound.good (I x).places
        (I x).memory E.there (memory_at x) end_of.leaves E.step.steps end_free (owing_none x d ds owed)
        (subst (λ m. found_at m ≢ 2) (sym E.slot_is) more))

    leave_does : MakesQuietStep x (slice_set x.words (count_at (layout T) p) (n - 1)) (left_stake c k p)
    leave_does = attends x rests (Attend g) refl E.step.state E.step.steps end_room (else_stays x.s E.step.state E.step.same) (accessed c.clock) (record c.frame { holder = k })
        (without_slot c.memory p) (I x).places.slot (I x).places.uses (I x).places.at (I x).places.page (count_at (layout T) p) (n - 1) low_end end_lives
        E.step.fit leave_memory
        (links_between x (count_at (layout T) p) (n - 1) (omega arith) low_end (left_stake c k p) (all_kept refl refl refl refl)
        (IsElsewhere (as_much (steps_of c)) (has_duty T.code c d ds owed) (owing_none x d ds owed)))
        no_share
        (end_adds ∙ ap (counts_plus (counts_of x.s)) (share_kept x.s.regions E.region info (info_of x E.region p E.slot_is E.live).1
        (λ e. let w = n_is in more (omega (arith, w, e)))))
        (counts_none (counted c.clock)) (shallow x) E.step.mark_is
        (record { prints = refl; first = refl; children = refl; refused = refl })

  -- the last one
  module _ (two : n ≡ 2) where
    abbrev gain : Counts
    gain = record no_share { removed = 1; returned = info.pages }

    last_memory : StateImage (layout T) (slice_set x.words (count_at (layout T) p) (n - 1))
        (slice_set (map memory_of x.recs) g (with_give (without_slot c.memory p) (Owes p))) E.step.state
        (record (I x).places { uses = put_at (I x).places.uses p (Closing g) })
    last_memory = subst (λ m. StateImage (layout T) (slice_set x.words (count_at (layout T) m) (found_at m - 1))
        (slice_set (map memory_of x.recs) g (with_give (without_slot c.memory m) (Owes m))) E.step.state
        (record (I x).places { uses = put_at (I x).places.uses m (Closing g) })) E.slot_is
        (last_leave_keeps T.code (layout T) x.words (map memory_of x.recs) x.s E.step.state g E.region E.h c.memory x.core.sound.good (I x).places
        (I x).memory E.there (memory_at x) end_of.leaves E.step.steps end_free (owing_none x d ds owed) calm
        (subst (λ m. found_at m ≡ 2) (sym E.slot_is) two))

    owes_none : c.clock.owed ≡ 0
    owes_none = (x.core.links g c x.is_c).owed ∙ ap (left_to_free (layout T) x.words) calm

    last_counts : counted (leaves_last c k p info.pages).clock ≡ counts_plus (counted c.clock) gain
    last_counts = λ i. record {
      made = plus_zero c.clock.share.made c.clock.share.made refl i;
      removed = (let e : suc c.clock.share.removed ≡ c.clock.share.removed + 1 = omega arith in e) i;
      taken = plus_zero c.clock.share.taken c.clock.share.taken refl i;
      returned =
          (let o = owes_none in
          let e : c.clock.share.returned + info.pages ≡ c.clock.share.returned + c.clock.owed + info.pages = omega (arith, o) in e) i;
      steps = plus_zero c.clock.share.steps c.clock.share.steps refl i;
      objects = plus_zero c.clock.share.objects c.clock.share.objects refl i;
      goroutines = plus_zero c.clock.share.goroutines c.clock.share.goroutines refl i;
    }

    -- its pages are to be freed
    last_links : Links T.code (layout T) (slice_set x.words (count_at (layout T) p) (n - 1)) (slice_set x.recs g (leaves_last c k p info.pages))
    last_links =
        let words = slice_set x.words (count_at (layout T) p) (n - 1) in
        let claims = claims_apart x (count_at (layout T) p) (n - 1) (λ q l e. omega (arith, l, e)) in
        let live = info_of x E.region p E.slot_is E.live in
        let pages : info.pages ≡ claimed_for (layout T) x.words p =
        still_claimed.live (layout T) x.words (map memory_of x.recs) x.s (I x).places (I x).memory E.region info live.1 live.2
        ∙ ap (claimed_for (layout T) x.words) E.slot_is in
        links_freeing x words (fixed_low x (count_at (layout T) p) (n - 1) low_end) (leaves_last c k p info.pages) (λ j r e ne is closes. claims r)
        (pages ∙ sym (claims p)) refl refl
        (IsElsewhere (as_much (steps_of c)) (has_duty T.code c d ds owed) (owing_none x d ds owed))

    last_does : MakesQuietStep x (slice_set x.words (count_at (layout T) p) (n - 1)) (leaves_last c k p info.pages)
    last_does = attends x rests (Attend g) refl E.step.state E.step.steps end_room (else_stays x.s E.step.state E.step.same) (leaves_last c k p info.pages).clock
        (record c.frame { holder = k }) (with_give (without_slot c.memory p) (Owes p)) (I x).places.slot (put_at (I x).places.uses p (Closing g))
        (I x).places.at (I x).places.page (count_at (layout T) p) (n - 1) low_end end_lives E.step.fit last_memory last_links gain
        (end_adds ∙ ap (counts_plus (counts_of x.s)) (share_last x.s.regions E.region info (info_of x E.region p E.slot_is E.live).1
        (let w = n_is in omega (arith, w, two))))
        last_counts (shallow x) E.step.mark_is
        (record { prints = refl; first = refl; children = refl; refused = refl })

  pub reaches : n < 18446744073709551616 → Reaches x (count_at (layout T) p) (λ m. (m + (2 ^ 64 - 1)) % 2 ^ 64) (HasLeft c k p)
  reaches small = dite (ℕ_discrete n 2)
      (λ two. record {
        after = leaves_last c k p info.pages;
        more = refl;
        steps = inl (subst (λ m. MakesQuietStep x (slice_set x.words (count_at (layout T) p) m) (leaves_last c k p info.pages)) (sym down) (last_does two));
        tells_so = inr (two, owes_none two, info.pages, refl);
      })
      (λ more. record {
        after = left_stake c k p;
        more = refl;
        steps = inl (subst (λ m. MakesQuietStep x (slice_set x.words (count_at (layout T) p) m) (left_stake c k p)) (sym down) (leave_does more));
        tells_so = inl (more, refl);
      })
    where
      down : (n + (2 ^ 64 - 1)) % 2 ^ 64 ≡ n - 1
      down = minus_one n (let w = n_is in omega (arith, w)) small

pub leave_move : LeaveMove
leave_move T g c d ds p k rests owed ends free calm =
    told_law T g c (count_at (layout T) p) (λ n. (n + (2 ^ 64 - 1)) % 2 ^ 64) (HasLeft c k p) (λ x. omega arith)
    (λ x small. reaches x d ds p k rests owed ends free calm small)
