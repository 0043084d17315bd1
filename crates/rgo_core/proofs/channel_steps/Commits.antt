-- The store that commits an operation of one goroutine on a channel: a send, a receive, the zero of a closed channel, a close. `commits_it`
-- carries all four: the channel becomes another of the same capacity, for which memory and frames are proved once. Left is the value:
-- what is received was in the queue.
use Rattle.std.proofs.Common.{◌≡◌, ◌⊎◌, ℕ, zero, suc, ◌+◌, ◌-◌, ◌%◌, ◌<◌, ◌≤◌, false, List, [], ◌∷◌, ◌++◌, Option, Some, length, map, max, option_map, slice_set, refl, ap, sym, subst, ◌∙◌, inl, arith, append-nil, pos, Contains, slice_get}
use Rattle.std.proofs.lemmas.Option.{same_Some, slice_get_past, slice_get_within}
use Rattle.rgo_sound.specs.Typed.declared.actions.Action.{Action}
use Rattle.rgo_sound.specs.Typed.declared.actions.Action.TheVariants.{Close, Recv, Send}
use Rattle.rgo_sound.specs.Typed.declared.types.Type.{«Type»}
use Rattle.rgo_sound.specs.Memory.Effects.{Does as MemoryDoes, Effect}
use Rattle.rgo_sound.specs.Memory.Memory.{Channel, Memory as Heap, Object, with_object}
use Rattle.rgo_sound.specs.Memory.declared.values.Value.{Value}
use Rattle.rgo_sound.specs.Memory.declared.values.Value.TheVariants as value
use Rattle.rgo_sound.specs.Machine.Limits.{deepest}
use Rattle.rgo_sound.specs.Machine.declared.picks.Pick.TheVariants.{One}
use Rattle.rgo_sound.specs.Tac.Flow.{reads}
use Rattle.rgo_sound.specs.Tac.Frames.{value_at, operand_values}
use Rattle.rgo_sound.specs.Tac.Steps.{destination_type}
use Rattle.rgo_sound.specs.Code.Code.{CodeOp}
use Rattle.rgo_sound.specs.Code.Erasure.{erased, erased_op}
use Rattle.rgo_sound.specs.RegionMachine.Machine.{Instruct}
use Rattle.rgo_sound.specs.RegionMachine.Objects.{allotted, making_region}
use Rattle.rgo_sound.specs.RegionMachine.Owed.{function_at}
use Rattle.rgo_sound.specs.RegionMachine.States.{RegionState, top_names}
use Rattle.rgo_sound.specs.RegionMachine.declared.regions.Region.{Region}
use Rattle.rgo_sound.proofs.steps.Acting.{performed, silent}
use Rattle.rgo_sound.proofs.Places.{contains_here, contains_there, each_get, get_set_same, length_set}
use Rattle.rgo_sound.specs.Types.{Each, HasKind}
use Rattle.rgo_sound.specs.Tally.{no_share}
use Rattle.rgo_core_channels.specs.After.{after, closed_now, popped, pushed}
use Rattle.rgo_core_channels.specs.Channels.{Chan, On, channel}
use Rattle.rgo_core_channels.specs.Controls.{closed_of, control, count_of, head_of}
use Rattle.rgo_core_channels.specs.Moments.{Gains}
use Rattle.rgo_core_channels.specs.Records.{Locked, Read, Sized, Wrote, at_rest}
use Rattle.rgo_core_channels.specs.Standing.{blank_of, passed_holder}
use Rattle.rgo_core_channels.proofs.Buffers.{close_is, receive_is, send_is, zero_is}
use Rattle.rgo_core_frames.specs.steps.Actions.{acted_records as frames_acted}
use Rattle.rgo_core_frames.specs.Fits.{RecordsFit, ObjectsDiffer}
use Rattle.rgo_core_frames.specs.shown.Ints.{ValueFitsWord, ObjectIntsFit}
use Rattle.rgo_core_frames.specs.steps.Bookkept.{PerformsInstr}
use Rattle.rgo_core_frames.specs.shown.WordFrames.{frame_word as word_of}
use Rattle.rgo_core_frames.specs.shown.Words.{Shows}
use Rattle.rgo_core_frames.proofs.steps.ActionSteps.{action_law}
use Rattle.rgo_core_frames.proofs.shown.Showing.{zero_shows}
use Rattle.rgo_core_memory.specs.Encoding.{address, content}
use Rattle.rgo_core_memory.specs.Ground.{IsLiveObject, ground_of, stored}
use Rattle.rgo_core_memory.specs.Image.{StateImage, word_at}
use Rattle.rgo_core_memory.proofs.accesses.Accesses.{image_of}
use Rattle.rgo_core_memory.proofs.regions.Attending.{same_held}
use Rattle.rgo_core_memory.proofs.image.Channels.{requeued, untold}
use Rattle.rgo_core.specs.ties.AtChannels.{Operates, commits}
use Rattle.rgo_core.specs.ties.Bounds.{Points, target_type}
use Rattle.rgo_core.specs.moves.Commits.{CloseMove, ReceiveMove, Receives, SendMove, ZeroMove}
use Rattle.rgo_core.specs.Core.{Situation, Setup, layout}
use Rattle.rgo_core_channels.specs.Positions.{place_at}
use Rattle.rgo_core.specs.Records.{Record, frame_of, memory_of, steps_of}
use Rattle.rgo_core.specs.Steps.{MakesQuietStep}
use Rattle.rgo_core.proofs.channel_steps.AtChannels.{calm, here, next, object, place_is, points_to, reached}
use Rattle.rgo_core.proofs.image.Bounds.{LeadsToLive, gives_points, held_live}
use Rattle.rgo_core.proofs.channel_steps.Moves.{above, control_at, high, written}
use Rattle.rgo_core.proofs.image.Encodings.{shows_it, word_is}
use Rattle.rgo_core.proofs.channel_steps.Leaving.{channel_stands}
use Rattle.rgo_core.proofs.image.Parts.{adds_of, image_with, memory_stays, shallow}
use Rattle.rgo_core.proofs.image.Standing.{side_at}
use Rattle.rgo_core.specs.ties.Moments.{moment}
use Rattle.rgo_core.proofs.pages.Unreserved.{adds_nothing}
use Rattle.rgo_core.proofs.accesses.Links.{CountsOne, all_kept, links_beside, one_later}
use Rattle.rgo_core.proofs.goroutines.Counting.{instructed_counts}
use Rattle.rgo_core.proofs.steps.Lift.{moves_by}

-- memory determines the same words of each channel with this capacity
told_same : (k z : Chan) → z.capacity ≡ k.capacity → (j : ℕ) → content (channel z) j ≡ content (channel k) j
told_same k z e zero = refl
told_same k z e (suc zero) = ap (λ n. content (Channel n [] false) 1) e
told_same k z e (suc (suc j)) = refl

module _ {T : Setup} {g : ℕ} {c : Record} (x : Situation T g c) {to : Option ℕ} {action : Action} {others : List ℕ} {at : ℕ}
    (a : Operates T c to action others at) where
  abbrev its_type : «Type»
  its_type = destination_type (erased T.code) (here x a).before.frame to

  -- what the action does to the memory, the record's instruction does to the state
  pub performs : (memory : Heap) (v : Value) (word : ℕ)
      → performed T.code.structs action (destination_type (erased T.code) (here x a).before.frame to)
      (value.Object (object x a) ∷ operand_values (here x a).before.frame others) x.s.plain.memory
      ≡ Some (MemoryDoes memory v)
      → length memory.heap ≡ length x.s.plain.memory.heap → Shows x.core.image.addresses v word
      → PerformsInstr (here x a) x.core.image.addresses memory [] ((here x a).before.h, [])
      (frames_acted (here x a) to word)
  performs memory v word does long shows =
      subst (λ l. PerformsInstr (here x a) l memory [] ((here x a).before.h, [])
      (frames_acted (here x a) to word)) (append-nil x.core.image.addresses)
      (action_law (here x a) [] to action (a.channel ∷ others) a.removes memory v word
      ((here x a).before.h, []) a.here.is
      (ap (λ (u : Value). performed T.code.structs action its_type
      (u ∷ operand_values (here x a).before.frame others) x.s.plain.memory) (points_to x a).is ∙ does)
      (ap (allotted T.sizes.page_words (here x a).before.h
      (making_region (function_at T.code (here x a).before.frame)
      (top_names (here x a).before.h.environments) a.here.instr.op))
      (slice_get_past memory.heap (length x.s.plain.memory.heap) (let l = long in omega (arith, l))))
      (subst (λ l. Shows l v word) (sym (append-nil x.core.image.addresses)) shows)
      (ap (λ (l : List ℕ). length l) (append-nil x.core.image.addresses) ∙ x.core.image.frames.laid ∙ sym long)
      (subst (λ l. ObjectsDiffer l x.s.regions (x.s.owners ++ [])) (sym (append-nil x.core.image.addresses))
      (subst (ObjectsDiffer x.core.image.addresses x.s.regions) (sym (append-nil x.s.owners))
      x.core.image.frames.addresses_differ)))

  -- it has equally many frames as before
  pub as_shallow : (word : ℕ) → length (commits a word).frame.frames ≤ deepest
  as_shallow word = subst (λ n. n ≤ deepest) (ap (λ l. length l) a.here.frames) (shallow x)

  -- The channel becomes another of the same capacity, the instruction has a value that this word shows, and the control becomes w.
  module _ (k y : Chan) (on : On x.s (object x a) k) (size : y.capacity ≡ k.capacity) (v : Value) (word w : ℕ)
      (does : performed T.code.structs action (destination_type (erased T.code) (here x a).before.frame to)
      (value.Object (object x a) ∷ operand_values (here x a).before.frame others) x.s.plain.memory
      ≡ Some (MemoryDoes (with_object x.s.plain.memory (object x a) (channel y)) v))
      (shows : Shows x.core.image.addresses v word)
      (gains : Gains (moment x) g (place_at (layout T) x.core.image.places (object x a)) w at_rest (Instruct (One g))
      (after (next x a) (with_object x.s.plain.memory (object x a) (channel y)) v)) where
    abbrev t : RegionState
    t = after (next x a) (with_object x.s.plain.memory (object x a) (channel y)) v

    abbrev old : Object
    old = channel k

    abbrev new : Object
    new = channel y

    long : length (slice_set x.s.plain.memory.heap (object x a) (channel y)) ≡ length x.s.plain.memory.heap
    long = length_set x.s.plain.memory.heap (object x a) (channel y)

    H : PerformsInstr (here x a) x.core.image.addresses (with_object x.s.plain.memory (object x a) (channel y)) []
        ((here x a).before.h, []) (frames_acted (here x a) to word)
    H = performs (with_object x.s.plain.memory (object x a) (channel y)) v word does long shows

    same_state : t ≡ H.state
    same_state = same_Some t H.state (sym gains.steps ∙ H.steps)

    stands : (r : Region) × IsLiveObject x.s.plain.memory.heap x.s.owners x.s.regions (object x a) (channel k) r
    stands = channel_stands x.s (object x a) k on

    stands_then : IsLiveObject (slice_set x.s.plain.memory.heap (object x a) (channel y)) x.s.owners x.s.regions (object x a)
        (channel y) stands.0
    stands_then = record {
      there = get_set_same x.s.plain.memory.heap (object x a) (channel k) (channel y) on.0;
      owner = stands.1.owner;
      live = stands.1.live;
    }

    memory_then : StateImage (layout T) (slice_set x.words (word_at (layout T) x.core.image.places (object x a) 0) w)
        (map memory_of x.recs) t x.core.image.places
    memory_then =
        image_of (λ j. record (stored (ground_of x.s) (object x a) (channel y)) {
          held = same_held x.s g (next x a).holder (passed_holder (next x a) v) (next x a).there refl j;
        })
        (untold (layout T) x.words (map memory_of x.recs) (stored (ground_of x.s) (object x a) (channel y)) x.core.image.places
        (requeued (layout T) x.words (map memory_of x.recs) (ground_of x.s) x.core.image.places x.core.image.memory
        (object x a) (channel k) stands.0 stands.1 (channel y) (ap (λ n. 2 + max 1 n) size, ap (λ n. max 1 n) size) (told_same k y size))
        (object x a) (channel y) stands.0 stands_then 0 w (omega arith) refl)

    pub commits_it : MakesQuietStep x (slice_set x.words at w) (commits a word)
    commits_it = record {
      goes = record {
        event = Instruct (One g);
        next = t;
        steps = gains.steps;
        room = refl;
        gain = record no_share { steps = 1; objects = 0 };
        adds = adds_of x.s t 1 0 refl refl refl (let l = long in omega (arith, l)) (length_set x.s.plain.goroutines g _);
        counted = instructed_counts c.clock;
        shallow = as_shallow word;
        image = image_with x (slice_set x.words at w) (commits a word) t x.core.image.places gains.at x.core.image.addresses
            x.core.image.addressed
            (subst (λ (u : RegionState). RecordsFit T.code x.core.image.places.slot x.core.image.addresses u
            (slice_set (map frame_of x.recs) g (commits a word).frame)) (sym same_state) H.fit)
            (memory_stays x (slice_set x.words at w) t x.core.image.places
            (subst (λ (i : ℕ). StateImage (layout T) (slice_set x.words i w) (map memory_of x.recs) t x.core.image.places)
            (control_at x (object x a) k on ∙ place_is x a) memory_then))
            (subst (λ (i : ℕ). Gains (moment x) g i w at_rest (Instruct (One g)) t) (place_is x a) gains).channels;
        links = links_beside x at w (map memory_of x.recs)
            (subst (λ (i : ℕ). StateImage (layout T) (slice_set x.words i w) (map memory_of x.recs) x.s x.core.image.places)
            (control_at x (object x a) k on ∙ place_is x a) (written x (object x a) k on 0 w (omega arith) refl))
            (above x (reached x a)) (commits a word) (all_kept refl refl refl refl) (CountsOne (one_later (steps_of c)) (adds_nothing x t gains.steps long));
      };
      mark = refl;
      printed = refl;
      same = record { prints = refl; first = refl; children = refl; refused = refl };
    }

    -- and it points into the pages
    pub commit_points : LeadsToLive x.s v → Points T (target_type T a.here.w to) word
    commit_points live =
        gives_points x to action (a.channel ∷ others) a.removes a.here (with_object x.s.plain.memory (object x a) (channel y)) v
        (ap (λ (u : Value). performed T.code.structs action its_type
        (u ∷ operand_values (here x a).before.frame others) x.s.plain.memory) (points_to x a).is ∙ does)
        (slice_set x.words (word_at (layout T) x.core.image.places (object x a) 0) w) (map memory_of x.recs) t x.core.image.places memory_then
        x.core.image.addresses x.core.image.addressed refl word live shows

-- ---- the four operations

module _ {T : Setup} {g : ℕ} {c : Record} (x : Situation T g c) {to : Option ℕ} {sent at : ℕ} (a : Operates T c to Send (sent ∷ []) at)
  where
    abbrev pub value_sent : Value
    value_sent = value_at (here x a).before.frame sent

    -- what is sent is in the record's word
    pub sent_is : (moment x).encode value_sent ≡ word_of a.here.w sent
    sent_is =
        word_is x.core.image.addresses (address (layout T) x.core.image.places.start) x.core.image.addressed value_sent
        (word_of a.here.w sent)
        ((here x a).before.shown sent
        (subst (λ (o : CodeOp). Contains (reads (erased_op o)) sent) (sym a.here.is)
        (contains_there a.channel (sent ∷ []) sent (contains_here sent []))))

    send_does : (n i size : ℕ) → c.side.hold ≡ Wrote at n i (word_of a.here.w sent) → c.side.size ≡ Sized at size
        → closed_of n ≡ 0 → count_of n < size → i ≡ (head_of n + count_of n) % size
        → MakesQuietStep x (slice_set x.words at (n + 4)) (commits a 0)
    send_does n i size hold sizing shut room behind =
        let p = sym (place_is x a) in
        let L = send_is (moment x) g c.side (side_at x) (object x a) n i (word_of a.here.w sent) size value_sent (next x a)
        (hold ∙ ap (λ j. Wrote j n i (word_of a.here.w sent)) p) sent_is (calm x a.here)
        (sizing ∙ ap (λ j. Sized j size) p) shut room behind in
        commits_it x a L.0 (pushed value_sent L.0) L.1 refl value.Nil 0 (n + 4) (ap (option_map silent) L.2) refl L.3

pub send_move : SendMove
send_move T g c to sent at n i size a hold sizing shut room behind =
    moves_by T g c at (λ w. n + 4) (λ w. commits a 0) (λ w d. d ≡ commits a 0) (λ w. refl) (λ x. high x (reached x a))
    (λ x small. inl (send_does x a n i size hold sizing shut room behind)) (λ x. refl)

-- what is in a queue fits in a word, and was made
kinds_made : (kinds : List «Type») (ty : «Type») (v : Value) (p : ℕ) → HasKind kinds ty v → v ≡ value.Object p
    → p < length kinds
kinds_made kinds ty v p h e =
    let k : HasKind kinds ty (value.Object p) = subst (HasKind kinds ty) e h in slice_get_within kinds p ty k.0

module _ {T : Setup} {g : ℕ} {c : Record} (x : Situation T g c) {to : Option ℕ} {at : ℕ} (a : Operates T c to Recv [] at) where
  -- the word of a value of a queue shows it
  queue_shows : (o : ℕ) (k : Chan) (v : Value) (queue : List Value) → On x.s o k → k.queue ≡ v ∷ queue
      → Shows x.core.image.addresses v ((moment x).encode v)
  queue_shows o k v queue on filled =
      shows_it x.core.image.addresses (address (layout T) x.core.image.places.start) x.core.image.addressed v
      (λ n e. subst ValueFitsWord e ints.0) made
    where
      fit : Each ValueFitsWord k.queue × ValueFitsWord (value.Int (pos k.capacity))
      fit = each_get ObjectIntsFit x.s.plain.memory.heap o (channel k) x.core.ints.memory.objects on.0

      ints : Each ValueFitsWord (v ∷ queue)
      ints = subst (Each ValueFitsWord) filled fit.0

      made : (p : ℕ) → v ≡ value.Object p → p < length x.core.image.addresses
      made p e =
          let f = (here x a).before.memory.objects o (channel k) on.0 in
          let q : Each (HasKind (here x a).before.kinds f.2.0) (v ∷ queue) = subst (Each (HasKind (here x a).before.kinds f.2.0)) filled f.2.2 in
          let l = kinds_made (here x a).before.kinds f.2.0 v p q.0 e in
          let m = (here x a).before.memory.no_more in
          let n = x.core.image.frames.laid in
          omega (arith, l, m, n)

  receive_does : (n i word size : ℕ) → c.side.hold ≡ Read at n i word → c.side.size ≡ Sized at size
      → 0 < count_of n → 0 < size → i ≡ head_of n
      → MakesQuietStep x (slice_set x.words at (control (closed_of n) (count_of n - 1) ((head_of n + 1) % size))) (commits a word)
  receive_does n i word size hold sizing filled some_size at_head =
      let p = sym (place_is x a) in
      let L = receive_is (moment x) g c.side (side_at x) (object x a) n i word size (next x a)
      (hold ∙ ap (λ j. Read j n i word) p) (calm x a.here) (sizing ∙ ap (λ j. Sized j size) p) filled some_size at_head in
      commits_it x a L.0 (popped L.0 L.3) L.1 refl L.2 word
      (control (closed_of n) (count_of n - 1) ((head_of n + 1) % size)) L.6
      (subst (Shows x.core.image.addresses L.2) L.5 (queue_shows (object x a) L.0 L.2 L.3 L.1 L.4)) L.7

  -- what is received was in the queue
  receive_points : (n i word size : ℕ) → c.side.hold ≡ Read at n i word → c.side.size ≡ Sized at size
      → 0 < count_of n → 0 < size → i ≡ head_of n → Points T (target_type T a.here.w to) word
  receive_points n i word size hold sizing filled some_size at_head =
      let p = sym (place_is x a) in
      let L = receive_is (moment x) g c.side (side_at x) (object x a) n i word size (next x a)
      (hold ∙ ap (λ j. Read j n i word) p) (calm x a.here) (sizing ∙ ap (λ j. Sized j size) p) filled some_size at_head in
      commit_points x a L.0 (popped L.0 L.3) L.1 refl L.2 word
      (control (closed_of n) (count_of n - 1) ((head_of n + 1) % size)) L.6
      (subst (Shows x.core.image.addresses L.2) L.5 (queue_shows (object x a) L.0 L.2 L.3 L.1 L.4)) L.7
      (held_live x (object x a) (channel L.0) (channel_stands x.s (object x a) L.0 L.1).0 (channel_stands x.s (object x a) L.0 L.1).1 0 L.2
      (ap (λ (q : List Value). slice_get q 0) L.4))

  zero_does : (n size : ℕ) → c.side.hold ≡ Locked at n → c.side.size ≡ Sized at size → closed_of n ≡ 1
      → (size ≡ 0) ⊎ (count_of n ≡ 0) → MakesQuietStep x (slice_set x.words at n) (commits a 0)
  zero_does n size hold sizing shut empty =
      let p = sym (place_is x a) in
      let L = zero_is (moment x) g c.side (side_at x) (object x a) n size (next x a) (hold ∙ ap (λ j. Locked j n) p)
      (calm x a.here) (sizing ∙ ap (λ j. Sized j size) p) shut empty in
      commits_it x a L.0 L.0 L.1 refl (blank_of (next x a).before) 0 n L.2
      (zero_shows x.core.image.addresses (destination_type (erased T.code) (here x a).before.frame to)) L.3

pub receive_move : ReceiveMove
receive_move T g c to at n i word size a hold sizing filled some_size at_head =
    moves_by T g c at (λ w. control (closed_of n) (count_of n - 1) ((head_of n + 1) % size)) (λ w. commits a word)
    (λ w. Receives a word) (λ w. refl) (λ x. high x (reached x a))
    (λ x small. inl (receive_does x a n i word size hold sizing filled some_size at_head))
    (λ x. (refl, receive_points x a n i word size hold sizing filled some_size at_head))

pub zero_move : ZeroMove
zero_move T g c to at n size a hold sizing shut empty =
    moves_by T g c at (λ w. n) (λ w. commits a 0) (λ w d. d ≡ commits a 0) (λ w. refl) (λ x. high x (reached x a))
    (λ x small. inl (zero_does x a n size hold sizing shut empty)) (λ x. refl)

module _ {T : Setup} {g : ℕ} {c : Record} (x : Situation T g c) {to : Option ℕ} {at : ℕ} (a : Operates T c to Close [] at) where
  close_does : (n : ℕ) → c.side.hold ≡ Locked at n → closed_of n ≡ 0
      → MakesQuietStep x (slice_set x.words at (n + 2)) (commits a 0)
  close_does n hold shut =
      let L = close_is (moment x) g c.side (side_at x) (object x a) n (next x a)
      (hold ∙ ap (λ j. Locked j n) (sym (place_is x a))) (calm x a.here) shut in
      commits_it x a L.0 (closed_now L.0) L.1 refl value.Nil 0 (n + 2) (ap (λ (e : Effect). Some (silent e)) L.2) refl L.3

pub close_move : CloseMove
close_move T g c to at n a hold shut =
    moves_by T g c at (λ w. n + 2) (λ w. commits a 0) (λ w d. d ≡ commits a 0) (λ w. refl) (λ x. high x (reached x a))
    (λ x small. inl (close_does x a n hold shut)) (λ x. refl)
