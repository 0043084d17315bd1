-- A body after an instruction that an access has done shows the record after that. One module serves all instructions: they differ only
-- in the word that is written, in what is counted, and in what becomes of memory.
use Rattle.std.proofs.Common.{◌≡◌, ◌⊎◌, ◌+◌, ◌*◌, ℕ, zero, suc, List, [], ◌∷◌, Option, None, refl, sym, ap, ◌∙◌, subst, length}
use Rattle.std.specs.Option.{option_map_or}
use Rattle.std.proofs.lemmas.List.{length-append}
use Rattle.rgo_core.specs.Core.{Setup}
use Rattle.rgo_core.specs.Records.{ClockRec, Record, accessed, drawn_at, ticked, with_child, with_print}
use Rattle.rgo_core.specs.Channels.Records.{ChannelRec as SideRec, at_rest}
use Rattle.rgo_core.specs.Channels.Records as sides
use Rattle.rgo_core.specs.Frames.steps.Actions.{after_action}
use Rattle.rgo_core.specs.Frames.goroutines.Meetings.{acknowledged}
use Rattle.rgo_core.specs.Frames.Records.{after_op}
use Rattle.rgo_core.specs.Frames.shown.WordFrames.{WordFrame, bare_all, word_going, word_moved}
use Rattle.rgo_core.specs.Memory.Records.{Fill, Rec as MemoryRec, with_object_in_page, with_object_apart}
use Rattle.rgo_core.specs.moves.NewObjects.{reserved_address}
use Rattle.rgo_core_steps.proofs.record_steps.After.{position_by}
use Rattle.rgo_core_steps.specs.Calls.{accessed_by, waited}
use Rattle.rgo_core_steps.specs.After.{Position, acknowledging, acting, bytes_at, committing, given, making, making_apart, position, printing, starting}
use Rattle.rgo_holding.specs.Holds.{IsHoldingOf}
use Rattle.rgo_sound.specs.Memory.Memory.{Object}
use Rattle.rgo_sound.specs.RegionMachine.Counts.{Counts}
use Rattle.rgo_sound.specs.RegionMachine.Objects.{object_words as words_in}
use Rattle.rgo_sound.specs.RegionMachine.States.{Holder, NoOffer, Offer}
use Rattle.rgo_stack.specs.Steps.{after_word}
use Rattle.rgo_sound.specs.Tac.Ops.{operation_of}
use Rattle.rgo_body.specs.Bodies.{BodyIsReady}
use Rattle.rgo_body.specs.Nexts.{IsDo, IsGoOp, IsPrint, removes_at, action_target}
use Rattle.rgo_body.specs.Programs.{CompactProgram}
use Rattle.rgo_body.specs.Reserves.{none_reserved}
use Rattle.rgo_body.specs.Shows.{BodyShows, SideShows}
use Rattle.rgo_body.specs.Steps.{BodyContinues}
use Rattle.rgo_body.specs.declared.bodies.Body.{Body}
use Rattle.rgo_body.specs.declared.bodies.Side.{Side}
use Rattle.rgo_body.specs.declared.bodies.Side.TheVariants as side
use Rattle.rgo_body.specs.declared.nexts.Next.{Next}
use Rattle.rgo_body.proofs.Showing.{At, at, behind, behind_go, given_is, gone, gone_shows}

abbrev pub stepped : Counts → Counts
stepped n = record n { steps = suc n.steps }

module _ (T : Setup) (p : CompactProgram) (b m : Body) (c : Record) (next : Next) (word : ℕ) (s : BodyShows T p b c) (ready : BodyIsReady p b next)
    (goes : BodyContinues p b m (after_word (action_target (operation_of next.op)) word) (removes_at next)) where
  abbrev pub x : At T.code c next
  x = at T p b c next s ready.is_next

  abbrev pub to : Option ℕ
  to = given x.instr.op

  abbrev pub frames : List WordFrame
  frames = word_going x.w to word ∷ x.ws

  -- what has not changed

  pub kept_holds : IsHoldingOf T.sizes.regions m.holding c.frame.holder c.memory.fills
  kept_holds = subst (λ (d : Body). IsHoldingOf T.sizes.regions d.holding c.frame.holder c.memory.fills) (sym goes.rest) s.holds

  kept_side : SideShows m.side c.side c.frame.holder.offer
  kept_side = subst (λ (d : Body). SideShows d.side c.side c.frame.holder.offer) (sym goes.rest) s.side

  kept_reserved : c.memory.reserved.pages ≡ m.reserved.pages
  kept_reserved = s.reserved ∙ sym (ap (λ (d : Body). d.reserved.pages) goes.rest)

  kept_share : c.clock.share ≡ m.counts
  kept_share = s.share ∙ sym (ap (λ (d : Body). d.counts) goes.rest)

  kept_prints : length c.clock.prints ≡ m.prints
  kept_prints = s.prints ∙ sym (ap (λ (d : Body). d.prints) goes.rest)

  kept_refused : c.clock.refused ≡ m.refused
  kept_refused = s.refused ∙ sym (ap (λ (d : Body). d.refused) goes.rest)

  -- the record after it

  moves : (after : Position → Record) → option_map_or after (position T.code c) c ≡ after (record { w = x.w; ws = x.ws; instr = x.instr })
  moves after = ap (λ q. option_map_or after q c) (position_by T.code c x.w x.ws x.instr x.are x.cur)

  abbrev pub goes_to : ClockRec → Holder → MemoryRec → SideRec → Record
  goes_to k h memory known = gone T p b m c next word s ready goes k h memory known

  pub none_printed : IsPrint (operation_of next.op) → to ≡ None
  none_printed k = given_is x.instr.op ∙ ap action_target (x.op ∙ k.2)

  pub none_started : IsGoOp (operation_of next.op) → to ≡ None
  none_started k = given_is x.instr.op ∙ ap action_target (x.op ∙ k.2)

  -- an action or a print
  module _ (kind : IsDo (operation_of next.op) ⊎ IsPrint (operation_of next.op)) where
    does : after_op T.code c.frame.holder x.w x.ws x.instr.op frames ≡ (goes_to c.clock c.frame.holder c.memory c.side).frame
    does =
        ap (λ (h : Holder). record { frames = frames; holder = h })
        (behind T.code c.frame.holder x.w x.ws x.instr.op (bare_all frames)
        (subst (λ op. IsDo op ⊎ IsPrint op) (sym x.op) kind))

    acting_is : acting T.code c word ≡ goes_to (ticked c.clock) c.frame.holder c.memory c.side
    acting_is =
        moves (λ q. record c { clock = ticked c.clock; frame = after_action T.code c.frame q.w q.ws q.instr (given q.instr.op) word })
        ∙ ap (λ f. record c { clock = ticked c.clock; frame = f }) does

    pub acted_shows : BodyShows T p (record m { counts = stepped m.counts }) (acting T.code c word)
    acted_shows =
        subst (BodyShows T p (record m { counts = stepped m.counts })) (sym acting_is)
        (gone_shows T p b m c next word s ready goes (ticked c.clock) c.frame.holder c.memory c.side
        (record m { counts = stepped m.counts }) refl refl refl kept_holds kept_side s.calm kept_reserved (ap stepped kept_share) kept_prints kept_refused)

    pub committed_shows : (known : SideShows side.AtRest at_rest c.frame.holder.offer)
        → BodyShows T p (record m { counts = stepped m.counts; side = side.AtRest }) (committing T.code c word)
    committed_shows known =
        subst (BodyShows T p (record m { counts = stepped m.counts; side = side.AtRest }))
        (sym (ap (λ (d : Record). record d { side = at_rest }) acting_is))
        (gone_shows T p b m c next word s ready goes (ticked c.clock) c.frame.holder c.memory at_rest
        (record m { counts = stepped m.counts; side = side.AtRest }) refl refl refl kept_holds known s.calm kept_reserved
        (ap stepped kept_share) kept_prints kept_refused)

    acknowledging_is : word ≡ 0
        → acknowledging T.code c ≡ goes_to (accessed c.clock) (record c.frame.holder { offer = NoOffer }) c.memory at_rest
    acknowledging_is none =
        moves (λ q. record {
          clock = accessed c.clock;
          frame = acknowledged (after_action T.code c.frame q.w q.ws q.instr (given q.instr.op) 0);
          memory = c.memory;
          side = at_rest;
        })
        ∙ ap (λ n. record {
          clock = accessed c.clock;
          frame = acknowledged (after_action T.code c.frame x.w x.ws x.instr to n);
          memory = c.memory;
          side = at_rest;
        }) (sym none)
        ∙ ap (λ f. record { clock = accessed c.clock; frame = acknowledged f; memory = c.memory; side = at_rest }) does

    pub acknowledged_shows : word ≡ 0 → BodyShows T p (record m { side = side.AtRest }) (acknowledging T.code c)
    acknowledged_shows none =
        subst (BodyShows T p (record m { side = side.AtRest })) (sym (acknowledging_is none))
        (gone_shows T p b m c next word s ready goes (accessed c.clock) (record c.frame.holder { offer = NoOffer }) c.memory at_rest
        (record m { side = side.AtRest }) refl refl refl kept_holds (refl, refl) s.calm kept_reserved kept_share kept_prints kept_refused)

    -- a print
    printing_is : (clock : ℕ) → to ≡ None
        → printing T.code c clock ≡ goes_to (with_print c.clock clock (bytes_at T.code (record { w = x.w; ws = x.ws; instr = x.instr })))
        c.frame.holder c.memory c.side
    printing_is clock none =
        moves (λ q. record c {
          clock = with_print c.clock clock (bytes_at T.code q);
          frame = after_op T.code c.frame.holder q.w q.ws q.instr.op (word_moved q.w (q.w.next + 1) ∷ q.ws);
        })
        ∙ ap (λ f. record c { clock = with_print c.clock clock (bytes_at T.code (record { w = x.w; ws = x.ws; instr = x.instr })); frame = f })
        (ap (λ t. after_op T.code c.frame.holder x.w x.ws x.instr.op (word_going x.w t word ∷ x.ws)) (sym none) ∙ does)

    pub printed_shows : (clock : ℕ) → to ≡ None
        → BodyShows T p (record m { counts = stepped m.counts; prints = m.prints + 1 }) (printing T.code c clock)
    printed_shows clock none =
        let bytes = bytes_at T.code (record { w = x.w; ws = x.ws; instr = x.instr }) in
        subst (BodyShows T p (record m { counts = stepped m.counts; prints = m.prints + 1 })) (sym (printing_is clock none))
        (gone_shows T p b m c next word s ready goes (with_print c.clock clock bytes) c.frame.holder c.memory c.side
        (record m { counts = stepped m.counts; prints = m.prints + 1 }) refl refl refl kept_holds kept_side s.calm kept_reserved
        (ap stepped kept_share) (length-append c.clock.prints (drawn_at clock bytes ∷ []) ∙ ap (λ n. n + 1) kept_prints) kept_refused)

    -- a new object
    making_is : (f : Fill) (object : Object) → suc (f.page * T.sizes.page_words + f.fill) ≡ word
        → making T c f object ≡ goes_to (record (ticked c.clock) {
          share = record c.clock.share { steps = suc c.clock.share.steps; objects = suc c.clock.share.objects };
        }) c.frame.holder (with_object_in_page c.memory f.slot (f.fill + words_in object)) c.side
    making_is f object same =
        moves (λ q. record c {
          clock = record (ticked c.clock) {
            share = record c.clock.share { steps = suc c.clock.share.steps; objects = suc c.clock.share.objects };
          };
          frame = after_action T.code c.frame q.w q.ws q.instr (given q.instr.op) (suc (f.page * T.sizes.page_words + f.fill));
          memory = with_object_in_page c.memory f.slot (f.fill + words_in object);
        })
        ∙ ap (λ n. record c {
          clock = record (ticked c.clock) {
            share = record c.clock.share { steps = suc c.clock.share.steps; objects = suc c.clock.share.objects };
          };
          frame = after_action T.code c.frame x.w x.ws x.instr to n;
          memory = with_object_in_page c.memory f.slot (f.fill + words_in object);
        }) same
        ∙ ap (λ r. record c {
          clock = record (ticked c.clock) {
            share = record c.clock.share { steps = suc c.clock.share.steps; objects = suc c.clock.share.objects };
          };
          frame = r;
          memory = with_object_in_page c.memory f.slot (f.fill + words_in object);
        }) does

    pub made_shows : (f : Fill) (object : Object) (d : Body) → suc (f.page * T.sizes.page_words + f.fill) ≡ word
        → d ≡ record m { holding = d.holding; counts = record m.counts { steps = suc m.counts.steps; objects = suc m.counts.objects } }
        → IsHoldingOf T.sizes.regions d.holding c.frame.holder (with_object_in_page c.memory f.slot (f.fill + words_in object)).fills
        → BodyShows T p d (making T c f object)
    made_shows f object d same is holds =
        subst (BodyShows T p d) (sym (making_is f object same))
        (gone_shows T p b m c next word s ready goes (record (ticked c.clock) {
          share = record c.clock.share { steps = suc c.clock.share.steps; objects = suc c.clock.share.objects };
        }) c.frame.holder (with_object_in_page c.memory f.slot (f.fill + words_in object)) c.side d
        (ap (λ (e : Body). e.stack) is) (ap (λ (e : Body). e.queue) is) (ap (λ (e : Body). e.is_expanded) is) holds
        (subst (λ (e : Body). SideShows e.side c.side c.frame.holder.offer) (sym is) kept_side)
        (record { make = refl; claim = s.calm.claim; give = s.calm.give; none = s.calm.none })
        (kept_reserved ∙ sym (ap (λ (e : Body). e.reserved.pages) is))
        (ap (λ (n : Counts). record n { steps = suc n.steps; objects = suc n.objects }) kept_share ∙ sym (ap (λ (e : Body). e.counts) is))
        (kept_prints ∙ sym (ap (λ (e : Body). e.prints) is)) (kept_refused ∙ sym (ap (λ (e : Body). e.refused) is)))

    -- a spread object
    making_apart_is : suc (reserved_address T c) ≡ word
        → making_apart T c ≡ goes_to (record (ticked c.clock) {
          share = record c.clock.share { steps = suc c.clock.share.steps; objects = suc c.clock.share.objects };
        }) c.frame.holder (with_object_apart c.memory) c.side
    making_apart_is same =
        moves (λ q. record c {
          clock = record (ticked c.clock) {
            share = record c.clock.share { steps = suc c.clock.share.steps; objects = suc c.clock.share.objects };
          };
          frame = after_action T.code c.frame q.w q.ws q.instr (given q.instr.op) (suc (reserved_address T c));
          memory = with_object_apart c.memory;
        })
        ∙ ap (λ n. record c {
          clock = record (ticked c.clock) {
            share = record c.clock.share { steps = suc c.clock.share.steps; objects = suc c.clock.share.objects };
          };
          frame = after_action T.code c.frame x.w x.ws x.instr to n;
          memory = with_object_apart c.memory;
        }) same
        ∙ ap (λ r. record c {
          clock = record (ticked c.clock) {
            share = record c.clock.share { steps = suc c.clock.share.steps; objects = suc c.clock.share.objects };
          };
          frame = r;
          memory = with_object_apart c.memory;
        }) does

    pub made_apart_shows : suc (reserved_address T c) ≡ word
        → BodyShows T p (record m {
          reserved = none_reserved;
          counts = record m.counts { steps = suc m.counts.steps; objects = suc m.counts.objects };
        }) (making_apart T c)
    made_apart_shows same =
        let d : Body = record m {
          reserved = none_reserved;
          counts = record m.counts { steps = suc m.counts.steps; objects = suc m.counts.objects };
        } in
        subst (BodyShows T p d) (sym (making_apart_is same))
        (gone_shows T p b m c next word s ready goes (record (ticked c.clock) {
          share = record c.clock.share { steps = suc c.clock.share.steps; objects = suc c.clock.share.objects };
        }) c.frame.holder (with_object_apart c.memory) c.side d refl refl refl kept_holds kept_side
        (record { make = refl; claim = s.calm.claim; give = s.calm.give; none = s.calm.none }) refl
        (ap (λ (n : Counts). record n { steps = suc n.steps; objects = suc n.objects }) kept_share) kept_prints kept_refused)

  -- a start
  module _ (kind : IsGoOp (operation_of next.op)) where
    starting_is : (number : ℕ) → to ≡ None
        → starting T.code c number ≡ goes_to (with_child c.clock number) (record c.frame.holder { pending = [] }) c.memory c.side
    starting_is number none =
        moves (λ q. record c {
          clock = with_child c.clock number;
          frame = after_op T.code c.frame.holder q.w q.ws q.instr.op (word_moved q.w (q.w.next + 1) ∷ q.ws);
        })
        ∙ ap (λ f. record c { clock = with_child c.clock number; frame = f })
        (ap (λ t. after_op T.code c.frame.holder x.w x.ws x.instr.op (word_going x.w t word ∷ x.ws)) (sym none)
        ∙ ap (λ (h : Holder). record { frames = frames; holder = h })
        (behind_go T.code c.frame.holder x.w x.ws x.instr.op (bare_all frames) (subst IsGoOp (sym x.op) kind)))

    pub started_shows : (number : ℕ) (d : Body) → to ≡ None
        → d ≡ record m {
          holding = d.holding;
          counts = record m.counts { steps = suc m.counts.steps; goroutines = suc m.counts.goroutines };
        }
        → IsHoldingOf T.sizes.regions d.holding (record c.frame.holder { pending = [] }) c.memory.fills
        → BodyShows T p d (starting T.code c number)
    started_shows number d none is holds =
        subst (BodyShows T p d) (sym (starting_is number none))
        (gone_shows T p b m c next word s ready goes (with_child c.clock number) (record c.frame.holder { pending = [] }) c.memory c.side d
        (ap (λ (e : Body). e.stack) is) (ap (λ (e : Body). e.queue) is) (ap (λ (e : Body). e.is_expanded) is) holds
        (subst (λ (e : Body). SideShows e.side c.side c.frame.holder.offer) (sym is) kept_side) s.calm
        (kept_reserved ∙ sym (ap (λ (e : Body). e.reserved.pages) is))
        (ap (λ (n : Counts). record n { steps = suc n.steps; goroutines = suc n.goroutines }) kept_share
        ∙ sym (ap (λ (e : Body). e.counts) is))
        (kept_prints ∙ sym (ap (λ (e : Body). e.prints) is)) (kept_refused ∙ sym (ap (λ (e : Body). e.refused) is)))

-- ---- channels

-- without an offer at a channel the record has none, since both are shown by the same side
no_offer : (k : Side) (known : SideRec) (offer : Offer) → SideShows k known offer → ((at : ℕ) → k ≡ side.Offering at → ⊥) → offer ≡ NoOffer
no_offer side.AtRest known offer s none = s.1
no_offer side.Tried known offer s none = s.2
no_offer (side.Offering at) known offer s none = absurd (none at refl)

pub rest_shows : (T : Setup) (p : CompactProgram) (b : Body) (c : Record) → ((at : ℕ) → b.side ≡ side.Offering at → ⊥) → BodyShows T p b c
    → c.side ≡ at_rest → BodyShows T p (record b { side = side.AtRest }) c
rest_shows T p b c none s rests = record {
  code = s.code;
  belongs = s.belongs;
  frames = s.frames;
  holds = s.holds;
  reserved = s.reserved;
  owes = s.owes;
  side = (rests, no_offer b.side c.side c.frame.holder.offer s.side none);
  calm = s.calm;
  share = s.share;
  prints = s.prints;
  refused = s.refused;
}

-- an operation was not ready
pub tried_shows : (T : Setup) (p : CompactProgram) (b : Body) (c : Record) (n : ℕ) (known : SideRec) → BodyShows T p b c
    → ((at : ℕ) → b.side ≡ side.Offering at → ⊥) → known.hold ≡ sides.Free → known.post ≡ sides.Nowhere
    → BodyShows T p (record b { side = side.Tried }) (waited n c known)
tried_shows T p b c n known s none free nowhere = record {
  code = s.code;
  belongs = s.belongs;
  frames = s.frames;
  holds = s.holds;
  reserved = s.reserved;
  owes = s.owes;
  side = (free, nowhere, no_offer b.side c.side c.frame.holder.offer s.side none);
  calm = record { make = s.calm.make; claim = s.calm.claim; give = s.calm.give; none = owed_still n c.clock ∙ s.calm.none };
  share = share_still n c.clock ∙ s.share;
  prints = ap length (prints_still n c.clock) ∙ s.prints;
  refused = refused_still n c.clock ∙ s.refused;
}
  where
    owed_still : (n : ℕ) (k : ClockRec) → (accessed_by n k).owed ≡ k.owed
    owed_still zero k = refl
    owed_still (suc n) k = owed_still n k

    share_still : (n : ℕ) (k : ClockRec) → (accessed_by n k).share ≡ k.share
    share_still zero k = refl
    share_still (suc n) k = share_still n k

    prints_still : (n : ℕ) (k : ClockRec) → (accessed_by n k).prints ≡ k.prints
    prints_still zero k = refl
    prints_still (suc n) k = prints_still n k

    refused_still : (n : ℕ) (k : ClockRec) → (accessed_by n k).refused ≡ k.refused
    refused_still zero k = refl
    refused_still (suc n) k = refused_still n k
