-- The page for a new object: the goroutine's own one, or one that it claims. A search in vain changes only what the record has found in
-- use, so what the instruction needs is as before.
use Rattle.std.proofs.Common.{◌≡◌, ◌+◌, ◌<◌, ◌≤◌, ◌∙◌, ◌++◌, ℕ, Bool, true, false, suc, List, [], ◌∷◌, Option, Some, None, MatchOption, ap, sym, subst, refl, inl, inr, arith, if◌then◌else◌, length, length-append}
use Rattle.std.proofs.lemmas.List.{append-nil}
use Rattle.std.specs.Option.{option_map}
use Rattle.rgo_core.specs.Rule.Passes.{ChangesNothingBy}
use Rattle.rgo_core.specs.Rule.Views.{number_of}
use Rattle.rgo_core.specs.Rule.declared.accesses.Access.{Access}
use Rattle.rgo_core.specs.Rule.declared.accesses.Kind.TheVariants.{ClaimPage}
use Rattle.rgo_core_facts.specs.MemoryObjects.{PageHasNoRoom, NewObject, data_pages_of}
use Rattle.rgo_core_facts.proofs.DataPages.{less, not_less}
use Rattle.rgo_core_facts.proofs.NewWords.{next_is_spread, wants_page, wants_reserved}
use Rattle.rgo_core_facts.proofs.OwnPages.{claimed_page, own_pages}
use Rattle.rgo_core_facts.proofs.Storing.{new_stays}
use Rattle.rgo_core.specs.Channels.Records.{at_rest}
use Rattle.rgo_core.specs.Memory.Records.{Idle, Rest, page_of, with_claim}
use Rattle.rgo_core.specs.Memory.Words.{state_at}
use Rattle.rgo_core.specs.Memory.declared.layout.TableSizes.{TableSizes}
use Rattle.rgo_core.specs.Core.{Setup, layout}
use Rattle.rgo_core.specs.moves.Claims.{claims, reserves}
use Rattle.rgo_core.specs.Records.{Record, accessed, steps_of}
use Rattle.rgo_core_steps.specs.Making.{IsCalm, NeedsPage, next_is_spread as next_spread}
use Rattle.rgo_core_steps.specs.Pages.{claims_or_reserves, tried_page}
use Rattle.rgo_core_steps.specs.Searches.{Miss, missing}
use Rattle.rgo_core_steps.specs.Seats.{HasPossible, mine}
use Rattle.rgo_body.specs.Pages.Claiming.{AllPagesTried, PageClaimed, has_claimed}
use Rattle.rgo_body.proofs.Pages.Trying.{missing_calm, missing_needs}
use Rattle.rgo_body.proofs.Pages.Vain.{full_law}
use Rattle.rgo_sound.specs.RegionMachine.Counts.{Counts}
use Rattle.rgo_sound.specs.RegionMachine.declared.regions.Region.{Region}
use Rattle.rgo_holding.specs.Holds.{region_of_key}
use Rattle.rgo_holding.specs.Known.{own_page, slot_or_global}
use Rattle.rgo_holding.specs.declared.entries.Page.{Page}
use Rattle.rgo_holding.specs.declared.holding.Holding.{Holding}
use Rattle.rgo_body.specs.Bodies.{HasRoomBehind, frames_of_body}
use Rattle.rgo_body.specs.Nexts.{IsNextOf}
use Rattle.rgo_body.specs.Programs.{CompactProgram}
use Rattle.rgo_body.specs.Reserves.{PageReserve}
use Rattle.rgo_body.specs.Shows.{LooksLike, BodyShows}
use Rattle.rgo_body.specs.declared.bodies.Body.{Body}
use Rattle.rgo_body.specs.declared.nexts.Next.{Next}
use Rattle.rgo_body.proofs.Showing.{like_shown}
use Rattle.rgo_acts.specs.Actors.{ActorActed, IsActorOf, now}
use Rattle.rgo_acts.specs.Objects.{HasNoPage, HasNoRoomHere, HasNoRoomIn, HasPage, HasReserved, IsNextObject, IsSmall, opens}
use Rattle.rgo_acts.specs.Ready.{ActorIsBefore}
use Rattle.rgo_acts.specs.Runs.{Run}
use Rattle.rgo_acts.specs.Shortages.{AllInUse, LacksPage}
use Rattle.rgo_acts.specs.declared.actors.Actor.{Actor}
use Rattle.rgo_acts.specs.declared.objects.New.{New}
use Rattle.rgo_acts.proofs.before.Instructions.{rests}
use Rattle.rgo_acts.proofs.Standing.{acted_by, acted_none, now_at_once}

-- ---- own pages, as the holding and as the record have them

pub no_room_in : (page_words words slot : ℕ) (own : Option Page) → HasNoRoomIn page_words words own
    → PageHasNoRoom page_words words (option_map (own_page slot) own)
no_room_in page_words words slot None none = tt
no_room_in page_words words slot (Some page) none = none

-- ---- accesses that a seat has seen

same_tail : (x y : Access) (xs ys : List Access) → x ∷ xs ≡ y ∷ ys → xs ≡ ys
same_tail x y xs ys e = cc

-- what follows the same accesses
same_back : (zs xs ys : List Access) → zs ++ xs ≡ zs ++ ys → xs ≡ ys
same_back [] xs ys e = e
same_back (z ∷ zs) xs ys e = same_back zs xs ys (same_tail z z (zs ++ xs) (zs ++ ys) e)

-- ---- pages that were found in use

-- d differs from c only in the pages that it has found in use, and in its accesses
pub record HasTried (c d : Record) : Type 0 where
  pub frame : d.frame ≡ c.frame
  pub side : d.side ≡ c.side
  pub fills : d.memory.fills ≡ c.memory.fills
  pub reserved : d.memory.reserved.pages ≡ c.memory.reserved.pages
  pub make : d.memory.make ≡ c.memory.make
  pub claim : d.memory.claim ≡ c.memory.claim
  pub give : d.memory.give ≡ c.memory.give
  pub share : d.clock.share ≡ c.clock.share
  pub owed : d.clock.owed ≡ c.clock.owed
  pub prints : d.clock.prints ≡ c.clock.prints
  pub children : d.clock.children ≡ c.clock.children
  pub first : d.clock.first ≡ c.clock.first
  pub refused : d.clock.refused ≡ c.clock.refused

pub has_tried : (ts : List Miss) (c : Record) → HasTried c (missing tried_page c ts)
has_tried [] c = record {
  frame = refl;
  side = refl;
  fills = refl;
  reserved = refl;
  make = refl;
  claim = refl;
  give = refl;
  share = refl;
  owed = refl;
  prints = refl;
  children = refl;
  first = refl;
  refused = refl;
}
has_tried (t ∷ ts) c =
    let x = has_tried ts (tried_page c t.place) in
    record {
      frame = x.frame;
      side = x.side;
      fills = x.fills;
      reserved = x.reserved;
      make = x.make;
      claim = x.claim;
      give = x.give;
      share = x.share;
      owed = x.owed;
      prints = x.prints;
      children = x.children;
      first = x.first;
      refused = x.refused;
    }

looks_like : (c d : Record) → HasTried c d → LooksLike c d
looks_like c d x = record {
  frame = x.frame;
  side = x.side;
  fills = x.fills;
  reserved = x.reserved;
  make = x.make;
  claim = x.claim;
  give = x.give;
  share = x.share;
  owed = x.owed;
  prints = ap length x.prints;
  refused = x.refused;
}

-- ---- a page that was claimed

-- the record after its page is hung on the chain of its region and linked
abbrev pub linked : Record → Record
linked c = record c { clock = accessed (accessed c.clock); memory = with_claim c.memory Idle }

-- what a claim leaves as it was
pub record IsTaken (c d : Record) : Type 0 where
  pub frame : d.frame ≡ c.frame
  pub side : d.side ≡ c.side
  pub make : d.memory.make ≡ c.memory.make
  pub steps : steps_of d ≡ steps_of c
  pub objects : d.clock.share.objects ≡ c.clock.share.objects
  pub prints : d.clock.prints ≡ c.clock.prints
  pub children : d.clock.children ≡ c.clock.children
  pub first : d.clock.first ≡ c.clock.first

taken_own : (c : Record) (page slot : ℕ) → IsTaken c (linked (claims c page slot))
taken_own c page slot =
    record { frame = refl; side = refl; make = refl; steps = refl; objects = refl; prints = refl; children = refl; first = refl }

taken_more : (c : Record) (page slot : ℕ) → IsTaken c (linked (reserves c page slot))
taken_more c page slot =
    record { frame = refl; side = refl; make = refl; steps = refl; objects = refl; prints = refl; children = refl; first = refl }

length_one_more : (xs : List ℕ) (x : ℕ) → length (xs ++ x ∷ []) ≡ length xs + 1
length_one_more xs x = omega (arith, length-append xs (x ∷ []))

-- before the instruction still, where the body differs only in its regions, its counts and its reserved pages
pub before_again : (r : Run) (a b : Actor) (next : Next) → ActorIsBefore r a next → IsActorOf r b
    → b.body ≡ record a.body { holding = b.body.holding; counts = b.body.counts; reserved = b.body.reserved }
    → b.body.counts.steps ≡ a.body.counts.steps → ActorIsBefore r b next
before_again r a b next before stands same steps = record {
  stands = stands;
  ready = record {
    queue = ap (λ (k : Body). k.queue.duties) same ∙ before.ready.queue;
    expanded = ap (λ (k : Body). k.is_expanded) same ∙ before.ready.expanded;
    is_next = subst (λ (k : Body). IsNextOf r.program.code (frames_of_body k) next) (sym same) before.ready.is_next;
  };
  rests = ap (λ (k : Body). k.side) same ∙ before.rests;
  room = subst (λ (k : Body). HasRoomBehind k next) (sym same) before.room;
  count = let count = before.count in omega (arith, count, steps);
}

module _ (r : Run) (a : Actor) (next : Next) (before : ActorIsBefore r a next) (new : New)
    (is : IsNextObject r.setup (now r.setup a) a.body.holding new) where
  abbrev T : Setup
  T = r.setup

  abbrev c : Record
  c = now T a

  abbrev slot : ℕ
  slot = slot_or_global T.sizes.regions is.region

  -- ---- the own page

  -- the goroutine has room on its own page
  pub has_own : (own : Option Page) (page : Page)
      → ((region : Region) → region_of_key a.body.holding new.key ≡ Some region
      → option_map (own_page (slot_or_global T.sizes.regions region)) own ≡ page_of (slot_or_global T.sizes.regions region) c.memory.fills)
      → own ≡ Some page → page.fill + new.words ≤ T.sizes.page_words → 0 < new.words → HasPage r a a next new page
  has_own own page tells found room some =
      let is_page : page_of slot c.memory.fills ≡ Some (own_page slot page) =
      sym (tells is.region is.at_key) ∙ ap (option_map (own_page slot)) found in
      let its = own_pages T (number_of a.seat.me) c before.stands.possible slot (own_page slot page) is_page in
      record {
        before = before;
        acted = acted_none r a a before.stands refl refl before.stands.shows;
        objects = refl;
        region = is.region;
        at_key = is.at_key;
        placed = record {
          object = is.object;
          is_page = is_page;
          room = room;
          low = its.page;
          rests = rests r a next before;
          make = before.stands.shows.calm.make;
          some = some;
        };
      }

  -- it has not
  pub no_room_here : (own : Option Page)
      → ((region : Region) → region_of_key a.body.holding new.key ≡ Some region
      → option_map (own_page (slot_or_global T.sizes.regions region)) own ≡ page_of (slot_or_global T.sizes.regions region) c.memory.fills)
      → HasNoRoomIn T.sizes.page_words new.words own → HasNoRoomHere r a new
  no_room_here own tells none region at =
      let s = slot_or_global T.sizes.regions region in
      subst (PageHasNoRoom T.sizes.page_words new.words) (tells region at)
      (no_room_in T.sizes.page_words new.words s own none)

  -- ---- a claim

  pub calm : IsCalm c
  calm = record {
    side = rests r a next before;
    claim = before.stands.shows.calm.claim;
    make = before.stands.shows.calm.make;
  }

  pub needs : new.words ≤ T.sizes.page_words → HasNoRoomHere r a new → NeedsPage T c slot
  needs fits none =
      inl (wants_page T (number_of a.seat.me) c before.stands.possible slot new.words new.before _ is.object fits
      (none is.region is.at_key))

  -- one that is reserved
  pub needs_more : T.sizes.page_words < new.words → IsSmall T new.words new.before
      → length a.body.reserved.pages ≤ data_pages_of T.sizes.page_words new.words new.before → NeedsPage T c slot
  needs_more spread small more =
      inr (wants_reserved T c slot new.words new.before _ is.object spread small
      (subst (λ (ps : List ℕ). length ps ≤ data_pages_of T.sizes.page_words new.words new.before) (sym before.stands.shows.reserved) more))

  module _ (b : Actor) (own : b.seat.table_id ≡ a.seat.table_id) (at_once : b.behind ≡ 0) (possible : HasPossible T b.seat.me)
      (z : TableSizes) (sizes : z ≡ layout T) where
    -- each page was in use: the goroutine is as it was, since nothing that it needs has changed
    pub none_free : b.body ≡ a.body → NeedsPage T c slot → AllPagesTried T z c a.seat.me b.seat.me → HasNoPage r a b
    none_free body need t =
        let full = full_law T z c a.seat.me b.seat.me t in
        let tries = t.tried.tries in
        let d = missing tried_page c tries in
        let e : mine T b.seat.me ≡ d = t.tried.made.after in
        let x = has_tried tries c in
        let n = now_at_once T b at_once in
        let acted = acted_by r a b before.stands 0 [] [] full.es own at_once full.grew possible
        (record {
          steps = let k = ap steps_of e ∙ ap (λ (s : Counts). s.steps) x.share in omega (arith, k);
          prints = ap (λ (k : Record). k.clock.prints) e ∙ x.prints ∙ sym (append-nil c.clock.prints);
          children = ap (λ (k : Record). k.clock.children) e ∙ x.children;
          first = ap (λ (k : Record). k.clock.first) e ∙ x.first;
        })
        (subst (λ (k : Record). BodyShows T r.program b.body k) (sym e)
        (like_shown T r.program b.body c d
        (subst (λ (k : Body). BodyShows T r.program k c) (sym body) before.stands.shows) (looks_like c d x))) in
        let its : full.es ≡ acted.es =
        sym (same_back a.seat.me.0.seen acted.es full.es (sym acted.went.grew.seen ∙ full.grew.seen)) in
        record {
          acted = acted;
          unmoved = record {
            words = subst (ChangesNothingBy (number_of a.seat.me)) its full.still;
            frame = ap (λ (k : Record). k.frame) (n ∙ e) ∙ x.frame;
          };
          body = body ∙ sym (ap (λ (k : Body). record a.body { reserved = record a.body.reserved { room = k.reserved.room } }) body);
          lacks = subst (LacksPage T (number_of a.seat.me) (now T b)) its
              (record {
                slot = slot;
                calm = subst IsCalm (sym (n ∙ e)) (missing_calm tries c calm);
                needs = subst (λ (k : Record). NeedsPage T k slot) (sym (n ∙ e)) (missing_needs T slot tries c need);
                in_use = subst (λ (k : TableSizes). AllInUse (number_of a.seat.me) full.es ClaimPage (state_at k) k.pages) sizes full.found;
              });
        }

    -- a page was free: `took` makes of the record before the claim what the record is after it
    module _ (page : ℕ) (t : PageClaimed T z slot c page a.seat.me b.seat.me) (took : Record → Record)
        (taken : claims_or_reserves T (missing tried_page c t.tries) page slot ≡ took (missing tried_page c t.tries))
        (goes : IsTaken (missing tried_page c t.tries) (linked (took (missing tried_page c t.tries))))
        (same : b.body ≡ record a.body { holding = b.body.holding; counts = b.body.counts; reserved = b.body.reserved })
        (shown : BodyShows T r.program b.body (has_claimed T (missing tried_page c t.tries) page slot)) where
      abbrev d : Record
      d = missing tried_page c t.tries

      x : HasTried c d
      x = has_tried t.tries c

      e : mine T b.seat.me ≡ linked (took d)
      e = t.made.after ∙ ap linked taken

      n : now T b ≡ linked (took d)
      n = now_at_once T b at_once ∙ e

      shown_so : BodyShows T r.program b.body (linked (took d))
      shown_so = subst (λ (k : Record). BodyShows T r.program b.body (linked k)) taken shown

      pub claim_acted : ActorActed r a b 0 [] []
      claim_acted =
          acted_by r a b before.stands 0 [] [] t.made.es own at_once t.made.grew possible
          (record {
            steps = let k = ap steps_of e in let m = goes.steps in let l = ap (λ (s : Counts). s.steps) x.share in omega (arith, k, l, m);
            prints = ap (λ (k : Record). k.clock.prints) e ∙ goes.prints ∙ x.prints ∙ sym (append-nil c.clock.prints);
            children = ap (λ (k : Record). k.clock.children) e ∙ goes.children ∙ x.children;
            first = ap (λ (k : Record). k.clock.first) e ∙ goes.first ∙ x.first;
          })
          (subst (λ (k : Record). BodyShows T r.program b.body k) (sym e) shown_so)

      steps : b.body.counts.steps ≡ a.body.counts.steps
      steps = sym (ap (λ (s : Counts). s.steps) shown_so.share) ∙ goes.steps
          ∙ ap (λ (s : Counts). s.steps) (x.share ∙ before.stands.shows.share)

      pub claim_before : ActorIsBefore r b next
      claim_before = before_again r a b next before claim_acted.stands same steps

      pub claim_objects : b.body.counts.objects ≡ a.body.counts.objects
      claim_objects = sym (ap (λ (s : Counts). s.objects) shown_so.share) ∙ goes.objects
          ∙ ap (λ (s : Counts). s.objects) (x.share ∙ before.stands.shows.share)

      pub claim_object : NewObject T (now T b) slot new.words new.before (opens new.place new.value)
      claim_object = new_stays T c (now T b) slot new.words new.before _ (ap (λ (k : Record). k.frame) n ∙ goes.frame ∙ x.frame) is.object

      pub claim_rests : (now T b).side ≡ at_rest
      claim_rests = ap (λ (k : Record). k.side) n ∙ goes.side ∙ x.side ∙ rests r a next before

      pub claim_make : (now T b).memory.make ≡ Rest
      claim_make = ap (λ (k : Record). k.memory.make) n ∙ goes.make ∙ x.make ∙ before.stands.shows.calm.make

      pub claim_now : now T b ≡ linked (took d)
      claim_now = n

    -- as its own one
    pub has_free : (page : ℕ) → region_of_key b.body.holding new.key ≡ Some is.region
        → (same : b.body ≡ record a.body { holding = b.body.holding; counts = b.body.counts })
        → ((T : Setup) (c : Record) → BodyShows T r.program a.body c → next_spread T c ≡ false
        → BodyShows T r.program b.body (has_claimed T c page (slot_or_global T.sizes.regions is.region)))
        → new.words ≤ T.sizes.page_words → 0 < new.words
        → PageClaimed T z slot c page a.seat.me b.seat.me
        → HasPage r a b next new (record { page = page; fill = 0 })
    has_free page at same becomes fits some t =
        let d = missing tried_page c t.tries in
        let x = has_tried t.tries c in
        let whole : next_spread T d ≡ false =
        next_is_spread T d slot new.words new.before _ (new_stays T c d slot new.words new.before _ x.frame is.object)
        ∙ not_less T.sizes.page_words new.words fits in
        let took : Record → Record = λ k. claims k page slot in
        let taken : claims_or_reserves T d page slot ≡ claims d page slot =
        ap (λ (s : Bool). if s then reserves d page slot else claims d page slot) whole in
        let goes = taken_own d page slot in
        let all : b.body ≡ record a.body { holding = b.body.holding; counts = b.body.counts; reserved = b.body.reserved } =
        same ∙ ap (λ (q : PageReserve). record a.body { holding = b.body.holding; counts = b.body.counts; reserved = q })
        (sym (ap (λ (k : Body). k.reserved) same)) in
        let shown = becomes T d (like_shown T r.program a.body c d before.stands.shows (looks_like c d x)) whole in
        record {
          before = claim_before page t took taken goes all shown;
          acted = claim_acted page t took taken goes all shown;
          objects = claim_objects page t took taken goes all shown;
          region = is.region;
          at_key = at;
          placed = record {
            object = claim_object page t took taken goes all shown;
            is_page = ap (λ (k : Record). page_of slot k.memory.fills) (claim_now page t took taken goes all shown)
                ∙ claimed_page d.memory page slot;
            room = omega (arith, fits);
            low = subst (λ (k : TableSizes). page < k.pages) sizes t.low;
            rests = claim_rests page t took taken goes all shown;
            make = claim_make page t took taken goes all shown;
            some = some;
          };
        }

    -- as one that is reserved
    pub has_more : (page : ℕ) → b.body.reserved.pages ≡ a.body.reserved.pages ++ page ∷ []
        → b.body.reserved.room + 1 ≡ a.body.reserved.room
        → (same : b.body ≡ record a.body { reserved = b.body.reserved; counts = record a.body.counts { taken = suc a.body.counts.taken } })
        → ((T : Setup) (c : Record) (slot : ℕ) → BodyShows T r.program a.body c → next_spread T c ≡ true
        → BodyShows T r.program b.body (has_claimed T c page slot))
        → T.sizes.page_words < new.words
        → PageClaimed T z slot c page a.seat.me b.seat.me → HasReserved r a b next new 1
    has_more page pages room same becomes spread t =
        let d = missing tried_page c t.tries in
        let x = has_tried t.tries c in
        let apart : next_spread T d ≡ true =
        next_is_spread T d slot new.words new.before _ (new_stays T c d slot new.words new.before _ x.frame is.object)
        ∙ less T.sizes.page_words new.words spread in
        let took : Record → Record = λ k. reserves k page slot in
        let taken : claims_or_reserves T d page slot ≡ reserves d page slot =
        ap (λ (s : Bool). if s then reserves d page slot else claims d page slot) apart in
        let goes = taken_more d page slot in
        let all : b.body ≡ record a.body { holding = b.body.holding; counts = b.body.counts; reserved = b.body.reserved } =
        same ∙ (ap (λ (q : Counts). record a.body { reserved = b.body.reserved; counts = q }) (sym (ap (λ (k : Body). k.counts) same))
        ∙ ap (λ (q : Holding). record a.body { holding = q; counts = b.body.counts; reserved = b.body.reserved })
        (sym (ap (λ (k : Body). k.holding) same))) in
        let shown = becomes T d slot (like_shown T r.program a.body c d before.stands.shows (looks_like c d x)) apart in
        record {
          before = claim_before page t took taken goes all shown;
          acted = claim_acted page t took taken goes all shown;
          is_new = record {
            region = is.region;
            at_key = ap (λ (k : Body). region_of_key k.holding new.key) same ∙ is.at_key;
            low = is.low;
            few = is.few;
            object = claim_object page t took taken goes all shown;
          };
          pages = ap length pages ∙ length_one_more a.body.reserved.pages page;
          room = room;
          taken = ap (λ (k : Body). k.counts.taken) same ∙ omega arith;
          objects = claim_objects page t took taken goes all shown;
        }

-- ---- the same for the run as its fields have it, so that the callers need no rewriting; the sizes are those of its table

abbrev TellsPage : Actor → New → Option Page → Type 0
TellsPage a new own = (T : Setup) (p : CompactProgram) (c : Record) (region : Region) → BodyShows T p a.body c
    → region_of_key a.body.holding new.key ≡ Some region
    → option_map (own_page (slot_or_global T.sizes.regions region)) own ≡ page_of (slot_or_global T.sizes.regions region) c.memory.fills

abbrev TellsSlot : Actor → New → ℕ → Type 0
TellsSlot a new n = (T : Setup) (p : CompactProgram) (c : Record) (region : Region) → BodyShows T p a.body c
    → region_of_key a.body.holding new.key ≡ Some region → n ≡ slot_or_global T.sizes.regions region

-- the own page, if it has room
module _ (r : Run) (a : Actor) (next : Next) (before : ActorIsBefore r a next) (new : New) (is : IsNextObject r.setup (now r.setup a) a.body.holding new)
    (n : ℕ) (words : n ≡ r.setup.sizes.page_words) (own : Option Page) (tells : TellsPage a new own) where
  tells_here : (region : Region) → region_of_key a.body.holding new.key ≡ Some region
      → option_map (own_page (slot_or_global r.setup.sizes.regions region)) own ≡ page_of (slot_or_global r.setup.sizes.regions region) (now r.setup a).memory.fills
  tells_here region at = tells r.setup r.program (now r.setup a) region before.stands.shows at

  pub its_own_page : (found : Option Page)
      → MatchOption found (HasNoRoomIn n new.words own) (λ q. (own ≡ Some q) × (q.fill + new.words ≤ n))
      → 0 < new.words → MatchOption found (HasNoRoomHere r a new) (HasPage r a a next new)
  its_own_page None none some =
      no_room_here r a next before new is own tells_here (subst (λ k. HasNoRoomIn k new.words own) words none)
  its_own_page (Some page) room some =
      has_own r a next before new is own page tells_here room.0 (subst (λ k. page.fill + new.words ≤ k) words room.1) some

pub pages_same : (s r : Run) → s ≡ r → s.sizes ≡ layout s.setup → s.sizes.pages ≡ r.setup.sizes.pages
pages_same s r seen_is sizes = ap (λ (z : TableSizes). z.pages) sizes ∙ ap (λ (x : Run). x.setup.sizes.pages) seen_is

module _ (s r : Run) (seen_is : s ≡ r) (a : Actor) (next : Next) (before : ActorIsBefore r a next) (new : New)
    (is : IsNextObject r.setup (now r.setup a) a.body.holding new) (sizes : s.sizes ≡ layout s.setup) where
  before_it : ActorIsBefore s a next
  before_it = subst (λ (x : Run). ActorIsBefore x a next) (sym seen_is) before

  its_new : IsNextObject s.setup (now s.setup a) a.body.holding new
  its_new = subst (λ (x : Run). IsNextObject x.setup (now x.setup a) a.body.holding new) (sym seen_is) is

  words_fit : new.words ≤ r.setup.sizes.page_words → new.words ≤ s.setup.sizes.page_words
  words_fit fits = subst (λ (x : Run). new.words ≤ x.setup.sizes.page_words) (sym seen_is) fits

  needs_slot : new.words ≤ r.setup.sizes.page_words → HasNoRoomHere r a new
      → NeedsPage s.setup (now s.setup a) (slot_or_global s.setup.sizes.regions its_new.region)
  needs_slot fits none =
      needs s a next before_it new its_new (words_fit fits) (subst (λ (x : Run). HasNoRoomHere x a new) (sym seen_is) none)

  pub needs_here : new.words ≤ r.setup.sizes.page_words → HasNoRoomHere r a new → (n : ℕ) → TellsSlot a new n
      → NeedsPage s.setup (now s.setup a) n
  needs_here fits none n tells =
      subst (NeedsPage s.setup (now s.setup a))
      (sym (tells s.setup s.program (now s.setup a) its_new.region before_it.stands.shows its_new.at_key)) (needs_slot fits none)

  module _ (b : Actor) (own : b.seat.table_id ≡ a.seat.table_id) (at_once : b.behind ≡ 0) (possible : HasPossible s.setup b.seat.me) where
    pub none_here : new.words ≤ r.setup.sizes.page_words → HasNoRoomHere r a new → b.body ≡ a.body
        → AllPagesTried s.setup s.sizes (now s.setup a) a.seat.me b.seat.me → HasNoPage r a b
    none_here fits none body t =
        subst (λ (x : Run). HasNoPage x a b) seen_is
        (none_free s a next before_it new its_new b own at_once possible s.sizes sizes body (needs_slot fits none) t)

    pub claimed_here : new.words ≤ r.setup.sizes.page_words → (n : ℕ) → TellsSlot a new n → (page : ℕ)
        → region_of_key b.body.holding new.key ≡ region_of_key a.body.holding new.key
        → b.body ≡ record a.body { holding = b.body.holding; counts = b.body.counts }
        → ((region : Region) → region_of_key a.body.holding new.key ≡ Some region
        → (T : Setup) (c : Record) → BodyShows T s.program a.body c → next_spread T c ≡ false
        → BodyShows T s.program b.body (has_claimed T c page (slot_or_global T.sizes.regions region)))
        → 0 < new.words → PageClaimed s.setup s.sizes n (now s.setup a) page a.seat.me b.seat.me
        → HasPage r a b next new (record { page = page; fill = 0 })
    claimed_here fits n tells page regions same becomes some t =
        let at = tells s.setup s.program (now s.setup a) its_new.region before_it.stands.shows its_new.at_key in
        subst (λ (x : Run). HasPage x a b next new (record { page = page; fill = 0 })) seen_is
        (has_free s a next before_it new its_new b own at_once possible s.sizes sizes page (regions ∙ its_new.at_key) same
        (becomes its_new.region its_new.at_key) (words_fit fits) some
        (subst (λ k. PageClaimed s.setup s.sizes k (now s.setup a) page a.seat.me b.seat.me) at t))

  -- ---- a reserved page

  needs_more_slot : r.setup.sizes.page_words < new.words → IsSmall r.setup new.words new.before
      → length a.body.reserved.pages ≤ data_pages_of r.setup.sizes.page_words new.words new.before
      → NeedsPage s.setup (now s.setup a) (slot_or_global s.setup.sizes.regions its_new.region)
  needs_more_slot spread small more =
      needs_more s a next before_it new its_new
      (subst (λ (x : Run). x.setup.sizes.page_words < new.words) (sym seen_is) spread)
      (subst (λ (x : Run). IsSmall x.setup new.words new.before) (sym seen_is) small)
      (subst (λ (x : Run). length a.body.reserved.pages ≤ data_pages_of x.setup.sizes.page_words new.words new.before) (sym seen_is) more)

  pub needs_more_here : r.setup.sizes.page_words < new.words → IsSmall r.setup new.words new.before
      → length a.body.reserved.pages ≤ data_pages_of r.setup.sizes.page_words new.words new.before → (n : ℕ) → TellsSlot a new n
      → NeedsPage s.setup (now s.setup a) n
  needs_more_here spread small more n tells =
      subst (NeedsPage s.setup (now s.setup a))
      (sym (tells s.setup s.program (now s.setup a) its_new.region before_it.stands.shows its_new.at_key)) (needs_more_slot spread small more)

  module _ (b : Actor) (own : b.seat.table_id ≡ a.seat.table_id) (at_once : b.behind ≡ 0) (possible : HasPossible s.setup b.seat.me) where
    pub no_more_here : r.setup.sizes.page_words < new.words → IsSmall r.setup new.words new.before
        → length a.body.reserved.pages ≤ data_pages_of r.setup.sizes.page_words new.words new.before → b.body ≡ a.body
        → AllPagesTried s.setup s.sizes (now s.setup a) a.seat.me b.seat.me → HasNoPage r a b
    no_more_here spread small more body t =
        subst (λ (x : Run). HasNoPage x a b) seen_is
        (none_free s a next before_it new its_new b own at_once possible s.sizes sizes body (needs_more_slot spread small more) t)

    pub more_here : r.setup.sizes.page_words < new.words → (n : ℕ) → TellsSlot a new n → (page : ℕ)
        → b.body.reserved.pages ≡ a.body.reserved.pages ++ page ∷ []
        → b.body.reserved.room + 1 ≡ a.body.reserved.room
        → b.body ≡ record a.body { reserved = b.body.reserved; counts = record a.body.counts { taken = suc a.body.counts.taken } }
        → ((T : Setup) (c : Record) (slot : ℕ) → BodyShows T s.program a.body c → next_spread T c ≡ true
        → BodyShows T s.program b.body (has_claimed T c page slot))
        → PageClaimed s.setup s.sizes n (now s.setup a) page a.seat.me b.seat.me → HasReserved r a b next new 1
    more_here spread n tells page pages room same becomes t =
        let at = tells s.setup s.program (now s.setup a) its_new.region before_it.stands.shows its_new.at_key in
        subst (λ (x : Run). HasReserved x a b next new 1) seen_is
        (has_more s a next before_it new its_new b own at_once possible s.sizes sizes page pages room same becomes
        (subst (λ (x : Run). x.setup.sizes.page_words < new.words) (sym seen_is) spread)
        (subst (λ k. PageClaimed s.setup s.sizes k (now s.setup a) page a.seat.me b.seat.me) at t))
