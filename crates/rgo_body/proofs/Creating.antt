-- A body after it has created a region, and after it has put before an instruction what is owed there. The new slot must be unknown to
-- the holding: nobody has a stake in it, and whoever knows a slot has one.
use Rattle.std.proofs.Common.{◌≡◌, ◌≢◌, ◌++◌, ◌+◌, ◌<◌, ◌||◌, ℕ, suc, Bool, true, false, List, [], ◌∷◌, Option, Some, None, refl, sym, ap, ◌∙◌, subst, if◌then◌else◌, length, map, nat_eq, slice_get, arith, Result, Ok, Err, OnOk}
use Rattle.std.specs.declared.alloc.AllocError.{AllocError}
use Rattle.rgo_sound.proofs.Tests.{eq_of}
use Rattle.std.specs.List.{list_any}
use Rattle.rgo_sound.specs.Code.Code as code
use Rattle.rgo_sound.specs.Code.Erasure.{erased_op}
use Rattle.rgo_sound.specs.Code.Lists.{creates_in, passes_of, protects_of}
use Rattle.rgo_core.specs.Core.{Situation, Setup}
use Rattle.rgo_core.specs.Records.{ClockRec, Record, accessed}
use Rattle.rgo_core_facts.proofs.ControlRegions.{nothing_kept}
use Rattle.rgo_core_facts.specs.ControlDuties.{IsUnnamed}
use Rattle.rgo_core_facts.specs.ControlRegions.{HasNothingOf}
use Rattle.rgo_core.specs.Frames.shown.WordFrames.{bare, bare_all}
use Rattle.rgo_core.specs.Memory.Records.{Fill, Within, page_of}
use Rattle.rgo_core_steps.specs.Counts.{created_in_slot, created_with}
use Rattle.rgo_holding.specs.Changes as changes
use Rattle.rgo_holding.specs.Holds.{IsHoldingOf}
use Rattle.rgo_sound.specs.RegionMachine.Owed.{current, current_in, duties_before, duties_of_op, next_duties, regions_named}
use Rattle.rgo_sound.specs.RegionMachine.States.{Create, Duty, Holder, Protect, Share}
use Rattle.rgo_sound.specs.Stakes.{is_in, one_when, times_in}
use Rattle.rgo_sound.specs.Tac.Code as tac
use Rattle.rgo_body.specs.Bodies.{frames_of_body, owed_by_body}
use Rattle.rgo_body.specs.Nexts.{IsNextOf}
use Rattle.rgo_body.specs.Programs.{CompactProgram}
use Rattle.rgo_body.specs.Reserves.{PageReserve}
use Rattle.rgo_body.specs.Shows.{IsMemoryCalm, BodyIsPossible, BodyShows, SideShows}
use Rattle.rgo_stack.specs.Stacks.{Belongs}
use Rattle.rgo_sound.specs.RegionMachine.Counts.{Counts}
use Rattle.rgo_holding.specs.declared.holding.Holding.{Holding}
use Rattle.rgo_core.specs.moves.Claims.{claims, reserves}
use Rattle.rgo_core.specs.Memory.Records.{Idle, Rec as MemoryRec, with_claim}
use Rattle.rgo_core_steps.specs.Making.{next_is_spread}
use Rattle.rgo_pages.specs.Claiming.{has_claimed}
use Rattle.rgo_body.specs.Steps.{StillShows}
use Rattle.rgo_body.specs.declared.bodies.Body.{Body}
use Rattle.rgo_body.specs.declared.nexts.Next.{Next}
use Rattle.rgo_body.proofs.Attending.{attended, done_shows, first, later, some_environment}
use Rattle.rgo_body.proofs.Removing.{unguarded_from}

-- ---- nothing is known of a slot without a stake of this goroutine, so the slot of a new region is new to it

none_from : (slot : ℕ) (l : List ℕ) → times_in slot l ≡ 0 → list_any (nat_eq slot) l ≡ false
none_from slot [] none = refl
none_from slot (p ∷ l) none = by (none_from slot l) (nat_eq slot p) none
  where
    by : (times_in slot l ≡ 0 → list_any (nat_eq slot) l ≡ false) → (t : Bool) → one_when t + times_in slot l ≡ 0
        → (t || list_any (nat_eq slot) l) ≡ false
    by rest true none = absurd (omega (arith, none))
    by rest false none = rest (omega (arith, none))

no_page_from : (slot : ℕ) (fills : List Fill) → ((f : Fill) → Within f fills → f.slot ≢ slot) → page_of slot fills ≡ None
no_page_from slot [] others = refl
no_page_from slot (f ∷ fills) others = by (no_page_from slot fills (λ g w. others g (suc w.0, w.1))) (nat_eq slot f.slot) refl
  where
    by : page_of slot fills ≡ None → (t : Bool) → nat_eq slot f.slot ≡ t → (if t then Some f else page_of slot fills) ≡ None
    by rest true e = absurd (others f (0, refl) (sym (eq_of slot f.slot e)))
    by rest false e = rest

is_new : (T : Setup) (g : ℕ) (c : Record) (slot : ℕ) → Situation T g c → slot < T.sizes.regions → is_in slot c.frame.holder.stakes ≡ false
    → changes.IsNewSlot T.sizes.regions c.frame.holder c.memory.fills slot
is_new T g c slot here low out =
    let n : HasNothingOf c slot = nothing_kept T g c here slot low out in
    record {
      other = λ e. omega (arith, e, low);
      unstaked = out;
      unguarded = unguarded_from slot c.frame.holder.base c.frame.holder.environments n.base (λ i e at. n.protections e (i, at));
      unshared = none_from slot c.frame.holder.pending n.pending;
      no_page = no_page_from slot c.memory.fills n.pages;
    }

-- ---- a region is created

pub created_shows : (T : Setup) (p : CompactProgram) (b e : Body) (g : ℕ) (c : Record) (name slot : ℕ) (ds : List Duty) → Situation T g c
    → BodyShows T p b c → b.queue.duties ≡ Create name ∷ ds → e.queue.duties ≡ ds
    → e ≡ record b { queue = e.queue; holding = e.holding; counts = e.counts } → e.counts ≡ record b.counts { made = suc b.counts.made }
    → slot < T.sizes.regions → is_in slot c.frame.holder.stakes ≡ false
    → ((slots : ℕ) (h : Holder) (fills : List Fill) → IsHoldingOf slots b.holding h fills → changes.IsNewSlot slots h fills slot
    → IsHoldingOf slots e.holding (changes.creating h name slot) fills)
    → BodyShows T p e (created_in_slot c slot)
created_shows T p b e g c name slot ds here s queue done is counts low out creates =
    let owes = first T p b c (Create name) ds s queue in
    let h : Holder = record (changes.creating c.frame.holder name slot) { duties = ds ++ later p.code b } in
    let clock : ClockRec = record (accessed c.clock) { share = record c.clock.share { made = suc c.clock.share.made } } in
    subst (λ l. BodyShows T p e (created_with c slot l)) (sym owes)
    (done_shows T p b c (Create name) ds s queue e done is h clock c.memory refl refl refl
    (creates T.sizes.regions c.frame.holder c.memory.fills s.holds (is_new T g c slot here low out))
    record { make = s.calm.make; claim = s.calm.claim; give = s.calm.give; none = s.calm.none }
    (ap (λ (n : Counts). record n { made = suc n.made }) s.share ∙ sym counts) refl refl)

-- some frame has its names
pub names_exist : (p : CompactProgram) (b : Body) (name : ℕ) (y : BodyIsPossible p b) → (ds : List Duty) × (b.queue.duties ≡ Create name ∷ ds)
    → 0 < length y.c.frame.holder.environments
names_exist p b name y owes =
    let n : IsUnnamed y.c name = attended y.T p b y.c (Create name) owes.0 y.shows owes.1 y.goroutine y.here in
    some_environment y.c n.e n.newest

pub on_ok : {A B : Type 0} → (o : Result (Unit {0}) AllocError) → (A → B) → OnOk o A → OnOk o B
on_ok (Ok x) f a = f a
on_ok (Err e) f a = tt

-- ---- what is owed before an instruction

pub no_more : (ds : List Duty) → ds ++ [] ≡ ds
no_more [] = refl
no_more (d ∷ ds) = ap (λ l. d ∷ l) (no_more ds)

pub expands : (p : CompactProgram) (b d : Body) (next : Next) (n : IsNextOf p.code (frames_of_body b) next) → b.queue.duties ≡ []
    → b.is_expanded ≡ false → d ≡ record b { queue = d.queue; is_expanded = true }
    → d.queue.duties ≡ map Create (creates_in (slice_get next.function.body next.at)) ++ duties_of_op n.instr.op
    → StillShows p b d
expands p b d next n empty not_yet is queue T c s = record {
  code = s.code;
  belongs = subst (λ (x : Body). Belongs p.compact x.stack) (sym is) s.belongs;
  frames = s.frames ∙ sym (ap frames_of_body is);
  holds = subst (λ (x : Body). IsHoldingOf T.sizes.regions x.holding c.frame.holder c.memory.fills) (sym is) s.holds;
  reserved = s.reserved ∙ sym (ap (λ (x : Body). x.reserved.pages) is);
  owes = s.owes ∙ before ∙ sym queue ∙ sym (no_more d.queue.duties)
      ∙ ap (λ t. d.queue.duties ++ (if t then [] else next_duties p.code (bare_all (frames_of_body d)))) (sym (ap (λ (x : Body). x.is_expanded) is));
  side = subst (λ (x : Body). SideShows x.side c.side c.frame.holder.offer) (sym is) s.side;
  calm = s.calm;
  share = s.share ∙ sym (ap (λ (x : Body). x.counts) is);
  prints = s.prints ∙ sym (ap (λ (x : Body). x.prints) is);
  refused = s.refused ∙ sym (ap (λ (x : Body). x.refused) is);
}
  where
    instr : current p.code (bare n.w) ≡ Some n.instr
    instr = ap (λ o. current_in o n.w.next) n.in_fn ∙ ap (slice_get next.function.body) (sym n.at) ∙ n.is_instr

    before : owed_by_body p.code b ≡ map Create (creates_in (slice_get next.function.body next.at)) ++ duties_of_op n.instr.op
    before = ap (λ l. l ++ (if b.is_expanded then [] else next_duties p.code (bare_all (frames_of_body b)))) empty
        ∙ ap (λ t. if t then [] else next_duties p.code (bare_all (frames_of_body b))) not_yet
        ∙ ap (λ fs. next_duties p.code (bare_all fs)) n.are ∙ ap duties_before instr
        ∙ ap (λ o. map Create (creates_in o) ++ duties_of_op n.instr.op) (sym n.is_instr)

-- only what is in its queue has moved
pub requeued : (p : CompactProgram) (b d : Body) → d ≡ record b { queue = d.queue } → d.queue.duties ≡ b.queue.duties → StillShows p b d
requeued p b d is queue T c s = record {
  code = s.code;
  belongs = subst (λ (x : Body). Belongs p.compact x.stack) (sym is) s.belongs;
  frames = s.frames ∙ sym (ap frames_of_body is);
  holds = subst (λ (x : Body). IsHoldingOf T.sizes.regions x.holding c.frame.holder c.memory.fills) (sym is) s.holds;
  reserved = s.reserved ∙ sym (ap (λ (x : Body). x.reserved.pages) is);
  owes = s.owes ∙ ap (λ l. l ++ later p.code b) (sym queue) ∙ sym (ap (λ (x : Body). d.queue.duties ++ later p.code x) is);
  side = subst (λ (x : Body). SideShows x.side c.side c.frame.holder.offer) (sym is) s.side;
  calm = s.calm;
  share = s.share ∙ sym (ap (λ (x : Body). x.counts) is);
  prints = s.prints ∙ sym (ap (λ (x : Body). x.prints) is);
  refused = s.refused ∙ sym (ap (λ (x : Body). x.refused) is);
}

pub call_duties : (op : code.CodeOp) (to : Option ℕ) (f : ℕ) (from : List ℕ) → erased_op op ≡ tac.Call to f from
    → duties_of_op op ≡ map Protect (protects_of op)
call_duties (code.Call to n from passes protects removes) t f l e = refl
call_duties (code.Do to action from removes) t f l e = refl
call_duties (code.Go n from passes removes) t f l e = cc
call_duties (code.Print pieces from removes) t f l e = refl
call_duties (code.Jump target removes) t f l e = refl
call_duties (code.Branch test target removes other otherwise) t f l e = refl
call_duties (code.Return value) t f l e = refl

pub go_duties : (op : code.CodeOp) (f : ℕ) (from : List ℕ) → erased_op op ≡ tac.Go f from
    → duties_of_op op ≡ map Share (regions_named (passes_of op))
go_duties (code.Go n from passes removes) f l e = refl
go_duties (code.Call to n from passes protects removes) f l e = cc
go_duties (code.Do to action from removes) f l e = refl
go_duties (code.Print pieces from removes) f l e = refl
go_duties (code.Jump target removes) f l e = refl
go_duties (code.Branch test target removes other otherwise) f l e = refl
go_duties (code.Return value) f l e = refl

-- ---- memory and counts alone

pub recounted : (T : Setup) (p : CompactProgram) (b : Body) (c : Record) (H : Holding) (R : PageReserve) (n : Counts) (clock : ClockRec) (memory : MemoryRec)
    → BodyShows T p b c → IsHoldingOf T.sizes.regions H c.frame.holder memory.fills → memory.reserved.pages ≡ R.pages → IsMemoryCalm memory clock.owed → clock.share ≡ n
    → length clock.prints ≡ length c.clock.prints → clock.refused ≡ c.clock.refused
    → BodyShows T p (record b { holding = H; reserved = R; counts = n }) (record c { clock = clock; memory = memory })
recounted T p b c H R n clock memory s holds reserved calm share prints refused = record {
  code = s.code;
  belongs = s.belongs;
  frames = s.frames;
  holds = holds;
  reserved = reserved;
  owes = s.owes;
  side = s.side;
  calm = calm;
  share = share;
  prints = prints ∙ s.prints;
  refused = refused ∙ s.refused;
}

-- the record after a page was claimed, which is now hung and linked
abbrev pub linked : Record → Record
linked c = record c { clock = accessed (accessed c.clock); memory = with_claim c.memory Idle }

-- it is an own page, or one of a spread object
pub claims_own : (T : Setup) (c : Record) (page slot : ℕ) → next_is_spread T c ≡ false
    → has_claimed T c page slot ≡ linked (claims c page slot)
claims_own T c page slot none = ap (λ t. linked (if t then reserves c page slot else claims c page slot)) none

pub claims_apart : (T : Setup) (c : Record) (page slot : ℕ) → next_is_spread T c ≡ true
    → has_claimed T c page slot ≡ linked (reserves c page slot)
claims_apart T c page slot spread = ap (λ t. linked (if t then reserves c page slot else claims c page slot)) spread

-- the duties of creates are put before those of the operation
pub queued_by : (instr : code.CodeInstr) (found : Option code.CodeInstr) (creates : List ℕ) (before mid after old : List Duty)
    → found ≡ Some instr → creates ≡ creates_in found → after ≡ map Create creates ++ mid → mid ≡ before ++ old
    → duties_of_op instr.op ≡ before → after ≡ map Create instr.creates ++ (duties_of_op instr.op ++ old)
queued_by instr found creates before mid after old is made last rest same =
    last ∙ ap (λ l. map Create l ++ mid) (made ∙ ap creates_in is)
    ∙ ap (λ l. map Create instr.creates ++ l) (rest ∙ ap (λ l. l ++ old) (sym same))

-- it is neither a call nor the start of a goroutine
abbrev pub IsPlain : tac.Op → Type 0
IsPlain (tac.Call to f from) = ⊥
IsPlain (tac.Go f from) = ⊥
IsPlain (tac.Do to action from) = Unit {0}
IsPlain (tac.Print pieces from) = Unit {0}
IsPlain (tac.Jump target) = Unit {0}
IsPlain (tac.Branch test target other) = Unit {0}
IsPlain (tac.Return value) = Unit {0}

pub plain_duties : (op : code.CodeOp) (o : tac.Op) → erased_op op ≡ o → IsPlain o → duties_of_op op ≡ []
plain_duties op o e plain = by op (subst IsPlain (sym e) plain)
  where
    by : (op : code.CodeOp) → IsPlain (erased_op op) → duties_of_op op ≡ []
    by (code.Call to n from passes protects removes) plain = absurd plain
    by (code.Go n from passes removes) plain = absurd plain
    by (code.Do to action from removes) plain = refl
    by (code.Print pieces from removes) plain = refl
    by (code.Jump target removes) plain = refl
    by (code.Branch test target removes other otherwise) plain = refl
    by (code.Return value) plain = refl
