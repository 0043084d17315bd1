-- Steps of the region machine that no word of memory shows. All that is to be proved is an equation: what memory shows (`Ground`) is the
-- same after them. It goes by the kind of event, and for a duty by its tests.
use Rattle.std.proofs.Common.{◌≡◌, ℕ, Bool, true, false, List, [], ◌∷◌, ◌++◌, map, length, append-nil, Option, Some, None, option_and_then, slice_get, slice_set, nat_eq, if◌then◌else◌, refl, ap, sym, subst, ◌∙◌, arith, true≢false}
use Rattle.std.proofs.lemmas.Option.{same_Some}
use Rattle.std.specs.List.{list_any}
use Rattle.rgo_sound.specs.Code.Code.{Code, CodeInstr, CodeOp, Do, Call, Go, Print, Jump, Branch, Return}
use Rattle.rgo_sound.specs.Machine.declared.picks.Pick.TheVariants.{One, Meet}
use Rattle.rgo_sound.specs.Memory.Memory.{Memory as PlainMemory}
use Rattle.rgo_sound.specs.RegionMachine.Duties.{attended, attend, duty_done, protected, unprotected, with_protection, removal, shared as shared_state, guards}
use Rattle.rgo_sound.specs.RegionMachine.Instructions.{unless_trapped, holder_after, child_holder, last_frames, is_ready, taken_offer}
use Rattle.rgo_sound.specs.RegionMachine.Machine.{Event, Instruct, Attend, TakePage, MakeOffer, Acknowledge, Finish, region_step, finished}
use Rattle.rgo_sound.specs.RegionMachine.Objects.{allotted, making_region, may_touch}
use Rattle.rgo_sound.specs.RegionMachine.Offers.{make_offer, offer_for, offered, offered_channel, offers_on, acknowledge}
use Rattle.rgo_sound.specs.RegionMachine.Owed.{current, function_at}
use Rattle.rgo_sound.specs.RegionMachine.Regions.{is_live, with_info, with_added_stake, one_fewer, without, bound, unbind, removed_once}
use Rattle.rgo_sound.specs.RegionMachine.States.{Duty, Create, Share, Protect, Unprotect, Remove, EndBase, Offer, NoOffer, Standing, Taken, Holder, RegionState, top_names, with_top, frames_of}
use Rattle.rgo_sound.specs.RegionMachine.declared.regions.Region.{Region}
use Rattle.rgo_sound.specs.RegionMachine.declared.regions.Region.TheVariants.{Global as GlobalRegion, Numbered}
use Rattle.rgo_sound.proofs.steps.Acting.{after}
use Rattle.rgo_sound.proofs.plain.Steps.{Yields, yields_none, yields_where, yields_is, yields_at}
use Rattle.rgo_sound.proofs.steps.OneStep.{MeetDone, meet_done, gone_on, receive_goes, send_goes}
use Rattle.rgo_sound.specs.Tac.Frames.{TacFrame}
use Rattle.rgo_sound.specs.Tac.Tac.{TacState}
use Rattle.rgo_core_memory.specs.Ground.{Held, ground_of, held_of}
use Rattle.rgo_core_memory.specs.Quiet.{Spared, HasPending, QuietDuty, IsGo, IsQuiet, QuietKeeps, StartKeeps}
use Rattle.rgo_core_memory.proofs.accesses.Accesses.{image_of}
use Rattle.rgo_core_memory.proofs.regions.Attending.{first_duty, same_held}
use Rattle.rgo_core_memory.proofs.image.Births.{born}
use Rattle.rgo_core_memory.proofs.Rows.{set_again}
use Rattle.rgo_sound.proofs.steps.OneStep.{OneDone, one_done}
use Rattle.rgo_core_memory.proofs.image.Stepped.{held_unless, slice_get_none, map_set, map_get}

-- another holder of one goroutine, with the same stakes and fills
attended_ground : (s : RegionState) (g : ℕ) (h k : Holder) → slice_get s.holders g ≡ Some h → held_of k ≡ held_of h
    → ground_of (attended s g k) ≡ ground_of s
attended_ground s g h k hold e = λ i. record {
  heap = s.plain.memory.heap;
  variables = s.plain.memory.variables;
  owners = s.owners;
  regions = s.regions;
  global_pages = s.global_pages;
  held = same_held s g h k hold e i;
}

record Same (s : RegionState) (t : RegionState) : Type 0 where
  same : ground_of t ≡ ground_of s

-- ---- duties

module _ (s t : RegionState) (g : ℕ) (h : Holder) (hold : slice_get s.holders g ≡ Some h) where
  by_attended : (k : Holder) → held_of k ≡ held_of h → Some (attended s g k) ≡ Some t → ground_of t ≡ ground_of s
  by_attended k e q = ap ground_of (sym (same_Some (attended s g k) t q)) ∙ attended_ground s g h k hold e

  spared : (k : Holder) (r : Region) → held_of k ≡ held_of h → Spared k r → removal s g k r ≡ Some t → ground_of t ≡ ground_of s
  spared k GlobalRegion e q w = by_attended k e w
  spared k (Numbered j) e q w = go (is_live s.regions (Numbered j)) w
    where
      one : (b : Bool) → b ≡ true
          → (if b then Some (attended s g k) else Some (record (attended s g
          (record k { stakes = without j k.stakes })) { regions = with_info s.regions j one_fewer })) ≡ Some t → ground_of t ≡ ground_of s
      one true q w = by_attended k e w
      one false q w = absurd (true≢false (sym q))

      go : (b : Bool) → (if b then (if guards k.base k.environments (Numbered j) then Some (attended s g k) else Some (record (attended s g
          (record k { stakes = without j k.stakes })) { regions = with_info s.regions j one_fewer })) else None) ≡ Some t → ground_of t ≡ ground_of s
      go true w = one (guards k.base k.environments (Numbered j)) q w
      go false w = cc

  pends : (k : Holder) (r : Region) → held_of k ≡ held_of h → HasPending k r → shared_state s g k r ≡ Some t → ground_of t ≡ ground_of s
  pends k GlobalRegion e q w = by_attended k e w
  pends k (Numbered j) e q w = go (is_live s.regions (Numbered j)) w
    where
      one : (b : Bool) → b ≡ true
          → (if b then Some (attended s g k) else Some (record (attended s g
          (record k { pending = j ∷ k.pending })) { regions = with_info s.regions j with_added_stake })) ≡ Some t → ground_of t ≡ ground_of s
      one true q w = by_attended k e w
      one false q w = absurd (true≢false (sym q))

      go : (b : Bool) → (if b then (if list_any (nat_eq j) k.pending then Some (attended s g k) else Some (record (attended s g
          (record k { pending = j ∷ k.pending })) { regions = with_info s.regions j with_added_stake })) else None) ≡ Some t → ground_of t ≡ ground_of s
      go true w = one (list_any (nat_eq j) k.pending) q w
      go false w = cc

  duty : (d : Duty) (ds : List Duty) → QuietDuty h d → duty_done s g (record h { duties = ds }) d ≡ Some t → ground_of t ≡ ground_of s
  duty (Create k) ds q w = absurd q
  duty (Share k) ds q w = pends (record h { duties = ds }) q.0 refl q.2 (sym (ap (option_and_then (shared_state s g
      (record h { duties = ds }))) q.1) ∙ w)
  duty (Protect k) ds q w = go (bound (top_names h.environments) k) w
    where
      live : (b : Bool) (r : Region)
          → (if b then Some (attended s g (record h { duties = ds; environments = with_protection h.environments r })) else None) ≡ Some t
          → ground_of t ≡ ground_of s
      live true r w = by_attended (record h { duties = ds; environments = with_protection h.environments r }) refl w
      live false r w = cc

      go : (o : Option Region) → option_and_then (protected s g (record h { duties = ds })) o ≡ Some t → ground_of t ≡ ground_of s
      go None w = cc
      go (Some r) w = live (is_live s.regions r) r w
  duty (Unprotect k) ds q w = go (bound (top_names h.environments) k) w
    where
      go : (o : Option Region) → option_and_then (λ r. Some (attended s g (unprotected (record h { duties = ds }) r))) o ≡ Some t
          → ground_of t ≡ ground_of s
      go None w = cc
      go (Some r) w = by_attended (unprotected (record h { duties = ds }) r) refl w
  duty (Remove k) ds q w =
      spared (record h { duties = ds; environments = with_top h.environments (unbind (top_names h.environments) k) }) q.0 refl (spared_too q.0 q.2)
      (sym (ap (option_and_then (removal s g (record h {
        duties = ds;
        environments = with_top h.environments (unbind
            (top_names h.environments) k);
      }))) q.1) ∙ w)
    where
      spared_too : (r : Region) → Spared (record h { environments = with_top h.environments (unbind (top_names h.environments) k) }) r
          → Spared (record h { duties = ds; environments = with_top h.environments (unbind (top_names h.environments) k) }) r
      spared_too GlobalRegion u = u
      spared_too (Numbered j) u = u
  duty (EndBase r) ds q w = spared (record h { duties = ds; base = removed_once r h.base }) r refl (spared_too r q) w
    where
      spared_too : (p : Region) → Spared (record h { base = removed_once r h.base }) p
          → Spared (record h { duties = ds; base = removed_once r h.base }) p
      spared_too GlobalRegion u = u
      spared_too (Numbered j) u = u

-- ---- offers

offers : (code : Code) (s : RegionState) (g : ℕ) (h : Holder) → slice_get s.holders g ≡ Some h → (frames : List TacFrame)
    → Yields (Same s) (make_offer code s g h frames)
offers code s g h hold [] = yields_none
offers code s g h hold (frame ∷ callers) = yields_where (is_ready code s h (frame ∷ callers)) _ (λ r.
    yields_at (current code frame) (offer_for s g h frame) (λ i c.
    yields_at (offered_channel s frame i.op) (offered s g h) (λ o q.
    one (list_any (λ (k : Holder). offers_on o k.offer) s.holders) o)))
  where
    one : (b : Bool) (o : ℕ) → Yields (Same s) (if b then None else Some (attended s g (record h { offer = Standing o })))
    one true o = yields_none
    one false o = record { fact = record { same = attended_ground s g h (record h { offer = Standing o }) hold refl } }

acknowledges : (s : RegionState) (g : ℕ) (h : Holder) → slice_get s.holders g ≡ Some h → (offer : Offer) → Yields (Same s) (acknowledge s g h offer)
acknowledges s g h hold NoOffer = yields_none
acknowledges s g h hold (Standing o) = yields_none
acknowledges s g h hold (Taken o) = yields_where (may_touch s (Some o)) _ (λ r. record {
  fact = record {
    same = attended_ground s g h
        (record h { offer = NoOffer }) hold refl;
  };
})

-- ---- instructions

held_after : (code : Code) (h : Holder) (frame : TacFrame) (callers : List TacFrame) (op : CodeOp) (next : List TacFrame)
    → held_of (holder_after code h frame callers op next) ≡ held_of h
held_after code h frame callers (Do to action from removes) next = refl
held_after code h frame callers (Call to n from passes protects removes) next = refl
held_after code h frame callers (Go n from passes removes) next = refl
held_after code h frame callers (Print pieces from removes) next = refl
held_after code h frame callers (Jump j removes) next = refl
held_after code h frame callers (Branch v j removes k others) next = refl
held_after code h frame callers (Return value) next = refl

map_more : {A B : Type 0} (f : A → B) (l m : List A) → map f (l ++ m) ≡ map f l ++ map f m
map_more f [] m = refl
map_more f (a ∷ l) m = ap (λ n. f a ∷ n) (map_more f l m)

-- an instruction that leaves the memory as it was
instruct_ground : (code : Code) (page_words : ℕ) (s t : RegionState) (g : ℕ) (x : OneDone code page_words s g t) → t.plain.memory ≡ s.plain.memory
    → ground_of t ≡ record (ground_of s) {
      held = map held_of s.holders ++ map held_of (child_holder code x.given.0 x.instr.op (last_frames
          (after s.plain g x.a).goroutines));
    }
instruct_ground code page_words s t g x same = ap ground_of x.is ∙ λ i. record {
  heap = ap (λ (m : PlainMemory). m.heap) memory i;
  variables = ap (λ (m : PlainMemory). m.variables) memory i;
  owners = (ap (λ (y : Holder × List Region). s.owners ++ y.1) given ∙ append-nil s.owners) i;
  regions = s.regions;
  global_pages = s.global_pages;
  held = (map_more held_of (slice_set s.holders g now) children
      ∙ ap (λ (l : List Held). l ++ map held_of children) (same_held s g x.h now x.there mine)) i;
}
  where
    memory : x.a.memory ≡ s.plain.memory
    memory = ap (λ (y : RegionState). y.plain.memory) (sym x.is) ∙ same

    none : slice_get x.a.memory.heap (length s.plain.memory.heap) ≡ None
    none = slice_get_none x.a.memory.heap (length s.plain.memory.heap) (let l = ap (λ (m : PlainMemory). length m.heap) memory in omega (arith, l))

    given : ◌≡◌ {A = Holder × List Region} x.given (x.h, [])
    given = same_Some x.given (x.h, []) (sym x.fits
        ∙ ap (allotted page_words x.h (making_region (function_at code x.frame) (top_names x.h.environments) x.instr.op)) none)

    now : Holder
    now = unless_trapped (after s.plain g x.a).ended x.given.0 (holder_after code x.given.0 x.frame x.callers x.instr.op (frames_of
        (after s.plain g x.a) g))

    children : List Holder
    children = child_holder code x.given.0 x.instr.op (last_frames (after s.plain g x.a).goroutines)

    mine : held_of now ≡ held_of x.h
    mine = held_unless (after s.plain g x.a).ended x.given.0 (holder_after code x.given.0 x.frame x.callers x.instr.op (frames_of
        (after s.plain g x.a) g))
        (held_after code x.given.0 x.frame x.callers x.instr.op (frames_of (after s.plain g x.a) g))
        ∙ ap (λ (y : Holder × List Region). held_of y.0) given

no_child : (code : Code) (h : Holder) (op : CodeOp) (child : List TacFrame) → (IsGo op → ⊥) → child_holder code h op child ≡ []
no_child code h (Do to action from removes) child n = refl
no_child code h (Call to m from passes protects removes) child n = refl
no_child code h (Go m from passes removes) child n = absurd (n tt)
no_child code h (Print pieces from removes) child n = refl
no_child code h (Jump j removes) child n = refl
no_child code h (Branch v j removes k others) child n = refl
no_child code h (Return value) child n = refl

one_child : (code : Code) (h : Holder) (op : CodeOp) (child : List TacFrame) → IsGo op → (stakes : List ℕ)
    × (map held_of (child_holder code h op child) ≡ record { stakes = stakes; fills = []; reserved = 0 } ∷ [])
one_child code h (Do to action from removes) child n = absurd n
one_child code h (Call to m from passes protects removes) child n = absurd n
one_child code h (Go m from passes removes) child n = (h.pending, refl)
one_child code h (Print pieces from removes) child n = absurd n
one_child code h (Jump j removes) child n = absurd n
one_child code h (Branch v j removes k others) child n = absurd n
one_child code h (Return value) child n = absurd n

-- a meeting gives a value from frame to frame
meet_ground : (code : Code) (s t : RegionState) (r u : ℕ) → MeetDone code s r u t → ground_of t ≡ ground_of s
meet_ground code s t r u x = λ i. record {
  heap = ap (λ (p : TacState). p.memory.heap) x.plain i;
  variables = ap (λ (p : TacState). p.memory.variables) x.plain i;
  owners = x.owners i;
  regions = x.regions i;
  global_pages = x.global_pages i;
  held = (ap (map held_of) x.holders
      ∙ (map_set held_of (slice_set s.holders r one) u two
      ∙ (ap (λ (l : List Held). slice_set l u (held_of x.k)) (same_held s r x.h one x.there_h refl)
      ∙ set_again (map held_of s.holders) u (held_of x.k) (map_get held_of s.holders u x.k x.there_k)))) i;
}
  where
    one : Holder
    one = gone_on (receive_goes x.receives x.v) x.h

    two : Holder
    two = record (gone_on (send_goes x.sends) x.k) { offer = taken_offer x.k.offer }

quiet_ground : (code : Code) (page_words : ℕ) (s t : RegionState) (e : Event) → region_step code page_words s e ≡ Some t → IsQuiet code s t e
    → ground_of t ≡ ground_of s
quiet_ground code page_words s t (Instruct (One g)) e q =
    let x : OneDone code page_words s g t = yields_is (region_step code page_words s (Instruct (One g))) t (one_done code page_words s g) e in
    instruct_ground code page_words s t g x q.0
    ∙ ap (λ (l : List Held). record (ground_of s) { held = l })
    (ap (λ (l : List Holder). map held_of s.holders ++ map held_of l) (no_child code x.given.0 x.instr.op (last_frames
    (after s.plain g x.a).goroutines) (q.1 x.frame x.callers x.instr x.at x.cur))
    ∙ append-nil (map held_of s.holders))
quiet_ground code page_words s t (Instruct (Meet r u)) e q = meet_ground code s t r u (yields_is (region_step code page_words s (Instruct
    (Meet r u))) t (meet_done code page_words s r u) e)
quiet_ground code page_words s t (Attend g) e q = go (slice_get s.holders g) refl
  where
    owes : (h : Holder) → slice_get s.holders g ≡ Some h → (duties : List Duty) → h.duties ≡ duties → ground_of t ≡ ground_of s
    owes h hold [] d =
        let w : None ≡ Some t = sym (ap (option_and_then (λ (y : Holder). attend s g y y.duties)) hold ∙ ap (attend s g h) d) ∙ e in cc w
    owes h hold (x ∷ xs) d = duty s t g h hold x xs (q h x xs hold d) (first_duty code page_words s t g h x xs hold d e)

    go : (o : Option Holder) → slice_get s.holders g ≡ o → ground_of t ≡ ground_of s
    go None hold = let w : None ≡ Some t = sym (ap (option_and_then (λ (y : Holder). attend s g y y.duties)) hold) ∙ e in cc w
    go (Some h) hold = owes h hold h.duties refl
quiet_ground code page_words s t (TakePage g) e q = absurd q
quiet_ground code page_words s t (MakeOffer g) e q = (yields_is {P = Same s} (region_step code page_words s (MakeOffer g)) t
    (yields_at (slice_get s.holders g) (λ h. make_offer code s g h (frames_of s.plain g)) (λ h hold. offers code s g h hold
    (frames_of s.plain g))) e).same
quiet_ground code page_words s t (Acknowledge g) e q = (yields_is {P = Same s} (region_step code page_words s (Acknowledge g)) t
    (yields_at (slice_get s.holders g) (λ (h : Holder). acknowledge s g h h.offer) (λ h hold. acknowledges s g h hold h.offer)) e).same
quiet_ground code page_words s t (Finish limit) e q = ap ground_of (sym (same_Some (finished s limit) t e))

pub quiet_keeps : QuietKeeps
quiet_keeps code z words recs s t e places k step quiet = image_of (quiet_ground code z.page_words s t e step quiet) k

pub start_keeps : StartKeeps
start_keeps code z words recs s t g places k e frame callers instr at cur go same =
    let x : OneDone code z.page_words s g t = yields_is (region_step code z.page_words s (Instruct (One g))) t (one_done code z.page_words s g) e in
    let f : x.frame ∷ x.callers ≡ frame ∷ callers = same_Some (x.frame ∷ x.callers) (frame ∷ callers) (sym x.at ∙ at) in
    let fr : x.frame ≡ frame = cc f in
    let i : x.instr ≡ instr = same_Some x.instr instr (sym x.cur ∙ (ap (current code) fr ∙ cur)) in
    let c = one_child code x.given.0 x.instr.op (last_frames (after s.plain g x.a).goroutines) (subst (λ (y : CodeInstr). IsGo y.op) (sym i) go) in
    image_of (instruct_ground code z.page_words s t g x same ∙ ap (λ (l : List Held). record (ground_of s) { held = map held_of s.holders ++ l }) c.1)
    (born z words recs (ground_of s) places k c.0)
