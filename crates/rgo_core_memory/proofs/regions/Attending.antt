-- The steps on regions and pages are those of the region machine. The duty is the first one of the holder, and what it does to what
-- memory shows is an equation, by the tests that the law has as premises.
use Rattle.std.proofs.Common.{◌≡◌, ℕ, ◌+◌, Bool, true, false, ◌&&◌, List, [], ◌∷◌, ◌++◌, map, length, Option, Some, None, option_and_then, slice_get, slice_set, nat_eq, if◌then◌else◌, refl, ap, sym, subst, ◌∙◌, ⊎_elim, true≢false}
use Rattle.std.proofs.lemmas.Option.{same_Some}
use Rattle.std.specs.List.{list_any}
use Rattle.rgo_sound.specs.Code.Code.{Code, CodeFn}
use Rattle.rgo_sound.specs.Tac.Frames.{TacFrame}
use Rattle.rgo_sound.specs.RegionMachine.Duties.{attended, attend, duty_done, may_go, removal, shared as shared_state, guards}
use Rattle.rgo_sound.specs.RegionMachine.Instructions.{has_none}
use Rattle.rgo_sound.specs.RegionMachine.Machine.{Attend, TakePage, region_step, take_page, takes_page, page_for, page_taken as taken_state, next_object}
use Rattle.rgo_sound.specs.RegionMachine.Objects.{making_region, wants_page, fill_of, with_fill, with_page, is_spread}
use Rattle.rgo_sound.specs.RegionMachine.Machine.{page_before}
use Rattle.rgo_sound.specs.Memory.Memory.{Object}
use Rattle.rgo_sound.specs.RegionMachine.Regions.{is_live, with_info, with_added_stake, one_fewer, one_page_more, class_region, without, bound, unbind, removed_once}
use Rattle.rgo_sound.specs.RegionMachine.States.{RegionEnvironment, Duty, Create, Share, Remove, EndBase, Holder, RegionState, top_names, with_top, frames_in, frames_of}
use Rattle.rgo_sound.specs.RegionMachine.declared.regions.Region.{Region}
use Rattle.rgo_sound.specs.RegionMachine.declared.regions.Region.TheVariants.{Global as GlobalRegion, Numbered}
use Rattle.rgo_sound.proofs.offers.Offers.{making_class}
use Rattle.rgo_sound.proofs.pointers.Steps.{Top, top_of}
use Rattle.rgo_sound.specs.Invariant.{GoodHolder}
use Rattle.rgo_sound.specs.Tac.declared.regions.Class.{Class}
use Rattle.rgo_sound.specs.Tac.declared.regions.Class.TheVariants.{NoClass, Global, Name}
use Rattle.rgo_sound.specs.Good.{AllGood}
use Rattle.rgo_core_memory.specs.Records.{with_give, without_slot, Owes}
use Rattle.rgo_core_memory.specs.Ground.{Held, MayUseRegion, ground_of, held_of, with_new_region, region_shared, left, own_page_taken}
use Rattle.rgo_core_memory.specs.Events.{CreateKeeps, ShareKeeps, Leaves, LeaveKeeps, LastLeaveKeeps, NextMakesObjectIn, PageKeeps}
use Rattle.rgo_core_memory.proofs.accesses.Accesses.{image_of}
use Rattle.rgo_core_memory.proofs.pages.Claiming.{page_claimed}
use Rattle.rgo_core_memory.proofs.regions.Creating.{one_created}
use Rattle.rgo_core_memory.proofs.Rows.{set_again}
use Rattle.rgo_core_memory.proofs.regions.Sharing.{one_shared, other_left, last_left}
use Rattle.rgo_core_memory.proofs.image.Steadies.{steady_of}
use Rattle.rgo_core_memory.proofs.image.Stepped.{map_set, map_get}
use Rattle.rgo_core_memory.proofs.pages.Claiming.{page_reserves}
use Rattle.rgo_core_memory.specs.Ground.{page_reserved}
use Rattle.rgo_core_memory.specs.Events.{ReservedPageKeeps}

-- the first of the duties
pub first_duty : (code : Code) (page_words : ℕ) (s t : RegionState) (g : ℕ) (h : Holder) (d : Duty) (ds : List Duty) → slice_get s.holders g ≡ Some h
    → h.duties ≡ d ∷ ds → region_step code page_words s (Attend g) ≡ Some t → duty_done s g (record h { duties = ds }) d ≡ Some t
first_duty code page_words s t g h d ds hold owed e = go (may_go h.offer)
    (sym (ap (option_and_then (λ (y : Holder). attend s g y y.duties)) hold ∙ ap (attend s g h) owed) ∙ e)
  where
    go : (b : Bool) → (if b then duty_done s g (record h { duties = ds }) d else None) ≡ Some t → duty_done s g (record h { duties = ds }) d ≡ Some t
    go true q = q
    go false q = cc

pub same_held : (s : RegionState) (g : ℕ) (h k : Holder) → slice_get s.holders g ≡ Some h → held_of k ≡ held_of h
    → map held_of (slice_set s.holders g k) ≡ map held_of s.holders
same_held s g h k hold e = map_set held_of s.holders g k ∙ (ap (slice_set (map held_of s.holders) g) e
    ∙ set_again (map held_of s.holders) g (held_of h) (map_get held_of s.holders g h hold))

pub create_keeps : CreateKeeps
create_keeps code z words recs s t g name r h ds all places k hold owed e small free =
    image_of is (one_created z words recs (ground_of s) places k (steady_of code s all) g r (held_of h)
    (map_get held_of s.holders g h hold) small free)
  where
    is : ground_of t ≡ with_new_region (ground_of s) g (held_of h)
    is = ap ground_of (sym (same_Some _ t (first_duty code z.page_words s t g h (Create name) ds hold owed e))) ∙ λ i. record {
      heap = s.plain.memory.heap;
      variables = s.plain.memory.variables;
      owners = s.owners;
      regions = s.regions ++ record { stakes = 1; pages = 0 } ∷ [];
      global_pages = s.global_pages;
      held = map_set held_of s.holders g (record h {
        duties = ds;
        stakes = length s.regions ∷ h.stakes;
        environments = with_top h.environments ((name, Numbered (length s.regions)) ∷ unbind (top_names h.environments) name);
      }) i;
    }

pub share_keeps : ShareKeeps
share_keeps code z words recs s t g name j h ds places k hold owed named fresh e = let y = go (is_live s.regions (Numbered j)) refl done in
    image_of y.1 (one_shared z words recs (ground_of s) places k j y.0)
  where
    abbrev_h : Holder
    abbrev_h = record h { duties = ds }

    done : shared_state s g (record h { duties = ds }) (Numbered j) ≡ Some t
    done = sym (ap (option_and_then (shared_state s g (record h { duties = ds }))) named)
        ∙ first_duty code z.page_words s t g h (Share name) ds hold owed e

    one : (p : Bool) → p ≡ false → (if p then Some (attended s g (record h { duties = ds }))
        else Some (record (attended s g (record h { duties = ds; pending = j ∷ h.pending })) { regions = with_info s.regions j with_added_stake })) ≡ Some t
        → ground_of t ≡ region_shared (ground_of s) j
    one true q w = absurd (true≢false q)
    one false q w = ap ground_of (sym (same_Some _ t w)) ∙ λ i. record {
      heap = s.plain.memory.heap;
      variables = s.plain.memory.variables;
      owners = s.owners;
      regions = with_info s.regions j with_added_stake;
      global_pages = s.global_pages;
      held = same_held s g h (record h { duties = ds; pending = j ∷ h.pending }) hold refl i;
    }

    go : (b : Bool) → is_live s.regions (Numbered j) ≡ b
        → (if b then (if list_any (nat_eq j) h.pending then Some (attended s g (record h { duties = ds }))
        else Some (record (attended s g
        (record h { duties = ds; pending = j ∷ h.pending })) { regions = with_info s.regions j with_added_stake })) else None) ≡ Some t
        → (is_live s.regions (Numbered j) ≡ true) × (ground_of t ≡ region_shared (ground_of s) j)
    go true q w = (q, one (list_any (nat_eq j) h.pending) fresh w)
    go false q w = cc

-- the end of a stake that is not protected
removed : (s t : RegionState) (g j : ℕ) (h k : Holder) → slice_get s.holders g ≡ Some h → held_of k ≡ held_of h → removal s g k (Numbered j) ≡ Some t
    → guards k.base k.environments (Numbered j) ≡ false → (is_live s.regions (Numbered j) ≡ true) × (ground_of t ≡ left (ground_of s) g (held_of h) j)
removed s t g j h k hold same done free = go (is_live s.regions (Numbered j)) refl done
  where
    one : (p : Bool) → p ≡ false → (if p then Some (attended s g k)
        else Some (record (attended s g (record k { stakes = without j k.stakes })) { regions = with_info s.regions j one_fewer })) ≡ Some t
        → ground_of t ≡ left (ground_of s) g (held_of h) j
    one true q w = absurd (true≢false q)
    one false q w = ap ground_of (sym (same_Some _ t w)) ∙ λ i. record {
      heap = s.plain.memory.heap;
      variables = s.plain.memory.variables;
      owners = s.owners;
      regions = with_info s.regions j one_fewer;
      global_pages = s.global_pages;
      held = (map_set held_of s.holders g (record k { stakes = without j k.stakes })
          ∙ ap (λ (y : Held). slice_set (map held_of s.holders) g (record y { stakes = without j y.stakes })) same) i;
    }

    go : (b : Bool) → is_live s.regions (Numbered j) ≡ b
        → (if b then (if guards k.base k.environments (Numbered j) then Some (attended s g k)
        else Some (record (attended s g
        (record k { stakes = without j k.stakes })) { regions = with_info s.regions j one_fewer })) else None) ≡ Some t
        → (is_live s.regions (Numbered j) ≡ true) × (ground_of t ≡ left (ground_of s) g (held_of h) j)
    go true q w = (q, one (guards k.base k.environments (Numbered j)) free w)
    go false q w = cc

leaving : (code : Code) (page_words : ℕ) (s t : RegionState) (g j : ℕ) (h : Holder) → slice_get s.holders g ≡ Some h → Leaves h j
    → region_step code page_words s (Attend g) ≡ Some t → (is_live s.regions (Numbered j) ≡ true) × (ground_of t ≡ left (ground_of s) g (held_of h) j)
leaving code page_words s t g j h hold leaves e = ⊎_elim
    (λ (l : (name : ℕ) × (ds : List Duty) × (h.duties ≡ Remove name ∷ ds) × (bound (top_names h.environments) name ≡ Some (Numbered j))
    × (guards h.base (with_top h.environments (unbind (top_names h.environments) name)) (Numbered j) ≡ false)).
    removed s t g j h (record h { duties = l.1; environments = with_top h.environments (unbind (top_names h.environments) l.0) }) hold refl
    (sym (ap (option_and_then (removal s g (record h {
      duties = l.1;
      environments = with_top h.environments (unbind
          (top_names h.environments) l.0);
    }))) l.3)
    ∙ first_duty code page_words s t g h (Remove l.0) l.1 hold l.2 e) l.4)
    (λ (l : (ds : List Duty) × (h.duties ≡ EndBase (Numbered j) ∷ ds)
    × (guards (removed_once (Numbered j) h.base) h.environments (Numbered j) ≡ false)).
    removed s t g j h (record h { duties = l.0; base = removed_once (Numbered j) h.base }) hold refl
    (first_duty code page_words s t g h (EndBase (Numbered j)) l.0 hold l.1 e) l.2)
    leaves

pub leave_keeps : LeaveKeeps
leave_keeps code z words recs s t g j h c all places k hold own leaves e free none more =
    let y = leaving code z.page_words s t g j h hold leaves e in
    image_of y.1 (other_left z words recs (ground_of s) places k j y.0 (steady_of code s all) g c (without_slot c (places.slot j)) own refl refl
    refl none (held_of h) (map_get held_of s.holders g h hold) free.0
    free.1 refl refl refl refl more)

pub last_leave_keeps : LastLeaveKeeps
last_leave_keeps code z words recs s t g j h c all places k hold own leaves e free none calm last =
    let y = leaving code z.page_words s t g j h hold leaves e in
    image_of y.1 (last_left z words recs (ground_of s) places k j y.0 (steady_of code s all) g c (with_give (without_slot c (places.slot j)) (Owes
    (places.slot j))) own refl refl refl none (held_of h) (map_get held_of s.holders g h hold) free.0
    free.1 refl refl refl calm refl last)

-- ---- pages

-- the goroutine has a stake in the region in which its next instruction makes an object
pub makes_used : (code : Code) (s : RegionState) (g : ℕ) (h : Holder) (r : Region) → AllGood code s → slice_get s.holders g ≡ Some h
    → NextMakesObjectIn code s g h r → MayUseRegion (held_of h) r
makes_used code s g h r all hold m = by r (making_class top.stands.fn (top_names h.environments) m.2.op r
    (ap (λ (f : Option CodeFn). making_region f (top_names h.environments) m.2.op) (sym top.stands.is_fn) ∙ m.5))
  where
    top : Top code h m.0 m.1
    top = top_of code h m.0 m.1 (subst (λ (y : List TacFrame). GoodHolder code y h) (ap frames_in m.3) (all.good.fine.each g h hold))

    by : (q : Region) → (c : Class) × (class_region (top_names h.environments) c ≡ Some q) → MayUseRegion (held_of h) q
    by GlobalRegion w = tt
    by (Numbered j) (NoClass, w) = cc
    by (Numbered j) (Global, w) = cc
    by (Numbered j) (Name name, w) = top.staked name j (ap (λ (y : List RegionEnvironment). bound (top_names y) name) (sym top.environments) ∙ w)

page_done : (code : Code) (page_words : ℕ) (s t : RegionState) (g : ℕ) (h : Holder) (r : Region) → slice_get s.holders g ≡ Some h
    → NextMakesObjectIn code s g h r → (x : Object) → next_object code s g ≡ Some x
    → region_step code page_words s (TakePage g) ≡ Some t → taken_state s g (with_page page_words h r x) r ≡ t
page_done code page_words s t g h r hold m x next e =
    go (has_none h.duties && may_go h.offer && is_live s.regions r && wants_page page_words h.reserved (fill_of h.fills r) x)
    (sym (ap (option_and_then (λ (y : Holder). take_page code page_words s g y (frames_of s.plain g))) hold
    ∙ ap (λ (y : Option (List TacFrame)). take_page code page_words s g h (frames_in y)) m.3
    ∙ ap (option_and_then (page_for code page_words s g h m.0)) m.4
    ∙ ap (option_and_then (takes_page code page_words s g h)) m.5
    ∙ ap (option_and_then (page_before page_words s g h r)) next) ∙ e)
  where
    go : (b : Bool) → (if b then Some (taken_state s g (with_page page_words h r x) r) else None) ≡ Some t
        → taken_state s g (with_page page_words h r x) r ≡ t
    go true q = same_Some (taken_state s g (with_page page_words h r x) r) t q
    go false q = cc

-- the holder after it: the page is the own one, or reserved
own_page : (page_words : ℕ) (h : Holder) (r : Region) (x : Object) → is_spread page_words x ≡ false
    → with_page page_words h r x ≡ record h { fills = with_fill h.fills r 0 }
own_page page_words h r x w = ap (λ b. record h {
  fills = if b then h.fills else with_fill h.fills r 0;
  reserved = if b then h.reserved + 1 else h.reserved;
}) w

spread_page : (page_words : ℕ) (h : Holder) (r : Region) (x : Object) → is_spread page_words x ≡ true
    → with_page page_words h r x ≡ record h { reserved = h.reserved + 1 }
spread_page page_words h r x w = ap (λ b. record h {
  fills = if b then h.fills else with_fill h.fills r 0;
  reserved = if b then h.reserved + 1 else h.reserved;
}) w

page_ground : (s : RegionState) (g : ℕ) (h : Holder) (r : Region)
    → ground_of (taken_state s g (record h { fills = with_fill h.fills r 0 }) r) ≡ own_page_taken (ground_of s) g (held_of h) r
page_ground s g h GlobalRegion = λ i. record {
  heap = s.plain.memory.heap;
  variables = s.plain.memory.variables;
  owners = s.owners;
  regions = s.regions;
  global_pages = s.global_pages + 1;
  held = map_set held_of s.holders g (record h { fills = with_fill h.fills GlobalRegion 0 }) i;
}
page_ground s g h (Numbered j) = λ i. record {
  heap = s.plain.memory.heap;
  variables = s.plain.memory.variables;
  owners = s.owners;
  regions = with_info s.regions j one_page_more;
  global_pages = s.global_pages;
  held = map_set held_of s.holders g (record h { fills = with_fill h.fills (Numbered j) 0 }) i;
}

reserved_ground : (s : RegionState) (g : ℕ) (h : Holder) (r : Region)
    → ground_of (taken_state s g (record h { reserved = h.reserved + 1 }) r) ≡ page_reserved (ground_of s) g (held_of h) r
reserved_ground s g h GlobalRegion = λ i. record {
  heap = s.plain.memory.heap;
  variables = s.plain.memory.variables;
  owners = s.owners;
  regions = s.regions;
  global_pages = s.global_pages + 1;
  held = map_set held_of s.holders g (record h { reserved = h.reserved + 1 }) i;
}
reserved_ground s g h (Numbered j) = λ i. record {
  heap = s.plain.memory.heap;
  variables = s.plain.memory.variables;
  owners = s.owners;
  regions = with_info s.regions j one_page_more;
  global_pages = s.global_pages;
  held = map_set held_of s.holders g (record h { reserved = h.reserved + 1 }) i;
}

pub reserved_page_keeps : ReservedPageKeeps
reserved_page_keeps code z words recs s t g p h r c all places k hold own m next same_slot e idle rests small free =
    image_of (ap ground_of (sym (page_done code z.page_words s t g h r hold m next.0 next.1 e))
    ∙ (ap (λ y. ground_of (taken_state s g y r)) (spread_page z.page_words h r next.0 next.2) ∙ reserved_ground s g h r))
    (page_reserves z words recs (ground_of s) places k (steady_of code s all) g c own (held_of h)
    (map_get held_of s.holders g h hold) r (makes_used code s g h r all hold m) p small free idle rests same_slot)

pub page_keeps : PageKeeps
page_keeps code z words recs s t g p h r c all places k hold own m next e idle rests small free =
    image_of (ap ground_of (sym (page_done code z.page_words s t g h r hold m next.0 next.1 e))
    ∙ (ap (λ y. ground_of (taken_state s g y r)) (own_page z.page_words h r next.0 next.2) ∙ page_ground s g h r))
    (page_claimed z words recs (ground_of s) places k (steady_of code s all) g c own (held_of h) (map_get held_of s.holders g h hold) r
    (makes_used code s g h r all hold m) p small free idle rests)
