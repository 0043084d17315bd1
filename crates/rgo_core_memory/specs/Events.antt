-- What the accesses to regions and pages keep, given the step of the region machine. Each of these steps is a single access, so the
-- words and the state change at the same moment.
use Rattle.std.specs.Prelude.{◌≡◌, ◌≢◌, ◌⊎◌, ℕ, suc, ◌+◌, ◌-◌, ◌<◌, Bool, false, true, List, [], ◌∷◌, length, Some, slice_get, slice_set, slice_index, nat_eq}
use Rattle.std.specs.List.{list_any}
use Rattle.rgo_sound.specs.Memory.Memory.{Object}
use Rattle.rgo_sound.specs.Code.Code.{Code, CodeInstr}
use Rattle.rgo_sound.specs.Tac.Frames.{TacFrame}
use Rattle.rgo_sound.specs.RegionMachine.Duties.{guards}
use Rattle.rgo_sound.specs.RegionMachine.Machine.{Attend, TakePage, next_object, region_step}
use Rattle.rgo_sound.specs.RegionMachine.Objects.{is_spread, making_region}
use Rattle.rgo_sound.specs.RegionMachine.Owed.{current, function_at}
use Rattle.rgo_sound.specs.RegionMachine.Regions.{bound, unbind, removed_once}
use Rattle.rgo_sound.specs.RegionMachine.States.{Duty, Create, Share, Remove, EndBase, Holder, RegionState, top_names, with_top}
use Rattle.rgo_sound.specs.RegionMachine.declared.regions.Region.{Region}
use Rattle.rgo_sound.specs.RegionMachine.declared.regions.Region.TheVariants.{Numbered}
use Rattle.rgo_sound.specs.Good.{AllGood}
use Rattle.rgo_core_memory.specs.declared.layout.TableSizes.{TableSizes}
use Rattle.rgo_core_memory.specs.Words.{put_at, state_at, count_at}
use Rattle.rgo_core_memory.specs.Records.{Fill, Rest, Amid, Idle, Calm, Owes, Rec, HasRecord, Claims, with_own_page, with_give, without_slot}
use Rattle.rgo_core_memory.specs.Parts.{slot_of, Living, Closing}
use Rattle.rgo_core_memory.specs.Ground.{ground_of, taken_of}
use Rattle.rgo_core_memory.specs.Pages.{Claimed}
use Rattle.rgo_core_memory.specs.Image.{Where, StateImage}
use Rattle.rgo_core_memory.specs.Records.{with_reserved}

-- A region is created at a slot that was found free. Its count becomes 2: one stake.
abbrev pub CreateKeeps : Type 0
CreateKeeps = (code : Code) (z : TableSizes) (words : List ℕ) (recs : List Rec) (s t : RegionState) (g name r : ℕ)
    (h : Holder) (ds : List Duty)
    → AllGood code s → (places : Where) → StateImage z words recs s places → slice_get s.holders g ≡ Some h
    → h.duties ≡ Create name ∷ ds
    → region_step code z.page_words s (Attend g) ≡ Some t → r < z.slots → slice_index words (count_at z r) ≡ 0
    → StateImage z (slice_set words (count_at z r) 2) recs t
    (record places { slot = put_at places.slot (length s.regions) r; uses = put_at places.uses r (Living (length s.regions)) })

-- A stake is taken for a goroutine that is about to start, by the one that starts it: the new one's first step might come after the
-- last stake of the others has ended. If one is pending already, no access is made.
abbrev pub ShareKeeps : Type 0
ShareKeeps = (code : Code) (z : TableSizes) (words : List ℕ) (recs : List Rec) (s t : RegionState) (g name j : ℕ)
    (h : Holder) (ds : List Duty)
    → (places : Where) → StateImage z words recs s places → slice_get s.holders g ≡ Some h → h.duties ≡ Share name ∷ ds
    → bound (top_names h.environments) name ≡ Some (Numbered j) → list_any (nat_eq j) h.pending ≡ false
    → region_step code z.page_words s (Attend g) ≡ Some t
    → StateImage z (slice_set words (count_at z (places.slot j)) (slice_index words (count_at z
    (places.slot j)) + 1)) recs t places

-- the goroutine's next duty ends its stake in this region
abbrev pub Leaves : Holder → ℕ → Type 0
Leaves h j =
    ((name : ℕ) × (ds : List Duty) × (h.duties ≡ Remove name ∷ ds)
    × (bound (top_names h.environments) name ≡ Some (Numbered j))
    × (guards h.base (with_top h.environments (unbind (top_names h.environments) name)) (Numbered j) ≡ false))
    ⊎ ((ds : List Duty) × (h.duties ≡ EndBase (Numbered j) ∷ ds)
    × (guards (removed_once (Numbered j) h.base) h.environments (Numbered j) ≡ false))

-- The record has no page being claimed for the slot, and no object being made there. Without this a page could be hung on a chain that
-- is being returned, or an object be made in a page that is free.
abbrev pub IsFreeOf : Rec → ℕ → Type 0
IsFreeOf c s = (Claims c.claim s → ⊥) × ((f : Fill) (object : Object) (stored : List ℕ)
    → c.make ≡ Amid f object stored → f.slot ≢ s)

-- A stake ends that was not the last. The goroutine's own page there stays on the chain, for whoever ends the last stake.
abbrev pub LeaveKeeps : Type 0
LeaveKeeps = (code : Code) (z : TableSizes) (words : List ℕ) (recs : List Rec) (s t : RegionState) (g j : ℕ)
    (h : Holder) (c : Rec)
    → AllGood code s → (places : Where) → StateImage z words recs s places → slice_get s.holders g ≡ Some h → HasRecord recs g c
    → Leaves h j
    → region_step code z.page_words s (Attend g) ≡ Some t → IsFreeOf c (places.slot j)
    → c.reserved.pages ≡ [] → slice_index words (count_at z (places.slot j)) ≢ 2
    → StateImage z (slice_set words (count_at z (places.slot j)) (slice_index words (count_at z (places.slot j)) - 1))
    (slice_set recs g (without_slot c (places.slot j))) t places

-- The last one ends: the region is removed, and its chain is to be returned. Only one goroutine can find 2, so only one returns it. It
-- must not be returning another one, since its record has room for one.
abbrev pub LastLeaveKeeps : Type 0
LastLeaveKeeps = (code : Code) (z : TableSizes) (words : List ℕ) (recs : List Rec) (s t : RegionState) (g j : ℕ)
    (h : Holder) (c : Rec)
    → AllGood code s → (places : Where) → StateImage z words recs s places → slice_get s.holders g ≡ Some h → HasRecord recs g c
    → Leaves h j
    → region_step code z.page_words s (Attend g) ≡ Some t → IsFreeOf c (places.slot j) → c.reserved.pages ≡ []
    → c.give ≡ Calm
    → slice_index words (count_at z (places.slot j)) ≡ 2
    → StateImage z (slice_set words (count_at z (places.slot j)) (slice_index words (count_at z (places.slot j)) - 1))
    (slice_set recs g (with_give (without_slot c (places.slot j)) (Owes (places.slot j)))) t
    (record places { uses = put_at places.uses (places.slot j) (Closing g) })

-- the goroutine's next instruction makes an object in this region
abbrev pub NextMakesObjectIn : Code → RegionState → ℕ → Holder → Region → Type 0
NextMakesObjectIn code s g h r = (frame : TacFrame) × (callers : List TacFrame) × (instr : CodeInstr)
    × (slice_get s.plain.goroutines g ≡ Some (frame ∷ callers))
    × (current code frame ≡ Some instr)
    × (making_region (function_at code frame) (top_names h.environments) instr.op ≡ Some r)

-- the goroutine's next instruction makes an object that is spread, or one that is not
abbrev pub NextIsSpread : Code → ℕ → RegionState → ℕ → Bool → Type 0
NextIsSpread code page_words s g b = (object : Object) × (next_object code s g ≡ Some object)
    × (is_spread page_words object ≡ b)

-- a page that was found free is claimed, as an own page
abbrev pub PageKeeps : Type 0
PageKeeps = (code : Code) (z : TableSizes) (words : List ℕ) (recs : List Rec) (s t : RegionState) (g p : ℕ)
    (h : Holder) (r : Region) (c : Rec)
    → AllGood code s → (places : Where) → StateImage z words recs s places → slice_get s.holders g ≡ Some h → HasRecord recs g c
    → NextMakesObjectIn code s g h r → NextIsSpread code z.page_words s g false
    → region_step code z.page_words s (TakePage g) ≡ Some t → c.claim ≡ Idle → c.make ≡ Rest → p < z.pages
    → slice_index words (state_at z p) ≡ 0
    → StateImage z (slice_set words (state_at z p) (suc (slot_of z places.slot r))) (slice_set recs g (with_own_page c p
    (slot_of z places.slot r))) t
    (record places { at = put_at places.at p (Claimed g); page = put_at places.page (taken_of (ground_of s)) p })

-- the same for a spread object
abbrev pub ReservedPageKeeps : Type 0
ReservedPageKeeps = (code : Code) (z : TableSizes) (words : List ℕ) (recs : List Rec) (s t : RegionState) (g p : ℕ)
    (h : Holder) (r : Region) (c : Rec)
    → AllGood code s → (places : Where) → StateImage z words recs s places → slice_get s.holders g ≡ Some h → HasRecord recs g c
    → NextMakesObjectIn code s g h r → NextIsSpread code z.page_words s g true
    → (0 < length c.reserved.pages → c.reserved.slot ≡ slot_of z places.slot r)
    → region_step code z.page_words s (TakePage g) ≡ Some t → c.claim ≡ Idle → c.make ≡ Rest → p < z.pages
    → slice_index words (state_at z p) ≡ 0
    → StateImage z (slice_set words (state_at z p) (suc (slot_of z places.slot r))) (slice_set recs g (with_reserved c p
    (slot_of z places.slot r))) t
    (record places { at = put_at places.at p (Claimed g); page = put_at places.page (taken_of (ground_of s)) p })
