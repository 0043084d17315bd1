-- Steps of the region machine that change no word of memory, and the start of a goroutine. Those at channels are among them, since
-- the words of channels are determined by the image of channels.
use Rattle.std.specs.Prelude.{◌≡◌, ℕ, true, List, [], ◌∷◌, ◌++◌, Some, slice_get, nat_eq}
use Rattle.std.specs.List.{list_any}
use Rattle.rgo_sound.specs.Code.Code.{Branch, Call, Code, CodeInstr, CodeOp, Do, Go, Jump, Print, Return}
use Rattle.rgo_sound.specs.Machine.declared.picks.Pick.TheVariants.{One, Meet}
use Rattle.rgo_sound.specs.RegionMachine.Duties.{guards}
use Rattle.rgo_sound.specs.RegionMachine.Machine.{Event, Instruct, Attend, TakePage, MakeOffer, Acknowledge, Finish, region_step}
use Rattle.rgo_sound.specs.RegionMachine.Owed.{current}
use Rattle.rgo_sound.specs.RegionMachine.Regions.{bound, unbind, removed_once}
use Rattle.rgo_sound.specs.RegionMachine.States.{Duty, Create, Share, Protect, Unprotect, Remove, EndBase, Holder, RegionState, top_names, with_top}
use Rattle.rgo_sound.specs.RegionMachine.declared.regions.Region.{Region}
use Rattle.rgo_sound.specs.RegionMachine.declared.regions.Region.TheVariants.{Global as GlobalRegion, Numbered}
use Rattle.rgo_sound.specs.Tac.Frames.{TacFrame}
use Rattle.rgo_core_memory.specs.declared.layout.TableSizes.{TableSizes}
use Rattle.rgo_core_memory.specs.Records.{Rec}
use Rattle.rgo_core_memory.specs.Opening.{first_record}
use Rattle.rgo_core_memory.specs.Image.{Where, StateImage}

-- A region that is Global, or that the goroutine protects: the end of a name then ends no stake.
abbrev pub Spared : Holder → Region → Type 0
Spared h GlobalRegion = Unit {0}
Spared h (Numbered j) = guards h.base h.environments (Numbered j) ≡ true

-- A region that is Global, or in which a stake is pending: the child needs no second one.
abbrev pub HasPending : Holder → Region → Type 0
HasPending h GlobalRegion = Unit {0}
HasPending h (Numbered j) = list_any (nat_eq j) h.pending ≡ true

-- a duty that changes no count
abbrev pub QuietDuty : Holder → Duty → Type 0
QuietDuty h (Create k) = ⊥
QuietDuty h (Share k) = (r : Region) × (bound (top_names h.environments) k ≡ Some r) × HasPending h r
QuietDuty h (Protect k) = Unit {0}
QuietDuty h (Unprotect k) = Unit {0}
QuietDuty h (Remove k) = (r : Region) × (bound (top_names h.environments) k ≡ Some r)
    × Spared (record h { environments = with_top h.environments (unbind (top_names h.environments) k) }) r
QuietDuty h (EndBase r) = Spared (record h { base = removed_once r h.base }) r

abbrev pub IsGo : CodeOp → Type 0
IsGo (Go n from passes removes) = Unit {0}
IsGo (Do to action from removes) = ⊥
IsGo (Call to n from passes protects removes) = ⊥
IsGo (Print pieces from removes) = ⊥
IsGo (Jump target removes) = ⊥
IsGo (Branch test target removes other otherwise) = ⊥
IsGo (Return value) = ⊥

-- the event changes no word of memory; t is the state after it
abbrev pub IsQuiet : Code → RegionState → RegionState → Event → Type 0
IsQuiet code s t (Instruct (One g)) = (t.plain.memory ≡ s.plain.memory)
    × ((frame : TacFrame) (callers : List TacFrame) (instr : CodeInstr)
    → slice_get s.plain.goroutines g ≡ Some (frame ∷ callers) → current code frame ≡ Some instr → IsGo instr.op → ⊥)
IsQuiet code s t (Instruct (Meet r u)) = Unit {0}
IsQuiet code s t (Attend g) = (h : Holder) (d : Duty) (ds : List Duty) → slice_get s.holders g ≡ Some h
    → h.duties ≡ d ∷ ds → QuietDuty h d
IsQuiet code s t (TakePage g) = ⊥
IsQuiet code s t (MakeOffer g) = Unit {0}
IsQuiet code s t (Acknowledge g) = Unit {0}
IsQuiet code s t (Finish limit) = Unit {0}

abbrev pub QuietKeeps : Type 0
QuietKeeps = (code : Code) (z : TableSizes) (words : List ℕ) (recs : List Rec) (s t : RegionState) (e : Event)
    (places : Where) → StateImage z words recs s places
    → region_step code z.page_words s e ≡ Some t → IsQuiet code s t e → StateImage z words recs t places

-- A goroutine starts, whose record has nothing of memory yet. Its stakes were shared before, and are now its own in the state: no count
-- changes with its start.
abbrev pub StartKeeps : Type 0
StartKeeps = (code : Code) (z : TableSizes) (words : List ℕ) (recs : List Rec) (s t : RegionState) (g : ℕ)
    (places : Where) → StateImage z words recs s places
    → region_step code z.page_words s (Instruct (One g)) ≡ Some t
    → (frame : TacFrame) (callers : List TacFrame) (instr : CodeInstr)
    → slice_get s.plain.goroutines g ≡ Some (frame ∷ callers) → current code frame ≡ Some instr
    → IsGo instr.op → t.plain.memory ≡ s.plain.memory → StateImage z words (recs ++ first_record ∷ []) t places
