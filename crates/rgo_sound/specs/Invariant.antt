-- The invariant of region runs of checked code: what each goroutine's frames and duties say of its names. `safety` alone is no
-- invariant: that a removal hits the last name depends on which names the rules of the code allow at each instruction. So each frame
-- is tied to its place in the code here. The parts are explained in PROOF.md, section "The invariant".
use Rattle.std.specs.List.{list_any}
use Rattle.std.specs.Prelude.{Bool, Contains, List, None, Option, Some, [], false, if◌then◌else◌, length, map, nat_eq}
use Rattle.std.specs.Prelude.{slice_get, suc, true, zero, ℕ, ◌+◌, ◌<◌, ◌∷◌, ◌≡◌, ◌≢◌}
use Rattle.rgo_code.specs.Code.{Call, Code, CodeFn, CodeInstr, CodeOp, Go, Do, Print, Jump, Branch, Return}
use Rattle.rgo_code.specs.NameRules.{protected_names}
use Rattle.rgo_code.specs.Names.{LeavesToCallee, Holds, IsOwn, result_class}
use Rattle.rgo_region_machine.specs.Owed.{current, function_at, regions_named}
use Rattle.rgo_region_machine.specs.Regions.{Bindings, RegionInfo, bound, removed_once, same_region, unbind}
use Rattle.rgo_region_machine.specs.States.{Create, Duty, EndBase, RegionEnvironment, Holder, Protect, RegionState, Remove}
use Rattle.rgo_region_machine.specs.States.{Share, Unprotect, frames_of, top_names}
use Rattle.rgo_region_machine.specs.declared.regions.Region.{Region}
use Rattle.rgo_region_machine.specs.declared.regions.Region.TheVariants.{Global as GlobalRegion, Numbered}
use Rattle.rgo_sound.specs.Core.{NameInvariant}
use Rattle.rgo_sound.specs.Stakes.{holders_of, is_in, one_when, pending_of, times_in}
use Rattle.rgo_tac.specs.Frames.{TacFrame}
use Rattle.rgo_tac.specs.declared.regions.Class.TheVariants.{Name}

-- instruction i of a function
abbrev pub HasInstr : CodeFn → ℕ → CodeInstr → Type 0
HasInstr fn i instr = slice_get fn.body i ≡ Some instr

-- ---- protections by number

-- how often a region is in a list of protections
abbrev pub times : Region → List Region → ℕ
times r [] = 0
times r (s ∷ ss) = one_when (same_region r s) + times r ss

abbrev pub same_bound : Region → Option Region → Bool
same_bound r None = false
same_bound r (Some s) = same_region r s

-- how many of these names denote r
abbrev pub bound_times : Region → Bindings → List ℕ → ℕ
bound_times r names [] = 0
bound_times r names (k ∷ ks) = one_when (same_bound r (bound names k)) + bound_times r names ks

-- Each region is protected as often as one of these names denotes it. By count, and not by order: the protections end by name, in an
-- order that need not be that in which they began.
abbrev pub AreProtections : List Region → Bindings → List ℕ → Type 0
AreProtections protections names ks = (r : Region) → times r protections ≡ bound_times r names ks

-- ---- a frame before its next instruction, when nothing is owed

-- Exactly the names that are held before the instruction, created by it, or lent are bound. `gone` is as important as the rest: a
-- name that is bound beyond its life would be a second holding name, and the removal of the other one would find it.
pub record Settled (fn : CodeFn) (i : ℕ) (instr : CodeInstr) (names : Bindings) (protections : List Region) : Type 0
  where
    pub there : (k : ℕ) → Holds fn k i → bound names k ≢ None
    pub made : (k : ℕ) → Contains instr.creates k → bound names k ≢ None
    pub gone : (k : ℕ) → IsOwn fn k → ¬ (Holds fn k i) → ¬ (Contains instr.creates k) → bound names k ≡ None
    pub lent : (k : ℕ) → result_class fn ≡ Name k → bound names k ≢ None
    pub protections_fit : AreProtections protections names (protected_names instr.op)

-- Which names are bound after an instruction, before its removals: not those that a call gave to its callee. A caller waits in
-- this state as long as its callee runs, so it speaks of the call's instruction, and not of the one after it.
pub record Left (code : Code) (fn : CodeFn) (i : ℕ) (instr : CodeInstr) (names : Bindings) : Type 0 where
  pub there : (k : ℕ) → Holds fn k i → ¬ (LeavesToCallee code instr.op k) → bound names k ≢ None
  pub made : (k : ℕ) → Contains instr.creates k → ¬ (LeavesToCallee code instr.op k) → bound names k ≢ None
  pub gone : (k : ℕ) → IsOwn fn k → ¬ (Holds fn k i) → ¬ (Contains instr.creates k) → bound names k ≡ None
  pub given : (k : ℕ) → LeavesToCallee code instr.op k → bound names k ≡ None
  pub lent : (k : ℕ) → result_class fn ≡ Name k → bound names k ≢ None

-- ---- duties

-- What is created or removed on the way to an instruction is an own name and not held before it, so no live variable has it as class.
abbrev pub IsFree : CodeFn → ℕ → ℕ → Type 0
IsFree fn i k = IsOwn fn k × (¬ (Holds fn k i))

-- Each duty can be done in its turn, and after the last of them `Then` holds. By recursion over the duties, so that the step of a
-- duty keeps it by definition; it has to be proved only where duties are added. The region of a creation is any number, since what
-- other goroutines create in between decides it. A removal wants no protection in its own frame: under one it would do nothing, and
-- the name would be lost while its stake stayed. The end of a base is not a duty of a goroutine that has frames.
abbrev pub IsReady : (ℕ → Type 0) → (Bindings → List Region → Type 0) → List Duty → Bindings → List Region → Type 0
IsReady Free Then [] names protections = Then names protections
IsReady Free Then (Create k ∷ duties) names protections =
    (bound names k ≡ None) × Free k × ((r : ℕ) → IsReady Free Then duties ((k, Numbered r) ∷ unbind names k)
    protections)
IsReady Free Then (Remove k ∷ duties) names protections =
    (protections ≡ []) × (bound names k ≢ None) × Free k × IsReady Free Then duties (unbind names k) protections
IsReady Free Then (Share k ∷ duties) names protections =
    (bound names k ≢ None) × IsReady Free Then duties names protections
IsReady Free Then (Protect k ∷ duties) names protections =
    (bound names k ≢ None) × ((r : Region) → bound names k ≡ Some r → IsReady Free Then duties names (r ∷ protections))
IsReady Free Then (Unprotect k ∷ duties) names protections =
    (bound names k ≢ None) × ((r : Region) → bound names k ≡ Some r
    → IsReady Free Then duties names (removed_once r protections))
IsReady Free Then (EndBase r ∷ duties) names protections = ⊥

-- ---- stakes for a child

abbrev pub at_most_one : ℕ → ℕ
at_most_one zero = 0
at_most_one (suc n) = 1

-- each region that one of the names denotes is pending, once, and no other is: two names of one region share a stake
abbrev pub ArePending : List ℕ → Bindings → List ℕ → Type 0
ArePending pending names ks = (r : ℕ) → times_in r pending ≡ at_most_one (bound_times (Numbered r) names ks)

-- what a share adds: nothing for Global, nor for a region that is already pending
abbrev pub with_pending : Region → List ℕ → List ℕ
with_pending GlobalRegion pending = pending
with_pending (Numbered r) pending = if list_any (nat_eq r) pending then pending else r ∷ pending

-- After these duties the regions of the names ks are pending. It runs over all duties beside `IsReady`, since a creation before the
-- shares may bind a name that is shared.
abbrev pub Shares : List ℕ → List Duty → Bindings → List ℕ → Type 0
Shares ks [] names pending = ArePending pending names ks
Shares ks (Create k ∷ duties) names pending = (r : ℕ) → Shares ks duties ((k, Numbered r) ∷ unbind names k) pending
Shares ks (Remove k ∷ duties) names pending = Shares ks duties (unbind names k) pending
Shares ks (Share k ∷ duties) names pending = (r : Region) → bound names k ≡ Some r
    → Shares ks duties names (with_pending r pending)
Shares ks (Protect k ∷ duties) names pending = Shares ks duties names pending
Shares ks (Unprotect k ∷ duties) names pending = Shares ks duties names pending
Shares ks (EndBase r ∷ duties) names pending = Shares ks duties names pending

-- the names that are shared before an instruction
abbrev pub shared_names : CodeOp → List ℕ
shared_names (Go n from passes removes) = regions_named passes
shared_names (Do to action from removes) = []
shared_names (Call to n from passes protects removes) = []
shared_names (Print pieces from removes) = []
shared_names (Jump target removes) = []
shared_names (Branch test target removes other otherwise) = []
shared_names (Return value) = []

abbrev pub shared_before : Option CodeInstr → List ℕ
shared_before None = []
shared_before (Some instr) = shared_names instr.op

-- the names that a goroutine shares before its instruction
abbrev pub to_share : Code → List TacFrame → List ℕ
to_share code [] = []
to_share code (frame ∷ callers) = shared_before (current code frame)

-- ---- one goroutine

-- the newest frame: its duties can be done, and after them its names are those that its next instruction needs
pub record Stands (code : Code) (frame : TacFrame) (f : RegionEnvironment) (duties : List Duty) : Type 0 where
  pub fn : CodeFn
  pub is_fn : function_at code frame ≡ Some fn
  pub instr : CodeInstr
  pub is_instr : HasInstr fn frame.next instr
  pub lends : f.lent ≡ result_class fn
  pub ready : IsReady (IsFree fn frame.next) (Settled fn frame.next instr) duties f.names f.protections

abbrev pub IsCall : CodeOp → Type 0
IsCall (Call to n from passes protects removes) = Unit {0}
IsCall (Do to action from removes) = ⊥
IsCall (Go n from passes removes) = ⊥
IsCall (Print pieces from removes) = ⊥
IsCall (Jump target removes) = ⊥
IsCall (Branch test target removes other otherwise) = ⊥
IsCall (Return value) = ⊥

-- a caller: its next instruction is the call, it has what it did not give, and its protections are those of the call
pub record Waits (code : Code) (frame : TacFrame) (f : RegionEnvironment) : Type 0 where
  pub fn : CodeFn
  pub is_fn : function_at code frame ≡ Some fn
  pub instr : CodeInstr
  pub is_instr : HasInstr fn frame.next instr
  pub lends : f.lent ≡ result_class fn
  pub calls : IsCall instr.op
  pub left : Left code fn frame.next instr f.names
  pub protections_fit : AreProtections f.protections f.names (protected_names instr.op)

abbrev pub AllWait : Code → List TacFrame → List RegionEnvironment → Type 0
AllWait code [] [] = Unit {0}
AllWait code (frame ∷ frames) (f ∷ fs) = Waits code frame f × AllWait code frames fs
AllWait code _ _ = ⊥

-- What a goroutine's frames, environments, base and duties say of each other. Only the newest frame owes anything; when no frame is
-- left, the goroutine owes the ends of its base and nothing else, so after them it has no stake.
abbrev pub FramesFit : Code → List Region → List TacFrame → List RegionEnvironment → List Duty → Type 0
FramesFit code base [] [] duties = duties ≡ map EndBase base
FramesFit code base (frame ∷ callers) (f ∷ fs) duties = Stands code frame f duties × AllWait code callers fs
FramesFit code base _ _ duties = ⊥

abbrev pub EachOnce : List Region → Type 0
EachOnce [] = Unit {0}
EachOnce (r ∷ rs) = (list_any (same_region r) rs ≡ false) × EachOnce rs

-- What holds of each goroutine. `core` counts names without the code, `fit` ties them to the code; neither implies the other.
pub record GoodHolder (code : Code) (frames : List TacFrame) (h : Holder) : Type 0 where
  pub core : NameInvariant h.stakes h.base h.environments
  pub fit : FramesFit code h.base frames h.environments h.duties
  pub base_once : EachOnce h.base
  pub shares : Shares (to_share code frames) h.duties (top_names h.environments) h.pending

-- ---- a state

-- What holds of each state: its goroutines, and the counts of stakes, which are the only thing that goroutines share here.
pub record Fine (code : Code) (s : RegionState) : Type 0 where
  pub as_many : length s.holders ≡ length s.plain.goroutines
  pub each : (g : ℕ) (h : Holder) → slice_get s.holders g ≡ Some h → GoodHolder code (frames_of s.plain g) h
  -- the number of a region's stakes is that of the goroutines that have one, and of the pending ones
  pub counted : (r : ℕ) (info : RegionInfo) → slice_get s.regions r ≡ Some info → info.stakes
      ≡ holders_of s r + pending_of s r
  pub made : (g : ℕ) (h : Holder) (r : ℕ) → slice_get s.holders g ≡ Some h → is_in r h.stakes ≡ true
      → r < length s.regions
  pub pended : (g : ℕ) (h : Holder) (r : ℕ) → slice_get s.holders g ≡ Some h → 0 < times_in r h.pending
      → r < length s.regions
