-- What an instruction leaves of a goroutine's frames: moves along an edge, and returns. A return adds the ends of the call's
-- protections before the removals. When these have been done no protection is left (`ready_unprotects`), and without that a removal
-- would not be ready.
use Rattle.std.proofs.Common.{◌≡◌, ◌≢◌, ℕ, ◌+◌, ◌≤◌, Bool, true, false, List, [], ◌∷◌, ◌++◌, map, Option, Some, None}
use Rattle.std.proofs.Common.{refl, sym, ap, ◌∙◌, subst, if◌then◌else◌, arith, ◌⊎◌, inl, inr, true≢false, Contains}
use Rattle.std.proofs.Common.{append_assoc, append-nil}
use Rattle.rgo_sound.proofs.Places.{contains_here, contains_there, stands_or_not}
use Rattle.rgo_sound.proofs.Tests.{split, eq_of}
use Rattle.rgo_sound.proofs.names.Core.{core_popped}
use Rattle.rgo_sound.proofs.names.Edges.{Kept, arrives, asked_names, is_named, not_named}
use Rattle.rgo_sound.proofs.names.Pending.{HasNoShare, removes_share_none, behind_call_share_none, ends_share_none}
use Rattle.rgo_sound.proofs.names.Pending.{shares_front, shares_next, none_pending}
use Rattle.rgo_sound.proofs.duties.Attends.{same_reflexive, lent_names}
use Rattle.rgo_code.specs.Code.{Call, Code, CodeFn, CodeInstr, CodeOp, Return}
use Rattle.rgo_code.specs.NameRules.{ReturnsHoldNothing, protected_names}
use Rattle.rgo_code.specs.Names.{LeavesToCallee, IsOwn, UsesRegionName, edges, is_class_named, result_class}
use Rattle.rgo_region_machine.specs.Owed.{current, current_in, duties_before, function_at}
use Rattle.rgo_region_machine.specs.Regions.{Bindings, bound, removed_once, same_region}
use Rattle.rgo_region_machine.specs.States.{Duty, EndBase, RegionEnvironment, Holder, Remove, Unprotect}
use Rattle.rgo_region_machine.specs.declared.regions.Region.{Region}
use Rattle.rgo_region_machine.specs.declared.regions.Region.TheVariants.{Global as GlobalRegion, Numbered}
use Rattle.rgo_sound.specs.Core.{NameInvariant}
use Rattle.rgo_sound.specs.Invariant.{AllWait, AreProtections, EachOnce, GoodHolder, HasInstr, IsFree, IsReady, Left}
use Rattle.rgo_sound.specs.Invariant.{Settled, Shares, bound_times, same_bound, shared_before, shared_names, times}
use Rattle.rgo_sound.specs.Invariant.{to_share}
use Rattle.rgo_sound.specs.Stakes.{one_when}
use Rattle.rgo_tac.specs.Frames.{TacFrame}
use Rattle.rgo_tac.specs.declared.regions.Class.{Class}

-- ---- protections by number

-- a list of protections in which no region is counted is empty
none_left : (protections : List Region) → ((r : Region) → times r protections ≡ 0) → protections ≡ []
none_left [] n = refl
none_left (s ∷ ss) n = let a = n s in let b : one_when (same_region s s) ≡ 1 = ap one_when (same_reflexive s) in
    absurd (omega (arith, a, b))

pub same_regions : (r s : Region) → same_region r s ≡ true → r ≡ s
same_regions GlobalRegion GlobalRegion e = refl
same_regions GlobalRegion (Numbered s) e = cc
same_regions (Numbered r) GlobalRegion e = cc
same_regions (Numbered r) (Numbered s) e = ap Numbered (eq_of r s e)

-- one less of q, if there is one
pub times_removed : (r q : Region) (protections : List Region) → 1 ≤ times q protections
    → times r (removed_once q protections) + one_when (same_region r q) ≡ times r protections
times_removed r q [] h = absurd (omega (arith, h))
times_removed r q (s ∷ ss) h = go (same_region q s) refl (λ l. times_removed r q ss l)
  where
    go : (b : Bool) → same_region q s ≡ b → (1 ≤ times q ss → times r (removed_once q ss) + one_when (same_region r q)
        ≡ times r ss) → times r (if b then ss else s ∷ removed_once q ss) + one_when (same_region r q)
        ≡ one_when (same_region r s) + times r ss
    go true t next = let e : one_when (same_region r q) ≡ one_when (same_region r s) =
        ap (λ x. one_when (same_region r x)) (same_regions q s t) in omega (arith, e)
    go false n next =
        let z : one_when (same_region q s) ≡ 0 = ap one_when n in
        let k = next (omega (arith, h, z)) in
        omega (arith, k)

-- ---- protections end after a call

-- the protections of the names ks end one after the other, and leave none
ready_unprotects : (Own : ℕ → Type 0) (Then : Bindings → List Region → Type 0) (ks : List ℕ) (duties : List Duty)
    (names : Bindings) (protections : List Region) → ((k : ℕ) → Contains ks k → bound names k ≢ None)
    → AreProtections protections names ks → IsReady Own Then duties names []
    → IsReady Own Then (map Unprotect ks ++ duties) names protections
ready_unprotects Own Then [] duties names protections h fit next =
    subst (λ x. IsReady Own Then duties names x) (sym (none_left protections fit)) next
ready_unprotects Own Then (k ∷ ks) duties names protections h fit next = (
  h k (contains_here k ks),
  λ q e. ready_unprotects Own Then ks duties names (removed_once q protections)
      (λ j c. h j (contains_there k ks j c)) (λ r. fewer q e r) next,
)
  where
    fewer : (q : Region) → bound names k ≡ Some q → (r : Region) → times r (removed_once q protections)
        ≡ bound_times r names ks
    fewer q e r =
        let a = fit r in
        let a' = fit q in
        let b : one_when (same_bound r (bound names k)) ≡ one_when (same_region r q) =
        ap (λ x. one_when (same_bound r x)) e in
        let b' : one_when (same_bound q (bound names k)) ≡ 1 =
        ap (λ x. one_when (same_bound q x)) e ∙ ap one_when (same_reflexive q) in
        let t = times_removed r q protections (omega (arith, a', b')) in
        omega (arith, a, b, t)

-- what is owed before the next instruction shares what that instruction passes
pub owed : (code : Code) (frame : TacFrame) (callers : List TacFrame) (next : CodeInstr) (front : List Duty)
    → HasNoShare front → (names : Bindings) (pending : List ℕ) (fn : CodeFn) → function_at code frame ≡ Some fn
    → HasInstr fn frame.next next → pending ≡ [] → Shares (to_share code (frame ∷ callers))
    (front ++ duties_before (Some next)) names pending
owed code frame callers next front n names pending fn is here none =
    let cur : current code frame ≡ Some next = ap (λ o. current_in o frame.next) is ∙ here in
    subst (λ x. Shares (to_share code (frame ∷ callers)) (front ++ duties_before (Some next)) names x) (sym none)
    (subst (λ o. Shares (to_share code (frame ∷ callers)) (front ++ duties_before o) names []) cur
    (shares_next code (frame ∷ callers) front n names))

-- before an instruction that shares nothing, nothing is pending
pub settled_pending : (code : Code) (frame : TacFrame) (callers : List TacFrame) (instr : CodeInstr) (names : Bindings)
    (duties : List Duty) (pending : List ℕ) → current code frame ≡ Some instr → shared_names instr.op ≡ [] → duties ≡ []
    → Shares (to_share code (frame ∷ callers)) duties names pending → pending ≡ []
settled_pending code frame callers instr names duties pending cur none d sh =
    none_pending names pending (subst (λ x. Shares x [] names pending) (ap shared_before cur ∙ none)
    (subst (λ x. Shares (to_share code (frame ∷ callers)) x names pending) d sh))

-- ---- along an edge, after an instruction that is not a call

-- an instruction that gives no name away leaves the names as they were
settled_left : (code : Code) (fn : CodeFn) (i : ℕ) (instr : CodeInstr) (names : Bindings) (protections : List Region)
    → ((k : ℕ) → ¬ (LeavesToCallee code instr.op k)) → Settled fn i instr names protections → Left code fn i instr names
settled_left code fn i instr names protections n s = record {
  there = λ k h g. s.there k h;
  made = λ k c g. s.made k c;
  gone = s.gone;
  given = λ k g. absurd (n k g);
  lent =
      s.lent;
}

-- an instruction along an edge: what is owed on it is removed, and then what the next instruction asks for is done
pub moves_on : (code : Code) (fn : CodeFn) (frame frame' : TacFrame) (callers : List TacFrame) (instr next : CodeInstr)
    (removes : List ℕ) (h : Holder) (f : RegionEnvironment) (fs : List RegionEnvironment) →
    function_at code frame ≡ Some fn → Kept code fn frame.next instr → function_at code frame' ≡ Some fn
    → Kept code fn frame'.next next →
    Contains (edges instr.op frame.next) (frame'.next, removes) → ((k : ℕ) → ¬ (LeavesToCallee code instr.op k))
    → protected_names instr.op ≡ [] →
    NameInvariant h.stakes h.base (f ∷ fs) → EachOnce h.base → f.lent ≡ result_class fn
    → Settled fn frame.next instr f.names f.protections → AllWait code callers fs → h.pending ≡ [] →
    GoodHolder code (frame' ∷ callers) (record h {
      environments = f ∷ fs;
      duties =
          map Remove removes ++ duties_before (Some next);
    })
moves_on code fn frame frame' callers instr next removes h f fs is a is' b c g p core once lends s w none_left' =
    record {
      core = core;
      fit = (record { fn = fn; is_fn = is'; instr = next; is_instr = b.here; lends = lends; ready = ready }, w);
      base_once = once;
      shares = owed code frame' callers next (map Remove removes) (removes_share_none removes) f.names h.pending fn is'
          b.here none_left';
    }
  where
    none : f.protections ≡ []
    none = none_left f.protections (λ r. s.protections_fit r ∙ ap (bound_times r f.names) p)

    ready : IsReady (IsFree fn frame'.next) (Settled fn frame'.next next)
        (map Remove removes ++ duties_before (Some next)) f.names f.protections
    ready = subst (λ x. IsReady (IsFree fn frame'.next) (Settled fn frame'.next next)
        (map Remove removes ++ duties_before (Some next)) f.names x) (sym none)
        (arrives code fn frame.next frame'.next instr next removes f.names a c b
        (settled_left code fn frame.next instr f.names f.protections g s))

-- ---- a return

-- a name that a call uses is bound after it, unless it was given
left_named : (code : Code) (fn : CodeFn) (i k : ℕ) (instr : CodeInstr) (names : Bindings) → Kept code fn i instr
    → Left code fn i instr names → ¬ (LeavesToCallee code instr.op k) → UsesRegionName fn instr.op k → bound names k ≢ None
left_named code fn i k instr names a l g n e = split (is_class_named k (result_class fn))
    (λ t. l.lent k (is_named k (result_class fn) t) e) (λ f.
    own (not_named k (result_class fn) f) (stands_or_not instr.creates k))
  where
    own : IsOwn fn k → Contains instr.creates k ⊎ (¬ (Contains instr.creates k)) → ⊥
    own o (inl c) = l.made k c g e
    own o (inr m) = m ((a.creates k).1 (o, n, (λ h. l.there k h g e)))

-- a return to a caller: the protections of its call end, and then the caller continues along the call's edge
pub returns_on : (code : Code) (fn caller_fn : CodeFn) (frame caller caller' : TacFrame) (callers : List TacFrame)
    (instr call next : CodeInstr) (value : Option ℕ) (to : Option ℕ) (n : ℕ) (from : List ℕ) (passes : List Class)
    (protects removes : List ℕ) (h : Holder) (f d : RegionEnvironment) (fs : List RegionEnvironment) →
    instr.op ≡ Return value → ReturnsHoldNothing fn frame.next instr (Return value) →
    call.op ≡ Call to n from passes protects removes → Kept code caller_fn caller.next call → function_at code caller'
    ≡ Some caller_fn → Kept code caller_fn caller'.next next → caller'.next ≡ caller.next + 1 →
    NameInvariant h.stakes h.base (f ∷ d ∷ fs) → EachOnce h.base → f.lent ≡ result_class fn
    → Settled fn frame.next instr f.names f.protections →
    d.lent ≡ result_class caller_fn → Left code caller_fn caller.next call d.names
    → AreProtections d.protections d.names (protected_names call.op) → AllWait code callers fs → h.pending ≡ [] →
    GoodHolder code (caller' ∷ callers) (record h {
      environments = d ∷ fs;
      duties =
          (map Unprotect protects ++ map Remove removes) ++ duties_before (Some next);
    })
returns_on code fn caller_fn frame caller caller' callers instr call next value to n from passes protects removes h f d
    fs is empty is_call a is' b step core once lends s dl l fit w none_left' =
    record {
      core = core_popped h.stakes h.base f (d ∷ fs) (λ k m.
          s.gone k (λ r. true≢false (sym m ∙ lent_names f.lent k (lends ∙ r))) (empty.holds k) (λ c. none_created k c))
          core;
      fit = (record { fn = caller_fn; is_fn = is'; instr = next; is_instr = b.here; lends = dl; ready = ready }, w);
      base_once = once;
      shares = owed code caller' callers next (map Unprotect protects ++ map Remove removes)
          (behind_call_share_none protects removes) d.names h.pending caller_fn is' b.here none_left';
    }
  where
    none_created : (k : ℕ) → Contains instr.creates k → ⊥
    none_created k c = let x : Contains [] k = subst (λ y. Contains y k) empty.creates c in omega (arith, x.1)

    edge : Contains {X = ℕ × List ℕ} (edges call.op caller.next) (caller'.next, removes)
    edge =
        subst (λ (x : ℕ). Contains {X = ℕ × List ℕ} (edges call.op caller.next) (x, removes)) (sym step)
        (subst (λ (x : CodeOp). Contains {X = ℕ × List ℕ} (edges x caller.next) (caller.next + 1, removes))
        (sym is_call) (contains_here {X = ℕ × List ℕ} (caller.next + 1, removes) []))

    not_given : (k : ℕ) → Contains protects k → ¬ (LeavesToCallee code call.op k)
    not_given k c g = let x : LeavesToCallee code (Call to n from passes protects removes) k =
        subst (λ o. LeavesToCallee code o k) is_call g in x.1 c

    there : (k : ℕ) → Contains protects k → bound d.names k ≢ None
    there k c = left_named code caller_fn caller.next k call d.names a l (not_given k c)
        (a.asked k (subst (λ o. Contains (asked_names o) k) (sym is_call) c))

    ready : IsReady (IsFree caller_fn caller'.next) (Settled caller_fn caller'.next next)
        ((map Unprotect protects ++ map Remove removes) ++ duties_before (Some next)) d.names d.protections
    ready =
        subst (λ x. IsReady (IsFree caller_fn caller'.next) (Settled caller_fn caller'.next next) x d.names
        d.protections) (sym (append_assoc (map Unprotect protects) (map Remove removes)
        (duties_before (Some next))))
        (ready_unprotects (IsFree caller_fn caller'.next) (Settled caller_fn caller'.next next) protects
        (map Remove removes ++ duties_before (Some next)) d.names d.protections there
        (λ r. fit r ∙ ap (λ o. bound_times r d.names (protected_names o)) is_call)
        (arrives code caller_fn caller.next caller'.next call next removes d.names a edge b l))

-- the return of a goroutine's last frame: its base is left to end
pub returns_last : (code : Code) (fn : CodeFn) (frame : TacFrame) (instr : CodeInstr) (value : Option ℕ) (h : Holder)
    (f : RegionEnvironment) →
    ReturnsHoldNothing fn frame.next instr (Return value) → NameInvariant h.stakes h.base (f ∷ []) → EachOnce h.base → f.lent
    ≡ result_class fn → Settled fn frame.next instr f.names f.protections → h.pending ≡ [] →
    GoodHolder code [] (record h { environments = []; duties = map EndBase h.base })
returns_last code fn frame instr value h f empty core once lends s none_left' =
    record {
      core = core_popped h.stakes h.base f [] (λ k m. s.gone k
          (λ r. true≢false (sym m ∙ lent_names f.lent k (lends ∙ r))) (empty.holds k) (λ c. none_created k c)) core;
      fit = refl;
      base_once = once;
      shares = subst (λ x. Shares [] (map EndBase h.base) [] x) (sym none_left')
          (subst (λ x. Shares [] x [] []) (append-nil (map EndBase h.base))
          (shares_front [] (map EndBase h.base) [] [] (ends_share_none h.base) (λ names r. refl) []));
    }
  where
    none_created : (k : ℕ) → Contains instr.creates k → ⊥
    none_created k c = let x : Contains [] k = subst (λ y. Contains y k) empty.creates c in omega (arith, x.1)
