-- An instruction of one goroutine that neither calls, starts nor returns keeps what holds of the state. It changes no name, no stake
-- and no region by itself: it only adds duties. So all that has to be shown is that those can be done along the edge that it takes
-- (`frame_goes`).
use Rattle.std.proofs.Common.{◌≡◌, ℕ, ◌+◌, ◌<◌, Bool, true, false, List, [], ◌∷◌, ◌++◌, map, length, Option, Some, None}
use Rattle.std.proofs.Common.{refl, sym, ap, ◌∙◌, subst, nat_eq, arith, if◌then◌else◌, ◌⊎◌, inl, inr, slice_get}
use Rattle.std.proofs.Common.{slice_set, option_map, Contains, append-nil}
use Rattle.std.proofs.lemmas.Option.{same_Some}
use Rattle.rgo_sound.proofs.names.Edges.{standing_instr, standing_settled, Kept}
use Rattle.rgo_sound.proofs.steps.Acting.{no_end, after, Acted, act, act_at, alone, effected, end_by, performed, trap_place}
use Rattle.rgo_sound.proofs.Places.{contains_here, contains_there, get_set_other, get_set_same, length_set}
use Rattle.rgo_sound.proofs.Tests.{split, eq_of}
use Rattle.rgo_sound.proofs.duties.Attends.{total_set}
use Rattle.rgo_sound.proofs.steps.OneStep.{SameHolder, none_owed, after_simple, OneDone, current_erased, IsSimple}
use Rattle.rgo_sound.proofs.duties.Moves.{moves_on, settled_pending}
use Rattle.rgo_code.specs.Code.{Branch, Call, Code, CodeFn, CodeInstr, CodeOp, Do, Go, Jump, Print, Return}
use Rattle.rgo_code.specs.Erasure.{erased, erased_instr, erased_op}
use Rattle.rgo_code.specs.NameRules.{protected_names}
use Rattle.rgo_code.specs.Names.{LeavesToCallee, edges}
use Rattle.rgo_machine.specs.Actions.{is_true}
use Rattle.rgo_machine.specs.declared.picks.End.TheVariants as the_end
use Rattle.rgo_memory.specs.Effects.{Does, Effect, Traps}
use Rattle.rgo_memory.specs.Memory.{Memory}
use Rattle.rgo_memory.specs.declared.traps.Trap.{Trap}
use Rattle.rgo_region_machine.specs.Instructions.{child_holder, has_none, holder_after, instructed_with, last_frames}
use Rattle.rgo_region_machine.specs.Instructions.{unless_trapped}
use Rattle.rgo_region_machine.specs.Owed.{current, current_in, duties_before, function_at, next_duties, removes_behind}
use Rattle.rgo_region_machine.specs.Regions.{RegionInfo}
use Rattle.rgo_region_machine.specs.States.{Duty, RegionEnvironment, Holder, RegionState, Remove, frames_in, frames_of}
use Rattle.rgo_region_machine.specs.States.{top_names}
use Rattle.rgo_region_machine.specs.declared.regions.Region.{Region}
use Rattle.rgo_sound.specs.Core.{NameInvariant}
use Rattle.rgo_sound.specs.Invariant.{EachOnce, Fine, FramesFit, GoodHolder, HasInstr, Shares}
use Rattle.rgo_sound.specs.Invariant.{shared_names, to_share}
use Rattle.rgo_sound.specs.Stakes.{holders_of, is_in, one_when, pending_of, times_in, total}
use Rattle.rgo_tac.specs.Code.{Tac}
use Rattle.rgo_tac.specs.Frames.{TacFrame, frame_after_instr, moved_to, value_at, operand_values}
use Rattle.rgo_tac.specs.Steps.{destination_type}

-- what the rules say of each instruction, and that control continues only at an instruction
pub record IsRuled (code : Code) : Type 0 where
  pub kept : (n i : ℕ) (fn : CodeFn) (instr : CodeInstr) → slice_get code.functions n ≡ Some fn → HasInstr fn i instr
      → Kept code fn i instr
  pub goes_on : (n i j : ℕ) (fn : CodeFn) (instr : CodeInstr) (removes : List ℕ) → slice_get code.functions n ≡ Some fn
      → HasInstr fn i instr → Contains {X = ℕ × List ℕ} (edges instr.op i) (j, removes) → (next : CodeInstr)
      × HasInstr fn j next

-- ---- what one goroutine does

record Goes (frame : TacFrame) (callers : List TacFrame) (op : CodeOp) (a : Acted) : Type 0 where
  frame' : TacFrame
  frames : a.frames ≡ frame' ∷ callers
  function : frame'.function ≡ frame.function
  edge : Contains {X = ℕ × List ℕ} (edges op frame.next) (frame'.next, removes_behind frame op)
  started : a.started ≡ []
  trap : a.trap ≡ None

record Stays (frame : TacFrame) (callers : List TacFrame) (a : Acted) : Type 0 where
  frames : a.frames ≡ frame ∷ callers
  started : a.started ≡ []
  kind : Trap
  place : ℕ
  trap : a.trap ≡ Some (the_end.Trap kind place)

abbrev ActsSo : TacFrame → List TacFrame → CodeOp → Option (Acted) → Type 0
ActsSo frame callers op None = Unit {0}
ActsSo frame callers op (Some a) = Goes frame callers op a ⊎ Stays frame callers a

acts_so : (code : Tac) (m : Memory) (op : CodeOp) (place : ℕ) (frame : TacFrame) (callers : List TacFrame) → IsSimple op
    → ActsSo frame callers op (act code m (erased_op op) place frame callers)
acts_so code m (Do to action from removes) place frame callers simple =
    go (performed code.structs action (destination_type code frame to) (operand_values frame from) m)
  where
    go : (e : Option Effect) → ActsSo frame callers (Do to action from removes)
        (effected m frame callers to (trap_place action place) e)
    go None = tt
    go (Some (Does m' v)) = inl (record {
      frame' = frame_after_instr frame to v;
      frames = refl;
      function = refl;
      edge =
          contains_here {X = ℕ × List ℕ} (frame.next + 1, removes) [];
      started = refl;
      trap = refl;
    })
    go (Some (Traps kind)) = inr (record {
      frames = refl;
      started = refl;
      kind = kind;
      place =
          trap_place action place;
      trap = refl;
    })
acts_so code m (Call to n from passes protects removes) place frame callers simple = absurd simple
acts_so code m (Go n from passes removes) place frame callers simple = absurd simple
acts_so code m (Print pieces from removes) place frame callers simple =
    inl (record {
      frame' = moved_to frame (frame.next + 1);
      frames = refl;
      function = refl;
      edge =
          contains_here {X = ℕ × List ℕ} (frame.next + 1, removes) [];
      started = refl;
      trap = refl;
    })
acts_so code m (Jump j removes) place frame callers simple =
    inl (record {
      frame' = moved_to frame j;
      frames = refl;
      function = refl;
      edge =
          contains_here {X = ℕ × List ℕ} (j, removes) [];
      started = refl;
      trap = refl;
    })
acts_so code m (Branch v j removes k others) place frame callers simple =
    inl (record {
      frame' = moved_to frame (if is_true (value_at frame v) then j else k);
      frames = refl;
      function =
          refl;
      edge = way (is_true (value_at frame v));
      started = refl;
      trap = refl;
    })
  where
    way : (b : Bool) → Contains {X = ℕ × List ℕ} ((j, removes) ∷ (k, others) ∷ [])
        (if b then j else k, if b then removes else others)
    way true = contains_here {X = ℕ × List ℕ} (j, removes) ((k, others) ∷ [])
    way false = contains_there {X = ℕ × List ℕ} (j, removes) ((k, others) ∷ []) (k, others)
        (contains_here {X = ℕ × List ℕ} (k, others) [])
acts_so code m (Return value) place frame callers simple = absurd simple

-- ---- the state after it

-- one goroutine has other frames and another holder, with the same stakes
pub fine_plain : (code : Code) (s t : RegionState) (g : ℕ) (h k : Holder) → Fine code s → slice_get s.holders g ≡ Some h
    → t.regions ≡ s.regions → t.holders ≡ slice_set s.holders g k → k.stakes ≡ h.stakes → k.pending ≡ h.pending
    → length t.plain.goroutines ≡ length s.plain.goroutines
    → ((j : ℕ) → nat_eq g j ≡ false → frames_of t.plain j ≡ frames_of s.plain j)
    → GoodHolder code (frames_of t.plain g) k → Fine code t
fine_plain code s t g h k fine e rs hs ks kp gs frames good =
    record {
      as_many = ap length hs ∙ length_set s.holders g k ∙ fine.as_many ∙ sym gs;
      each = λ j x q. split (nat_eq g j) (λ u. each_same j x (eq_of g j u) (sym (ap (λ y. slice_get y j) hs) ∙ q))
          (λ n. subst (λ y. GoodHolder code y x) (sym (frames j n)) (fine.each j x (was j x n q)));
      counted = λ r info q. counts r info (fine.counted r info (sym (ap (λ y. slice_get y r) rs) ∙ q));
      made = λ j x r q i. split (nat_eq g j)
          (λ u. let b = fine.made g h r e (subst (λ y. is_in r y ≡ true) ks
          (subst (λ y. is_in r y.stakes ≡ true) (is_k j x (eq_of g j u) (sym (ap (λ y. slice_get y j) hs) ∙ q)) i))
          in let l : length t.regions ≡ length s.regions = ap length rs in omega (arith, b, l))
          (λ n. let b = fine.made j x r (was j x n q) i in let l : length t.regions ≡ length s.regions = ap length rs in
          omega (arith, b, l));
      pended = λ j x r q i. split (nat_eq g j)
          (λ u. let b = fine.pended g h r e (subst (λ y. 0 < times_in r y) kp
          (subst (λ y. 0 < times_in r y.pending) (is_k j x (eq_of g j u) (sym (ap (λ y. slice_get y j) hs) ∙ q)) i))
          in let l : length t.regions ≡ length s.regions = ap length rs in omega (arith, b, l))
          (λ n. let b = fine.pended j x r (was j x n q) i in let l : length t.regions ≡ length s.regions =
          ap length rs in omega (arith, b, l));
    }
  where
    was : (j : ℕ) (x : Holder) → nat_eq g j ≡ false → slice_get t.holders j ≡ Some x → slice_get s.holders j ≡ Some x
    was j x n q = sym (ap (λ y. slice_get y j) hs ∙ get_set_other s.holders g j k n) ∙ q

    is_k : (j : ℕ) (x : Holder) → g ≡ j → slice_get (slice_set s.holders g k) j ≡ Some x → x ≡ k
    is_k j x u q = same_Some x k (sym q ∙ ap (slice_get (slice_set s.holders g k)) (sym u)
        ∙ get_set_same s.holders g h k e)

    each_same : (j : ℕ) (x : Holder) → g ≡ j → slice_get (slice_set s.holders g k) j ≡ Some x
        → GoodHolder code (frames_of t.plain j) x
    each_same j x u q = subst (λ y. GoodHolder code (frames_of t.plain j) y) (sym (is_k j x u q))
        (subst (λ i. GoodHolder code (frames_of t.plain i) k) u good)

    counts : (r : ℕ) (info : RegionInfo) → info.stakes ≡ holders_of s r + pending_of s r → info.stakes
        ≡ holders_of t r + pending_of t r
    counts r info c =
        let a = total_set (λ (x : Holder). one_when (is_in r x.stakes)) s.holders g h k e in
        let b = total_set (λ (x : Holder). times_in r x.pending) s.holders g h k e in
        let a' : one_when (is_in r k.stakes) ≡ one_when (is_in r h.stakes) = ap (λ y. one_when (is_in r y)) ks in
        let b' : times_in r k.pending ≡ times_in r h.pending = ap (times_in r) kp in
        let x : holders_of t r ≡ total (λ (x : Holder). one_when (is_in r x.stakes)) (slice_set s.holders g k) =
        ap (total (λ (x : Holder). one_when (is_in r x.stakes))) hs in
        let y : pending_of t r ≡ total (λ (x : Holder). times_in r x.pending) (slice_set s.holders g k) =
        ap (total (λ (x : Holder). times_in r x.pending)) hs in
        omega (arith, c, a, b, a', b', x, y)

-- ---- all together

no_child : (code : Code) (h : Holder) (op : CodeOp) (child : List TacFrame) → IsSimple op → child_holder code h op child
    ≡ []
no_child code h (Do to action from removes) child simple = refl
no_child code h (Call to n from passes protects removes) child simple = absurd simple
no_child code h (Go n from passes removes) child simple = absurd simple
no_child code h (Print pieces from removes) child simple = refl
no_child code h (Jump j removes) child simple = refl
no_child code h (Branch v j removes k others) child simple = refl
no_child code h (Return value) child simple = absurd simple

simple_gives : (code : Code) (op : CodeOp) → IsSimple op → (k : ℕ) → ¬ (LeavesToCallee code op k)
simple_gives code (Do to action from removes) simple k g = g
simple_gives code (Call to n from passes protects removes) simple k g = simple
simple_gives code (Go n from passes removes) simple k g = g
simple_gives code (Print pieces from removes) simple k g = g
simple_gives code (Jump j removes) simple k g = g
simple_gives code (Branch v j removes k' others) simple k g = g
simple_gives code (Return value) simple k g = g

simple_shares : (op : CodeOp) → IsSimple op → shared_names op ≡ []
simple_shares (Do to action from removes) simple = refl
simple_shares (Call to n from passes protects removes) simple = absurd simple
simple_shares (Go n from passes removes) simple = absurd simple
simple_shares (Print pieces from removes) simple = refl
simple_shares (Jump j removes) simple = refl
simple_shares (Branch v j removes k others) simple = refl
simple_shares (Return value) simple = refl

simple_protects : (op : CodeOp) → IsSimple op → protected_names op ≡ []
simple_protects (Do to action from removes) simple = refl
simple_protects (Call to n from passes protects removes) simple = absurd simple
simple_protects (Go n from passes removes) simple = refl
simple_protects (Print pieces from removes) simple = refl
simple_protects (Jump j removes) simple = refl
simple_protects (Branch v j removes k others) simple = refl
simple_protects (Return value) simple = refl

-- the frame that continues, of a goroutine that owes nothing
pub frame_goes : (code : Code) (frame frame' : TacFrame) (callers : List TacFrame) (instr : CodeInstr) (k : Holder)
    (environments : List RegionEnvironment) (duties : List Duty) → IsRuled code → current code frame ≡ Some instr
    → IsSimple instr.op → duties ≡ [] → NameInvariant k.stakes k.base environments → EachOnce k.base
    → FramesFit code k.base (frame ∷ callers) environments duties
    → Shares (to_share code (frame ∷ callers)) duties (top_names environments) k.pending → frame'.function
    ≡ frame.function → Contains {X = ℕ × List ℕ} (edges instr.op frame.next)
    (frame'.next, removes_behind frame instr.op) → GoodHolder code (frame' ∷ callers)
    (record k {
      environments = environments;
      duties = map Remove (removes_behind frame instr.op)
          ++ next_duties code (frame' ∷ callers);
    })
frame_goes code frame frame' callers instr k [] duties ruled cur simple d core once fit sh same edge = absurd fit
frame_goes code frame frame' callers instr k (f ∷ fs) duties ruled cur simple d core once fit sh same edge =
    let st = fit.0 in
    let is : st.instr ≡ instr = standing_instr code frame f duties instr st cur in
    let here : HasInstr st.fn frame.next instr = st.is_instr ∙ ap Some is in
    let to = ruled.goes_on frame.function frame.next frame'.next st.fn instr (removes_behind frame instr.op) st.is_fn
    here edge in
    let is_fn' : function_at code frame' ≡ Some st.fn = ap (slice_get code.functions) same ∙ st.is_fn in
    let next_is : current code frame' ≡ Some to.0 = ap (λ o. current_in o frame'.next) is_fn' ∙ to.1 in
    let settled = standing_settled code frame f duties instr st cur d in
    let good = moves_on code st.fn frame frame' callers instr to.0 (removes_behind frame instr.op) k f fs st.is_fn
    (ruled.kept frame.function frame.next st.fn instr st.is_fn here) is_fn'
    (ruled.kept frame.function frame'.next st.fn to.0 st.is_fn to.1) edge (simple_gives code instr.op simple)
    (simple_protects instr.op simple) core once st.lends settled fit.1
    (settled_pending code frame callers instr f.names duties k.pending cur (simple_shares instr.op simple) d sh) in
    subst (λ (x : Option CodeInstr). GoodHolder code (frame' ∷ callers)
    (record k { environments = f ∷ fs; duties = map Remove (removes_behind frame instr.op) ++ duties_before x }))
    (sym next_is) good

module _ (code : Code) (page_words : ℕ) (s : RegionState) (g : ℕ) (h : Holder) (frame : TacFrame) (callers : List TacFrame)
    (instr : CodeInstr) (fine : Fine code s) (ruled : IsRuled code) (e : slice_get s.holders g ≡ Some h)
    (at : frames_of s.plain g ≡ frame ∷ callers) (cur : current code frame ≡ Some instr) (simple : IsSimple instr.op)
  where
    good : GoodHolder code (frame ∷ callers) h
    good = subst (λ x. GoodHolder code x h) at (fine.each g h e)

    others : (a : Acted) (frames : List TacFrame) → slice_get s.plain.goroutines g ≡ Some frames → a.started ≡ [] → (j : ℕ)
        → nat_eq g j ≡ false → frames_of (after s.plain g a) j ≡ frames_of s.plain j
    others a frames q st j n = ap (λ x. frames_in (slice_get (slice_set s.plain.goroutines g a.frames ++ x) j)) st
        ∙ ap (λ x. frames_in (slice_get x j)) (append-nil (slice_set s.plain.goroutines g a.frames))
        ∙ ap frames_in (get_set_other s.plain.goroutines g j a.frames n)

    own : (a : Acted) (frames : List TacFrame) → slice_get s.plain.goroutines g ≡ Some frames → a.started ≡ []
        → frames_of (after s.plain g a) g ≡ a.frames
    own a frames q st = ap (λ x. frames_in (slice_get (slice_set s.plain.goroutines g a.frames ++ x) g)) st
        ∙ ap (λ x. frames_in (slice_get x g)) (append-nil (slice_set s.plain.goroutines g a.frames))
        ∙ ap frames_in (get_set_same s.plain.goroutines g frames a.frames q)

    as_long : (a : Acted) → a.started ≡ [] → length (after s.plain g a).goroutines ≡ length s.plain.goroutines
    as_long a st = ap (λ x. length (slice_set s.plain.goroutines g a.frames ++ x)) st
        ∙ ap length (append-nil (slice_set s.plain.goroutines g a.frames)) ∙ length_set s.plain.goroutines g a.frames

    behind : (a : Acted) (frames : List TacFrame) (given : Holder × List Region) → slice_get s.plain.goroutines g
        ≡ Some frames → has_none h.duties ≡ true → SameHolder h given.0 → Goes frame callers instr.op a
        ⊎ Stays frame callers a → Fine code (instructed_with code s g frame callers instr (after s.plain g a) given)
    behind a frames given q d same (inl go) =
        fine_plain code s (instructed_with code s g frame callers instr (after s.plain g a) given) g h k fine e refl hs
        refl refl (as_long a go.started) (others a frames q go.started)
        (subst (λ x. GoodHolder code x k) (sym (own a frames q go.started ∙ go.frames)) fits_on)
      where
        k : Holder
        k = record h {
          fills = same.fills;
          reserved = same.reserved;
          duties = map Remove (removes_behind frame instr.op)
              ++ next_duties code (go.frame' ∷ callers);
        }

        fits_on : GoodHolder code (go.frame' ∷ callers) (record h {
          fills = same.fills;
          reserved = same.reserved;
          duties = map Remove (removes_behind frame instr.op)
              ++ next_duties code (go.frame' ∷ callers);
        })
        fits_on = frame_goes code frame go.frame' callers instr (record h { fills = same.fills; reserved = same.reserved }) h.environments
            h.duties
            ruled cur simple (none_owed h.duties d) good.core good.base_once good.fit good.shares go.function go.edge

        ended : (after s.plain g a).ended ≡ None
        ended = ap (λ x. end_by g x a.trap) go.frames ∙ ap (end_by g (go.frame' ∷ callers)) go.trap
            ∙ no_end g go.frame' callers

        hs : (instructed_with code s g frame callers instr (after s.plain g a) given).holders
            ≡ slice_set s.holders g (record h {
              fills = same.fills;
              reserved = same.reserved;
              duties =
                  map Remove (removes_behind frame instr.op) ++ next_duties code (go.frame' ∷ callers);
            })
        hs =
            ap (λ x. slice_set s.holders g (unless_trapped (after s.plain g a).ended given.0
            (holder_after code given.0 frame callers instr.op (frames_of (after s.plain g a) g))) ++ x)
            (no_child code given.0 instr.op (last_frames (after s.plain g a).goroutines) simple)
            ∙ append-nil (slice_set s.holders g (unless_trapped (after s.plain g a).ended given.0
            (holder_after code given.0 frame callers instr.op (frames_of (after s.plain g a) g))))
            ∙ ap (λ x. slice_set s.holders g (unless_trapped x given.0
            (holder_after code given.0 frame callers instr.op (frames_of (after s.plain g a) g)))) ended
            ∙ ap (slice_set s.holders g) (after_simple code given.0 frame callers instr.op
            (frames_of (after s.plain g a) g) simple)
            ∙ ap (λ (x : Holder). slice_set s.holders g (record x {
              duties = map Remove (removes_behind frame instr.op)
                  ++ next_duties code (frames_of (after s.plain g a) g);
            })) same.same
            ∙ ap (λ x. slice_set s.holders g (record h {
              fills = same.fills;
              reserved = same.reserved;
              duties =
                  map Remove (removes_behind frame instr.op) ++ next_duties code x;
            }))
            (own a frames q go.started ∙ go.frames)
    behind a frames given q d same (inr st) =
        fine_plain code s (instructed_with code s g frame callers instr (after s.plain g a) given) g h
        (record h { fills = same.fills; reserved = same.reserved }) fine e refl hs refl refl (as_long a st.started)
        (others a frames q st.started)
        (subst (λ x. GoodHolder code x (record h { fills = same.fills; reserved = same.reserved })) (sym (own a frames q st.started ∙ st.frames))
        (record { core = good.core; fit = good.fit; base_once = good.base_once; shares = good.shares }))
      where
        ended : (after s.plain g a).ended ≡ Some (the_end.Trap st.kind st.place)
        ended = ap (end_by g a.frames) st.trap

        hs : (instructed_with code s g frame callers instr (after s.plain g a) given).holders
            ≡ slice_set s.holders g (record h { fills = same.fills; reserved = same.reserved })
        hs =
            ap (λ x. slice_set s.holders g (unless_trapped (after s.plain g a).ended given.0
            (holder_after code given.0 frame callers instr.op (frames_of (after s.plain g a) g))) ++ x)
            (no_child code given.0 instr.op (last_frames (after s.plain g a).goroutines) simple)
            ∙ append-nil (slice_set s.holders g (unless_trapped (after s.plain g a).ended given.0
            (holder_after code given.0 frame callers instr.op (frames_of (after s.plain g a) g))))
            ∙ ap (λ x. slice_set s.holders g (unless_trapped x given.0
            (holder_after code given.0 frame callers instr.op (frames_of (after s.plain g a) g)))) ended
            ∙ ap (slice_set s.holders g) same.same

    acts : ActsSo frame callers instr.op (alone (erased code) s.plain.memory (frame ∷ callers))
    acts =
        subst (λ o. ActsSo frame callers instr.op (act_at (erased code) s.plain.memory o frame callers))
        (sym (current_erased code frame ∙ ap (option_map erased_instr) cur))
        (acts_so (erased code) s.plain.memory instr.op instr.place frame callers simple)

-- such an instruction of one goroutine
pub fine_move : (code : Code) (page_words : ℕ) (s t : RegionState) (g : ℕ) (x : OneDone code page_words s g t)
    → Fine code s → IsRuled code → IsSimple x.instr.op → Fine code t
fine_move code page_words s t g x fine ruled simple =
    subst (Fine code) (sym x.is)
    (behind code page_words s g x.h x.frame x.callers x.instr fine ruled x.there (ap frames_in x.at) x.cur simple x.a
    (x.frame ∷ x.callers) x.given x.at (ap has_none x.ready.none) x.same
    (subst (ActsSo x.frame x.callers x.instr.op) x.acts (acts code page_words s g x.h x.frame x.callers x.instr fine
    ruled x.there (ap frames_in x.at) x.cur simple)))
