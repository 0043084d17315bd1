-- Where the variables of frames lead, after each instruction. Only live variables count, so most instructions have to show something of
-- one variable: the one that they write.
-- The hard cases are those with two frames. A callee's parameters lead home by its own names, which denote what was passed for them
-- (`formal_home`). The waiting caller keeps the names that are live after the call, as they are protected if they are passed
-- (`behind_kept`). The result comes back into the region that the caller lent, which is that of the variable that waits for it
-- (`linked`, `returned_leads`).
use Rattle.std.proofs.Common.{◌≡◌, ◌≢◌, ℕ, zero, suc, ◌+◌, ◌<◌, Bool, true, false, ◌&&◌, ◌||◌, List, [], ◌∷◌, ◌++◌, map}
use Rattle.std.proofs.Common.{length, drop, get_or, Option, Some, None, refl, sym, ap, ◌∙◌, subst, nat_eq}
use Rattle.std.proofs.Common.{if◌then◌else◌, arith, ◌⊎◌, inl, inr, true≢false, slice_get, slice_set, option_map}
use Rattle.std.proofs.Common.{is_some, Contains, append-nil}
use Rattle.std.proofs.lemmas.Option.{slice_get_within, same_Some, slice_get-map, get_or_from_slice_get}
use Rattle.std.specs.List.{list_any}
use Rattle.rgo_sound.proofs.Places.{get_contains, contains_here, contains_there, each_get, get_append_cases}
use Rattle.rgo_sound.proofs.Places.{get_set_other}
use Rattle.rgo_sound.proofs.Tests.{ne_of, split, eq_of, nat_eq_refl}
use Rattle.rgo_sound.proofs.steps.Acting.{Acted, act, act_at, alone, call, effected, moves, returned, start, trap_place}
use Rattle.rgo_sound.proofs.steps.Acting.{performed}
use Rattle.rgo_sound.proofs.steps.OneStep.{Allots, current_erased}
use Rattle.rgo_sound.proofs.plain.Steps.{Always}
use Rattle.rgo_sound.proofs.names.Edges.{live_back}
use Rattle.rgo_sound.proofs.calls.Passed.{AreFormals, left_other, not_passed}
use Rattle.rgo_sound.proofs.calls.Lists.{formals_once, formals_are, gives_are, any_at}
use Rattle.rgo_sound.proofs.types.Actions.{get_kinds}
use Rattle.rgo_sound.proofs.types.Steps.{ActedFits, here}
use Rattle.rgo_sound.proofs.pointers.Actions.{ClassesAgree, HomeAfter, IsPlain, MovedIf, has_class, home_of_plain, homes}
use Rattle.rgo_sound.proofs.pointers.Actions.{more_home, zero_plain}
use Rattle.rgo_code.specs.Checked.{IsChecked}
use Rattle.rgo_code.specs.ClassRules.{Agree, CallPasses, CallsPass, GlobalsAgree, IsPassedFor, JoinsAgree, OpAgrees}
use Rattle.rgo_code.specs.ClassRules.{PassesClasses, ResultFits, ReturnsAgree, SlotClassFitsType, StartPasses, StartsPass}
use Rattle.rgo_code.specs.ClassRules.{is_of_package}
use Rattle.rgo_code.specs.Code.{Branch, Call, Code, CodeFn, CodeInstr, CodeOp, Do, Go, Jump, Print, Return, Slot}
use Rattle.rgo_code.specs.Erasure.{erased, erased_fn, erased_instr, erased_op}
use Rattle.rgo_code.specs.Exists.{OpExists}
use Rattle.rgo_code.specs.NameRules.{ProtectsUsed}
use Rattle.rgo_code.specs.Names.{LeavesToCallee, IsLiveName, callee_regions, callee_result, class_of, edges, is_class_named}
use Rattle.rgo_code.specs.Names.{member_class, region_parameters, result_class, slot_class}
use Rattle.rgo_code.specs.Types.{IsWellTypedOp}
use Rattle.rgo_code.specs.declared.rules.Line.TheVariants as line
use Rattle.rgo_code.specs.declared.rules.Rule.TheVariants as rule
use Rattle.rgo_flow.specs.Live.{Live, read_by}
use Rattle.rgo_machine.specs.Actions.{is_true}
use Rattle.rgo_machine.specs.Lines.{printed_line}
use Rattle.rgo_machine.specs.declared.picks.End.TheVariants.{Trap}
use Rattle.rgo_memory.specs.Effects.{Does, Effect, Traps}
use Rattle.rgo_memory.specs.Fields.{or_nil}
use Rattle.rgo_memory.specs.Memory.{Memory}
use Rattle.rgo_memory.specs.Values.{zero_of}
use Rattle.rgo_memory.specs.declared.values.Value.{Value}
use Rattle.rgo_memory.specs.declared.values.Value.TheVariants as value
use Rattle.rgo_region_machine.specs.Objects.{makes_object, making_region, target_class}
use Rattle.rgo_region_machine.specs.Owed.{current, formals_of, function_at, code_function, given_names, passed}
use Rattle.rgo_region_machine.specs.Owed.{passed_regions, function_result_class}
use Rattle.rgo_region_machine.specs.Regions.{Bindings, bound, class_region, without_all}
use Rattle.rgo_region_machine.specs.States.{RegionEnvironment, below, environment_of, top_names, with_top}
use Rattle.rgo_region_machine.specs.declared.regions.Region.{Region}
use Rattle.rgo_sound.specs.Invariant.{HasInstr, IsFree}
use Rattle.rgo_sound.specs.Stakes.{times_in}
use Rattle.rgo_sound.specs.Types.{CalledFrom, Each, FramesHaveKinds, HasKind, HaveKinds, IsCallOf, MemoryFits}
use Rattle.rgo_sound.specs.Values.{CallerLeads, CallersLead, FramesLead, IsLinked, LeadsHome, MemoryHome, TopLeads}
use Rattle.rgo_sound.specs.Values.{call_target}
use Rattle.rgo_tac.specs.Code.{TacFn}
use Rattle.rgo_tac.specs.Flow.{reads, writes}
use Rattle.rgo_tac.specs.Frames.{TacFrame, assigned_variables, new_tac_frame, frame_after_instr, moved_to, value_at, operand_values}
use Rattle.rgo_tac.specs.Joins.{action_joins, if_pointer_like, is_pointer_like_member, is_pointer_like_type}
use Rattle.rgo_tac.specs.Steps.{tac_resumed, resumed_at, resumed_by, target_of, destination_type}
use Rattle.rgo_tac.specs.declared.regions.Class.{Class}
use Rattle.rgo_tac.specs.declared.regions.Class.TheVariants.{Global, Name, NoClass}
use Rattle.rgo_tac.specs.declared.regions.Member.{Member}
use Rattle.rgo_tac.specs.declared.regions.Member.TheVariants as member
use Rattle.rgo_typed.specs.declared.actions.Action.{Action}
use Rattle.rgo_typed.specs.declared.types.Type.{«Type»}

-- ---- other names, and more owners

-- a class has the same region by other names, if its name has
class_other : (names names' : Bindings) (c : Class) → ((k : ℕ) → c ≡ Name k → bound names' k ≡ bound names k)
    → class_region names' c ≡ class_region names c
class_other names names' NoClass h = refl
class_other names names' Global h = refl
class_other names names' (Name k) h = h k refl

renamed_home : (owners : List Region) (names names' : Bindings) (c : Class) (v : Value) → class_region names' c
    ≡ class_region names c → LeadsHome owners names c v → LeadsHome owners names' c v
renamed_home owners names names' c (value.Int i) e h = tt
renamed_home owners names names' c (value.Bool b) e h = tt
renamed_home owners names names' c value.Nil e h = tt
renamed_home owners names names' c (value.Object o) e (r, q, w) = (r, e ∙ q, w)

-- the top frame has other names: those that are live, and the lent one, are as they were
pub names_lead : (code : Code) (owners : List Region) (frame : TacFrame) (callers : List TacFrame) (f : RegionEnvironment)
    (fs : List RegionEnvironment) (fn : CodeFn) → function_at code frame ≡ Some fn → f.lent ≡ result_class fn
    → (names : Bindings) (protections : List Region) → ((k : ℕ) → IsFree fn frame.next k
    ⊎ (bound names k ≡ bound f.names k)) → FramesLead code owners (frame ∷ callers) (f ∷ fs)
    → FramesLead code owners (frame ∷ callers) (record { lent = f.lent; names = names; protections = protections } ∷ fs)
names_lead code owners frame callers f fs fn is lends names protections same lead = (top, rest callers fs lead.1)
  where
    live : (v : ℕ) → Live (erased_fn fn) v frame.next → (k : ℕ) → class_of fn v ≡ Name k → bound names k
        ≡ bound f.names k
    live v l k c = go (same k)
      where
        go : IsFree fn frame.next k ⊎ (bound names k ≡ bound f.names k) → bound names k ≡ bound f.names k
        go (inl free) = absurd (free.1 (free.0, record { variable = v; named = c; live = l }))
        go (inr e) = e

    top : TopLeads code owners frame names
    top g is' v l =
        let q : g ≡ fn = same_Some g fn (sym is' ∙ is) in
        let l' : Live (erased_fn fn) v frame.next = subst (λ x. Live (erased_fn x) v frame.next) q l in
        renamed_home owners f.names names (class_of g v) (value_at frame v)
        (class_other f.names names (class_of g v) (λ k c. live v l' k (subst (λ x. class_of x v ≡ Name k) q c)))
        (lead.0 g is' v l)

    lent : class_region names f.lent ≡ class_region f.names f.lent
    lent = class_other f.names names f.lent (λ k c. go k c (same k))
      where
        go : (k : ℕ) → f.lent ≡ Name k → IsFree fn frame.next k ⊎ (bound names k ≡ bound f.names k) → bound names k
            ≡ bound f.names k
        go k c (inl free) = absurd (free.0 (sym lends ∙ c))
        go k c (inr e) = e

    rest : (callers : List TacFrame) (fs : List RegionEnvironment) → CallersLead code owners f callers fs
        → CallersLead code owners (record { lent = f.lent; names = names; protections = protections }) callers fs
    rest [] [] h = tt
    rest [] (d ∷ ds) h = h
    rest (caller ∷ callers) [] h = h
    rest (caller ∷ callers) (d ∷ ds) h = (h.0, (λ g call to is cur t n. lent ∙ h.1 g call to is cur t n), h.2)

-- with more owners, as after a step that makes an object, everything leads where it led
more_callers : (code : Code) (owners given : List Region) (f : RegionEnvironment) (callers : List TacFrame)
    (fs : List RegionEnvironment) → CallersLead code owners f callers fs → CallersLead code (owners ++ given) f callers fs
more_callers code owners given f [] [] h = tt
more_callers code owners given f [] (d ∷ ds) h = h
more_callers code owners given f (caller ∷ callers) [] h = h
more_callers code owners given f (caller ∷ callers) (d ∷ ds) h = (
  (λ fn call is cur v n l. more_home owners given d.names (class_of fn v) (value_at caller v)
      (h.0 fn call is cur v n l)),
  h.1,
  more_callers code owners given d callers ds h.2,
)

pub more_frames_lead : (code : Code) (owners given : List Region) (frames : List TacFrame)
    (environments : List RegionEnvironment) → FramesLead code owners frames environments
    → FramesLead code (owners ++ given) frames environments
more_frames_lead code owners given [] environments h = tt
more_frames_lead code owners given (frame ∷ callers) [] h = h
more_frames_lead code owners given (frame ∷ callers) (f ∷ fs) h = (
  (λ fn is v l. more_home owners given f.names (class_of fn v) (value_at frame v) (h.0 fn is v l)),
  more_callers code
      owners given f callers fs h.1,
)

-- a step that makes nothing leaves the memory as it was
still_memory : (owners given : List Region) (m : Memory) (region : Option Region) → MemoryHome owners m
    → Allots region (slice_get m.heap (length m.heap)) given → MemoryHome (owners ++ given) m
still_memory owners given m region home allots = subst (λ x. MemoryHome x m)
    (sym (ap (λ x. owners ++ x) none ∙ append-nil owners)) home
  where
    beyond : {X : Type 0} (xs : List X) → slice_get xs (length xs) ≡ None
    beyond [] = refl
    beyond (x ∷ xs) = beyond xs

    none : given ≡ []
    none = subst (λ o. Allots region o given) (beyond m.heap) allots

-- ---- values by number

-- a variable is read as a cell of the list, or nil if there is none
value_is : (vs : List Value) (i : ℕ) → get_or vs i value.Nil ≡ or_nil (slice_get vs i)
value_is [] i = refl
value_is (x ∷ xs) zero = refl
value_is (x ∷ xs) (suc i) = value_is xs i

-- after a write: the value, or nil if the list is too short
value_set : (vs : List Value) (d : ℕ) (v : Value) → (get_or (slice_set vs d v) d value.Nil ≡ v)
    ⊎ (get_or (slice_set vs d v) d value.Nil ≡ value.Nil)
value_set [] d v = inr refl
value_set (x ∷ xs) zero v = inl refl
value_set (x ∷ xs) (suc d) v = value_set xs d v

value_other : (vs : List Value) (d x : ℕ) (v : Value) → nat_eq d x ≡ false → get_or vs x value.Nil
    ≡ get_or (slice_set vs d v) x value.Nil
value_other vs d x v n = value_is vs x ∙ ap or_nil (sym (get_set_other vs d x v n))
    ∙ sym (value_is (slice_set vs d v) x)

-- what is set to nil is not a pointer
pub no_object_set : (vs : List Value) (d o : ℕ) → get_or (slice_set vs d value.Nil) d value.Nil ≡ value.Object o → ⊥
no_object_set vs d o e = go (value_set vs d value.Nil)
  where
    clash : value.Nil ≡ value.Object o → ⊥
    clash e = cc

    go : (get_or (slice_set vs d value.Nil) d value.Nil ≡ value.Nil)
        ⊎ (get_or (slice_set vs d value.Nil) d value.Nil ≡ value.Nil) → ⊥
    go (inl q) = clash (sym q ∙ e)
    go (inr q) = clash (sym q ∙ e)

-- a list without pointers has none at any place
pub plain_at : (vs : List Value) (v : ℕ) → Each IsPlain vs → IsPlain (get_or vs v value.Nil)
plain_at [] v h = tt
plain_at (x ∷ xs) zero h = h.0
plain_at (x ∷ xs) (suc v) h = plain_at xs v h.1

-- ---- pointers and classes

-- a variable that has a pointer has a class: its type is pointer-like, and rule 3 wants a class then. Here the part on types is used.
pub ref_class : (kinds : List «Type») (fn : CodeFn) (frame : TacFrame)
    → ((v : ℕ) (s : Slot) → slice_get fn.variables v ≡ Some s → SlotClassFitsType s)
    → HaveKinds kinds (erased_fn fn).variables frame.variables → (v o : ℕ) → value_at frame v ≡ value.Object o
    → class_of fn v ≢ NoClass
ref_class kinds fn frame slots h v o e = go (slice_get fn.variables v) refl
  where
    go : (q : Option Slot) → slice_get fn.variables v ≡ q → class_of fn v ≢ NoClass
    go (Some s) q =
        let x = get_kinds kinds (erased_fn fn).variables frame.variables v s.ty h
        (slice_get-map (λ (s : Slot). s.ty) fn.variables v ∙ ap (option_map (λ (s : Slot). s.ty)) q) in
        let k : HasKind kinds s.ty (value.Object o) = subst (HasKind kinds s.ty)
        (sym (get_or_from_slice_get frame.variables v x.0 value.Nil x.1) ∙ e) x.2 in
        λ n. (slots v s q).1 k.1 (sym (ap slot_class q) ∙ n)
    go None q = absurd (clash (sym (short (erased_fn fn).variables frame.variables v h
        (slice_get-map (λ (s : Slot). s.ty) fn.variables v ∙ ap (option_map (λ (s : Slot). s.ty)) q)) ∙ e))
      where
        short : (tys : List «Type») (vs : List Value) (i : ℕ) → HaveKinds kinds tys vs → slice_get tys i ≡ None
            → get_or vs i value.Nil ≡ value.Nil
        short [] [] i h e = refl
        short [] (v ∷ vs) i h e = absurd h
        short (ty ∷ tys) [] i h e = refl
        short (ty ∷ tys) (v ∷ vs) zero h e = cc
        short (ty ∷ tys) (v ∷ vs) (suc i) h e = short tys vs i h.1 e

        clash : value.Nil ≡ value.Object o → ⊥
        clash e = cc

-- ---- what is joined has one class

-- what has a class is pointer-like
class_pointer_like : (fn : CodeFn) → ((v : ℕ) (s : Slot) → slice_get fn.variables v ≡ Some s → SlotClassFitsType s)
    → ResultFits fn.result → (x : Member) → member_class fn x ≢ NoClass → is_pointer_like_member (erased_fn fn) x ≡ true
class_pointer_like fn slots result (member.Variable v) n =
    ap is_pointer_like_type (slice_get-map (λ (s : Slot). s.ty) fn.variables v) ∙ go (slice_get fn.variables v) refl
  where
    go : (o : Option Slot) → slice_get fn.variables v ≡ o → is_pointer_like_type (option_map (λ (s : Slot). s.ty) o)
        ≡ true
    go None e = absurd (n (ap slot_class e))
    go (Some s) e = (slots v s e).0 (λ c. n (ap slot_class e ∙ c))
class_pointer_like fn slots result member.Result n = go fn.result refl result
  where
    go : (o : Option Slot) → fn.result ≡ o → ResultFits o → is_pointer_like_type (option_map (λ (s : Slot). s.ty) o)
        ≡ true
    go None e h = absurd (n (ap slot_class e))
    go (Some s) e h = h.0 (λ c. n (ap slot_class e ∙ c))
class_pointer_like fn slots result member.Global n = refl

-- the two that are pointer-like have one class
pointer_likes_agree : (fn : CodeFn) (x y : Member) → is_pointer_like_member (erased_fn fn) x ≡ true
    → is_pointer_like_member (erased_fn fn) y ≡ true → Agree fn (if_pointer_like (erased_fn fn) (Some (x, y)))
    → member_class fn x ≡ member_class fn y
pointer_likes_agree fn x y p q h = go (is_pointer_like_member (erased_fn fn) x) (is_pointer_like_member (erased_fn fn) y) p q h
  where
    go : (a b : Bool) → a ≡ true → b ≡ true → Agree fn (if a && b then Some (x, y) else None) → member_class fn x
        ≡ member_class fn y
    go true true p q h = h
    go true false p q h = absurd (true≢false (sym q))
    go false b p q h = absurd (true≢false (sym p))

-- the rule on classes, of the variables of a function and of its result
slots_fit : (code : Code) → IsChecked code → (n : ℕ) (fn : CodeFn) → slice_get code.functions n ≡ Some fn
    → (v : ℕ) (s : Slot) → slice_get fn.variables v ≡ Some s → SlotClassFitsType s
slots_fit code checked n fn is_fn v s q = checked rule.Classes (line.Slot n v) fn s is_fn q

result_fits : (code : Code) → IsChecked code → (n : ℕ) (fn : CodeFn) → slice_get code.functions n ≡ Some fn
    → ResultFits fn.result
result_fits code checked n fn is_fn = checked rule.Classes (line.Function n) fn is_fn

-- the two rules on joins, in the form that `homes` asks for
pub joins_agree : (code : Code) → IsChecked code → (n i : ℕ) (fn : CodeFn) (instr : CodeInstr)
    → slice_get code.functions n ≡ Some fn → HasInstr fn i instr
    → (to : Option ℕ) (action : Action) (from removes : List ℕ) → instr.op ≡ Do to action from removes
    → ClassesAgree fn (action_joins action to from)
joins_agree code checked n i fn instr is_fn at to action from removes is x y e cx cy =
    pointer_likes_agree fn x y (pointer_like x cx) (pointer_like y cy)
    (subst (λ pair. Agree fn (if_pointer_like (erased_fn fn) pair)) e
    (split (is_of_package action) of_package of_object))
  where
    pointer_like : (x : Member) → member_class fn x ≢ NoClass → is_pointer_like_member (erased_fn fn) x ≡ true
    pointer_like = class_pointer_like fn (slots_fit code checked n fn is_fn) (result_fits code checked n fn is_fn)

    of_package : is_of_package action ≡ true → OpAgrees fn (Do to action from removes)
    of_package t = (let j : GlobalsAgree fn (Do to action from removes) =
        subst (GlobalsAgree fn) is (checked rule.Globals (line.Instr n i) fn instr is_fn at) in j t)

    of_object : is_of_package action ≡ false → OpAgrees fn (Do to action from removes)
    of_object t = (let j : JoinsAgree fn (Do to action from removes) =
        subst (JoinsAgree fn) is (checked rule.Joins (line.Instr n i) fn instr is_fn at) in j t)

-- a name of a callee denotes what was passed at its place
passed_at : (names : Bindings) (formals regions : List Class) (p m : ℕ) (c : Class) → AreFormals formals
    → slice_get formals p ≡ Some (Name m) → slice_get regions p ≡ Some c
    → bound (passed formals (passed_regions names regions)) m ≡ class_region names c
passed_at names [] regions p m c f e q = cc
passed_at names (NoClass ∷ formals) regions p m c f e q = absurd f
passed_at names (Global ∷ formals) regions p m c f e q = absurd f
passed_at names (Name k ∷ formals) [] p m c f e q = cc
passed_at names (Name k ∷ formals) (d ∷ regions) zero m c f e q =
    let km : k ≡ m = cc in
    let dc : d ≡ c = cc in
    here km (class_region names d) ∙ ap (class_region names) dc
  where
    here : k ≡ m → (o : Option Region) → bound (passed (Name k ∷ formals) (o ∷ passed_regions names regions)) m ≡ o
    here km None = not_passed names NoClass [] formals regions m (ap (λ x. list_any (is_class_named x) formals) (sym km) ∙ f.0)
    here km (Some r) = ap (λ b. if b then Some r else bound (passed formals (passed_regions names regions)) m)
        (ap (nat_eq k) (sym km) ∙ nat_eq_refl k)
passed_at names (Name k ∷ formals) (d ∷ regions) (suc p) m c f e q =
    go (class_region names d) (passed_at names formals regions p m c f.1 e q)
  where
    any : (cs : List Class) (i : ℕ) → slice_get cs i ≡ Some (Name m) → list_any (is_class_named m) cs ≡ true
    any [] i e = cc
    any (c ∷ cs) zero e = let x : c ≡ Name m = cc in ap (λ y. is_class_named m y || list_any (is_class_named m) cs) x
        ∙ ap (λ y. y || list_any (is_class_named m) cs) (nat_eq_refl m)
    any (c ∷ cs) (suc i) e = or_there (is_class_named m c) (any cs i e)
      where
        or_there : (b : Bool) → list_any (is_class_named m) cs ≡ true → (b || list_any (is_class_named m) cs) ≡ true
        or_there true h = refl
        or_there false h = h

    other : nat_eq k m ≡ false
    other = ne_of k m (λ z. true≢false (sym (any formals p e) ∙ ap (λ x. list_any (is_class_named x) formals) (sym z) ∙ f.0))

    go : (o : Option Region) → bound (passed formals (passed_regions names regions)) m ≡ class_region names c
        → bound (passed (Name k ∷ formals) (o ∷ passed_regions names regions)) m ≡ class_region names c
    go None h = h
    go (Some x) h = ap (λ b. if b then Some x else bound (passed formals (passed_regions names regions)) m) other ∙ h

-- the region of a formal class is that of its actual
formal_region : (names : Bindings) (formals regions : List Class) (c actual : Class) (r : Region) → AreFormals formals
    → IsPassedFor formals regions c actual → ((m : ℕ) → c ≡ Name m → (p : ℕ) × (slice_get formals p ≡ Some (Name m)))
    → c ≢ NoClass → class_region names actual ≡ Some r → class_region (passed formals (passed_regions names regions)) c
    ≡ Some r
formal_region names formals regions NoClass actual r f fits place n e = absurd (n refl)
formal_region names formals regions Global actual r f fits place n e = sym (ap (class_region names) fits) ∙ e
formal_region names formals regions (Name m) actual r f fits place n e = let p = place m refl in
    passed_at names formals regions p.0 m actual f p.1 (fits p.0 p.1) ∙ e

-- so what leads home in the caller leads home in the callee
formal_home : (owners : List Region) (names : Bindings) (formals regions : List Class) (c actual : Class) (v : Value)
    → AreFormals formals → IsPassedFor formals regions c actual
    → ((m : ℕ) → c ≡ Name m → (p : ℕ) × (slice_get formals p ≡ Some (Name m)))
    → ((o : ℕ) → v ≡ value.Object o → c ≢ NoClass) → LeadsHome owners names actual v
    → LeadsHome owners (passed formals (passed_regions names regions)) c v
formal_home owners names formals regions c actual (value.Int i) f fits place n h = tt
formal_home owners names formals regions c actual (value.Bool b) f fits place n h = tt
formal_home owners names formals regions c actual value.Nil f fits place n h = tt
formal_home owners names formals regions c actual (value.Object o) f fits place n (r, e, w) =
    (r, formal_region names formals regions c actual r f fits place (n o refl) e, w)

-- ---- what a goroutine does

-- the environments after an instruction
abbrev pub environments_after : Code → List RegionEnvironment → CodeOp → List RegionEnvironment
environments_after code environments (Call to n from passes protects removes) =
    environment_of (function_result_class (code_function code n)) (passed (formals_of (code_function code n))
    (passed_regions (top_names environments) passes))
    ∷ with_top environments (without_all (top_names environments)
    (given_names (function_result_class (code_function code n)) (formals_of (code_function code n)) passes protects))
environments_after code environments (Return value) = below environments
environments_after code environments op = environments

-- the environment of a child
abbrev pub child_environment : Code → List RegionEnvironment → CodeOp → RegionEnvironment
child_environment code environments (Go n from passes removes) =
    environment_of (function_result_class (code_function code n)) (passed (formals_of (code_function code n))
    (passed_regions (top_names environments) passes))
child_environment code environments op = environment_of NoClass []

-- the frame at another instruction, with the value of a variable written
abbrev pub continued : TacFrame → Option ℕ → Value → ℕ → TacFrame
continued frame to v i = record { function = frame.function; next = i; variables = assigned_variables frame.variables to v }

-- a called function, by what it is in the code with regions
abbrev entering : CodeFn → ℕ → TacFrame → List ℕ → TacFrame
entering callee n frame from = new_tac_frame (erased_fn callee) n (operand_values frame from)

-- what a goroutine did keeps the memory at home and its frames leading home, and so does the child that it started
pub record ActedLeads (code : Code) (environments : List RegionEnvironment) (op : CodeOp) (owners : List Region) (a : Acted) :
    Type 0 where
  pub memory : MemoryHome owners a.memory
  pub frames : FramesLead code owners a.frames (environments_after code environments op)
  -- a trap leaves the environments as they were
  pub calm : Always (λ e. environments_after code environments op ≡ environments) a.trap
  pub children : Each (λ (child : List TacFrame). FramesLead code owners child
      (child_environment code environments op ∷ [])) a.started

-- what an instruction reads is live before it
pub live_read : (fn : CodeFn) (i v : ℕ) (instr : CodeInstr) → HasInstr fn i instr
    → Contains (reads (erased_op instr.op)) v → Live (erased_fn fn) v i
live_read fn i v instr here r = (
  0,
  subst (λ o. Contains (read_by o) v)
      (sym (slice_get-map erased_instr fn.body i ∙ ap (option_map erased_instr) here)) r,
)

home_of_nil : (owners : List Region) (names : Bindings) (c : Class) (v : Value) → v ≡ value.Nil
    → LeadsHome owners names c v
home_of_nil owners names c (value.Int i) e = tt
home_of_nil owners names c (value.Bool b) e = tt
home_of_nil owners names c value.Nil e = tt
home_of_nil owners names c (value.Object o) e = cc

-- zeros are not pointers
pub zeros_plain : (tys : List «Type») → Each IsPlain (map zero_of tys)
zeros_plain [] = tt
zeros_plain (ty ∷ tys) = (zero_plain ty, zeros_plain tys)

each_drop : (P : Value → Type 0) (n : ℕ) (xs : List Value) → Each P xs → Each P (drop n xs)
each_drop P zero xs h = h
each_drop P (suc n) [] h = tt
each_drop P (suc n) (x ∷ xs) h = each_drop P n xs h.1

-- a function that returns without a value has no result, and so its call no target
pub no_target : (code : Code) (fn cfn : CodeFn) (op : CodeOp)
    → (erased_fn fn).result_type ≡ None → IsCallOf code op fn
    → OpExists (erased code) (erased_fn cfn) (erased_op op) → call_target op ≡ None
no_target code fn cfn (Call to n from passes protects removes) no_result calls exists =
    go to (exists.target ∙ ap is_some (ap (λ (t : TacFn). t.result_type) (sym same) ∙ no_result))
  where
    same : erased_fn fn ≡ exists.callee
    same = same_Some (erased_fn fn) exists.callee (sym (slice_get-map erased_fn code.functions n
        ∙ ap (option_map erased_fn) calls) ∙ exists.declared)

    go : (t : Option ℕ) → is_some t ≡ false → t ≡ None
    go None e = refl
    go (Some d) e = absurd (true≢false e)
no_target code fn cfn (Do to action from removes) no_result calls exists = absurd calls
no_target code fn cfn (Go n from passes removes) no_result calls exists = absurd calls
no_target code fn cfn (Print pieces from removes) no_result calls exists = absurd calls
no_target code fn cfn (Jump j removes) no_result calls exists = absurd calls
no_target code fn cfn (Branch v j removes k others) no_result calls exists = absurd calls
no_target code fn cfn (Return value) no_result calls exists = absurd calls

module _ (code : Code) (checked : IsChecked code) (owners : List Region) (m : Memory) (home : MemoryHome owners m)
    (frame : TacFrame) (callers : List TacFrame) (instr : CodeInstr) (cur : current code frame ≡ Some instr) (f : RegionEnvironment)
    (fs : List RegionEnvironment) (lead : FramesLead code owners (frame ∷ callers) (f ∷ fs)) (fn : CodeFn)
    (is_fn : function_at code frame ≡ Some fn) (lends : f.lent ≡ result_class fn) where
  abbrev instr_here : HasInstr fn frame.next instr
  instr_here = here code checked frame fn instr is_fn cur

  slots : (v : ℕ) (s : Slot) → slice_get fn.variables v ≡ Some s → SlotClassFitsType s
  slots = slots_fit code checked frame.function fn is_fn

  -- what is read leads home
  pub reads_home : (v : ℕ) → Contains (reads (erased_op instr.op)) v
      → LeadsHome owners f.names (class_of fn v) (value_at frame v)
  reads_home v r = lead.0 fn is_fn v (live_read fn frame.next v instr instr_here r)

  -- the frame continues along an edge, with the value of a variable written
  pub goes_on : (given : List Region) (to : Option ℕ) (v : Value) (i : ℕ) (removes : List ℕ)
      → Contains {X = ℕ × List ℕ} (edges instr.op frame.next) (i, removes) → writes (erased_op instr.op) ≡ to
      → ((d o : ℕ) → to ≡ Some d → value_at (continued frame to v i) d ≡ value.Object o → class_of fn d ≢ NoClass)
      → HomeAfter fn f.names (owners ++ given) to v → FramesLead code (owners ++ given)
      (continued frame to v i ∷ callers) (f ∷ fs)
  goes_on given to v i removes edge w classed h = (top, more_callers code owners given f callers fs lead.1)
    where
      top : TopLeads code (owners ++ given) (continued frame to v i) f.names
      top g is x l = subst (λ y. LeadsHome (owners ++ given) f.names (class_of y x)
          (value_at (continued frame to v i) x)) (same_Some fn g (sym is_fn ∙ is)) (by to refl)
        where
          l' : Live (erased_fn fn) x i
          l' = subst (λ y. Live (erased_fn y) x i) (same_Some g fn (sym is ∙ is_fn)) l

          -- it was not written
          kept : (writes (erased_op instr.op) ≡ Some x → ⊥) → value_at frame x ≡ value_at (continued frame to v i) x
              → LeadsHome (owners ++ given) f.names (class_of fn x) (value_at (continued frame to v i) x)
          kept n e = subst (LeadsHome (owners ++ given) f.names (class_of fn x)) e
              (more_home owners given f.names (class_of fn x) (value_at frame x)
              (lead.0 fn is_fn x (live_back fn frame.next i x instr removes instr_here edge n l')))

          at : (t : Option ℕ) → to ≡ t → value_at (continued frame to v i) x
              ≡ get_or (assigned_variables frame.variables t v) x value.Nil
          at t e = ap (λ y. get_or (assigned_variables frame.variables y v) x value.Nil) e

          none_some : None ≡ Some x → ⊥
          none_some e = cc

          written : (d : ℕ) → to ≡ Some d → d ≡ x → (get_or (slice_set frame.variables d v) d value.Nil ≡ v)
              ⊎ (get_or (slice_set frame.variables d v) d value.Nil ≡ value.Nil)
              → LeadsHome (owners ++ given) f.names (class_of fn x) (value_at (continued frame to v i) x)
          written d t dx (inr e) = home_of_nil (owners ++ given) f.names (class_of fn x)
              (value_at (continued frame to v i) x) (at (Some d) t
              ∙ ap (λ y. get_or (slice_set frame.variables d v) y value.Nil) (sym dx) ∙ e)
          written d t dx (inl e) =
              let value : value_at (continued frame to v i) x ≡ v =
              at (Some d) t ∙ ap (λ y. get_or (slice_set frame.variables d v) y value.Nil) (sym dx) ∙ e in
              let after : HomeAfter fn f.names (owners ++ given) (Some d) v =
              subst (λ y. HomeAfter fn f.names (owners ++ given) y v) t h in
              subst (λ y. LeadsHome (owners ++ given) f.names (class_of fn x) y) (sym value)
              (subst (λ y. LeadsHome (owners ++ given) f.names (class_of fn y) v) dx
              (after (λ o q. classed d o t (ap (value_at (continued frame to v i)) dx ∙ value ∙ q))))

          by : (t : Option ℕ) → to ≡ t → LeadsHome (owners ++ given) f.names (class_of fn x)
              (value_at (continued frame to v i) x)
          by None t = kept (λ e. none_some (sym (w ∙ t) ∙ e)) (sym (at None t))
          by (Some d) t = split (nat_eq d x)
              (λ u. written d t (eq_of d x u) (value_set frame.variables d v))
              (λ n. kept (λ e. differs n (number (sym (w ∙ t) ∙ e)))
              (value_other frame.variables d x v n ∙ sym (at (Some d) t)))
            where
              number : Some d ≡ Some x → d ≡ x
              number e = cc

              differs : nat_eq d x ≡ false → d ≡ x → ⊥
              differs n e = grind arith

  -- no variable is written
  passes_on : (given : List Region) (i : ℕ) (removes : List ℕ)
      → Contains {X = ℕ × List ℕ} (edges instr.op frame.next) (i, removes) → writes (erased_op instr.op) ≡ None
      → FramesLead code (owners ++ given) (moved_to frame i ∷ callers) (f ∷ fs)
  passes_on given i removes edge w = goes_on given None value.Nil i removes edge w (λ d o e. cc) tt

  -- the result of an action
  acted : (kinds : List «Type») (to : Option ℕ) (action : Action) (from removes : List ℕ) (place : ℕ)
      (e : Option Effect) → instr.op ≡ Do to action from removes
      → MovedIf fn f.names owners m home (if makes_object action then class_region f.names (target_class (Some fn) to)
      else None) to e → (a : Acted) → effected m frame callers to place e ≡ Some a → ActedFits code kinds a
      → (given : List Region) → Allots (if makes_object action then class_region f.names (target_class (Some fn) to)
      else None) (slice_get a.memory.heap (length m.heap)) given → ActedLeads code (f ∷ fs) instr.op (owners ++ given) a
  acted kinds to action from removes place None is moved a q fits given allots = cc
  acted kinds to action from removes place (Some (Does m' v)) is moved a q fits given allots =
      subst (λ x. ActedLeads code (f ∷ fs) instr.op (owners ++ given) x) a_is
      (subst (λ op. ActedLeads code (f ∷ fs) op (owners ++ given) next) (sym is)
      (record {
        memory = x.0;
        frames = goes_on given to v (frame.next + 1) removes
            (subst (λ (op : CodeOp). Contains {X = ℕ × List ℕ} (edges op frame.next) (frame.next + 1, removes)) (sym is)
            (contains_here {X = ℕ × List ℕ} (frame.next + 1, removes) [])) (ap (λ op. writes (erased_op op)) is) classed
            x.1;
        calm = tt;
        children = tt;
      }))
    where
      next : Acted
      next = record { memory = m'; frames = frame_after_instr frame to v ∷ callers; started = []; printed = []; trap = None }

      a_is : record { memory = m'; frames = frame_after_instr frame to v ∷ callers; started = []; printed = []; trap = None } ≡ a
      a_is = same_Some (record {
        memory = m';
        frames = frame_after_instr frame to v ∷ callers;
        started = [];
        printed = [];
        trap =
            None;
      }) a q

      x : MemoryHome (owners ++ given) m' × HomeAfter fn f.names (owners ++ given) to v
      x = moved given (subst (λ (y : Acted). Allots (if makes_object action then class_region f.names
          (target_class (Some fn) to) else None) (slice_get y.memory.heap (length m.heap)) given) (sym a_is) allots)

      classed : (d o : ℕ) → to ≡ Some d → value_at (frame_after_instr frame to v) d ≡ value.Object o → class_of fn d ≢ NoClass
      classed d o t e =
          let fr : FramesHaveKinds code fits.more (frame_after_instr frame to v ∷ callers) =
          subst (λ (y : Acted). FramesHaveKinds code fits.more y.frames) (sym a_is) fits.frames in
          let same : fr.0.0 ≡ fn = same_Some fr.0.0 fn (sym fr.0.1 ∙ is_fn) in
          ref_class fits.more fn (frame_after_instr frame to v) slots (subst
          (λ (g : CodeFn). HaveKinds fits.more (erased_fn g).variables (frame_after_instr frame to v).variables) same fr.0.2) d
          o e
  acted kinds to action from removes place (Some (Traps trap)) is moved a q fits given allots =
      subst (λ x. ActedLeads code (f ∷ fs) instr.op (owners ++ given) x) a_is
      (subst (λ op. ActedLeads code (f ∷ fs) op (owners ++ given)
      (record { memory = m; frames = frame ∷ callers; started = []; printed = []; trap = Some (Trap trap place) }))
      (sym is)
      (record {
        memory = still_memory owners given m _ home
            (subst (λ (y : Acted). Allots (if makes_object action then class_region f.names (target_class (Some fn) to)
            else None) (slice_get y.memory.heap (length m.heap)) given) (sym a_is) allots);
        frames =
            more_frames_lead code owners given (frame ∷ callers) (f ∷ fs) lead;
        calm = refl;
        children = tt;
      }))
    where
      a_is : record { memory = m; frames = frame ∷ callers; started = []; printed = []; trap = Some (Trap trap place) }
          ≡ a
      a_is = same_Some (record {
        memory = m;
        frames = frame ∷ callers;
        started = [];
        printed = [];
        trap =
            Some (Trap trap place);
      }) a q

  -- a `go` or a call enters a function
  entered_home : (kinds : List «Type») (to : Option ℕ) (n : ℕ) (callee : CodeFn) (from : List ℕ) (passes : List Class)
      (given : List Region) → slice_get code.functions n ≡ Some callee → length from ≡ callee.params
      → PassesClasses fn callee to from passes → ((v : ℕ) → Contains from v → Contains (reads (erased_op instr.op)) v)
      → FramesHaveKinds code kinds (entering callee n frame from ∷ [])
      → TopLeads code (owners ++ given) (entering callee n frame from)
      (passed (region_parameters callee) (passed_regions f.names passes))
  entered_home kinds to n callee from passes given found args rightly read typed g is v l =
      subst (λ y. LeadsHome (owners ++ given) names (class_of y v) (value_at entered v))
      (same_Some callee g (sym found ∙ is)) (by (slice_get entered.variables v) refl)
    where
      entered : TacFrame
      entered = entering callee n frame from

      names : Bindings
      names = passed (region_parameters callee) (passed_regions f.names passes)

      same : typed.0.0 ≡ callee
      same = same_Some typed.0.0 callee (sym typed.0.1 ∙ found)

      classed : (o : ℕ) → value_at (entering callee n frame from) v ≡ value.Object o → class_of callee v ≢ NoClass
      classed o e = ref_class kinds callee (entering callee n frame from) (slots_fit code checked n callee found)
          (subst (λ (g : CodeFn). HaveKinds kinds (erased_fn g).variables (entering callee n frame from).variables) same
          typed.0.2) v o e

      -- the variables after the parameters are zero
      opened : Each IsPlain (map zero_of (erased_fn callee).variables)
      opened = zeros_plain (erased_fn callee).variables

      argument : (x : Value) (o : Option ℕ) → slice_get from v ≡ o → slice_get (operand_values frame from) v ≡ Some x
          → value_at (entering callee n frame from) v ≡ x → LeadsHome (owners ++ given)
          (passed (region_parameters callee) (passed_regions f.names passes)) (class_of callee v)
          (value_at (entering callee n frame from) v)
      argument x None a e q = let z : None ≡ Some x = sym (slice_get-map (value_at frame) from v
          ∙ ap (option_map (value_at frame)) a) ∙ e in cc
      argument x (Some b) a e q =
          let xb : value_at frame b ≡ x = same_Some (value_at frame b) x
          (sym (slice_get-map (value_at frame) from v ∙ ap (option_map (value_at frame)) a) ∙ e) in
          let below : v < callee.params = let z = slice_get_within from v b a in omega (arith, z, args) in
          let h = more_home owners given f.names (class_of fn b) (value_at frame b)
          (reads_home b (read b (get_contains from v b a))) in
          formal_home (owners ++ given) f.names (region_parameters callee) passes (class_of callee v) (class_of fn b)
          (value_at (entering callee n frame from) v) (formals_once callee) (rightly.arguments v b below a)
          (λ m c. any_at m (region_parameters callee) ((formals_are callee m).1 (inl (v, below, c)))) classed
          (subst (λ w. LeadsHome (owners ++ given) f.names (class_of fn b) w) (xb ∙ sym q) h)

      by : (o : Option Value) → slice_get (entering callee n frame from).variables v ≡ o
          → LeadsHome (owners ++ given) (passed (region_parameters callee) (passed_regions f.names passes))
          (class_of callee v) (value_at (entering callee n frame from) v)
      by None e = home_of_nil (owners ++ given) (passed (region_parameters callee) (passed_regions f.names passes))
          (class_of callee v) (value_at (entering callee n frame from) v)
          (value_is (entering callee n frame from).variables v ∙ ap or_nil e)
      by (Some x) e = go (get_append_cases (operand_values frame from)
          (drop (length (operand_values frame from)) (map zero_of (erased_fn callee).variables)) v x e)
        where
          go : (slice_get (operand_values frame from) v ≡ Some x)
              ⊎ ((j : ℕ) × (slice_get (drop (length (operand_values frame from)) (map zero_of (erased_fn callee).variables))
              j ≡ Some x)) → LeadsHome (owners ++ given) (passed (region_parameters callee)
              (passed_regions f.names passes)) (class_of callee v) (value_at (entering callee n frame from) v)
          go (inl q) = argument x (slice_get from v) refl q (value_is (entering callee n frame from).variables v
              ∙ ap or_nil e)
          go (inr (j, q)) =
              subst (λ w. LeadsHome (owners ++ given) (passed (region_parameters callee)
              (passed_regions f.names passes)) (class_of callee v) w)
              (sym (value_is (entering callee n frame from).variables v ∙ ap or_nil e))
              (home_of_plain (owners ++ given) (passed (region_parameters callee) (passed_regions f.names passes))
              (class_of callee v) x (each_get IsPlain (drop (length (operand_values frame from))
              (map zero_of (erased_fn callee).variables)) j x
              (each_drop IsPlain (length (operand_values frame from)) (map zero_of (erased_fn callee).variables) opened)
              q))

  -- ---- a call

  module _ (to : Option ℕ) (n : ℕ) (from : List ℕ) (passes : List Class) (protects removes : List ℕ)
      (is : instr.op ≡ Call to n from passes protects removes) (callee : CodeFn)
      (named : code_function code n ≡ Some callee) where
    abbrev given_list : List ℕ
    given_list = given_names (result_class callee) (region_parameters callee) passes protects

    abbrev left : Bindings
    left = without_all f.names (given_names (result_class callee) (region_parameters callee) passes protects)

    rightly : PassesClasses fn callee to from passes
    rightly = (let x : CallsPass code fn (Call to n from passes protects removes) =
        subst (CallsPass code fn) is (checked rule.Calls (line.Instr frame.function frame.next) fn instr is_fn
        instr_here) in subst (λ o. CallPasses fn o to from passes) named x)

    protects_rightly : ProtectsUsed fn frame.next (Call to n from passes protects removes)
    protects_rightly = subst (ProtectsUsed fn frame.next) is
        (checked rule.Protections (line.Instr frame.function frame.next) fn instr is_fn instr_here)

    -- what is not given keeps its region
    unless_given : (k : ℕ) → (LeavesToCallee code (Call to n from passes protects removes) k → ⊥)
        → bound (without_all f.names (given_names (result_class callee) (region_parameters callee) passes protects)) k
        ≡ bound f.names k
    unless_given k not_given = left_other given_list f.names k (none (times_in k given_list) refl)
      where
        none : (i : ℕ) → times_in k (given_names (result_class callee) (region_parameters callee) passes protects) ≡ i
            → times_in k (given_names (result_class callee) (region_parameters callee) passes protects) ≡ 0
        none zero e = e
        none (suc i) e = absurd (not_given ((gives_are code fn callee frame.next to n from passes protects removes
            f.names named rightly.len protects_rightly k).1 (omega (arith, e))))

    -- so do the names that are live after the call, and that of the caller's result: if they are passed, they are protected (rule 10),
    -- and so not given
    behind_kept : (k : ℕ) → IsLiveName fn k (frame.next + 1) ⊎ (result_class fn ≡ Name k)
        → bound (without_all f.names (given_names (result_class callee) (region_parameters callee) passes protects)) k
        ≡ bound f.names k
    behind_kept k h = unless_given k (λ g. g.1 ((protects_rightly k).1 (g.0, by h)))
      where
        by : {T : Type 0} → IsLiveName fn k (frame.next + 1) ⊎ (result_class fn ≡ Name k)
            → IsLiveName fn k (frame.next + 1) ⊎ ((result_class fn ≡ Name k) ⊎ T)
        by (inl l) = inl l
        by (inr r) = inr (inl r)

    edge : Contains {X = ℕ × List ℕ} (edges instr.op frame.next) (frame.next + 1, removes)
    edge = subst (λ (op : CodeOp). Contains {X = ℕ × List ℕ} (edges op frame.next) (frame.next + 1, removes)) (sym is)
        (contains_here {X = ℕ × List ℕ} (frame.next + 1, removes) [])

    -- what the caller needs after the call leads home with the names that are left to it
    caller_leads : (given : List Region) → CallerLeads code (owners ++ given) frame
        (without_all f.names (given_names (result_class callee) (region_parameters callee) passes protects))
    caller_leads given g call' is' cur' v n l =
        subst (λ y. LeadsHome (owners ++ given) left (class_of y v) (value_at frame v))
        (same_Some fn g (sym is_fn ∙ is'))
        (renamed_home (owners ++ given) f.names left (class_of fn v) (value_at frame v)
        (class_other f.names left (class_of fn v) (λ k c.
        behind_kept k (inl (record { variable = v; named = c; live = l' }))))
        (more_home owners given f.names (class_of fn v) (value_at frame v)
        (lead.0 fn is_fn v (live_back fn frame.next (frame.next + 1) v instr removes instr_here edge unwritten
        l'))))
      where
        l' : Live (erased_fn fn) v (frame.next + 1)
        l' = subst (λ y. Live (erased_fn y) v (frame.next + 1)) (same_Some g fn (sym is' ∙ is_fn)) l

        target : to ≢ Some v
        target e = (subst (λ (i : CodeInstr). call_target i.op ≢ Some v) (same_Some call' instr (sym cur' ∙ cur)) n)
            (is_target e)
          where
            is_target : to ≡ Some v → call_target instr.op ≡ Some v
            is_target e = ap call_target is ∙ e

        unwritten : writes (erased_op instr.op) ≡ Some v → ⊥
        unwritten e = target (sym (ap (λ op. writes (erased_op op)) is) ∙ e)

    -- the region of the callee's result is that of the variable that waits for it
    linked : IsLinked code (environment_of (result_class callee)
        (passed (region_parameters callee) (passed_regions f.names passes))) frame
        (record f {
          names = without_all f.names (given_names (result_class callee) (region_parameters callee) passes
              protects);
        })
    linked g call' d is' cur' t n = subst (λ y. class_region callee_names (result_class callee)
        ≡ class_region left (class_of y d)) (same_Some fn g (sym is_fn ∙ is')) (by (result_class callee) refl)
      where
        callee_names : Bindings
        callee_names = passed (region_parameters callee) (passed_regions f.names passes)

        to_is : to ≡ Some d
        to_is = sym (ap call_target is) ∙ ap (λ (i : CodeInstr). call_target i.op)
            (same_Some instr call' (sym cur ∙ cur')) ∙ t

        fits : IsPassedFor (region_parameters callee) passes (result_class callee) (class_of fn d)
        fits = rightly.result d to_is

        by : (c : Class) → result_class callee ≡ c → class_region
            (passed (region_parameters callee) (passed_regions f.names passes)) (result_class callee)
            ≡ class_region (without_all f.names (given_names (result_class callee) (region_parameters callee) passes
            protects)) (class_of fn d)
        by NoClass e = absurd (n e)
        by Global e =
            let g : class_of fn d ≡ Global = subst (λ c. IsPassedFor (region_parameters callee) passes c
            (class_of fn d)) e fits in
            ap (class_region (passed (region_parameters callee) (passed_regions f.names passes))) e
            ∙ sym (ap (class_region left) g)
        by (Name m) e =
            let p = any_at m (region_parameters callee) ((formals_are callee m).1 (inr e)) in
            let at : slice_get passes p.0 ≡ Some (class_of fn d) =
            (let x : IsPassedFor (region_parameters callee) passes (Name m) (class_of fn d) =
            subst (λ c. IsPassedFor (region_parameters callee) passes c (class_of fn d)) e fits in x p.0 p.1) in
            ap (class_region (passed (region_parameters callee) (passed_regions f.names passes))) e
            ∙ passed_at f.names (region_parameters callee) passes p.0 m (class_of fn d) (formals_once callee) p.1 at
            ∙ sym (class_other f.names left (class_of fn d) (λ k c.
            unless_given k (λ g. g.2 (record {
              at = p.0;
              parameter =
                  subst (λ (o : Option CodeFn). slice_get (callee_regions o) p.0 ≡ Some (callee_result o)) (sym named)
                  (p.1 ∙ ap Some (sym e));
              passed = at ∙ ap Some c;
            }))))

    -- the callee enters, and the caller waits
    calls : (kinds : List «Type») (given : List Region) → length from ≡ callee.params
        → FramesHaveKinds code kinds (entering callee n frame from ∷ frame ∷ callers)
        → FramesLead code (owners ++ given) (entering callee n frame from ∷ frame ∷ callers)
        (environments_after code (f ∷ fs) (Call to n from passes protects removes))
    calls kinds given args typed =
        subst (λ (o : Option CodeFn). FramesLead code (owners ++ given) (entering callee n frame from ∷ frame ∷ callers)
        (environment_of (function_result_class o) (passed (formals_of o) (passed_regions f.names passes)) ∷ record f
        { names = without_all f.names (given_names (function_result_class o) (formals_of o) passes protects) } ∷ fs))
        (sym named) (
          entered_home kinds to n callee from passes given named args rightly
              (λ v c. subst (λ op. Contains (reads (erased_op op)) v) (sym is) c) (typed.0, tt, tt),
          (caller_leads given, linked, waits callers fs lead.1),
        )
      where
        waits : (cs : List TacFrame) (ds : List RegionEnvironment) → CallersLead code owners f cs ds
            → CallersLead code (owners ++ given) (record f {
              names =
                  without_all f.names (given_names (result_class callee) (region_parameters callee) passes protects);
            }) cs ds
        waits [] [] h = tt
        waits [] (d ∷ ds) h = h
        waits (c ∷ cs) [] h = h
        waits (c ∷ cs) (d ∷ ds) h = (
          (λ g call is' cur' v n l. more_home owners given d.names (class_of g v) (value_at c v)
              (h.0 g call is' cur' v n l)),
          (λ g call v' is' cur' t n. class_other f.names (without_all f.names
              (given_names (result_class callee) (region_parameters callee) passes protects)) f.lent
              (λ k c'. behind_kept k (inr (sym lends ∙ c'))) ∙ h.1 g call v' is' cur' t n),
          more_callers code owners given d cs ds h.2,
        )

  -- ---- a return

  no_value : instr.op ≡ Return None → (erased_fn fn).result_type ≡ None
  no_value is = let x : IsWellTypedOp (erased code) (erased_fn fn) (erased_op (Return None)) =
      subst (λ op. IsWellTypedOp (erased code) (erased_fn fn) (erased_op op)) is
      (checked rule.Types (line.Instr frame.function frame.next) fn instr is_fn instr_here) in x

  -- a pointer that is returned has the class of the result
  result_agrees : (v : ℕ) → instr.op ≡ Return (Some v) → class_of fn v ≢ NoClass → class_of fn v ≡ result_class fn
  result_agrees v is n = pointer_likes_agree fn (member.Variable v) member.Result like
      (ap is_pointer_like_type typed.1 ∙ sym (ap is_pointer_like_type typed.2) ∙ like) agrees
    where
      agrees : ReturnsAgree fn (Return (Some v))
      agrees = subst (ReturnsAgree fn) is (checked rule.Returns (line.Instr frame.function frame.next) fn instr is_fn
          instr_here)

      typed : IsWellTypedOp (erased code) (erased_fn fn) (erased_op (Return (Some v)))
      typed = subst (λ op. IsWellTypedOp (erased code) (erased_fn fn) (erased_op op)) is
          (checked rule.Types (line.Instr frame.function frame.next) fn instr is_fn instr_here)

      like : is_pointer_like_member (erased_fn fn) (member.Variable v) ≡ true
      like = class_pointer_like fn slots (result_fits code checked frame.function fn is_fn) (member.Variable v) n

  -- the caller continues: its target has what was lent, and the rest led home while it waited
  returned_leads : (kinds : List «Type») (back : Option ℕ) (given : List Region) → instr.op ≡ Return back
      → FramesHaveKinds code kinds (frame ∷ callers) → (a : Acted)
      → returned (erased code) m (option_map (value_at frame) back) callers ≡ Some a
      → Allots None (slice_get a.memory.heap (length m.heap)) given
      → ActedLeads code (f ∷ fs) (Return back) (owners ++ given) a
  returned_leads kinds back given is typed a q allots = go callers fs lead.1 typed.1 typed.2 q
    where
      memory : a.memory ≡ m → MemoryHome (owners ++ given) a.memory
      memory e = subst (MemoryHome (owners ++ given)) (sym e)
          (still_memory owners given m None home (subst (λ (y : Memory).
          Allots None (slice_get y.heap (length m.heap)) given) e allots))

      go : (cs : List TacFrame) (ds : List RegionEnvironment) → CallersLead code owners f cs ds → CalledFrom code frame cs
          → FramesHaveKinds code kinds cs → returned (erased code) m (option_map (value_at frame) back) cs ≡ Some a
          → ActedLeads code (f ∷ ds) (Return back) (owners ++ given) a
      go [] ds h c t q =
          let is_a = same_Some (record { memory = m; frames = []; started = []; printed = []; trap = None }) a q in
          record {
            memory = memory (sym (ap (λ (x : Acted). x.memory) is_a));
            frames =
                subst (λ (x : Acted). FramesLead code (owners ++ given) x.frames ds) is_a tt;
            calm =
                subst (λ (x : Acted). Always (λ e. ds ≡ f ∷ ds) x.trap) is_a tt;
            children =
                subst (λ (x : Acted). Each (λ (child : List TacFrame).
                FramesLead code (owners ++ given) child (environment_of NoClass [] ∷ [])) x.started) is_a tt;
          }
      go (caller ∷ cs) [] h c t q = absurd h
      go (caller ∷ cs) (d ∷ ds) h (g, is_g, caller_instr, cur', calls') t q =
          let is_a = same_Some (record {
            memory = m;
            frames =
                tac_resumed (erased code) caller (option_map (value_at frame) back) ∷ cs;
            started = [];
            printed = [];
            trap =
                None;
          }) a q in
          record {
            memory = memory (sym (ap (λ (x : Acted). x.memory) is_a));
            frames =
                subst (λ (x : Acted). FramesLead code (owners ++ given) x.frames (d ∷ ds)) is_a
                (top, more_callers code owners given d cs ds h.2);
            calm =
                subst (λ (x : Acted). Always (λ e. d ∷ ds ≡ f ∷ d ∷ ds) x.trap) is_a tt;
            children =
                subst (λ (x : Acted). Each (λ (child : List TacFrame).
                FramesLead code (owners ++ given) child (environment_of NoClass [] ∷ [])) x.started) is_a tt;
          }
        where
          target : (op : CodeOp) → target_of (erased_op op) ≡ call_target op
          target (Call to n from passes protects removes) = refl
          target (Do to action from removes) = refl
          target (Go n from passes removes) = refl
          target (Print pieces from removes) = refl
          target (Jump j removes) = refl
          target (Branch v j removes k others) = refl
          target (Return back) = refl

          is_resumed : tac_resumed (erased code) caller (option_map (value_at frame) back)
              ≡ resumed_by caller (erased_op caller_instr.op) (option_map (value_at frame) back)
          is_resumed = ap (λ o. resumed_at caller o (option_map (value_at frame) back))
              (current_erased code caller ∙ ap (option_map erased_instr) cur')

          here_c : HasInstr t.0.0 caller.next caller_instr
          here_c = here code checked caller t.0.0 caller_instr t.0.1 cur'

          exists : OpExists (erased code) (erased_fn t.0.0) (erased_op caller_instr.op)
          exists = (checked rule.Exists (line.Instr caller.function caller.next) t.0.0 caller_instr t.0.1 here_c).exists

          calls_fn : IsCallOf code caller_instr.op fn
          calls_fn = subst (IsCallOf code caller_instr.op) (same_Some g fn (sym is_g ∙ is_fn)) calls'

          none_some : (v : ℕ) → None ≡ Some v → ⊥
          none_some v e = cc

          -- what is not the target stays
          other : (cfn : CodeFn) (v : ℕ) → function_at code caller ≡ Some cfn → Live (erased_fn cfn) v (caller.next + 1)
              → call_target caller_instr.op ≢ Some v → LeadsHome (owners ++ given) d.names (class_of cfn v)
              (value_at caller v)
          other cfn v is_c l n = more_home owners given d.names (class_of cfn v) (value_at caller v)
              (h.0 cfn caller_instr is_c cur' v n l)

          -- the value comes from the region that was lent
          result : (cfn : CodeFn) (to v : ℕ) → function_at code caller ≡ Some cfn → call_target caller_instr.op
              ≡ Some to → back ≡ Some v → LeadsHome (owners ++ given) d.names (class_of cfn to) (value_at frame v)
          result cfn to v is_c t e = lent (value_at frame v) hv
            where
              is' : instr.op ≡ Return (Some v)
              is' = is ∙ ap Return e

              hv : LeadsHome (owners ++ given) f.names (class_of fn v) (value_at frame v)
              hv = more_home owners given f.names (class_of fn v) (value_at frame v)
                  (reads_home v (subst (λ op. Contains (reads (erased_op op)) v) (sym is') (contains_here v [])))

              lent : (w : Value) → LeadsHome (owners ++ given) f.names (class_of fn v) w
                  → LeadsHome (owners ++ given) d.names (class_of cfn to) w
              lent (value.Int i) k = tt
              lent (value.Bool b) k = tt
              lent value.Nil k = tt
              lent (value.Object o) (r, q, w) =
                  let n = has_class (owners ++ given) f.names (class_of fn v) o (r, q, w) in
                  let e : class_of fn v ≡ f.lent = result_agrees v is' n ∙ sym lends in (
                    r,
                    sym (h.1 cfn caller_instr to is_c cur' t (λ z. n (e ∙ z))) ∙ ap (class_region f.names) (sym e)
                        ∙ q,
                    w,
                  )

          set : (cfn : CodeFn) (v : ℕ) → function_at code caller ≡ Some cfn → Live (erased_fn cfn) v (caller.next + 1)
              → (u : ℕ) → back ≡ Some u → (o : Option ℕ) → call_target caller_instr.op ≡ o
              → LeadsHome (owners ++ given) d.names (class_of cfn v)
              (get_or (assigned_variables caller.variables o (value_at frame u)) v value.Nil)
          set cfn v is_c l u e None t = other cfn v is_c l (λ z. none_some v (sym t ∙ z))
          set cfn v is_c l u e (Some to) t = split (nat_eq to v) (λ w. same (eq_of to v w))
              (λ n. subst (λ w. LeadsHome (owners ++ given) d.names (class_of cfn v) w)
              (value_other caller.variables to v (value_at frame u) n)
              (other cfn v is_c l (λ z. differs n (same_Some to v (sym t ∙ z)))))
            where
              differs : nat_eq to v ≡ false → to ≡ v → ⊥
              differs n z = grind arith

              same : to ≡ v → LeadsHome (owners ++ given) d.names (class_of cfn v)
                  (get_or (slice_set caller.variables to (value_at frame u)) v value.Nil)
              same w = subst (λ x. LeadsHome (owners ++ given) d.names (class_of cfn x)
                  (get_or (slice_set caller.variables to (value_at frame u)) x value.Nil)) w
                  (go' (value_set caller.variables to (value_at frame u)))
                where
                  go' : (get_or (slice_set caller.variables to (value_at frame u)) to value.Nil ≡ value_at frame u)
                      ⊎ (get_or (slice_set caller.variables to (value_at frame u)) to value.Nil ≡ value.Nil)
                      → LeadsHome (owners ++ given) d.names (class_of cfn to)
                      (get_or (slice_set caller.variables to (value_at frame u)) to value.Nil)
                  go' (inl z) = subst (LeadsHome (owners ++ given) d.names (class_of cfn to)) (sym z)
                      (result cfn to u is_c t e)
                  go' (inr z) = home_of_nil (owners ++ given) d.names (class_of cfn to) _ z

          by : (w : Option ℕ) → back ≡ w → TopLeads code (owners ++ given)
              (resumed_by caller (erased_op caller_instr.op) (option_map (value_at frame) w)) d.names
          by None e cfn is_c v l = other cfn v is_c l (λ z. none_some v
              (sym (no_target code fn t.0.0 caller_instr.op (no_value (is ∙ ap Return e)) calls_fn exists) ∙ z))
          by (Some u) e cfn is_c v l = subst (λ o. LeadsHome (owners ++ given) d.names (class_of cfn v)
              (get_or (assigned_variables caller.variables o (value_at frame u)) v value.Nil)) (sym (target caller_instr.op))
              (set cfn v is_c l u e (call_target caller_instr.op) refl)

          top : TopLeads code (owners ++ given) (tac_resumed (erased code) caller (option_map (value_at frame) back))
              d.names
          top = subst (λ x. TopLeads code (owners ++ given) x d.names) (sym is_resumed) (by back refl)

  -- ---- a `go`

  -- the child starts with what was passed
  begins : (kinds : List «Type») (n : ℕ) (from : List ℕ) (passes : List Class) (removes : List ℕ) (callee : CodeFn)
      (given : List Region) → instr.op ≡ Go n from passes removes → code_function code n ≡ Some callee → length from
      ≡ callee.params → FramesHaveKinds code kinds (entering callee n frame from ∷ [])
      → FramesLead code (owners ++ given) (entering callee n frame from ∷ [])
      (child_environment code (f ∷ fs) (Go n from passes removes) ∷ [])
  begins kinds n from passes removes callee given is named args typed =
      subst (λ (o : Option CodeFn). FramesLead code (owners ++ given) (entering callee n frame from ∷ [])
      (environment_of (function_result_class o) (passed (formals_of o) (passed_regions f.names passes)) ∷ [])) (sym named) (
        entered_home kinds None n callee from passes given named args rightly.1
            (λ v c. subst (λ op. Contains (reads (erased_op op)) v) (sym is) c) typed,
        tt,
      )
    where
      rightly : (callee.result ≡ None) × PassesClasses fn callee None from passes
      rightly = (let x : StartsPass code fn (Go n from passes removes) =
          subst (StartsPass code fn) is (checked rule.Starts (line.Instr frame.function frame.next) fn instr is_fn
          instr_here) in subst (λ o. StartPasses fn o from passes) named x)

  -- ---- each instruction

  -- a frame that continues, with nothing made and nothing written
  moved_on : (op : CodeOp) → instr.op ≡ op → (i : ℕ) (removes : List ℕ)
      → Contains {X = ℕ × List ℕ} (edges op frame.next) (i, removes) → writes (erased_op op) ≡ None
      → environments_after code (f ∷ fs) op ≡ f ∷ fs → (printed : List ℕ) (a : Acted)
      → record { memory = m; frames = moved_to frame i ∷ callers; started = []; printed = printed; trap = None } ≡ a
      → (region : Option Region) (given : List Region) → Allots region (slice_get a.memory.heap (length m.heap)) given
      → ActedLeads code (f ∷ fs) op (owners ++ given) a
  moved_on op is i removes edge w environments printed a is_a region given allots =
      subst (ActedLeads code (f ∷ fs) op (owners ++ given)) is_a
      (record {
        memory = still_memory owners given m region home (subst
            (λ (y : Acted). Allots region (slice_get y.memory.heap (length m.heap)) given) (sym is_a) allots);
        frames = subst (FramesLead code (owners ++ given) (moved_to frame i ∷ callers)) (sym environments)
            (passes_on given i removes (subst (λ (o : CodeOp).
            Contains {X = ℕ × List ℕ} (edges o frame.next) (i, removes)) (sym is) edge)
            (ap (λ o. writes (erased_op o)) is ∙ w));
        calm = tt;
        children = tt;
      })

  -- the callee, with what the rules say of it
  record Callee (n : ℕ) (from : List ℕ) : Type 0 where
    callee : CodeFn
    found : code_function code n ≡ Some callee
    args : length from ≡ callee.params

  callee_of : (n : ℕ) (from : List ℕ) (t : TacFn) → slice_get (erased code).functions n ≡ Some t → length from
      ≡ t.params → Callee n from
  callee_of n from t e l = go (slice_get code.functions n) refl (sym (slice_get-map erased_fn code.functions n) ∙ e)
    where
      params : (c : CodeFn) → Some (erased_fn c) ≡ Some t → t.params ≡ c.params
      params c e = ap (λ (x : TacFn). x.params) (sym (same_Some (erased_fn c) t e))

      go : (o : Option CodeFn) → slice_get code.functions n ≡ o → option_map erased_fn o ≡ Some t → Callee n from
      go None q e = cc
      go (Some c) q e = record { callee = c; found = q; args = l ∙ params c e }

  -- whatever a goroutine does alone, it keeps pointers at home
  pub acts_lead : (kinds : List «Type») → MemoryFits code kinds m → FramesHaveKinds code kinds (frame ∷ callers)
      → (a : Acted) → alone (erased code) m (frame ∷ callers) ≡ Some a → ActedFits code kinds a → (given : List Region)
      → Allots (making_region (Some fn) f.names instr.op) (slice_get a.memory.heap (length m.heap)) given
      → ActedLeads code (f ∷ fs) instr.op (owners ++ given) a
  acts_lead kinds fits typed a q after given allots = by instr.op refl
    where
      q' : act (erased code) m (erased_op instr.op) instr.place frame callers ≡ Some a
      q' = sym (ap (λ o. act_at (erased code) m o frame callers)
          (current_erased code frame ∙ ap (option_map erased_instr) cur)) ∙ q

      acts : (op : CodeOp) → instr.op ≡ op → act (erased code) m (erased_op op) instr.place frame callers ≡ Some a
      acts op is = sym (ap (λ o. act (erased code) m (erased_op o) instr.place frame callers) is) ∙ q'

      allots_at : (op : CodeOp) → instr.op ≡ op → Allots (making_region (Some fn) f.names op)
          (slice_get a.memory.heap (length m.heap)) given
      allots_at op is = subst (λ o. Allots (making_region (Some fn) f.names o) (slice_get a.memory.heap (length m.heap))
          given) is allots

      at : (op : CodeOp) → instr.op ≡ op → ActedLeads code (f ∷ fs) op (owners ++ given) a
          → ActedLeads code (f ∷ fs) instr.op (owners ++ given) a
      at op is = subst (λ o. ActedLeads code (f ∷ fs) o (owners ++ given) a) (sym is)

      exists : (op : CodeOp) → instr.op ≡ op → OpExists (erased code) (erased_fn fn) (erased_op op)
      exists op is = subst (λ o. OpExists (erased code) (erased_fn fn) (erased_op o)) is
          (checked rule.Exists (line.Instr frame.function frame.next) fn instr is_fn instr_here).exists

      found : (n : ℕ) (c : CodeFn) → code_function code n ≡ Some c → slice_get (erased code).functions n
          ≡ Some (erased_fn c)
      found n c e = slice_get-map erased_fn code.functions n ∙ ap (option_map erased_fn) e

      by : (op : CodeOp) → instr.op ≡ op → ActedLeads code (f ∷ fs) instr.op (owners ++ given) a
      by (Do to action from removes) is =
          acted kinds to action from removes (trap_place action instr.place)
          (performed code.structs action (destination_type (erased code) frame to) (operand_values frame from) m) is
          (homes fn f.names frame owners m home to code.structs (destination_type (erased code) frame to) action from
          (joins_agree code checked frame.function frame.next fn instr is_fn instr_here to action from removes is)
          (λ v c. reads_home v (subst (λ op. Contains (reads (erased_op op)) v) (sym is) c)))
          a (acts (Do to action from removes) is) after given (allots_at (Do to action from removes) is)
      by (Call to n from passes protects removes) is = at (Call to n from passes protects removes) is done
        where
          there : OpExists (erased code) (erased_fn fn) (erased_op (Call to n from passes protects removes))
          there = exists (Call to n from passes protects removes) is

          c : Callee n from
          c = callee_of n from there.callee there.declared there.arguments

          is_a : record {
            memory = m;
            frames = entering c.callee n frame from ∷ frame ∷ callers;
            started = [];
            printed =
                [];
            trap = None;
          } ≡ a
          is_a = same_Some (record {
            memory = m;
            frames = entering c.callee n frame from ∷ frame ∷ callers;
            started =
                [];
            printed = [];
            trap = None;
          }) a (ap (call m frame callers n (operand_values frame from))
              (sym (found n c.callee c.found)) ∙ acts (Call to n from passes protects removes) is)

          done : ActedLeads code (f ∷ fs) (Call to n from passes protects removes) (owners ++ given) a
          done =
              subst (ActedLeads code (f ∷ fs) (Call to n from passes protects removes) (owners ++ given)) is_a
              (record {
                memory = still_memory owners given m None home (subst
                    (λ (y : Acted). Allots None (slice_get y.memory.heap (length m.heap)) given) (sym is_a)
                    (allots_at (Call to n from passes protects removes) is));
                frames = calls to n from passes protects removes is c.callee c.found after.more given c.args
                    (subst (λ (x : Acted). FramesHaveKinds code after.more x.frames) (sym is_a) after.frames);
                calm = tt;
                children = tt;
              })
      by (Go n from passes removes) is = at (Go n from passes removes) is done
        where
          there : OpExists (erased code) (erased_fn fn) (erased_op (Go n from passes removes))
          there = exists (Go n from passes removes) is

          c : Callee n from
          c = callee_of n from there.callee there.declared there.arguments

          is_a : record {
            memory = m;
            frames = moved_to frame (frame.next + 1) ∷ callers;
            started =
                (entering c.callee n frame from ∷ []) ∷ [];
            printed = [];
            trap = None;
          } ≡ a
          is_a = same_Some (record {
            memory = m;
            frames = moved_to frame (frame.next + 1) ∷ callers;
            started =
                (entering c.callee n frame from ∷ []) ∷ [];
            printed = [];
            trap = None;
          }) a
              (ap (start m frame callers n (operand_values frame from)) (sym (found n c.callee c.found))
              ∙ acts (Go n from passes removes) is)

          typed' : Each (FramesHaveKinds code after.more) ((entering c.callee n frame from ∷ []) ∷ [])
          typed' = subst (λ (x : Acted). Each (FramesHaveKinds code after.more) x.started) (sym is_a) after.started

          done : ActedLeads code (f ∷ fs) (Go n from passes removes) (owners ++ given) a
          done =
              subst (ActedLeads code (f ∷ fs) (Go n from passes removes) (owners ++ given)) is_a
              (record {
                memory = still_memory owners given m None home (subst
                    (λ (y : Acted). Allots None (slice_get y.memory.heap (length m.heap)) given) (sym is_a)
                    (allots_at (Go n from passes removes) is));
                frames = passes_on given (frame.next + 1) removes
                    (subst (λ (op : CodeOp). Contains {X = ℕ × List ℕ} (edges op frame.next) (frame.next + 1, removes))
                    (sym is) (contains_here {X = ℕ × List ℕ} (frame.next + 1, removes) []))
                    (ap (λ o. writes (erased_op o)) is);
                calm = tt;
                children = (begins after.more n from passes removes c.callee given is c.found c.args typed'.0, tt);
              })
      by (Print pieces from removes) is = at (Print pieces from removes) is
          (moved_on (Print pieces from removes) is (frame.next + 1) removes
          (contains_here {X = ℕ × List ℕ} (frame.next + 1, removes) []) refl refl
          (printed_line pieces (operand_values frame from)) a (same_Some _ a (acts (Print pieces from removes) is)) None given
          (allots_at (Print pieces from removes) is))
      by (Jump j removes) is = at (Jump j removes) is (moved_on (Jump j removes) is j removes
          (contains_here {X = ℕ × List ℕ} (j, removes) []) refl refl [] a (same_Some _ a (acts (Jump j removes) is))
          None given (allots_at (Jump j removes) is))
      by (Branch v j removes k others) is = at (Branch v j removes k others) is
          (go (is_true (value_at frame v)) (acts (Branch v j removes k others) is))
        where
          go : (b : Bool) → moves m (moved_to frame (if b then j else k) ∷ callers) ≡ Some a
              → ActedLeads code (f ∷ fs) (Branch v j removes k others) (owners ++ given) a
          go true q = moved_on (Branch v j removes k others) is j removes
              (contains_here {X = ℕ × List ℕ} (j, removes) ((k, others) ∷ [])) refl refl [] a (same_Some _ a q) None
              given (allots_at (Branch v j removes k others) is)
          go false q = moved_on (Branch v j removes k others) is k others
              (contains_there {X = ℕ × List ℕ} (j, removes) ((k, others) ∷ []) (k, others)
              (contains_here {X = ℕ × List ℕ} (k, others) [])) refl refl [] a (same_Some _ a q) None given
              (allots_at (Branch v j removes k others) is)
      by (Return value) is = at (Return value) is (returned_leads kinds value given is typed a (acts (Return value) is)
          (allots_at (Return value) is))
