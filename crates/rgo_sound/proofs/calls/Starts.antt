-- A `go` of checked code keeps what holds of the state: the child has the stakes that were pending.
-- The number of each region's stakes does not change, since pending stakes were counted before (`fine_started`). The child's count of
-- names begins here: what is passed once has one name, and what is passed more often is in the base, where nothing is counted
-- (`child_core`).
use Rattle.std.proofs.Common.{◌≡◌, ℕ, zero, suc, ◌+◌, ◌≤◌, ◌<◌, Bool, true, false, not, ◌&&◌, ◌||◌, List, [], ◌∷◌, ◌++◌}
use Rattle.std.proofs.Common.{map, length, Option, Some, None, is_some, refl, sym, ap, ◌∙◌, subst, nat_eq}
use Rattle.std.proofs.Common.{if◌then◌else◌, arith, ◌⊎◌, inl, inr, ◌↔◌, true≢false, slice_get, slice_set, option_map}
use Rattle.std.proofs.Common.{Contains, length-append}
use Rattle.std.proofs.lemmas.Option.{slice_get_within, same_Some, slice_get-map}
use Rattle.std.specs.List.{list_any}
use Rattle.rgo_sound.proofs.names.Edges.{standing_instr, standing_settled, named_bound}
use Rattle.rgo_sound.proofs.steps.Acting.{no_end, after, Acted, act, act_at, alone, start}
use Rattle.rgo_sound.proofs.Places.{contains_here, ascending_distinct, get_append_last, get_append_left, get_set_other}
use Rattle.rgo_sound.proofs.Places.{get_set_same, get_snoc, get_some, length_set}
use Rattle.rgo_sound.proofs.Tests.{split, eq_of}
use Rattle.rgo_sound.proofs.names.Core.{core_child, bound_held}
use Rattle.rgo_sound.proofs.names.Pending.{at_most_one_is, at_most_one_some, removes_share_none, shares_next}
use Rattle.rgo_sound.proofs.duties.Attends.{total_set}
use Rattle.rgo_sound.proofs.duties.Moves.{moves_on}
use Rattle.rgo_sound.proofs.calls.Passed.{AreFormals, ArePassable, passed_unique, not_passed}
use Rattle.rgo_sound.proofs.calls.Lists.{formals_once, formals_are}
use Rattle.rgo_sound.proofs.calls.Passable.{all_passable, go_reads}
use Rattle.rgo_sound.proofs.calls.Enters.{IsParameter, enters, passed_bound}
use Rattle.rgo_sound.proofs.duties.Instructs.{IsRuled}
use Rattle.rgo_sound.proofs.steps.OneStep.{SameHolder, none_owed, OneDone, current_erased}
use Rattle.rgo_sound.proofs.calls.States.{first_instr}
use Rattle.rgo_sound.proofs.names.Ruled.{ruled}
use Rattle.rgo_code.specs.Checked.{IsChecked}
use Rattle.rgo_code.specs.ClassRules.{PassesClasses, StartPasses, StartsPass}
use Rattle.rgo_code.specs.Code.{Code, CodeFn, CodeInstr, CodeOp, Go}
use Rattle.rgo_code.specs.Erasure.{erased, erased_fn, erased_instr, erased_op}
use Rattle.rgo_code.specs.NameRules.{Ascends, protected_names}
use Rattle.rgo_code.specs.Names.{LeavesToCallee, IsOwn, edges, is_class_named, region_parameters, result_class, slot_class}
use Rattle.rgo_code.specs.Exists.{OpExists, StartExists}
use Rattle.rgo_code.specs.Types.{ArgumentsFit, IsWellTypedOp}
use Rattle.rgo_region_machine.specs.Instructions.{child_holder, has_none, holder_after, instructed_with, last_frames}
use Rattle.rgo_region_machine.specs.Instructions.{unless_trapped}
use Rattle.rgo_region_machine.specs.Owed.{current, current_in, duties_before, entry_removes, formals_of, function_at}
use Rattle.rgo_region_machine.specs.Owed.{next_duties, passed, passed_regions, regions_named, function_result_class, stands_in}
use Rattle.rgo_region_machine.specs.Owed.{twice}
use Rattle.rgo_region_machine.specs.Regions.{Bindings, RegionInfo, bound, class_region, same_region}
use Rattle.rgo_region_machine.specs.States.{Duty, RegionEnvironment, Holder, NoOffer, RegionState, Remove, environment_of}
use Rattle.rgo_region_machine.specs.States.{frames_in, frames_of, top_names}
use Rattle.rgo_region_machine.specs.declared.regions.Region.{Region}
use Rattle.rgo_region_machine.specs.declared.regions.Region.TheVariants.{Global as GlobalRegion, Numbered}
use Rattle.rgo_sound.specs.Core.{AreUnique, NameInvariant}
use Rattle.rgo_sound.specs.Holding.{held_in}
use Rattle.rgo_sound.specs.Invariant.{ArePending, EachOnce, Fine, FramesFit, GoodHolder, HasInstr, IsFree, IsReady}
use Rattle.rgo_sound.specs.Invariant.{Settled, Shares, Stands, at_most_one, bound_times, same_bound, shared_before}
use Rattle.rgo_sound.specs.Invariant.{shared_names, to_share}
use Rattle.rgo_sound.specs.Stakes.{holders_of, is_in, one_when, pending_of, times_in, total}
use Rattle.rgo_tac.specs.Code.{TacFn}
use Rattle.rgo_tac.specs.Frames.{TacFrame, new_tac_frame, moved_to, operand_values}
use Rattle.rgo_tac.specs.Tac.{TacState}
use Rattle.rgo_tac.specs.declared.regions.Class.{Class}
use Rattle.rgo_tac.specs.declared.regions.Class.TheVariants.{Global, Name, NoClass}
use Rattle.rgo_code.specs.declared.rules.Line.TheVariants as line
use Rattle.rgo_code.specs.declared.rules.Rule.TheVariants as rule

-- ---- what is passed to a child, by number

-- how often a region is passed
abbrev given_times : ℕ → List (Option Region) → ℕ
given_times r [] = 0
given_times r (o ∷ given) = one_when (same_bound (Numbered r) o) + given_times r given

zero_add : (n : ℕ) → 0 + n ≡ n
zero_add n = omega arith

given_is : (r : ℕ) (names : Bindings) (passes : List Class) → given_times r (passed_regions names passes)
    ≡ bound_times (Numbered r) names (regions_named passes)
given_is r names [] = refl
given_is r names (Name k ∷ passes) = ap (λ x. one_when (same_bound (Numbered r) (bound names k)) + x)
    (given_is r names passes)
given_is r names (Global ∷ passes) = zero_add (given_times r (passed_regions names passes)) ∙ given_is r names passes
given_is r names (NoClass ∷ passes) = zero_add (given_times r (passed_regions names passes)) ∙ given_is r names passes

stands_yes : (r : ℕ) (given : List (Option Region)) → stands_in (Numbered r) given ≡ true → 1 ≤ given_times r given
stands_yes r [] e = absurd (true≢false (sym e))
stands_yes r (None ∷ given) e = let x = stands_yes r given e in omega (arith, x)
stands_yes r (Some q ∷ given) e = go (same_region (Numbered r) q) e (stands_yes r given)
  where
    go : (b : Bool) → (b || stands_in (Numbered r) given) ≡ true
        → (stands_in (Numbered r) given ≡ true → 1 ≤ given_times r given) → 1 ≤ one_when b + given_times r given
    go true e next = omega arith
    go false e next = let x = next e in omega (arith, x)

stands_no : (r : ℕ) (given : List (Option Region)) → stands_in (Numbered r) given ≡ false → given_times r given ≡ 0
stands_no r [] e = refl
stands_no r (None ∷ given) e = let x = stands_no r given e in omega (arith, x)
stands_no r (Some q ∷ given) e = go (same_region (Numbered r) q) e (stands_no r given)
  where
    go : (b : Bool) → (b || stands_in (Numbered r) given) ≡ false
        → (stands_in (Numbered r) given ≡ false → given_times r given ≡ 0) → one_when b + given_times r given ≡ 0
    go true e next = absurd (true≢false e)
    go false e next = let x = next e in omega (arith, x)

abbrev is_twice : ℕ → List (Option Region) → Bool
is_twice r given = list_any (same_region (Numbered r)) (twice given)

-- what is passed twice is listed, and nothing else
twice_yes : (r : ℕ) (given : List (Option Region)) → is_twice r given ≡ true → 2 ≤ given_times r given
twice_yes r [] e = absurd (true≢false (sym e))
twice_yes r (None ∷ given) e = let x = twice_yes r given e in omega (arith, x)
twice_yes r (Some GlobalRegion ∷ given) e = let x = twice_yes r given e in omega (arith, x)
twice_yes r (Some (Numbered q) ∷ given) e = go (nat_eq r q) refl (stands_in (Numbered q) given) refl (is_twice q given)
    refl e (twice_yes r given)
  where
    go : (b : Bool) → nat_eq r q ≡ b → (st : Bool) → stands_in (Numbered q) given ≡ st → (tw : Bool) → is_twice q given
        ≡ tw → list_any (same_region (Numbered r)) (if st && not tw then Numbered q ∷ twice given else twice given)
        ≡ true → (is_twice r given ≡ true → 2 ≤ given_times r given) → 2 ≤ one_when b + given_times r given
    go true t true st false tw e next = let x = subst (λ y. 1 ≤ given_times y given) (sym (eq_of r q t))
        (stands_yes q given st) in omega (arith, x)
    go true t true st true tw e next = let x = next e in omega (arith, x)
    go true t false st tw' tw e next = let x = next e in omega (arith, x)
    go false n true st false tw e next = let x = next (ap (λ y. y || is_twice r given) (sym n) ∙ e) in omega (arith, x)
    go false n true st true tw e next = let x = next e in omega (arith, x)
    go false n false st tw' tw e next = let x = next e in omega (arith, x)

twice_no : (r : ℕ) (given : List (Option Region)) → is_twice r given ≡ false → given_times r given ≤ 1
twice_no r [] e = omega arith
twice_no r (None ∷ given) e = let x = twice_no r given e in omega (arith, x)
twice_no r (Some GlobalRegion ∷ given) e = let x = twice_no r given e in omega (arith, x)
twice_no r (Some (Numbered q) ∷ given) e = go (nat_eq r q) refl (stands_in (Numbered q) given) refl (is_twice q given)
    refl e (twice_no r given)
  where
    go : (b : Bool) → nat_eq r q ≡ b → (st : Bool) → stands_in (Numbered q) given ≡ st → (tw : Bool) → is_twice q given
        ≡ tw → list_any (same_region (Numbered r)) (if st && not tw then Numbered q ∷ twice given else twice given)
        ≡ false → (is_twice r given ≡ false → given_times r given ≤ 1) → one_when b + given_times r given ≤ 1
    go true t true st false tw e next = absurd (true≢false (sym (ap (λ y. y || is_twice r given) t) ∙ e))
    go true t true st true tw e next = absurd (true≢false (sym tw ∙ ap (λ y. is_twice y given) (sym (eq_of r q t)) ∙ e))
    go true t false st tw' tw e next = let x = subst (λ y. given_times y given ≡ 0) (sym (eq_of r q t))
        (stands_no q given st) in omega (arith, x)
    go false n true st false tw e next = let x = next (sym (ap (λ y. y || is_twice r given) n) ∙ e) in omega (arith, x)
    go false n true st true tw e next = let x = next e in omega (arith, x)
    go false n false st tw' tw e next = let x = next e in omega (arith, x)

twice_once : (given : List (Option Region)) → EachOnce (twice given)
twice_once [] = tt
twice_once (None ∷ given) = twice_once given
twice_once (Some GlobalRegion ∷ given) = twice_once given
twice_once (Some (Numbered q) ∷ given) = go (stands_in (Numbered q) given) (is_twice q given) refl (twice_once given)
  where
    go : (st tw : Bool) → is_twice q given ≡ tw → EachOnce (twice given)
        → EachOnce (if st && not tw then Numbered q ∷ twice given else twice given)
    go true false e h = (e, h)
    go true true e h = h
    go false tw e h = h

-- how many names a child has for a region
held_passed : (r : ℕ) (names : Bindings) (formals passes : List Class) → AreFormals formals → length passes
    ≡ length formals → held_in NoClass r (passed formals (passed_regions names passes))
    ≡ given_times r (passed_regions names passes)
held_passed r names [] [] f l = refl
held_passed r names [] (c ∷ passes) f l = absurd (omega (arith, l))
held_passed r names (Name k ∷ formals) [] f l = absurd (omega (arith, l))
held_passed r names (Name k ∷ formals) (c ∷ passes) f l =
    go (class_region names c) (held_passed r names formals passes f.1 (omega (arith, l)))
  where
    go : (o : Option Region) → held_in NoClass r (passed formals (passed_regions names passes))
        ≡ given_times r (passed_regions names passes) → held_in NoClass r
        (passed (Name k ∷ formals) (o ∷ passed_regions names passes)) ≡ given_times r (o ∷ passed_regions names passes)
    go None h = h ∙ sym (zero_add (given_times r (passed_regions names passes)))
    go (Some q) h = ap (λ x. one_when (same_region (Numbered r) q) + x) h
held_passed r names (Global ∷ formals) passes f l = absurd f
held_passed r names (NoClass ∷ formals) passes f l = absurd f

pub in_of_times : (r : ℕ) (xs : List ℕ) → 1 ≤ times_in r xs → is_in r xs ≡ true
in_of_times r [] h = absurd (omega (arith, h))
in_of_times r (x ∷ xs) h = go (nat_eq r x) h (in_of_times r xs)
  where
    go : (b : Bool) → 1 ≤ one_when b + times_in r xs → (1 ≤ times_in r xs → is_in r xs ≡ true)
        → (if b then true else is_in r xs) ≡ true
    go true h next = refl
    go false h next = next (omega (arith, h))

pub times_of_in : (r : ℕ) (xs : List ℕ) → is_in r xs ≡ true → 1 ≤ times_in r xs
times_of_in r [] e = absurd (true≢false (sym e))
times_of_in r (x ∷ xs) e = go (nat_eq r x) e (times_of_in r xs)
  where
    go : (b : Bool) → (if b then true else is_in r xs) ≡ true → (is_in r xs ≡ true → 1 ≤ times_in r xs)
        → 1 ≤ one_when b + times_in r xs
    go true e next = omega arith
    go false e next = let x = next e in omega (arith, x)

-- the child's part of the count: what is passed once has one name, what is passed more often is its base
child_core : (pending : List ℕ) (names : Bindings) (formals passes : List Class) → AreFormals formals → length passes
    ≡ length formals → ArePending pending names (regions_named passes)
    → NameInvariant pending (twice (passed_regions names passes)) (environment_of NoClass
    (passed formals (passed_regions names passes)) ∷ [])
child_core pending names formals passes f l p =
    core_child pending (twice (passed_regions names passes))
    (environment_of NoClass (passed formals (passed_regions names passes))) unique refl (λ k. refl)
    (λ k r e. staked r (let x = bound_held NoClass r (passed formals (passed_regions names passes)) k unique e refl in
    let y = count r in omega (arith, x, y)))
    (λ r e. staked r (let x = twice_yes r (passed_regions names passes) e in omega (arith, x)))
    (λ r i n. let a = twice_no r (passed_regions names passes) n in let b = passed_once r i in let c = count r in
    omega (arith, a, b, c))
  where
    unique : AreUnique (passed formals (passed_regions names passes))
    unique = passed_unique names NoClass [] formals passes f

    count : (r : ℕ) → held_in NoClass r (passed formals (passed_regions names passes))
        ≡ given_times r (passed_regions names passes)
    count r = held_passed r names formals passes f l

    staked : (r : ℕ) → 1 ≤ given_times r (passed_regions names passes) → is_in r pending ≡ true
    staked r h = in_of_times r pending (let a = p r in let b = given_is r names passes in let c =
        at_most_one_is (bound_times (Numbered r) names (regions_named passes)) (omega (arith, h, b)) in
        omega (arith, a, c))

    passed_once : (r : ℕ) → is_in r pending ≡ true → 1 ≤ given_times r (passed_regions names passes)
    passed_once r i =
        let a = times_of_in r pending i in
        let b = p r in
        let c = at_most_one_some (bound_times (Numbered r) names (regions_named passes)) (omega (arith, a, b)) in
        let d = given_is r names passes in
        omega (arith, c, d)

-- ---- both goroutines

module _ (code : Code) (checked : IsChecked code) (written : Ascends code) (frame : TacFrame) (callers : List TacFrame)
    (instr : CodeInstr) (n : ℕ) (from : List ℕ) (passes : List Class) (removes : List ℕ)
    (is : instr.op ≡ Go n from passes removes) (cur : current code frame ≡ Some instr) where
  abbrev child_of : Holder → List RegionEnvironment → CodeFn → List TacFrame → Holder
  child_of h environments callee frames =
      record {
        stakes = h.pending;
        pending = [];
        environments = environment_of (result_class callee)
            (passed (region_parameters callee) (passed_regions (top_names environments) passes)) ∷ [];
        base = twice (passed_regions (top_names environments) passes);
        fills = [];
        reserved = 0;
        duties = map Remove callee.entry ++ next_duties code frames;
        offer = NoOffer;
      }

  abbrev parent_of : Holder → List RegionEnvironment → List TacFrame → Holder
  parent_of h environments frames = record h {
    pending = [];
    environments = environments;
    duties =
        map Remove removes ++ next_duties code frames;
  }

  -- what holds of the parent and of its child
  pub record Started (h : Holder) (environments : List RegionEnvironment) (frame' entered : TacFrame) (callee : CodeFn) : Type 0
    where
      pub parent : GoodHolder code (frame' ∷ callers) (parent_of h environments (frame' ∷ callers))
      pub child : GoodHolder code (entered ∷ []) (child_of h environments callee (entered ∷ []))
      pub once : (r : ℕ) → times_in r h.pending ≤ 1

  started : (h : Holder) (environments : List RegionEnvironment) (duties : List Duty) (frame' entered : TacFrame)
      (callee : CodeFn) → frame'.function ≡ frame.function → frame'.next ≡ frame.next + 1 → entered.function ≡ n
      → entered.next ≡ 0 → slice_get code.functions n ≡ Some callee → duties ≡ [] →
      NameInvariant h.stakes h.base environments → EachOnce h.base → FramesFit code h.base (frame ∷ callers) environments duties
      → Shares (to_share code (frame ∷ callers)) duties (top_names environments) h.pending
      → Started h environments frame' entered callee
  started h [] duties frame' entered callee fe fn en e0 found d core once fit sh = absurd fit
  started h (f ∷ fs) duties frame' entered callee fe fn en e0 found d core once fit sh =
      record {
        parent = parent;
        child = child;
        once = λ r. let a = pends r in let b =
            most (bound_times (Numbered r) f.names (regions_named passes)) in omega (arith, a, b);
      }
    where
      rules : IsRuled code
      rules = ruled code checked written

      st : Stands code frame f duties
      st = fit.0

      same : st.instr ≡ instr
      same = standing_instr code frame f duties instr st cur

      here : HasInstr st.fn frame.next instr
      here = st.is_instr ∙ ap Some same

      settled : Settled st.fn frame.next instr f.names f.protections
      settled = standing_settled code frame f duties instr st cur d

      pends : ArePending h.pending f.names (regions_named passes)
      pends = subst (λ x. Shares x [] f.names h.pending) (ap shared_before cur ∙ ap shared_names is)
          (subst (λ x. Shares (to_share code (frame ∷ callers)) x f.names h.pending) d sh)

      most : (n : ℕ) → at_most_one n ≤ 1
      most zero = omega arith
      most (suc n) = omega arith

      -- the parent continues
      edge : Contains {X = ℕ × List ℕ} (edges instr.op frame.next) (frame.next + 1, removes)
      edge = subst (λ (y : CodeOp). Contains {X = ℕ × List ℕ} (edges y frame.next) (frame.next + 1, removes)) (sym is)
          (contains_here {X = ℕ × List ℕ} (frame.next + 1, removes) [])

      edge' : Contains {X = ℕ × List ℕ} (edges instr.op frame.next) (frame'.next, removes)
      edge' = subst (λ (x : ℕ). Contains {X = ℕ × List ℕ} (edges instr.op frame.next) (x, removes)) (sym fn) edge

      to : (next : CodeInstr) × HasInstr st.fn frame'.next next
      to = rules.goes_on frame.function frame.next frame'.next st.fn instr removes st.is_fn here edge'

      is_fn' : function_at code frame' ≡ Some st.fn
      is_fn' = ap (slice_get code.functions) fe ∙ st.is_fn

      next_is : current code frame' ≡ Some to.0
      next_is = ap (λ o. current_in o frame'.next) is_fn' ∙ to.1

      gives_none : (k : ℕ) → ¬ (LeavesToCallee code instr.op k)
      gives_none k g = subst (λ o. LeavesToCallee code o k) is g

      parent : GoodHolder code (frame' ∷ callers) (parent_of h (f ∷ fs) (frame' ∷ callers))
      parent =
          subst (λ (x : Option CodeInstr). GoodHolder code (frame' ∷ callers)
          (record h { pending = []; environments = f ∷ fs; duties = map Remove removes ++ duties_before x }))
          (sym next_is)
          (moves_on code st.fn frame frame' callers instr to.0 removes (record h { pending = [] }) f fs st.is_fn
          (rules.kept frame.function frame.next st.fn instr st.is_fn here) is_fn'
          (rules.kept frame.function frame'.next st.fn to.0 st.is_fn to.1)
          edge' gives_none (ap protected_names is) core once st.lends settled fit.1 refl)

      -- the child begins
      there : StartExists (erased code) n from
      there = subst (λ (x : CodeOp). OpExists (erased code) (erased_fn st.fn) (erased_op x)) is
          (checked rule.Exists (line.Instr frame.function frame.next) st.fn instr st.is_fn here).exists

      as_many : length from ≡ callee.params
      as_many = there.arguments ∙ ap (λ (x : TacFn). x.params)
          (same_Some there.callee (erased_fn callee) (sym there.declared ∙ slice_get-map erased_fn code.functions n
          ∙ ap (option_map erased_fn) found))

      starts_rightly : (callee.result ≡ None) × PassesClasses st.fn callee None from passes
      starts_rightly = subst (λ o. StartPasses st.fn o from passes) found
          (subst (λ x. StartsPass code st.fn x) is (checked rule.Starts (line.Instr frame.function frame.next) st.fn
          instr st.is_fn here))

      types : ArgumentsFit (erased_fn st.fn) (Some (erased_fn callee)) from
      types =
          subst (λ o. ArgumentsFit (erased_fn st.fn) o from)
          (slice_get-map erased_fn code.functions n ∙ ap (option_map erased_fn) found)
          (subst (λ (x : CodeOp). IsWellTypedOp (erased code) (erased_fn st.fn) (erased_op x)) is
          (checked rule.Types (line.Instr frame.function frame.next) st.fn instr st.is_fn here))

      no_result : result_class callee ≡ NoClass
      no_result = ap slot_class starts_rightly.0

      passable : ArePassable f.names passes
      passable =
          all_passable st.fn callee instr None from passes f.names (go_reads instr n from passes removes is) (λ d e. cc)
          as_many
          (sym (ap is_some starts_rightly.0))
          starts_rightly.1
          (λ v s q. checked rule.Classes (line.Slot frame.function v) st.fn s st.is_fn q)
          (λ v s q. checked rule.Classes (line.Slot n v) callee s found q)
          (checked rule.Classes (line.Function n) callee found)
          types
          tt
          (λ k n. named_bound st.fn frame.next k instr f.names
          (checked rule.Creations (line.Instr frame.function frame.next) st.fn instr st.is_fn here) settled.there
          settled.made settled.lent n)

      formals : AreFormals (region_parameters callee)
      formals = formals_once callee

      listed : (k : ℕ) → (list_any (is_class_named k) (region_parameters callee) ≡ true) ↔
          (IsParameter callee k ⊎ (result_class callee ≡ Name k))
      listed = formals_are callee

      first : (i : CodeInstr) × (slice_get callee.body 0 ≡ Some i)
      first = first_instr callee.body (checked rule.Exists (line.End n) callee found)

      ready : IsReady (IsFree callee 0) (Settled callee 0 first.0)
          (map Remove callee.entry ++ duties_before (Some first.0))
          (passed (region_parameters callee) (passed_regions f.names passes)) []
      ready =
          enters code callee first.0 (passed (region_parameters callee) (passed_regions f.names passes))
          (rules.kept n 0 callee first.0 found first.1) (checked rule.Removals (line.Entry n) callee found)
          (checked rule.Entry (line.Entry n) callee found)
          (ascending_distinct callee.entry (written n callee found).entry)
          (λ k p. passed_bound f.names (region_parameters callee) passes k formals passable starts_rightly.1.len
          ((listed k).1 (inl p)))
          (λ k r. passed_bound f.names (region_parameters callee) passes k formals passable starts_rightly.1.len
          ((listed k).1 (inr r)))
          (λ k o n. not_passed f.names NoClass [] (region_parameters callee) passes k
          (split (list_any (is_class_named k) (region_parameters callee)) (λ t. absurd (neither k o n ((listed k).0 t)))
          (λ x. x)))
        where
          neither : (k : ℕ) → IsOwn callee k → ¬ (IsParameter callee k) → IsParameter callee k
              ⊎ (result_class callee ≡ Name k) → ⊥
          neither k o n (inl p) = n p
          neither k o n (inr r) = o r

      entered_fn : function_at code entered ≡ Some callee
      entered_fn = ap (slice_get code.functions) en ∙ found

      entered_here : HasInstr callee entered.next first.0
      entered_here = subst (λ i. HasInstr callee i first.0) (sym e0) first.1

      entered_next : current code entered ≡ Some first.0
      entered_next = ap (λ o. current_in o entered.next) entered_fn ∙ entered_here

      child : GoodHolder code (entered ∷ []) (child_of h (f ∷ fs) callee (entered ∷ []))
      child =
          record {
            core = subst (λ c. NameInvariant h.pending (twice (passed_regions f.names passes))
                (environment_of c (passed (region_parameters callee) (passed_regions f.names passes)) ∷ []))
                (sym no_result) (child_core h.pending f.names (region_parameters callee) passes formals
                starts_rightly.1.len pends);
            fit = (
              record {
                fn = callee;
                is_fn = entered_fn;
                instr = first.0;
                is_instr = entered_here;
                lends = refl;
                ready = subst (λ o. IsReady (IsFree callee entered.next) (Settled callee entered.next first.0)
                    (map Remove callee.entry ++ duties_before o) (passed (region_parameters callee)
                    (passed_regions f.names passes)) []) (sym entered_next)
                    (subst (λ i. IsReady (IsFree callee i) (Settled callee i first.0)
                    (map Remove callee.entry ++ duties_before (Some first.0))
                    (passed (region_parameters callee) (passed_regions f.names passes)) []) (sym e0) ready);
              },
              tt,
            );
            base_once = twice_once (passed_regions f.names passes);
            shares = shares_next code (entered ∷ []) (map Remove callee.entry) (removes_share_none callee.entry)
                (passed (region_parameters callee) (passed_regions f.names passes));
          }

-- ---- the state after it

-- a sum over a longer list
pub total_snoc : (f : Holder → ℕ) (hs : List Holder) (h : Holder) → total f (hs ++ h ∷ []) ≡ total f hs + f h
total_snoc f [] h = omega arith
total_snoc f (x ∷ xs) h = let e = total_snoc f xs h in omega (arith, e)

in_times : (r : ℕ) (xs : List ℕ) → times_in r xs ≤ 1 → one_when (is_in r xs) ≡ times_in r xs
in_times r xs h = split (is_in r xs) (λ t. yes_in t) (λ n. not_in n)
  where
    yes_in : is_in r xs ≡ true → one_when (is_in r xs) ≡ times_in r xs
    yes_in t = let a : one_when (is_in r xs) ≡ 1 = ap one_when t in let b = times_of_in r xs t in omega (arith, a, b, h)

    not_in : is_in r xs ≡ false → one_when (is_in r xs) ≡ times_in r xs
    not_in n = let a : one_when (is_in r xs) ≡ 0 = ap one_when n in
        zero_when (times_in r xs) (λ p. true≢false (sym (in_of_times r xs p) ∙ n)) a
      where
        zero_when : (n : ℕ) → (1 ≤ n → ⊥) → one_when (is_in r xs) ≡ 0 → one_when (is_in r xs) ≡ n
        zero_when zero f a = a
        zero_when (suc n) f a = absurd (f (omega arith))

-- One goroutine has continued and started another, which has the stakes that were pending. Regions stay, so what counts is that stakes
-- and pending stakes together are as many as before.
pub fine_started : (code : Code) (s t : RegionState) (g : ℕ) (h k c : Holder) (frames child : List TacFrame) → Fine code s
    → slice_get s.holders g ≡ Some h → t.regions ≡ s.regions → t.holders ≡ slice_set s.holders g k ++ c ∷ []
    → t.plain.goroutines ≡ slice_set s.plain.goroutines g frames ++ child ∷ [] → k.stakes ≡ h.stakes → k.pending ≡ []
    → c.stakes ≡ h.pending → c.pending ≡ [] → ((r : ℕ) → times_in r h.pending ≤ 1) → GoodHolder code frames k
    → GoodHolder code child c → Fine code t
fine_started code s t g h k c frames child fine e rs hs gs ks kp cs cp once good_k good_c =
    record {
      as_many = ap length hs ∙ length-append (slice_set s.holders g k) (c ∷ [])
          ∙ ap (λ n. n + 1) (length_set s.holders g k ∙ fine.as_many ∙ sym (length_set s.plain.goroutines g frames))
          ∙ sym (length-append (slice_set s.plain.goroutines g frames) (child ∷ [])) ∙ sym (ap length gs);
      each = λ j x q. each j x (place j x q);
      counted = λ r info q. counts r info (fine.counted r info (sym (ap (λ y. slice_get y r) rs) ∙ q));
      made = λ j x r q i. let a = made j x r i (place j x q) in let b : length t.regions ≡ length s.regions =
          ap length rs in omega (arith, a, b);
      pended = λ j x r q i. let a = pended j x r i (place j x q) in let b : length t.regions ≡ length s.regions =
          ap length rs in omega (arith, a, b);
    }
  where
    long : length (slice_set s.holders g k) ≡ length (slice_set s.plain.goroutines g frames)
    long = length_set s.holders g k ∙ fine.as_many ∙ sym (length_set s.plain.goroutines g frames)

    -- which goroutine j is: one that takes no part, the parent, or the child
    place : (j : ℕ) (x : Holder) → slice_get t.holders j ≡ Some x
        → ((nat_eq g j ≡ false) × (slice_get s.holders j ≡ Some x))
        ⊎ (((g ≡ j) × (x ≡ k)) ⊎ ((j ≡ length (slice_set s.holders g k)) × (x ≡ c)))
    place j x q = go (get_snoc (slice_set s.holders g k) c j x (sym (ap (λ y. slice_get y j) hs) ∙ q))
      where
        go : (slice_get (slice_set s.holders g k) j ≡ Some x) ⊎ ((j ≡ length (slice_set s.holders g k)) × (x ≡ c))
            → ((nat_eq g j ≡ false) × (slice_get s.holders j ≡ Some x))
            ⊎ (((g ≡ j) × (x ≡ k)) ⊎ ((j ≡ length (slice_set s.holders g k)) × (x ≡ c)))
        go (inr z) = inr (inr z)
        go (inl z) = split (nat_eq g j) (λ u. inr (inl (
          eq_of g j u,
          same_Some x k
              (sym z ∙ ap (slice_get (slice_set s.holders g k)) (sym (eq_of g j u)) ∙ get_set_same s.holders g h k e),
        )))
            (λ n. inl (n, sym (get_set_other s.holders g j k n) ∙ z))

    below : (j : ℕ) (x : Holder) → slice_get s.holders j ≡ Some x → j < length (slice_set s.plain.goroutines g frames)
    below j x q = let a = slice_get_within s.holders j x q in let b = fine.as_many in let d =
        length_set s.plain.goroutines g frames in omega (arith, a, b, d)

    each : (j : ℕ) (x : Holder) → ((nat_eq g j ≡ false) × (slice_get s.holders j ≡ Some x))
        ⊎ (((g ≡ j) × (x ≡ k)) ⊎ ((j ≡ length (slice_set s.holders g k)) × (x ≡ c)))
        → GoodHolder code (frames_of t.plain j) x
    each j x (inl (n, q)) =
        subst (λ f. GoodHolder code f x) (sym (ap (λ y. frames_in (slice_get y j)) gs
        ∙ ap frames_in (get_append_left (slice_set s.plain.goroutines g frames) (child ∷ []) j (below j x q))
        ∙ ap frames_in (get_set_other s.plain.goroutines g j frames n))) (fine.each j x q)
    each j x (inr (inl (u, is))) =
        subst (λ y. GoodHolder code (frames_of t.plain j) y) (sym is)
        (subst (λ f. GoodHolder code f k) (sym (ap (λ y. frames_in (slice_get y j)) gs
        ∙ ap (λ i. frames_in (slice_get (slice_set s.plain.goroutines g frames ++ child ∷ []) i)) (sym u)
        ∙ ap frames_in (get_append_left (slice_set s.plain.goroutines g frames) (child ∷ []) g (below g h e))
        ∙ ap frames_in (get_set_same s.plain.goroutines g old.0 frames old.1))) good_k)
      where
        old : (fs : List TacFrame) × (slice_get s.plain.goroutines g ≡ Some fs)
        old = get_some s.plain.goroutines g (let a = slice_get_within s.holders g h e in let b = fine.as_many in
            omega (arith, a, b))
    each j x (inr (inr (at, is))) =
        subst (λ y. GoodHolder code (frames_of t.plain j) y) (sym is)
        (subst (λ f. GoodHolder code f c) (sym (ap (λ y. frames_in (slice_get y j)) gs
        ∙ ap frames_in (get_append_last (slice_set s.plain.goroutines g frames) child j (at ∙ long)))) good_c)

    made : (j : ℕ) (x : Holder) (r : ℕ) → is_in r x.stakes ≡ true
        → ((nat_eq g j ≡ false) × (slice_get s.holders j ≡ Some x))
        ⊎ (((g ≡ j) × (x ≡ k)) ⊎ ((j ≡ length (slice_set s.holders g k)) × (x ≡ c))) → r < length s.regions
    made j x r i (inl (n, q)) = fine.made j x r q i
    made j x r i (inr (inl (u, is))) = fine.made g h r e (subst (λ y. is_in r y ≡ true) ks
        (subst (λ (y : Holder). is_in r y.stakes ≡ true) is i))
    made j x r i (inr (inr (at, is))) = fine.pended g h r e
        (let a = times_of_in r h.pending (subst (λ y. is_in r y ≡ true) cs
        (subst (λ (y : Holder). is_in r y.stakes ≡ true) is i)) in omega (arith, a))

    pended : (j : ℕ) (x : Holder) (r : ℕ) → 0 < times_in r x.pending
        → ((nat_eq g j ≡ false) × (slice_get s.holders j ≡ Some x))
        ⊎ (((g ≡ j) × (x ≡ k)) ⊎ ((j ≡ length (slice_set s.holders g k)) × (x ≡ c))) → r < length s.regions
    pended j x r i (inl (n, q)) = fine.pended j x r q i
    pended j x r i (inr (inl (u, is))) = let a : times_in r x.pending ≡ 0 =
        ap (λ (y : Holder). times_in r y.pending) is ∙ ap (times_in r) kp in absurd (omega (arith, a, i))
    pended j x r i (inr (inr (at, is))) = let a : times_in r x.pending ≡ 0 =
        ap (λ (y : Holder). times_in r y.pending) is ∙ ap (times_in r) cp in absurd (omega (arith, a, i))

    counts : (r : ℕ) (info : RegionInfo) → info.stakes ≡ holders_of s r + pending_of s r → info.stakes
        ≡ holders_of t r + pending_of t r
    counts r info n =
        let a = total_set (λ (x : Holder). one_when (is_in r x.stakes)) s.holders g h k e in
        let b = total_set (λ (x : Holder). times_in r x.pending) s.holders g h k e in
        let a' : one_when (is_in r k.stakes) ≡ one_when (is_in r h.stakes) = ap (λ y. one_when (is_in r y)) ks in
        let b' : times_in r k.pending ≡ 0 = ap (times_in r) kp in
        let d : one_when (is_in r c.stakes) ≡ times_in r h.pending =
        ap (λ y. one_when (is_in r y)) cs ∙ in_times r h.pending (once r) in
        let d' : times_in r c.pending ≡ 0 = ap (times_in r) cp in
        let x = ap (total (λ (x : Holder). one_when (is_in r x.stakes))) hs
        ∙ total_snoc (λ (x : Holder). one_when (is_in r x.stakes)) (slice_set s.holders g k) c in
        let y = ap (total (λ (x : Holder). times_in r x.pending)) hs
        ∙ total_snoc (λ (x : Holder). times_in r x.pending) (slice_set s.holders g k) c in
        omega (arith, n, a, b, a', b', d, d', x, y)

-- the last goroutine is the one that was added
pub last_frames_snoc : (xs : List (List TacFrame)) (y : List TacFrame) → last_frames (xs ++ y ∷ []) ≡ y
last_frames_snoc [] y = refl
last_frames_snoc (x ∷ []) y = refl
last_frames_snoc (x ∷ z ∷ xs) y = last_frames_snoc (z ∷ xs) y

module _ (code : Code) (page_words : ℕ) (s : RegionState) (g : ℕ) (h : Holder) (frame : TacFrame) (callers : List TacFrame)
    (instr : CodeInstr) (n : ℕ) (from : List ℕ) (passes : List Class) (removes : List ℕ) (checked : IsChecked code)
    (written : Ascends code) (fine : Fine code s) (e : slice_get s.holders g ≡ Some h)
    (at : frames_of s.plain g ≡ frame ∷ callers) (cur : current code frame ≡ Some instr)
    (is : instr.op ≡ Go n from passes removes) where
  good : GoodHolder code (frame ∷ callers) h
  good = subst (λ x. GoodHolder code x h) at (fine.each g h e)

  abbrev entered : CodeFn → TacFrame
  entered callee = new_tac_frame (erased_fn callee) n (operand_values frame from)

  abbrev frame' : TacFrame
  frame' = moved_to frame (frame.next + 1)

  abbrev acted : CodeFn → Acted
  acted callee = record {
    memory = s.plain.memory;
    frames = frame' ∷ callers;
    started =
        (entered callee ∷ []) ∷ [];
    printed = [];
    trap = None;
  }

  abbrev next : CodeFn → TacState
  next callee = after s.plain g (acted callee)

  own : (callee : CodeFn) (frames : List TacFrame) → slice_get s.plain.goroutines g ≡ Some frames
      → frames_of (next callee) g ≡ frame' ∷ callers
  own callee frames q =
      ap frames_in (get_append_left (slice_set s.plain.goroutines g (frame' ∷ callers)) ((entered callee ∷ []) ∷ []) g
      (let a = slice_get_within s.plain.goroutines g frames q in let b =
      length_set s.plain.goroutines g (frame' ∷ callers) in omega (arith, a, b)))
      ∙ ap frames_in (get_set_same s.plain.goroutines g frames (frame' ∷ callers) q)

  behind : (callee : CodeFn) (frames : List TacFrame) (given : Holder × List Region) → slice_get code.functions n
      ≡ Some callee → slice_get s.plain.goroutines g ≡ Some frames → has_none h.duties ≡ true → SameHolder h given.0
      → Fine code (instructed_with code s g frame callers instr (next callee) given)
  behind callee frames given found q d same =
      fine_started code s (instructed_with code s g frame callers instr (next callee) given) g h
      (parent_of code checked written frame callers instr n from passes removes is cur
      (record h { fills = same.fills; reserved = same.reserved }) h.environments (frame' ∷ callers))
      (child_of code checked written frame callers instr n from passes removes is cur
      (record h { fills = same.fills; reserved = same.reserved }) h.environments callee (entered callee ∷ []))
      (frame' ∷ callers) (entered callee ∷ []) fine e refl hs refl refl refl refl refl all.once all.parent all.child
    where
      all : Started code checked written frame callers instr n from passes removes is cur
          (record h { fills = same.fills; reserved = same.reserved }) h.environments frame' (entered callee) callee
      all = started code checked written frame callers instr n from passes removes is cur
          (record h { fills = same.fills; reserved = same.reserved }) h.environments h.duties frame' (entered callee) callee refl refl refl refl
          found (none_owed h.duties d) good.core good.base_once good.fit good.shares

      hs : (instructed_with code s g frame callers instr (next callee) given).holders
          ≡ slice_set s.holders g (record (record h { fills = same.fills; reserved = same.reserved })
          { pending = []; duties = map Remove removes ++ next_duties code (frame' ∷ callers) })
          ++ child_of code checked written frame callers instr n from passes removes is cur
          (record h { fills = same.fills; reserved = same.reserved }) h.environments callee (entered callee ∷ []) ∷ []
      hs =
          ap (λ x. slice_set s.holders g (unless_trapped x given.0
          (holder_after code given.0 frame callers instr.op (frames_of (next callee) g)))
          ++ child_holder code given.0 instr.op (last_frames (next callee).goroutines)) (no_end g frame' callers)
          ∙ ap (λ x. slice_set s.holders g (holder_after code given.0 frame callers x (frames_of (next callee) g))
          ++ child_holder code given.0 x (last_frames (next callee).goroutines)) is
          ∙ ap (λ x. slice_set s.holders g (holder_after code given.0 frame callers (Go n from passes removes) x)
          ++ child_holder code given.0 (Go n from passes removes) (last_frames (next callee).goroutines))
          (own callee frames q)
          ∙ ap (λ x. slice_set s.holders g (holder_after code given.0 frame callers (Go n from passes removes)
          (frame' ∷ callers)) ++ child_holder code given.0 (Go n from passes removes) x)
          (last_frames_snoc (slice_set s.plain.goroutines g (frame' ∷ callers)) (entered callee ∷ []))
          ∙ ap (λ (x : Holder). slice_set s.holders g (holder_after code x frame callers (Go n from passes removes)
          (frame' ∷ callers)) ++ child_holder code x (Go n from passes removes) (entered callee ∷ [])) same.same
          ∙ ap (λ (o : Option CodeFn). slice_set s.holders g
          (holder_after code (record h { fills = same.fills; reserved = same.reserved }) frame callers (Go n from passes removes)
          (frame' ∷ callers)) ++ record {
            stakes = h.pending;
            pending = [];
            environments = environment_of (function_result_class o) (passed (formals_of o)
                (passed_regions (top_names h.environments) passes)) ∷ [];
            base = twice (passed_regions (top_names h.environments) passes);
            fills = [];
            reserved = 0;
            duties = map Remove (entry_removes o) ++ next_duties code (entered callee ∷ []);
            offer = NoOffer;
          } ∷ []) found

  -- a function that exists is started
  record IsStarted : Type 0 where
    callee : CodeFn
    declared : slice_get code.functions n ≡ Some callee
    acts : alone (erased code) s.plain.memory (frame ∷ callers) ≡ Some (acted callee)

  is_started : IsStarted
  is_started = go (slice_get code.functions frame.function) refl cur
    where
      found : (o : Option CodeFn) → slice_get code.functions n ≡ o → (c : TacFn) → option_map erased_fn o ≡ Some c
          → IsStarted
      found None q c e = absurd (none_some c e)
        where
          none_some : (c : TacFn) → None ≡ Some c → ⊥
          none_some c e = cc
      found (Some callee) q c e =
          record {
            callee = callee;
            declared = q;
            acts = ap (λ o. act_at (erased code) s.plain.memory o frame callers)
                (current_erased code frame ∙ ap (option_map erased_instr) cur)
                ∙ ap (λ o. act (erased code) s.plain.memory (erased_op o) instr.place frame callers) is
                ∙ ap (start s.plain.memory frame callers n (operand_values frame from))
                (slice_get-map erased_fn code.functions n ∙ ap (option_map erased_fn) q);
          }

      go : (o : Option CodeFn) → slice_get code.functions frame.function ≡ o → current_in o frame.next ≡ Some instr
          → IsStarted
      go None q c = absurd (none_some c)
        where
          none_some : None ≡ Some instr → ⊥
          none_some e = cc
      go (Some fn) q c =
          let there : StartExists (erased code) n from = subst
          (λ (x : CodeOp). OpExists (erased code) (erased_fn fn) (erased_op x)) is
          (checked rule.Exists (line.Instr frame.function frame.next) fn instr q c).exists in
          found (slice_get code.functions n) refl there.callee
          (sym (slice_get-map erased_fn code.functions n) ∙ there.declared)

pub fine_start_of : (code : Code) (page_words : ℕ) (s t : RegionState) (g : ℕ) (x : OneDone code page_words s g t)
    (n : ℕ) (from : List ℕ) (passes : List Class) (removes : List ℕ) → IsChecked code → Ascends code → Fine code s
    → x.instr.op ≡ Go n from passes removes → Fine code t
fine_start_of code page_words s t g x n from passes removes checked written fine is =
    let c = is_started code page_words s g x.h x.frame x.callers x.instr n from passes removes checked written fine
    x.there (ap frames_in x.at) x.cur is in
    subst (Fine code) (sym x.is)
    (subst (λ a. Fine code (instructed_with code s g x.frame x.callers x.instr (after s.plain g a) x.given))
    (same_Some _ x.a (sym c.acts ∙ x.acts))
    (behind code page_words s g x.h x.frame x.callers x.instr n from passes removes checked written fine x.there
    (ap frames_in x.at) x.cur is c.callee (x.frame ∷ x.callers) x.given c.declared x.at (ap has_none x.ready.none)
    x.same))
