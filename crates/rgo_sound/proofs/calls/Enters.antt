-- A call: the callee's entry, and the caller that waits. The rules speak of names, and the machine passes regions by position;
-- `CallIsRight` is where the two agree, and both halves of the proof start from it.
use Rattle.std.proofs.Common.{◌≡◌, ◌≢◌, ℕ, zero, suc, ◌≤◌, ◌<◌, Bool, true, false, ◌||◌, List, [], ◌∷◌, ◌++◌, map}
use Rattle.std.proofs.Common.{length, Option, Some, None, refl, sym, ap, ◌∙◌, subst, nat_eq, if◌then◌else◌, arith, ◌⊎◌}
use Rattle.std.proofs.Common.{inl, inr, true≢false, Contains, ◌↔◌}
use Rattle.std.specs.List.{list_any}
use Rattle.rgo_sound.proofs.Tests.{nat_ne_sym, split}
use Rattle.rgo_sound.proofs.Places.{stands_or_not, contains_here, contains_there, AreDistinct, ascending_distinct}
use Rattle.rgo_sound.proofs.names.Edges.{Kept, ready_removes, ready_creates, ready_ops, named_bound}
use Rattle.rgo_sound.proofs.calls.Passed.{AreFormals, ArePassable, CallFits, called_core, not_passed, given_times, given_free}
use Rattle.rgo_sound.proofs.calls.Passed.{left_other, left_given, left_gone}
use Rattle.rgo_sound.proofs.duties.Attends.{lent_names}
use Rattle.rgo_sound.proofs.names.Pending.{removes_share_none}
use Rattle.rgo_sound.proofs.duties.Moves.{owed}
use Rattle.rgo_sound.proofs.names.Ruled.{parameter_listed, parameter_member}
use Rattle.rgo_code.specs.ClassRules.{EntryIsKnown}
use Rattle.rgo_code.specs.Code.{Call, Code, CodeFn, CodeInstr}
use Rattle.rgo_code.specs.NameRules.{EntryRemovesDead, protected_names}
use Rattle.rgo_code.specs.Names.{LeavesToCallee, Holds, IsOwn, IsParameterName, class_of, is_class_named, region_parameters}
use Rattle.rgo_code.specs.Names.{result_class}
use Rattle.rgo_region_machine.specs.Owed.{duties_before, duties_of_op, function_at, given_names, passed, passed_regions}
use Rattle.rgo_region_machine.specs.Regions.{Bindings, bound, class_region, without_all}
use Rattle.rgo_region_machine.specs.States.{RegionEnvironment, Holder, Remove}
use Rattle.rgo_region_machine.specs.declared.regions.Region.{Region}
use Rattle.rgo_region_machine.specs.declared.regions.Region.TheVariants.{Global as GlobalRegion}
use Rattle.rgo_sound.specs.Core.{NameInvariant}
use Rattle.rgo_sound.specs.Holding.{is_mine}
use Rattle.rgo_sound.specs.Invariant.{AllWait, AreProtections, EachOnce, GoodHolder, HasInstr, IsCall, IsFree, IsReady}
use Rattle.rgo_sound.specs.Invariant.{Left, Settled, bound_times, same_bound}
use Rattle.rgo_sound.specs.Stakes.{one_when, times_in}
use Rattle.rgo_tac.specs.Frames.{TacFrame}
use Rattle.rgo_tac.specs.declared.regions.Class.{Class}
use Rattle.rgo_tac.specs.declared.regions.Class.TheVariants.{Global, Name, NoClass}

-- a parameter of the function has class k
abbrev pub IsParameter : CodeFn → ℕ → Type 0
IsParameter fn k = (i : ℕ) × (i < fn.params) × (class_of fn i ≡ Name k)

-- the same in the words of the rules
pub is_parameter : (fn : CodeFn) (k : ℕ) → IsParameterName fn k → IsParameter fn k
is_parameter fn k c = parameter_member fn.params fn.variables (Name k) c

pub parameter_name : (fn : CodeFn) (k : ℕ) → IsParameter fn k → IsParameterName fn k
parameter_name fn k (i, below, is) = parameter_listed fn.params fn.variables i k below is

-- What is owed at the entry of a called function can be done: its removals, and what its first instruction needs. It is enough that its
-- parameters and its result denote regions and that no other name does, so callers of all kinds, and `go`, share this lemma.
pub enters : (code : Code) (fn : CodeFn) (next : CodeInstr) (names : Bindings) → Kept code fn 0 next
    → EntryRemovesDead fn → EntryIsKnown fn → AreDistinct fn.entry → ((k : ℕ) → IsParameter fn k → bound names k ≢ None)
    → ((k : ℕ) → result_class fn ≡ Name k → bound names k ≢ None)
    → ((k : ℕ) → IsOwn fn k → ¬ (IsParameter fn k) → bound names k ≡ None)
    → IsReady (IsFree fn 0) (Settled fn 0 next) (map Remove fn.entry ++ duties_before (Some next)) names []
enters code fn next names b e known d there lent gone =
    ready_removes (IsFree fn 0) (Settled fn 0 next) fn.entry (duties_before (Some next)) names d
    (λ k c. let x = (e k).0 c in (there k (is_parameter fn k x.1), (x.0, x.2)))
    (λ left removed kept. ready_creates (IsFree fn 0) (Settled fn 0 next) next.creates (duties_of_op next.op) left []
    (ascending_distinct next.creates b.written.creates)
    (λ k c. let x = (b.creates k).0 c in (unbound left removed kept k x.0 x.2 (stands_or_not fn.entry k), (x.0, x.2)))
    (λ new made kept'. ready_ops (IsFree fn 0) (Settled fn 0 next) next.op new
    (λ k c. named_bound fn 0 k next new b.creates (held left kept new made kept') made (result left kept new kept')
    (b.asked k c))
    (λ protections fit. record {
      there = held left kept new made kept';
      made = made;
      gone = λ k o h m. kept' k m ∙ unbound left removed kept k o h (stands_or_not fn.entry k);
      lent = result left kept new kept';
      protections_fit = fit;
    })))
  where
    unbound : (left : Bindings) → ((k : ℕ) → Contains fn.entry k → bound left k ≡ None)
        → ((k : ℕ) → ¬ (Contains fn.entry k) → bound left k ≡ bound names k) → (k : ℕ) → IsOwn fn k → ¬ (Holds fn k 0)
        → Contains fn.entry k ⊎ (¬ (Contains fn.entry k)) → bound left k ≡ None
    unbound left removed kept k o h (inl c) = removed k c
    unbound left removed kept k o h (inr n) = kept k n ∙ gone k o (λ p. n ((e k).1 (o, parameter_name fn k p, h)))

    held : (left : Bindings) → ((k : ℕ) → ¬ (Contains fn.entry k) → bound left k ≡ bound names k) → (new : Bindings)
        → ((k : ℕ) → Contains next.creates k → bound new k ≢ None)
        → ((k : ℕ) → ¬ (Contains next.creates k) → bound new k ≡ bound left k) → (k : ℕ) → Holds fn k 0
        → bound new k ≢ None
    held left kept new made kept' k h z = go (stands_or_not next.creates k)
      where
        go : Contains next.creates k ⊎ (¬ (Contains next.creates k)) → ⊥
        go (inl m) = made k m z
        go (inr m) = there k (is_parameter fn k (known k h)) (sym (kept k (λ c. ((e k).0 c).2 h)) ∙ sym (kept' k m) ∙ z)

    result : (left : Bindings) → ((k : ℕ) → ¬ (Contains fn.entry k) → bound left k ≡ bound names k) → (new : Bindings)
        → ((k : ℕ) → ¬ (Contains next.creates k) → bound new k ≡ bound left k) → (k : ℕ) → result_class fn ≡ Name k
        → bound new k ≢ None
    result left kept new kept' k r z = lent k r (sym (kept k (λ c. ((e k).0 c).0 r))
        ∙ sym (kept' k (λ c. ((b.creates k).0 c).0 r)) ∙ z)

-- ---- what a callee's names are

-- each formal denotes a region
pub passed_bound : (names : Bindings) (formals regions : List Class) (k : ℕ) → AreFormals formals
    → ArePassable names regions → length regions ≡ length formals → list_any (is_class_named k) formals ≡ true
    → bound (passed formals (passed_regions names regions)) k ≢ None
passed_bound names [] regions k f p l e = λ z. absurd (true≢false (sym e))
passed_bound names (Name i ∷ formals) [] k f p l e = λ z. absurd (omega (arith, l))
passed_bound names (Name i ∷ formals) (c ∷ regions) k f p l e =
    go c (class_region names c) refl p e (λ p' e'. passed_bound names formals regions k f.1 p' (omega (arith, l)) e')
  where
    flip : (x y : ℕ) → nat_eq x y ≡ true → nat_eq y x ≡ true
    flip x y h = grind arith

    passable : (c : Class) → ArePassable names (c ∷ regions) → ArePassable names regions
    passable NoClass p = absurd p
    passable Global p = p
    passable (Name j) p = p.1

    some : (c : Class) → ArePassable names (c ∷ regions) → class_region names c ≢ None
    some NoClass p = absurd p
    some Global p = λ z. some_none z
      where
        some_none : Some GlobalRegion ≡ None → ⊥
        some_none z = cc
    some (Name j) p = p.0

    pick : (r : Region) (b : Bool) → nat_eq k i ≡ b → (b || list_any (is_class_named k) formals) ≡ true
        → (list_any (is_class_named k) formals ≡ true → bound (passed formals (passed_regions names regions)) k ≢ None)
        → bound ((i, r) ∷ passed formals (passed_regions names regions)) k ≢ None
    pick r true t e next z = let a : Some r ≡ None = ap (λ x.
        if x then Some r else bound (passed formals (passed_regions names regions)) k) (sym (flip k i t)) ∙ z in cc
    pick r false n e next z = next e (ap (λ x. if x then Some r else bound
        (passed formals (passed_regions names regions)) k) (sym (nat_ne_sym k i n)) ∙ z)

    go : (c : Class) (o : Option Region) → class_region names c ≡ o → ArePassable names (c ∷ regions)
        → (nat_eq k i || list_any (is_class_named k) formals) ≡ true
        → (ArePassable names regions → list_any (is_class_named k) formals ≡ true
        → bound (passed formals (passed_regions names regions)) k ≢ None)
        → bound (passed (Name i ∷ formals) (o ∷ passed_regions names regions)) k ≢ None
    go c None h p e next = absurd (some c p h)
    go c (Some r) h p e next = pick r (nat_eq k i) refl e (next (passable c p))
passed_bound names (Global ∷ formals) regions k f p l e = absurd f
passed_bound names (NoClass ∷ formals) regions k f p l e = absurd f

-- what the rules say of the lists of one call, in the form that the callee's entry and the waiting caller both need
pub record CallIsRight (code : Code) (callee : CodeFn) (call : CodeInstr) (passes : List Class) (protects : List ℕ) :
    Type 0 where
  pub formals : (k : ℕ) → (list_any (is_class_named k) (region_parameters callee) ≡ true) ↔
      (IsParameter callee k ⊎ (result_class callee ≡ Name k))
  pub as_long : length passes ≡ length (region_parameters callee)
  pub gives : (k : ℕ) → LeavesToCallee code call.op k ↔ (1 ≤ times_in k
      (given_names (result_class callee) (region_parameters callee) passes protects))
  pub kept : (k : ℕ) → Contains protects k → times_in k (given_names (result_class callee) (region_parameters callee)
      passes protects) ≡ 0

-- the goroutine after a call: the callee is at its entry, and the caller waits
pub calls_on : (code : Code) (fn callee : CodeFn) (frame entered : TacFrame) (callers : List TacFrame) (call next : CodeInstr)
    (to : Option ℕ) (n : ℕ) (from : List ℕ) (passes : List Class) (protects removes : List ℕ) (h : Holder)
    (f : RegionEnvironment) (fs : List RegionEnvironment) →
    call.op ≡ Call to n from passes protects removes → function_at code frame ≡ Some fn → HasInstr fn frame.next call →
    function_at code entered ≡ Some callee → entered.next ≡ 0 → Kept code callee 0 next → EntryRemovesDead callee
    → EntryIsKnown callee → AreDistinct callee.entry →
    CallIsRight code callee call passes protects → CallFits f.lent (result_class callee) f.names
    (region_parameters callee) passes protects →
    NameInvariant h.stakes h.base (f ∷ fs) → EachOnce h.base → f.lent ≡ result_class fn
    → Settled fn frame.next call f.names f.protections → AllWait code callers fs → h.pending ≡ [] →
    GoodHolder code (entered ∷ frame ∷ callers)
    (record h {
      environments =
          record {
            lent = result_class callee;
            names = passed (region_parameters callee)
                (passed_regions f.names passes);
            protections = [];
          }
          ∷ record f {
            names = without_all f.names (given_names (result_class callee) (region_parameters callee) passes
                protects);
          } ∷ fs;
      duties = map Remove callee.entry ++ duties_before (Some next);
    })
calls_on code fn callee frame entered callers call next to n from passes protects removes h f fs is_call is here is' at
    b e known d right fits core once lends s w none_left' =
    record {
      core = called_core h.stakes h.base f fs (result_class callee) (region_parameters callee) passes protects fits
          protections core;
      fit = (
        record {
          fn = callee;
          is_fn = is';
          instr = next;
          is_instr =
              subst (λ i. HasInstr callee i next) (sym at) b.here;
          lends = refl;
          ready =
              subst (λ i. IsReady (IsFree callee i) (Settled callee i next)
              (map Remove callee.entry ++ duties_before (Some next)) names []) (sym at) ready;
        },
        (
          record {
            fn = fn;
            is_fn = is;
            instr = call;
            is_instr = here;
            lends = lends;
            calls =
                subst (λ o. IsCall o) (sym is_call) tt;
            left = left;
            protections_fit =
                λ r. s.protections_fit r ∙ ap (bound_times r f.names) (ap protected_names is_call)
                ∙ same r protects (λ k c. right.kept k c) ∙ ap (bound_times r left_names)
                (ap protected_names (sym is_call));
          },
          w,
        ),
      );
      base_once = once;
      shares = owed code entered (frame ∷ callers) next (map Remove callee.entry) (removes_share_none callee.entry)
          (passed (region_parameters callee) (passed_regions f.names passes)) h.pending callee is'
          (subst (λ i. HasInstr callee i next) (sym at) b.here) none_left';
    }
  where
    names : Bindings
    names = passed (region_parameters callee) (passed_regions f.names passes)

    left_names : Bindings
    left_names = without_all f.names (given_names (result_class callee) (region_parameters callee) passes protects)

    protections : AreProtections f.protections f.names protects
    protections r = s.protections_fit r ∙ ap (bound_times r f.names) (ap protected_names is_call)

    ready : IsReady (IsFree callee 0) (Settled callee 0 next) (map Remove callee.entry ++ duties_before (Some next))
        (passed (region_parameters callee) (passed_regions f.names passes)) []
    ready =
        enters code callee next (passed (region_parameters callee) (passed_regions f.names passes)) b e known d
        (λ k p. passed_bound f.names (region_parameters callee) passes k fits.formals_fit fits.passable right.as_long
        ((right.formals k).1 (inl p)))
        (λ k r. passed_bound f.names (region_parameters callee) passes k fits.formals_fit fits.passable right.as_long
        ((right.formals k).1 (inr r)))
        (λ k o n. not_passed f.names (result_class callee) protects (region_parameters callee) passes k
        (split (list_any (is_class_named k) (region_parameters callee))
        (λ t. absurd (neither k o n ((right.formals k).0 t))) (λ x. x)))
      where
        neither : (k : ℕ) → IsOwn callee k → ¬ (IsParameter callee k) → IsParameter callee k
            ⊎ (result_class callee ≡ Name k) → ⊥
        neither k o n (inl p) = n p
        neither k o n (inr r) = o r

    stays : (k : ℕ) → ¬ (LeavesToCallee code call.op k) → bound f.names k ≢ None
        → bound (without_all f.names (given_names (result_class callee) (region_parameters callee) passes protects)) k ≢
        None
    stays k g x z = x (sym (left_other (given_names (result_class callee) (region_parameters callee) passes protects)
        f.names k (none (times_in k (given_names (result_class callee) (region_parameters callee) passes protects))
        refl)) ∙ z)
      where
        none : (n : ℕ) → times_in k (given_names (result_class callee) (region_parameters callee) passes protects) ≡ n
            → times_in k (given_names (result_class callee) (region_parameters callee) passes protects) ≡ 0
        none zero e = e
        none (suc n) e = absurd (g ((right.gives k).1 (omega (arith, e))))

    left : Left code fn frame.next call (without_all f.names
        (given_names (result_class callee) (region_parameters callee) passes protects))
    left =
        record {
          there = λ k x g. stays k g (s.there k x);
          made = λ k x g. stays k g (s.made k x);
          gone = λ k o n m. left_gone (given_names (result_class callee) (region_parameters callee) passes protects)
              f.names k (s.gone k o n m);
          given = λ k g. left_given (given_names (result_class callee) (region_parameters callee) passes protects)
              f.names k ((right.gives k).0 g);
          lent = λ k r. stays k (λ g. own_given k r ((right.gives k).0 g)) (s.lent k r);
        }
      where
        own_given : (k : ℕ) → result_class fn ≡ Name k → 1 ≤ times_in k
            (given_names (result_class callee) (region_parameters callee) passes protects) → ⊥
        own_given k r x = true≢false (sym (given_mine k x) ∙ lent_names f.lent k (lends ∙ r))
          where
            given_mine : (k : ℕ) → 1 ≤ times_in k (given_names (result_class callee) (region_parameters callee) passes
                protects) → is_mine f.lent k ≡ true
            given_mine k h' = let y = given_times f.names (result_class callee) protects (region_parameters callee)
                passes k in fits.own k (given_free f.names (result_class callee) protects (region_parameters callee)
                passes k h') (omega (arith, y, h'))

    same : (r : Region) (ks : List ℕ) → ((k : ℕ) → Contains ks k
        → times_in k (given_names (result_class callee) (region_parameters callee) passes protects) ≡ 0)
        → bound_times r f.names ks ≡ bound_times r (without_all f.names
        (given_names (result_class callee) (region_parameters callee) passes protects)) ks
    same r [] z = refl
    same r (k ∷ ks) z =
        let a : one_when (same_bound r (bound f.names k)) ≡ one_when
        (same_bound r (bound (without_all f.names (given_names (result_class callee) (region_parameters callee)
        passes protects)) k)) = ap (λ x. one_when (same_bound r x))
        (sym (left_other (given_names (result_class callee) (region_parameters callee) passes protects) f.names k
        (z k (contains_here k ks)))) in
        let b' = same r ks (λ j c. z j (contains_there k ks j c)) in
        omega (arith, a, b')
