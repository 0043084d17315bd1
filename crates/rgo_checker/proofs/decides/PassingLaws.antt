-- The tests on what is passed decide the rules on calls. A rule speaks of all places of a name among the region parameters; there is only
-- one, so a look into the map is enough.
use Rattle.std.proofs.Common.{◌≡◌, ℕ, zero, suc, ◌+◌, ◌<◌, ◌≤◌, Bool, true, false, ◌&&◌, ◌||◌, not, List, [], ◌∷◌, ◌++◌, length, Option, Some, None, is_some, slice_get, nat_eq, refl, sym, ap, ◌∙◌, subst, arith, ◌⊎◌, inl, inr, if◌then◌else◌}
use Rattle.std.proofs.lemmas.Bool.{cases_lt, false≢true}
use Rattle.std.proofs.lemmas.Bool.Decides.{Decides-and, Decides-like}
use Rattle.std.proofs.lemmas.Option.{same_Some, none-some}
use Rattle.std.specs.Bool.{Decides}
use Rattle.std.specs.HashMap.{HashMap, get}
use Rattle.std.specs.List.{list_any}
use Rattle.std.specs.Option.{option_map}
use Rattle.rgo_tac.specs.declared.regions.Class.{Class}
use Rattle.rgo_tac.specs.declared.regions.Class.TheVariants.{NoClass, Global, Name}
use Rattle.rgo_tac.specs.Code as tac
use Rattle.rgo_tac.specs.Code.{Op}
use Rattle.rgo_code.specs.Code.{Slot, CodeFn, CodeOp, Code, Do, Call, Go, Print, Jump, Branch, Return}
use Rattle.rgo_code.specs.ClassRules.{IsPassedFor, PassesClasses, StartPasses, CallsPass, StartsPass}
use Rattle.rgo_code.specs.Erasure.{erased_op, erased_fn}
use Rattle.rgo_code.specs.Lists.{passes_of}
use Rattle.rgo_code.specs.Names.{is_class_named, distinct_names, parameter_classes, region_parameters, result_class, class_of}
use Rattle.rgo_checker.specs.ClassTests.{equal_classes, ArePlaces, AreDistinctClasses, is_class, is_passed_at, is_passed_for, ArgumentPasses, ArgumentsPass, TargetPasses, CallPassesBy, StartPassesBy, call_operands, start_operands, CalledPasses, StartedPasses}
use Rattle.rgo_checker.proofs.decides.ClassLaws.{same_class_decided}
use Rattle.rgo_checker.proofs.Deciding.{always, never, decides_same}

-- ---- each name has one place among the region parameters

same_name : (j k : ℕ) → Name j ≡ Name k → j ≡ k
same_name j k e = cc

left_false : (a b : Bool) → (a || b) ≡ false → a ≡ false
left_false true b e = cc
left_false false b e = refl

right_false : (a b : Bool) → (a || b) ≡ false → b ≡ false
right_false true b e = cc
right_false false b e = e

abbrev next_names : (seen cs : List Class) → ℕ → Bool → List Class
next_names seen cs j among = if among then distinct_names seen cs else Name j ∷ distinct_names (Name j ∷ seen) cs

none_seen : (cs seen : List Class) (k p : ℕ) → slice_get (distinct_names seen cs) p ≡ Some (Name k)
    → list_any (is_class_named k) seen ≡ false
none_seen [] seen k p e = absurd (none-some (Name k) e)
none_seen (NoClass ∷ cs) seen k p e = none_seen cs seen k p e
none_seen (Global ∷ cs) seen k p e = none_seen cs seen k p e
none_seen (Name j ∷ cs) seen k p e =
    go (list_any (is_class_named j) seen) refl p e (λ q. none_seen cs seen k q) (λ q. none_seen cs (Name j ∷ seen) k q)
  where
    go : (b : Bool) → list_any (is_class_named j) seen ≡ b → (q : ℕ) → slice_get (next_names seen cs j b) q ≡ Some (Name k)
        → ((q : ℕ) → slice_get (distinct_names seen cs) q ≡ Some (Name k) → list_any (is_class_named k) seen ≡ false)
        → ((q : ℕ) → slice_get (distinct_names (Name j ∷ seen) cs) q ≡ Some (Name k)
        → list_any (is_class_named k) (Name j ∷ seen) ≡ false)
        → list_any (is_class_named k) seen ≡ false
    go true s q h same more = same q h
    go false s zero h same more =
        subst (λ x. list_any (is_class_named x) seen ≡ false) (same_name j k (same_Some (Name j) (Name k) h)) s
    go false s (suc q) h same more = right_false (is_class_named k (Name j)) (list_any (is_class_named k) seen) (more q h)

distinct_from : (cs seen : List Class) → AreDistinctClasses (distinct_names seen cs)
distinct_from [] seen k p q e h = absurd (none-some (Name k) e)
distinct_from (NoClass ∷ cs) seen k p q e h = distinct_from cs seen k p q e h
distinct_from (Global ∷ cs) seen k p q e h = distinct_from cs seen k p q e h
distinct_from (Name j ∷ cs) seen k p q e h =
    go (list_any (is_class_named j) seen) p q e h (distinct_from cs seen) (distinct_from cs (Name j ∷ seen))
  where
    not_again : (r : ℕ) → Some (Name j) ≡ Some (Name k)
        → slice_get (distinct_names (Name j ∷ seen) cs) r ≡ Some (Name k) → ⊥
    not_again r a b =
        let s = left_false (nat_eq k j) (list_any (is_class_named k) seen) (none_seen cs (Name j ∷ seen) k r b) in
        let t = (decides_same k j).1 (sym (same_name j k (same_Some (Name j) (Name k) a))) in
        false≢true (sym s ∙ t)

    go : (b : Bool) → (p q : ℕ) → slice_get (next_names seen cs j b) p ≡ Some (Name k)
        → slice_get (next_names seen cs j b) q ≡ Some (Name k) → AreDistinctClasses (distinct_names seen cs)
        → AreDistinctClasses (distinct_names (Name j ∷ seen) cs) → p ≡ q
    go true p q e h same more = same k p q e h
    go false zero zero e h same more = refl
    go false zero (suc q) e h same more = absurd (not_again q e h)
    go false (suc p) zero e h same more = absurd (not_again p h e)
    go false (suc p) (suc q) e h same more = ap suc (more k p q e h)

pub distinct_of : (f : CodeFn) (classes : List Class) → classes ≡ region_parameters f → AreDistinctClasses classes
distinct_of f classes e =
    subst AreDistinctClasses (sym e) (distinct_from (parameter_classes f.params f.variables ++ result_class f ∷ []) [])

-- ---- what is passed

class_decided : (o : Option Class) (c : Class) → Decides (is_class o c) (o ≡ Some c)
class_decided None c = never (λ e. none-some c e)
class_decided (Some d) c =
    Decides-like (equal_classes d c) (λ e. ap Some e) (λ e. same_Some d c e) (same_class_decided d c)

module _ {S : Type 0} (classes passes : List Class) (places : HashMap ℕ ℕ S) (placed : ArePlaces classes places)
    (distinct : AreDistinctClasses classes) where
  pub passed_for_decided : (parameter argument : Class)
      → Decides (is_passed_for places passes parameter argument) (IsPassedFor classes passes parameter argument)
  passed_for_decided NoClass argument = always tt
  passed_for_decided Global argument = same_class_decided argument Global
  passed_for_decided (Name k) argument = by (get nat_eq places k) refl
    where
      by : (o : Option ℕ) → get nat_eq places k ≡ o
          → Decides (is_passed_at o passes argument) (IsPassedFor classes passes (Name k) argument)
      by None e = always (λ p h. absurd ((placed k p).1 e h))
      by (Some p) e =
          let here = (placed k p).0 e in
          Decides-like (is_class (slice_get passes p) argument)
          (λ q r there. ap (slice_get passes) (distinct k r p there here) ∙ q) (λ h. h p here)
          (class_decided (slice_get passes p) argument)

-- ---- arguments, up to where a loop is

pub more_pass : (P : ℕ → ℕ → Type 0) (from : List ℕ) (i : ℕ) (v : ℕ)
    → ((j w : ℕ) → j < i → slice_get from j ≡ Some w → P j w) → slice_get from i ≡ Some v → P i v
    → (j w : ℕ) → j < i + 1 → slice_get from j ≡ Some w → P j w
more_pass P from i v before here p j w l e = go (cases_lt j i)
  where
    go : (j < i) ⊎ (i ≤ j) → P j w
    go (inl h) = before j w h e
    go (inr h) =
        let q : i ≡ j = omega (arith, l, h) in
        subst (λ x. P x w) q (subst (P i) (same_Some v w (sym here ∙ ap (slice_get from) q ∙ e)) p)

-- ---- calls

pub calls_decided : (code : Code) (f : CodeFn) (op : CodeOp) (b : Bool)
    → Decides b (CallPassesBy code f (passes_of op) (erased_op op)) → Decides b (CallsPass code f op)
calls_decided code f (Do to action from removes) b d = d
calls_decided code f (Call to n from passes protects removes) b d = d
calls_decided code f (Go n from passes removes) b d = d
calls_decided code f (Print pieces from removes) b d = d
calls_decided code f (Jump target removes) b d = d
calls_decided code f (Branch test target removes other otherwise) b d = d
calls_decided code f (Return value) b d = d

pub starts_decided : (code : Code) (f : CodeFn) (op : CodeOp) (b : Bool)
    → Decides b (StartPassesBy code f (passes_of op) (erased_op op)) → Decides b (StartsPass code f op)
starts_decided code f (Do to action from removes) b d = d
starts_decided code f (Call to n from passes protects removes) b d = d
starts_decided code f (Go n from passes removes) b d = d
starts_decided code f (Print pieces from removes) b d = d
starts_decided code f (Jump target removes) b d = d
starts_decided code f (Branch test target removes other otherwise) b d = d
starts_decided code f (Return value) b d = d

pub passes_decided : (f callee : CodeFn) (to : Option ℕ) (from : List ℕ) (classes passes : List Class)
    → classes ≡ region_parameters callee → (arguments target : Bool)
    → Decides arguments (ArgumentsPass f callee classes passes from)
    → Decides target (TargetPasses f callee classes passes to)
    → Decides (nat_eq (length passes) (length classes) && (arguments && target)) (PassesClasses f callee to from passes)
passes_decided f callee to from classes passes e arguments target a t =
    Decides-like (nat_eq (length passes) (length classes) && (arguments && target))
    (λ p. record {
      len = p.0 ∙ ap length e;
      arguments = subst (λ cs. ArgumentsPass f callee cs passes from) e p.1.0;
      result = subst (λ cs. TargetPasses f callee cs passes to) e p.1.1;
    })
    (λ p. (
      p.len ∙ ap length (sym e),
      (
        subst (λ cs. ArgumentsPass f callee cs passes from) (sym e) p.arguments,
        subst (λ cs. TargetPasses f callee cs passes to) (sym e) p.result,
      ),
    ))
    (Decides-and (nat_eq (length passes) (length classes)) (arguments && target)
    (decides_same (length passes) (length classes)) (Decides-and arguments target a t))

-- ---- one argument, and the target

module _ (f callee : CodeFn) (classes passes : List Class) (parameter argument : Class) (b : Bool)
    (d : Decides b (IsPassedFor classes passes parameter argument)) where
  pub argument_decided : (i v : ℕ) → parameter ≡ class_of callee i → argument ≡ class_of f v → i < callee.params
      → Decides b (ArgumentPasses f callee classes passes i v)
  argument_decided i v p a inside =
      let e = subst (λ x. Decides b (IsPassedFor classes passes x (class_of f v))) p
      (subst (λ x. Decides b (IsPassedFor classes passes parameter x)) a d) in
      (λ t l. e.0 t, λ h. e.1 (h inside))

  pub target_decided : (to : Option ℕ) (v : ℕ) → to ≡ Some v → parameter ≡ result_class callee → argument ≡ class_of f v
      → Decides b (TargetPasses f callee classes passes to)
  target_decided to v here p a =
      let e = subst (λ x. Decides b (IsPassedFor classes passes x (class_of f v))) p
      (subst (λ x. Decides b (IsPassedFor classes passes parameter x)) a d) in (
        λ t w h. subst (λ x. IsPassedFor classes passes (result_class callee) (class_of f x))
            (same_Some v w (sym here ∙ h)) (e.0 t),
        λ h. e.1 (h v here),
      )

pub no_target : (f callee : CodeFn) (classes passes : List Class) (to : Option ℕ) → to ≡ None
    → TargetPasses f callee classes passes to
no_target f callee classes passes to none = λ v h. absurd (none-some v (sym none ∙ h))

-- ---- whether it is a call or a start

module _ (code : Code) (f : CodeFn) (passes : List Class) (b : Bool) where
  pub called_decided : (o : Op) (call : Option ℕ × ℕ × List ℕ)
      → ◌≡◌ {A = Option (Option ℕ × ℕ × List ℕ)} (call_operands o) (Some call)
      → Decides b (CalledPasses code f passes call) → Decides b (CallPassesBy code f passes o)
  called_decided (tac.Call to n from) call e d =
      subst (λ (x : Option ℕ × ℕ × List ℕ). Decides b (CalledPasses code f passes x))
      (sym (same_Some {A = Option ℕ × ℕ × List ℕ} (to, n, from) call e)) d
  called_decided (tac.Do to action from) call e d = absurd (none-some {A = Option ℕ × ℕ × List ℕ} call e)
  called_decided (tac.Go n from) call e d = absurd (none-some {A = Option ℕ × ℕ × List ℕ} call e)
  called_decided (tac.Print pieces from) call e d = absurd (none-some {A = Option ℕ × ℕ × List ℕ} call e)
  called_decided (tac.Jump target) call e d = absurd (none-some {A = Option ℕ × ℕ × List ℕ} call e)
  called_decided (tac.Branch test target other) call e d = absurd (none-some {A = Option ℕ × ℕ × List ℕ} call e)
  called_decided (tac.Return value) call e d = absurd (none-some {A = Option ℕ × ℕ × List ℕ} call e)

  pub started_decided : (o : Op) (call : Option ℕ × ℕ × List ℕ)
      → ◌≡◌ {A = Option (Option ℕ × ℕ × List ℕ)} (start_operands o) (Some call)
      → Decides b (StartedPasses code f passes call) → Decides b (StartPassesBy code f passes o)
  started_decided (tac.Go n from) call e d =
      subst (λ (x : Option ℕ × ℕ × List ℕ). Decides b (StartedPasses code f passes x))
      (sym (same_Some {A = Option ℕ × ℕ × List ℕ} (None, n, from) call e)) d
  started_decided (tac.Do to action from) call e d = absurd (none-some {A = Option ℕ × ℕ × List ℕ} call e)
  started_decided (tac.Call to n from) call e d = absurd (none-some {A = Option ℕ × ℕ × List ℕ} call e)
  started_decided (tac.Print pieces from) call e d = absurd (none-some {A = Option ℕ × ℕ × List ℕ} call e)
  started_decided (tac.Jump target) call e d = absurd (none-some {A = Option ℕ × ℕ × List ℕ} call e)
  started_decided (tac.Branch test target other) call e d = absurd (none-some {A = Option ℕ × ℕ × List ℕ} call e)
  started_decided (tac.Return value) call e d = absurd (none-some {A = Option ℕ × ℕ × List ℕ} call e)

no_call_some : {X : Type 0} (x : X) → Some x ≡ None → ⊥
no_call_some x e = none-some x (sym e)

module _ (code : Code) (f : CodeFn) (passes : List Class) where
  pub no_call : (o : Op) → ◌≡◌ {A = Option (Option ℕ × ℕ × List ℕ)} (call_operands o) None → CallPassesBy code f passes o
  no_call (tac.Call to n from) e = absurd (no_call_some {X = Option ℕ × ℕ × List ℕ} (to, n, from) e)
  no_call (tac.Do to action from) e = tt
  no_call (tac.Go n from) e = tt
  no_call (tac.Print pieces from) e = tt
  no_call (tac.Jump target) e = tt
  no_call (tac.Branch test target other) e = tt
  no_call (tac.Return value) e = tt

  pub no_start : (o : Op) → ◌≡◌ {A = Option (Option ℕ × ℕ × List ℕ)} (start_operands o) None → StartPassesBy code f passes o
  no_start (tac.Go n from) e = absurd (no_call_some {X = Option ℕ × ℕ × List ℕ} (None, n, from) e)
  no_start (tac.Do to action from) e = tt
  no_start (tac.Call to n from) e = tt
  no_start (tac.Print pieces from) e = tt
  no_start (tac.Jump target) e = tt
  no_start (tac.Branch test target other) e = tt
  no_start (tac.Return value) e = tt

pub start_decided : (f callee : CodeFn) (from : List ℕ) (passes : List Class) (none passed : Bool)
    → none ≡ not (is_some (erased_fn callee).result_type) → Decides passed (PassesClasses f callee None from passes)
    → Decides (none && passed) (StartPasses f (Some callee) from passes)
start_decided f callee from passes none passed e d =
    Decides-and none passed (subst (λ b. Decides b (callee.result ≡ None)) (sym e) (by callee.result)) d
  where
    by : (o : Option Slot) → Decides (not (is_some (option_map (λ s. s.ty) o))) (o ≡ None)
    by None = always refl
    by (Some s) = never (λ q. none-some s (sym q))
