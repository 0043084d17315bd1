-- What a call or a start passes has a region: the checker requires the names, and the invariant binds them.
use Rattle.std.proofs.Common.{◌≡◌, ◌≢◌, ◌∙◌, ◌≤◌, ℕ, zero, suc, true, List, [], ◌∷◌, length, map, Option, Some, None, is_some, option_map, slice_get, Contains, refl, sym, ap, subst, arith}
use Rattle.std.proofs.lemmas.Option.{same_Some}
use Rattle.rgo_sound.specs.Code.ClassRules.{CallPasses, CallsPass, PassesClasses, StartPasses, StartsPass}
use Rattle.rgo_sound.specs.Code.Code.{CodeFn, CodeOp, Go}
use Rattle.rgo_sound.specs.Code.Erasure.{erased, erased_fn, erased_op}
use Rattle.rgo_sound.specs.Code.Exists.{OpExists, UsesVariable}
use Rattle.rgo_sound.specs.Code.NameRules.{protected_names}
use Rattle.rgo_sound.specs.Code.Names.{UsesRegionName}
use Rattle.rgo_sound.specs.Code.Types.{ArgumentsFit, IsWellTypedOp, TargetFits}
use Rattle.rgo_sound.specs.Code.declared.rules.Line.TheVariants as line
use Rattle.rgo_sound.specs.Code.declared.rules.Rule.TheVariants as rule
use Rattle.rgo_core.proofs.Frames.regions.SlotLemmas.{class_slot, top_slot}
use Rattle.rgo_core.specs.Frames.steps.Before.{IsBefore}
use Rattle.rgo_core.specs.Frames.regions.Slots.{slotted_region, slot_environment, slot_environments, slot_names}
use Rattle.rgo_sound.specs.RegionMachine.Owed.{code_function, regions_named}
use Rattle.rgo_sound.specs.RegionMachine.Regions.{Bindings, bound, class_region, same_region}
use Rattle.rgo_sound.specs.RegionMachine.States.{RegionEnvironment, Holder, top_names}
use Rattle.rgo_sound.specs.RegionMachine.declared.regions.Region.{Region}
use Rattle.rgo_sound.specs.RegionMachine.declared.regions.Region.TheVariants.{Global as GlobalRegion, Numbered}
use Rattle.rgo_sound.proofs.duties.Attends.{same_reflexive}
use Rattle.rgo_sound.proofs.calls.Passed.{ArePassable}
use Rattle.rgo_sound.proofs.calls.Passable.{all_passable, call_reads, call_writes, go_reads}
use Rattle.rgo_sound.proofs.Places.{head_is}
use Rattle.rgo_sound.proofs.names.Ruled.{CallIsThere, StartIsThere, call_is_there, erased_found, start_is_there}
use Rattle.rgo_sound.proofs.names.Pending.{at_most_one_is}
use Rattle.rgo_sound.proofs.calls.Starts.{in_of_times}
use Rattle.rgo_sound.proofs.names.Edges.{named_bound, standing_instr, standing_settled}
use Rattle.rgo_sound.proofs.pointers.Steps.{Top, top_of}
use Rattle.rgo_sound.specs.Invariant.{HasInstr, Settled, Shares, at_most_one, bound_times, same_bound, shared_before, shared_names, times, to_share}
use Rattle.rgo_sound.specs.Stakes.{is_in, one_when, times_in}
use Rattle.rgo_sound.specs.Tac.Code.{TacFn}
use Rattle.rgo_sound.specs.Tac.declared.regions.Class.{Class}
use Rattle.rgo_sound.specs.Tac.declared.regions.Class.TheVariants.{Global, Name, NoClass}
use Rattle.rgo_core.specs.Core.{Situation, Setup}
use Rattle.rgo_core.specs.Next.{IsAtOp}
use Rattle.rgo_core.specs.Records.{Record}
use Rattle.rgo_core.proofs.image.Parts.{I}
use Rattle.rgo_core.proofs.image.Standing.{at_instruction}
use Rattle.rgo_core_facts.specs.ControlRegions.{CallPassesRegions, HaveRegions, IsStaked, NewestUnprotected, StartPassesRegions, StartSharesRegions}
use Rattle.rgo_core_facts.proofs.ControlPending.{some_region}
use Rattle.rgo_core_facts.proofs.ControlRegions.{newest_names}
use Rattle.rgo_core_facts.proofs.ControlSlots.{bound_unslotted, in_mapped}
use Rattle.rgo_core_facts.proofs.ControlView.{good_holder}

no_class : (class : Class) → ◌≡◌ {A = Option Class} None (Some class) → ⊥
no_class class e = cc

passable_at : (names : Bindings) (passes : List Class) → ArePassable names passes → (i : ℕ) (class : Class)
    → slice_get passes i ≡ Some class → (q : Region) × (class_region names class ≡ Some q)
passable_at names [] p i class e = absurd (no_class class e)
passable_at names (Name k ∷ passes) p zero class e =
    subst (λ (c : Class). (q : Region) × (class_region names c ≡ Some q)) (same_Some (Name k) class e) (some_region (bound names k) p.0)
passable_at names (Global ∷ passes) p zero class e =
    subst (λ (c : Class). (q : Region) × (class_region names c ≡ Some q)) (same_Some Global class e) (GlobalRegion, refl)
passable_at names (NoClass ∷ passes) p i class e = absurd p
passable_at names (Name k ∷ passes) p (suc i) class e = passable_at names passes p.1 i class e
passable_at names (Global ∷ passes) p (suc i) class e = passable_at names passes p i class e

module _ {T : Setup} {g : ℕ} {c : Record} (x : Situation T g c) {op : CodeOp} (a : IsAtOp T.code c op) where
  abbrev B : IsBefore T.code (I x).places.slot (I x).addresses x.s g c.frame a.w a.ws a.instr
  B = (at_instruction x a).before

  abbrev top : Top T.code B.h B.frame B.callers
  top = top_of T.code B.h B.frame B.callers (good_holder x (B.frame ∷ B.callers) B.h B.at B.there)

  here : HasInstr top.stands.fn B.frame.next a.instr
  here = top.stands.is_instr ∙ ap Some (standing_instr T.code B.frame top.f B.h.duties a.instr top.stands B.cur)

  settled : Settled top.stands.fn B.frame.next a.instr top.f.names top.f.protections
  settled = standing_settled T.code B.frame top.f B.h.duties a.instr top.stands B.cur B.none

  named : (k : ℕ) → UsesRegionName top.stands.fn a.instr.op k → bound top.f.names k ≢ None
  named k n = named_bound top.stands.fn B.frame.next k a.instr top.f.names
      (x.core.sound.checked rule.Creations (line.Instr B.frame.function B.frame.next) top.stands.fn a.instr top.stands.is_fn here)
      settled.there settled.made settled.lent n

  class_staked : (class : Class) (r : Region) → class_region (top_names c.frame.holder.environments) class ≡ Some r → IsStaked T c r
  class_staked NoClass r e = absurd (none e)
    where
      none : None ≡ Some r → ⊥
      none q = cc
  class_staked Global r e = subst (IsStaked T c) (same_Some GlobalRegion r e) tt
  class_staked (Name k) r e = newest_names T g c x k r e

  have_regions : (passes : List Class) → ArePassable top.f.names passes → HaveRegions T c passes
  have_regions passes p i class e =
      let q = passable_at top.f.names passes p i class e in
      let is : class_region (top_names c.frame.holder.environments) class ≡ Some (slotted_region (I x).places.slot q.0) =
      ap (λ (k : Holder). class_region (top_names k.environments) class) B.holder
      ∙ ap (λ (ns : Bindings). class_region ns class) (top_slot (I x).places.slot B.h.environments)
      ∙ class_slot (I x).places.slot (top_names B.h.environments) class
      ∙ ap (option_map (slotted_region (I x).places.slot))
      (ap (λ (es : List RegionEnvironment). class_region (top_names es) class) top.environments ∙ q.1) in
      (slotted_region (I x).places.slot q.0, is, class_staked class (slotted_region (I x).places.slot q.0) is)

  module _ (n : ℕ) (callee : CodeFn) (to : Option ℕ) (from : List ℕ) (passes : List Class) (found : code_function T.code n ≡ Some callee) where
    passable : ((v : ℕ) → Contains from v → UsesVariable (erased_op a.instr.op) v) → ((d : ℕ) → to ≡ Some d → UsesVariable (erased_op a.instr.op) d)
        → length from ≡ callee.params → is_some to ≡ is_some callee.result → PassesClasses top.stands.fn callee to from passes
        → ArgumentsFit (erased_fn top.stands.fn) (Some (erased_fn callee)) from
        → TargetFits (erased_fn top.stands.fn) (Some (erased_fn callee)) to → ArePassable top.f.names passes
    passable read written args res fits types target =
        all_passable top.stands.fn callee a.instr to from passes top.f.names read written args res fits
        (λ v s q. x.core.sound.checked rule.Classes (line.Slot B.frame.function v) top.stands.fn s top.stands.is_fn q)
        (λ v s q. x.core.sound.checked rule.Classes (line.Slot n v) callee s found q)
        (x.core.sound.checked rule.Classes (line.Function n) callee found) types target named

pub call_passes : CallPassesRegions
call_passes T g c x to n from passes protects removes a =
    have_regions x a passes (passable x a n there.callee to from passes there.found
    (call_reads a.instr to n from passes protects removes a.is) (call_writes a.instr to n from passes protects removes a.is)
    there.arguments_fit there.value_fits fits types.0 types.1)
  where
    there : CallIsThere T.code to n from
    there = call_is_there T.code to n from (subst (λ (o : CodeOp). OpExists (erased T.code) (erased_fn (top x a).stands.fn) (erased_op o)) a.is
        (x.core.sound.checked rule.Exists (line.Instr (B x a).frame.function (B x a).frame.next) (top x a).stands.fn a.instr
        (top x a).stands.is_fn (here x a)).exists)

    fits : PassesClasses (top x a).stands.fn there.callee to from passes
    fits = subst (λ o. CallPasses (top x a).stands.fn o to from passes) there.found
        (subst (λ o. CallsPass T.code (top x a).stands.fn o) a.is
        (x.core.sound.checked rule.Calls (line.Instr (B x a).frame.function (B x a).frame.next) (top x a).stands.fn a.instr
        (top x a).stands.is_fn (here x a)))

    types : ArgumentsFit (erased_fn (top x a).stands.fn) (Some (erased_fn there.callee)) from
        × TargetFits (erased_fn (top x a).stands.fn) (Some (erased_fn there.callee)) to
    types = subst (λ (o : Option TacFn). ArgumentsFit (erased_fn (top x a).stands.fn) o from × TargetFits (erased_fn (top x a).stands.fn) o to)
        (erased_found T.code n there.callee there.found)
        (subst (λ (o : CodeOp). IsWellTypedOp (erased T.code) (erased_fn (top x a).stands.fn) (erased_op o)) a.is
        (x.core.sound.checked rule.Types (line.Instr (B x a).frame.function (B x a).frame.next) (top x a).stands.fn a.instr
        (top x a).stands.is_fn (here x a)))

no_target : (d : ℕ) → ◌≡◌ {A = Option ℕ} None (Some d) → ⊥
no_target d e = cc

pub start_passes : StartPassesRegions
start_passes T g c x n from passes removes a =
    have_regions x a passes (passable x a n there.callee None from passes there.found
    (go_reads a.instr n from passes removes a.is) (λ d e. absurd (no_target d e))
    there.arguments_fit (sym (ap is_some fits.0)) fits.1 types tt)
  where
    there : StartIsThere T.code n from
    there = start_is_there T.code n from (subst (λ (o : CodeOp). OpExists (erased T.code) (erased_fn (top x a).stands.fn) (erased_op o)) a.is
        (x.core.sound.checked rule.Exists (line.Instr (B x a).frame.function (B x a).frame.next) (top x a).stands.fn a.instr
        (top x a).stands.is_fn (here x a)).exists)

    fits : (there.callee.result ≡ None) × PassesClasses (top x a).stands.fn there.callee None from passes
    fits = subst (λ o. StartPasses (top x a).stands.fn o from passes) there.found
        (subst (λ o. StartsPass T.code (top x a).stands.fn o) a.is
        (x.core.sound.checked rule.Starts (line.Instr (B x a).frame.function (B x a).frame.next) (top x a).stands.fn a.instr
        (top x a).stands.is_fn (here x a)))

    types : ArgumentsFit (erased_fn (top x a).stands.fn) (Some (erased_fn there.callee)) from
    types = subst (λ (o : Option TacFn). ArgumentsFit (erased_fn (top x a).stands.fn) o from)
        (erased_found T.code n there.callee there.found)
        (subst (λ (o : CodeOp). IsWellTypedOp (erased T.code) (erased_fn (top x a).stands.fn) (erased_op o)) a.is
        (x.core.sound.checked rule.Types (line.Instr (B x a).frame.function (B x a).frame.next) (top x a).stands.fn a.instr
        (top x a).stands.is_fn (here x a)))

-- ---- stakes for a child

named_among : (names : Bindings) (passes : List Class) (k q i : ℕ) → slice_get passes i ≡ Some (Name k) → bound names k ≡ Some (Numbered q)
    → 1 ≤ bound_times (Numbered q) names (regions_named passes)
named_among names [] k q i e b = absurd (no_class (Name k) e)
named_among names (Name j ∷ passes) k q zero e b =
    let same : j ≡ k = number j k (same_Some (Name j) (Name k) e) in
    let o : one_when (same_bound (Numbered q) (bound names j)) ≡ 1 =
    ap (λ n. one_when (same_bound (Numbered q) (bound names n))) same ∙ ap (λ r. one_when (same_bound (Numbered q) r)) b
    ∙ ap one_when (same_reflexive (Numbered q)) in
    omega (arith, o)
  where
    number : (j k : ℕ) → Name j ≡ Name k → j ≡ k
    number j k e = cc
named_among names (Global ∷ passes) k q zero e b = let z : Global ≡ Name k = same_Some Global (Name k) e in cc
named_among names (NoClass ∷ passes) k q zero e b = let z : NoClass ≡ Name k = same_Some NoClass (Name k) e in cc
named_among names (Name j ∷ passes) k q (suc i) e b =
    let n = named_among names passes k q i e b in omega (arith, n)
named_among names (Global ∷ passes) k q (suc i) e b = named_among names passes k q i e b
named_among names (NoClass ∷ passes) k q (suc i) e b = named_among names passes k q i e b

module _ {T : Setup} {g : ℕ} {c : Record} (x : Situation T g c) (n : ℕ) (from : List ℕ) (passes : List Class) (removes : List ℕ)
    (a : IsAtOp T.code c (Go n from passes removes)) where
  names_are : top_names c.frame.holder.environments ≡ slot_names (I x).places.slot (top_names (B x a).h.environments)
  names_are = ap (λ (k : Holder). top_names k.environments) (B x a).holder ∙ top_slot (I x).places.slot (B x a).h.environments

  pended : (r : ℕ) → times_in r (B x a).h.pending ≡ at_most_one (bound_times (Numbered r) (top_names (B x a).h.environments) (regions_named passes))
  pended = subst (λ ks. Shares ks [] (top_names (B x a).h.environments) (B x a).h.pending)
      (ap shared_before (B x a).cur ∙ ap shared_names a.is)
      (subst (λ ds. Shares (to_share T.code ((B x a).frame ∷ (B x a).callers)) ds (top_names (B x a).h.environments) (B x a).h.pending) (B x a).none
      (good_holder x ((B x a).frame ∷ (B x a).callers) (B x a).h (B x a).at (B x a).there).shares)

  name_shared : (i k p : ℕ) → slice_get passes i ≡ Some (Name k) → bound (top_names c.frame.holder.environments) k ≡ Some (Numbered p)
      → is_in p c.frame.holder.pending ≡ true
  name_shared i k p e b = by q.0 q.1 q.2
    where
      q : (r : Region) × (bound (top_names (B x a).h.environments) k ≡ Some r) × (slotted_region (I x).places.slot r ≡ Numbered p)
      q = bound_unslotted (I x).places.slot (top_names (B x a).h.environments) k (Numbered p)
          (ap (λ (ns : Bindings). bound ns k) (sym names_are) ∙ b)

      by : (r : Region) → bound (top_names (B x a).h.environments) k ≡ Some r → slotted_region (I x).places.slot r ≡ Numbered p
          → is_in p c.frame.holder.pending ≡ true
      by GlobalRegion b s = cc
      by (Numbered j) b s =
          let is : (I x).places.slot j ≡ p = numbered ((I x).places.slot j) p s in
          let m = named_among (top_names (B x a).h.environments) passes k j i e b in
          let t = pended j ∙ at_most_one_is (bound_times (Numbered j) (top_names (B x a).h.environments) (regions_named passes)) m in
          ap (λ (y : Holder). is_in p y.pending) (B x a).holder
          ∙ ap (λ y. is_in y (map (I x).places.slot (B x a).h.pending)) (sym is)
          ∙ in_mapped (I x).places.slot (B x a).h.pending j (in_of_times j (B x a).h.pending (omega (arith, t)))
        where
          numbered : (m n : ℕ) → Numbered m ≡ Numbered n → m ≡ n
          numbered m n e = cc

  shared_at : (i : ℕ) (class : Class) (p : ℕ) → slice_get passes i ≡ Some class
      → class_region (top_names c.frame.holder.environments) class ≡ Some (Numbered p) → is_in p c.frame.holder.pending ≡ true
  shared_at i NoClass p e b = absurd (none b)
    where
      none : None ≡ Some (Numbered p) → ⊥
      none z = cc
  shared_at i Global p e b = absurd (global (same_Some GlobalRegion (Numbered p) b))
    where
      global : GlobalRegion ≡ Numbered p → ⊥
      global z = cc
  shared_at i (Name k) p e b = name_shared i k p e b

pub start_shares : StartSharesRegions
start_shares T g c x n from passes removes a i class p e b = shared_at x n from passes removes a i class p e b

-- ---- protections

none_listed : (rs : List Region) → ((r : Region) → times r rs ≡ 0) → rs ≡ []
none_listed [] n = refl
none_listed (s ∷ rs) n =
    let e = n s in
    let o : one_when (same_region s s) ≡ 1 = ap one_when (same_reflexive s) in absurd (omega (arith, e, o))

pub newest_unprotected : NewestUnprotected
newest_unprotected T g c x op a none e es is =
    let f = (top x a).f in
    let empty : f.protections ≡ [] = none_listed f.protections
    (λ r. (settled x a).protections_fit r ∙ ap (bound_times r f.names) (ap protected_names a.is ∙ none)) in
    let same : slot_environment (I x).places.slot f ≡ e = head_is (slot_environment (I x).places.slot f) e
    (slot_environments (I x).places.slot (top x a).fs) es
    (sym (ap (slot_environments (I x).places.slot) (top x a).environments) ∙ (sym (ap (λ (k : Holder). k.environments) (B x a).holder) ∙ is)) in
    ap (λ (y : RegionEnvironment). y.protections) (sym same) ∙ ap (map (slotted_region (I x).places.slot)) empty
