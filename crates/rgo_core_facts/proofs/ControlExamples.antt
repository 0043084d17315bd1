-- Each definition where it holds and where it must not.
use Rattle.std.proofs.Common.{◌≡◌, inl, inr, ⊎_elim, ◌∙◌, ◌<◌, ℕ, zero, suc, true, false, List, [], ◌∷◌, length, Option, Some, None, is_some, get_or, slice_get, nat_eq, if◌then◌else◌, refl, sym, ap, subst, arith, true≢false}
use Rattle.std.proofs.lemmas.Option.{same_Some}
use Rattle.std.specs.List.{list_any}
use Rattle.rgo_sound.specs.Ast.declared.ops.BinaryOp.TheVariants.{And}
use Rattle.rgo_sound.specs.Code.Code.{Branch, Call, CodeFn, CodeInstr, CodeOp, Do}
use Rattle.rgo_sound.specs.Code.Erasure.{erased_op}
use Rattle.rgo_sound.specs.Code.Exists.{UsesVariable}
use Rattle.rgo_core.specs.Frames.shown.WordFrames.{WordFrame}
use Rattle.rgo_sound.specs.Machine.declared.limits.Limits.{Limits}
use Rattle.rgo_sound.specs.Machine.declared.limits.Sizes.{Sizes}
use Rattle.rgo_sound.specs.RegionMachine.Examples.{int_slot, passed_twice, plain_instr}
use Rattle.rgo_sound.specs.RegionMachine.Owed.{code_function}
use Rattle.rgo_sound.specs.RegionMachine.Regions.{bound, class_region, same_region}
use Rattle.rgo_sound.specs.RegionMachine.States.{RegionEnvironment}
use Rattle.rgo_sound.specs.RegionMachine.declared.regions.Region.{Region}
use Rattle.rgo_sound.specs.RegionMachine.declared.regions.Region.TheVariants.{Numbered}
use Rattle.rgo_sound.proofs.Places.{contains_here, contains_one}
use Rattle.rgo_sound.proofs.Tests.{eq_of, split}
use Rattle.rgo_sound.specs.Stakes.{is_in}
use Rattle.rgo_sound.specs.Tac.declared.regions.Class.{Class}
use Rattle.rgo_sound.specs.Tac.declared.regions.Class.TheVariants.{Name}
use Rattle.rgo_sound.specs.Typed.declared.actions.Action.TheVariants as action
use Rattle.rgo_sound.specs.Typed.declared.types.Base.TheVariants as base
use Rattle.rgo_sound.specs.Typed.declared.types.Type.{«Type»}
use Rattle.rgo_sound.specs.WellFormed.TypeRules.{bool, int}
use Rattle.rgo_core.specs.Core.{Setup}
use Rattle.rgo_core.specs.Next.{IsAtOp}
use Rattle.rgo_core.specs.Records.{Record}
use Rattle.rgo_core_facts.specs.ControlDuties.{HasNewest}
use Rattle.rgo_core_facts.specs.ControlExamples.{CodeExamples, ControlFrameExamples, ControlPrintExamples, ControlRegionExamples, at_call, knowing_record, looping, name_binding, setup}
use Rattle.rgo_core_facts.specs.ControlRegions.{HasEnvironment, HaveRegions, IsStaked}

abbrev called_fn : CodeFn
called_fn = get_or passed_twice.functions 0 looping

abbrev main_fn : CodeFn
main_fn = get_or passed_twice.functions 1 looping

no_some : {X : Type 0} (y : X) → ◌≡◌ {A = Option X} None (Some y) → ⊥
no_some y e = cc

-- ---- code

uses_zero : (v : ℕ) → UsesVariable (erased_op (Branch 0 0 [] 0 [])) v → v < 1
uses_zero v (inl c) = let e = contains_one 0 v c in omega (arith, e)
uses_zero v (inr e) = absurd (no_some v e)

-- the called function has a result
f_has_result : (h : CodeFn) → code_function passed_twice 0 ≡ Some h → false ≡ is_some h.result → ⊥
f_has_result h found e = true≢false (sym (e ∙ ap (λ (f : CodeFn). is_some f.result) (sym (same_Some called_fn h found))))

pub code_examples : CodeExamples
code_examples = record {
  uses = uses_zero;
  uses_no_variable = λ h. let l = h 1 (inl (contains_here 1 [])) in omega (arith, l);
  jumps = omega arith;
  jumps_out = λ l. omega (arith, l);
  runs_out = λ l. omega (arith, l);
  returns = refl;
  returns_a_value = λ e. true≢false e;
  calls = record { callee = called_fn; found = refl; arguments = refl; parameters = omega arith; regions = refl; result = refl };
  calls_no_function = λ h. no_some h.callee h.found;
  drops_result = λ h. f_has_result h.callee h.found h.result;
  starts_with_result = λ h. f_has_result h.callee h.found h.result;
  loads = record { operands = refl; target = refl; operator = λ op e. cc };
  loads_nowhere = λ s. true≢false (sym s.target);
  stores_nothing = λ s. let n = s.operands in omega (arith, n);
  takes_both = λ s. (s.operator And refl).0 refl;
}

-- ---- frames

abbrev call_op : CodeOp
call_op = Call (Some 2) 0 (1 ∷ 1 ∷ []) (Name 0 ∷ Name 0 ∷ []) (0 ∷ []) (0 ∷ [])

abbrev next_here : IsAtOp passed_twice (knowing_record (0 ∷ [])) call_op
next_here = record {
  w = at_call;
  ws = [];
  frames = refl;
  fn = main_fn;
  in_fn = refl;
  instr = plain_instr call_op;
  cur = refl;
  is = refl;
  none = refl;
  free = refl;
}

no_store : (to : Option ℕ) (n k : ℕ) (from others removes more protects : List ℕ) (passes : List Class)
    → Do None (action.Store k) from removes ≡ Call to n others passes protects more → ⊥
no_store to n k from others removes more protects passes e = cc

no_frame : {X : Type 0} (w : X) (ws : List X) → [] ≡ w ∷ ws → ⊥
no_frame w ws e = cc

pub frame_examples : ControlFrameExamples
frame_examples = record {
  in_code = record { fn = main_fn; in_fn = refl; instr = plain_instr call_op; at = refl; cur = refl; words = refl };
  past_end = λ i. no_some i.instr i.cur;
  without_words = λ i. let e = i.words ∙ ap (λ (f : CodeFn). length f.variables) (sym (same_Some main_fn i.fn i.in_fn)) in omega (arith, e);
  called = record {
    fn = called_fn;
    in_fn = refl;
    call = plain_instr call_op;
    cur = refl;
    to = Some 2;
    n = 0;
    from = 1 ∷ 1 ∷ [];
    passes = Name 0 ∷ Name 0 ∷ [];
    protects = 0 ∷ [];
    removes = 0 ∷ [];
    is = refl;
    calls = refl;
    result = refl;
  };
  called_elsewhere = λ i. no_store i.to i.n 0 (1 ∷ 0 ∷ []) i.from [] i.removes i.protects i.passes
      (ap (λ (j : CodeInstr). j.op) (same_Some (plain_instr (Do None (action.Store 0) (1 ∷ 0 ∷ []) [])) i.call i.cur) ∙ i.is);
  next = record { op = call_op; here = next_here; newest = refl; callers = refl; at = refl; words = refl };
  no_next = λ w ws i. no_frame i.here.w i.here.ws i.here.frames;
}

-- ---- regions

-- slot 0 alone is among these stakes
one_stake : (p : ℕ) → is_in p (0 ∷ []) ≡ true → p ≡ 0
one_stake p e = split (nat_eq p 0) (λ t. eq_of p 0 t) (λ n. absurd (true≢false (sym e ∙ ap (λ b. if b then true else false) n)))

one_environment : (c : Record) (e : RegionEnvironment) → c.frame.holder.environments ≡ name_binding ∷ [] → HasEnvironment c e → name_binding ≡ e
one_environment c e is (zero, at) = same_Some name_binding e (sym (ap (λ (l : List RegionEnvironment). slice_get l 0) is) ∙ at)
one_environment c e is (suc i, at) = absurd (no_some e (sym (ap (λ (l : List RegionEnvironment). slice_get l (suc i)) is) ∙ at))

one_binding : (k : ℕ) (r : Region) → bound name_binding.names k ≡ Some r → (k ≡ 0) × (r ≡ Numbered 0)
one_binding k r e = split (nat_eq 0 k)
    (λ t. (sym (eq_of 0 k t), sym (same_Some (Numbered 0) r (sym (ap (λ b. if b then Some (Numbered 0) else None) t) ∙ e))))
    (λ n. absurd (no_some r (sym (ap (λ b. if b then Some (Numbered 0) else None) n) ∙ e)))

abbrev first_environment : (stakes : List ℕ) → HasEnvironment (knowing_record stakes) name_binding
first_environment stakes = (0, refl)

newest_is : (stakes : List ℕ) (e : RegionEnvironment) → HasNewest (knowing_record stakes) e → name_binding ≡ e
newest_is stakes e n = head name_binding e [] n.es n.environments
  where
    head : (a b : RegionEnvironment) (more others : List RegionEnvironment) → a ∷ more ≡ b ∷ others → a ≡ b
    head a b more others e = cc

newest : (stakes : List ℕ) → HasNewest (knowing_record stakes) name_binding
newest stakes = record { w = at_call; ws = []; frames = refl; es = []; environments = refl }

module _ (sizes : Sizes) (limits : Limits) where
  abbrev T : Setup
  T = setup sizes limits

  pub region_examples : ControlRegionExamples sizes limits
  region_examples = record {
    global = tt;
    staked = λ low. (refl, low);
    unstaked = λ s. true≢false (sym s.0);
    knows = λ low. record {
      slots = λ p i. subst (λ n. n < sizes.regions) (sym (one_stake p i)) low;
      as_many = refl;
      unique = ((refl, tt), tt);
      names = λ e k r has b.
          subst (IsStaked T (knowing_record (0 ∷ [])))
          (sym (one_binding k r (ap (λ (y : RegionEnvironment). bound y.names k) (one_environment (knowing_record (0 ∷ [])) e refl has) ∙ b)).1)
          (refl, low);
      protections = λ e r has a. absurd (true≢false
          (sym (ap (λ (y : RegionEnvironment). list_any (same_region r) y.protections) (one_environment (knowing_record (0 ∷ [])) e refl has) ∙ a)));
      base = λ r a. absurd (true≢false (sym a));
      pending = λ p l. absurd (omega (arith, l));
      pages = λ f w. absurd (no_some f w.1);
    };
    knows_too_much = λ k. true≢false (sym (k.names name_binding 0 (Numbered 0) (first_environment []) refl).0);
    nothing = record {
      names = λ e k has b.
          let r = one_binding k (Numbered 1) (ap (λ (y : RegionEnvironment). bound y.names k) (one_environment (knowing_record (0 ∷ [])) e refl has) ∙ b) in
          other r.1;
      protections = λ e has. sym (ap (λ (y : RegionEnvironment). list_any (same_region (Numbered 1)) y.protections)
          (one_environment (knowing_record (0 ∷ [])) e refl has));
      base = refl;
      pending = refl;
      pages = λ f w. absurd (no_some f w.1);
    };
    something = λ n. n.names name_binding 0 (first_environment []) refl;
    passes = λ low i class e. passed low i class e;
    passes_no_region = λ h. let r = h 0 (Name 1) refl in no_some r.0 r.1;
    creates = record { e = name_binding; newest = newest (0 ∷ []); unbound = refl };
    creates_again = λ u.
        no_some (Numbered 0) (sym (ap (λ (y : RegionEnvironment). bound y.names 0) (newest_is (0 ∷ []) u.e u.newest) ∙ u.unbound));
    removes = λ low. record {
      named = record { e = name_binding; newest = newest (0 ∷ []); region = Numbered 0; bound = refl; staked = (refl, low) };
      none = refl;
    };
    shares_no_region = λ n.
        no_some n.region (ap (λ (y : RegionEnvironment). bound y.names 1) (newest_is (0 ∷ []) n.e n.newest) ∙ n.bound);
    unprotects_none = λ u. true≢false
        (sym (ap (λ (y : RegionEnvironment). list_any (same_region u.named.region) y.protections) (newest_is (0 ∷ []) u.named.e u.named.newest)
        ∙ u.protected));
    ends_early = λ b. frame_left at_call [] b.frames;
  }
    where
      other : Numbered 1 ≡ Numbered 0 → ⊥
      other e = let z = ap (same_region (Numbered 0)) e in true≢false (sym z)

      frame_left : (w : WordFrame) (ws : List WordFrame) → w ∷ ws ≡ [] → ⊥
      frame_left w ws e = cc

      passed : 0 < sizes.regions → HaveRegions T (knowing_record (0 ∷ [])) (Name 0 ∷ [])
      passed low zero class e = subst (λ (c : Class). (r : Region)
          × (class_region name_binding.names c ≡ Some r) × IsStaked T (knowing_record (0 ∷ [])) r)
          (same_Some (Name 0) class e) (Numbered 0, refl, (refl, low))
      passed low (suc i) class e = absurd (no_some class e)

-- ---- prints

pub print_examples : ControlPrintExamples
print_examples = record {
  an_int = record { ty = refl; fits = omega arith; shows = refl };
  too_large = λ i. let l = i.fits in omega (arith, l);
  no_int = λ i. absurd (other i.ty);
  a_bool = record { ty = refl; fits = inr refl; shows = refl };
  neither = λ b. ⊎_elim (λ (e : 2 ≡ 0). omega (arith, e)) (λ (e : 2 ≡ 1). omega (arith, e)) b.fits;
  prints = record { slot = int_slot; is = refl; word = inl (record { ty = refl; fits = omega arith; shows = refl }) };
  prints_no_variable = λ p. no_some p.slot p.is;
}
  where
    other : bool ≡ int → ⊥
    other e = let z : base.Bool ≡ base.Int = ap (λ (t : «Type»). t.base) e in cc
