-- Examples of spread objects, by computation.
use Rattle.std.proofs.Common.{◌≡◌, ◌⊎◌, ◌<◌, ◌≤◌, ◌^◌, inl, inr, ⊎_elim, ℕ, suc, ◌+◌, true, false, List, [], ◌∷◌, Some, None, refl, ap, sym, subst, ◌∙◌, arith}
use Rattle.std.proofs.lemmas.Bool.{false≢true}
use Rattle.std.proofs.lemmas.Option.{none-some, same_Some}
use Rattle.rgo_sound.specs.Code.Code.{CodeInstr, CodeOp, Do}
use Rattle.rgo_sound.specs.Machine.declared.limits.Limits.{Limits}
use Rattle.rgo_sound.specs.Memory.Memory.{Object}
use Rattle.rgo_sound.specs.RegionMachine.Examples.{int_slot, main_of, plain_instr, slot_in_class}
use Rattle.rgo_sound.specs.RegionMachine.Objects.{is_spread, is_too_large, object_words as words_of}
use Rattle.rgo_sound.specs.RegionMachine.Owed.{current}
use Rattle.rgo_sound.specs.RegionMachine.Room.{pages_of}
use Rattle.rgo_sound.specs.RegionMachine.declared.regions.Region.TheVariants.{Global as GlobalRegion}
use Rattle.rgo_sound.specs.Tac.declared.regions.Class.TheVariants.{Global}
use Rattle.rgo_sound.specs.Typed.declared.actions.Action.TheVariants as action
use Rattle.rgo_sound.specs.WellFormed.TypeRules.{int, slice_of}
use Rattle.rgo_core.specs.moves.Cells.{IsAtSpread, IsInSlice, IsLocated, LoadsElement, LoadsField, StoresElement, StoresField}
use Rattle.rgo_core.specs.Core.{layout}
use Rattle.rgo_core.specs.Frames.shown.WordFrames.{WordFrame, bare, frame_word}
use Rattle.rgo_core.specs.Memory.Records.{Located, Make, Measured}
use Rattle.rgo_core.specs.Memory.Spread.{spread_opening, table_words}
use Rattle.rgo_core.specs.Memory.Words.{cell_at}
use Rattle.rgo_core.specs.moves.NewObjects.{ASlice}
use Rattle.rgo_core.specs.Next.{IsAtOp}
use Rattle.rgo_core.specs.Records.{Record}
use Rattle.rgo_core_steps.specs.Accesses.{Element, Field, Length, Loads, Variable}
use Rattle.rgo_core_steps.specs.Making.{IsPlacedApart, RecordMakesNext}
use Rattle.rgo_core_steps.specs.Searches.{upward}
use Rattle.rgo_core_steps.specs.SpreadExamples.{ReachExamples, ReservedExamples, SpreadAccessExamples, StrewnExamples, all_pages, amid, ints, late, located_record, measured, reading, slicing, storing_record, the_element, the_slice}
use Rattle.rgo_core_steps.proofs.making.Objects.{next_object_is}

-- ---- new objects

abbrev makes : (limits : Limits) (n : ℕ) (pages : List ℕ) (make : Make) → n < 2 ^ 63 → RecordMakesNext (slicing limits) (amid n pages make) (ints n) 2
makes limits n pages make small = record {
  to = Some 1;
  act = action.Slice;
  from = 0 ∷ [];
  removes = [];
  here = record {
    w = record { function = 0; next = 0; variables = n ∷ 0 ∷ [] };
    ws = [];
    frames = refl;
    fn = main_of (int_slot ∷ slot_in_class (slice_of int) Global ∷ []) (plain_instr the_slice ∷ []);
    in_fn = refl;
    instr = plain_instr the_slice;
    cur = refl;
    is = refl;
    none = refl;
    free = refl;
  };
  makes = ASlice 0 refl refl small refl;
  region = GlobalRegion;
  in_region = refl;
  in_slot = refl;
}

less : (a b : ℕ) → a < b → b ≤ a → ⊥
less a b l m = omega (arith, l, m)

-- the object that it makes is that slice
its : (limits : Limits) (n : ℕ) (pages : List ℕ) (make : Make) → n < 2 ^ 63 → (object : Object) (slot : ℕ)
    → RecordMakesNext (slicing limits) (amid n pages make) object slot → ints n ≡ object
its limits n pages make small object slot m =
    same_Some (ints n) object (sym (next_object_is (makes limits n pages make small)) ∙ next_object_is m)

reserved_examples : (limits : Limits) → ReservedExamples limits
reserved_examples limits = record {
  made = refl;
  spread = refl;
  whole = refl;
  nothing = refl;
  needs = record {
    object = ints 9;
    next = makes limits 9 (3 ∷ 1 ∷ []) _ (omega arith);
    spread = refl;
    small = refl;
    more = omega arith;
  };
  has_all = λ slot k.
      less 3 3 (subst (λ (o : Object). 3 < pages_of 8 o) (sym (its limits 9 all_pages _ (omega arith) k.object slot k.next)) k.more) (omega arith);
  needs_own = record {
    object = ints 7;
    next = makes limits 7 [] _ (omega arith);
    fits = omega arith;
    full = λ f owned same. absurd (none-some f owned.1);
  };
  needs_no_own = λ slot k.
      less 8 10 (omega arith) (subst (λ (o : Object). words_of o ≤ 8) (sym (its limits 9 [] _ (omega arith) k.object slot k.next)) k.fits);
  not_reserved = λ slot k.
      false≢true (subst (λ (o : Object). is_spread 8 o ≡ true) (sym (its limits 7 [] _ (omega arith) k.object slot k.next)) k.spread);
  too_large = λ slot k.
      false≢true (sym (subst (λ (o : Object). is_too_large 8 o ≡ false) (sym (its limits 49 [] _ (omega arith) k.object slot k.next)) k.small));
  takes = refl;
  pages = refl;
  takes_own = refl;
  missed = refl;
}

strewn_examples : (limits : Limits) → StrewnExamples limits
strewn_examples limits = record {
  length = record {
    object = ints 9;
    slot = 2;
    next = makes limits 9 all_pages _ (omega arith);
    spread = refl;
    small = refl;
    all = refl;
    making = inl refl;
    low = omega arith;
    at = refl;
    opens = refl;
  };
  last = record {
    object = ints 9;
    slot = 2;
    next = makes limits 9 all_pages _ (omega arith);
    spread = refl;
    small = refl;
    all = refl;
    making = inr refl;
    low = omega arith;
    at = refl;
    opens = refl;
  };
  number = (
    record {
      object = ints 9;
      slot = 2;
      next = makes limits 9 all_pages _ (omega arith);
      spread = refl;
      small = refl;
      all = refl;
      making = inr refl;
      low = omega arith;
      at = refl;
      opens = refl;
    },
    omega arith,
  );
  not_plus = λ word k. one_two
      (subst (λ (o : Object). 1 ≡ spread_opening o all_pages 10) (sym (its limits 9 all_pages _ (omega arith) k.object k.slot k.next)) k.opens);
  no_number = λ word value k high. less 9 10 (omega arith)
      (subst (λ (o : Object). words_of o ≤ 9) (sym (its limits 9 all_pages _ (omega arith) k.object k.slot k.next)) high);
  none_more = λ word value k. less 12 12
      (subst (λ (o : Object). 12 < table_words 8 o) (sym (its limits 9 all_pages _ (omega arith) k.object k.slot k.next)) k.low) (omega arith);
  too_early = λ i word value k. two_three
      (subst (λ (o : Object). 2 ≡ pages_of 8 o) (sym (its limits 9 (3 ∷ 1 ∷ []) _ (omega arith) k.object k.slot k.next)) k.all);
  unnumbered = refl;
  made = refl;
  spent = refl;
  pointer = refl;
  points = λ object is all. subst (IsPlacedApart (slicing limits) (storing_record (upward 0 11))) (same_Some (ints 9) object is)
      (omega arith, λ address like e. place address e);
  points_out = λ p. less 32 35 (omega arith) (p (ints 9) refl refl).0;
}
  where
    one_two : ◌≡◌ {A = ℕ} 1 2 → ⊥
    one_two e = omega (arith, e)

    two_three : ◌≡◌ {A = ℕ} 2 3 → ⊥
    two_three e = omega (arith, e)

    place : (address : ℕ) → 25 ≡ suc address → address + 1 ≤ 32
    place address e = omega (arith, e)

-- ---- cells

abbrev the_instr : CodeInstr
the_instr = plain_instr the_element

abbrev the_frame : WordFrame
the_frame = record { function = 0; next = 0; variables = 25 ∷ 8 ∷ 0 ∷ [] }

-- the record is at this instruction, whatever it has read
abbrev loads_it : (limits : Limits) (n : ℕ) → IsAtOp (reading limits).code (measured n) the_element
loads_it limits n = record {
  w = the_frame;
  ws = [];
  frames = refl;
  fn = main_of (int_slot ∷ int_slot ∷ int_slot ∷ []) (the_instr ∷ []);
  in_fn = refl;
  instr = the_instr;
  cur = refl;
  is = refl;
  none = refl;
  free = refl;
}

abbrev loads_located : (limits : Limits) → IsAtOp (reading limits).code located_record the_element
loads_located limits = record {
  w = the_frame;
  ws = [];
  frames = refl;
  fn = main_of (int_slot ∷ int_slot ∷ int_slot ∷ []) (the_instr ∷ []);
  in_fn = refl;
  instr = the_instr;
  cur = refl;
  is = refl;
  none = refl;
  free = refl;
}

first_is : (v w : WordFrame) (vs ws : List WordFrame) → v ∷ vs ≡ w ∷ ws → v ≡ w
first_is v w vs ws e = cc

-- the instruction of each such record is that load
op_is : (limits : Limits) (c : Record) → c.frame.frames ≡ the_frame ∷ [] → (op : CodeOp) (a : IsAtOp (reading limits).code c op)
    → (the_frame ≡ a.w) × (the_element ≡ op)
op_is limits c are op a =
    let w = first_is the_frame a.w [] a.ws (sym are ∙ a.frames) in (
      w,
      ap (λ (j : CodeInstr). j.op)
          (same_Some the_instr a.instr (ap (λ (f : WordFrame). current (reading limits).code (bare f)) w ∙ a.cur)) ∙ a.is,
    )

no_field : (d k : ℕ) (from removes : List ℕ) → the_element ≡ Do (Some d) (action.Load k) from removes → ⊥
no_field d k from removes e = cc e

no_store : (k : ℕ) (from removes : List ℕ) → the_element ≡ Do None (action.Store k) from removes → ⊥
no_store k from removes e = cc e

no_put : (from removes : List ℕ) → the_element ≡ Do None action.Put from removes → ⊥
no_put from removes e = cc e

no_length : (d : ℕ) (from removes : List ℕ) → the_element ≡ Do (Some d) action.Len from removes → ⊥
no_length d from removes e = cc e

no_variable : (d k : ℕ) (from removes : List ℕ) → the_element ≡ Do (Some d) (action.Get k) from removes → ⊥
no_variable d k from removes e = cc e

slice_is : (d p q : ℕ) (removes : List ℕ) → the_element ≡ Do (Some d) action.At (p ∷ q ∷ []) removes → 0 ≡ p
slice_is d p q removes e = cc

index_is : (d p q : ℕ) (removes : List ℕ) → the_element ≡ Do (Some d) action.At (p ∷ q ∷ []) removes → 1 ≡ q
index_is d p q removes e = cc

address_is : (address : ℕ) → 25 ≡ suc address → address ≡ 24
address_is address e = omega (arith, e)

elements_are : (n : ℕ) (inside : Measured) → (measured n).memory.measured ≡ Some inside → n ≡ inside.elements
elements_are n inside e = ap (λ (m : Measured). m.elements) (same_Some (record { address = 24; elements = n; steps = 0 }) inside e)

-- what a load there shows of its element
record Shown (limits : Limits) (c : Record) (word address index : ℕ) : Type 0 where
  pub inside : IsInSlice c address index
  pub is_at : (suc inside.measured.elements ≤ 8) ⊎ IsLocated (reading limits) c address index word

-- every load at this instruction is one of element 8 at address 24
shown : (limits : Limits) (c : Record) → c.frame.frames ≡ the_frame ∷ [] → (word : ℕ) → Loads (reading limits) c word → Shown limits c word 24 8
shown limits c are word (Field d k p address removes a points there) = absurd (no_field d k (p ∷ []) removes (op_is limits c are _ a).1)
shown limits c are word (Length d p address removes a points there) = absurd (no_length d (p ∷ []) removes (op_is limits c are _ a).1)
shown limits c are word (Variable d k removes a there) = absurd (no_variable d k [] removes (op_is limits c are _ a).1)
shown limits c are word (Element d p q address removes a points inside there) =
    let t = op_is limits c are _ a in
    let at = address_is address ((λ j. frame_word (t.0 j) (slice_is d p q removes t.1 j)) ∙ points) in
    let i : frame_word a.w q ≡ 8 = sym (λ j. frame_word (t.0 j) (index_is d p q removes t.1 j)) in
    subst (λ (address : ℕ). Shown limits c word address 8) at (subst (λ (index : ℕ). Shown limits c word address index) i
    (record { inside = inside; is_at = ⊎_elim (λ w. inl w.0) (λ l. inr l) there }))

nine : (inside : Measured) → (measured 9).memory.measured ≡ Some inside → suc inside.elements ≤ 8 → ⊥
nine inside e low = let n = elements_are 9 inside e in omega (arith, n, low)

reach_examples : (limits : Limits) → ReachExamples limits
reach_examples limits = record {
  before = LoadsElement 2 0 1 [] (loads_it limits 9) refl
      (record { measured = _; read = refl; now = refl; its = refl; within = omega arith }) (omega arith) refl refl;
  outside = outside;
  loads = Element 2 0 1 24 [] (loads_located limits) refl
      (record { measured = _; read = refl; now = refl; its = refl; within = omega arith })
      (inr (record { located = _; read = refl; now = refl; its = refl; of_cell = refl; at = refl }));
  elsewhere = λ l. let s = shown limits located_record refl _ l in
      ⊎_elim (nine s.inside.measured s.inside.read) (λ (at : IsLocated (reading limits) located_record 24 8 (cell_at (layout (reading limits)) 3 1)).
      let page : 0 ≡ at.located.page = ap (λ (k : Located). k.page) (same_Some _ at.located at.read) in
      apart at.located.page page at.at) s.is_at;
  unlocated = λ word l. let s = shown limits (measured 9) refl word l in
      ⊎_elim (nine s.inside.measured s.inside.read) (λ (at : IsLocated (reading limits) (measured 9) 24 8 word). none-some at.located at.read) s.is_at;
  too_late = λ word l. let s = shown limits late refl word l in
      let steps : 0 ≡ s.inside.measured.steps = ap (λ (m : Measured). m.steps) (same_Some _ s.inside.measured s.inside.read) in
      let now : s.inside.measured.steps ≡ 1 = s.inside.now in
      no_step (steps ∙ now);
}
  where
    no_step : ◌≡◌ {A = ℕ} 0 1 → ⊥
    no_step e = omega (arith, e)

    apart : (page : ℕ) → 0 ≡ page → cell_at (layout (reading limits)) 3 1 ≡ cell_at (layout (reading limits)) page 0 → ⊥
    apart page is e = omega (arith, is, e)

    low : (n : ℕ) → 8 ≡ n → 8 < n → ⊥
    low n is l = omega (arith, is, l)

    outside : IsAtSpread (reading limits) (measured 8) 24 1 8 → ⊥
    outside (LoadsField d k p removes a points spread before cell) = no_field d k (p ∷ []) removes (op_is limits (measured 8) refl _ a).1
    outside (StoresField k p q removes a points spread before cell) = no_store k (p ∷ q ∷ []) removes (op_is limits (measured 8) refl _ a).1
    outside (StoresElement p q r removes a points inside spread before cell) =
        no_put (p ∷ q ∷ r ∷ []) removes (op_is limits (measured 8) refl _ a).1
    outside (LoadsElement d p q removes a points inside spread before cell) =
        low inside.measured.elements (elements_are 8 inside.measured inside.read)
        (subst (λ (i : ℕ). i < inside.measured.elements) (sym cell) inside.within)

pub spread_examples : SpreadAccessExamples
spread_examples = record { reserved = reserved_examples; strewn = strewn_examples; reach = reach_examples }
