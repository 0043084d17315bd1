-- Records that work at spread objects, in pages of four words, by computation.
use Rattle.std.proofs.Common.{◌≡◌, ℕ, zero, suc, List, [], ◌∷◌, Some, None, length, slice_get, refl, ap, sym, ◌∙◌, arith}
use Rattle.std.proofs.lemmas.Option.{same_Some}
use Rattle.rgo_sound.specs.Code.Code.{Code, CodeInstr, CodeOp, Do}
use Rattle.rgo_sound.specs.Machine.declared.limits.Limits.{Limits}
use Rattle.rgo_sound.specs.RegionMachine.Examples.{int_slot, main_of, node_slot, plain_instr}
use Rattle.rgo_sound.specs.RegionMachine.Objects.{making_region}
use Rattle.rgo_sound.specs.RegionMachine.Owed.{current, code_function}
use Rattle.rgo_sound.specs.RegionMachine.States.{top_names}
use Rattle.rgo_sound.specs.RegionMachine.declared.regions.Region.{Region}
use Rattle.rgo_sound.specs.RegionMachine.declared.regions.Region.TheVariants.{Numbered}
use Rattle.rgo_sound.specs.Tac.declared.regions.Class.TheVariants.{Name}
use Rattle.rgo_sound.specs.Typed.declared.actions.Action.TheVariants.{At, Load, New, Put}
use Rattle.rgo_sound.specs.Typed.declared.programs.Struct.{Struct}
use Rattle.rgo_sound.proofs.Places.{head_is}
use Rattle.rgo_core_frames.specs.shown.WordFrames.{WordFrame, bare, frame_word}
use Rattle.rgo_core_memory.specs.Records.{Located, Measured}
use Rattle.rgo_core_memory.specs.Words.{cell_at}
use Rattle.rgo_core.specs.moves.Cells.{IsAtSpread, IsInSlice, IsLocated, LoadsElement, LoadsField, StoresElement, StoresField}
use Rattle.rgo_core.specs.Core.{layout}
use Rattle.rgo_core.specs.ties.Links.{IsAtCell, OfSlice, OfStruct, slot_number}
use Rattle.rgo_core.specs.Next.{IsAtOp}
use Rattle.rgo_core.specs.Records.{Record}
use Rattle.rgo_core.specs.examples.Spread.{IsBeforeField, SpreadObjectExamples, at_cell, at_field, element_setup, fields, frame_of, loads_field, makes, makes_it, making_setup, narrow, of_field, reads_length, wide, with_number}

-- ---- where the records are

-- the frame and the instruction of a record
module _ (code : Code) (c : Record) (w : WordFrame) (frames : c.frame.frames ≡ w ∷ []) (instr : CodeInstr)
    (cur : current code (bare w) ≡ Some instr) where
  frame_is : {op : CodeOp} (a : IsAtOp code c op) → a.w ≡ w
  frame_is a = head_is a.w w a.ws [] (sym a.frames ∙ frames)

  instr_is : {op : CodeOp} (a : IsAtOp code c op) → a.instr ≡ instr
  instr_is a = same_Some a.instr instr (sym a.cur ∙ (ap (λ (y : WordFrame). current code (bare y)) (frame_is a) ∙ cur))

  op_is : {op : CodeOp} (a : IsAtOp code c op) → op ≡ instr.op
  op_is a = sym a.is ∙ ap (λ (j : CodeInstr). j.op) (instr_is a)

abbrev at_index : (limits : Limits) → IsAtOp (element_setup limits).code (reads_length 9) (Do (Some 2) At (0 ∷ 1 ∷ []) [])
at_index limits = record {
  w = frame_of (1 ∷ 2 ∷ 0 ∷ []);
  ws = [];
  frames = refl;
  fn = main_of (int_slot ∷ int_slot ∷ int_slot ∷ []) (plain_instr (Do (Some 2) At (0 ∷ 1 ∷ []) []) ∷ []);
  in_fn = refl;
  instr = plain_instr (Do (Some 2) At (0 ∷ 1 ∷ []) []);
  cur = refl;
  is = refl;
  none = refl;
  free = refl;
}

abbrev before_field : (struct : Struct) (limits : Limits) → IsBeforeField struct limits
before_field struct limits = record {
  w = frame_of (9 ∷ 0 ∷ []);
  ws = [];
  frames = refl;
  fn = of_field;
  in_fn = refl;
  instr = loads_field;
  cur = refl;
  is = refl;
  none = refl;
  free = refl;
}

abbrev before_cell : (limits : Limits) → IsAtOp (fields wide limits).code at_cell (Do (Some 1) (Load 5) (0 ∷ []) [])
before_cell limits = record {
  w = frame_of (9 ∷ 0 ∷ []);
  ws = [];
  frames = refl;
  fn = of_field;
  in_fn = refl;
  instr = loads_field;
  cur = refl;
  is = refl;
  none = refl;
  free = refl;
}

abbrev before_making : (limits : Limits) → IsAtOp (making_setup limits).code makes (Do (Some 0) (New 0) [] [])
before_making limits = record {
  w = frame_of (0 ∷ []);
  ws = [];
  frames = refl;
  fn = main_of (node_slot (Name 0) ∷ []) (makes_it ∷ []);
  in_fn = refl;
  instr = makes_it;
  cur = refl;
  is = refl;
  none = refl;
  free = refl;
}

-- ---- what was read

elements_are : (n : ℕ) (i : IsInSlice (reads_length n) 0 2) → n ≡ i.measured.elements
elements_are n i = ap (λ (m : Measured). m.elements)
    (same_Some (record { address = 0; elements = n; steps = 0 }) i.measured i.read)

abbrev found : Located
found = record { address = 8; cell = 5; page = 5; steps = 0 }

located_is : (limits : Limits) (at cell word : ℕ) (l : IsLocated (fields wide limits) at_cell at cell word) → found ≡ l.located
located_is limits at cell word l = same_Some found l.located l.read

-- the only struct
only : (struct s : Struct) (n : ℕ) → slice_get (struct ∷ []) n ≡ Some s → struct ≡ s
only struct s zero e = same_Some struct s e
only struct s (suc n) e = cc e

index_is : (d e n m p q : ℕ) (ns ms removes others : List ℕ) → Do (Some e) At (m ∷ q ∷ ms) others ≡ Do (Some d) At (n ∷ p ∷ ns) removes → q ≡ p
index_is d e n m p q ns ms removes others e' = cc

no_put : (d : ℕ) (from others removes removes' : List ℕ) → Do None Put others removes' ≡ Do (Some d) At from removes → ⊥
no_put d from others removes removes' e = cc e

other_element : (limits : Limits) → IsAtSpread (element_setup limits) (reads_length 9) 0 1 3 → ⊥
other_element limits (LoadsField d k p removes a points s none its) = omega (arith, none)
other_element limits (StoresField k p q removes a points s none its) = omega (arith, none)
other_element limits (LoadsElement d p q removes a points inside large one its) =
    let w = frame_is (element_setup limits).code (reads_length 9) (frame_of (1 ∷ 2 ∷ 0 ∷ [])) refl (plain_instr (Do (Some 2) At (0 ∷ 1 ∷ []) [])) refl a in
    let o = op_is (element_setup limits).code (reads_length 9) (frame_of (1 ∷ 2 ∷ 0 ∷ [])) refl (plain_instr (Do (Some 2) At (0 ∷ 1 ∷ []) [])) refl a in
    let i = index_is 2 d 0 p 1 q [] [] [] removes o in
    let e : ◌≡◌ {A = ℕ} 3 2 = its ∙ (λ j. frame_word (w j) (i j)) in
    omega (arith, e)
other_element limits (StoresElement p q r removes a points inside large one its) =
    no_put 2 (0 ∷ 1 ∷ []) (p ∷ q ∷ r ∷ []) [] removes
    (op_is (element_setup limits).code (reads_length 9) (frame_of (1 ∷ 2 ∷ 0 ∷ [])) refl (plain_instr (Do (Some 2) At (0 ∷ 1 ∷ []) [])) refl a)

-- ---- whole examples

no_region : (r : Region) → None ≡ Some r → ⊥
no_region r e = cc e

pub examples : SpreadObjectExamples
examples = record {
  whole = λ limits i. let e = elements_are 3 i in omega (arith, e);
  not_whole = λ limits i w. let e = elements_are 4 i in omega (arith, e, w);
  spread_out = λ limits i. let e = elements_are 4 i in omega (arith, e);
  not_spread_out = λ limits i w. let e = elements_are 3 i in omega (arith, e, w);
  at_element = λ limits. LoadsElement 2 0 1 [] (at_index limits) refl
      (record { measured = record { address = 0; elements = 9; steps = 0 }; read = refl; now = refl; its = refl; within = omega arith })
      (omega arith) refl refl;
  other_element = other_element;
  points_to_whole = λ limits. (
    before_field narrow limits,
    record { number = 0; typed = refl; struct = narrow; there = refl; fits = omega arith },
  );
  points_to_spread = λ limits. (
    before_field wide limits,
    record { number = 0; typed = refl; struct = wide; there = refl; spread = omega arith },
  );
  not_to_whole = λ limits a w.
      let e : 6 ≡ length w.struct.fields = ap (λ (s : Struct). length s.fields) (only wide w.struct w.number w.there) in
      let l = w.fits in omega (arith, e, l);
  not_to_spread = λ limits a w.
      let e : 4 ≡ length w.struct.fields = ap (λ (s : Struct). length s.fields) (only narrow w.struct w.number w.there) in
      let l = w.spread in omega (arith, e, l);
  at_wide = λ limits. LoadsField 1 5 0 [] (before_field wide limits) refl
      (record { number = 0; typed = refl; struct = wide; there = refl; spread = omega arith }) refl refl;
  located = λ limits. record { located = found; read = refl; now = refl; its = refl; of_cell = refl; at = refl };
  other_page = λ limits l.
      let e : 5 ≡ l.located.page = ap (λ (y : Located). y.page) (located_is limits 8 5 _ l) in
      let a : cell_at (layout (fields wide limits)) 6 1 ≡ cell_at (layout (fields wide limits)) 5 1 =
      l.at ∙ ap (λ n. cell_at (layout (fields wide limits)) n 1) (sym e) in
      omega (arith, a);
  other_cell = λ limits word l.
      let e : 5 ≡ l.located.cell = ap (λ (y : Located). y.cell) (located_is limits 8 4 word l) in
      let a = l.of_cell in omega (arith, e, a);
  other_object = λ limits word l.
      let e : 8 ≡ l.located.address = ap (λ (y : Located). y.address) (located_is limits 9 5 word l) in
      let a = l.its in omega (arith, e, a);
  late = λ limits word l.
      let e : 0 ≡ l.located.steps = ap (λ (y : Located). y.steps) (same_Some found l.located l.read) in
      let a : l.located.steps ≡ 1 = l.now in omega (arith, e, a);
  never = λ limits word l. no_location l.located l.read;
  finds = λ limits. record {
    past = omega arith;
    before = λ now. OfStruct (Some 1) (Load 5) 0 [] [] (before_cell limits) refl refl
        (record { number = 0; typed = refl; struct = wide; there = refl; spread = omega arith }) (omega arith) refl;
  };
  changed = λ limits f. number_differs limits (f.before refl);
  reserved = refl;
  of_slot = refl;
  taken = refl;
  address = λ limits. refl;
  made = λ limits a. refl;
  in_slot = λ limits. record { op = Do (Some 0) (New 0) [] []; a = before_making limits; by_slot = Numbered 1; making = refl; slotted = refl };
  other_slot = λ limits m.
      let w = frame_is (making_setup limits).code makes (frame_of (0 ∷ [])) refl makes_it refl m.a in
      let i = instr_is (making_setup limits).code makes (frame_of (0 ∷ [])) refl makes_it refl m.a in
      let e : Some (Numbered 1) ≡ Some m.by_slot =
      (λ j. making_region (code_function (making_setup limits).code (sym w j).function) (top_names makes.frame.holder.environments) (sym i j).op)
      ∙ m.making in
      let s : ◌≡◌ {A = ℕ} 1 0 = ap (slot_number (layout (making_setup limits))) (same_Some (Numbered 1) m.by_slot e) ∙ m.slotted in
      omega (arith, s);
  making_none = λ limits m.
      let w = frame_is (fields wide limits).code at_field (frame_of (9 ∷ 0 ∷ [])) refl loads_field refl m.a in
      let i = instr_is (fields wide limits).code at_field (frame_of (9 ∷ 0 ∷ [])) refl loads_field refl m.a in
      no_region m.by_slot
      ((λ j. making_region (code_function (fields wide limits).code (sym w j).function) (top_names at_field.frame.holder.environments) (sym i j).op)
      ∙ m.making);
}
  where
    no_location : (l : Located) → None ≡ Some l → ⊥
    no_location l e = cc e

    number_differs : (limits : Limits)
        → IsAtCell (fields wide limits).code (layout (fields wide limits)) (with_number limits 7) at_cell 8 5 5 → ⊥
    number_differs limits (OfStruct to act p others removes a on points s low number) =
        let e : ◌≡◌ {A = ℕ} 7 6 = number in omega (arith, e)
    number_differs limits (OfSlice to act p others removes a on points u typed low large number) =
        let e : ◌≡◌ {A = ℕ} 0 6 = number in omega (arith, e)
