-- The number of the data page that has a cell is read from the lead page. The word is one of the object, and the record then knows the
-- page by its link.
use Rattle.std.proofs.Common.{◌≡◌, inr, ℕ, suc, ◌+◌, ◌-◌, ◌/◌, ◌%◌, ◌<◌, ◌≤◌, List, [], ◌∷◌, Option, Some, true, length, map, slice_get, slice_set, slice_index, None, option_map, refl, ap, sym, subst, ◌∙◌, arith}
use Rattle.std.proofs.lemmas.Option.{same_Some, slice_get-map, slice_get_within}
use Rattle.rgo_sound.specs.Code.Code.{Do}
use Rattle.rgo_sound.specs.Code.Erasure.{erased, erased_fn}
use Rattle.rgo_sound.specs.Code.Exists.{declared_in_code}
use Rattle.rgo_sound.specs.Code.Types.{DoFits, VariableHasType}
use Rattle.rgo_sound.specs.Tac.Code.{Tac, TacFn}
use Rattle.rgo_sound.specs.Typed.declared.actions.Action.{Action}
use Rattle.rgo_sound.specs.Typed.declared.actions.Action.TheVariants as action
use Rattle.rgo_sound.specs.Typed.declared.programs.Struct.{Struct}
use Rattle.rgo_sound.specs.Typed.declared.types.Type.{«Type»}
use Rattle.rgo_sound.specs.WellFormed.TypeRules.{HasField, int, pointer_to, slice_of}
use Rattle.rgo_core_channels.proofs.Lists.{set_own}
use Rattle.rgo_core_frames.specs.shown.WordFrames.{frame_word as word_of_frame}
use Rattle.rgo_core_memory.specs.Records.{Located}
use Rattle.rgo_core_memory.specs.Words.{all_words, base, cell_at}
use Rattle.rgo_core_memory.proofs.image.Keeps.{located_keeps}
use Rattle.rgo_core.specs.moves.Cells.{IndexMove, IsAtSpread, IsInSlice, IsSpreadOut, LoadsElement, LoadsField, StoresElement, StoresField, locates}
use Rattle.rgo_core.specs.Core.{Situation, Setup, layout}
use Rattle.rgo_core.specs.ties.Links.{IsAtCell, LeadsToSpread, OfSlice, OfStruct, is_on_cell}
use Rattle.rgo_core.specs.Next.{IsAtOp}
use Rattle.rgo_core.specs.Records.{Record, memory_of, steps_of}
use Rattle.rgo_core.specs.Steps.{MakesNoStep, Steps}
use Rattle.rgo_core.proofs.accesses.Cells as cells
use Rattle.rgo_core.proofs.accesses.Cells.{HasCell}
use Rattle.rgo_core.proofs.steps.Lift.{moves_by}
use Rattle.rgo_core.proofs.accesses.Links.{Nowhere, Waits, as_much, at_same, its_own, its_pages, links_by}
use Rattle.rgo_core.proofs.steps.Operands as operands
use Rattle.rgo_core.proofs.image.Parts.{I, frame_stays, image_with, side_stays}
use Rattle.rgo_core.proofs.accesses.Slices as slices
use Rattle.rgo_core.proofs.image.Standing.{memory_at}
use Rattle.rgo_core.proofs.new_objects.MakesObject.{first_type}

same_number : (m n : ℕ) → pointer_to m ≡ pointer_to n → m ≡ n
same_number m n e = let b = ap (λ (t : «Type»). t.base) e in cc b

-- the first operand points to structs that have this field
record FieldOf (code : Tac) (k : ℕ) (operands : List «Type») : Type 0 where
  number : ℕ
  ty : «Type»
  others : List «Type»
  are : operands ≡ pointer_to number ∷ others
  has : HasField (declared_in_code code) number k ty

field_loaded : (code : Tac) (f : TacFn) (d k : ℕ) (operands : List «Type») → DoFits code f (Some d) (action.Load k) operands
    → FieldOf code k operands
field_loaded code f d k operands (t, typed, (n, are, has)) = record { number = n; ty = t; others = []; are = are; has = has }

field_stored : (code : Tac) (f : TacFn) (k : ℕ) (operands : List «Type») → DoFits code f None (action.Store k) operands
    → FieldOf code k operands
field_stored code f k operands (n, t, are, has) = record { number = n; ty = t; others = t ∷ []; are = are; has = has }

-- ---- the cell before which the record is

module _ {T : Setup} {g : ℕ} {c : Record} (x : Situation T g c) (at cell : ℕ) where
  -- a spread object with the cell; whatever the page number is there, it is that of the cell's page
  abbrev IsThere : ℕ → Type 0
  IsThere before = HasCell x at cell before
      × ((page : ℕ) → slice_index x.words (base (layout T) + (at + (before + cell / T.sizes.page_words))) ≡ suc page
      → (d : Record) → d.frame ≡ c.frame → IsAtCell T.code (layout T) x.words d at cell page)

  module _ (to : Option ℕ) (act : Action) (p : ℕ) (others removes : List ℕ) (a : IsAtOp T.code c (Do to act (p ∷ others) removes))
      (on : is_on_cell act ≡ true) (points : word_of_frame a.w p ≡ suc at) where
    -- a field that the struct has by its types
    of_struct : (s : LeadsToSpread T.code T.sizes.page_words a.fn p)
        → FieldOf (erased T.code) cell (operands.rule x to act (p ∷ others) removes a).0 → IsThere 0
    of_struct s f = (
      cells.struct_cell x to act p others removes a at points s cell low,
      λ page found d same. OfStruct to act p others removes (at_same T.code c d same a) on points s low found,
    )
      where
        number : f.number ≡ s.number
        number = same_number f.number s.number (same_Some (pointer_to f.number) (pointer_to s.number)
            (sym (first_type (erased_fn a.fn) p others (operands.rule x to act (p ∷ others) removes a).0 (pointer_to f.number) f.others f.are
            (operands.rule x to act (p ∷ others) removes a).1) ∙ s.typed))

        fields : slice_get (map (λ (y : Struct). y.fields) T.code.structs) f.number ≡ Some s.struct.fields
        fields = slice_get-map (λ (y : Struct). y.fields) T.code.structs f.number
            ∙ ap (option_map (λ (y : Struct). y.fields)) (ap (slice_get T.code.structs) number ∙ s.there)

        low : cell < length s.struct.fields
        low = within f.has
          where
            within : HasField (declared_in_code (erased T.code)) f.number cell f.ty → cell < length s.struct.fields
            within (listed, at, is) = subst (λ l. cell < length l) (same_Some listed s.struct.fields (sym at ∙ fields))
                (slice_get_within listed cell f.ty is)

    -- an element within the length that was read
    of_slice : (u : «Type») (tys : List «Type») → (operands.rule x to act (p ∷ others) removes a).0 ≡ slice_of u ∷ tys
        → (inside : IsInSlice c at cell) → IsSpreadOut T inside → IsThere 1
    of_slice u tys types_are inside large = (
      cells.slice_cell x to act p others removes a at points u typed cell low high,
      λ page found d same. OfSlice to act p others removes (at_same T.code c d same a) on points u typed low high found,
    )
      where
        typed : VariableHasType (erased_fn a.fn) p (slice_of u)
        typed = first_type (erased_fn a.fn) p others (operands.rule x to act (p ∷ others) removes a).0 (slice_of u) tys types_are
            (operands.rule x to act (p ∷ others) removes a).1

        long : slice_index x.words (base (layout T) + at) ≡ inside.measured.elements
        long = ap (λ n. slice_index x.words (base (layout T) + n)) (sym inside.its)
            ∙ ((x.core.links g c x.is_c).knows inside.measured inside.read).still inside.now

        low : cell < slice_index x.words (base (layout T) + at)
        low = let l = long in let w = inside.within in omega (arith, l, w)

        high : T.sizes.page_words ≤ slice_index x.words (base (layout T) + at)
        high = let l = long in omega (arith, l, large)

is_there : {T : Setup} {g : ℕ} {c : Record} (x : Situation T g c) (at before cell : ℕ) → IsAtSpread T c at before cell → IsThere x at cell before
is_there {T} x at before cell (LoadsField d k p removes a points s none its) =
    subst (IsThere x at cell) (sym none)
    (of_struct x at cell (Some d) (action.Load k) p [] removes a refl points s
    (field_loaded (erased T.code) (erased_fn a.fn) d cell (operands.rule x (Some d) (action.Load k) (p ∷ []) removes a).0
    (subst (λ n. DoFits (erased T.code) (erased_fn a.fn) (Some d) (action.Load n) (operands.rule x (Some d) (action.Load k) (p ∷ []) removes a).0)
    (sym its) (operands.rule x (Some d) (action.Load k) (p ∷ []) removes a).2)))
is_there {T} x at before cell (StoresField k p q removes a points s none its) =
    subst (IsThere x at cell) (sym none)
    (of_struct x at cell None (action.Store k) p (q ∷ []) removes a refl points s
    (field_stored (erased T.code) (erased_fn a.fn) cell (operands.rule x None (action.Store k) (p ∷ q ∷ []) removes a).0
    (subst (λ n. DoFits (erased T.code) (erased_fn a.fn) None (action.Store n) (operands.rule x None (action.Store k) (p ∷ q ∷ []) removes a).0)
    (sym its) (operands.rule x None (action.Store k) (p ∷ q ∷ []) removes a).2)))
is_there {T} x at before cell (LoadsElement d p q removes a points inside large one its) =
    let u = slices.at_takes (erased T.code) (erased_fn a.fn) d (operands.rule x (Some d) action.At (p ∷ q ∷ []) removes a).0
    (operands.rule x (Some d) action.At (p ∷ q ∷ []) removes a).2 in
    subst (IsThere x at cell) (sym one)
    (subst (λ n. IsThere x at n 1) (sym its)
    (of_slice x at (word_of_frame a.w q) (Some d) action.At p (q ∷ []) removes a refl points u.0 (int ∷ []) u.1 inside large))
is_there {T} x at before cell (StoresElement p q r removes a points inside large one its) =
    let u = slices.put_takes (erased T.code) (erased_fn a.fn) (operands.rule x None action.Put (p ∷ q ∷ r ∷ []) removes a).0
    (operands.rule x None action.Put (p ∷ q ∷ r ∷ []) removes a).2 in
    subst (IsThere x at cell) (sym one)
    (subst (λ n. IsThere x at n 1) (sym its)
    (of_slice x at (word_of_frame a.w q) None action.Put p (q ∷ r ∷ []) removes a refl points u.0 (int ∷ u.0 ∷ []) u.1 inside large))

-- ---- the page number is read

module _ {T : Setup} {g : ℕ} {c : Record} (x : Situation T g c) (at before cell : ℕ) (here : IsAtSpread T c at before cell) where
  abbrev h : HasCell x at cell before
  h = (is_there x at before cell here).0

  abbrev i : ℕ
  i = base (layout T) + (at + (before + cell / T.sizes.page_words))

  abbrev found : ℕ
  found = slice_index x.words i

  abbrev l : Located
  l = record { address = at; cell = cell; page = found - 1; steps = steps_of c }

  abbrev d : Record
  d = locates c at cell (found - 1)

  read_stays : MakesNoStep x x.words d
  read_stays = record {
    counted = refl;
    same = record { prints = refl; first = refl; children = refl; refused = refl };
    image = image_with x x.words d x.s (I x).places (I x).at (I x).addresses (I x).addressed
        (frame_stays x x.s (I x).places.slot (I x).addresses (I x).frames)
        (located_keeps T.code (layout T) x.words (map memory_of x.recs) x.s (I x).places g c.memory x.core.sound.good (I x).memory (memory_at x) l)
        (side_stays x x.words x.s (I x).places (I x).at (I x).channels);
    links = links_by x x.words (λ o n object r stands low fixed. refl) d (λ j r e ne is closes. refl) (record {
      owed = (x.core.links g c x.is_c).owed;
      knows = its_own x x.words (λ o n object r stands low fixed. refl) d refl (Nowhere refl refl);
      finds = λ n read. let same : l ≡ n = same_Some l n read in record {
        past = subst (λ (y : Located). y.steps ≤ steps_of c) same (as_much (steps_of c));
        before = λ now. subst (λ (y : Located). IsAtCell T.code (layout T) x.words d y.address y.cell y.page) same
            ((is_there x at before cell here).1 (found - 1) (cells.one_less x at cell before h) d refl);
      };
      reserved = its_pages x x.words (λ o n object r stands low fixed. refl) d (Waits refl refl refl);
    });
  }

  pub located_steps : Steps x (slice_set x.words i found) d
  located_steps = inr (subst (λ (w : List ℕ). MakesNoStep x w d) (sym (set_own x.words i)) read_stays)

pub index_move : IndexMove
index_move T g c at before cell here =
    moves_by T g c (base (layout T) + (at + (before + cell / T.sizes.page_words))) (λ n. n) (λ n. locates c at cell (n - 1))
    (λ n d. (d ≡ locates c at cell (n - 1)) × (0 < n)
    × (cell_at (layout T) (n - 1) (cell % T.sizes.page_words) < all_words (layout T))) (λ n. refl)
    (λ x. omega arith) (λ x small. located_steps x at before cell here)
    (λ x. (refl, cells.some_number x at cell before (h x at before cell here), cells.in_table x at cell before (h x at before cell here)))
