-- One encoding of values: the word that shows a value is the one that encodes it. Pointers to objects that were made are
-- encoded as before when another object has been placed. Frames say which value a word shows, memory which word encodes a value. The way
-- back needs an int of 64 bits and an object that was made.
use Rattle.std.proofs.Common.{◌≡◌, ℕ, suc, ◌+◌, ◌*◌, ◌<◌, ◌^◌, FitsSigned, ℤ, pos, List, [], ◌∷◌, length, Option, Some, slice_get, refl, ap, sym, subst, ◌∙◌, arith, w64}
use Rattle.std.specs.Int.{cast_signed, cast_unsigned}
use Rattle.std.proofs.lemmas.Int.{of_z-to_z}
use mir.ValLaws as laws
use Rattle.rgo_sound.specs.Memory.declared.values.Value.{Value}
use Rattle.rgo_sound.specs.Memory.declared.values.Value.TheVariants as value
use Rattle.rgo_sound.specs.Code.Checked.{IsChecked}
use Rattle.rgo_sound.specs.Code.Code.{Code, CodeFn, Do}
use Rattle.rgo_sound.specs.Code.Erasure.{erased, erased_fn, erased_op}
use Rattle.rgo_sound.specs.Code.Types.{DoFits, IsWellTypedOp}
use Rattle.rgo_sound.specs.RegionMachine.Owed.{function_at}
use Rattle.rgo_sound.specs.RegionMachine.States.{RegionState}
use Rattle.rgo_sound.specs.Tac.Frames.{TacFrame}
use Rattle.rgo_sound.specs.Memory.Memory.{Object}
use Rattle.rgo_sound.proofs.Places.{each_get, get_some}
use Rattle.rgo_sound.proofs.types.Steps.{types, vars_kinds}
use Rattle.rgo_sound.specs.Good.{AllGood}
use Rattle.rgo_sound.specs.Safety.{cells_of}
use Rattle.rgo_sound.specs.Types.{FrameFits, FramesHaveKinds, HasKind, HaveKinds}
use Rattle.rgo_sound.specs.Values.{LeadsInto}
use Rattle.rgo_sound.specs.Typed.declared.actions.Action.{Action}
use Rattle.rgo_sound.specs.Typed.declared.types.Type.{«Type»}
use Rattle.rgo_core_frames.specs.shown.Words.{Shows}
use Rattle.rgo_core_memory.specs.Accesses.{Before}
use Rattle.rgo_core_memory.specs.Encoding.{Spot, address, encode}
use Rattle.rgo_core_memory.specs.declared.layout.TableSizes.{TableSizes}
use Rattle.rgo_core_memory.proofs.Rows.{below}

-- an int of half the range is its own word
pub small_word : (n : ℕ) → n < 2 ^ 63 → cast_unsigned w64 (pos n) ≡ n
small_word n l = ap (cast_unsigned w64) (sym (laws.to_z_pos w64 n l)) ∙ of_z-to_z w64 n (omega (arith, l))

pub small_int : (n : ℕ) → n < 2 ^ 63 → cast_signed w64 n ≡ pos n
small_int n l = laws.to_z_pos w64 n l

-- ---- words and values

module _ (addresses : List ℕ) (at : ℕ → ℕ) (addressed : (o a : ℕ) → slice_get addresses o ≡ Some a → a ≡ at o) where
  -- the word that shows a value is the one that encodes it
  pub word_is : (v : Value) (w : ℕ) → Shows addresses v w → encode at v ≡ w
  word_is (value.Int n) w sh = ap (cast_unsigned w64) sh.1 ∙ of_z-to_z w64 w sh.0
  word_is (value.Bool b) w sh = sym sh
  word_is value.Nil w sh = sym sh
  word_is (value.Object o) w sh = ap suc (sym (addressed o sh.0 sh.1)) ∙ sym sh.2

  -- and the word that encodes it shows it, if an int has 64 bits and an object was made
  pub shows_it : (v : Value) → ((n : ℤ) → v ≡ value.Int n → FitsSigned w64 n)
      → ((o : ℕ) → v ≡ value.Object o → o < length addresses) → Shows addresses v (encode at v)
  shows_it (value.Int n) fits made = ((laws.of_z_fits w64 n (fits n refl)).fits, sym (laws.to_z-of_z w64 n (fits n refl)))
  shows_it (value.Bool b) fits made = refl
  shows_it value.Nil fits made = refl
  shows_it (value.Object o) fits made =
      let g = get_some addresses o (made o refl) in (g.0, g.1, ap suc (sym (addressed o g.0 g.1)))

-- ---- another object has a place

pub old_code : (z : TableSizes) (a b : ℕ → Spot) (n : ℕ) → ((o : ℕ) → o < n → b o ≡ a o) → (v : Value)
    → ((p : ℕ) → v ≡ value.Object p → p < n) → encode (address z b) v ≡ encode (address z a) v
old_code z a b n same (value.Int m) l = refl
old_code z a b n same (value.Bool m) l = refl
old_code z a b n same value.Nil l = refl
old_code z a b n same (value.Object p) l =
    ap (λ (s : Spot). suc (s.page * z.page_words + s.offset)) (same p (l p refl))

-- ---- pointers lead to objects that were made

module _ (code : Code) (s : RegionState) (all : AllGood code s) where
  -- those in a channel or another object
  pub held_made : (o i p : ℕ) (object : Object) → slice_get s.plain.memory.heap o ≡ Some object
      → slice_get (cells_of object) i ≡ Some (value.Object p) → p < length s.plain.memory.heap
  held_made o i p object e q =
      let home = all.good.values.memory in
      let l = below s.plain.memory.heap o object e in
      let w = home.owned in
      let r = get_some s.owners o (omega (arith, l, w)) in
      let b = below s.owners p r.0 (each_get (LeadsInto s.owners r.0) (cells_of object) i (value.Object p) (home.cells o object r.0 e r.1) q) in
      omega (arith, b, w)

  kind_made : (kinds : List «Type») (ty : «Type») (p : ℕ) → HasKind kinds ty (value.Object p) → p < length kinds
  kind_made kinds ty p h = below kinds p ty h.0

  second_made : (kinds tys : List «Type») (v : Value) (u : Value) (p : ℕ) → HaveKinds kinds tys (u ∷ v ∷ []) → v ≡ value.Object p
      → p < length kinds
  second_made kinds [] v u p h e = absurd h
  second_made kinds (t ∷ []) v u p h e = absurd h.1
  second_made kinds (t ∷ r ∷ tys) v u p h e = kind_made kinds r p (subst (HasKind kinds r) e h.1.0)

  -- the operands of an action have the types that it takes
  pub record OperandsFit (a : Action) (values : List Value) (to : Option ℕ) (frame : TacFrame) : Type 0 where
    pub fn : CodeFn
    pub fn_is : function_at code frame ≡ Some fn
    pub types : List «Type»
    pub have : HaveKinds all.good.typed.kinds types values
    pub fits : DoFits (erased code) (erased_fn fn) to a types

  pub operands_fit : IsChecked code → (g : ℕ) (a : Action) (values : List Value) (b : Before code s g a values)
      → OperandsFit a values b.to b.frame
  operands_fit checked g a values b =
      let typed = all.good.typed in
      let frames : FramesHaveKinds code typed.kinds (b.frame ∷ b.callers) = typed.frames g (b.frame ∷ b.callers) b.at in
      let top : FrameFits code typed.kinds b.frame = frames.0 in
      let rule : IsWellTypedOp (erased code) (erased_fn top.0) (erased_op (Do b.to a b.from b.removes)) =
      types code checked b.frame top.0 b.instr top.1 b.cur (Do b.to a b.from b.removes) b.is in
      record {
        fn = top.0;
        fn_is = top.1;
        types = rule.0;
        have = subst (HaveKinds typed.kinds rule.0) b.operands
            (vars_kinds typed.kinds (erased_fn top.0) b.frame top.2 b.from rule.0 rule.1);
        fits = rule.2;
      }

  -- what an instruction sends or stores
  pub operand_made : IsChecked code → (g : ℕ) (a : Action) (u v : Value) (p : ℕ) → Before code s g a (u ∷ v ∷ []) → v ≡ value.Object p
      → p < length s.plain.memory.heap
  operand_made checked g a u v p b e =
      let f = operands_fit checked g a (u ∷ v ∷ []) b in
      let l = second_made all.good.typed.kinds f.types v u p f.have e in
      let m = all.good.typed.memory.no_more in
      omega (arith, l, m)
