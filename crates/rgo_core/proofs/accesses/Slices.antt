-- The slice to which the first operand of a record's next instruction points. It is live by the stake, and of its type by the invariant.
use Rattle.std.proofs.Common.{◌≡◌, ℕ, suc, ◌+◌, ◌<◌, ◌^◌, FitsSigned, pos, List, [], ◌∷◌, Option, Some, None, length, map, replicate, slice_get, slice_index, refl, ap, sym, subst, ◌∙◌, arith, w64, Contains}
use Rattle.std.proofs.lemmas.List.{length-replicate}
use Rattle.std.proofs.lemmas.Option.{same_Some}
use Rattle.rgo_sound.specs.Code.Code.{CodeFn, Do}
use Rattle.rgo_sound.specs.Code.Erasure.{erased, erased_fn, erased_op}
use Rattle.rgo_sound.specs.Code.Types.{DoFits, VariableHasType}
use Rattle.rgo_sound.specs.Memory.Memory.{Channel, Object, SliceObject, StructObject}
use Rattle.rgo_sound.specs.Memory.declared.values.Value.{Value}
use Rattle.rgo_sound.specs.Memory.declared.values.Value.TheVariants as value
use Rattle.rgo_sound.specs.RegionMachine.Owed.{code_function}
use Rattle.rgo_sound.specs.RegionMachine.declared.regions.Region.{Region}
use Rattle.rgo_sound.proofs.Places.{contains_here}
use Rattle.rgo_sound.proofs.types.Steps.{var_kind}
use Rattle.rgo_sound.proofs.types.Actions.{object_of}
use Rattle.rgo_sound.specs.Types.{HasKind, ObjectFits}
use Rattle.rgo_sound.specs.Tac.Code.{Tac, TacFn}
use Rattle.rgo_sound.specs.Tac.Flow.{reads}
use Rattle.rgo_sound.specs.Tac.Frames.{value_at}
use Rattle.rgo_sound.specs.Typed.declared.actions.Action.{Action}
use Rattle.rgo_sound.specs.Typed.declared.actions.Action.TheVariants as action
use Rattle.rgo_sound.specs.Typed.declared.types.Type.{«Type»}
use Rattle.rgo_sound.specs.WellFormed.TypeRules.{chan_of, int, pointer_to, slice_of}
use Rattle.rgo_core_frames.specs.shown.Operands.{PointsTo}
use Rattle.rgo_core_frames.specs.shown.WordFrames.{frame_word as word_of_frame}
use Rattle.rgo_core_memory.specs.Ground.{IsLiveObject, ground_of}
use Rattle.rgo_core_memory.specs.Image.{word_at}
use Rattle.rgo_core_memory.specs.Words.{base}
use Rattle.rgo_core_memory.proofs.accesses.Storing.{loads}
use Rattle.rgo_core.specs.ties.Bounds.{LieInPages, slice_words}
use Rattle.rgo_core.specs.Core.{Situation, Setup, layout}
use Rattle.rgo_core.specs.ties.Links.{BeforeLoad, BeforeStore, IsAtElement}
use Rattle.rgo_core.specs.Next.{IsAtOp}
use Rattle.rgo_core.specs.Records.{Record, memory_of}
use Rattle.rgo_core.proofs.image.Bounds.{lies_in, same_row}
use Rattle.rgo_core.proofs.image.Contents.{content_fits}
use Rattle.rgo_core.proofs.image.Encodings.{small_word}
use Rattle.rgo_core.proofs.steps.Operands as operands
use Rattle.rgo_core.proofs.image.Parts.{I}

fits_small : (n : ℕ) → FitsSigned w64 (pos n) → n < 2 ^ 63
fits_small n f = omega (arith, f.sfits)

module _ {T : Setup} {g : ℕ} {c : Record} (x : Situation T g c) (to : Option ℕ) (act : Action) (p : ℕ) (others removes : List ℕ)
    (a : IsAtOp T.code c (Do to act (p ∷ others) removes)) (u : «Type») (tys : List «Type»)
    (types_are : (operands.rule x to act (p ∷ others) removes a).0 ≡ slice_of u ∷ tys)
    (read : Contains (reads (erased_op (Do to act (p ∷ others) removes))) p) (at : ℕ) (points : word_of_frame a.w p ≡ suc at) where
  abbrev pub it : PointsTo (I x).addresses x.s (operands.b x to act (p ∷ others) removes a).h
      (value_at (operands.b x to act (p ∷ others) removes a).frame p) at
  it = operands.to_it x to act (p ∷ others) removes a p at (slice_of u) tys others types_are refl refl read points

  pub slice_there : (cells : List Value) × (slice_get x.s.plain.memory.heap it.object ≡ Some (SliceObject cells))
  slice_there =
      let typed = operands.typed x to act (p ∷ others) removes a p at (slice_of u) tys others types_are refl refl read points in
      let fits = (operands.b x to act (p ∷ others) removes a).typed.0 in
      let same : a.fn ≡ fits.0 = same_Some a.fn fits.0 (sym a.in_fn ∙ (ap (code_function T.code)
      (operands.b x to act (p ∷ others) removes a).newest.alike.function ∙ fits.1)) in
      let kinds = (operands.b x to act (p ∷ others) removes a).kinds in
      let kind : HasKind kinds (slice_of u) (value.Object it.object) =
      subst (HasKind kinds (slice_of u)) it.is
      (var_kind kinds (erased_fn fits.0) (operands.b x to act (p ∷ others) removes a).frame fits.2 p (slice_of u)
      (subst (λ (f : CodeFn). VariableHasType (erased_fn f) p (slice_of u)) same typed)) in
      let ob = object_of T.code kinds x.s.plain.memory (operands.b x to act (p ∷ others) removes a).memory it.object
      (slice_of u) kind.0 in
      go kinds ob.0 ob.1 ob.2
    where
      layer : (t : «Type») → slice_of u ≡ chan_of t → ⊥
      layer t y = let w = ap (λ (t : «Type»). t.layers) y in cc w

      go : (kinds : List «Type») (object : Object) → slice_get x.s.plain.memory.heap it.object ≡ Some object
          → ObjectFits T.code.structs kinds (slice_of u) object
          → (cells : List Value) × (slice_get x.s.plain.memory.heap it.object ≡ Some (SliceObject cells))
      go kinds (StructObject cells) e f = let y : slice_of u ≡ pointer_to f.0 = f.1 in let w = ap (λ (t : «Type»). t.layers) y in cc w
      go kinds (SliceObject cells) e f = (cells, e)
      go kinds (Channel capacity queue closed) e f = absurd (layer f.0 f.1)

  pub slice_stands : IsLiveObject x.s.plain.memory.heap x.s.owners x.s.regions it.object (SliceObject slice_there.0) it.region
  slice_stands = operands.stands x to act (p ∷ others) removes a p at (slice_of u) tys others types_are refl refl read points
      (SliceObject slice_there.0) slice_there.1

  -- its first word, which has its length
  pub first_word : word_at (layout T) (I x).places it.object 0 ≡ base (layout T) + at
  first_word =
      operands.word_before x to act (p ∷ others) removes a p at (slice_of u) tys others types_are refl refl read points
      (SliceObject slice_there.0) slice_there.1 0 (omega arith)
      ∙ (let e : base (layout T) + (at + 0) ≡ base (layout T) + at = omega arith in e)

  pub length_small : length slice_there.0 < 2 ^ 63
  length_small = fits_small (length slice_there.0)
      (content_fits x it.object 0 (SliceObject slice_there.0) slice_there.1 (pos (length slice_there.0)) refl)

  pub length_word : slice_index x.words (base (layout T) + at) ≡ length slice_there.0
  length_word =
      ap (slice_index x.words) (sym first_word)
      ∙ (loads (layout T) x.words (map memory_of x.recs) (ground_of x.s) (I x).places (I x).memory it.object 0 (SliceObject slice_there.0) it.region
      (value.Int (pos (length slice_there.0))) slice_stands refl
      ∙ small_word (length slice_there.0) length_small)

  -- the words that follow its address are in the pages
  pub lies : LieInPages T at (slice_words T (slice_index x.words (base (layout T) + at)))
  lies =
      let l = lies_in T x.words (map memory_of x.recs) x.s (I x).places (I x).memory it.object (SliceObject slice_there.0) it.region slice_stands in
      let e = (I x).addressed it.object at it.at in
      let n : length slice_there.0 ≡ length (replicate (slice_index x.words (base (layout T) + at)) value.Nil) =
      sym (length-replicate (slice_index x.words (base (layout T) + at)) value.Nil ∙ length_word) in
      let w = same_row T.sizes.page_words (SliceObject (replicate (slice_index x.words (base (layout T) + at)) value.Nil)) (SliceObject slice_there.0)
      (ap (λ k. 1 + k) n, n) in
      omega (arith, l, e, w)

-- ---- the operands of accesses to elements

pub at_takes : (code : Tac) (f : TacFn) (d : ℕ) (tys : List «Type») → DoFits code f (Some d) action.At tys
    → (u : «Type») × (tys ≡ slice_of u ∷ int ∷ [])
at_takes code f d tys fits = (fits.0, fits.2)

pub put_takes : (code : Tac) (f : TacFn) (tys : List «Type») → DoFits code f None action.Put tys
    → (u : «Type») × (tys ≡ slice_of u ∷ int ∷ u ∷ [])
put_takes code f tys fits = (fits.0, fits.1)

-- a slice in a live region, whose first word is at this address
pub record HasSlice {T : Setup} {g : ℕ} {c : Record} (x : Situation T g c) (at : ℕ) : Type 0 where
  pub object : ℕ
  pub cells : List Value
  pub region : Region
  pub stands : IsLiveObject x.s.plain.memory.heap x.s.owners x.s.regions object (SliceObject cells) region
  pub first : word_at (layout T) (I x).places object 0 ≡ base (layout T) + at
  pub lies : LieInPages T at (slice_words T (slice_index x.words (base (layout T) + at)))

pub at_slice : {T : Setup} {g : ℕ} {c : Record} (x : Situation T g c) (at : ℕ) → IsAtElement T.code c at → HasSlice x at
at_slice {T} x at (BeforeLoad d p q removes a points) =
    let u = at_takes (erased T.code) (erased_fn a.fn) d (operands.rule x (Some d) action.At (p ∷ q ∷ []) removes a).0
    (operands.rule x (Some d) action.At (p ∷ q ∷ []) removes a).2 in
    let r = contains_here p (q ∷ []) in
    record {
      object = (it x (Some d) action.At p (q ∷ []) removes a u.0 (int ∷ []) u.1 r at points).object;
      cells = (slice_there x (Some d) action.At p (q ∷ []) removes a u.0 (int ∷ []) u.1 r at points).0;
      region = (it x (Some d) action.At p (q ∷ []) removes a u.0 (int ∷ []) u.1 r at points).region;
      stands = slice_stands x (Some d) action.At p (q ∷ []) removes a u.0 (int ∷ []) u.1 r at points;
      first = first_word x (Some d) action.At p (q ∷ []) removes a u.0 (int ∷ []) u.1 r at points;
      lies = lies x (Some d) action.At p (q ∷ []) removes a u.0 (int ∷ []) u.1 r at points;
    }
at_slice {T} x at (BeforeStore p q r removes a points) =
    let u = put_takes (erased T.code) (erased_fn a.fn) (operands.rule x None action.Put (p ∷ q ∷ r ∷ []) removes a).0
    (operands.rule x None action.Put (p ∷ q ∷ r ∷ []) removes a).2 in
    let m = contains_here p (q ∷ r ∷ []) in
    record {
      object = (it x None action.Put p (q ∷ r ∷ []) removes a u.0 (int ∷ u.0 ∷ []) u.1 m at points).object;
      cells = (slice_there x None action.Put p (q ∷ r ∷ []) removes a u.0 (int ∷ u.0 ∷ []) u.1 m at points).0;
      region = (it x None action.Put p (q ∷ r ∷ []) removes a u.0 (int ∷ u.0 ∷ []) u.1 m at points).region;
      stands = slice_stands x None action.Put p (q ∷ r ∷ []) removes a u.0 (int ∷ u.0 ∷ []) u.1 m at points;
      first = first_word x None action.Put p (q ∷ r ∷ []) removes a u.0 (int ∷ u.0 ∷ []) u.1 m at points;
      lies = lies x None action.Put p (q ∷ r ∷ []) removes a u.0 (int ∷ u.0 ∷ []) u.1 m at points;
    }
