-- Loads and stores. All have the same shape: the operands by their types, the step by the law of frames, the words by the law of memory,
-- and the channels left, since the word is none of theirs. The order breaks a circle: the word that is read is known from the state
-- before the step, and only then the step from the word.
use Rattle.std.proofs.Common.{◌≡◌, ◌≢◌, inl, ⊎_elim, ℕ, suc, ◌+◌, ◌<◌, ◌≤◌, pos, List, [], ◌∷◌, Option, Some, None, length, map, max, slice_get, slice_set, slice_index, refl, ap, sym, subst, ◌∙◌, arith, false, Contains}
use Rattle.std.proofs.Math.ListN.{length-set}
use Rattle.std.proofs.lemmas.List.{get_or-set_other}
use Rattle.std.proofs.lemmas.Option.{same_Some, slice_get_within}
use Rattle.rgo_sound.specs.Code.Code.{CodeFn, Do}
use Rattle.rgo_sound.specs.Code.Erasure.{erased, erased_fn, erased_op}
use Rattle.rgo_sound.specs.Code.Exists.{declared_in_code}
use Rattle.rgo_sound.specs.Code.Types.{DoFits, VariableHasType}
use Rattle.rgo_sound.specs.Machine.declared.picks.Pick.TheVariants.{One}
use Rattle.rgo_sound.specs.Memory.Effects.{Does as DoesSo, answered, to_object}
use Rattle.rgo_sound.specs.Memory.Elements.{length_in}
use Rattle.rgo_sound.specs.Memory.Fields.{field_value, load, or_nil, store, store_outcome}
use Rattle.rgo_sound.specs.Memory.Memory.{Memory as Heap, Object, SliceObject, StructObject, with_object}
use Rattle.rgo_sound.specs.Memory.declared.values.Value.{Value}
use Rattle.rgo_sound.specs.Memory.declared.values.Value.TheVariants as value
use Rattle.rgo_sound.specs.RegionMachine.Machine.{Instruct}
use Rattle.rgo_sound.specs.RegionMachine.Objects.{is_spread, object_words as words_of}
use Rattle.rgo_sound.specs.RegionMachine.declared.regions.Region.TheVariants.{Global as GlobalRegion}
use Rattle.rgo_sound.proofs.steps.Acting.{performed}
use Rattle.rgo_sound.proofs.Places.{contains_here, contains_there, each_get, length_set}
use Rattle.rgo_sound.proofs.types.Actions.{get_kinds, object_of}
use Rattle.rgo_sound.specs.Values.{LeadsInto}
use Rattle.rgo_sound.proofs.types.Steps.{var_kind}
use Rattle.rgo_sound.specs.RegionMachine.Owed.{code_function}
use Rattle.rgo_sound.specs.Tac.Flow.{reads}
use Rattle.rgo_sound.specs.Types.{HasKind, ObjectFits}
use Rattle.rgo_sound.specs.Typed.declared.actions.Action.{Action}
use Rattle.rgo_sound.specs.Typed.declared.programs.Struct.{Struct}
use Rattle.rgo_sound.specs.Tac.Code.{Tac, TacFn}
use Rattle.rgo_sound.specs.Tac.Frames.{value_at, operand_values}
use Rattle.rgo_sound.specs.Tac.Steps.{destination_type}
use Rattle.rgo_sound.specs.Typed.declared.actions.Action.TheVariants as action
use Rattle.rgo_sound.specs.Typed.declared.programs.Variable.{Variable}
use Rattle.rgo_sound.specs.Typed.declared.types.Type.{«Type»}
use Rattle.rgo_sound.specs.WellFormed.TypeRules.{pointer_to, slice_of}
use Rattle.rgo_core_channels.specs.Channels.{Chan, IsChan, On, channel, word_of_channel}
use Rattle.rgo_core_channels.specs.Controls.{extent}
use Rattle.rgo_core_channels.specs.Records.{at_rest}
use Rattle.rgo_core_channels.proofs.Lists.{set_own}
use Rattle.rgo_core_frames.specs.steps.Actions.{after_action}
use Rattle.rgo_core_frames.specs.shown.Operands.{PointsTo}
use Rattle.rgo_core_frames.specs.steps.Bookkept.{HasInstruction}
use Rattle.rgo_core_frames.specs.shown.WordFrames.{frame_word as word_of_frame}
use Rattle.rgo_core_frames.specs.shown.Words.{Shows}
use Rattle.rgo_core_memory.specs.Accesses.{Before}
use Rattle.rgo_core_memory.proofs.objects.Spreads.{in_table, whole_of}
use Rattle.rgo_core_memory.specs.Encoding.{address}
use Rattle.rgo_core_memory.specs.Ground.{IsLiveObject, ground_of}
use Rattle.rgo_core_memory.specs.Image.{StateImage, word_of_value, word_at}
use Rattle.rgo_core_memory.specs.Spread.{words_before}
use Rattle.rgo_core_memory.specs.Words.{base, variable_at}
use Rattle.rgo_core_memory.proofs.image.Frames.{content_below}
use Rattle.rgo_core_memory.proofs.image.Quiets.{quiet_keeps}
use Rattle.rgo_core_memory.proofs.Rows.{at_set, set_else}
use Rattle.rgo_core_memory.proofs.image.Steadies.{steady_of}
use Rattle.rgo_core_memory.proofs.accesses.Storing.{gets}
use Rattle.rgo_core_memory.proofs.accesses.Typing.{get_law, len_law, load_law, loads_from, set_law, store_law, stores_to}
use Rattle.rgo_core_memory.proofs.Writes.{in_pages}
use Rattle.rgo_core.specs.moves.Cells.{GetMove, IsFieldAt, LenMove, LenNilStill, LoadMove, PointsToWhole, SetMove, StoreMove}
use Rattle.rgo_core.specs.ties.Bounds.{Gives, LieInPages, Points, slice_words, target_type}
use Rattle.rgo_core.specs.Core.{Situation, Setup, layout}
use Rattle.rgo_core_channels.specs.Positions.{cell_place, place_at}
use Rattle.rgo_core.specs.Next.{IsAtOp, acted_record}
use Rattle.rgo_core.specs.Records.{Record, frame_of, instructed, memory_of}
use Rattle.rgo_core.specs.Steps.{MakesQuietStep, Steps}
use Rattle.rgo_core.proofs.image.Bounds.{LeadsToLive, as_many as kinds_many, gives_points, held_live}
use Rattle.rgo_core.proofs.image.Encodings.{shows_it, small_int, word_is}
use Rattle.rgo_core.proofs.image.Contents.{variable_fits}
use Rattle.rgo_core.proofs.channel_steps.Leaving.{apart_from, channel_stands, channel_word}
use Rattle.rgo_core.proofs.steps.Lift.{access_law, moves_by, quiet_law}
use Rattle.rgo_core.proofs.accesses.Locating.{field_high, located_word}
use Rattle.rgo_core.proofs.new_objects.MakesObject.{first_type, struct_no_channel}
use Rattle.rgo_core.proofs.steps.Operands as operands
use Rattle.rgo_core.proofs.accesses.Slices as slices
use Rattle.rgo_core.proofs.image.Parts.{I}
use Rattle.rgo_core.proofs.clock.Printing.{not_go}
use Rattle.rgo_core.proofs.steps.Performing.{channels_after, performs}
use Rattle.rgo_core.proofs.accesses.Links.{claims_high, fixed_apart, fixed_in}

-- ---- types

pub load_takes : (code : Tac) (f : TacFn) (d k : ℕ) (tys : List «Type») → DoFits code f (Some d) (action.Load k) tys
    → (n : ℕ) × (tys ≡ pointer_to n ∷ [])
load_takes code f d k tys fits = let r = fits.2 in (r.0, r.1)

pub store_takes : (code : Tac) (f : TacFn) (k : ℕ) (tys : List «Type») → DoFits code f None (action.Store k) tys
    → (n : ℕ) × (t : «Type») × (tys ≡ pointer_to n ∷ t ∷ [])
store_takes code f k tys fits = (fits.0, fits.1, fits.2)

len_takes : (code : Tac) (f : TacFn) (d : ℕ) (tys : List «Type») → DoFits code f (Some d) action.Len tys
    → (u : «Type») × (tys ≡ slice_of u ∷ [])
len_takes code f d tys fits = let r = fits.2 in (r.0, r.1)

get_gives : (code : Tac) (f : TacFn) (d k : ℕ) (tys : List «Type») → DoFits code f (Some d) (action.Get k) tys
    → (t : «Type») × (slice_get (declared_in_code code).variables k ≡ Some t)
get_gives code f d k tys fits = let r = fits.2 in (fits.0, r.1)

struct_no_slice : (cells others : List Value) → StructObject cells ≡ SliceObject others → ⊥
struct_no_slice cells others e = cc e

le_max : (n : ℕ) → n ≤ max 1 n
le_max n = omega arith

-- ---- what is loaded stays

module _ {T : Setup} {g : ℕ} {c : Record} (x : Situation T g c) (rests : c.side ≡ at_rest) (d : ℕ) (act : Action) (from removes : List ℕ)
    (a : IsAtOp T.code c (Do (Some d) act from removes)) (i : ℕ) (v : Value)
    (does : performed T.code.structs act (destination_type (erased T.code) (operands.b x (Some d) act from removes a).frame (Some d))
    (operand_values (operands.b x (Some d) act from removes a).frame from) x.s.plain.memory ≡ Some (DoesSo x.s.plain.memory v))
    (shows : Shows (I x).addresses v (slice_index x.words i)) where
  pub read_step : HasInstruction T.code T.sizes.page_words (I x).places.slot (I x).addresses x.s g x.s.plain.memory []
      ((operands.b x (Some d) act from removes a).h, [])
      (slice_set (map frame_of x.recs) g (after_action T.code c.frame a.w a.ws a.instr (Some d) (slice_index x.words i)))
  read_step = operands.acts x (Some d) act from removes a x.s.plain.memory v (slice_index x.words i) does refl shows

  pub reads_word : StateImage (layout T) x.words (map memory_of x.recs) read_step.state (I x).places
      → Steps x (slice_set x.words i (slice_index x.words i)) (acted_record T.code c a (Some d) (slice_index x.words i))
  reads_word M = inl (subst (λ (w : List ℕ). MakesQuietStep x w (acted_record T.code c a (Some d) (slice_index x.words i))) (sym (set_own x.words i))
      (performs x rests x.s.plain.memory (operands.b x (Some d) act from removes a).h
      (after_action T.code c.frame a.w a.ws a.instr (Some d) (slice_index x.words i)) read_step x.words (suc c.clock.accesses) refl
      (operands.as_deep x (Some d) act from removes a (slice_index x.words i)) M
      (channels_after x rests x.s.plain.memory (operands.b x (Some d) act from removes a).h
      (after_action T.code c.frame a.w a.ws a.instr (Some d) (slice_index x.words i)) read_step x.words
      (λ o k is. is) (λ o k is. is) refl (λ o j k on l. refl)) (λ r. refl) (λ o i object r stands low fixed. refl)))

  -- and points into the pages
  pub read_points : LeadsToLive x.s v → Points T (target_type T a.w (Some d)) (slice_index x.words i)
  read_points live = gives_points x (Some d) act from removes a x.s.plain.memory v does x.words (map memory_of x.recs) x.s (I x).places (I x).memory
      (I x).addresses (I x).addressed refl (slice_index x.words i) live shows

-- ---- a struct fits a page

same_number : (m n : ℕ) → pointer_to m ≡ pointer_to n → m ≡ n
same_number m n e = let b = ap (λ (t : «Type»). t.base) e in cc b

module _ {T : Setup} {g : ℕ} {c : Record} (x : Situation T g c) (to : Option ℕ) (act : Action) (p : ℕ) (others removes : List ℕ)
    (a : IsAtOp T.code c (Do to act (p ∷ others) removes)) (n : ℕ) (tys : List «Type»)
    (types_are : (operands.rule x to act (p ∷ others) removes a).0 ≡ pointer_to n ∷ tys)
    (read : Contains (reads (erased_op (Do to act (p ∷ others) removes))) p) (at : ℕ) (points : word_of_frame a.w p ≡ suc at)
    (whole : PointsToWhole T c a p) where
  abbrev struct_at : PointsTo (I x).addresses x.s (operands.b x to act (p ∷ others) removes a).h
      (value_at (operands.b x to act (p ∷ others) removes a).frame p) at
  struct_at = operands.to_it x to act (p ∷ others) removes a p at (pointer_to n) tys others types_are refl refl read points

  pub struct_whole : (cells : List Value) → slice_get x.s.plain.memory.heap struct_at.object ≡ Some (StructObject cells) → 0 < length cells
      → is_spread T.sizes.page_words (StructObject cells) ≡ false
  struct_whole cells there some =
      let typed = operands.typed x to act (p ∷ others) removes a p at (pointer_to n) tys others types_are refl refl read points in
      let fits = (operands.b x to act (p ∷ others) removes a).typed.0 in
      let same : a.fn ≡ fits.0 = same_Some a.fn fits.0 (sym a.in_fn ∙ (ap (code_function T.code)
      (operands.b x to act (p ∷ others) removes a).newest.alike.function ∙ fits.1)) in
      let kinds = (operands.b x to act (p ∷ others) removes a).kinds in
      let kind : HasKind kinds (pointer_to n) (value.Object struct_at.object) =
      subst (HasKind kinds (pointer_to n)) struct_at.is
      (var_kind kinds (erased_fn fits.0) (operands.b x to act (p ∷ others) removes a).frame fits.2 p (pointer_to n)
      (subst (λ (f : CodeFn). VariableHasType (erased_fn f) p (pointer_to n)) same typed)) in
      let ob = object_of T.code kinds x.s.plain.memory (operands.b x to act (p ∷ others) removes a).memory struct_at.object
      (pointer_to n) kind.0 in
      let it : ObjectFits T.code.structs kinds (pointer_to n) (StructObject cells) =
      subst (ObjectFits T.code.structs kinds (pointer_to n)) (same_Some ob.0 (StructObject cells) (sym ob.1 ∙ there)) ob.2 in
      let number : it.0 ≡ whole.number = same_number it.0 whole.number
      (sym it.1 ∙ same_Some (pointer_to n) (pointer_to whole.number) (sym typed ∙ whole.typed)) in
      let struct : it.2 ≡ whole.struct = same_Some it.2 whole.struct (sym it.3 ∙ (ap (slice_get T.code.structs) number ∙ whole.there)) in
      let many : length cells ≡ length whole.struct.fields =
      kinds_many kinds it.2.fields cells it.4 ∙ ap (λ (s : Struct). length s.fields) struct in
      let l = whole.fits in
      whole_of T.sizes.page_words (StructObject cells) (omega (arith, many, l, some))

-- field k is k words after the first one
fields_first : (cells : List Value) (k : ℕ) → k < length cells → k ≡ words_before (StructObject cells) + k
fields_first cells k low = omega (arith, low)

-- ---- a field is loaded

module _ {T : Setup} {g : ℕ} {c : Record} (x : Situation T g c) (rests : c.side ≡ at_rest) (d k p at : ℕ) (removes : List ℕ)
    (a : IsAtOp T.code c (Do (Some d) (action.Load k) (p ∷ []) removes)) (points : word_of_frame a.w p ≡ suc at)
    (word : ℕ) (lies : IsFieldAt T c a p at k word) where
  load_types : (n : ℕ) × ((operands.rule x (Some d) (action.Load k) (p ∷ []) removes a).0 ≡ pointer_to n ∷ [])
  load_types = load_takes (erased T.code) (erased_fn a.fn) d k (operands.rule x (Some d) (action.Load k) (p ∷ []) removes a).0
      (operands.rule x (Some d) (action.Load k) (p ∷ []) removes a).2

  abbrev load_from : PointsTo (I x).addresses x.s (operands.b x (Some d) (action.Load k) (p ∷ []) removes a).h
      (value_at (operands.b x (Some d) (action.Load k) (p ∷ []) removes a).frame p) at
  load_from = operands.to_it x (Some d) (action.Load k) (p ∷ []) removes a p at (pointer_to load_types.0) [] [] load_types.1 refl refl
      (contains_here p []) points

  abbrev load_before : Before T.code x.s g (action.Load k) (value.Object load_from.object ∷ [])
  load_before = operands.before x (Some d) (action.Load k) (p ∷ []) removes a (value.Object load_from.object ∷ []) (ap (λ (v : Value). v ∷ []) load_from.is)

  load_there : (cells : List Value) × (slice_get x.s.plain.memory.heap load_from.object ≡ Some (StructObject cells)) × (u : Value)
      × (slice_get cells k ≡ Some u)
  load_there = loads_from T.code x.s g load_from.object k x.core.sound.checked x.core.sound.good load_before

  load_does : performed T.code.structs (action.Load k)
      (destination_type (erased T.code) (operands.b x (Some d) (action.Load k) (p ∷ []) removes a).frame (Some d))
      (operand_values (operands.b x (Some d) (action.Load k) (p ∷ []) removes a).frame (p ∷ [])) x.s.plain.memory
      ≡ Some (DoesSo x.s.plain.memory load_there.2)
  load_does =
      ap (λ (v : Value). Some (answered x.s.plain.memory (load x.s.plain.memory v k))) load_from.is
      ∙ (ap (λ (y : Option Object). Some (DoesSo x.s.plain.memory (field_value y k))) load_there.1
      ∙ ap (λ (y : Option Value). Some (DoesSo x.s.plain.memory (or_nil y))) load_there.3)

  load_stands : IsLiveObject x.s.plain.memory.heap x.s.owners x.s.regions load_from.object (StructObject load_there.0) load_from.region
  load_stands = operands.stands x (Some d) (action.Load k) (p ∷ []) removes a p at (pointer_to load_types.0) [] [] load_types.1 refl refl
      (contains_here p []) points (StructObject load_there.0) load_there.1

  load_index : word_at (layout T) (I x).places load_from.object k ≡ word
  load_index =
      let l = slice_get_within load_there.0 k load_there.2 load_there.3 in
      ⊎_elim
      (λ t. operands.word_there x (Some d) (action.Load k) (p ∷ []) removes a p at (pointer_to load_types.0) [] [] load_types.1 refl refl
      (contains_here p []) points (StructObject load_there.0) load_there.1
      (struct_whole x (Some d) (action.Load k) p [] removes a load_types.0 [] load_types.1 (contains_here p []) at points t.0
      load_there.0 load_there.1 (omega (arith, l))) k
      (content_below (StructObject load_there.0) k load_there.2 load_there.3) ∙ sym t.1)
      (λ e. ap (word_at (layout T) (I x).places load_from.object) (fields_first load_there.0 k l)
      ∙ located_word x load_from.object (StructObject load_there.0) load_from.region load_stands at k word e
      ((I x).addressed load_from.object at load_from.at))
      lies

  load_shows : Shows (I x).addresses load_there.2 (slice_index x.words word)
  load_shows = subst (λ n. Shows (I x).addresses load_there.2 (slice_index x.words n)) load_index
      (operands.found_shows x (Some d) (action.Load k) (p ∷ []) removes a p at (pointer_to load_types.0) [] [] load_types.1 refl refl
      (contains_here p []) points (StructObject load_there.0) load_there.1 k load_there.2 load_there.3)

  pub load_steps : Steps x (slice_set x.words word (slice_index x.words word))
      (acted_record T.code c a (Some d) (slice_index x.words word))
  load_steps = reads_word x rests d (action.Load k) (p ∷ []) removes a word load_there.2 load_does load_shows
      (load_law T.code (layout T) x.words (map memory_of x.recs) x.s
      (read_step x rests d (action.Load k) (p ∷ []) removes a word load_there.2 load_does load_shows).state
      g load_from.object k (I x).places x.core.sound.checked x.core.sound.good (I x).memory
      (read_step x rests d (action.Load k) (p ∷ []) removes a word load_there.2 load_does load_shows).steps load_before).1

  pub load_points : Points T (target_type T a.w (Some d)) (slice_index x.words word)
  load_points = read_points x rests d (action.Load k) (p ∷ []) removes a word load_there.2 load_does load_shows
      (held_live x load_from.object (StructObject load_there.0) load_from.region load_stands k load_there.2 load_there.3)

pub load_move : LoadMove
load_move T g c d k p at word removes a rests points lies =
    moves_by T g c word (λ n. n) (λ n. acted_record T.code c a (Some d) n) (Gives T c a (Some d)) (λ n. refl)
    (λ x. let h = field_high T c a p at k word lies in omega (arith, h))
    (λ x small. load_steps x rests d k p at removes a points word lies)
    (λ x. (refl, load_points x rests d k p at removes a points word lies))

-- ---- the length of a slice is loaded

module _ {T : Setup} {g : ℕ} {c : Record} (x : Situation T g c) (rests : c.side ≡ at_rest) (d p at : ℕ) (removes : List ℕ)
    (a : IsAtOp T.code c (Do (Some d) action.Len (p ∷ []) removes)) (points : word_of_frame a.w p ≡ suc at) where
  len_types : (u : «Type») × ((operands.rule x (Some d) action.Len (p ∷ []) removes a).0 ≡ slice_of u ∷ [])
  len_types = len_takes (erased T.code) (erased_fn a.fn) d (operands.rule x (Some d) action.Len (p ∷ []) removes a).0
      (operands.rule x (Some d) action.Len (p ∷ []) removes a).2

  abbrev len_from : PointsTo (I x).addresses x.s (operands.b x (Some d) action.Len (p ∷ []) removes a).h
      (value_at (operands.b x (Some d) action.Len (p ∷ []) removes a).frame p) at
  len_from = operands.to_it x (Some d) action.Len (p ∷ []) removes a p at (slice_of len_types.0) [] [] len_types.1 refl refl
      (contains_here p []) points

  abbrev len_before : Before T.code x.s g action.Len (value.Object len_from.object ∷ [])
  len_before = operands.before x (Some d) action.Len (p ∷ []) removes a (value.Object len_from.object ∷ []) (ap (λ (v : Value). v ∷ []) len_from.is)

  slice_there : (cells : List Value) × (slice_get x.s.plain.memory.heap len_from.object ≡ Some (SliceObject cells))
  slice_there = slices.slice_there x (Some d) action.Len p [] removes a len_types.0 [] len_types.1 (contains_here p []) at points

  abbrev long : Value
  long = value.Int (pos (length slice_there.0))

  len_does : performed T.code.structs action.Len (destination_type (erased T.code) (operands.b x (Some d) action.Len (p ∷ []) removes a).frame (Some d))
      (operand_values (operands.b x (Some d) action.Len (p ∷ []) removes a).frame (p ∷ [])) x.s.plain.memory
      ≡ Some (DoesSo x.s.plain.memory long)
  len_does =
      ap (λ (v : Value). performed T.code.structs action.Len
      (destination_type (erased T.code) (operands.b x (Some d) action.Len (p ∷ []) removes a).frame (Some d)) (v ∷ []) x.s.plain.memory) len_from.is
      ∙ ap (λ (y : Option Object). Some (DoesSo x.s.plain.memory (length_in y))) slice_there.1

  len_index : word_at (layout T) (I x).places len_from.object 0 ≡ base (layout T) + at
  len_index = slices.first_word x (Some d) action.Len p [] removes a len_types.0 [] len_types.1 (contains_here p []) at points

  len_shows : Shows (I x).addresses long (slice_index x.words (base (layout T) + at))
  len_shows = subst (λ n. Shows (I x).addresses long (slice_index x.words n)) len_index
      (operands.found_shows x (Some d) action.Len (p ∷ []) removes a p at (slice_of len_types.0) [] [] len_types.1 refl refl
      (contains_here p []) points (SliceObject slice_there.0) slice_there.1 0 long refl)

  pub len_steps : Steps x (slice_set x.words (base (layout T) + at) (slice_index x.words (base (layout T) + at)))
      (acted_record T.code c a (Some d) (slice_index x.words (base (layout T) + at)))
  len_steps = reads_word x rests d action.Len (p ∷ []) removes a (base (layout T) + at) long len_does len_shows
      (len_law T.code (layout T) x.words (map memory_of x.recs) x.s
      (read_step x rests d action.Len (p ∷ []) removes a (base (layout T) + at) long len_does len_shows).state
      g len_from.object (I x).places x.core.sound.checked x.core.sound.good (I x).memory
      (read_step x rests d action.Len (p ∷ []) removes a (base (layout T) + at) long len_does len_shows).steps len_before).1

  pub len_points : Points T (target_type T a.w (Some d)) (slice_index x.words (base (layout T) + at))
  len_points = read_points x rests d action.Len (p ∷ []) removes a (base (layout T) + at) long len_does len_shows (λ o e. absurd (no_object o e))
    where
      no_object : (o : ℕ) → long ≡ value.Object o → ⊥
      no_object o e = cc e

  pub elements_lie : LieInPages T at (slice_words T (slice_index x.words (base (layout T) + at)))
  elements_lie = slices.lies x (Some d) action.Len p [] removes a len_types.0 [] len_types.1 (contains_here p []) at points

pub len_move : LenMove
len_move T g c d p at removes a rests points =
    moves_by T g c (base (layout T) + at) (λ n. n) (λ n. acted_record T.code c a (Some d) n)
    (λ n e. Gives T c a (Some d) n e × LieInPages T at (slice_words T n)) (λ n. refl) (λ x. omega arith)
    (λ x small. len_steps x rests d p at removes a points)
    (λ x. ((refl, len_points x rests d p at removes a points), elements_lie x rests d p at removes a points))

-- ---- the length of nil

module _ {T : Setup} {g : ℕ} {c : Record} (x : Situation T g c) (rests : c.side ≡ at_rest) (d p : ℕ) (removes : List ℕ)
    (a : IsAtOp T.code c (Do (Some d) action.Len (p ∷ []) removes)) (nil : word_of_frame a.w p ≡ 0) where
  nil_types : (u : «Type») × ((operands.rule x (Some d) action.Len (p ∷ []) removes a).0 ≡ slice_of u ∷ [])
  nil_types = len_takes (erased T.code) (erased_fn a.fn) d (operands.rule x (Some d) action.Len (p ∷ []) removes a).0
      (operands.rule x (Some d) action.Len (p ∷ []) removes a).2

  nil_does : performed T.code.structs action.Len (destination_type (erased T.code) (operands.b x (Some d) action.Len (p ∷ []) removes a).frame (Some d))
      (operand_values (operands.b x (Some d) action.Len (p ∷ []) removes a).frame (p ∷ [])) x.s.plain.memory
      ≡ Some (DoesSo x.s.plain.memory (value.Int (pos 0)))
  nil_does = ap (λ (v : Value). performed T.code.structs action.Len
      (destination_type (erased T.code) (operands.b x (Some d) action.Len (p ∷ []) removes a).frame (Some d)) (v ∷ []) x.s.plain.memory)
      (operands.nil_there x (Some d) action.Len (p ∷ []) removes a p (slice_of nil_types.0) (contains_here p [])
      (first_type (erased_fn a.fn) p [] (operands.rule x (Some d) action.Len (p ∷ []) removes a).0 (slice_of nil_types.0) [] nil_types.1
      (operands.rule x (Some d) action.Len (p ∷ []) removes a).1) refl nil)

  zero_shows : Shows (I x).addresses (value.Int (pos 0)) 0
  zero_shows = (omega arith, sym (small_int 0 (omega arith)))

  nil_step : HasInstruction T.code T.sizes.page_words (I x).places.slot (I x).addresses x.s g x.s.plain.memory []
      ((operands.b x (Some d) action.Len (p ∷ []) removes a).h, [])
      (slice_set (map frame_of x.recs) g (after_action T.code c.frame a.w a.ws a.instr (Some d) 0))
  nil_step = operands.acts x (Some d) action.Len (p ∷ []) removes a x.s.plain.memory (value.Int (pos 0)) 0 nil_does refl zero_shows

  pub length_of_nil : MakesQuietStep x x.words
      (record c { clock = instructed c.clock; frame = after_action T.code c.frame a.w a.ws a.instr (Some d) 0 })
  length_of_nil = performs x rests x.s.plain.memory (operands.b x (Some d) action.Len (p ∷ []) removes a).h
      (after_action T.code c.frame a.w a.ws a.instr (Some d) 0) nil_step x.words c.clock.accesses refl
      (operands.as_deep x (Some d) action.Len (p ∷ []) removes a 0)
      (quiet_keeps T.code (layout T) x.words (map memory_of x.recs) x.s nil_step.state (Instruct (One g)) (I x).places (I x).memory nil_step.steps
      (nil_step.memory_is, not_go x a (λ z. z)))
      (channels_after x rests x.s.plain.memory (operands.b x (Some d) action.Len (p ∷ []) removes a).h
      (after_action T.code c.frame a.w a.ws a.instr (Some d) 0) nil_step x.words
      (λ o k is. is) (λ o k is. is) refl (λ o j k on l. refl))
      (λ r. refl) (λ o i object r stands low fixed. refl)

pub len_nil_still : LenNilStill
len_nil_still T g c d p removes a rests nil =
    quiet_law T g c (record c { clock = instructed c.clock; frame = after_action T.code c.frame a.w a.ws a.instr (Some d) 0 })
    (λ x. length_of_nil x rests d p removes a nil)

-- ---- a package variable is loaded

module _ {T : Setup} {g : ℕ} {c : Record} (x : Situation T g c) (rests : c.side ≡ at_rest) (d k : ℕ) (removes : List ℕ)
    (a : IsAtOp T.code c (Do (Some d) (action.Get k) [] removes)) where
  variable_there : (v : Value) × (slice_get x.s.plain.memory.variables k ≡ Some v)
  variable_there =
      let r = operands.rule x (Some d) (action.Get k) [] removes a in
      let t = get_gives (erased T.code) (erased_fn a.fn) d k r.0 r.2 in
      let typed = x.core.sound.good.good.typed in
      let y = get_kinds typed.kinds (map (λ (v : Variable). v.ty) T.code.variables) x.s.plain.memory.variables k t.0 typed.memory.variables t.1 in
      (y.0, y.1)

  get_does : performed T.code.structs (action.Get k) (destination_type (erased T.code) (operands.b x (Some d) (action.Get k) [] removes a).frame (Some d))
      (operand_values (operands.b x (Some d) (action.Get k) [] removes a).frame []) x.s.plain.memory
      ≡ Some (DoesSo x.s.plain.memory variable_there.0)
  get_does = ap (λ (y : Option Value). Some (DoesSo x.s.plain.memory (or_nil y))) variable_there.1

  get_shows : Shows (I x).addresses variable_there.0 (slice_index x.words (variable_at (layout T) k))
  get_shows = subst (Shows (I x).addresses variable_there.0)
      (sym (gets (layout T) x.words (map memory_of x.recs) (ground_of x.s) (I x).places (I x).memory k variable_there.0 variable_there.1))
      (shows_it (I x).addresses (address (layout T) (I x).places.start) (I x).addressed variable_there.0
      (λ n w. variable_fits x k n (variable_there.1 ∙ ap Some w))
      (λ o w. let y = (steady_of T.code x.s x.core.sound.good).variables k o (variable_there.1 ∙ ap Some w) in
      let l = (I x).frames.laid in omega (arith, y, l)))

  pub get_steps : Steps x (slice_set x.words (variable_at (layout T) k) (slice_index x.words (variable_at (layout T) k)))
      (acted_record T.code c a (Some d) (slice_index x.words (variable_at (layout T) k)))
  get_steps = reads_word x rests d (action.Get k) [] removes a (variable_at (layout T) k) variable_there.0 get_does get_shows
      (get_law T.code (layout T) x.words (map memory_of x.recs) x.s
      (read_step x rests d (action.Get k) [] removes a (variable_at (layout T) k) variable_there.0 get_does get_shows).state
      g k (I x).places x.core.sound.checked x.core.sound.good (I x).memory
      (read_step x rests d (action.Get k) [] removes a (variable_at (layout T) k) variable_there.0 get_does get_shows).steps
      (operands.before x (Some d) (action.Get k) [] removes a [] refl)).1

  -- a package variable holds objects of Global
  pub get_points : Points T (target_type T a.w (Some d)) (slice_index x.words (variable_at (layout T) k))
  get_points = read_points x rests d (action.Get k) [] removes a (variable_at (layout T) k) variable_there.0 get_does get_shows (λ o e. (
    GlobalRegion,
    subst (LeadsInto x.s.owners GlobalRegion) e
        (each_get (LeadsInto x.s.owners GlobalRegion) x.s.plain.memory.variables k variable_there.0
        x.core.sound.good.good.values.memory.variables variable_there.1),
    refl,
  ))

pub get_move : GetMove
get_move T g c d k removes a rests =
    moves_by T g c (variable_at (layout T) k) (λ n. n) (λ n. acted_record T.code c a (Some d) n) (Gives T c a (Some d)) (λ n. refl)
    (λ x. omega arith) (λ x small. get_steps x rests d k removes a) (λ x. (refl, get_points x rests d k removes a))

-- ---- a field is stored

module _ {T : Setup} {g : ℕ} {c : Record} (x : Situation T g c) (rests : c.side ≡ at_rest) (k p q at : ℕ) (removes : List ℕ)
    (a : IsAtOp T.code c (Do None (action.Store k) (p ∷ q ∷ []) removes)) (points : word_of_frame a.w p ≡ suc at)
    (word : ℕ) (lies : IsFieldAt T c a p at k word) where
  store_types : (n : ℕ) × (t : «Type») × ((operands.rule x None (action.Store k) (p ∷ q ∷ []) removes a).0 ≡ pointer_to n ∷ t ∷ [])
  store_types = store_takes (erased T.code) (erased_fn a.fn) k (operands.rule x None (action.Store k) (p ∷ q ∷ []) removes a).0
      (operands.rule x None (action.Store k) (p ∷ q ∷ []) removes a).2

  abbrev store_to : PointsTo (I x).addresses x.s (operands.b x None (action.Store k) (p ∷ q ∷ []) removes a).h
      (value_at (operands.b x None (action.Store k) (p ∷ q ∷ []) removes a).frame p) at
  store_to = operands.to_it x None (action.Store k) (p ∷ q ∷ []) removes a p at (pointer_to store_types.0) (store_types.1 ∷ []) (q ∷ [])
      store_types.2 refl refl (contains_here p (q ∷ [])) points

  abbrev o : ℕ
  o = store_to.object

  abbrev v : Value
  v = value_at (operands.b x None (action.Store k) (p ∷ q ∷ []) removes a).frame q

  abbrev store_before : Before T.code x.s g (action.Store k) (value.Object o ∷ v ∷ [])
  store_before = operands.before x None (action.Store k) (p ∷ q ∷ []) removes a (value.Object o ∷ v ∷ [])
      (ap (λ (u : Value). u ∷ v ∷ []) store_to.is)

  store_there : (cells : List Value) × (slice_get x.s.plain.memory.heap o ≡ Some (StructObject cells)) × (u : Value)
      × (slice_get cells k ≡ Some u)
  store_there = stores_to T.code x.s g o k v x.core.sound.checked x.core.sound.good store_before

  abbrev object : Object
  object = StructObject (slice_set store_there.0 k v)

  abbrev mem : Heap
  mem = with_object x.s.plain.memory o object

  store_does : performed T.code.structs (action.Store k)
      (destination_type (erased T.code) (operands.b x None (action.Store k) (p ∷ q ∷ []) removes a).frame None)
      (operand_values (operands.b x None (action.Store k) (p ∷ q ∷ []) removes a).frame (p ∷ q ∷ [])) x.s.plain.memory
      ≡ Some (DoesSo mem value.Nil)
  store_does =
      ap (λ (u : Value). Some (store x.s.plain.memory u k v)) store_to.is
      ∙ ap (λ (y : Option Object). Some (to_object x.s.plain.memory o (store_outcome k v) y)) store_there.1

  store_step : HasInstruction T.code T.sizes.page_words (I x).places.slot (I x).addresses x.s g mem []
      ((operands.b x None (action.Store k) (p ∷ q ∷ []) removes a).h, [])
      (slice_set (map frame_of x.recs) g (after_action T.code c.frame a.w a.ws a.instr None 0))
  store_step = operands.acts x None (action.Store k) (p ∷ q ∷ []) removes a mem value.Nil 0 store_does
      (length_set x.s.plain.memory.heap o object) refl

  low : k < words_of (StructObject store_there.0)
  low = content_below (StructObject store_there.0) k store_there.2 store_there.3

  store_stands : IsLiveObject x.s.plain.memory.heap x.s.owners x.s.regions o (StructObject store_there.0) store_to.region
  store_stands = operands.stands x None (action.Store k) (p ∷ q ∷ []) removes a p at (pointer_to store_types.0) (store_types.1 ∷ []) (q ∷ [])
      store_types.2 refl refl (contains_here p (q ∷ [])) points (StructObject store_there.0) store_there.1

  store_index : word_at (layout T) (I x).places o k ≡ word
  store_index =
      let l = slice_get_within store_there.0 k store_there.2 store_there.3 in
      ⊎_elim
      (λ t. operands.word_there x None (action.Store k) (p ∷ q ∷ []) removes a p at (pointer_to store_types.0) (store_types.1 ∷ []) (q ∷ [])
      store_types.2 refl refl (contains_here p (q ∷ [])) points (StructObject store_there.0) store_there.1
      (struct_whole x None (action.Store k) p (q ∷ []) removes a store_types.0 (store_types.1 ∷ []) store_types.2 (contains_here p (q ∷ [])) at points t.0
      store_there.0 store_there.1 (omega (arith, l))) k low ∙ sym t.1)
      (λ e. ap (word_at (layout T) (I x).places o) (fields_first store_there.0 k l)
      ∙ located_word x o (StructObject store_there.0) store_to.region store_stands at k word e ((I x).addressed o at store_to.at))
      lies

  same_word : word_of_value (layout T) (I x).places v ≡ word_of_frame a.w q
  same_word = word_is (I x).addresses (address (layout T) (I x).places.start) (I x).addressed v (word_of_frame a.w q)
      (operands.shown x None (action.Store k) (p ∷ q ∷ []) removes a q (contains_there p (q ∷ []) q (contains_here q [])))

  abbrev words : List ℕ
  words = slice_set x.words (word_at (layout T) (I x).places o k) (word_of_frame a.w q)

  store_memory : StateImage (layout T) words (map memory_of x.recs) store_step.state (I x).places
  store_memory = subst (λ n. StateImage (layout T) (slice_set x.words (word_at (layout T) (I x).places o k) n) (map memory_of x.recs) store_step.state (I x).places)
      same_word
      (store_law T.code (layout T) x.words (map memory_of x.recs) x.s store_step.state g o k v (I x).places x.core.sound.checked x.core.sound.good
      (I x).memory store_step.steps store_before)

  -- no channel is the struct
  other : (j : ℕ) (l : Chan) → IsChan x.s.plain.memory j l → j ≢ o
  other j l is e = struct_no_channel store_there.0 l
      (same_Some (StructObject store_there.0) (channel l) (sym store_there.1 ∙ (ap (slice_get x.s.plain.memory.heap) (sym e) ∙ is)))

  stays : (j : ℕ) (l : Chan) → IsChan x.s.plain.memory j l → IsChan mem j l
  stays j l is = set_else x.s.plain.memory.heap o j object (other j l is) ∙ is

  was : (j : ℕ) (l : Chan) → IsChan mem j l → IsChan x.s.plain.memory j l
  was j l is = ⊎_elim
      (λ (t : (j ≡ o) × (object ≡ channel l)). absurd (struct_no_channel (slice_set store_there.0 k v) l t.1))
      (λ (t : (j ≢ o) × (slice_get x.s.plain.memory.heap j ≡ Some (channel l))). t.1)
      (at_set x.s.plain.memory.heap o j object (channel l) is)

  store_done : MakesQuietStep x words (acted_record T.code c a None 0)
  store_done = performs x rests mem (operands.b x None (action.Store k) (p ∷ q ∷ []) removes a).h
      (after_action T.code c.frame a.w a.ws a.instr None 0) store_step words (suc c.clock.accesses)
      (length_set x.s.plain.memory.heap o object)
      (operands.as_deep x None (action.Store k) (p ∷ q ∷ []) removes a 0) store_memory
      (channels_after x rests mem (operands.b x None (action.Store k) (p ∷ q ∷ []) removes a).h
      (after_action T.code c.frame a.w a.ws a.instr None 0) store_step words stays was
      (length-set x.words (word_at (layout T) (I x).places o k) (word_of_frame a.w q))
      (apart_from (layout T) x.words (map memory_of x.recs) x.s (I x).places (I x).memory o k (word_of_frame a.w q) (StructObject store_there.0)
      store_to.region
      store_stands
      low (λ j l on. other j l on.0)))
      (claims_high x (word_at (layout T) (I x).places o k) (word_of_frame a.w q) (omega arith))
      (fixed_in x o k (StructObject store_there.0) store_to.region
      store_stands
      low (λ cells e. absurd (struct_no_slice store_there.0 cells e)) (word_of_frame a.w q))

  pub store_steps : Steps x (slice_set x.words word (word_of_frame a.w q)) (acted_record T.code c a None 0)
  store_steps = inl (subst (λ n. MakesQuietStep x (slice_set x.words n (word_of_frame a.w q)) (acted_record T.code c a None 0)) store_index store_done)

pub store_move : StoreMove
store_move T g c k p q at word removes a rests points lies =
    access_law T g c word (λ n. word_of_frame a.w q) (λ n. acted_record T.code c a None 0)
    (let h = field_high T c a p at k word lies in omega (arith, h)) (λ n. refl)
    (λ x small. store_steps x rests k p q at removes a points word lies)

-- ---- a package variable is stored

module _ {T : Setup} {g : ℕ} {c : Record} (x : Situation T g c) (rests : c.side ≡ at_rest) (k q : ℕ) (removes : List ℕ)
    (a : IsAtOp T.code c (Do None (action.Set k) (q ∷ []) removes)) where
  abbrev set_value : Value
  set_value = value_at (operands.b x None (action.Set k) (q ∷ []) removes a).frame q

  abbrev set_mem : Heap
  set_mem = record x.s.plain.memory { variables = slice_set x.s.plain.memory.variables k set_value }

  set_step : HasInstruction T.code T.sizes.page_words (I x).places.slot (I x).addresses x.s g set_mem []
      ((operands.b x None (action.Set k) (q ∷ []) removes a).h, [])
      (slice_set (map frame_of x.recs) g (after_action T.code c.frame a.w a.ws a.instr None 0))
  set_step = operands.acts x None (action.Set k) (q ∷ []) removes a set_mem value.Nil 0 refl refl refl

  set_word : word_of_value (layout T) (I x).places set_value ≡ word_of_frame a.w q
  set_word = word_is (I x).addresses (address (layout T) (I x).places.start) (I x).addressed set_value (word_of_frame a.w q)
      (operands.shown x None (action.Set k) (q ∷ []) removes a q (contains_here q []))

  abbrev set_words : List ℕ
  set_words = slice_set x.words (variable_at (layout T) k) (word_of_frame a.w q)

  set_memory : StateImage (layout T) set_words (map memory_of x.recs) set_step.state (I x).places
  set_memory = subst (λ n. StateImage (layout T) (slice_set x.words (variable_at (layout T) k) n) (map memory_of x.recs) set_step.state (I x).places)
      set_word
      (set_law T.code (layout T) x.words (map memory_of x.recs) x.s set_step.state g k set_value (I x).places x.core.sound.checked x.core.sound.good
      (I x).memory set_step.steps (operands.before x None (action.Set k) (q ∷ []) removes a (set_value ∷ []) refl))

  set_same : (j i : ℕ) (l : Chan) → On x.s j l → i < 2 + extent l.capacity
      → slice_index set_words (word_of_channel (place_at (layout T) (I x).places) (cell_place (layout T) (I x).places) j i)
      ≡ slice_index x.words (word_of_channel (place_at (layout T) (I x).places) (cell_place (layout T) (I x).places) j i)
  set_same j i l on low =
      let y = channel_stands x.s j l on in
      let u = (I x).memory.lies.inside j i (channel l) y.0 y.1 (in_table T.sizes.page_words (channel l) i low) in
      let e = channel_word (layout T) x.words (map memory_of x.recs) x.s (I x).places (I x).memory j i l on low in
      let b = in_pages (layout T).pages ((I x).places.spot j i).page (layout T).page_words ((I x).places.spot j i).offset u.0 u.1 in
      get_or-set_other x.words (variable_at (layout T) k) (word_of_channel (place_at (layout T) (I x).places) (cell_place (layout T) (I x).places) j i) (word_of_frame a.w q) 0
      (λ w. omega (arith, e, b, w))

  pub set_steps : Steps x set_words (acted_record T.code c a None 0)
  set_steps = inl (performs x rests set_mem (operands.b x None (action.Set k) (q ∷ []) removes a).h
      (after_action T.code c.frame a.w a.ws a.instr None 0) set_step set_words (suc c.clock.accesses) refl
      (operands.as_deep x None (action.Set k) (q ∷ []) removes a 0) set_memory
      (channels_after x rests set_mem (operands.b x None (action.Set k) (q ∷ []) removes a).h
      (after_action T.code c.frame a.w a.ws a.instr None 0) set_step set_words (λ j l is. is) (λ j l is. is)
      (length-set x.words (variable_at (layout T) k) (word_of_frame a.w q)) set_same)
      (claims_high x (variable_at (layout T) k) (word_of_frame a.w q) (omega arith))
      (fixed_apart x (variable_at (layout T) k) (word_of_frame a.w q) (λ j n at r stands l fixed e.
      let u = (I x).memory.lies.inside j n at r stands l in
      let b = in_pages (layout T).pages ((I x).places.spot j n).page (layout T).page_words ((I x).places.spot j n).offset u.0 u.1 in
      omega (arith, b, e))))

pub set_move : SetMove
set_move T g c k q removes a rests =
    access_law T g c (variable_at (layout T) k) (λ n. word_of_frame a.w q) (λ n. acted_record T.code c a None 0) (omega arith) (λ n. refl)
    (λ x small. set_steps x rests k q removes a)
