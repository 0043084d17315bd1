-- Accesses to elements of slices: the length is read, and then the element is loaded or stored. The link of the record says that the slice
-- still has the length. From there they go like fields, with one word before the cells.
use Rattle.std.proofs.Common.{◌≡◌, ◌≢◌, inl, inr, ⊎_elim, ℕ, suc, ◌+◌, ◌<◌, ◌≤◌, nat_lt, Bool, false, true, pos, List, [], ◌∷◌, Option, Some, None, length, map, if◌then◌else◌, slice_get, slice_set, slice_index, refl, ap, sym, subst, ◌∙◌, arith, Contains}
use Rattle.std.proofs.Math.ListN.{length-set}
use Rattle.std.proofs.lemmas.Bool.Decides.{nat_tests}
use Rattle.std.proofs.lemmas.Option.{same_Some}
use Rattle.rgo_sound.specs.Code.Code.{Do}
use Rattle.rgo_sound.specs.Code.Erasure.{erased, erased_fn, erased_op}
use Rattle.rgo_sound.specs.Code.Types.{VariableHasType, VariablesHaveTypes}
use Rattle.rgo_sound.specs.Memory.Effects.{Does as DoesSo, Outcome, answered, in_memory, to_object}
use Rattle.rgo_sound.specs.Memory.Elements.{element_in, length_in, or_out_of_range, put_in}
use Rattle.rgo_sound.specs.Memory.Memory.{Memory as Heap, Object, SliceObject, with_object}
use Rattle.rgo_sound.specs.Memory.declared.values.Value.{Value}
use Rattle.rgo_sound.specs.Memory.declared.values.Value.TheVariants as value
use Rattle.rgo_sound.specs.RegionMachine.Objects.{is_spread, object_words as words_of}
use Rattle.rgo_sound.proofs.steps.Acting.{performed}
use Rattle.rgo_sound.proofs.Places.{contains_here, contains_there, get_some, length_set}
use Rattle.rgo_sound.specs.Tac.Code.{TacFn}
use Rattle.rgo_sound.specs.Tac.Flow.{reads}
use Rattle.rgo_sound.specs.Tac.Frames.{value_at, operand_values}
use Rattle.rgo_sound.specs.Tac.Steps.{destination_type}
use Rattle.rgo_sound.specs.Typed.declared.actions.Action.{Action}
use Rattle.rgo_sound.specs.Typed.declared.actions.Action.TheVariants as action
use Rattle.rgo_sound.specs.Typed.declared.types.Type.{«Type»}
use Rattle.rgo_sound.specs.WellFormed.TypeRules.{int, slice_of}
use Rattle.rgo_core_channels.specs.Channels.{Chan, IsChan, channel}
use Rattle.rgo_core_channels.specs.Records.{at_rest}
use Rattle.rgo_core_channels.proofs.Lists.{set_own}
use Rattle.rgo_core_frames.specs.steps.Actions.{after_action}
use Rattle.rgo_core_frames.specs.shown.Operands.{PointsTo}
use Rattle.rgo_core_frames.specs.steps.Bookkept.{HasInstruction}
use Rattle.rgo_core_frames.specs.shown.WordFrames.{frame_word as word_of_frame}
use Rattle.rgo_core_frames.specs.shown.Words.{Shows}
use Rattle.rgo_core_memory.specs.Accesses.{Before}
use Rattle.rgo_core_memory.specs.Encoding.{address}
use Rattle.rgo_core_memory.specs.Image.{StateImage, word_of_value, word_at}
use Rattle.rgo_core_memory.specs.Records.{Measured}
use Rattle.rgo_core_memory.specs.Spread.{words_before}
use Rattle.rgo_core_memory.specs.Words.{base}
use Rattle.rgo_core_memory.proofs.image.Keeps.{measured_keeps}
use Rattle.rgo_core_memory.proofs.Rows.{at_set, set_else}
use Rattle.rgo_core_memory.proofs.accesses.Typing.{at_law, put_law}
use Rattle.rgo_core.specs.moves.Cells.{AtMove, IsElementAt, IsInSlice, IsWhole, MeasureMove, PutMove, measures}
use Rattle.rgo_core_memory.proofs.objects.Spreads.{whole_of}
use Rattle.rgo_core.specs.ties.Bounds.{Gives, LieInPages, Points, slice_words, target_type}
use Rattle.rgo_core.specs.Core.{Situation, Setup, layout}
use Rattle.rgo_core.specs.ties.Links.{IsAtElement}
use Rattle.rgo_core.specs.Next.{IsAtOp, acted_record}
use Rattle.rgo_core.specs.Records.{Record, frame_of, memory_of, steps_of}
use Rattle.rgo_core.specs.Steps.{MakesQuietStep, MakesNoStep, Steps}
use Rattle.rgo_core.proofs.accesses.Accesses.{read_points, read_step, reads_word}
use Rattle.rgo_core.proofs.image.Bounds.{held_live}
use Rattle.rgo_core.proofs.image.Encodings.{small_int, word_is}
use Rattle.rgo_core.proofs.channel_steps.Leaving.{apart_from}
use Rattle.rgo_core.proofs.steps.Lift.{access_law, moves_by}
use Rattle.rgo_core.proofs.accesses.Links.{Nowhere, Waits, as_much, claims_high, fixed_in, its_cell, its_pages, links_by, same_place}
use Rattle.rgo_core.proofs.accesses.Locating.{element_high, located_word}
use Rattle.rgo_core.proofs.steps.Operands as operands
use Rattle.rgo_core.proofs.image.Parts.{I, frame_stays, image_with, side_stays}
use Rattle.rgo_core.proofs.steps.Performing.{channels_after, performs}
use Rattle.rgo_core.proofs.accesses.Slices as slices
use Rattle.rgo_core.proofs.image.Standing.{memory_at}
use Rattle.rgo_core.proofs.new_objects.MakesObject.{slice_no_channel}

-- ---- a length is read

module _ {T : Setup} {g : ℕ} {c : Record} (x : Situation T g c) (at : ℕ) (here : IsAtElement T.code c at) where
  abbrev found : ℕ
  found = slice_index x.words (base (layout T) + at)

  abbrev m : Measured
  m = record { address = at; elements = found; steps = steps_of c }

  abbrev d : Record
  d = measures c at found

  read_stays : MakesNoStep x x.words d
  read_stays = record {
    counted = refl;
    same = record { prints = refl; first = refl; children = refl; refused = refl };
    image = image_with x x.words d x.s (I x).places (I x).at (I x).addresses (I x).addressed
        (frame_stays x x.s (I x).places.slot (I x).addresses (I x).frames)
        (measured_keeps T.code (layout T) x.words (map memory_of x.recs) x.s (I x).places g c.memory x.core.sound.good (I x).memory (memory_at x) m)
        (side_stays x x.words x.s (I x).places (I x).at (I x).channels);
    links = links_by x x.words (λ o i object r stands low fixed. refl) d (λ j r e ne is closes. refl) (record {
      owed = (x.core.links g c x.is_c).owed;
      knows = λ n read. let same : m ≡ n = same_Some m n read in record {
        past = subst (λ (y : Measured). y.steps ≤ steps_of c) same (as_much (steps_of c));
        before = λ now. subst (λ (y : Measured). IsAtElement T.code d y.address) same (same_place T.code c d at refl here);
        still = λ now. subst (λ (y : Measured). slice_index x.words (base (layout T) + y.address) ≡ y.elements) same refl;
      };
      finds = its_cell x x.words (λ o i object r stands low fixed. refl) d refl (Nowhere refl refl);
      reserved = its_pages x x.words (λ o i object r stands low fixed. refl) d (Waits refl refl refl);
    });
  }

  pub measured_steps : Steps x (slice_set x.words (base (layout T) + at) found) d
  measured_steps = inr (subst (λ (w : List ℕ). MakesNoStep x w d) (sym (set_own x.words (base (layout T) + at))) read_stays)

pub measure_move : MeasureMove
measure_move T g c at here =
    moves_by T g c (base (layout T) + at) (λ n. n) (λ n. measures c at n) (λ n d. (d ≡ measures c at n) × LieInPages T at (slice_words T n)) (λ n. refl)
    (λ x. omega arith) (λ x small. measured_steps x at here) (λ x. (refl, (slices.at_slice x at here).lies))

-- ---- the operands

-- an element is after the length
elements_next : (cells : List Value) (index : ℕ) → suc index ≡ words_before (SliceObject cells) + index
elements_next cells index = omega arith

second_is : {X : Type 0} (a b a' b' : X) (xs ys : List X) → a ∷ b ∷ xs ≡ a' ∷ b' ∷ ys → b ≡ b'
second_is a b a' b' xs ys e = cc

pub second_type : (f : TacFn) (p q : ℕ) (from : List ℕ) (operands : List «Type») (t u : «Type») (tys : List «Type») → operands ≡ t ∷ u ∷ tys
    → VariablesHaveTypes f (p ∷ q ∷ from) operands → VariableHasType f q u
second_type f p q from operands t u tys e h =
    second_is (slice_get f.variables p) (slice_get f.variables q) (Some t) (Some u) (map (slice_get f.variables) from) (map Some tys)
    (h ∙ ap (map Some) e)

module _ {T : Setup} {g : ℕ} {c : Record} (x : Situation T g c) (to : Option ℕ) (act : Action) (p q : ℕ) (others removes : List ℕ)
    (a : IsAtOp T.code c (Do to act (p ∷ q ∷ others) removes)) (u : «Type») (tys : List «Type»)
    (types_are : (operands.rule x to act (p ∷ q ∷ others) removes a).0 ≡ slice_of u ∷ int ∷ tys)
    (reads_slice : Contains (reads (erased_op (Do to act (p ∷ q ∷ others) removes))) p)
    (reads_index : Contains (reads (erased_op (Do to act (p ∷ q ∷ others) removes))) q)
    (at : ℕ) (points : word_of_frame a.w p ≡ suc at) (inside : IsInSlice c at (word_of_frame a.w q)) where
  abbrev pub it : PointsTo (I x).addresses x.s (operands.b x to act (p ∷ q ∷ others) removes a).h
      (value_at (operands.b x to act (p ∷ q ∷ others) removes a).frame p) at
  it = slices.it x to act p (q ∷ others) removes a u (int ∷ tys) types_are reads_slice at points

  abbrev pub cells : List Value
  cells = (slices.slice_there x to act p (q ∷ others) removes a u (int ∷ tys) types_are reads_slice at points).0

  pub there : slice_get x.s.plain.memory.heap it.object ≡ Some (SliceObject cells)
  there = (slices.slice_there x to act p (q ∷ others) removes a u (int ∷ tys) types_are reads_slice at points).1

  abbrev pub index : ℕ
  index = word_of_frame a.w q

  -- the length that was read is the slice's
  pub within : index < length cells
  within =
      let k = (x.core.links g c x.is_c).knows inside.measured inside.read in
      let w = ap (λ n. slice_index x.words (base (layout T) + n)) (sym inside.its) ∙ k.still inside.now in
      let l = slices.length_word x to act p (q ∷ others) removes a u (int ∷ tys) types_are reads_slice at points in
      let i = inside.within in
      subst (λ n. index < n) (sym w ∙ l) i

  pub index_is : value_at (operands.b x to act (p ∷ q ∷ others) removes a).frame q ≡ value.Int (pos index)
  index_is =
      let small = slices.length_small x to act p (q ∷ others) removes a u (int ∷ tys) types_are reads_slice at points in
      let low = within in
      operands.int_there x to act (p ∷ q ∷ others) removes a q int reads_index
      (second_type (erased_fn a.fn) p q others (operands.rule x to act (p ∷ q ∷ others) removes a).0 (slice_of u) int tys types_are
      (operands.rule x to act (p ∷ q ∷ others) removes a).1) refl
      ∙ ap (λ z. value.Int z) (small_int index (omega (arith, small, low)))

  pub word_low : suc index < words_of (SliceObject cells)
  word_low = let l = within in omega (arith, l)

  -- by the length that was read the slice fits a page
  pub fits_page : IsWhole T inside → is_spread T.sizes.page_words (SliceObject cells) ≡ false
  fits_page whole =
      let k = (x.core.links g c x.is_c).knows inside.measured inside.read in
      let w = ap (λ n. slice_index x.words (base (layout T) + n)) (sym inside.its) ∙ k.still inside.now in
      let l = slices.length_word x to act p (q ∷ others) removes a u (int ∷ tys) types_are reads_slice at points in
      let m : suc (length cells) ≤ T.sizes.page_words = subst (λ n. suc n ≤ T.sizes.page_words) (sym w ∙ l) whole in
      whole_of T.sizes.page_words (SliceObject cells) (omega (arith, m))

  pub word_is_at : (word : ℕ) → IsElementAt T c at index inside word → word_at (layout T) (I x).places it.object (suc index) ≡ word
  word_is_at word lies = ⊎_elim
      (λ t. operands.word_there x to act (p ∷ q ∷ others) removes a p at (slice_of u) (int ∷ tys) (q ∷ others) types_are refl refl reads_slice
      points (SliceObject cells) there (fits_page t.0) (suc index) word_low ∙ sym t.1)
      (λ e. ap (word_at (layout T) (I x).places it.object) (elements_next cells index)
      ∙ located_word x it.object (SliceObject cells) it.region
      (slices.slice_stands x to act p (q ∷ others) removes a u (int ∷ tys) types_are reads_slice at points) at index word e
      ((I x).addressed it.object at it.at))
      lies

-- ---- an element is loaded

module _ {T : Setup} {g : ℕ} {c : Record} (x : Situation T g c) (rests : c.side ≡ at_rest) (d p q at : ℕ) (removes : List ℕ)
    (a : IsAtOp T.code c (Do (Some d) action.At (p ∷ q ∷ []) removes)) (points : word_of_frame a.w p ≡ suc at)
    (inside : IsInSlice c at (word_of_frame a.w q)) (word : ℕ)
    (lies : IsElementAt T c at (word_of_frame a.w q) inside word) where
  at_types : (u : «Type») × ((operands.rule x (Some d) action.At (p ∷ q ∷ []) removes a).0 ≡ slice_of u ∷ int ∷ [])
  at_types = slices.at_takes (erased T.code) (erased_fn a.fn) d (operands.rule x (Some d) action.At (p ∷ q ∷ []) removes a).0
      (operands.rule x (Some d) action.At (p ∷ q ∷ []) removes a).2

  abbrev reads_p : Contains (reads (erased_op (Do (Some d) action.At (p ∷ q ∷ []) removes))) p
  reads_p = contains_here p (q ∷ [])

  abbrev reads_q : Contains (reads (erased_op (Do (Some d) action.At (p ∷ q ∷ []) removes))) q
  reads_q = contains_there p (q ∷ []) q (contains_here q [])

  abbrev at_from : PointsTo (I x).addresses x.s (operands.b x (Some d) action.At (p ∷ q ∷ []) removes a).h
      (value_at (operands.b x (Some d) action.At (p ∷ q ∷ []) removes a).frame p) at
  at_from = it x (Some d) action.At p q [] removes a at_types.0 [] at_types.1 reads_p reads_q at points inside

  abbrev at_cells : List Value
  at_cells = cells x (Some d) action.At p q [] removes a at_types.0 [] at_types.1 reads_p reads_q at points inside

  abbrev i : ℕ
  i = word_of_frame a.w q

  at_there : slice_get x.s.plain.memory.heap at_from.object ≡ Some (SliceObject at_cells)
  at_there = there x (Some d) action.At p q [] removes a at_types.0 [] at_types.1 reads_p reads_q at points inside

  at_within : i < length at_cells
  at_within = within x (Some d) action.At p q [] removes a at_types.0 [] at_types.1 reads_p reads_q at points inside

  element : (v : Value) × (slice_get at_cells i ≡ Some v)
  element = get_some at_cells i at_within

  index_value : value_at (operands.b x (Some d) action.At (p ∷ q ∷ []) removes a).frame q ≡ value.Int (pos i)
  index_value = index_is x (Some d) action.At p q [] removes a at_types.0 [] at_types.1 reads_p reads_q at points inside

  abbrev at_before : Before T.code x.s g action.At (value.Object at_from.object ∷ value.Int (pos i) ∷ [])
  at_before = operands.before x (Some d) action.At (p ∷ q ∷ []) removes a (value.Object at_from.object ∷ value.Int (pos i) ∷ [])
      (λ j. at_from.is j ∷ index_value j ∷ [])

  at_does : performed T.code.structs action.At (destination_type (erased T.code) (operands.b x (Some d) action.At (p ∷ q ∷ []) removes a).frame (Some d))
      (operand_values (operands.b x (Some d) action.At (p ∷ q ∷ []) removes a).frame (p ∷ q ∷ [])) x.s.plain.memory
      ≡ Some (DoesSo x.s.plain.memory element.0)
  at_does =
      (λ j. performed T.code.structs action.At
      (destination_type (erased T.code) (operands.b x (Some d) action.At (p ∷ q ∷ []) removes a).frame (Some d)) (at_from.is j ∷ index_value j ∷ [])
      x.s.plain.memory)
      ∙ (ap (λ (y : Option Object). Some (answered x.s.plain.memory (element_in y (pos i)))) at_there
      ∙ ap (λ (y : Option Value). Some (answered x.s.plain.memory (or_out_of_range y))) element.1)

  at_index : word_at (layout T) (I x).places at_from.object (suc i) ≡ word
  at_index = word_is_at x (Some d) action.At p q [] removes a at_types.0 [] at_types.1 reads_p reads_q at points inside word lies

  at_shows : Shows (I x).addresses element.0 (slice_index x.words word)
  at_shows = subst (λ n. Shows (I x).addresses element.0 (slice_index x.words n)) at_index
      (operands.found_shows x (Some d) action.At (p ∷ q ∷ []) removes a p at (slice_of at_types.0) (int ∷ []) (q ∷ []) at_types.1 refl refl
      reads_p points (SliceObject at_cells) at_there (suc i) element.0 element.1)

  pub at_steps : Steps x (slice_set x.words word (slice_index x.words word))
      (acted_record T.code c a (Some d) (slice_index x.words word))
  at_steps = reads_word x rests d action.At (p ∷ q ∷ []) removes a word element.0 at_does at_shows
      (at_law T.code (layout T) x.words (map memory_of x.recs) x.s
      (read_step x rests d action.At (p ∷ q ∷ []) removes a word element.0 at_does at_shows).state
      g at_from.object i (length at_cells) (I x).places x.core.sound.checked x.core.sound.good (I x).memory
      (read_step x rests d action.At (p ∷ q ∷ []) removes a word element.0 at_does at_shows).steps at_before
      (ap length_in at_there) at_within).3

  pub at_points : Points T (target_type T a.w (Some d)) (slice_index x.words word)
  at_points = read_points x rests d action.At (p ∷ q ∷ []) removes a word element.0 at_does at_shows
      (held_live x at_from.object (SliceObject at_cells) at_from.region
      (slices.slice_stands x (Some d) action.At p (q ∷ []) removes a at_types.0 (int ∷ []) at_types.1 reads_p at points) i element.0 element.1)

pub at_move : AtMove
at_move T g c d p q at word removes a rests points inside lies =
    moves_by T g c word (λ n. n) (λ n. acted_record T.code c a (Some d) n) (Gives T c a (Some d)) (λ n. refl)
    (λ x. let h = element_high T c at (word_of_frame a.w q) inside word lies in omega (arith, h))
    (λ x small. at_steps x rests d p q at removes a points inside word lies)
    (λ x. (refl, at_points x rests d p q at removes a points inside word lies))

-- ---- an element is stored

put_here : (cells : List Value) (i : ℕ) (v : Value) → i < length cells
    → put_in (pos i) v (SliceObject cells) ≡ DoesSo (SliceObject (slice_set cells i v)) value.Nil
put_here cells i v low = by (nat_lt i (length cells)) (grind (arith, nat_tests))
  where
    by : (b : Bool) → b ≡ true
        → (if b then DoesSo (SliceObject (slice_set cells i v)) value.Nil else Rattle.rgo_sound.specs.Memory.Effects.Traps Rattle.rgo_sound.specs.Memory.declared.traps.Trap.TheVariants.IndexRange)
        ≡ DoesSo (SliceObject (slice_set cells i v)) value.Nil
    by b e = rw e refl

second_word : (cells : List Value) (others : List Value) (i : ℕ) → SliceObject cells ≡ SliceObject others → 0 ≢ suc i
second_word cells others i same e = omega (arith, e)

module _ {T : Setup} {g : ℕ} {c : Record} (x : Situation T g c) (rests : c.side ≡ at_rest) (p q r at : ℕ) (removes : List ℕ)
    (a : IsAtOp T.code c (Do None action.Put (p ∷ q ∷ r ∷ []) removes)) (points : word_of_frame a.w p ≡ suc at)
    (inside : IsInSlice c at (word_of_frame a.w q)) (word : ℕ)
    (lies : IsElementAt T c at (word_of_frame a.w q) inside word) where
  abbrev from : List ℕ
  from = p ∷ q ∷ r ∷ []

  put_types : (u : «Type») × ((operands.rule x None action.Put from removes a).0 ≡ slice_of u ∷ int ∷ u ∷ [])
  put_types = slices.put_takes (erased T.code) (erased_fn a.fn) (operands.rule x None action.Put from removes a).0
      (operands.rule x None action.Put from removes a).2

  abbrev puts_p : Contains (reads (erased_op (Do None action.Put from removes))) p
  puts_p = contains_here p (q ∷ r ∷ [])

  abbrev puts_q : Contains (reads (erased_op (Do None action.Put from removes))) q
  puts_q = contains_there p (q ∷ r ∷ []) q (contains_here q (r ∷ []))

  abbrev put_to : PointsTo (I x).addresses x.s (operands.b x None action.Put from removes a).h
      (value_at (operands.b x None action.Put from removes a).frame p) at
  put_to = it x None action.Put p q (r ∷ []) removes a put_types.0 (put_types.0 ∷ []) put_types.1 puts_p puts_q at points inside

  abbrev o : ℕ
  o = put_to.object

  abbrev put_cells : List Value
  put_cells = cells x None action.Put p q (r ∷ []) removes a put_types.0 (put_types.0 ∷ []) put_types.1 puts_p puts_q at points inside

  abbrev k : ℕ
  k = word_of_frame a.w q

  abbrev v : Value
  v = value_at (operands.b x None action.Put from removes a).frame r

  put_there : slice_get x.s.plain.memory.heap o ≡ Some (SliceObject put_cells)
  put_there = there x None action.Put p q (r ∷ []) removes a put_types.0 (put_types.0 ∷ []) put_types.1 puts_p puts_q at points inside

  put_within : k < length put_cells
  put_within = within x None action.Put p q (r ∷ []) removes a put_types.0 (put_types.0 ∷ []) put_types.1 puts_p puts_q at points inside

  put_index : value_at (operands.b x None action.Put from removes a).frame q ≡ value.Int (pos k)
  put_index = index_is x None action.Put p q (r ∷ []) removes a put_types.0 (put_types.0 ∷ []) put_types.1 puts_p puts_q at points inside

  abbrev put_before : Before T.code x.s g action.Put (value.Object o ∷ value.Int (pos k) ∷ v ∷ [])
  put_before = operands.before x None action.Put from removes a (value.Object o ∷ value.Int (pos k) ∷ v ∷ [])
      (λ j. put_to.is j ∷ put_index j ∷ v ∷ [])

  abbrev object : Object
  object = SliceObject (slice_set put_cells k v)

  abbrev mem : Heap
  mem = with_object x.s.plain.memory o object

  put_does : performed T.code.structs action.Put (destination_type (erased T.code) (operands.b x None action.Put from removes a).frame None)
      (operand_values (operands.b x None action.Put from removes a).frame from) x.s.plain.memory
      ≡ Some (DoesSo mem value.Nil)
  put_does =
      (λ j. performed T.code.structs action.Put
      (destination_type (erased T.code) (operands.b x None action.Put from removes a).frame None) (put_to.is j ∷ put_index j ∷ v ∷ []) x.s.plain.memory)
      ∙ (ap (λ (y : Option Object). Some (to_object x.s.plain.memory o (put_in (pos k) v) y)) put_there
      ∙ ap (λ (y : Outcome Object). Some (in_memory x.s.plain.memory o y)) (put_here put_cells k v put_within))

  put_step : HasInstruction T.code T.sizes.page_words (I x).places.slot (I x).addresses x.s g mem []
      ((operands.b x None action.Put from removes a).h, [])
      (slice_set (map frame_of x.recs) g (after_action T.code c.frame a.w a.ws a.instr None 0))
  put_step = operands.acts x None action.Put from removes a mem value.Nil 0 put_does (length_set x.s.plain.memory.heap o object) refl

  put_low : suc k < words_of (SliceObject put_cells)
  put_low = word_low x None action.Put p q (r ∷ []) removes a put_types.0 (put_types.0 ∷ []) put_types.1 puts_p puts_q at points inside

  put_word : word_at (layout T) (I x).places o (suc k) ≡ word
  put_word = word_is_at x None action.Put p q (r ∷ []) removes a put_types.0 (put_types.0 ∷ []) put_types.1 puts_p puts_q at points inside word lies

  same_word : word_of_value (layout T) (I x).places v ≡ word_of_frame a.w r
  same_word = word_is (I x).addresses (address (layout T) (I x).places.start) (I x).addressed v (word_of_frame a.w r)
      (operands.shown x None action.Put from removes a r
      (contains_there p (q ∷ r ∷ []) r (contains_there q (r ∷ []) r (contains_here r []))))

  abbrev words : List ℕ
  words = slice_set x.words (word_at (layout T) (I x).places o (suc k)) (word_of_frame a.w r)

  put_memory : StateImage (layout T) words (map memory_of x.recs) put_step.state (I x).places
  put_memory = subst (λ n. StateImage (layout T) (slice_set x.words (word_at (layout T) (I x).places o (suc k)) n) (map memory_of x.recs) put_step.state (I x).places)
      same_word
      (put_law T.code (layout T) x.words (map memory_of x.recs) x.s put_step.state g o k (length put_cells) v (I x).places x.core.sound.checked
      x.core.sound.good (I x).memory put_step.steps put_before (ap length_in put_there) put_within)

  -- no channel is the slice
  other : (j : ℕ) (l : Chan) → IsChan x.s.plain.memory j l → j ≢ o
  other j l is e = slice_no_channel put_cells l
      (same_Some (SliceObject put_cells) (channel l) (sym put_there ∙ (ap (slice_get x.s.plain.memory.heap) (sym e) ∙ is)))

  stays : (j : ℕ) (l : Chan) → IsChan x.s.plain.memory j l → IsChan mem j l
  stays j l is = set_else x.s.plain.memory.heap o j object (other j l is) ∙ is

  was : (j : ℕ) (l : Chan) → IsChan mem j l → IsChan x.s.plain.memory j l
  was j l is = ⊎_elim
      (λ (t : (j ≡ o) × (object ≡ channel l)). absurd (slice_no_channel (slice_set put_cells k v) l t.1))
      (λ (t : (j ≢ o) × (slice_get x.s.plain.memory.heap j ≡ Some (channel l))). t.1)
      (at_set x.s.plain.memory.heap o j object (channel l) is)

  put_done : MakesQuietStep x words (acted_record T.code c a None 0)
  put_done = performs x rests mem (operands.b x None action.Put from removes a).h
      (after_action T.code c.frame a.w a.ws a.instr None 0) put_step words (suc c.clock.accesses)
      (length_set x.s.plain.memory.heap o object)
      (operands.as_deep x None action.Put from removes a 0) put_memory
      (channels_after x rests mem (operands.b x None action.Put from removes a).h
      (after_action T.code c.frame a.w a.ws a.instr None 0) put_step words stays was
      (length-set x.words (word_at (layout T) (I x).places o (suc k)) (word_of_frame a.w r))
      (apart_from (layout T) x.words (map memory_of x.recs) x.s (I x).places (I x).memory o (suc k) (word_of_frame a.w r) (SliceObject put_cells)
      put_to.region stands_there put_low (λ j l on. other j l on.0)))
      (claims_high x (word_at (layout T) (I x).places o (suc k)) (word_of_frame a.w r) (omega arith))
      (fixed_in x o (suc k) (SliceObject put_cells) put_to.region stands_there put_low (λ others same. second_word put_cells others k same)
      (word_of_frame a.w r))
    where
      stands_there : Rattle.rgo_core_memory.specs.Ground.IsLiveObject x.s.plain.memory.heap x.s.owners x.s.regions o (SliceObject put_cells) put_to.region
      stands_there = slices.slice_stands x None action.Put p (q ∷ r ∷ []) removes a put_types.0 (int ∷ put_types.0 ∷ []) put_types.1 puts_p at points

  pub put_steps : Steps x (slice_set x.words word (word_of_frame a.w r)) (acted_record T.code c a None 0)
  put_steps = inl (subst (λ n. MakesQuietStep x (slice_set x.words n (word_of_frame a.w r)) (acted_record T.code c a None 0)) put_word put_done)

pub put_move : PutMove
put_move T g c p q r at word removes a rests points inside lies =
    access_law T g c word (λ n. word_of_frame a.w r) (λ n. acted_record T.code c a None 0)
    (let h = element_high T c at (word_of_frame a.w q) inside word lies in omega (arith, h))
    (λ n. refl) (λ x small. put_steps x rests p q r at removes a points inside word lies)
