-- The links of records after an access: what it has to leave of the words, and what of its own record. The records of others do not change,
-- so it is a matter of words: nobody writes lengths, page numbers, or states of pages of a chain that another one returns. Each kind of
-- access takes the lemma that fits the words that it writes.
use Rattle.std.proofs.Common.{◌≡◌, ◌≢◌, ⊎_elim, ℕ, suc, ◌+◌, ◌-◌, ◌/◌, ◌<◌, ◌≤◌, false, true, true≢false, pos, List, [], ◌∷◌, ◌++◌, Option, Some, None, length, map, slice_get, slice_index, slice_set, refl, ap, sym, subst, ◌∙◌, arith}
use Rattle.std.proofs.lemmas.List.{get_or-set_other}
use Rattle.std.proofs.lemmas.Option.{same_Some}
use Rattle.rgo_sound.specs.Code.Code.{Code, CodeInstr, CodeOp, Do}
use Rattle.rgo_sound.specs.Memory.Memory.{Channel, Object, SliceObject, StructObject}
use Rattle.rgo_sound.specs.Memory.declared.values.Value.{Value}
use Rattle.rgo_sound.specs.Memory.declared.values.Value.TheVariants as value
use Rattle.rgo_sound.specs.RegionMachine.Objects.{data_pages, making_region, object_words as words_of}
use Rattle.rgo_sound.specs.RegionMachine.Owed.{current, code_function}
use Rattle.rgo_sound.specs.RegionMachine.States.{Duty, top_names}
use Rattle.rgo_sound.specs.RegionMachine.declared.regions.Region.{Region}
use Rattle.rgo_sound.specs.Typed.declared.actions.Action.{Action}
use Rattle.rgo_sound.specs.Typed.declared.actions.Action.TheVariants as action
use Rattle.rgo_core_frames.specs.Records.{FramesRec as FrameRec}
use Rattle.rgo_core_frames.specs.shown.WordFrames.{WordFrame, bare}
use Rattle.rgo_sound.proofs.Places.{get_snoc, head_is}
use Rattle.rgo_core_memory.specs.Ground.{IsLiveObject, ground_of}
use Rattle.rgo_core_memory.specs.Image.{StateImage, word_at}
use Rattle.rgo_core_memory.specs.Opening.{first_record}
use Rattle.rgo_core_memory.specs.Owed.{claimed_for}
use Rattle.rgo_core_memory.specs.Records.{Calm, ClosesSlot, Gave, Give, Giving, Located, Measured, Owes, Past, Rec as MemoryRec, Reserved}
use Rattle.rgo_core_memory.specs.Spread.{table_words}
use Rattle.rgo_core_memory.specs.Words.{base, state_at}
use Rattle.rgo_core_memory.specs.declared.layout.TableSizes.{TableSizes}
use Rattle.rgo_core_memory.proofs.image.Facts.{differ}
use Rattle.rgo_core_memory.proofs.pages.Owing.{still_claimed}
use Rattle.rgo_core_memory.proofs.Rows.{at_set}
use Rattle.rgo_core_memory.proofs.objects.Spreads.{in_table}
use Rattle.rgo_core_memory.proofs.accesses.Storing.{loads}
use Rattle.rgo_core.specs.Core.{Situation, Setup, layout}
use Rattle.rgo_core.specs.ties.Links.{BeforeLoad, BeforeStore, Finds, IsAtCell, IsAtElement, IsMakingIn, StillMeasured, Link, Links, OfSlice, OfStruct, is_on_cell, left_to_free, slot_number}
use Rattle.rgo_core.specs.Next.{IsAtOp}
use Rattle.rgo_core.specs.Records.{Record, memory_of, steps_of}
use Rattle.rgo_core.proofs.accesses.Cells as cells
use Rattle.rgo_core.proofs.accesses.PageNumbers.{same_numbers}
use Rattle.rgo_core.proofs.image.Parts.{I}
use Rattle.rgo_core.proofs.accesses.Slices.{at_slice}
use Rattle.rgo_core.proofs.pages.Unreserved.{none_in}

-- ---- where a record is

-- it is before no access to a cell
abbrev pub IsNowhere : Code → Record → Type 0
IsNowhere code c = (to : Option ℕ) (act : Action) (from removes : List ℕ) → IsAtOp code c (Do to act from removes) → is_on_cell act ≡ false

no_element : (code : Code) (c : Record) → IsNowhere code c → (at : ℕ) → IsAtElement code c at → ⊥
no_element code c out at (BeforeLoad d p q removes a points) = true≢false (out (Some d) action.At (p ∷ q ∷ []) removes a)
no_element code c out at (BeforeStore p q r removes a points) = true≢false (out None action.Put (p ∷ q ∷ r ∷ []) removes a)

no_cell : (code : Code) (z : TableSizes) (words : List ℕ) (c : Record) → IsNowhere code c → (at cell page : ℕ)
    → IsAtCell code z words c at cell page → ⊥
no_cell code z words c out at cell page (OfStruct to act p others removes a on points s low found) =
    true≢false (sym on ∙ out to act (p ∷ others) removes a)
no_cell code z words c out at cell page (OfSlice to act p others removes a on points u typed low large found) =
    true≢false (sym on ∙ out to act (p ∷ others) removes a)

-- a record with the same frames is where it was
abbrev pub at_same : (code : Code) (c d : Record) {op : CodeOp} → d.frame ≡ c.frame → IsAtOp code c op → IsAtOp code d op
at_same code c d same a = record {
  w = a.w;
  ws = a.ws;
  frames = ap (λ (f : FrameRec). f.frames) same ∙ a.frames;
  fn = a.fn;
  in_fn = a.in_fn;
  instr = a.instr;
  cur = a.cur;
  is = a.is;
  none = ap (λ (f : FrameRec). f.holder.duties) same ∙ a.none;
  free = ap (λ (f : FrameRec). f.holder.offer) same ∙ a.free;
}

pub same_place : (code : Code) (c d : Record) (at : ℕ) → d.frame ≡ c.frame → IsAtElement code c at → IsAtElement code d at
same_place code c d at same (BeforeLoad n p q removes a points) = BeforeLoad n p q removes (at_same code c d same a) points
same_place code c d at same (BeforeStore p q r removes a points) = BeforeStore p q r removes (at_same code c d same a) points

same_making : (code : Code) (z : TableSizes) (c d : Record) (slot : ℕ) → d.frame ≡ c.frame → IsMakingIn code z c slot
    → IsMakingIn code z d slot
same_making code z c d slot same m = record {
  op = m.op;
  a = at_same code c d same m.a;
  by_slot = m.by_slot;
  making = ap (λ (f : FrameRec). making_region (code_function code m.a.w.function) (top_names f.holder.environments) m.a.instr.op) same ∙ m.making;
  slotted = m.slotted;
}

-- a record is at one instruction
module _ (code : Code) (c : Record) {op : CodeOp} (a : IsAtOp code c op) where
  frame_one : {other : CodeOp} (b : IsAtOp code c other) → b.w ≡ a.w
  frame_one b = head_is b.w a.w b.ws a.ws (sym b.frames ∙ a.frames)

  instr_one : {other : CodeOp} (b : IsAtOp code c other) → b.instr ≡ a.instr
  instr_one b = same_Some b.instr a.instr (sym b.cur ∙ (ap (λ (y : WordFrame). current code (bare y)) (frame_one b) ∙ a.cur))

  -- the region in which it makes an object
  pub making_one : (z : TableSizes) (slot : ℕ) (m : IsMakingIn code z c slot)
      → making_region (code_function code a.w.function) (top_names c.frame.holder.environments) a.instr.op ≡ Some m.by_slot
  making_one z slot m =
      (λ i. making_region (code_function code (sym (frame_one m.a) i).function) (top_names c.frame.holder.environments) (sym (instr_one m.a) i).op)
      ∙ m.making

-- what owes a duty is before no instruction
pub has_duty : (code : Code) (c : Record) (d : Duty) (ds : List Duty) → c.frame.holder.duties ≡ d ∷ ds → IsNowhere code c
has_duty code c d ds owes to act from removes a = let e = sym a.none ∙ owes in absurd (cc e)

-- ---- what a step does to its own record

-- it counts an instruction; or leaves the frames; or it was not before an access to a cell
pub data Goes (code : Code) (c d : Record) : Type 0 where
  Further : steps_of c < steps_of d → Goes code c d
  Nowhere : d.frame ≡ c.frame → steps_of d ≡ steps_of c → Goes code c d
  Elsewhere : steps_of c ≤ steps_of d → IsNowhere code c → Goes code c d

-- and if it may continue elsewhere, it has no reserved pages
pub data Advances (code : Code) (c d : Record) : Type 0 where
  CountsOne : steps_of c < steps_of d → d.memory.reserved.pages ≡ [] → Advances code c d
  Waits : d.frame ≡ c.frame → steps_of d ≡ steps_of c → d.memory.reserved ≡ c.memory.reserved → Advances code c d
  IsElsewhere : steps_of c ≤ steps_of d → IsNowhere code c → d.memory.reserved.pages ≡ [] → Advances code c d

goes : {code : Code} {c d : Record} → Advances code c d → Goes code c d
goes (CountsOne more none) = Further more
goes (Waits frame steps reserved) = Nowhere frame steps
goes (IsElsewhere steps nowhere none) = Elsewhere steps nowhere

-- what it has to free and what it has read are the same
pub record Keeps (c d : Record) : Type 0 where
  pub owed : d.clock.owed ≡ c.clock.owed
  pub give : d.memory.give ≡ c.memory.give
  pub measured : d.memory.measured ≡ c.memory.measured
  pub located : d.memory.located ≡ c.memory.located

pub all_kept : {c d : Record} → d.clock.owed ≡ c.clock.owed → d.memory.give ≡ c.memory.give → d.memory.measured ≡ c.memory.measured
    → d.memory.located ≡ c.memory.located → Keeps c d
all_kept owed give measured located = record { owed = owed; give = give; measured = measured; located = located }

pub one_later : (n : ℕ) → n < suc n
one_later n = omega arith

pub as_much : (n : ℕ) → n ≤ n
as_much n = omega arith

pub left_same : (z : TableSizes) (words others : List ℕ) (give : Give) → ((r : ℕ) → ClosesSlot give r → claimed_for z others r ≡ claimed_for z words r)
    → left_to_free z others give ≡ left_to_free z words give
left_same z words others Calm h = refl
left_same z words others (Owes r) h = h r refl
left_same z words others (Giving r cursor) h = h r refl
left_same z words others (Past r cursor next) h = h r refl
left_same z words others (Gave r) h = h r refl

some_of_none : (pages : List ℕ) → pages ≡ [] → 0 < length pages → ⊥
some_of_none pages none some = let l = ap length none in omega (arith, l, some)

-- ---- the words of objects that nobody writes: the lengths of slices, and page numbers

pub data IsFixed (object : Object) (i : ℕ) : Type 0 where
  Length : (elements : List Value) → object ≡ SliceObject elements → i ≡ 0 → IsFixed object i
  Number : words_of object ≤ i → IsFixed object i

length_in_table : (page_words : ℕ) (object : Object) (elements : List Value) → object ≡ SliceObject elements → 0 < table_words page_words object
length_in_table page_words (StructObject cells) elements e = absurd (cc e)
length_in_table page_words (SliceObject cells) elements e = in_table page_words (SliceObject cells) 0 (omega arith)
length_in_table page_words (Channel capacity queue closed) elements e = absurd (cc e)

-- ---- links after an access

module _ {T : Setup} {g : ℕ} {c : Record} (x : Situation T g c) where
  -- the same state from another goroutine
  abbrev other : (j : ℕ) (e : Record) → slice_get x.recs j ≡ Some e → Situation T j e
  other j e is = record { words = x.words; recs = x.recs; events = x.events; s = x.s; core = x.core; is_c = is }

  abbrev pub FixedStay : List ℕ → Type 0
  FixedStay words = (o i : ℕ) (object : Object) (r : Region) → IsLiveObject x.s.plain.memory.heap x.s.owners x.s.regions o object r
      → i < table_words T.sizes.page_words object → IsFixed object i
      → slice_index words (word_at (layout T) (I x).places o i) ≡ slice_index x.words (word_at (layout T) (I x).places o i)

  abbrev pub ClaimsStay : List ℕ → Type 0
  ClaimsStay words = (r : ℕ) → claimed_for (layout T) words r ≡ claimed_for (layout T) x.words r

  -- ---- reserved pages

  -- none before an instruction that makes no object
  pub makes_none : {op : CodeOp} (a : IsAtOp T.code c op)
      → making_region (code_function T.code a.w.function) (top_names c.frame.holder.environments) op ≡ None → c.memory.reserved.pages ≡ []
  makes_none a none = none_in c.memory.reserved.pages (λ some.
      let m = (x.core.links g c x.is_c).reserved some in
      some_none m.by_slot (sym (making_one T.code c a (layout T) c.memory.reserved.slot m)
      ∙ (ap (making_region (code_function T.code a.w.function) (top_names c.frame.holder.environments)) a.is ∙ none)))
    where
      some_none : (r : Region) → Some r ≡ None → ⊥
      some_none r e = cc e

  -- nor while a duty is owed
  pub owing_none : (d : Duty) (ds : List Duty) → c.frame.holder.duties ≡ d ∷ ds → c.memory.reserved.pages ≡ []
  owing_none d ds owes = none_in c.memory.reserved.pages (λ some.
      let m = (x.core.links g c x.is_c).reserved some in no_duty (sym m.a.none ∙ owes))
    where
      no_duty : [] ≡ d ∷ ds → ⊥
      no_duty e = cc e

  -- reserved pages belong to the slot of the region in which its next instruction makes an object
  pub slot_made : {op : CodeOp} (a : IsAtOp T.code c op) (by_slot : Region)
      → making_region (code_function T.code a.w.function) (top_names c.frame.holder.environments) a.instr.op ≡ Some by_slot
      → 0 < length c.memory.reserved.pages → c.memory.reserved.slot ≡ slot_number (layout T) by_slot
  slot_made a by_slot making some =
      let m = (x.core.links g c x.is_c).reserved some in
      sym m.slotted
      ∙ ap (slot_number (layout T)) (same_Some m.by_slot by_slot (sym (making_one T.code c a (layout T) c.memory.reserved.slot m) ∙ making))

  module _ (words : List ℕ) (fixed : FixedStay words) where
    still_there : (j : ℕ) (e : Record) → slice_get x.recs j ≡ Some e → (at n : ℕ) → IsAtElement T.code e at
        → slice_index x.words (base (layout T) + at) ≡ n → slice_index words (base (layout T) + at) ≡ n
    still_there j e is at n here was =
        let s = at_slice (other j e is) at here in
        ap (slice_index words) (sym s.first)
        ∙ (fixed s.object 0 (SliceObject s.cells) s.region s.stands
        (length_in_table T.sizes.page_words (SliceObject s.cells) s.cells refl) (Length s.cells refl refl)
        ∙ (ap (slice_index x.words) s.first ∙ was))

    -- a cell is where it was
    still_at : (j : ℕ) (e : Record) → slice_get x.recs j ≡ Some e → (d : Record) → d.frame ≡ e.frame → (at cell page : ℕ)
        → IsAtCell T.code (layout T) x.words e at cell page → IsAtCell T.code (layout T) words d at cell page
    still_at j e is d same at cell page (OfStruct to act p others removes a on points s low found) =
        let y = other j e is in
        let h = cells.struct_cell y to act p others removes a at points s cell low in
        let n = cells.number_at y at cell 0 h in
        let l = cells.number_low y at cell 0 h in
        OfStruct to act p others removes (at_same T.code e d same a) on points s low
        (ap (slice_index words) (sym n)
        ∙ (fixed h.object (words_of h.other + cell / T.sizes.page_words) h.other h.region h.stands (omega (arith, l)) (Number (omega arith))
        ∙ (ap (slice_index x.words) n ∙ found)))
    still_at j e is d same at cell page (OfSlice to act p others removes a on points u typed low large found) =
        let y = other j e is in
        let h = cells.slice_cell y to act p others removes a at points u typed cell low large in
        let n = cells.number_at y at cell 1 h in
        let l = cells.number_low y at cell 1 h in
        let first = cells.first_word y to act p others removes a at points u typed in
        let elements = cells.elements y to act p others removes a at points u typed in
        let long : slice_index words (base (layout T) + at) ≡ slice_index x.words (base (layout T) + at) =
        ap (slice_index words) (sym first)
        ∙ (fixed _ 0 (SliceObject elements) _ (cells.slice_stands y to act p others removes a at points u typed)
        (length_in_table T.sizes.page_words (SliceObject elements) elements refl) (Length elements refl refl)
        ∙ ap (slice_index x.words) first) in
        OfSlice to act p others removes (at_same T.code e d same a) on points u typed (subst (λ n. cell < n) (sym long) low)
        (subst (λ n. T.sizes.page_words ≤ n) (sym long) large)
        (ap (slice_index words) (sym n)
        ∙ (fixed h.object (words_of h.other + cell / T.sizes.page_words) h.other h.region h.stands (omega (arith, l)) (Number (omega arith))
        ∙ (ap (slice_index x.words) n ∙ found)))

    -- a record that stays
    others_know : (j : ℕ) (e : Record) → slice_get x.recs j ≡ Some e → (m : Measured) → e.memory.measured ≡ Some m
        → StillMeasured T.code (layout T) words e m
    others_know j e is m read =
        let k = (x.core.links j e is).knows m read in
        record {
          past = k.past;
          before = k.before;
          still = λ now. still_there j e is m.address m.elements (k.before now) (k.still now);
        }

    others_find : (j : ℕ) (e : Record) → slice_get x.recs j ≡ Some e → (l : Located) → e.memory.located ≡ Some l
        → Finds T.code (layout T) words e l
    others_find j e is l read =
        let k = (x.core.links j e is).finds l read in
        record { past = k.past; before = λ now. still_at j e is e refl l.address l.cell l.page (k.before now) }

    -- its own record
    pub its_own : (d : Record) → d.memory.measured ≡ c.memory.measured → Goes T.code c d → (m : Measured) → d.memory.measured ≡ Some m
        → StillMeasured T.code (layout T) words d m
    its_own d same way m read = go way
      where
        k : StillMeasured T.code (layout T) x.words c m
        k = (x.core.links g c x.is_c).knows m (sym same ∙ read)

        go : Goes T.code c d → StillMeasured T.code (layout T) words d m
        go (Further more) =
            let p = k.past in
            record {
              past = omega (arith, p, more);
              before = λ now. absurd (omega (arith, p, more, now));
              still = λ now. absurd (omega (arith, p, more, now));
            }
        go (Nowhere frame steps) =
            let p = k.past in
            record {
              past = omega (arith, p, steps);
              before = λ now. same_place T.code c d m.address frame (k.before (now ∙ steps));
              still = λ now. still_there g c x.is_c m.address m.elements (k.before (now ∙ steps)) (k.still (now ∙ steps));
            }
        go (Elsewhere steps nowhere) =
            let p = k.past in
            record {
              past = omega (arith, p, steps);
              before = λ now. absurd (no_element T.code c nowhere m.address (k.before (omega (arith, p, steps, now))));
              still = λ now. absurd (no_element T.code c nowhere m.address (k.before (omega (arith, p, steps, now))));
            }

    pub its_cell : (d : Record) → d.memory.located ≡ c.memory.located → Goes T.code c d → (l : Located) → d.memory.located ≡ Some l
        → Finds T.code (layout T) words d l
    its_cell d same way l read = go way
      where
        k : Finds T.code (layout T) x.words c l
        k = (x.core.links g c x.is_c).finds l (sym same ∙ read)

        go : Goes T.code c d → Finds T.code (layout T) words d l
        go (Further more) =
            let p = k.past in record { past = omega (arith, p, more); before = λ now. absurd (omega (arith, p, more, now)) }
        go (Nowhere frame steps) =
            let p = k.past in
            record {
              past = omega (arith, p, steps);
              before = λ now. still_at g c x.is_c d frame l.address l.cell l.page (k.before (now ∙ steps));
            }
        go (Elsewhere steps nowhere) =
            let p = k.past in
            record {
              past = omega (arith, p, steps);
              before = λ now. absurd (no_cell T.code (layout T) x.words c nowhere l.address l.cell l.page
                  (k.before (omega (arith, p, steps, now))));
            }

    pub its_pages : (d : Record) → Advances T.code c d → 0 < length d.memory.reserved.pages
        → IsMakingIn T.code (layout T) d d.memory.reserved.slot
    its_pages d (CountsOne more none) some = absurd (some_of_none d.memory.reserved.pages none some)
    its_pages d (Waits frame steps reserved) some =
        let m = (x.core.links g c x.is_c).reserved (subst (λ (r : Reserved). 0 < length r.pages) reserved some) in
        same_making T.code (layout T) c d d.memory.reserved.slot frame
        (subst (λ (r : Reserved). IsMakingIn T.code (layout T) c r.slot) (sym reserved) m)
    its_pages d (IsElsewhere steps nowhere none) some = absurd (some_of_none d.memory.reserved.pages none some)

    -- Only chains that others return have to keep their pages; what it has to free itself is a premise.
    pub links_by : (d : Record)
        → ((j r : ℕ) (e : Record) → j ≢ g → slice_get x.recs j ≡ Some e → ClosesSlot e.memory.give r
        → claimed_for (layout T) words r ≡ claimed_for (layout T) x.words r)
        → Link T.code (layout T) words d
        → Links T.code (layout T) words (slice_set x.recs g d)
    links_by d others its j e is = ⊎_elim
        (λ (t : (j ≡ g) × (d ≡ e)). subst (Link T.code (layout T) words) t.1 its)
        (λ (t : (j ≢ g) × (slice_get x.recs j ≡ Some e)). record {
          owed = (x.core.links j e t.1).owed ∙ sym (left_same (layout T) x.words words e.memory.give (λ r closes. others j r e t.0 t.1 closes));
          knows = others_know j e t.1;
          finds = others_find j e t.1;
          reserved = (x.core.links j e t.1).reserved;
        })
        (at_set x.recs g j d e is)

    -- its own record, except for what it has to free
    its_link : (d : Record) → d.clock.owed ≡ left_to_free (layout T) words d.memory.give → d.memory.measured ≡ c.memory.measured
        → d.memory.located ≡ c.memory.located → Advances T.code c d → Link T.code (layout T) words d
    its_link d owed measured located advances = record {
      owed = owed;
      knows = its_own d measured (goes advances);
      finds = its_cell d located (goes advances);
      reserved = its_pages d advances;
    }

    -- no page is claimed or freed
    pub links_with : ClaimsStay words → (d : Record) → Keeps c d → Advances T.code c d → Links T.code (layout T) words (slice_set x.recs g d)
    links_with claims d keeps advances = links_by d (λ j r e ne is closes. claims r)
        (its_link d
        (keeps.owed ∙ ((x.core.links g c x.is_c).owed
        ∙ (sym (left_same (layout T) x.words words c.memory.give (λ r closes. claims r))
        ∙ ap (left_to_free (layout T) words) (sym keeps.give))))
        keeps.measured keeps.located advances)

    -- what it has to free, if no page of a chain that is being returned is claimed or freed
    pub owed_closing : ((j r : ℕ) (e : Record) → slice_get x.recs j ≡ Some e → ClosesSlot e.memory.give r
        → claimed_for (layout T) words r ≡ claimed_for (layout T) x.words r)
        → (d : Record) → d.clock.owed ≡ c.clock.owed → d.memory.give ≡ c.memory.give
        → d.clock.owed ≡ left_to_free (layout T) words d.memory.give
    owed_closing claims d owed give =
        owed ∙ ((x.core.links g c x.is_c).owed
        ∙ (sym (left_same (layout T) x.words words c.memory.give (λ r closes. claims g r c x.is_c closes))
        ∙ ap (left_to_free (layout T) words) (sym give)))

    pub links_closing : ((j r : ℕ) (e : Record) → slice_get x.recs j ≡ Some e → ClosesSlot e.memory.give r
        → claimed_for (layout T) words r ≡ claimed_for (layout T) x.words r)
        → (d : Record) → Keeps c d → Advances T.code c d → Links T.code (layout T) words (slice_set x.recs g d)
    links_closing claims d keeps advances = links_by d (λ j r e ne is closes. claims j r e is closes)
        (its_link d (owed_closing claims d keeps.owed keeps.give) keeps.measured keeps.located advances)

    -- what it has to free is a premise
    pub links_freeing : (d : Record)
        → ((j r : ℕ) (e : Record) → j ≢ g → slice_get x.recs j ≡ Some e → ClosesSlot e.memory.give r
        → claimed_for (layout T) words r ≡ claimed_for (layout T) x.words r)
        → d.clock.owed ≡ left_to_free (layout T) words d.memory.give → d.memory.measured ≡ c.memory.measured
        → d.memory.located ≡ c.memory.located → Advances T.code c d
        → Links T.code (layout T) words (slice_set x.recs g d)
    links_freeing d others owed measured located advances = links_by d others (its_link d owed measured located advances)

  -- ---- which words it may write

  -- none
  pub links_same : (d : Record) → Keeps c d → Advances T.code c d → Links T.code (layout T) x.words (slice_set x.recs g d)
  links_same d keeps advances = links_with x.words (λ o i object r stands low fixed. refl) (λ r. refl) d keeps advances

  module _ (i v : ℕ) where
    pub fixed_apart : ((o n : ℕ) (object : Object) (r : Region) → IsLiveObject x.s.plain.memory.heap x.s.owners x.s.regions o object r
        → n < table_words T.sizes.page_words object → IsFixed object n → word_at (layout T) (I x).places o n ≢ i)
        → FixedStay (slice_set x.words i v)
    fixed_apart apart o n object r stands low fixed =
        get_or-set_other x.words i (word_at (layout T) (I x).places o n) v 0 (apart o n object r stands low fixed)

    pub claims_apart : ((p : ℕ) → p < T.sizes.pages → i ≢ state_at (layout T) p) → ClaimsStay (slice_set x.words i v)
    claims_apart apart = still_claimed.beside (layout T) x.words i v apart

    -- a word before the cells
    pub fixed_low : i < base (layout T) → FixedStay (slice_set x.words i v)
    fixed_low low = fixed_apart (λ o n object r stands l fixed e. omega (arith, e, low))

    -- a word that is not a page's state
    pub links_low : i < 32 → (d : Record) → Keeps c d → Advances T.code c d → Links T.code (layout T) (slice_set x.words i v) (slice_set x.recs g d)
    links_low low d keeps advances =
        links_with (slice_set x.words i v) (fixed_low (omega (arith, low))) (claims_apart (λ p l e. omega (arith, low, e))) d keeps advances

    pub links_between : 32 + T.sizes.pages ≤ i → i < base (layout T) → (d : Record) → Keeps c d → Advances T.code c d
        → Links T.code (layout T) (slice_set x.words i v) (slice_set x.recs g d)
    links_between high low d keeps advances =
        links_with (slice_set x.words i v) (fixed_low low) (claims_apart (λ p l e. omega (arith, high, l, e))) d keeps advances

    pub claims_high : base (layout T) ≤ i → ClaimsStay (slice_set x.words i v)
    claims_high high = claims_apart (λ p l e. omega (arith, high, l, e))

  -- by the image of memory of the same state
  pub fixed_shown : (words : List ℕ) (recs : List MemoryRec) → StateImage (layout T) words recs x.s (I x).places → FixedStay words
  fixed_shown words recs M o i object r stands low (Length elements is first) =
      let e : word_at (layout T) (I x).places o i ≡ word_at (layout T) (I x).places o 0 = ap (word_at (layout T) (I x).places o) first in
      let s : IsLiveObject x.s.plain.memory.heap x.s.owners x.s.regions o (SliceObject elements) r =
      subst (λ y. IsLiveObject x.s.plain.memory.heap x.s.owners x.s.regions o y r) is stands in
      ap (slice_index words) e
      ∙ (loads (layout T) words recs (ground_of x.s) (I x).places M o 0 (SliceObject elements) r (value.Int (pos (length elements))) s refl
      ∙ sym (loads (layout T) x.words (map memory_of x.recs) (ground_of x.s) (I x).places (I x).memory o 0 (SliceObject elements) r
      (value.Int (pos (length elements))) s refl)
      ∙ ap (slice_index x.words) (sym e))
  fixed_shown words recs M o i object r stands low (Number high) =
      let j = i - words_of object in
      let e : i ≡ words_of object + j = omega (arith, high) in
      let l : j < data_pages T.sizes.page_words object = omega (arith, high, low) in
      ap (λ n. slice_index words (word_at (layout T) (I x).places o n)) e
      ∙ (same_numbers (layout T) (ground_of x.s) (I x).places o object r stands j l words x.words recs (map memory_of x.recs) M (I x).memory
      ∙ ap (λ n. slice_index x.words (word_at (layout T) (I x).places o n)) (sym e))

  -- a word of an object that is written, but not the first of a slice
  module _ (p n : ℕ) (object : Object) (q : Region) (stands : IsLiveObject x.s.plain.memory.heap x.s.owners x.s.regions p object q)
      (low : n < words_of object) (its : (cells : List Value) → object ≡ SliceObject cells → 0 ≢ n) where
    pub fixed_in : (v : ℕ) → FixedStay (slice_set x.words (word_at (layout T) (I x).places p n) v)
    fixed_in v = fixed_apart (word_at (layout T) (I x).places p n) v (λ o i at r there inside fixed.
        (differ (layout T) x.words (map memory_of x.recs) (ground_of x.s) (I x).places (I x).memory).0 o p i n at object r q there stands
        inside (in_table T.sizes.page_words object n low)
        (λ e z. not_fixed at (same_Some object at
        (sym stands.there ∙ (ap (slice_get x.s.plain.memory.heap) (sym e) ∙ there.there))) i z fixed))
      where
        not_fixed : (at : Object) → object ≡ at → (i : ℕ) → i ≡ n → IsFixed at i → ⊥
        not_fixed at same i z (Length cells is first) = its cells (same ∙ is) (sym first ∙ z)
        not_fixed at same i z (Number high) = let l = ap words_of same in omega (arith, low, high, z, l)

-- a word of a channel, which memory shows as before
pub links_beside : {T : Setup} {g : ℕ} {c : Record} (x : Situation T g c) (i v : ℕ) (recs : List MemoryRec)
    → StateImage (layout T) (slice_set x.words i v) recs x.s (I x).places → base (layout T) ≤ i
    → (d : Record) → Keeps c d → Advances T.code c d → Links T.code (layout T) (slice_set x.words i v) (slice_set x.recs g d)
links_beside x i v recs M high = links_with x (slice_set x.words i v) (fixed_shown x (slice_set x.words i v) recs M) (claims_high x i v high)

-- ---- a record that is before another instruction

act_is : (to to' : Option ℕ) (act act' : Action) (from from' removes removes' : List ℕ) → Do to act from removes ≡ Do to' act' from' removes'
    → act ≡ act'
act_is to to' act act' from from' removes removes' e = cc e

module _ (code : Code) (c : Record) (w : WordFrame) (ws : List WordFrame) (frames : c.frame.frames ≡ w ∷ ws) (instr : CodeInstr)
    (cur : current code (bare w) ≡ Some instr) (to : Option ℕ) (from removes : List ℕ) (is : instr.op ≡ Do to action.Send from removes) where
  instr_is : {op : CodeOp} (a : IsAtOp code c op) → a.instr ≡ instr
  instr_is a =
      let f : a.w ≡ w = head_is a.w w a.ws ws (sym a.frames ∙ frames) in
      same_Some a.instr instr (sym a.cur ∙ (ap (λ (y : WordFrame). current code (bare y)) f ∙ cur))

  pub at_send : IsNowhere code c
  at_send to' act from' removes' a =
      ap is_on_cell (act_is to' to act action.Send from' from removes' removes
      (sym a.is ∙ (ap (λ (y : CodeInstr). y.op) (instr_is a) ∙ is)))

  -- it makes no object
  pub sends_none : (z : TableSizes) (words : List ℕ) → Link code z words c → c.memory.reserved.pages ≡ []
  sends_none z words link = none_in c.memory.reserved.pages (λ some.
      let m = link.reserved some in
      some_none m.by_slot (sym m.making
      ∙ ap (making_region (code_function code m.a.w.function) (top_names c.frame.holder.environments))
      (ap (λ (y : CodeInstr). y.op) (instr_is m.a) ∙ is)))
    where
      some_none : (r : Region) → Some r ≡ None → ⊥
      some_none r e = cc e

-- ---- a goroutine more

pub links_more : (code : Code) (z : TableSizes) (words : List ℕ) (recs : List Record) (child : Record) → Links code z words recs
    → child.clock.owed ≡ 0 → child.memory ≡ first_record → Links code z words (recs ++ child ∷ [])
links_more code z words recs child links owed memory j e is = ⊎_elim
    (λ (t : slice_get recs j ≡ Some e). links j e t)
    (λ (t : (j ≡ length recs) × (e ≡ child)). subst (Link code z words) (sym t.1) (record {
      owed = owed ∙ ap (λ (m : MemoryRec). left_to_free z words m.give) (sym memory);
      knows = λ m read. let w : None ≡ Some m = ap (λ (m : MemoryRec). m.measured) (sym memory) ∙ read in absurd (none_some m w);
      finds = λ l read. let w : None ≡ Some l = ap (λ (m : MemoryRec). m.located) (sym memory) ∙ read in absurd (none_located l w);
      reserved = λ some. absurd (some_of_none child.memory.reserved.pages (ap (λ (m : MemoryRec). m.reserved.pages) memory) some);
    }))
    (get_snoc recs child j e is)
  where
    none_some : (m : Measured) → None ≡ Some m → ⊥
    none_some m w = cc w

    none_located : (l : Located) → None ≡ Some l → ⊥
    none_located l w = cc w
