-- The stores of a new object's words, one by one from the first. After n stores the numbers below n are stored, so the last store is the
-- one that covers all.
use Rattle.std.proofs.Common.{◌≡◌, inl, inr, ℕ, zero, suc, ◌+◌, ◌<◌, ◌≤◌, ◌==◌, Bool, true, false, List, ◌∷◌, Some, if◌then◌else◌, refl, ap, sym, ◌∙◌, arith}
use Rattle.std.proofs.lemmas.Bool.Decides.{nat_tests}
use Rattle.rgo_sound.specs.Code.Code.{Code, CodeOp, Do}
use Rattle.rgo_sound.specs.Memory.Memory.{Object}
use Rattle.rgo_sound.specs.RegionMachine.Objects.{making_region, object_words as words_of}
use Rattle.rgo_sound.specs.RegionMachine.Owed.{code_function}
use Rattle.rgo_sound.specs.RegionMachine.States.{top_names}
use Rattle.rgo_core.specs.Frames.Records.{FramesRec as FrameRec}
use Rattle.rgo_core.specs.Memory.Pages.{occurrences}
use Rattle.rgo_core.specs.Memory.Records.{Amid, Fill, page_of, with_word}
use Rattle.rgo_core.specs.Memory.Words.{cell_at}
use Rattle.rgo_core.proofs.Memory.pages.Chains.{times_else, times_first}
use Rattle.rgo_core.specs.Core.{Setup, layout}
use Rattle.rgo_core.specs.moves.NewObjects.{made_object}
use Rattle.rgo_core.specs.Next.{IsAtOp}
use Rattle.rgo_core.specs.Records.{Record, accessed}
use Rattle.rgo_core_steps.specs.After.{making}
use Rattle.rgo_core_steps.specs.Making.{IsMaking, IsNewWord, RecordMakesNext, covers, filling, stored_in}
use Rattle.rgo_core_steps.proofs.record_steps.After.{making_is}
use Rattle.rgo_core_steps.proofs.making.Objects.{filling_is}
use Rattle.rgo_core_facts.specs.MemoryObjects.{AtStays, NewObject, NewStays, StoresNext, StoresNone, StoresWords, making_after, numbers_below, storing, with_new_object}

-- ---- which words are stored

none_above : (i n : ℕ) → n ≤ i → occurrences i (numbers_below n) ≡ 0
none_above i zero low = refl
none_above i (suc n) low =
    let more = none_above i n (omega (arith, low)) in
    let other = times_else i n (numbers_below n) (λ e. omega (arith, e, low)) in
    omega (arith, more, other)

some_below : (i n : ℕ) → i < n → 0 < occurrences i (numbers_below n)
some_below i zero low = absurd (omega (arith, low))
some_below i (suc n) low = by (n == i) refl (some_below i n)
  where
    by : (b : Bool) → (n == i) ≡ b → (i < n → 0 < occurrences i (numbers_below n)) → 0 < occurrences i (numbers_below (suc n))
    by true is rest = let e : n ≡ i = grind (arith, nat_tests, is) in let w = times_first i n (numbers_below n) e in omega (arith, w)
    by false is rest =
        let ne : n ≡ i → ⊥ = λ e. grind (arith, nat_tests, is, e) in
        let less : i < n = grind (arith, nat_tests, is, low) in
        let w = times_else i n (numbers_below n) ne in
        let r = rest less in
        omega (arith, w, r)

pub covered : (m n : ℕ) → m ≤ n → covers m (numbers_below n) ≡ true
covered zero n low = refl
covered (suc m) n low = by (occurrences m (numbers_below n) == 0) refl (covered m n (omega (arith, low)))
  where
    by : (b : Bool) → (occurrences m (numbers_below n) == 0) ≡ b → covers m (numbers_below n) ≡ true
        → (if b then false else covers m (numbers_below n)) ≡ true
    by true is rest = let some = some_below m n (omega (arith, low)) in absurd (grind (arith, nat_tests, is, some))
    by false is rest = rest

pub uncovered : (m n : ℕ) → n < m → covers m (numbers_below n) ≡ false
uncovered zero n low = absurd (omega (arith, low))
uncovered (suc m) n low =
    let none = none_above m n (omega (arith, low)) in
    let is : (occurrences m (numbers_below n) == 0) ≡ true = grind (arith, nat_tests, none) in
    ap (λ (b : Bool). if b then false else covers m (numbers_below n)) is

stored_so : (f : Fill) (object : Object) (n : ℕ) → stored_in (making_after f object n) ≡ numbers_below n
stored_so f object zero = refl
stored_so f object (suc n) = refl

-- ---- records with the same frames

abbrev stays : (code : Code) (c d : Record) (op : CodeOp) → d.frame ≡ c.frame → IsAtOp code c op → IsAtOp code d op
stays code c d op same a = record {
  w = a.w;
  ws = a.ws;
  frames = ap (λ (f : FrameRec). f.frames) same ∙ a.frames;
  fn = a.fn;
  in_fn = a.in_fn;
  instr = a.instr;
  cur = a.cur;
  is = a.is;
  none = ap (λ (f : FrameRec). f.holder.duties) same ∙ a.none;
  free = ap (λ (f : FrameRec). f.holder.offer) same ∙ a.free;
}

pub at_stays : AtStays
at_stays = stays

abbrev pub next_stays : (T : Setup) (c d : Record) (object : Object) (slot : ℕ) → d.frame ≡ c.frame → RecordMakesNext T c object slot → RecordMakesNext T d object slot
next_stays T c d object slot same next = record {
  to = next.to;
  act = next.act;
  from = next.from;
  removes = next.removes;
  here = stays T.code c d (Do next.to next.act next.from next.removes) same next.here;
  makes = next.makes;
  region = next.region;
  in_region =
      ap (λ (f : FrameRec). making_region (code_function T.code next.here.w.function) (top_names f.holder.environments) next.here.instr.op) same
      ∙ next.in_region;
  in_slot = next.in_slot;
}

pub new_stays : NewStays
new_stays T c d slot words before first same new = record {
  object = new.object;
  next = next_stays T c d new.object slot same new.next;
  many = new.many;
  split = new.split;
  opens = new.opens;
}

-- ---- the store of one of them

making_so : (page_words : ℕ) (c : Record) (f : Fill) (object : Object) (n : ℕ) → f.fill + words_of object ≤ page_words
    → IsMaking page_words (storing c f object n).memory f object
making_so page_words c f object zero fits = inl (refl, fits)
making_so page_words c f object (suc n) fits = inr refl

module _ (T : Setup) (c : Record) (slot words before : ℕ) (first : ℕ → ℕ) (new : NewObject T c slot words before first) (f : Fill)
    (is_page : page_of slot c.memory.fills ≡ Some f) (fits : f.fill + words ≤ T.sizes.page_words) (n : ℕ) (low : n < words) where
  abbrev object : Object
  object = new.object

  abbrev d : Record
  d = storing c f object n

  -- the record is before the same instruction
  abbrev next : RecordMakesNext T d object slot
  next = next_stays T c d object slot refl new.next

  word : IsNewWord T d n (cell_at (layout T) f.page (f.fill + n)) (first n)
  word = let many = new.many in record {
    object = object;
    slot = slot;
    next = next;
    page = f;
    is_page = is_page;
    making = making_so T.sizes.page_words c f object n (omega (arith, fits, many));
    low = omega (arith, low, many);
    at = refl;
    opens = sym (new.opens n low);
  }

  abbrev stores : Record
  stores = record d { clock = accessed d.clock; memory = with_word d.memory f object (n ∷ stored_in d.memory.make) }

  fills : (b : Bool) → covers (words_of object) (numbers_below (suc n)) ≡ b → filling T d n ≡ (if b then making T d f object else stores)
  fills b is =
      filling_is next f is_page n
      ∙ ap (λ (b : Bool). if b then making T d f object else stores)
      (ap (λ (l : List ℕ). covers (words_of object) (n ∷ l)) (stored_so f object n) ∙ is)

  more : suc n < words_of object → filling T d n ≡ storing c f object (suc n)
  more less =
      let count : suc (c.clock.accesses + n) ≡ c.clock.accesses + suc n = omega arith in
      fills false (uncovered (words_of object) (suc n) less)
      ∙ (λ i. record c {
        clock = record c.clock { accesses = count i };
        memory = record c.memory { make = Amid f object (n ∷ stored_so f object n i) };
      })

  last : suc n ≡ words_of object → filling T d n ≡ with_new_object T c f object
  last all =
      let count : suc (c.clock.accesses + n) ≡ c.clock.accesses + words_of object = omega (arith, all) in
      let made = made_object T c new.next.here new.next.to f object in
      fills true (covered (words_of object) (suc n) (omega (arith, all)))
      ∙ (making_is T next.here f object
      ∙ ((λ i. record made { clock = record made.clock { accesses = count i } })
      ∙ ap (λ (e : Record). record e { clock = record e.clock { accesses = c.clock.accesses + words_of object } })
      (sym (making_is T new.next.here f object))))

  pub stores_next : StoresNext T c f object n (first n)
  stores_next = record { word = word; more = more; last = last }

pub stores_words : StoresWords
stores_words T c slot words before first new f is_page fits n low = stores_next T c slot words before first new f is_page fits n low

pub stores_none : StoresNone
stores_none c f object rests =
    let count : c.clock.accesses + 0 ≡ c.clock.accesses = omega arith in
    λ i. record c { clock = record c.clock { accesses = count i }; memory = record c.memory { make = sym rests i } }
