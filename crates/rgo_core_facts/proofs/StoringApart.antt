-- The stores of a new spread object's words, one by one from the first, and then of the numbers of its data pages. As in `Storing`; where
-- word n goes is the definition of the layout, by three cases.
use Rattle.std.proofs.Common.{◌≡◌, ◌⊎◌, inl, inr, ℕ, zero, suc, ◌+◌, ◌-◌, ◌/◌, ◌<◌, ◌≤◌, Bool, true, false, List, ◌∷◌, length, if◌then◌else◌, nat_lt, slice_index, refl, ap, sym, ◌∙◌, arith}
use Rattle.std.proofs.lemmas.Bool.Decides.{nat_tests}
use Rattle.rgo_sound.specs.Memory.Memory.{Object}
use Rattle.rgo_sound.specs.RegionMachine.Objects.{cells, data_pages, most_data_pages, object_words as words_of}
use Rattle.rgo_core.specs.Memory.Encoding.{Spot, content, opening_word}
use Rattle.rgo_core.specs.Memory.Records.{Across, Rest, with_word_apart}
use Rattle.rgo_core.specs.Memory.Spread.{spread_opening, spread_spot, table_words, words_before}
use Rattle.rgo_core.specs.Memory.Words.{cell_at}
use Rattle.rgo_core.specs.Core.{Setup, layout}
use Rattle.rgo_core.specs.moves.NewObjects.{record_made_apart}
use Rattle.rgo_core.specs.Records.{Record, accessed}
use Rattle.rgo_core_steps.specs.After.{making_apart}
use Rattle.rgo_core_steps.specs.Making.{IsNewWordApart, RecordMakesNext, covers, filling_apart, stored_in}
use Rattle.rgo_core_steps.proofs.record_steps.After.{making_apart_is}
use Rattle.rgo_core_steps.proofs.making.Objects.{filling_apart_is}
use Rattle.rgo_core_facts.specs.MemoryObjects.{NewObject, StoresNextApart, StoresNoneApart, StoresWordsApart, data_pages_of, first_held, making_after_apart, numbers_below, spot_of, storing_apart, with_new_object_apart}
use Rattle.rgo_core_facts.proofs.DataPages.{less, not_less, pages_so}
use Rattle.rgo_core_facts.proofs.Storing.{covered, next_stays, uncovered}

stored_so : (object : Object) (n : ℕ) → stored_in (making_after_apart object n) ≡ numbers_below n
stored_so object zero = refl
stored_so object (suc n) = refl

-- ---- where a word goes, and what it first holds

module _ (page_words : ℕ) (object : Object) (words before : ℕ) (first : ℕ → ℕ) (pages : List ℕ) (many : words_of object ≡ words)
    (parts : 1 < words → cells object + before ≡ words) (some : 1 < words)
    (opens : (i : ℕ) → i < words → opening_word (content object i) ≡ first i) (n : ℕ) where
  before_is : words_before object ≡ before
  before_is = let e = parts some in omega (arith, e, many)

  spot_is : spot_of page_words words before pages n ≡ spread_spot page_words object pages n
  spot_is =
      ap (λ (w : ℕ). spot_of page_words w before pages n) (sym many)
      ∙ ap (λ (b : ℕ). spot_of page_words (words_of object) b pages n) (sym before_is)

  -- a word of the object, or a page number
  value_in : (b : Bool) → nat_lt n words ≡ b
      → (if b then first n else suc (slice_index pages (n - words + 1)))
      ≡ (if b then opening_word (content object n) else suc (slice_index pages (n - words + 1)))
  value_in true is = sym (opens n (grind (arith, nat_tests, is)))
  value_in false is = refl

  value_is : first_held words first pages n ≡ spread_opening object pages n
  value_is =
      value_in (nat_lt n words) refl
      ∙ ap (λ (w : ℕ). if nat_lt n w then opening_word (content object n) else suc (slice_index pages (n - w + 1))) (sym many)

-- ---- the store of one of them

making_so : (c : Record) (object : Object) (n : ℕ)
    → ((storing_apart c object n).memory.make ≡ Rest)
    ⊎ ((storing_apart c object n).memory.make ≡ Across object (stored_in (storing_apart c object n).memory.make))
making_so c object zero = inl refl
making_so c object (suc n) = inr refl

module _ (T : Setup) (c : Record) (slot words before : ℕ) (first : ℕ → ℕ) (new : NewObject T c slot words before first)
    (large : T.sizes.page_words < words) (few : data_pages_of T.sizes.page_words words before ≤ most_data_pages T.sizes.page_words)
    (all : length c.memory.reserved.pages ≡ suc (data_pages_of T.sizes.page_words words before)) (n : ℕ)
    (low : n < words + data_pages_of T.sizes.page_words words before) where
  abbrev object : Object
  object = new.object

  abbrev d : Record
  d = storing_apart c object n

  abbrev pages : List ℕ
  pages = c.memory.reserved.pages

  -- the record is before the same instruction
  abbrev next : RecordMakesNext T d object slot
  next = next_stays T c d object slot refl new.next

  data_are : data_pages T.sizes.page_words object ≡ data_pages_of T.sizes.page_words words before
  data_are = pages_so T.sizes.page_words object words before new.many new.split

  -- an object of one word is never spread
  some : 1 < words
  some =
      let e : data_pages_of T.sizes.page_words words before ≡ (words - before - 1) / T.sizes.page_words + 1 =
      ap (λ (b : Bool). if b then (words - before - 1) / T.sizes.page_words + 1 else 0) (less T.sizes.page_words words large) in
      omega (arith, e, few, large)

  abbrev spot : Spot
  spot = spot_of T.sizes.page_words words before pages n

  word : IsNewWordApart T d n (cell_at (layout T) spot.page spot.offset) (first_held words first pages n)
  word = let m = new.many in record {
    object = object;
    slot = slot;
    next = next;
    spread = ap (nat_lt T.sizes.page_words) new.many ∙ less T.sizes.page_words words large;
    small = ap (nat_lt (most_data_pages T.sizes.page_words)) data_are ∙ not_less (most_data_pages T.sizes.page_words) _ few;
    all = let e = data_are in omega (arith, all, e);
    making = making_so c object n;
    low = let e = data_are in omega (arith, low, m, e);
    at = ap (λ (y : Spot). cell_at (layout T) y.page y.offset)
        (spot_is T.sizes.page_words object words before first pages new.many new.split some new.opens n);
    opens = value_is T.sizes.page_words object words before first pages new.many new.split some new.opens n;
  }

  abbrev stores : Record
  stores = record d { clock = accessed d.clock; memory = with_word_apart d.memory object (n ∷ stored_in d.memory.make) }

  fills : (b : Bool) → covers (table_words T.sizes.page_words object) (numbers_below (suc n)) ≡ b
      → filling_apart T d n ≡ (if b then making_apart T d else stores)
  fills b is =
      filling_apart_is next n
      ∙ ap (λ (b : Bool). if b then making_apart T d else stores)
      (ap (λ (l : List ℕ). covers (table_words T.sizes.page_words object) (n ∷ l)) (stored_so object n) ∙ is)

  more : suc n < table_words T.sizes.page_words object → filling_apart T d n ≡ storing_apart c object (suc n)
  more less =
      let count : suc (c.clock.accesses + n) ≡ c.clock.accesses + suc n = omega arith in
      fills false (uncovered (table_words T.sizes.page_words object) (suc n) less)
      ∙ (λ i. record c {
        clock = record c.clock { accesses = count i };
        memory = record c.memory { make = Across object (n ∷ stored_so object n i) };
      })

  last : suc n ≡ table_words T.sizes.page_words object → filling_apart T d n ≡ with_new_object_apart T c object
  last end =
      let count : suc (c.clock.accesses + n) ≡ c.clock.accesses + table_words T.sizes.page_words object = omega (arith, end) in
      let made = record_made_apart T c new.next.here new.next.to in
      fills true (covered (table_words T.sizes.page_words object) (suc n) (omega (arith, end)))
      ∙ (making_apart_is T next.here
      ∙ ((λ i. record made { clock = record made.clock { accesses = count i } })
      ∙ ap (λ (e : Record). record e { clock = record e.clock { accesses = c.clock.accesses + table_words T.sizes.page_words object } })
      (sym (making_apart_is T new.next.here))))

  pub stores_next : StoresNextApart T c object n (cell_at (layout T) spot.page spot.offset) (first_held words first pages n)
  unfolding word
  stores_next = record { new = word; index = λ low. low; more = more; last = last }

pub stores_words_apart : StoresWordsApart
stores_words_apart T c slot words before first new large few all n low = stores_next T c slot words before first new large few all n low

pub stores_none_apart : StoresNoneApart
stores_none_apart c object rests =
    let count : c.clock.accesses + 0 ≡ c.clock.accesses = omega arith in
    λ i. record c { clock = record c.clock { accesses = count i }; memory = record c.memory { make = sym rests i } }
