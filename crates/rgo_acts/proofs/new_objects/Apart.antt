-- The words of a new spread object and the numbers of its data pages are stored one after the other. By induction over the stores; the hard
-- part is where each goes, since three kinds of words share one count.
use Rattle.std.proofs.Common.{◌≡◌, ◌⊎◌, ◌+◌, ◌-◌, ◌*◌, ◌/◌, ◌%◌, ◌<◌, ◌≤◌, ◌^◌, ◌∙◌, inl, inr, ℕ, Bool, suc, List, ap, sym, subst, refl, arith, if◌then◌else◌, length, nat_lt, slice_index}
use Rattle.std.proofs.Math.Nat.{div-mul-le_self, lt-div-mul-add, mod-lt, mul-le-mul_right}
use Rattle.std.proofs.lemmas.Nat.{le-div}
use Rattle.std.proofs.lemmas.Bool.{cases_lt}
use Rattle.rgo_core.specs.Rule.Views.{Me, number_of}
use Rattle.rgo_core.specs.Rule.declared.accesses.Kind.{Kind}
use Rattle.rgo_core.specs.Channels.Records.{at_rest}
use Rattle.rgo_core.specs.Memory.Encoding.{Spot}
use Rattle.rgo_core.specs.Memory.Spread.{table_words}
use Rattle.atomic_table.specs.Seated.{TableId}
use Rattle.rgo_core.specs.Memory.Words.{all_words, cell_at}
use Rattle.rgo_core.specs.Memory.declared.layout.TableSizes.{TableSizes}
use Rattle.rgo_core.specs.Core.{Setup, layout}
use Rattle.rgo_core.specs.runs.Opening.{first_of}
use Rattle.rgo_core.specs.Records.{Record, accesses}
use Rattle.rgo_core_facts.specs.MemoryObjects.{StoresNextApart, data_pages_of, first_held as first_value, spot_of, storing_apart, with_new_object_apart}
use Rattle.rgo_core_facts.proofs.DataPages.{less, not_less}
use Rattle.rgo_core_facts.proofs.NewWords.{pages_are}
use Rattle.rgo_core_facts.proofs.StoringApart.{stores_none_apart, stores_words_apart}
use Rattle.rgo_core_steps.specs.Grown.{SeatGrew}
use Rattle.rgo_core_steps.specs.Layouts.{HasLayout}
use Rattle.rgo_core_steps.specs.Making.{IsIndex, IsNewWordApart, filling_apart}
use Rattle.rgo_core_steps.specs.Seats.{Settles, Stored, mine, settled}
use Rattle.rgo_core_steps.proofs.accesses.Growing.{told_accesses, told_grew, told_record}
use Rattle.rgo_core_steps.proofs.record_steps.Settling.{settled_counts}
use Rattle.rgo_sound.specs.Memory.Memory.{Object}
use Rattle.rgo_acts.specs.Objects.{IsSpreadOverPages, opens}
use Rattle.rgo_acts.specs.declared.objects.New.{New}
use Rattle.rgo_acts.proofs.new_objects.Kinds.{some_apart}
use Rattle.rgo_acts.proofs.new_objects.Stores.{cell_low}

-- ---- where they go

-- a word before the cells, a cell, and a page number
module _ (n words lead : ℕ) (pages : List ℕ) (i : ℕ) where
  lead_word : Spot
  lead_word = record { page = slice_index pages 0; offset = i }

  cell_word : Spot
  cell_word = record { page = slice_index pages ((i - lead) / n + 1); offset = (i - lead) % n }

  number_word : Spot
  number_word = record { page = slice_index pages 0; offset = lead + (i - words) }

  pub spot_before : i < lead → spot_of n words lead pages i ≡ record { page = slice_index pages 0; offset = i }
  unfolding lead_word cell_word number_word
  spot_before low =
      ap (λ (b : Bool). if b then lead_word else (if nat_lt i words then cell_word else number_word)) (less i lead low)

  pub spot_cell : lead ≤ i → i < words
      → spot_of n words lead pages i ≡ record { page = slice_index pages ((i - lead) / n + 1); offset = (i - lead) % n }
  unfolding lead_word cell_word number_word
  spot_cell high low =
      ap (λ (b : Bool). if b then lead_word else (if nat_lt i words then cell_word else number_word)) (not_less i lead high)
      ∙ ap (λ (b : Bool). if b then cell_word else number_word) (less i words low)

  pub spot_number : lead ≤ i → words ≤ i
      → spot_of n words lead pages i ≡ record { page = slice_index pages 0; offset = lead + (i - words) }
  unfolding lead_word cell_word number_word
  spot_number high beyond =
      ap (λ (b : Bool). if b then lead_word else (if nat_lt i words then cell_word else number_word)) (not_less i lead high)
      ∙ ap (λ (b : Bool). if b then cell_word else number_word) (not_less i words beyond)

pub value_of_word : (words : ℕ) (first : ℕ → ℕ) (pages : List ℕ) (i : ℕ) → i < words → first_value words first pages i ≡ first i
value_of_word words first pages i low =
    ap (λ (b : Bool). if b then first i else suc (slice_index pages (i - words + 1))) (less i words low)

pub value_of_number : (words : ℕ) (first : ℕ → ℕ) (pages : List ℕ) (i : ℕ) → words ≤ i
    → first_value words first pages i ≡ suc (slice_index pages (i - words + 1))
value_of_number words first pages i beyond =
    ap (λ (b : Bool). if b then first i else suc (slice_index pages (i - words + 1))) (not_less i words beyond)

-- ---- they are words of the pages

module _ (T : Setup) (c : Record) (pages : List ℕ) (new : New) (p : IsSpreadOverPages T c pages new) where
  abbrev n : ℕ
  n = T.sizes.page_words

  abbrev numbers : ℕ
  numbers = data_pages_of n new.words new.before

  abbrev total : ℕ
  total = new.words + numbers

  pub numbers_are : numbers ≡ (new.words - new.before - 1) / n + 1
  numbers_are = some_apart n new.words new.before p.spread

  -- a page has room for the words before the cells and for the numbers, since an object may not have more data pages than fit there
  pub room_for_numbers : new.before + numbers ≤ n
  room_for_numbers = let e = numbers_are in let small = p.small in let few = p.few in omega (arith, e, small, few)

  pub words_in_page : 0 < n
  words_in_page = let e = numbers_are in let room = room_for_numbers in omega (arith, e, room)

  -- that number of words can be counted
  pub few_words : new.words ≤ 64 * n + 2
  few_words =
      let e = numbers_are in
      let small = p.small in
      let few = p.few in
      let pages : (new.words - new.before - 1) / n + 1 ≤ 64 = omega (arith, e, small) in
      let most = mul-le-mul_right n pages in
      let rest = lt-div-mul-add {a = new.words - new.before - 1} {b = n} words_in_page in
      omega (arith, few, most, rest)

  pub words_fit : all_words (layout T) ≤ 2 ^ 32 → total < 2 ^ 40
  words_fit fits =
      let low = p.low 0 (let all = p.all in omega (arith, all)) in
      let some : 1 ≤ T.sizes.pages = omega (arith, low) in
      let words = mul-le-mul_right n some in
      let few = few_words in
      let small = p.small in
      omega (arith, fits, words, few, small)

  pub cell_page : (i : ℕ) → i < new.words → (i - new.before) / n + 1 < length pages
  cell_page i low =
      let e = numbers_are in
      let all = p.all in
      let part = div-mul-le_self (i - new.before) n in
      let most = le-div ((i - new.before) / n) (new.words - new.before - 1) n words_in_page (omega (arith, part, low)) in
      omega (arith, e, all, most)

  -- the spot is in one of these pages
  pub spot_low : (i : ℕ) → i < total → ((spot_of n new.words new.before pages i).page < T.sizes.pages)
      × ((spot_of n new.words new.before pages i).offset < n)
  spot_low i low = by (cases_lt i new.before) (cases_lt i new.words)
    where
      there : (s : Spot) → s.page < T.sizes.pages → s.offset < n → spot_of n new.words new.before pages i ≡ s
          → ((spot_of n new.words new.before pages i).page < T.sizes.pages) × ((spot_of n new.words new.before pages i).offset < n)
      there s page offset e =
          subst (λ (k : Spot). (k.page < T.sizes.pages) × (k.offset < n)) (sym e) (page, offset)

      lead_low : slice_index pages 0 < T.sizes.pages
      lead_low = p.low 0 (let all = p.all in omega (arith, all))

      by : (i < new.before) ⊎ (new.before ≤ i) → (i < new.words) ⊎ (new.words ≤ i)
          → ((spot_of n new.words new.before pages i).page < T.sizes.pages) × ((spot_of n new.words new.before pages i).offset < n)
      by (inl first) cell =
          there (record { page = slice_index pages 0; offset = i }) lead_low
          (let room = room_for_numbers in omega (arith, room, first)) (spot_before n new.words new.before pages i first)
      by (inr high) (inl cell) =
          there (record { page = slice_index pages ((i - new.before) / n + 1); offset = (i - new.before) % n })
          (p.low ((i - new.before) / n + 1) (cell_page i cell)) (mod-lt (i - new.before) words_in_page)
          (spot_cell n new.words new.before pages i high cell)
      by (inr high) (inr beyond) =
          there (record { page = slice_index pages 0; offset = new.before + (i - new.words) }) lead_low
          (let room = room_for_numbers in omega (arith, room, beyond, low)) (spot_number n new.words new.before pages i high beyond)

-- ---- by the sizes of the table

-- where word i goes
abbrev pub word_at : Setup → (words lead : ℕ) (pages : List ℕ) (i : ℕ) → ℕ
word_at T words lead pages i = cell_at (layout T) (spot_of T.sizes.page_words words lead pages i).page
    (spot_of T.sizes.page_words words lead pages i).offset

module _ (T : Setup) (z : TableSizes) (table : TableId) (h : HasLayout T z table) (words lead : ℕ) (pages : List ℕ) (i page offset word : ℕ)
    (in_page : page ≡ (spot_of z.page_words words lead pages i).page) (at_offset : offset ≡ (spot_of z.page_words words lead pages i).offset)
    (is : word ≡ cell_at z page offset) where
  pub word_is : word ≡ word_at T words lead pages i
  word_is =
      is ∙ ap (λ k. cell_at z k offset) in_page ∙ ap (λ k. cell_at z (spot_of z.page_words words lead pages i).page k) at_offset
      ∙ ap (λ (y : TableSizes). cell_at y (spot_of y.page_words words lead pages i).page (spot_of y.page_words words lead pages i).offset) h.sizes

  pub word_inside : ((spot_of T.sizes.page_words words lead pages i).page < T.sizes.pages)
      × ((spot_of T.sizes.page_words words lead pages i).offset < T.sizes.page_words) → word < table.words
  word_inside low =
      subst (λ k. word < k) (sym (h.words ∙ ap all_words h.sizes)) (subst (λ k. k < all_words (layout T)) (sym word_is)
      (cell_low T (spot_of T.sizes.page_words words lead pages i).page (spot_of T.sizes.page_words words lead pages i).offset low.0 low.1))

-- ---- record d is what c is after the first i of them were stored
pub record IsSoFarApart (T : Setup) (c : Record) (object : Object) (total i : ℕ) (d : Record) : Type 0 where
  pub fewer : i < total → d ≡ storing_apart c object i
  pub all : i ≡ total → d ≡ with_new_object_apart T c object

module _ (T : Setup) (c : Record) (pages : List ℕ) (new : New) (p : IsSpreadOverPages T c pages new) where
  abbrev count : ℕ
  count = new.words + data_pages_of T.sizes.page_words new.words new.before

  abbrev object : Object
  object = p.object.object

  -- before the first one
  pub none_apart : IsSoFarApart T c object count 0 c
  none_apart = record {
    fewer = λ more. sym (stores_none_apart c object p.make);
    all = λ none. let spread = p.spread in absurd (omega (arith, none, spread));
  }

  many : table_words T.sizes.page_words object ≡ count
  many =
      let words = p.object.many in
      let pages_so = pages_are T c p.slot new.words new.before (opens new.place new.value) p.object in
      omega (arith, words, pages_so)

  module _ (i : ℕ) (low : i < count) where
    abbrev at : List ℕ → ℕ
    at ps = cell_at (layout T) (spot_of T.sizes.page_words new.words new.before ps i).page
        (spot_of T.sizes.page_words new.words new.before ps i).offset

    abbrev holds : List ℕ → ℕ
    holds ps = first_value new.words (opens new.place new.value) ps i

    next : StoresNextApart T c object i (at pages) (holds pages)
    next =
        subst (λ (ps : List ℕ). StoresNextApart T c object i (at ps) (holds ps)) p.reserved
        (stores_words_apart T c p.slot new.words new.before (opens new.place new.value) p.object p.spread p.small
        (ap length p.reserved ∙ p.all) i low)

    module _ (q : ℕ) (m : Me Record) (settles : Settles T q m) (so_far : IsSoFarApart T c object count i (settled T q m)) where
      is : settled T q m ≡ storing_apart c object i
      is = so_far.fewer low

      -- what the access asks
      pub new_word : (w : IsNewWordApart T (settled T q m) i (at pages) (holds pages)) × (new.words ≤ i → IsIndex w)
      new_word =
          subst (λ (d : Record). (w : IsNewWordApart T d i (at pages) (holds pages)) × (new.words ≤ i → IsIndex w)) (sym is)
          (next.new, λ beyond. next.index (let words = p.object.many in omega (arith, words, beyond)))

      pub still_rests : (settled T q m).side ≡ at_rest
      still_rests = ap (λ (d : Record). d.side) is ∙ p.rests

      module _ (kind : Kind) (word value : ℕ) (w : Me Record) (l : Stored T kind word value (filling_apart T (settled T q m) i) m w) where
        after : mine T w ≡ filling_apart T (storing_apart c object i) i
        after =
            told_record accesses (first_of T.code) m w kind word l.0 (λ found. value) (λ found e. e ≡ filling_apart T (settled T q m) i) l.1
            ∙ ap (λ (d : Record). filling_apart T d i) is

        -- one more
        pub one_so_far : IsSoFarApart T c object count (i + 1) (mine T w)
        one_so_far =
            let e = many in
            let more : suc i ≡ i + 1 = omega arith in
            record {
              fewer = λ fewer. after ∙ next.more (omega (arith, fewer, e)) ∙ ap (storing_apart c object) more;
              all = λ all. after ∙ next.last (omega (arith, all, e));
            }

        counted : (d : Record) → mine T w ≡ d → accesses d ≡ accesses c + (i + 1) → accesses (mine T w) ≡ suc (accesses (mine T m))
        counted d e many_so =
            let before = ap accesses is in
            let same = settled_counts T (number_of m) q (mine T m) settles in
            let after = ap accesses e in
            omega (arith, before, same, after, many_so)

        one_count : accesses (mine T w) ≡ suc (accesses (mine T m))
        one_count = by (cases_lt (i + 1) count)
          where
            by : (i + 1 < count) ⊎ (count ≤ i + 1) → accesses (mine T w) ≡ suc (accesses (mine T m))
            by (inl fewer) = counted (storing_apart c object (i + 1)) (one_so_far.fewer fewer) refl
            by (inr last) =
                let e = many in
                let end : i + 1 ≡ count = omega (arith, low, last) in
                let same : table_words T.sizes.page_words object ≡ i + 1 = omega (arith, e, end) in
                counted (with_new_object_apart T c object) (one_so_far.all end) (ap (λ k. accesses c + k) same)

        pub one_grew : SeatGrew accesses (first_of T.code) m (told_accesses accesses (first_of T.code) m w kind word l.0 (λ found. value) (λ found e. e ≡ filling_apart T (settled T q m) i) l.1) w
        one_grew =
            told_grew accesses (first_of T.code) m w kind word l.0 (λ found. value) (λ found e. e ≡ filling_apart T (settled T q m) i) l.1 one_count
