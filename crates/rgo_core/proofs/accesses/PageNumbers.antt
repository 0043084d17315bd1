-- Two images of one layout have the same page numbers: cells are at the same positions, and those of a page determine its number.
use Rattle.std.proofs.Common.{◌≡◌, ℕ, suc, ◌+◌, ◌-◌, ◌*◌, ◌/◌, ◌<◌, ◌≤◌, nat_lt, true, List, slice_index, ap, sym, ◌∙◌, arith, mul-le-mul_right}
use Rattle.std.proofs.Math.Nat.{div-mul-le_self}
use Rattle.std.proofs.lemmas.Bool.Decides.{nat_tests}
use Rattle.std.proofs.lemmas.Nat.{div-mul-add}
use Rattle.rgo_sound.specs.Memory.Memory.{Channel, Object, SliceObject, StructObject}
use Rattle.rgo_sound.specs.RegionMachine.Objects.{cells as cells_in, data_pages, is_spread, object_words as words_of}
use Rattle.rgo_sound.specs.RegionMachine.declared.regions.Region.{Region}
use Rattle.rgo_sound.proofs.Tests.{split}
use Rattle.rgo_core_memory.specs.Encoding.{Spot}
use Rattle.rgo_core_memory.specs.Ground.{Ground, IsLiveObject}
use Rattle.rgo_core_memory.specs.Image.{MemoryImage, Where, word_at}
use Rattle.rgo_core_memory.specs.Parts.{SpreadOver}
use Rattle.rgo_core_memory.specs.Records.{Rec}
use Rattle.rgo_core_memory.specs.Spread.{words_before}
use Rattle.rgo_core_memory.specs.declared.layout.TableSizes.{TableSizes}
use Rattle.rgo_core_memory.proofs.objects.Spreads.{cell_in_table, cells_spot, spread_data, whole_data}

module _ (z : TableSizes) (x : Ground) (places : Where) (o : ℕ) (object : Object) (r : Region)
    (stands : IsLiveObject x.heap x.owners x.regions o object r) (j : ℕ) (low : j < data_pages z.page_words object) where
  module _ (sp : is_spread z.page_words object ≡ true) (some : 0 < cells_in object) (words : List ℕ) (recs : List Rec)
      (M : MemoryImage z words recs x places) where
    -- the first cell of its data page
    abbrev i : ℕ
    i = j * z.page_words + 0

    inside : i < cells_in object
    inside =
        let d = spread_data z.page_words object sp in
        let q = (cells_in object - 1) / z.page_words in
        let a : j * z.page_words ≤ q * z.page_words = mul-le-mul_right z.page_words (omega (arith, d, low)) in
        let b = div-mul-le_self (cells_in object - 1) z.page_words in
        omega (arith, a, b, some)

    some_page : 0 < z.page_words
    some_page =
        let t = (M.lies.inside o (words_before object + i) object r stands (cell_in_table z.page_words object i inside)).1 in
        omega (arith, t)

    pub pages : (pages : List ℕ) × SpreadOver z M.w.cell (places.spot o) (places.start o) object pages
    pages = M.lies.spread o object r stands sp

    pub page_is : (places.spot o (words_before object + i)).page ≡ slice_index pages.0 (suc j)
    page_is =
        ap Spot.page ((pages.1).laid (words_before object + i) (cell_in_table z.page_words object i inside)
        ∙ cells_spot z.page_words object pages.0 i inside)
        ∙ ap (λ n. slice_index pages.0 (n + 1)) (div-mul-add j z.page_words 0 some_page)
        ∙ ap (slice_index pages.0) (one_more j)
      where
        one_more : (n : ℕ) → n + 1 ≡ suc n
        one_more n = omega arith

    -- the word that has the number
    pub number_is : slice_index words (word_at z places o (words_of object + j)) ≡ suc (places.spot o (words_before object + i)).page
    number_is =
        let t = M.lies.inside o (words_of object + j) object r stands (omega (arith, low)) in
        M.shows.cell (places.spot o (words_of object + j)).page (places.spot o (words_of object + j)).offset t.0 t.1
        ∙ (pages.1).numbers j low ∙ ap (λ n. suc n) (sym page_is)

  pub same_numbers : (words others : List ℕ) (recs recs' : List Rec) → MemoryImage z words recs x places → MemoryImage z others recs' x places
      → slice_index words (word_at z places o (words_of object + j)) ≡ slice_index others (word_at z places o (words_of object + j))
  same_numbers words others recs recs' M N = split (is_spread z.page_words object)
      (λ sp. let d = has_cells object sp in number_is sp d words recs M ∙ sym (number_is sp d others recs' N))
      (λ whole. let d = whole_data z.page_words object whole in absurd (omega (arith, d, low)))
    where
      more : (n m : ℕ) → nat_lt m n ≡ true → m < n
      more n m e = grind (arith, nat_tests)

      has_cells : (object : Object) → is_spread z.page_words object ≡ true → 0 < cells_in object
      has_cells (StructObject cells) sp =
          let l = more (words_of (StructObject cells)) z.page_words sp in
          let t = (M.lies.inside o (words_of object + j) object r stands (omega (arith, low))).1 in
          omega (arith, l, t)
      has_cells (SliceObject cells) sp =
          let l = more (words_of (SliceObject cells)) z.page_words sp in
          let t = (M.lies.inside o (words_of object + j) object r stands (omega (arith, low))).1 in
          omega (arith, l, t)
      has_cells (Channel capacity queue closed) sp = omega arith
