-- Addresses of live objects: each object has its own, and its words follow one another from there. Some word of each object is at its
-- address (`first_word`), and no two objects share a word. The hard case is a spread object, whose first word may be a page number.
use Rattle.std.proofs.Common.{◌≡◌, ◌≢◌, ℕ, ◌+◌, ◌*◌, ◌<◌, false, List, ap, arith}
use mathlib.Core.Logic.{dite}
use native.Mathlib.Decide.{ℕ_discrete}
use Rattle.rgo_sound.specs.Memory.Memory.{Object, StructObject, SliceObject, Channel}
use Rattle.rgo_sound.specs.RegionMachine.Objects.{object_words as words_of}
use Rattle.rgo_sound.specs.RegionMachine.declared.regions.Region.{Region}
use Rattle.rgo_core_memory.specs.declared.layout.TableSizes.{TableSizes}
use Rattle.rgo_core_memory.specs.Words.{cell_at, base, all_words}
use Rattle.rgo_core_memory.specs.Encoding.{address}
use Rattle.rgo_core_memory.specs.Records.{Fill, Rec, Owns}
use Rattle.rgo_core_memory.specs.Ground.{Ground, IsLiveObject}
use Rattle.rgo_core_memory.specs.Image.{MemoryImage, Where, word_at}
use Rattle.rgo_core_memory.proofs.Writes.{far, in_pages}
use Rattle.rgo_core_memory.proofs.objects.Spreads.{in_table}
use Rattle.rgo_sound.specs.RegionMachine.Objects.{is_spread}
use Rattle.rgo_core_memory.proofs.objects.Spreads.{lead_word}
use Rattle.rgo_core_memory.specs.Encoding.{Spot}
use Rattle.rgo_core_memory.specs.Spread.{table_words}
use Rattle.rgo_sound.proofs.Tests.{split}
use Rattle.std.proofs.Common.{true, sym, ◌∙◌}
use Rattle.rgo_core_memory.proofs.objects.Spreads.{before_in_table, before_spot, cell_in_table, cells_spot, number_spot}
use Rattle.rgo_core_memory.specs.Spread.{words_before}
use Rattle.rgo_core_memory.specs.Parts.{SpreadOver}
use Rattle.rgo_sound.specs.RegionMachine.Objects.{cells, data_pages}
use Rattle.std.proofs.Common.{suc, ◌/◌, ◌%◌, slice_index}

some_word : (object : Object) → 0 < words_of object
some_word (StructObject cells) = omega arith
some_word (SliceObject cells) = omega arith
some_word (Channel capacity queue closed) = omega arith

module _ (z : TableSizes) (words : List ℕ) (recs : List Rec) (x : Ground) (places : Where) (k : MemoryImage z words recs x places) where
  -- the word of an object that is at its address
  first_word : (o : ℕ) (a : Object) (r : Region) → IsLiveObject x.heap x.owners x.regions o a r → (i : ℕ)
      × (i < table_words z.page_words a) × ((places.spot o i).page ≡ (places.start o).page)
      × ((places.spot o i).offset ≡ (places.start o).offset)
  first_word o a r s = split (is_spread z.page_words a) spread whole
    where
      whole : is_spread z.page_words a ≡ false → (i : ℕ) × (i < table_words z.page_words a)
          × ((places.spot o i).page ≡ (places.start o).page) × ((places.spot o i).offset ≡ (places.start o).offset)
      whole w =
          let t = k.lies.row o 0 a r s w (some_word a) in
          (0, in_table z.page_words a 0 (some_word a), t.0, t.1 ∙ plus_zero (places.start o).offset)
        where
          plus_zero : (n : ℕ) → n + 0 ≡ n
          plus_zero n = omega arith

      spread : is_spread z.page_words a ≡ true → (i : ℕ) × (i < table_words z.page_words a)
          × ((places.spot o i).page ≡ (places.start o).page) × ((places.spot o i).offset ≡ (places.start o).offset)
      spread w =
          let t = k.lies.spread o a r s w in
          let i = lead_word z.page_words a t.0 w in
          let e = t.1.laid i.0 i.1 ∙ (i.2 ∙ sym t.1.begins) in
          (i.0, i.1, ap Spot.page e, ap Spot.offset e)

  -- two objects with the same address are the same
  pub one_address : (o p : ℕ) (a b : Object) (r q : Region) → IsLiveObject x.heap x.owners x.regions o a r → IsLiveObject x.heap x.owners x.regions p b q
      → address z places.start o ≡ address z places.start p → o ≡ p
  one_address o p a b r q s t e =
      let i = first_word o a r s in
      let j = first_word p b q t in
      let u = k.lies.inside o i.0 a r s i.1 in
      let v = k.lies.inside p j.0 b q t j.1 in
      let ip = i.2 in
      let io = i.3 in
      let jp = j.2 in
      let jo = j.3 in
      dite (ℕ_discrete (places.spot o i.0).page (places.spot p j.0).page)
      (λ y.
      let w : (places.start o).page ≡ (places.start p).page = sym ip ∙ y ∙ jp in
      let m : (places.start o).page * z.page_words ≡ (places.start p).page * z.page_words = ap (λ (n : ℕ). n * z.page_words) w in
      (k.lies.apart o p i.0 j.0 a b r q s t i.1 j.1 y (omega (arith, e, m, io, jo))).0)
      (λ n. absurd (far (places.spot o i.0).page (places.spot p j.0).page z.page_words (places.spot o i.0).offset (places.spot p j.0).offset n u.1 v.1
      (let c : (places.spot o i.0).page * z.page_words ≡ (places.start o).page * z.page_words = ap (λ (n : ℕ). n * z.page_words) ip in
      let d : (places.spot p j.0).page * z.page_words ≡ (places.start p).page * z.page_words = ap (λ (n : ℕ). n * z.page_words) jp in
      omega (arith, e, c, d, io, jo))))

  module _ (o i : ℕ) (object : Object) (r : Region) (s : IsLiveObject x.heap x.owners x.regions o object r) where
    -- word i of an object that is not spread is i words after its address
    pub word_behind : i < words_of object → is_spread z.page_words object ≡ false
        → word_at z places o i ≡ base z + (address z places.start o + i)
    word_behind small whole =
        let t = k.lies.row o i object r s whole small in
        let m : (places.spot o i).page * z.page_words ≡ (places.start o).page * z.page_words = ap (λ (n : ℕ). n * z.page_words) t.0 in
        let e = t.1 in
        omega arith

    -- a word is in the table
    pub word_inside : i < table_words z.page_words object → word_at z places o i < all_words z
    word_inside small = let t = k.lies.inside o i object r s small in let b = in_pages z.pages (places.spot o i).page z.page_words
        (places.spot o i).offset t.0 t.1 in omega arith

  -- two words of objects differ in the list
  pub words_apart : (o p i j : ℕ) (a b : Object) (r q : Region) → IsLiveObject x.heap x.owners x.regions o a r → IsLiveObject x.heap x.owners x.regions p b q
      → i < table_words z.page_words a → j < table_words z.page_words b → (o ≡ p → i ≡ j → ⊥)
      → word_at z places o i ≢ word_at z places p j
  words_apart o p i j a b r q s t l m n e =
      let u = k.lies.inside o i a r s l in
      let v = k.lies.inside p j b q t m in
      dite (ℕ_discrete (places.spot o i).page (places.spot p j).page)
      (λ y.
      let c : (places.spot o i).page * z.page_words ≡ (places.spot p j).page * z.page_words = ap (λ (h : ℕ). h * z.page_words) y in
      let w = k.lies.apart o p i j a b r q s t l m y (omega arith) in n w.0 w.1)
      (λ ne. far (places.spot o i).page (places.spot p j).page z.page_words (places.spot o i).offset (places.spot p j).offset ne u.1 v.1
      (omega arith))

  -- a word above the fill of an own page belongs to no object
  pub free_apart : (g o i j : ℕ) (f : Fill) (a : Object) (r : Region) → Owns recs g f → IsLiveObject x.heap x.owners x.regions o a r
      → i < table_words z.page_words a
      → f.fill + j < z.page_words
      → cell_at z f.page (f.fill + j) ≢ word_at z places o i
  free_apart g o i j f a r w s l m e =
      let u = k.lies.inside o i a r s l in
      dite (ℕ_discrete (places.spot o i).page f.page)
      (λ y.
      let c : (places.spot o i).page * z.page_words ≡ f.page * z.page_words = ap (λ (h : ℕ). h * z.page_words) y in
      let v = k.own.under g o i f a r w s l y in absurd (omega arith))
      (λ ne. far (places.spot o i).page f.page z.page_words (places.spot o i).offset (f.fill + j) ne u.1 m (omega arith))

  -- a spread object from its address on
  module _ (o : ℕ) (object : Object) (r : Region) (s : IsLiveObject x.heap x.owners x.regions o object r)
      (sp : is_spread z.page_words object ≡ true) where
    abbrev over : (pages : List ℕ) × SpreadOver z k.w.cell (places.spot o) (places.start o) object pages
    over = k.lies.spread o object r s sp

    -- a word of the lead page
    in_lead : (i : ℕ) → cell_at z (slice_index over.0 0) i ≡ base z + (address z places.start o + i)
    in_lead i =
        let p : (slice_index over.0 0) * z.page_words ≡ (places.start o).page * z.page_words =
        ap (λ (y : Spot). y.page * z.page_words) (sym (over.1).begins) in
        let e = ap Spot.offset (over.1).begins in
        omega (arith, p, e)

    -- the page numbers follow the words before the cells
    pub number_behind : (j : ℕ) → j < data_pages z.page_words object
        → word_at z places o (words_of object + j) ≡ base z + (address z places.start o + (words_before object + j))
    number_behind j l =
        let e = (over.1).laid (words_of object + j) (omega (arith, l)) ∙ number_spot z.page_words object over.0 j in
        ap (λ (y : Spot). cell_at z y.page y.offset) e ∙ in_lead (words_before object + j)

    pub spread_follows : (pages : List ℕ)
        × ((i : ℕ) → i < words_before object → word_at z places o i ≡ base z + (address z places.start o + i))
        × ((j : ℕ) → j < data_pages z.page_words object
        → slice_index words (base z + (address z places.start o + (words_before object + j))) ≡ suc (slice_index pages (suc j)))
        × ((i : ℕ) → i < cells object → word_at z places o (words_before object + i)
        ≡ cell_at z (slice_index pages (i / z.page_words + 1)) (i % z.page_words))
    spread_follows = (
      over.0,
      λ i l.
          let e = (over.1).laid i (before_in_table z.page_words object i l)
          ∙ before_spot z.page_words object over.0 i l in
          ap (λ (y : Spot). cell_at z y.page y.offset) e ∙ in_lead i,
      λ j l.
          let m : words_of object + j < table_words z.page_words object = omega (arith, l) in
          let t = k.lies.inside o (words_of object + j) object r s m in
          ap (slice_index words) (sym (number_behind j l))
          ∙ k.shows.cell (places.spot o (words_of object + j)).page (places.spot o (words_of object + j)).offset t.0 t.1
          ∙ (over.1).numbers j l,
      λ i l.
          ap (λ (y : Spot). cell_at z y.page y.offset)
          ((over.1).laid (words_before object + i) (cell_in_table z.page_words object i l)
          ∙ cells_spot z.page_words object over.0 i l),
    )
