-- The word of a cell that a record has located: its link says that the lead page still has this number.
use Rattle.std.proofs.Common.{◌≡◌, ⊎_elim, ℕ, suc, ◌+◌, ◌/◌, ◌%◌, ◌≤◌, slice_index, ap, sym, ◌∙◌, arith}
use Rattle.rgo_sound.specs.Code.Code.{CodeOp}
use Rattle.rgo_sound.specs.Memory.Memory.{Object}
use Rattle.rgo_sound.specs.RegionMachine.declared.regions.Region.{Region}
use Rattle.rgo_core_memory.specs.Encoding.{address}
use Rattle.rgo_core_memory.specs.Ground.{IsLiveObject}
use Rattle.rgo_core_memory.specs.Image.{word_at}
use Rattle.rgo_core_memory.specs.Spread.{words_before}
use Rattle.rgo_core_memory.specs.Words.{base, cell_at}
use Rattle.rgo_core.specs.moves.Cells.{IsElementAt, IsFieldAt, IsInSlice, IsLocated}
use Rattle.rgo_core.specs.Core.{Situation, Setup, layout}
use Rattle.rgo_core.specs.ties.Links.{IsAtCell, OfSlice, OfStruct}
use Rattle.rgo_core.specs.Next.{IsAtOp}
use Rattle.rgo_core.specs.Records.{Record}
use Rattle.rgo_core.proofs.accesses.Cells as cells
use Rattle.rgo_core.proofs.accesses.Cells.{HasCell}
use Rattle.rgo_core.proofs.image.Parts.{I}

module _ {T : Setup} {g : ℕ} {c : Record} (x : Situation T g c) (o : ℕ) (object : Object) (r : Region)
    (stands : IsLiveObject x.s.plain.memory.heap x.s.owners x.s.regions o object r) where
  -- a cell of the object at its address
  meets : (at cell before page : ℕ) (h : HasCell x at cell before)
      → slice_index x.words (base (layout T) + (at + (before + cell / T.sizes.page_words))) ≡ suc page
      → at ≡ address (layout T) (I x).places.start o
      → word_at (layout T) (I x).places o (words_before object + cell) ≡ cell_at (layout T) page (cell % T.sizes.page_words)
  meets at cell before page h found begins =
      let one = cells.one_there x at cell before h o object r stands begins in
      ap (λ n. word_at (layout T) (I x).places o (n + cell)) (ap words_before (sym one.1) ∙ h.before_is)
      ∙ (ap (λ q. word_at (layout T) (I x).places q (before + cell)) (sym one.0)
      ∙ cells.leads x at cell before h page found)

  is_there : (at cell page : ℕ) → IsAtCell T.code (layout T) x.words c at cell page → at ≡ address (layout T) (I x).places.start o
      → word_at (layout T) (I x).places o (words_before object + cell) ≡ cell_at (layout T) page (cell % T.sizes.page_words)
  is_there at cell page (OfStruct to act p others removes a on points s low found) =
      meets at cell 0 page (cells.struct_cell x to act p others removes a at points s cell low) found
  is_there at cell page (OfSlice to act p others removes a on points u typed low large found) =
      meets at cell 1 page (cells.slice_cell x to act p others removes a at points u typed cell low large) found

  pub located_word : (at cell word : ℕ) → IsLocated T c at cell word → at ≡ address (layout T) (I x).places.start o
      → word_at (layout T) (I x).places o (words_before object + cell) ≡ word
  located_word at cell word l begins =
      let f = (x.core.links g c x.is_c).finds l.located l.read in
      ap (λ n. word_at (layout T) (I x).places o (words_before object + n)) (sym l.of_cell)
      ∙ (is_there l.located.address l.located.cell l.located.page (f.before l.now) (l.its ∙ begins)
      ∙ (ap (λ n. cell_at (layout T) l.located.page (n % T.sizes.page_words)) l.of_cell ∙ sym l.at))

-- it is a word of a page
located_high : (T : Setup) (c : Record) (at cell word : ℕ) → IsLocated T c at cell word → base (layout T) ≤ word
located_high T c at cell word l = let e = l.at in omega (arith, e)

pub field_high : (T : Setup) (c : Record) {op : CodeOp} (a : IsAtOp T.code c op) (p at k word : ℕ) → IsFieldAt T c a p at k word
    → base (layout T) ≤ word
field_high T c a p at k word lies = ⊎_elim (λ t. let e = t.1 in omega (arith, e)) (λ l. located_high T c at k word l) lies

pub element_high : (T : Setup) (c : Record) (at index : ℕ) (inside : IsInSlice c at index) (word : ℕ) → IsElementAt T c at index inside word
    → base (layout T) ≤ word
element_high T c at index inside word lies = ⊎_elim (λ t. let e = t.1 in omega (arith, e)) (λ l. located_high T c at index word l) lies
