-- The words of a new object are stored one after the other, by induction over the stores. Nobody else stores there, so what was stored
-- stays.
use Rattle.std.proofs.Common.{◌≡◌, ◌+◌, ◌*◌, ◌<◌, ◌≤◌, ◌∙◌, ◌⊎◌, inl, inr, ℕ, suc, ap, sym, subst, refl, arith}
use Rattle.std.proofs.lemmas.Bool.{cases_lt}
use Rattle.rgo_core.specs.Rule.Views.{Me, number_of}
use Rattle.rgo_core.specs.Rule.declared.accesses.Kind.TheVariants as kind
use Rattle.rgo_core.specs.Channels.Records.{at_rest}
use Rattle.rgo_core_facts.specs.MemoryObjects.{StoresNext, storing, with_new_object}
use Rattle.rgo_core_facts.proofs.Lying.{pages_in_table}
use Rattle.rgo_core_facts.proofs.OwnPages.{room_lies}
use Rattle.rgo_core_facts.proofs.Storing.{stores_none, stores_words}
use Rattle.rgo_core.specs.Memory.Records.{Fill}
use Rattle.rgo_core.specs.Memory.Words.{all_words, cell_at}
use Rattle.rgo_core.specs.Core.{Setup, layout}
use Rattle.rgo_core.specs.runs.Opening.{first_of}
use Rattle.rgo_core.specs.Records.{Record, accesses}
use Rattle.rgo_core_steps.specs.Grown.{SeatGrew}
use Rattle.rgo_core_steps.specs.Making.{IsNewWord, filling}
use Rattle.rgo_core_steps.specs.Seats.{Settles, Stored, mine, settled}
use Rattle.rgo_core_steps.proofs.accesses.Growing.{told_accesses, told_grew, told_record}
use Rattle.rgo_core_steps.proofs.record_steps.Settling.{settled_counts}
use Rattle.rgo_holding.specs.Known.{own_page}
use Rattle.rgo_holding.specs.declared.entries.Page.{Page}
use Rattle.rgo_sound.specs.Memory.Memory.{Object}
use Rattle.rgo_sound.specs.RegionMachine.Objects.{object_words as words_of}
use Rattle.rgo_acts.specs.Objects.{IsPlacedInPage, opens}
use Rattle.rgo_acts.specs.declared.objects.New.{New}

-- record d is what c is after the first i words of the object were stored
pub record IsSoFar (T : Setup) (c : Record) (f : Fill) (object : Object) (words i : ℕ) (d : Record) : Type 0 where
  pub fewer : i < words → d ≡ storing c f object i
  pub all : i ≡ words → d ≡ with_new_object T c f object

-- before the first one
pub none_so_far : (T : Setup) (c : Record) (slot : ℕ) (page : Page) (new : New) (p : IsPlacedInPage T c slot page new)
    → IsSoFar T c (own_page slot page) p.object.object new.words 0 c
none_so_far T c slot page new p =
    let some = p.some in
    record {
      fewer = λ less. sym (stores_none c (own_page slot page) p.object.object p.make);
      all = λ none. absurd (omega (arith, some, none));
    }

module _ (T : Setup) (c : Record) (slot : ℕ) (page : Page) (new : New) (p : IsPlacedInPage T c slot page new) (i : ℕ) (less : i < new.words) where
  abbrev f : Fill
  f = own_page slot page

  abbrev object : Object
  object = p.object.object

  next : StoresNext T c f object i (opens new.place new.value i)
  next = stores_words T c slot new.words new.before (opens new.place new.value) p.object f p.is_page p.room i less

  module _ (q : ℕ) (m : Me Record) (settles : Settles T q m) (so_far : IsSoFar T c f object new.words i (settled T q m)) where
    is : settled T q m ≡ storing c f object i
    is = so_far.fewer less

    -- what the access asks
    pub new_word : IsNewWord T (settled T q m) i (cell_at (layout T) page.page (page.fill + i)) (opens new.place new.value i)
    new_word = subst (λ (d : Record). IsNewWord T d i (cell_at (layout T) page.page (page.fill + i)) (opens new.place new.value i)) (sym is) next.word

    pub still_rests : (settled T q m).side ≡ at_rest
    still_rests = ap (λ (d : Record). d.side) is ∙ p.rests

    module _ (word value : ℕ) (w : Me Record) (l : Stored T kind.Fill word value (filling T (settled T q m) i) m w) where
      after : mine T w ≡ filling T (storing c f object i) i
      after =
          told_record accesses (first_of T.code) m w kind.Fill word l.0 (λ found. value) (λ found e. e ≡ filling T (settled T q m) i) l.1
          ∙ ap (λ (d : Record). filling T d i) is

      -- one more
      pub one_so_far : IsSoFar T c f object new.words (i + 1) (mine T w)
      one_so_far =
          let many = p.object.many in
          let more : suc i ≡ i + 1 = omega arith in
          record {
            fewer = λ fewer. after ∙ next.more (omega (arith, fewer, many)) ∙ ap (storing c f object) more;
            all = λ all. after ∙ next.last (omega (arith, all, many));
          }

      counted : (d : Record) → mine T w ≡ d → accesses d ≡ accesses c + (i + 1) → accesses (mine T w) ≡ suc (accesses (mine T m))
      counted d e many =
          let before = ap accesses is in
          let same = settled_counts T (number_of m) q (mine T m) settles in
          let after = ap accesses e in
          omega (arith, before, same, after, many)

      one_count : accesses (mine T w) ≡ suc (accesses (mine T m))
      one_count = by (cases_lt (i + 1) new.words)
        where
          by : (i + 1 < new.words) ⊎ (new.words ≤ i + 1) → accesses (mine T w) ≡ suc (accesses (mine T m))
          by (inl fewer) = counted (storing c f object (i + 1)) (one_so_far.fewer fewer) refl
          by (inr last) =
              let many = p.object.many in
              let end : i + 1 ≡ new.words = omega (arith, less, last) in
              let same : words_of object ≡ i + 1 = omega (arith, many, end) in
              counted (with_new_object T c f object) (one_so_far.all end) (ap (λ n. accesses c + n) same)

      pub one_grew : SeatGrew accesses (first_of T.code) m (told_accesses accesses (first_of T.code) m w kind.Fill word l.0 (λ found. value) (λ found e. e ≡ filling T (settled T q m) i) l.1) w
      one_grew =
          told_grew accesses (first_of T.code) m w kind.Fill word l.0 (λ found. value) (λ found e. e ≡ filling T (settled T q m) i) l.1 one_count

-- ---- the word is one of the table

pub cell_low : (T : Setup) (page offset : ℕ) → page < T.sizes.pages → offset < T.sizes.page_words
    → cell_at (layout T) page offset < all_words (layout T)
cell_low T page offset low within =
    let lies = room_lies T page offset 1 low (omega (arith, within)) in
    let inside = pages_in_table T (page * T.sizes.page_words + offset) 1 lies in
    omega (arith, inside)
