-- The number of a data page is loaded before an access to a cell of a spread object: the goroutine is still before the instruction, and its
-- record knows where the cell lies.
use Rattle.std.proofs.Common.{◌≡◌, ◌<◌, ◌≤◌, ◌+◌, ◌-◌, ◌*◌, ◌/◌, ◌%◌, zero, ℕ, suc, [], refl, ap, sym, subst, ◌∙◌, arith}
use Rattle.std.proofs.lemmas.List.{append-nil}
use Rattle.rgo_core.specs.Memory.Words.{all_words, cell_at}
use Rattle.rgo_core.specs.Rule.Views.{number_of}
use Rattle.rgo_core.specs.Rule.declared.accesses.Kind.TheVariants as kind
use Rattle.rgo_core.specs.moves.Cells.{IsAtSpread, locates}
use Rattle.rgo_core.specs.ties.Bounds.{LieInPages}
use Rattle.rgo_core.specs.Core.{layout}
use Rattle.rgo_core.specs.runs.Opening.{first_of}
use Rattle.rgo_core.specs.Records.{Record, accesses, steps_of}
use Rattle.rgo_core_steps.specs.Seats.{HasPossible, HasAccessed, mine}
use Rattle.rgo_core_steps.proofs.accesses.Growing.{told_record}
use Rattle.rgo_core_facts.proofs.Lying.{index_lies}
use Rattle.rgo_body.specs.Bodies.{HasRoomBehind, BodyIsReady}
use Rattle.rgo_body.specs.Shows.{BodyShows}
use Rattle.rgo_body.specs.declared.bodies.Body.{Body}
use Rattle.rgo_body.specs.declared.nexts.Next.{Next}
use Rattle.rgo_body.proofs.Showing.{like_shown}
use Rattle.rgo_acts.specs.Actors.{ActorActed, now}
use Rattle.rgo_acts.specs.Elements.{HasLocated, HasMeasured}
use Rattle.rgo_acts.specs.Ready.{ActorIsBefore}
use Rattle.rgo_acts.specs.Runs.{Run}
use Rattle.rgo_acts.specs.declared.actors.Actor.{Actor}
use Rattle.rgo_acts.proofs.Standing.{acted_one, acted_then, now_at_once}

-- before the instruction still, after an act that left the body as it was
pub still_before : (r : Run) (a b : Actor) (next : Next) → ActorIsBefore r a next → b.body ≡ a.body → ActorActed r a b 0 [] [] → HasMeasured r a b next
still_before r a b next before same acted = record {
  before = record {
    stands = acted.stands;
    ready = subst (λ (body : Body). BodyIsReady r.program body next) (sym same) before.ready;
    rests = ap (λ (body : Body). body.side) same ∙ before.rests;
    room = subst (λ (body : Body). HasRoomBehind body next) (sym same) before.room;
    count = subst (λ (body : Body). body.counts.steps + 1 < 18446744073709551616) (sym same) before.count;
  };
  acted = acted;
  body = same;
}

pub then_measured : (r : Run) (a b c : Actor) (next : Next) → HasMeasured r a b next → HasMeasured r b c next → HasMeasured r a c next
then_measured r a b c next x y = record {
  before = y.before;
  acted = acted_then r a b c 0 0 [] [] [] [] x.acted y.acted;
  body = y.body ∙ x.body;
}

-- pages in which words lie have words
pub some_words : (pages page_words n : ℕ) → suc n ≤ pages * page_words → 0 < page_words
some_words pages zero n lies = absurd (omega (arith, lies))
some_words pages (suc k) n lies = omega arith

module _ (r : Run) (a : Actor) (next : Next) (before : ActorIsBefore r a next) (address lead cell : ℕ)
    (at : IsAtSpread r.setup (now r.setup a) address lead cell) where
  pub number_lies : LieInPages r.setup address ((lead + cell / r.setup.sizes.page_words) + 1)
  number_lies =
      let l = index_lies r.setup (number_of a.seat.me) (now r.setup a) before.stands.possible address lead cell at in omega (arith, l)

  -- its pages have words
  pub pages_have_words : 0 < r.setup.sizes.page_words
  pages_have_words =
      let l = number_lies in
      some_words r.setup.sizes.pages r.setup.sizes.page_words (address + (lead + cell / r.setup.sizes.page_words)) (omega (arith, l))

  module _ (b : Actor) (i n : ℕ) (own : b.seat.table_id ≡ a.seat.table_id) (at_once : b.behind ≡ 0) (same : b.body ≡ a.body)
      (possible : HasPossible r.setup b.seat.me)
      (left : HasAccessed r.setup kind.LoadIndex i (λ n. n)
      (λ n d. (d ≡ locates (now r.setup a) address cell (n - 1)) × (0 < n)
      × (cell_at (layout r.setup) (n - 1) (cell % r.setup.sizes.page_words) < all_words (layout r.setup))) a.seat.me n b.seat.me) where
    tells : (mine r.setup b.seat.me ≡ locates (now r.setup a) address cell (n - 1)) × (0 < n)
        × (cell_at (layout r.setup) (n - 1) (cell % r.setup.sizes.page_words) < all_words (layout r.setup))
    tells = told_record accesses (first_of r.setup.code) a.seat.me b.seat.me kind.LoadIndex i n (λ n. n)
        (λ n d. (d ≡ locates (now r.setup a) address cell (n - 1)) × (0 < n)
        × (cell_at (layout r.setup) (n - 1) (cell % r.setup.sizes.page_words) < all_words (layout r.setup))) left

    pub some_page : 0 < n
    some_page = tells.1

    pub cell_inside : cell_at (layout r.setup) (n - 1) (cell % r.setup.sizes.page_words) < all_words (layout r.setup)
    cell_inside = tells.2

    knows : now r.setup b ≡ locates (now r.setup a) address cell (n - 1)
    knows = now_at_once r.setup b at_once ∙ tells.0

    located_acted : ActorActed r a b 0 [] []
    located_acted =
        acted_one r a b before.stands 0 [] [] kind.LoadIndex i n (λ n. n)
        (λ n d. (d ≡ locates (now r.setup a) address cell (n - 1)) × (0 < n)
        × (cell_at (layout r.setup) (n - 1) (cell % r.setup.sizes.page_words) < all_words (layout r.setup)))
        (locates (now r.setup a) address cell (n - 1)) own at_once left possible (λ t. t.0)
        (record {
          accesses = refl;
          steps = omega arith;
          prints = sym (append-nil (now r.setup a).clock.prints);
          children = refl;
          first = refl;
        })
        (subst (λ (body : Body). BodyShows r.setup r.program body (locates (now r.setup a) address cell (n - 1))) (sym same)
        (like_shown r.setup r.program a.body (now r.setup a) (locates (now r.setup a) address cell (n - 1)) before.stands.shows (record {
          frame = refl;
          side = refl;
          fills = refl;
          reserved = refl;
          make = refl;
          claim = refl;
          give = refl;
          share = refl;
          owed = refl;
          prints = refl;
          refused = refl;
        })))

    pub has_located : (word : ℕ) → word ≡ cell_at (layout r.setup) (n - 1) (cell % r.setup.sizes.page_words) → word < r.table.words
        → HasLocated r a b next address cell word
    has_located word is inside = record {
      measured = still_before r a b next before same located_acted;
      located = record {
        located = record { address = address; cell = cell; page = n - 1; steps = steps_of (now r.setup a) };
        read = ap (λ (c : Record). c.memory.located) knows;
        now = sym (ap steps_of knows);
        its = refl;
        of_cell = refl;
        at = is;
      };
      lengths = ap (λ (c : Record). c.memory.measured) knows;
      steps = ap steps_of knows;
      inside = inside;
    }
