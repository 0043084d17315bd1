-- The pages of a spread object are reserved one after the other. They outlast a turn, so the induction begins at those that are reserved
-- already.
use Rattle.std.proofs.Common.{◌≡◌, ◌+◌, ◌-◌, ◌*◌, ◌<◌, ◌≤◌, ◌^◌, ◌∙◌, ◌++◌, ℕ, suc, List, [], ap, sym, subst, refl, arith, length, slice_index}
use Rattle.std.proofs.Math.Nat.{mul-le-mul_right}
use Rattle.rgo_core.specs.Rule.Views.{number_of}
use Rattle.rgo_core.specs.Rule.declared.accesses.Access.{Access}
use Rattle.rgo_core.specs.Rule.declared.accesses.Kind.TheVariants.{ClaimPage}
use Rattle.rgo_core.specs.Memory.Words.{all_words, state_at}
use Rattle.rgo_core.specs.Memory.declared.layout.TableSizes.{TableSizes}
use Rattle.rgo_core.specs.Core.{Setup, layout}
use Rattle.rgo_core.specs.runs.Opening.{first_of}
use Rattle.rgo_core.specs.Records.{Record, accesses}
use Rattle.rgo_core_facts.specs.MemoryObjects.{data_pages_of}
use Rattle.rgo_core_facts.proofs.Lying.{pages_in_table}
use Rattle.rgo_core_facts.proofs.OwnPages.{reserved_few, reserved_pages, room_lies}
use Rattle.rgo_core_steps.proofs.accesses.Growing.{found_right, grew_then}
use Rattle.rgo_body.specs.Steps.{StillShows}
use Rattle.rgo_body.specs.declared.bodies.Body.{Body}
use Rattle.rgo_body.specs.declared.nexts.Next.{Next}
use Rattle.rgo_holding.specs.Holds.{region_of_key}
use Rattle.rgo_acts.specs.Actors.{ActorActed, now}
use Rattle.rgo_acts.specs.Objects.{HasAllPages, HasNoMemory, HasNoPage, HasReserved, HasTooFewPages, IsAsBefore, IsNextObject, IsSpreadOverPages, IsSmall}
use Rattle.rgo_acts.specs.Ready.{ActorIsBefore}
use Rattle.rgo_acts.specs.Runs.{Run}
use Rattle.rgo_acts.specs.Shortages.{LacksPage}
use Rattle.rgo_acts.specs.declared.actors.Actor.{Actor}
use Rattle.rgo_acts.specs.declared.objects.New.{New}
use Rattle.rgo_acts.proofs.before.Instructions.{rests}
use Rattle.rgo_acts.proofs.new_objects.Pages.{before_again}
use Rattle.rgo_acts.proofs.Standing.{acted_none, acted_then}

-- what was found before does not matter
lacks_more : (T : Setup) (g : ℕ) (c : Record) (xs es : List Access) → LacksPage T g c es → LacksPage T g c (xs ++ es)
lacks_more T g c xs es l = record {
  slot = l.slot;
  calm = l.calm;
  needs = l.needs;
  in_use = λ k low. let f = l.in_use k low in (f.0, f.1, found_right g xs es ClaimPage (state_at (layout T) k) f.0 f.2);
}

module _ (r : Run) (a : Actor) (next : Next) (before : ActorIsBefore r a next) (new : New)
    (is : IsNextObject r.setup (now r.setup a) a.body.holding new) where
  -- no more are reserved than the object takes
  pub few_reserved : length a.body.reserved.pages ≤ suc (data_pages_of r.setup.sizes.page_words new.words new.before)
  few_reserved =
      subst (λ (ps : List ℕ). length ps ≤ suc (data_pages_of r.setup.sizes.page_words new.words new.before)) before.stands.shows.reserved
      (reserved_few r.setup (number_of a.seat.me) (now r.setup a) before.stands.possible _ new.words new.before _ is.object)

  -- all are reserved
  pub placed_apart : r.setup.sizes.page_words < new.words → IsSmall r.setup new.words new.before
      → length a.body.reserved.pages ≡ suc (data_pages_of r.setup.sizes.page_words new.words new.before)
      → IsSpreadOverPages r.setup (now r.setup a) a.body.reserved.pages new
  placed_apart spread small all = record {
    slot = _;
    object = is.object;
    spread = spread;
    small = small;
    few = is.few;
    reserved = before.stands.shows.reserved;
    all = all;
    low = λ i low.
        subst (λ (ps : List ℕ). (i < length ps) → slice_index ps i < r.setup.sizes.pages) before.stands.shows.reserved
        (reserved_pages r.setup (number_of a.seat.me) (now r.setup a) before.stands.possible i) low;
    rests = rests r a next before;
    make = before.stands.shows.calm.make;
  }

  -- ---- room was made for them

  module _ (d : Body) (as_before : IsAsBefore a.body d) (stays : StillShows r.program a.body d) where
    abbrev b : Actor
    b = record a { body = d }

    roomy_acted : ActorActed r a b 0 [] []
    roomy_acted = acted_none r a b before.stands refl refl (stays r.setup (now r.setup a) before.stands.shows)

    pub no_memory : HasNoMemory r a b
    no_memory = record { acted = roomy_acted; seat = refl; body = as_before }

    roomy_new : IsNextObject r.setup (now r.setup a) d.holding new
    roomy_new = record {
      region = is.region;
      at_key = ap (λ (k : Body). region_of_key k.holding new.key) as_before ∙ is.at_key;
      low = is.low;
      few = is.few;
      object = is.object;
    }

    roomy_same : d ≡ record a.body { holding = d.holding; counts = d.counts; reserved = d.reserved }
    roomy_same =
        as_before
        ∙ ap (λ (k : Body). record a.body { holding = k.holding; counts = k.counts; reserved = record a.body.reserved { pages = k.reserved.pages; room = d.reserved.room } })
        (sym as_before)

    roomy_before : ActorIsBefore r b next
    roomy_before = before_again r a b next before roomy_acted.stands roomy_same (ap (λ (k : Body). k.counts.steps) as_before)

    pub none_more : HasReserved r b b next new 0
    none_more = record {
      before = roomy_before;
      acted = acted_none r b b roomy_acted.stands refl refl roomy_acted.stands.shows;
      is_new = roomy_new;
      pages = omega arith;
      room = omega arith;
      taken = omega arith;
      objects = refl;
    }

    -- ---- n were reserved

    module _ (n : ℕ) (c : Actor) (has : HasReserved r b c next new n) where
      pub reserved_all : length a.body.reserved.pages + n ≡ suc (data_pages_of r.setup.sizes.page_words new.words new.before)
          → HasAllPages r a c next new
      reserved_all all = record {
        before = has.before;
        acted = acted_then r a b c 0 0 [] [] [] [] roomy_acted has.acted;
        is_new = has.is_new;
        all = let same = ap (λ (k : Body). length k.reserved.pages) as_before in let pages = has.pages in omega (arith, all, same, pages);
        objects = has.objects ∙ ap (λ (k : Body). k.counts.objects) as_before;
      }

      -- the next one was not free
      pub too_few : (d : Actor) → HasNoPage r c d → HasTooFewPages r a d
      too_few d none =
          let first = acted_then r a b c 0 0 [] [] [] [] roomy_acted has.acted in
          let whole = acted_then r a c d 0 0 [] [] [] [] first none.acted in record {
            acted = record {
              es = first.es ++ none.acted.es;
              went = record {
                grew = grew_then accesses (first_of r.setup.code) a.seat.me c.seat.me d.seat.me first.es none.acted.es first.went.grew
                    none.acted.went.grew;
                steps = whole.went.steps;
                prints = whole.went.prints;
                children = whole.went.children;
                first = whole.went.first;
              };
              stands = whole.stands;
            };
            lacks = lacks_more r.setup (number_of a.seat.me) (now r.setup d) first.es none.acted.es
                (subst (λ g. LacksPage r.setup g (now r.setup d) none.acted.es) first.went.grew.same none.lacks);
          }

    pub none_free_yet : (c e : Actor) → c ≡ b → HasNoPage r c e → HasNoPage r a e
    none_free_yet c e same none =
        let n = subst (λ (k : Actor). HasNoPage r k e) same none in record {
          acted = record {
            es = n.acted.es;
            went = record {
              grew = n.acted.went.grew;
              steps = n.acted.went.steps;
              prints = n.acted.went.prints;
              children = n.acted.went.children;
              first = n.acted.went.first;
            };
            stands = n.acted.stands;
          };
          unmoved = record { words = n.unmoved.words; frame = n.unmoved.frame };
          body = n.body
              ∙ ap (λ (k : Body). record k { reserved = record k.reserved { room = e.body.reserved.room } }) as_before;
          lacks = n.lacks;
        }

-- one more
pub reserved_then : (r : Run) (a b c : Actor) (next : Next) (new : New) (n : ℕ) → HasReserved r a b next new n → HasReserved r b c next new 1
    → HasReserved r a c next new (n + 1)
reserved_then r a b c next new n x y = record {
  before = y.before;
  acted = acted_then r a b c 0 0 [] [] [] [] x.acted y.acted;
  is_new = y.is_new;
  pages = let p = x.pages in let q = y.pages in omega (arith, p, q);
  room = let p = x.room in let q = y.room in omega (arith, p, q);
  taken = let p = x.taken in let q = y.taken in omega (arith, p, q);
  objects = y.objects ∙ x.objects;
}

-- ---- where the object lies

-- the address of a page is a small number
pub address_fits : (T : Setup) (z : TableSizes) (page : ℕ) → z ≡ layout T → all_words z ≤ 2 ^ 32 → page < T.sizes.pages
    → page * z.page_words + 1 < 2 ^ 64
address_fits T z page sizes fits low =
    let lies = room_lies T page 0 T.sizes.page_words low (omega arith) in
    let inside = pages_in_table T (page * T.sizes.page_words + 0) T.sizes.page_words lies in
    let all = ap all_words sizes in
    let words = ap (λ (k : TableSizes). page * k.page_words) sizes in
    omega (arith, inside, all, words, fits)

-- ---- what it costs: each of the pages from `first` to `all` at most k

pub next_cost : (first i k s t u : ℕ) → first ≤ i → t ≤ s + (i - first) * k → u ≤ t + k → u ≤ s + (i + 1 - first) * k
next_cost first i k s t u from so_far one =
    let more : i + 1 - first ≡ (i - first) + 1 = omega (arith, from) in
    subst (λ n. u ≤ s + n * k) (sym more) (omega (arith, so_far, one))

pub all_cost : (first i all k s t : ℕ) → i ≤ all → t ≤ s + (i - first) * k → t ≤ s + all * k
all_cost first i all k s t most so_far =
    let few : i - first ≤ all = omega (arith, most) in
    let cost = mul-le-mul_right k few in
    omega (arith, so_far, cost)

pub cost_within : (first i all k s t u : ℕ) → i < all → t ≤ s + (i - first) * k → u ≤ t + k → u ≤ s + all * k
cost_within first i all k s t u more so_far one =
    let few : (i - first) + 1 ≤ all = omega (arith, more) in
    let cost = mul-le-mul_right k few in
    omega (arith, so_far, one, cost)
