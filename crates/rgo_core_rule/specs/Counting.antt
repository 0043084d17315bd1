-- The smallest machine to try the rule on: goroutines that add one to a total, and may each start one more. The examples show what
-- the rule has to exclude: each definition has a case that holds and one that must not.
use Rattle.std.specs.Prelude.{◌≡◌, ◌<◌, ◌≤◌, ◌==◌, ◌+◌, ◌%◌, min, ℕ, suc, Bool, true, false, List, [], ◌∷◌, ◌++◌, Option, Some, None, length, slice_index, count_by}
use mathlib.Core.Option.{some}
use lib.ListN.{get_elem?}
use Rattle.rgo_core_rule.specs.Histories.{Sound, access, accesses_by, glance, replay}
use Rattle.rgo_core_rule.specs.Lists.{flattened}
use Rattle.rgo_core_rule.specs.Passes.{AllAre, ChangesNothing, ChangesNothingBy, HasLooked, after_pass, all_after_pass}
use Rattle.rgo_core_rule.specs.Rule.{Account, Aware, Closing, Explained}
use Rattle.rgo_core_rule.specs.Steps.{Glanced, Move, MoveEither, Occurs, Still, Told, ToldChild}
use Rattle.rgo_core_rule.specs.Views.{Alone, HasRow, Me, Owned, Rows, TableState, informed, joined, longer, number_of, record_of, rows_but, rows_for, view}
use Rattle.rgo_core_rule.specs.declared.accesses.Access.{Access}
use Rattle.rgo_core_rule.specs.declared.accesses.Kind.TheVariants.{DrawNumber, DrawTicket, Load, Join}
use Rattle.rgo_core_rule.specs.declared.accesses.View.{View}
use Rattle.rgo_core_rule.specs.declared.counting.Adder.{Adder}

-- ---- the machine

pub data AdderEvent : Type 0 where
  -- goroutine g adds one to the total
  Adds : ℕ → AdderEvent
  -- goroutine g starts another
  Starts : ℕ → AdderEvent
  -- goroutine g does nothing
  Idles : ℕ → AdderEvent

abbrev pub is_add : AdderEvent → Bool
is_add (Adds g) = true
is_add (Starts g) = false
is_add (Idles g) = false

abbrev pub is_add_of : ℕ → AdderEvent → Bool
is_add_of h (Adds g) = g == h
is_add_of h (Starts g) = false
is_add_of h (Idles g) = false

abbrev pub is_idle_of : ℕ → AdderEvent → Bool
is_idle_of h (Adds g) = false
is_idle_of h (Starts g) = false
is_idle_of h (Idles g) = g == h

abbrev pub is_start : AdderEvent → Bool
is_start (Adds g) = false
is_start (Starts g) = true
is_start (Idles g) = false

abbrev pub new_adder : Adder
new_adder = record { added = 0; idled = 0; accesses = 0; has_drawn = false }

-- the record after an addition, after idling, and after a number was drawn
abbrev pub added : Adder → Adder
added c = record c { added = suc c.added; accesses = suc c.accesses }

abbrev pub idled : Adder → Adder
idled c = record c { idled = suc c.idled }

abbrev pub drew : Adder → Adder
drew c = record c { accesses = suc c.accesses; has_drawn = true }

-- how many have drawn a number
abbrev pub draws : List Adder → ℕ
draws recs = count_by (λ (c : Adder). c.has_drawn) recs

-- The run leads to what words and records show, where at most `limit` goroutines start. A number that was drawn at the limit counts
-- in word 1 without a goroutine, hence the minimum in `as_many`. `others` is needed when a goroutine starts: the run has
-- nothing of it yet. `fits` excludes that word 1 wraps around and a number is drawn twice.
pub record CountingExplains (limit : ℕ) (words : List ℕ) (recs : List Adder) (run : List AdderEvent) : Type 0 where
  pub wide : length words ≡ 2
  pub total : slice_index words 0 ≡ count_by is_add run % 18446744073709551616
  pub drawn : slice_index words 1 ≡ suc (draws recs)
  pub as_many : length recs ≡ min (suc (draws recs)) limit
  pub started : length recs ≡ suc (count_by is_start run)
  pub added : (g : ℕ) (c : Adder) → get_elem? recs g ≡ some c → c.added ≡ count_by (is_add_of g) run
  pub idled : (g : ℕ) (c : Adder) → get_elem? recs g ≡ some c → c.idled ≡ count_by (is_idle_of g) run
  pub others : (g : ℕ) → length recs ≤ g → (count_by (is_add_of g) run ≡ 0) × (count_by (is_idle_of g) run ≡ 0)
  pub some_limit : 0 < limit
  pub fits : limit < 9223372036854775808

abbrev accesses : Adder → ℕ
accesses c = c.accesses

-- a number was drawn: below the limit a goroutine has started
abbrev pub DidStart : ℕ → Me Adder → Option ℕ → Me Adder → Type 0
DidStart limit m (Some n) w =
    (n < limit) × ToldChild accesses (number_of m) DrawNumber 1 (λ n. (n + 1) % 18446744073709551616)
    (λ n d child. (n < limit) × (d ≡ drew (record_of new_adder m)) × (child ≡ new_adder)) m n w
DidStart limit m None w =
    (n : ℕ) × (limit ≤ n) × Told accesses (number_of m) DrawNumber 1 (λ n. (n + 1) % 18446744073709551616)
    (λ n d. (limit ≤ n) × (d ≡ drew (record_of new_adder m))) m n w

-- ---- a history: the first goroutine adds and starts another, which adds; then a seat loads word 0

abbrev pub opening_words : List ℕ
opening_words = 0 ∷ 1 ∷ []

abbrev pub adds : (g found : ℕ) → Access
adds g found = access g DrawTicket 0 found (suc found)

abbrev pub starts : (g found : ℕ) → Access
starts g found = access g DrawNumber 1 found (suc found)

abbrev pub two : List Access
two = adds 0 0 ∷ starts 0 1 ∷ []

abbrev pub three : List Access
three = two ++ adds 1 1 ∷ []

abbrev pub four : List Access
four = three ++ glance Join 2 ∷ []

-- the same with an addition that found what the word no longer held
abbrev pub stale : List Access
stale = two ++ adds 1 0 ∷ []

abbrev pub main_adder : Adder
main_adder = record { added = 1; idled = 0; accesses = 2; has_drawn = true }

abbrev pub child_record : Adder
child_record = record { added = 1; idled = 0; accesses = 1; has_drawn = false }

abbrev pub gains : List (List AdderEvent)
gains = (Adds 0 ∷ []) ∷ (Starts 0 ∷ []) ∷ (Adds 1 ∷ []) ∷ [] ∷ []

-- what the two goroutines' seats know
abbrev pub main_view : View Adder
main_view = view ((0, main_adder) ∷ []) two

abbrev pub child_view : View Adder
child_view = view ((1, child_record) ∷ []) three

-- both records in one view
abbrev pub rows : Rows Adder
rows = (0, main_adder) ∷ (1, child_record) ∷ []

abbrev pub recs : List Adder
recs = main_adder ∷ child_record ∷ []

abbrev pub owner : ℕ → ℕ
owner g = g

abbrev pub state : List (View Adder) → TableState Adder
state views = record { words = 2 ∷ 2 ∷ []; homes = []; views = views }

-- what a seat knew before the addition of the second goroutine, and knows after it
abbrev pub before_add : Me Adder
before_add = (view ((1, new_adder) ∷ []) two, [])

abbrev pub after_add : Me Adder
after_add = (child_view, [])

pub record CountingExamples : Type 0 where
  -- ---- histories
  pub flat : flattened gains ≡ Adds 0 ∷ Starts 0 ∷ Adds 1 ∷ []
  pub replayed : replay opening_words four ≡ 2 ∷ 2 ∷ []
  pub sound : Sound opening_words four
  pub unsound : Sound opening_words stale → ⊥
  pub by_main : accesses_by 0 four ≡ 2
  pub by_child : accesses_by 1 four ≡ 1
  pub by_nobody : accesses_by 2 four ≡ 0
  -- ---- views
  pub the_longer : longer two three ≡ three
  pub the_first : longer three stale ≡ three
  pub has : HasRow rows 1 child_record
  pub has_not : HasRow rows 1 main_adder → ⊥
  pub its_rows : rows_for 1 rows ≡ (1, child_record) ∷ []
  pub other_rows : rows_but 1 rows ≡ (0, main_adder) ∷ []
  pub both : joined main_view child_view ≡ view rows three
  pub both_informed : informed main_view (view [] stale) ≡ view ((0, main_adder) ∷ []) stale
  pub alone : Alone 1 child_record after_add
  pub not_alone : Alone 0 main_adder (view rows four, []) → ⊥
  pub owned : Owned (main_view ∷ child_view ∷ []) recs owner
  pub owned_twice : Owned (main_view ∷ main_view ∷ child_view ∷ []) recs owner → ⊥
  pub owned_by_nobody : Owned (main_view ∷ []) recs owner → ⊥
  pub aware : Aware accesses (main_view ∷ child_view ∷ []) four
  pub not_aware : Aware accesses (view ((1, child_record) ∷ []) two ∷ []) four → ⊥
  pub not_a_beginning : Aware accesses (view [] stale ∷ []) four → ⊥
  -- ---- passes
  pub pass : after_pass two (three ∷ stale ∷ four ∷ []) ≡ four
  pub after : all_after_pass two (three ∷ stale ∷ four ∷ []) ≡ three ∷ three ∷ four ∷ []
  pub all : AllAre four (four ∷ four ∷ [])
  pub not_all : AllAre four (four ∷ three ∷ []) → ⊥
  pub nothing : ChangesNothing (glance Load 2 ∷ access 1 Load 0 2 2 ∷ [])
  pub something : ChangesNothing four → ⊥
  pub nothing_by : ChangesNothingBy 2 four
  pub something_by : ChangesNothingBy 1 four → ⊥
  pub looked : HasLooked accesses two three 0 main_adder
  pub not_looked : HasLooked accesses two three 1 child_record → ⊥

pub record RuleExamples : Type 0 where
  pub counts : CountingExplains 8 (2 ∷ 2 ∷ []) recs (Adds 0 ∷ Starts 0 ∷ Adds 1 ∷ [])
  -- the second addition is not in the run
  pub miscounts : CountingExplains 8 (2 ∷ 2 ∷ []) recs (Adds 0 ∷ Starts 0 ∷ []) → ⊥
  pub account : Account accesses (CountingExplains 8) opening_words (2 ∷ 2 ∷ []) recs four
  -- a history in which the total comes from nowhere
  pub no_account : Account accesses (CountingExplains 8) opening_words (2 ∷ 2 ∷ []) recs two → ⊥
  pub explained : Explained accesses (CountingExplains 8) opening_words (state (main_view ∷ child_view ∷ []))
  -- no seat has the record of the first goroutine
  pub unexplained : Explained accesses (CountingExplains 8) opening_words (state (child_view ∷ [])) → ⊥
  pub closing : Closing accesses (CountingExplains 8) opening_words (2 ∷ 2 ∷ []) child_view
  -- the seat has not seen the access that its record counts
  pub not_closing : Closing accesses (CountingExplains 8) opening_words (2 ∷ 2 ∷ []) (view rows two) → ⊥

pub record MoveExamples : Type 0 where
  -- ---- records that are possible
  pub occurs : Occurs (CountingExplains 8) 1 child_record
  -- at most eight goroutines start
  pub ninth : (c : Adder) → Occurs (CountingExplains 8) 8 c → ⊥
  -- ---- accesses
  -- a goroutine that starts another has to draw a number
  pub no_draw : Move accesses (CountingExplains 8) 0 new_adder 1 (λ n. n) (λ n d. d ≡ drew new_adder) → ⊥
  pub no_child : MoveEither accesses (CountingExplains 8) 0 new_adder 1 (λ n. suc n) (λ n d. (8 ≤ n)
      × (d ≡ drew new_adder)) (λ n d child. (d ≡ drew new_adder) × (child ≡ added new_adder)) → ⊥
  -- who has not drawn a number cannot come to have done so without an access
  pub no_quiet_draw : Still accesses (CountingExplains 8) 0 new_adder (drew new_adder) → ⊥
  pub told : Told accesses 1 DrawTicket 0 (λ n. suc n) (λ n d. (n ≡ 1) × (d ≡ child_record)) before_add 1 after_add
  -- the access is not in what the seat has seen
  pub untold : Told accesses 1 DrawTicket 0 (λ n. suc n) (λ n d. d ≡ child_record) before_add 1 (view ((1, child_record) ∷ []) two, []) → ⊥
  pub told_child : ToldChild accesses 0 DrawNumber 1 (λ n. suc n) (λ n d child. child ≡ new_adder)
      (view ((0, added new_adder) ∷ []) (adds 0 0 ∷ []), []) 1 (view ((0, main_adder) ∷ (1, new_adder) ∷ []) two, [])
  -- the seat has no record of the child
  pub untold_child : ToldChild accesses 0 DrawNumber 1 (λ n. suc n) (λ n d child. child ≡ new_adder)
      (view ((0, added new_adder) ∷ []) (adds 0 0 ∷ []), []) 1 (view ((0, main_adder) ∷ []) two, []) → ⊥
  pub glanced : Glanced accesses (view ((0, main_adder) ∷ []) two, []) 2 (view ((0, main_adder) ∷ []) (three ++ glance Load 2 ∷ []), [])
  pub not_glanced : Glanced accesses before_add 2 (view ((1, new_adder) ∷ []) three, []) → ⊥
  -- the seat has seen an access of its goroutine that the record does not count
  pub miscounted : Glanced accesses before_add 2 (view ((1, new_adder) ∷ []) (three ++ glance Load 2 ∷ []), []) → ⊥
