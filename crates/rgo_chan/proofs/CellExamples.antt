-- The examples of cells, by computation.
use Rattle.std.proofs.Common.{◌≡◌, ◌<◌, ◌+◌, ◌-◌, ℕ, true, false, List, [], ◌∷◌, ◌++◌, length, refl, ap, sym, ◌∙◌, inl, arith}
use Rattle.rgo_sound.specs.Machine.declared.limits.Limits.{Limits}
use Rattle.rgo_core.specs.Core.{Setup, layout}
use Rattle.rgo_core.specs.Memory.Words.{cell_at}
use Rattle.rgo_core.specs.Rule.Histories.{access}
use Rattle.rgo_core.specs.Rule.declared.accesses.Access.{Access}
use Rattle.rgo_core.specs.Rule.declared.accesses.Kind.TheVariants.{LoadIndex}
use Rattle.rgo_core_steps.specs.Grown.{own_by}
use Rattle.rgo_chan.specs.Answers.{Sends, cell_word, commits, free_cell, loads_capacity, loads_control, locks, looks, reaches, stores_cell}
use Rattle.rgo_chan.specs.CellExamples.{CellExamples, done_seat, page_nine, receive_in_fours, receives_from, send_in_fours, sends_to}
use Rattle.rgo_chan.specs.Examples.{before_a_send, first_seat}
use Rattle.rgo_chan.specs.declared.answers.Tried.TheVariants.{Done}

apart : (a b : ℕ) → a ≡ b → a < b → ⊥
apart a b e h = omega arith

module _ (limits : Limits) where
  abbrev T : Setup
  T = send_in_fours limits

  -- what a send does
  abbrev does : (size n k x y : ℕ) → List Access
  does size n k x y =
      looks 700 size n 0 ++ locks 700 n 0 ∷ reaches T 700 size (free_cell size n) k 0
      ++ stores_cell (cell_word T 700 size (free_cell size n) k) x 3 0 ∷ commits 700 y (n + 4) 0 ∷ []

  -- what was found is what the seat has seen
  module _ (reach : List Access) (word size n k x y : ℕ) (es : List Access) (seen : sends_to 6 reach word ≡ [] ++ es)
      (own : own_by 0 es ≡ does size n k x y) (all : own_by 0 (sends_to 6 reach word) ≡ sends_to 6 reach word) where
    both : sends_to 6 reach word ≡ does size n k x y
    both = sym all ∙ (ap (own_by 0) seen ∙ own)

    size_is : 6 ≡ size
    size_is = let e : loads_capacity 700 6 0 ≡ loads_capacity 700 size 0 = let b = both in cc in ap (λ (a : Access). a.found) e

    control_is : 4 ≡ n
    control_is = let e : loads_control 700 4 0 ≡ loads_control 700 n 0 = let b = both in cc in ap (λ (a : Access). a.found) e

    now : sends_to 6 reach word ≡ does 6 4 k x y
    now = both ∙ (ap (λ s. does s n k x y) (sym size_is) ∙ ap (λ j. does 6 j k x y) (sym control_is))

  not_reached : Sends T 700 before_a_send 3 (Done 0) (first_seat before_a_send) 5 (done_seat T.code 4 0 (sends_to 6 [] 703)) 10 → ⊥
  not_reached a =
      let e = now [] 703 a.1 a.2 a.3 a.4 a.5 a.8.made.es a.8.made.grew.seen a.8.made.own refl in
      apart 5 6 (ap length e) (omega arith)

  off : Sends T 700 before_a_send 3 (Done 0) (first_seat before_a_send) 5 (done_seat T.code 5 0 (sends_to 6 (page_nine ∷ []) (cell_at (layout T) 10 1))) 11 → ⊥
  off a =
      let e = now (page_nine ∷ []) (cell_at (layout T) 10 1) a.1 a.2 a.3 a.4 a.5 a.8.made.es a.8.made.grew.seen a.8.made.own refl in
      let number : page_nine ≡ access 0 LoadIndex 702 a.3 a.3 = cc in
      let ten : 10 ≡ a.3 = ap (λ (x : Access). x.found) number in
      let store : stores_cell (cell_at (layout T) 10 1) 0 3 0 ≡ stores_cell (cell_at (layout T) (a.3 - 1) 1) a.4 3 0 = cc in
      let word : cell_at (layout T) 10 1 ≡ cell_at (layout T) (a.3 - 1) 1 = ap (λ (x : Access). x.word) store in
      apart 177 181 (sym (word ∙ ap (λ k. cell_at (layout T) (k - 1) 1) (sym ten))) (omega arith)

pub cell_examples : (limits : Limits) → CellExamples limits
cell_examples limits = record {
  one_number = refl;
  no_number = refl;
  first_page = refl;
  second_page = refl;
  at_once = refl;
  in_page = refl;
  after_capacity = refl;
  not_after_capacity = λ e. apart 177 707 e (omega arith);
  not_in_next_page = λ e. apart 177 181 e (omega arith);
  sent = (
    refl,
    2,
    4,
    0,
    0,
    5,
    refl,
    (refl, omega arith),
    record {
      made = record {
        es = sends_to 2 [] 703;
        grew = record { alone = (refl, refl); same = refl; seen = refl; more = refl; counts = λ any. refl };
        own = refl;
        after = refl;
      };
      counted = refl;
    },
  );
  sent_spread = (
    refl,
    6,
    4,
    10,
    0,
    5,
    refl,
    (refl, omega arith),
    record {
      made = record {
        es = sends_to 6 (page_nine ∷ []) (cell_at (layout (send_in_fours limits)) 9 1);
        grew = record { alone = (refl, refl); same = refl; seen = refl; more = refl; counts = λ any. refl };
        own = refl;
        after = refl;
      };
      counted = refl;
    },
  );
  not_reached = not_reached limits;
  one_page_off = off limits;
  received = inl (
    2,
    4,
    0,
    5,
    refl,
    (omega arith, omega arith),
    (λ at like e. absurd (let f : false ≡ true = like in cc f)),
    record {
      made = record {
        es = receives_from 2 [] 702 4294967296;
        grew = record { alone = (refl, refl); same = refl; seen = refl; more = refl; counts = λ any. refl };
        own = refl;
        after = refl;
      };
      counted = refl;
    },
  );
  received_spread = inl (
    6,
    4,
    10,
    5,
    refl,
    (omega arith, omega arith),
    (λ at like e. absurd (let f : false ≡ true = like in cc f)),
    record {
      made = record {
        es = receives_from 6 (page_nine ∷ []) (cell_at (layout (receive_in_fours limits)) 9 0) 4294967296;
        grew = record { alone = (refl, refl); same = refl; seen = refl; more = refl; counts = λ any. refl };
        own = refl;
        after = refl;
      };
      counted = refl;
    },
  );
}
