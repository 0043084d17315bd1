-- The words of a table by name, and their positions.
use Rattle.std.specs.Prelude.{◌≡◌, ℕ, suc, ◌+◌, ◌*◌, ◌<◌, ◌==◌, List, length, slice_index, if◌then◌else◌}
use Rattle.rgo_core_memory.specs.declared.layout.TableSizes.{TableSizes}

-- The words, each kind numbered on its own. A cell is a word of a page, by its offset there. Laws are proved of these functions, and
-- only `Writes` in the proofs knows that positions differ.
pub record Words : Type 0 where
  pub clock : ℕ
  pub made : ℕ
  pub state : ℕ → ℕ
  pub next : ℕ → ℕ
  pub count : ℕ → ℕ
  pub head : ℕ → ℕ
  pub variable : ℕ → ℕ
  pub cell : ℕ → ℕ → ℕ

-- f with another value at k
abbrev pub put_at : {A : Type 0} → (ℕ → A) → ℕ → A → ℕ → A
put_at f k a j = if j == k then a else f j

-- the same of two numbers
abbrev pub put_two : {A : Type 0} → (ℕ → ℕ → A) → ℕ → ℕ → A → ℕ → ℕ → A
put_two f p o a = put_at f p (put_at (f p) o a)

-- ---- positions. The clock, the number of goroutines and each row begin at least 16 words after what comes before them, so that no
-- two of them share a cache line, or the two lines that a processor fetches together.

abbrev pub clock_at : ℕ
clock_at = 0

abbrev pub made_at : ℕ
made_at = 16

abbrev pub state_at : TableSizes → ℕ → ℕ
state_at z p = 32 + p

abbrev pub next_at : TableSizes → ℕ → ℕ
next_at z p = 48 + z.pages + p

-- of each slot for regions, and then of Global
abbrev pub count_at : TableSizes → ℕ → ℕ
count_at z r = 64 + z.pages + z.pages + r

abbrev pub head_at : TableSizes → ℕ → ℕ
head_at z r = 80 + z.pages + z.pages + suc z.slots + r

abbrev pub base : TableSizes → ℕ
base z = 96 + z.pages + z.pages + suc z.slots + suc z.slots

-- a word of a page: `base` and its address
abbrev pub cell_at : TableSizes → ℕ → ℕ → ℕ
cell_at z p o = base z + (p * z.page_words + o)

-- the addresses of package variables follow those of all pages
abbrev pub variable_at : TableSizes → ℕ → ℕ
variable_at z n = base z + (z.pages * z.page_words + n)

abbrev pub all_words : TableSizes → ℕ
all_words z = base z + (z.pages * z.page_words + z.variables)

-- The list has these words. Each field is bounded, since beyond its row the position is that of another kind.
pub record ListHasWords (z : TableSizes) (words : List ℕ) (w : Words) : Type 0 where
  pub wide : length words ≡ all_words z
  pub clock : slice_index words clock_at ≡ w.clock
  pub made : slice_index words made_at ≡ w.made
  pub state : (p : ℕ) → p < z.pages → slice_index words (state_at z p) ≡ w.state p
  pub next : (p : ℕ) → p < z.pages → slice_index words (next_at z p) ≡ w.next p
  pub count : (r : ℕ) → r < suc z.slots → slice_index words (count_at z r) ≡ w.count r
  pub head : (r : ℕ) → r < suc z.slots → slice_index words (head_at z r) ≡ w.head r
  pub cell : (p o : ℕ) → p < z.pages → o < z.page_words → slice_index words (cell_at z p o) ≡ w.cell p o
  pub variable : (n : ℕ) → n < z.variables → slice_index words (variable_at z n) ≡ w.variable n
