-- A word written into the list is that word changed, and no other. Here alone it matters that positions of different words differ. Rows
-- follow one another, so for most pairs this is an inequality of sums; for two cells it needs a product.
use Rattle.std.proofs.Common.{◌≡◌, ◌≢◌, ◌⊎◌, ℕ, zero, suc, ◌+◌, ◌*◌, ◌<◌, ◌≤◌, List, length, set, slice_index, refl, ap, sym, ◌∙◌, inl, inr, ⊎_elim, arith}
use Rattle.std.proofs.Math.ListN.{length-set}
use Rattle.std.proofs.Math.Nat.{mul-le-mul_right, suc-mul}
use Rattle.std.proofs.lemmas.List.{get_or-set_same, get_or-set_other}
use mathlib.Core.Logic.{dite}
use native.Mathlib.Decide.{ℕ_discrete}
use Rattle.rgo_core_memory.specs.declared.layout.TableSizes.{TableSizes}
use Rattle.rgo_core_memory.specs.Words.{Words, ListHasWords, put_at, put_two, clock_at, made_at, state_at, next_at, count_at, head_at, cell_at, variable_at}
use Rattle.rgo_core_memory.proofs.Puts.{put_here, put_else}

pub pages_apart : (p q s : ℕ) → p < q → p * s + s ≤ q * s
pages_apart p q s h = let m : suc p * s ≤ q * s = mul-le-mul_right s (omega arith) in let e = suc-mul p s in omega arith

-- one of two different numbers is smaller
two_sides : (a b : ℕ) → a ≢ b → (a < b) ⊎ (b < a)
two_sides zero zero ne = absurd (ne refl)
two_sides zero (suc b) ne = inl (omega arith)
two_sides (suc a) zero ne = inr (omega arith)
two_sides (suc a) (suc b) ne = ⊎_elim (λ u. inl (omega arith)) (λ u. inr (omega arith)) (two_sides a b (λ e. ne (ap suc e)))

-- cells of two pages differ
pub far : (p q s a b : ℕ) → p ≢ q → a < s → b < s → p * s + a ≢ q * s + b
far p q s a b ne ha hb e = ⊎_elim (λ u. let z = pages_apart p q s u in absurd (omega arith)) (λ u. let z = pages_apart q p s u in absurd
    (omega arith)) (two_sides p q ne)

-- a cell is before the package variables
pub in_pages : (n p s a : ℕ) → p < n → a < s → p * s + a < n * s
in_pages n p s a h l = let z = pages_apart p n s h in omega arith

other : (words : List ℕ) (i j x : ℕ) → j ≢ i → slice_index (set words i x) j ≡ slice_index words j
other words i j x n = get_or-set_other words i j x 0 n

here : (words : List ℕ) (i x : ℕ) → i < length words → slice_index (set words i x) i ≡ x
here words i x h = get_or-set_same words i x 0 h

module _ (z : TableSizes) (words : List ℕ) (w : Words) (k : ListHasWords z words w) where
  pub writes_clock : (x : ℕ) → ListHasWords z (set words clock_at x) (record w { clock = x })
  writes_clock x = let wide = k.wide in record {
    wide = length-set words clock_at x ∙ k.wide;
    clock = here words clock_at x (omega arith);
    made = other words clock_at made_at x (omega arith) ∙ k.made;
    state = λ q l. other words clock_at (state_at z q) x (omega arith) ∙ k.state q l;
    next = λ q l. other words clock_at (next_at z q) x (omega arith) ∙ k.next q l;
    count = λ r l. other words clock_at (count_at z r) x (omega arith) ∙ k.count r l;
    head = λ r l. other words clock_at (head_at z r) x (omega arith) ∙ k.head r l;
    cell = λ q o l m. other words clock_at (cell_at z q o) x (omega arith) ∙ k.cell q o l m;
    variable = λ n l. other words clock_at (variable_at z n) x (omega arith) ∙ k.variable n l;
  }

  pub writes_made : (x : ℕ) → ListHasWords z (set words made_at x) (record w { made = x })
  writes_made x = let wide = k.wide in record {
    wide = length-set words made_at x ∙ k.wide;
    clock = other words made_at clock_at x (omega arith) ∙ k.clock;
    made = here words made_at x (omega arith);
    state = λ q l. other words made_at (state_at z q) x (omega arith) ∙ k.state q l;
    next = λ q l. other words made_at (next_at z q) x (omega arith) ∙ k.next q l;
    count = λ r l. other words made_at (count_at z r) x (omega arith) ∙ k.count r l;
    head = λ r l. other words made_at (head_at z r) x (omega arith) ∙ k.head r l;
    cell = λ q o l m. other words made_at (cell_at z q o) x (omega arith) ∙ k.cell q o l m;
    variable = λ n l. other words made_at (variable_at z n) x (omega arith) ∙ k.variable n l;
  }

  pub writes_state : (p x : ℕ) → p < z.pages → ListHasWords z (set words (state_at z p) x) (record w { state = put_at w.state p x })
  writes_state p x h = let wide = k.wide in record {
    wide = length-set words (state_at z p) x ∙ k.wide;
    clock = other words (state_at z p) clock_at x (omega arith) ∙ k.clock;
    made = other words (state_at z p) made_at x (omega arith) ∙ k.made;
    state = λ q l. dite (ℕ_discrete q p)
        (λ e. rw (e, put_here w.state p x p refl) (here words (state_at z p) x (omega arith)))
        (λ n. other words (state_at z p) (state_at z q) x (λ y. n (omega arith)) ∙ (k.state q l ∙ sym (put_else w.state p x q n)));
    next = λ q l. other words (state_at z p) (next_at z q) x (omega arith) ∙ k.next q l;
    count = λ r l. other words (state_at z p) (count_at z r) x (omega arith) ∙ k.count r l;
    head = λ r l. other words (state_at z p) (head_at z r) x (omega arith) ∙ k.head r l;
    cell = λ q o l m. other words (state_at z p) (cell_at z q o) x (omega arith) ∙ k.cell q o l m;
    variable = λ n l. other words (state_at z p) (variable_at z n) x (omega arith) ∙ k.variable n l;
  }

  pub writes_next : (p x : ℕ) → p < z.pages → ListHasWords z (set words (next_at z p) x) (record w { next = put_at w.next p x })
  writes_next p x h = let wide = k.wide in record {
    wide = length-set words (next_at z p) x ∙ k.wide;
    clock = other words (next_at z p) clock_at x (omega arith) ∙ k.clock;
    made = other words (next_at z p) made_at x (omega arith) ∙ k.made;
    state = λ q l. other words (next_at z p) (state_at z q) x (omega arith) ∙ k.state q l;
    next = λ q l. dite (ℕ_discrete q p)
        (λ e. rw (e, put_here w.next p x p refl) (here words (next_at z p) x (omega arith)))
        (λ n. other words (next_at z p) (next_at z q) x (λ y. n (omega arith)) ∙ (k.next q l ∙ sym (put_else w.next p x q n)));
    count = λ r l. other words (next_at z p) (count_at z r) x (omega arith) ∙ k.count r l;
    head = λ r l. other words (next_at z p) (head_at z r) x (omega arith) ∙ k.head r l;
    cell = λ q o l m. other words (next_at z p) (cell_at z q o) x (omega arith) ∙ k.cell q o l m;
    variable = λ n l. other words (next_at z p) (variable_at z n) x (omega arith) ∙ k.variable n l;
  }

  pub writes_count : (r x : ℕ) → r < suc z.slots → ListHasWords z (set words (count_at z r) x) (record w { count = put_at w.count r x })
  writes_count r x h = let wide = k.wide in record {
    wide = length-set words (count_at z r) x ∙ k.wide;
    clock = other words (count_at z r) clock_at x (omega arith) ∙ k.clock;
    made = other words (count_at z r) made_at x (omega arith) ∙ k.made;
    state = λ q l. other words (count_at z r) (state_at z q) x (omega arith) ∙ k.state q l;
    next = λ q l. other words (count_at z r) (next_at z q) x (omega arith) ∙ k.next q l;
    count = λ q l. dite (ℕ_discrete q r)
        (λ e. rw (e, put_here w.count r x r refl) (here words (count_at z r) x (omega arith)))
        (λ n. other words (count_at z r) (count_at z q) x (λ y. n (omega arith)) ∙ (k.count q l ∙ sym (put_else w.count r x q n)));
    head = λ q l. other words (count_at z r) (head_at z q) x (omega arith) ∙ k.head q l;
    cell = λ q o l m. other words (count_at z r) (cell_at z q o) x (omega arith) ∙ k.cell q o l m;
    variable = λ n l. other words (count_at z r) (variable_at z n) x (omega arith) ∙ k.variable n l;
  }

  pub writes_head : (r x : ℕ) → r < suc z.slots → ListHasWords z (set words (head_at z r) x) (record w { head = put_at w.head r x })
  writes_head r x h = let wide = k.wide in record {
    wide = length-set words (head_at z r) x ∙ k.wide;
    clock = other words (head_at z r) clock_at x (omega arith) ∙ k.clock;
    made = other words (head_at z r) made_at x (omega arith) ∙ k.made;
    state = λ q l. other words (head_at z r) (state_at z q) x (omega arith) ∙ k.state q l;
    next = λ q l. other words (head_at z r) (next_at z q) x (omega arith) ∙ k.next q l;
    count = λ q l. other words (head_at z r) (count_at z q) x (omega arith) ∙ k.count q l;
    head = λ q l. dite (ℕ_discrete q r)
        (λ e. rw (e, put_here w.head r x r refl) (here words (head_at z r) x (omega arith)))
        (λ n. other words (head_at z r) (head_at z q) x (λ y. n (omega arith)) ∙ (k.head q l ∙ sym (put_else w.head r x q n)));
    cell = λ q o l m. other words (head_at z r) (cell_at z q o) x (omega arith) ∙ k.cell q o l m;
    variable = λ n l. other words (head_at z r) (variable_at z n) x (omega arith) ∙ k.variable n l;
  }

  pub writes_cell : (p o x : ℕ) → p < z.pages → o < z.page_words → ListHasWords z (set words (cell_at z p o) x) (record w { cell = put_two w.cell p o x })
  writes_cell p o x h in_page = let wide = k.wide in let inside = in_pages z.pages p z.page_words o h in_page in record {
    wide = length-set words (cell_at z p o) x ∙ k.wide;
    clock = other words (cell_at z p o) clock_at x (omega arith) ∙ k.clock;
    made = other words (cell_at z p o) made_at x (omega arith) ∙ k.made;
    state = λ q l. other words (cell_at z p o) (state_at z q) x (omega arith) ∙ k.state q l;
    next = λ q l. other words (cell_at z p o) (next_at z q) x (omega arith) ∙ k.next q l;
    count = λ q l. other words (cell_at z p o) (count_at z q) x (omega arith) ∙ k.count q l;
    head = λ q l. other words (cell_at z p o) (head_at z q) x (omega arith) ∙ k.head q l;
    cell = λ q i l m. dite (ℕ_discrete q p)
        (λ e. dite (ℕ_discrete i o)
        (λ s. rw (e, s, put_here w.cell p (put_at (w.cell p) o x) p refl, put_here (w.cell p) o x o refl) (here words (cell_at z p o) x (omega arith)))
        (λ n. rw (e, put_here w.cell p (put_at (w.cell p) o x) p refl, put_else (w.cell p) o x i n) (other words (cell_at z p o) (cell_at z p i) x
        (λ y. n (omega arith)) ∙ k.cell p i h m)))
        (λ n. rw (put_else w.cell p (put_at (w.cell p) o x) q n) (other words (cell_at z p o) (cell_at z q i) x
        (λ y. far q p z.page_words i o n m in_page (omega arith)) ∙ k.cell q i l m));
    variable = λ n l. other words (cell_at z p o) (variable_at z n) x (omega arith) ∙ k.variable n l;
  }

  pub writes_variable : (n x : ℕ) → n < z.variables → ListHasWords z (set words (variable_at z n) x) (record w { variable = put_at w.variable n x })
  writes_variable n x h = let wide = k.wide in record {
    wide = length-set words (variable_at z n) x ∙ k.wide;
    clock = other words (variable_at z n) clock_at x (omega arith) ∙ k.clock;
    made = other words (variable_at z n) made_at x (omega arith) ∙ k.made;
    state = λ q l. other words (variable_at z n) (state_at z q) x (omega arith) ∙ k.state q l;
    next = λ q l. other words (variable_at z n) (next_at z q) x (omega arith) ∙ k.next q l;
    count = λ q l. other words (variable_at z n) (count_at z q) x (omega arith) ∙ k.count q l;
    head = λ q l. other words (variable_at z n) (head_at z q) x (omega arith) ∙ k.head q l;
    cell = λ q o l m. let inside = in_pages z.pages q z.page_words o l m in other words (variable_at z n) (cell_at z q o) x (omega arith)
        ∙ k.cell q o l m;
    variable = λ q l. dite (ℕ_discrete q n)
        (λ e. rw (e, put_here w.variable n x n refl) (here words (variable_at z n) x (omega arith)))
        (λ ne. other words (variable_at z n) (variable_at z q) x (λ y. ne (omega arith)) ∙ (k.variable q l ∙ sym (put_else w.variable n x q ne)));
  }
