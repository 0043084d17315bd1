-- The heap that contracts see, by the entries that it is made of. It is a list of what each number reads, so a change of the blocks is
-- shown number by number: a number is determined by its block and its slot, so all but one read what they did.
use Rattle.std.specs.Prelude.{Option, Some, None, slice_set, nat_eq}
use Rattle.std.specs.Borrow.{MutBor}
use Rattle.std.specs.List.{range_with_len}
use Rattle.std.specs.Option.{OnSome}
use Rattle.std.proofs.Common.{◌≡◌, ℕ, ◌+◌, ◌/◌, ◌%◌, ◌<◌, ◌≤◌, false, ◌⊎◌, inl, inr, List, [], ◌∷◌, ◌++◌, map, length, get_or, refl, ap, sym, ◌∙◌, arith}
use Rattle.std.proofs.lemmas.Bool.{cases_eq, ne_eqb}
use Rattle.std.proofs.lemmas.List.{get_or-set_other, get_or_past, length-set, set_past}
use Rattle.std.proofs.lemmas.Grind.{get_or-set_at}
use Rattle.std.proofs.lemmas.List.FromFn.{length-map-range_with_len, get_or-map-range_with_len, map-range_with_len_more, fill_by_all}
use Rattle.rgo_interpreter.specs.declared.objects.Object.{Object as CodeObject}
use Rattle.rgo_interpreter.specs.declared.blocks.Block.{Block}
use Rattle.rgo_interpreter.specs.declared.memory.Memory.{Memory as CodeMemory}
use Rattle.rgo_memory.specs.declared.values.Value.TheVariants as value
use Rattle.rgo_memory.specs.Effects.{Effect, Does}
use Rattle.rgo_memory.specs.Making.{made}
use Rattle.rgo_memory.specs.Memory.{Object, StructObject, Memory, with_object, object_at, emptied}
use Rattle.rgo_interpreter.specs.Blocks.{slot_in_block, Puts, PutsIn}
use Rattle.rgo_interpreter.specs.Lending.{HasBlock}
use Rattle.rgo_interpreter.specs.Views.{object_view, object_view_or_empty, block_of, object_view_at, memory_view}

-- ---- lists by a function of the index

module _ {X : Type 0} (f g : ℕ → X) (n : ℕ) where
  abbrev old_list : List X
  old_list = map f (range_with_len 0 n)

  length_old : length old_list ≡ n
  length_old = length-map-range_with_len f 0 n

  module _ (k : ℕ) (x : X) (here : g k ≡ x) (others : (q : ℕ) → q < n → (q ≡ k → ⊥) → g q ≡ f q) where
    is_set : (q : ℕ) → q < n → (q ≡ k) ⊎ (q ≡ k → ⊥) → get_or (slice_set old_list k x) q x ≡ g q
    is_set q lt (inl e) = get_or-set_at old_list k q x x e (rw (length_old, sym e) lt) ∙ sym here ∙ ap g (sym e)
    is_set q lt (inr differ) =
        get_or-set_other old_list k q x x differ
        ∙ get_or-map-range_with_len f 0 n q q x lt (omega arith)
        ∙ sym (others q lt differ)

    -- with another value at one index
    pub set_one : map g (range_with_len 0 n) ≡ slice_set old_list k x
    set_one = sym (fill_by_all g (slice_set old_list k x) n x
        (length-set old_list k x ∙ length_old)
        (λ q lt. is_set q lt (cases_eq q k)))

  module _ (same : (q : ℕ) → q < n → g q ≡ f q) where
    -- with the same values
    pub all_same : map g (range_with_len 0 n) ≡ old_list
    all_same =
        set_one n (g n) refl (λ q lt differ. same q lt) ∙ set_past old_list n (g n) (rw length_old (omega arith))

    -- with one value more
    pub one_more : map g (range_with_len 0 (n + 1)) ≡ old_list ++ g n ∷ []
    one_more = map-range_with_len_more g 0 n n (omega arith) ∙ ap (λ l. l ++ g n ∷ []) all_same

-- ---- the heap

pub length_of_heap : (m : CodeMemory) → length (memory_view m).heap ≡ m.made
length_of_heap m = length-map-range_with_len (object_view_at m) 0 m.made

read_entry : (m : CodeMemory) (n : ℕ) → n < m.made → object_at (memory_view m) n ≡ object_view_at m n
read_entry m n within =
    get_or-map-range_with_len (object_view_at m) 0 m.made n n (StructObject []) within (omega arith)

pub read_slot : (m : CodeMemory) (n : ℕ) (found : Option Block) → found ≡ block_of m (n / 16) → n < m.made
    → object_at (memory_view m) n ≡ object_view_or_empty (slot_in_block found (n % 16))
read_slot m n found is within = read_entry m n within ∙ ap (λ b. object_view_or_empty (slot_in_block b (n % 16))) (sym is)

pub read_past : (m : CodeMemory) (n : ℕ) → m.made ≤ n → object_at (memory_view m) n ≡ StructObject []
read_past m n past = get_or_past (memory_view m).heap n (StructObject []) (rw (length_of_heap m) past)

module _ (m new : CodeMemory) (variables : new.variables ≡ m.variables) where
  shown : {n : ℕ} {heap : List Object} → new.made ≡ n → map (object_view_at new) (range_with_len 0 n) ≡ heap
      → memory_view new ≡ record (memory_view m) { heap = heap }
  shown {heap = heap} made same =
      ap (λ n. record (memory_view new) { heap = map (object_view_at new) (range_with_len 0 n) }) made
      ∙ ap (λ l. record (memory_view new) { heap = l }) same
      ∙ ap (λ (v : _). record (memory_view m) { heap = heap; variables = v.items }) variables

  -- the objects that were there are the same
  module _ (kept : (q : ℕ) → q < m.made → object_view_at new q ≡ object_view_at m q) where
    pub unchanged : new.made ≡ m.made → memory_view new ≡ memory_view m
    unchanged made = shown made (all_same (object_view_at m) (object_view_at new) m.made kept)

    -- and there is one more
    pub grown : new.made ≡ m.made + 1 → (object : CodeObject) → object_view_at new m.made ≡ object_view object
        → made (memory_view m) (object_view object) ≡ Does (memory_view new) (value.Object m.made)
    grown more object here =
        let effect : Memory → ℕ → Effect = λ memory n. Does memory (value.Object n) in
        ap (effect _) (length_of_heap m)
        ∙ ap (λ memory. effect memory m.made) (sym (shown more
        (one_more (object_view_at m) (object_view_at new) m.made kept ∙ ap (λ y. (memory_view m).heap ++ y ∷ []) here)))

-- ---- blocks

-- the numbers of one slot of one block are one
same_number : (n q : ℕ) → q / 16 ≡ n / 16 → q % 16 ≡ n % 16 → q ≡ n
same_number n q block slot = omega arith

before_it : (n q : ℕ) → q < n → q / 16 ≡ n / 16 → q % 16 < n % 16
before_it n q before block = omega arith

-- the block of a number is another one, or none; the other blocks are what they were
module _ (m new : CodeMemory) (made : new.made ≡ m.made) (variables : new.variables ≡ m.variables) (n : ℕ)
    (found after : Option Block) (was : block_of m (n / 16) ≡ found) (is : block_of new (n / 16) ≡ after)
    (others : (b : ℕ) → nat_eq (n / 16) b ≡ false → block_of new b ≡ block_of m b) where
  in_block : (q : ℕ) → q / 16 ≡ n / 16 → object_view_at new q ≡ object_view_or_empty (slot_in_block after (q % 16))
  in_block q e = ap (λ b. object_view_or_empty (slot_in_block b (q % 16))) (ap (block_of new) e ∙ is)

  was_in_block : (q : ℕ) → q / 16 ≡ n / 16 → object_view_at m q ≡ object_view_or_empty (slot_in_block found (q % 16))
  was_in_block q e = ap (λ b. object_view_or_empty (slot_in_block b (q % 16))) (ap (block_of m) e ∙ was)

  elsewhere : (q : ℕ) → (q / 16 ≡ n / 16 → ⊥) → object_view_at new q ≡ object_view_at m q
  elsewhere q differ =
      ap (λ b. object_view_or_empty (slot_in_block b (q % 16))) (others (q / 16) (ne_eqb (n / 16) (q / 16) (λ e. differ (sym e))))

  same_entry : (q : ℕ) → (q / 16 ≡ n / 16) ⊎ (q / 16 ≡ n / 16 → ⊥)
      → (q / 16 ≡ n / 16 → slot_in_block after (q % 16) ≡ slot_in_block found (q % 16)) → object_view_at new q ≡ object_view_at m q
  same_entry q (inl e) slot = in_block q e ∙ ap object_view_or_empty (slot e) ∙ sym (was_in_block q e)
  same_entry q (inr differ) slot = elsewhere q differ

  entry_by : (q : ℕ) → (q / 16 ≡ n / 16 → slot_in_block after (q % 16) ≡ slot_in_block found (q % 16)) → object_view_at new q ≡ object_view_at m q
  entry_by q = same_entry q (cases_eq (q / 16) (n / 16))

  -- the slots before that of the number are what they were
  pub kept_before : ((k : ℕ) → k < n % 16 → slot_in_block after k ≡ slot_in_block found k)
      → (q : ℕ) → q < n → object_view_at new q ≡ object_view_at m q
  kept_before slots q before = entry_by q (λ e. slots (q % 16) (before_it n q before e))

  -- all slots are what they were
  all_kept : ((k : ℕ) → slot_in_block after k ≡ slot_in_block found k) → memory_view new ≡ memory_view m
  all_kept slots = unchanged m new variables (λ q within. entry_by q (λ e. slots (q % 16))) made

  -- all other slots are what they were
  written : (w : Option CodeObject) → PutsIn found (n % 16) w after
      → memory_view new ≡ with_object (memory_view m) n (object_view_or_empty w)
  written w puts =
      shown m new variables made
      (set_one (object_view_at m) (object_view_at new) m.made n (object_view_or_empty w) (in_block n refl ∙ ap object_view_or_empty puts.0)
      (λ q within differ. entry_by q (λ e. puts.1 (q % 16) (λ slot. differ (same_number n q e slot)))))

-- the block of that number was lent to be changed
module _ (m changed : CodeMemory) (n : ℕ) (block after : Block) (was : Some block ≡ block_of m (n / 16))
    (has : HasBlock m (n / 16) after changed) where
  same_made : changed.made ≡ m.made
  same_made = ap (λ m. m.made) has.0

  same_variables : changed.variables ≡ m.variables
  same_variables = ap (λ m. m.variables) has.0

  -- and of it the object of that slot
  pub lent : (found : Option (MutBor CodeObject)) (w : CodeObject) → OnSome found (Puts block (n % 16) (Some w) after)
      → OnSome found (memory_view changed ≡ with_object (memory_view m) n (object_view w))
  lent None w puts = tt
  lent (Some r) w puts =
      written m changed same_made same_variables n (Some block) (Some after) (sym was) has.1.1 has.1.2 (Some w) puts

  -- and none of its objects
  pub not_lent : after.slots.items ≡ block.slots.items → memory_view changed ≡ memory_view m
  not_lent same =
      all_kept m changed same_made same_variables n (Some block) (Some after) (sym was) has.1.1 has.1.2
      (λ k. ap (λ slots. get_or slots k None) same)

  -- and the object of that slot was taken away
  pub cleared : Puts block (n % 16) None after → memory_view changed ≡ emptied (memory_view m) n
  cleared puts = written m changed same_made same_variables n (Some block) (Some after) (sym was) has.1.1 has.1.2 None puts

-- each slot is what it was
pub same_slots : (m new : CodeMemory) → ((b k : ℕ) → slot_in_block (block_of new b) k ≡ slot_in_block (block_of m b) k)
    → new.made ≡ m.made → new.variables ≡ m.variables → memory_view new ≡ memory_view m
same_slots m new slots made variables =
    unchanged m new variables (λ q within. ap object_view_or_empty (slots (q / 16) (q % 16))) made

pub nothing_there : (m : CodeMemory) (n : ℕ) → None ≡ block_of m (n / 16) → memory_view m ≡ emptied (memory_view m) n
nothing_there m n was =
    written m m refl refl n None None (sym was) (sym was) (λ b differ. refl) None (refl, λ k differ. refl)
