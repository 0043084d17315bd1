-- The examples, by computation.
use Rattle.std.proofs.Common.{◌≡◌, ℕ, zero, suc, ◌<◌, ◌≤◌, List, [], ◌∷◌, ◌++◌, Some, None, length, take, slice_index, count_by, refl, ap, sym, subst, ◌∙◌, ⊎_elim, arith, length-append, min}
use mathlib.Core.Option.{some, some-injective, some-ne-none}
use mathlib.Core.List.{IsPrefix}
use mathlib.Core.Logic.{dite}
use native.Mathlib.Decide.{dec_le}
use lib.ListN.{get_elem?}
use Rattle.std.proofs.Math.Nat.{min-eq_left, min-eq_right}
use Rattle.rgo_core_rule.specs.Counting.{CountingExamples, RuleExamples, MoveExamples, CountingExplains, AdderEvent, Adds, Starts, added, adds, child_record, child_view, draws, drew, four, gains, is_add_of, is_idle_of, main_adder, main_view, new_adder, opening_words, owner, recs, rows, stale, starts, three, two}
use Rattle.rgo_core_rule.specs.Histories.{access, accesses_by, glance, replay}
use Rattle.rgo_core_rule.specs.Lists.{flattened}
use Rattle.rgo_core_rule.specs.Passes.{ChangesNothing, ChangesNothingBy}
use Rattle.rgo_core_rule.specs.Rule.{Account, Aware}
use Rattle.rgo_core_rule.specs.Steps.{Moved, MovedChild}
use Rattle.rgo_core_rule.specs.Views.{HasRow, Owned, Rows, view}
use Rattle.rgo_core_rule.specs.declared.accesses.Access.{Access}
use Rattle.rgo_core_rule.specs.declared.accesses.Kind.TheVariants.{DrawTicket, Load, Join}
use Rattle.rgo_core_rule.specs.declared.accesses.View.{View}
use Rattle.rgo_core_rule.specs.declared.counting.Adder.{Adder}
use Rattle.rgo_core_rule.proofs.Adding.{accesses, first_counts, other}
use Rattle.rgo_core_rule.proofs.Lists.{at_below}

-- ---- numbers that differ

apart : (a b : ℕ) → a ≡ b → a < b → ⊥
apart a b e h = omega arith

some_none : {A : Type 0} (a : A) → Some a ≡ None → ⊥
some_none a e = cc

-- the access at a position
at : (xs ys : List Access) → xs ≡ ys → (i : ℕ) → get_elem? xs i ≡ get_elem? ys i
at xs ys e i = ap (λ (l : List Access). get_elem? l i) e

-- ---- records of the two goroutines

each_of_two : (P : ℕ → Adder → Type 0) → P 0 main_adder → P 1 child_record → (g : ℕ) (c : Adder) → get_elem? recs g ≡ some c → P g c
each_of_two P p q zero c e = subst (P 0) (some-injective main_adder c e) p
each_of_two P p q (suc zero) c e = subst (P 1) (some-injective child_record c e) q
each_of_two P p q (suc (suc g)) c e = absurd (some-ne-none c (sym e))

no_third : (g : ℕ) (c : Adder) → get_elem? recs (suc (suc g)) ≡ some c → ⊥
no_third g c e = some-ne-none c (sym e)

in_row : (g : ℕ) (c : Adder) (h : ℕ) (x : Adder) → HasRow ((g, c) ∷ []) h x → (g ≡ h) × (c ≡ x)
in_row g c h x (zero, e) = let q : ℕ × Adder = (g, c) in let r : ℕ × Adder = (h, x) in let p : q ≡ r = some-injective q r e in (
  ap (λ (z : ℕ
      × Adder). z.0) p,
  ap (λ (z : ℕ × Adder). z.1) p,
)
in_row g c h x (suc k, e) = let r : ℕ × Adder = (h, x) in absurd (some-ne-none r (sym e))

views : List (View Adder)
views = main_view ∷ child_view ∷ []

each_view : (P : ℕ → View Adder → Type 0) → P 0 main_view → P 1 child_view → (id : ℕ) (v : View Adder)
    → get_elem? (main_view ∷ child_view ∷ []) id ≡ some v → P id v
each_view P p q zero v e = subst (P 0) (some-injective main_view v e) p
each_view P p q (suc zero) v e = subst (P 1) (some-injective child_view v e) q
each_view P p q (suc (suc id)) v e = absurd (some-ne-none v (sym e))

-- ---- counts

abbrev the_run : List AdderEvent
the_run = Adds 0 ∷ Starts 0 ∷ Adds 1 ∷ []

beyond : (g : ℕ) → 2 ≤ g → (count_by (is_add_of g) the_run ≡ 0) × (count_by (is_idle_of g) the_run ≡ 0)
beyond g h = (let a = other 0 g (λ e. omega arith) in let b = other 1 g (λ e. omega arith) in omega arith, refl)

pub counts_here : CountingExplains 8 (2 ∷ 2 ∷ []) recs the_run
counts_here = record {
  wide = refl;
  total = refl;
  drawn = refl;
  as_many = refl;
  started = refl;
  added = each_of_two (λ g c. c.added ≡ count_by (is_add_of g) the_run) refl refl;
  idled = each_of_two (λ g c. c.idled ≡ count_by (is_idle_of g) the_run) refl refl;
  others = beyond;
  some_limit = omega arith;
  fits = omega arith;
}

miscounts_here : CountingExplains 8 (2 ∷ 2 ∷ []) recs (Adds 0 ∷ Starts 0 ∷ []) → ⊥
miscounts_here k = apart 1 2 (sym k.total) (omega arith)

-- ---- accounts

each_access : (P : ℕ → Access → Type 0) → P 0 (adds 0 0) → P 1 (starts 0 1) → P 2 (adds 1 1) → P 3 (glance Join 2) → (i : ℕ) (a : Access)
    → get_elem? four i ≡ some a → P i a
each_access P p q r s zero a e = subst (P 0) (some-injective (adds 0 0) a e) p
each_access P p q r s (suc zero) a e = subst (P 1) (some-injective (starts 0 1) a e) q
each_access P p q r s (suc (suc zero)) a e = subst (P 2) (some-injective (adds 1 1) a e) r
each_access P p q r s (suc (suc (suc zero))) a e = subst (P 3) (some-injective (glance Join 2) a e) s
each_access P p q r s (suc (suc (suc (suc i)))) a e = absurd (some-ne-none a (sym e))

only_one : (c : Adder) → (P : ℕ → Adder → Type 0) → P 0 c → (g : ℕ) (x : Adder) → get_elem? (c ∷ []) g ≡ some x → P g x
only_one c P p zero x e = subst (P 0) (some-injective c x e) p
only_one c P p (suc g) x e = absurd (some-ne-none x (sym e))

first_two : (c d : Adder) → (P : ℕ → Adder → Type 0) → P 0 c → P 1 d → (g : ℕ) (x : Adder) → get_elem? (c ∷ d ∷ []) g ≡ some x → P g x
first_two c d P p q zero x e = subst (P 0) (some-injective c x e) p
first_two c d P p q (suc zero) x e = subst (P 1) (some-injective d x e) q
first_two c d P p q (suc (suc g)) x e = absurd (some-ne-none x (sym e))

-- after the first access, and after the second
counts_one : CountingExplains 8 (1 ∷ 1 ∷ []) (added new_adder ∷ []) (Adds 0 ∷ [])
counts_one = record {
  wide = refl;
  total = refl;
  drawn = refl;
  as_many = refl;
  started = refl;
  added = only_one (added new_adder) (λ g c. c.added ≡ count_by (is_add_of g) (Adds 0 ∷ [])) refl;
  idled = only_one (added new_adder) (λ g c. c.idled ≡ count_by (is_idle_of g) (Adds 0 ∷ [])) refl;
  others = λ g h. (let a = other 0 g (λ e. omega arith) in omega arith, refl);
  some_limit = omega arith;
  fits = omega arith;
}

counts_two : CountingExplains 8 (1 ∷ 2 ∷ []) (main_adder ∷ new_adder ∷ []) (Adds 0 ∷ Starts 0 ∷ [])
counts_two = record {
  wide = refl;
  total = refl;
  drawn = refl;
  as_many = refl;
  started = refl;
  added = first_two main_adder new_adder (λ g c. c.added ≡ count_by (is_add_of g) (Adds 0 ∷ Starts 0 ∷ [])) refl refl;
  idled = first_two main_adder new_adder (λ g c. c.idled ≡ count_by (is_idle_of g) (Adds 0 ∷ Starts 0 ∷ [])) refl refl;
  others = λ g h. (let a = other 0 g (λ e. omega arith) in omega arith, refl);
  some_limit = omega arith;
  fits = omega arith;
}

each_moment : (k : ℕ) → k ≤ 4 → (then_recs : List Adder) × CountingExplains 8 (replay opening_words (take k four)) then_recs (flattened (take k gains))
each_moment zero h = (new_adder ∷ [], first_counts 8 (omega arith) (omega arith))
each_moment (suc zero) h = (added new_adder ∷ [], counts_one)
each_moment (suc (suc zero)) h = (main_adder ∷ new_adder ∷ [], counts_two)
each_moment (suc (suc (suc zero))) h = (recs, counts_here)
each_moment (suc (suc (suc (suc zero)))) h = (recs, counts_here)
each_moment (suc (suc (suc (suc (suc k))))) h = absurd (omega arith)

abbrev Makes : ℕ → Access → Type 0
Makes i a = (g : ℕ) → a.by ≡ Some g → g < 2

number : (a b : ℕ) → Some a ≡ Some b → a ≡ b
number a b e = cc

below_two : (a : ℕ) → a < 2 → (g : ℕ) → Some a ≡ Some g → g < 2
below_two a h g e = let n = number a g e in omega arith

abbrev Same : ℕ → Access → Type 0
Same i a = a.by ≡ None → a.left ≡ a.found

pub account_here : Account accesses (CountingExplains 8) opening_words (2 ∷ 2 ∷ []) recs four
account_here = record {
  gains = gains;
  paired = refl;
  explains = counts_here;
  moments = each_moment;
  replayed = refl;
  sound = (refl, (refl, (refl, (refl, tt))));
  counted = each_of_two (λ g c. accesses c ≡ accesses_by g four) refl refl;
  makers = λ i a g e. each_access Makes (below_two 0 (omega arith)) (below_two 0 (omega arith)) (below_two 1 (omega arith)) (λ g e. absurd
      (some_none g (sym e))) i a e g;
  glances = each_access Same (λ e. absurd (some_none 0 e)) (λ e. absurd (some_none 0 e)) (λ e. absurd (some_none 1 e)) (λ e. refl);
}

no_account_here : Account accesses (CountingExplains 8) opening_words (2 ∷ 2 ∷ []) recs two → ⊥
no_account_here a = apart 1 2 (sym (ap (λ (l : List ℕ). slice_index l 0) a.replayed)) (omega arith)

-- ---- views

owned_here : Owned (main_view ∷ child_view ∷ []) recs owner
owned_here = record {
  here = λ id v g c e. each_view (λ id v. (g : ℕ) (c : Adder) → HasRow v.records g c → (owner g ≡ id) × (get_elem? recs g ≡ some c))
      (λ g c has. let t = in_row 0 main_adder g c has in (sym t.0, rw (← t.0, ← t.1) refl))
      (λ g c has. let t = in_row 1 child_record g c has in (sym t.0, rw (← t.0, ← t.1) refl)) id v e g c;
  there = each_of_two (λ g c. (v : View Adder) × (get_elem? (main_view ∷ child_view ∷ []) g ≡ some v) × HasRow v.records g c)
      (main_view, refl, (0, refl)) (child_view, refl, (0, refl));
}

owned_twice_here : Owned (main_view ∷ main_view ∷ child_view ∷ []) recs owner → ⊥
owned_twice_here o = let t = o.here 1 main_view 0 main_adder refl (0, refl) in apart 0 1 t.0 (omega arith)

owned_by_nobody_here : Owned (main_view ∷ []) recs owner → ⊥
owned_by_nobody_here o = let t = o.there 1 child_record refl in some-ne-none t.0 (sym t.1)

aware_here : Aware accesses (main_view ∷ child_view ∷ []) four
aware_here = record {
  seen = each_view (λ id v. IsPrefix v.seen four) (adds 1 1 ∷ glance Join 2 ∷ [], refl) (glance Join 2 ∷ [], refl);
  own = λ id v g c e. each_view (λ id v. (g : ℕ) (c : Adder) → HasRow v.records g c → accesses c ≡ accesses_by g v.seen)
      (λ g c has. let t = in_row 0 main_adder g c has in rw (← t.0, ← t.1) refl)
      (λ g c has. let t = in_row 1 child_record g c has in rw (← t.0, ← t.1) refl) id v e g c;
}

pub counting_examples : CountingExamples
counting_examples = record {
  flat = refl;
  replayed = refl;
  sound = (refl, (refl, (refl, (refl, tt))));
  unsound = λ s. apart 0 1 s.1.1.0 (omega arith);
  by_main = refl;
  by_child = refl;
  by_nobody = refl;
  the_longer = refl;
  the_first = refl;
  has = (1, refl);
  has_not = not_main;
  its_rows = refl;
  other_rows = refl;
  both = refl;
  both_informed = refl;
  alone = (refl, refl);
  not_alone = λ a. apart 1 2 (sym (ap (λ (l : Rows Adder). length l) a.0)) (omega arith);
  owned = owned_here;
  owned_twice = owned_twice_here;
  owned_by_nobody = owned_by_nobody_here;
  aware = aware_here;
  not_aware = λ w. apart 0 1 (sym (w.own 0 (view ((1, child_record) ∷ []) two) 1 child_record refl (0, refl))) (omega arith);
  not_a_beginning = λ w. let p = w.seen 0 (view [] stale) refl in apart 0 1 (ap (λ (a : Access). a.found) (some-injective (adds 1 0) (adds 1 1) (at
      (stale ++ p.0) four p.1 2))) (omega arith);
  pass = refl;
  after = refl;
  all = (refl, (refl, tt));
  not_all = λ a. apart 3 4 (ap (λ (l : List Access). length l) a.1.0) (omega arith);
  nothing = nothing_changes;
  something = λ s. apart 0 1 (sym (s 0 (adds 0 0) refl)) (omega arith);
  nothing_by = λ i a e is. absurd (each_access (λ i a. a.by ≡ Some 2
      → ⊥) (λ e. apart 0 2 (number 0 2 e) (omega arith)) (λ e. apart 0 2 (number 0 2 e) (omega arith)) (λ e. apart 1 2 (number 1 2 e)
      (omega arith)) (λ e. some_none 2 (sym e)) i a e is);
  something_by = λ s. apart 1 2 (sym (s 2 (adds 1 1) refl refl)) (omega arith);
  looked = record {
    front = [];
    rest = adds 1 1 ∷ [];
    is = refl;
    own = refl;
    still = λ i a e is. absurd (some-ne-none a (sym e));
  };
  not_looked = λ l. looks l.front l.rest l.is l.own l.still;
}
  where
    not_main : HasRow rows 1 main_adder → ⊥
    not_main (zero, e) = let q : ℕ × Adder = (0, main_adder) in let r : ℕ × Adder = (1, main_adder) in apart 0 1 (ap (λ (z : ℕ
        × Adder). z.0) (some-injective q r e)) (omega arith)
    not_main (suc zero, e) = let q : ℕ × Adder = (1, child_record) in let r : ℕ × Adder = (1, main_adder) in apart 1 2 (ap (λ (z : ℕ
        × Adder). z.1.accesses) (some-injective q r e)) (omega arith)
    not_main (suc (suc k), e) = let r : ℕ × Adder = (1, main_adder) in some-ne-none r (sym e)

    nothing_changes : ChangesNothing (glance Load 2 ∷ access 1 Load 0 2 2 ∷ [])
    nothing_changes zero a e = subst (λ (x : Access). x.left ≡ x.found) (some-injective (glance Load 2) a e) refl
    nothing_changes (suc zero) a e = subst (λ (x : Access). x.left ≡ x.found) (some-injective (access 1 Load 0 2 2) a e) refl
    nothing_changes (suc (suc i)) a e = absurd (some-ne-none a (sym e))

    looks : (front rest : List Access) → three ≡ (two ++ front) ++ rest → accesses child_record ≡ accesses_by 1 (two ++ front)
        → ChangesNothingBy 1 front → ⊥
    looks [] rest is own still = apart 0 1 (sym own) (omega arith)
    looks (a ∷ front) rest is own still =
        let same : adds 1 1 ≡ a = some-injective (adds 1 1) a (at three ((two ++ a ∷ front) ++ rest) is 2) in
        let none = still 0 a refl (sym (ap (λ (x : Access). x.by) same)) in
        apart 1 2 (sym (subst (λ (x : Access). x.left ≡ x.found) (sym same) none)) (omega arith)

pub rule_examples : RuleExamples
rule_examples = record {
  counts = counts_here;
  miscounts = miscounts_here;
  account = account_here;
  no_account = no_account_here;
  explained = record {
    recs = recs;
    history = four;
    account = account_here;
    owner = owner;
    owned = owned_here;
    aware = aware_here;
  };
  unexplained = λ k. lost k.recs k.owner k.owned k.account.explains.as_many k.account.explains.drawn;
  closing = record {
    recs = recs;
    history = four;
    account = account_here;
    seen = (glance Join 2 ∷ [], refl);
    here = λ g c has. let t = in_row 1 child_record g c has in (rw (← t.0, ← t.1) refl, rw (← t.0, ← t.1) refl);
  };
  not_closing = λ k. apart 0 1 (sym (k.here 1 child_record (1, refl)).1) (omega arith);
}
  where
    owned_by_main : (rs : List Adder) (owner : ℕ → ℕ) → Owned (child_view ∷ []) rs owner → (c : Adder) → get_elem? rs 0 ≡ some c → ⊥
    owned_by_main rs owner o c e = let t = o.there 0 c e in go (owner 0) t.0 t.1 t.2
      where
        go : (id : ℕ) (v : View Adder) → get_elem? (child_view ∷ []) id ≡ some v → HasRow v.records 0 c → ⊥
        go zero v e has = let s = in_row 1 child_record 0 c (subst (λ (u : View Adder). HasRow u.records 0 c) (sym
            (some-injective child_view v e)) has) in apart 0 1 (sym s.0) (omega arith)
        go (suc id) v e has = some-ne-none v (sym e)

    lost : (rs : List Adder) (owner : ℕ → ℕ) → Owned (child_view ∷ []) rs owner → length rs ≡ min (suc (draws rs)) 8 → 2 ≡ suc (draws rs) → ⊥
    lost [] owner o many drawn = let m : 0 ≡ min 2 8 = many ∙ ap (λ (n : ℕ). min n 8) (sym drawn) in apart 0 2 m (omega arith)
    lost (c ∷ rs) owner o many drawn = owned_by_main (c ∷ rs) owner o c refl

no_ninth : (n d : ℕ) → 8 < n → n ≡ min (suc d) 8 → ⊥
no_ninth n d low is = dite (dec_le (suc d) 8)
    (λ le. let e = is ∙ min-eq_left le in omega arith)
    (λ gt. let e = is ∙ min-eq_right {n = 8} {m = suc d} (omega arith) in omega arith)

pub move_examples : MoveExamples
move_examples = record {
  occurs = record { words = 2 ∷ 2 ∷ []; recs = recs; run = the_run; explains = counts_here; its = refl };
  ninth = λ c o.
      let low = at_below o.recs 8 c o.its in
      let many = o.explains.as_many in
      no_ninth (length o.recs) (draws o.recs) low many;
  no_draw = λ move. let r = move opening_words (new_adder ∷ []) [] start refl (omega arith) in not_drawn r.after r.tells_so r.explains.drawn;
  no_child = λ move. ⊎_elim (λ (r : Moved accesses (CountingExplains 8) opening_words (new_adder ∷ []) [] 0 new_adder 1 (λ n. suc n) (λ n d. (8 ≤ n)
      × (d ≡ drew new_adder))). let h = r.tells_so.0 in absurd (omega arith))
      (λ (r : MovedChild accesses (CountingExplains 8) opening_words (new_adder ∷ []) [] 0 new_adder 1 (λ n. suc n) (λ n d child. (d ≡ drew new_adder)
      × (child ≡ added new_adder))). apart 0 1 (sym (ap accesses (sym r.tells_so.1) ∙ r.new)) (omega arith))
      (move opening_words (new_adder ∷ []) [] start refl (omega arith));
  no_quiet_draw = λ still. let r = still opening_words (new_adder ∷ []) [] start refl in not_drawn (drew new_adder) refl r.1.drawn;
  told = record {
    after = child_record;
    between = [];
    tells_so = (refl, refl);
    alone = (refl, refl);
    seen = refl;
    others = refl;
    counts = refl;
  };
  untold = λ t. longer t.between t.seen;
  told_child = record {
    after = main_adder;
    child = new_adder;
    between = [];
    tells_so = refl;
    later = omega arith;
    both = (refl, refl);
    seen = refl;
    others = refl;
    counts = refl;
    new = refl;
  };
  untold_child = λ t. apart 1 2 (ap (λ (l : Rows Adder). length l) t.both.0) (omega arith);
  glanced = record {
    between = adds 1 1 ∷ [];
    records = refl;
    slots = refl;
    seen = refl;
    own = λ g c has. let t = in_row 0 main_adder g c has in rw (← t.0, ← t.1) refl;
  };
  not_glanced = λ t. not_one t.between t.seen;
  miscounted = λ t. apart 0 1 (t.own 1 new_adder (0, refl)) (omega arith);
}
  where
    start : CountingExplains 8 opening_words (new_adder ∷ []) []
    start = first_counts 8 (omega arith) (omega arith)

    not_drawn : (d : Adder) → d ≡ drew new_adder → 1 ≡ suc (draws (d ∷ [])) → ⊥
    not_drawn d e drawn = apart 1 2 (drawn ∙ ap (λ (c : Adder). suc (draws (c ∷ []))) e) (omega arith)

    longer : (between : List Access) → two ≡ (two ++ between) ++ access 1 DrawTicket 0 1 2 ∷ [] → ⊥
    longer between e = let n : 2 ≡ length ((two ++ between) ++ access 1 DrawTicket 0 1 2 ∷ []) = ap (λ (l : List Access). length l) e in
        let a = length-append (two ++ between) (access 1 DrawTicket 0 1 2 ∷ []) in let b = length-append two between in
        let t : length two ≡ 2 = refl in omega arith

    not_one : (between : List Access) → three ≡ (two ++ between) ++ glance Load 2 ∷ [] → ⊥
    not_one [] e = some_none 1 (ap (λ (a : Access). a.by) (some-injective (adds 1 1) (glance Load 2) (at three (two ++ glance Load 2 ∷ []) e 2)))
    not_one (a ∷ between) e = let n : 3 ≡ length ((two ++ a ∷ between) ++ glance Load 2 ∷ []) = ap (λ (l : List Access). length l) e in
        let x = length-append (two ++ a ∷ between) (glance Load 2 ∷ []) in let y = length-append two (a ∷ between) in
        let t : length two ≡ 2 = refl in omega arith
