-- The laws of the machine that adds: each conjunct of its explanation after each kind of event. The hard one is the draw, whose two
-- outcomes come from one comparison of the number found with the limit.
use Rattle.std.proofs.Common.{◌≡◌, ℕ, zero, suc, ◌+◌, ◌%◌, ◌<◌, ◌≤◌, ◌⊎◌, inl, inr, ◌≢◌, ◌==◌, min, cond, Bool, true, false, List, [], ◌∷◌, ◌++◌, Some, None, length, set, slice_index, count_by, refl, ap, sym, ◌∙◌, ⊎_elim, arith, length-append}
use mathlib.Core.Logic.{dite}
use mathlib.Core.Option.{some, some-injective, some-ne-none}
use native.Mathlib.Decide.{dec_le}
use lib.ListN.{get_elem?}
use Rattle.std.proofs.Math.ListN.{length-set}
use Rattle.std.proofs.Math.Nat.{mod-add-mod, mod-eq_of_lt, min-eq_left, min-eq_right}
use Rattle.std.proofs.lemmas.Bool.Decides.{nat_tests}
use Rattle.std.proofs.lemmas.List.{append-nil}
use Rattle.std.proofs.lemmas.List.Sums.{sum_by-append, count_by-le-length}
use Rattle.atomic_table.proofs.Lists.{at_set}
use Rattle.rgo_core_rule.specs.Counting.{AdderEvent, Adds, Starts, Idles, CountingExplains, added, idled, drew, draws, is_add, is_add_of, is_idle_of, is_start, new_adder, DidStart}
use Rattle.rgo_core_rule.specs.Steps.{Move, MoveEither, Moved, MovedChild, Still, Told, ToldChild}
use Rattle.rgo_core_rule.specs.Views.{Me, number_of, record_of}
use Rattle.rgo_core_rule.specs.declared.accesses.Kind.TheVariants.{DrawNumber}
use Rattle.rgo_core_rule.specs.declared.counting.Adder.{Adder}
use Rattle.rgo_core_rule.proofs.Lists.{at_below, snoc_at}

abbrev pub accesses : Adder → ℕ
accesses c = c.accesses

abbrev pub one_if : Bool → ℕ
one_if t = cond t 1 0

count_more : {A : Type 0} (p : A → Bool) (xs : List A) (x : A) → count_by p (xs ++ x ∷ []) ≡ count_by p xs + one_if (p x)
count_more p xs x = sum_by-append (λ y. one_if (p y)) xs (x ∷ []) ∙ omega arith

count_cons : {A : Type 0} (p : A → Bool) (x : A) (xs : List A) → count_by p (x ∷ xs) ≡ one_if (p x) + count_by p xs
count_cons p x xs = sum_by-append (λ y. one_if (p y)) (x ∷ []) xs ∙ omega arith

same : (g h : ℕ) → g ≡ h → one_if (g == h) ≡ 1
same g h e = go (g == h) (grind (arith, nat_tests))
  where
    go : (t : Bool) → t ≡ true → one_if t ≡ 1
    go t e = rw e refl

pub other : (g h : ℕ) → g ≢ h → one_if (g == h) ≡ 0
other g h e = go (g == h) (grind (arith, nat_tests))
  where
    go : (t : Bool) → t ≡ false → one_if t ≡ 0
    go t e = rw e refl

draws_set : (recs : List Adder) (g : ℕ) (c d : Adder) → get_elem? recs g ≡ some c
    → draws (set recs g d) + one_if c.has_drawn ≡ draws recs + one_if d.has_drawn
draws_set [] g c d e = absurd (some-ne-none c (sym e))
draws_set (x ∷ recs) zero c d e =
    let a = count_cons (λ (y : Adder). y.has_drawn) d recs in
    let b = count_cons (λ (y : Adder). y.has_drawn) x recs in
    let s : one_if x.has_drawn ≡ one_if c.has_drawn = ap (λ (y : Adder). one_if y.has_drawn) (some-injective x c e) in
    omega arith
draws_set (x ∷ recs) (suc g) c d e =
    let a = count_cons (λ (y : Adder). y.has_drawn) x (set recs g d) in
    let b = count_cons (λ (y : Adder). y.has_drawn) x recs in
    let h = draws_set recs g c d e in
    omega arith

module _ (limit g : ℕ) (c : Adder) (words : List ℕ) (recs : List Adder) (run : List AdderEvent) (k : CountingExplains limit words recs run)
    (at : get_elem? recs g ≡ some c) where
  in_recs : g < length recs
  in_recs = at_below recs g c at

  -- the counts of goroutines after an event of g
  module _ (x : AdderEvent) (d : Adder) (p : ℕ → AdderEvent → Bool) (f : Adder → ℕ) (was : (h : ℕ) (y : Adder) → get_elem? recs h ≡ some y
      → f y ≡ count_by (p h) run) (own : f d ≡ f c + one_if (p g x)) (else : (h : ℕ) → h ≢ g → one_if (p h x) ≡ 0) where
    each : (h : ℕ) (y : Adder) → get_elem? (set recs g d) h ≡ some y → f y ≡ count_by (p h) (run ++ x ∷ [])
    each h y e = ⊎_elim
        (λ (t : (h ≡ g) × (d ≡ y)). ap f (sym t.1) ∙ (own ∙ (ap (λ (n : ℕ). n + one_if (p g x)) (was g c at) ∙ (sym (count_more (p g) run x)
        ∙ ap (λ (j : ℕ). count_by (p j) (run ++ x ∷ [])) (sym t.0)))))
        (λ (t : (h ≢ g) × (get_elem? recs h ≡ some y)). let a = was h y t.1 in let b = count_more (p h) run x in let o = else h t.0 in omega arith)
        (at_set recs g h d y e)

    none : (h : ℕ) → length (set recs g d) ≤ h → count_by (p h) run ≡ 0 → count_by (p h) (run ++ x ∷ []) ≡ 0
    none h le zero_yet =
        let l = length-set recs g d in
        let m = in_recs in
        let o = else h (λ e. omega arith) in
        let b = count_more (p h) run x in
        omega arith

  wide_set : (i n : ℕ) → length (set words i n) ≡ 2
  wide_set i n = length-set words i n ∙ k.wide

  pub adds : Moved accesses (CountingExplains limit) words recs run g c 0 (λ n. (n + 1) % 18446744073709551616) (λ n d. d ≡ added c)
  adds = record {
    after = added c;
    gain = Adds g ∷ [];
    explains = record {
      wide = wide_set 0 _;
      total = here words k.wide ((slice_index words 0 + 1) % 18446744073709551616)
          ∙ (ap (λ (n : ℕ). (n + 1) % 18446744073709551616) k.total ∙ (mod-add-mod (count_by is_add run) 18446744073709551616 1
          ∙ ap (λ (n : ℕ). n % 18446744073709551616) (sym (count_more is_add run (Adds g)))));
      drawn = let e = draws_set recs g c (added c) at in there words k.wide _ ∙ (k.drawn ∙ omega arith);
      as_many = let e = draws_set recs g c (added c) at in let m : draws (set recs g (added c)) ≡ draws recs = omega arith in
          length-set recs g (added c) ∙ (k.as_many ∙ ap (λ (n : ℕ). min (suc n) limit) (sym m));
      started = let a = count_more is_start run (Adds g) in let l = length-set recs g (added c) in let s = k.started in omega arith;
      added = each (Adds g) (added c) is_add_of (λ (y : Adder). y.added) k.added (let s = same g g refl in omega arith) (λ h ne. other g h (λ e. ne
          (sym e)));
      idled = each (Adds g) (added c) is_idle_of (λ (y : Adder). y.idled) k.idled (omega arith) (λ h ne. refl);
      others = λ h le. let l = length-set recs g (added c) in let o = k.others h (omega arith) in (
        none (Adds g) (added c) is_add_of (λ (y : Adder). y.added) k.added (let s = same g g refl in omega arith) (λ h ne. other g h (λ e. ne
            (sym e))) h le o.0,
        none (Adds g) (added c) is_idle_of (λ (y : Adder). y.idled) k.idled (omega arith) (λ h ne. refl) h le o.1,
      );
      some_limit = k.some_limit;
      fits = k.fits;
    };
    counts = refl;
    tells_so = refl;
  }
    where
      here : (ws : List ℕ) → length ws ≡ 2 → (n : ℕ) → slice_index (set ws 0 n) 0 ≡ n
      here [] e n = absurd (omega arith)
      here (w ∷ ws) e n = refl

      there : (ws : List ℕ) → length ws ≡ 2 → (n : ℕ) → slice_index (set ws 0 n) 1 ≡ slice_index ws 1
      there [] e n = absurd (omega arith)
      there (w ∷ ws) e n = refl

  pub idles : (gain : List AdderEvent) × CountingExplains limit words (set recs g (idled c)) (run ++ gain)
  idles = (
    Idles g ∷ [],
    record {
      wide = k.wide;
      total = k.total ∙ ap (λ (n : ℕ). n % 18446744073709551616) (let a = count_more is_add run (Idles g) in omega arith);
      drawn = let e = draws_set recs g c (idled c) at in k.drawn ∙ omega arith;
      as_many = let e = draws_set recs g c (idled c) at in let m : draws (set recs g (idled c)) ≡ draws recs = omega arith in
          length-set recs g (idled c) ∙ (k.as_many ∙ ap (λ (n : ℕ). min (suc n) limit) (sym m));
      started = let a = count_more is_start run (Idles g) in let l = length-set recs g (idled c) in let s = k.started in omega arith;
      added = each (Idles g) (idled c) is_add_of (λ (y : Adder). y.added) k.added (omega arith) (λ h ne. refl);
      idled = each (Idles g) (idled c) is_idle_of (λ (y : Adder). y.idled) k.idled (let s = same g g refl in omega arith) (λ h ne. other g h
          (λ e. ne (sym e)));
      others = λ h le. let l = length-set recs g (idled c) in let o = k.others h (omega arith) in (
        none (Idles g) (idled c) is_add_of (λ (y : Adder). y.added) k.added (omega arith) (λ h ne. refl) h le o.0,
        none (Idles g) (idled c) is_idle_of (λ (y : Adder). y.idled) k.idled (let s = same g g refl in omega arith) (λ h ne. other g h (λ e. ne
            (sym e))) h le o.1,
      );
      some_limit = k.some_limit;
      fits = k.fits;
    },
  )

  module _ (never : c.has_drawn ≡ false) where
    more : draws (set recs g (drew c)) ≡ suc (draws recs)
    more = let e = draws_set recs g c (drew c) at in let z : one_if c.has_drawn ≡ 0 = ap one_if never in omega arith

    few : draws recs ≤ length recs
    few = count_by-le-length (λ (y : Adder). y.has_drawn) recs

    here : (ws : List ℕ) → length ws ≡ 2 → (n : ℕ) → slice_index (set ws 1 n) 1 ≡ n
    here [] e n = absurd (omega arith)
    here (w ∷ []) e n = absurd (omega arith)
    here (w ∷ v ∷ ws) e n = refl

    there : (ws : List ℕ) → length ws ≡ 2 → (n : ℕ) → slice_index (set ws 1 n) 0 ≡ slice_index ws 0
    there [] e n = absurd (omega arith)
    there (w ∷ ws) e n = refl

    -- the word is one more
    drawn_more : length recs ≤ limit → slice_index (set words 1 ((slice_index words 1 + 1) % 18446744073709551616)) 1 ≡ suc (suc (draws recs))
    drawn_more le =
        let d = k.drawn in
        let f = few in
        let z = k.fits in
        here words k.wide ((slice_index words 1 + 1) % 18446744073709551616) ∙ (mod-eq_of_lt (omega arith) ∙ omega arith)

    refused : limit ≤ slice_index words 1
        → Moved accesses (CountingExplains limit) words recs run g c 1 (λ n. (n + 1) % 18446744073709551616) (λ n d. (limit ≤ n) × (d ≡ drew c))
    refused full = let many = full_many in record {
      after = drew c;
      gain = [];
      explains = rw (append-nil run) (record {
        wide = wide_set 1 _;
        total = there words k.wide _ ∙ k.total;
        drawn = drawn_more (omega arith) ∙ ap suc (sym more);
        as_many = length-set recs g (drew c) ∙ (many ∙ sym (ap (λ (n : ℕ). min (suc n) limit) more ∙ min-eq_right (let d = k.drawn in omega arith)));
        started = length-set recs g (drew c) ∙ k.started;
        added = λ h y e. stays (λ (z : Adder). z.added) h y refl e k.added;
        idled = λ h y e. stays_idle h y e;
        others = λ h le. let l = length-set recs g (drew c) in k.others h (omega arith);
        some_limit = k.some_limit;
        fits = k.fits;
      });
      counts = refl;
      tells_so = (full, refl);
    }
      where
        full_many : length recs ≡ limit
        full_many = k.as_many ∙ min-eq_right (let d = k.drawn in omega arith)

        stays : (f : Adder → ℕ) (h : ℕ) (y : Adder) → f (drew c) ≡ f c → get_elem? (set recs g (drew c)) h ≡ some y → ((j : ℕ) (z : Adder)
            → get_elem? recs j ≡ some z → f z ≡ count_by (is_add_of j) run) → f y ≡ count_by (is_add_of h) run
        stays f h y eq e was = ⊎_elim
            (λ (t : (h ≡ g) × (drew c ≡ y)). ap f (sym t.1) ∙ (eq ∙ (was g c at ∙ ap (λ (j : ℕ). count_by (is_add_of j) run) (sym t.0))))
            (λ (t : (h ≢ g) × (get_elem? recs h ≡ some y)). was h y t.1)
            (at_set recs g h (drew c) y e)

        stays_idle : (h : ℕ) (y : Adder) → get_elem? (set recs g (drew c)) h ≡ some y → y.idled ≡ count_by (is_idle_of h) run
        stays_idle h y e = ⊎_elim
            (λ (t : (h ≡ g) × (drew c ≡ y)). ap (λ (z : Adder). z.idled) (sym t.1) ∙ (k.idled g c at
            ∙ ap (λ (j : ℕ). count_by (is_idle_of j) run) (sym t.0)))
            (λ (t : (h ≢ g) × (get_elem? recs h ≡ some y)). k.idled h y t.1)
            (at_set recs g h (drew c) y e)

    begins : slice_index words 1 < limit
        → MovedChild accesses (CountingExplains limit) words recs run g c 1 (λ n. (n + 1) % 18446744073709551616) (λ n d child. (n < limit) × (d ≡ drew c)
        × (child ≡ new_adder))
    begins low = record {
      after = drew c;
      child = new_adder;
      gain = Starts g ∷ [];
      explains = record {
        wide = wide_set 1 _;
        total = there words k.wide _ ∙ (k.total ∙ ap (λ (n : ℕ). n % 18446744073709551616) (let a = count_more is_add run (Starts g) in omega arith));
        drawn = drawn_more (let m = many in omega arith) ∙ ap suc (sym all);
        as_many = long ∙ sym (ap (λ (n : ℕ). min (suc n) limit) all ∙ (min-eq_left (let d = k.drawn in omega arith)
            ∙ (let d = k.drawn in let m = many in omega arith)));
        started = long ∙ (let a = count_more is_start run (Starts g) in let s = k.started in omega arith);
        added = λ h y e. ⊎_elim
            (λ t. each (Starts g) (drew c) is_add_of (λ (z : Adder). z.added) k.added (omega arith) (λ h ne. refl) h y t)
            (λ t. ap (λ (z : Adder). z.added) (sym t.1)
            ∙ sym (let a = count_more (is_add_of h) run (Starts g) in let l = length-set recs g (drew c) in let o = (k.others h
            (let q = t.0 in omega arith)).0 in omega arith))
            (snoc_at (set recs g (drew c)) new_adder y h e);
        idled = λ h y e. ⊎_elim
            (λ t. each (Starts g) (drew c) is_idle_of (λ (z : Adder). z.idled) k.idled (omega arith) (λ h ne. refl) h y t)
            (λ t. ap (λ (z : Adder). z.idled) (sym t.1)
            ∙ sym (let a = count_more (is_idle_of h) run (Starts g) in let l = length-set recs g (drew c) in let o = (k.others h
            (let q = t.0 in omega arith)).1 in omega arith))
            (snoc_at (set recs g (drew c)) new_adder y h e);
        others = λ h le. let l = long in let o = k.others h (omega arith) in (
          let a = count_more (is_add_of h) run (Starts g) in let z = o.0 in omega arith,
          let a = count_more (is_idle_of h) run
              (Starts g) in let z = o.1 in omega arith,
        );
        some_limit = k.some_limit;
        fits = k.fits;
      };
      counts = refl;
      new = refl;
      number = sym many;
      tells_so = (low, refl, refl);
    }
      where
        many : length recs ≡ slice_index words 1
        many = let d = k.drawn in k.as_many ∙ (min-eq_left (omega arith) ∙ sym d)

        long : length (set recs g (drew c) ++ new_adder ∷ []) ≡ suc (length recs)
        long = let a = length-append (set recs g (drew c)) (new_adder ∷ []) in let b = length-set recs g (drew c) in omega arith

        all : draws (set recs g (drew c) ++ new_adder ∷ []) ≡ suc (draws recs)
        all = let a = count_more (λ (y : Adder). y.has_drawn) (set recs g (drew c)) new_adder in let b = more in omega arith

    pub draws_number : Moved accesses (CountingExplains limit) words recs run g c 1 (λ n. (n + 1) % 18446744073709551616) (λ n d. (limit ≤ n) × (d ≡ drew c))
        ⊎ MovedChild accesses (CountingExplains limit) words recs run g c 1 (λ n. (n + 1) % 18446744073709551616) (λ n d child. (n < limit) × (d ≡ drew c)
        × (child ≡ new_adder))
    draws_number = dite (dec_le limit (slice_index words 1)) (λ le. inl (refused le)) (λ gt. inr (begins (omega arith)))

pub add_moves : (limit g : ℕ) (c : Adder) → Move accesses (CountingExplains limit) g c 0 (λ n. (n + 1) % 18446744073709551616) (λ n d. d ≡ added c)
add_moves limit g c words recs run k at fits = adds limit g c words recs run k at

pub start_moves : (limit g : ℕ) (c : Adder) → c.has_drawn ≡ false
    → MoveEither accesses (CountingExplains limit) g c 1 (λ n. (n + 1) % 18446744073709551616) (λ n d. (limit ≤ n) × (d ≡ drew c)) (λ n d child. (n < limit)
    × (d ≡ drew c) × (child ≡ new_adder))
start_moves limit g c never words recs run k at fits = draws_number limit g c words recs run k at never

pub idle_still : (limit g : ℕ) (c : Adder) → Still accesses (CountingExplains limit) g c (idled c)
idle_still limit g c words recs run k at = idles limit g c words recs run k at

pub first_counts : (limit : ℕ) → 0 < limit → limit < 9223372036854775808 → CountingExplains limit (0 ∷ 1 ∷ []) (new_adder ∷ []) []
first_counts limit low high = record {
  wide = refl;
  total = refl;
  drawn = refl;
  as_many = sym (min-eq_left (omega arith));
  started = refl;
  added = zero_of (λ (y : Adder). y.added) refl;
  idled = zero_of (λ (y : Adder). y.idled) refl;
  others = λ h le. (refl, refl);
  some_limit = low;
  fits = high;
}
  where
    zero_of : (f : Adder → ℕ) → f new_adder ≡ 0 → (h : ℕ) (y : Adder) → get_elem? (new_adder ∷ []) h ≡ some y → f y ≡ 0
    zero_of f z zero y e = ap f (sym (some-injective new_adder y e)) ∙ z
    zero_of f z (suc h) y e = absurd (some-ne-none y (sym e))

-- what is known after a draw is what `start` promises
abbrev pub Drew : ℕ → Me Adder → ℕ → Me Adder → Type 0
Drew limit m n w =
    Told accesses (number_of m) DrawNumber 1 (λ n. (n + 1) % 18446744073709551616) (λ n d. (limit ≤ n) × (d ≡ drew (record_of new_adder m))) m n w
    ⊎ ToldChild accesses (number_of m) DrawNumber 1 (λ n. (n + 1) % 18446744073709551616) (λ n d child. (n < limit)
    × (d ≡ drew (record_of new_adder m)) × (child ≡ new_adder)) m n w

pub started_some : (limit : ℕ) (m : Me Adder) (n : ℕ) (w : Me Adder) → n < limit → Drew limit m n w → DidStart limit m (Some n) w
started_some limit m n w low (inl t) = let h = t.tells_so.0 in absurd (omega arith)
started_some limit m n w low (inr t) = (low, t)

pub started_none : (limit : ℕ) (m : Me Adder) (n : ℕ) (w : Me Adder) → limit ≤ n → Drew limit m n w → DidStart limit m None w
started_none limit m n w high (inl t) = (n, high, t)
started_none limit m n w high (inr t) = let h = t.tells_so.0 in absurd (omega arith)
