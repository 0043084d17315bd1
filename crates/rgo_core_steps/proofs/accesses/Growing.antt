-- What several accesses leave, from what each of them leaves. A filter takes a goroutine's own accesses out of all that its seat has seen,
-- and it goes over appends.
use Rattle.std.proofs.Common.{◌≡◌, ℕ, zero, suc, ◌+◌, ◌<◌, Bool, true, false, List, [], ◌∷◌, ◌++◌, length, Option, Some, None, if◌then◌else◌, cond, refl, ap, sym, subst, ◌∙◌, ⊎_elim, arith, append_assoc}
use mathlib.Core.Option.{some, some-injective, some-ne-none}
use lib.ListN.{get_elem?}
use Rattle.std.proofs.lemmas.List.{append-nil}
use Rattle.rgo_core.specs.Rule.Histories.{access, accesses_by, is_number}
use Rattle.rgo_core.specs.Rule.Passes.{ChangesNothingBy}
use Rattle.rgo_core.specs.Rule.Steps.{LeavesOnSeat}
use Rattle.rgo_core.specs.Rule.Views.{IsAlone, Me, number_in, number_of, record_in, record_of}
use Rattle.rgo_core.specs.Rule.declared.accesses.Access.{Access}
use Rattle.rgo_core.specs.Rule.declared.accesses.Kind.{Kind}
use Rattle.rgo_core.proofs.Rule.Histories.{by_append, by_own, by_some}
use Rattle.rgo_core.proofs.Rule.Lists.{append_at, at_append}
use Rattle.std.proofs.lemmas.Bool.Decides.{nat_tests}
use Rattle.rgo_core_steps.specs.Grown.{Found, SeatGrew, Made, own_by}

-- ---- accesses of one goroutine that change no word

pub still_none : (g : ℕ) (es : List Access) → accesses_by g es ≡ 0 → ChangesNothingBy g es
still_none g es none i a e is = absurd (let n = by_some es g i a e is in omega arith)

pub still_append : (g : ℕ) (xs ys : List Access) → ChangesNothingBy g xs → ChangesNothingBy g ys → ChangesNothingBy g (xs ++ ys)
still_append g xs ys p q i a e is = ⊎_elim (λ t. p i a t is) (λ t. q t.0 a t.1 is) (append_at xs ys i a e)

still_one : (g : ℕ) (b : Access) → b.left ≡ b.found → ChangesNothingBy g (b ∷ [])
still_one g b same zero a e is = subst (λ (x : Access). x.left ≡ x.found) (some-injective b a e) same
still_one g b same (suc i) a e is = absurd (some-ne-none a (sym e))

-- ---- what was found

at_left : {A : Type 0} (xs ys : List A) (i : ℕ) (a : A) → get_elem? xs i ≡ some a → get_elem? (xs ++ ys) i ≡ some a
at_left [] ys i a e = absurd (some-ne-none a (sym e))
at_left (x ∷ xs) ys zero a e = e
at_left (x ∷ xs) ys (suc i) a e = at_left xs ys i a e

module _ (g : ℕ) (xs ys : List Access) (kind : Kind) (i n : ℕ) where
  pub found_left : Found g xs kind i n → Found g (xs ++ ys) kind i n
  found_left s = record {
    place = s.place;
    access = s.access;
    there = at_left xs ys s.place s.access s.there;
    own = s.own;
    of_kind = s.of_kind;
    word = s.word;
    found = s.found;
  }

  pub found_right : Found g ys kind i n → Found g (xs ++ ys) kind i n
  found_right s =
      let r = at_append xs ys s.place s.access s.there in
      record {
        place = r.0;
        access = s.access;
        there = r.1;
        own = s.own;
        of_kind = s.of_kind;
        word = s.word;
        found = s.found;
      }

-- ---- one goroutine's own

is_its : (g : ℕ) (o : Option ℕ) → is_number g o ≡ true → o ≡ Some g
is_its g None e = absurd (let z : false ≡ true = e in cc z)
is_its g (Some h) e = ap Some (grind (arith, nat_tests))

number_same : (g : ℕ) → is_number g (Some g) ≡ true
number_same g = grind (arith, nat_tests)

abbrev one_if : Bool → ℕ
one_if t = cond t 1 0

module _ (g : ℕ) where
  abbrev put_if : Bool → Access → List Access → List Access
  put_if b a es = if b then a ∷ es else es

  pub own_append : (xs ys : List Access) → own_by g (xs ++ ys) ≡ own_by g xs ++ own_by g ys
  own_append [] ys = refl
  own_append (x ∷ xs) ys = by (is_number g x.by) (own_append xs ys)
    where
      by : (b : Bool) → own_by g (xs ++ ys) ≡ own_by g xs ++ own_by g ys
          → put_if b x (own_by g (xs ++ ys)) ≡ put_if b x (own_by g xs) ++ own_by g ys
      by true more = ap (λ (l : List Access). x ∷ l) more
      by false more = more

  pub own_count : (es : List Access) → length (own_by g es) ≡ accesses_by g es
  own_count [] = refl
  own_count (x ∷ es) = by (is_number g x.by) refl (own_count es)
    where
      by : (b : Bool) → is_number g x.by ≡ b → length (own_by g es) ≡ accesses_by g es
          → length (put_if b x (own_by g es)) ≡ accesses_by g (x ∷ es)
      by true e more = let a = by_append g (x ∷ []) es in let c : one_if (is_number g x.by) ≡ 1 = ap one_if e in omega arith
      by false e more = let a = by_append g (x ∷ []) es in let c : one_if (is_number g x.by) ≡ 0 = ap one_if e in omega arith

  pub own_none : (es : List Access) → accesses_by g es ≡ 0 → own_by g es ≡ []
  own_none es none = empty (own_by g es) (own_count es ∙ none)
    where
      empty : (l : List Access) → length l ≡ 0 → l ≡ []
      empty [] e = refl
      empty (x ∷ l) e = absurd (omega (arith, e))

  pub own_access : (kind : Kind) (i n x : ℕ) → own_by g (access g kind i n x ∷ []) ≡ access g kind i n x ∷ []
  own_access kind i n x = ap (λ b. put_if b (access g kind i n x) []) (number_same g)

  -- a fact about its own accesses holds of each of them
  pub own_at : (es : List Access) (j : ℕ) (a : Access) → get_elem? (own_by g es) j ≡ some a
      → (i : ℕ) × (get_elem? es i ≡ some a) × (a.by ≡ Some g)
  own_at [] j a e = absurd (some-ne-none a (sym e))
  own_at (x ∷ es) j a e = by (is_number g x.by) refl j e (λ k q. let r = own_at es k a q in (suc r.0, r.1, r.2))
    where
      by : (b : Bool) → is_number g x.by ≡ b → (k : ℕ) → get_elem? (put_if b x (own_by g es)) k ≡ some a
          → ((k : ℕ) → get_elem? (own_by g es) k ≡ some a → (i : ℕ) × (get_elem? (x ∷ es) i ≡ some a) × (a.by ≡ Some g))
          → (i : ℕ) × (get_elem? (x ∷ es) i ≡ some a) × (a.by ≡ Some g)
      by true is zero q later = (0, q, ap (λ (y : Access). y.by) (sym (some-injective x a q)) ∙ is_its g x.by is)
      by true is (suc k) q later = later k q
      by false is k q later = later k q

  pub own_has : (es : List Access) (i : ℕ) (a : Access) → get_elem? es i ≡ some a → a.by ≡ Some g
      → (j : ℕ) × (get_elem? (own_by g es) j ≡ some a)
  own_has [] i a e is = absurd (some-ne-none a (sym e))
  own_has (x ∷ es) zero a e is = (
    0,
    ap (λ b. get_elem? (put_if b x (own_by g es)) 0) (ap (λ (y : Access). is_number g y.by) (some-injective x a e)
        ∙ (ap (is_number g) is ∙ number_same g)) ∙ e,
  )
  own_has (x ∷ es) (suc i) a e is = by (is_number g x.by) (own_has es i a e is)
    where
      by : (b : Bool) → (j : ℕ) × (get_elem? (own_by g es) j ≡ some a) → (j : ℕ) × (get_elem? (put_if b x (own_by g es)) j ≡ some a)
      by true more = (suc more.0, more.1)
      by false more = more

-- ---- one access

module _ {R : Type 0} (accesses : R → ℕ) (blank : R) where
  module _ (m w : Me R) (kind : Kind) (i n : ℕ) (f : ℕ → ℕ) (tells : ℕ → R → Type 0)
      (l : LeavesOnSeat accesses blank kind i f tells m n w) where
    abbrev pub told_accesses : List Access
    told_accesses = l.1.between ++ access (number_of m) kind i n (f n) ∷ []

    pub told_record : tells n (record_of blank w)
    told_record = subst (tells n) (sym (ap (record_in blank) l.1.alone.0)) l.1.tells_so

    told_one : accesses_by (number_of m) told_accesses ≡ 1
    told_one =
        let a = by_append (number_of m) l.1.between (access (number_of m) kind i n (f n) ∷ []) in
        let b = by_own (number_of m) kind i n (f n) in
        let c = l.1.others in
        omega arith

    pub told_grew : accesses (record_of blank w) ≡ suc (accesses (record_of blank m)) → SeatGrew accesses blank m told_accesses w
    told_grew one = record {
      alone = l.0;
      same = ap number_in l.1.alone.0;
      seen = l.1.seen ∙ append_assoc m.0.seen l.1.between (access (number_of m) kind i n (f n) ∷ []);
      more = let b = told_one in omega (arith, one);
      counts = λ any. ap (λ rows. accesses (record_in blank rows)) l.1.alone.0 ∙ l.1.counts;
    }

    pub told_still : f n ≡ n → ChangesNothingBy (number_of m) told_accesses
    told_still same = still_append (number_of m) l.1.between (access (number_of m) kind i n (f n) ∷ [])
        (still_none (number_of m) l.1.between l.1.others)
        (still_one (number_of m) (access (number_of m) kind i n (f n)) same)

    pub told_own : own_by (number_of m) told_accesses ≡ access (number_of m) kind i n (f n) ∷ []
    told_own =
        own_append (number_of m) l.1.between (access (number_of m) kind i n (f n) ∷ [])
        ∙ (ap (λ (xs : List Access). xs ++ own_by (number_of m) (access (number_of m) kind i n (f n) ∷ [])) (own_none (number_of m) l.1.between l.1.others)
        ∙ own_access (number_of m) kind i n (f n))

    pub told_found : Found (number_of m) told_accesses kind i n
    told_found = found_right (number_of m) l.1.between (access (number_of m) kind i n (f n) ∷ []) kind i n (record {
      place = 0;
      access = access (number_of m) kind i n (f n);
      there = refl;
      own = refl;
      of_kind = refl;
      word = refl;
      found = refl;
    })

  -- ---- several accesses

  pub grew_none : (m : Me R) → IsAlone blank m → SeatGrew accesses blank m [] m
  grew_none m alone = record {
    alone = alone;
    same = refl;
    seen = sym (append-nil m.0.seen);
    more = omega arith;
    counts = λ any. absurd (omega (arith, any));
  }

  pub grew_then : (m v w : Me R) (xs ys : List Access) → SeatGrew accesses blank m xs v → SeatGrew accesses blank v ys w
      → SeatGrew accesses blank m (xs ++ ys) w
  grew_then m v w xs ys a b =
      let both = by_append (number_of m) xs ys in
      let same : accesses_by (number_of v) ys ≡ accesses_by (number_of m) ys = ap (λ g. accesses_by g ys) a.same in
      let first = a.more in
      let second = b.more in record {
        alone = b.alone;
        same = b.same ∙ a.same;
        seen = b.seen ∙ (ap (λ (l : List Access). l ++ ys) a.seen ∙ append_assoc m.0.seen xs ys);
        more = omega arith;
        counts = counted;
      }
    where
      own : (k : ℕ) → accesses_by (number_of v) ys ≡ k → 0 < accesses_by (number_of m) (xs ++ ys)
          → accesses (record_of blank w) ≡ accesses_by (number_of v) w.0.seen
      own (suc k) e any = b.counts (omega (arith, e))
      own zero e any =
          let both = by_append (number_of m) xs ys in
          let same : accesses_by (number_of v) ys ≡ accesses_by (number_of m) ys = ap (λ g. accesses_by g ys) a.same in
          let count = a.counts (omega (arith, e, any)) in
          let goes : accesses_by (number_of m) v.0.seen ≡ accesses_by (number_of v) v.0.seen = ap (λ g. accesses_by g v.0.seen) (sym a.same) in
          let whole = by_append (number_of v) v.0.seen ys in
          let seen : accesses_by (number_of v) w.0.seen ≡ accesses_by (number_of v) (v.0.seen ++ ys) = ap (accesses_by (number_of v)) b.seen in
          let second = b.more in
          omega arith

      counted : 0 < accesses_by (number_of m) (xs ++ ys) → accesses (record_of blank w) ≡ accesses_by (number_of m) w.0.seen
      counted any = own (accesses_by (number_of v) ys) refl any ∙ ap (λ g. accesses_by g w.0.seen) a.same

  pub still_then : (m v w : Me R) (xs ys : List Access) → SeatGrew accesses blank m xs v → ChangesNothingBy (number_of m) xs
      → ChangesNothingBy (number_of v) ys → ChangesNothingBy (number_of m) (xs ++ ys)
  still_then m v w xs ys a p q =
      still_append (number_of m) xs ys p (subst (λ g. ChangesNothingBy g ys) a.same q)

  pub found_then : (m v : Me R) (xs ys : List Access) (kind : Kind) (i n : ℕ) → SeatGrew accesses blank m xs v
      → Found (number_of v) ys kind i n → Found (number_of m) (xs ++ ys) kind i n
  found_then m v xs ys kind i n a s =
      found_right (number_of m) xs ys kind i n (subst (λ g. Found g ys kind i n) a.same s)

  -- ---- what a call has made

  pub made_none : (m : Me R) → IsAlone blank m → Made accesses blank m (λ g. []) (record_of blank m) m
  made_none m alone = record { es = []; grew = grew_none m alone; own = refl; after = refl }

  pub made_one : (m w : Me R) (kind : Kind) (i n : ℕ) (f : ℕ → ℕ) (tells : ℕ → R → Type 0) (d : R) → LeavesOnSeat accesses blank kind i f tells m n w
      → (tells n (record_of blank w) → record_of blank w ≡ d) → accesses d ≡ suc (accesses (record_of blank m))
      → Made accesses blank m (λ g. access g kind i n (f n) ∷ []) d w
  made_one m w kind i n f tells d l is one =
      let e = is (told_record m w kind i n f tells l) in record {
        es = told_accesses m w kind i n f tells l;
        grew = told_grew m w kind i n f tells l (ap accesses e ∙ one);
        own = told_own m w kind i n f tells l;
        after = e;
      }

  pub made_then : (m v w : Me R) (xs ys : ℕ → List Access) (c d : R) → Made accesses blank m xs c v → Made accesses blank v ys d w
      → Made accesses blank m (λ g. xs g ++ ys g) d w
  made_then m v w xs ys c d a b = record {
    es = a.es ++ b.es;
    grew = grew_then m v w a.es b.es a.grew b.grew;
    own = own_append (number_of m) a.es b.es
        ∙ (ap (λ (l : List Access). l ++ own_by (number_of m) b.es) a.own
        ∙ ap (λ (l : List Access). xs (number_of m) ++ l)
        (subst (λ g. own_by g b.es ≡ ys g) a.grew.same b.own));
    after = b.after;
  }

  -- the record counts them
  pub made_counts : (m w : Me R) (xs : ℕ → List Access) (d : R) → Made accesses blank m xs d w
      → accesses d ≡ accesses (record_of blank m) + length (xs (number_of m))
  made_counts m w xs d a =
      let count = own_count (number_of m) a.es in
      let same : length (own_by (number_of m) a.es) ≡ length (xs (number_of m)) = ap length a.own in
      let more = a.grew.more in
      let is : accesses (record_of blank w) ≡ accesses d = ap accesses a.after in
      omega arith

  -- none of them changed a word
  pub made_still : (m w : Me R) (xs : ℕ → List Access) (d : R) (a : Made accesses blank m xs d w)
      → ((i : ℕ) (x : Access) → get_elem? (xs (number_of m)) i ≡ some x → x.left ≡ x.found) → ChangesNothingBy (number_of m) a.es
  made_still m w xs d a same i x e is =
      let r = own_has (number_of m) a.es i x e is in
      same r.0 x (subst (λ (l : List Access). get_elem? l r.0 ≡ some x) a.own r.1)

  -- one of them found this
  pub made_found : (m w : Me R) (xs : ℕ → List Access) (d : R) (a : Made accesses blank m xs d w) (j : ℕ) (x : Access)
      → get_elem? (xs (number_of m)) j ≡ some x → Found (number_of m) a.es x.kind x.word x.found
  made_found m w xs d a j x e =
      let r = own_at (number_of m) a.es j x (subst (λ (l : List Access). get_elem? l j ≡ some x) (sym a.own) e) in
      record { place = r.0; access = x; there = r.1; own = r.2; of_kind = refl; word = refl; found = refl }
