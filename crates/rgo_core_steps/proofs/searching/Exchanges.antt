-- Searches, exchange by exchange. By induction over the places tried so far. Where the search begins and where it wraps around cuts the
-- order in two.
use prog.Atomic.{either}
use Rattle.std.proofs.Common.{◌≡◌, ◌≢◌, ℕ, zero, suc, ◌+◌, ◌-◌, ◌<◌, ◌≤◌, ◌==◌, false, List, [], ◌∷◌, ◌++◌, if◌then◌else◌, refl, ap, sym, subst, ◌∙◌, arith, append_assoc}
use Rattle.std.proofs.lemmas.Bool.Decides.{nat_tests}
use Rattle.std.proofs.lemmas.List.{append-nil}
use Rattle.rgo_core.specs.Rule.Histories.{access}
use Rattle.rgo_core.specs.Rule.Steps.{LeavesOnSeat}
use Rattle.rgo_core.specs.Rule.Views.{IsAlone, Me, record_of}
use Rattle.rgo_core.specs.Rule.declared.accesses.Access.{Access}
use Rattle.rgo_core.specs.Rule.declared.accesses.Kind.{Kind}
use Rattle.rgo_core_steps.specs.Grown.{Made}
use Rattle.rgo_core_steps.specs.Searches.{AreTaken, Miss, TookFreePlace, TookOne, Tried, TriedAll, around, misses, missing, places_of, upward}
use Rattle.rgo_core_steps.proofs.accesses.Growing.{made_none, made_one, made_then}

-- ---- the order

pub upward_more : (first n : ℕ) → upward first n ++ (first + n) ∷ [] ≡ upward first (suc n)
upward_more first zero = let e : first + 0 ≡ first = omega arith in ap (λ k. k ∷ []) e
upward_more first (suc n) =
    let e : first + suc n ≡ suc first + n = omega arith in
    ap (λ (l : List ℕ). first ∷ l) (ap (λ k. upward (suc first) n ++ k ∷ []) e ∙ upward_more (suc first) n)

-- up to a number, from `first` on
pub upward_next : (first i : ℕ) → first ≤ i → upward first (i - first) ++ i ∷ [] ≡ upward first (suc i - first)
upward_next first i low =
    let e : i ≡ first + (i - first) = omega arith in
    let f : suc (i - first) ≡ suc i - first = omega arith in
    ap (λ k. upward first (i - first) ++ k ∷ []) e ∙ (upward_more first (i - first) ∙ ap (upward first) f)

-- an order by where it begins
pub around_parts : (start n : ℕ) → start < n → around start n ≡ start ∷ (upward (suc start) (n - suc start) ++ upward 0 start)
around_parts start n low =
    let e : n - start ≡ suc (n - suc start) = omega arith in
    ap (λ k. upward start k ++ upward 0 start) e

-- a run that is cut at p
pub upward_cut : (first p end : ℕ) → first ≤ p → p < end
    → upward first (end - first) ≡ upward first (p - first) ++ (p ∷ upward (suc p) (end - suc p))
upward_cut first p end low high = by (p - first) first (omega arith)
  where
    by : (k f : ℕ) → f + k ≡ p → upward f (end - f) ≡ upward f k ++ (p ∷ upward (suc p) (end - suc p))
    by zero f e =
        let same : f ≡ p = omega (arith, e) in
        let more : end - p ≡ suc (end - suc p) = omega arith in
        ap (λ j. upward j (end - j)) same ∙ ap (upward p) more
    by (suc k) f e =
        let more : end - f ≡ suc (end - suc f) = omega (arith, e) in
        ap (upward f) more ∙ ap (λ (l : List ℕ). f ∷ l) (by k (suc f) (omega (arith, e)))

-- ---- lists of tries

places_append : (xs ys : List Miss) → places_of (xs ++ ys) ≡ places_of xs ++ places_of ys
places_append [] ys = refl
places_append (x ∷ xs) ys = ap (λ (l : List ℕ). x.place ∷ l) (places_append xs ys)

taken_append : (xs ys : List Miss) → AreTaken xs → AreTaken ys → AreTaken (xs ++ ys)
taken_append [] ys p q = q
taken_append (x ∷ xs) ys p q = (p.0, taken_append xs ys p.1 q)

misses_append : (kind : Kind) (at : ℕ → ℕ) (xs ys : List Miss) (g : ℕ) → misses kind at (xs ++ ys) g ≡ misses kind at xs g ++ misses kind at ys g
misses_append kind at [] ys g = refl
misses_append kind at (x ∷ xs) ys g =
    ap (λ (l : List Access). access g kind (at x.place) x.found x.found ∷ l) (misses_append kind at xs ys g)

missing_append : {R : Type 0} (missed : R → ℕ → R) (c : R) (xs ys : List Miss)
    → missing missed c (xs ++ ys) ≡ missing missed (missing missed c xs) ys
missing_append missed c [] ys = refl
missing_append missed c (x ∷ xs) ys = missing_append missed (missed c x.place) xs ys

module _ {R : Type 0} (accesses : R → ℕ) (blank : R) where
  -- ---- one exchange

  module _ (kind : Kind) (i new : ℕ) (hit miss : R) (m : Me R) (n : ℕ) (w : Me R)
      (l : LeavesOnSeat accesses blank kind i (λ n. either (n == 0) new n) (λ n d. d ≡ (if n == 0 then hit else miss)) m n w) where
    pub found_taken : n ≢ 0 → accesses miss ≡ suc (accesses (record_of blank m))
        → Made accesses blank m (λ g. access g kind i n n ∷ []) miss w
    found_taken some one =
        let no : (n == 0) ≡ false = grind (arith, nat_tests, some) in
        subst (λ k. Made accesses blank m (λ g. access g kind i n k ∷ []) miss w) (ap (λ b. either b new n) no)
        (made_one accesses blank m w kind i n (λ n. either (n == 0) new n) (λ n d. d ≡ (if n == 0 then hit else miss)) miss l
        (λ e. e ∙ ap (λ b. if b then hit else miss) no) one)

    pub found_free : n ≡ 0 → accesses hit ≡ suc (accesses (record_of blank m))
        → Made accesses blank m (λ g. access g kind i 0 new ∷ []) hit w
    found_free none one =
        subst (λ k. Made accesses blank m (λ g. access g kind i k (either (k == 0) new k) ∷ []) hit w) none
        (made_one accesses blank m w kind i n (λ n. either (n == 0) new n) (λ n d. d ≡ (if n == 0 then hit else miss)) hit l
        (λ e. e ∙ ap (λ k. if k == 0 then hit else miss) none) one)

  -- ---- several

  module _ (kind : Kind) (at : ℕ → ℕ) (missed : R → ℕ → R) where
    pub tried_none : (m : Me R) → IsAlone blank m → Tried accesses blank kind at missed (record_of blank m) [] m m
    tried_none m alone = record { tries = []; are = refl; taken = tt; made = made_none accesses blank m alone }

    -- a search that is about to begin
    pub tried_begin : (first : ℕ) (m : Me R) → IsAlone blank m
        → Tried accesses blank kind at missed (record_of blank m) (upward first (first - first)) m m
    tried_begin first m alone =
        let e : 0 ≡ first - first = omega arith in
        subst (λ k. Tried accesses blank kind at missed (record_of blank m) (upward first k) m m) e (tried_none m alone)

    pub tried_one : (c : R) (p n : ℕ) (m w : Me R) → n ≢ 0 → Made accesses blank m (λ g. access g kind (at p) n n ∷ []) (missed c p) w
        → Tried accesses blank kind at missed c (p ∷ []) m w
    tried_one c p n m w some made = record { tries = record { place = p; found = n } ∷ []; are = refl; taken = (some, tt); made = made }

    pub tried_then : (c : R) (xs ys : List ℕ) (m v w : Me R) → Tried accesses blank kind at missed c xs m v
        → Tried accesses blank kind at missed (record_of blank v) ys v w → Tried accesses blank kind at missed c (xs ++ ys) m w
    tried_then c xs ys m v w a b =
        let d : missing missed (record_of blank v) b.tries ≡ missing missed c (a.tries ++ b.tries) =
        ap (λ (e : R). missing missed e b.tries) a.made.after ∙ sym (missing_append missed c a.tries b.tries) in
        record {
          tries = a.tries ++ b.tries;
          are = places_append a.tries b.tries ∙ (λ j. a.are j ++ b.are j);
          taken = taken_append a.tries b.tries a.taken b.taken;
          made = subst (λ (e : R). Made accesses blank m (misses kind at (a.tries ++ b.tries)) e w) d
              (subst (λ (l : ℕ → List Access). Made accesses blank m l (missing missed (record_of blank v) b.tries) w)
              (λ j g. sym (misses_append kind at a.tries b.tries g) j)
              (made_then accesses blank m v w (misses kind at a.tries) (misses kind at b.tries) (missing missed c a.tries)
              (missing missed (record_of blank v) b.tries) a.made b.made));
        }

    pub took_one : (c : R) (p new : ℕ) (hit : R → R) (m w : Me R) → Made accesses blank m (λ g. access g kind (at p) 0 new ∷ []) (hit c) w
        → TookFreePlace accesses blank kind at missed c [] p new hit m w
    took_one c p new hit m w made = record { tries = []; are = refl; taken = tt; made = made }

    pub took_then : (c : R) (xs ys : List ℕ) (p new : ℕ) (hit : R → R) (m v w : Me R) → Tried accesses blank kind at missed c xs m v
        → TookFreePlace accesses blank kind at missed (record_of blank v) ys p new hit v w → TookFreePlace accesses blank kind at missed c (xs ++ ys) p new hit m w
    took_then c xs ys p new hit m v w a b =
        let d : hit (missing missed (record_of blank v) b.tries) ≡ hit (missing missed c (a.tries ++ b.tries)) =
        ap hit (ap (λ (e : R). missing missed e b.tries) a.made.after ∙ sym (missing_append missed c a.tries b.tries)) in
        record {
          tries = a.tries ++ b.tries;
          are = places_append a.tries b.tries ∙ (λ j. a.are j ++ b.are j);
          taken = taken_append a.tries b.tries a.taken b.taken;
          made = subst (λ (e : R). Made accesses blank m (λ g. misses kind at (a.tries ++ b.tries) g ++ access g kind (at p) 0 new ∷ []) e w) d
              (subst (λ (l : ℕ → List Access). Made accesses blank m l (hit (missing missed (record_of blank v) b.tries)) w)
              (λ j g. sym (joined a.tries b.tries g) j)
              (made_then accesses blank m v w (misses kind at a.tries) (λ g. misses kind at b.tries g ++ access g kind (at p) 0 new ∷ [])
              (missing missed c a.tries) (hit (missing missed (record_of blank v) b.tries)) a.made b.made));
        }
      where
        joined : (us vs : List Miss) (g : ℕ) → misses kind at (us ++ vs) g ++ access g kind (at p) 0 new ∷ []
            ≡ misses kind at us g ++ (misses kind at vs g ++ access g kind (at p) 0 new ∷ [])
        joined us vs g =
            ap (λ (l : List Access). l ++ access g kind (at p) 0 new ∷ []) (misses_append kind at us vs g)
            ∙ append_assoc (misses kind at us g) (misses kind at vs g) (access g kind (at p) 0 new ∷ [])

    -- ---- a search of all n places, which begins at `start`

    module _ (c : R) (n start : ℕ) (low : start < n) where
      pub took_start : (new : ℕ) (hit : R → R) (m w : Me R) → TookFreePlace accesses blank kind at missed c [] start new hit m w
          → TookOne accesses blank kind at missed c n start new hit m w
      took_start new hit m w took = record {
        start = start;
        inside = omega arith;
        before = [];
        after = upward (suc start) (n - suc start) ++ upward 0 start;
        order = around_parts start n low;
        took = took;
      }

      module _ (m v : Me R) (first : ℕ) (next : first ≡ suc start) (missed_first : Tried accesses blank kind at missed c (start ∷ []) m v) where
        pub took_above : (p new : ℕ) (hit : R → R) (w : Me R) → first ≤ p → p < n
            → TookFreePlace accesses blank kind at missed (record_of blank v) (upward first (p - first)) p new hit v w
            → TookOne accesses blank kind at missed c n p new hit m w
        took_above p new hit w above below took = record {
          start = start;
          inside = omega arith;
          before = start ∷ upward first (p - first);
          after = upward (suc p) (n - suc p) ++ upward 0 start;
          order = around_parts start n low
              ∙ (ap (λ k. start ∷ (upward k (n - k) ++ upward 0 start)) (sym next)
              ∙ ap (λ (l : List ℕ). start ∷ l) (ap (λ (l : List ℕ). l ++ upward 0 start) (upward_cut first p n above below)
              ∙ append_assoc (upward first (p - first)) (p ∷ upward (suc p) (n - suc p)) (upward 0 start)));
          took = took_then c (start ∷ []) (upward first (p - first)) p new hit m v w missed_first took;
        }

        module _ (u : Me R) (missed_above : Tried accesses blank kind at missed (record_of blank v) (upward first (n - first)) v u) where
          so_far : Tried accesses blank kind at missed c (start ∷ upward first (n - first)) m u
          so_far = tried_then c (start ∷ []) (upward first (n - first)) m v u missed_first missed_above

          whole : around start n ≡ (start ∷ upward first (n - first)) ++ upward 0 start
          whole = around_parts start n low ∙ ap (λ k. start ∷ (upward k (n - k) ++ upward 0 start)) (sym next)

          pub took_below : (p new : ℕ) (hit : R → R) (w : Me R) → p < start
              → TookFreePlace accesses blank kind at missed (record_of blank u) (upward 0 (p - 0)) p new hit u w
              → TookOne accesses blank kind at missed c n p new hit m w
          took_below p new hit w below took =
              let all : start - 0 ≡ start = omega arith in
              let cut : upward 0 start ≡ upward 0 (p - 0) ++ (p ∷ upward (suc p) (start - suc p)) =
              ap (upward 0) (sym all) ∙ upward_cut 0 p start (omega arith) below in
              record {
                start = start;
                inside = omega arith;
                before = (start ∷ upward first (n - first)) ++ upward 0 (p - 0);
                after = upward (suc p) (start - suc p);
                order = whole ∙ (ap (λ (l : List ℕ). (start ∷ upward first (n - first)) ++ l) cut
                    ∙ sym (append_assoc (start ∷ upward first (n - first)) (upward 0 (p - 0)) (p ∷ upward (suc p) (start - suc p))));
                took = took_then c (start ∷ upward first (n - first)) (upward 0 (p - 0)) p new hit m u w so_far took;
              }

          pub tried_all : (w : Me R) → Tried accesses blank kind at missed (record_of blank u) (upward 0 (start - 0)) u w
              → TriedAll accesses blank kind at missed c n m w
          tried_all w missed_below =
              let all : start - 0 ≡ start = omega arith in
              record {
                start = start;
                inside = omega arith;
                tried = subst (λ (l : List ℕ). Tried accesses blank kind at missed c l m w)
                    (ap (λ k. (start ∷ upward first (n - first)) ++ upward 0 k) all ∙ sym whole)
                    (tried_then c (start ∷ upward first (n - first)) (upward 0 (start - 0)) m u w so_far missed_below);
              }

    -- ---- a search from `first` on that has come to place p

    module _ (c : R) (first p n new : ℕ) (above : first ≤ p) (m v w : Me R) (tried : Tried accesses blank kind at missed c (upward first (p - first)) m v)
      where
        pub tried_next : Tried accesses blank kind at missed (record_of blank v) (p ∷ []) v w
            → Tried accesses blank kind at missed c (upward first (p + 1 - first)) m w
        tried_next one = subst (λ (l : List ℕ). Tried accesses blank kind at missed c l m w)
            (upward_next first p above ∙ (let e : suc p - first ≡ p + 1 - first = omega arith in ap (upward first) e))
            (tried_then c (upward first (p - first)) (p ∷ []) m v w tried one)

        pub took_here : (hit : R → R) → TookFreePlace accesses blank kind at missed (record_of blank v) [] p new hit v w
            → TookFreePlace accesses blank kind at missed c (upward first (p - first)) p new hit m w
        took_here hit took = subst (λ (l : List ℕ). TookFreePlace accesses blank kind at missed c l p new hit m w)
            (append-nil (upward first (p - first)))
            (took_then c (upward first (p - first)) [] p new hit m v w tried took)
