-- Marks and lists of what was found.
use Rattle.std.proofs.Common.{◌≡◌, ◌≢◌, ◌⊎◌, inl, inr, ⊎_elim, ℕ, ◌<◌, ◌≤◌, ◌+◌, List, [], ◌∷◌, ◌++◌, length, set, get_or, refl, sym, ap, ◌∙◌, subst, arith, length-append, append_assoc}
use Rattle.std.specs.List.{Contains}
use Rattle.std.proofs.lemmas.Bool.Decides.{nat_tests}
use Rattle.std.proofs.lemmas.List.{append-nil, get_or-set_same, get_or-set_other}
use Rattle.std.proofs.Math.ListN.{length-set}
use Rattle.std.proofs.lemmas.List.Sums.{sum_by-set, sum_by-cons}
use Rattle.std.proofs.lemmas.List.Elements.{Contains-push, Contains-append_left, Contains-append_right, Contains-append_cases, All-set}
use Rattle.rgo_graphs.specs.Visits.{Visits, Bars, marked, one_if}
use Rattle.rgo_graphs.proofs.Lists.{no_member, member_one}

pub one_same : (s : ℕ) → one_if s s ≡ 1
one_same s = grind (arith, nat_tests)

pub one_other : (s m : ℕ) → m ≢ s → one_if s m ≡ 0
one_other s m n = grind (arith, nat_tests)

pub one_most : (s m : ℕ) → one_if s m ≤ 1
one_most s m = grind (arith, nat_tests)

pub marked_most : (s : ℕ) (marks : List ℕ) → marked s marks ≤ length marks
marked_most s [] = omega arith
marked_most s (m ∷ marks) =
    let e : marked s (m ∷ marks) ≡ one_if s m + marked s marks = sum_by-cons (one_if s) m marks in
    omega (arith, marked_most s marks, one_most s m, e)

pub marked_set : (s : ℕ) (marks : List ℕ) (p : ℕ) → p < length marks → marked s marks ≤ marked s (set marks p s)
marked_set s marks p l = omega (
  arith,
  sum_by-set (one_if s) marks p s 0 l,
  one_most s (get_or marks p 0),
  one_same s,
)

pub marked_new : (s : ℕ) (marks : List ℕ) (p : ℕ) → p < length marks → get_or marks p 0 ≢ s
    → marked s (set marks p s) ≡ marked s marks + 1
marked_new s marks p l n = omega (
  arith,
  sum_by-set (one_if s) marks p s 0 l,
  one_other s (get_or marks p 0) n,
  one_same s,
)

eq_cases : (p q : ℕ) → (p ≡ q) ⊎ (p ≢ q)
eq_cases p q = grind arith

set_before : (s : ℕ) (marks : List ℕ) (p q : ℕ) → get_or (set marks p s) q 0 ≡ s
    → (get_or marks q 0 ≡ s) ⊎ (q ≡ p)
set_before s marks p q h = ⊎_elim
    (λ e. inr e)
    (λ n. inl (sym (get_or-set_other marks p q s 0 n) ∙ h))
    (eq_cases q p)

set_still : (s : ℕ) (marks : List ℕ) (p q : ℕ) → p < length marks → get_or marks q 0 ≡ s
    → get_or (set marks p s) q 0 ≡ s
set_still s marks p q l h = ⊎_elim
    (λ e. ap (λ i. get_or (set marks p s) i 0) e ∙ get_or-set_same marks p s 0 l)
    (λ n. get_or-set_other marks p q s 0 n ∙ h)
    (eq_cases q p)

pub visits_new : (s : ℕ) (found marks : List ℕ) (p : ℕ) → p < length marks → get_or marks p 0 ≢ s
    → Visits s found marks (found ++ p ∷ []) (set marks p s) (p ∷ [])
visits_new s found marks p l n = record {
  size = length-set marks p s;
  kept = (p ∷ [], refl);
  only = λ q h. ⊎_elim
      (λ i. inl i)
      (λ i. inr (i, λ e. n (ap (λ j. get_or marks j 0) (sym (member_one p q i)) ∙ e)))
      (Contains-append_cases found (p ∷ []) q h);
  all = λ q h. inr (Contains-append_right found (p ∷ []) q h);
  now = λ q h. ap (λ i. get_or (set marks p s) i 0) (member_one p q h) ∙ get_or-set_same marks p s 0 l;
  still = λ q h. set_still s marks p q l h;
  before = λ q h. ⊎_elim
      (λ e. inl e)
      (λ e. inr (subst (Contains (found ++ p ∷ [])) (sym e) (Contains-push found p)))
      (set_before s marks p q h);
  most = λ h. All-set (λ m. m ≤ s) marks p s (omega arith) h;
  count = omega (arith, marked_new s marks p l n, length-append found (p ∷ []));
}

pub visits_old : (s : ℕ) (found marks : List ℕ) (p : ℕ) → get_or marks p 0 ≡ s
    → Visits s found marks found marks (p ∷ [])
visits_old s found marks p e = record {
  size = refl;
  kept = ([], sym (append-nil found));
  only = λ q h. inl h;
  all = λ q h. inl (ap (λ i. get_or marks i 0) (member_one p q h) ∙ e);
  now = λ q h. ap (λ i. get_or marks i 0) (member_one p q h) ∙ e;
  still = λ q h. h;
  before = λ q h. inl h;
  most = λ h. h;
  count = refl;
}

pub visits_none : (s : ℕ) (found marks : List ℕ) → Visits s found marks found marks []
visits_none s found marks = record {
  size = refl;
  kept = ([], sym (append-nil found));
  only = λ q h. inl h;
  all = λ q h. absurd (no_member q h);
  now = λ q h. absurd (no_member q h);
  still = λ q h. h;
  before = λ q h. inl h;
  most = λ h. h;
  count = refl;
}

still_found : (f g added : List ℕ) (q : ℕ) → g ≡ f ++ added → Contains f q → Contains g q
still_found f g added q e h = subst (λ (l : List ℕ). Contains l q) (sym e) (Contains-append_left f added q h)

pub visits_more : (s : ℕ) (f0 m0 f1 m1 f2 m2 xs : List ℕ) (x : ℕ) → Visits s f0 m0 f1 m1 xs
    → Visits s f1 m1 f2 m2 (x ∷ []) → Visits s f0 m0 f2 m2 (xs ++ x ∷ [])
visits_more s f0 m0 f1 m1 f2 m2 xs x a b = record {
  size = b.size ∙ a.size;
  kept = (
    a.kept.0 ++ b.kept.0,
    b.kept.1 ∙ ap (λ (l : List ℕ). l ++ b.kept.0) a.kept.1
        ∙ append_assoc f0 a.kept.0 b.kept.0,
  );
  only = λ q h. ⊎_elim
      (λ i. ⊎_elim (λ j. inl j) (λ j. inr (Contains-append_left xs (x ∷ []) q j.0, j.1)) (a.only q i))
      (λ i. inr (Contains-append_right xs (x ∷ []) q i.0, λ e. i.1 (a.still q e)))
      (b.only q h);
  all = λ q h. ⊎_elim
      (λ i. ⊎_elim (λ e. inl e) (λ j. inr (still_found f1 f2 b.kept.0 q b.kept.1 j)) (a.all q i))
      (λ i. ⊎_elim
      (λ e. ⊎_elim (λ e0. inl e0) (λ j. inr (still_found f1 f2 b.kept.0 q b.kept.1 j)) (a.before q e))
      (λ j. inr j)
      (b.all q i))
      (Contains-append_cases xs (x ∷ []) q h);
  now = λ q h. ⊎_elim (λ i. b.still q (a.now q i)) (λ i. b.now q i) (Contains-append_cases xs (x ∷ []) q h);
  still = λ q h. b.still q (a.still q h);
  before = λ q h. ⊎_elim
      (λ e. ⊎_elim (λ e0. inl e0) (λ j. inr (still_found f1 f2 b.kept.0 q b.kept.1 j)) (a.before q e))
      (λ j. inr j)
      (b.before q h);
  most = λ h. b.most (a.most h);
  count = omega (arith, a.count, b.count);
}

pub bars_none : (s : ℕ) (marks : List ℕ) → Bars s marks marks []
bars_none s marks = record {
  size = refl;
  now = λ q h. absurd (no_member q h);
  still = λ q h. h;
  before = λ q h. inl h;
  most = λ h. h;
  count = omega arith;
}

pub bars_more : (s : ℕ) (m0 m1 xs : List ℕ) (x : ℕ) → x < length m1 → Bars s m0 m1 xs
    → Bars s m0 (set m1 x s) (xs ++ x ∷ [])
bars_more s m0 m1 xs x l a = record {
  size = length-set m1 x s ∙ a.size;
  now = λ q h. ⊎_elim
      (λ i. set_still s m1 x q l (a.now q i))
      (λ i. ap (λ i. get_or (set m1 x s) i 0) (member_one x q i) ∙ get_or-set_same m1 x s 0 l)
      (Contains-append_cases xs (x ∷ []) q h);
  still = λ q h. set_still s m1 x q l (a.still q h);
  before = λ q h. ⊎_elim
      (λ e. ⊎_elim (λ e0. inl e0) (λ i. inr (Contains-append_left xs (x ∷ []) q i)) (a.before q e))
      (λ e. inr (subst (Contains (xs ++ x ∷ [])) (sym e) (Contains-push xs x)))
      (set_before s m1 x q h);
  most = λ h. All-set (λ m. m ≤ s) m1 x s (omega arith) (a.most h);
  count = omega (arith, a.count, marked_set s m1 x l);
}

pub visits_same : (s : ℕ) (f0 m0 f1 m1 xs ys : List ℕ) → ((p : ℕ) → Contains ys p → Contains xs p)
    → ((p : ℕ) → Contains xs p → Contains ys p) → Visits s f0 m0 f1 m1 xs → Visits s f0 m0 f1 m1 ys
visits_same s f0 m0 f1 m1 xs ys inside outside v = record {
  size = v.size;
  kept = v.kept;
  only = λ p h. ⊎_elim (λ o. inl o) (λ i. inr (outside p i.0, i.1)) (v.only p h);
  all = λ p h. v.all p (inside p h);
  now = λ p h. v.now p (inside p h);
  still = v.still;
  before = v.before;
  most = v.most;
  count = v.count;
}

-- one number more, before those that were visited
pub visits_before : (s : ℕ) (f0 m0 f1 m1 f2 m2 xs : List ℕ) (x : ℕ) → Visits s f0 m0 f1 m1 xs
    → Visits s f1 m1 f2 m2 (x ∷ []) → Visits s f0 m0 f2 m2 (x ∷ xs)
visits_before s f0 m0 f1 m1 f2 m2 xs x a b = visits_same s f0 m0 f2 m2 (xs ++ x ∷ []) (x ∷ xs)
    (λ p h. ⊎_elim
    (λ i. Contains-append_right xs (x ∷ []) p i)
    (λ i. Contains-append_left xs (x ∷ []) p i)
    (Contains-append_cases (x ∷ []) xs p h))
    (λ p h. ⊎_elim
    (λ i. Contains-append_right (x ∷ []) xs p i)
    (λ i. Contains-append_left (x ∷ []) xs p i)
    (Contains-append_cases xs (x ∷ []) p h))
    (visits_more s f0 m0 f1 m1 f2 m2 xs x a b)
