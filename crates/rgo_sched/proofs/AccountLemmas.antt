-- Each move keeps the rule. A move changes one account, so the sums over all accounts change by what that account gains. The weight
-- stays a variable throughout.
use Rattle.std.proofs.Common.{◌≡◌, ℕ, zero, suc, ◌+◌, ◌-◌, ◌<◌, ◌≤◌, ◌≢◌, List, [], ◌∷◌, ◌++◌, length, set, refl, ap, sym, ◌∙◌, ⊎_elim, arith, append_assoc}
use Rattle.std.proofs.lemmas.List.{append-nil}
use mathlib.Core.Option.{some, some-injective, some-ne-none}
use lib.ListN.{get_elem?}
use Rattle.atomic_table.proofs.Lists.{at_set}
use Rattle.crossbeam_deque.proofs.Lists.{at_snoc}
use Rattle.crossbeam_deque.specs.Tasks.{Takes, Pushes, Forks, Merges, Finds}
use Rattle.rgo_sched.specs.declared.accounts.Account.{Account}
use Rattle.rgo_sched.specs.Accounts.{Balanced, IdleIsEmpty, Put, Took, account, total_weight}

pub total-append : {A : Type 0} (f : A → ℕ) (xs ys : List A) → total_weight f (xs ++ ys) ≡ total_weight f xs + total_weight f ys
total-append f [] ys = omega arith
total-append f (x ∷ xs) ys = let h = total-append f xs ys in omega arith

pub total_one : (xs : List ℕ) → total_weight (λ _. 1) xs ≡ length xs
total_one [] = refl
total_one (x ∷ xs) = let h = total_one xs in omega arith

pub total_set : {A : Type 0} (f : A → ℕ) (xs : List A) (g : ℕ) (c d : A) → get_elem? xs g ≡ some c → total_weight f (set xs g d) + f c ≡ total_weight f xs + f d
total_set f [] g c d e = absurd (some-ne-none c (sym e))
total_set f (x ∷ xs) zero c d e = let h : f x ≡ f c = ap f (some-injective x c e) in omega arith
total_set f (x ∷ xs) (suc g) c d e = let h = total_set f xs g c d e in omega arith

one_of_total : {A : Type 0} (f : A → ℕ) (xs : List A) (g : ℕ) (c : A) → get_elem? xs g ≡ some c → f c ≤ total_weight f xs
one_of_total f [] g c e = absurd (some-ne-none c (sym e))
one_of_total f (x ∷ xs) zero c e = let h : f x ≡ f c = ap f (some-injective x c e) in omega arith
one_of_total f (x ∷ xs) (suc g) c e = let h = one_of_total f xs g c e in omega arith

abbrev Idle : (Account → ℕ) → List Account → Type 0
Idle f views = (port : ℕ) (v : Account) → get_elem? views port ≡ some v → v.parts ≡ 0 → f v ≡ 0

none_left : (f : Account → ℕ) (views : List Account) → Idle f views → total_weight (λ v. v.parts) views ≡ 0 → total_weight f views ≡ 0
none_left f [] idle e = refl
none_left f (x ∷ xs) idle e = let a : f x ≡ 0 = idle zero x refl (omega arith) in let b = none_left f xs (λ j u h. idle (suc j) u h) (omega arith) in omega arith

-- an account with all parts has all that was put and taken, since all the others are without a part and hence empty
lone : (f : Account → ℕ) (views : List Account) (port : ℕ) (v : Account) → Idle f views → get_elem? views port ≡ some v → total_weight (λ v. v.parts) views ≡ v.parts → total_weight f views ≡ f v
lone f [] port v idle at e = absurd (some-ne-none v (sym at))
lone f (x ∷ xs) zero v idle at e = let p : x.parts ≡ v.parts = ap (λ (y : Account). y.parts) (some-injective x v at) in let h : f x ≡ f v = ap f (some-injective x v at) in
    let b = none_left f xs (λ j u k. idle (suc j) u k) (omega arith) in omega arith
lone f (x ∷ xs) (suc port) v idle at e = let m = one_of_total (λ (y : Account). y.parts) xs port v at in let a : f x ≡ 0 = idle zero x refl (omega arith) in
    let b = lone f xs port v (λ j u k. idle (suc j) u k) at (omega arith) in omega arith

idle_put : (w : ℕ → ℕ) (views : List Account) → IdleIsEmpty views → Idle (λ v. total_weight w v.put) views
idle_put w views idle port v at e = ap (total_weight w) (idle port v at e).0

idle_taken : (w : ℕ → ℕ) (views : List Account) → IdleIsEmpty views → Idle (λ v. total_weight w v.taken) views
idle_taken w views idle port v at e = ap (total_weight w) (idle port v at e).1

-- with all parts, what was put is what was taken and what the deque holds
pub all_even : (port : ℕ) (v : Account) (items : List ℕ) (views : List Account) → get_elem? views port ≡ some v → v.parts ≡ 128 → Balanced items views → (w : ℕ → ℕ) → total_weight w v.put ≡ total_weight w v.taken + total_weight w items
all_even port v items views at all k w =
    let h = k.even w in let e = k.whole in
    let a = lone (λ v. total_weight w v.put) views port v (idle_put w views k.idle) at (omega arith) in
    let b = lone (λ v. total_weight w v.taken) views port v (idle_taken w views k.idle) at (omega arith) in
    omega arith

idle_set : (views : List Account) (port : ℕ) (w : Account) → (w.parts ≡ 0 → (w.put ≡ []) × (w.taken ≡ [])) → IdleIsEmpty views → IdleIsEmpty (set views port w)
idle_set views port w fine k j u e none = ⊎_elim
    (λ (t : (j ≡ port) × (w ≡ u)). let z : w.parts ≡ u.parts = ap (λ (y : Account). y.parts) t.1 in let f = fine (omega arith) in
    (ap (λ (y : Account). y.put) (sym t.1) ∙ f.0, ap (λ (y : Account). y.taken) (sym t.1) ∙ f.1))
    (λ (t : (j ≢ port) × (get_elem? views j ≡ some u)). k j u t.1 none)
    (at_set views port j w u e)

idle_snoc : (views : List Account) (w : Account) → (w.parts ≡ 0 → (w.put ≡ []) × (w.taken ≡ [])) → IdleIsEmpty views → IdleIsEmpty (views ++ w ∷ [])
idle_snoc views w fine k j u e none = ⊎_elim
    (λ h. k j u h none)
    (λ (t : w ≡ u). let z : w.parts ≡ u.parts = ap (λ (y : Account). y.parts) t in let f = fine (omega arith) in
    (ap (λ (y : Account). y.put) (sym t) ∙ f.0, ap (λ (y : Account). y.taken) (sym t) ∙ f.1))
    (at_snoc views w u j e)

pub begins : Balanced [] (account 128 [] [] ∷ [])
begins = record {
  whole = refl;
  even = λ w. refl;
  idle = idle_snoc [] (account 128 [] []) (λ _. (refl, refl)) (λ j u e. absurd (some-ne-none u (sym e)));
}

takes_even : (port : ℕ) (v : Account) (xs items : List ℕ) (views : List Account) → 0 < v.parts → get_elem? views port ≡ some v → Balanced (xs ++ items) views → Balanced items (set views port (account v.parts v.put (v.taken ++ xs)))
takes_even port v xs items views some_part at k = let w : Account = account v.parts v.put (v.taken ++ xs) in record {
  whole = let s = total_set (λ (u : Account). u.parts) views port v w at in let h = k.whole in omega arith;
  even = λ q.
      let s = total_set (λ (u : Account). total_weight q u.put) views port v w at in
      let t = total_set (λ (u : Account). total_weight q u.taken) views port v w at in
      let a = total-append q v.taken xs in
      let b = total-append q xs items in
      let h = k.even q in omega arith;
  idle = idle_set views port w (λ e. absurd (omega arith)) k.idle;
}

pub takes : (port : ℕ) (v : Account) → 0 < v.parts → Takes Balanced port v 1 (Took v)
takes port v some_part xs items views _ _ k at = (account v.parts v.put (v.taken ++ xs), takes_even port v xs items views some_part at k, refl)

pub takes_all : (port : ℕ) (v : Account) → 0 < v.parts → Takes Balanced port v 1 (λ xs w. Took v xs w × (v.parts ≡ 128 → length w.taken ≤ length w.put))
takes_all port v some_part xs items views _ _ k at = (
  account v.parts v.put (v.taken ++ xs),
  takes_even port v xs items views some_part at k,
  (
    refl,
    λ all.
        let h = all_even port v (xs ++ items) views at all k (λ _. 1) in
        let a = total_one v.put in let b = total-append (λ _. 1) xs items in let c = total-append (λ _. 1) v.taken xs in let d = total_one (v.taken ++ xs) in
        omega arith,
  ),
)

pub finds_all : (port : ℕ) (v : Account) → Finds Balanced port v (v.parts ≡ 128 → (w : ℕ → ℕ) → total_weight w v.put ≡ total_weight w v.taken)
finds_all port v views k at all w = let h = all_even port v [] views at all k w in omega arith

pub gives : (port : ℕ) (v : Account) (xs : List ℕ) → 0 < v.parts → Pushes Balanced port v xs (Put v xs)
gives port v xs some_part items views k at = let w : Account = account v.parts (v.put ++ xs) v.taken in (
  w,
  record {
    whole = let s = total_set (λ (u : Account). u.parts) views port v w at in let h = k.whole in omega arith;
    even = λ q.
        let s = total_set (λ (u : Account). total_weight q u.put) views port v w at in
        let t = total_set (λ (u : Account). total_weight q u.taken) views port v w at in
        let a = total-append q v.put xs in
        let b = total-append q items xs in
        let h = k.even q in omega arith;
    idle = idle_set views port w (λ e. absurd (omega arith)) k.idle;
  },
  refl,
)

pub forks : (port : ℕ) (v : Account) → 1 < v.parts → Forks Balanced port v (account (v.parts - 1) v.put v.taken) (account 1 [] [])
forks port v parts items views k at = let l : Account = account (v.parts - 1) v.put v.taken in let r : Account = account 1 [] [] in record {
  whole = let s = total_set (λ (u : Account). u.parts) views port v l at in let a = total-append (λ (u : Account). u.parts) (set views port l) (r ∷ []) in let h = k.whole in omega arith;
  even = λ q.
      let s = total_set (λ (u : Account). total_weight q u.put) views port v l at in
      let t = total_set (λ (u : Account). total_weight q u.taken) views port v l at in
      let a = total-append (λ (u : Account). total_weight q u.put) (set views port l) (r ∷ []) in
      let b = total-append (λ (u : Account). total_weight q u.taken) (set views port l) (r ∷ []) in
      let h = k.even q in omega arith;
  idle = idle_snoc (set views port l) r (λ e. absurd (omega arith)) (idle_set views port l (λ e. absurd (omega arith)) k.idle);
}

pub merges : (port : ℕ) (v : Account) (other : ℕ) (u : Account) → 0 < v.parts → Merges Balanced port v other u (account (v.parts + u.parts) (v.put ++ u.put) (v.taken ++ u.taken)) (account 0 [] [])
merges port v other u parts items views k at two at' =
    let b : Account = account (v.parts + u.parts) (v.put ++ u.put) (v.taken ++ u.taken) in let vs : List Account = set views port b in let n : Account = account 0 [] [] in record {
      whole = let s = total_set (λ (y : Account). y.parts) views port v b at in let t = total_set (λ (y : Account). y.parts) vs other u n at' in let h = k.whole in omega arith;
      even = λ q.
          let s = total_set (λ (y : Account). total_weight q y.put) views port v b at in
          let t = total_set (λ (y : Account). total_weight q y.put) vs other u n at' in
          let s' = total_set (λ (y : Account). total_weight q y.taken) views port v b at in
          let t' = total_set (λ (y : Account). total_weight q y.taken) vs other u n at' in
          let a = total-append q v.put u.put in
          let c = total-append q v.taken u.taken in
          let h = k.even q in omega arith;
      idle = idle_set vs other n (λ _. (refl, refl)) (idle_set views port b (λ e. absurd (omega arith)) k.idle);
    }

-- what was taken in two goes
pub took_more : (u v w : Account) (xs ys : List ℕ) → Took u xs v → Took v ys w → Took u (xs ++ ys) w
took_more u v w xs ys e e' = e' ∙ (ap (λ (h : Account). account h.parts h.put (h.taken ++ ys)) e ∙ ap (λ (l : List ℕ). account u.parts u.put l) (append_assoc u.taken xs ys))

pub more_items : {A : Type 0} (a b c xs ys : List A) → b ≡ a ++ xs → c ≡ b ++ ys → c ≡ a ++ (xs ++ ys)
more_items a b c xs ys e e' = e' ∙ (ap (λ l. l ++ ys) e ∙ append_assoc a xs ys)

pub took_none : (u : Account) → Took u [] u
took_none u = λ i. account u.parts u.put (sym (append-nil u.taken) i)
