-- Stakes for a child: what is pending after the duties of an instruction. Only shares change that, so all other duties may come before
-- them (`shares_front`). A region that is passed under two names is pending once; so the count of names is cut off at one.
use Rattle.std.proofs.Common.{◌≡◌, ℕ, zero, suc, ◌+◌, ◌≤◌, Bool, true, false, ◌||◌, List, [], ◌∷◌, ◌++◌, map, Option}
use Rattle.std.proofs.Common.{Some, None, refl, sym, ap, ◌∙◌, subst, nat_eq, if◌then◌else◌, arith, true≢false}
use Rattle.std.specs.List.{list_any}
use Rattle.rgo_sound.proofs.Tests.{split, eq_of, nat_eq_refl}
use Rattle.rgo_code.specs.Code.{Branch, Call, Code, CodeInstr, CodeOp, Do, Go, Jump, Print, Return}
use Rattle.rgo_region_machine.specs.Owed.{current, duties_before, duties_of_op, next_duties, regions_named}
use Rattle.rgo_region_machine.specs.Regions.{Bindings, bound, same_region, unbind}
use Rattle.rgo_region_machine.specs.States.{Create, Duty, EndBase, Protect, Remove, Share, Unprotect}
use Rattle.rgo_region_machine.specs.declared.regions.Region.{Region}
use Rattle.rgo_region_machine.specs.declared.regions.Region.TheVariants.{Global as GlobalRegion, Numbered}
use Rattle.rgo_sound.specs.Invariant.{Shares, at_most_one, bound_times, same_bound, shared_before, shared_names}
use Rattle.rgo_sound.specs.Invariant.{to_share, with_pending}
use Rattle.rgo_sound.specs.Stakes.{one_when, times_in}
use Rattle.rgo_tac.specs.Frames.{TacFrame}

-- duties without a share
abbrev pub HasNoShare : List Duty → Type 0
HasNoShare [] = Unit {0}
HasNoShare (Create k ∷ ds) = HasNoShare ds
HasNoShare (Share k ∷ ds) = ⊥
HasNoShare (Protect k ∷ ds) = HasNoShare ds
HasNoShare (Unprotect k ∷ ds) = HasNoShare ds
HasNoShare (Remove k ∷ ds) = HasNoShare ds
HasNoShare (EndBase r ∷ ds) = HasNoShare ds

-- removals, the end of protections and creations share nothing
pub removes_share_none : (ks : List ℕ) → HasNoShare (map Remove ks)
removes_share_none [] = tt
removes_share_none (k ∷ ks) = removes_share_none ks

pub behind_call_share_none : (ps ks : List ℕ) → HasNoShare (map Unprotect ps ++ map Remove ks)
behind_call_share_none [] ks = removes_share_none ks
behind_call_share_none (p ∷ ps) ks = behind_call_share_none ps ks

creates_share_none : (ks : List ℕ) → HasNoShare (map Create ks)
creates_share_none [] = tt
creates_share_none (k ∷ ks) = creates_share_none ks

-- duties without a share may come before any others
pub shares_front : (ks : List ℕ) (front ds : List Duty) (pending : List ℕ) → HasNoShare front
    → ((names : Bindings) → Shares ks ds names pending) → (names : Bindings) → Shares ks (front ++ ds) names pending
shares_front ks [] ds pending n next names = next names
shares_front ks (Create k ∷ front) ds pending n next names =
    λ r. shares_front ks front ds pending n next ((k, Numbered r) ∷ unbind names k)
shares_front ks (Share k ∷ front) ds pending n next names = absurd n
shares_front ks (Protect k ∷ front) ds pending n next names = shares_front ks front ds pending n next names
shares_front ks (Unprotect k ∷ front) ds pending n next names = shares_front ks front ds pending n next names
shares_front ks (Remove k ∷ front) ds pending n next names = shares_front ks front ds pending n next (unbind names k)
shares_front ks (EndBase r ∷ front) ds pending n next names = shares_front ks front ds pending n next names

zero_add : (n : ℕ) → n ≡ 0 + n
zero_add n = omega arith

-- what is in a list is counted at least once, and what is not in it never
times_any : (r : ℕ) (xs : List ℕ) → list_any (nat_eq r) xs ≡ true → 1 ≤ times_in r xs
times_any r [] e = absurd (true≢false (sym e))
times_any r (x ∷ xs) e = go (nat_eq r x) e (times_any r xs)
  where
    go : (b : Bool) → (b || list_any (nat_eq r) xs) ≡ true → (list_any (nat_eq r) xs ≡ true → 1 ≤ times_in r xs)
        → 1 ≤ one_when b + times_in r xs
    go true e next = omega arith
    go false e next = let x = next e in omega (arith, x)

times_none : (r : ℕ) (xs : List ℕ) → list_any (nat_eq r) xs ≡ false → times_in r xs ≡ 0
times_none r [] e = refl
times_none r (x ∷ xs) e = go (nat_eq r x) e (times_none r xs)
  where
    go : (b : Bool) → (b || list_any (nat_eq r) xs) ≡ false → (list_any (nat_eq r) xs ≡ false → times_in r xs ≡ 0)
        → one_when b + times_in r xs ≡ 0
    go true e next = absurd (true≢false e)
    go false e next = sym (zero_add (times_in r xs)) ∙ next e

-- a number cut off at one
pub at_most_one_is : (n : ℕ) → 1 ≤ n → at_most_one n ≡ 1
at_most_one_is zero h = absurd (omega (arith, h))
at_most_one_is (suc n) h = refl

pub at_most_one_some : (n : ℕ) → 1 ≤ at_most_one n → 1 ≤ n
at_most_one_some zero h = h
at_most_one_some (suc n) h = omega arith

-- one share more
more_pending : (q : Region) (pending : List ℕ) (c : ℕ → ℕ) → ((r : ℕ) → times_in r pending ≡ at_most_one (c r))
    → (r : ℕ) → times_in r (with_pending q pending) ≡ at_most_one (one_when (same_region (Numbered r) q) + c r)
more_pending GlobalRegion pending c h r = h r ∙ ap at_most_one (zero_add (c r))
more_pending (Numbered q) pending c h r = split (list_any (nat_eq q) pending)
    (λ t. ap (λ b. times_in r (if b then pending else q ∷ pending)) t ∙ there t)
    (λ n. ap (λ b. times_in r (if b then pending else q ∷ pending)) n ∙ new n)
  where
    there : list_any (nat_eq q) pending ≡ true → times_in r pending ≡ at_most_one (one_when (nat_eq r q) + c r)
    there t = go (nat_eq r q) refl
      where
        go : (b : Bool) → nat_eq r q ≡ b → times_in r pending ≡ at_most_one (one_when b + c r)
        go true e =
            let a = subst (λ x. 1 ≤ times_in x pending) (sym (eq_of r q e)) (times_any q pending t) in
            let b = h r in
            let d : 1 ≤ c r = at_most_one_some (c r) (omega (arith, a, b)) in
            b ∙ at_most_one_is (c r) d ∙ sym (at_most_one_is (1 + c r) (omega arith))
        go false e = h r ∙ ap at_most_one (zero_add (c r))

    new : list_any (nat_eq q) pending ≡ false → times_in r (q ∷ pending) ≡ at_most_one (one_when (nat_eq r q) + c r)
    new n = go (nat_eq r q) refl
      where
        go : (b : Bool) → nat_eq r q ≡ b → one_when b + times_in r pending ≡ at_most_one (one_when b + c r)
        go true e =
            let a = subst (λ x. times_in x pending ≡ 0) (sym (eq_of r q e)) (times_none q pending n) in
            ap (λ x. 1 + x) a ∙ sym (at_most_one_is (1 + c r) (omega arith))
        go false e = sym (zero_add (times_in r pending)) ∙ h r ∙ ap at_most_one (zero_add (c r))

-- all the shares of an instruction
shares_all : (ks todo : List ℕ) (names : Bindings) (pending : List ℕ) (c : ℕ → ℕ)
    → ((r : ℕ) → times_in r pending ≡ at_most_one (c r)) → ((r : ℕ) → bound_times (Numbered r) names ks
    ≡ c r + bound_times (Numbered r) names todo) → Shares ks (map Share todo) names pending
shares_all ks [] names pending c h t = λ r. let a = t r in h r ∙ ap at_most_one (omega (arith, a))
shares_all ks (k ∷ todo) names pending c h t =
    λ q b. shares_all ks todo names (with_pending q pending) (λ r. one_when (same_region (Numbered r) q) + c r)
    (more_pending q pending c h)
    (λ r. let a = t r in let e : one_when (same_bound (Numbered r) (bound names k))
    ≡ one_when (same_region (Numbered r) q) = ap (λ x. one_when (same_bound (Numbered r) x)) b in omega (arith, a, e))

-- protections share nothing, and what is asked for before an instruction shares what it is to share
shares_protects : (ps : List ℕ) (names : Bindings) → Shares [] (map Protect ps) names []
shares_protects [] names = λ r. refl
shares_protects (p ∷ ps) names = shares_protects ps names

shares_op : (op : CodeOp) (names : Bindings) → Shares (shared_names op) (duties_of_op op) names []
shares_op (Call to n from passes protects rs) names = shares_protects protects names
shares_op (Go n from passes rs) names = shares_all (regions_named passes) (regions_named passes) names [] (λ r. 0)
    (λ r. refl) (λ r. zero_add (bound_times (Numbered r) names (regions_named passes)))
shares_op (Do to action from rs) names = λ r. refl
shares_op (Print pieces from rs) names = λ r. refl
shares_op (Jump t rs) names = λ r. refl
shares_op (Branch v t rs u rs') names = λ r. refl
shares_op (Return value) names = λ r. refl

shares_before : (o : Option CodeInstr) (names : Bindings) → Shares (shared_before o) (duties_before o) names []
shares_before None names = λ r. refl
shares_before (Some i) names = shares_front (shared_names i.op) (map Create i.creates) (duties_of_op i.op) []
    (creates_share_none i.creates) (shares_op i.op) names

-- if nothing is pending, what a goroutine comes to owe before its next instruction shares what that instruction passes
pub shares_next : (code : Code) (frames : List TacFrame) (front : List Duty) → HasNoShare front → (names : Bindings)
    → Shares (to_share code frames) (front ++ next_duties code frames) names []
shares_next code frames front n names = shares_front (to_share code frames) front (next_duties code frames) [] n
    (next frames) names
  where
    next : (frames : List TacFrame) (names : Bindings) → Shares (to_share code frames) (next_duties code frames) names []
    next [] names = λ r. refl
    next (frame ∷ callers) names = shares_before (current code frame) names

-- if nothing is counted, nothing is pending
none_in : (xs : List ℕ) → ((r : ℕ) → times_in r xs ≡ 0) → xs ≡ []
none_in [] h = refl
none_in (x ∷ xs) h = let a = h x in let b : one_when (nat_eq x x) ≡ 1 = ap one_when (nat_eq_refl x) in
    absurd (omega (arith, a, b))

pub none_pending : (names : Bindings) (pending : List ℕ) → Shares [] [] names pending → pending ≡ []
none_pending names pending h = none_in pending h

-- base ends share nothing
pub ends_share_none : (base : List Region) → HasNoShare (map EndBase base)
ends_share_none [] = tt
ends_share_none (r ∷ rs) = ends_share_none rs
