-- The start of a run is orderly, and each step of the region machine keeps that. It is a law on the machine alone, proved with the
-- invariant of rgo_sound at hand; most steps change one holder, so the work is in duties, and in what an instruction comes to owe.
use Rattle.std.proofs.Common.{◌≡◌, ℕ, zero, suc, ◌+◌, ◌≤◌, ◌<◌, false, List, [], ◌∷◌, ◌++◌, map, length}
use Rattle.std.proofs.Common.{Option, Some, None, refl, sym, ap, ◌∙◌, subst, nat_eq, arith}
use Rattle.std.proofs.Common.{◌⊎◌, inl, inr, slice_get, slice_set, length-append, append_assoc}
use Rattle.std.proofs.lemmas.Option.{slice_get_within}
use Rattle.rgo_code.specs.Checked.{IsChecked}
use Rattle.rgo_code.specs.Code.{Branch, Call, Code, CodeInstr, CodeOp, Do, Go, Jump, Print, Return}
use Rattle.rgo_code.specs.NameRules.{Ascends, protected_names}
use Rattle.rgo_machine.specs.Runs.{Leads}
use Rattle.rgo_machine.specs.declared.picks.End.{End}
use Rattle.rgo_machine.specs.declared.picks.Pick.TheVariants.{Meet, One}
use Rattle.rgo_memory.specs.Memory.{Object}
use Rattle.rgo_region_machine.specs.Duties.{attend, attended, duty_done, protected, removal, shared, unprotected}
use Rattle.rgo_region_machine.specs.Duties.{with_protection, without_protection}
use Rattle.rgo_region_machine.specs.Instructions.{both_instructed, child_holder, holder_after, instruct, instructed_with}
use Rattle.rgo_region_machine.specs.Instructions.{last_frames, mark_with_end, unless_trapped, taken_offer}
use Rattle.rgo_region_machine.specs.Machine.{Acknowledge, Attend, Event, Finish, Instruct, MakeOffer, TakePage}
use Rattle.rgo_region_machine.specs.Machine.{finished, kept_mark, main_holder, page_before, page_for, page_taken, region_run, region_start, region_step}
use Rattle.rgo_region_machine.specs.Machine.{take_page, takes_page}
use Rattle.rgo_region_machine.specs.Objects.{making_region, new_object, with_page}
use Rattle.rgo_region_machine.specs.Offers.{acknowledge, make_offer, offer_for, offered}
use Rattle.rgo_region_machine.specs.Owed.{caller_duties, current, current_in, duties_before, duties_behind, duties_behind_call}
use Rattle.rgo_region_machine.specs.Owed.{duties_of_op, entry_removes, function_at, code_function, next_duties}
use Rattle.rgo_region_machine.specs.Owed.{regions_named, removes_behind}
use Rattle.rgo_region_machine.specs.Regions.{Bindings, bound, one_fewer, with_added_stake, one_page_more}
use Rattle.rgo_region_machine.specs.Regions.{removed_once, same_region, unbind, without}
use Rattle.rgo_region_machine.specs.States.{Create, Duty, EndBase, RegionEnvironment, Holder, Mark, NoOffer, Offer, Protect, RegionState}
use Rattle.rgo_region_machine.specs.States.{Remove, Share, Standing, Taken, Unprotect, frames_in, frames_of, top_names}
use Rattle.rgo_region_machine.specs.States.{below, with_top}
use Rattle.rgo_region_machine.specs.declared.limits.Limit.{Limit}
use Rattle.rgo_region_machine.specs.declared.regions.Region.{Region}
use Rattle.rgo_region_machine.specs.declared.regions.Region.TheVariants.{Global as GlobalRegion, Numbered}
use Rattle.rgo_sound.proofs.steps.Acting.{after}
use Rattle.rgo_sound.proofs.duties.Attends.{length_with_info, same_reflexive}
use Rattle.rgo_sound.proofs.plain.Steps.{Yields, yields, yields_at, yields_if, yields_is, yields_none, yields_then}
use Rattle.rgo_sound.proofs.offers.Offers.{all_good_start, class_has_stake, making_class, steps_keep_good}
use Rattle.rgo_sound.proofs.duties.Moves.{times_removed}
use Rattle.rgo_sound.proofs.steps.OneStep.{Allots, MeetDone, OneDone, OnFrom, IsSimple, gone_on, meet_done, one_done, receive_goes}
use Rattle.rgo_sound.proofs.steps.OneStep.{send_goes}
use Rattle.rgo_sound.proofs.Places.{get_append_left, get_append_place, get_append_right, get_set_other, get_set_same}
use Rattle.rgo_sound.proofs.Places.{length_set}
use Rattle.rgo_sound.proofs.RunLemmas.{run_keeps}
use Rattle.rgo_sound.proofs.calls.Starts.{last_frames_snoc}
use Rattle.rgo_sound.proofs.Tests.{eq_of, split}
use Rattle.rgo_sound.proofs.pointers.Steps.{Top, top_of}
use Rattle.rgo_sound.specs.Good.{AllGood}
use Rattle.rgo_sound.specs.Invariant.{AllWait, AreProtections, Fine, FramesFit, GoodHolder, bound_times, same_bound}
use Rattle.rgo_sound.specs.Invariant.{shared_before, shared_names, times, to_share}
use Rattle.rgo_sound.specs.NextNames.{HasStake}
use Rattle.rgo_sound.specs.Stakes.{one_when}
use Rattle.rgo_sound.proofs.pointers.Owners.{live_made}
use Rattle.rgo_tac.specs.Frames.{TacFrame}
use Rattle.rgo_tac.specs.Tac.{TacState}
use Rattle.rgo_region_interpreter.specs.Orderly.{Orderly, OrderlyHolder, Unprotects, UnprotectsIn, shares_in}
use Rattle.rgo_region_interpreter.specs.Tables.{AreMade}

-- ---- how many shares there are

pub shares_append : (xs ys : List Duty) → shares_in (xs ++ ys) ≡ shares_in xs + shares_in ys
shares_append [] ys = omega arith
shares_append (Create k ∷ xs) ys = shares_append xs ys
shares_append (Share k ∷ xs) ys = let e = shares_append xs ys in omega (arith, e)
shares_append (Protect k ∷ xs) ys = shares_append xs ys
shares_append (Unprotect k ∷ xs) ys = shares_append xs ys
shares_append (Remove k ∷ xs) ys = shares_append xs ys
shares_append (EndBase r ∷ xs) ys = shares_append xs ys

shares_creates : (ks : List ℕ) → shares_in (map Create ks) ≡ 0
shares_creates [] = refl
shares_creates (k ∷ ks) = shares_creates ks

shares_protects : (ks : List ℕ) → shares_in (map Protect ks) ≡ 0
shares_protects [] = refl
shares_protects (k ∷ ks) = shares_protects ks

shares_unprotects : (ks : List ℕ) → shares_in (map Unprotect ks) ≡ 0
shares_unprotects [] = refl
shares_unprotects (k ∷ ks) = shares_unprotects ks

shares_removes : (ks : List ℕ) → shares_in (map Remove ks) ≡ 0
shares_removes [] = refl
shares_removes (k ∷ ks) = shares_removes ks

shares_ends : (rs : List Region) → shares_in (map EndBase rs) ≡ 0
shares_ends [] = refl
shares_ends (r ∷ rs) = shares_ends rs

pub shares_shares : (ks : List ℕ) → shares_in (map Share ks) ≡ length ks
shares_shares [] = refl
shares_shares (k ∷ ks) = let e = shares_shares ks in omega (arith, e)

shares_of_op : (op : CodeOp) → shares_in (duties_of_op op) ≡ length (shared_names op)
shares_of_op (Do to action from removes) = refl
shares_of_op (Call to n from passes protects removes) = shares_protects protects
shares_of_op (Go n from passes removes) = shares_shares (regions_named passes)
shares_of_op (Print pieces from removes) = refl
shares_of_op (Jump target removes) = refl
shares_of_op (Branch test target removes other otherwise) = refl
shares_of_op (Return value) = refl

shares_before : (o : Option CodeInstr) → shares_in (duties_before o) ≡ length (shared_before o)
shares_before None = refl
shares_before (Some i) =
    let a = shares_append (map Create i.creates) (duties_of_op i.op) in
    let b = shares_creates i.creates in
    let c = shares_of_op i.op in
    omega (arith, a, b, c)

pub shares_next : (code : Code) (frames : List TacFrame) → shares_in (next_duties code frames) ≡ length (to_share code frames)
shares_next code [] = refl
shares_next code (frame ∷ callers) = shares_before (current code frame)

shares_behind : (op : CodeOp) → shares_in (duties_behind op) ≡ 0
shares_behind (Do to action from removes) = refl
shares_behind (Call to n from passes protects removes) =
    let a = shares_append (map Unprotect protects) (map Remove removes) in
    let b = shares_unprotects protects in
    let c = shares_removes removes in
    omega (arith, a, b, c)
shares_behind (Go n from passes removes) = refl
shares_behind (Print pieces from removes) = refl
shares_behind (Jump target removes) = refl
shares_behind (Branch test target removes other otherwise) = refl
shares_behind (Return value) = refl

shares_behind_call : (o : Option CodeInstr) → shares_in (duties_behind_call o) ≡ 0
shares_behind_call None = refl
shares_behind_call (Some i) = shares_behind i.op

shares_caller : (code : Code) (h : Holder) (callers : List TacFrame) → shares_in (caller_duties code h callers) ≡ 0
shares_caller code h [] = shares_ends h.base
shares_caller code h (caller ∷ callers) = shares_behind_call (current code caller)

-- ---- protections that end

-- steps by which no protection ends
abbrev EndsNone : List Duty → Type 0
EndsNone [] = Unit {0}
EndsNone (Create k ∷ ds) = EndsNone ds
EndsNone (Share k ∷ ds) = EndsNone ds
EndsNone (Protect k ∷ ds) = EndsNone ds
EndsNone (Unprotect k ∷ ds) = ⊥
EndsNone (Remove k ∷ ds) = EndsNone ds
EndsNone (EndBase r ∷ ds) = EndsNone ds

ends_append : (xs ys : List Duty) → EndsNone xs → EndsNone ys → EndsNone (xs ++ ys)
ends_append [] ys n m = m
ends_append (Create k ∷ xs) ys n m = ends_append xs ys n m
ends_append (Share k ∷ xs) ys n m = ends_append xs ys n m
ends_append (Protect k ∷ xs) ys n m = ends_append xs ys n m
ends_append (Unprotect k ∷ xs) ys n m = absurd n
ends_append (Remove k ∷ xs) ys n m = ends_append xs ys n m
ends_append (EndBase r ∷ xs) ys n m = ends_append xs ys n m

creates_end : (ks : List ℕ) → EndsNone (map Create ks)
creates_end [] = tt
creates_end (k ∷ ks) = creates_end ks

protects_end : (ks : List ℕ) → EndsNone (map Protect ks)
protects_end [] = tt
protects_end (k ∷ ks) = protects_end ks

shares_end : (ks : List ℕ) → EndsNone (map Share ks)
shares_end [] = tt
shares_end (k ∷ ks) = shares_end ks

removes_end : (ks : List ℕ) → EndsNone (map Remove ks)
removes_end [] = tt
removes_end (k ∷ ks) = removes_end ks

base_ends : (rs : List Region) → EndsNone (map EndBase rs)
base_ends [] = tt
base_ends (r ∷ rs) = base_ends rs

op_ends : (op : CodeOp) → EndsNone (duties_of_op op)
op_ends (Do to action from removes) = tt
op_ends (Call to n from passes protects removes) = protects_end protects
op_ends (Go n from passes removes) = shares_end (regions_named passes)
op_ends (Print pieces from removes) = tt
op_ends (Jump target removes) = tt
op_ends (Branch test target removes other otherwise) = tt
op_ends (Return value) = tt

before_ends : (o : Option CodeInstr) → EndsNone (duties_before o)
before_ends None = tt
before_ends (Some i) = ends_append (map Create i.creates) (duties_of_op i.op) (creates_end i.creates) (op_ends i.op)

next_ends : (code : Code) (frames : List TacFrame) → EndsNone (next_duties code frames)
next_ends code [] = tt
next_ends code (frame ∷ callers) = before_ends (current code frame)

ends_none : (ds : List Duty) → EndsNone ds → (names : Bindings) (protections : List Region)
    → Unprotects ds names protections
ends_none [] n names protections = tt
ends_none (Create k ∷ ds) n names protections = λ r. ends_none ds n ((k, Numbered r) ∷ unbind names k) protections
ends_none (Share k ∷ ds) n names protections = ends_none ds n names protections
ends_none (Protect k ∷ ds) n names protections = λ r b. ends_none ds n names (r ∷ protections)
ends_none (Unprotect k ∷ ds) n names protections = absurd n
ends_none (Remove k ∷ ds) n names protections = ends_none ds n (unbind names k) protections
ends_none (EndBase r ∷ ds) n names protections = ends_none ds n names protections

ends_none_in : (ds : List Duty) → EndsNone ds → (es : List RegionEnvironment) → UnprotectsIn ds es
ends_none_in ds n [] = tt
ends_none_in ds n (e ∷ es) = ends_none ds n e.names e.protections

-- the protections of these names end one after the other
unprotects_all : (ks : List ℕ) (ds : List Duty) (names : Bindings) (protections : List Region)
    → AreProtections protections names ks → EndsNone ds → Unprotects (map Unprotect ks ++ ds) names protections
unprotects_all [] ds names protections fit n = ends_none ds n names protections
unprotects_all (k ∷ ks) ds names protections fit n = λ q b. (
  there q b,
  unprotects_all ks ds names (removed_once q protections) (λ r. fewer q b r) n,
)
  where
    there : (q : Region) → bound names k ≡ Some q → 1 ≤ times q protections
    there q b =
        let a = fit q in
        let c : one_when (same_bound q (bound names k)) ≡ 1 =
        ap (λ x. one_when (same_bound q x)) b ∙ ap one_when (same_reflexive q) in
        omega (arith, a, c)

    fewer : (q : Region) → bound names k ≡ Some q → (r : Region) → times r (removed_once q protections)
        ≡ bound_times r names ks
    fewer q b r =
        let a = fit r in
        let c : one_when (same_bound r (bound names k)) ≡ one_when (same_region r q) =
        ap (λ x. one_when (same_bound r x)) b in
        let t = times_removed r q protections (there q b) in
        omega (arith, a, c, t)

-- by one step
created_in : (es : List RegionEnvironment) (n r : ℕ) (ds : List Duty) → UnprotectsIn (Create n ∷ ds) es
    → UnprotectsIn ds (with_top es ((n, Numbered r) ∷ unbind (top_names es) n))
created_in [] n r ds u = tt
created_in (e ∷ es) n r ds u = u r

shared_in : (es : List RegionEnvironment) (n : ℕ) (ds : List Duty) → UnprotectsIn (Share n ∷ ds) es → UnprotectsIn ds es
shared_in [] n ds u = tt
shared_in (e ∷ es) n ds u = u

protected_in : (es : List RegionEnvironment) (n : ℕ) (q : Region) (ds : List Duty) → bound (top_names es) n ≡ Some q
    → UnprotectsIn (Protect n ∷ ds) es → UnprotectsIn ds (with_protection es q)
protected_in [] n q ds b u = tt
protected_in (e ∷ es) n q ds b u = u q b

unprotected_in : (es : List RegionEnvironment) (n : ℕ) (q : Region) (ds : List Duty) → bound (top_names es) n ≡ Some q
    → UnprotectsIn (Unprotect n ∷ ds) es → UnprotectsIn ds (without_protection es q)
unprotected_in [] n q ds b u = tt
unprotected_in (e ∷ es) n q ds b u = (u q b).1

removed_in : (es : List RegionEnvironment) (n : ℕ) (ds : List Duty) → UnprotectsIn (Remove n ∷ ds) es
    → UnprotectsIn ds (with_top es (unbind (top_names es) n))
removed_in [] n ds u = tt
removed_in (e ∷ es) n ds u = u

ended_in : (es : List RegionEnvironment) (r : Region) (ds : List Duty) → UnprotectsIn (EndBase r ∷ ds) es → UnprotectsIn ds es
ended_in [] r ds u = tt
ended_in (e ∷ es) r ds u = u

-- ---- one goroutine

-- after an instruction all that the next one passes is to be shared
orderly_anew : (code : Code) (frames : List TacFrame) (h : Holder) (ds : List Duty) → h.duties ≡ ds ++ next_duties code frames
    → shares_in ds ≡ 0 → UnprotectsIn (ds ++ next_duties code frames) h.environments → h.pending ≡ []
    → OrderlyHolder code frames h
orderly_anew code frames h ds q z u p =
    let a = ap shares_in q in
    let b = shares_append ds (next_duties code frames) in
    let c = shares_next code frames in
    record {
      within = omega (arith, a, b, c, z);
      none = λ _. p;
      unprotects = subst (λ l. UnprotectsIn l h.environments) (sym q) u;
    }

orderly_same : (code : Code) (frames : List TacFrame) (h k : Holder) → OrderlyHolder code frames h → shares_in k.duties
    ≡ shares_in h.duties → k.pending ≡ h.pending → UnprotectsIn k.duties k.environments → OrderlyHolder code frames k
orderly_same code frames h k old d p u =
    let a = old.within in
    record { within = omega (arith, a, d); none = λ q. p ∙ old.none (sym d ∙ q); unprotects = u }

-- one share is done
orderly_shared : (code : Code) (frames : List TacFrame) (h k : Holder) → OrderlyHolder code frames h → shares_in h.duties
    ≡ 1 + shares_in k.duties → UnprotectsIn k.duties k.environments → OrderlyHolder code frames k
orderly_shared code frames h k old d u =
    let a = old.within in
    record { within = omega (arith, a, d); none = λ q. absurd (omega (arith, a, d, q)); unprotects = u }

-- ---- regions

running_before : (mark : Option Mark) (end : Option End) → mark_with_end mark end ≡ None → (mark ≡ None) × (end ≡ None)
running_before None None e = (refl, refl)
running_before None (Some end) e = cc
running_before (Some mark) end e = cc

module _ (code : Code) (s : RegionState) (old : Orderly code s) where
  -- one goroutine has another holder
  orderly_with : (t : RegionState) (g : ℕ) (h k : Holder) → slice_get s.holders g ≡ Some h → t.plain ≡ s.plain → t.holders
      ≡ slice_set s.holders g k → t.owners ≡ s.owners → t.mark ≡ s.mark → length s.regions ≤ length t.regions
      → (s.mark ≡ None → OrderlyHolder code (frames_of s.plain g) k) → Orderly code t
  orderly_with t g h k e ps hs os ms more new =
      record {
        owners = λ o r q.
            let l = old.owners o r (sym (ap (λ y. slice_get y o) os) ∙ q) in
            omega (arith, l, more);
        holders = λ m j x q. subst (λ p. OrderlyHolder code (frames_of p j) x) (sym ps)
            (each (sym ms ∙ m) j x (sym (ap (λ y. slice_get y j) hs) ∙ q));
      }
    where
      the_same : (x y : Holder) → Some x ≡ Some y → x ≡ y
      the_same x y e = cc

      each : s.mark ≡ None → (j : ℕ) (x : Holder) → slice_get (slice_set s.holders g k) j ≡ Some x
          → OrderlyHolder code (frames_of s.plain j) x
      each m j x q = split (nat_eq g j)
          (λ w. subst (OrderlyHolder code (frames_of s.plain j))
          (the_same k x (sym (get_set_same s.holders g h k e)
          ∙ ap (slice_get (slice_set s.holders g k)) (eq_of g j w) ∙ q))
          (subst (λ i. OrderlyHolder code (frames_of s.plain i) k) (eq_of g j w) (new m)))
          (λ n. old.holders m j x (sym (get_set_other s.holders g j k n) ∙ q))

  module _ (g : ℕ) (h : Holder) (e : slice_get s.holders g ≡ Some h) where
    before : s.mark ≡ None → UnprotectsIn h.duties h.environments
    before m = (old.holders m g h e).unprotects

    -- what was to be shared and what is pending stay
    kept_pending : (t : RegionState) (k : Holder) → t.plain ≡ s.plain → t.holders ≡ slice_set s.holders g k → t.owners
        ≡ s.owners → t.mark ≡ s.mark → length s.regions ≤ length t.regions → shares_in k.duties ≡ shares_in h.duties
        → k.pending ≡ h.pending → (s.mark ≡ None → UnprotectsIn k.duties k.environments) → Yields (Orderly code) (Some t)
    kept_pending t k ps hs os ms more ds pd u = yields t (orderly_with t g h k e ps hs os ms more
        (λ m. orderly_same code (frames_of s.plain g) h k (old.holders m g h e) ds pd (u m)))

    one_shared : (t : RegionState) (k : Holder) → t.plain ≡ s.plain → t.holders ≡ slice_set s.holders g k → t.owners
        ≡ s.owners → t.mark ≡ s.mark → length s.regions ≤ length t.regions → shares_in h.duties ≡ 1 + shares_in k.duties
        → (s.mark ≡ None → UnprotectsIn k.duties k.environments) → Yields (Orderly code) (Some t)
    one_shared t k ps hs os ms more ds u = yields t (orderly_with t g h k e ps hs os ms more
        (λ m. orderly_shared code (frames_of s.plain g) h k (old.holders m g h e) ds (u m)))

    removes : (k : Holder) (q : Region) → shares_in k.duties ≡ shares_in h.duties → k.pending ≡ h.pending
        → (s.mark ≡ None → UnprotectsIn k.duties k.environments) → Yields (Orderly code) (removal s g k q)
    removes k GlobalRegion ds pd u = kept_pending _ k refl refl refl refl (omega arith) ds pd u
    removes k (Numbered r) ds pd u =
        let l = length_with_info s.regions r one_fewer in
        yields_if _ _ _ (yields_if _ _ _ (kept_pending _ k refl refl refl refl (omega arith) ds pd u)
        (kept_pending _ (record k { stakes = without r k.stakes }) refl refl refl refl (omega (arith, l)) ds pd u))
        yields_none

    shares : (k : Holder) (q : Region) → shares_in h.duties ≡ 1 + shares_in k.duties
        → (s.mark ≡ None → UnprotectsIn k.duties k.environments) → Yields (Orderly code) (shared s g k q)
    shares k GlobalRegion ds u = one_shared _ k refl refl refl refl (omega arith) ds u
    shares k (Numbered r) ds u =
        let l = length_with_info s.regions r with_added_stake in
        yields_if _ _ _ (yields_if _ _ _ (one_shared _ k refl refl refl refl (omega arith) ds u)
        (one_shared _ (record k { pending = r ∷ k.pending }) refl refl refl refl (omega (arith, l)) ds u)) yields_none

    done : (d : Duty) (ds : List Duty) → h.duties ≡ d ∷ ds
        → Yields (Orderly code) (duty_done s g (record h { duties = ds }) d)
    done d ds q = by d (ap shares_in q) (λ m. subst (λ l. UnprotectsIn l h.environments) q (before m))
      where
        by : (d : Duty) → shares_in h.duties ≡ shares_in (d ∷ ds) → (s.mark ≡ None → UnprotectsIn (d ∷ ds) h.environments)
            → Yields (Orderly code) (duty_done s g (record h { duties = ds }) d)
        by (Create n) c u =
            let l = length-append s.regions (record { stakes = 1; pages = 0 } ∷ []) in
            kept_pending _ (record h {
              stakes = length s.regions ∷ h.stakes;
              environments =
                  with_top h.environments ((n, Numbered (length s.regions)) ∷ unbind (top_names h.environments) n);
              duties = ds;
            }) refl refl refl refl (omega (arith, l)) (sym c) refl
            (λ m. created_in h.environments n (length s.regions) ds (u m))
        by (Share n) c u = yields_then (shared s g (record h { duties = ds })) _
            (λ r. shares (record h { duties = ds }) r c (λ m. shared_in h.environments n ds (u m)))
        by (Protect n) c u = yields_at (bound (top_names h.environments) n) (protected s g (record h { duties = ds }))
            (λ r b. yields_if _ _ _ (kept_pending _
            (record h { environments = with_protection h.environments r; duties = ds }) refl refl refl refl (omega arith)
            (sym c) refl (λ m. protected_in h.environments n r ds b (u m))) yields_none)
        by (Unprotect n) c u = yields_at (bound (top_names h.environments) n)
            (λ r. Some (attended s g (unprotected (record h { duties = ds }) r)))
            (λ r b. kept_pending _ (unprotected (record h { duties = ds }) r) refl refl refl refl (omega arith) (sym c) refl
            (λ m. unprotected_in h.environments n r ds b (u m)))
        by (Remove n) c u = yields_then (removal s g (record h {
          environments = with_top h.environments (unbind (top_names h.environments) n);
          duties = ds;
        })) _ (λ r. removes (record h {
          environments = with_top h.environments (unbind (top_names h.environments) n);
          duties = ds;
        }) r (sym c) refl (λ m. removed_in h.environments n ds (u m)))
        by (EndBase r) c u = removes (record h { base = removed_once r h.base; duties = ds }) r (sym c) refl
            (λ m. ended_in h.environments r ds (u m))

    attends : Yields (Orderly code) (attend s g h h.duties)
    attends = go h.duties refl
      where
        go : (ds : List Duty) → h.duties ≡ ds → Yields (Orderly code) (attend s g h ds)
        go [] q = yields_none
        go (d ∷ ds) q = yields_if _ _ _ (done d ds q) yields_none

    takes : (page_words : ℕ) (frames : List TacFrame) → Yields (Orderly code) (take_page code page_words s g h frames)
    takes page_words [] = yields_none
    takes page_words (frame ∷ callers) = yields_then (page_for code page_words s g h frame) _
        (λ i. yields_then (takes_page code page_words s g h) _ (λ r. yields_then (page_before page_words s g h r) _
        (λ x. yields_if _ _ _ (taken r x) yields_none)))
      where
        taken : (r : Region) (x : Object)
            → Yields (Orderly code) (Some (page_taken s g (with_page page_words h r x) r))
        taken GlobalRegion x = kept_pending _ (with_page page_words h GlobalRegion x) refl refl refl refl (omega arith)
            refl refl before
        taken (Numbered r) x =
            let l = length_with_info s.regions r one_page_more in
            kept_pending _ (with_page page_words h (Numbered r) x) refl refl refl refl (omega (arith, l)) refl refl before

    offers : (frames : List TacFrame) → Yields (Orderly code) (make_offer code s g h frames)
    offers [] = yields_none
    offers (frame ∷ callers) = yields_if _ _ _ (yields_then (offer_for s g h frame) _
        (λ i. yields_then (offered s g h) _ (λ o. yields_if _ _ _ yields_none
        (kept_pending _ (record h { offer = Standing o }) refl refl refl refl (omega arith) refl refl before))))
        yields_none

    acknowledges : (offer : Offer) → Yields (Orderly code) (acknowledge s g h offer)
    acknowledges NoOffer = yields_none
    acknowledges (Standing o) = yields_none
    acknowledges (Taken o) = yields_if _ _ _
        (kept_pending _ (record h { offer = NoOffer }) refl refl refl refl (omega arith) refl refl before) yields_none

  finishes : (limit : Limit) → Orderly code (finished s limit)
  finishes limit = record { owners = old.owners; holders = λ m. absurd (never s.mark m) }
    where
      never : (mark : Option Mark) → kept_mark mark limit ≡ None → ⊥
      never None e = cc
      never (Some mark) e = cc

  -- ---- instructions

  -- what is pending before an instruction that starts no goroutine
  none_pending : (g : ℕ) (h : Holder) (frame : TacFrame) (callers : List TacFrame) (instr : CodeInstr) → s.mark ≡ None
      → slice_get s.holders g ≡ Some h → slice_get s.plain.goroutines g ≡ Some (frame ∷ callers) → current code frame
      ≡ Some instr → h.duties ≡ [] → shared_names instr.op ≡ [] → h.pending ≡ []
  none_pending g h frame callers instr m e at cur d n =
      let p = old.holders m g h e in
      let is : to_share code (frames_of s.plain g) ≡ [] = ap (to_share code) (ap frames_in at) ∙ ap shared_before cur ∙ n in
      p.none (ap shares_in d ∙ sym (ap length is))

  -- the end of the protections of the call to which an instruction returns
  returned : (h : Holder) (frame : TacFrame) (callers next : List TacFrame) (es : List RegionEnvironment)
      → FramesFit code h.base (frame ∷ callers) es h.duties
      → UnprotectsIn (caller_duties code h callers ++ next_duties code next) (below es)
  returned h frame callers next [] fit = tt
  returned h frame [] next (f ∷ fs) fit =
      ends_none_in (map EndBase h.base ++ next_duties code next)
      (ends_append (map EndBase h.base) (next_duties code next) (base_ends h.base) (next_ends code next)) fs
  returned h frame (caller ∷ callers) next (f ∷ []) fit = tt
  returned h frame (caller ∷ callers) next (f ∷ f' ∷ fs) fit = go fit.1
    where
      behind : (op : CodeOp) → AreProtections f'.protections f'.names (protected_names op)
          → Unprotects (duties_behind op ++ next_duties code next) f'.names f'.protections
      behind (Do to action from removes) p = ends_none (next_duties code next) (next_ends code next) f'.names f'.protections
      behind (Call to n from passes protects removes) p =
          subst (λ l. Unprotects l f'.names f'.protections)
          (sym (append_assoc (map Unprotect protects) (map Remove removes) (next_duties code next)))
          (unprotects_all protects (map Remove removes ++ next_duties code next) f'.names f'.protections p
          (ends_append (map Remove removes) (next_duties code next) (removes_end removes) (next_ends code next)))
      behind (Go n from passes removes) p = ends_none (next_duties code next) (next_ends code next) f'.names f'.protections
      behind (Print pieces from removes) p =
          ends_none (next_duties code next) (next_ends code next) f'.names f'.protections
      behind (Jump target removes) p = ends_none (next_duties code next) (next_ends code next) f'.names f'.protections
      behind (Branch test target removes other otherwise) p =
          ends_none (next_duties code next) (next_ends code next) f'.names f'.protections
      behind (Return value) p = ends_none (next_duties code next) (next_ends code next) f'.names f'.protections

      go : AllWait code (caller ∷ callers) (f' ∷ fs)
          → Unprotects (duties_behind_call (current code caller) ++ next_duties code next) f'.names f'.protections
      go (w, ws) =
          let cur = ap (λ o. current_in o caller.next) w.is_fn ∙ w.is_instr in
          subst (λ o. Unprotects (duties_behind_call o ++ next_duties code next) f'.names f'.protections) (sym cur)
          (behind w.instr.op w.protections_fit)

  -- the holder after an instruction
  orderly_after : (h : Holder) (frame : TacFrame) (callers : List TacFrame) (op : CodeOp) (next : List TacFrame)
      → FramesFit code h.base (frame ∷ callers) h.environments h.duties → (shared_names op ≡ [] → h.pending ≡ [])
      → OrderlyHolder code next (holder_after code h frame callers op next)
  orderly_after h frame callers op next fit p = by op p
    where
      simply : (k : Holder) (removes : List ℕ) → k.duties ≡ map Remove removes ++ next_duties code next → k.pending ≡ []
          → OrderlyHolder code next k
      simply k removes d q = orderly_anew code next k (map Remove removes) d (shares_removes removes)
          (ends_none_in (map Remove removes ++ next_duties code next)
          (ends_append (map Remove removes) (next_duties code next) (removes_end removes) (next_ends code next))
          k.environments) q

      by : (op : CodeOp) → (shared_names op ≡ [] → h.pending ≡ [])
          → OrderlyHolder code next (holder_after code h frame callers op next)
      by (Do to action from removes) p = simply _ removes refl (p refl)
      by (Call to n from passes protects removes) p = simply _ (entry_removes (code_function code n)) refl (p refl)
      by (Go n from passes removes) p = simply _ removes refl refl
      by (Print pieces from removes) p = simply _ removes refl (p refl)
      by (Jump target removes) p = simply _ removes refl (p refl)
      by (Branch test target removes other otherwise) p =
          simply _ (removes_behind frame (Branch test target removes other otherwise)) refl (p refl)
      by (Return value) p =
          orderly_anew code next _ (caller_duties code h callers) refl (shares_caller code h callers)
          (returned h frame callers next h.environments fit) (p refl)

  -- the owner of a new object is the region in which it is made
  owner_is : (region : Option Region) (object : Option Object) (given : List Region) (j : ℕ) (r : Region)
      → Allots region object given → slice_get given j ≡ Some r → region ≡ Some r
  owner_is None None given j r a e = let x : slice_get [] j ≡ Some r = sym (ap (λ y. slice_get y j) a) ∙ e in cc
  owner_is (Some q) None given j r a e = let x : slice_get [] j ≡ Some r = sym (ap (λ y. slice_get y j) a) ∙ e in cc
  owner_is None (Some object) given j r a e = absurd a
  owner_is (Some q) (Some object) given j r a e = here j (sym (ap (λ y. slice_get y j) a) ∙ e)
    where
      here : (j : ℕ) → slice_get (q ∷ []) j ≡ Some r → Some q ≡ Some r
      here zero x = x
      here (suc j) x = cc

  orderly_one : (page_words g : ℕ) (t : RegionState) → AllGood code s → Fine code t → OneDone code page_words s g t
      → Orderly code t
  orderly_one page_words g t all fine x = subst (Orderly code) (sym x.is) (record { owners = owners; holders = holders })
    where
      T : RegionState
      T = instructed_with code s g x.frame x.callers x.instr (after s.plain g x.a) x.given

      own : Holder
      own = holder_after code x.given.0 x.frame x.callers x.instr.op (frames_of (after s.plain g x.a) g)

      owners : AreMade s.regions (s.owners ++ x.given.1)
      owners o r e = go (get_append_place s.owners x.given.1 o (Numbered r) e)
        where
          top : Top code x.h x.frame x.callers
          top = top_of code x.h x.frame x.callers
              (subst (λ y. GoodHolder code y x.h) (ap frames_in x.at) (all.good.fine.each g x.h x.there))

          go : (slice_get s.owners o ≡ Some (Numbered r)) ⊎ ((j : ℕ) × (o ≡ length s.owners + j)
              × (slice_get x.given.1 j ≡ Some (Numbered r))) → r < length s.regions
          go (inl q) = old.owners o r q
          go (inr (j, l, q)) =
              let m = owner_is (making_region (function_at code x.frame) (top_names x.h.environments) x.instr.op)
              (new_object s.plain (after s.plain g x.a)) x.given.1 j (Numbered r) x.allots q in
              let c = making_class top.stands.fn top.f.names x.instr.op (Numbered r)
              (ap (λ sh. making_region (Some top.stands.fn) (top_names sh) x.instr.op) (sym top.environments)
              ∙ ap (λ y. making_region y (top_names x.h.environments) x.instr.op) (sym top.stands.is_fn) ∙ m) in
              let stake : HasStake s x.h (Numbered r) = class_has_stake code s g x.h x.frame x.callers top c.0 (Numbered r)
              all.good.fine x.there c.1 in
              live_made s.regions r stake.0

      own_orderly : s.mark ≡ None → OrderlyHolder code (frames_of (after s.plain g x.a) g) own
      own_orderly m =
          subst (λ (k : Holder). OrderlyHolder code (frames_of (after s.plain g x.a) g)
          (holder_after code k x.frame x.callers x.instr.op (frames_of (after s.plain g x.a) g))) (sym x.same.same)
          (orderly_after (record x.h { fills = x.same.fills; reserved = x.same.reserved }) x.frame x.callers x.instr.op
          (frames_of (after s.plain g x.a) g)
          (subst (λ f. FramesFit code x.h.base f x.h.environments x.h.duties) (ap frames_in x.at)
          (all.good.fine.each g x.h x.there).fit)
          (λ n. none_pending g x.h x.frame x.callers x.instr m x.there x.at x.cur x.ready.none n))

      the_same : (x y : Holder) → Some x ≡ Some y → x ≡ y
      the_same x y e = cc

      holders : mark_with_end s.mark (after s.plain g x.a).ended ≡ None → (j : ℕ) (y : Holder) → slice_get T.holders j ≡ Some y
          → OrderlyHolder code (frames_of T.plain j) y
      holders m j y e = go (get_append_place (slice_set s.holders g held) child j y e)
        where
          running : (s.mark ≡ None) × ((after s.plain g x.a).ended ≡ None)
          running = running_before s.mark (after s.plain g x.a).ended m

          held : Holder
          held = unless_trapped (after s.plain g x.a).ended x.given.0 own

          child : List Holder
          child = child_holder code x.given.0 x.instr.op (last_frames (after s.plain g x.a).goroutines)

          held_is : held ≡ own
          held_is = ap (λ o. unless_trapped o x.given.0 own) running.1

          as_long : length (slice_set s.holders g held) ≡ length (slice_set s.plain.goroutines g x.a.frames)
          as_long =
              let a = length_set s.holders g held in
              let b = length_set s.plain.goroutines g x.a.frames in
              let c = all.good.fine.as_many in
              omega (arith, a, b, c)

          other : nat_eq g j ≡ false → slice_get s.holders j ≡ Some y → OrderlyHolder code (frames_of T.plain j) y
          other n q =
              let l = slice_get_within s.holders j y q in
              let a = length_set s.plain.goroutines g x.a.frames in
              let b = all.good.fine.as_many in
              let same : slice_get T.plain.goroutines j ≡ slice_get s.plain.goroutines j =
              get_append_left (slice_set s.plain.goroutines g x.a.frames) x.a.started j (omega (arith, l, a, b))
              ∙ get_set_other s.plain.goroutines g j x.a.frames n in
              subst (λ o. OrderlyHolder code (frames_in o) y) (sym same) (old.holders running.0 j y q)

          -- a goroutine that is started
          as_many : (op : CodeOp) → x.instr.op ≡ op
              → length (slice_set s.holders g held ++ child_holder code x.given.0 op (last_frames (after s.plain g x.a).goroutines))
              ≡ length (slice_set s.plain.goroutines g x.a.frames ++ x.a.started)
          as_many op is = subst (λ o. length (slice_set s.holders g held
              ++ child_holder code x.given.0 o (last_frames (after s.plain g x.a).goroutines))
              ≡ length (slice_set s.plain.goroutines g x.a.frames ++ x.a.started)) is
              (subst (Fine code) x.is fine).as_many

          started : (k : Holder) → k.pending ≡ [] → (i : ℕ) → j ≡ length (slice_set s.holders g held) + i
              → (removes : List ℕ)
              → k.duties ≡ map Remove removes ++ next_duties code (last_frames (after s.plain g x.a).goroutines)
              → length (slice_set s.holders g held ++ k ∷ [])
              ≡ length (slice_set s.plain.goroutines g x.a.frames ++ x.a.started) → i ≡ 0
              → OrderlyHolder code (frames_of T.plain j) k
          started k p i at removes d many first = one x.a.started refl
            where
              one : (xs : List (List TacFrame)) → x.a.started ≡ xs → OrderlyHolder code (frames_of T.plain j) k
              one [] q = absurd (
                  let a = length-append (slice_set s.holders g held) (k ∷ []) in
                  let b = length-append (slice_set s.plain.goroutines g x.a.frames) x.a.started in
                  let c : length x.a.started ≡ 0 = ap length q in
                  omega (arith, a, b, c, many, as_long))
              one (f ∷ f' ∷ xs) q = absurd (
                  let a = length-append (slice_set s.holders g held) (k ∷ []) in
                  let b = length-append (slice_set s.plain.goroutines g x.a.frames) x.a.started in
                  let c : length x.a.started ≡ suc (suc (length xs)) = ap length q in
                  omega (arith, a, b, c, many, as_long))
              one (f ∷ []) q =
                  let there : slice_get T.plain.goroutines j ≡ Some f =
                  get_append_right (slice_set s.plain.goroutines g x.a.frames) x.a.started j 0
                  (omega (arith, at, as_long, first)) ∙ ap (λ l. slice_get l 0) q in
                  let last : last_frames (after s.plain g x.a).goroutines ≡ f =
                  ap (λ l. last_frames (slice_set s.plain.goroutines g x.a.frames ++ l)) q
                  ∙ last_frames_snoc (slice_set s.plain.goroutines g x.a.frames) f in
                  subst (λ o. OrderlyHolder code (frames_in o) k) (sym there)
                  (orderly_anew code f k (map Remove removes) (d ∙ ap (λ l. map Remove removes ++ next_duties code l) last)
                  (shares_removes removes)
                  (ends_none_in (map Remove removes ++ next_duties code f)
                  (ends_append (map Remove removes) (next_duties code f) (removes_end removes) (next_ends code f))
                  k.environments) p)

          by : (op : CodeOp) → x.instr.op ≡ op → (i : ℕ) → j ≡ length (slice_set s.holders g held) + i
              → slice_get (child_holder code x.given.0 op (last_frames (after s.plain g x.a).goroutines)) i ≡ Some y
              → OrderlyHolder code (frames_of T.plain j) y
          by (Do to action from removes) is i at q = cc
          by (Call to n from passes protects removes) is i at q = cc
          by (Go n from passes removes) is zero at q =
              subst (OrderlyHolder code (frames_of T.plain j)) (the_same _ y q)
              (started _ refl zero at (entry_removes (code_function code n)) refl (as_many (Go n from passes removes) is) refl)
          by (Go n from passes removes) is (suc i) at q = cc
          by (Print pieces from removes) is i at q = cc
          by (Jump target removes) is i at q = cc
          by (Branch test target removes otherwise others) is i at q = cc
          by (Return value) is i at q = cc

          go : (slice_get (slice_set s.holders g held) j ≡ Some y) ⊎ ((i : ℕ)
              × (j ≡ length (slice_set s.holders g held) + i) × (slice_get child i ≡ Some y))
              → OrderlyHolder code (frames_of T.plain j) y
          go (inl q) = split (nat_eq g j)
              (λ w. subst (OrderlyHolder code (frames_of T.plain j))
              (sym held_is ∙ the_same held y (sym (get_set_same s.holders g x.h held x.there)
              ∙ ap (slice_get (slice_set s.holders g held)) (eq_of g j w) ∙ q))
              (subst (λ i. OrderlyHolder code (frames_of T.plain i) own) (eq_of g j w) (own_orderly running.0)))
              (λ n. other n (sym (get_set_other s.holders g j held n) ∙ q))
          go (inr (i, at, q)) = by x.instr.op refl i at q

  -- one of two that meet
  orderly_side : (frames : List TacFrame) (next : List TacFrame) (on : OnFrom code frames next) (g : ℕ) (h : Holder) (k : Holder)
      → s.mark ≡ None → slice_get s.holders g ≡ Some h → slice_get s.plain.goroutines g ≡ Some frames → h.duties ≡ []
      → k.duties ≡ (gone_on on h).duties → k.pending ≡ h.pending → OrderlyHolder code next k
  orderly_side frames next on g h k m e at d ds p =
      subst (λ f. OrderlyHolder code f k) (sym on.next_is)
      (orderly_anew code (on.frame' ∷ on.callers) k (map Remove (removes_behind on.frame on.instr.op)) ds
      (shares_removes (removes_behind on.frame on.instr.op))
      (ends_none_in (map Remove (removes_behind on.frame on.instr.op) ++ next_duties code (on.frame' ∷ on.callers))
      (ends_append (map Remove (removes_behind on.frame on.instr.op)) (next_duties code (on.frame' ∷ on.callers))
      (removes_end (removes_behind on.frame on.instr.op)) (next_ends code (on.frame' ∷ on.callers))) k.environments)
      (p ∙ none_pending g h on.frame on.callers on.instr m e (at ∙ ap Some on.at) on.cur d
      (nothing on.instr.op on.simple)))
    where
      nothing : (op : CodeOp) → IsSimple op → shared_names op ≡ []
      nothing (Do to action from removes) i = refl
      nothing (Call to n from passes protects removes) i = absurd i
      nothing (Go n from passes removes) i = absurd i
      nothing (Print pieces from removes) i = refl
      nothing (Jump target removes) i = refl
      nothing (Branch test target removes other otherwise) i = refl
      nothing (Return value) i = absurd i

  orderly_meet : (r u : ℕ) (t : RegionState) → (t.mark ≡ None → s.mark ≡ None) → MeetDone code s r u t → Orderly code t
  orderly_meet r u t mark x = record { owners = owners; holders = holders }
    where
      receiver : Holder
      receiver = gone_on (receive_goes x.receives x.v) x.h

      sender : Holder
      sender = record (gone_on (send_goes x.sends) x.k) { offer = taken_offer x.k.offer }

      flip : (x y : ℕ) → nat_eq x y ≡ false → nat_eq y x ≡ false
      flip x y h = grind arith

      the_same : (x y : Holder) → Some x ≡ Some y → x ≡ y
      the_same x y e = cc

      owners : AreMade t.regions t.owners
      owners o q e =
          let l = old.owners o q (sym (ap (λ y. slice_get y o) x.owners) ∙ e) in
          let m : length t.regions ≡ length s.regions = ap length x.regions in
          omega (arith, l, m)

      goroutines : List (List TacFrame)
      goroutines = slice_set (slice_set s.plain.goroutines r (x.go_on x.v)) u x.next

      frames_are : (j : ℕ) (o : Option (List TacFrame)) → slice_get goroutines j ≡ o → frames_of t.plain j ≡ frames_in o
      frames_are j o e = ap (λ p. frames_of p j) x.plain ∙ ap frames_in e

      holders : t.mark ≡ None → (j : ℕ) (y : Holder) → slice_get t.holders j ≡ Some y → OrderlyHolder code (frames_of t.plain j) y
      holders m j y e = split (nat_eq u j) (λ w. of_sender (eq_of u j w)) (λ n. others n)
        where
          there : slice_get (slice_set (slice_set s.holders r receiver) u sender) j ≡ Some y
          there = sym (ap (λ l. slice_get l j) x.holders) ∙ e

          of_sender : u ≡ j → OrderlyHolder code (frames_of t.plain j) y
          of_sender w =
              let is : sender ≡ y = the_same sender y
              (sym (get_set_same (slice_set s.holders r receiver) u x.k sender
              (get_set_other s.holders r u receiver x.apart ∙ x.there_k))
              ∙ ap (slice_get (slice_set (slice_set s.holders r receiver) u sender)) w ∙ there) in
              let at : slice_get goroutines j ≡ Some x.next =
              ap (slice_get goroutines) (sym w)
              ∙ get_set_same (slice_set s.plain.goroutines r (x.go_on x.v)) u x.sender x.next
              (get_set_other s.plain.goroutines r u (x.go_on x.v) x.apart ∙ x.at_u) in
              subst (λ f. OrderlyHolder code f y) (sym (frames_are j (Some x.next) at))
              (subst (OrderlyHolder code x.next) is
              (orderly_side x.sender x.next (send_goes x.sends) u x.k sender (mark m) x.there_k x.at_u x.ready_k.none refl
              refl))

          others : nat_eq u j ≡ false → OrderlyHolder code (frames_of t.plain j) y
          others n = split (nat_eq r j) (λ w. of_receiver (eq_of r j w)) (λ n'. of_other n')
            where
              left : slice_get (slice_set s.holders r receiver) j ≡ Some y
              left = sym (get_set_other (slice_set s.holders r receiver) u j sender n) ∙ there

              of_receiver : r ≡ j → OrderlyHolder code (frames_of t.plain j) y
              of_receiver w =
                  let is : receiver ≡ y = the_same receiver y
                  (sym (get_set_same s.holders r x.h receiver x.there_h)
                  ∙ ap (slice_get (slice_set s.holders r receiver)) w ∙ left) in
                  let at : slice_get goroutines j ≡ Some (x.go_on x.v) =
                  get_set_other (slice_set s.plain.goroutines r (x.go_on x.v)) u j x.next n
                  ∙ ap (slice_get (slice_set s.plain.goroutines r (x.go_on x.v))) (sym w)
                  ∙ get_set_same s.plain.goroutines r x.receiver (x.go_on x.v) x.at_r in
                  subst (λ f. OrderlyHolder code f y) (sym (frames_are j (Some (x.go_on x.v)) at))
                  (subst (OrderlyHolder code (x.go_on x.v)) is
                  (orderly_side x.receiver (x.go_on x.v) (receive_goes x.receives x.v) r x.h receiver (mark m) x.there_h
                  x.at_r x.ready_h.none refl refl))

              of_other : nat_eq r j ≡ false → OrderlyHolder code (frames_of t.plain j) y
              of_other n' =
                  let q : slice_get s.holders j ≡ Some y = sym (get_set_other s.holders r j receiver n') ∙ left in
                  let same : frames_of t.plain j ≡ frames_of s.plain j =
                  ap (λ p. frames_of p j) x.plain
                  ∙ ap frames_in (get_set_other (slice_set s.plain.goroutines r (x.go_on x.v)) u j x.next n
                  ∙ get_set_other s.plain.goroutines r j (x.go_on x.v) n') in
                  subst (λ f. OrderlyHolder code f y) (sym same) (old.holders (mark m) j y q)

-- a meeting continues from a state at which the run had not ended
meets_from : (code : Code) (page_words : ℕ) (s : RegionState) (r u : ℕ)
    → Yields (λ (t : RegionState). t.mark ≡ None → s.mark ≡ None) (region_step code page_words s (Instruct (Meet r u)))
meets_from code page_words s r u = yields_then (instruct code page_words s (Meet r u)) _
    (λ next. both next (slice_get s.holders r) (slice_get s.holders u))
  where
    both : (next : TacState) (o p : Option Holder)
        → Yields (λ (t : RegionState). t.mark ≡ None → s.mark ≡ None) (both_instructed code s r u o p next)
    both next None p = yields_none
    both next (Some h) None = yields_none
    both next (Some h) (Some k) = yields_if _ _ _ (yields _ (λ m. (running_before s.mark next.ended m).0)) yields_none

-- ---- all steps

pub orderly_step : (code : Code) (page_words : ℕ) (s t : RegionState) (event : Event) → IsChecked code → Ascends code
    → AllGood code s → Orderly code s → region_step code page_words s event ≡ Some t → Orderly code t
orderly_step code page_words s t (Instruct (One g)) checked written all old e =
    orderly_one code s old page_words g t all
    (steps_keep_good code page_words s t (Instruct (One g)) checked written all e).good.fine
    (yields_is {P = OneDone code page_words s g} (region_step code page_words s (Instruct (One g))) t
    (one_done code page_words s g) e)
orderly_step code page_words s t (Instruct (Meet r u)) checked written all old e =
    orderly_meet code s old r u t
    (yields_is {P = λ (t : RegionState). t.mark ≡ None → s.mark ≡ None}
    (region_step code page_words s (Instruct (Meet r u))) t (meets_from code page_words s r u) e)
    (yields_is {P = MeetDone code s r u} (region_step code page_words s (Instruct (Meet r u))) t
    (meet_done code page_words s r u) e)
orderly_step code page_words s t (Attend g) checked written all old e =
    yields_is {P = Orderly code} (region_step code page_words s (Attend g)) t
    (yields_at (slice_get s.holders g) (λ (h : Holder). attend s g h h.duties) (λ h q. attends code s old g h q)) e
orderly_step code page_words s t (TakePage g) checked written all old e =
    yields_is {P = Orderly code} (region_step code page_words s (TakePage g)) t
    (yields_at (slice_get s.holders g) (λ h. take_page code page_words s g h (frames_of s.plain g))
    (λ h q. takes code s old g h q page_words (frames_of s.plain g))) e
orderly_step code page_words s t (MakeOffer g) checked written all old e =
    yields_is {P = Orderly code} (region_step code page_words s (MakeOffer g)) t
    (yields_at (slice_get s.holders g) (λ h. make_offer code s g h (frames_of s.plain g))
    (λ h q. offers code s old g h q (frames_of s.plain g))) e
orderly_step code page_words s t (Acknowledge g) checked written all old e =
    yields_is {P = Orderly code} (region_step code page_words s (Acknowledge g)) t
    (yields_at (slice_get s.holders g) (λ (h : Holder). acknowledge s g h h.offer)
    (λ h q. acknowledges code s old g h q h.offer)) e
orderly_step code page_words s t (Finish limit) checked written all old e =
    subst (Orderly code) (the_same (finished s limit) t e) (finishes code s old limit)
  where
    the_same : (x y : RegionState) → Some x ≡ Some y → x ≡ y
    the_same x y e = cc

-- ---- runs

pub orderly_start : (code : Code) → Orderly code (region_start code)
orderly_start code = record { owners = λ o r e. cc; holders = λ m g h e. first g h e }
  where
    the_same : (x y : Holder) → Some x ≡ Some y → x ≡ y
    the_same x y e = cc

    start : Holder
    start = main_holder code (frames_of (region_start code).plain 0)

    first : (g : ℕ) (h : Holder) → slice_get (region_start code).holders g ≡ Some h
        → OrderlyHolder code (frames_of (region_start code).plain g) h
    first zero h e = subst (OrderlyHolder code (frames_of (region_start code).plain 0)) (the_same start h e)
        (orderly_anew code (frames_of (region_start code).plain 0) start [] refl refl
        (ends_none_in (next_duties code (frames_of (region_start code).plain 0))
        (next_ends code (frames_of (region_start code).plain 0)) start.environments) refl)
    first (suc g) h e = cc

-- what holds of the regions of a state, and stays so in what it leads to
pub record Holds (code : Code) (s : RegionState) : Type 0 where
  pub good : AllGood code s
  pub orderly : Orderly code s

pub holds_on : (code : Code) (page_words : ℕ) (s t : RegionState) (events : List Event) → IsChecked code → Ascends code
    → AllGood code s → Orderly code s → Leads (region_step code page_words) s events t → Holds code t
holds_on code page_words s t events checked written all old leads =
    run_keeps code page_words (Holds code) step events s t (record { good = all; orderly = old }) leads
  where
    step : (s : RegionState) (e : Event) → Holds code s → Yields (Holds code) (region_step code page_words s e)
    step s e h = go (region_step code page_words s e) refl
      where
        go : (o : Option RegionState) → region_step code page_words s e ≡ o → Yields (Holds code) o
        go None q = yields_none
        go (Some t) q = yields t (record {
          good = steps_keep_good code page_words s t e checked written h.good q;
          orderly = orderly_step code page_words s t e checked written h.good h.orderly q;
        })

-- every state of every run of checked code is orderly
pub runs_are_orderly : (code : Code) (page_words : ℕ) (events : List Event) (s : RegionState) → IsChecked code
    → Ascends code → region_run code page_words events ≡ Some s → Orderly code s
runs_are_orderly code page_words events s checked written run =
    (holds_on code page_words (region_start code) s events checked written (all_good_start code checked written)
    (orderly_start code) run).orderly
