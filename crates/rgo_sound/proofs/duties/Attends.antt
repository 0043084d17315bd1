-- Each duty that a goroutine owes can be done in its turn, and keeps what holds of the state.
-- By `IsReady` the name denotes a region, by `NameInvariant` the goroutine has a stake in that, and by the count of stakes it is live.
-- What is left is to keep the three parts. The hard case is the removal that ends a stake (`goes_removal`): the count of names says
-- that this name was the last one, and the count of stakes loses one on both sides (`stake_ends`).
use Rattle.std.proofs.Common.{◌≡◌, ◌≢◌, ℕ, zero, suc, ◌+◌, ◌-◌, ◌≤◌, ◌<◌, Bool, true, false, not, ◌||◌, List, [], ◌∷◌}
use Rattle.std.proofs.Common.{◌++◌, map, length, Option, Some, None, refl, sym, ap, ◌∙◌, subst, nat_eq, nat_lt}
use Rattle.std.proofs.Common.{if◌then◌else◌, arith, length-append, ◌⊎◌, inl, inr, true≢false, slice_get, slice_set}
use Rattle.std.proofs.Common.{option_map, option_and_then}
use Rattle.std.proofs.lemmas.Option.{slice_get_within, same_Some}
use Rattle.std.specs.List.{list_any}
use Rattle.rgo_sound.proofs.Tests.{or_there, split, eq_of, nat_eq_refl, nat_ne_sym}
use Rattle.rgo_sound.proofs.Places.{get_set_other, get_set_same, get_snoc, get_some, length_set}
use Rattle.rgo_sound.proofs.names.Edges.{is_named}
use Rattle.rgo_sound.proofs.names.Core.{core_kept, core_removed, core_created, core_protected, core_unbased, in_without}
use Rattle.rgo_sound.proofs.names.Core.{not_in_without}
use Rattle.rgo_code.specs.Code.{Code, CodeFn, CodeInstr}
use Rattle.rgo_code.specs.Names.{IsOwn, is_class_named, result_class}
use Rattle.rgo_region_machine.specs.Machine.{Attend, region_step}
use Rattle.rgo_region_machine.specs.Duties.{attend, attended, duty_done, guards, may_go, protected, removal, shared}
use Rattle.rgo_region_machine.specs.Duties.{unprotected}
use Rattle.rgo_region_machine.specs.Regions.{Bindings, RegionInfo, bound, has_stakes, is_live, one_fewer, with_added_stake}
use Rattle.rgo_region_machine.specs.Regions.{removed_once, same_region, unbind, with_info, without}
use Rattle.rgo_region_machine.specs.States.{Create, Duty, EndBase, RegionEnvironment, Holder, Offer, Protect, RegionState}
use Rattle.rgo_region_machine.specs.States.{Remove, Share, Unprotect, frames_of, top_names}
use Rattle.rgo_region_machine.specs.declared.regions.Region.{Region}
use Rattle.rgo_region_machine.specs.declared.regions.Region.TheVariants.{Global as GlobalRegion, Numbered}
use Rattle.rgo_sound.specs.Core.{NameInvariant, RegionsStaked}
use Rattle.rgo_sound.specs.Holding.{is_mine}
use Rattle.rgo_sound.specs.Invariant.{AllWait, EachOnce, Fine, FramesFit, GoodHolder, IsFree, IsReady, Settled, Shares}
use Rattle.rgo_sound.specs.Invariant.{Stands, to_share}
use Rattle.rgo_sound.specs.Stakes.{holders_of, is_in, one_when, pending_of, times_in, total}
use Rattle.rgo_tac.specs.Frames.{TacFrame}
use Rattle.rgo_tac.specs.declared.regions.Class.{Class}
use Rattle.rgo_tac.specs.declared.regions.Class.TheVariants.{Name}

-- ---- sums over the goroutines

-- a sum after one goroutine's part has changed; each part is at most the sum; a sum of nothing
pub total_set : (f : Holder → ℕ) (hs : List Holder) (g : ℕ) (h k : Holder) → slice_get hs g ≡ Some h
    → total f (slice_set hs g k) + f h ≡ total f hs + f k
total_set f [] g h k e = cc
total_set f (x ∷ xs) zero h k e = let q : f x ≡ f h = ap f (same_Some x h e) in omega (arith, q)
total_set f (x ∷ xs) (suc g) h k e = let q = total_set f xs g h k e in omega (arith, q)

pub total_at : (f : Holder → ℕ) (hs : List Holder) (g : ℕ) (h : Holder) → slice_get hs g ≡ Some h → f h ≤ total f hs
total_at f [] g h e = cc
total_at f (x ∷ xs) zero h e = let q : f x ≡ f h = ap f (same_Some x h e) in omega (arith, q)
total_at f (x ∷ xs) (suc g) h e = let q = total_at f xs g h e in omega (arith, q)

-- a sum of zeros
pub total_none : (f : Holder → ℕ) (hs : List Holder) → ((g : ℕ) (h : Holder) → slice_get hs g ≡ Some h → f h ≡ 0)
    → total f hs ≡ 0
total_none f [] n = refl
total_none f (x ∷ xs) n = let a = n 0 x refl in let b = total_none f xs (λ g h e. n (suc g) h e) in omega (arith, a, b)

-- ---- regions

-- a change of one region: its own entry, and those of the others
pub with_info_same : (xs : List RegionInfo) (r : ℕ) (c : RegionInfo → RegionInfo) → slice_get (with_info xs r c) r
    ≡ option_map c (slice_get xs r)
with_info_same [] r c = refl
with_info_same (x ∷ xs) zero c = refl
with_info_same (x ∷ xs) (suc r) c = with_info_same xs r c

pub with_info_other : (xs : List RegionInfo) (r q : ℕ) (c : RegionInfo → RegionInfo) → nat_eq r q ≡ false
    → slice_get (with_info xs r c) q ≡ slice_get xs q
with_info_other [] r q c n = refl
with_info_other (x ∷ xs) zero zero c n = absurd (zero_not n)
  where
    zero_not : nat_eq zero zero ≡ false → ⊥
    zero_not h = grind arith
with_info_other (x ∷ xs) zero (suc q) c n = refl
with_info_other (x ∷ xs) (suc r) zero c n = refl
with_info_other (x ∷ xs) (suc r) (suc q) c n = with_info_other xs r q c (down r q n)
  where
    down : (i j : ℕ) → nat_eq (suc i) (suc j) ≡ false → nat_eq i j ≡ false
    down i j h = grind arith

pub length_with_info : (xs : List RegionInfo) (r : ℕ) (c : RegionInfo → RegionInfo) → length (with_info xs r c)
    ≡ length xs
length_with_info [] r c = refl
length_with_info (x ∷ xs) zero c = refl
length_with_info (x ∷ xs) (suc r) c = let e = length_with_info xs r c in omega (arith, e)

-- a region in which a goroutine has a stake is live: its number of stakes counts that goroutine
pub staked_live : (code : Code) (s : RegionState) (g : ℕ) (h : Holder) (r : ℕ) → Fine code s → slice_get s.holders g
    ≡ Some h → is_in r h.stakes ≡ true → is_live s.regions (Numbered r) ≡ true
staked_live code s g h r fine e i = go (get_some s.regions r (fine.made g h r e i))
  where
    positive : (n : ℕ) → 1 ≤ n → nat_lt 0 n ≡ true
    positive n p = grind arith

    go : (info : RegionInfo) × (slice_get s.regions r ≡ Some info) → is_live s.regions (Numbered r) ≡ true
    go (info, q) =
        let c = fine.counted r info q in
        let a = total_at (λ (k : Holder). one_when (is_in r k.stakes)) s.holders g h e in
        let b : one_when (is_in r h.stakes) ≡ 1 = ap one_when i in
        ap has_stakes q ∙ positive info.stakes (omega (arith, a, b, c))

-- a step that changes the holder of one goroutine and the regions: what it has to show so that all that holds of the state still does
pub fine_with : (code : Code) (s : RegionState) (g : ℕ) (h k : Holder) (regions : List RegionInfo) → Fine code s
    → slice_get s.holders g ≡ Some h → length s.regions ≤ length regions → GoodHolder code (frames_of s.plain g) k
    → ((r : ℕ) → is_in r k.stakes ≡ true → r < length regions)
    → ((r : ℕ) → 0 < times_in r k.pending → r < length regions)
    → ((r : ℕ) (info : RegionInfo) → slice_get regions r ≡ Some info → info.stakes
    ≡ total (λ (x : Holder). one_when (is_in r x.stakes)) (slice_set s.holders g k) + total
    (λ (x : Holder). times_in r x.pending) (slice_set s.holders g k))
    → Fine code (record (attended s g k) { regions = regions })
fine_with code s g h k regions fine e more good staked pending counts =
    record {
      as_many = length_set s.holders g k ∙ fine.as_many;
      each = λ j x q. split (nat_eq g j) (λ t. each_same j x (eq_of g j t) q)
          (λ n. fine.each j x (sym (get_set_other s.holders g j k n) ∙ q));
      counted = counts;
      made = λ j x r q i. split (nat_eq g j) (λ t. staked r
          (subst (λ y. is_in r y.stakes ≡ true) (is_k j x (eq_of g j t) q) i))
          (λ n. let b = fine.made j x r (sym (get_set_other s.holders g j k n) ∙ q) i in omega (arith, b, more));
      pended = λ j x r q i. split (nat_eq g j) (λ t. pending r
          (subst (λ y. 0 < times_in r y.pending) (is_k j x (eq_of g j t) q) i))
          (λ n. let b = fine.pended j x r (sym (get_set_other s.holders g j k n) ∙ q) i in omega (arith, b, more));
    }
  where
    is_k : (j : ℕ) (x : Holder) → g ≡ j → slice_get (slice_set s.holders g k) j ≡ Some x → x ≡ k
    is_k j x t q = same_Some x k (sym q ∙ ap (slice_get (slice_set s.holders g k)) (sym t)
        ∙ get_set_same s.holders g h k e)

    each_same : (j : ℕ) (x : Holder) → g ≡ j → slice_get (slice_set s.holders g k) j ≡ Some x
        → GoodHolder code (frames_of s.plain j) x
    each_same j x t q = subst (λ y. GoodHolder code (frames_of s.plain j) y) (sym (is_k j x t q))
        (subst (λ i. GoodHolder code (frames_of s.plain i) k) t good)

-- ---- one duty

-- a holder by its fields in order, so that each case below shows which of them changes
abbrev pub holder : List ℕ → List ℕ → List RegionEnvironment → List Region → List (Region × ℕ) → ℕ → List Duty → Offer
    → Holder
holder stakes pending environments base fills reserved duties offer =
    record {
      stakes = stakes;
      pending = pending;
      environments = environments;
      base = base;
      fills = fills;
      reserved = reserved;
      duties =
          duties;
      offer = offer;
    }

-- the step exists, and what holds of the state holds after it
pub record Goes (code : Code) (o : Option RegionState) : Type 0 where
  pub state : RegionState
  pub goes : o ≡ Some state
  pub fine : Fine code state

-- an own name of the function is a holding name of its frame
mine_of : (fn : CodeFn) (f : RegionEnvironment) (k : ℕ) → f.lent ≡ result_class fn → IsOwn fn k → is_mine f.lent k ≡ true
mine_of fn f k l own = split (is_class_named k f.lent) (λ t. absurd (own (sym l ∙ is_named k f.lent t)))
    (λ n. ap (λ x. not x) n)

-- a number that is not positive is zero
pub not_positive : (n : ℕ) → (0 < n → ⊥) → n ≡ 0
not_positive zero h = refl
not_positive (suc n) h = absurd (h (omega arith))

-- a lent name is not an own name
pub lent_names : (lent : Class) (j : ℕ) → lent ≡ Name j → is_mine lent j ≡ false
lent_names lent j e = ap (λ x. is_mine x j) e ∙ ap (λ x. not x) (nat_eq_refl j)

-- what is protected after the end of a protection was protected before it
pub any_removed : (p : Region → Bool) (q : Region) (ss : List Region) → list_any p (removed_once q ss) ≡ true
    → list_any p ss ≡ true
any_removed p q [] e = e
any_removed p q (s ∷ ss) e = go (same_region q s) e (any_removed p q ss)
  where
    deeper : (b c d : Bool) → (b || c) ≡ true → (c ≡ true → d ≡ true) → (b || d) ≡ true
    deeper true c d h n = refl
    deeper false c d h n = n h

    go : (b : Bool) → list_any p (if b then ss else s ∷ removed_once q ss) ≡ true
        → (list_any p (removed_once q ss) ≡ true → list_any p ss ≡ true) → (p s || list_any p ss) ≡ true
    go true e next = or_there (p s) (list_any p ss) e
    go false e next = deeper (p s) (list_any p (removed_once q ss)) (list_any p ss) e next

-- A goroutine's stake ends. The region's number and the sum over the goroutines each lose one, and no other region changes.
stake_ends : (code : Code) (s : RegionState) (g : ℕ) (h k : Holder) (r : ℕ) → Fine code s → slice_get s.holders g
    ≡ Some h → is_in r h.stakes ≡ true → k.stakes ≡ without r h.stakes → k.pending ≡ h.pending
    → GoodHolder code (frames_of s.plain g) k → Fine code
    (record (attended s g k) { regions = with_info s.regions r one_fewer })
stake_ends code s g h k r fine e staked ks kp good =
    fine_with code s g h k (with_info s.regions r one_fewer) fine e (omega (arith, same_length)) good
    (λ q i. kept q (subst (λ x. is_in q x ≡ true) ks i)) (λ q i. pended q (subst (λ x. 0 < times_in q x) kp i))
    counts
  where
    same_length : length (with_info s.regions r one_fewer) ≡ length s.regions
    same_length = length_with_info s.regions r one_fewer

    kept : (q : ℕ) → is_in q (without r h.stakes) ≡ true → q < length (with_info s.regions r one_fewer)
    kept q i = split (nat_eq r q) (λ t. absurd (true≢false
        (sym i ∙ subst (λ x. is_in x (without r h.stakes) ≡ false) (eq_of r q t) (not_in_without r h.stakes))))
        (λ f. let x = fine.made g h q e (sym (in_without r q h.stakes f) ∙ i) in omega (arith, x, same_length))

    pended : (q : ℕ) → 0 < times_in q h.pending → q < length (with_info s.regions r one_fewer)
    pended q i = let x = fine.pended g h q e i in omega (arith, x, same_length)

    counts : (q : ℕ) (info : RegionInfo) → slice_get (with_info s.regions r one_fewer) q ≡ Some info → info.stakes
        ≡ total (λ (x : Holder). one_when (is_in q x.stakes)) (slice_set s.holders g k) + total
        (λ (x : Holder). times_in q x.pending) (slice_set s.holders g k)
    counts q info i = split (nat_eq r q) (λ t. here t (get_some s.regions q
        (fine.made g h q e (subst (λ x. is_in x h.stakes ≡ true) (eq_of r q t) staked)))) (λ f. other f)
      where
        a : total (λ (x : Holder). one_when (is_in q x.stakes)) (slice_set s.holders g k) + one_when (is_in q h.stakes)
            ≡ holders_of s q + one_when (is_in q k.stakes)
        a = total_set (λ (x : Holder). one_when (is_in q x.stakes)) s.holders g h k e

        p : total (λ (x : Holder). times_in q x.pending) (slice_set s.holders g k) + times_in q h.pending
            ≡ pending_of s q + times_in q k.pending
        p = total_set (λ (x : Holder). times_in q x.pending) s.holders g h k e

        p' : times_in q k.pending ≡ times_in q h.pending
        p' = ap (times_in q) kp

        a' : one_when (is_in q k.stakes) ≡ one_when (is_in q (without r h.stakes))
        a' = ap (λ x. one_when (is_in q x)) ks

        here : nat_eq r q ≡ true → (old : RegionInfo) × (slice_get s.regions q ≡ Some old) → info.stakes
            ≡ total (λ (x : Holder). one_when (is_in q x.stakes)) (slice_set s.holders g k) + total
            (λ (x : Holder). times_in q x.pending) (slice_set s.holders g k)
        here t (old, o) =
            let u = eq_of r q t in
            let d = fine.counted q old o in
            let y : one_when (is_in q h.stakes) ≡ 1 = ap one_when (subst (λ x. is_in x h.stakes ≡ true) u staked) in
            let z : one_when (is_in q (without r h.stakes)) ≡ 0 =
            ap one_when (subst (λ x. is_in x (without r h.stakes) ≡ false) u (not_in_without r h.stakes)) in
            let v : Some info ≡ Some (one_fewer old) = sym i ∙ subst
            (λ x. slice_get (with_info s.regions r one_fewer) x ≡ option_map one_fewer (slice_get s.regions x)) u
            (with_info_same s.regions r one_fewer) ∙ ap (option_map one_fewer) o in
            let m : info.stakes ≡ old.stakes - 1 = ap (λ (x : RegionInfo). x.stakes) (same_Some info (one_fewer old) v)
            in
            omega (arith, a, p, d, y, z, m, a', p')

        other : nat_eq r q ≡ false → info.stakes ≡ total (λ (x : Holder). one_when (is_in q x.stakes))
            (slice_set s.holders g k) + total (λ (x : Holder). times_in q x.pending) (slice_set s.holders g k)
        other f =
            let d = fine.counted q info (sym (with_info_other s.regions r q one_fewer f) ∙ i) in
            let y : one_when (is_in q (without r h.stakes)) ≡ one_when (is_in q h.stakes) =
            ap one_when (in_without r q h.stakes f) in
            omega (arith, a, p, d, y, a', p')

module _ (code : Code) (s : RegionState) (g : ℕ) (stakes pending : List ℕ) (f : RegionEnvironment) (fs : List RegionEnvironment)
    (base : List Region) (fills : List (Region × ℕ)) (reserved : ℕ) (ds : List Duty) (offer : Offer) (frame : TacFrame)
    (callers : List TacFrame) (fine : Fine code s) (once : EachOnce base) (at : frames_of s.plain g ≡ frame ∷ callers)
  where
    -- the holder before its duty d, and after it if nothing else has changed
    abbrev before : Duty → Holder
    before d = holder stakes pending (f ∷ fs) base fills reserved (d ∷ ds) offer

    abbrev left : Holder
    left = holder stakes pending (f ∷ fs) base fills reserved ds offer

    abbrev Sharing : Duty → Type 0
    Sharing d = Shares (to_share code (frame ∷ callers)) (d ∷ ds) f.names pending

    -- the frame is at the same instruction, with other names, protections and duties
    stands_on : (d : Duty) → Stands code frame f (d ∷ ds) → (names : Bindings) (protections : List Region)
        → ((fn : CodeFn) (instr : CodeInstr) → IsReady (IsFree fn frame.next) (Settled fn frame.next instr) (d ∷ ds)
        f.names f.protections → IsReady (IsFree fn frame.next) (Settled fn frame.next instr) ds names protections)
        → Stands code frame (record { lent = f.lent; names = names; protections = protections }) ds
    stands_on d st names protections next =
        record {
          fn = st.fn;
          is_fn = st.is_fn;
          instr = st.instr;
          is_instr = st.is_instr;
          lends = st.lends;
          ready =
              next st.fn st.instr st.ready;
        }

    -- the same regions and stakes, and other environments
    same_stakes : (d : Duty) (k : Holder) → slice_get s.holders g ≡ Some (before d) → k.stakes ≡ stakes → k.pending
        ≡ pending → GoodHolder code (frame ∷ callers) k → Fine code (attended s g k)
    same_stakes d k e a b good =
        fine_with code s g (before d) k s.regions fine e (omega arith) (subst (λ x. GoodHolder code x k) (sym at) good)
        (λ r i. fine.made g (before d) r e (subst (λ x. is_in r x ≡ true) a i))
        (λ r i. fine.pended g (before d) r e (subst (λ x. 0 < times_in r x) b i))
        (λ r info q. go r (fine.counted r info q) (total_set (λ (x : Holder). one_when (is_in r x.stakes)) s.holders g
        (before d) k e) (total_set (λ (x : Holder). times_in r x.pending) s.holders g (before d) k e))
      where
        go : {n : ℕ} (r : ℕ) → n ≡ holders_of s r + pending_of s r
            → total (λ (x : Holder). one_when (is_in r x.stakes)) (slice_set s.holders g k) + one_when (is_in r stakes)
            ≡ total (λ (x : Holder). one_when (is_in r x.stakes)) s.holders + one_when (is_in r k.stakes)
            → total (λ (x : Holder). times_in r x.pending) (slice_set s.holders g k) + times_in r pending
            ≡ total (λ (x : Holder). times_in r x.pending) s.holders + times_in r k.pending → n
            ≡ total (λ (x : Holder). one_when (is_in r x.stakes)) (slice_set s.holders g k) + total
            (λ (x : Holder). times_in r x.pending) (slice_set s.holders g k)
        go r c p q =
            let p' : one_when (is_in r k.stakes) ≡ one_when (is_in r stakes) = ap (λ x. one_when (is_in r x)) a in
            let q' : times_in r k.pending ≡ times_in r pending = ap (times_in r) b in
            omega (arith, c, p, q, p', q')

    -- Create: the number is new, so nobody else has a stake in the region, and no other name denotes it
    abbrev created : ℕ → Holder
    created k = holder (length s.regions ∷ stakes) pending
        (record f { names = (k, Numbered (length s.regions)) ∷ unbind f.names k } ∷ fs) base fills reserved ds offer

    goes_create : (k : ℕ) → slice_get s.holders g ≡ Some (before (Create k)) → NameInvariant stakes base (f ∷ fs)
        → Stands code frame f (Create k ∷ ds) → AllWait code callers fs → Sharing (Create k)
        → Goes code (duty_done s g left (Create k))
    goes_create k e c st w sh =
        record {
          state = _;
          goes = refl;
          fine = fine_with code s g (before (Create k)) (created k) (s.regions ++ record { stakes = 1; pages = 0 } ∷ [])
              fine e (omega (arith, longer)) (subst (λ x. GoodHolder code x (created k)) (sym at) good) staked pended
              counts;
        }
      where
        longer : length (s.regions ++ record { stakes = 1; pages = 0 } ∷ []) ≡ length s.regions + 1
        longer = omega (arith, length-append s.regions (record { stakes = 1; pages = 0 } ∷ []))

        fresh : is_in (length s.regions) stakes ≡ false
        fresh = split (is_in (length s.regions) stakes) (λ t.
            absurd (let b = fine.made g (before (Create k)) (length s.regions) e t in omega (arith, b))) (λ n. n)

        good : GoodHolder code (frame ∷ callers) (created k)
        good =
            record {
              core = core_created stakes base f fs k (length s.regions) st.ready.0
                  (mine_of st.fn f k st.lends st.ready.1.0) fresh c;
              fit = (
                stands_on (Create k) st ((k, Numbered (length s.regions)) ∷ unbind f.names k) f.protections
                    (λ fn instr x. x.2 (length s.regions)),
                w,
              );
              base_once = once;
              shares = sh (length s.regions);
            }

        staked : (q : ℕ) → is_in q (length s.regions ∷ stakes) ≡ true
            → q < length (s.regions ++ record { stakes = 1; pages = 0 } ∷ [])
        staked q i = go (nat_eq q (length s.regions)) refl i
          where
            go : (b : Bool) → nat_eq q (length s.regions) ≡ b → (if b then true else is_in q stakes) ≡ true
                → q < length (s.regions ++ record { stakes = 1; pages = 0 } ∷ [])
            go true t i' = let x = eq_of q (length s.regions) t in omega (arith, x, longer)
            go false n i' = let x = fine.made g (before (Create k)) q e i' in omega (arith, x, longer)

        pended : (q : ℕ) → 0 < times_in q pending → q < length (s.regions ++ record { stakes = 1; pages = 0 } ∷ [])
        pended q i = let x = fine.pended g (before (Create k)) q e i in omega (arith, x, longer)

        counts : (q : ℕ) (info : RegionInfo) → slice_get (s.regions ++ record { stakes = 1; pages = 0 } ∷ []) q
            ≡ Some info → info.stakes ≡ total (λ (x : Holder). one_when (is_in q x.stakes))
            (slice_set s.holders g (created k)) + total (λ (x : Holder). times_in q x.pending)
            (slice_set s.holders g (created k))
        counts q info i = go (get_snoc s.regions (record { stakes = 1; pages = 0 }) q info i)
          where
            a : total (λ (x : Holder). one_when (is_in q x.stakes)) (slice_set s.holders g (created k)) + one_when
                (is_in q stakes) ≡ holders_of s q + one_when (is_in q (length s.regions ∷ stakes))
            a = total_set (λ (x : Holder). one_when (is_in q x.stakes)) s.holders g (before (Create k)) (created k) e

            b : total (λ (x : Holder). times_in q x.pending) (slice_set s.holders g (created k)) + times_in q pending
                ≡ pending_of s q + times_in q pending
            b = total_set (λ (x : Holder). times_in q x.pending) s.holders g (before (Create k)) (created k) e

            go : (slice_get s.regions q ≡ Some info) ⊎ ((q ≡ length s.regions)
                × (info ≡ record { stakes = 1; pages = 0 })) → info.stakes
                ≡ total (λ (x : Holder). one_when (is_in q x.stakes)) (slice_set s.holders g (created k)) + total
                (λ (x : Holder). times_in q x.pending) (slice_set s.holders g (created k))
            go (inl o) =
                let d = fine.counted q info o in
                let l = slice_get_within s.regions q info o in
                let n : nat_eq q (length s.regions) ≡ false = differs q (length s.regions) l in
                let y : one_when (is_in q (length s.regions ∷ stakes)) ≡ one_when (is_in q stakes) =
                ap (λ x. one_when (if x then true else is_in q stakes)) n in
                omega (arith, a, b, d, y)
              where
                differs : (x y : ℕ) → x < y → nat_eq x y ≡ false
                differs x y l = grind arith
            go (inr (o, is)) =
                let t : nat_eq q (length s.regions) ≡ true = same q (length s.regions) o in
                let y : one_when (is_in q (length s.regions ∷ stakes)) ≡ 1 =
                ap (λ x. one_when (if x then true else is_in q stakes)) t in
                let z : one_when (is_in q stakes) ≡ 0 = ap (λ x. one_when (is_in x stakes)) o ∙ ap one_when fresh in
                let n : holders_of s q ≡ 0 = total_none (λ (x : Holder). one_when (is_in q x.stakes)) s.holders
                (λ j x i. none j x i) in
                let m : pending_of s q ≡ 0 = total_none (λ (x : Holder). times_in q x.pending) s.holders
                (λ j x i. no_pending j x i) in
                let v : info.stakes ≡ 1 = ap (λ (x : RegionInfo). x.stakes) is in
                omega (arith, a, b, y, z, n, m, v)
              where
                same : (x y : ℕ) → x ≡ y → nat_eq x y ≡ true
                same x y e = grind arith

                none : (j : ℕ) (x : Holder) → slice_get s.holders j ≡ Some x → one_when (is_in q x.stakes) ≡ 0
                none j x i = split (is_in q x.stakes) (λ t. absurd (let l = fine.made j x q i t in omega (arith, l, o)))
                    (λ n. ap one_when n)

                no_pending : (j : ℕ) (x : Holder) → slice_get s.holders j ≡ Some x → times_in q x.pending ≡ 0
                no_pending j x i = not_positive (times_in q x.pending)
                    (λ p. let l = fine.pended j x q i p in omega (arith, l, o))

    -- the holder without the name, and without its stake
    abbrev unnamed : ℕ → Holder
    unnamed k = holder stakes pending (record f { names = unbind f.names k } ∷ fs) base fills reserved ds offer

    abbrev unstaked : ℕ → ℕ → Holder
    unstaked k r = holder (without r stakes) pending (record f { names = unbind f.names k } ∷ fs) base fills reserved ds offer

    -- Remove: Global and a protected region stay, and only the name goes; otherwise the stake ends with its last name
    goes_removal : (k : ℕ) (q : Region) → bound f.names k ≡ Some q → slice_get s.holders g ≡ Some (before (Remove k))
        → NameInvariant stakes base (f ∷ fs) → Stands code frame f (Remove k ∷ ds) → AllWait code callers fs → Sharing (Remove k)
        → Goes code (removal s g (unnamed k) q)
    goes_removal k GlobalRegion b e c st w sh =
        record {
          state = attended s g (unnamed k);
          goes = refl;
          fine = same_stakes (Remove k) (unnamed k) e refl refl
              (record {
                core = core_kept stakes base f fs k GlobalRegion b (λ r q. cc) c;
                fit =
                    (stands_on (Remove k) st (unbind f.names k) f.protections (λ fn instr x. x.3), w);
                base_once =
                    once;
                shares = sh;
              });
        }
    goes_removal k (Numbered r) b e c st w sh =
        split (guards base (f ∷ fs) (Numbered r)) (λ t. guarded t) (λ n. last n)
      where
        staked : is_in r stakes ≡ true
        staked = c.staked.0 k r b

        live : is_live s.regions (Numbered r) ≡ true
        live = staked_live code s g (before (Remove k)) r fine e staked

        fit : Stands code frame (record f { names = unbind f.names k }) ds
        fit = stands_on (Remove k) st (unbind f.names k) f.protections (λ fn instr x. x.3)

        guarded : guards base (f ∷ fs) (Numbered r) ≡ true → Goes code (removal s g (unnamed k) (Numbered r))
        guarded t =
            record {
              state = attended s g (unnamed k);
              goes = ap (λ x. if x then (if guards base (f ∷ fs) (Numbered r) then Some (attended s g (unnamed k)) else
                  Some (record (attended s g (unstaked k r)) { regions = with_info s.regions r one_fewer })) else None)
                  live ∙ ap (λ x. if x then Some (attended s g (unnamed k)) else Some
                  (record (attended s g (unstaked k r)) { regions = with_info s.regions r one_fewer })) t;
              fine = same_stakes (Remove k) (unnamed k) e refl refl
                  (record {
                    core = core_kept stakes base f fs k (Numbered r) b (λ q i. below q i) c;
                    fit =
                        (fit, w);
                    base_once = once;
                    shares = sh;
                  });
            }
          where
            number : (q : ℕ) → Numbered r ≡ Numbered q → r ≡ q
            number q i = cc

            bare : list_any (same_region (Numbered r)) f.protections ≡ false
            bare = ap (list_any (same_region (Numbered r))) st.ready.0

            below : (q : ℕ) → Numbered r ≡ Numbered q → guards base fs (Numbered q) ≡ true
            below q i = subst (λ x. guards base fs (Numbered x) ≡ true) (number q i)
                (sym (ap (λ x. x || guards base fs (Numbered r)) bare) ∙ t)

        last : guards base (f ∷ fs) (Numbered r) ≡ false → Goes code (removal s g (unnamed k) (Numbered r))
        last n =
            record {
              state = record (attended s g (unstaked k r)) { regions = with_info s.regions r one_fewer };
              goes = ap (λ x. if x then (if guards base (f ∷ fs) (Numbered r) then Some (attended s g (unnamed k)) else
                  Some (record (attended s g (unstaked k r)) { regions = with_info s.regions r one_fewer })) else None)
                  live ∙ ap (λ x. if x then Some (attended s g (unnamed k)) else Some
                  (record (attended s g (unstaked k r)) { regions = with_info s.regions r one_fewer })) n;
              fine = stake_ends code s g (before (Remove k)) (unstaked k r) r fine e staked refl refl
                  (subst (λ x. GoodHolder code x (unstaked k r)) (sym at)
                  (record {
                    core = core_removed stakes base f fs k r b (mine_of st.fn f k st.lends st.ready.2.0) n c;
                    fit = (fit, w);
                    base_once = once;
                    shares = sh;
                  }));
            }

    goes_remove : (k : ℕ) → slice_get s.holders g ≡ Some (before (Remove k)) → NameInvariant stakes base (f ∷ fs)
        → Stands code frame f (Remove k ∷ ds) → AllWait code callers fs → Sharing (Remove k)
        → Goes code (duty_done s g left (Remove k))
    goes_remove k e c st w sh = go (bound f.names k) refl
      where
        go : (o : Option Region) → bound f.names k ≡ o → Goes code
            (option_and_then (removal s g (unnamed k)) (bound f.names k))
        go None b = absurd (st.ready.1 b)
        go (Some q) b =
            let x = goes_removal k q b e c st w sh in
            record { state = x.state; goes = ap (option_and_then (removal s g (unnamed k))) b ∙ x.goes; fine = x.fine }

    -- Protect: the goroutine has a stake in the region, as a name denotes it. A frame's own protections do not enter the count of its
    -- names, so no count changes.
    abbrev protecting : Region → Holder
    protecting q = holder stakes pending (record f { protections = q ∷ f.protections } ∷ fs) base fills reserved ds offer

    goes_protect : (k : ℕ) → slice_get s.holders g ≡ Some (before (Protect k)) → NameInvariant stakes base (f ∷ fs)
        → Stands code frame f (Protect k ∷ ds) → AllWait code callers fs → Sharing (Protect k)
        → Goes code (duty_done s g left (Protect k))
    goes_protect k e c st w sh = go (bound f.names k) refl
      where
        live : (q : Region) → bound f.names k ≡ Some q → is_live s.regions q ≡ true
        live GlobalRegion b = refl
        live (Numbered r) b = staked_live code s g (before (Protect k)) r fine e (c.staked.0 k r b)

        protections : (q : Region) → bound f.names k ≡ Some q → RegionsStaked stakes (q ∷ f.protections)
        protections q b r i = here (same_region (Numbered r) q) refl i
          where
            is_same : (p : Region) → same_region (Numbered r) p ≡ true → p ≡ Numbered r
            is_same GlobalRegion e = cc
            is_same (Numbered p) e = ap Numbered (sym (eq_of r p e))

            here : (x : Bool) → same_region (Numbered r) q ≡ x
                → (x || list_any (same_region (Numbered r)) f.protections)
                ≡ true → is_in r stakes ≡ true
            here true m i' = c.staked.0 k r (b ∙ ap Some (is_same q m))
            here false m i' = c.staked.1 r i'

        go : (o : Option Region) → bound f.names k ≡ o → Goes code
            (option_and_then (protected s g left) (bound f.names k))
        go None b = absurd (st.ready.0 b)
        go (Some q) b =
            record {
              state = attended s g (protecting q);
              goes = ap (option_and_then (protected s g left)) b
                  ∙ ap (λ x. if x then Some (attended s g (protecting q)) else None) (live q b);
              fine = same_stakes (Protect k) (protecting q) e refl refl
                  (record {
                    core = core_protected stakes base f fs (q ∷ f.protections) (protections q b) c;
                    fit =
                        (stands_on (Protect k) st f.names (q ∷ f.protections) (λ fn instr x. x.1 q b), w);
                    base_once =
                        once;
                    shares = sh;
                  });
            }

    -- Unprotect: again no count changes, since the names of this frame were counted all along
    abbrev unprotecting : Region → Holder
    unprotecting q = holder stakes pending (record f { protections = removed_once q f.protections } ∷ fs) base fills reserved ds
        offer

    goes_unprotect : (k : ℕ) → slice_get s.holders g ≡ Some (before (Unprotect k)) → NameInvariant stakes base (f ∷ fs)
        → Stands code frame f (Unprotect k ∷ ds) → AllWait code callers fs → Sharing (Unprotect k)
        → Goes code (duty_done s g left (Unprotect k))
    goes_unprotect k e c st w sh = go (bound f.names k) refl
      where
        go : (o : Option Region) → bound f.names k ≡ o → Goes code
            (option_and_then (λ r. Some (attended s g (unprotected left r))) (bound f.names k))
        go None b = absurd (st.ready.0 b)
        go (Some q) b =
            record {
              state = attended s g (unprotecting q);
              goes = ap (option_and_then (λ r. Some (attended s g (unprotected left r)))) b;
              fine = same_stakes (Unprotect k) (unprotecting q) e refl refl
                  (record {
                    core = core_protected stakes base f fs (removed_once q f.protections)
                        (λ r i. c.staked.1 r (any_removed (same_region (Numbered r)) q f.protections i)) c;
                    fit =
                        (stands_on (Unprotect k) st f.names (removed_once q f.protections) (λ fn instr x. x.1 q b), w);
                    base_once = once;
                    shares = sh;
                  });
            }

    -- Share: a pending stake and the region's number grow together, unless the region is pending already
    abbrev sharing : ℕ → Holder
    sharing r = holder stakes (r ∷ pending) (f ∷ fs) base fills reserved ds offer

    goes_shared : (k : ℕ) (q : Region) → bound f.names k ≡ Some q → slice_get s.holders g ≡ Some (before (Share k))
        → NameInvariant stakes base (f ∷ fs) → Stands code frame f (Share k ∷ ds) → AllWait code callers fs → Sharing (Share k)
        → Goes code (shared s g left q)
    goes_shared k GlobalRegion b e c st w sh =
        record {
          state = attended s g left;
          goes = refl;
          fine = same_stakes (Share k) left e refl refl (record {
            core = c;
            fit = (stands_on (Share k) st f.names f.protections (λ fn instr x. x.1), w);
            base_once =
                once;
            shares = sh GlobalRegion b;
          });
        }
    goes_shared k (Numbered r) b e c st w sh =
        split (list_any (nat_eq r) pending)
        (λ t. record {
          state = attended s g left;
          goes = ap (λ x. if x then (if list_any (nat_eq r) pending then Some (attended s g left) else more) else None)
              live ∙ ap (λ x. if x then Some (attended s g left) else more) t;
          fine = same_stakes (Share k) left e refl refl (record {
            core = c;
            fit = (fit, w);
            base_once = once;
            shares =
                subst (λ x. Shares (to_share code (frame ∷ callers)) ds f.names (if x then pending else r ∷ pending)) t
                (sh (Numbered r) b);
          });
        })
        (λ n. record {
          state = record (attended s g (sharing r)) { regions = with_info s.regions r with_added_stake };
          goes = ap (λ x. if x then (if list_any (nat_eq r) pending then Some (attended s g left) else more) else None)
              live ∙ ap (λ x. if x then Some (attended s g left) else more) n;
          fine = fine_with code s g (before (Share k)) (sharing r) (with_info s.regions r with_added_stake) fine e
              (omega (arith, same_length)) (subst (λ x. GoodHolder code x (sharing r)) (sym at)
              (record {
                core = c;
                fit = (fit, w);
                base_once = once;
                shares =
                    subst (λ x. Shares (to_share code (frame ∷ callers)) ds f.names
                    (if x then pending else r ∷ pending)) n
                    (sh (Numbered r) b);
              })) (λ q i. let x = fine.made g (before (Share k)) q e i in
              omega (arith, x, same_length)) pended counts;
        })
      where
        more : Option RegionState
        more = Some (record (attended s g (sharing r)) { regions = with_info s.regions r with_added_stake })

        staked : is_in r stakes ≡ true
        staked = c.staked.0 k r b

        live : is_live s.regions (Numbered r) ≡ true
        live = staked_live code s g (before (Share k)) r fine e staked

        fit : Stands code frame f ds
        fit = stands_on (Share k) st f.names f.protections (λ fn instr x. x.1)

        same_length : length (with_info s.regions r with_added_stake) ≡ length s.regions
        same_length = length_with_info s.regions r with_added_stake

        pended : (q : ℕ) → 0 < times_in q (r ∷ pending) → q < length (with_info s.regions r with_added_stake)
        pended q i = go (nat_eq q r) refl i
          where
            go : (x : Bool) → nat_eq q r ≡ x → 0 < one_when x + times_in q pending
                → q < length (with_info s.regions r with_added_stake)
            go true t i' = let y = eq_of q r t in let z = fine.made g (before (Share k)) r e staked in
                omega (arith, y, z, same_length)
            go false n i' = let z = fine.pended g (before (Share k)) q e (omega (arith, i')) in
                omega (arith, z, same_length)

        counts : (q : ℕ) (info : RegionInfo) → slice_get (with_info s.regions r with_added_stake) q ≡ Some info → info.stakes
            ≡ total (λ (x : Holder). one_when (is_in q x.stakes)) (slice_set s.holders g (sharing r)) + total
            (λ (x : Holder). times_in q x.pending) (slice_set s.holders g (sharing r))
        counts q info i = split (nat_eq r q) (λ t. here t (get_some s.regions q
            (fine.made g (before (Share k)) q e (subst (λ x. is_in x stakes ≡ true) (eq_of r q t) staked))))
            (λ f. other f)
          where
            a : total (λ (x : Holder). one_when (is_in q x.stakes)) (slice_set s.holders g (sharing r)) + one_when
                (is_in q stakes) ≡ holders_of s q + one_when (is_in q stakes)
            a = total_set (λ (x : Holder). one_when (is_in q x.stakes)) s.holders g (before (Share k)) (sharing r) e

            p : total (λ (x : Holder). times_in q x.pending) (slice_set s.holders g (sharing r)) + times_in q pending
                ≡ pending_of s q + (one_when (nat_eq q r) + times_in q pending)
            p = total_set (λ (x : Holder). times_in q x.pending) s.holders g (before (Share k)) (sharing r) e

            flip : (x y : ℕ) (b : Bool) → nat_eq x y ≡ b → nat_eq y x ≡ b
            flip x y true h = grind arith
            flip x y false h = grind arith

            here : nat_eq r q ≡ true → (old : RegionInfo) × (slice_get s.regions q ≡ Some old) → info.stakes
                ≡ total (λ (x : Holder). one_when (is_in q x.stakes)) (slice_set s.holders g (sharing r)) + total
                (λ (x : Holder). times_in q x.pending) (slice_set s.holders g (sharing r))
            here t (old, o) =
                let u = eq_of r q t in
                let d = fine.counted q old o in
                let y : one_when (nat_eq q r) ≡ 1 = ap one_when (flip r q true t) in
                let v : Some info ≡ Some (with_added_stake old) = sym i ∙ subst
                (λ x. slice_get (with_info s.regions r with_added_stake) x ≡ option_map with_added_stake (slice_get s.regions x)) u
                (with_info_same s.regions r with_added_stake) ∙ ap (option_map with_added_stake) o in
                let m : info.stakes ≡ old.stakes + 1 = ap (λ (x : RegionInfo). x.stakes)
                (same_Some info (with_added_stake old) v)
                in
                omega (arith, a, p, d, y, m)

            other : nat_eq r q ≡ false → info.stakes ≡ total (λ (x : Holder). one_when (is_in q x.stakes))
                (slice_set s.holders g (sharing r)) + total (λ (x : Holder). times_in q x.pending)
                (slice_set s.holders g (sharing r))
            other f =
                let d = fine.counted q info (sym (with_info_other s.regions r q with_added_stake f) ∙ i) in
                let y : one_when (nat_eq q r) ≡ 0 = ap one_when (flip r q false f) in
                omega (arith, a, p, d, y)

    goes_share : (k : ℕ) → slice_get s.holders g ≡ Some (before (Share k)) → NameInvariant stakes base (f ∷ fs)
        → Stands code frame f (Share k ∷ ds) → AllWait code callers fs → Sharing (Share k)
        → Goes code (duty_done s g left (Share k))
    goes_share k e c st w sh = go (bound f.names k) refl
      where
        go : (o : Option Region) → bound f.names k ≡ o → Goes code (option_and_then (shared s g left) (bound f.names k))
        go None b = absurd (st.ready.0 b)
        go (Some q) b =
            let x = goes_shared k q b e c st w sh in
            record { state = x.state; goes = ap (option_and_then (shared s g left)) b ∙ x.goes; fine = x.fine }

    -- each duty of a goroutine with a frame
    goes_duty : (d : Duty) → slice_get s.holders g ≡ Some (before d) → NameInvariant stakes base (f ∷ fs)
        → Stands code frame f (d ∷ ds) → AllWait code callers fs → Sharing d → Goes code (duty_done s g left d)
    goes_duty (Create k) e c st w sh = goes_create k e c st w sh
    goes_duty (Share k) e c st w sh = goes_share k e c st w sh
    goes_duty (Protect k) e c st w sh = goes_protect k e c st w sh
    goes_duty (Unprotect k) e c st w sh = goes_unprotect k e c st w sh
    goes_duty (Remove k) e c st w sh = goes_remove k e c st w sh
    goes_duty (EndBase r) e c st w sh = absurd st.ready

-- ---- the end of a goroutine that has returned

-- each region is the same as itself
pub same_reflexive : (r : Region) → same_region r r ≡ true
same_reflexive GlobalRegion = refl
same_reflexive (Numbered r) = grind arith

module _ (code : Code) (s : RegionState) (g : ℕ) (stakes pending : List ℕ) (rs : List Region)
    (fills : List (Region × ℕ)) (reserved : ℕ) (ds : List Duty) (offer : Offer) (fine : Fine code s) (at : frames_of s.plain g ≡ [])
  where
    abbrev ended : List ℕ → List Region → Holder
    ended st base = holder st pending [] base fills reserved ds offer

    -- the end of a protection in the base ends the stake, too: no frame is left that could name the region, and the base has it once
    goes_end : (r : Region) → slice_get s.holders g ≡ Some
        (holder stakes pending [] (r ∷ rs) fills reserved (EndBase r ∷ ds) offer) → NameInvariant stakes (r ∷ rs) [] → EachOnce (r ∷ rs)
        → ds ≡ map EndBase rs → Shares [] ds [] pending → Goes code (removal s g (ended stakes rs) r)
    goes_end GlobalRegion e c o d sh =
        record {
          state = attended s g (ended stakes rs);
          goes = refl;
          fine =
              fine_with code s g (holder stakes pending [] (GlobalRegion ∷ rs) fills reserved (EndBase GlobalRegion ∷ ds) offer)
              (ended stakes rs) s.regions fine e (omega arith)
              (subst (λ x. GoodHolder code x (ended stakes rs)) (sym at)
              (record {
                core = record { unique = tt; staked = tt; based = c.based; once = c.once; lent = tt };
                fit =
                    d;
                base_once = o.1;
                shares = sh;
              }))
              (λ r i. fine.made g _ r e i) (λ r i. fine.pended g _ r e i)
              (λ r info q. let a = fine.counted r info q in let b =
              total_set (λ (x : Holder). one_when (is_in r x.stakes)) s.holders g _ (ended stakes rs) e in let p =
              total_set (λ (x : Holder). times_in r x.pending) s.holders g _ (ended stakes rs) e in
              omega (arith, a, b, p));
        }
    goes_end (Numbered r) e c o d sh =
        record {
          state = record (attended s g (ended (without r stakes) rs)) { regions = with_info s.regions r one_fewer };
          goes = ap (λ x. if x then (if list_any (same_region (Numbered r)) rs then Some
              (attended s g (ended stakes rs))
              else last) else None) live ∙ ap (λ x. if x then Some (attended s g (ended stakes rs)) else last) o.0;
          fine = stake_ends code s g (holder stakes pending [] (Numbered r ∷ rs) fills reserved (EndBase (Numbered r) ∷ ds)
              offer)
              (ended (without r stakes) rs) r fine e staked refl refl
              (subst (λ x. GoodHolder code x (ended (without r stakes) rs)) (sym at)
              (record {
                core = core_unbased stakes (Numbered r ∷ rs) rs r others o.0 c;
                fit = d;
                base_once = o.1;
                shares =
                    sh;
              }));
        }
      where
        last : Option RegionState
        last = Some (record (attended s g (ended (without r stakes) rs)) { regions = with_info s.regions r one_fewer })

        staked : is_in r stakes ≡ true
        staked = c.based r (ap (λ x. x || list_any (same_region (Numbered r)) rs) (same_reflexive (Numbered r)))

        live : is_live s.regions (Numbered r) ≡ true
        live = staked_live code s g (holder stakes pending [] (Numbered r ∷ rs) fills reserved (EndBase (Numbered r) ∷ ds) offer)
            r
            fine e staked

        others : (q : ℕ) → nat_eq r q ≡ false → list_any (same_region (Numbered q)) (Numbered r ∷ rs)
            ≡ list_any (same_region (Numbered q)) rs
        others q n = ap (λ x. x || list_any (same_region (Numbered q)) rs) (nat_ne_sym r q n)

-- ---- all duties

-- what a goroutine owes can be done, and what holds of the state holds after it
pub duties_go : (code : Code) (page_words : ℕ) (s : RegionState) (g : ℕ) (h : Holder) → Fine code s
    → slice_get s.holders g ≡ Some h → h.duties ≢ [] → may_go h.offer ≡ true
    → (t : RegionState) × (region_step code page_words s (Attend g) ≡ Some t) × Fine code t
duties_go code page_words s g h fine e n m =
    let good = fine.each g h e in
    let x = shape h.environments h.duties (frames_of s.plain g) refl refl refl good.core good.fit good.shares in
    (x.state, ap (option_and_then (λ (k : Holder). attend s g k k.duties)) e ∙ x.goes, x.fine)
  where
    go_on : (b : Bool) (o : Option RegionState) → b ≡ true → Goes code o → Goes code (if b then o else None)
    go_on b o t x = record { state = x.state; goes = ap (λ y. if y then o else None) t ∙ x.goes; fine = x.fine }

    first : (d : Duty) (ds : List Duty) (base : List Region) → h.base ≡ base → h.environments ≡ [] → h.duties ≡ d ∷ ds
        → frames_of s.plain g ≡ [] → NameInvariant h.stakes base [] → EachOnce base → d ∷ ds ≡ map EndBase base
        → Shares [] (d ∷ ds) [] h.pending → Goes code (attend s g h h.duties)
    first d ds [] eb es ed ef c o q sh = cc
    first d ds (r ∷ rs) eb es ed ef c o q sh =
        let head : d ≡ EndBase r = cc in
        let rest : ds ≡ map EndBase rs = cc in
        let path : h ≡ holder h.stakes h.pending [] (r ∷ rs) h.fills h.reserved (EndBase r ∷ ds) h.offer =
        λ i. holder h.stakes h.pending (es i) (eb i) h.fills h.reserved ((ed ∙ ap (λ x. x ∷ ds) head) i) h.offer in
        let y = goes_end code s g h.stakes h.pending rs h.fills h.reserved ds h.offer fine ef r (e ∙ ap Some path) c o rest
        (subst (λ x. Shares [] (x ∷ ds) [] h.pending) head sh) in
        let base : removed_once r (r ∷ rs) ≡ rs = ap (λ b. if b then rs else r ∷ removed_once r rs) (same_reflexive r)
        in
        let y' : Goes code (removal s g (holder h.stakes h.pending [] (removed_once r (r ∷ rs)) h.fills h.reserved ds h.offer) r) =
        subst (λ b. Goes code (removal s g (holder h.stakes h.pending [] b h.fills h.reserved ds h.offer) r)) (sym base) y in
        subst (λ (x : Holder). Goes code (attend s g x x.duties)) (sym path)
        (go_on (may_go h.offer) (removal s g (holder h.stakes h.pending [] (removed_once r (r ∷ rs)) h.fills h.reserved ds
        h.offer) r) m y')

    shape : (environments : List RegionEnvironment) (duties : List Duty) (frames : List TacFrame) → h.environments ≡ environments
        → h.duties ≡ duties → frames_of s.plain g ≡ frames → NameInvariant h.stakes h.base environments
        → FramesFit code h.base frames environments duties → Shares (to_share code frames) duties
        (top_names environments) h.pending → Goes code (attend s g h h.duties)
    shape environments [] frames es ed ef c fit sh = absurd (n ed)
    shape [] (d ∷ ds) [] es ed ef c fit sh = first d ds h.base refl es ed ef c (fine.each g h e).base_once fit sh
    shape [] (d ∷ ds) (frame ∷ callers) es ed ef c fit sh = absurd fit
    shape (f ∷ fs) (d ∷ ds) [] es ed ef c fit sh = absurd fit
    shape (f ∷ fs) (d ∷ ds) (frame ∷ callers) es ed ef c fit sh =
        let path : h ≡ holder h.stakes h.pending (f ∷ fs) h.base h.fills h.reserved (d ∷ ds) h.offer =
        λ i. holder h.stakes h.pending (es i) h.base h.fills h.reserved (ed i) h.offer in
        let y = goes_duty code s g h.stakes h.pending f fs h.base h.fills h.reserved ds h.offer frame callers fine
        (fine.each g h e).base_once ef d (e ∙ ap Some path) c fit.0 fit.1 sh in
        subst (λ (x : Holder). Goes code (attend s g x x.duties)) (sym path)
        (go_on (may_go h.offer) (duty_done s g (holder h.stakes h.pending (f ∷ fs) h.base h.fills h.reserved ds h.offer) d) m
        y)
