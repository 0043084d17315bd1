-- What a goroutine owes before its next instruction is done: the creations that are left, and then the protections of a call, or the
-- stakes for a start. The count of what is done says where in the machine's list the goroutine is (`OwesNext`), so each loop begins in
-- the middle of its list.
use Rattle.std.proofs.Common.{◌≡◌, ℕ, ◌+◌, ◌-◌, ◌≤◌, ◌<◌, max, Bool, true, false, List, [], ◌∷◌, ◌++◌, map, length}
use Rattle.std.proofs.Common.{Option, Some, refl, sym, ap, ◌∙◌, subst, nat_eq, nat_le, arith, drop, get_or, slice_get}
use Rattle.std.proofs.Common.{length-append, append-nil, true≢false}
use Rattle.std.specs.List.{list_any}
use Rattle.std.proofs.lemmas.List.{drop_more, drop_all, drop-map, drop-append-le, length-drop, length-map}
use Rattle.std.proofs.Math.Seq.{drop-append-add}
use Rattle.std.proofs.lemmas.Option.{slice_get_within}
use Rattle.rgo_machine.specs.declared.limits.Shortage.{Shortage}
use Rattle.rgo_machine.specs.declared.limits.Shortage.TheVariants as shortage
use Rattle.rgo_tac.specs.declared.ops.Op.{Op as CodeOperation}
use Rattle.rgo_tac.specs.declared.ops.Op.TheVariants as code_op
use Rattle.rgo_tac.specs.declared.regions.Class.{Class}
use Rattle.rgo_tac.specs.declared.regions.Class.TheVariants.{NoClass, Global, Name}
use Rattle.rgo_tac.specs.Code as tac
use Rattle.rgo_tac.specs.Ops.{operation_of}
use Rattle.rgo_tac.specs.Tac.{TacState}
use Rattle.rgo_code.specs.Code.{Branch, Call, Code, CodeInstr, CodeOp, Do, Go, Jump, Print, Return}
use Rattle.rgo_code.specs.Erasure.{erased_op}
use Rattle.rgo_code.specs.Lists.{creates_in, passes_of, protects_of}
use Rattle.rgo_region_machine.specs.Owed.{current, current_in, duties_before, duties_of_op, next_duties}
use Rattle.rgo_region_machine.specs.Owed.{regions_named}
use Rattle.rgo_region_machine.specs.Room.{live_regions, LacksIn}
use Rattle.rgo_region_machine.specs.States as spec
use Rattle.rgo_region_machine.specs.States.{Create, Duty, Protect, RegionState, Share, frames_in, frames_of}
use Rattle.rgo_sound.proofs.Places.{get_some}
use Rattle.rgo_sound.proofs.Tests.{eq_of, split}
use Rattle.rgo_sound.specs.Invariant.{shared_before, to_share}
use Rattle.rgo_region_interpreter.specs.declared.holders.Holder.{Holder}
use Rattle.rgo_region_interpreter.specs.declared.worlds.Halt.{Halt}
use Rattle.rgo_region_interpreter.specs.declared.worlds.Halt.TheVariants as halt
use Rattle.rgo_region_interpreter.specs.declared.worlds.Next.{Next}
use Rattle.rgo_region_interpreter.specs.declared.worlds.World.{World}
use Rattle.rgo_region_interpreter.specs.Attending.{CreatesAll, DoesAll, FailsToCreate, ProtectsAll, SharesAll, SharesOne, SharesTo, CreationStopsAt}
use Rattle.rgo_region_interpreter.specs.Attending.{PendsBy}
use Rattle.rgo_region_interpreter.specs.Orderly.{shares_in}
use Rattle.rgo_region_interpreter.specs.Worlds.{OwesNext, Shown, next_creates}
use Rattle.rgo_region_interpreter.specs.Works.{Attended, WorldAttends, Between, Falls, WorldHalts, IsNextInWorld, KeepsOthers, OthersOwe, Readies}
use Rattle.rgo_region_interpreter.specs.Works.{SameOthers, SameRun, StopsShort, Works, done_in, done_of}
use Rattle.rgo_region_interpreter.proofs.owing.Attending.{attended_none, attended_then, attended_to, same_then}
use Rattle.rgo_region_interpreter.proofs.holding.Orderly.{shares_shares}

-- ---- lists

pub drop_append : {X : Type 0} (n : ℕ) (xs ys : List X) → drop n (xs ++ ys) ≡ drop n xs ++ drop (n - length xs) ys
drop_append n xs ys = split (nat_le n (length xs)) (λ t. within (below n (length xs) t)) (λ f. past (above n (length xs) f))
  where
    below : (a b : ℕ) → nat_le a b ≡ true → a ≤ b
    below a b h = grind arith

    above : (a b : ℕ) → nat_le a b ≡ false → b < a
    above a b h = grind arith

    within : n ≤ length xs → drop n (xs ++ ys) ≡ drop n xs ++ drop (n - length xs) ys
    within l =
        let z : n - length xs ≡ 0 = omega (arith, l) in
        drop-append-le n xs ys l ∙ sym (ap (λ m. drop n xs ++ drop m ys) z)

    past : length xs < n → drop n (xs ++ ys) ≡ drop n xs ++ drop (n - length xs) ys
    past l =
        let a : n ≡ length xs + (n - length xs) = omega (arith, l) in
        ap (λ m. drop m (xs ++ ys)) a ∙ drop-append-add xs ys (n - length xs)
        ∙ sym (ap (λ zs. zs ++ drop (n - length xs) ys) (drop_all n xs (omega (arith, l))))

-- what is left, from the next one on
pub from_next : (make : ℕ → Duty) (names : List ℕ) (i : ℕ) (rest : List Duty) → i < length names
    → drop i (map make names) ++ rest ≡ make (get_or names i 0) ∷ (drop (i + 1) (map make names) ++ rest)
from_next make names i rest l =
    ap (λ xs. xs ++ rest) (drop-map make i names ∙ ap (map make) (drop_more names i 0 l)
    ∙ ap (λ xs. make (get_or names i 0) ∷ xs) (sym (drop-map make (i + 1) names)))

-- ---- the same run

pub same_run : (w : World) → SameRun w w
same_run w = record { code = refl; sizes = refl; print = refl }

-- ---- steps of one kind

-- those of this many names are done
pub record DoesSo (make : ℕ → Duty) (w v : World) (g : ℕ) (names : List ℕ) (i : ℕ) : Type 0 where
  pub does : (rest : List Duty) (s : RegionState) → Works w s g (map make names ++ rest)
      → Attended w v s g (drop i (map make names) ++ rest)
  pub done : done_of v g ≡ done_of w g

pub does_none : (make : ℕ → Duty) (w : World) (g : ℕ) (names : List ℕ) → DoesSo make w w g names 0
does_none make w g names =
    record { does = λ rest s works. attended_none w s g (map make names ++ rest) works; done = refl }

pub does_more : (make : ℕ → Duty) (w v u : World) (g : ℕ) (names : List ℕ) (i name : ℕ) → DoesSo make w v g names i
    → i < length names → name ≡ get_or names i 0 → ((rest : List Duty) → WorldAttends v u g (make name ∷ rest) rest)
    → done_of u g ≡ done_of v g → DoesSo make w u g names (i + 1)
does_more make w v u g names i name so l e step done = record {
  does = λ rest s works.
      let a = so.does rest s works in
      let left : drop i (map make names) ++ rest ≡ make name ∷ (drop (i + 1) (map make names) ++ rest) =
      from_next make names i rest l ∙ ap (λ k. make k ∷ (drop (i + 1) (map make names) ++ rest)) (sym e) in
      attended_then w v u s g (drop i (map make names) ++ rest) (drop (i + 1) (map make names) ++ rest) a
      (step (drop (i + 1) (map make names) ++ rest) a.state (subst (Works v a.state g) left a.works));
  done = done ∙ so.done;
}

pub does_all : (make : ℕ → Duty) (w v : World) (g : ℕ) (names : List ℕ) (i : ℕ) → DoesSo make w v g names i
    → length names ≤ i → (rest : List Duty) → WorldAttends w v g (map make names ++ rest) rest
does_all make w v g names i so past rest s works =
    let m = length-map names make in
    subst (λ xs. Attended w v s g (xs ++ rest)) (drop_all i (map make names) (omega (arith, m, past)))
    (so.does rest s works)

-- ---- steps that are counted

-- one step more is done, and counted
pub does_next : (w v u x : World) (s : RegionState) (g : ℕ) (d : Duty) (ds : List Duty) (i j : ℕ)
    → DoesAll w v s g (d ∷ ds) i → WorldAttends v u g (d ∷ ds) ds → done_of u g ≡ done_of v g
    → ((s : RegionState) (ds : List Duty) → Works u s g ds → Works x s g ds)
    → ((s : RegionState) (ds : List Duty) → Works u s g ds → done_of x g ≡ done_of u g + 1) → SameRun u x → KeepsOthers u x g
    → j ≡ i + 1
    → DoesAll w x s g ds j
does_next w v u x s g d ds i j a step done works counts same kept e =
    let b = step a.attended.state a.attended.works in
    let c = counts b.state ds b.works in
    record {
      attended = attended_to w u x s g ds (attended_then w v u s g (d ∷ ds) ds a.attended b) works same kept;
      counted = c ∙ ap (λ n. n + 1) (done ∙ a.counted) ∙ sym e;
    }

-- the same for a share, which also keeps the set of shared regions equal to the pending ones
pub record SharesSo (w v : World) (s : RegionState) (g : ℕ) (ds : List Duty) (has : ℕ → Bool) (i : ℕ) : Type 0 where
  pub shares : SharesTo w v s g ds has
  pub counted : done_of v g ≡ i

pub shares_next : (w v u x : World) (s : RegionState) (g name : ℕ) (ds : List Duty) (has also : ℕ → Bool) (i : ℕ)
    → SharesSo w v s g (Share name ∷ ds) has i → SharesOne v u g name has also → done_of u g ≡ done_of v g
    → ((s : RegionState) (ds : List Duty) → Works u s g ds → Works x s g ds)
    → ((s : RegionState) (ds : List Duty) → Works u s g ds → done_of x g ≡ done_of u g + 1) → SameRun u x → KeepsOthers u x g
    → SharesSo w x s g ds also (i + 1)
shares_next w v u x s g name ds has also i a step done works counts same kept =
    record {
      shares = record {
        attended = attended_to w u x s g ds
            (attended_then w v u s g (Share name ∷ ds) ds a.shares.attended b.attended) works same kept;
        pends = subst (PendsBy also) (the_same _ _ (sym b.attended.works.is_holder ∙ later.is_holder)) b.pends;
      };
      counted = counts b.attended.state ds b.attended.works ∙ ap (λ n. n + 1) (done ∙ a.counted);
    }
  where
    the_same : (x y : spec.Holder) → Some x ≡ Some y → x ≡ y
    the_same x y e = cc

    b : SharesTo v u a.shares.attended.state g ds also
    b = step a.shares.attended.state ds a.shares.attended.works a.shares.pends

    later : Works x b.attended.state g ds
    later = works b.attended.state ds b.attended.works

-- ---- creations

-- this many are done
pub record CreatesSo (w v : World) (g : ℕ) (names : List ℕ) (i : ℕ) : Type 0 where
  pub does : (s : RegionState) (rest : List Duty) → Works w s g (drop (done_of w g) (map Create names) ++ rest)
      → DoesAll w v s g (drop i (map Create names) ++ rest) i
  pub from : done_of w g ≤ i
  pub none : length names < done_of w g → i ≡ done_of w g

pub creates_none : (w : World) (g : ℕ) (names : List ℕ) (i : ℕ) → i ≡ done_of w g → CreatesSo w w g names i
creates_none w g names i e = record {
  does = λ s rest works. subst (λ n. DoesAll w w s g (drop n (map Create names) ++ rest) n) (sym e) (record {
    attended = attended_none w s g (drop (done_of w g) (map Create names) ++ rest) works;
    counted = refl;
  });
  from = omega (arith, e);
  none = λ l. e;
}

pub creates_next : (w v u x : World) (g : ℕ) (names : List ℕ) (i name : ℕ) → CreatesSo w v g names i → i < length names
    → name ≡ get_or names i 0 → ((rest : List Duty) → WorldAttends v u g (Create name ∷ rest) rest)
    → done_of u g ≡ done_of v g → ((s : RegionState) (ds : List Duty) → Works u s g ds → Works x s g ds)
    → ((s : RegionState) (ds : List Duty) → Works u s g ds → done_of x g ≡ done_of u g + 1) → SameRun u x → KeepsOthers u x g
    → CreatesSo w x g names (i + 1)
creates_next w v u x g names i name so l e step done works counts same kept = record {
  does = λ s rest held.
      let a = so.does s rest held in
      let left : drop i (map Create names) ++ rest ≡ Create name ∷ (drop (i + 1) (map Create names) ++ rest) =
      from_next Create names i rest l ∙ ap (λ k. Create k ∷ (drop (i + 1) (map Create names) ++ rest)) (sym e) in
      does_next w v u x s g (Create name) (drop (i + 1) (map Create names) ++ rest) i (i + 1)
      (subst (λ ds. DoesAll w v s g ds i) left a) (step (drop (i + 1) (map Create names) ++ rest)) done works counts same kept
      refl;
  from = let f = so.from in omega (arith, f);
  none = λ m. let f = so.from in absurd (omega (arith, f, l, m));
}

pub creates_all : (w v : World) (g : ℕ) (names : List ℕ) (i : ℕ) → CreatesSo w v g names i → length names ≤ i
    → (done_of w g ≤ length names → i ≤ length names) → CreatesAll w v g names
creates_all w v g names i so past within s rest works =
    subst (λ n. DoesAll w v s g rest n) count
    (subst (λ xs. DoesAll w v s g (xs ++ rest) i) (drop_all i (map Create names) (omega (arith, as_many, past)))
    (so.does s rest works))
  where
    as_many : length (map Create names) ≡ length names
    as_many = length-map names Create

    count : i ≡ max (done_of w g) (length names)
    count = split (nat_le (done_of w g) (length names))
        (λ t. let m = within (below t) in let b = below t in omega (arith, past, m, b))
        (λ f. let a = above f in let n = so.none a in omega (arith, n, a))
      where
        below : nat_le (done_of w g) (length names) ≡ true → done_of w g ≤ length names
        below h = grind arith

        above : nat_le (done_of w g) (length names) ≡ false → length names < done_of w g
        above h = grind arith

-- there was no room for the next one
pub creates_halt : (w v u : World) (g : ℕ) (names : List ℕ) (i name : ℕ) (why : Shortage)
    → CreatesSo w v g names i
    → i < length names → name ≡ get_or names i 0 → SameRun w v → u ≡ v → why ≡ shortage.Regions
    → ((s : RegionState) → Shown v s → v.sizes.regions ≤ live_regions s)
    → FailsToCreate (halt.NoRoom why) w u g names
creates_halt w v u g names i name why so l e run same regions full =
    subst (λ x. FailsToCreate (halt.NoRoom why) w x g names) (sym same) (regions, λ s rest works. stops s rest works)
  where
    stops : (s : RegionState) (rest : List Duty) → Works w s g (drop (done_of w g) (map Create names) ++ rest)
        → CreationStopsAt w v s g names rest
    stops s rest works =
        record {
          name = name;
          left = drop (i + 1) (map Create names) ++ rest;
          attended = subst (Attended w v s g) left a.attended;
          is_left = sym left ∙ ap (λ n. drop n (map Create names) ++ rest) (sym a.counted);
          from = let f = so.from in let c = a.counted in omega (arith, f, c);
          within = let c = a.counted in omega (arith, l, c);
          full = full';
        }
      where
        a : DoesAll w v s g (drop i (map Create names) ++ rest) i
        a = so.does s rest works

        left : drop i (map Create names) ++ rest ≡ Create name ∷ (drop (i + 1) (map Create names) ++ rest)
        left = from_next Create names i rest l ∙ ap (λ k. Create k ∷ (drop (i + 1) (map Create names) ++ rest)) (sym e)

        full' : w.sizes.regions ≤ live_regions (subst (Attended w v s g) left a.attended).state
        full' =
            let sizes : v.sizes.regions ≡ w.sizes.regions = ap (λ z. z.regions) run.sizes in
            let f = full (subst (Attended w v s g) left a.attended).state
            (subst (Attended w v s g) left a.attended).works.shown in
            omega (arith, sizes, f)

-- why it stopped
pub creates_halts : (why : Halt) (w v u : World) (g : ℕ) (names : List ℕ) (i name : ℕ) → CreatesSo w v g names i
    → i < length names → name ≡ get_or names i 0 → SameRun w v → SameRun v u → WorldHalts why v u
    → FailsToCreate why w u g names
creates_halts halt.NoMemory w v u g names i name so l e run same h = same_then w v u run same
creates_halts (halt.NoRoom why) w v u g names i name so l e run same h =
    creates_halt w v u g names i name why so l e run h.0 h.1 h.2

-- ---- protections

-- this many are done
pub record ProtectsSo (w v : World) (g created : ℕ) (names : List ℕ) (i : ℕ) : Type 0 where
  pub does : (s : RegionState) → created ≤ done_of w g → Works w s g (drop (done_of w g - created) (map Protect names))
      → DoesAll w v s g (drop i (map Protect names)) (created + i)
  pub from : done_of w g - created ≤ i
  pub none : length names < done_of w g - created → i ≡ done_of w g - created

pub protects_none : (w : World) (g created : ℕ) (names : List ℕ) (i : ℕ) → i ≡ done_of w g - created
    → ProtectsSo w w g created names i
protects_none w g created names i e = record {
  does = λ s more works. subst (λ n. DoesAll w w s g (drop n (map Protect names)) (created + n)) (sym e) (record {
    attended = attended_none w s g (drop (done_of w g - created) (map Protect names)) works;
    counted = omega (arith, more);
  });
  from = omega (arith, e);
  none = λ l. e;
}

pub protects_next : (w v u x : World) (g created : ℕ) (names : List ℕ) (i name : ℕ) → ProtectsSo w v g created names i
    → i < length names → name ≡ get_or names i 0 → ((rest : List Duty) → WorldAttends v u g (Protect name ∷ rest) rest)
    → done_of u g ≡ done_of v g → ((s : RegionState) (ds : List Duty) → Works u s g ds → Works x s g ds)
    → ((s : RegionState) (ds : List Duty) → Works u s g ds → done_of x g ≡ done_of u g + 1) → SameRun u x → KeepsOthers u x g
    → ProtectsSo w x g created names (i + 1)
protects_next w v u x g created names i name so l e step done works counts same kept = record {
  does = λ s more held.
      let a = so.does s more held in
      let left : drop i (map Protect names) ≡ Protect name ∷ drop (i + 1) (map Protect names) =
      sym (append-nil (drop i (map Protect names))) ∙ from_next Protect names i [] l
      ∙ ap (λ xs. Protect (get_or names i 0) ∷ xs) (append-nil (drop (i + 1) (map Protect names)))
      ∙ ap (λ k. Protect k ∷ drop (i + 1) (map Protect names)) (sym e) in
      does_next w v u x s g (Protect name) (drop (i + 1) (map Protect names)) (created + i) (created + (i + 1))
      (subst (λ ds. DoesAll w v s g ds (created + i)) left a) (step (drop (i + 1) (map Protect names))) done works counts
      same kept (omega arith);
  from = let f = so.from in omega (arith, f);
  none = λ m. let f = so.from in absurd (omega (arith, f, l, m));
}

pub protects_all : (w v : World) (g created : ℕ) (names : List ℕ) (i : ℕ) → ProtectsSo w v g created names i
    → length names ≤ i → (done_of w g - created ≤ length names → i ≤ length names) → ProtectsAll w v g created names
protects_all w v g created names i so past within s more works =
    subst (λ n. DoesAll w v s g [] n) count
    (subst (λ xs. DoesAll w v s g xs (created + i)) (drop_all i (map Protect names) (omega (arith, as_many, past)))
    (so.does s more works))
  where
    as_many : length (map Protect names) ≡ length names
    as_many = length-map names Protect

    count : created + i ≡ max (done_of w g) (created + length names)
    count = split (nat_le (done_of w g - created) (length names))
        (λ t. let m = within (below t) in let b = below t in omega (arith, past, m, b, more))
        (λ f. let a = above f in let n = so.none a in omega (arith, n, a, more))
      where
        below : nat_le (done_of w g - created) (length names) ≡ true → done_of w g - created ≤ length names
        below h = grind arith

        above : nat_le (done_of w g - created) (length names) ≡ false → length names < done_of w g - created
        above h = grind arith

-- ---- shares

-- those of this many classes are done
pub record SharedSo (w v : World) (g : ℕ) (passes left : List Class) (has : ℕ → Bool) : Type 0 where
  pub done : ℕ
  pub so : (s : RegionState) (works : Works w s g (map Share (regions_named passes))) → works.holder.pending ≡ []
      → SharesSo w v s g (map Share (regions_named left)) has done
  pub count : done + length (regions_named left) ≡ done_of w g + length (regions_named passes)

pub shares_none : (w : World) (g : ℕ) (passes : List Class) (has : ℕ → Bool) → ((r : ℕ) → has r ≡ false)
    → SharedSo w w g passes passes has
shares_none w g passes has none = record {
  done = done_of w g;
  so = λ s works empty. record {
    shares = record {
      attended = attended_none w s g (map Share (regions_named passes)) works;
      pends = λ r. none r ∙ sym (ap (list_any (nat_eq r)) empty);
    };
    counted = refl;
  };
  count = refl;
}

-- a class without a name
pub shares_past : (w v : World) (g : ℕ) (passes left : List Class) (class : Class) (has : ℕ → Bool)
    → ((name : ℕ) → class ≡ Name name → ⊥) → SharedSo w v g passes (class ∷ left) has → SharedSo w v g passes left has
shares_past w v g passes left NoClass has n so = record { done = so.done; so = so.so; count = so.count }
shares_past w v g passes left Global has n so = record { done = so.done; so = so.so; count = so.count }
shares_past w v g passes left (Name name) has n so = absurd (n name refl)

pub shares_on : (w v u x : World) (g name : ℕ) (passes left : List Class) (has also : ℕ → Bool)
    → SharedSo w v g passes (Name name ∷ left) has → SharesOne v u g name has also → done_of u g ≡ done_of v g
    → ((s : RegionState) (ds : List Duty) → Works u s g ds → Works x s g ds)
    → ((s : RegionState) (ds : List Duty) → Works u s g ds → done_of x g ≡ done_of u g + 1) → SameRun u x → KeepsOthers u x g
    → SharedSo w x g passes left also
shares_on w v u x g name passes left has also so step done works counts same kept = record {
  done = so.done + 1;
  so = λ s held empty. shares_next w v u x s g name (map Share (regions_named left)) has also so.done
      (so.so s held empty) step done works counts same kept;
  count = let c = so.count in omega (arith, c);
}

pub shares_all : (w v : World) (g created : ℕ) (passes : List Class) (has : ℕ → Bool) → done_of w g ≤ created
    → SharedSo w v g passes [] has → SharesAll w v g created (regions_named passes)
shares_all w v g created passes has few so = record {
  shares = λ s works empty within.
      let a = so.so s works empty in
      let c = so.count in
      record { attended = a.shares.attended; counted = a.counted ∙ omega (arith, c) };
  done = λ more. absurd (omega (arith, few, more));
}

-- ---- between instructions

-- a goroutine that works owes what is left before its next instruction, as each other does
pub between_with : (v : World) (t : RegionState) (g : ℕ) (ds : List Duty) (works : Works v t g ds) → OthersOwe v t g
    → ((x : Holder) → slice_get v.holders.items g ≡ Some x → OwesNext v.code.now t g x works.holder) → Between v t
between_with v t g ds works others owes = record {
  prepared = works.prepared;
  good = works.good;
  orderly = works.orderly;
  shown = works.shown;
  running = works.running;
  owes = λ j x y e f. split (nat_eq g j) (λ q. own j x y (eq_of g j q) e f)
      (λ n. others j x y (λ q. apart j n q) e f);
}
  where
    the_same : (x y : spec.Holder) → Some x ≡ Some y → x ≡ y
    the_same x y e = cc

    self : (n : ℕ) → nat_eq n n ≡ true
    self n = grind arith

    apart : (j : ℕ) → nat_eq g j ≡ false → j ≡ g → ⊥
    apart j n q = true≢false (sym (self g) ∙ ap (nat_eq g) (sym q) ∙ n)

    own : (j : ℕ) (x : Holder) (y : spec.Holder) → g ≡ j → slice_get v.holders.items j ≡ Some x
        → slice_get t.holders j ≡ Some y → OwesNext v.code.now t j x y
    own j x y q e f =
        subst (λ i. OwesNext v.code.now t i x y) q
        (subst (OwesNext v.code.now t g x)
        (the_same works.holder y (sym works.is_holder ∙ ap (slice_get t.holders) q ∙ f))
        (owes x (ap (slice_get v.holders.items) q ∙ e)))

-- a goroutine works from between instructions
pub works_between : (w : World) (s : RegionState) (g : ℕ) (c : Holder) (h : spec.Holder) → Between w s
    → slice_get w.holders.items g ≡ Some c → slice_get s.holders g ≡ Some h
    → Works w s g (drop c.done (next_duties w.code.now (frames_of s.plain g)))
works_between w s g c h b there is = record {
  prepared = b.prepared;
  good = b.good;
  orderly = b.orderly;
  shown = b.shown;
  running = b.running;
  holder = h;
  is_holder = is;
  owed = (b.owes g c h there is).left;
}

pub others_between : (w : World) (s : RegionState) (g : ℕ) → Between w s → OthersOwe w s g
others_between w s g b j x y n e f = b.owes j x y e f

-- the others owe what they owed, if they have what they had
pub others_still : (w v : World) (s t : RegionState) (g : ℕ) → KeepsOthers w v g → SameOthers s t g
    → v.code.now ≡ w.code.now → t.plain ≡ s.plain → OthersOwe w s g → OthersOwe v t g
others_still w v s t g kept same code plain owe j x y n e f =
    let was = owe j x y n (sym (kept j n) ∙ e) (sym (same j n) ∙ f) in
    record {
      left = was.left ∙ (λ i. drop x.done (next_duties (sym code i) (frames_of (sym plain i) j)));
      within = subst (λ (z : Code × TacState). x.done ≤ length (next_duties z.0 (frames_of z.1 j)))
          (λ i. (sym code i, sym plain i)) was.within;
      together = λ l. was.together
          (subst (λ (z : Code × TacState). length (next_creates z.0 (frames_of z.1 j)) < x.done)
          (λ i. (code i, plain i)) l);
    }

tail_nil : (xs ys : List Duty) → xs ++ ys ≡ [] → ys ≡ []
tail_nil [] ys e = e
tail_nil (x ∷ xs) ys e = cc

module _ (w : World) (g : ℕ) (next : Next) (at : IsNextInWorld w g next) (s : RegionState) (between : Between w s) where
  abbrev instr : CodeInstr
  instr = at.is.instr

  abbrev duties : List Duty
  duties = next_duties w.code.now (frames_of s.plain g)

  frames_at : frames_of s.plain g ≡ at.frame ∷ at.callers
  frames_at = ap frames_in (ap (λ l. slice_get l g) (sym between.shown.goroutines) ∙ at.frames)

  current_at : current w.code.now at.frame ≡ Some at.is.instr
  current_at =
      ap (λ o. current_in o at.frame.next) at.is.function
      ∙ ap (slice_get next.function.body) (sym at.is.at) ∙ at.is.is_instr

  pub duties_at : duties ≡ map Create instr.creates ++ duties_of_op instr.op
  duties_at = ap (next_duties w.code.now) frames_at ∙ ap duties_before current_at

  creates_at : next_creates w.code.now (frames_of s.plain g) ≡ instr.creates
  creates_at = ap (next_creates w.code.now) frames_at ∙ ap creates_in current_at

  pub share_at : to_share w.code.now (frames_of s.plain g) ≡ shared_before (Some instr)
  share_at = ap (to_share w.code.now) frames_at ∙ ap shared_before current_at

  holder_at : (h : spec.Holder) × (slice_get s.holders g ≡ Some h)
  holder_at =
      let a = slice_get_within w.state.goroutines g (at.frame ∷ at.callers) at.frames in
      let b : length w.state.goroutines ≡ length s.plain.goroutines = ap length between.shown.goroutines in
      let c = between.good.good.fine.as_many in
      get_some s.holders g (omega (arith, a, b, c))

  code_at : (c : Holder) × (slice_get w.holders.items g ≡ Some c)
  code_at =
      let a = slice_get_within s.holders g holder_at.0 holder_at.1 in
      let b = (between.shown.holders between.running).as_many in
      get_some w.holders.items g (omega (arith, a, b))

  done_at : done_of w g ≡ code_at.0.done
  done_at = ap done_in code_at.1

  owes_at : OwesNext w.code.now s g code_at.0 holder_at.0
  owes_at = between.owes g code_at.0 holder_at.0 code_at.1 holder_at.1

  creates_many : length (map Create instr.creates) ≡ length instr.creates
  creates_many = length-map instr.creates Create

  left_at : drop code_at.0.done duties ≡ drop (done_of w g) (map Create instr.creates)
      ++ drop (done_of w g - length instr.creates) (duties_of_op instr.op)
  left_at =
      ap (λ n. drop n duties) (sym done_at) ∙ ap (drop (done_of w g)) duties_at
      ∙ drop_append (done_of w g) (map Create instr.creates) (duties_of_op instr.op)
      ∙ ap (λ n. drop (done_of w g) (map Create instr.creates) ++ drop (done_of w g - n) (duties_of_op instr.op))
      creates_many

  -- what is left to do before the instruction
  pub works_at : Works w s g (drop (done_of w g) (map Create instr.creates)
      ++ drop (done_of w g - length instr.creates) (duties_of_op instr.op))
  works_at = subst (Works w s g) left_at
      (works_between w s g code_at.0 holder_at.0 between code_at.1 holder_at.1)

  pub within_at : done_of w g ≤ length instr.creates + length (duties_of_op instr.op)
  within_at =
      let a = owes_at.within in
      let b : length duties ≡ length (map Create instr.creates ++ duties_of_op instr.op) = ap length duties_at in
      let c = length-append (map Create instr.creates) (duties_of_op instr.op) in
      let d = done_at in
      let e = creates_many in
      omega (arith, a, b, c, d, e)

  -- what follows the creations is done as a whole
  pub together_at : length instr.creates < done_of w g
      → (drop (done_of w g - length instr.creates) (duties_of_op instr.op) ≡ [])
      × (done_of w g ≡ length instr.creates + length (duties_of_op instr.op))
  together_at more = (
    tail_nil (drop (done_of w g) (map Create instr.creates))
        (drop (done_of w g - length instr.creates) (duties_of_op instr.op)) (sym left_at ∙ none),
    let a : length (drop code_at.0.done duties) ≡ 0 = ap length none in
        let b = length-drop code_at.0.done duties in
        let c : length duties ≡ length (map Create instr.creates ++ duties_of_op instr.op) = ap length duties_at in
        let d = length-append (map Create instr.creates) (duties_of_op instr.op) in
        let e = creates_many in
        let f = within_at in
        let h = done_at in
        omega (arith, a, b, c, d, e, f, h),
  )
    where
      none : drop code_at.0.done duties ≡ []
      none =
          let a : length (next_creates w.code.now (frames_of s.plain g)) ≡ length instr.creates = ap length creates_at in
          let b = done_at in
          sym owes_at.left ∙ owes_at.together (omega (arith, a, b, more))

  -- the same list of steps afterwards
  later_duties : (v : World) (a : RegionState) → v.code.now ≡ w.code.now → a.plain ≡ s.plain
      → next_duties v.code.now (frames_of a.plain g) ≡ map Create instr.creates ++ duties_of_op instr.op
  later_duties v a code plain = (λ i. next_duties (code i) (frames_of (plain i) g)) ∙ duties_at

  later_creates : (v : World) (a : RegionState) → v.code.now ≡ w.code.now → a.plain ≡ s.plain
      → next_creates v.code.now (frames_of a.plain g) ≡ instr.creates
  later_creates v a code plain = (λ i. next_creates (code i) (frames_of (plain i) g)) ∙ creates_at

  pub later_shares : (v : World) (a : RegionState) → v.code.now ≡ w.code.now → a.plain ≡ s.plain
      → to_share v.code.now (frames_of a.plain g) ≡ shared_before (Some instr)
  later_shares v a code plain = (λ i. to_share (code i) (frames_of (plain i) g)) ∙ share_at

  others_at : (v : World) {ds : List Duty} (a : Attended w v s g ds) → OthersOwe v a.state g
  others_at v a =
      others_still w v s a.state g a.kept a.others a.same.code a.plain (others_between w s g between)

  -- all is done
  pub readies_at : (v : World) (d : DoesAll w v s g [] (length instr.creates + length (duties_of_op instr.op)))
      → Readies w v s g
  readies_at v d = record {
    attended = d.attended;
    ready = record {
      between = between_with v d.attended.state g [] d.attended.works (others_at v d.attended) owes;
      works = d.attended.works;
    };
  }
    where
      owes : (x : Holder) → slice_get v.holders.items g ≡ Some x
          → OwesNext v.code.now d.attended.state g x d.attended.works.holder
      owes x e =
          let a = later_duties v d.attended.state d.attended.same.code d.attended.plain in
          let b : length (next_duties v.code.now (frames_of d.attended.state.plain g))
          ≡ length (map Create instr.creates ++ duties_of_op instr.op) = ap length a in
          let c = length-append (map Create instr.creates) (duties_of_op instr.op) in
          let f = creates_many in
          let h : done_of v g ≡ x.done = ap done_in e in
          let k = d.counted in
          record {
            left = d.attended.works.owed
                ∙ sym (drop_all x.done (next_duties v.code.now (frames_of d.attended.state.plain g))
                (omega (arith, b, c, f, h, k)));
            within = omega (arith, b, c, f, h, k);
            together = λ _. d.attended.works.owed;
          }

  -- there was no room for a region
  pub stops_at : (v : World) (why : Shortage) → FailsToCreate (halt.NoRoom why) w v g instr.creates
      → StopsShort w v s g why
  stops_at v why (regions, stops) =
      record {
        events = x.attended.events;
        only_regions = x.attended.only_regions;
        state = x.attended.state;
        leads = x.attended.leads;
        plain = x.attended.plain;
        between = between_with v x.attended.state g (Create x.name ∷ x.left) x.attended.works
            (others_at v x.attended) owes;
        same = x.attended.same;
        lacks = subst (λ z. LacksIn w.code.now w.sizes z x.attended.state) (sym regions) (
          g,
          x.name,
          x.attended.works.holder,
          x.left,
          x.attended.works.is_holder,
          x.attended.works.owed,
          x.full,
        );
      }
    where
      x : CreationStopsAt w v s g instr.creates (drop (done_of w g - length instr.creates) (duties_of_op instr.op))
      x = stops s (drop (done_of w g - length instr.creates) (duties_of_op instr.op)) works_at

      owes : (y : Holder) → slice_get v.holders.items g ≡ Some y
          → OwesNext v.code.now x.attended.state g y x.attended.works.holder
      owes y e =
          let a = later_duties v x.attended.state x.attended.same.code x.attended.plain in
          let b : length (next_duties v.code.now (frames_of x.attended.state.plain g))
          ≡ length (map Create instr.creates ++ duties_of_op instr.op) = ap length a in
          let c = length-append (map Create instr.creates) (duties_of_op instr.op) in
          let d = creates_many in
          let h : done_of v g ≡ y.done = ap done_in e in
          let l = x.within in
          let m = x.from in
          let n : length (next_creates v.code.now (frames_of x.attended.state.plain g)) ≡ length instr.creates =
          ap length (later_creates v x.attended.state x.attended.same.code x.attended.plain) in
          let z : done_of w g - length instr.creates ≡ done_of v g - length (map Create instr.creates) =
          omega (arith, d, l, m) in
          record {
            left =
                x.attended.works.owed ∙ x.is_left
                ∙ ap (λ n. drop (done_of v g) (map Create instr.creates) ++ drop n (duties_of_op instr.op)) z
                ∙ sym (drop_append (done_of v g) (map Create instr.creates) (duties_of_op instr.op))
                ∙ ap (drop (done_of v g)) (sym a)
                ∙ ap (λ n. drop n (next_duties v.code.now (frames_of x.attended.state.plain g))) h;
            within = omega (arith, b, c, d, h, l);
            together = λ more. absurd (omega (arith, h, l, n, more));
          }

-- ---- by the kind of the instruction

calls_op : (op : CodeOp) (to : Option ℕ) (n : ℕ) (from : List ℕ) → erased_op op ≡ tac.Call to n from
    → duties_of_op op ≡ map Protect (protects_of op)
calls_op (Do to action from removes) t n f e = cc
calls_op (Call to n from passes protects removes) t m f e = refl
calls_op (Go n from passes removes) t m f e = cc
calls_op (Print pieces from removes) t n f e = cc
calls_op (Jump target removes) t n f e = cc
calls_op (Branch test target removes other otherwise) t n f e = cc
calls_op (Return value) t n f e = cc

starts_op : (op : CodeOp) (n : ℕ) (from : List ℕ) → erased_op op ≡ tac.Go n from
    → (duties_of_op op ≡ map Share (regions_named (passes_of op)))
    × (shared_before (Some (record { creates = []; op = op; place = 0 })) ≡ regions_named (passes_of op))
starts_op (Do to action from removes) n f e = cc
starts_op (Call to n from passes protects removes) m f e = cc
starts_op (Go n from passes removes) m f e = (refl, refl)
starts_op (Print pieces from removes) n f e = cc
starts_op (Jump target removes) n f e = cc
starts_op (Branch test target removes other otherwise) n f e = cc
starts_op (Return value) n f e = cc

-- neither a call nor a start
abbrev pub IsSilent : tac.Op → Type 0
IsSilent (tac.Call to n from) = ⊥
IsSilent (tac.Go n from) = ⊥
IsSilent op = Unit {0}

silent_op : (op : CodeOp) → IsSilent (erased_op op) → duties_of_op op ≡ []
silent_op (Do to action from removes) i = refl
silent_op (Call to n from passes protects removes) i = absurd i
silent_op (Go n from passes removes) i = absurd i
silent_op (Print pieces from removes) i = refl
silent_op (Jump target removes) i = refl
silent_op (Branch test target removes other otherwise) i = refl
silent_op (Return value) i = refl

module _ (w v : World) (g : ℕ) (next : Next) (at : IsNextInWorld w g next) (creates : CreatesAll w v g at.is.instr.creates)
    (s : RegionState) (between : Between w s) where
  abbrev code_instr : CodeInstr
  code_instr = at.is.instr

  created : DoesAll w v s g (drop (done_of w g - length code_instr.creates) (duties_of_op code_instr.op))
      (max (done_of w g) (length code_instr.creates))
  created = creates s (drop (done_of w g - length code_instr.creates) (duties_of_op code_instr.op))
      (works_at w g next at s between)

  -- nothing more is owed
  pub prepares_silent : IsSilent (operation_of next.op) → Readies w v s g
  prepares_silent silent =
      let none : duties_of_op code_instr.op ≡ [] =
      silent_op code_instr.op (subst IsSilent (sym at.is.op) silent) in
      let left : drop (done_of w g - length code_instr.creates) (duties_of_op code_instr.op) ≡ [] =
      ap (drop (done_of w g - length code_instr.creates)) none ∙ drop_all (done_of w g - length code_instr.creates) []
      (omega arith) in
      let a = within_at w g next at s between in
      let b : length (duties_of_op code_instr.op) ≡ 0 = ap length none in
      readies_at w g next at s between v
      (subst (λ n. DoesAll w v s g [] n) (omega (arith, a, b))
      (subst (λ ds. DoesAll w v s g ds (max (done_of w g) (length code_instr.creates))) left created))

  -- the protections of a call
  pub prepares_call : (u : World) (to : Option ℕ) (n : ℕ) (from : List ℕ) → operation_of next.op ≡ tac.Call to n from
      → ProtectsAll v u g (length code_instr.creates) (protects_of code_instr.op) → Readies w u s g
  prepares_call u to n from is protects =
      readies_at w g next at s between u (record {
        attended = attended_then w v u s g (drop (done_of w g - length code_instr.creates) (duties_of_op code_instr.op)) []
            created.attended done.attended;
        counted = done.counted ∙ omega (arith, count, within, many);
      })
    where
      duties_are : duties_of_op code_instr.op ≡ map Protect (protects_of code_instr.op)
      duties_are = calls_op code_instr.op to n from (at.is.op ∙ is)

      many : length (duties_of_op code_instr.op) ≡ length (protects_of code_instr.op)
      many = ap length duties_are ∙ length-map (protects_of code_instr.op) Protect

      count : done_of v g ≡ max (done_of w g) (length code_instr.creates)
      count = created.counted

      within : done_of w g ≤ length code_instr.creates + length (duties_of_op code_instr.op)
      within = within_at w g next at s between

      less : done_of w g - length code_instr.creates ≡ done_of v g - length code_instr.creates
      less = omega (arith, count)

      done : DoesAll v u created.attended.state g []
          (max (done_of v g) (length code_instr.creates + length (protects_of code_instr.op)))
      done = protects created.attended.state (omega (arith, count))
          (subst (Works v created.attended.state g)
          (ap (drop (done_of w g - length code_instr.creates)) duties_are
          ∙ ap (λ n. drop n (map Protect (protects_of code_instr.op))) less) created.attended.works)

  -- the stakes for a goroutine that is about to start
  pub prepares_start : (u : World) (n : ℕ) (from : List ℕ) → operation_of next.op ≡ tac.Go n from
      → SharesAll v u g (length code_instr.creates) (regions_named (passes_of code_instr.op)) → Readies w u s g
  prepares_start u n from is shares = split (nat_le (done_of w g) (length code_instr.creates)) (λ t. some (below t))
      (λ f. none (above f))
    where
      below : nat_le (done_of w g) (length code_instr.creates) ≡ true → done_of w g ≤ length code_instr.creates
      below h = grind arith

      above : nat_le (done_of w g) (length code_instr.creates) ≡ false → length code_instr.creates < done_of w g
      above h = grind arith

      op_is : (duties_of_op code_instr.op ≡ map Share (regions_named (passes_of code_instr.op)))
          × (shared_before (Some (record { creates = []; op = code_instr.op; place = 0 }))
          ≡ regions_named (passes_of code_instr.op))
      op_is = starts_op code_instr.op n from (at.is.op ∙ is)

      many : length (duties_of_op code_instr.op) ≡ length (regions_named (passes_of code_instr.op))
      many = ap length op_is.0 ∙ length-map (regions_named (passes_of code_instr.op)) Share

      count : done_of v g ≡ max (done_of w g) (length code_instr.creates)
      count = created.counted

      none : length code_instr.creates < done_of w g → Readies w u s g
      none more =
          let x = together_at w g next at s between more in
          let same : u ≡ v = shares.done (omega (arith, count, more)) in
          let total = x.1 in
          subst (λ y. Readies w y s g) (sym same)
          (readies_at w g next at s between v
          (subst (λ n. DoesAll w v s g [] n) (omega (arith, total, more))
          (subst (λ ds. DoesAll w v s g ds (max (done_of w g) (length code_instr.creates))) x.0 created)))

      some : done_of w g ≤ length code_instr.creates → Readies w u s g
      some few =
          readies_at w g next at s between u (record {
            attended = attended_then w v u s g (drop (done_of w g - length code_instr.creates) (duties_of_op code_instr.op))
                [] created.attended done.attended;
            counted = done.counted ∙ omega (arith, count, many, few);
          })
        where
          less : done_of w g - length code_instr.creates ≡ 0
          less = omega (arith, few)

          held : Works v created.attended.state g (map Share (regions_named (passes_of code_instr.op)))
          held = subst (Works v created.attended.state g)
              (ap (λ n. drop n (duties_of_op code_instr.op)) less ∙ op_is.0) created.attended.works

          nothing : held.holder.pending ≡ []
          nothing =
              let o = held.orderly.holders held.running g held.holder held.is_holder in
              o.none (ap shares_in held.owed ∙ shares_shares (regions_named (passes_of code_instr.op))
              ∙ ap length (sym (later_shares w g next at s between v created.attended.state created.attended.same.code
              created.attended.plain ∙ op_is.1)))

          done : DoesAll v u created.attended.state g []
              (done_of v g + length (regions_named (passes_of code_instr.op)))
          done = shares.shares created.attended.state held nothing (omega (arith, count, few))

-- why it stopped
pub falls : (why : Halt) (w v : World) (g : ℕ) (next : Next) (at : IsNextInWorld w g next)
    → FailsToCreate why w v g at.is.instr.creates → Falls why w v g
falls halt.NoMemory w v g next at same = same
falls (halt.NoRoom why) w v g next at stops = λ s between. stops_at w g next at s between v why stops

-- an operation that is neither a call nor a start
pub silent_next : (op : CodeOperation) → ((to : Option ℕ) (n : ℕ) (from : _) → op ≡ code_op.Call to n from → ⊥)
    → ((n : ℕ) (from : _) → op ≡ code_op.Go n from → ⊥) → IsSilent (operation_of op)
silent_next (code_op.Do to action from) n m = tt
silent_next (code_op.Call to k from) n m = absurd (n to k from refl)
silent_next (code_op.Go k from) n m = absurd (m k from refl)
silent_next (code_op.Print pieces from) n m = tt
silent_next (code_op.Jump target) n m = tt
silent_next (code_op.Branch test target other) n m = tt
silent_next (code_op.Return value) n m = tt
