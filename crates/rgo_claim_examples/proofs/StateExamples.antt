-- The examples of states and of room. That a state is safe takes a proof of each part; that one is not takes the one part that fails.
use Rattle.std.proofs.Common.{◌≡◌, ◌⊎◌, inl, inr, ◌∙◌, ℕ, zero, suc, ◌+◌, ◌≤◌, ◌<◌, [], ◌∷◌, Option, Some, None, refl, sym, ap}
use Rattle.std.proofs.Common.{subst, arith, true≢false, slice_get, Contains}
use Rattle.std.specs.Prelude.{IsSome, unwrap_or}
use Rattle.std.proofs.lemmas.Bool.{leb-true, ltb-true}
use Rattle.std.proofs.lemmas.Option.{same_Some}
use Rattle.rgo_memory.specs.Memory.{Object}
use Rattle.rgo_memory.specs.declared.values.Value.{Value}
use Rattle.rgo_memory.specs.declared.values.Value.TheVariants as value
use Rattle.rgo_machine.specs.declared.picks.Pick.TheVariants.{One}
use Rattle.rgo_machine.specs.declared.limits.Shortage.TheVariants as shortage
use Rattle.rgo_tac.specs.Tac.{TacState}
use Rattle.rgo_region_machine.specs.declared.regions.Region.{Region}
use Rattle.rgo_region_machine.specs.declared.regions.Region.TheVariants.{Numbered}
use Rattle.rgo_region_machine.specs.Examples.{long_slice, aliased_object, taking_pages}
use Rattle.rgo_region_machine.specs.Machine.{TakePage, plain_step, region_run, region_start, region_step}
use Rattle.rgo_region_machine.specs.Objects.{data_pages, making_region, most_data_pages, new_object, touched}
use Rattle.rgo_tac.specs.Frames.{TacFrame}
use Rattle.rgo_code.specs.Code.{CodeInstr}
use Rattle.rgo_region_machine.specs.Owed.{current, function_at}
use Rattle.rgo_region_machine.specs.Regions.{RegionInfo}
use Rattle.rgo_region_machine.specs.States.{Holder, RegionState, Remove, top_names}
use Rattle.rgo_sound.specs.Holding.{OneHoldingName, held}
use Rattle.rgo_sound.specs.NextNames.{HasStake, InstructionNames, NextNames}
use Rattle.rgo_region_machine.specs.Room.{MakesTooLarge, LacksIn}
use Rattle.rgo_sound.specs.Safety.{CountsFit, IsSafe, PointersStay, cells_of}
use Rattle.rgo_sound.specs.Stakes.{HasEnded, holders_of, pending_of}
use Rattle.rgo_sound.proofs.Places.{contains_here, contains_one}
use Rattle.rgo_sound.specs.RegionRuns.{NamesLive}
use Rattle.rgo_claim_examples.specs.States as example
use Rattle.rgo_claim_examples.specs.States.{RoomExamples, StateExamples, main_at, sizes}

-- `main` has not returned
stands : main_at 0 ≡ [] → ⊥
stands e = cc

-- ---- a state that is safe

counted : (r : ℕ) (info : RegionInfo) → slice_get example.at_home.regions r ≡ Some info
    → info.stakes ≡ holders_of example.at_home r + pending_of example.at_home r
counted zero info at = ap (λ (i : RegionInfo). i.stakes) (sym (same_Some _ info at))
counted (suc r) info at = absurd cc

ended : (g : ℕ) (h : Holder) → slice_get example.at_home.holders g ≡ Some h → HasEnded example.at_home g h
    → h.stakes ≡ []
ended zero h at end = absurd (stands end.0)
ended (suc g) h at end = absurd cc

kept_by_one : (r : ℕ) → Contains (0 ∷ []) r
    → held r (example.holder (0 ∷ []) ((0, Numbered 0) ∷ []) []).environments ≡ 1
kept_by_one r has =
    subst (λ q. held q (example.holder (0 ∷ []) ((0, Numbered 0) ∷ []) []).environments ≡ 1) (contains_one 0 r has) refl

names : OneHoldingName example.at_home
names zero h r at has free =
    subst (λ (k : Holder). Contains k.stakes r → held r k.environments ≡ 1) (same_Some _ h at) (kept_by_one r) has
names (suc g) h r at has free = absurd cc

abbrev object_number : Value → ℕ
object_number (value.Object o) = o
object_number (value.Int i) = 0
object_number (value.Bool b) = 0
object_number value.Nil = 0

pointers : PointersStay example.at_home
pointers zero p object r at owner live points =
    let own = subst (λ x. Contains (cells_of x) (value.Object p)) (sym (same_Some _ object at)) points in
    let same = ap object_number (contains_one (value.Object 0) (value.Object p) own) in
    subst (λ q. slice_get example.at_home.owners q ≡ Some r) same owner
pointers (suc o) p object r at owner live points = absurd cc

at_home : IsSafe aliased_object 16 example.at_home
at_home = record {
  stakes = record { counted = counted; ended = ended };
  names = names;
  pointers = pointers;
  counts =
      record {
        pages = leb-true 1 2 refl;
        regions = leb-true 1 2 refl;
        all_removed = λ over. absurd (stands (over 0 _ refl).0);
      };
}

-- ---- states that are not

astray : IsSafe aliased_object 16 example.astray → ⊥
astray safe =
    let e : Some (Numbered 1) ≡ Some (Numbered 0) =
    safe.pointers 0 1 _ (Numbered 0) refl refl refl (contains_here (value.Object 1) []) in
    different e
  where
    different : Some (Numbered 1) ≡ Some (Numbered 0) → ⊥
    different e = cc

overcounted : IsSafe aliased_object 16 example.overcounted → ⊥
overcounted safe = let e : 2 ≡ 1 = safe.stakes.counted 0 _ refl in omega (arith, e)

unnamed : IsSafe aliased_object 16 example.unnamed_stake → ⊥
unnamed safe = let e : 0 ≡ 1 = safe.names 0 _ 0 refl (contains_here 0 []) refl in omega (arith, e)

named_twice : IsSafe aliased_object 16 example.named_twice → ⊥
named_twice safe = let e : 2 ≡ 1 = safe.names 0 _ 0 refl (contains_here 0 []) refl in omega (arith, e)

too_many_pages : IsSafe aliased_object 16 example.too_many_pages → ⊥
too_many_pages safe = let e : 2 ≤ 1 = safe.counts.pages in omega (arith, e)

-- `main` is before an instruction, so it has not ended
spread_pages : CountsFit aliased_object 16 (example.with_pages 8)
spread_pages = record {
  pages = leb-true 8 8 refl;
  regions = leb-true 1 2 refl;
  all_removed = λ over. absurd (stands (over 0 _ refl).0);
}

whole_pages : CountsFit aliased_object 41 (example.with_pages 2)
whole_pages = record {
  pages = leb-true 2 2 refl;
  regions = leb-true 1 2 refl;
  all_removed = λ over. absurd (stands (over 0 _ refl).0);
}

too_many_spread : IsSafe aliased_object 16 (example.with_pages 9) → ⊥
too_many_spread safe = let e : 9 ≤ 8 = safe.counts.pages in omega (arith, e)

too_many_whole : IsSafe aliased_object 41 (example.with_pages 3) → ⊥
too_many_whole safe = let e : 3 ≤ 2 = safe.counts.pages in omega (arith, e)

-- ---- what is named next

of_region : (r : Region) → Some (Numbered 0) ≡ Some r
    → HasStake example.removing_live (example.holder (0 ∷ []) ((0, Numbered 0) ∷ []) (Remove 0 ∷ [])) r
of_region r e =
    subst (HasStake example.removing_live (example.holder (0 ∷ []) ((0, Numbered 0) ∷ []) (Remove 0 ∷ [])))
    (same_Some (Numbered 0) r e) (refl, contains_here 0 [])

removing : NamesLive aliased_object example.removing_live
removing zero h r at =
    subst (λ (k : Holder). NextNames aliased_object example.removing_live 0 k k.duties k.offer r → HasStake example.removing_live k r)
    (same_Some _ h at) (of_region r)
removing (suc g) h r at = absurd cc

removing_twice : NamesLive aliased_object example.removing_twice → ⊥
removing_twice live = let has = live 0 _ (Numbered 0) refl refl in true≢false (sym has.0)

removing_anothers : NamesLive aliased_object example.removing_anothers → ⊥
removing_anothers live = let has = live 0 _ (Numbered 0) refl refl in let none = has.1.1 in omega (arith, none)

-- ---- what an instruction names

-- a region that is equal to this one
is_first : (s : RegionState) (h : Holder) → HasStake s h (Numbered 0) → (r : Region) → Some (Numbered 0) ≡ Some r
    → HasStake s h r
is_first s h has r e = subst (HasStake s h) (same_Some (Numbered 0) r e) has

abbrev maker : Holder
maker = example.holder (0 ∷ []) ((0, Numbered 0) ∷ []) []

no_region : (r : Region) → ◌≡◌ {A = Option Region} None (Some r) → ⊥
no_region r e = cc

no_object : (o : ℕ) → ◌≡◌ {A = Option ℕ} None (Some o) → ⊥
no_object o e = cc

-- what an instruction of `aliased_object` names is region 0, with a stake of the goroutine
abbrev NamesFirst : RegionState → TacFrame → CodeInstr → Type 0
NamesFirst s frame i =
    (r : Region)
    → (making_region (function_at aliased_object frame) (top_names maker.environments) i.op ≡ Some r)
    ⊎ ((o : ℕ) × (touched frame i.op ≡ Some o) × (slice_get s.owners o ≡ Some r))
    → HasStake s maker r

of_instr : (s : RegionState) (frame : TacFrame) (i : CodeInstr) → current aliased_object frame ≡ Some i → NamesFirst s frame i
    → (r : Region) → InstructionNames aliased_object s maker (frame ∷ []) r → HasStake s maker r
of_instr s frame i is names r named =
    subst (NamesFirst s frame) (same_Some i named.0 (sym is ∙ named.1)) names r named.2

abbrev first_frame : TacFrame
first_frame = record { function = 0; next = 0; variables = value.Nil ∷ value.Nil ∷ value.Nil ∷ [] }

abbrev load_frame : TacFrame
load_frame = record { function = 0; next = 2; variables = value.Object 0 ∷ value.Object 0 ∷ value.Nil ∷ [] }

made : (i : CodeInstr) → current aliased_object first_frame ≡ Some i → NamesFirst example.at_home first_frame i
made i is = subst (NamesFirst example.at_home first_frame) (same_Some _ i is) by
  where
    by : (r : Region) → (Some (Numbered 0) ≡ Some r)
        ⊎ ((o : ℕ) × (◌≡◌ {A = Option ℕ} None (Some o)) × (slice_get example.at_home.owners o ≡ Some r))
        → HasStake example.at_home maker r
    by r (inl e) = is_first example.at_home maker (refl, contains_here 0 []) r e
    by r (inr t) = absurd (no_object t.0 t.1)

making : NamesLive aliased_object example.at_home
making zero h r at =
    subst (λ (k : Holder). NextNames aliased_object example.at_home 0 k k.duties k.offer r → HasStake example.at_home k r)
    (same_Some maker h at) (of_instr example.at_home first_frame _ refl (made _ refl) r)
making (suc g) h r at = absurd cc

read : (i : CodeInstr) → current aliased_object load_frame ≡ Some i → NamesFirst example.loading_live load_frame i
read i is = subst (NamesFirst example.loading_live load_frame) (same_Some _ i is) by
  where
    owned : (o : ℕ) (r : Region) → 0 ≡ o → slice_get example.loading_live.owners o ≡ Some r → Some (Numbered 0) ≡ Some r
    owned o r is e = subst (λ p. slice_get example.loading_live.owners p ≡ Some r) (sym is) e

    by : (r : Region) → (◌≡◌ {A = Option Region} None (Some r))
        ⊎ ((o : ℕ) × (Some 0 ≡ Some o) × (slice_get example.loading_live.owners o ≡ Some r))
        → HasStake example.loading_live maker r
    by r (inl e) = absurd (no_region r e)
    by r (inr t) =
        is_first example.loading_live maker (refl, contains_here 0 []) r (owned t.0 r (same_Some 0 t.0 t.1) t.2)

loading : NamesLive aliased_object example.loading_live
loading zero h r at =
    subst (λ (k : Holder). NextNames aliased_object example.loading_live 0 k k.duties k.offer r → HasStake example.loading_live k r)
    (same_Some maker h at) (of_instr example.loading_live load_frame _ refl (read _ refl) r)
loading (suc g) h r at = absurd cc

loading_removed : NamesLive aliased_object example.loading_removed → ⊥
loading_removed live =
    let has = live 0 _ (Numbered 0) refl (_, refl, inr (0, refl, refl)) in true≢false (sym has.0)

acknowledging : NamesLive aliased_object example.acknowledging_removed → ⊥
acknowledging live = let has = live 0 _ (Numbered 0) refl refl in true≢false (sym has.0)

pub state_examples : StateExamples
state_examples = record {
  safe = at_home;
  astray = astray;
  overcounted = overcounted;
  unnamed = unnamed;
  named_twice = named_twice;
  too_many_pages = too_many_pages;
  spread_pages = spread_pages;
  too_many_spread = too_many_spread;
  whole_pages = whole_pages;
  too_many_whole = too_many_whole;
  removing = removing;
  removing_twice = removing_twice;
  removing_anothers = removing_anothers;
  making = making;
  loading = loading;
  loading_removed = loading_removed;
  acknowledging = acknowledging;
}

-- ---- room

-- the state after the creation
abbrev here : (page_words : ℕ) → RegionState
here page_words = unwrap_or (region_run aliased_object page_words example.region_created) (region_start aliased_object)

no_page_yet : LacksIn aliased_object (sizes 16 0 1) shortage.Pages (region_start aliased_object) → ⊥
no_page_yet lacks = by lacks.0 lacks.1
  where
    by : (g : ℕ) → IsSome (region_step aliased_object 16 (region_start aliased_object) (TakePage g)) → ⊥
    by zero some = true≢false (sym some)
    by (suc g) some = true≢false (sym some)

-- the state before a slice of this number of elements, with this number of its pages taken
abbrev before_slice : (n last other pages : ℕ) → RegionState
before_slice n last other pages =
    unwrap_or (region_run (long_slice n last other) 16 (taking_pages pages)) (region_start (long_slice n last other))

all_pages : LacksIn (long_slice 17 16 15) (sizes 16 3 1) shortage.Pages (before_slice 17 16 15 3) → ⊥
all_pages lacks = by lacks.0 lacks.1
  where
    by : (g : ℕ) → IsSome (region_step (long_slice 17 16 15) 16 (before_slice 17 16 15 3) (TakePage g)) → ⊥
    by zero some = true≢false (sym some)
    by (suc g) some = true≢false (sym some)

abbrev pages_of : (page_words : ℕ) → Option Object → ℕ
pages_of page_words None = 0
pages_of page_words (Some object) = data_pages page_words object

-- the data pages of the object that a step makes
abbrev pages_in : (page_words : ℕ) → TacState → Option TacState → ℕ
pages_in page_words old None = 0
pages_in page_words old (Some next) = pages_of page_words (new_object old next)

larger : (page_words : ℕ) (old next : TacState) (o : Option TacState) → o ≡ Some next → MakesTooLarge page_words old next
    → most_data_pages page_words < pages_in page_words old o
larger page_words old next o e makes =
    subst (λ q. most_data_pages page_words < pages_in page_words old q) (sym e)
    (subst (λ q. most_data_pages page_words < pages_of page_words q) (sym makes.1) makes.2)

longest : LacksIn (long_slice 224 0 0) (sizes 16 1 1) shortage.ObjectSize (before_slice 224 0 0 0) → ⊥
longest lacks =
    by lacks.0
    (larger 16 (before_slice 224 0 0 0).plain lacks.1
    (plain_step (long_slice 224 0 0) (before_slice 224 0 0 0).plain (One lacks.0)) lacks.2 lacks.3)
  where
    by : (g : ℕ)
        → most_data_pages 16
        < pages_in 16 (before_slice 224 0 0 0).plain
        (plain_step (long_slice 224 0 0) (before_slice 224 0 0 0).plain (One g)) → ⊥
    by zero less = let e : 14 < 14 = less in omega (arith, e)
    by (suc g) less = let e : 14 < 0 = less in omega (arith, e)

two_words : LacksIn aliased_object (sizes 2 1 1) shortage.ObjectSize (here 2) → ⊥
two_words lacks =
    by lacks.0
    (larger 2 (here 2).plain lacks.1 (plain_step aliased_object (here 2).plain (One lacks.0)) lacks.2 lacks.3)
  where
    by : (g : ℕ) → most_data_pages 2 < pages_in 2 (here 2).plain (plain_step aliased_object (here 2).plain (One g)) → ⊥
    by zero less = let e : 0 < 0 = less in omega (arith, e)
    by (suc g) less = let e : 0 < 0 = less in omega (arith, e)

pub room_examples : RoomExamples
room_examples = record {
  no_region = (0, 0, _, [], refl, refl, leb-true 0 0 refl);
  one_region = λ lacks. let e : 1 ≤ 0 = lacks.6 in omega (arith, e);
  no_page = (here 16, refl, (0, refl, leb-true 0 0 refl));
  one_page = (here 16, refl, λ lacks. let e : 1 ≤ 0 = lacks.2 in omega (arith, e));
  no_page_yet = no_page_yet;
  no_data_page = (before_slice 17 16 15 2, refl, (0, refl, leb-true 2 2 refl));
  all_pages = (before_slice 17 16 15 3, refl, all_pages);
  longest = (before_slice 224 0 0 0, refl, longest);
  too_long = (before_slice 225 0 0 0, refl, (0, _, refl, (_, refl, ltb-true 14 15 refl)));
  one_word = (here 1, refl, (0, _, refl, (_, refl, ltb-true 0 2 refl)));
  two_words = (here 2, refl, two_words);
}
