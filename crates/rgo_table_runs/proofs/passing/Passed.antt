-- What follows from a pass: one moment at which all that the turns have found is so. At it each goroutine is blocked, over or lacking.
use Rattle.std.proofs.Common.{◌≡◌, ◌≢◌, ℕ, zero, suc, ◌<◌, List, [], ◌∷◌, Option, Some, None, is_some, map, slice_get, slice_index, refl, ap, sym, subst, ◌∙◌, ⊎_elim}
use Rattle.std.proofs.lemmas.Option.{same_Some}
use Rattle.rgo_sound.specs.Code.Erasure.{erased}
use Rattle.rgo_goroutine.proofs.Acts.talking.Waiting.{loses_blocked, waits_blocked}
use Rattle.rgo_goroutine.specs.Acts.Shortages.{AllInUse}
use Rattle.rgo_goroutine.specs.Acts.Waits.{FoundNow}
use Rattle.rgo_core.proofs.image.Parts.{I}
use Rattle.rgo_core.specs.Core.{Situation, Setup, layout}
use Rattle.rgo_core.specs.ties.Moments.{moment}
use Rattle.rgo_core.specs.Records.{Record, memory_of, side_of}
use Rattle.rgo_core.proofs.Channels.Deadlock.{deadlock}
use Rattle.rgo_core.specs.Channels.Deadlock.{Blocked}
use Rattle.rgo_core.specs.Channels.Records.{Free, ChannelRec as SideRec}
use Rattle.rgo_core.specs.Memory.Ground.{ground_of}
use Rattle.rgo_core.specs.Memory.Records.{Calm, Idle, Rec as MemoryRec}
use Rattle.rgo_core.specs.Memory.Words.{count_at, state_at}
use Rattle.rgo_core.specs.Rule.Views.{HasRow, Rows}
use Rattle.rgo_core.specs.Rule.declared.accesses.Access.{Access}
use Rattle.rgo_core.specs.Rule.declared.accesses.Kind.{Kind}
use Rattle.rgo_core.specs.Rule.declared.accesses.View.{View}
use Rattle.rgo_goroutine.specs.Turns.{IsTidy}
use Rattle.rgo_core_steps.specs.Outcomes.{ClosesTable}
use Rattle.rgo_sound.specs.Machine.Deadlocks.{IsDeadlock}
use Rattle.rgo_sound.specs.Machine.declared.limits.Shortage.{Shortage}
use Rattle.rgo_sound.specs.Machine.declared.limits.Shortage.TheVariants as shortage
use Rattle.rgo_sound.specs.RegionMachine.Room.{LacksIn}
use Rattle.rgo_sound.specs.Tac.Tac.{tac}
use Rattle.rgo_table_runs.specs.closing.Laws.{last_state, whole_run}
use Rattle.rgo_table_runs.specs.passing.Laws.{FindsDeadlock, FindsShortage}
use Rattle.rgo_table_runs.specs.passing.Passes.{AllPassed}
use Rattle.rgo_table_runs.specs.passing.Turns.{HadTurn, Over, HasStopped, StandsStill, Still}
use Rattle.rgo_table_runs.proofs.closing.Closed.{has_row, is_there}
use Rattle.rgo_table_runs.proofs.passing.Counting.{pages_used, slots_used}
use Rattle.rgo_table_runs.proofs.passing.Lacking.{owes_creation, takes_page}
use Rattle.rgo_table_runs.proofs.passing.Looking.{found_now, passed}
use Rattle.rgo_table_runs.proofs.passing.Standing.{over_blocked}

-- which record has this part
find_part : {B : Type 0} (f : Record → B) (recs : List Record) (g : ℕ) (y : B) → slice_get (map f recs) g ≡ Some y
    → (d : Record) × (slice_get recs g ≡ Some d) × (f d ≡ y)
find_part f [] g y e = cc
find_part f (r ∷ rs) zero y e = (r, refl, same_Some (f r) y e)
find_part f (r ∷ rs) (suc g) y e = find_part f rs g y e

-- what was found in use is in use
in_use_now : (words : List ℕ) (g : ℕ) (es : List Access) (kind : Kind) (at : ℕ → ℕ) (n : ℕ) → FoundNow words g es → AllInUse g es kind at n
    → (k : ℕ) → k < n → slice_index words (at k) ≢ 0
in_use_now words g es kind at n now all k l e =
    let t = all k l in
    let f = t.2 in
    t.1 (sym f.found ∙ (now f.place f.access f.there f.own ∙ (ap (slice_index words) f.word ∙ e)))

module _ {T : Setup} {words : List ℕ} {v : View Record} (e : ClosesTable T words v) (rows : Rows Record) (before : List Access)
    (lack : ℕ → Option Shortage) (k : AllPassed T v rows before lack) where
  -- each goroutine at the close
  abbrev here : (g : ℕ) (c : Record) → slice_get e.recs g ≡ Some c → Situation T g c
  here g c there = record {
    words = words;
    recs = e.recs;
    events = whole_run e;
    s = last_state e;
    core = e.account.explains.1;
    is_c = there;
  }

  tidy : (g : ℕ) (c : Record) → slice_get e.recs g ≡ Some c → IsTidy c
  tidy g c there = (k.each g c (has_row e rows k.all g c there)).tidy

  blocked_by : (g : ℕ) (c : Record) (there : slice_get e.recs g ≡ Some c) → lack g ≡ None → HasStopped T before e.history g c (lack g)
      → Blocked (moment (here g c there)) g c.side
  blocked_by g c there none (Over is known over) = over_blocked (here g c there) over
  blocked_by g c there none (Still t stands) = ⊎_elim
      (λ w. waits_blocked T g c (here g c there) t.turn w.0 (found_now e rows before lack k g c t) w.1)
      (λ w. loses_blocked T g c (here g c there) t.turn w.0 (found_now e rows before lack k g c t) w.1)
      (subst (λ (o : Option Shortage). StandsStill T g c t.turn o) none stands)

  blocked : (g : ℕ) (c : Record) (there : slice_get e.recs g ≡ Some c) → lack g ≡ None → Blocked (moment (here g c there)) g c.side
  blocked g c there none = blocked_by g c there none (passed e rows before lack k g c (has_row e rows k.all g c there)).stands

  pub is_deadlock : ((g : ℕ) (c : Record) → HasRow rows g c → lack g ≡ None) → IsDeadlock (tac (erased T.code)) (last_state e).plain
  is_deadlock none =
      deadlock (moment (here 0 k.all.family.main.0 (is_there e rows k.all 0 k.all.family.main.0 k.all.family.main.1))) (λ g side at.
      let d = find_part side_of e.recs g side at in
      subst (λ (y : SideRec). (y.hold ≡ Free) × Blocked (moment (here 0 k.all.family.main.0 (is_there e rows k.all 0 k.all.family.main.0 k.all.family.main.1))) g y) d.2
      ((tidy g d.0 d.1).hold, blocked g d.0 d.1 (none g d.0 (has_row e rows k.all g d.0 d.1))))

  calm : (g : ℕ) (y : MemoryRec) → slice_get (map memory_of e.recs) g ≡ Some y → (y.give ≡ Calm) × (y.claim ≡ Idle)
  calm g y at =
      let d = find_part memory_of e.recs g y at in
      subst (λ (m : MemoryRec). (m.give ≡ Calm) × (m.claim ≡ Idle)) d.2 ((tidy g d.0 d.1).give, (tidy g d.0 d.1).claim)

  module _ (g : ℕ) (c : Record) (has : HasRow rows g c) where
    abbrev x : Situation T g c
    x = here g c (is_there e rows k.all g c has)

    by_kind : (why : Shortage) (t : HadTurn before e.history g c) → StandsStill T g c t.turn (Some why) → LacksIn T.code T.sizes why (last_state e)
    by_kind shortage.Pages t l = (
      g,
      ap is_some (takes_page x l.slot l.needs).1,
      pages_used (layout T) words (map memory_of e.recs) (ground_of (last_state e)) (I x).places (I x).memory calm
          (in_use_now words g t.turn _ (state_at (layout T)) T.sizes.pages (found_now e rows before lack k g c t) l.in_use),
    )
    by_kind shortage.Regions t l =
        let o = owes_creation x l.creates in (
          g,
          l.creates.0,
          o.0,
          o.1,
          o.2,
          o.3,
          slots_used (layout T) words (map memory_of e.recs) (ground_of (last_state e)) (I x).places (I x).memory calm
              (in_use_now words g t.turn _ (count_at (layout T)) T.sizes.regions (found_now e rows before lack k g c t) l.in_use),
        )
    by_kind shortage.ObjectSize t l = absurd l

    pub lacks : (why : Shortage) → lack g ≡ Some why → LacksIn T.code T.sizes why (last_state e)
    lacks why is = by (passed e rows before lack k g c has).stands
      where
        by : HasStopped T before e.history g c (lack g) → LacksIn T.code T.sizes why (last_state e)
        by (Over none known over) = let z : None ≡ Some why = sym none ∙ is in absurd (cc z)
        by (Still t stands) = by_kind why t (subst (λ (o : Option Shortage). StandsStill T g c t.turn o) is stands)

pub finds_deadlock : FindsDeadlock
finds_deadlock T words v e rows before lack k none = is_deadlock e rows before lack k none

pub finds_shortage : FindsShortage
finds_shortage T words v e rows before lack k g c why has is = lacks e rows before lack k g c has why is
