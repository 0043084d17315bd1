-- What is noted of turns and meetings leads to where they lead.
use Rattle.std.proofs.Common.{◌≡◌, ℕ, zero, suc, true, false, List, [], ◌∷◌, ◌++◌, replicate, Option, Some, None, Ok, Err}
use Rattle.std.proofs.Common.{arith, refl, sym, ap, ◌∙◌, subst, option_map, option_and_then, append-nil}
use Rattle.std.proofs.lemmas.List.Elements.{All-append, All-cons, All-nil, All-replicate}
use Rattle.std.specs.Prelude.{IfSome}
use Rattle.std.specs.declared.alloc.AllocError.{AllocError}
use Rattle.rgo_machine.specs.declared.limits.Limits.{Limits}
use Rattle.rgo_machine.specs.declared.limits.Sizes.{Sizes}
use Rattle.rgo_machine.specs.declared.picks.Pick.TheVariants as machine
use Rattle.rgo_interpreter.specs.declared.turns.Turned.{Turned}
use Rattle.rgo_interpreter.specs.declared.turns.TurnEnd.TheVariants as stop
use Rattle.rgo_machine.specs.Limits.{LeadsWithin}
use Rattle.rgo_machine.specs.Runs.{run}
use Rattle.rgo_machine.proofs.Printing.{prefixed, step_before}
use Rattle.rgo_machine.proofs.Runs.{is_run, joined, single}
use Rattle.rgo_tac.specs.Code.{Tac}
use Rattle.rgo_tac.specs.Tac.{TacState, tac, tac_start, tac_step}
use Rattle.rgo_code.specs.Code.{Code}
use Rattle.rgo_code.specs.Erasure.{erased}
use Rattle.rgo_journal.specs.declared.picks.TacPick.{TacPick}
use Rattle.rgo_journal.specs.declared.picks.TacPick.TheVariants.{One, Meet}
use Rattle.rgo_journal.specs.Picks.{taken}
use Rattle.rgo_journal.specs.Replays.{TakesPicks}
use Rattle.rgo_journal.specs.Text.{PickFits}
use Rattle.rgo_round_robin.specs.Running as driver
use Rattle.rgo_region_interpreter.specs.Views as world
use Rattle.rgo_region_interpreter.specs.Works.{WorldStarts}
use Rattle.rgo_region_interpreter.specs.Worlds.{WorldReaches, IsWorldAt}
use Rattle.rgo_region_interpreter.proofs.stepping.Standing.{starts_stand}
use Rattle.rgo_recording.specs.declared.recorders.Recorder.{Recorder}
use Rattle.rgo_recording.specs.Notes.{noted_picks}
use Rattle.rgo_recording.specs.Recorders.{LeadTo, RecorderShows, recorder_view}

-- ---- the picks

-- the state with these bytes printed before
abbrev before : List ℕ → TacState → TacState
before given s = record s { printed = given ++ s.printed }

then_alike : {S T : Type 0} (f h : S → Option T) (o : Option S) → ((t : S) → f t ≡ h t)
    → option_and_then f o ≡ option_and_then h o
then_alike f h None alike = refl
then_alike f h (Some t) alike = alike t

-- a turn is the same as picks of a journal
turn_alike : (code : Tac) (g n : ℕ) (s : TacState)
    → run (taken code) s (replicate n (One g)) ≡ run (tac_step code) s (replicate n (machine.One g))
turn_alike code g zero s = refl
turn_alike code g (suc n) s =
    then_alike (λ t. run (taken code) t (replicate n (One g))) (λ t. run (tac_step code) t (replicate n (machine.One g)))
    (tac_step code s (machine.One g)) (λ t. turn_alike code g n t)

-- the steps of a goroutine lead on, within whatever limits
pub turn_leads : (code : Code) (limits : Limits) (picks : List TacPick) (g n : ℕ) (given : List ℕ) (s t : TacState)
    → PickFits (One g) → LeadTo code picks given s
    → LeadsWithin (tac (erased code)) limits s (replicate n (machine.One g)) t
    → LeadTo code (picks ++ replicate n (One g)) given t
turn_leads code limits picks g n given s t fits lead leads = record {
  takes = joined (taken (erased code)) (tac_start (erased code)) (before given s) (before given t) picks
      (replicate n (One g)) lead.takes
      (turn_alike (erased code) g n (before given s)
      ∙ is_run (tac (erased code)) limits (before given s) (before given t) (replicate n (machine.One g))
      (prefixed (tac (erased code)) limits given s t (replicate n (machine.One g)) leads));
  fit = All-append PickFits picks (replicate n (One g)) lead.fit (All-replicate PickFits n (One g) fits);
}

-- and so does a meeting
pub meeting_leads : (code : Code) (picks : List TacPick) (r q : ℕ) (given : List ℕ) (s t : TacState)
    → PickFits (Meet r q) → LeadTo code picks given s → tac_step (erased code) s (machine.Meet r q) ≡ Some t
    → LeadTo code (picks ++ Meet r q ∷ []) given t
meeting_leads code picks r q given s t fits lead steps = record {
  takes = joined (taken (erased code)) (tac_start (erased code)) (before given s) (before given t) picks
      (Meet r q ∷ []) lead.takes
      (single (taken (erased code)) (before given s) (before given t) (Meet r q)
      (step_before (tac (erased code)) given s (machine.Meet r q) ∙ ap (option_map (before given)) steps));
  fit = All-append PickFits picks (Meet r q ∷ []) lead.fit (All-cons PickFits (Meet r q) [] fits (All-nil PickFits));
}

-- what was printed is given out
pub leads_cleared : (code : Code) (picks : List TacPick) (given : List ℕ) (s : TacState) → LeadTo code picks given s
    → LeadTo code picks (given ++ s.printed) (record s { printed = [] })
leads_cleared code picks given s lead = record {
  takes = subst (λ l. TakesPicks (erased code) picks (record s { printed = l })) (sym (append-nil (given ++ s.printed)))
      lead.takes;
  fit = lead.fit;
}

-- the code and the picks by another name
pub leads_as : (code code' : Code) (picks picks' : List TacPick) (given : List ℕ) (s : TacState) → code' ≡ code
    → picks' ≡ picks → LeadTo code picks given s → LeadTo code' picks' given s
leads_as code code' picks picks' given s same so lead =
    subst (λ c. LeadTo c picks' given s) (sym same) (subst (λ l. LeadTo code l given s) (sym so) lead)

-- where the run begins, nothing is noted
pub begins : (code : Code) (sizes : Sizes) (r : Recorder) → WorldStarts code sizes r.world → noted_picks r.notes ≡ []
    → RecorderShows r [] (tac_start (erased code))
begins code sizes r starts none = record {
  stands = starts_stand code sizes r.world starts;
  lead = leads_as code r.world.code.now [] (noted_picks r.notes) [] (tac_start (erased code)) starts.code_is none
      (record { takes = refl; fit = All-nil PickFits });
}

-- the pick that there was room for is the one that was asked for
pub same_pick : (P : TacPick → Type 0) (asked : Option TacPick) (pick : TacPick) → IfSome asked P → asked ≡ Some pick → P pick
same_pick P asked pick of_asked is = subst (λ o. IfSome o P) is of_asked

-- ---- turns

-- the recorder q after a turn of the world of r, which was noted
pub turn_noted : (r q : Recorder) (limits : Limits) (g at_most : ℕ) (turned : Turned) (pick : TacPick) (room : List TacPick)
    → noted_picks q.notes ≡ room ++ replicate turned.steps pick → room ≡ noted_picks r.notes → (pick ≡ One g) × PickFits pick
    → q.world.code.now ≡ r.world.code.now
    → ((given : List ℕ) (s : TacState) → IsWorldAt r.world given s → driver.RunContinues limits s
    → driver.RunTakesTurn (world.view_of q.world) (tac (erased r.world.code.now)) limits given s g at_most turned)
    → (given : List ℕ) (s : TacState) → RecorderShows r given s → driver.RunContinues limits s
    → driver.RunTakesTurn (recorder_view q) (tac (erased r.world.code.now)) limits given s g at_most turned
turn_noted r q limits g at_most turned pick room is kept one same takes given s at on =
    let x = takes given s at.stands on in
    let noted : noted_picks q.notes ≡ noted_picks r.notes ++ replicate turned.steps (One g) =
    is ∙ (λ i. kept i ++ replicate turned.steps (one.0 i)) in
    let fits : PickFits (One g) = subst PickFits one.0 one.1 in
    let lead = leads_as r.world.code.now q.world.code.now (noted_picks r.notes ++ replicate turned.steps (One g))
    (noted_picks q.notes) given x.state same noted
    (turn_leads r.world.code.now limits (noted_picks r.notes) g turned.steps given s x.state fits at.lead x.turns.leads) in
    record {
      state = x.state;
      turns = x.turns;
      print = x.print;
      leaves = record { reaches = x.leaves; lead = lead };
      shows = λ n. record { stands = x.shows n; lead = lead };
      lacks = x.lacks;
    }

-- a turn without steps, for which there is no room
pub turn_refused : (r q : Recorder) (limits : Limits) (g at_most : ℕ) → q.world ≡ r.world
    → noted_picks q.notes ≡ noted_picks r.notes
    → (given : List ℕ) (s : TacState) → RecorderShows r given s → driver.RunContinues limits s
    → driver.RunTakesTurn (recorder_view q) (tac (erased r.world.code.now)) limits given s g at_most
    (record { steps = 0; stop = stop.NoMemory })
turn_refused r q limits g at_most same noted given s at on = record {
  state = s;
  turns = record {
    leads = refl;
    within = omega arith;
    over = on.running;
    channels = λ o channel is. is;
    print = refl;
  };
  print = ap (λ v. v.printed) at.stands.reaches.is ∙ sym (ap (λ w. w.state.printed) same);
  leaves = record {
    reaches = subst (λ w. WorldReaches w given s) (sym same) at.stands.reaches;
    lead = leads_as r.world.code.now q.world.code.now (noted_picks r.notes) (noted_picks q.notes) given s
        (ap (λ w. w.code.now) same) noted at.lead;
  };
  shows = λ n. absurd (n refl);
  lacks = λ why e. cc;
}

-- ---- meetings

module _ (r q : Recorder) (receiver sender : ℕ) (same : q.world.code.now ≡ r.world.code.now) (given : List ℕ)
    (s : TacState) (at : RecorderShows r given s) where
  pub met_noted : (pick : TacPick) (room : List TacPick) → noted_picks q.notes ≡ room ++ replicate 1 pick
      → room ≡ noted_picks r.notes → (pick ≡ Meet receiver sender) × PickFits pick
      → driver.TriesMeeting (world.view_of q.world) (tac (erased r.world.code.now)) given s receiver sender (Ok true)
      → driver.TriesMeeting (recorder_view q) (tac (erased r.world.code.now)) given s receiver sender (Ok true)
  met_noted pick room is kept one tries =
      let noted : noted_picks q.notes ≡ noted_picks r.notes ++ Meet receiver sender ∷ [] = is ∙ (λ i. kept i ++ one.0 i ∷ []) in
      let fits : PickFits (Meet receiver sender) = subst PickFits one.0 one.1 in (
        tries.0,
        tries.1,
        record {
          stands = tries.2;
          lead = leads_as r.world.code.now q.world.code.now (noted_picks r.notes ++ Meet receiver sender ∷ [])
              (noted_picks q.notes) given tries.0 same noted
              (meeting_leads r.world.code.now (noted_picks r.notes) receiver sender given s tries.0 fits at.lead tries.1);
        },
      )

  pub not_met : noted_picks q.notes ≡ noted_picks r.notes
      → driver.TriesMeeting (world.view_of q.world) (tac (erased r.world.code.now)) given s receiver sender (Ok false)
      → driver.TriesMeeting (recorder_view q) (tac (erased r.world.code.now)) given s receiver sender (Ok false)
  not_met kept tries = (
    tries.0,
    record {
      stands = tries.1;
      lead = leads_as r.world.code.now q.world.code.now (noted_picks r.notes) (noted_picks q.notes) given s same kept at.lead;
    },
  )

  pub meeting_failed : (e : AllocError) → noted_picks q.notes ≡ noted_picks r.notes
      → WorldReaches q.world given s × (s.printed ≡ q.world.state.printed)
      → driver.TriesMeeting (recorder_view q) (tac (erased r.world.code.now)) given s receiver sender (Err e)
  meeting_failed e kept tries = (
    record {
      reaches = tries.0;
      lead = leads_as r.world.code.now q.world.code.now (noted_picks r.notes) (noted_picks q.notes) given s same kept at.lead;
    },
    tries.1,
  )

-- ---- the print

pub clears_noted : (r q : Recorder) → noted_picks q.notes ≡ noted_picks r.notes → q.world.code.now ≡ r.world.code.now
    → driver.Clears (world.view_of r.world) (world.view_of q.world) → driver.Clears (recorder_view r) (recorder_view q)
clears_noted r q noted same clears = record {
  machine = clears.machine;
  print = clears.print;
  fixed = clears.fixed;
  shows = λ given s at. record { stands = clears.shows given s at.stands; lead = lead given s at.lead };
  leaves = λ given s at. record { reaches = clears.leaves given s at.reaches; lead = lead given s at.lead };
  lacks = clears.lacks;
}
  where
    lead : (given : List ℕ) (s : TacState) → LeadTo r.world.code.now (noted_picks r.notes) given s
        → LeadTo q.world.code.now (noted_picks q.notes) (given ++ s.printed) (record s { printed = [] })
    lead given s at = leads_as r.world.code.now q.world.code.now (noted_picks r.notes) (noted_picks q.notes)
        (given ++ s.printed) (record s { printed = [] }) same noted
        (leads_cleared r.world.code.now (noted_picks r.notes) given s at)
