-- A body after a duty shows the record after it. The first duty of the queue is the first one that the record owes, since what is not in
-- the queue yet comes after it.
use Rattle.std.proofs.Common.{◌≡◌, ◌++◌, ◌<◌, ℕ, List, [], ◌∷◌, Option, Some, None, refl, sym, ap, ◌∙◌, subst, if◌then◌else◌, length, arith}
use Rattle.std.specs.Option.{option_map}
use Rattle.std.proofs.lemmas.Option.{same_Some}
use Rattle.rgo_sound.specs.Code.Code.{Code}
use Rattle.rgo_core.specs.Core.{Situation, Setup}
use Rattle.rgo_core.specs.Records.{ClockRec, Record}
use Rattle.rgo_core_facts.proofs.ControlDuties.{duties_known}
use Rattle.rgo_core_facts.proofs.ControlSteps.{local_duty_steps}
use Rattle.rgo_core_facts.specs.ControlDuties.{CanAttend, HasNewest, NameIsBound}
use Rattle.rgo_core.specs.Frames.steps.Local.{local_duty}
use Rattle.rgo_core.specs.Frames.shown.WordFrames.{bare_all}
use Rattle.rgo_core.specs.Memory.Records.{Fill, Rec as MemoryRec, Reserved}
use Rattle.rgo_core_steps.specs.Seats.{SettlesBy, settled_by}
use Rattle.rgo_holding.specs.Changes.{KeepsHolding}
use Rattle.rgo_holding.specs.Holds.{IsHoldingOf, region_of_key}
use Rattle.rgo_holding.specs.declared.holding.Holding.{Holding}
use Rattle.rgo_holding.specs.declared.keys.Key.{Key}
use Rattle.rgo_sound.specs.RegionMachine.Owed.{next_duties}
use Rattle.rgo_sound.specs.RegionMachine.Regions.{bound}
use Rattle.rgo_sound.specs.RegionMachine.States.{Duty, RegionEnvironment, Holder, top_names}
use Rattle.rgo_sound.specs.RegionMachine.declared.regions.Region.{Region}
use Rattle.rgo_stack.specs.Stacks.{Belongs}
use Rattle.rgo_body.specs.Bodies.{frames_of_body}
use Rattle.rgo_body.specs.Duties.{DoesLocal, HasDoneDuty}
use Rattle.rgo_body.specs.Programs.{CompactProgram}
use Rattle.rgo_body.specs.Shows.{IsMemoryCalm, BodyShows, SideShows}
use Rattle.rgo_body.specs.declared.bodies.Body.{Body}
use Rattle.rgo_body.specs.declared.bodies.Side.{Side}
use Rattle.rgo_body.specs.declared.bodies.Side.TheVariants as side

-- ---- duties in the queue

-- what it owes that is not in its queue yet
abbrev pub later : Code → Body → List Duty
later code b = if b.is_expanded then [] else next_duties code (bare_all (frames_of_body b))

module _ (T : Setup) (p : CompactProgram) (b : Body) (c : Record) (d : Duty) (ds : List Duty) (s : BodyShows T p b c)
    (queue : b.queue.duties ≡ d ∷ ds) where
  pub first : c.frame.holder.duties ≡ d ∷ (ds ++ later p.code b)
  first = s.owes ∙ ap (λ l. l ++ later p.code b) queue

  -- after the first one is done, by an access or without one: another holder and other pages are known
  module _ (e : Body) (done : e.queue.duties ≡ ds) (is : e ≡ record b { queue = e.queue; holding = e.holding; counts = e.counts }) where
    pub done_shows : (k : Holder) (clock : ClockRec) (memory : MemoryRec) → memory.reserved ≡ c.memory.reserved → k.duties ≡ ds ++ later p.code b
        → k.offer ≡ c.frame.holder.offer → IsHoldingOf T.sizes.regions e.holding k memory.fills → IsMemoryCalm memory clock.owed
        → clock.share ≡ e.counts → length clock.prints ≡ length c.clock.prints → clock.refused ≡ c.clock.refused
        → BodyShows T p e (record c { clock = clock; frame = record c.frame { holder = k }; memory = memory })
    done_shows k clock memory reserved duties offer holds calm share prints refused = record {
      code = s.code;
      belongs = subst (λ (x : Body). Belongs p.compact x.stack) (sym is) s.belongs;
      frames = s.frames ∙ sym (ap frames_of_body is);
      holds = holds;
      reserved = ap (λ (r : Reserved). r.pages) reserved ∙ s.reserved ∙ sym (ap (λ (x : Body). x.reserved.pages) is);
      owes = duties ∙ ap (λ l. l ++ later p.code b) (sym done) ∙ sym (ap (λ (x : Body). e.queue.duties ++ later p.code x) is);
      side = subst (λ o. SideShows e.side c.side o) (sym offer)
          (subst (λ (x : Body). SideShows x.side c.side c.frame.holder.offer) (sym is) s.side);
      calm = calm;
      share = share;
      prints = prints ∙ s.prints ∙ sym (ap (λ (x : Body). x.prints) is);
      refused = refused ∙ s.refused ∙ sym (ap (λ (x : Body). x.refused) is);
    }

    -- without one
    pub local_shows : (g : ℕ) (k : Holder) → Situation T g c → b.side ≡ side.AtRest → e.counts ≡ b.counts
        → local_duty (record c.frame.holder { duties = ds ++ later p.code b }) d ≡ Some k
        → k.duties ≡ ds ++ later p.code b → k.offer ≡ c.frame.holder.offer
        → IsHoldingOf T.sizes.regions e.holding k c.memory.fills
        → SettlesBy T g 1 c × BodyShows T p e (settled_by T g 1 c)
    local_shows g k here rests counts does duties offer holds =
        let known = subst (λ (x : Side). SideShows x c.side c.frame.holder.offer) rests s.side in
        let step = local_duty_steps T g c d (ds ++ later p.code b) k here known.0 first does in (
          step.settles,
          subst (BodyShows T p e) (sym step.becomes)
              (done_shows k c.clock c.memory refl duties offer holds s.calm (s.share ∙ sym counts) refl refl),
        )

  -- ---- the region of a name

  pub attended : (g : ℕ) → Situation T g c → CanAttend T c d
  attended g here = duties_known T g c here d (ds ++ later p.code b) first

-- ---- a local duty, whatever the record

module _ (p : CompactProgram) (b e : Body) (d : Duty) (ds : List Duty) (queue : b.queue.duties ≡ d ∷ ds) (done : e.queue.duties ≡ ds)
    (is : e ≡ record b { queue = e.queue; holding = e.holding; counts = e.counts }) where
  pub has_done : HasDoneDuty b e
  has_done = record { first = d; queue = queue ∙ ap (λ l. d ∷ l) (sym done); rest = is }

  -- what the holder is after it
  pub record Becomes (T : Setup) (c : Record) : Type 0 where
    pub after : Holder
    pub does : local_duty (record c.frame.holder { duties = ds ++ later p.code b }) d ≡ Some after
    pub duties : after.duties ≡ ds ++ later p.code b
    pub offer : after.offer ≡ c.frame.holder.offer
    pub holds : IsHoldingOf T.sizes.regions e.holding after c.memory.fills

  pub does_local : b.side ≡ side.AtRest → e.counts ≡ b.counts → ((T : Setup) (g : ℕ) (c : Record) → Situation T g c → BodyShows T p b c → Becomes T c)
      → DoesLocal p b e
  does_local rests counts by = (
    (λ T g c here s. let x = by T g c here s in
        local_shows T p b c d ds s queue e done is g x.after here rests counts x.does x.duties x.offer x.holds),
    has_done,
    counts,
  )

-- ---- names

pub top_bound : (T : Setup) (c : Record) (k : ℕ) (n : NameIsBound T c k) → bound (top_names c.frame.holder.environments) k ≡ Some n.region
top_bound T c k n = ap (λ es. bound (top_names es) k) n.newest.environments ∙ n.bound

pub some_key : (H : Holding) (key : Key) (o : Option Region) (r : Region)
    → option_map (region_of_key H) (Some key) ≡ option_map Some o → o ≡ Some r → region_of_key H key ≡ Some r
some_key H key o r e is = same_Some (region_of_key H key) (Some r) (e ∙ ap (option_map Some) is)

pub no_key : (H : Holding) (o : Option Region) (r : Region) → option_map (region_of_key H) None ≡ option_map Some o → o ≡ Some r → ⊥
no_key H o r e is = never (e ∙ ap (option_map Some) is)
  where
    never : None ≡ Some (Some r) → ⊥
    never e = cc

-- the key of a name, whatever the record
abbrev pub IsKeyOf : Holding → Option Key → (name : ℕ) → Type 0
IsKeyOf H o name = (slots : ℕ) (h : Holder) (fills : List Fill) → IsHoldingOf slots H h fills
    → option_map (region_of_key H) o ≡ option_map Some (bound (top_names h.environments) name)

pub some_environment : (c : Record) (e : RegionEnvironment) → HasNewest c e → 0 < length c.frame.holder.environments
some_environment c e n = let l = ap (λ (es : List RegionEnvironment). length es) n.environments in omega (arith, l)

-- ---- memory alone: what a body shows does not depend on its room

pub with_holding : (T : Setup) (p : CompactProgram) (b : Body) (c : Record) (H : Holding) → BodyShows T p b c → KeepsHolding b.holding H
    → BodyShows T p (record b { holding = H }) c
with_holding T p b c H s keeps = record {
  code = s.code;
  belongs = s.belongs;
  frames = s.frames;
  holds = keeps T.sizes.regions c.frame.holder c.memory.fills s.holds;
  reserved = s.reserved;
  owes = s.owes;
  side = s.side;
  calm = s.calm;
  share = s.share;
  prints = s.prints;
  refused = s.refused;
}
