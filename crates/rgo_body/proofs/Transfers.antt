-- Jumps, branches, calls and returns are local steps, and a body shows the record after each of them. The step is computed from the
-- record, the queue from the code; both list the same duties.
use Rattle.std.proofs.Common.{◌≡◌, ◌≤◌, arith, ◌++◌, ℕ, suc, Bool, true, false, List, [], ◌∷◌, Option, Some, None, OnOk, Result, Ok, Err, refl, sym, ap, ◌∙◌, subst, if◌then◌else◌, length, map, drop, slice_get}
use Rattle.std.proofs.lemmas.Bool.Decides.{nat_tests}
use Rattle.std.proofs.lemmas.List.{append-nil}
use Rattle.std.proofs.lemmas.Option.{same_Some}
use Rattle.rgo_sound.specs.Code.Code.{CodeInstr}
use Rattle.rgo_sound.specs.Code.Lists.{otherwise_in, otherwise_of, removes_of}
use Rattle.rgo_core.specs.Core.{Setup}
use Rattle.rgo_core.specs.Records.{Record, instructed}
use Rattle.rgo_core_facts.proofs.ControlFrames.{all_in_code}
use Rattle.rgo_core.proofs.Frames.regions.Bookkeeping.{bare_test}
use Rattle.rgo_core.specs.Frames.steps.Local.{local_op}
use Rattle.rgo_core.specs.Frames.steps.Quiet.{is_exit}
use Rattle.rgo_core.specs.Frames.Records.{FramesRec as FrameRec, after_op}
use Rattle.rgo_core.specs.Frames.shown.WordFrames.{WordFrame, bare, bare_all, is_set, frame_word, word_moved}
use Rattle.rgo_core_steps.specs.Seats.{SettlesBy, settled_by}
use Rattle.rgo_holding.specs.Holds.{IsHoldingOf}
use Rattle.rgo_sound.specs.Machine.Limits.{deepest}
use Rattle.rgo_sound.specs.RegionMachine.Counts.{Counts}
use Rattle.rgo_sound.specs.RegionMachine.Owed.{current, current_in, code_function, next_duties}
use Rattle.rgo_sound.specs.RegionMachine.States.{Duty, Holder, Offer, Remove}
use Rattle.rgo_stack.specs.Stacks.{Belongs, caller_place}
use Rattle.rgo_stack.specs.declared.stacks.Place.{Place}
use Rattle.rgo_stack.specs.Steps.{after_jump}
use Rattle.rgo_sound.specs.Tac.Code as tac
use Rattle.rgo_sound.specs.Tac.Ops.{operation_of}
use Rattle.rgo_body.specs.Bodies.{BodyIsReady, frames_of_body}
use Rattle.rgo_body.specs.Nexts.{IsNextAt, IsNextOf, instr_at, removes_at}
use Rattle.rgo_body.specs.Programs.{CompactProgram}
use Rattle.rgo_body.specs.Reserves.{PageReserve}
use Rattle.rgo_body.specs.Shows.{BodyIsPossible, BodyShows, SideShows}
use Rattle.rgo_body.specs.Steps.{GoesTo}
use Rattle.rgo_body.specs.declared.bodies.Body.{Body}
use Rattle.rgo_body.specs.declared.bodies.Side.{Side}
use Rattle.rgo_body.specs.declared.bodies.Side.TheVariants as side
use Rattle.rgo_body.specs.declared.nexts.Next.{Next}
use Rattle.rgo_body.proofs.OpKinds.{branch_of, jump_of}
use Rattle.rgo_body.proofs.LoopRuns.{few_frames}
use Rattle.rgo_body.proofs.Showing.{At, at, none_owed, owes_first}
use Rattle.rgo_body.proofs.Stepping.{local_is, not_exit, step_is}

-- ---- a body after an instruction that is a local step

abbrev pub counted : Counts → Counts
counted n = record n { steps = suc n.steps }

-- the record after it, with this holder but for its duties
abbrev pub stepped : Setup → Record → List WordFrame → Holder → List Duty → Record
stepped T c frames h ds = record c {
  clock = instructed c.clock;
  frame = record { frames = frames; holder = record h { duties = ds ++ next_duties T.code (bare_all frames) } };
}

-- what the body has in its queue now, and what else has changed
pub record Stepped (b d : Body) (ds : List Duty) : Type 0 where
  pub queue : d.queue.duties ≡ ds
  pub expanded : d.is_expanded ≡ false
  pub side : d.side ≡ b.side
  pub counts : d.counts ≡ counted b.counts
  pub prints : d.prints ≡ b.prints
  pub reserved : d.reserved ≡ b.reserved
  pub refused : d.refused ≡ b.refused

pub stepped_shows : (T : Setup) (p : CompactProgram) (b d : Body) (c : Record) (frames : List WordFrame) (h : Holder) (ds : List Duty)
    → BodyShows T p b c → Stepped b d ds → Belongs p.compact d.stack → frames ≡ frames_of_body d
    → h.offer ≡ c.frame.holder.offer → IsHoldingOf T.sizes.regions d.holding h c.memory.fills → BodyShows T p d (stepped T c frames h ds)
stepped_shows T p b d c frames h ds s k belongs are offer holds = record {
  code = s.code;
  belongs = belongs;
  frames = are;
  holds = holds;
  reserved = s.reserved ∙ sym (ap (λ (r : PageReserve). r.pages) k.reserved);
  owes = ap (λ code. ds ++ next_duties code (bare_all frames)) s.code
      ∙ ap (λ fs. ds ++ next_duties p.code (bare_all fs)) are
      ∙ sym (owes_first p.code d ds k.queue k.expanded);
  side = subst (λ (x : Side). SideShows x c.side h.offer) (sym k.side)
      (subst (λ (o : Offer). SideShows b.side c.side o) (sym offer) s.side);
  calm = s.calm;
  share = ap counted s.share ∙ sym k.counts;
  prints = s.prints ∙ sym k.prints;
  refused = s.refused ∙ sym k.refused;
}

module _ (T : Setup) (p : CompactProgram) (b d : Body) (g : ℕ) (c : Record) (next : Next) (s : BodyShows T p b c) (ready : BodyIsReady p b next)
    (rests : b.side ≡ side.AtRest) (frames : List WordFrame) (h : Holder) (ds : List Duty) (k : Stepped b d ds)
    (belongs : Belongs p.compact d.stack) (are : frames ≡ frames_of_body d) (stays : is_exit g frames ≡ false) where
  few : length frames ≤ deepest
  few = subst (λ n. n ≤ deepest) (ap length (sym are)) (few_frames p.compact d.stack belongs)

  abbrev pub x : At T.code c next
  x = at T p b c next s ready.is_next

  -- if the machine's step leads there, the body shows it
  pub local_step : local_op T.code x.w x.ws x.instr.op ≡ Some frames
      → after_op T.code c.frame.holder x.w x.ws x.instr.op frames
      ≡ record { frames = frames; holder = record h { duties = ds ++ next_duties T.code (bare_all frames) } }
      → h.offer ≡ c.frame.holder.offer → IsHoldingOf T.sizes.regions d.holding h c.memory.fills
      → SettlesBy T g 1 c × BodyShows T p d (settled_by T g 1 c)
  local_step does after offer holds =
      let step = step_is T g c (after_op T.code c.frame.holder x.w x.ws x.instr.op frames)
      (subst (λ (y : Side). SideShows y c.side c.frame.holder.offer) rests s.side).0 (none_owed T p b c next s ready)
      (local_is T.code c.frame x.w x.ws x.instr frames (none_owed T p b c next s ready) x.are x.cur does) stays few in (
        step.settles,
        subst (BodyShows T p d)
            (sym (step.is ∙ ap (λ (e : FrameRec). record c { clock = instructed c.clock; frame = e }) after))
            (stepped_shows T p b d c frames h ds s k belongs are offer holds),
      )

-- ---- jumps and branches

module _ (T : Setup) (p : CompactProgram) (b m : Body) (g : ℕ) (c : Record) (next : Next) (s : BodyShows T p b c) (ready : BodyIsReady p b next)
    (rests : b.side ≡ side.AtRest) (target : ℕ) (removes : List ℕ) (goes : GoesTo p b m target removes) where
  abbrev pub y : At T.code c next
  y = at T p b c next s ready.is_next

  led_by : Stepped b m (map Remove removes)
  led_by = record {
    queue = goes.queue ∙ ap (λ l. map Remove removes ++ l) ready.queue ∙ append-nil (map Remove removes);
    expanded = ap (λ (e : Body). e.is_expanded) goes.rest;
    side = ap (λ (e : Body). e.side) goes.rest;
    counts = ap (λ (e : Body). e.counts) goes.rest;
    prints = ap (λ (e : Body). e.prints) goes.rest;
    reserved = ap (λ (e : Body). e.reserved) goes.rest;
    refused = ap (λ (e : Body). e.refused) goes.rest;
  }

  leads : (does : local_op T.code y.w y.ws y.instr.op ≡ Some (word_moved y.w target ∷ y.ws))
      → after_op T.code c.frame.holder y.w y.ws y.instr.op (word_moved y.w target ∷ y.ws)
      ≡ record {
        frames = word_moved y.w target ∷ y.ws;
        holder = record c.frame.holder { duties = map Remove removes ++ next_duties T.code (bare_all (word_moved y.w target ∷ y.ws)) };
      }
      → SettlesBy T g 1 c × BodyShows T p m (settled_by T g 1 c)
  leads does after =
      local_step T p b m g c next s ready rests (word_moved y.w target ∷ y.ws) c.frame.holder (map Remove removes) led_by goes.belongs
      (sym (goes.frames ∙ ap (after_jump target) (sym s.frames ∙ y.are))) (not_exit g (word_moved y.w target) y.ws) does after refl
      (subst (λ (e : Body). IsHoldingOf T.sizes.regions e.holding c.frame.holder c.memory.fills) (sym goes.rest) s.holds)

  pub jumps : operation_of next.op ≡ tac.Jump target → removes ≡ removes_at next
      → SettlesBy T g 1 c × BodyShows T p m (settled_by T g 1 c)
  jumps op names =
      let is = jump_of y.instr.op target (y.op ∙ op) in
      let same = y.removes ∙ sym names in
      leads (ap (local_op T.code y.w y.ws) is)
      (ap (λ o. after_op T.code c.frame.holder y.w y.ws o (word_moved y.w target ∷ y.ws)) is
      ∙ ap (λ ks. record {
        frames = word_moved y.w target ∷ y.ws;
        holder = record c.frame.holder { duties = map Remove ks ++ next_duties T.code (bare_all (word_moved y.w target ∷ y.ws)) };
      }) same)

  -- a branch, on either way
  pub branches : (test one other : ℕ) → operation_of next.op ≡ tac.Branch test one other
      → (chosen : Bool) → is_set (frame_word y.w test) ≡ chosen → target ≡ (if chosen then one else other)
      → removes ≡ (if chosen then removes_at next else otherwise_in (slice_get next.function.body next.at))
      → SettlesBy T g 1 c × BodyShows T p m (settled_by T g 1 c)
  branches test one other op chosen set way names =
      let is = branch_of y.instr.op test one other (y.op ∙ op) in
      leads
      (ap (local_op T.code y.w y.ws) is
      ∙ ap (λ (z : Bool). Some (word_moved y.w (if z then one else other) ∷ y.ws)) set
      ∙ ap (λ t. Some (word_moved y.w t ∷ y.ws)) (sym way))
      (ap (λ o. after_op T.code c.frame.holder y.w y.ws o (word_moved y.w target ∷ y.ws)) is
      ∙ ap (λ (z : Bool). record {
        frames = word_moved y.w target ∷ y.ws;
        holder = record c.frame.holder {
          duties = map Remove (if z then removes_of y.instr.op else otherwise_of y.instr.op)
              ++ next_duties T.code (bare_all (word_moved y.w target ∷ y.ws));
        };
      }) (bare_test y.w test ∙ set)
      ∙ ap (λ ks. record {
        frames = word_moved y.w target ∷ y.ws;
        holder = record c.frame.holder { duties = map Remove ks ++ next_duties T.code (bare_all (word_moved y.w target ∷ y.ws)) };
      }) (ap (λ (l : List ℕ × List ℕ). if chosen then l.0 else l.1) both ∙ sym names))
    where
      both : ◌≡◌ {A = List ℕ × List ℕ} (removes_of y.instr.op, otherwise_of y.instr.op)
          (removes_at next, otherwise_in (slice_get next.function.body next.at))
      both = λ i. (y.removes i, y.otherwise i)

-- ---- the caller of the newest frame

pub record HasTwo (frames : List WordFrame) (place : Place) : Type 0 where
  pub w : WordFrame
  pub caller : WordFrame
  pub ws : List WordFrame
  pub are : frames ≡ w ∷ caller ∷ ws
  pub function : place.function ≡ caller.function
  pub next : place.next ≡ caller.next

pub has_two : (frames : List WordFrame) (place : Place) → caller_place frames ≡ Some place → HasTwo frames place
has_two [] place e = cc
has_two (w ∷ []) place e = cc
has_two (w ∷ caller ∷ ws) place e =
    let same = same_Some (record { function = caller.function; next = caller.next }) place e in
    record {
      w = w;
      caller = caller;
      ws = ws;
      are = refl;
      function = sym (ap (λ (q : Place). q.function) same);
      next = sym (ap (λ (q : Place). q.next) same);
    }

pub no_caller_below : (frames : List WordFrame) → caller_place frames ≡ None → drop 1 frames ≡ []
no_caller_below [] e = refl
no_caller_below (w ∷ []) e = refl
no_caller_below (w ∷ caller ∷ ws) e = cc

-- it is at an instruction
pub caller_instr : (p : CompactProgram) (b : Body) (place : Place) → BodyIsPossible p b → caller_place (frames_of_body b) ≡ Some place
    → instr_at p.code place ≡ None → ⊥
caller_instr p b place y e none =
    let two = has_two (frames_of_body b) place e in
    let known = all_in_code y.T y.goroutine y.c y.here 1 two.caller (ap (λ fs. slice_get fs 1) (y.shows.frames ∙ two.are)) in
    never known.instr (sym known.cur ∙ (ap (λ code. current code (bare two.caller)) y.shows.code
    ∙ (λ i. current_in (code_function p.code (sym two.function i)) (sym two.next i))) ∙ none)
  where
    never : (i : CodeInstr) → ◌≡◌ {A = Option CodeInstr} (Some i) None → ⊥
    never i e = cc

pub caller_next : (p : CompactProgram) (b : Body) (place : Place) (next : Next) → caller_place (frames_of_body b) ≡ Some place
    → IsNextAt p.code place next → IsNextOf p.code (drop 1 (frames_of_body b)) next
caller_next p b place next e n =
    let two = has_two (frames_of_body b) place e in
    record {
      w = two.caller;
      ws = two.ws;
      are = ap (drop 1) two.are;
      in_fn = ap (code_function p.code) (sym two.function) ∙ n.in_fn;
      at = n.at ∙ two.next;
      instr = n.instr;
      is_instr = n.is_instr;
      op = n.op;
    }

-- ---- results

pub on_ok : {A E : Type 0} {P Q : Type 0} (r : Result A E) → OnOk r P → (P → Q) → OnOk r Q
on_ok (Ok a) p f = f p
on_ok (Err e) p f = tt

pub set_if : (w : ℕ) → (w ≡ 0 → ⊥) → is_set w ≡ true
set_if w z = grind (arith, nat_tests, z)
