-- The examples, by computation; those that must not hold are refuted by one field that differs.
use Rattle.std.proofs.Common.{◌≡◌, ℕ, List, [], ◌∷◌, Option, Some, None, inl, inr, refl, sym, ap, ◌∙◌, arith, pos}
use Rattle.rgo_compact.specs.Examples.{adding_code}
use Rattle.rgo_compact.specs.Runs.{frame_at}
use Rattle.rgo_core.specs.Frames.shown.WordFrames.{WordFrame, bare}
use Rattle.rgo_sound.specs.RegionMachine.Owed.{current}
use Rattle.rgo_sound.specs.Code.Code.{CodeInstr}
use Rattle.rgo_compact.specs.Operations.{constant}
use Rattle.rgo_core.specs.Channels.Records.{Nowhere, Offering, Post}
use Rattle.rgo_core.specs.Memory.Records.{Calm, Owes}
use Rattle.rgo_sound.specs.RegionMachine.Counts.{Counts}
use Rattle.rgo_sound.specs.RegionMachine.Examples.{plain_instr}
use Rattle.rgo_sound.specs.RegionMachine.States.{NoOffer, Standing}
use Rattle.rgo_sound.specs.Tac.Code as tac
use Rattle.rgo_sound.specs.Typed.declared.actions.Action.{Action}
use Rattle.rgo_sound.specs.Typed.declared.actions.Action.TheVariants as action
use Rattle.rgo_body.specs.Nexts.{FollowsOn}
use Rattle.rgo_body.specs.Examples.{BodyExamples}

pub examples : BodyExamples
examples = record {
  rests = (refl, refl);
  offers_at_rest = λ s. by_offer s.1;
  offers = (refl, refl, refl);
  offers_elsewhere = λ s. by_post s.1;
  tried = (refl, refl, refl);
  offers_when_tried = λ s. by_place s.1;
  calm = record { make = refl; claim = refl; give = refl; none = refl };
  owing_pages = λ s. let e = s.none in omega (arith, e);
  giving_back = λ s. by_give s.give;
  access = record {
    frame = refl;
    side = refl;
    fills = refl;
    reserved = refl;
    make = refl;
    claim = refl;
    give = refl;
    share = refl;
    owed = refl;
    prints = refl;
    refused = refl;
  };
  slot = record {
    frame = refl;
    side = refl;
    fills = refl;
    reserved = refl;
    make = refl;
    claim = refl;
    give = refl;
    share = refl;
    owed = refl;
    prints = refl;
    refused = refl;
  };
  page = λ s. by_pages s.reserved;
  two = λ T p b c s. record {
    code = s.code;
    belongs = s.belongs;
    frames = s.frames;
    holds = s.holds;
    reserved = refl;
    owes = s.owes;
    side = s.side;
    calm = record { make = s.calm.make; claim = s.calm.claim; give = s.calm.give; none = s.calm.none };
    share = s.share;
    prints = s.prints;
    refused = s.refused;
  };
  other_order = λ T p b c s. let e = ap first_of s.reserved in omega (arith, e);
  no_page = λ T p b c s. let e = ap first_of s.reserved in omega (arith, e);
  instruction = λ s. let e = ap (λ (n : Counts). n.steps) s.share in omega (arith, e);
  gone = refl;
  removed = refl;
  few = record {
    made = omega arith;
    removed = omega arith;
    taken = omega arith;
    steps = omega arith;
    objects = omega arith;
    goroutines = omega arith;
  };
  many = λ s. let l = s.steps in omega (arith, l);
  most_pages = record {
    made = omega arith;
    removed = omega arith;
    taken = omega arith;
    steps = omega arith;
    objects = omega arith;
    goroutines = omega arith;
  };
  too_many_pages = λ s. let l = s.taken in omega (arith, l);
  most = refl;
  no_struct = refl;
  a_field_more = λ T p b c next op a v k f s n points. let e = points T b c op a k f s n in omega (arith, e);
  order = refl;
  global_shared = refl;
  shared = refl;
  not_shared = refl;
  global_kept = refl;
  kept = refl;
  not_kept = refl;
  next = record {
    w = frame_at 0 0 (7 ∷ 0 ∷ 0 ∷ []);
    ws = [];
    are = refl;
    in_fn = refl;
    at = refl;
    instr = first_instr;
    is_instr = refl;
    op = refl;
  };
  elsewhere = λ n. let e = n.at ∙ sym (ap next_of n.are) in omega (arith, e);
  without_frame = λ n. by_frames n.w n.ws n.are;
  none = λ w ws e. absurd (by_frames w ws e);
  past = λ w ws e. sym (ap (λ fs. current_of fs) e);
  some = λ n. by_instr (n (frame_at 0 0 (7 ∷ 0 ∷ 0 ∷ [])) [] refl);
  decoded = record { in_fn = refl; at = refl; instr = first_instr; is_instr = refl; op = refl };
  at_another = λ n. let e = n.at in omega (arith, e);
  forgotten = by_instr;
  beyond = refl;
  no_function = refl;
  no_table = λ t. by_instr (t (record { function = 0; next = 0 }));
  removes = refl;
  target = refl;
  does = (None, action.Store 0, 1 ∷ 2 ∷ [], refl);
  jumps = λ k. by_jump k.0 k.1 k.2 k.3;
  returns = (None, refl);
  goes_on = inr (inr (1, [], refl));
  leaves = λ k. by_return k;
}
  where
    first_instr : CodeInstr
    first_instr = plain_instr (constant 1 (pos 5))

    next_of : List WordFrame → ℕ
    next_of [] = 0
    next_of (w ∷ ws) = w.next

    current_of : List WordFrame → Option CodeInstr
    current_of [] = None
    current_of (w ∷ ws) = current adding_code (bare w)

    by_offer : Standing 0 ≡ NoOffer → ⊥
    by_offer e = cc

    place : Post → ℕ
    place Nowhere = 0
    place (Offering at) = at

    by_post : Offering 703 ≡ Offering 700 → ⊥
    by_post e = let n : ◌≡◌ {A = ℕ} 703 700 = ap place e in omega (arith, n)

    by_place : Offering 700 ≡ Nowhere → ⊥
    by_place e = cc

    by_give : Owes 3 ≡ Calm → ⊥
    by_give e = cc

    first_of : List ℕ → ℕ
    first_of [] = 0
    first_of (page ∷ pages) = page

    by_pages : ◌≡◌ {A = List ℕ} (3 ∷ []) [] → ⊥
    by_pages e = cc

    by_frames : (w : WordFrame) (ws : List WordFrame) → ◌≡◌ {A = List WordFrame} [] (w ∷ ws) → ⊥
    by_frames w ws e = cc

    by_instr : ◌≡◌ {A = Option CodeInstr} (Some first_instr) None → ⊥
    by_instr e = cc

    by_jump : (to : Option ℕ) (act : Action) (from : List ℕ) → tac.Jump 4 ≡ tac.Do to act from → ⊥
    by_jump to act from e = cc

    by_return : FollowsOn (tac.Return None) → ⊥
    by_return (inl k) = cc
    by_return (inr (inl k)) = cc
    by_return (inr (inr k)) = cc
