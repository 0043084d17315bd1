-- What is known of a goroutine that is about to do an instruction, owes nothing, and has nothing to acknowledge: what it touches is
-- live, and there is a region for the object that it makes. So the code tests neither.
use Rattle.std.proofs.Common.{◌≡◌, ℕ, true, ◌&&◌, List, [], ◌∷◌, Option, Some, None}
use Rattle.std.proofs.Common.{refl, sym, ap, ◌∙◌, subst, arith, slice_get}
use Rattle.std.proofs.lemmas.Option.{slice_get_within}
use Rattle.rgo_typed.specs.declared.actions.Action.{Action}
use Rattle.rgo_tac.specs.declared.regions.Class.{Class}
use Rattle.rgo_tac.specs.declared.regions.Class.TheVariants.{Global, Name, NoClass}
use Rattle.rgo_tac.specs.Frames.{TacFrame}
use Rattle.rgo_code.specs.Checked.{IsChecked}
use Rattle.rgo_code.specs.Code.{Code, CodeInstr, Do}
use Rattle.rgo_code.specs.Erasure.{erased_fn}
use Rattle.rgo_code.specs.NameRules.{Ascends}
use Rattle.rgo_region_machine.specs.declared.regions.Region.{Region}
use Rattle.rgo_region_machine.specs.declared.regions.Region.TheVariants.{Numbered}
use Rattle.rgo_region_machine.specs.Duties.{may_go}
use Rattle.rgo_region_machine.specs.Instructions.{has_none, is_ready, touches}
use Rattle.rgo_region_machine.specs.Objects.{makes_object, making_region, may_touch, owner_live, touched}
use Rattle.rgo_region_machine.specs.Owed.{current, function_at}
use Rattle.rgo_region_machine.specs.Regions.{class_region}
use Rattle.rgo_region_machine.specs.States.{Holder, RegionState, frames_in, top_names}
use Rattle.rgo_sound.proofs.offers.Offers.{class_has_stake, makes_at, making_class, touched_home}
use Rattle.rgo_sound.proofs.Places.{get_some}
use Rattle.rgo_sound.proofs.Progress as progress
use Rattle.rgo_sound.proofs.Progress.{HasTarget, live_of}
use Rattle.rgo_sound.proofs.pointers.Steps.{Top, top_of}
use Rattle.rgo_sound.specs.Good.{AllGood}
use Rattle.rgo_sound.specs.Invariant.{GoodHolder}
use Rattle.rgo_sound.specs.NextNames.{HasStake}
use Rattle.rgo_sound.specs.Stakes.{is_in}

-- what the next instruction of a goroutine touches is live
pub next_live : (code : Code) (s : RegionState) (g : ℕ) → IsChecked code → AllGood code s → (frame : TacFrame)
    (callers : List TacFrame) (instr : CodeInstr) → slice_get s.plain.goroutines g ≡ Some (frame ∷ callers)
    → current code frame ≡ Some instr → may_touch s (touched frame instr.op) ≡ true
next_live code s g checked all frame callers instr at cur = go (touched frame instr.op) refl
  where
    h : (h : Holder) × (slice_get s.holders g ≡ Some h)
    h = get_some s.holders g (let a = slice_get_within s.plain.goroutines g (frame ∷ callers) at in
        let b = all.good.fine.as_many in omega (arith, a, b))

    top : Top code h.0 frame callers
    top = top_of code h.0 frame callers (subst (λ y. GoodHolder code y h.0) (ap frames_in at) (all.good.fine.each g h.0 h.1))

    go : (o : Option ℕ) → touched frame instr.op ≡ o → may_touch s o ≡ true
    go None q = refl
    go (Some o) q =
        let x = touched_home code s g h.0 frame callers instr top o checked all.good h.1 (ap frames_in at) cur q in
        ap (owner_live s) x.1 ∙ live_of s h.0 x.0 x.2

-- goroutine g is before this instruction, owes nothing, and has nothing to acknowledge
pub record IsBefore
    (code : Code) (s : RegionState) (g : ℕ) (h : Holder) (frame : TacFrame) (callers : List TacFrame) (instr : CodeInstr)
    : Type 0 where
  pub checked : IsChecked code
  pub ascends : Ascends code
  pub good : AllGood code s
  pub there : slice_get s.holders g ≡ Some h
  pub at : slice_get s.plain.goroutines g ≡ Some (frame ∷ callers)
  pub cur : current code frame ≡ Some instr
  pub none : h.duties ≡ []
  pub free : may_go h.offer ≡ true
  pub running : s.plain.ended ≡ None

module _ {code : Code} {s : RegionState} {g : ℕ} {h : Holder} {frame : TacFrame} {callers : List TacFrame}
    {instr : CodeInstr} (i : IsBefore code s g h frame callers instr) where
  abbrev pub top : Top code h frame callers
  top = progress.top code i.checked s g h frame callers instr i.good i.there i.at i.cur i.none

  -- an instruction that makes an object writes a pointer to a variable
  pub target : (to : Option ℕ) (action : Action) (from removes : List ℕ) → instr.op ≡ Do to action from removes
      → makes_object action ≡ true → HasTarget (erased_fn top.stands.fn) to
  target = progress.target code i.checked s g h frame callers instr i.good i.there i.at i.cur i.none

  -- and has a region for it
  pub region_there : makes_at instr.op ≡ true → (r : Region)
      × (making_region (function_at code frame) (top_names h.environments) instr.op ≡ Some r)
  region_there = progress.region_there code i.checked s g h frame callers instr i.good i.there i.at i.cur i.none

  -- that region is named by a class
  region_named : (r : Region) → making_region (function_at code frame) (top_names h.environments) instr.op ≡ Some r
      → (c : Class) × (class_region top.f.names c ≡ Some r)
  region_named r q =
      making_class top.stands.fn top.f.names instr.op r
      (ap (λ es. making_region (Some top.stands.fn) (top_names es) instr.op) (sym top.environments)
      ∙ ap (λ o. making_region o (top_names h.environments) instr.op) (sym top.stands.is_fn) ∙ q)

  -- and is live, with a stake of the goroutine
  pub region_staked : (r : Region) → making_region (function_at code frame) (top_names h.environments) instr.op ≡ Some r
      → HasStake s h r
  region_staked r q =
      let c = region_named r q in class_has_stake code s g h frame callers top c.0 r i.good.good.fine i.there c.1

  pub region_in_stakes : (r : ℕ)
      → making_region (function_at code frame) (top_names h.environments) instr.op ≡ Some (Numbered r)
      → is_in r h.stakes ≡ true
  region_in_stakes r q = let c = region_named (Numbered r) q in go c.0 c.1
    where
      go : (c : Class) → class_region top.f.names c ≡ Some (Numbered r) → is_in r h.stakes ≡ true
      go NoClass e = cc
      go Global e = cc
      go (Name k) e = top.staked k r e

  pub ready_now : is_ready code s h (frame ∷ callers) ≡ true
  ready_now =
      ap (λ ds. has_none ds && may_go h.offer && touches s frame (current code frame)) i.none
      ∙ ap (λ b. b && touches s frame (current code frame)) i.free
      ∙ ap (touches s frame) i.cur
      ∙ next_live code s g i.checked i.good frame callers instr i.at i.cur
