-- What a goroutine reads before an instruction: the objects to which it points are in live regions. What it reads is live in the
-- sense of the analysis, the checked code has a name for its region, and a named region has a stake.
use Rattle.std.proofs.Common.{◌≡◌, ℕ, true, List, ◌∷◌, Option, Some, None, refl, ap, ◌∙◌, subst, slice_get, Contains}
use Rattle.rgo_sound.specs.Memory.declared.values.Value.TheVariants as value
use Rattle.rgo_sound.specs.Tac.Flow.{reads}
use Rattle.rgo_sound.specs.Tac.Frames.{TacFrame, value_at}
use Rattle.rgo_sound.specs.Code.Checked.{IsChecked}
use Rattle.rgo_sound.specs.Code.Code.{Code, CodeInstr}
use Rattle.rgo_sound.specs.Code.Erasure.{erased_op}
use Rattle.rgo_sound.specs.Code.Names.{class_of}
use Rattle.rgo_sound.specs.RegionMachine.declared.regions.Region.{Region}
use Rattle.rgo_sound.specs.RegionMachine.Objects.{may_touch, owner_live, touched}
use Rattle.rgo_sound.specs.RegionMachine.Owed.{current}
use Rattle.rgo_sound.specs.RegionMachine.States.{Holder, RegionState, frames_in}
use Rattle.rgo_sound.proofs.pointers.Variables.{reads_home}
use Rattle.rgo_sound.proofs.offers.Offers.{class_has_stake, touched_home}
use Rattle.rgo_sound.proofs.Progress.{live_of}
use Rattle.rgo_sound.proofs.pointers.Steps.{Top, top_of}
use Rattle.rgo_sound.specs.Good.{Good}
use Rattle.rgo_sound.specs.Invariant.{GoodHolder}
use Rattle.rgo_sound.specs.NextNames.{HasStake}
use Rattle.rgo_sound.specs.Values.{FramesLead, LeadsHome}
use Rattle.rgo_core_frames.specs.Fits.{IsOfLive}

module _ (code : Code) (s : RegionState) (g : ℕ) (h : Holder) (frame : TacFrame) (callers : List TacFrame) (instr : CodeInstr)
    (checked : IsChecked code) (good : Good code s) (there : slice_get s.holders g ≡ Some h)
    (at : slice_get s.plain.goroutines g ≡ Some (frame ∷ callers)) (cur : current code frame ≡ Some instr) where
  abbrev pub top : Top code h frame callers
  top = top_of code h frame callers (subst (λ y. GoodHolder code y h) (ap frames_in at) (good.fine.each g h there))

  lead : FramesLead code s.owners (frame ∷ callers) (top.f ∷ top.fs)
  lead = subst (FramesLead code s.owners (frame ∷ callers)) top.environments
      (subst (λ y. FramesLead code s.owners y h.environments) (ap frames_in at) (good.values.frames g h there))

  -- an object to which it points is in Global, or in a live region in which it has a stake
  pub reads_staked : (v o : ℕ) → Contains (reads (erased_op instr.op)) v → value_at frame v ≡ value.Object o
      → (r : Region) × (slice_get s.owners o ≡ Some r) × HasStake s h r
  reads_staked v o c e =
      let home : LeadsHome s.owners top.f.names (class_of top.stands.fn v) (value.Object o) =
      subst (LeadsHome s.owners top.f.names (class_of top.stands.fn v)) e
      (reads_home code checked s.owners s.plain.memory good.values.memory frame callers instr cur top.f top.fs lead
      top.stands.fn top.stands.is_fn top.stands.lends v c) in (
        home.0,
        home.2,
        class_has_stake code s g h frame callers top (class_of top.stands.fn v) home.0 good.fine there home.1,
      )

  pub reads_stand : (v o : ℕ) → Contains (reads (erased_op instr.op)) v → value_at frame v ≡ value.Object o
      → IsOfLive s.regions s.owners o
  reads_stand v o c e = let x = reads_staked v o c e in (x.0, x.1, live_of s h x.0 x.2)

  -- what it touches is live
  pub touched_live : may_touch s (touched frame instr.op) ≡ true
  touched_live = go (touched frame instr.op) refl
    where
      go : (o : Option ℕ) → touched frame instr.op ≡ o → may_touch s o ≡ true
      go None q = refl
      go (Some o) q =
          let x = touched_home code s g h frame callers instr top o checked good there (ap frames_in at) cur q in
          ap (owner_live s) x.1 ∙ live_of s h x.0 x.2
