-- Steps: what is to be shown of a frame of the source and its code, and the ways to show it. The source either moves alone (`stutter`), or
-- both do the same (`together`).
use Rattle.std.proofs.Common.{◌≡◌, ℕ, ◌<◌, List, [], ◌∷◌, map, take, reverse, Option, Some, refl, sym, ap, ◌∙◌}
use Rattle.std.proofs.Common.{subst, inl, inr}
use Rattle.std.specs.Prelude.{◌⊎◌, slice_get, option_and_then}
use Rattle.std.proofs.lemmas.List.{take-map}
use Rattle.std.proofs.lemmas.Option.{get_or_from_slice_get}
use Rattle.rgo_typed.specs.declared.actions.Action.{Action}
use Rattle.rgo_typed.specs.declared.actions.Action.TheVariants.{Recv, Send, Close}
use Rattle.rgo_typed.specs.declared.types.Type.{«Type»}
use Rattle.rgo_memory.specs.declared.values.Value.{Value}
use Rattle.rgo_memory.specs.declared.values.Value.TheVariants.{Nil}
use Rattle.rgo_memory.specs.Effects.{Effect, Does, Traps}
use Rattle.rgo_memory.specs.Memory.{Memory}
use Rattle.rgo_memory.specs.Perform.{perform}
use Rattle.rgo_memory.specs.Values.{zero_of}
use Rattle.rgo_machine.specs.Actions.{no_type, effected, at_channel}
use Rattle.rgo_machine.specs.Machines.{Machine, Act, Moves, Stand, Elsewhere}
use Rattle.rgo_simulation.specs.Follows.{ActAlike, StandAlike, Stutters, Together}
use Rattle.rgo_tac.specs.Code.{Op, Do, TacFn}
use Rattle.rgo_tac.specs.Frames as tac
use Rattle.rgo_tac.specs.Frames.{operand_values}
use Rattle.rgo_tac.specs.Steps as steps
use Rattle.rgo_tac.specs.Steps.{function_of_frame, instr_of, variable_type, destination_type}
use Rattle.rgo_tac.specs.Tac as low
use Rattle.rgo_meaning.specs.Frames as source
use Rattle.rgo_meaning.specs.Frames.{Todo, last_values}
use Rattle.rgo_meaning.specs.Source as high
use Rattle.rgo_meaning.specs.Stands.{source_stand}
use Rattle.rgo_meaning.specs.Steps.{source_act}
use Rattle.rgo_lower.specs.Lowered.{LoweringPoint, OpAt, LoweringScope}
use Rattle.rgo_lower.proofs.follows.Lists.{map-reverse}
use Rattle.rgo_lower.proofs.follows.Places.{Loop}
use Rattle.rgo_lower.proofs.follows.Grows.{same_inside}
use Rattle.rgo_lower.proofs.follows.Size.{size, todo_size}
use Rattle.rgo_lower.proofs.follows.Settings.{Setting, g, frame_of, Here, At, Fit, Goroutines}
use Rattle.rgo_lower.proofs.follows.Changes.{stays}

-- ---- what two frames do by the same words

module _ {F G : Type 0} (high : Machine F) (low : Machine G) (Matched : List F → List G → Type 0) (callers : List F)
    (lows : List G) where
  pub effects_alike : (next : Value → F) (next2 : Value → G) (place : ℕ) (e : Effect)
      → ((v : Value) → Matched (next v ∷ callers) (next2 v ∷ lows))
      → ActAlike high low Matched callers lows (effected next place e) (effected next2 place e)
  effects_alike next next2 place (Does m v) k = (refl, k v)
  effects_alike next next2 place (Traps trap) k = (refl, refl)

  pub channels_alike : (action : Action) (blank : Value) (place : ℕ) (vs : List Value) (next : Value → F)
      (next2 : Value → G) → ((v : Value) → Matched (next v ∷ callers) (next2 v ∷ lows))
      → StandAlike high low Matched callers lows (at_channel action blank place next vs)
      (at_channel action blank place next2 vs)
  channels_alike Recv blank place [] next next2 k = tt
  channels_alike Recv blank place (c ∷ []) next next2 k = (refl, refl, k)
  channels_alike Recv blank place (c ∷ d ∷ vs) next next2 k = tt
  channels_alike Send blank place [] next next2 k = tt
  channels_alike Send blank place (c ∷ []) next next2 k = tt
  channels_alike Send blank place (c ∷ v ∷ []) next next2 k = (refl, refl, refl, k Nil)
  channels_alike Send blank place (c ∷ v ∷ w ∷ vs) next next2 k = tt
  channels_alike Close blank place [] next next2 k = tt
  channels_alike Close blank place (c ∷ []) next next2 k = (refl, refl, k Nil)
  channels_alike Close blank place (c ∷ d ∷ vs) next next2 k = tt
  channels_alike _ blank place vs next next2 k = tt

-- ---- what is to be shown of a frame

module _ (c : Setting) where
  abbrev pub ActsAlike : Act source.SourceFrame → Act tac.TacFrame → Type 0
  ActsAlike a b = ActAlike (high.source c.program) (low.tac c.code) (Goroutines c) c.callers c.lows a b

  abbrev pub StandsAlike : Stand source.SourceFrame → Stand tac.TacFrame → Type 0
  StandsAlike s t = StandAlike (high.source c.program) (low.tac c.code) (Goroutines c) c.callers c.lows s t

  -- the source moves alone, or both do the same
  abbrev pub Goal : source.SourceFrame → Type 0
  Goal frame =
      Stutters (high.source c.program) (low.tac c.code) (Goroutines c) c.callers c.lows size frame c.frame
      ⊎ Together (high.source c.program) (low.tac c.code) (Goroutines c) c.callers c.lows frame c.frame

  -- the source moves alone
  pub stutter : (frame next : source.SourceFrame) → source_stand c.program frame ≡ Elsewhere
      → ((m : Memory) → source_act c.program m frame ≡ Moves m next) → Fit c next c.frame → size next < size frame
      → Goal frame
  stutter frame next elsewhere moves fit smaller =
      inl (record {
        next = next;
        elsewhere = elsewhere;
        moves = moves;
        matched = (c.f, fit, c.below);
        smaller = smaller;
      })

  -- the code's next instruction is known
  abbrev pub Next : Op → (place : ℕ) → Type 0
  Next op place = instr_of c.code c.frame ≡ Some (record { op = op; place = place })

  pub instr_is : (op : Op) (place : ℕ) (p : LoweringPoint) → function_of_frame c.code c.frame ≡ Some c.f → c.frame.next ≡ p.instr
      → OpAt c.f p.instr op place → Next op place
  instr_is op place p function next at =
      ap (option_and_then (λ (h : TacFn). slice_get h.body c.frame.next)) function ∙ ap (slice_get c.f.body) next ∙ at

  -- both do the same, the code by its next instruction
  pub together : (frame : source.SourceFrame) (op : Op) (place : ℕ) → Next op place
      → StandsAlike (source_stand c.program frame) (steps.stand_before_op c.code c.frame op place)
      → (source_stand c.program frame ≡ Elsewhere → (m : Memory)
      → ActsAlike (source_act c.program m frame) (steps.act_of_op c.code m c.frame op place))
      → Goal frame
  together frame op place is stands acts = inr (record {
    stands = subst (λ i. StandsAlike (source_stand c.program frame) (steps.stand_at_instr c.code c.frame i)) (sym is) stands;
    acts = λ elsewhere m.
        subst (λ i. ActsAlike (source_act c.program m frame) (steps.done_at c.code m c.frame i)) (sym is) (acts elsewhere m);
  })

  -- ---- actions

  -- the values of the variables of an action
  pub values_same : (count : ℕ) (held : List ℕ)
      → operand_values c.frame (reverse (take count held)) ≡ last_values count (map (g c) held)
  values_same count held = map-reverse (g c) (take count held) ∙ ap reverse (sym (take-map (g c) count held))

  pub type_is : (d : ℕ) (ty : «Type») → function_of_frame c.code c.frame ≡ Some c.f → slice_get c.f.variables d ≡ Some ty
      → destination_type c.code c.frame (Some d) ≡ ty
  type_is d ty function known =
      ap (λ o. variable_type o d) function ∙ get_or_from_slice_get c.f.variables d ty no_type known

  -- both do an action on the same values
  pub acts_alike : (action : Action) (ty : «Type») (vs : List Value) (next : Value → source.SourceFrame) (to : Option ℕ)
      (from : List ℕ) (place : ℕ) → destination_type c.code c.frame to ≡ ty → operand_values c.frame from ≡ vs
      → ((v : Value) → Fit c (next v) (tac.frame_after_instr c.frame to v)) → (m : Memory)
      → ActsAlike (effected next place (perform c.program.structs action ty vs m))
      (steps.act_of_op c.code m c.frame (Do to action from) place)
  acts_alike action ty vs next to from place kind values fit m =
      let effect = perform c.program.structs action ty vs m in
      subst (λ e. ActsAlike (effected next place effect) (effected (tac.frame_after_instr c.frame to) place e))
      (λ i. perform (sym c.lowered.structs i) action (sym kind i) (sym values i) m)
      (effects_alike (high.source c.program) (low.tac c.code) (Goroutines c) c.callers c.lows next
      (tac.frame_after_instr c.frame to) place effect (λ v. (c.f, fit v, c.below)))

  -- both are before an action on the same values
  pub stands_alike : (action : Action) (ty : «Type») (vs : List Value) (next : Value → source.SourceFrame) (to : Option ℕ)
      (from : List ℕ) (place : ℕ) → destination_type c.code c.frame to ≡ ty → operand_values c.frame from ≡ vs
      → ((v : Value) → Fit c (next v) (tac.frame_after_instr c.frame to v))
      → StandsAlike (at_channel action (zero_of ty) place next vs)
      (steps.stand_before_op c.code c.frame (Do to action from) place)
  stands_alike action ty vs next to from place kind values fit =
      let before = at_channel action (zero_of ty) place next vs in
      let next2 = tac.frame_after_instr c.frame to in
      subst (λ t. StandsAlike before (at_channel action (zero_of t) place next2 (operand_values c.frame from))) (sym kind)
      (subst (λ us. StandsAlike before (at_channel action (zero_of ty) place next2 us)) (sym values)
      (channels_alike (high.source c.program) (low.tac c.code) (Goroutines c) c.callers c.lows action (zero_of ty) place
      vs next next2 (λ v. (c.f, fit v, c.below))))

-- the source continues alone, with other things to do at the same point of the code, and the same values
pub goes_on : (c : Setting) {loops : List Loop} {scope : LoweringScope} {p : LoweringPoint} {held : List ℕ} {locals : List Value}
    {todo : List Todo} → Here c loops scope p held locals todo → (todo2 : List Todo)
    → source_stand c.program (frame_of c locals held todo) ≡ Elsewhere
    → ((m : Memory) → source_act c.program m (frame_of c locals held todo) ≡ Moves m (frame_of c locals held todo2))
    → todo_size todo2 < todo_size todo → At c todo2 loops scope p held → Goal c (frame_of c locals held todo)
goes_on c {loops} {scope} {p} {held} {locals} {todo} h todo2 elsewhere moves smaller at =
    stutter c (frame_of c locals held todo) (frame_of c locals held todo2) elsewhere moves
    (stays c h loops scope p held (map (g c) held) todo2 refl (same_inside scope) h.fits h.loop h.below refl at)
    smaller
