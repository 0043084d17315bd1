-- Actions: the steps of a frame that does an action, sets variables, or prints.
use Rattle.std.proofs.Common.{◌≡◌, ℕ, ◌+◌, List, [], ◌∷◌, ◌++◌, map, length, take, drop, reverse}
use Rattle.std.proofs.Common.{Option, Some, None}
use Rattle.std.proofs.Common.{slice_get, refl, sym, ap, ◌∙◌, subst, ⊎_elim, arith}
use Rattle.std.proofs.lemmas.List.{drop-map, take-map, map-append}
use Rattle.std.proofs.lemmas.Option.{slice_get_within}
use Rattle.rgo_typed.specs.declared.actions.Action.{Action}
use Rattle.rgo_typed.specs.declared.actions.Action.TheVariants.{Copy, New, Store}
use Rattle.rgo_typed.specs.declared.programs.Struct.{Struct}
use Rattle.rgo_typed.specs.declared.statements.Piece.{Piece}
use Rattle.rgo_typed.specs.declared.types.Base.{Base}
use Rattle.rgo_typed.specs.declared.types.Base.TheVariants as base
use Rattle.rgo_typed.specs.declared.types.Layer.{Layer}
use Rattle.rgo_typed.specs.declared.types.Type.{«Type»}
use Rattle.rgo_memory.specs.declared.values.Value.{Value}
use Rattle.rgo_memory.specs.declared.values.Value.TheVariants.{Nil}
use Rattle.rgo_memory.specs.Effects.{Does}
use Rattle.rgo_memory.specs.Making.{made_struct}
use Rattle.rgo_memory.specs.Memory.{Memory}
use Rattle.rgo_memory.specs.Perform.{perform}
use Rattle.rgo_memory.specs.Values.{zero_in, zero_of}
use Rattle.rgo_machine.specs.Actions.{no_type, effected, at_channel}
use Rattle.rgo_machine.specs.Lines.{printed_line}
use Rattle.rgo_machine.specs.Machines.{Moves, Elsewhere}
use Rattle.rgo_tac.specs.Code.{Do, Print}
use Rattle.rgo_tac.specs.Frames as tac
use Rattle.rgo_tac.specs.Steps.{destination_type}
use Rattle.rgo_meaning.specs.Frames as source
use Rattle.rgo_meaning.specs.Frames.{Todo, Perform, Affect, Settle, Create, Fill, Repeat, Give, Forget, Clear}
use Rattle.rgo_meaning.specs.Frames.{Write, last_values, value_below, with_local_value}
use Rattle.rgo_meaning.specs.Steps.{with_action_result, without_action_result}
use Rattle.rgo_lower.specs.Lowered.{LoweringPoint, next_point, pointer_type, zero_action_in, zero_action, LoweringScope}
use Rattle.rgo_lower.proofs.follows.Lists.{below_drop, below_take, below_append, below_le, get_map}
use Rattle.rgo_lower.proofs.follows.Places.{Place, Loop, Begins}
use Rattle.rgo_lower.proofs.follows.Grows.{same_inside, fits_grow}
use Rattle.rgo_lower.proofs.follows.Settings.{Setting, g, frame_of, Here, At, Fit}
use Rattle.rgo_lower.proofs.follows.Changes.{jumps, stays, passes, writes, gives, begins, changes}
use Rattle.rgo_lower.proofs.follows.Chains.{leads}
use Rattle.rgo_lower.proofs.follows.Steps.{ActsAlike, StandsAlike, Goal, stutter, instr_is, together, values_same}
use Rattle.rgo_lower.proofs.follows.Steps.{type_is, acts_alike, stands_alike}

-- the zero of a type is made, which is not an operation on a channel
zero_does : (layers : List Layer) (b : Base) (structs : List Struct) (ty : «Type») (m : Memory)
    → perform structs (zero_action_in layers b) ty [] m ≡ Does m (zero_in layers b)
zero_does [] base.Int structs ty m = refl
zero_does [] base.Bool structs ty m = refl
zero_does [] (base.Pointer n) structs ty m = refl
zero_does (layer ∷ layers) b structs ty m = refl

zero_stands : {F : Type 0} (layers : List Layer) (b : Base) (blank : Value) (place : ℕ) (next : Value → F)
    → at_channel (zero_action_in layers b) blank place next [] ≡ Elsewhere
zero_stands [] base.Int blank place next = refl
zero_stands [] base.Bool blank place next = refl
zero_stands [] (base.Pointer n) blank place next = refl
zero_stands (layer ∷ layers) b blank place next = refl

module _ (c : Setting) (loops : List Loop) (scope : LoweringScope) (p : LoweringPoint) (locals : List Value) where
  abbrev Now : List ℕ → List Todo → Type 0
  Now held todo = Here c loops scope p held locals todo

  abbrev Steps : List ℕ → List Todo → Type 0
  Steps held todo = Goal c (frame_of c locals held todo)

  -- ---- actions

  pub perform_steps : (held : List ℕ) (action : Action) (count : ℕ) (ty : «Type») (place : ℕ) (todo : List Todo)
      → Now held (Perform action count ty place ∷ todo) → Steps held (Perform action count ty place ∷ todo)
  perform_steps held action count ty place todo h =
      let i = h.todo.1 in
      let from = reverse (take count held) in
      let frame = frame_of c locals held (Perform action count ty place ∷ todo) in
      let op = Do (Some p.variable) action from in
      let kind = type_is c p.variable ty h.function i.0.variable in
      let known = slice_get_within c.f.variables p.variable ty i.0.variable in
      let rest = leads c todo loops i.1 h.todo.2 in
      let vs = last_values count (map (g c) held) in
      let next = λ (v : Value). with_action_result frame count todo v in
      let fit : (v : Value) → Fit c (next v) (tac.frame_after_instr c.frame (Some p.variable) v) =
      λ v. gives c h count v todo known rest in
      together c frame op place (instr_is c op place p h.function h.next i.0.instr)
      (stands_alike c action ty vs next (Some p.variable) from place kind (values_same c count held) fit)
      (λ e m. acts_alike c action ty vs next (Some p.variable) from place kind (values_same c count held) fit m)

  pub affect_steps : (held : List ℕ) (action : Action) (count place : ℕ) (todo : List Todo)
      → Now held (Affect action count place ∷ todo) → Steps held (Affect action count place ∷ todo)
  affect_steps held action count place todo h =
      let i = h.todo.1 in
      let from = reverse (take count held) in
      let frame = frame_of c locals held (Affect action count place ∷ todo) in
      let op = Do None action from in
      let rest = leads c todo loops i.1 h.todo.2 in
      let vs = last_values count (map (g c) held) in
      let next = λ (v : Value). without_action_result frame count todo v in
      let fit : (v : Value) → Fit c (next v) (tac.frame_after_instr c.frame None v) =
      λ v. passes c h count todo rest in
      together c frame op place (instr_is c op place p h.function h.next i.0)
      (stands_alike c action no_type vs next None from place refl (values_same c count held) fit)
      (λ e m. acts_alike c action no_type vs next None from place refl (values_same c count held) fit m)

  pub settle_steps : (v : ℕ) (held : List ℕ) (todo : List Todo) → Now (v ∷ held) (Settle ∷ todo)
      → Steps (v ∷ held) (Settle ∷ todo)
  settle_steps v held todo h =
      let i = h.todo.1 in
      let to = i.0 in
      let q = i.6 in
      let frame = frame_of c locals (v ∷ held) (Settle ∷ todo) in
      let op = Do (Some to) Copy (v ∷ []) in
      let rest = leads c todo loops i.10 h.todo.2 in
      together c frame op i.1 (instr_is c op i.1 p h.function h.next i.2) tt (λ e m. (
        refl,
        (
          c.f,
          writes c h to (g c v) q held (map (g c) held)
              todo i.3 i.4 i.5 i.7 i.9 i.8 refl rest,
          c.below,
        ),
      ))

  -- ---- objects

  -- making an object never traps, so the places need not be the same
  made_alike : (next : Value → source.SourceFrame) (next2 : Value → tac.TacFrame) (place : ℕ) (m : Memory)
      → ((v : Value) → Fit c (next v) (next2 v)) → (s : Option Struct)
      → ActsAlike c (effected next 0 (made_struct s m)) (effected next2 place (made_struct s m))
  made_alike next next2 place m fit None = (refl, (c.f, fit _, c.below))
  made_alike next next2 place m fit (Some s) = (refl, (c.f, fit _, c.below))

  pub create_steps : (held : List ℕ) (struct : ℕ) (todo : List Todo) → Now held (Create struct ∷ todo)
      → Steps held (Create struct ∷ todo)
  create_steps held struct todo h =
      let i = h.todo.1 in
      let frame = frame_of c locals held (Create struct ∷ todo) in
      let op = Do (Some p.variable) (New struct) [] in
      let known = slice_get_within c.f.variables p.variable (pointer_type struct) i.1.variable in
      let rest = leads c todo loops i.2 h.todo.2 in
      let next = λ (v : Value). with_action_result frame 0 todo v in
      let next2 = λ (v : Value). tac.frame_after_instr c.frame (Some p.variable) v in
      let fit : (v : Value) → Fit c (next v) (next2 v) = λ v. gives c h 0 v todo known rest in
      let made = λ (m : Memory) (ss : List Struct). made_struct (slice_get ss struct) m in
      together c frame op i.0 (instr_is c op i.0 p h.function h.next i.1.instr) tt (λ e m.
      subst (λ ss. ActsAlike c (effected next 0 (made m c.program.structs)) (effected next2 i.0 (made m ss)))
      (sym c.lowered.structs) (made_alike next next2 i.0 m fit (slice_get c.program.structs struct)))

  pub filled_steps : (count place object : ℕ) (below : List ℕ) (todo : List Todo)
      → Now (object ∷ below) (Fill count [] place ∷ todo) → Steps (object ∷ below) (Fill count [] place ∷ todo)
  filled_steps count place object below todo h =
      let i = h.todo.1 in
      let q = i.0 in
      let v = i.2 in
      let frame = frame_of c locals (object ∷ below) (Fill count [] place ∷ todo) in
      let kept = object ∷ drop count below in
      let values = g c object ∷ drop count (map (g c) below) in
      let rest = leads c todo loops i.3 h.todo.2 in
      stutter c frame (record { locals = locals; values = values; todo = todo }) refl (λ m. refl)
      (stays c h loops scope q kept values todo i.1 (same_inside scope)
      (fits_grow c.f scope p.variable q.variable (omega (arith, v)) h.fits) h.loop
      (below_le p.variable q.variable kept (omega (arith, v)) (h.below.0, below_drop p.variable count below h.below.1))
      (λ j. g c object ∷ sym (drop-map (g c) count below) j) rest)
      (omega arith)

  pub fill_steps : (count k : ℕ) (fields : List ℕ) (place object : ℕ) (below : List ℕ) (todo : List Todo)
      → Now (object ∷ below) (Fill count (k ∷ fields) place ∷ todo)
      → Steps (object ∷ below) (Fill count (k ∷ fields) place ∷ todo)
  fill_steps count k fields place object below todo h =
      let i = h.todo.1 in
      let d = i.1.0 in
      let held = object ∷ below in
      let todo2 = Fill count fields place ∷ todo in
      let frame = frame_of c locals held (Fill count (k ∷ fields) place ∷ todo) in
      let next = λ (v : Value). without_action_result frame 0 todo2 v in
      let from = object ∷ d ∷ [] in
      let op = Do None (Store k) from in
      let stored = value_below frame.values (length (k ∷ fields)) in
      let same : g c d ≡ stored = sym (get_map (g c) below (length fields) d Nil i.1.1) in
      let fit : (v : Value) → Fit c (next v) (tac.frame_after_instr c.frame None v) =
      λ v. jumps c h (c.frame.next + 1) loops scope (next_point p) held (map (g c) held) todo2 (ap (λ j. j + 1) h.next)
      (same_inside scope) h.fits h.loop h.below refl (h.todo.0, (i.0, i.1.3, i.2, i.3), h.todo.2) in
      together c frame op place (instr_is c op place p h.function h.next i.1.2) tt
      (λ e m. acts_alike c (Store k) no_type (g c object ∷ stored ∷ []) next None from place refl
      (λ j. g c object ∷ same j ∷ []) fit m)

  -- ---- values and local variables

  pub repeat_steps : (held : List ℕ) (n : ℕ) (todo : List Todo) → Now held (Repeat n ∷ todo)
      → Steps held (Repeat n ∷ todo)
  repeat_steps held n todo h =
      let frame = frame_of c locals held (Repeat n ∷ todo) in
      let kept = take n held ++ held in
      let values = take n (map (g c) held) ++ map (g c) held in
      let rest = leads c todo loops h.todo.1 h.todo.2 in
      stutter c frame (record { locals = locals; values = values; todo = todo }) refl (λ m. refl)
      (stays c h loops scope p kept values todo refl (same_inside scope) h.fits h.loop
      (below_append p.variable (take n held) held (below_take p.variable n held h.below) h.below)
      (map-append (g c) (take n held) held ∙ ap (λ z. z ++ map (g c) held) (sym (take-map (g c) n held))) rest)
      (omega arith)

  pub forget_steps : (d : ℕ) (held : List ℕ) (todo : List Todo) → Now (d ∷ held) (Forget ∷ todo)
      → Steps (d ∷ held) (Forget ∷ todo)
  forget_steps d held todo h =
      let frame = frame_of c locals (d ∷ held) (Forget ∷ todo) in
      stutter c frame (frame_of c locals held todo) refl (λ m. refl)
      (stays c h loops scope p held (map (g c) held) todo
      refl (same_inside scope) h.fits h.loop h.below.1 refl
      (leads c todo loops h.todo.1 h.todo.2))
      (omega arith)

  begun : (held : List ℕ) (n : ℕ) (v : Value) (before todo : List Todo) (b : Place) → Now held before
      → Begins c.program.functions c.f n scope p b → At c todo loops b.scope b.point b.held
      → Fit c (record { locals = with_local_value locals n v; values = []; todo = todo })
      (tac.frame_after_instr c.frame (Some p.variable) v)
  begun held n v before todo b h begin rest =
      begins c h n v todo begin.known
      begin.fresh
      (leads c todo loops begin.is rest)

  pub give_steps : (d n : ℕ) (todo : List Todo) → Now (d ∷ []) (Give n ∷ todo) → Steps (d ∷ []) (Give n ∷ todo)
  give_steps d n todo h =
      let i = h.todo.1 in
      let x = i.0 in
      let frame = frame_of c locals (d ∷ []) (Give n ∷ todo) in
      let op = Do (Some x) Copy (d ∷ []) in
      let next : source.SourceFrame = record { locals = with_local_value locals n (g c d); values = []; todo = todo } in
      let fit : Fit c next (tac.frame_after_instr c.frame (Some x) (g c d)) =
      ⊎_elim
      (λ new. subst (λ z. Fit c next (tac.frame_after_instr c.frame (Some z) (g c d))) (sym new.0)
      (begun (d ∷ []) n (g c d) (Give n ∷ todo) todo h.todo.0 h new.1 h.todo.2))
      (λ old. changes c h n x (g c d) todo old.known
      (leads c todo loops old.is h.todo.2)) i.3 in
      together c frame op i.1 (instr_is c op i.1 p h.function h.next i.2) tt (λ e m. (refl, (c.f, fit, c.below)))

  pub clear_steps : (n : ℕ) (ty : «Type») (todo : List Todo) → Now [] (Clear n ty ∷ todo)
      → Steps [] (Clear n ty ∷ todo)
  clear_steps n ty todo h =
      let i = h.todo.1 in
      let frame = frame_of c locals [] (Clear n ty ∷ todo) in
      let op = Do (Some p.variable) (zero_action ty) [] in
      let kind = destination_type c.code c.frame (Some p.variable) in
      let next : source.SourceFrame = record { locals = with_local_value locals n (zero_of ty); values = []; todo = todo } in
      let going = λ (v : Value). tac.frame_after_instr c.frame (Some p.variable) v in
      together c frame op i.0 (instr_is c op i.0 p h.function h.next i.1.instr)
      (subst (λ s. StandsAlike c Elsewhere s) (sym (zero_stands ty.layers ty.base (zero_of kind) i.0 going)) tt)
      (λ e m. subst (λ effect. ActsAlike c (Moves m next) (effected going i.0 effect))
      (sym (zero_does ty.layers ty.base c.code.structs kind m))
      (refl, (c.f, begun [] n (zero_of ty) (Clear n ty ∷ todo) todo h.todo.0 h i.2 h.todo.2, c.below)))

  -- ---- prints

  pub write_steps : (held : List ℕ) (pieces : List Piece) (count : ℕ) (todo : List Todo)
      → Now held (Write pieces count ∷ todo) → Steps held (Write pieces count ∷ todo)
  write_steps held pieces count todo h =
      let i = h.todo.1 in
      let frame = frame_of c locals held (Write pieces count ∷ todo) in
      let op = Print pieces (reverse (take count held)) in
      let rest = leads c todo loops i.2 h.todo.2 in
      together c frame op i.0 (instr_is c op i.0 p h.function h.next i.1) tt (λ e m. (
        ap (printed_line pieces) (values_same c count held),
        (
          c.f,
          passes c h count todo rest,
          c.below,
        ),
      ))
