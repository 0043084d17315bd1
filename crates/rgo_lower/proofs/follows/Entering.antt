-- Entering: the steps of a frame that calls a function, or starts it as a goroutine.
use Rattle.std.proofs.Common.{◌≡◌, ℕ, ◌+◌, List, ◌∷◌, map, take, drop, reverse, Option, Some, None, refl, sym, ◌∙◌}
use Rattle.std.proofs.Common.{slice_get, subst}
use Rattle.std.specs.Prelude.{option_and_then}
use Rattle.std.proofs.lemmas.Option.{slice_get_within}
use Rattle.rgo_typed.specs.declared.types.Type.{«Type»}
use Rattle.rgo_typed.specs.Tree.{Function}
use Rattle.rgo_memory.specs.declared.values.Value.{Value}
use Rattle.rgo_machine.specs.Machines.{AtCall, AtStart, Elsewhere}
use Rattle.rgo_tac.specs.Code.{Call, Go, TacFn}
use Rattle.rgo_tac.specs.Frames.{operand_values, moved_to}
use Rattle.rgo_tac.specs.Steps as steps
use Rattle.rgo_meaning.specs.Frames as source
use Rattle.rgo_meaning.specs.Frames.{Todo, Enter, Start, last_values}
use Rattle.rgo_meaning.specs.Stands as stands
use Rattle.rgo_meaning.specs.Stands.{source_stand}
use Rattle.rgo_lower.specs.Lowered.{LoweringPoint, function_result_type, LoweringScope}
use Rattle.rgo_lower.proofs.follows.Places.{CallAt, Loop}
use Rattle.rgo_lower.proofs.follows.Grows.{some_same}
use Rattle.rgo_lower.proofs.follows.Calls.{BothFound, both_found, called_matched}
use Rattle.rgo_lower.proofs.follows.Settings.{Setting, g, frame_of, Here, Fit}
use Rattle.rgo_lower.proofs.follows.Matched.{Awaits}
use Rattle.rgo_lower.proofs.follows.Changes.{passes, gives}
use Rattle.rgo_lower.proofs.follows.Chains.{leads}
use Rattle.rgo_lower.proofs.follows.Steps.{StandsAlike, Goal, Next, instr_is, together, values_same}

module _ (c : Setting) (loops : List Loop) (scope : LoweringScope) (p : LoweringPoint) (locals : List Value) (held : List ℕ)
    (n count : ℕ) (todo : List Todo) where
  -- a frame before a call or a start
  abbrev before : Todo → source.SourceFrame
  before item = frame_of c locals held (item ∷ todo)

  -- the frame that continues
  abbrev rest : source.SourceFrame
  rest = record { locals = locals; values = drop count (map (g c) held); todo = todo }

  abbrev from : List ℕ
  from = reverse (take count held)

  abbrev arguments : List Value
  arguments = last_values count (map (g c) held)

  abbrev result_in : Option Function → Option (Option «Type»)
  result_in o = option_and_then (λ (s : Function). Some s.result_type) o

  -- ---- calls

  -- both call the function, which exists, and whose result the caller awaits
  stands_called : (o : Option Function) (k : Option TacFn) (result : Option «Type»)
      → slice_get c.code.functions n ≡ k → BothFound c.program.functions o k → result_in o ≡ Some result
      → Awaits c.program.functions c.code c.f result rest c.frame
      → StandsAlike c (stands.at_source_function AtCall o count todo (before (Enter n count)))
      (steps.at_tac_function (AtCall c.frame) n (operand_values c.frame from) k)
  stands_called None None result here found known awaits = cc
  stands_called None (Some k) result here found known awaits = absurd found
  stands_called (Some s) None result here found known awaits = absurd found
  stands_called (Some s) (Some k) result here found known awaits =
      let is : s.result_type ≡ result = some_same s.result_type result known in (
        k,
        called_matched c.program.functions c.code s k found arguments n (operand_values c.frame from)
            here (values_same c count held),
        (
          c.f,
          subst (λ z. Awaits c.program.functions c.code c.f z rest c.frame) (sym (found.result_type ∙ is)) awaits,
          c.below,
        ),
      )

  -- a frame before the call of a function that exists does nothing by itself
  never_elsewhere : (o : Option Function) (result : Option «Type») → result_in o ≡ Some result
      → stands.at_source_function AtCall o count todo (before (Enter n count)) ≡ Elsewhere → ⊥
  never_elsewhere None result known e = cc
  never_elsewhere (Some s) result known e = cc

  calls : (to : Option ℕ) (place : ℕ) (result : Option «Type») → Next c (Call to n from) place
      → function_result_type c.program.functions c.f n ≡ Some result → Awaits c.program.functions c.code c.f result rest c.frame
      → Goal c (before (Enter n count))
  calls to place result next known awaits =
      let found = both_found c.program.functions c.program.functions c.code.functions n c.lowered.functions in
      together c (before (Enter n count)) (Call to n from) place next
      (stands_called (slice_get c.program.functions n) (slice_get c.code.functions n) result refl found known awaits)
      (λ e m. absurd (never_elsewhere (slice_get c.program.functions n) result known e))

  enter_by : (h : Here c loops scope p held locals (Enter n count ∷ todo)) (result : Option (Option «Type»))
      → function_result_type c.program.functions c.f n ≡ result
      → CallAt c.program.functions c.f result n count scope p held h.todo.0 → Goal c (before (Enter n count))
  enter_by h None e i = absurd i
  enter_by h (Some (Some ty)) e i =
      let op = Call (Some p.variable) n from in
      let next = instr_is c op i.0 p h.function h.next i.1 in
      let known = slice_get_within c.f.variables p.variable ty i.2 in
      let following = leads c todo loops i.3 h.todo.2 in
      calls (Some p.variable) i.0 (Some ty) next e
      (λ v. subst (λ o. Fit c (record { locals = locals; values = v ∷ drop count (map (g c) held); todo = todo })
      (steps.resumed_at c.frame o (Some v))) (sym next)
      (gives c h count v todo known following))
  enter_by h (Some None) e i =
      let op = Call None n from in
      let next = instr_is c op i.0 p h.function h.next i.1 in
      let following = leads c todo loops i.2 h.todo.2 in
      calls None i.0 None next e
      (subst (λ o. Fit c rest (steps.resumed_at c.frame o None)) (sym next)
      (passes c h count todo following))

  pub enter_steps : Here c loops scope p held locals (Enter n count ∷ todo) → Goal c (before (Enter n count))
  enter_steps h = enter_by h (function_result_type c.program.functions c.f n) refl h.todo.1

  -- ---- starts

  stands_started : (o : Option Function) (k : Option TacFn) → slice_get c.code.functions n ≡ k
      → BothFound c.program.functions o k → Fit c rest (moved_to c.frame (c.frame.next + 1))
      → StandsAlike c (stands.at_source_function AtStart o count todo (before (Start n count)))
      (steps.at_tac_function (AtStart (moved_to c.frame (c.frame.next + 1))) n (operand_values c.frame from) k)
  stands_started None None here found fit = tt
  stands_started None (Some k) here found fit = absurd found
  stands_started (Some s) None here found fit = absurd found
  stands_started (Some s) (Some k) here found fit = (
    (c.f, fit, c.below),
    (
      k,
      called_matched c.program.functions c.code s k found arguments n (operand_values c.frame from)
          here (values_same c count held),
      tt,
    ),
  )

  pub start_steps : Here c loops scope p held locals (Start n count ∷ todo) → Goal c (before (Start n count))
  start_steps h =
      let i = h.todo.1 in
      let op = Go n from in
      let following = leads c todo loops i.3 h.todo.2 in
      let found = both_found c.program.functions c.program.functions c.code.functions n c.lowered.functions in
      let fit = passes c h count todo following in
      together c (before (Start n count)) op i.0 (instr_is c op i.0 p h.function h.next i.1)
      (stands_started (slice_get c.program.functions n) (slice_get c.code.functions n) refl found fit)
      (λ e m. (refl, (c.f, fit, c.below)))
