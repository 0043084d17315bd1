-- Branches: the steps of a frame that decides by a condition, ends a block, or goes through a loop.
use Rattle.std.proofs.Common.{ℕ, ◌+◌, Bool, true, false, List, [], ◌∷◌, Option, Some, None, refl, ap, arith}
use Rattle.std.proofs.Common.{subst}
use Rattle.std.specs.Prelude.{if◌then◌else◌}
use Rattle.rgo_typed.specs.Tree.{Term, Stmts, Break, Continue}
use Rattle.rgo_memory.specs.declared.values.Value.{Value}
use Rattle.rgo_machine.specs.Actions.{is_true}
use Rattle.rgo_tac.specs.Code.{Jump, Branch}
use Rattle.rgo_tac.specs.Frames.{moved_to}
use Rattle.rgo_meaning.specs.Frames.{Todo, Evaluate, Execute, Sequence, When, Choose, Close, Onward, Turn, Test}
use Rattle.rgo_meaning.specs.Frames.{Again}
use Rattle.rgo_meaning.specs.Steps.{when, chosen, tested}
use Rattle.rgo_meaning.specs.Todos.{after_break, after_continue}
use Rattle.rgo_lower.specs.Lowered.{LoweringPoint, next_point, LoweringScope}
use Rattle.rgo_lower.proofs.follows.Places.{place_of, BodyAt, Loop, targets_of, loop_to}
use Rattle.rgo_lower.proofs.follows.Grows.{same_inside, fits_grow, fits_inside, term_grows, stmts_grow, stmts_scopes}
use Rattle.rgo_lower.proofs.follows.Grows.{variable_le}
use Rattle.rgo_lower.proofs.follows.Settings.{Setting, g, frame_of, Here, Goroutines}
use Rattle.rgo_lower.proofs.follows.Changes.{stays, jumped}
use Rattle.rgo_lower.proofs.follows.Chains.{leads, breaks, continues}
use Rattle.rgo_lower.proofs.follows.Steps.{Goal, stutter, instr_is, together}

module _ (c : Setting) (loops : List Loop) (scope : LoweringScope) (p : LoweringPoint) (locals : List Value) where
  abbrev Now : List ℕ → List Todo → Type 0
  Now held todo = Here c loops scope p held locals todo

  abbrev Steps : List ℕ → List Todo → Type 0
  Steps held todo = Goal c (frame_of c locals held todo)

  -- the goroutines, after the source has other things to do and the code has jumped
  abbrev After : List Todo → ℕ → Type 0
  After todo i = Goroutines c (frame_of c locals [] todo ∷ c.callers) (moved_to c.frame i ∷ c.lows)

  -- ---- conditions

  pub when_steps : (d : ℕ) (body : Stmts) (todo : List Todo) → Now (d ∷ []) (When body ∷ todo)
      → Steps (d ∷ []) (When body ∷ todo)
  when_steps d body todo h =
      let i = h.todo.1 in
      let op = Branch d (p.instr + 1) i.2.instr in
      together c _ op i.0 (instr_is c op i.0 p h.function h.next i.3) tt (λ e m. (refl, next (is_true (g c d))))
    where
      next : (b : Bool) → After (when body todo b) (if b then p.instr + 1 else h.todo.1.2.instr)
      next true =
          let i = h.todo.1 in
          let q = i.2 in
          let rest = leads c todo loops i.5 h.todo.2 in
          let inside = stmts_scopes c.program.functions c.f body (targets_of loops) scope (next_point p) i.1 q i.4 in
          jumped c h (p.instr + 1) loops scope (next_point p) (Sequence body ∷ Close ∷ todo) refl (same_inside scope) h.fits
          h.loop (place_of i.1 q [], (i.1, q, i.4, refl), (place_of scope q [], (scope, inside, h.loop, refl), rest))
      next false =
          let i = h.todo.1 in
          let q = i.2 in
          let rest = leads c todo loops i.5 h.todo.2 in
          let grows = stmts_grow c.program.functions c.f body (targets_of loops) scope (next_point p) i.1 q i.4 in
          jumped c h q.instr loops scope q todo refl (same_inside scope)
          (fits_grow c.f scope p.variable q.variable grows h.fits) h.loop rest

  pub choose_steps : (d : ℕ) (body other : Stmts) (todo : List Todo) → Now (d ∷ []) (Choose body other ∷ todo)
      → Steps (d ∷ []) (Choose body other ∷ todo)
  choose_steps d body other todo h =
      let i = h.todo.1 in
      let op = Branch d (p.instr + 1) (i.3.instr + 1) in
      together c _ op i.0 (instr_is c op i.0 p h.function h.next i.5) tt (λ e m. (refl, next (is_true (g c d))))
    where
      next : (b : Bool) → After (chosen body other todo b) (if b then p.instr + 1 else h.todo.1.3.instr + 1)
      next true =
          let i = h.todo.1 in
          let last = i.3 in
          let q = i.4 in
          let rest = leads c todo loops i.9 h.todo.2 in
          let grows = stmts_grow c.program.functions c.f body (targets_of loops) scope (next_point p) i.1 last i.6 in
          let grows2 = stmts_grow c.program.functions c.f other (targets_of loops) scope (next_point last) i.2 q i.8 in
          let inside = stmts_scopes c.program.functions c.f body (targets_of loops) scope (next_point p) i.1 last i.6 in
          let fits = fits_grow c.f scope p.variable q.variable (omega (arith, grows, grows2)) h.fits in
          jumped c h (p.instr + 1) loops scope (next_point p) (Sequence body ∷ Onward ∷ todo) refl (same_inside scope) h.fits
          h.loop (
            place_of i.1 last [],
            (i.1, last, i.6, refl),
            (place_of scope q [], (scope, i.0, q, i.7, inside, h.loop, fits, refl), rest),
          )
      next false =
          let i = h.todo.1 in
          let last = i.3 in
          let q = i.4 in
          let rest = leads c todo loops i.9 h.todo.2 in
          let grows = stmts_grow c.program.functions c.f body (targets_of loops) scope (next_point p) i.1 last i.6 in
          let inside = stmts_scopes c.program.functions c.f other (targets_of loops) scope (next_point last) i.2 q i.8 in
          jumped c h (last.instr + 1) loops scope (next_point last) (Sequence other ∷ Close ∷ todo) refl
          (same_inside scope) (fits_grow c.f scope p.variable last.variable grows h.fits) h.loop
          (place_of i.2 q [], (i.2, q, i.8, refl), (place_of scope q [], (scope, inside, h.loop, refl), rest))

  -- ---- the ends of blocks

  pub close_steps : (todo : List Todo) → Now [] (Close ∷ todo) → Steps [] (Close ∷ todo)
  close_steps todo h =
      let i = h.todo.1 in
      let frame = frame_of c locals [] (Close ∷ todo) in
      stutter c frame (frame_of c locals [] todo) refl (λ m. refl)
      (stays c h loops i.0 p [] [] todo refl i.1
      (fits_inside c.f i.0 scope p.variable i.1 h.fits) i.2 tt refl
      (leads c todo loops i.3 h.todo.2))
      (omega arith)

  pub onward_steps : (todo : List Todo) → Now [] (Onward ∷ todo) → Steps [] (Onward ∷ todo)
  onward_steps todo h =
      let i = h.todo.1 in
      let q = i.2 in
      let rest = leads c todo loops i.7 h.todo.2 in
      together c _ (Jump q.instr) i.1 (instr_is c (Jump q.instr) i.1 p h.function h.next i.3) tt (λ e m. (
        refl,
        jumped c h q.instr loops i.0 q todo refl i.4 i.6 i.5 rest,
      ))

  -- ---- loops

  pub turn_steps : (test : Option Term) (body post : Stmts) (todo : List Todo) → Now [] (Turn test body post ∷ todo)
      → Steps [] (Turn test body post ∷ todo)
  turn_steps None body post todo h =
      let i = h.todo.1 in
      let next = i.0 in
      let q = i.1 in
      let at = i.3 in
      let mid = at.0 in
      let l = loop_to scope q next in
      let frame = frame_of c locals [] (Turn None body post ∷ todo) in
      let rest = leads c todo loops i.4 h.todo.2 in
      let grows = stmts_grow c.program.functions c.f body (targets_of (l ∷ loops)) scope mid at.2 next at.5 in
      let start = variable_le p mid at.4 in
      stutter c frame (frame_of c locals [] (Sequence body ∷ Again None body post ∷ todo)) refl (λ m. refl)
      (stays c h (l ∷ loops) scope mid [] []
      (Sequence body ∷ Again None body post ∷ todo) (ap (λ (z : LoweringPoint). z.instr) at.4) (same_inside scope)
      (fits_grow c.f scope p.variable mid.variable start h.fits) (same_inside scope) tt refl (
        place_of at.2 next [],
        (at.2, next, at.5, refl),
        (
          place_of scope q [],
          (p, q, i.2, at, h.fits, omega (arith, grows, start), h.loop, refl, refl, refl),
          rest,
        ),
      ))
      (omega arith)
  turn_steps (Some test) body post todo h =
      let i = h.todo.1 in
      let next = i.0 in
      let q = i.1 in
      let at = i.3 in
      let t = at.4 in
      let mid = t.1 in
      let frame = frame_of c locals [] (Turn (Some test) body post ∷ todo) in
      let rest = leads c todo loops i.4 h.todo.2 in
      let grows = term_grows c.program.functions c.f scope test p t.0 mid t.2 in
      let body_at = subst (λ z. BodyAt c.program.functions c.f loops scope (Some test) body post i.2 p z next q) t.4
      (at.1, at.2, at.3, at.4, at.5, at.6, at.7, at.8) in
      stutter c frame (frame_of c locals [] (Evaluate test ∷ Test (Some test) body post ∷ todo)) refl (λ m. refl)
      (stays c h loops scope p [] []
      (Evaluate test ∷ Test (Some test) body post ∷ todo) refl (same_inside scope) h.fits h.loop tt refl (
        place_of scope mid (t.0 ∷ []),
        (t.0, mid, t.2, refl),
        (place_of scope q [], (p, next, q, i.2, body_at, h.fits, grows, t.3, refl), rest),
      ))
      (omega arith)

  pub test_steps : (d : ℕ) (test : Option Term) (body post : Stmts) (todo : List Todo)
      → Now (d ∷ []) (Test test body post ∷ todo) → Steps (d ∷ []) (Test test body post ∷ todo)
  test_steps d test body post todo h =
      let i = h.todo.1 in
      let op = Branch d (p.instr + 1) i.2.instr in
      together c _ op i.3 (instr_is c op i.3 p h.function h.next i.7) tt (λ e m. (refl, onward (is_true (g c d))))
    where
      onward : (b : Bool) → After (tested test body post todo b) (if b then p.instr + 1 else h.todo.1.2.instr)
      onward true =
          let i = h.todo.1 in
          let head = i.0 in
          let next = i.1 in
          let q = i.2 in
          let at = i.4 in
          let l = loop_to scope q next in
          let rest = leads c todo loops i.8 h.todo.2 in
          let inner = targets_of (l ∷ loops) in
          let grows = stmts_grow c.program.functions c.f body inner scope (next_point p) at.1 next at.4 in
          jumped c h (p.instr + 1) (l ∷ loops) scope (next_point p) (Sequence body ∷ Again test body post ∷ todo) refl
          (same_inside scope) h.fits (same_inside scope) (
            place_of at.1 next [],
            (at.1, next, at.4, refl),
            (
              place_of scope q [],
              (
                head,
                q,
                i.3,
                (next_point p, at.0, at.1, at.2, at.3, at.4, at.5, at.6, at.7),
                i.5,
                omega (arith, grows, i.6),
                h.loop,
                refl,
                refl,
                refl,
              ),
              rest,
            ),
          )
      onward false =
          let i = h.todo.1 in
          let next = i.1 in
          let q = i.2 in
          let at = i.4 in
          let l = loop_to scope q next in
          let rest = leads c todo loops i.8 h.todo.2 in
          let inner = targets_of (l ∷ loops) in
          let grows = stmts_grow c.program.functions c.f body inner scope (next_point p) at.1 next at.4 in
          let grows2 = stmts_grow c.program.functions c.f post (targets_of loops) scope next at.2 at.0 at.5 in
          let end = variable_le (next_point at.0) q at.7 in
          let fits = fits_grow c.f scope p.variable q.variable (omega (arith, grows, grows2, end)) h.fits in
          jumped c h q.instr loops scope q todo refl (same_inside scope) fits h.loop rest

-- the loop is the innermost one
module _ (c : Setting) (l : Loop) (loops : List Loop) (scope : LoweringScope) (p : LoweringPoint) (locals : List Value)
    (todo : List Todo) where
  -- after the body
  pub again_steps : (test : Option Term) (body post : Stmts)
      → Here c (l ∷ loops) scope p [] locals (Again test body post ∷ todo)
      → Goal c (frame_of c locals [] (Again test body post ∷ todo))
  again_steps test body post h =
      let i = h.todo.1 in
      let head = i.0 in
      let q = i.1 in
      let at = i.3 in
      let last = at.1 in
      let frame = frame_of c locals [] (Again test body post ∷ todo) in
      let rest = leads c todo loops i.9 h.todo.2 in
      let inside = stmts_scopes c.program.functions c.f post (targets_of loops) l.scope p at.3 last at.6 in
      stutter c frame (frame_of c locals [] (Sequence post ∷ Onward ∷ Turn test body post ∷ todo)) refl (λ m. refl)
      (stays c h loops l.scope p [] []
      (Sequence post ∷ Onward ∷ Turn test body post ∷ todo) refl h.loop
      (fits_grow c.f l.scope head.variable p.variable i.5 i.4) i.6 tt refl (
        place_of at.3 last [],
        (at.3, last, at.6, refl),
        (
          place_of l.scope head [],
          (l.scope, i.2, head, at.7, inside, i.6, i.4, refl),
          (place_of l.scope q [], (p, q, i.2, at, refl), rest),
        ),
      ))
      (omega arith)

  pub break_steps : (place : ℕ) → Here c (l ∷ loops) scope p [] locals (Execute (Break place) ∷ todo)
      → Goal c (frame_of c locals [] (Execute (Break place) ∷ todo))
  break_steps place h =
      let op = Jump l.target.break_to in
      let r = breaks c todo l loops h.todo.0.scope h.todo.0.point h.todo.0.held h.todo.2 in
      together c _ op place (instr_is c op place p h.function h.next h.todo.1.2.0) tt (λ e m. (
        refl,
        jumped c h l.target.break_to r.loops l.scope r.point (after_break todo) r.instr h.loop r.fits r.loop
            r.at,
      ))

  pub continue_steps : (place : ℕ) → Here c (l ∷ loops) scope p [] locals (Execute (Continue place) ∷ todo)
      → Goal c (frame_of c locals [] (Execute (Continue place) ∷ todo))
  continue_steps place h =
      let op = Jump l.target.continue_to in
      let r = continues c todo l loops h.todo.0.scope h.todo.0.point h.todo.0.held h.todo.2 in
      together c _ op place (instr_is c op place p h.function h.next h.todo.1.2.0) tt (λ e m. (
        refl,
        jumped c h l.target.continue_to r.loops l.scope r.point (after_continue todo) r.instr h.loop r.fits r.loop
            r.at,
      ))
