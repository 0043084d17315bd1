-- Terms: the steps of a frame that evaluates terms.
use Rattle.std.proofs.Common.{◌≡◌, ℕ, ◌+◌, Bool, true, false, List, ◌∷◌, map, refl, sym, subst, arith}
use Rattle.std.specs.Prelude.{if◌then◌else◌}
use Rattle.std.proofs.lemmas.Option.{slice_get_within}
use Rattle.rgo_typed.specs.declared.actions.Action.{Action}
use Rattle.rgo_typed.specs.declared.actions.Logical.{Logical}
use Rattle.rgo_typed.specs.declared.actions.Logical.TheVariants.{And, Or}
use Rattle.rgo_typed.specs.declared.types.Type.{«Type»}
use Rattle.rgo_typed.specs.Tree as tree
use Rattle.rgo_typed.specs.Tree.{Term, Terms}
use Rattle.rgo_memory.specs.declared.values.Value.{Value}
use Rattle.rgo_machine.specs.Actions.{is_true}
use Rattle.rgo_tac.specs.Code.{Branch}
use Rattle.rgo_tac.specs.Frames.{moved_to}
use Rattle.rgo_meaning.specs.Frames.{Todo, Evaluate, Each, Perform, Settle, Decide, Create, Fill, Enter}
use Rattle.rgo_meaning.specs.Steps.{decided}
use Rattle.rgo_meaning.specs.Todos.{term_count}
use Rattle.rgo_lower.specs.Lowered.{LoweringPoint, after_value, next_point, OpAt, bool_type, logic_branch, LoweringScope}
use Rattle.rgo_lower.proofs.follows.Lists.{onto, dropped_back, below_le}
use Rattle.rgo_lower.proofs.follows.Places.{place_of, Loop}
use Rattle.rgo_lower.proofs.follows.Grows.{same_inside, fits_grow, term_grows, stores_keep}
use Rattle.rgo_lower.proofs.follows.Settings.{Setting, g, frame_of, Here, At, Goroutines}
use Rattle.rgo_lower.proofs.follows.Changes.{jumps, stays}
use Rattle.rgo_lower.proofs.follows.Chains.{leads, terms_length, perform_todo, call_todo, fills}
use Rattle.rgo_lower.proofs.follows.Steps.{Goal, stutter, instr_is, together, goes_on}

module _ (c : Setting) (loops : List Loop) (scope : LoweringScope) (p : LoweringPoint) (locals : List Value) where
  abbrev Now : List ℕ → List Todo → Type 0
  Now held todo = Here c loops scope p held locals todo

  abbrev Steps : List ℕ → List Todo → Type 0
  Steps held todo = Goal c (frame_of c locals held todo)

  -- what follows a term, at the end of its code
  after_term : (t : Term) (held : List ℕ) (todo : List Todo) (h : Now held (Evaluate t ∷ todo)) (d : ℕ) (q : LoweringPoint)
      → h.todo.1.0 ≡ d → h.todo.1.1 ≡ q → At c todo loops scope q (d ∷ held)
  after_term t held todo h d q e e2 =
      let i = h.todo.1 in
      let rest = leads c todo loops i.3 h.todo.2 in
      subst (λ z. At c todo loops scope z (d ∷ held)) e2 (subst (λ z. At c todo loops scope i.1 (z ∷ held)) e rest)

  local_steps : (held : List ℕ) (n : ℕ) (todo : List Todo) → Now held (Evaluate (tree.Local n) ∷ todo)
      → Steps held (Evaluate (tree.Local n) ∷ todo)
  local_steps held n todo h =
      let i = h.todo.1 in
      let d = i.0 in
      let frame = frame_of c locals held (Evaluate (tree.Local n) ∷ todo) in
      let is = h.locals n d i.2.0 in
      stutter c frame (record { locals = locals; values = _; todo = todo }) refl (λ m. refl)
      (stays c h loops scope p (d ∷ held) _ todo refl
      (same_inside scope) h.fits h.loop (h.fits.below n d i.2.0, h.below) (λ j. sym is j ∷ map (g c) held)
      (after_term (tree.Local n) held todo h d p refl i.2.1))
      (omega arith)

  apply_steps : (held : List ℕ) (action : Action) (parts : Terms) (ty : «Type») (place : ℕ) (todo : List Todo)
      → Now held (Evaluate (tree.Apply action parts ty place) ∷ todo)
      → Steps held (Evaluate (tree.Apply action parts ty place) ∷ todo)
  apply_steps held action parts ty place todo h =
      let t = h.todo.1.2 in
      let ds = t.0 in
      let mid = t.1 in
      let n = term_count parts in
      goes_on c h (Each parts ∷ Perform action n ty place ∷ todo) refl (λ m. refl)
      (omega arith) (
        place_of scope mid (onto ds held),
        (ds, mid, t.2, refl),
        perform_todo c loops scope mid ds held n
            (terms_length c parts scope p ds mid t.2) todo action ty place t.3
            (after_term (tree.Apply action parts ty place) held todo h mid.variable (after_value mid) t.4 t.5),
      )

  call_steps : (held : List ℕ) (function : ℕ) (arguments : Terms) (ty : «Type») (place : ℕ) (todo : List Todo)
      → Now held (Evaluate (tree.Call function arguments ty place) ∷ todo)
      → Steps held (Evaluate (tree.Call function arguments ty place) ∷ todo)
  call_steps held function arguments ty place todo h =
      let t = h.todo.1.2 in
      let ds = t.0 in
      let mid = t.1 in
      let n = term_count arguments in
      goes_on c h (Each arguments ∷ Enter function n ∷ todo) refl (λ m. refl) (omega arith) (
        place_of scope mid (onto ds held),
        (ds, mid, t.2, refl),
        call_todo c loops scope mid ds held n
            (terms_length c arguments scope p ds mid t.2) todo function ty place t.3 t.4 t.5
            (after_term (tree.Call function arguments ty place) held todo h mid.variable (after_value mid) t.6 t.7),
      )

  build_steps : (held : List ℕ) (struct : ℕ) (parts : Terms) (fields : List ℕ) (place : ℕ) (todo : List Todo)
      → Now held (Evaluate (tree.Build struct parts fields place) ∷ todo)
      → Steps held (Evaluate (tree.Build struct parts fields place) ∷ todo)
  build_steps held struct parts fields place todo h =
      let t = h.todo.1.2 in
      let q = h.todo.1.1 in
      let ds = t.0 in
      let mid = t.1 in
      let n = term_count parts in
      let all = onto ds held in
      let size = terms_length c parts scope p ds mid t.2 in
      let rest = after_term (tree.Build struct parts fields place) held todo h mid.variable q t.5 refl in
      goes_on c h (Each parts ∷ Create struct ∷ Fill n fields place ∷ todo) refl (λ m. refl)
      (omega arith) (
        place_of scope mid all,
        (ds, mid, t.2, refl),
        (
          place_of scope (after_value mid) (mid.variable ∷ all),
          (place, t.3, refl),
          (
            place_of scope q (mid.variable ∷ _),
            (
              q,
              fills c mid.variable fields ds held place (after_value mid) q t.4,
              stores_keep c.program.functions c.f mid.variable fields ds place (after_value mid) q t.4,
              refl,
            ),
            subst (λ z. At c todo loops scope q (mid.variable ∷ z)) (sym (dropped_back ds held n size)) rest,
          ),
        ),
      )

  logic_steps : (held : List ℕ) (logic : Logical) (left right : Term) (place : ℕ) (todo : List Todo)
      → Now held (Evaluate (tree.Logic logic left right place) ∷ todo)
      → Steps held (Evaluate (tree.Logic logic left right place) ∷ todo)
  logic_steps held logic left right place todo h =
      let t = h.todo.1.2 in
      let mid = t.1 in
      let last = t.5 in
      let grows = term_grows c.program.functions c.f scope left p t.0 mid t.2 in
      let below = below_le p.variable mid.variable held grows h.below in
      let fits = fits_grow c.f scope p.variable mid.variable grows h.fits in
      let known = slice_get_within c.f.variables mid.variable bool_type t.3.variable in
      let two : mid.instr + 2 ≡ mid.instr + 1 + 1 = omega arith in
      let op = λ (i : ℕ). logic_branch logic mid.variable i (last.instr + 1) in
      let branch = subst (λ i. OpAt c.f (mid.instr + 1) (op i) place) two t.6 in
      goes_on c h (Evaluate left ∷ Settle ∷ Decide logic right ∷ todo) refl (λ m. refl)
      (omega arith) (
        place_of scope mid (t.0 ∷ held),
        (t.0, mid, t.2, refl),
        (
          place_of scope (after_value mid) (mid.variable ∷ held),
          (mid.variable, place, t.3.instr, known, fits, below, after_value mid, refl, omega arith, omega arith, refl),
          (
            place_of scope (next_point last) (mid.variable ∷ held),
            (t.4, last, place, branch, t.7, t.8, known, fits, below, refl),
            after_term (tree.Logic logic left right place) held todo h mid.variable (next_point last) t.9 t.10,
          ),
        ),
      )

  pub evaluate_steps : (held : List ℕ) (t : Term) (todo : List Todo) → Now held (Evaluate t ∷ todo)
      → Steps held (Evaluate t ∷ todo)
  evaluate_steps held (tree.Local n) todo h = local_steps held n todo h
  evaluate_steps held (tree.Apply action parts ty place) todo h = apply_steps held action parts ty place todo h
  evaluate_steps held (tree.Logic logic left right place) todo h = logic_steps held logic left right place todo h
  evaluate_steps held (tree.Build struct parts fields place) todo h =
      build_steps held struct parts fields place todo h
  evaluate_steps held (tree.Call function arguments ty place) todo h =
      call_steps held function arguments ty place todo h

  pub each_steps : (held : List ℕ) (ts : Terms) (todo : List Todo) → Now held (Each ts ∷ todo)
      → Steps held (Each ts ∷ todo)
  each_steps held tree.no_terms todo h =
      let i = h.todo.1 in
      let rest = leads c todo loops i.3 h.todo.2 in
      goes_on c h todo refl (λ m. refl) (omega arith)
      (subst (λ z. At c todo loops scope z held) i.2.1
      (subst (λ ds. At c todo loops scope i.1 (onto ds held)) i.2.0 rest))
  each_steps held (tree.a_term t ts) todo h =
      let i = h.todo.1 in
      let k = i.2 in
      let rest = leads c todo loops i.3 h.todo.2 in
      goes_on c h (Evaluate t ∷ Each ts ∷ todo) refl (λ m. refl) (omega arith) (
        place_of scope k.2 (k.0 ∷ held),
        (k.0, k.2, k.3, refl),
        (
          place_of scope i.1 (onto k.1 (k.0 ∷ held)),
          (k.1, i.1, k.4, refl),
          subst (λ ds. At c todo loops scope i.1 (onto ds held)) k.5 rest,
        ),
      )

  -- ---- && and ||

  module _ (logic : Logical) (right : Term) (d : ℕ) (held : List ℕ) (todo : List Todo)
      (h : Now (d ∷ held) (Decide logic right ∷ todo)) where
    goes_right : Goroutines c (frame_of c locals held (Evaluate right ∷ Settle ∷ todo) ∷ c.callers)
        (moved_to c.frame (p.instr + 1) ∷ c.lows)
    goes_right =
        let i = h.todo.1 in
        let last = i.1 in
        let grows = term_grows c.program.functions c.f scope right (next_point p) i.0 last i.4 in (
          c.f,
          jumps c h (p.instr + 1) loops scope (next_point p) held
              (map (g c) held) (Evaluate right ∷ Settle ∷ todo) refl (same_inside scope) h.fits h.loop h.below.1 refl (
                place_of scope last (i.0 ∷ held),
                (i.0, last, i.4, refl),
                (
                  h.todo.0,
                  (d, i.2, i.5, i.6, i.7, i.8, next_point last, refl, omega arith, omega (arith, h.below.0, grows), i.9),
                  h.todo.2,
                ),
              ),
          c.below,
        )

    goes_short : Goroutines c (frame_of c locals (d ∷ held) todo ∷ c.callers)
        (moved_to c.frame (h.todo.1.1.instr + 1) ∷ c.lows)
    goes_short =
        let i = h.todo.1 in
        let last = i.1 in
        let grows = term_grows c.program.functions c.f scope right (next_point p) i.0 last i.4 in (
          c.f,
          jumps c h (last.instr + 1) loops scope (next_point last)
              (d ∷ held) (map (g c) (d ∷ held)) todo refl (same_inside scope)
              (fits_grow c.f scope p.variable last.variable grows h.fits) h.loop
              (below_le p.variable last.variable (d ∷ held) grows h.below) refl
              (leads c todo loops i.9 h.todo.2),
          c.below,
        )

  pub decide_steps : (logic : Logical) (right : Term) (d : ℕ) (held : List ℕ) (todo : List Todo)
      → Now (d ∷ held) (Decide logic right ∷ todo) → Steps (d ∷ held) (Decide logic right ∷ todo)
  decide_steps And right d held todo h =
      let i = h.todo.1 in
      let op = Branch d (p.instr + 1) (i.1.instr + 1) in
      together c _ op i.2 (instr_is c op i.2 p h.function h.next i.3) tt (λ e m. (refl, next (is_true (g c d))))
    where
      next : (b : Bool)
          → Goroutines c (decided And right todo (frame_of c locals (d ∷ held) (Decide And right ∷ todo)) b ∷ c.callers)
          (moved_to c.frame (if b then p.instr + 1 else h.todo.1.1.instr + 1) ∷ c.lows)
      next true = goes_right And right d held todo h
      next false = goes_short And right d held todo h
  decide_steps Or right d held todo h =
      let i = h.todo.1 in
      let op = Branch d (i.1.instr + 1) (p.instr + 1) in
      together c _ op i.2 (instr_is c op i.2 p h.function h.next i.3) tt (λ e m. (refl, next (is_true (g c d))))
    where
      next : (b : Bool)
          → Goroutines c (decided Or right todo (frame_of c locals (d ∷ held) (Decide Or right ∷ todo)) b ∷ c.callers)
          (moved_to c.frame (if b then h.todo.1.1.instr + 1 else p.instr + 1) ∷ c.lows)
      next true = goes_short Or right d held todo h
      next false = goes_right Or right d held todo h
