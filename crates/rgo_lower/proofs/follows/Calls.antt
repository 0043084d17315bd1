-- Calls: the functions of a program and of its code, and their first frames.
use Rattle.std.proofs.Common.{◌≡◌, ℕ, zero, suc, ◌+◌, ◌<◌, Bool, true, false, List, [], ◌∷◌, ◌++◌, map, drop, length}
use Rattle.std.proofs.Common.{Option, Some, None, slice_get, get_or, codes, bytes_eq, nat_eq, refl, sym, ap, ◌∙◌}
use Rattle.std.proofs.Common.{arith}
use Rattle.std.specs.Prelude.{if◌then◌else◌}
use Rattle.std.proofs.lemmas.List.{drop-map, length-map}
use Rattle.rgo_typed.specs.declared.types.Type.{«Type»}
use Rattle.rgo_typed.specs.Tree.{Function, stmts_of}
use Rattle.rgo_memory.specs.declared.values.Value.{Value}
use Rattle.rgo_memory.specs.declared.values.Value.TheVariants.{Nil}
use Rattle.rgo_memory.specs.Values.{zero_of}
use Rattle.rgo_tac.specs.Code.{TacFn, Tac}
use Rattle.rgo_tac.specs.Frames as tac
use Rattle.rgo_tac.specs.Tac as machine
use Rattle.rgo_meaning.specs.Frames as source
use Rattle.rgo_meaning.specs.Frames.{closing}
use Rattle.rgo_meaning.specs.Source.{function_named, source_main_frames}
use Rattle.rgo_lower.specs.Lowered.{LoweringPoint, LoweringScope, OpAt, parameters, variable_of_local, closing_op, IsLoweredFn, AreLowered}
use Rattle.rgo_lower.proofs.follows.Lists.{padded_long, padded_same, first_same}
use Rattle.rgo_lower.proofs.follows.Places.{TodoAt, place_of}
use Rattle.rgo_lower.proofs.follows.Grows.{some_same, tested_eq, stmts_grow}
use Rattle.rgo_lower.proofs.follows.Matched.{AreMatched, Stacks}

-- ---- functions

-- a function of the program and its code, or none of either
abbrev pub BothFound : List Function → Option Function → Option TacFn → Type 0
BothFound functions None None = Unit {0}
BothFound functions (Some s) (Some g) = IsLoweredFn functions s g
BothFound functions _ _ = ⊥

pub both_found : (functions sources : List Function) (fs : List TacFn) (n : ℕ) → AreLowered functions sources fs
    → BothFound functions (slice_get sources n) (slice_get fs n)
both_found functions [] [] n h = tt
both_found functions [] (g ∷ gs) n h = absurd h
both_found functions (s ∷ ss) [] n h = absurd h
both_found functions (s ∷ ss) (g ∷ gs) zero h = h.0
both_found functions (s ∷ ss) (g ∷ gs) (suc n) h = both_found functions ss gs n h.1

-- ---- parameters

record ParameterAt (count n d : ℕ) : Type 0 where
  same : d ≡ n
  below : n < count

parameter_at : (count n d : ℕ) → variable_of_local (parameters count) n ≡ Some d → ParameterAt count n d
parameter_at zero n d e = cc
parameter_at (suc count) n d e = go (λ q. parameter_at count n d q) (nat_eq count n) refl e
  where
    go : (variable_of_local (parameters count) n ≡ Some d → ParameterAt count n d) → (b : Bool) → nat_eq count n ≡ b
        → (if b then Some count else variable_of_local (parameters count) n) ≡ Some d → ParameterAt (suc count) n d
    go next true t q =
        let is = some_same count d q in
        let same = tested_eq count n t in record { same = sym is ∙ same; below = omega (arith, same) }
    go next false t q = let r = next q in let lt = r.below in record { same = r.same; below = omega (arith, lt) }

-- ---- first frames

module _ (functions : List Function) (code : Tac) where
  closing_at : (g : TacFn) (result : Option «Type») (scope : LoweringScope) (p : LoweringPoint) (place : ℕ)
      → OpAt g p.instr (closing_op result p.instr) place → g.result_type ≡ result
      → TodoAt functions g (closing result) [] scope p []
  closing_at g None scope p place instr is = record { place = place; instr = instr; is = is; none = refl }
  closing_at g (Some ty) scope p place instr is = record { place = place; instr = instr; none = refl }

  module _ (s : Function) (g : TacFn) (l : IsLoweredFn functions s g) (arguments : List Value) where
    parameter_value : (n : ℕ) → n < s.params
        → get_or (arguments ++ map zero_of (drop (length arguments) s.locals)) n Nil
        ≡ get_or (arguments ++ drop (length arguments) (map zero_of g.variables)) n Nil
    parameter_value n lt =
        let same = first_same zero_of g.variables s.locals s.params n Nil lt l.param_types in
        ap (λ vs. get_or (arguments ++ vs) n Nil) (sym (drop-map zero_of (length arguments) s.locals))
        ∙ sym (padded_same arguments (map zero_of g.variables) (map zero_of s.locals) n Nil same)

    -- the first frames of a function and of its code, with the same arguments
    pub called_matched : (n : ℕ) (others : List Value) → slice_get code.functions n ≡ Some g → others ≡ arguments
        → AreMatched functions code g (source.new_source_frame s arguments) (tac.new_tac_frame g n others)
    called_matched n others here same =
        let scope = parameters s.params in
        let p : LoweringPoint = record { instr = 0; variable = s.params } in
        let grows = stmts_grow functions g (stmts_of s.body) [] scope p l.scope l.last l.body in
        let enough = l.variables in
        let long = ap (λ vs. length (vs ++ drop (length vs) (map zero_of g.variables))) same in
        let some = padded_long arguments (map zero_of g.variables) in
        let count = length-map g.variables zero_of in (
          [],
          scope,
          p,
          [],
          record {
            function = here;
            next = refl;
            todo = (
              place_of l.scope l.last [],
              (l.scope, l.last, l.body, refl),
              closing_at g s.result_type l.scope l.last s.end l.closing l.result_type,
            );
            values = refl;
            below = tt;
            fits = record {
              below = λ a d e.
                  let r = parameter_at s.params a d e in
                  let is = r.same in let lt = r.below in omega (arith, is, lt);
              known = λ a d e.
                  let r = parameter_at s.params a d e in
                  let is = r.same in let lt = r.below in omega (arith, is, lt, grows, enough);
              apart = λ a b d e e2. sym (parameter_at s.params a d e).same ∙ (parameter_at s.params b d e2).same;
            };
            loop = tt;
            locals = λ a d e.
                let r = parameter_at s.params a d e in
                parameter_value a r.below
                ∙ ap (λ vs. get_or (vs ++ drop (length vs) (map zero_of g.variables)) a Nil) (sym same)
                ∙ ap (tac.value_at (tac.new_tac_frame g n others)) (sym r.same);
            long = omega (arith, long, some, count);
          },
        )

  -- ---- the frames of `main`

  -- the functions from number n on
  pub mains : (sources : List Function) (fs : List TacFn) (n : ℕ) → AreLowered functions sources fs
      → ((i : ℕ) → slice_get fs i ≡ slice_get code.functions (n + i))
      → Stacks functions code (source_main_frames (function_named (codes "main") sources)) (machine.tac_main_frames fs n)
  mains [] [] n h at = tt
  mains [] (g ∷ gs) n h at = absurd h
  mains (s ∷ ss) [] n h at = absurd h
  mains (s ∷ ss) (g ∷ gs) n h at =
      go (bytes_eq s.name (codes "main")) (bytes_eq g.name (codes "main"))
      (ap (λ name. bytes_eq name (codes "main")) h.0.name) (mains ss gs (suc n) h.1 next)
    where
      next : (i : ℕ) → slice_get gs i ≡ slice_get code.functions (suc n + i)
      next i = at (suc i) ∙ ap (slice_get code.functions) (omega arith)

      go : (b c : Bool) → c ≡ b
          → Stacks functions code (source_main_frames (function_named (codes "main") ss)) (machine.tac_main_frames gs (suc n))
          → Stacks functions code (source_main_frames (if b then Some s else function_named (codes "main") ss))
          (if c then tac.new_tac_frame g n [] ∷ [] else machine.tac_main_frames gs (suc n))
      go true true e rest =
          let here = sym (at 0 ∙ ap (slice_get code.functions) (omega arith)) in
          (g, called_matched s g h.0 [] n [] here refl, tt)
      go false false e rest = rest
      go true false e rest = cc
      go false true e rest = cc
