-- Chains: what is to do for the parts of a term, and after them; and where `break` and `continue` lead.
use Rattle.std.proofs.Common.{◌≡◌, ℕ, suc, List, [], ◌∷◌, length, drop, Some, None, refl, sym, ap, ◌∙◌, subst, arith}
use Rattle.std.specs.Prelude.{slice_get}
use Rattle.rgo_typed.specs.declared.actions.Action.{Action}
use Rattle.rgo_typed.specs.declared.statements.Piece.{Piece}
use Rattle.rgo_typed.specs.declared.types.Type.{«Type»}
use Rattle.rgo_typed.specs.Tree as tree
use Rattle.rgo_typed.specs.Tree.{Function, Terms}
use Rattle.rgo_tac.specs.Code as op
use Rattle.rgo_meaning.specs.Frames.{Todo, Perform, Affect, Enter, Start, Write, Again, Leave, Stay}
use Rattle.rgo_meaning.specs.Todos.{term_count, after_break, after_continue}
use Rattle.rgo_lower.specs.Lowered.{LoweringPoint, after_value, next_point, OpAt, ActionAt, LoweringScope, function_result_type, StoresAt, TermsAt}
use Rattle.rgo_lower.proofs.follows.Lists.{onto, taken_back, dropped_back, get_onto}
use Rattle.rgo_lower.proofs.follows.Settings.{Setting, At}
use Rattle.rgo_lower.proofs.follows.Places.{Place, place_of, FillAt, CallAt, Fits, Loop, targets_of, InLoop}
use Rattle.rgo_lower.proofs.follows.Grows.{same_inside, fits_grow, stmts_grow, variable_le}

module _ (c : Setting) where
  abbrev functions : List Function
  functions = c.program.functions

  -- the place to which a thing to do leads, spelled out
  pub leads : (todo : List Todo) (loops : List Loop) {b q : Place} → b ≡ q → At c todo loops b.scope b.point b.held
      → At c todo loops q.scope q.point q.held
  leads todo loops e h = subst (λ (z : Place). At c todo loops z.scope z.point z.held) e h

  pub terms_length : (ts : Terms) (scope : LoweringScope) (p : LoweringPoint) (ds : List ℕ) (q : LoweringPoint)
      → TermsAt functions c.f scope ts p ds q → term_count ts ≡ length ds
  terms_length tree.no_terms scope p ds q h = ap length (sym h.0)
  terms_length (tree.a_term t ts) scope p ds q h =
      ap suc (terms_length ts scope h.2 h.1 q h.4) ∙ ap length (sym h.5)

  -- ---- after the parts, whose values are on top

  module _ (loops : List Loop) (scope : LoweringScope) (mid : LoweringPoint) (ds held : List ℕ) (n : ℕ) (e : n ≡ length ds)
      (todo : List Todo) where
    pub perform_todo : (action : Action) (ty : «Type») (place : ℕ) → ActionAt c.f mid action ds ty place
        → At c todo loops scope (after_value mid) (mid.variable ∷ held)
        → At c (Perform action n ty place ∷ todo) loops scope mid (onto ds held)
    perform_todo action ty place at rest = (
      place_of scope (after_value mid) (mid.variable ∷ drop n (onto ds held)),
      (subst (λ z. ActionAt c.f mid action z ty place) (sym (taken_back ds held n e)) at, refl),
      subst (λ z. At c todo loops scope (after_value mid) (mid.variable ∷ z)) (sym (dropped_back ds held n e)) rest,
    )

    pub affect_todo : (action : Action) (place : ℕ) → OpAt c.f mid.instr (op.Do None action ds) place
        → At c todo loops scope (next_point mid) held
        → At c (Affect action n place ∷ todo) loops scope mid (onto ds held)
    affect_todo action place at rest = (
      place_of scope (next_point mid) (drop n (onto ds held)),
      (subst (λ z. OpAt c.f mid.instr (op.Do None action z) place) (sym (taken_back ds held n e)) at, refl),
      subst (λ z. At c todo loops scope (next_point mid) z) (sym (dropped_back ds held n e)) rest,
    )

    pub start_todo : (function place : ℕ) → OpAt c.f mid.instr (op.Go function ds) place
        → function_result_type functions c.f function ≡ Some None → At c todo loops scope (next_point mid) held
        → At c (Start function n ∷ todo) loops scope mid (onto ds held)
    start_todo function place at result rest = (
      place_of scope (next_point mid) (drop n (onto ds held)),
      (
        place,
        subst (λ z. OpAt c.f mid.instr (op.Go function z) place) (sym (taken_back ds held n e)) at,
        result,
        refl,
      ),
      subst (λ z. At c todo loops scope (next_point mid) z) (sym (dropped_back ds held n e)) rest,
    )

    pub write_todo : (pieces : List Piece) (place : ℕ) → OpAt c.f mid.instr (op.Print pieces ds) place
        → At c todo loops scope (next_point mid) held → At c (Write pieces n ∷ todo) loops scope mid (onto ds held)
    write_todo pieces place at rest = (
      place_of scope (next_point mid) (drop n (onto ds held)),
      (place, subst (λ z. OpAt c.f mid.instr (op.Print pieces z) place) (sym (taken_back ds held n e)) at, refl),
      subst (λ z. At c todo loops scope (next_point mid) z) (sym (dropped_back ds held n e)) rest,
    )

    pub call_todo : (function : ℕ) (ty : «Type») (place : ℕ)
        → OpAt c.f mid.instr (op.Call (Some mid.variable) function ds) place
        → slice_get c.f.variables mid.variable ≡ Some ty → function_result_type functions c.f function ≡ Some (Some ty)
        → At c todo loops scope (after_value mid) (mid.variable ∷ held)
        → At c (Enter function n ∷ todo) loops scope mid (onto ds held)
    call_todo function ty place at kind result rest =
        let b = place_of scope (after_value mid) (mid.variable ∷ drop n (onto ds held)) in (
          b,
          subst (λ z. CallAt functions c.f z function n scope mid (onto ds held) b) (sym result) (
            place,
            subst (λ z. OpAt c.f mid.instr (op.Call (Some mid.variable) function z) place)
                (sym (taken_back ds held n e)) at,
            kind,
            refl,
          ),
          subst (λ z. At c todo loops scope (after_value mid) (mid.variable ∷ z)) (sym (dropped_back ds held n e))
              rest,
        )

    pub invoke_todo : (function place : ℕ) → OpAt c.f mid.instr (op.Call None function ds) place
        → function_result_type functions c.f function ≡ Some None → At c todo loops scope (next_point mid) held
        → At c (Enter function n ∷ todo) loops scope mid (onto ds held)
    invoke_todo function place at result rest =
        let same = taken_back ds held n e in
        let b = place_of scope (next_point mid) (drop n (onto ds held)) in (
          b,
          subst (λ z. CallAt functions c.f z function n scope mid (onto ds held) b) (sym result)
              (place, subst (λ z. OpAt c.f mid.instr (op.Call None function z) place) (sym same) at, refl),
          subst (λ z. At c todo loops scope (next_point mid) z) (sym (dropped_back ds held n e)) rest,
        )

  fields_length : (object : ℕ) (fields ds : List ℕ) (place : ℕ) (p q : LoweringPoint)
      → StoresAt functions c.f object fields ds place p q → length fields ≡ length ds
  fields_length object [] [] place p q h = refl
  fields_length object (k ∷ fields) (d ∷ ds) place p q h =
      ap suc (fields_length object fields ds place (next_point p) q h.1)
  fields_length object [] (d ∷ ds) place p q h = absurd h
  fields_length object (k ∷ fields) [] place p q h = absurd h

  -- the stores of an object's elements, whose values are below it
  pub fills : (object : ℕ) (fields ds xs : List ℕ) (place : ℕ) (p q : LoweringPoint)
      → StoresAt functions c.f object fields ds place p q
      → FillAt functions c.f fields object p.instr (onto ds xs) place q
  fills object [] [] xs place p q h = ap (λ (z : LoweringPoint). z.instr) h
  fills object (k ∷ fields) (d ∷ ds) xs place p q h =
      let n = fields_length object fields ds place (next_point p) q h.1 in
      let found = get_onto ds (d ∷ xs) (length fields) 0 (omega (arith, n)) in
      (d, found, h.0, fills object fields ds (d ∷ xs) place (next_point p) q h.1)
  fills object [] (d ∷ ds) xs place p q h = absurd h
  fills object (k ∷ fields) [] xs place p q h = absurd h

  -- ---- break and continue

  -- what is to do at a place to which a jump out of a loop's body leads
  pub record Reached (todo : List Todo) (scope : LoweringScope) (i : ℕ) : Type 0 where
    pub loops : List Loop
    pub point : LoweringPoint
    pub at : At c todo loops scope point []
    pub instr : i ≡ point.instr
    pub fits : Fits c.f scope point.variable
    pub loop : InLoop loops scope

  pub breaks : (todo : List Todo) (l : Loop) (loops : List Loop) (scope : LoweringScope) (p : LoweringPoint) (held : List ℕ)
      → At c todo (l ∷ loops) scope p held → Reached (after_break todo) l.scope l.target.break_to
  breaks [] l loops scope p held h = let no : l ∷ loops ≡ [] = h.none in cc
  breaks (Leave ∷ todo) l loops scope p [] h = absurd h
  breaks (Leave ∷ todo) l loops scope p (d ∷ held) h = let no : l ∷ loops ≡ [] = h.none in cc
  breaks (Stay ∷ todo) l loops scope p held h = let no : l ∷ loops ≡ [] = h.none in cc
  breaks (Again test body post ∷ todo) l loops scope p (d ∷ held) h = absurd h.1
  breaks (Again test body post ∷ todo) l loops scope p [] h =
      let i = h.1 in
      let at = i.3 in
      let post_grows = stmts_grow functions c.f post (targets_of loops) l.scope p at.3 at.1 at.6 in
      let end = variable_le (next_point at.1) i.1 at.8 in
      record {
        loops = loops;
        point = i.1;
        at = leads todo loops i.9 h.2;
        instr = i.7;
        fits = fits_grow c.f l.scope i.0.variable i.1.variable (omega (arith, i.5, post_grows, end)) i.4;
        loop = i.6;
      }
  breaks (item ∷ todo) l loops scope p held h = breaks todo l loops h.0.scope h.0.point h.0.held h.2

  pub continues : (todo : List Todo) (l : Loop) (loops : List Loop) (scope : LoweringScope) (p : LoweringPoint) (held : List ℕ)
      → At c todo (l ∷ loops) scope p held → Reached (after_continue todo) l.scope l.target.continue_to
  continues [] l loops scope p held h = let no : l ∷ loops ≡ [] = h.none in cc
  continues (Leave ∷ todo) l loops scope p [] h = absurd h
  continues (Leave ∷ todo) l loops scope p (d ∷ held) h = let no : l ∷ loops ≡ [] = h.none in cc
  continues (Stay ∷ todo) l loops scope p held h = let no : l ∷ loops ≡ [] = h.none in cc
  continues (Again test body post ∷ todo) l loops scope p (d ∷ held) h = absurd h.1
  continues (Again test body post ∷ todo) l loops scope p [] h =
      let i = h.1 in
      record {
        loops = l ∷ loops;
        point = p;
        at = h;
        instr = i.8;
        fits = fits_grow c.f l.scope i.0.variable p.variable i.5 i.4;
        loop = same_inside l.scope;
      }
  continues (item ∷ todo) l loops scope p held h = continues todo l loops h.0.scope h.0.point h.0.held h.2
