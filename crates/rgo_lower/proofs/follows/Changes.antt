-- Changes: the ways in which a frame of the source and its code come to match again.
use Rattle.std.proofs.Common.{◌≡◌, ◌≢◌, ℕ, ◌+◌, ◌<◌, ◌≤◌, Bool, true, false, List, [], ◌∷◌, map, drop, length}
use Rattle.std.proofs.Common.{Some, None, refl, sym, ap, ◌∙◌, arith, nat_eq, if◌then◌else◌}
use Rattle.std.proofs.lemmas.List.{drop-map, length-set, get_or-set_same, get_or-set_other}
use Rattle.rgo_memory.specs.declared.values.Value.{Value}
use Rattle.rgo_memory.specs.declared.values.Value.TheVariants.{Nil}
use Rattle.rgo_tac.specs.Frames as tac
use Rattle.rgo_tac.specs.Frames.{value_at, moved_to}
use Rattle.rgo_meaning.specs.Frames.{Todo, local_value, with_local_value}
use Rattle.rgo_lower.specs.Lowered.{LoweringPoint, after_value, next_point, LoweringScope, variable_of_local}
use Rattle.rgo_lower.proofs.follows.Lists.{AreBelow, map_below, below_le, below_drop, local_same, local_other}
use Rattle.rgo_lower.proofs.follows.Places.{Fits, Inside, Loop, InLoop}
use Rattle.rgo_lower.proofs.follows.Grows.{same_inside, some_same, tested_eq, tested_ne, in_loop, fits_begin, fits_grow}
use Rattle.rgo_lower.proofs.follows.Settings.{Setting, g, frame_of, Here, At, Fit, Goroutines}

-- ---- what the code's frame becomes

value_other : (low : tac.TacFrame) (to : ℕ) (v : Value) (d : ℕ) → d ≢ to
    → value_at (tac.frame_after_instr low (Some to) v) d ≡ value_at low d
value_other low to v d ne = get_or-set_other low.variables to d v Nil ne

value_same : (low : tac.TacFrame) (to : ℕ) (v : Value) → to < length low.variables
    → value_at (tac.frame_after_instr low (Some to) v) to ≡ v
value_same low to v h = get_or-set_same low.variables to v Nil h

-- `loops`, `scope`, `p`, `held`, `locals` and `todo` are those before the change
module _ (c : Setting) {loops : List Loop} {scope : LoweringScope} {p : LoweringPoint} {held : List ℕ} {locals : List Value}
    {todo : List Todo} (h : Here c loops scope p held locals todo) where
  -- the code goes to an instruction, and no variable changes
  pub jumps : (i : ℕ) (loops2 : List Loop) (scope2 : LoweringScope) (q : LoweringPoint) (kept : List ℕ) (values : List Value)
      (todo2 : List Todo) → i ≡ q.instr → Inside scope2 scope → Fits c.f scope2 q.variable → InLoop loops2 scope2
      → AreBelow q.variable kept → map (g c) kept ≡ values → At c todo2 loops2 scope2 q kept
      → Fit c (record { locals = locals; values = values; todo = todo2 }) (moved_to c.frame i)
  jumps i loops2 scope2 q kept values todo2 next inside fits loop below same at = (
    loops2,
    scope2,
    q,
    kept,
    record {
      function = h.function;
      next = next;
      todo = at;
      values = same;
      below = below;
      fits = fits;
      loop = loop;
      locals = λ n d e. h.locals n d (inside.has n d e);
      long = h.long;
    },
  )

  -- the code stays where it is
  pub stays : (loops2 : List Loop) (scope2 : LoweringScope) (q : LoweringPoint) (kept : List ℕ) (values : List Value)
      (todo2 : List Todo) → q.instr ≡ p.instr → Inside scope2 scope → Fits c.f scope2 q.variable
      → InLoop loops2 scope2 → AreBelow q.variable kept → map (g c) kept ≡ values → At c todo2 loops2 scope2 q kept
      → Fit c (record { locals = locals; values = values; todo = todo2 }) c.frame
  stays loops2 scope2 q kept values todo2 i inside fits loop below same at =
      jumps c.frame.next loops2 scope2 q kept values todo2 (h.next ∙ sym i) inside fits loop below same at

  -- the code jumps, and the source continues without values
  pub jumped : (i : ℕ) (loops2 : List Loop) (scope2 : LoweringScope) (q : LoweringPoint) (todo2 : List Todo) → i ≡ q.instr
      → Inside scope2 scope → Fits c.f scope2 q.variable → InLoop loops2 scope2 → At c todo2 loops2 scope2 q []
      → Goroutines c (frame_of c locals [] todo2 ∷ c.callers) (moved_to c.frame i ∷ c.lows)
  jumped i loops2 scope2 q todo2 next inside fits loop at =
      (c.f, jumps i loops2 scope2 q [] [] todo2 next inside fits loop tt refl at, c.below)

  -- both continue after an instruction that returns no value and took the newest n values
  pub passes : (n : ℕ) (todo2 : List Todo) → At c todo2 loops scope (next_point p) (drop n held)
      → Fit c (record { locals = locals; values = drop n (map (g c) held); todo = todo2 })
      (moved_to c.frame (c.frame.next + 1))
  passes n todo2 at =
      jumps (c.frame.next + 1) loops scope (next_point p) (drop n held) (drop n (map (g c) held)) todo2
      (ap (λ i. i + 1) h.next) (same_inside scope) h.fits h.loop (below_drop p.variable n held h.below)
      (sym (drop-map (g c) n held)) at

  -- a variable that belongs to no local variable is set
  pub writes : (to : ℕ) (v : Value) (q : LoweringPoint) (kept : List ℕ) (values : List Value) (todo2 : List Todo)
      → to < length c.f.variables → Fits c.f scope to → AreBelow to kept → q.instr ≡ p.instr + 1 → to < q.variable
      → p.variable ≤ q.variable → map (g c) kept ≡ values → At c todo2 loops scope q (to ∷ kept)
      → Fit c (record { locals = locals; values = v ∷ values; todo = todo2 }) (tac.frame_after_instr c.frame (Some to) v)
  writes to v q kept values todo2 known fits below i lt grows same at =
      let within : to < length c.frame.variables = omega (arith, known, h.long) in
      let low = tac.frame_after_instr c.frame (Some to) v in
      let other : (d : ℕ) → d < to → value_at low d ≡ g c d =
      λ d l. value_other c.frame to v d (λ e. omega (arith, l, e)) in
      let rest = map_below (value_at low) (g c) to kept other below ∙ same in
      let size = length-set c.frame.variables to v in (
        loops,
        scope,
        q,
        to ∷ kept,
        record {
          function = h.function;
          next = ap (λ n. n + 1) h.next ∙ sym i;
          todo = at;
          values = λ j. value_same c.frame to v within j ∷ rest j;
          below = (lt, below_le to q.variable kept (omega (arith, lt)) below);
          fits = fits_grow c.f scope p.variable q.variable grows h.fits;
          loop = h.loop;
          locals = λ n d e. h.locals n d e ∙ sym (other d (fits.below n d e));
          long = omega (arith, h.long, size);
        },
      )

  -- both continue after an instruction that sets the next variable and took the newest n values
  pub gives : (n : ℕ) (v : Value) (todo2 : List Todo) → p.variable < length c.f.variables
      → At c todo2 loops scope (after_value p) (p.variable ∷ drop n held)
      → Fit c (record { locals = locals; values = v ∷ drop n (map (g c) held); todo = todo2 })
      (tac.frame_after_instr c.frame (Some p.variable) v)
  gives n v todo2 known at =
      writes p.variable v (after_value p) (drop n held) (drop n (map (g c) held)) todo2 known h.fits
      (below_drop p.variable n held h.below) refl (omega arith) (omega arith) (sym (drop-map (g c) n held)) at

  -- a local variable begins
  pub begins : (n : ℕ) (v : Value) (todo2 : List Todo) → p.variable < length c.f.variables → variable_of_local scope n ≡ None
      → At c todo2 loops ((n, p.variable) ∷ scope) (after_value p) []
      → Fit c (record { locals = with_local_value locals n v; values = []; todo = todo2 })
      (tac.frame_after_instr c.frame (Some p.variable) v)
  begins n v todo2 known fresh at =
      let size = length-set c.frame.variables p.variable v in (
        loops,
        (n, p.variable) ∷ scope,
        after_value p,
        [],
        record {
          function = h.function;
          next = ap (λ i. i + 1) h.next;
          todo = at;
          values = refl;
          below = tt;
          fits = fits_begin c.f scope n p.variable known h.fits;
          loop = in_loop loops scope n p.variable fresh h.loop;
          locals = λ a d e. now a d (nat_eq n a) refl e;
          long = omega (arith, h.long, size);
        },
      )
    where
      now : (a d : ℕ) (t : Bool) → nat_eq n a ≡ t → (if t then Some p.variable else variable_of_local scope a) ≡ Some d
          → local_value (with_local_value locals n v) a ≡ value_at (tac.frame_after_instr c.frame (Some p.variable) v) d
      now a d true t e =
          let is = value_same c.frame p.variable v (omega (arith, known, h.long)) in
          ap (local_value (with_local_value locals n v)) (sym (tested_eq n a t)) ∙ local_same locals n v ∙ sym is
          ∙ ap (value_at (tac.frame_after_instr c.frame (Some p.variable) v)) (some_same p.variable d e)
      now a d false t e =
          let lt = h.fits.below a d e in
          local_other locals n a v (tested_ne n a t) ∙ h.locals a d e
          ∙ sym (value_other c.frame p.variable v d (λ q. omega (arith, lt, q)))

  -- a local variable is given a value
  pub changes : (n x : ℕ) (v : Value) (todo2 : List Todo) → variable_of_local scope n ≡ Some x
      → At c todo2 loops scope (next_point p) []
      → Fit c (record { locals = with_local_value locals n v; values = []; todo = todo2 }) (tac.frame_after_instr c.frame (Some x) v)
  changes n x v todo2 there at =
      let size = length-set c.frame.variables x v in (
        loops,
        scope,
        next_point p,
        [],
        record {
          function = h.function;
          next = ap (λ i. i + 1) h.next;
          todo = at;
          values = refl;
          below = tt;
          fits = h.fits;
          loop = h.loop;
          locals = λ a d e. now a d (nat_eq n a) refl e;
          long = omega (arith, h.long, size);
        },
      )
    where
      now : (a d : ℕ) (t : Bool) → nat_eq n a ≡ t → variable_of_local scope a ≡ Some d
          → local_value (with_local_value locals n v) a ≡ value_at (tac.frame_after_instr c.frame (Some x) v) d
      now a d true t e =
          let known = h.fits.known n x there in
          let is = value_same c.frame x v (omega (arith, known, h.long)) in
          let same : x ≡ d = some_same x d (sym there ∙ ap (variable_of_local scope) (tested_eq n a t) ∙ e) in
          ap (local_value (with_local_value locals n v)) (sym (tested_eq n a t)) ∙ local_same locals n v ∙ sym is
          ∙ ap (value_at (tac.frame_after_instr c.frame (Some x) v)) same
      now a d false t e =
          local_other locals n a v (tested_ne n a t) ∙ h.locals a d e
          ∙ sym (value_other c.frame x v d (λ q. tested_ne n a t (h.fits.apart n a x there (e ∙ ap Some q))))
