-- The code of statements without statements in them, put together from that of their parts. Most of them
-- declare nothing: for these the scope stays, and `plain` says so once.
use Rattle.std.proofs.Common.{◌≡◌, ◌≢◌, ℕ, ◌+◌, ◌<◌, ◌≤◌, arith, Bool, true, false, ◌||◌, List, [], ◌∷◌, ◌++◌, length, get_or, refl, sym, ap, ◌∙◌, subst}
use Rattle.std.specs.Prelude.{Option, Some, None, nat_eq, if◌then◌else◌}
use Rattle.std.proofs.lemmas.Bool.{eqb-true, eqb-false}
use Rattle.std.proofs.lemmas.List.{get_or-set_same, get_or-set_other, length-set}
use Rattle.rgo_typed.specs.declared.actions.Action.{Action}
use Rattle.rgo_typed.specs.declared.actions.Action.TheVariants.{Copy, Binary}
use Rattle.rgo_typed.specs.declared.statements.Piece.{Piece}
use Rattle.rgo_typed.specs.declared.types.Type.{«Type»}
use Rattle.rgo_typed.specs.Tree as tree
use Rattle.rgo_typed.specs.Tree.{Term, Terms, Change, Stmt}
use Rattle.rgo_wellformed.specs.WellFormed.{InScope, is_in_scope, IsStmt, scope_after}
use Rattle.rgo_tac.specs.Code.{Do, Call, Go, Print, Jump, Return}
use Rattle.rgo_lower.specs.declared.builder.Loop.{Loop}
use Rattle.rgo_lower.specs.Sizes.{stmt_size}
use Rattle.rgo_lower.specs.Lowered.{LoweringPoint, next_point, OpAt, ActionAt, LoweringScope, variable_of_local, Target, zero_action, TermAt, StmtAt}
use Rattle.rgo_lower.specs.Emitted.{BuilderParts, builder_size, builder_point, slot_of_local, with_local_slot, Grown, Whole, Completes, OpIsAdded, ValueIsAdded, always, acts, jump_to}
use Rattle.rgo_lower.specs.Emitted.{ScopeHasSlots, TermIsEmitted, TermsAreEmitted, AreLoopTargets, typing_environment, StmtIsEmitted}
use Rattle.rgo_lower.proofs.Growing.{grown_trans, earlier, kept_all}
use Rattle.rgo_lower.proofs.Labels.{op_moved}
use Rattle.rgo_lower.proofs.TermParts.{action_at, result_is}

-- ---- scopes

true_false : (b : Bool) → b ≡ true → b ≡ false → ⊥
true_false b e f = cc

pub knows_same : (xs ys : List ℕ) (g : InScope) (scope : LoweringScope) → ys ≡ xs → ScopeHasSlots xs g scope → ScopeHasSlots ys g scope
knows_same xs ys g scope e k = subst (λ z. ScopeHasSlots z g scope) (sym e) k

-- where the variables in scope keep their slots
pub knows_kept : (xs ys : List ℕ) (g : InScope) (scope : LoweringScope)
    → ((n : ℕ) → is_in_scope g n ≡ true → get_or ys n 0 ≡ get_or xs n 0) → ScopeHasSlots xs g scope → ScopeHasSlots ys g scope
knows_kept xs ys g scope kept k = record {
  inside = λ n e. k.inside n e ∙ ap Some (sym (kept n e));
  outside = k.outside;
}

-- one more variable, whose number was not in scope
module _ (xs ys : List ℕ) (g : InScope) (scope : LoweringScope) (n d : ℕ) (here : get_or ys n 0 ≡ d)
    (others : (m : ℕ) → m ≢ n → get_or ys m 0 ≡ get_or xs m 0) (k : ScopeHasSlots xs g scope) where
  more_inside : (m : ℕ) (b : Bool) → nat_eq n m ≡ b → b || is_in_scope g m ≡ true
      → (if b then Some d else variable_of_local scope m) ≡ Some (get_or ys m 0)
  more_inside m true e h = ap Some (sym here ∙ ap (λ z. get_or ys z 0) (eqb-true n m e))
  more_inside m false e h = k.inside m h ∙ ap Some (sym (others m (λ same. eqb-false n m e (sym same))))

  more_outside : (m : ℕ) (b : Bool) → b || is_in_scope g m ≡ false → (if b then Some d else variable_of_local scope m) ≡ None
  more_outside m true h = absurd (true_false true refl h)
  more_outside m false h = k.outside m h

  pub knows_more : ScopeHasSlots ys (n ∷ g) ((n, d) ∷ scope)
  knows_more = record {
    inside = λ m h. more_inside m (nat_eq n m) refl h;
    outside = λ m h. more_outside m (nat_eq n m) h;
  }

-- ---- statements that declare nothing

-- the code of such a statement was added
pub record PlainIsEmitted (s : Stmt) (innermost : Option Loop) (old new : BuilderParts) : Type 0 where
  pub grown : Grown old new
  pub size : builder_size new ≤ builder_size old + stmt_size s
  pub slots : new.slots ≡ old.slots
  pub code :
      (w : Whole) (in_loop : Bool) (g : InScope) (scope : LoweringScope) (targets : List Target)
      → IsStmt (typing_environment w in_loop) g s → AreLoopTargets w in_loop innermost targets → ScopeHasSlots old.slots g scope
      → Completes w new → StmtAt w.functions w.f s targets scope (builder_point old) scope (builder_point new)

pub plain : (s : Stmt) (innermost : Option Loop) (a b : BuilderParts) → ((g : InScope) → scope_after g s ≡ g)
    → PlainIsEmitted s innermost a b → StmtIsEmitted s innermost a b
plain s innermost a b same h = record {
  grown = h.grown;
  size = h.size;
  locals = ap length h.slots;
  kept = λ e g typed n e2. ap (λ z. get_or z n 0) h.slots;
  code = λ w in_loop g scope targets typed leads knows all. (
    scope,
    h.code w in_loop g scope targets typed leads knows all,
    subst (λ z. ScopeHasSlots b.slots z scope) (sym (same g)) (knows_same a.slots b.slots g scope h.slots knows),
  );
}

pub assign_emitted : (n : ℕ) (value : Term) (place d : ℕ) (innermost : Option Loop) (a b c : BuilderParts)
    → TermIsEmitted value a d b → OpIsAdded b (always (Do (Some (slot_of_local b n)) Copy (d ∷ []))) place c
    → StmtIsEmitted (tree.Assign n value place) innermost a c
assign_emitted n value place d innermost a b c h o = plain _ innermost a c (λ g. refl) (record {
  grown = grown_trans a b c h.grown o.grown;
  size = omega (arith, h.size, o.size);
  slots = o.slots ∙ h.slots;
  code = λ w in_loop g scope targets typed leads knows all. (
    d,
    builder_point b,
    slot_of_local b n,
    h.code w g typed.0 scope typed.3 knows (earlier w b c o.grown all),
    knows.inside n typed.1 ∙ ap (λ z. Some (get_or z n 0)) (sym h.slots),
    o.instr w all,
    refl,
    o.point,
  );
})

pub perform_emitted : (action : Action) (operands : Terms) (place : ℕ) (ds : List ℕ) (innermost : Option Loop)
    (a b c : BuilderParts) → TermsAreEmitted operands a ds b → OpIsAdded b (always (Do None action ds)) place c
    → StmtIsEmitted (tree.Perform action operands place) innermost a c
perform_emitted action operands place ds innermost a b c h o = plain _ innermost a c (λ g. refl) (record {
  grown = grown_trans a b c h.grown o.grown;
  size = omega (arith, h.size, o.size);
  slots = o.slots ∙ h.slots;
  code = λ w in_loop g scope targets typed leads knows all. (
    ds,
    builder_point b,
    h.code w g typed.0 scope typed.1 knows (earlier w b c o.grown all),
    o.instr w all,
    refl,
    o.point,
  );
})

pub discard_emitted : (value : Term) (d : ℕ) (innermost : Option Loop) (a b : BuilderParts) → TermIsEmitted value a d b
    → StmtIsEmitted (tree.Discard value) innermost a b
discard_emitted value d innermost a b h = plain _ innermost a b (λ g. refl) (record {
  grown = h.grown;
  size = h.size;
  slots = h.slots;
  code = λ w in_loop g scope targets typed leads knows all. (d, h.code w g typed.0 scope typed.1 knows all, refl);
})

pub invoke_emitted : (n : ℕ) (arguments : Terms) (place : ℕ) (ds : List ℕ) (innermost : Option Loop) (a b c : BuilderParts)
    → TermsAreEmitted arguments a ds b → OpIsAdded b (always (Call None n ds)) place c
    → StmtIsEmitted (tree.Invoke n arguments place) innermost a c
invoke_emitted n arguments place ds innermost a b c h o = plain _ innermost a c (λ g. refl) (record {
  grown = grown_trans a b c h.grown o.grown;
  size = omega (arith, h.size, o.size);
  slots = o.slots ∙ h.slots;
  code = λ w in_loop g scope targets typed leads knows all. (
    ds,
    builder_point b,
    h.code w g typed.0.params scope typed.2 knows (earlier w b c o.grown all),
    o.instr w all,
    result_is w n typed.0 None typed.1 typed.3,
    refl,
    o.point,
  );
})

pub go_emitted : (n : ℕ) (arguments : Terms) (place : ℕ) (ds : List ℕ) (innermost : Option Loop) (a b c : BuilderParts)
    → TermsAreEmitted arguments a ds b → OpIsAdded b (always (Go n ds)) place c
    → StmtIsEmitted (tree.Go n arguments place) innermost a c
go_emitted n arguments place ds innermost a b c h o = plain _ innermost a c (λ g. refl) (record {
  grown = grown_trans a b c h.grown o.grown;
  size = omega (arith, h.size, o.size);
  slots = o.slots ∙ h.slots;
  code = λ w in_loop g scope targets typed leads knows all. (
    ds,
    builder_point b,
    h.code w g typed.0.params scope typed.2 knows (earlier w b c o.grown all),
    o.instr w all,
    result_is w n typed.0 None typed.1 typed.3,
    refl,
    o.point,
  );
})

pub print_emitted : (pieces : List Piece) (values : Terms) (place : ℕ) (ds : List ℕ) (innermost : Option Loop)
    (a b c : BuilderParts) → TermsAreEmitted values a ds b → OpIsAdded b (always (Print pieces ds)) place c
    → StmtIsEmitted (tree.Print pieces values place) innermost a c
print_emitted pieces values place ds innermost a b c h o = plain _ innermost a c (λ g. refl) (record {
  grown = grown_trans a b c h.grown o.grown;
  size = omega (arith, h.size, o.size);
  slots = o.slots ∙ h.slots;
  code = λ w in_loop g scope targets typed leads knows all. (
    ds,
    builder_point b,
    h.code w g typed.0 scope typed.1 knows (earlier w b c o.grown all),
    o.instr w all,
    refl,
    o.point,
  );
})

-- ---- updates

module _ (change : Change) (innermost : Option Loop) (ds : List ℕ) (x d y : ℕ) (a b c e f g : BuilderParts)
    (operands : TermsAreEmitted change.operands a ds b)
    (read : ValueIsAdded b (acts change.read ds) change.ty change.read_at x c)
    (value : TermIsEmitted change.value c d e)
    (compute : ValueIsAdded e (acts (Binary change.op) (x ∷ d ∷ [])) change.ty change.at y f)
    (write : OpIsAdded f (always (Do None change.write (ds ++ y ∷ []))) change.at g) where
  to_c : Grown a c
  to_c = grown_trans a b c operands.grown read.grown

  c_to_g : Grown c g
  c_to_g = grown_trans c e g value.grown (grown_trans e f g compute.grown write.grown)

  slots_c : c.slots ≡ a.slots
  slots_c = read.slots ∙ operands.slots

  computed : (w : Whole) → Completes w f
      → ActionAt w.f (builder_point e) (Binary change.op) (length b.variables ∷ d ∷ []) change.ty change.at
  computed w all =
      subst (λ z. ActionAt w.f (builder_point e) (Binary change.op) (z ∷ d ∷ []) change.ty change.at) read.variable
      (action_at e f (Binary change.op) (x ∷ d ∷ []) change.ty change.at y w compute all)

  written : (w : Whole) → Completes w g
      → OpAt w.f (length e.lines + 1) (Do None change.write (ds ++ length e.variables ∷ [])) change.at
  written w all =
      op_moved w.f (length f.lines) (length e.lines + 1) _ _ change.at (write.instr w all)
      (sym (ap (λ (z : LoweringPoint). z.instr) compute.point)) (ap (λ z. Do None change.write
      (ds ++ z ∷ [])) compute.variable)

  update_is_plain : PlainIsEmitted (tree.Update change) innermost a g
  update_is_plain = record {
    grown = grown_trans a c g to_c c_to_g;
    size = omega (arith, operands.size, read.size, value.size, compute.size, write.size);
    slots = write.slots ∙ compute.slots ∙ value.slots ∙ slots_c;
    code = λ w in_loop s scope targets typed leads knows all.
        let at_f = earlier w f g write.grown all in
        let at_e = earlier w e f compute.grown at_f in
        let at_c = earlier w c e value.grown at_e in (
          (
            ds,
            builder_point b,
            operands.code w s typed.0 scope typed.1 knows (earlier w b c read.grown at_c),
            action_at b c change.read ds change.ty change.read_at x w read at_c,
            d,
            builder_point e,
            subst (λ z. TermAt w.functions w.f scope change.value z d (builder_point e)) read.point
                (value.code w s change.ty scope typed.4 (knows_same a.slots c.slots s scope slots_c knows) at_e),
            computed w at_f,
            written w all,
            write.point ∙ ap next_point compute.point,
          ),
          refl,
        );
  }

  pub update_emitted : StmtIsEmitted (tree.Update change) innermost a g
  update_emitted = plain (tree.Update change) innermost a g (λ g. refl) update_is_plain

-- ---- jumps and returns

pub break_emitted : (place : ℕ) (l : Loop) (a b : BuilderParts) → OpIsAdded a (jump_to l.break_to) place b
    → StmtIsEmitted (tree.Break place) (Some l) a b
break_emitted place l a b o = plain _ (Some l) a b (λ g. refl) (record {
  grown = o.grown;
  size = o.size;
  slots = o.slots;
  code = λ w in_loop g scope targets typed leads knows all.
      let found = leads typed in
      let same : l ≡ found.0 = some_is l found.0 found.2 in
      subst (λ z. StmtAt w.functions w.f (tree.Break place) z scope (builder_point a) scope (builder_point b)) (sym found.3) (
        op_moved w.f (length a.lines) (length a.lines) _ _ place (o.instr w all) refl
            (ap (λ (z : Loop). Jump (w.leads z.break_to)) same),
        refl,
        o.point,
      );
})
  where
    some_is : (x y : Loop) → Some x ≡ Some y → x ≡ y
    some_is x y e = cc

pub continue_emitted : (place : ℕ) (l : Loop) (a b : BuilderParts) → OpIsAdded a (jump_to l.continue_to) place b
    → StmtIsEmitted (tree.Continue place) (Some l) a b
continue_emitted place l a b o = plain _ (Some l) a b (λ g. refl) (record {
  grown = o.grown;
  size = o.size;
  slots = o.slots;
  code = λ w in_loop g scope targets typed leads knows all.
      let found = leads typed in
      let same : l ≡ found.0 = some_is l found.0 found.2 in
      subst (λ z. StmtAt w.functions w.f (tree.Continue place) z scope (builder_point a) scope (builder_point b)) (sym found.3) (
        op_moved w.f (length a.lines) (length a.lines) _ _ place (o.instr w all) refl
            (ap (λ (z : Loop). Jump (w.leads z.continue_to)) same),
        refl,
        o.point,
      );
})
  where
    some_is : (x y : Loop) → Some x ≡ Some y → x ≡ y
    some_is x y e = cc

pub leave_emitted : (place : ℕ) (innermost : Option Loop) (a b : BuilderParts) → OpIsAdded a (always (Return None)) place b
    → StmtIsEmitted (tree.Return None place) innermost a b
leave_emitted place innermost a b o = plain _ innermost a b (λ g. refl) (record {
  grown = o.grown;
  size = omega (arith, o.size);
  slots = o.slots;
  code = λ w in_loop g scope targets typed leads knows all. (o.instr w all, typed, refl, o.point);
})

pub return_emitted : (value : Term) (place d : ℕ) (innermost : Option Loop) (a b c : BuilderParts) → TermIsEmitted value a d b
    → OpIsAdded b (always (Return (Some d))) place c
    → StmtIsEmitted (tree.Return (Some value) place) innermost a c
return_emitted value place d innermost a b c h o = plain _ innermost a c (λ g. refl) (record {
  grown = grown_trans a b c h.grown o.grown;
  size = omega (arith, h.size, o.size);
  slots = o.slots ∙ h.slots;
  code = λ w in_loop g scope targets typed leads knows all. (
    d,
    builder_point b,
    typed.0,
    h.code w g typed.0 scope typed.2 knows (earlier w b c o.grown all),
    o.instr w all,
    typed.1,
    refl,
    o.point,
  );
})

-- ---- declarations

-- a local variable comes into scope as the variable x
pub record Declared (n x : ℕ) (a b : BuilderParts) : Type 0 where
  pub grown : Grown a b
  pub size : builder_size b ≡ builder_size a
  pub locals : length b.slots ≡ length a.slots
  pub point : builder_point b ≡ builder_point a
  pub here : slot_of_local b n ≡ x
  pub others : (m : ℕ) → m ≢ n → slot_of_local b m ≡ slot_of_local a m

declared_here : (n x : ℕ) (a : BuilderParts) → n < length a.slots → Declared n x a (with_local_slot a n x)
declared_here n x a lt = record {
  grown = record {
    lines = kept_all a.lines;
    variables = kept_all a.variables;
    lists = kept_all a.lists;
    pieces = kept_all a.pieces;
    labels = kept_all a.labels;
  };
  size = refl;
  locals = length-set a.slots n x;
  point = refl;
  here = get_or-set_same a.slots n x 0 lt;
  others = λ m other. get_or-set_other a.slots n m x 0 other;
}

pub declared : (n x : ℕ) (a b : BuilderParts) → n < length a.slots → b ≡ with_local_slot a n x → Declared n x a b
declared n x a b lt is = subst (λ z. Declared n x a z) (sym is) (declared_here n x a lt)

-- a variable in scope is none that is not
apart : (g : InScope) (n m : ℕ) → is_in_scope g n ≡ false → is_in_scope g m ≡ true → m ≢ n
apart g n m out inside e = true_false (is_in_scope g m) inside (ap (is_in_scope g) e ∙ out)

pub declare_emitted : (n : ℕ) (ty : «Type») (value : Term) (place d x : ℕ) (innermost : Option Loop) (a b c e : BuilderParts)
    → TermIsEmitted value a d b → ValueIsAdded b (acts Copy (d ∷ [])) ty place x c → Declared n x c e
    → StmtIsEmitted (tree.Declare n ty value place) innermost a e
declare_emitted n ty value place d x innermost a b c e h v s =
    let slots : c.slots ≡ a.slots = v.slots ∙ h.slots in
    let same : (m : ℕ) → slot_of_local c m ≡ slot_of_local a m = λ m. ap (λ z. get_or z m 0) slots in
    record {
      grown = grown_trans a c e (grown_trans a b c h.grown v.grown) s.grown;
      size = omega (arith, h.size, v.size, s.size);
      locals = s.locals ∙ ap length slots;
      kept = λ env g typed m inside. s.others m (apart g n m typed.0.0 inside) ∙ same m;
      code = λ w in_loop g scope targets typed leads knows all.
          let at_c = earlier w c e s.grown all in (
            (n, length b.variables) ∷ scope,
            (
              d,
              builder_point b,
              h.code w g ty scope typed.1 knows (earlier w b c v.grown at_c),
              action_at b c Copy (d ∷ []) ty place x w v at_c,
              knows.outside n typed.0.0,
              refl,
              s.point ∙ v.point,
            ),
            knows_more a.slots e.slots g scope n (length b.variables) (s.here ∙ v.variable)
                (λ m other. s.others m other ∙ same m) knows,
          );
    }

pub zero_emitted : (n : ℕ) (ty : «Type») (place x : ℕ) (innermost : Option Loop) (a b c : BuilderParts)
    → ValueIsAdded a (acts (zero_action ty) []) ty place x b → Declared n x b c
    → StmtIsEmitted (tree.Zero n ty place) innermost a c
zero_emitted n ty place x innermost a b c v s =
    let same : (m : ℕ) → slot_of_local b m ≡ slot_of_local a m = λ m. ap (λ z. get_or z m 0) v.slots in
    record {
      grown = grown_trans a b c v.grown s.grown;
      size = omega (arith, v.size, s.size);
      locals = s.locals ∙ ap length v.slots;
      kept = λ env g typed m inside. s.others m (apart g n m typed.0 inside) ∙ same m;
      code = λ w in_loop g scope targets typed leads knows all. (
        (n, length a.variables) ∷ scope,
        (
          action_at a b (zero_action ty) [] ty place x w v (earlier w b c s.grown all),
          knows.outside n typed.0,
          refl,
          s.point ∙ v.point,
        ),
        knows_more a.slots c.slots g scope n (length a.variables) (s.here ∙ v.variable)
            (λ m other. s.others m other ∙ same m) knows,
      );
    }
