-- Labels: made, open for a while, then placed. To place a label is the only change of a builder that is not growth; by `Placed.grown` it
-- is growth again for every builder from before the label was made.
use Rattle.std.proofs.Common.{◌≡◌, ◌≢◌, ℕ, zero, suc, ◌+◌, ◌<◌, List, [], ◌∷◌, ◌++◌, length, refl, sym, ap, ◌∙◌, subst, arith}
use Rattle.std.specs.Prelude.{Option, Some, None, slice_get, slice_set}
use Rattle.std.proofs.lemmas.Option.{slice_get_past, slice_get_within}
use Rattle.rgo_tac.specs.Code.{Op, TacFn}
use Rattle.rgo_typed.specs.declared.actions.Logical.{Logical}
use Rattle.rgo_typed.specs.declared.actions.Logical.TheVariants.{And, Or}
use Rattle.rgo_lower.specs.Lowered.{LoweringPoint, next_point, OpAt, logic_branch}
use Rattle.rgo_lower.specs.Emitted.{BuilderParts, builder_size, builder_point, with_label, with_placed, Grown, Whole, Completes, OpIsAdded, branch_to, decides}
use Rattle.rgo_lower.proofs.Growing.{kept_all, kept_before, get_last, grown_trans, label_count, placed_count}

set_same : {A : Type 0} (xs : List A) (i : ℕ) (v : A) → i < length xs → slice_get (slice_set xs i v) i ≡ Some v
set_same [] i v h = absurd (omega (arith, h))
set_same (x ∷ xs) zero v h = refl
set_same (x ∷ xs) (suc i) v h = set_same xs i v (omega (arith, h))

set_other : {A : Type 0} (xs : List A) (i j : ℕ) (v : A) → j ≢ i → slice_get (slice_set xs i v) j ≡ slice_get xs j
set_other [] i j v h = refl
set_other (x ∷ xs) zero zero v h = absurd (h refl)
set_other (x ∷ xs) zero (suc j) v h = refl
set_other (x ∷ xs) (suc i) zero v h = refl
set_other (x ∷ xs) (suc i) (suc j) v h = set_other xs i j v (λ e. h (ap suc e))

none_some : {A : Type 0} (o : Option A) (x : A) → o ≡ None → o ≡ Some x → ⊥
none_some o x e f = cc

-- ---- making

-- label k was made
pub record Fresh (a : BuilderParts) (k : ℕ) (b : BuilderParts) : Type 0 where
  pub grown : Grown a b
  pub size : builder_size b ≡ builder_size a + 1
  pub slots : b.slots ≡ a.slots
  pub point : builder_point b ≡ builder_point a
  pub unmade : slice_get a.labels k ≡ None
  pub waits : slice_get b.labels k ≡ Some None

pub fresh : (a b : BuilderParts) (k : ℕ) → k ≡ length a.labels → b ≡ with_label a → Fresh a k b
fresh a b k k_is is = record {
  grown = subst (λ z. Grown a z) (sym is) (record {
    lines = kept_all a.lines;
    variables = kept_all a.variables;
    lists = kept_all a.lists;
    pieces = kept_all a.pieces;
    labels = kept_before a.labels (None ∷ []);
  });
  size = label_count a b is;
  slots = ap (λ (z : BuilderParts). z.slots) is;
  point = ap builder_point is;
  unmade = slice_get_past a.labels k (omega (arith, k_is));
  waits =
      ap (λ (z : BuilderParts). slice_get z.labels k) is ∙ ap (slice_get (a.labels ++ None ∷ [])) k_is
      ∙ get_last a.labels None;
}

-- it was not there before either
pub unmade_before : (a b : BuilderParts) (k : ℕ) → Grown a b → slice_get b.labels k ≡ None → slice_get a.labels k ≡ None
unmade_before a b k g e = cases (slice_get a.labels k) refl
  where
    cases : (o : Option (Option ℕ)) → slice_get a.labels k ≡ o → slice_get a.labels k ≡ None
    cases None is = is
    cases (Some x) is = absurd (none_some (slice_get b.labels k) x e (g.labels k x is))

-- a label that exists is not one that is made later
pub apart : (a : BuilderParts) (j k : ℕ) → slice_get a.labels j ≡ Some None → slice_get a.labels k ≡ None → j ≢ k
apart a j k there unmade e = none_some (slice_get a.labels k) None unmade (ap (slice_get a.labels) (sym e) ∙ there)

-- ---- placing

-- label k, which was open, was placed
pub record Placed (a : BuilderParts) (k : ℕ) (b : BuilderParts) : Type 0 where
  pub size : builder_size b ≡ builder_size a
  pub slots : b.slots ≡ a.slots
  pub point : builder_point b ≡ builder_point a
  pub completes : (w : Whole) → Completes w b → Completes w a
  pub leads : (w : Whole) → Completes w b → w.leads k ≡ length a.lines
  pub grown : (base : BuilderParts) → Grown base a → slice_get base.labels k ≡ None → Grown base b
  pub others : (j : ℕ) (x : Option (Option ℕ)) → j ≢ k → slice_get a.labels j ≡ x → slice_get b.labels j ≡ x

module _ (a : BuilderParts) (k : ℕ) (waits : slice_get a.labels k ≡ Some None) where
  same_labels : (j : ℕ) → j ≢ k → slice_get (with_placed a k).labels j ≡ slice_get a.labels j
  same_labels j h = set_other a.labels k j (Some (length a.lines)) h

  not_placed : (j t : ℕ) → slice_get a.labels j ≡ Some (Some t) → j ≢ k
  not_placed j t e same = differ (sym (ap (slice_get a.labels) same ∙ waits) ∙ e)
    where
      differ : Some None ≡ Some (Some t) → ⊥
      differ d = cc

  less : (w : Whole) → Completes w (with_placed a k) → Completes w a
  less w c = record {
    lines = c.lines;
    variables = c.variables;
    lists = c.lists;
    pieces = c.pieces;
    labels = λ j t e. c.labels j t (same_labels j (not_placed j t e) ∙ e);
  }

  around : (base : BuilderParts) → Grown base a → slice_get base.labels k ≡ None → Grown base (with_placed a k)
  around base g unmade = record {
    lines = g.lines;
    variables = g.variables;
    lists = g.lists;
    pieces = g.pieces;
    labels = λ j x e.
        same_labels j (λ same. none_some (slice_get base.labels k) x unmade (ap (slice_get base.labels) (sym same)
        ∙ e))
        ∙ g.labels j x e;
  }

  leads_there : (w : Whole) → Completes w (with_placed a k) → w.leads k ≡ length a.lines
  leads_there w c =
      c.labels k (length a.lines) (set_same a.labels k (Some (length a.lines))
      (slice_get_within a.labels k None waits))

  here : Placed a k (with_placed a k)
  here = record {
    size = placed_count a (with_placed a k) k refl;
    slots = refl;
    point = refl;
    completes = less;
    leads = leads_there;
    grown = around;
    others = λ j x h e. same_labels j h ∙ e;
  }

pub placed : (a b : BuilderParts) (k : ℕ) → slice_get a.labels k ≡ Some None → b ≡ with_placed a k → Placed a k b
placed a b k waits is = subst (λ z. Placed a k z) (sym is) (here a k waits)

-- ---- instructions at another number

pub op_moved : (f : TacFn) (i j : ℕ) (op other : Op) (place : ℕ) → OpAt f i op place → j ≡ i → op ≡ other
    → OpAt f j other place
op_moved f i j op other place h e is =
    ap (slice_get f.body) e ∙ h ∙ ap (λ z. Some (record { op = z; place = place })) is

-- ---- branches

-- the branch that decides on a left side, where `next` is the label of the next instruction
abbrev pub branches : Logical → (test next other : ℕ) → Whole → Op
branches And test next other = branch_to test next other
branches Or test next other = branch_to test other next

branches_is : (logic : Logical) (w : Whole) (test next other : ℕ)
    → branches logic test next other w ≡ logic_branch logic test (w.leads next) (w.leads other)
branches_is And w test next other = refl
branches_is Or w test next other = refl

pub branch_added : (logic : Logical) (test next other place : ℕ) (a b c d : BuilderParts) → Fresh a next b
    → OpIsAdded b (branches logic test next other) place c → builder_size c ≡ builder_size b + 1 → d ≡ with_placed c next
    → OpIsAdded a (decides logic test (length a.lines + 1) other) place d
branch_added logic test next other place a b c d label branch one is =
    let there = placed c d next (branch.grown.labels next None label.waits) is in
    let line_b : length b.lines ≡ length a.lines = ap (λ (z : LoweringPoint). z.instr) label.point in
    let line_c : length c.lines ≡ length b.lines + 1 = ap (λ (z : LoweringPoint). z.instr) branch.point in
    record {
      grown = there.grown a (grown_trans a b c label.grown branch.grown) label.unmade;
      size = omega (arith, label.size, one, there.size);
      slots = there.slots ∙ branch.slots ∙ label.slots;
      point = there.point ∙ branch.point ∙ ap next_point label.point;
      instr = λ w k.
          op_moved w.f (length b.lines) (length a.lines) _ _ place (branch.instr w (there.completes w k)) (sym line_b)
          (branches_is logic w test next other
          ∙ ap (λ z. logic_branch logic test z (w.leads other)) (there.leads w k ∙ line_c ∙ ap (λ z. z + 1) line_b));
    }
