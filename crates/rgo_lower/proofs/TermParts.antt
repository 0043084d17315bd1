-- The code of terms, put together from that of their parts. The hard case is `&&` and `||`: the label of their end stays open while the
-- right side is emitted, and `logic_end` follows it to where it is placed.
use Rattle.std.proofs.Common.{◌≡◌, ℕ, zero, suc, ◌+◌, ◌<◌, ◌≤◌, Bool, true, false, ◌&&◌, List, [], ◌∷◌, length, map, drop, get_or, refl, sym, ap, ◌∙◌, subst, arith}
use Rattle.std.specs.Prelude.{Option, Some, None, slice_get}
use Rattle.std.proofs.lemmas.List.{drop_more, at_drop_more, at_drop_all}
use Rattle.rgo_typed.specs.declared.actions.Action.{Action}
use Rattle.rgo_typed.specs.declared.actions.Action.TheVariants.{Copy, New, Store}
use Rattle.rgo_typed.specs.declared.actions.Logical.{Logical}
use Rattle.rgo_typed.specs.declared.types.Type.{«Type»}
use Rattle.rgo_typed.specs.Tree as tree
use Rattle.rgo_typed.specs.Tree.{Term, Terms, terms_of, Function}
use Rattle.rgo_typed.specs.declared.terms.Term.{Term as CodeTerm}
use Rattle.rgo_typed.specs.Views.{term_of}
use Rattle.rgo_wellformed.specs.TypeRules.{Signature}
use Rattle.rgo_wellformed.specs.WellFormed.{signature_of}
use Rattle.rgo_tac.specs.Code.{Do, TacFn}
use Rattle.rgo_lower.specs.Lowered.{LoweringPoint, next_point, after_value, OpAt, ActionAt, bool_type, pointer_type, logic_branch, function_result_type, StoresAt, TermAt}
use Rattle.rgo_lower.specs.Emitted.{BuilderParts, builder_point, slot_of_local, Grown, Whole, Completes, OpIsAdded, ValueIsAdded, always, acts, calls, decides}
use Rattle.rgo_lower.specs.Emitted.{ScopeHasSlots, TermIsEmitted, TermsAreEmitted, FieldsAreStored}
use Rattle.rgo_lower.specs.Shapes.{term_fits, terms_fit}
use Rattle.rgo_lower.specs.Sizes.{term_size, terms_size}
use Rattle.rgo_lower.proofs.Growing.{grown_same, grown_trans, earlier}
use Rattle.rgo_lower.proofs.Labels.{Fresh, Placed, unmade_before, op_moved}

-- ---- several terms

pub none_emitted : (a : BuilderParts) → TermsAreEmitted tree.no_terms a [] a
none_emitted a = record {
  grown = grown_same a;
  size = omega arith;
  values = refl;
  slots = refl;
  code = λ w g types scope h k c. (refl, refl);
}

pub more_emitted : (t : Term) (ts : Terms) (a b c : BuilderParts) (d : ℕ) (ds : List ℕ) → TermIsEmitted t a d b
    → TermsAreEmitted ts b ds c → TermsAreEmitted (tree.a_term t ts) a (d ∷ ds) c
more_emitted t ts a b c d ds h hs = record {
  grown = grown_trans a b c h.grown hs.grown;
  size = omega (arith, h.size, hs.size);
  values = omega (arith, hs.values);
  slots = hs.slots ∙ h.slots;
  code = λ w g types scope typed knows all. (
    d,
    ds,
    builder_point b,
    h.code w g typed.0 scope typed.3 knows (earlier w b c hs.grown all),
    hs.code w g typed.1 scope typed.4 (subst (λ z. ScopeHasSlots z g scope) (sym h.slots) knows) all,
    refl,
  );
}

-- ---- terms

pub local_emitted : (a : BuilderParts) (n d : ℕ) → d ≡ slot_of_local a n → TermIsEmitted (tree.Local n) a d a
local_emitted a n d is = record {
  grown = grown_same a;
  size = omega arith;
  slots = refl;
  code = λ w g ty scope h k c. (k.inside n h.0 ∙ ap Some (sym is), refl);
}

-- the instruction and the variable of an action
pub action_at : (a b : BuilderParts) (action : Action) (from : List ℕ) (ty : «Type») (place d : ℕ) (w : Whole)
    → ValueIsAdded a (acts action from) ty place d b → Completes w b
    → ActionAt w.f (builder_point a) action from ty place
action_at a b action from ty place d w h c = record { instr = h.instr w c; variable = h.kind w c }

pub apply_emitted : (action : Action) (parts : Terms) (ty : «Type») (place d : ℕ) (from : List ℕ) (a b c : BuilderParts)
    → TermsAreEmitted parts a from b → ValueIsAdded b (acts action from) ty place d c
    → TermIsEmitted (tree.Apply action parts ty place) a d c
apply_emitted action parts ty place d from a b c h v = record {
  grown = grown_trans a b c h.grown v.grown;
  size = omega (arith, h.size, v.size);
  slots = v.slots ∙ h.slots;
  code = λ w g t scope typed knows all. (
    from,
    builder_point b,
    h.code w g typed.2 scope typed.3 knows (earlier w b c v.grown all),
    action_at b c action from ty place d w v all,
    v.variable,
    v.point,
  );
}

-- ---- calls

result_in : (functions : List Function) (f : TacFn) (n : ℕ) (s : Signature)
    → slice_get (map signature_of functions) n ≡ Some s → function_result_type functions f n ≡ Some s.result_type
result_in [] f n s e = absurd (none e)
  where
    none : None ≡ Some s → ⊥
    none e = cc
result_in (g ∷ functions) f zero s e = ap Some (ap (λ (z : Signature). z.result_type) (same e))
  where
    same : Some (signature_of g) ≡ Some s → signature_of g ≡ s
    same e = cc
result_in (g ∷ functions) f (suc n) s e = result_in functions f n s e

-- the result of a function that the program declares
pub result_is : (w : Whole) (n : ℕ) (s : Signature) (result : Option «Type»)
    → slice_get w.declared.functions n ≡ Some s
    → s.result_type ≡ result → function_result_type w.functions w.f n ≡ Some result
result_is w n s result e is =
    result_in w.functions w.f n s (ap (λ z. slice_get z n) (sym w.signed) ∙ e) ∙ ap Some is

pub call_emitted : (n : ℕ) (arguments : Terms) (ty : «Type») (place d : ℕ) (from : List ℕ) (a b c : BuilderParts)
    → TermsAreEmitted arguments a from b → ValueIsAdded b (calls n from) ty place d c
    → TermIsEmitted (tree.Call n arguments ty place) a d c
call_emitted n arguments ty place d from a b c h v = record {
  grown = grown_trans a b c h.grown v.grown;
  size = omega (arith, h.size, v.size);
  slots = v.slots ∙ h.slots;
  code = λ w g t scope typed knows all. (
    from,
    builder_point b,
    h.code w g typed.1.params scope typed.3 knows (earlier w b c v.grown all),
    v.instr w all,
    v.kind w all,
    result_is w n typed.1 (Some ty) typed.2 typed.4,
    v.variable,
    v.point,
  );
}

-- ---- objects

pub none_stored : (object place : ℕ) (a : BuilderParts) → FieldsAreStored object [] [] place a a
none_stored object place a = record { grown = grown_same a; size = omega arith; slots = refl; code = λ w c. refl }

pub more_stored : (object k d place : ℕ) (fields ds : List ℕ) (a b c : BuilderParts)
    → OpIsAdded a (always (Do None (Store k) (object ∷ d ∷ []))) place b → FieldsAreStored object fields ds place b c
    → FieldsAreStored object (k ∷ fields) (d ∷ ds) place a c
more_stored object k d place fields ds a b c h hs = record {
  grown = grown_trans a b c h.grown hs.grown;
  size = omega (arith, h.size, hs.size);
  slots = hs.slots ∙ h.slots;
  code = λ w all. (
    h.instr w (earlier w b c hs.grown all),
    subst (λ z. StoresAt w.functions w.f object fields ds place z (builder_point c)) h.point (hs.code w all),
  );
}

pub build_emitted : (n : ℕ) (parts : Terms) (fields : List ℕ) (place d : ℕ) (from : List ℕ) (a b c e : BuilderParts)
    → TermsAreEmitted parts a from b → ValueIsAdded b (acts (New n) []) (pointer_type n) place d c
    → FieldsAreStored d fields from place c e → TermIsEmitted (tree.Build n parts fields place) a d e
build_emitted n parts fields place d from a b c e h v s = record {
  grown = grown_trans a b e h.grown (grown_trans b c e v.grown s.grown);
  size = omega (arith, h.size, v.size, s.size);
  slots = s.slots ∙ v.slots ∙ h.slots;
  code = λ w g t scope typed knows all.
      let before = earlier w c e s.grown all in (
        from,
        builder_point b,
        h.code w g typed.3 scope typed.4 knows (earlier w b c v.grown before),
        action_at b c (New n) [] (pointer_type n) place d w v before,
        subst (λ z. StoresAt w.functions w.f z fields from place (after_value (builder_point b)) (builder_point e)) v.variable
            (subst (λ z. StoresAt w.functions w.f d fields from place z (builder_point e)) v.point (s.code w all)),
        v.variable,
      );
}

-- ---- && and ||

-- the label of the end is still open where it is placed
pub logic_end : (logic : Logical) (right : Term) (place d r end : ℕ) (c e f g h : BuilderParts) → Fresh c end e
    → OpIsAdded e (decides logic d (length e.lines + 1) end) place f → TermIsEmitted right f r g
    → OpIsAdded g (always (Do (Some d) Copy (r ∷ []))) place h → slice_get h.labels end ≡ Some None
logic_end logic right place d r end c e f g h label branch second store =
    store.grown.labels end None (second.grown.labels end None (branch.grown.labels end None label.waits))

module _ (logic : Logical) (left right : Term) (place l d r end : ℕ) (a b c e f g h i : BuilderParts)
    (first : TermIsEmitted left a l b) (copy : ValueIsAdded b (acts Copy (l ∷ [])) bool_type place d c)
    (label : Fresh c end e) (branch : OpIsAdded e (decides logic d (length e.lines + 1) end) place f)
    (second : TermIsEmitted right f r g) (store : OpIsAdded g (always (Do (Some d) Copy (r ∷ []))) place h)
    (ends : Placed h end i) where
  to_e : Grown a e
  to_e = grown_trans a c e (grown_trans a b c first.grown copy.grown) label.grown

  e_to_h : Grown e h
  e_to_h = grown_trans e g h (grown_trans e f g branch.grown second.grown) store.grown

  point_f : builder_point f ≡ next_point (after_value (builder_point b))
  point_f = branch.point ∙ ap next_point (label.point ∙ copy.point)

  line_e : length e.lines ≡ length b.lines + 1
  line_e = ap (λ (z : LoweringPoint). z.instr) (label.point ∙ copy.point)

  line_h : length h.lines ≡ length g.lines + 1
  line_h = ap (λ (z : LoweringPoint). z.instr) store.point

  slots_e : e.slots ≡ a.slots
  slots_e = label.slots ∙ copy.slots ∙ first.slots

  slots_f : f.slots ≡ a.slots
  slots_f = branch.slots ∙ slots_e

  branch_at : (w : Whole) → Completes w f → w.leads end ≡ length h.lines
      → OpAt w.f (length b.lines + 1)
      (logic_branch logic (length b.variables) (length b.lines + 2) (length g.lines + 1)) place
  branch_at w all leads =
      let next : length e.lines + 1 ≡ length b.lines + 2 = omega (arith, line_e) in
      op_moved w.f (length e.lines) (length b.lines + 1) _ _ place (branch.instr w all) (sym line_e)
      (λ j. logic_branch logic (copy.variable j) (next j) ((leads ∙ line_h) j))

  pub logic_emitted : TermIsEmitted (tree.Logic logic left right place) a d i
  logic_emitted = record {
    grown = ends.grown a (grown_trans a e h to_e e_to_h) (unmade_before a c end
        (grown_trans a b c first.grown copy.grown) label.unmade);
    size = omega (arith, first.size, copy.size, label.size, branch.size, second.size, store.size, ends.size);
    slots = ends.slots ∙ store.slots ∙ second.slots ∙ slots_f;
    code = λ w s ty scope typed knows all.
        let at_h = ends.completes w all in
        let at_g = earlier w g h store.grown at_h in
        let at_f = earlier w f g second.grown at_g in
        let at_c = earlier w c e label.grown (earlier w e f branch.grown at_f) in (
          l,
          builder_point b,
          first.code w s bool_type scope typed.1 knows (earlier w b c copy.grown at_c),
          action_at b c Copy (l ∷ []) bool_type place d w copy at_c,
          r,
          builder_point g,
          branch_at w at_f (ends.leads w all),
          subst (λ z. TermAt w.functions w.f scope right z r (builder_point g)) point_f
              (second.code w s bool_type scope typed.2 (subst (λ z. ScopeHasSlots z s scope) (sym slots_f) knows) at_g),
          op_moved w.f (length g.lines) (length g.lines) _ _ place (store.instr w at_h) refl
              (ap (λ z. Do (Some z) Copy (r ∷ [])) copy.variable),
          copy.variable,
          ends.point ∙ store.point,
        );
  }

-- ---- in the words of the code's loops

pub next_stored : (object place i : ℕ) (fields from : List ℕ) (a b new : BuilderParts) → i < length fields
    → length fields ≡ length from
    → OpIsAdded a (always (Do None (Store (get_or fields i 0)) (object ∷ get_or from i 0 ∷ []))) place b
    → FieldsAreStored object (drop (i + 1) fields) (drop (i + 1) from) place b new
    → FieldsAreStored object (drop i fields) (drop i from) place a new
next_stored object place i fields from a b new lt same h rest =
    subst (λ z. FieldsAreStored object z (drop i from) place a new) (sym (drop_more fields i 0 lt))
    (subst (λ z. FieldsAreStored object (get_or fields i 0 ∷ drop (i + 1) fields) z place a new)
    (sym (drop_more from i 0 (omega (arith, lt, same))))
    (more_stored object (get_or fields i 0) (get_or from i 0) place (drop (i + 1) fields) (drop (i + 1) from) a b new h
    rest))

pub end_stored : (object place i : ℕ) (fields from : List ℕ) (a : BuilderParts) → length fields ≤ i
    → length fields ≡ length from → FieldsAreStored object (drop i fields) (drop i from) place a a
end_stored object place i fields from a le same =
    subst (λ z. FieldsAreStored object z (drop i from) place a a) (sym (at_drop_all (λ l. l) fields i le))
    (subst (λ z. FieldsAreStored object [] z place a a) (sym (at_drop_all (λ l. l) from i (omega (arith, le, same))))
    (none_stored object place a))

abbrev all_terms : List CodeTerm → Terms
all_terms l = terms_of (map term_of l)

pub next_emitted : (items : List CodeTerm) (i : ℕ) (x : CodeTerm) (a b new : BuilderParts) (d : ℕ) (ds : List ℕ)
    → i < length items → x ≡ get_or items i x → TermIsEmitted (term_of x) a d b
    → TermsAreEmitted (terms_of (map term_of (drop (i + 1) items))) b ds new
    → TermsAreEmitted (terms_of (map term_of (drop i items))) a (d ∷ ds) new
next_emitted items i x a b new d ds lt is h rest =
    subst (λ z. TermsAreEmitted z a (d ∷ ds) new) (sym (at_drop_more all_terms items i x lt))
    (subst (λ z. TermsAreEmitted (tree.a_term (term_of z) (all_terms (drop (i + 1) items))) a (d ∷ ds) new) is
    (more_emitted (term_of x) (all_terms (drop (i + 1) items)) a b new d ds h rest))

-- what the rest of the terms counts
pub next_size : (items : List CodeTerm) (i : ℕ) (x : CodeTerm) → i < length items → x ≡ get_or items i x
    → terms_size (terms_of (map term_of (drop i items)))
    ≡ term_size (term_of x) + terms_size (terms_of (map term_of (drop (i + 1) items)))
next_size items i x lt is =
    at_drop_more (λ l. terms_size (all_terms l)) items i x lt
    ∙ ap (λ z. term_size (term_of z) + terms_size (all_terms (drop (i + 1) items))) (sym is)

-- both sides of a conjunction
pub sides : (a b : Bool) → a && b ≡ true → (a ≡ true) × (b ≡ true)
sides true b e = (refl, e)
sides false b e = absurd (false_true e)
  where
    false_true : false ≡ true → ⊥
    false_true e = cc

-- the first of the rest of the terms fits, and so do those after it
pub next_fits : (items : List CodeTerm) (i : ℕ) (x : CodeTerm) → i < length items → x ≡ get_or items i x
    → terms_fit (terms_of (map term_of (drop i items))) ≡ true
    → (term_fits (term_of x) ≡ true) × (terms_fit (terms_of (map term_of (drop (i + 1) items))) ≡ true)
next_fits items i x lt is h =
    let rest = all_terms (drop (i + 1) items) in
    let more =
    at_drop_more (λ l. terms_fit (all_terms l)) items i x lt ∙ ap (λ z. term_fits (term_of z) && terms_fit rest) (sym is) in
    sides (term_fits (term_of x)) (terms_fit rest) (sym more ∙ h)

pub end_emitted : (items : List CodeTerm) (i : ℕ) (a : BuilderParts) → length items ≤ i
    → TermsAreEmitted (terms_of (map term_of (drop i items))) a [] a
end_emitted items i a le =
    subst (λ z. TermsAreEmitted z a [] a) (sym (at_drop_all all_terms items i le)) (none_emitted a)
