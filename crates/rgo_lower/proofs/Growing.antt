-- Builders that grow: lists, single instructions, and functions that complete what a builder was given. By `earlier` a function that
-- completes a builder completes all earlier ones, so what was said of their code still holds.
use Rattle.std.proofs.Common.{◌≡◌, ℕ, zero, suc, ◌+◌, ◌≤◌, arith, List, [], ◌∷◌, ◌++◌, length, get_or, refl, sym, ap, ◌∙◌, subst, length-append, append_assoc}
use Rattle.std.specs.Prelude.{Some, None, Result, Ok, Err, IfOk, slice_get, slice_set}
use Rattle.std.proofs.lemmas.Option.{get_or_from_slice_get}
use Rattle.rgo_typed.specs.declared.types.Type.{«Type»}
use Rattle.rgo_typed.specs.declared.statements.Piece.{Piece}
use Rattle.rgo_tac.specs.declared.code.Instr.{Instr}
use Rattle.rgo_tac.specs.Code.{Op}
use Rattle.rgo_tac.specs.Views.{op_of}
use Rattle.rgo_lower.specs.declared.builder.Line.{Line}
use Rattle.rgo_lower.specs.Lowered.{next_point, after_value, OpAt}
use Rattle.rgo_lower.specs.Emitted.{BuilderParts, builder_size, builder_point, with_emitted_line, with_emitted_variable, with_list, with_pieces, with_label, with_placed, resolved_instr}
use Rattle.rgo_lower.specs.Emitted.{Kept, Grown, Whole, Completes, OpIsAdded, ValueIsAdded, always}

-- ---- lists

pub kept_all : {A : Type 0} (xs : List A) → Kept xs xs
kept_all xs i x e = e

-- items before the end
pub kept_before : {A : Type 0} (xs ys : List A) → Kept xs (xs ++ ys)
kept_before [] ys i x e = absurd (none e)
  where
    none : None ≡ Some x → ⊥
    none e = cc
kept_before (y ∷ xs) ys zero x e = e
kept_before (y ∷ xs) ys (suc i) x e = kept_before xs ys i x e

pub get_last : {A : Type 0} (xs : List A) (x : A) → slice_get (xs ++ x ∷ []) (length xs) ≡ Some x
get_last [] x = refl
get_last (y ∷ xs) x = get_last xs x

one_more : {A : Type 0} (xs : List A) (x : A) → length (xs ++ x ∷ []) ≡ length xs + 1
one_more xs x = length-append xs (x ∷ [])

-- one item more in front of the rest
pub one_more_before : {A : Type 0} (xs ys zs : List A) (x : A) → ys ≡ xs ++ x ∷ [] → xs ++ x ∷ zs ≡ ys ++ zs
one_more_before xs ys zs x is = sym (append_assoc xs (x ∷ []) zs) ∙ ap (λ z. z ++ zs) (sym is)

-- ---- growth

pub grown_same : (a : BuilderParts) → Grown a a
grown_same a = record {
  lines = kept_all a.lines;
  variables = kept_all a.variables;
  lists = kept_all a.lists;
  pieces = kept_all a.pieces;
  labels = kept_all a.labels;
}

pub grown_trans : (a b c : BuilderParts) → Grown a b → Grown b c → Grown a c
grown_trans a b c h k = record {
  lines = λ i x e. k.lines i x (h.lines i x e);
  variables = λ i x e. k.variables i x (h.variables i x e);
  lists = λ i x e. k.lists i x (h.lists i x e);
  pieces = λ i x e. k.pieces i x (h.pieces i x e);
  labels = λ i x e. k.labels i x (h.labels i x e);
}

-- what completes more completes less
pub earlier : (w : Whole) (a b : BuilderParts) → Grown a b → Completes w b → Completes w a
earlier w a b h c = record {
  lines = λ i x e. c.lines i x (h.lines i x e);
  variables = λ i x e. c.variables i x (h.variables i x e);
  lists = λ i x e. c.lists i x (h.lists i x e);
  pieces = λ i x e. c.pieces i x (h.pieces i x e);
  labels = λ k t e. c.labels k t (h.labels k (Some t) e);
}

-- ---- what a builder is given

grown_line : (a : BuilderParts) (i : Instr) (place : ℕ) → Grown a (with_emitted_line a i place)
grown_line a i place = record {
  lines = kept_before a.lines (record { instr = i; place = place } ∷ []);
  variables = kept_all a.variables;
  lists = kept_all a.lists;
  pieces = kept_all a.pieces;
  labels = kept_all a.labels;
}

grown_variable : (a : BuilderParts) (ty : «Type») → Grown a (with_emitted_variable a ty)
grown_variable a ty = record {
  lines = kept_all a.lines;
  variables = kept_before a.variables (ty ∷ []);
  lists = kept_all a.lists;
  pieces = kept_all a.pieces;
  labels = kept_all a.labels;
}

pub grown_list : (a : BuilderParts) (l : List ℕ) → Grown a (with_list a l)
grown_list a l = record {
  lines = kept_all a.lines;
  variables = kept_all a.variables;
  lists = kept_before a.lists (l ∷ []);
  pieces = kept_all a.pieces;
  labels = kept_all a.labels;
}

pub grown_pieces : (a : BuilderParts) (l : List Piece) → Grown a (with_pieces a l)
grown_pieces a l = record {
  lines = kept_all a.lines;
  variables = kept_all a.variables;
  lists = kept_all a.lists;
  pieces = kept_before a.pieces (l ∷ []);
  labels = kept_all a.labels;
}

-- ---- how many there are

pub line_count : (a b : BuilderParts) (i : Instr) (place : ℕ) → b ≡ with_emitted_line a i place → builder_size b ≡ builder_size a + 1
line_count a b i place is = ap builder_size is ∙ omega (arith, one_more a.lines (record { instr = i; place = place }))

pub variable_count : (a b : BuilderParts) (ty : «Type») → b ≡ with_emitted_variable a ty → builder_size b ≡ builder_size a + 1
variable_count a b ty is = ap builder_size is ∙ omega (arith, one_more a.variables ty)

pub list_count : (a b : BuilderParts) (l : List ℕ) → b ≡ with_list a l → builder_size b ≡ builder_size a + 1
list_count a b l is = ap builder_size is ∙ omega (arith, one_more a.lists l)

pub pieces_count : (a b : BuilderParts) (l : List Piece) → b ≡ with_pieces a l → builder_size b ≡ builder_size a + 1
pieces_count a b l is = ap builder_size is ∙ omega (arith, one_more a.pieces l)

pub label_count : (a b : BuilderParts) → b ≡ with_label a → builder_size b ≡ builder_size a + 1
label_count a b is = ap builder_size is ∙ omega (arith, one_more a.labels None)

same_length : {A : Type 0} (xs : List A) (i : ℕ) (v : A) → length (slice_set xs i v) ≡ length xs
same_length [] i v = refl
same_length (x ∷ xs) zero v = refl
same_length (x ∷ xs) (suc i) v = let rest = same_length xs i v in omega (arith, rest)

pub placed_count : (a b : BuilderParts) (k : ℕ) → b ≡ with_placed a k → builder_size b ≡ builder_size a
placed_count a b k is = ap builder_size is ∙ omega (arith, same_length a.labels k (Some (length a.lines)))

-- ---- instructions with what they name

-- an instruction at the end
pub op_added : (a b : BuilderParts) (i : Instr) (op : Whole → Op) (place : ℕ) → b ≡ with_emitted_line a i place
    → ((w : Whole) → Completes w b → op_of w.lists w.pieces (resolved_instr w.leads i) ≡ op w)
    → OpIsAdded a op place b
op_added a b i op place is means =
    let line : Line = record { instr = i; place = place } in
    record {
      grown = subst (λ z. Grown a z) (sym is) (grown_line a i place);
      size = omega (arith, line_count a b i place is);
      slots = ap (λ (z : BuilderParts). z.slots) is;
      point =
          ap builder_point is
          ∙ (λ j. record { instr = one_more a.lines line j; variable = length a.variables });
      instr = λ w c.
          c.lines (length a.lines) line (ap (λ (z : BuilderParts). slice_get z.lines (length a.lines)) is
          ∙ get_last a.lines line)
          ∙ ap (λ z. Some (record { op = z; place = place })) (means w c);
    }

-- an instruction that sets a new variable
pub value_added : (a b c : BuilderParts) (i : Instr) (op : ℕ → Op) (ty : «Type») (place d : ℕ) → d ≡ length a.variables
    → b ≡ with_emitted_variable a ty → c ≡ with_emitted_line b i place
    → ((w : Whole) → Completes w c → op_of w.lists w.pieces (resolved_instr w.leads i) ≡ op d)
    → ValueIsAdded a op ty place d c
value_added a b c i op ty place d d_is b_is c_is means =
    let line : Line = record { instr = i; place = place } in
    let new : c ≡ with_emitted_line (with_emitted_variable a ty) i place = c_is ∙ ap (λ z. with_emitted_line z i place) b_is in
    record {
      grown =
          subst (λ z. Grown a z) (sym new)
          (grown_trans a (with_emitted_variable a ty) (with_emitted_line (with_emitted_variable a ty) i place)
          (grown_variable a ty) (grown_line (with_emitted_variable a ty) i place));
      size = omega (arith, variable_count a b ty b_is, line_count b c i place c_is);
      slots = ap (λ (z : BuilderParts). z.slots) new;
      variable = d_is;
      point =
          ap builder_point new
          ∙ (λ j. record { instr = one_more a.lines line j; variable = one_more a.variables ty j });
      instr = λ w k.
          k.lines (length a.lines) line
          (ap (λ (z : BuilderParts). slice_get z.lines (length a.lines)) new ∙ get_last a.lines line)
          ∙ ap (λ z. Some (record { op = z; place = place })) (means w k ∙ ap op d_is);
      kind = λ w k.
          k.variables (length a.variables) ty
          (ap (λ (z : BuilderParts). slice_get z.variables (length a.variables)) new ∙ get_last a.variables ty);
    }

-- after a list was added
pub op_after_list : (a b c : BuilderParts) (l : List ℕ) (op : Whole → Op) (place : ℕ) → b ≡ with_list a l
    → OpIsAdded b op place c → builder_size c ≤ builder_size a + 3 → OpIsAdded a op place c
op_after_list a b c l op place is h few =
    let g = subst (λ z. Grown a z) (sym is) (grown_list a l) in
    record {
      grown = grown_trans a b c g h.grown;
      size = few;
      slots = h.slots ∙ ap (λ (z : BuilderParts). z.slots) is;
      point = h.point ∙ ap (λ z. next_point (builder_point z)) is;
      instr = λ w k. subst (λ (z : BuilderParts). OpAt w.f (length z.lines) (op w) place) is (h.instr w k);
    }

pub value_after_list : (a b c : BuilderParts) (l : List ℕ) (op : ℕ → Op) (ty : «Type») (place d : ℕ) → b ≡ with_list a l
    → ValueIsAdded b op ty place d c → builder_size c ≤ builder_size a + 3 → ValueIsAdded a op ty place d c
value_after_list a b c l op ty place d is h few =
    let g = subst (λ z. Grown a z) (sym is) (grown_list a l) in
    record {
      grown = grown_trans a b c g h.grown;
      size = few;
      slots = h.slots ∙ ap (λ (z : BuilderParts). z.slots) is;
      variable = h.variable ∙ ap (λ (z : BuilderParts). length z.variables) is;
      point = h.point ∙ ap (λ z. after_value (builder_point z)) is;
      instr = λ w k.
          subst (λ (z : BuilderParts). OpAt w.f (length z.lines) (op (length z.variables)) place) is (h.instr w k);
      kind = λ w k. subst (λ (z : BuilderParts). slice_get w.f.variables (length z.variables) ≡ Some ty) is (h.kind w k);
    }

-- the list of this number in the finished function
pub list_in : (w : Whole) (a b c : BuilderParts) (l : List ℕ) (n : ℕ) → n ≡ length a.lists → b ≡ with_list a l → Grown b c
    → Completes w c → get_or w.lists n [] ≡ l
list_in w a b c l n n_is is g k =
    get_or_from_slice_get w.lists n l []
    (k.lists n l (g.lists n l (ap (λ (z : BuilderParts). slice_get z.lists n) is ∙ ap (slice_get (a.lists ++ l ∷ [])) n_is
    ∙ get_last a.lists l)))

pub pieces_in : (w : Whole) (a b c : BuilderParts) (l : List Piece) (n : ℕ) → n ≡ length a.pieces → b ≡ with_pieces a l
    → Grown b c → Completes w c → get_or w.pieces n [] ≡ l
pieces_in w a b c l n n_is is g k =
    get_or_from_slice_get w.pieces n l []
    (k.pieces n l (g.pieces n l (ap (λ (z : BuilderParts). slice_get z.pieces n) is ∙ ap (slice_get (a.pieces ++ l ∷ [])) n_is
    ∙ get_last a.pieces l)))

-- ---- instructions with a list, with pieces

-- the operation of an instruction that takes list n
abbrev pub MeansWithList : Instr → (n : ℕ) → List ℕ → Op → Type 0
MeansWithList i n l op = (w : Whole) → get_or w.lists n [] ≡ l → op_of w.lists w.pieces (resolved_instr w.leads i) ≡ op

pub op_with_list : (a b c : BuilderParts) (i : Instr) (op : Op) (l : List ℕ) (place n : ℕ) → n ≡ length a.lists
    → b ≡ with_list a l → c ≡ with_emitted_line b i place → MeansWithList i n l op → OpIsAdded a (always op) place c
op_with_list a b c i op l place n n_is b_is c_is means =
    op_after_list a b c l (always op) place b_is
    (op_added b c i (always op) place c_is (λ w k. means w
    (list_in w a b c l n n_is b_is (subst (λ z. Grown b z) (sym c_is) (grown_line b i place)) k)))
    (omega (arith, list_count a b l b_is, line_count b c i place c_is))

pub value_with_list : (a b c d : BuilderParts) (i : Instr) (op : ℕ → Op) (ty : «Type») (l : List ℕ) (place n to : ℕ)
    → n ≡ length a.lists → b ≡ with_list a l → to ≡ length b.variables → c ≡ with_emitted_variable b ty
    → d ≡ with_emitted_line c i place → MeansWithList i n l (op to) → ValueIsAdded a op ty place to d
value_with_list a b c d i op ty l place n to n_is b_is to_is c_is d_is means =
    let g = subst (λ z. Grown b z) (sym c_is) (grown_variable b ty) in
    let g2 = subst (λ z. Grown c z) (sym d_is) (grown_line c i place) in
    value_after_list a b d l op ty place to b_is
    (value_added b c d i op ty place to to_is c_is d_is
    (λ w k. means w (list_in w a b d l n n_is b_is (grown_trans b c d g g2) k)))
    (omega (arith, list_count a b l b_is, variable_count b c ty c_is, line_count c d i place d_is))

pub op_with_pieces : (a b c d : BuilderParts) (i : Instr) (op : Op) (p : List Piece) (l : List ℕ) (place m n : ℕ)
    → m ≡ length a.pieces → b ≡ with_pieces a p → n ≡ length b.lists → c ≡ with_list b l → d ≡ with_emitted_line c i place
    → ((w : Whole) → get_or w.pieces m [] ≡ p → get_or w.lists n [] ≡ l
    → op_of w.lists w.pieces (resolved_instr w.leads i) ≡ op)
    → OpIsAdded a (always op) place d
op_with_pieces a b c d i op p l place m n m_is b_is n_is c_is d_is means =
    let g = subst (λ z. Grown a z) (sym b_is) (grown_pieces a p) in
    let g2 = subst (λ z. Grown b z) (sym c_is) (grown_list b l) in
    let g3 = subst (λ z. Grown c z) (sym d_is) (grown_line c i place) in
    let all = op_after_list b c d l (always op) place c_is
    (op_added c d i (always op) place d_is (λ w k. means w
    (pieces_in w a b d p m m_is b_is (grown_trans b c d g2 g3) k) (list_in w b c d l n n_is c_is g3 k)))
    (omega (arith, list_count b c l c_is, line_count c d i place d_is)) in
    record {
      grown = grown_trans a b d g all.grown;
      size = omega (arith, pieces_count a b p b_is, list_count b c l c_is, line_count c d i place d_is);
      slots = all.slots ∙ ap (λ (z : BuilderParts). z.slots) b_is;
      point = all.point ∙ ap (λ z. next_point (builder_point z)) b_is;
      instr = λ w k. subst (λ (z : BuilderParts). OpAt w.f (length z.lines) op place) b_is (all.instr w k);
    }

-- ---- results

pub ok_map : {A E : Type 0} (r : Result A E) (P Q : Type 0) → (P → Q) → IfOk r (λ x. P) → IfOk r (λ x. Q)
ok_map (Ok x) P Q f h = f h
ok_map (Err e) P Q f h = tt
