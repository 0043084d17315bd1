-- Functions that are not complete yet, with one more variable or instruction. Lists added at the end leave the others as they are, since
-- earlier instructions refer to lower numbers (`below_more`).
use Rattle.std.proofs.Common.{◌≡◌, ℕ, ◌≤◌, List, [], ◌∷◌, ◌++◌, length, get_or, drop, refl, sym, ap, ◌∙◌, arith}
use Rattle.std.specs.Prelude.{Option, Some, None}
use Rattle.std.specs.Option.{option_map}
use Rattle.std.specs.List.{All}
use Rattle.std.proofs.lemmas.List.{get_or_append_left, get_or-append-add}
use Rattle.std.proofs.lemmas.List.Elements.{All-head, All-tail, All-push}
use Rattle.rgo_typed.specs.declared.statements.Piece.{Piece}
use Rattle.rgo_typed.specs.declared.types.Type.{«Type»}
use Rattle.rgo_tac.specs.declared.code.Instr.{Instr}
use Rattle.rgo_tac.specs.declared.code.Instr.TheVariants as code
use Rattle.rgo_tac.specs.declared.regions.Class.{Class}
use Rattle.rgo_tac.specs.Code as tac
use Rattle.rgo_tac.specs.Views.{op_of, body_of}
use Rattle.rgo_code.specs.declared.notes.Note.{Note}
use Rattle.rgo_code.specs.declared.notes.Regions.{Regions}
use Rattle.rgo_code.specs.Views.{slot, slots, code_instr, code_body, code_fn, code_fns, code_of}
use Rattle.rgo_code.specs.declared.code.Undeclared.{Undeclared}
use Rattle.rgo_code_text.specs.Building.{built}
use Rattle.rgo_code_text.specs.CodeLines.{Line, Building, with_line, with_lines}
use Rattle.rgo_code_text.specs.Opened.{ListsBelow}
use Rattle.rgo_code_printing.specs.Text.{Names}

-- ---- variables and functions

pub slots_push : (ts : List «Type») (cs : List Class) (t : «Type») (c : Class) → length cs ≡ length ts
    → slots (ts ++ t ∷ []) (cs ++ c ∷ []) ≡ slots ts cs ++ slot t c ∷ []
slots_push [] [] t c e = refl
slots_push [] (d ∷ cs) t c e = absurd (omega (arith, e))
slots_push (u ∷ ts) [] t c e = absurd (omega (arith, e))
slots_push (u ∷ ts) (d ∷ cs) t c e = ap (λ r. slot u d ∷ r) (slots_push ts cs t c (omega (arith, e)))

pub fns_push : (fs : List tac.TacFn) (rs : List Regions) (f : tac.TacFn) (r : Regions) → length rs ≡ length fs
    → code_fns (fs ++ f ∷ []) (rs ++ r ∷ []) ≡ code_fns fs rs ++ code_fn f r ∷ []
fns_push [] [] f r e = refl
fns_push [] (s ∷ rs) f r e = absurd (omega (arith, e))
fns_push (g ∷ fs) [] f r e = absurd (omega (arith, e))
fns_push (g ∷ fs) (s ∷ rs) f r e = ap (λ t. code_fn g s ∷ t) (fns_push fs rs f r (omega (arith, e)))

-- ---- lists

pub below_more : (m n : ℕ) (i : Instr) → m ≤ n → ListsBelow m i → ListsBelow n i
below_more m n (code.Call d f k) le b = omega (arith, le, b)
below_more m n (code.Invoke f k) le b = omega (arith, le, b)
below_more m n (code.Go f k) le b = omega (arith, le, b)
below_more m n (code.Print p k) le b = (omega (arith, le, b.0), omega (arith, le, b.1))
below_more m n _ le b = tt

pub all_below : (m n : ℕ) (is : List Instr) (i : Instr) → m ≤ n → All (ListsBelow m) is → ListsBelow n i
    → All (ListsBelow n) (is ++ i ∷ [])
all_below m n is i le a b = All-push (ListsBelow n) is i (λ k d l. below_more m n (get_or is k d) le (a k d l)) b

pub at_end : {A : Type 0} (xs : List A) (x d : A) (n : ℕ) → n ≡ length xs → get_or (xs ++ x ∷ []) n d ≡ x
at_end xs x d n e = ap (λ k. get_or (xs ++ x ∷ []) k d) (omega (arith, e)) ∙ get_or-append-add xs (x ∷ []) 0 d

-- one more list and one more print leave the others as they are
module _ (lists : List (List ℕ)) (pieces : List (List Piece)) (l : List ℕ) (p : List Piece) where
  op_more : (n : ℕ) (i : Instr) → n ≡ length lists → n ≡ length pieces → ListsBelow n i
      → op_of (lists ++ l ∷ []) (pieces ++ p ∷ []) i ≡ op_of lists pieces i
  op_more n (code.Call d f k) e g b =
      ap (tac.Call (Some d) f) (get_or_append_left lists (l ∷ []) [] k (omega (arith, e, b)))
  op_more n (code.Invoke f k) e g b = ap (tac.Call None f) (get_or_append_left lists (l ∷ []) [] k (omega (arith, e, b)))
  op_more n (code.Go f k) e g b = ap (tac.Go f) (get_or_append_left lists (l ∷ []) [] k (omega (arith, e, b)))
  op_more n (code.Print q k) e g b =
      ap (λ ps. tac.Print ps (get_or (lists ++ l ∷ []) k []))
      (get_or_append_left pieces (p ∷ []) [] q (omega (arith, g, b.0)))
      ∙ ap (tac.Print (get_or pieces q [])) (get_or_append_left lists (l ∷ []) [] k (omega (arith, e, b.1)))
  op_more n _ e g b = refl

  body_more : (n : ℕ) (is : List Instr) (places : List ℕ) → n ≡ length lists → n ≡ length pieces → All (ListsBelow n) is
      → body_of (lists ++ l ∷ []) (pieces ++ p ∷ []) is places ≡ body_of lists pieces is places
  body_more n [] places e g a = refl
  body_more n (i ∷ is) places e g a =
      ap (λ o. record { op = o; place = get_or places 0 0 } ∷ body_of (lists ++ l ∷ []) (pieces ++ p ∷ []) is (drop 1 places))
      (op_more n i e g (All-head (ListsBelow n) i is a))
      ∙ ap (λ b. record { op = op_of lists pieces i; place = get_or places 0 0 } ∷ b)
      (body_more n is (drop 1 places) e g (All-tail (ListsBelow n) i is a))

-- ---- instructions

body_push : (lists : List (List ℕ)) (pieces : List (List Piece)) (is : List Instr) (places : List ℕ) (notes : List Note)
    (i : Instr) (place : ℕ) (note : Note) → length places ≡ length is → length notes ≡ length is
    → code_body (body_of lists pieces (is ++ i ∷ []) (places ++ place ∷ [])) (notes ++ note ∷ [])
    ≡ code_body (body_of lists pieces is places) notes
    ++ code_instr (record { op = op_of lists pieces i; place = place }) note ∷ []
body_push lists pieces [] [] [] i place note e g = refl
body_push lists pieces [] (q ∷ places) notes i place note e g = absurd (omega (arith, e))
body_push lists pieces [] [] (m ∷ notes) i place note e g = absurd (omega (arith, g))
body_push lists pieces (j ∷ is) [] notes i place note e g = absurd (omega (arith, e))
body_push lists pieces (j ∷ is) (q ∷ places) [] i place note e g = absurd (omega (arith, g))
body_push lists pieces (j ∷ is) (q ∷ places) (m ∷ notes) i place note e g =
    ap (λ b. code_instr (record { op = op_of lists pieces j; place = q }) m ∷ b)
    (body_push lists pieces is places notes i place note (omega (arith, e)) (omega (arith, g)))

pub instr_added : (lists : List (List ℕ)) (pieces : List (List Piece)) (l : List ℕ) (p : List Piece) (is : List Instr)
    (places : List ℕ) (notes : List Note) (i : Instr) (place : ℕ) (note : Note) → length lists ≡ length is
    → length pieces ≡ length is → length places ≡ length is → length notes ≡ length is
    → All (ListsBelow (length is)) is
    → code_body (body_of (lists ++ l ∷ []) (pieces ++ p ∷ []) (is ++ i ∷ []) (places ++ place ∷ [])) (notes ++ note ∷ [])
    ≡ code_body (body_of lists pieces is places) notes
    ++ code_instr (record { op = op_of (lists ++ l ∷ []) (pieces ++ p ∷ []) i; place = place }) note ∷ []
instr_added lists pieces l p is places notes i place note a b c d below =
    body_push (lists ++ l ∷ []) (pieces ++ p ∷ []) is places notes i place note c d
    ∙ ap (λ body. code_body body notes
    ++ code_instr (record { op = op_of (lists ++ l ∷ []) (pieces ++ p ∷ []) i; place = place }) note ∷ [])
    (body_more lists pieces l p (length is) is places (sym a) (sym b) below)

pub parts_same : {lists ls : List (List ℕ)} {pieces ps : List (List Piece)} {instrs is : List Instr} {places qs : List ℕ}
    {notes ns : List Note} → lists ≡ ls → pieces ≡ ps → instrs ≡ is → places ≡ qs → notes ≡ ns
    → code_body (body_of lists pieces instrs places) notes ≡ code_body (body_of ls ps is qs) ns
parts_same a b c d e = λ t. code_body (body_of (a t) (b t) (c t) (d t)) (e t)

-- a function that is complete, by the equations of its parts
pub fn_completed : {ts us : List «Type»} {cs ds : List Class} {entry en : List ℕ} {instrs is : List Instr} {places qs : List ℕ}
    {lists ls : List (List ℕ)} {pieces ps : List (List Piece)} {notes ns : List Note} (f : tac.TacFn) (name : List ℕ) (params : ℕ)
    (ty : Option «Type») (class : Class)
    → f ≡ record { name = name; params = params; result_type = ty; variables = us; body = body_of ls ps is qs } → us ≡ ts
    → ds ≡ cs → en ≡ entry → is ≡ instrs → qs ≡ places → ls ≡ lists → ps ≡ pieces → ns ≡ notes
    → code_fn f (record { classes = ds; result = class; entry = en; notes = ns })
    ≡ record {
      name = name;
      params = params;
      result = option_map (λ t. slot t class) ty;
      variables = slots ts cs;
      entry = entry;
      body = code_body (body_of lists pieces instrs places) notes;
    }
fn_completed {ds = ds} {en = en} {ns = ns} f name params ty class made u d e i q l p n =
    ap (λ (g : tac.TacFn). code_fn g (record { classes = ds; result = class; entry = en; notes = ns })) made
    ∙ λ t. record {
      name = name;
      params = params;
      result = option_map (λ t. slot t class) ty;
      variables = slots (u t) (d t);
      entry = e t;
      body = code_body (body_of (l t) (p t) (i t) (q t)) (n t);
    }

pub lines_push : (b : Building) (lines : List Line) (x : Line)
    → with_lines b (lines ++ x ∷ []) ≡ with_line (with_lines b lines) x
lines_push b [] x = refl
lines_push b (l ∷ lines) x = lines_push (with_line b l) lines x

pub built_same : (code : tac.Tac) (u : Undeclared) (regions : List Regions) (n d : Names) (b : Building)
    → code.structs ≡ b.structs → code.variables ≡ b.variables → code_fns code.functions regions ≡ b.functions
    → u.structs ≡ drop (length d.structs) n.structs → u.variables ≡ drop (length d.variables) n.variables
    → u.functions ≡ drop (length d.functions) n.functions → code_of code u regions ≡ built n d b
built_same code u regions n d b s v f a e g =
    λ t. record {
      structs = s t;
      variables = v t;
      functions = f t;
      undeclared = record { structs = a t; variables = e t; functions = g t };
    }
