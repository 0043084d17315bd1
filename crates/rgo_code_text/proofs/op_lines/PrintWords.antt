-- Prints are read back. Their removals contain no space, so the last space of the text is before them (`last_one`).
use Rattle.std.proofs.Common.{◌≡◌, ◌≢◌, ◌⊎◌, inl, inr, ℕ, ◌+◌, ◌-◌, ◌<◌, ◌==◌, false, true≢false, List, [], ◌∷◌, ◌++◌, length, take, drop, get_or, Some, None, refl, sym, ap, subst, ◌∙◌, arith, length-drop, get_or-drop, codes}
use Rattle.std.specs.List.{position_or_len, before_first, join_with_byte}
use Rattle.std.proofs.lemmas.Bool.Decides.{Decides-eqb}
use Rattle.std.proofs.lemmas.List.{take-append-drop}
use Rattle.std.proofs.lemmas.List.Elements.{All-head, All-tail, All-nil, All-from_get_or}
use Rattle.std.proofs.lemmas.List.Sums.{fails_before_first, passes_at_first}
use Rattle.rgo_typed.specs.declared.statements.Piece.{Piece}
use Rattle.rgo_code.specs.Code.{CodeOp, Do, Call, Go, Print, Jump, Branch, Return}
use Rattle.rgo_code_words.specs.Cuts.{is_space}
use Rattle.rgo_code_text.specs.Items.{only_name, OpIsNamed}
use Rattle.rgo_code_text.specs.Ops.{NamedOp, op_text, NamedOpFits, LastWord}
use Rattle.rgo_code_words.specs.Pieces.{AreListed, ArePieces}
use Rattle.rgo_code_words.specs.Readers.{read_regions, IsReadFromBytes}
use Rattle.rgo_code_printing.specs.Text.{op_words}
use Rattle.rgo_code_printing.specs.Words.{comma_separated, piece_words, in_one, removes_word}
use Rattle.rgo_code_text.specs.Written.{OpHasText}
use Rattle.rgo_code_words.specs.Worded.{AreRegions, PieceFits, IsSmallNumber}
use Rattle.rgo_code_words.proofs.Cutting.{first_of_two, first_of_joined}
use Rattle.rgo_code_words.proofs.Lacks.{Lacks, From, from_test, lacks_from}
use Rattle.rgo_code_words.proofs.ListFacts.{drop_here}
use Rattle.rgo_code_text.proofs.op_lines.OpWords.{OpWorded, op_worded, removes_from}
use Rattle.rgo_code_words.proofs.Options.{not_none, differ}
use Rattle.rgo_code_words.proofs.WordsBack.{regions_back, regions_is}

-- the space before what is left
pub space_here : (bytes rest : List ℕ) (at n : ℕ) → rest ≡ drop at bytes → n ≡ position_or_len is_space rest → n < length rest
    → bytes ≡ take (at + n + 1 - 1) bytes ++ 32 ∷ drop (at + n + 1) bytes
space_here bytes rest at n whole first less =
    let here : at + n < length bytes = omega (arith, less, ap length whole, length-drop at bytes) in
    let space : get_or bytes (at + n) 0 ≡ 32 =
    sym (ap (λ t. get_or t n 0) whole ∙ get_or-drop at bytes n 0)
    ∙ ap (λ k. get_or rest k 0) first
    ∙ (Decides-eqb (get_or rest (position_or_len is_space rest) 0) 32).0
    (passes_at_first is_space rest 0 (omega (arith, less, first))) in
    let back : at + n + 1 - 1 ≡ at + n = omega arith in
    sym (take-append-drop (at + n) bytes)
    ∙ ap (λ t. take (at + n) bytes ++ t) (drop_here bytes (at + n) 0 here ∙ ap (λ b. b ∷ drop (at + n + 1) bytes) space)
    ∙ ap (λ k. take k bytes ++ 32 ∷ drop (at + n + 1) bytes) (sym back)

-- no space is left
lacks_of : (bytes : List ℕ) → position_or_len is_space bytes ≡ length bytes → Lacks 32 bytes
lacks_of bytes e =
    All-from_get_or (λ b. is_space b ≡ false) bytes 0 (λ k l. fails_before_first is_space bytes k 0 (omega (arith, l, e)))

-- ---- the last space

pub contains_space : (a x : List ℕ) → ¬ (Lacks 32 (a ++ 32 ∷ x))
contains_space [] x l = true≢false (All-head (λ b. (b == 32) ≡ false) 32 x l)
contains_space (b ∷ a) x l = contains_space a x (All-tail (λ b. (b == 32) ≡ false) b (a ++ 32 ∷ x) l)

pub record SameParts (a b x y : List ℕ) : Type 0 where
  pub front : a ≡ b
  pub last : x ≡ y

pub last_one : (a b x y : List ℕ) → a ++ 32 ∷ x ≡ b ++ 32 ∷ y → Lacks 32 x → Lacks 32 y → SameParts a b x y
last_one [] [] x y e l m = record { front = refl; last = ap (drop 1) e }
last_one [] (c ∷ b) x y e l m = absurd (contains_space b y (subst (Lacks 32) (ap (drop 1) e) l))
last_one (c ∷ a) [] x y e l m = absurd (contains_space a x (subst (Lacks 32) (ap (drop 1) (sym e)) m))
last_one (c ∷ a) (d ∷ b) x y e l m =
    let rest = last_one a b x y (ap (drop 1) e) l m in
    let head : c ≡ d = ap (λ t. get_or t 0 0) e in
    record { front = ap (λ h. h ∷ a) head ∙ ap (λ t. d ∷ t) rest.front; last = rest.last }

-- ---- what begins with `print`

-- a print, and what follows the word
pub record PrintText (bytes : List ℕ) (o : NamedOp) : Type 0 where
  pub pieces : List Piece
  pub from : List ℕ
  pub removes : List ℕ
  pub op_is : o.op ≡ Print pieces from removes
  pub fits : OpHasText (Print pieces from removes)
  pub text : bytes ≡ join_with_byte 32 (in_one (piece_words pieces from 0) ++ removes_word removes ∷ [])

pub print_text : (pieces : List Piece) (from removes name : List ℕ)
    → op_text (record { op = Print pieces from removes; name = name })
    ≡ codes "print " ++ join_with_byte 32 (in_one (piece_words pieces from 0) ++ removes_word removes ∷ [])
print_text [] from removes name = refl
print_text (p ∷ pieces) from removes name = refl

print_lacks : Lacks 32 (codes "print")
print_lacks = lacks_from 33 32 (codes "print") (omega arith) (from_test 33 (codes "print") refl)

not_print : (op : CodeOp) (bytes name : List ℕ) → OpWorded (op_words (only_name name) op)
    → codes "print " ++ bytes ≡ join_with_byte 32 (op_words (only_name name) op) → ⊥
not_print op bytes name w e = by (op_words (only_name name) op) w e
  where
    by : (words : List (List ℕ)) → OpWorded words → codes "print " ++ bytes ≡ join_with_byte 32 words → ⊥
    by [] w e = absurd (omega (arith, w.some))
    by (word ∷ words) w e =
        let first = lacks_from 33 32 word (omega arith) (All-head (From 33) word words w.from) in
        differ word (codes "print") w.plain
        (sym (first_of_joined word words first) ∙ ap (before_first is_space) (sym e)
        ∙ first_of_two (codes "print") bytes print_lacks)

pub only_print : (bytes : List ℕ) (o : NamedOp) → NamedOpFits o → codes "print " ++ bytes ≡ op_text o → PrintText bytes o
only_print bytes o f e = by o.op refl f e
  where
    by : (op : CodeOp) → o.op ≡ op → OpHasText op × OpIsNamed op o.name
        → codes "print " ++ bytes ≡ join_with_byte 32 (op_words (only_name o.name) op) → PrintText bytes o
    by (Print pieces from removes) q f e = record {
      pieces = pieces;
      from = from;
      removes = removes;
      op_is = q;
      fits = f.0;
      text = ap (drop 6) (e ∙ print_text pieces from removes o.name);
    }
    by (Do to action from removes) q f e =
        absurd (not_print (Do to action from removes) bytes o.name (op_worded (Do to action from removes) o.name f.0 f.1 (λ p. p)) e)
    by (Call to n from passes protects removes) q f e =
        absurd (not_print (Call to n from passes protects removes) bytes o.name
        (op_worded (Call to n from passes protects removes) o.name f.0 f.1 (λ p. p)) e)
    by (Go n from passes removes) q f e =
        absurd (not_print (Go n from passes removes) bytes o.name (op_worded (Go n from passes removes) o.name f.0 f.1 (λ p. p)) e)
    by (Jump target removes) q f e =
        absurd (not_print (Jump target removes) bytes o.name (op_worded (Jump target removes) o.name f.0 f.1 (λ p. p)) e)
    by (Branch test target removes other otherwise) q f e =
        absurd (not_print (Branch test target removes other otherwise) bytes o.name
        (op_worded (Branch test target removes other otherwise) o.name f.0 f.1 (λ p. p)) e)
    by (Return value) q f e = absurd (not_print (Return value) bytes o.name (op_worded (Return value) o.name f.0 f.1 (λ p. p)) e)

-- where the last word of a print is
record Placed (bytes : List ℕ) (at : ℕ) (pieces : List Piece) (from removes : List ℕ) : Type 0 where
  pub last : drop at bytes ≡ removes_word removes
  pub rest : ((pieces ≡ []) × (at ≡ 0))
      ⊎ ((0 < at) × (pieces ≢ []) × (take (at - 1) bytes ≡ comma_separated (piece_words pieces from 0)))

placed : (bytes : List ℕ) (at : ℕ) (pieces : List Piece) (from removes : List ℕ) → LastWord bytes at → AreRegions removes
    → bytes ≡ join_with_byte 32 (in_one (piece_words pieces from 0) ++ removes_word removes ∷ [])
    → Placed bytes at pieces from removes
placed bytes at pieces from removes w r e = by pieces w.before e
  where
    lacks : Lacks 32 (removes_word removes)
    lacks = lacks_from 33 32 (removes_word removes) (omega arith) (removes_from removes r)

    by : (pieces : List Piece) → (at ≡ 0) ⊎ ((0 < at) × (bytes ≡ take (at - 1) bytes ++ 32 ∷ drop at bytes))
        → bytes ≡ join_with_byte 32 (in_one (piece_words pieces from 0) ++ removes_word removes ∷ [])
        → Placed bytes at pieces from removes
    by [] (inl z) e = record { last = ap (λ k. drop k bytes) z ∙ e; rest = inl (refl, z) }
    by [] (inr s) e = absurd (contains_space (take (at - 1) bytes) (drop at bytes) (subst (Lacks 32) (sym e ∙ s.1) lacks))
    by (p ∷ pieces) (inl z) e =
        absurd (contains_space (comma_separated (piece_words (p ∷ pieces) from 0)) (removes_word removes)
        (subst (Lacks 32) (ap (λ k. drop k bytes) z ∙ e) (lacks_of (drop at bytes) w.last)))
    by (p ∷ pieces) (inr s) e =
        let same =
        last_one (take (at - 1) bytes) (comma_separated (piece_words (p ∷ pieces) from 0)) (drop at bytes) (removes_word removes)
        (sym s.1 ∙ e) (lacks_of (drop at bytes) w.last) lacks in
        record { last = same.last; rest = inr (s.0, some, same.front) }
      where
        some : p ∷ pieces ≢ []
        some q = cc

-- ---- what is read

module _ (bytes : List ℕ) (at : ℕ) (w : LastWord bytes at) where
  -- no removals
  pub print_none : read_regions 45 (drop at bytes) ≡ None → IsReadFromBytes NamedOpFits op_text (codes "print " ++ bytes) None
  print_none e o f q =
      let t = only_print bytes o f q in
      let p = placed bytes at t.pieces t.from t.removes w t.fits.3 t.text in
      not_none t.removes (sym e ∙ ap (read_regions 45) p.last ∙ regions_back 45 t.removes t.fits.3)

  module _ (removes : List ℕ) (e : read_regions 45 (drop at bytes) ≡ Some removes) where
    pub print_plain : at ≡ 0 → IsReadFromBytes NamedOpFits op_text (codes "print " ++ bytes)
        (Some (record { op = Print [] [] removes; name = [] }))
    print_plain z =
        let r = regions_is 45 (drop at bytes) removes e in (
          ap (λ t. codes "print " ++ t) (sym (ap (λ k. drop k bytes) z) ∙ r.0),
          ((All-nil PieceFits, refl, All-nil IsSmallNumber, r.1), refl),
        )

    pub print_pieces : (pieces : List Piece) (from : List ℕ) → 0 < at → AreListed (take (at - 1) bytes) pieces from
        → IsReadFromBytes NamedOpFits op_text (codes "print " ++ bytes) (Some (record { op = Print pieces from removes; name = [] }))
    print_pieces [] from l a = absurd (a.some refl)
    print_pieces (p ∷ pieces) from l a =
        let r = regions_is 45 (drop at bytes) removes e in (
          ap (λ t. codes "print " ++ t) (parts w.before ∙ ap (λ t. t ++ 32 ∷ drop at bytes) a.text
              ∙ ap (λ t. comma_separated (piece_words (p ∷ pieces) from 0) ++ 32 ∷ t) r.0),
          ((a.fit, a.values, a.small, r.1), refl),
        )
      where
        parts : (at ≡ 0) ⊎ ((0 < at) × (bytes ≡ take (at - 1) bytes ++ 32 ∷ drop at bytes))
            → bytes ≡ take (at - 1) bytes ++ 32 ∷ drop at bytes
        parts (inl z) = absurd (omega (arith, z, l))
        parts (inr s) = s.1

    pub print_wrong : 0 < at → ArePieces (take (at - 1) bytes) None → IsReadFromBytes NamedOpFits op_text (codes "print " ++ bytes) None
    print_wrong l none o f q =
        let t = only_print bytes o f q in
        let p = placed bytes at t.pieces t.from t.removes w t.fits.3 t.text in
        by t.pieces t.from t.removes t.fits p.rest
      where
        by : (pieces : List Piece) (from removes : List ℕ) → OpHasText (Print pieces from removes)
            → ((pieces ≡ []) × (at ≡ 0))
            ⊎ ((0 < at) × (pieces ≢ []) × (take (at - 1) bytes ≡ comma_separated (piece_words pieces from 0))) → ⊥
        by pieces from removes f (inl r) = absurd (omega (arith, l, r.1))
        by pieces from removes f (inr r) =
            none pieces from (record { text = r.2; some = r.1; fit = f.0; values = f.1; small = f.2 })
